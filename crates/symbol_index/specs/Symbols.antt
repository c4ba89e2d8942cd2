-- The symbols of a fusion ring: which are admissible, which of those are 1, and the numbers of the unknown ones.
use Rattle.std.specs.Prelude.{◌≡◌, ℕ, ◌<◌, Bool, false, ◌&&◌, ◌||◌, not, ◌==◌, if◌then◌else◌, List, ◌++◌, map, filter, length, position}
use Rattle.std.specs.Option.{unwrap_or}
use Rattle.label_tuples.specs.Extended.{all_triples, all_sixes}
use Rattle.fusion_ring.specs.Fusion.{Fusion, channel}
use Rattle.symbol_index.specs.declared.Symbol.{Symbol}
use Rattle.symbol_index.specs.declared.Symbol.TheVariants.{Fsym, Ginv, Rsym, Sinv}
use Rattle.symbol_index.specs.declared.Standing.{Standing}
use Rattle.symbol_index.specs.declared.Standing.TheVariants.{Unit as unit_symbol, Unknown, NotAdmissible}
use Rattle.symbol_index.specs.declared.SymbolFault.{SymbolFault}
use Rattle.symbol_index.specs.declared.SymbolFault.TheVariants.{TooManyUnknowns, OutOfMemory}

-- F(a,b,c,d;e,f) and its inverse G(a,b,c,d;f,e) where N(a,b,e) = N(e,c,d) = N(b,c,f) = N(a,f,d) = 1, R(a,b,c) and its inverse S(a,b,c) where N(a,b,c) = 1
abbrev pub is_admissible : Fusion → Symbol → Bool
is_admissible r (Fsym a b c d e f) = channel r a b e && channel r e c d && channel r b c f && channel r a f d
is_admissible r (Ginv a b c d f e) = channel r a b e && channel r e c d && channel r b c f && channel r a f d
is_admissible r (Rsym a b c) = channel r a b c
is_admissible r (Sinv a b c) = channel r a b c

-- one of the labels that are multiplied is the unit: an admissible symbol is then 1
abbrev pub has_unit : Symbol → Bool
has_unit (Fsym a b c d e f) = a == 0 || b == 0 || c == 0
has_unit (Ginv a b c d f e) = a == 0 || b == 0 || c == 0
has_unit (Rsym a b c) = a == 0 || b == 0
has_unit (Sinv a b c) = a == 0 || b == 0

-- admissible and no unit symbol
abbrev pub is_unknown : Fusion → Symbol → Bool
is_unknown r s = not (has_unit s) && is_admissible r s

-- the symbols of tuples of labels
abbrev pub fsym : ℕ × ℕ × ℕ × ℕ × ℕ × ℕ → Symbol
fsym t = Fsym t.0 t.1 t.2 t.3 t.4 t.5

abbrev pub ginv : ℕ × ℕ × ℕ × ℕ × ℕ × ℕ → Symbol
ginv t = Ginv t.0 t.1 t.2 t.3 t.4 t.5

abbrev pub rsym : ℕ × ℕ × ℕ → Symbol
rsym t = Rsym t.0 t.1 t.2

abbrev pub sinv : ℕ × ℕ × ℕ → Symbol
sinv t = Sinv t.0 t.1 t.2

-- all symbols of n labels: F by (a,b,c,d,e,f), G by (a,b,c,d,f,e), R and S by (a,b,c), each in lexicographic order
abbrev pub all_symbols : ℕ → List Symbol
all_symbols n = map fsym (all_sixes n) ++ map ginv (all_sixes n) ++ map rsym (all_triples n) ++ map sinv (all_triples n)

-- the unknowns, in the order of their numbers
abbrev pub unknowns : Fusion → List Symbol
unknowns r = filter (is_unknown r) (all_symbols r.labels)

-- one kind and the same labels
abbrev pub is_same : Symbol → Symbol → Bool
is_same (Fsym a b c d e f) (Fsym a' b' c' d' e' f') = a == a' && b == b' && c == c' && d == d' && e == e' && f == f'
is_same (Ginv a b c d f e) (Ginv a' b' c' d' f' e') = a == a' && b == b' && c == c' && d == d' && f == f' && e == e'
is_same (Rsym a b c) (Rsym a' b' c') = a == a' && b == b' && c == c'
is_same (Sinv a b c) (Sinv a' b' c') = a == a' && b == b' && c == c'
is_same _ _ = false

-- the number of a symbol: its place among the unknowns
abbrev pub number : Fusion → Symbol → ℕ
number r s = unwrap_or (position (λ u. is_same u s) (unknowns r)) 0

-- not admissible and so 0, a unit symbol and so 1, or the unknown of a number
abbrev pub standing : Fusion → Symbol → Standing
standing r s = if is_admissible r s then (if has_unit s then unit_symbol else Unknown (number r s)) else NotAdmissible

-- the greatest number of unknowns
abbrev pub max_unknowns : ℕ
max_unknowns = 4096

-- the unknowns are too many, and their number
abbrev pub IsSymbolFault : Fusion → SymbolFault → Type 0
IsSymbolFault r (TooManyUnknowns count) = (count ≡ length (unknowns r)) × (max_unknowns < count)
IsSymbolFault r OutOfMemory = Unit {0}
