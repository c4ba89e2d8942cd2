-- The order of symbols: F, G, R, S, and each by its labels.
use Rattle.std.specs.Prelude.{ℕ}
use Rattle.std.specs.declared.cmp.Ordering.{Ordering}
use Rattle.std.specs.declared.cmp.Ordering.TheVariants.{Less, Greater}
use Rattle.std.specs.Ordering.{nat_cmp, ordering_then}
use Rattle.symbol_index.specs.declared.Symbol.{Symbol}
use Rattle.symbol_index.specs.declared.Symbol.TheVariants.{Fsym, Ginv, Rsym, Sinv}

-- the lexicographic order
abbrev pub cmp3 : ℕ × ℕ × ℕ → ℕ × ℕ × ℕ → Ordering
cmp3 t u = ordering_then (nat_cmp t.0 u.0) (ordering_then (nat_cmp t.1 u.1) (nat_cmp t.2 u.2))

abbrev pub cmp6 : ℕ × ℕ × ℕ × ℕ × ℕ × ℕ → ℕ × ℕ × ℕ × ℕ × ℕ × ℕ → Ordering
cmp6 t u = ordering_then (nat_cmp t.0 u.0) (ordering_then (nat_cmp t.1 u.1) (ordering_then (nat_cmp t.2 u.2) (ordering_then (nat_cmp t.3 u.3) (ordering_then (nat_cmp t.4 u.4) (nat_cmp t.5 u.5)))))

-- the kinds in order, and within a kind the labels
abbrev pub symbol_cmp : Symbol → Symbol → Ordering
symbol_cmp (Fsym a b c d e f) (Fsym a' b' c' d' e' f') = cmp6 (a, b, c, d, e, f) (a', b', c', d', e', f')
symbol_cmp (Fsym a b c d e f) (Ginv a' b' c' d' f' e') = Less
symbol_cmp (Fsym a b c d e f) (Rsym a' b' c') = Less
symbol_cmp (Fsym a b c d e f) (Sinv a' b' c') = Less
symbol_cmp (Ginv a b c d f e) (Fsym a' b' c' d' e' f') = Greater
symbol_cmp (Ginv a b c d f e) (Ginv a' b' c' d' f' e') = cmp6 (a, b, c, d, f, e) (a', b', c', d', f', e')
symbol_cmp (Ginv a b c d f e) (Rsym a' b' c') = Less
symbol_cmp (Ginv a b c d f e) (Sinv a' b' c') = Less
symbol_cmp (Rsym a b c) (Fsym a' b' c' d' e' f') = Greater
symbol_cmp (Rsym a b c) (Ginv a' b' c' d' f' e') = Greater
symbol_cmp (Rsym a b c) (Rsym a' b' c') = cmp3 (a, b, c) (a', b', c')
symbol_cmp (Rsym a b c) (Sinv a' b' c') = Less
symbol_cmp (Sinv a b c) (Fsym a' b' c' d' e' f') = Greater
symbol_cmp (Sinv a b c) (Ginv a' b' c' d' f' e') = Greater
symbol_cmp (Sinv a b c) (Rsym a' b' c') = Greater
symbol_cmp (Sinv a b c) (Sinv a' b' c') = cmp3 (a, b, c) (a', b', c')
