-- Lists of the symbols of tuples.
use Rattle.std.specs.Prelude.{◌≡◌, ℕ, Bool, ◌&&◌, not, ◌==◌, List, ◌++◌, map}
use Rattle.symbol_index.specs.declared.Symbol.{Symbol}

-- none of the labels is the unit
abbrev pub is_nontrivial : ℕ × ℕ × ℕ → Bool
is_nontrivial t = (not (t.0 == 0) && not (t.1 == 0)) && not (t.2 == 0)

-- the new list is the old one and the symbol of each tuple, as the answers compute it
abbrev pub IsAppended : {T : Type 0} → (T → Symbol → Type 0) → List Symbol → List T → List Symbol → Type 0
IsAppended {T} answers old ts new = (make : T → Symbol) → ((t : T) (s : Symbol) → answers t s → s ≡ make t) → new ≡ old ++ map make ts
