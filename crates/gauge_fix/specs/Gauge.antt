-- The gauge: each named symbol equals the image of its whole number.
use Rattle.std.specs.Prelude.{◌≡◌, ◌≤◌, true, unsigned_abs, List, ◌++◌, All, Contains}
use Rattle.field_laws.specs.Field.{Field, whole}
use Rattle.sparse_poly.specs.declared.Term.{Term}
use Rattle.sparse_poly.specs.Polynomials.{negated, constant, IsSum}
use Rattle.sparse_poly.specs.Contributions.{max_coeff, IsPoly}
use Rattle.fusion_ring.specs.Fusion.{Fusion}
use Rattle.symbol_index.specs.declared.Symbol.{Symbol}
use Rattle.symbol_index.specs.declared.GaugeEntry.{GaugeEntry}
use Rattle.symbol_index.specs.Symbols.{is_unknown}
use Rattle.symbol_equations.specs.Differences.{symbol_terms}

-- the entry names an unknown, and its value is in the range of a coefficient
pub record IsFixable (r : Fusion) (e : GaugeEntry) : Type 0 where
  pub unknown : is_unknown r e.symbol ≡ true
  pub in_range : unsigned_abs e.value ≤ max_coeff

-- each named symbol has its value
abbrev pub Gauge : {E : Type 0} → Field E → (Symbol → E) → List GaugeEntry → Type 0
Gauge f value gauge = All (λ e. value e.symbol ≡ whole f e.value) gauge

-- p is the symbol minus the value, as a polynomial
abbrev pub IsGaugeDifference : Fusion → GaugeEntry → List Term → Type 0
IsGaugeDifference r e p = IsPoly p × IsSum p (symbol_terms r e.symbol ++ negated (constant e.value))

-- the polynomials are the differences of the entries, in any order and any number of times: each is one, and each entry has one
pub record AreGaugeDifferences (r : Fusion) (gauge : List GaugeEntry) (ps : List (List Term)) : Type 0 where
  pub each : (p : List Term) → Contains ps p → (e : GaugeEntry) × Contains gauge e × IsGaugeDifference r e p
  pub all : (e : GaugeEntry) → Contains gauge e → (p : List Term) × Contains ps p × IsGaugeDifference r e p
