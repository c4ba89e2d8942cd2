-- A problem: a fusion ring and gauge entries, each of which gives an unknown F or R a value.
use Rattle.std.specs.Prelude.{◌≡◌, ◌≤◌, Bool, true, false, unsigned_abs, List}
use Rattle.std.specs.List.{All}
use Rattle.sparse_poly.specs.Contributions.{max_coeff}
use Rattle.fusion_ring.specs.Fusion.{Fusion}
use Rattle.symbol_index.specs.Symbols.{is_unknown}
use Rattle.symbol_index.specs.declared.Symbol.{Symbol}
use Rattle.symbol_index.specs.declared.Symbol.TheVariants.{Fsym, Ginv, Rsym, Sinv}
use Rattle.symbol_index.specs.declared.GaugeEntry.{GaugeEntry}

-- a ring, and which of its symbols are given which values
pub record Stated : Type 0 where
  pub ring : Fusion
  pub gauge : List GaugeEntry

-- the symbol is an unknown F or R of the ring
abbrev pub is_gauge_symbol : Fusion → Symbol → Bool
is_gauge_symbol r (Fsym a b c d e f) = is_unknown r (Fsym a b c d e f)
is_gauge_symbol r (Ginv a b c d f e) = false
is_gauge_symbol r (Rsym a b c) = is_unknown r (Rsym a b c)
is_gauge_symbol r (Sinv a b c) = false

pub record IsGaugeEntry (r : Fusion) (e : GaugeEntry) : Type 0 where
  pub symbol : is_gauge_symbol r e.symbol ≡ true
  pub value : unsigned_abs e.value ≤ max_coeff

abbrev pub IsGauge : Fusion → List GaugeEntry → Type 0
IsGauge r entries = All (IsGaugeEntry r) entries
