-- The solutions of a problem: the assignments at which the pentagon, both hexagons, the inverses and the gauge hold.
use Rattle.std.specs.Prelude.{List}
use Rattle.field_laws.specs.Field.{Field}
use Rattle.symbol_equations.specs.Values.{symbol_value}
use Rattle.pentagon_gen.specs.Pentagon.{Pentagon}
use Rattle.hexagon_gen.specs.Hexagons.{Hexagons}
use Rattle.gauge_fix.specs.Inverses.{Inverses}
use Rattle.gauge_fix.specs.Gauge.{Gauge}
use Rattle.ring_file.specs.Problems.{Stated}

-- x has the value of each unknown, in the order of their numbers
pub record Solution {E : Type 0} (f : Field E) (p : Stated) (x : List E) : Type 0 where
  pub pentagon : Pentagon f p.ring (symbol_value f p.ring x)
  pub hexagons : Hexagons f p.ring (symbol_value f p.ring x)
  pub inverses : Inverses f p.ring (symbol_value f p.ring x)
  pub gauge : Gauge f (symbol_value f p.ring x) p.gauge
