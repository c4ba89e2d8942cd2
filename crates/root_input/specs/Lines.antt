-- The lines that tell what is wrong with a problem.
use Rattle.std.specs.Prelude.{ℕ, List, ◌++◌, codes, decimal}
use Rattle.fusion_ring.specs.declared.RingFault.{RingFault}
use Rattle.fusion_ring.specs.declared.RingFault.TheVariants.{LabelCount, LabelRange, Multiplicity, UnitFault, DualFault, NotCommutative, NotAssociative}
use Rattle.ring_file.specs.declared.Place.{Place}
use Rattle.ring_file.specs.declared.Place.TheVariants.{Top, Labels, Products, Product, Gauge, GaugeEntry, Name, Member}
use Rattle.ring_file.specs.declared.ProblemFault.{ProblemFault}
use Rattle.ring_file.specs.declared.ProblemFault.TheVariants.{NotJson, Shape, Ring, GaugeNumber, GaugeSymbol}

-- two numbers, with a space between
abbrev pub two : ℕ → ℕ → List ℕ
two a b = decimal a ++ (codes " " ++ decimal b)

-- three numbers
abbrev pub three : ℕ → ℕ → ℕ → List ℕ
three a b c = decimal a ++ (codes " " ++ two b c)

-- what is wrong with a ring, and where
abbrev pub ring_text : RingFault → List ℕ
ring_text (LabelCount n) = codes "problem ring label count " ++ decimal n
ring_text (LabelRange i) = codes "problem ring label range " ++ decimal i
ring_text (Multiplicity a b c) = codes "problem ring multiplicity " ++ three a b c
ring_text (UnitFault a b c) = codes "problem ring unit " ++ three a b c
ring_text (DualFault a) = codes "problem ring dual " ++ decimal a
ring_text (NotCommutative a b c) = codes "problem ring not commutative " ++ three a b c
ring_text (NotAssociative a b c d) = codes "problem ring not associative " ++ (decimal a ++ (codes " " ++ three b c d))
ring_text _ = codes "out of memory"

-- the place of a file that has not its form
abbrev pub place_text : Place → List ℕ
place_text Top = codes "problem shape top"
place_text Labels = codes "problem shape labels"
place_text Products = codes "problem shape products"
place_text (Product i) = codes "problem shape product " ++ decimal i
place_text Gauge = codes "problem shape gauge"
place_text (GaugeEntry i) = codes "problem shape gauge entry " ++ decimal i
place_text Name = codes "problem shape name"
place_text Member = codes "problem shape member"

-- what is wrong with a problem
abbrev pub problem_text : ProblemFault → List ℕ
problem_text NotJson = codes "problem not json"
problem_text (Shape place) = place_text place
problem_text (Ring fault) = ring_text fault
problem_text (GaugeNumber i) = codes "problem gauge number " ++ decimal i
problem_text (GaugeSymbol i) = codes "problem gauge symbol " ++ decimal i
problem_text _ = codes "out of memory"
