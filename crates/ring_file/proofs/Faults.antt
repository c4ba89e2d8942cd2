-- A file whose entries have numbers, and one of which names no unknown.
use Rattle.std.specs.Prelude.{◌≤◌, ℕ, unsigned_abs, List, refl}
use Rattle.std.specs.List.{All}
use Rattle.std.proofs.lemmas.List.Elements.{All-map, All-weaker}
use Rattle.fusion_ring.specs.Fusion.{Fusion}
use Rattle.fusion_ring.specs.Faults.{IsRingOf}
use Rattle.symbol_index.specs.declared.Symbol.{Symbol}
use Rattle.sparse_poly.specs.Contributions.{max_coeff}
use Rattle.ring_file.specs.Files.{File}
use Rattle.ring_file.specs.Reading.{HasNumber, IsFileFault}
use Rattle.ring_file.specs.Named.{valued_entry, AreValued, IsSymbolFault}
use Rattle.ring_file.specs.declared.gauge.ValuedEntry.{ValuedEntry}
use Rattle.ring_file.specs.declared.problem.ProblemFault.{ProblemFault}
use Rattle.ring_file.specs.declared.problem.ProblemFault.TheVariants.{NotJson, Shape, Ring, GaugeNumber, GaugeSymbol, OutOfMemory}

pub all_have_numbers : (es : List (Symbol × List ℕ)) (vs : List ValuedEntry) → AreValued es vs → All HasNumber es
all_have_numbers es vs h =
    rw h.same (All-map HasNumber valued_entry vs (All-weaker (λ e. unsigned_abs e.value ≤ max_coeff) (λ e. HasNumber (valued_entry e)) (λ e k. (e.value, record { spelled = refl; in_range = k })) vs h.in_range))

pub symbol_fault : (file : File) (r : Fusion) (fault : ProblemFault) → IsRingOf file.labels file.products r → All HasNumber file.gauge → IsSymbolFault r file.gauge fault → IsFileFault file fault
symbol_fault file r NotJson h k f = f
symbol_fault file r (Shape place) h k f = f
symbol_fault file r (Ring fault) h k f = absurd f
symbol_fault file r (GaugeNumber entry) h k f = absurd f
symbol_fault file r (GaugeSymbol entry) h k f = (r, h, k, f)
symbol_fault file r OutOfMemory h k f = tt
