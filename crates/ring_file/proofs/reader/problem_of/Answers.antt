use Rattle.ring_file.specs.Named.{file_of, AreValued, IsSymbolFault, valued_entry}
use Rattle.std.specs.Prelude.{map}
use Rattle.ring_file.proofs.Faults.{all_have_numbers, symbol_fault}
use Rattle.ring_file.proofs.reader.problem_of.Goals as goal

pub returns-in-Err-gauge : goal.returns-in-Err-gauge
returns-in-Err-gauge c =
    let file = file_of c.args.outline.now in
    let r = c.in-Ok.ring in
    let es = c.in-Ok-valued.entries.items in
    let v : AreValued file.gauge es = rw c.deref-2.ensures.value at c.in-Ok-valued.ensures in
    let f : IsSymbolFault r (map valued_entry es) c.in-Err-gauge.fault = rw c.deref-3.ensures.value at c.in-Err-gauge.ensures in
    symbol_fault file r c.in-Err-gauge.fault (rw c.deref.ensures.value at c.in-Ok.ensures) (all_have_numbers file.gauge es v)
    (let k : IsSymbolFault r file.gauge c.in-Err-gauge.fault = rw v.same f in k)
