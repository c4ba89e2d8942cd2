use Rattle.std.proofs.Common.{take, drop, rules}
use Rattle.std.proofs.lemmas.List.{take_rest}
use Rattle.std.specs.Io.KnownBytes.{Appends}
use Rattle.braid_io.proofs.Moved.{Appends-trans, take_both}
use Rattle.braid_io.proofs.whole.write_all_of.Goals as goal

pub writing-preserved : goal.writing-preserved
writing-preserved g c =
    let n = c.in_ok-done.field-0 in
    let step = c.in_ok-done.ensures.bytes in
    let new : Appends (g.K.Sink.written c.writing.sink) (g.K.Sink.written c.write.new.self) (take n (drop c.writing.done c.args.bytes.now)) = rw take_rest at step in
    record {
      within = search rules;
      gone = rw (← take_both c.writing.done n c.args.bytes.now) (Appends-trans _ _ _ _ _ c.writing.invariant.gone new);
      later = search rules;
    }
