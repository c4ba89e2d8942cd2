use Rattle.std.specs.Prelude.{MatchResult}
use Rattle.std.proofs.Common.{sym, subst}
use Rattle.cert_lines.specs.LineReading.{IsSaid, IsLineFault}
use Rattle.cert_lines.proofs.lines.read_sentence.Goals as goal

pub returns-in-Derived : goal.returns-in-Derived
returns-in-Derived c =
    let u = c.args.unknowns in
    let line = c.args.line.now in
    subst (λ k. MatchResult c.derived.result (IsSaid u line) (IsLineFault u k line)) (sym c.in-Derived.is) c.derived.ensures
