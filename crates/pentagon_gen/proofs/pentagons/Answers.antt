use Rattle.std.specs.Prelude.{IsTrue}
use Rattle.std.proofs.Common.{rules}
use Rattle.std.proofs.lemmas.Result.{IfOk-weaker}
use Rattle.symbol_equations.proofs.Listed.{differences_found}
use Rattle.pentagon_gen.specs.Pentagon.{is_pentagon, left_side, right_side}
use Rattle.pentagon_gen.proofs.pentagons.Goals as goal

pub returns : goal.returns
returns c =
    let r = c.args.ring.now in
    IfOk-weaker c.differences.result _ _
    (λ v found. differences_found r c.args.symbols.now _ (λ at. IsTrue (is_pentagon r at)) left_side (right_side r) c.in_ok-all.all.items c.deref.result.now v.items c.requires c.in_ok-all.ensures c.deref.ensures.value (λ at o h. search rules) found)
    c.differences.ensures
