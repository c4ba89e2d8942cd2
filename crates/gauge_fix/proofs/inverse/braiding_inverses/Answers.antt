use Rattle.std.specs.Prelude.{IsTrue}
use Rattle.std.proofs.Common.{rules}
use Rattle.std.proofs.lemmas.Result.{IfOk-weaker}
use Rattle.symbol_equations.proofs.Listed.{differences_found}
use Rattle.gauge_fix.specs.Inverses.{is_channel, braiding_side, one_side}
use Rattle.gauge_fix.proofs.inverse.braiding_inverses.Goals as goal

pub returns : goal.returns
returns c =
    let r = c.args.ring.now in
    IfOk-weaker c.differences.result _ _
    (λ v found. differences_found r c.args.symbols.now _ (λ t. IsTrue (is_channel r t)) braiding_side one_side c.in_ok-all.all.items c.deref.result.now v.items c.requires c.in_ok-all.ensures c.deref.ensures.value (λ at o h. search rules) found)
    c.differences.ensures
