use Rattle.std.specs.Prelude.{IsTrue}
use Rattle.std.proofs.Common.{rules}
use Rattle.std.proofs.lemmas.Result.{IfOk-weaker}
use Rattle.symbol_equations.proofs.Listed.{differences_found}
use Rattle.gauge_fix.specs.Inverses.{are_on, entry_side, identity_side}
use Rattle.gauge_fix.proofs.inverse.entry_inverses.Goals as goal

pub returns : goal.returns
returns c =
    let r = c.args.ring.now in
    IfOk-weaker c.differences.result _ _
    (λ v found. differences_found r c.args.symbols.now _ (λ at. IsTrue (are_on c.args.side r at)) (entry_side c.args.side r) identity_side c.in_ok-all.all.items c.deref.result.now v.items c.requires c.in_ok-all.ensures c.deref.ensures.value (λ at o h. search rules) found)
    c.differences.ensures
