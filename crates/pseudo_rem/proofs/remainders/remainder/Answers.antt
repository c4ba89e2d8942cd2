use Rattle.std.proofs.Common.{◌≡◌, ◌∙◌, ap}
use Rattle.pseudo_rem.specs.Remainders.{rest_of}
use Rattle.pseudo_rem.proofs.Scans.{nearer, one_more}
use Rattle.pseudo_rem.proofs.remainders.remainder.Goals as goal

pub steps-smaller : goal.steps-smaller
steps-smaller c =
    let is : c.rest_after-rest.result.now ≡ rest_of c.args.n.now c.steps.steps.items = c.rest_after-rest.ensures ∙ ap (rest_of c.args.n.now) c.deref.ensures.value in
    nearer c.args.units.now c.args.list.now c.args.n.now c.steps.steps.items c.push.new.self.items _ c.rest_after-rest.result.now c.in-Some.due.member.now c.in-Some.due.var c.terms-terms.ensures.poly c.terms-terms_of_member.ensures.poly is c.in_ok-push.ensures.items c.in-Some.ensures c.in_ok-reduction.ensures

pub steps-preserved : goal.steps-preserved
steps-preserved c =
    let is : c.rest_after-rest.result.now ≡ rest_of c.args.n.now c.steps.steps.items = c.rest_after-rest.ensures ∙ ap (rest_of c.args.n.now) c.deref.ensures.value in
    one_more c.args.units.now c.args.list.now c.args.n.now c.steps.steps.items c.push.new.self.items _ c.rest_after-rest.result.now c.in-Some.due.member.now c.in-Some.due.var c.terms-terms.ensures.poly c.terms-terms_of_member.ensures.poly is c.in_ok-push.ensures.items c.in-Some.ensures c.in_ok-reduction.ensures c.steps.invariant
