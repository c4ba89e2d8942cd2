use Rattle.std.proofs.Common.{◌∙◌, sym}
use Rattle.std.proofs.lemmas.Bool.{true≢false}
use Rattle.sparse_poly.proofs.Strips.{IsOneOrMember-test}
use Rattle.sparse_poly.proofs.is_one_or_member.Goals as goal

pub returns : goal.returns
returns c = IsOneOrMember-test c.args.units.now c.args.rest.now _ c.contains.ensures (λ e. true≢false (sym (c.is_one.ensures.1 e) ∙ c.if-is_one.false))
