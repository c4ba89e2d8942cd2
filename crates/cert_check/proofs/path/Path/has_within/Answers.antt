use Rattle.std.proofs.Common.{◌↔◌, ◌∙◌, IsTrue, List, subst}
use Rattle.derive_lines.specs.declared.parts.Decision.{Decision}
use Rattle.refute_store.specs.Live.{IsWithin}
use Rattle.cert_check.proofs.path.Path.has_within.Goals as goal

pub returns : goal.returns
returns c = subst (λ (l : List Decision). IsTrue c.are_among.result ↔ IsWithin c.args.pattern.now l) (c.deref.ensures.value ∙ c.self.view_is) c.are_among.ensures
