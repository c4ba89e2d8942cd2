use Rattle.std.proofs.Common.{rules, arith, sym, ap, ◌∙◌, ◌≡◌, ◌<◌, ◌^◌}
use Rattle.std.proofs.lemmas.Bool.Decides.{nat_tests}
use Rattle.monomial.specs.Layouts.{lanes}
use Rattle.monomial.proofs.Lanes.{same_word}
use Rattle.monomial.proofs.layout.Layout.is_same.Goals as goal

pub returns : goal.returns
returns c =
    let first : c.self.inside.variables < 2 ^ 128 = search rules in
    let second : c.other.inside.variables < 2 ^ 128 = search rules in (
      λ t.
          let same : c.self.inside.variables ≡ c.other.inside.variables = grind (arith, nat_tests) in
          sym c.self.view_is ∙ ap (lanes 8) same ∙ c.other.view_is,
      λ e.
          let same : c.self.inside.variables ≡ c.other.inside.variables = same_word 8 c.self.inside.variables c.other.inside.variables first second (c.self.view_is ∙ e ∙ sym c.other.view_is) in
          grind (arith, nat_tests),
    )
