use Rattle.std.proofs.Common.{rules, ◌≡◌, ◌∙◌, false, sym, subst, List}
use Rattle.std.proofs.lemmas.Bool.{true≢false}
use Rattle.std.specs.Prelude.{ℕ}
use Rattle.std.specs.List.{Contains}
use Rattle.sparse_poly.specs.declared.Term.{Term}
use Rattle.sparse_poly.specs.Polynomials.{variable}
use Rattle.sparse_poly.specs.Clearing.{IsDividedBy}
use Rattle.case_system.proofs.Outlining.{no_bit}
use Rattle.case_system.proofs.clearing.may_strip_later.Goals as goal

pub returns-then-not-may_be_divided : goal.returns-then-not-may_be_divided
returns-then-not-may_be_divided c =
    let missing : c.may_be_divided.result ≡ false = search rules in
    λ _ v _ d. true≢false (sym (c.may_be_divided.ensures.1 (λ z. no_bit _ v z (c.requires.outline.each v d))) ∙ missing)

pub returns : goal.returns
returns c = λ e. subst (λ (ns : List (List Term)). (v : ℕ) → Contains ns (variable v) → IsDividedBy v c.args.poly.now → ⊥) c.conditions_from.ensures (c.may_strip.ensures e)
