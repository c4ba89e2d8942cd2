use Rattle.std.proofs.Common.{rules, sym, ◌≡◌, ◌≢◌, pos, length}
use Rattle.std.proofs.lemmas.Bool.{true≢false}
use Rattle.std.specs.declared.option.Option.TheVariants.{Some}
use Rattle.std.specs.Prelude.{slice_get}
use Rattle.sparse_poly.proofs.InForm.{in_form, no_variable, opposite_test}
use Rattle.sparse_poly.proofs.clearing.is_in_form.Goals as goal

pub returns-then-len-eq0 : goal.returns-then-len-eq0
returns-then-len-eq0 c =
    let leading : Some c.in-Some.leading.now ≡ slice_get c.args.n.now 0 = search rules in
    let none : length c.in-Some.leading.now.monomial ≡ 0 = search rules in
    (λ t. absurd (true≢false (sym t)), λ i. absurd (no_variable c.args.n.now c.in-Some.leading.now leading c.terms-terms.ensures.poly none i))

pub returns : goal.returns
returns c =
    let leading : Some c.in-Some.leading.now ≡ slice_get c.args.n.now 0 = search rules in
    let some : length c.in-Some.leading.now.monomial ≢ 0 = search rules in
    let one : c.content_of.result ≡ pos 1 = search rules in
    opposite_test c.args.n.now c.has_divisor.result
    (λ e. in_form c.args.n.now c.in-Some.leading.now c.content_of.result leading c.terms-terms.ensures.poly some (rw c.terms-terms.ensures.value at c.content_of.ensures) one (rw c.terms-terms.ensures.value at c.has_divisor.ensures.none e))
    (rw c.terms-terms.ensures.value at c.has_divisor.ensures.found)
