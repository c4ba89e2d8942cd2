use Rattle.std.proofs.Common.{rules, arith, ◌≡◌, ◌<◌, length, take, refl, sym}
use Rattle.std.specs.Prelude.{slice_get}
use Rattle.std.specs.declared.option.Option.TheVariants.{Some}
use Rattle.std.proofs.lemmas.Option.{slice_get_read}
use Rattle.char_set.specs.Triangular.{IsMainOf}
use Rattle.char_set.proofs.Distinct.{DifferTo-more, not_apart, HaveMainVariables-all}
use Rattle.char_set.proofs.have_main_variables.Goals as goal

pub returns-then-is_main_of : goal.returns-then-is_main_of
returns-then-is_main_of c =
    let lt : c.loop-i.i < length c.args.list.now = omega arith in
    let is : slice_get c.args.list.now c.loop-i.i ≡ Some c.index-list-i.result = slice_get_read c.args.list.now (length c.args.list.now) c.loop-i.i c.index-list-i.result refl lt c.index-list-i.is in
    let found : IsMainOf (take c.loop-i.i c.args.list.now) c.in-Some.main = search rules in
    (λ t. absurd (cc t), λ h. absurd (not_apart c.args.list.now c.loop-i.i c.in-Some.main c.index-list-i.result is (sym c.in-Some.ensures) found h))

pub loop-i-preserved : goal.loop-i-preserved
loop-i-preserved c =
    let lt : c.loop-i.i < length c.args.list.now = omega arith in
    let is : slice_get c.args.list.now c.loop-i.i ≡ Some c.index-list-i.result = slice_get_read c.args.list.now (length c.args.list.now) c.loop-i.i c.index-list-i.result refl lt c.index-list-i.is in
    let none : IsMainOf (take c.loop-i.i c.args.list.now) c.in-Some.main → ⊥ = search rules in
    DifferTo-more c.args.list.now c.loop-i.i c.in-Some.main c.index-list-i.result is (sym c.in-Some.ensures) none c.loop-i.invariant

pub returns : goal.returns
returns c = (λ t. HaveMainVariables-all c.args.list.now c.loop-i.i (omega arith) c.loop-i.invariant, λ h. refl)
