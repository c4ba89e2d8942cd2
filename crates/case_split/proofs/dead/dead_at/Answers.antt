use Rattle.std.proofs.Common.{rules, arith, ◌≡◌, ◌≢◌, ◌∙◌, sym, refl}
use Rattle.std.proofs.lemmas.Bool.{true≢false}
use Rattle.derive_lines.specs.Refuting.{IsNonzeroConstant}
use Rattle.case_rules.specs.Cases.{poly, count}
use Rattle.case_split.proofs.Dying.{alive_by, dead_by}
use Rattle.case_split.proofs.dead.dead_at.Goals as goal

pub returns-then-first-len : goal.returns-then-first-len
returns-then-first-len c =
    let same : c.at.result.now ≡ poly c.args.case.now 0 = search rules in
    let varied : IsNonzeroConstant c.at.result.now → ⊥ = λ h. true≢false (sym (c.is_nonzero_constant.ensures.1 h) ∙ c.if-is_nonzero_constant.false) in
    let long : c.len-2.result ≡ count c.args.case.now = search rules in
    alive_by c.args.case.now c.requires c.at.result.now _ c.first_known-first.result same varied c.first_known-first.ensures (let e : c.first_known-first.result ≡ c.len-2.result = search rules in omega (arith, long, e))

pub returns : goal.returns
returns c =
    let same : c.at.result.now ≡ poly c.args.case.now 0 = search rules in
    let varied : IsNonzeroConstant c.at.result.now → ⊥ = λ h. true≢false (sym (c.is_nonzero_constant.ensures.1 h) ∙ c.if-is_nonzero_constant.false) in
    let long : c.len-2.result ≡ count c.args.case.now = search rules in
    let apart : c.first_known-first.result ≢ c.len-2.result = search rules in
    dead_by c.args.case.now c.requires c.at.result.now _ c.first_known-first.result same varied c.first_known-first.ensures refl (λ e. apart (e ∙ sym long))
