use Rattle.std.specs.Prelude.{List, ℕ}
use Rattle.std.proofs.Common.{subst, ap, ◌≡◌, ◌∙◌, decimal, rules}
use Rattle.decimal_text.specs.Numerals.{IsSignedText}
use Rattle.decimal_text.proofs.Written.{no_minus_zero, no_minus, no_plain}
use Rattle.decimal_text.proofs.read_signed.Goals as goal

pub returns-in-Ok-eq0 : goal.returns-in-Ok-eq0
returns-in-Ok-eq0 c v is =
    let max = c.args.max in
    let none : c.in-Ok-eq0.field-0 ≡ 0 = search rules in
    no_minus_zero max c.in-Some.digits.now v c.requires (c.in-Ok-eq0.ensures.0 ∙ ap decimal none) (subst (λ (t : List ℕ). IsSignedText max t v) c.in-Some.ensures is)

pub returns-in-Err : goal.returns-in-Err
returns-in-Err c v is =
    let max = c.args.max in
    no_minus max c.in-Some.digits.now c.in-Err.field-0 v c.requires c.in-Err.ensures (subst (λ (t : List ℕ). IsSignedText max t v) c.in-Some.ensures is)

pub returns-in-Err-read_up_to : goal.returns-in-Err-read_up_to
returns-in-Err-read_up_to c v is = no_plain c.args.max c.args.text.now c.in-Err-read_up_to.field-0 v c.requires c.in-None.ensures c.in-Err-read_up_to.ensures is
