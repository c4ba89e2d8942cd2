use Rattle.std.proofs.Common.{◌≡◌, ◌∙◌, ap, arith, rules, decimal, true, sym}
use Rattle.decimal_text.specs.Numerals.{is_numeral}
use Rattle.decimal_text.proofs.Written.{written}
use Rattle.decimal_text.proofs.read_up_to.Goals as goal

pub returns-in-Some : goal.returns-in-Some
returns-in-Some c =
    let s = c.args.text.now in
    let e = c.in-Some.ensures in
    let numeral : is_numeral s ≡ true = search rules in
    (written s numeral (omega (arith, e)) ∙ ap decimal (sym e), omega arith)
