use Rattle.std.proofs.Common.{arith, rules, sym, ◌∙◌, ◌≡◌, ℕ, pos, length, IsTrue, nat_eq}
use Rattle.std.proofs.lemmas.Bool.Decides.{nat_tests}
use Rattle.sparse_poly.proofs.UnitMonomials.{one_variable}
use Rattle.sparse_poly.proofs.stripping.is_variable.Goals as goal

equal : (n : ℕ) → IsTrue (nat_eq n 1) → n ≡ 1
equal n h = grind (arith, nat_tests)

is_equal : (n : ℕ) → n ≡ 1 → IsTrue (nat_eq n 1)
is_equal n e = grind (arith, nat_tests)

pub returns : goal.returns
returns c =
    let one : length c.args.terms.now ≡ 1 = omega (arith, c.in-len1.len_at_least, c.in-len1.len_below) in
    let coeff : c.term-item.result.coeff ≡ pos 1 = search rules in
    let both = one_variable c.args.terms.now c.term-item.result c.args.var c.len.result c.term-item.is one coeff (sym c.exponent.ensures ∙ c.if-exponent-ne1.false) c.len.ensures.value in
    (λ h. both.0 (equal c.len.result h), λ e. is_equal c.len.result (both.1 e))
