use Rattle.std.proofs.Common.{◌≡◌, ◌<◌, ◌≤◌, length}
use Rattle.poly_text.specs.Numbers.{number_from, after_digits}
use Rattle.sparse_poly.specs.Contributions.{max_coeff}
use Rattle.poly_text.proofs.numbers.split_digits.Given as goal

abbrev pub invariant-digits : goal.invariant-digits
invariant-digits l = record {
  exact : l.number ≤ max_coeff → number_from 0 l.text ≡ number_from l.number l.rest;
  great : max_coeff < l.number → max_coeff < number_from 0 l.text;
  behind : after_digits l.text ≡ after_digits l.rest;
}

abbrev pub decreases-digits : goal.decreases-digits
decreases-digits l = length l.rest
