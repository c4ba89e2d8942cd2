use Rattle.std.proofs.Common.{rules, ◌∙◌, None}
use Rattle.poly_text.proofs.Scans.{zero_more}
use Rattle.poly_text.proofs.raw.read_terms.Goals as goal

pub returns-else-text-eq1-clause-scan : goal.returns-else-text-eq1-clause-scan
returns-else-text-eq1-clause-scan c = zero_more c.args.unknowns None c.args.text.now (search rules) c.if-text-eq1.false

pub terms-preserved : goal.terms-preserved
terms-preserved c = record {
  same = c.terms.invariant.same ∙ c.in_ok-rest.ensures.scan;
  at_sign = c.in_ok-rest.ensures.at_sign;
  read = λ live. c.in_ok-rest.ensures.terms c.args.text.now (c.terms.invariant.read live);
}
