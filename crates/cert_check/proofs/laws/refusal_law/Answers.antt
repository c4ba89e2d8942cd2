use Rattle.std.proofs.Common.{List}
use Rattle.sparse_poly.specs.declared.Term.{Term}
use Rattle.cert_check.proofs.Causes.{AreOneAnswers}
use Rattle.cert_check.proofs.Stops.{accepted_stop, one_stop}
use Rattle.cert_check.proofs.laws.refusal_law.Goals as goal

pub returns : goal.returns
returns c =
    let one : (root : List (List Term)) → AreOneAnswers root = λ root. record {
      good_cert = λ ds ls end s. c.cert_answer_law.ensures.good root ds ls end s;
      one_cert = λ ds ls end s t. c.cert_answer_law.ensures.one_stop root ds ls end s t;
      good_leaf = λ leaf s. c.leaf_answer_law.ensures.good root leaf s;
      one_leaf = λ leaf s t. c.leaf_answer_law.ensures.one_stop root leaf.decisions leaf.lines leaf.equations leaf.end s t;
    } in
    record {
      refused = λ root certificate stop a h. accepted_stop root (one root.equations) certificate stop a h;
      one = λ root certificate stop other a b n m. one_stop root (one root.equations) certificate stop other a b n m;
    }
