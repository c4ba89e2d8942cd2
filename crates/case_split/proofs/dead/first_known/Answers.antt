use Rattle.std.proofs.Common.{rules, ◌≡◌, ◌+◌, ◌++◌, ◌∷◌, [], List, take, sym, subst}
use Rattle.sparse_poly.specs.declared.Term.{Term}
use Rattle.sparse_poly.proofs.Places.{take_more}
use Rattle.case_rules.specs.Cases.{known, count}
use Rattle.case_split.specs.Found.{IsFirstOf}
use Rattle.case_split.proofs.Dying.{first_of_more}
use Rattle.case_split.proofs.dead.first_known.Goals as goal

pub loop-condition-preserved : goal.loop-condition-preserved
loop-condition-preserved c =
    let own : c.known-condition-items.result.now ≡ known c.args.case.now = search rules in
    let more : take (c.loop-condition.condition-index + 1) (known c.args.case.now) ≡ take c.loop-condition.condition-index (known c.args.case.now) ++ c.condition-item.result ∷ [] =
    subst (λ (ps : List (List Term)). take (c.loop-condition.condition-index + 1) ps ≡ take c.loop-condition.condition-index ps ++ c.condition-item.result ∷ []) own
    (take_more c.known-condition-items.result.now c.loop-condition.condition-index c.condition-item.result c.loop-condition-test.true c.condition-item.is) in
    subst (λ ps. IsFirstOf c.args.case.now ps (count c.args.case.now) c.first_of-first.result) (sym more)
    (first_of_more c.args.case.now (take c.loop-condition.condition-index (known c.args.case.now)) c.condition-item.result (count c.args.case.now) c.loop-condition.first c.first_of-first.result c.loop-condition.invariant c.first_of-first.ensures)
