use Rattle.check_run.proofs.Told.{AreOneAnswer, usage_ends, answer_ends, verdict_ends}
use Rattle.check_run.proofs.Migrated.{migration_ends}
use Rattle.check_run.proofs.laws.check_outcome_law.Goals as goal

pub returns-clause-usage : goal.returns-clause-usage
returns-clause-usage g c words problem certificate sink status other ends = usage_ends _ words problem certificate sink status other ends

pub returns-clause-answer : goal.returns-clause-answer
returns-clause-answer g c words problem certificate sink first second asked status well two is ends =
    let input = c.root_stop_law.ensures in
    let text = c.certificate_law.ensures in
    let check = c.refusal_law.ensures in
    let laws : AreOneAnswer = record { read = c.reading_law.ensures.read; over = c.reading_law.ensures.over; one_root = input.one_root; no_stop = input.no_stop; one_stop = input.one_stop; one_text = text.one; no_fault = text.ok; one_fault = text.one_fault; no_refusal = check.refused; one_refusal = check.one } in
    answer_ends laws _ words problem certificate sink first second asked status well two is ends

pub returns-clause-complete : goal.returns-clause-complete
returns-clause-complete g c words problem certificate sink first second root checked status well two can ends =
    let input = c.root_stop_law.ensures in
    let text = c.certificate_law.ensures in
    let check = c.refusal_law.ensures in
    let laws : AreOneAnswer = record { read = c.reading_law.ensures.read; over = c.reading_law.ensures.over; one_root = input.one_root; no_stop = input.no_stop; one_stop = input.one_stop; one_text = text.one; no_fault = text.ok; one_fault = text.one_fault; no_refusal = check.refused; one_refusal = check.one } in
    verdict_ends laws _ words problem certificate sink first second root checked status well two can ends

pub returns-clause-migration : goal.returns-clause-migration
returns-clause-migration g c words problem certificate sink bytes asked status well asks is ends =
    let input = c.root_stop_law.ensures in
    let text = c.certificate_law.ensures in
    let check = c.refusal_law.ensures in
    let laws : AreOneAnswer = record { read = c.reading_law.ensures.read; over = c.reading_law.ensures.over; one_root = input.one_root; no_stop = input.no_stop; one_stop = input.one_stop; one_text = text.one; no_fault = text.ok; one_fault = text.one_fault; no_refusal = check.refused; one_refusal = check.one } in
    migration_ends laws _ words problem certificate sink bytes asked status well asks is ends
