use Rattle.check_laws.proofs.Written.{AreOneReading, is_written, written_answer, never_refused}
use Rattle.check_laws.proofs.laws.written_law.Goals as goal

pub returns-clause-never : goal.returns-clause-never
returns-clause-never g c words source sink status leaves opens bytes text others problem certificate out ending ends all wrote given check =
    let input = c.root_stop_law.ensures in
    let certificates = c.certificate_law.ensures in
    let laws : AreOneReading = record { read = c.reading_law.ensures.read; one_settings = c.settings_law.ensures.one; one_made = c.made_law.ensures; one_root = input.one_root; one_text = certificates.one; no_fault = certificates.ok; no_refusal = c.refusal_law.ensures.refused } in
    never_refused laws _ others problem certificate out bytes text leaves opens ending given (is_written laws _ words source sink status leaves opens bytes text ends all wrote) check

pub returns-clause-accepted : goal.returns-clause-accepted
returns-clause-accepted g c words source sink status leaves opens bytes text others problem certificate out ending ends all wrote short two well check =
    let input = c.root_stop_law.ensures in
    let certificates = c.certificate_law.ensures in
    let laws : AreOneReading = record { read = c.reading_law.ensures.read; one_settings = c.settings_law.ensures.one; one_made = c.made_law.ensures; one_root = input.one_root; one_text = certificates.one; no_fault = certificates.ok; no_refusal = c.refusal_law.ensures.refused } in
    c.check_outcome_law.ensures.answer others problem certificate out bytes text _ ending well two
    (written_answer bytes text leaves opens (is_written laws _ words source sink status leaves opens bytes text ends all wrote) short) check
