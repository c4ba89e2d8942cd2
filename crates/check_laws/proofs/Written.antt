-- A written certificate is read and accepted.
use Rattle.std.specs.Prelude.{◌≡◌, ◌≤◌, ℕ, Bool, false, List, Option, None, Some, ◌++◌, length}
use Rattle.std.proofs.Common.{sym, ◌∙◌, ap, subst}
use Rattle.std.proofs.lemmas.List.{append_cancel_left}
use Rattle.std.specs.Io.KnownBytes.{Appends}
use Rattle.field_laws.specs.Field.{Field}
use Rattle.braid_io.specs.declared.whole.ReadStop.{ReadStop}
use Rattle.braid_io.specs.declared.whole.ReadStop.TheVariants as reading
use Rattle.leaf_cert.specs.declared.certificate.Certificate.{Certificate as Checked}
use Rattle.ring_file.specs.Problems.{Stated}
use Rattle.ring_file.specs.Reading.{IsProblemOf}
use Rattle.root_system.specs.Forms.{RootEquations}
use Rattle.root_input.specs.Streams.{Stream, Tells, ReadsAll, max_problem_bytes}
use Rattle.root_input.specs.Inputs.{HasRoot}
use Rattle.root_input.specs.declared.fault.RootStop.{RootStop}
use Rattle.root_input.specs.declared.fault.RootStop.TheVariants as rooted
use Rattle.root_input.specs.declared.fault.InputFault.{InputFault}
use Rattle.root_input.specs.declared.fault.InputFault.TheVariants as input
use Rattle.case_history.specs.Replay.{Accepted as IsAccepted}
use Rattle.cert_check.specs.Accepting.{IsRefused, IsAcceptStop}
use Rattle.cert_check.specs.declared.answers.AcceptStop.{AcceptStop}
use Rattle.cert_check.specs.declared.answers.AcceptStop.TheVariants.{Refused as refusal, OutOfMemory as no_check_memory}
use Rattle.cert_text.specs.Text.{IsText}
use Rattle.cert_text.specs.declared.version.Version.TheVariants.{Two}
use Rattle.cert_text.specs.Sentences.{text_in}
use Rattle.cert_read.specs.Faults.{IsCertFault}
use Rattle.cert_read.specs.declared.reader.CertFault.{CertFault}
use Rattle.cert_read.specs.declared.reader.CertFault.TheVariants.{OutOfMemory as no_text_memory}
use Rattle.ring_make.specs.Made.{IsPointed}
use Rattle.run_words.specs.Words.{IsSettings}
use Rattle.run_words.specs.declared.settings.Made.{Made}
use Rattle.run_words.specs.declared.settings.Made.TheVariants.{Cyclic, Cube}
use Rattle.run_words.specs.declared.settings.Settings.{Settings}
use Rattle.solve_run.specs.Problems.{IsMadeProblem, GivesRoot}
use Rattle.solve_run.specs.Statuses.{input_status}
use Rattle.solve_run.specs.Outcomes.{Refuses, Certifies, Ends, output_text, by_words, by_source, by_leaves, by_open_leaves, by_sink, by_memory as by_run_memory}
use Rattle.solve_run.specs.declared.status.Status.{Status}
use Rattle.solve_run.specs.declared.status.Status.TheVariants.{Done, Open}
use Rattle.check_run.specs.Statuses.{read_status, root_status, text_status, verdict_status}
use Rattle.check_run.specs.Verdicts.{AcceptsWith, IsVerdict, HasNoVerdict, no_root, no_text, no_memory}
use Rattle.check_run.specs.Inputs.{max_certificate_bytes}
use Rattle.check_run.specs.Migrations.{IsNotMigrated, MigrationEnds, not_read, not_text, by_certificate, by_text, by_fault, by_lack}
use Rattle.check_run.specs.Outcomes.{IsUnjudged, CheckEnds, stops_at_problem, stops_at_certificate, has_no_verdict, by_words as check_by_words, by_migration, by_inputs, by_verdict, by_sink as check_by_sink, by_memory}
use Rattle.check_run.specs.Completeness.{IsAnswer, with_verdict}
use Rattle.check_run.specs.declared.status.Which.{Which}
use Rattle.check_run.specs.declared.status.Which.TheVariants as which
use Rattle.check_run.specs.declared.status.Verdict.{Verdict}
use Rattle.check_run.specs.declared.status.Verdict.TheVariants as verdict
use Rattle.check_run.specs.declared.status.CheckStatus.{CheckStatus}
use Rattle.check_run.specs.declared.status.CheckStatus.TheVariants.{OutOfMemory}
use Rattle.check_laws.specs.Written.{WroteAll, done, some_open, IsSameProblem, Wrote, IsGiven, IsNeverRefused}

-- what the laws of inputs, texts and checks say
pub record AreOneReading : Type 0 where
  pub read : (limit : ℕ) (source : Stream) (bytes all : List ℕ) → Tells source bytes → ReadsAll limit source all → all ≡ bytes
  pub one_settings : (words : List (List ℕ)) (s t : Settings) → IsSettings words s → IsSettings words t → s ≡ t
  pub one_made : (n : ℕ) (product : ℕ → ℕ → ℕ) (p q : Stated) → IsPointed n product p → IsPointed n product q → p ≡ q
  pub one_root : (bytes : List ℕ) (p q : Stated) (root twin : RootEquations) → HasRoot bytes p root → HasRoot bytes q twin → root ≡ twin
  pub one_text : (text : List ℕ) (c d : Checked) → IsText text c → IsText text d → c ≡ d
  pub no_fault : (text : List ℕ) (c : Checked) (fault : CertFault) → IsText text c → IsCertFault text fault → fault ≡ no_text_memory
  pub no_refusal : (root : RootEquations) (c : Checked) (stop : AcceptStop) → IsAccepted root.unknowns root.equations c → IsAcceptStop root c stop → stop ≡ no_check_memory

-- the problem has this root, and the text is that of this certificate, which is accepted for it, with its leaves
pub record IsWritten (bytes text : List ℕ) (leaves opens : ℕ) : Type 0 where
  pub stated : Stated
  pub root : RootEquations
  pub checked : Checked
  pub short : length bytes ≤ max_problem_bytes
  pub has_root : HasRoot bytes stated root
  pub is_text : IsText text checked
  pub accepts : AcceptsWith root checked leaves opens

-- ---- what was written

-- no refusal of the source writes all
not_refused : (source : Stream) (made : Option Made) (status : Status) (leaves opens : ℕ) → Refuses source made status → WroteAll status leaves opens → ⊥
not_refused source made result leaves opens refused wrote = no_whole refused.fault (subst (λ (s : Status). WroteAll s leaves opens) refused.becomes wrote)
  where
    no_whole : (fault : InputFault) → WroteAll (input_status fault) leaves opens → ⊥
    no_whole input.ReadFault h = elim h [ ]
    no_whole input.TooLong h = elim h [ ]
    no_whole (input.Problem fault) h = elim h [ ]
    no_whole (input.TooManyUnknowns count) h = elim h [ ]
    no_whole (input.TooManyEquations count) h = elim h [ ]
    no_whole input.OutOfMemory h = elim h [ ]

none_open : {E : Type 0} (f : Field E) (words : List (List ℕ)) (source : Stream) (IsWrite : List ℕ → Type 0) (n leaves opens : ℕ) → WroteAll (Done n) leaves opens → Certifies f words source IsWrite n 0 → Certifies f words source IsWrite leaves opens
none_open f words source IsWrite n leaves opens (done m) c = c

are_open : {E : Type 0} (f : Field E) (words : List (List ℕ)) (source : Stream) (IsWrite : List ℕ → Type 0) (n o leaves opens : ℕ) → WroteAll (Open n o) leaves opens → Certifies f words source IsWrite n o → Certifies f words source IsWrite leaves opens
are_open f words source IsWrite n o leaves opens (some_open m p) c = c

certifies : {E : Type 0} (f : Field E) (words : List (List ℕ)) (source sink : Stream) (status : Status) (leaves opens : ℕ) → Ends f words source sink status → WroteAll status leaves opens → Certifies f words source (Appends sink.before sink.after) leaves opens
certifies f words source sink result leaves opens (by_words kind is) wrote = elim wrote [ ]
certifies f words source sink result leaves opens (by_source settings status is refused) wrote = absurd (not_refused source settings.made status leaves opens refused wrote)
certifies f words source sink result leaves opens (by_leaves n c) wrote = none_open f words source (Appends sink.before sink.after) n leaves opens wrote c
certifies f words source sink result leaves opens (by_open_leaves n o some c) wrote = are_open f words source (Appends sink.before sink.after) n o leaves opens wrote c
certifies f words source sink result leaves opens (by_sink n o rose c) wrote = elim wrote [ ]
certifies f words source sink result leaves opens by_run_memory wrote = elim wrote [ ]

-- what was appended
appended : (before after : Option (List ℕ)) (earlier text all : List ℕ) → before ≡ Some earlier → after ≡ Some (earlier ++ text) → Appends before after all → text ≡ all
appended before after earlier text all b a h =
    let told : Appends (Some earlier) (Some (earlier ++ text)) all = subst (λ (o : Option (List ℕ)). Appends o (Some (earlier ++ text)) all) b (subst (λ (o : Option (List ℕ)). Appends before o all) a h) in
    append_cancel_left earlier text all told

same_problem : AreOneReading → (made : Made) (p q : Stated) → IsMadeProblem made p → IsMadeProblem made q → p ≡ q
same_problem laws (Cyclic n) p q is are = laws.one_made n _ p q is are
same_problem laws (Cube k) p q is are = laws.one_made _ _ p q is are

-- the bytes of the run's problem have its root
same_root : AreOneReading → (made : Option Made) (source : Stream) (bytes : List ℕ) (p : Stated) (root : RootEquations) → IsSameProblem made source bytes → GivesRoot source made p root → (length bytes ≤ max_problem_bytes) × HasRoot bytes p root
same_root laws None source bytes p root tells gives =
    let same = laws.read max_problem_bytes source bytes gives.0 tells gives.1.reads in
    (subst (λ (b : List ℕ). length b ≤ max_problem_bytes) same gives.1.reads.short, subst (λ (b : List ℕ). HasRoot b p root) same gives.1.has_root)
same_root laws (Some made) source bytes p root states gives =
    let same = same_problem laws made states.0 p states.2 gives.1.is_made in
    (states.1.0, record { is_problem = subst (λ (q : Stated). IsProblemOf bytes q) same states.1.1; is_root = gives.1.is_root })

pub is_written : AreOneReading → {E : Type 0} (f : Field E) (words : List (List ℕ)) (source sink : Stream) (status : Status) (leaves opens : ℕ) (bytes text : List ℕ)
    → Ends f words source sink status → WroteAll status leaves opens → Wrote words source sink bytes text → IsWritten bytes text leaves opens
is_written laws f words source sink status leaves opens bytes text ends all wrote =
    let c = certifies f words source sink status leaves opens ends all in
    let settings = laws.one_settings words c.settings wrote.settings c.are_settings wrote.are_settings in
    let plain : c.settings.summary ≡ false = ap (λ (s : Settings). s.summary) settings ∙ wrote.no_summary in
    let gives = subst (λ (s : Settings). GivesRoot source s.made c.problem c.root) settings c.gives in
    let has = same_root laws wrote.settings.made source bytes c.problem c.root wrote.same_problem gives in
    let writes = subst (λ (b : Bool). Appends sink.before sink.after (output_text b c.certificate)) plain c.writes in
    record {
      stated = c.problem;
      root = c.root;
      checked = c.certificate;
      short = has.0;
      has_root = has.1;
      is_text = record { version = Two; fits = c.fits plain; spelled = appended sink.before sink.after wrote.earlier text (text_in Two c.certificate) wrote.before wrote.after writes };
      accepts = record { accepted = c.searched.accepted; leaves_are = c.leaves_are; opens_are = c.opens_are };
    }

-- ---- what a check answers

pub written_answer : (bytes text : List ℕ) (leaves opens : ℕ) → IsWritten bytes text leaves opens → length text ≤ max_certificate_bytes → IsAnswer bytes text (verdict_status (verdict.Accepted leaves opens))
written_answer bytes text leaves opens w short =
    with_verdict (verdict.Accepted leaves opens) (record { problem_is = w.short; certificate_is = short })
    (record { stated = w.stated; root = w.root; checked = w.checked; has_root = w.has_root; is_text = w.is_text; judged = w.accepts })

unread : (input : Which) (stop : ReadStop) → IsNeverRefused (read_status input stop)
unread input reading.Fault = record { read = λ fault e. cc; not_refused = λ part number cause e. cc }
unread input reading.TooLong = record { read = λ fault e. cc; not_refused = λ part number cause e. cc }
unread input reading.OutOfMemory = record { read = λ fault e. cc; not_refused = λ part number cause e. cc }

rootless : (stop : RootStop) → IsNeverRefused (root_status stop)
rootless (rooted.Problem fault) = record { read = λ fault e. cc; not_refused = λ part number cause e. cc }
rootless (rooted.TooManyUnknowns count) = record { read = λ fault e. cc; not_refused = λ part number cause e. cc }
rootless (rooted.TooManyEquations count) = record { read = λ fault e. cc; not_refused = λ part number cause e. cc }
rootless rooted.OutOfMemory = record { read = λ fault e. cc; not_refused = λ part number cause e. cc }

memory : IsNeverRefused OutOfMemory
memory = record { read = λ fault e. cc; not_refused = λ part number cause e. cc }

without : AreOneReading → (bytes text : List ℕ) (leaves opens : ℕ) (status : CheckStatus) → IsWritten bytes text leaves opens → HasNoVerdict bytes text status → IsNeverRefused status
without laws bytes text leaves opens result w (no_root stop is) = rootless stop
without laws bytes text leaves opens result w (no_text stated twin fault has is) =
    subst (λ (g : CertFault). IsNeverRefused (text_status g)) (sym (laws.no_fault text w.checked fault w.is_text is)) memory
without laws bytes text leaves opens result w no_memory = memory

judged : AreOneReading → (bytes text : List ℕ) (leaves opens : ℕ) (v : Verdict) → IsWritten bytes text leaves opens → IsVerdict bytes text v → IsNeverRefused (verdict_status v)
judged laws bytes text leaves opens (verdict.Accepted n o) w is = record { read = λ fault e. cc; not_refused = λ part number cause e. cc }
judged laws bytes text leaves opens (verdict.Refused part number cause) w is = absurd (refused_too)
  where
    root_is : is.root ≡ w.root
    root_is = laws.one_root bytes is.stated w.stated is.root w.root is.has_root w.has_root

    checked_is : is.checked ≡ w.checked
    checked_is = laws.one_text text is.checked w.checked is.is_text w.is_text

    refused : IsRefused w.root w.checked part number cause
    refused = subst (λ (d : Checked). IsRefused w.root d part number cause) checked_is (subst (λ (r : RootEquations). IsRefused r is.checked part number cause) root_is is.judged)

    refused_too : ⊥
    refused_too = let e = laws.no_refusal w.root w.checked (refusal part number cause) w.accepts.accepted refused in cc

unjudged : AreOneReading → (problem certificate : Stream) (bytes text : List ℕ) (leaves opens : ℕ) (status : CheckStatus) → IsGiven problem certificate bytes text → IsWritten bytes text leaves opens → IsUnjudged problem certificate status → IsNeverRefused status
unjudged laws problem certificate bytes text leaves opens result given w (stops_at_problem status not untouched) = subst IsNeverRefused (sym not.status_is) (unread which.Problem not.stop)
unjudged laws problem certificate bytes text leaves opens result given w (stops_at_certificate all status reads not) = subst IsNeverRefused (sym not.status_is) (unread which.Certificate not.stop)
unjudged laws problem certificate bytes text leaves opens result given w (has_no_verdict first second status reads are none) =
    let bytes_are = laws.read max_problem_bytes problem bytes first given.tells_problem reads in
    let text_is = laws.read max_certificate_bytes certificate text second given.tells_text are in
    without laws bytes text leaves opens status w (subst (λ (b : List ℕ). HasNoVerdict bytes b status) text_is (subst (λ (b : List ℕ). HasNoVerdict b second status) bytes_are none))

unmigrated : AreOneReading → (certificate : Stream) (text : List ℕ) (checked : Checked) (status : CheckStatus) → Tells certificate text → IsText text checked → IsNotMigrated certificate status → IsNeverRefused status
unmigrated laws certificate text checked result tells is_text (not_read status not) = subst IsNeverRefused (sym not.status_is) (unread which.Certificate not.stop)
unmigrated laws certificate text checked result tells is_text (not_text all fault reads is) =
    let same = laws.read max_certificate_bytes certificate text all tells reads in
    subst (λ (g : CertFault). IsNeverRefused (text_status g)) (sym (laws.no_fault text checked fault is_text (subst (λ (b : List ℕ). IsCertFault b fault) same is))) memory

migrated : AreOneReading → (certificate out : Stream) (text : List ℕ) (checked : Checked) (status : CheckStatus) → Tells certificate text → IsText text checked → MigrationEnds certificate out status → IsNeverRefused status
migrated laws certificate out text checked result tells is_text (by_certificate status is) = unmigrated laws certificate text checked status tells is_text is
migrated laws certificate out text checked result tells is_text (by_text read reads wrote) = record { read = λ fault e. cc; not_refused = λ part number cause e. cc }
migrated laws certificate out text checked result tells is_text (by_fault read reads rose wrote) = record { read = λ fault e. cc; not_refused = λ part number cause e. cc }
migrated laws certificate out text checked result tells is_text by_lack = memory

pub never_refused : AreOneReading → {E : Type 0} (f : Field E) (others : List (List ℕ)) (problem certificate out : Stream) (bytes text : List ℕ) (leaves opens : ℕ) (ending : CheckStatus)
    → IsGiven problem certificate bytes text → IsWritten bytes text leaves opens → CheckEnds f others problem certificate out ending → IsNeverRefused ending
never_refused laws f others problem certificate out bytes text leaves opens result given w (check_by_words is) = record { read = λ fault e. cc; not_refused = λ part number cause e. cc }
never_refused laws f others problem certificate out bytes text leaves opens result given w (by_migration status asks untouched is) = migrated laws certificate out text w.checked status given.tells_text w.is_text is
never_refused laws f others problem certificate out bytes text leaves opens result given w (by_inputs status two is) = unjudged laws problem certificate bytes text leaves opens status given w is
never_refused laws f others problem certificate out bytes text leaves opens result given w (by_verdict v two j wrote) =
    let bytes_are = laws.read max_problem_bytes problem bytes j.problem_bytes given.tells_problem j.reads_problem in
    let text_is = laws.read max_certificate_bytes certificate text j.certificate_bytes given.tells_text j.reads_certificate in
    judged laws bytes text leaves opens v w (subst (λ (b : List ℕ). IsVerdict bytes b v) text_is (subst (λ (b : List ℕ). IsVerdict b j.certificate_bytes v) bytes_are j.is_verdict))
never_refused laws f others problem certificate out bytes text leaves opens result given w (check_by_sink v two j rose wrote) = record { read = λ fault e. cc; not_refused = λ part number cause e. cc }
never_refused laws f others problem certificate out bytes text leaves opens result given w (by_memory two) = memory
