-- What words and told bytes say of how a check ends.
use Rattle.std.specs.Prelude.{◌≡◌, ◌≢◌, ◌⊎◌, ◌<◌, ◌≤◌, ℕ, true, List, [], ◌∷◌, length, refl}
use Rattle.std.proofs.Common.{sym, ◌∙◌, ap, subst, inl, inr, arith, true≢false}
use Rattle.field_laws.specs.Field.{Field}
use Rattle.braid_io.specs.declared.whole.ReadStop.{ReadStop}
use Rattle.braid_io.specs.declared.whole.ReadStop.TheVariants.{Fault, TooLong as long, OutOfMemory as no_read_memory}
use Rattle.leaf_cert.specs.declared.certificate.Certificate.{Certificate as Checked}
use Rattle.ring_file.specs.Problems.{Stated}
use Rattle.root_system.specs.Forms.{RootEquations}
use Rattle.root_input.specs.Streams.{Stream, Tells, TellsAll, ReadsAll, IsReadStop, max_problem_bytes}
use Rattle.root_input.specs.Inputs.{HasRoot, IsRootStop}
use Rattle.root_input.specs.declared.fault.RootStop.{RootStop}
use Rattle.root_input.specs.declared.fault.RootStop.TheVariants as stop
use Rattle.case_history.specs.Replay.{Accepted as IsAccepted}
use Rattle.case_history.specs.Counts.{leaf_count, open_count}
use Rattle.cert_check.specs.Accepting.{IsRefused, IsAcceptStop}
use Rattle.cert_check.specs.declared.answers.Part.{Part}
use Rattle.cert_check.specs.declared.answers.RefuseCause.{RefuseCause}
use Rattle.cert_check.specs.declared.answers.AcceptStop.{AcceptStop}
use Rattle.cert_check.specs.declared.answers.AcceptStop.TheVariants.{Refused as refusal, OutOfMemory as no_check_memory}
use Rattle.cert_text.specs.Text.{IsText}
use Rattle.cert_read.specs.Faults.{IsCertFault}
use Rattle.cert_read.specs.declared.reader.CertFault.{CertFault}
use Rattle.cert_read.specs.declared.reader.CertFault.TheVariants.{Truncated, Number, Syntax, OutOfMemory as no_text_memory}
use Rattle.check_run.specs.Statuses.{read_status, root_status, text_status, verdict_status}
use Rattle.check_run.specs.Verdicts.{IsJudged, IsVerdict, HasNoVerdict, no_root, no_text, no_memory}
use Rattle.check_run.specs.Words.{asks_migration, AsksCheck}
use Rattle.check_run.specs.Inputs.{max_certificate_bytes}
use Rattle.check_run.specs.Outcomes.{Judges, IsUnjudged, CheckEnds, stops_at_problem, stops_at_certificate, has_no_verdict, by_words, by_migration, by_inputs, by_verdict, by_sink, by_memory}
use Rattle.check_run.specs.Completeness.{GoesWell, AreShort, IsAnswer, CanBeChecked, IsVerdictOr, long_problem, long_certificate, without_verdict, with_verdict}
use Rattle.check_run.specs.declared.status.Which.TheVariants as which
use Rattle.check_run.specs.declared.status.Verdict.{Verdict}
use Rattle.check_run.specs.declared.status.Verdict.TheVariants as verdict
use Rattle.check_run.specs.declared.status.CheckStatus.{CheckStatus}
use Rattle.check_run.specs.declared.status.CheckStatus.TheVariants.{Usage, Problem, TooManyUnknowns, TooManyEquations, Certificate, OutOfMemory}

-- what the laws of inputs, texts and checks say
pub record AreOneAnswer : Type 0 where
  pub read : (limit : ℕ) (source : Stream) (bytes all : List ℕ) → Tells source bytes → ReadsAll limit source all → all ≡ bytes
  pub over : (limit : ℕ) (source : Stream) (bytes : List ℕ) → Tells source bytes → IsReadStop limit source long → limit < length bytes
  pub one_root : (bytes : List ℕ) (p q : Stated) (root twin : RootEquations) → HasRoot bytes p root → HasRoot bytes q twin → root ≡ twin
  pub no_stop : (bytes : List ℕ) (p : Stated) (root : RootEquations) (why : RootStop) → HasRoot bytes p root → IsRootStop bytes why → why ≡ stop.OutOfMemory
  pub one_stop : (bytes : List ℕ) (why other : RootStop) → IsRootStop bytes why → IsRootStop bytes other → why ≢ stop.OutOfMemory → other ≢ stop.OutOfMemory → why ≡ other
  pub one_text : (text : List ℕ) (c d : Checked) → IsText text c → IsText text d → c ≡ d
  pub no_fault : (text : List ℕ) (c : Checked) (fault : CertFault) → IsText text c → IsCertFault text fault → fault ≡ no_text_memory
  pub one_fault : (text : List ℕ) (fault other : CertFault) → IsCertFault text fault → IsCertFault text other → fault ≢ no_text_memory → other ≢ no_text_memory → fault ≡ other
  pub no_refusal : (root : RootEquations) (c : Checked) (why : AcceptStop) → IsAccepted root.unknowns root.equations c → IsAcceptStop root c why → why ≡ no_check_memory
  pub one_refusal : (root : RootEquations) (c : Checked) (why other : AcceptStop) → IsAcceptStop root c why → IsAcceptStop root c other → why ≢ no_check_memory → other ≢ no_check_memory → why ≡ other

-- ---- one verdict

-- a refusal, as a verdict
abbrev verdict_of : AcceptStop → Verdict
verdict_of (refusal part number cause) = verdict.Refused part number cause
verdict_of no_check_memory = verdict.Accepted 0 0

both_counts : (c : Checked) (l o m p : ℕ) → l ≡ leaf_count c.entries → o ≡ open_count c.entries → m ≡ leaf_count c.entries → p ≡ open_count c.entries → verdict.Accepted l o ≡ verdict.Accepted m p
both_counts c l o m p a b d e = ap (λ n. verdict.Accepted n o) (a ∙ sym d) ∙ ap (λ n. verdict.Accepted m n) (b ∙ sym e)

not_both : AreOneAnswer → (root : RootEquations) (c : Checked) (part : Part) (number : ℕ) (cause : RefuseCause) → IsAccepted root.unknowns root.equations c → IsRefused root c part number cause → ⊥
not_both laws root c part number cause accepted refused = let e = laws.no_refusal root c (refusal part number cause) accepted refused in cc

one_judgement : AreOneAnswer → (root : RootEquations) (c : Checked) (v w : Verdict) → IsJudged root c v → IsJudged root c w → v ≡ w
one_judgement laws root c (verdict.Accepted l o) (verdict.Accepted m p) a b = both_counts c l o m p a.leaves_are a.opens_are b.leaves_are b.opens_are
one_judgement laws root c (verdict.Accepted l o) (verdict.Refused part number cause) a b = absurd (not_both laws root c part number cause a.accepted b)
one_judgement laws root c (verdict.Refused part number cause) (verdict.Accepted m p) a b = absurd (not_both laws root c part number cause b.accepted a)
one_judgement laws root c (verdict.Refused part number cause) (verdict.Refused other place why) a b =
    ap verdict_of (laws.one_refusal root c (refusal part number cause) (refusal other place why) a b (λ e. cc) (λ e. cc))

one_verdict : AreOneAnswer → (p c : List ℕ) (v w : Verdict) → IsVerdict p c v → IsVerdict p c w → v ≡ w
one_verdict laws p c v w a b =
    let root = laws.one_root p b.stated a.stated b.root a.root b.has_root a.has_root in
    let checked = laws.one_text c b.checked a.checked b.is_text a.is_text in
    let first = subst (λ (r : RootEquations). IsJudged r b.checked w) root b.judged in
    one_judgement laws a.root a.checked v w a.judged (subst (λ (d : Checked). IsJudged a.root d w) checked first)

-- ---- one cause why there is no verdict

no_answer_without : AreOneAnswer → (p c : List ℕ) (v : Verdict) (status : CheckStatus) → IsVerdict p c v → HasNoVerdict p c status → status ≢ OutOfMemory → ⊥
no_answer_without laws p c v result a (no_root why is) apart = apart (ap root_status (laws.no_stop p a.stated a.root why a.has_root is))
no_answer_without laws p c v result a (no_text stated root fault has is) apart = apart (ap text_status (laws.no_fault c a.checked fault a.is_text is))
no_answer_without laws p c v result a no_memory apart = apart refl

one_cause : AreOneAnswer → (p c : List ℕ) (s t : CheckStatus) → HasNoVerdict p c s → HasNoVerdict p c t → s ≢ OutOfMemory → t ≢ OutOfMemory → s ≡ t
one_cause laws p c s t (no_root why is) (no_root other are) a b =
    ap root_status (laws.one_stop p why other is are (λ e. a (ap root_status e)) (λ e. b (ap root_status e)))
one_cause laws p c s t (no_root why is) (no_text stated root fault has are) a b = absurd (a (ap root_status (laws.no_stop p stated root why has is)))
one_cause laws p c s t (no_root why is) no_memory a b = absurd (b refl)
one_cause laws p c s t (no_text stated root fault has is) (no_root other are) a b = absurd (b (ap root_status (laws.no_stop p stated root other has are)))
one_cause laws p c s t (no_text stated root fault has is) (no_text told twin other have are) a b =
    ap text_status (laws.one_fault c fault other is are (λ e. a (ap text_status e)) (λ e. b (ap text_status e)))
one_cause laws p c s t (no_text stated root fault has is) no_memory a b = absurd (b refl)
one_cause laws p c s t no_memory q a b = absurd (a refl)

-- ---- one answer

too_far : (limit : ℕ) (bytes : List ℕ) → limit < length bytes → length bytes ≤ limit → ⊥
too_far limit bytes over short = omega (arith, over, short)

one_answer : AreOneAnswer → (p c : List ℕ) (s t : CheckStatus) → IsAnswer p c s → IsAnswer p c t → s ≡ t
one_answer laws p c s t (long_problem over) (long_problem beyond) = refl
one_answer laws p c s t (long_problem over) (long_certificate short beyond) = absurd (too_far max_problem_bytes p over short)
one_answer laws p c s t (long_problem over) (without_verdict status short none apart) = absurd (too_far max_problem_bytes p over short.problem_is)
one_answer laws p c s t (long_problem over) (with_verdict v short is) = absurd (too_far max_problem_bytes p over short.problem_is)
one_answer laws p c s t (long_certificate short over) (long_problem beyond) = absurd (too_far max_problem_bytes p beyond short)
one_answer laws p c s t (long_certificate short over) (long_certificate few beyond) = refl
one_answer laws p c s t (long_certificate short over) (without_verdict status few none apart) = absurd (too_far max_certificate_bytes c over few.certificate_is)
one_answer laws p c s t (long_certificate short over) (with_verdict v few is) = absurd (too_far max_certificate_bytes c over few.certificate_is)
one_answer laws p c s t (without_verdict status short none apart) (long_problem beyond) = absurd (too_far max_problem_bytes p beyond short.problem_is)
one_answer laws p c s t (without_verdict status short none apart) (long_certificate few beyond) = absurd (too_far max_certificate_bytes c beyond short.certificate_is)
one_answer laws p c s t (without_verdict status short none apart) (without_verdict other few nor away) = one_cause laws p c status other none nor apart away
one_answer laws p c s t (without_verdict status short none apart) (with_verdict v few is) = absurd (no_answer_without laws p c v status is none apart)
one_answer laws p c s t (with_verdict v short is) (long_problem beyond) = absurd (too_far max_problem_bytes p beyond short.problem_is)
one_answer laws p c s t (with_verdict v short is) (long_certificate few beyond) = absurd (too_far max_certificate_bytes c beyond short.certificate_is)
one_answer laws p c s t (with_verdict v short is) (without_verdict status few none apart) = absurd (no_answer_without laws p c v status is none apart)
one_answer laws p c s t (with_verdict v short is) (with_verdict w few are) = ap verdict_status (one_verdict laws p c v w is are)

-- ---- what a check answers

-- why a source that told its bytes and had no fault was not read
problem_unread : AreOneAnswer → (source : Stream) (p c : List ℕ) (why : ReadStop) → TellsAll source p → IsReadStop max_problem_bytes source why → (read_status which.Problem why ≡ OutOfMemory) ⊎ IsAnswer p c (read_status which.Problem why)
problem_unread laws source p c Fault tells is = absurd (tells.quiet is.0)
problem_unread laws source p c long tells is = inr (long_problem (laws.over max_problem_bytes source p tells.told is))
problem_unread laws source p c no_read_memory tells is = inl refl

certificate_unread : AreOneAnswer → (source : Stream) (p c : List ℕ) (why : ReadStop) → length p ≤ max_problem_bytes → TellsAll source c → IsReadStop max_certificate_bytes source why → (read_status which.Certificate why ≡ OutOfMemory) ⊎ IsAnswer p c (read_status which.Certificate why)
certificate_unread laws source p c Fault short tells is = absurd (tells.quiet is.0)
certificate_unread laws source p c long short tells is = inr (long_certificate short (laws.over max_certificate_bytes source c tells.told is))
certificate_unread laws source p c no_read_memory short tells is = inl refl

-- where all bytes were read, they are those that were told, and so they are short
pub read_short : AreOneAnswer → (limit : ℕ) (source : Stream) (bytes all : List ℕ) → Tells source bytes → ReadsAll limit source all → length bytes ≤ limit
read_short laws limit source bytes all tells reads = subst (λ (b : List ℕ). length b ≤ limit) (laws.read limit source bytes all tells reads) reads.short

-- there is no verdict: for want of memory, or the bytes say why
unjudged : AreOneAnswer → (p c : List ℕ) (status : CheckStatus) → AreShort p c → HasNoVerdict p c status → (status ≡ OutOfMemory) ⊎ IsAnswer p c status
unjudged laws p c result short (no_root why is) = root_case why is
  where
    root_case : (why : RootStop) → IsRootStop p why → (root_status why ≡ OutOfMemory) ⊎ IsAnswer p c (root_status why)
    root_case (stop.Problem fault) is = inr (without_verdict (Problem fault) short (no_root (stop.Problem fault) is) (λ e. cc))
    root_case (stop.TooManyUnknowns count) is = inr (without_verdict (TooManyUnknowns count) short (no_root (stop.TooManyUnknowns count) is) (λ e. cc))
    root_case (stop.TooManyEquations count) is = inr (without_verdict (TooManyEquations count) short (no_root (stop.TooManyEquations count) is) (λ e. cc))
    root_case stop.OutOfMemory is = inl refl
unjudged laws p c result short (no_text stated root fault has is) = text_case fault is
  where
    text_case : (fault : CertFault) → IsCertFault c fault → (text_status fault ≡ OutOfMemory) ⊎ IsAnswer p c (text_status fault)
    text_case Truncated is = inr (without_verdict (Certificate Truncated) short (no_text stated root Truncated has is) (λ e. cc))
    text_case (Number line) is = inr (without_verdict (Certificate (Number line)) short (no_text stated root (Number line) has is) (λ e. cc))
    text_case (Syntax line) is = inr (without_verdict (Certificate (Syntax line)) short (no_text stated root (Syntax line) has is) (λ e. cc))
    text_case no_text_memory is = inl refl
unjudged laws p c result short no_memory = inl refl

unjudged_ends : AreOneAnswer → (problem certificate sink : Stream) (p c : List ℕ) (status : CheckStatus) → GoesWell problem certificate sink p c → IsUnjudged problem certificate status → (status ≡ OutOfMemory) ⊎ IsAnswer p c status
unjudged_ends laws problem certificate sink p c result well (stops_at_problem status not untouched) =
    subst (λ (s : CheckStatus). (s ≡ OutOfMemory) ⊎ IsAnswer p c s) (sym not.status_is) (problem_unread laws problem p c not.stop well.tells_problem not.is)
unjudged_ends laws problem certificate sink p c result well (stops_at_certificate bytes status reads not) =
    subst (λ (s : CheckStatus). (s ≡ OutOfMemory) ⊎ IsAnswer p c s) (sym not.status_is)
    (certificate_unread laws certificate p c not.stop (read_short laws max_problem_bytes problem p bytes well.tells_problem.told reads) well.tells_certificate not.is)
unjudged_ends laws problem certificate sink p c result well (has_no_verdict first second status reads are none) =
    let p_is = laws.read max_problem_bytes problem p first well.tells_problem.told reads in
    let c_is = laws.read max_certificate_bytes certificate c second well.tells_certificate.told are in
    let short : AreShort p c = record {
      problem_is = read_short laws max_problem_bytes problem p first well.tells_problem.told reads;
      certificate_is = read_short laws max_certificate_bytes certificate c second well.tells_certificate.told are;
    } in
    unjudged laws p c status short (subst (λ (b : List ℕ). HasNoVerdict p b status) c_is (subst (λ (b : List ℕ). HasNoVerdict b second status) p_is none))

judged_ends : AreOneAnswer → {E : Type 0} (f : Field E) (problem certificate sink : Stream) (p c : List ℕ) (v : Verdict) → GoesWell problem certificate sink p c → Judges f problem certificate v → IsAnswer p c (verdict_status v)
judged_ends laws f problem certificate sink p c v well judged =
    let p_is = laws.read max_problem_bytes problem p judged.problem_bytes well.tells_problem.told judged.reads_problem in
    let c_is = laws.read max_certificate_bytes certificate c judged.certificate_bytes well.tells_certificate.told judged.reads_certificate in
    let short : AreShort p c = record {
      problem_is = read_short laws max_problem_bytes problem p judged.problem_bytes well.tells_problem.told judged.reads_problem;
      certificate_is = read_short laws max_certificate_bytes certificate c judged.certificate_bytes well.tells_certificate.told judged.reads_certificate;
    } in
    with_verdict v short (subst (λ (b : List ℕ). IsVerdict p b v) c_is (subst (λ (b : List ℕ). IsVerdict b judged.certificate_bytes v) p_is judged.is_verdict))

-- a check that went well ends in the answer of its bytes, or for want of memory
answered : AreOneAnswer → {E : Type 0} (f : Field E) (words : List (List ℕ)) (problem certificate sink : Stream) (p c : List ℕ) (status : CheckStatus)
    → GoesWell problem certificate sink p c → AsksCheck words → CheckEnds f words problem certificate sink status → (status ≡ OutOfMemory) ⊎ IsAnswer p c status
answered laws f words problem certificate sink p c result well two (by_words other) = absurd (other two.two)
answered laws f words problem certificate sink p c result well two (by_migration status asks same is) = absurd (true≢false (sym asks ∙ two.plain))
answered laws f words problem certificate sink p c result well two (by_inputs status same is) = unjudged_ends laws problem certificate sink p c status well is
answered laws f words problem certificate sink p c result well two (by_verdict v same judged wrote) = inr (judged_ends laws f problem certificate sink p c v well judged)
answered laws f words problem certificate sink p c result well two (by_sink v same judged rose wrote) = absurd (well.quiet rose)
answered laws f words problem certificate sink p c result well two (by_memory same) = inl refl

pub two_words : (words : List (List ℕ)) → asks_migration words ≡ true → length words ≡ 2
two_words [] e = absurd (true≢false (sym e))
two_words (w ∷ []) e = absurd (true≢false (sym e))
two_words (w ∷ v ∷ []) e = refl
two_words (w ∷ v ∷ u ∷ ws) e = absurd (true≢false (sym e))

pub usage_ends : {E : Type 0} (f : Field E) (words : List (List ℕ)) (problem certificate sink : Stream) (status : CheckStatus) → length words ≢ 2 → CheckEnds f words problem certificate sink status → status ≡ Usage
usage_ends f words problem certificate sink result other (by_words is) = refl
usage_ends f words problem certificate sink result other (by_migration status asks same is) = absurd (other (two_words words asks))
usage_ends f words problem certificate sink result other (by_inputs status two is) = absurd (other two.two)
usage_ends f words problem certificate sink result other (by_verdict v two judged wrote) = absurd (other two.two)
usage_ends f words problem certificate sink result other (by_sink v two judged rose wrote) = absurd (other two.two)
usage_ends f words problem certificate sink result other (by_memory two) = absurd (other two.two)

pub answer_ends : AreOneAnswer → {E : Type 0} (f : Field E) (words : List (List ℕ)) (problem certificate sink : Stream) (p c : List ℕ) (asked status : CheckStatus)
    → GoesWell problem certificate sink p c → AsksCheck words → IsAnswer p c asked → CheckEnds f words problem certificate sink status → (status ≡ asked) ⊎ (status ≡ OutOfMemory)
answer_ends laws f words problem certificate sink p c asked status well two is ends =
    elim (answered laws f words problem certificate sink p c status well two ends) [ inl e ↦ inr e | inr found ↦ inl (one_answer laws p c status asked found is) ]

-- the answer of bytes that can be checked
verdict_says : AreOneAnswer → (root : RootEquations) (checked : Checked) (v : Verdict) → IsJudged root checked v → IsVerdictOr root checked (verdict_status v)
verdict_says laws root checked (verdict.Accepted leaves opens) accepts = inl (record { leaves = leaves; opens = opens; accepts = accepts; is = refl })
verdict_says laws root checked (verdict.Refused part number cause) refused = inr (inl (record {
  part = part;
  number = number;
  cause = cause;
  not_accepted = λ accepted. not_both laws root checked part number cause accepted refused;
  refused = refused;
  is = refl;
}))

none_left : AreOneAnswer → (p c : List ℕ) (root : RootEquations) (checked : Checked) (status : CheckStatus) → CanBeChecked p c root checked → HasNoVerdict p c status → status ≢ OutOfMemory → ⊥
none_left laws p c root checked result can (no_root why is) apart = apart (ap root_status (laws.no_stop p can.stated root why can.has_root is))
none_left laws p c root checked result can (no_text stated twin fault has is) apart = apart (ap text_status (laws.no_fault c checked fault can.is_text is))
none_left laws p c root checked result can no_memory apart = apart refl

checked_ends : AreOneAnswer → (p c : List ℕ) (root : RootEquations) (checked : Checked) (status : CheckStatus) → CanBeChecked p c root checked → IsAnswer p c status → IsVerdictOr root checked status
checked_ends laws p c root checked result can (long_problem over) = absurd (too_far max_problem_bytes p over can.short.problem_is)
checked_ends laws p c root checked result can (long_certificate short over) = absurd (too_far max_certificate_bytes c over can.short.certificate_is)
checked_ends laws p c root checked result can (without_verdict status short none apart) = absurd (none_left laws p c root checked status can none apart)
checked_ends laws p c root checked result can (with_verdict v short is) =
    let root_is = laws.one_root p is.stated can.stated is.root root is.has_root can.has_root in
    let checked_is = laws.one_text c is.checked checked is.is_text can.is_text in
    verdict_says laws root checked v (subst (λ (d : Checked). IsJudged root d v) checked_is (subst (λ (r : RootEquations). IsJudged r is.checked v) root_is is.judged))

pub verdict_ends : AreOneAnswer → {E : Type 0} (f : Field E) (words : List (List ℕ)) (problem certificate sink : Stream) (p c : List ℕ) (root : RootEquations) (checked : Checked) (status : CheckStatus)
    → GoesWell problem certificate sink p c → AsksCheck words → CanBeChecked p c root checked → CheckEnds f words problem certificate sink status → IsVerdictOr root checked status
verdict_ends laws f words problem certificate sink p c root checked status well two can ends =
    elim (answered laws f words problem certificate sink p c status well two ends) [ inl e ↦ inr (inr e) | inr found ↦ checked_ends laws p c root checked status can found ]
