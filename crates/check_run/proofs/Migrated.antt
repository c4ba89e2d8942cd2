-- What words and told bytes say of how a migration ends.
use Rattle.std.specs.Prelude.{◌≡◌, ◌⊎◌, ◌<◌, ◌≤◌, ℕ, true, List, length, refl}
use Rattle.std.proofs.Common.{sym, ◌∙◌, ap, subst, inl, inr, arith, true≢false}
use Rattle.field_laws.specs.Field.{Field}
use Rattle.braid_io.specs.declared.whole.ReadStop.{ReadStop}
use Rattle.braid_io.specs.declared.whole.ReadStop.TheVariants.{Fault, TooLong as long, OutOfMemory as no_read_memory}
use Rattle.leaf_cert.specs.declared.certificate.Certificate.{Certificate as Read}
use Rattle.root_input.specs.Streams.{Stream, TellsAll, IsReadStop}
use Rattle.cert_text.specs.Text.{IsText}
use Rattle.cert_read.specs.Faults.{IsCertFault}
use Rattle.cert_read.specs.declared.reader.CertFault.{CertFault}
use Rattle.cert_read.specs.declared.reader.CertFault.TheVariants.{Truncated, Number, Syntax, OutOfMemory as no_text_memory}
use Rattle.check_run.specs.Words.{asks_migration}
use Rattle.check_run.specs.Statuses.{read_status, text_status}
use Rattle.check_run.specs.Inputs.{max_certificate_bytes}
use Rattle.check_run.specs.Migrations.{IsNotMigrated, MigrationEnds, not_read, not_text, by_certificate, by_text, by_fault, by_lack}
use Rattle.check_run.specs.Outcomes.{CheckEnds, by_words, by_migration, by_inputs, by_verdict, by_sink, by_memory}
use Rattle.check_run.specs.Completeness.{MigratesWell, IsMigrationAnswer, too_long, faulty, migrates}
use Rattle.check_run.specs.declared.status.Which.TheVariants as which
use Rattle.check_run.specs.declared.status.CheckStatus.{CheckStatus}
use Rattle.check_run.specs.declared.status.CheckStatus.TheVariants.{Migrated, Certificate, OutOfMemory}
use Rattle.check_run.proofs.Told.{AreOneAnswer, two_words, read_short}

-- no bytes are too long and short
over : (bytes : List ℕ) → max_certificate_bytes < length bytes → length bytes ≤ max_certificate_bytes → ⊥
over bytes o s = omega (arith, o, s)

-- ---- one answer

one_answer : AreOneAnswer → (bytes : List ℕ) (s t : CheckStatus) → IsMigrationAnswer bytes s → IsMigrationAnswer bytes t → s ≡ t
one_answer laws bytes s t (too_long o) (too_long p) = refl
one_answer laws bytes s t (too_long o) (faulty fault short is apart) = absurd (over bytes o short)
one_answer laws bytes s t (too_long o) (migrates read short is) = absurd (over bytes o short)
one_answer laws bytes s t (faulty fault short is apart) (too_long o) = absurd (over bytes o short)
one_answer laws bytes s t (faulty fault short is apart) (faulty other few are away) = ap Certificate (laws.one_fault bytes fault other is are apart away)
one_answer laws bytes s t (faulty fault short is apart) (migrates read few are) = absurd (apart (laws.no_fault bytes read fault are is))
one_answer laws bytes s t (migrates read short is) (too_long o) = absurd (over bytes o short)
one_answer laws bytes s t (migrates read short is) (faulty fault few are away) = absurd (away (laws.no_fault bytes read fault is are))
one_answer laws bytes s t (migrates read short is) (migrates other few are) = ap (λ (c : Read). Migrated (length c.entries)) (laws.one_text bytes read other is are)

-- ---- what a migration answers

not_all : AreOneAnswer → (source : Stream) (bytes : List ℕ) (stop : ReadStop) → TellsAll source bytes → IsReadStop max_certificate_bytes source stop → (read_status which.Certificate stop ≡ OutOfMemory) ⊎ IsMigrationAnswer bytes (read_status which.Certificate stop)
not_all laws source bytes Fault tells is = absurd (tells.quiet is.0)
not_all laws source bytes long tells is = inr (too_long (laws.over max_certificate_bytes source bytes tells.told is))
not_all laws source bytes no_read_memory tells is = inl refl

fault_answer : (bytes : List ℕ) (fault : CertFault) → length bytes ≤ max_certificate_bytes → IsCertFault bytes fault → (text_status fault ≡ OutOfMemory) ⊎ IsMigrationAnswer bytes (text_status fault)
fault_answer bytes Truncated short is = inr (faulty Truncated short is (λ e. cc))
fault_answer bytes (Number line) short is = inr (faulty (Number line) short is (λ e. cc))
fault_answer bytes (Syntax line) short is = inr (faulty (Syntax line) short is (λ e. cc))
fault_answer bytes no_text_memory short is = inl refl

unwritten : AreOneAnswer → (certificate sink : Stream) (bytes : List ℕ) (status : CheckStatus) → MigratesWell certificate sink bytes → IsNotMigrated certificate status → (status ≡ OutOfMemory) ⊎ IsMigrationAnswer bytes status
unwritten laws certificate sink bytes result well (not_read status not) =
    subst (λ (s : CheckStatus). (s ≡ OutOfMemory) ⊎ IsMigrationAnswer bytes s) (sym not.status_is) (not_all laws certificate bytes not.stop well.tells not.is)
unwritten laws certificate sink bytes result well (not_text all fault reads is) =
    let same = laws.read max_certificate_bytes certificate bytes all well.tells.told reads in
    fault_answer bytes fault (read_short laws max_certificate_bytes certificate bytes all well.tells.told reads) (subst (λ (b : List ℕ). IsCertFault b fault) same is)

migrated : AreOneAnswer → (certificate sink : Stream) (bytes : List ℕ) (status : CheckStatus) → MigratesWell certificate sink bytes → MigrationEnds certificate sink status → (status ≡ OutOfMemory) ⊎ IsMigrationAnswer bytes status
migrated laws certificate sink bytes result well (by_certificate status is) = unwritten laws certificate sink bytes status well is
migrated laws certificate sink bytes result well (by_text read reads wrote) =
    let same = laws.read max_certificate_bytes certificate bytes reads.bytes well.tells.told reads.reads in
    inr (migrates read (read_short laws max_certificate_bytes certificate bytes reads.bytes well.tells.told reads.reads) (subst (λ (b : List ℕ). IsText b read) same reads.is_text))
migrated laws certificate sink bytes result well (by_fault read reads rose wrote) = absurd (well.quiet rose)
migrated laws certificate sink bytes result well by_lack = inl refl

answered : AreOneAnswer → {E : Type 0} (f : Field E) (words : List (List ℕ)) (problem certificate sink : Stream) (bytes : List ℕ) (status : CheckStatus)
    → MigratesWell certificate sink bytes → asks_migration words ≡ true → CheckEnds f words problem certificate sink status → (status ≡ OutOfMemory) ⊎ IsMigrationAnswer bytes status
answered laws f words problem certificate sink bytes result well asks (by_words other) = absurd (other (two_words words asks))
answered laws f words problem certificate sink bytes result well asks (by_migration status same untouched is) = migrated laws certificate sink bytes status well is
answered laws f words problem certificate sink bytes result well asks (by_inputs status check is) = absurd (true≢false (sym asks ∙ check.plain))
answered laws f words problem certificate sink bytes result well asks (by_verdict v check judged wrote) = absurd (true≢false (sym asks ∙ check.plain))
answered laws f words problem certificate sink bytes result well asks (by_sink v check judged rose wrote) = absurd (true≢false (sym asks ∙ check.plain))
answered laws f words problem certificate sink bytes result well asks (by_memory check) = absurd (true≢false (sym asks ∙ check.plain))

pub migration_ends : AreOneAnswer → {E : Type 0} (f : Field E) (words : List (List ℕ)) (problem certificate sink : Stream) (bytes : List ℕ) (asked status : CheckStatus)
    → MigratesWell certificate sink bytes → asks_migration words ≡ true → IsMigrationAnswer bytes asked → CheckEnds f words problem certificate sink status → (status ≡ asked) ⊎ (status ≡ OutOfMemory)
migration_ends laws f words problem certificate sink bytes asked status well asks is ends =
    elim (answered laws f words problem certificate sink bytes status well asks ends) [ inl e ↦ inr e | inr found ↦ inl (one_answer laws bytes status asked found is) ]
