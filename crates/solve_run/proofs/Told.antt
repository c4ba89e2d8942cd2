-- What words and told bytes say of how a run ends.
use Rattle.std.specs.Prelude.{◌≡◌, ◌≢◌, ◌⊎◌, ◌<◌, ◌≤◌, ℕ, Option, None, Some, List, length, refl}
use Rattle.std.proofs.Common.{sym, ap, subst, inl, inr, arith}
use Rattle.field_laws.specs.Field.{Field}
use Rattle.braid_io.specs.declared.whole.ReadStop.TheVariants.{TooLong as over_limit}
use Rattle.ring_file.specs.Problems.{Stated}
use Rattle.root_system.specs.Forms.{RootEquations, max_equations}
use Rattle.root_system.specs.Root.{IsRootOf, IsRootFault}
use Rattle.root_system.specs.declared.root.RootFault.{RootFault}
use Rattle.root_system.specs.declared.root.RootFault.TheVariants.{TooManyUnknowns as many_unknowns, TooManyEquations as many_equations, OutOfMemory as no_root_memory}
use Rattle.root_input.specs.Streams.{Stream, Tells, TellsAll, ReadsAll, IsReadStop, max_problem_bytes}
use Rattle.root_input.specs.Inputs.{HasRoot, IsRootStop, StatesNoRoot, IsInputFault}
use Rattle.root_input.specs.Faults.{root_stop, input_fault}
use Rattle.root_input.specs.declared.fault.InputFault.{InputFault}
use Rattle.root_input.specs.declared.fault.InputFault.TheVariants as input
use Rattle.root_input.specs.declared.fault.RootStop.{RootStop}
use Rattle.root_input.specs.declared.fault.RootStop.TheVariants as stops
use Rattle.root_input.specs.declared.fault.RootStop.TheVariants.{OutOfMemory as no_stop_memory}
use Rattle.ring_make.specs.Made.{IsPointed}
use Rattle.run_words.specs.Words.{IsSettings, IsUsageFault}
use Rattle.run_words.specs.declared.settings.Made.{Made}
use Rattle.run_words.specs.declared.settings.Made.TheVariants.{Cyclic, Cube}
use Rattle.run_words.specs.declared.settings.Settings.{Settings}
use Rattle.run_words.specs.declared.settings.UsageKind.{UsageKind}
use Rattle.solve_run.specs.Problems.{IsMadeProblem, MakesNoRoot, IsMadeFault, GivesRoot, IsProblemBy}
use Rattle.solve_run.specs.Statuses.{input_status}
use Rattle.solve_run.specs.Outcomes.{Refuses, Certifies, Ends, by_words, by_source, by_leaves, by_open_leaves, by_sink, by_memory}
use Rattle.solve_run.specs.Completeness.{TellsFor, GoesWell, CanBeSearched, IsSearchedOr}
use Rattle.solve_run.specs.declared.status.Status.{Status}
use Rattle.solve_run.specs.declared.status.Status.TheVariants.{Usage, TooLong, OutOfMemory}

-- what the laws of words, readings, roots and made rings say
pub record AreToldApart : Type 0 where
  pub one_settings : (words : List (List ℕ)) (s t : Settings) → IsSettings words s → IsSettings words t → s ≡ t
  pub not_both : (words : List (List ℕ)) (s : Settings) (kind : UsageKind) → IsSettings words s → IsUsageFault words kind → ⊥
  pub one_usage : (words : List (List ℕ)) (kind other : UsageKind) → IsUsageFault words kind → IsUsageFault words other → kind ≡ other
  pub read : (limit : ℕ) (source : Stream) (bytes all : List ℕ) → Tells source bytes → ReadsAll limit source all → all ≡ bytes
  pub over : (limit : ℕ) (source : Stream) (bytes : List ℕ) → Tells source bytes → IsReadStop limit source over_limit → limit < length bytes
  pub no_stop : (bytes : List ℕ) (problem : Stated) (root : RootEquations) (stop : RootStop) → HasRoot bytes problem root → IsRootStop bytes stop → stop ≡ no_stop_memory
  pub one_stop : (bytes : List ℕ) (stop other : RootStop) → IsRootStop bytes stop → IsRootStop bytes other → stop ≢ no_stop_memory → other ≢ no_stop_memory → stop ≡ other
  pub one_made : (n : ℕ) (product : ℕ → ℕ → ℕ) (p q : Stated) → IsPointed n product p → IsPointed n product q → p ≡ q
  pub no_root_fault : (p : Stated) (limit : ℕ) (root : RootEquations) (fault : RootFault) → IsRootOf p limit root → IsRootFault p limit fault → fault ≡ no_root_memory
  pub one_root_fault : (p : Stated) (limit : ℕ) (fault other : RootFault) → IsRootFault p limit fault → IsRootFault p limit other → fault ≢ no_root_memory → other ≢ no_root_memory → fault ≡ other

pub usage_ends : {E : Type 0} (f : Field E) (words : List (List ℕ)) (source sink : Stream) (kind : UsageKind) (status : Status) → AreToldApart → IsUsageFault words kind → Ends f words source sink status → (status ≡ Usage kind) ⊎ (status ≡ OutOfMemory)
usage_ends f words source sink kind result laws fault (by_words other is) = inl (ap Usage (laws.one_usage words other kind is fault))
usage_ends f words source sink kind result laws fault (by_source settings status are refused) = absurd (laws.not_both words settings kind are fault)
usage_ends f words source sink kind result laws fault (by_leaves leaves c) = absurd (laws.not_both words c.settings kind c.are_settings fault)
usage_ends f words source sink kind result laws fault (by_open_leaves leaves opens some c) = absurd (laws.not_both words c.settings kind c.are_settings fault)
usage_ends f words source sink kind result laws fault (by_sink leaves opens rose c) = absurd (laws.not_both words c.settings kind c.are_settings fault)
usage_ends f words source sink kind result laws fault by_memory = inr refl

-- ---- bytes without a root

abbrev stop_status : RootStop → Status
stop_status stop = input_status (input_fault stop)

-- how bytes fail
data Fails (bytes : List ℕ) : Status → Type 0 where
  too_long : max_problem_bytes < length bytes → Fails bytes TooLong
  no_root : (stop : RootStop) → length bytes ≤ max_problem_bytes → IsRootStop bytes stop → stop ≢ no_stop_memory → Fails bytes (stop_status stop)

rootless : AreToldApart → (source : Stream) (bytes : List ℕ) (stop : RootStop) → TellsAll source bytes → StatesNoRoot source stop → stop ≢ no_stop_memory → Fails bytes (stop_status stop)
rootless laws source bytes stop tells none apart =
    let same = laws.read max_problem_bytes source bytes none.bytes tells.told none.reads in
    no_root stop (subst (λ (b : List ℕ). length b ≤ max_problem_bytes) same none.reads.short) (subst (λ (b : List ℕ). IsRootStop b stop) same none.is_stop) apart

-- a source that told its bytes and had no fault is refused for them, or for want of memory
faulty : AreToldApart → (source : Stream) (bytes : List ℕ) (fault : InputFault) → TellsAll source bytes → IsInputFault source fault → (input_status fault ≡ OutOfMemory) ⊎ Fails bytes (input_status fault)
faulty laws source bytes input.ReadFault tells is = absurd (tells.quiet is.0)
faulty laws source bytes input.TooLong tells is = inr (too_long (laws.over max_problem_bytes source bytes tells.told is))
faulty laws source bytes (input.Problem fault) tells is = inr (rootless laws source bytes (stops.Problem fault) tells is (λ e. cc))
faulty laws source bytes (input.TooManyUnknowns count) tells is = inr (rootless laws source bytes (stops.TooManyUnknowns count) tells is (λ e. cc))
faulty laws source bytes (input.TooManyEquations count) tells is = inr (rootless laws source bytes (stops.TooManyEquations count) tells is (λ e. cc))
faulty laws source bytes input.OutOfMemory tells is = inl refl

too_far : (bytes : List ℕ) → max_problem_bytes < length bytes → length bytes ≤ max_problem_bytes → ⊥
too_far bytes long short = omega (arith, long, short)

-- bytes fail in one way
one_failure : AreToldApart → (bytes : List ℕ) (a b : Status) → Fails bytes a → Fails bytes b → a ≡ b
one_failure laws bytes a b (too_long p) (too_long q) = refl
one_failure laws bytes a b (too_long p) (no_root stop short is apart) = absurd (too_far bytes p short)
one_failure laws bytes a b (no_root stop short is apart) (too_long p) = absurd (too_far bytes p short)
one_failure laws bytes a b (no_root stop short is apart) (no_root other few are away) = ap stop_status (laws.one_stop bytes stop other is are apart away)

-- bytes that state a problem with a root do not fail
no_failure : AreToldApart → (bytes : List ℕ) (p : Stated) (root : RootEquations) (status : Status) → length bytes ≤ max_problem_bytes → HasRoot bytes p root → Fails bytes status → ⊥
no_failure laws bytes p root result short has (too_long long) = too_far bytes long short
no_failure laws bytes p root result short has (no_root stop few is apart) = apart (laws.no_stop bytes p root stop has is)

-- ---- made rings without a root

-- the ring makes a problem without a root, and the status says why
data MakesNone (made : Made) : Status → Type 0 where
  makes_none : (fault : RootFault) → MakesNoRoot made fault → fault ≢ no_root_memory → MakesNone made (stop_status (root_stop fault))

made_faulty : (made : Made) (fault : InputFault) → IsMadeFault made fault → (input_status fault ≡ OutOfMemory) ⊎ MakesNone made (input_status fault)
made_faulty made input.ReadFault is = absurd is
made_faulty made input.TooLong is = absurd is
made_faulty made (input.Problem fault) is = absurd is
made_faulty made (input.TooManyUnknowns count) is = inr (makes_none (many_unknowns count) is (λ e. cc))
made_faulty made (input.TooManyEquations count) is = inr (makes_none (many_equations count) is (λ e. cc))
made_faulty made input.OutOfMemory is = inl refl

same_problem : AreToldApart → (made : Made) (p q : Stated) → IsMadeProblem made p → IsMadeProblem made q → p ≡ q
same_problem laws (Cyclic n) p q is are = laws.one_made n _ p q is are
same_problem laws (Cube k) p q is are = laws.one_made _ _ p q is are

one_cause : AreToldApart → (made : Made) (a b : Status) → MakesNone made a → MakesNone made b → a ≡ b
one_cause laws made a b (makes_none fault is apart) (makes_none other are away) =
    let same = same_problem laws made is.problem are.problem is.is_made are.is_made in
    ap (λ (g : RootFault). stop_status (root_stop g)) (laws.one_root_fault are.problem max_equations fault other (subst (λ (p : Stated). IsRootFault p max_equations fault) same is.is_fault) are.is_fault apart away)

no_cause : AreToldApart → (made : Made) (p : Stated) (root : RootEquations) (status : Status) → IsMadeProblem made p → IsRootOf p max_equations root → MakesNone made status → ⊥
no_cause laws made p root result is_made is_root (makes_none fault is apart) =
    let same = same_problem laws made is.problem p is.is_made is_made in
    apart (laws.no_root_fault p max_equations root fault is_root (subst (λ (q : Stated). IsRootFault q max_equations fault) same is.is_fault))

-- ---- both

abbrev FailsFor : Option Made → List ℕ → Status → Type 0
FailsFor None bytes status = Fails bytes status
FailsFor (Some made) bytes status = MakesNone made status

fails_for : AreToldApart → (made : Option Made) (source : Stream) (bytes : List ℕ) (status : Status) → TellsFor made source bytes → Refuses source made status → (status ≡ OutOfMemory) ⊎ FailsFor made bytes status
fails_for laws None source bytes status tells refused = subst (λ (s : Status). (s ≡ OutOfMemory) ⊎ Fails bytes s) (sym refused.becomes) (faulty laws source bytes refused.fault tells refused.is_fault)
fails_for laws (Some made) source bytes status tells refused = subst (λ (s : Status). (s ≡ OutOfMemory) ⊎ MakesNone made s) (sym refused.becomes) (made_faulty made refused.fault refused.is_fault.1)

one_failure_for : AreToldApart → (made : Option Made) (bytes : List ℕ) (a b : Status) → FailsFor made bytes a → FailsFor made bytes b → a ≡ b
one_failure_for laws None bytes a b p q = one_failure laws bytes a b p q
one_failure_for laws (Some made) bytes a b p q = one_cause laws made a b p q

-- a problem with a root does not fail
no_failure_for : AreToldApart → (made : Option Made) (bytes : List ℕ) (p : Stated) (root : RootEquations) (status : Status) → IsProblemBy made bytes p → IsRootOf p max_equations root → FailsFor made bytes status → ⊥
no_failure_for laws None bytes p root status is is_root failure = no_failure laws bytes p root status is.0 (record { is_problem = is.1; is_root = is_root }) failure
no_failure_for laws (Some made) bytes p root status is is_root failure = no_cause laws made p root status is is_root failure

-- what gives a root does not fail
no_certificate : AreToldApart → (made : Option Made) (source : Stream) (bytes : List ℕ) (p : Stated) (root : RootEquations) (status : Status) → TellsFor made source bytes → FailsFor made bytes status → GivesRoot source made p root → ⊥
no_certificate laws None source bytes p root status tells failure gives =
    let same = laws.read max_problem_bytes source bytes gives.0 tells.told gives.1.reads in
    no_failure laws bytes p root status (subst (λ (b : List ℕ). length b ≤ max_problem_bytes) same gives.1.reads.short) (subst (λ (b : List ℕ). HasRoot b p root) same gives.1.has_root) failure
no_certificate laws (Some made) source bytes p root status tells failure gives = no_cause laws made p root status gives.1.is_made gives.1.is_root failure

-- ---- the ends

-- words ask for one ring at most
same_made : AreToldApart → (words : List (List ℕ)) (s t : Settings) → IsSettings words s → IsSettings words t → s.made ≡ t.made
same_made laws words s t is are = ap (λ (r : Settings). r.made) (laws.one_settings words s t is are)

module _ {E : Type 0} (f : Field E) (source sink : Stream) (words : List (List ℕ)) (settings : Settings) (bytes : List ℕ) (laws : AreToldApart) (are : IsSettings words settings) (well : GoesWell settings.made source sink bytes) where
  pub search_ends : (status : Status) → CanBeSearched settings.made bytes → Ends f words source sink status → IsSearchedOr status
  search_ends result can (by_words kind is) = absurd (laws.not_both words settings kind are is)
  search_ends result can (by_source others status is refused) =
      let same = same_made laws words others settings is are in
      elim (fails_for laws settings.made source bytes status well.tells (subst (λ (m : Option Made). Refuses source m status) same refused)) [
        | inl e ↦ inr (inr e)
        | inr failure ↦ absurd (no_failure_for laws settings.made bytes can.problem can.root status can.is_problem can.is_root failure)
      ]
  search_ends result can (by_leaves leaves c) = inl (leaves, refl)
  search_ends result can (by_open_leaves leaves opens some c) = inr (inl (leaves, opens, refl))
  search_ends result can (by_sink leaves opens rose c) = absurd (well.quiet rose)
  search_ends result can by_memory = inr (inr refl)

  certified_fails : (IsWritten : List ℕ → Type 0) (leaves opens : ℕ) (asked : Status) → FailsFor settings.made bytes asked → Certifies f words source IsWritten leaves opens → ⊥
  certified_fails IsWritten leaves opens asked failure c =
      let same = same_made laws words c.settings settings c.are_settings are in
      no_certificate laws settings.made source bytes c.problem c.root asked well.tells failure (subst (λ (m : Option Made). GivesRoot source m c.problem c.root) same c.gives)

  -- what a failure says of each end
  failure_ends : (asked status : Status) → FailsFor settings.made bytes asked → Ends f words source sink status → (status ≡ asked) ⊎ (status ≡ OutOfMemory)
  failure_ends asked result failure (by_words kind is) = absurd (laws.not_both words settings kind are is)
  failure_ends asked result failure (by_source others status is refused) =
      let same = same_made laws words others settings is are in
      elim (fails_for laws settings.made source bytes status well.tells (subst (λ (m : Option Made). Refuses source m status) same refused)) [
        | inl e ↦ inr e
        | inr found ↦ inl (one_failure_for laws settings.made bytes status asked found failure)
      ]
  failure_ends asked result failure (by_leaves leaves c) = absurd (certified_fails _ leaves 0 asked failure c)
  failure_ends asked result failure (by_open_leaves leaves opens some c) = absurd (certified_fails _ leaves opens asked failure c)
  failure_ends asked result failure (by_sink leaves opens rose c) = absurd (well.quiet rose)
  failure_ends asked result failure by_memory = inr refl

  pub refusal_ends : (other : Stream) (asked status : Status) → TellsFor settings.made other bytes → Refuses other settings.made asked → asked ≢ OutOfMemory → Ends f words source sink status → (status ≡ asked) ⊎ (status ≡ OutOfMemory)
  refusal_ends other asked status tells refused apart ends =
      elim (fails_for laws settings.made other bytes asked tells refused) [ inl e ↦ absurd (apart e) | inr failure ↦ failure_ends asked status failure ends ]
