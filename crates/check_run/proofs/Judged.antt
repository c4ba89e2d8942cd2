-- What a check says of both inputs, from the verdict on their bytes.
use Rattle.std.specs.Prelude.{◌≡◌, ◌↔◌, ℕ, List, MatchResult, Ok, Err}
use Rattle.std.specs.declared.result.Result.{Result}
use Rattle.field_laws.specs.Field.{Field, AllElements}
use Rattle.derive_lines.specs.Refuting.{AllVanish}
use Rattle.sparse_poly.specs.declared.Term.{Term}
use Rattle.leaf_cert.specs.Leaves.{Meets}
use Rattle.leaf_cert.specs.declared.certificate.Certificate.{Certificate}
use Rattle.ring_file.specs.Problems.{Stated}
use Rattle.root_system.specs.Forms.{RootEquations}
use Rattle.root_system.specs.Root.{AreRootEquations}
use Rattle.root_system.specs.Solution.{Solution}
use Rattle.root_input.specs.Inputs.{HasRoot}
use Rattle.root_input.specs.Streams.{Stream, ReadsAll, max_problem_bytes}
use Rattle.case_history.specs.Replay.{Accepted as IsAccepted}
use Rattle.case_history.specs.JustOne.{MeetsJustOneLeaf}
use Rattle.check_run.specs.Verdicts.{IsJudged, IsVerdict, HasNoVerdict}
use Rattle.check_run.specs.Inputs.{max_certificate_bytes}
use Rattle.check_run.specs.Outcomes.{Covers, Judges, IsUnjudged, has_no_verdict}
use Rattle.check_run.specs.declared.status.Verdict.{Verdict}
use Rattle.check_run.specs.declared.status.Verdict.TheVariants.{Accepted, Refused}
use Rattle.check_run.specs.declared.status.CheckStatus.{CheckStatus}

-- what the laws of roots and certificates say in the field
pub record CoversZeros {E : Type 0} (f : Field E) : Type 0 where
  pub root_law : (p : Stated) (x : List E) (qs : List (List Term)) → AllElements f x → AreRootEquations p qs → AllVanish f x qs ↔ Solution f p x
  pub accepted_law : (x : List E) (unknowns : ℕ) (qs : List (List Term)) (c : Certificate) → AllElements f x → IsAccepted unknowns qs c → MeetsJustOneLeaf (AllVanish f x qs) (Meets f x) c.entries

-- what is accepted for the root of a problem covers its solutions
accepted_covers : {E : Type 0} (f : Field E) → CoversZeros f → (bytes : List ℕ) (stated : Stated) (root : RootEquations) (c : Certificate) → HasRoot bytes stated root
    → IsAccepted root.unknowns root.equations c → Covers f stated c
accepted_covers f laws bytes stated root c has accepted x elements =
    let same = laws.root_law stated x root.equations elements has.is_root.are_equations in
    let zeros = laws.accepted_law x root.unknowns root.equations c elements accepted in
    record { some = λ solution. zeros.some (same.1 solution); only = λ place is. same.0 (zeros.only place is); one = zeros.one }

covers : {E : Type 0} (f : Field E) → CoversZeros f → (bytes : List ℕ) (stated : Stated) (root : RootEquations) (c : Certificate) (v : Verdict) (leaves opens : ℕ) → HasRoot bytes stated root
    → IsJudged root c v → v ≡ Accepted leaves opens → Covers f stated c
covers f laws bytes stated root c (Accepted n o) leaves opens has judged e = accepted_covers f laws bytes stated root c has judged.accepted
covers f laws bytes stated root c (Refused part number cause) leaves opens has judged e = absurd (cc)

pub judged_or_not : {E : Type 0} (f : Field E) → CoversZeros f → (problem certificate : Stream) (first second : List ℕ) (result : Result Verdict CheckStatus)
    → ReadsAll max_problem_bytes problem first → ReadsAll max_certificate_bytes certificate second
    → MatchResult result (IsVerdict first second) (HasNoVerdict first second) → MatchResult result (Judges f problem certificate) (IsUnjudged problem certificate)
judged_or_not f laws problem certificate first second (Ok v) reads are is = record {
  problem_bytes = first;
  certificate_bytes = second;
  reads_problem = reads;
  reads_certificate = are;
  is_verdict = is;
  covers = λ leaves opens e. covers f laws first is.stated is.root is.checked v leaves opens is.has_root is.judged e;
}
judged_or_not f laws problem certificate first second (Err status) reads are none = has_no_verdict first second status reads are none
