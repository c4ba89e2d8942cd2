-- The numbers of a board's certificate are in range.
use Rattle.std.specs.Prelude.{◌≤◌, ℕ, All}
use Rattle.std.proofs.Common.{sym, subst}
use Rattle.std.proofs.lemmas.List.Sorted.{All-permutation, IsPermutation-reverse}
use Rattle.leaf_cert.specs.declared.certificate.Certificate.{Certificate}
use Rattle.leaf_cert.specs.Variables.{HasEntryVariablesBelow}
use Rattle.sparse_poly.specs.Reads.{HasVariablesBelow}
use Rattle.root_system.specs.Forms.{RootEquations, IsRootForm}
use Rattle.case_ledger.specs.State.{BoardState}
use Rattle.case_ledger.specs.Board.{IsCertificate}
use Rattle.cert_text.specs.Text.{HasHeadInRange, HasUnknownsAlone}

pub head_in_range : (b : BoardState) (c : Certificate) → IsCertificate b c → IsRootForm b.root → b.budget ≤ 1000000 → HasHeadInRange c
head_in_range b c made form within = record {
  unknowns = subst (λ (n : ℕ). n ≤ 4096) (sym made.unknowns) form.few_unknowns;
  equations = subst (λ (n : ℕ). n ≤ 65536) (sym made.equations) form.few_equations;
  budget = subst (λ (n : ℕ). n ≤ 1000000) (sym made.budget) within;
}

-- the variables of the root are unknowns
pub root_below : (root : RootEquations) → IsRootForm root → All (HasVariablesBelow root.unknowns) root.equations
root_below root form = λ i d lt. (form.each i d lt).below

pub unknowns_alone : (b : BoardState) (c : Certificate) → IsCertificate b c → All (HasEntryVariablesBelow b.root.unknowns) b.history → HasUnknownsAlone c
unknowns_alone b c made below =
    rw (made.unknowns, made.entries) (All-permutation (HasEntryVariablesBelow b.root.unknowns) b.history _ (IsPermutation-reverse b.history) below)
