-- The cone of a refutation has its variables below n where the decisions and lines have.
use Rattle.std.specs.Prelude.{◌≡◌, ℕ, zero, suc, List, [], ◌∷◌, All, slice_get, slice_index_or}
use Rattle.std.proofs.Common.{sym, subst}
use Rattle.std.proofs.lemmas.Option.{none-some, same_Some, slice_get-get_or}
use Rattle.std.specs.List.{AllByRecursion}
use Rattle.std.specs.declared.option.Option.TheVariants.{Some}
use Rattle.sparse_poly.specs.declared.Term.{Term}
use Rattle.derive_lines.specs.declared.parts.Decision.{Decision}
use Rattle.derive_lines.specs.declared.parts.Item.{Item}
use Rattle.derive_lines.specs.declared.parts.Line.{Line}
use Rattle.refute_cert.specs.Parts.{RefutationParts}
use Rattle.refute_cert.specs.Cone.{StandsAt, IsRenumberedLine, IsCone}
use Rattle.sparse_poly.specs.Reads.{HasVariablesBelow}
use Rattle.leaf_cert.specs.Variables.{HasDecisionVariablesBelow, HasLineVariablesBelow, HaveDerivationVariablesBelow}
use Rattle.legal_ranges.proofs.Cases.{AreDecisionsBelow}
use Rattle.legal_ranges.proofs.Clearings.{AreLinesBelow}

-- what holds of each element holds of the one at a place
pub each_at : {X : Type 0} (P : X → Type 0) (xs : List X) (k : ℕ) (x : X) → AllByRecursion P xs → slice_get xs k ≡ Some x → P x
each_at P [] k x h e = absurd (none-some x e)
each_at P (y ∷ ys) zero x h e = subst P (same_Some y x e) h.0
each_at P (y ∷ ys) (suc k) x h e = each_at P ys k x h.1 e

pub all_at : {X : Type 0} (P : X → Type 0) (xs : List X) → ((i : ℕ) (x : X) → slice_get xs i ≡ Some x → P x) → All P xs
all_at P xs h i d l = h i (slice_index_or xs i d) (slice_get-get_or xs i d l)

module _ (n : ℕ) where
  line_below : (js ks : List ℕ) (line new : Line) → IsRenumberedLine js ks line new → HasLineVariablesBelow n line → HasLineVariablesBelow n new
  line_below js ks line new r h = record {
    l = subst (HasVariablesBelow n) (sym r.l) h.l;
    a = subst (HasVariablesBelow n) (sym r.a) h.a;
    m = subst (HasVariablesBelow n) (sym r.m) h.m;
    made = subst (HasVariablesBelow n) (sym r.made) h.made;
  }

  pub cone_below : (root : List (List Term)) (ds : List Decision) (lines : List Line) (end : Item) (r : RefutationParts) → AreDecisionsBelow n ds → AreLinesBelow n lines → IsCone root ds lines end r → HaveDerivationVariablesBelow n r.pattern r.lines
  cone_below root ds lines end r d l c = record {
    decisions = all_at (HasDecisionVariablesBelow n) r.pattern decision;
    lines = all_at (HasLineVariablesBelow n) r.lines line;
  }
    where
      decision : (i : ℕ) (x : Decision) → slice_get r.pattern i ≡ Some x → HasDecisionVariablesBelow n x
      decision i x e =
          let s : StandsAt ds c.decisions_kept i (λ (old : Decision). old ≡ x) = c.pattern i x e in
          subst (HasDecisionVariablesBelow n) s.so (each_at (HasDecisionVariablesBelow n) ds s.place s.old d s.is)

      line : (i : ℕ) (x : Line) → slice_get r.lines i ≡ Some x → HasLineVariablesBelow n x
      line i x e =
          let s : StandsAt lines c.lines_kept i (λ (old : Line). IsRenumberedLine c.decisions_kept c.lines_kept old x) = c.each_line i x e in
          line_below c.decisions_kept c.lines_kept s.old x s.so (each_at (HasLineVariablesBelow n) lines s.place s.old l s.is)
