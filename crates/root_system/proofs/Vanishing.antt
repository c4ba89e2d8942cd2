-- Where a property holds of all differences, and where of their primitive parts.
use Rattle.std.specs.Prelude.{◌≡◌, ◌↔◌, List, [], ◌++◌, All, Contains}
use Rattle.std.proofs.Common.{sym, subst, inl, inr}
use Rattle.std.specs.Result.{IfOk}
use Rattle.std.specs.declared.result.Result.{Result}
use Rattle.std.specs.declared.result.Result.TheVariants.{Ok, Err}
use Rattle.std.proofs.lemmas.List.Elements.{All-append, All-contains, All-contains_itself, All-weaker, Contains-append_left, Contains-append_right}
use Rattle.sparse_poly.specs.declared.Term.{Term}
use Rattle.sparse_poly.specs.Primitive.{IsPrimitivePart}
use Rattle.root_system.specs.PrimitiveParts.{ArePrimitiveParts}

-- two facts of one result
pub IfOk-both : {T E : Type 0} (r : Result T E) (P Q R : T → Type 0) → ((v : T) → P v → Q v → R v) → IfOk r P → IfOk r Q → IfOk r R
IfOk-both (Ok v) P Q R h p q = h v p q
IfOk-both (Err e) P Q R h p q = tt

module _ (P : List Term → Type 0) where
  -- P does not tell a polynomial from its primitive part, and holds of zero
  pub all_of_parts : P [] → ((p q : List Term) → IsPrimitivePart p q → P p ↔ P q) → (ps qs : List (List Term)) → ArePrimitiveParts ps qs → All P ps ↔ All P qs
  all_of_parts zero same ps qs are = (
    λ h. All-weaker (Contains qs) P (λ q c. let i = are.each q c in (same i.poly q i.part).0 (All-contains P ps i.poly h i.is)) qs (All-contains_itself qs),
    λ h.
        All-weaker (Contains ps) P
        (λ p c.
        let i = are.all p c in
        (same p i.part i.is).1 (elim i.listed [ inl e ↦ subst P (sym e) zero | inr d ↦ All-contains P qs i.part h d ])) ps (All-contains_itself ps),
  )

  all_left : (ps qs : List (List Term)) → All P (ps ++ qs) → All P ps
  all_left ps qs h = All-weaker (Contains ps) P (λ p c. All-contains P (ps ++ qs) p h (Contains-append_left ps qs p c)) ps (All-contains_itself ps)

  all_right : (ps qs : List (List Term)) → All P (ps ++ qs) → All P qs
  all_right ps qs h = All-weaker (Contains qs) P (λ p c. All-contains P (ps ++ qs) p h (Contains-append_right ps qs p c)) qs (All-contains_itself qs)

  pub all_four : (ps qs rs ss all : List (List Term)) → all ≡ ps ++ qs ++ rs ++ ss → All P all ↔ All P ps × All P qs × All P rs × All P ss
  all_four ps qs rs ss all e = (
    λ h.
        let a = subst (All P) e h in
        let three = all_left (ps ++ qs ++ rs) ss a in
        let two = all_left (ps ++ qs) rs three in
        (all_left ps qs two, all_right ps qs two, all_right (ps ++ qs) rs three, all_right (ps ++ qs ++ rs) ss a),
    λ h. subst (All P) (sym e) (All-append P (ps ++ qs ++ rs) ss (All-append P (ps ++ qs) rs (All-append P ps qs h.0 h.1) h.2) h.3),
  )
