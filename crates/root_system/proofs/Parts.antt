-- The primitive parts of one polynomial more, and the same members in another order.
use Rattle.std.specs.Prelude.{◌≡◌, ◌≢◌, ◌<◌, ◌≤◌, ◌+◌, ◌↔◌, ℕ, length, List, [], ◌∷◌, ◌++◌, Contains, refl}
use Rattle.std.proofs.Common.{arith, subst, inl, inr, get_or, take}
use Rattle.std.proofs.lemmas.List.{take_more, take_all}
use Rattle.std.proofs.lemmas.List.Elements.{Contains-push, Contains-append_left, Contains-push_cases}
use Rattle.sparse_poly.specs.declared.Term.{Term}
use Rattle.sparse_poly.specs.Primitive.{IsPrimitivePart}
use Rattle.root_system.specs.PrimitiveParts.{IsPartOf, HasPartIn, ArePrimitiveParts}

none_contained : (p : List Term) → Contains [] p → ⊥
none_contained p h = omega (arith, h.1)

pub ArePrimitiveParts-none : ArePrimitiveParts [] []
ArePrimitiveParts-none = record { each = λ q h. absurd (none_contained q h); all = λ p h. absurd (none_contained p h) }

more_polys : (ps : List (List Term)) (p r : List Term) → IsPartOf ps r → IsPartOf (ps ++ p ∷ []) r
more_polys ps p r h = record { nonzero = h.nonzero; poly = h.poly; is = Contains-append_left ps (p ∷ []) h.poly h.is; part = h.part }

more_parts : (qs : List (List Term)) (q x : List Term) → HasPartIn qs x → HasPartIn (qs ++ q ∷ []) x
more_parts qs q x h = record { part = h.part; is = h.is; listed = elim h.listed [ inl e ↦ inl e | inr c ↦ inr (Contains-append_left qs (q ∷ []) h.part c) ] }

ArePrimitiveParts-push : (ps qs : List (List Term)) (p q : List Term) → ArePrimitiveParts ps qs → IsPrimitivePart p q → q ≢ [] → ArePrimitiveParts (ps ++ p ∷ []) (qs ++ q ∷ [])
ArePrimitiveParts-push ps qs p q a h n = record {
  each = λ r c. elim (Contains-push_cases qs q r c) [
    | inl i ↦ more_polys ps p r (a.each r i)
    | inr e ↦ subst (IsPartOf (ps ++ p ∷ [])) e (record { nonzero = n; poly = p; is = Contains-push ps p; part = h })
  ];
  all = λ x c. elim (Contains-push_cases ps p x c) [
    | inl i ↦ more_parts qs q x (a.all x i)
    | inr e ↦ subst (HasPartIn (qs ++ q ∷ [])) e (record { part = q; is = h; listed = inr (Contains-push qs q) })
  ];
}

ArePrimitiveParts-skip : (ps qs : List (List Term)) (p : List Term) → ArePrimitiveParts ps qs → IsPrimitivePart p [] → ArePrimitiveParts (ps ++ p ∷ []) qs
ArePrimitiveParts-skip ps qs p a h = record {
  each = λ r c. more_polys ps p r (a.each r c);
  all = λ x c. elim (Contains-push_cases ps p x c) [
    | inl i ↦ a.all x i
    | inr e ↦ subst (HasPartIn qs) e (record { part = []; is = h; listed = inl refl })
  ];
}

-- the step of a loop, where the next polynomial is p
pub parts_push : (ps qs parts : List (List Term)) (i : ℕ) (p q : List Term) → i < length ps → p ≡ get_or ps i p → ArePrimitiveParts (take i ps) qs → IsPrimitivePart p q → q ≢ [] → parts ≡ qs ++ q ∷ [] → ArePrimitiveParts (take (i + 1) ps) parts
parts_push ps qs parts i p q l e a h n f =
    let taken : take (i + 1) ps ≡ take i ps ++ p ∷ [] = rw (take_more ps i p l, ← e) refl in
    rw (taken, f) (ArePrimitiveParts-push (take i ps) qs p q a h n)

pub parts_skip : (ps qs : List (List Term)) (i : ℕ) (p q : List Term) → i < length ps → p ≡ get_or ps i p → ArePrimitiveParts (take i ps) qs → IsPrimitivePart p q → q ≡ [] → ArePrimitiveParts (take (i + 1) ps) qs
parts_skip ps qs i p q l e a h n =
    let taken : take (i + 1) ps ≡ take i ps ++ p ∷ [] = rw (take_more ps i p l, ← e) refl in
    rw taken (ArePrimitiveParts-skip (take i ps) qs p a (rw n at h))

pub parts_whole : (ps qs : List (List Term)) (i : ℕ) → length ps ≤ i → ArePrimitiveParts (take i ps) qs → ArePrimitiveParts ps qs
parts_whole ps qs i l a = rw (take_all i ps l) at a

-- another list with the same members
pub ArePrimitiveParts-same : (ps qs rs : List (List Term)) → ((q : List Term) → Contains rs q ↔ Contains qs q) → ArePrimitiveParts ps qs → ArePrimitiveParts ps rs
ArePrimitiveParts-same ps qs rs same a = record {
  each = λ q c. a.each q ((same q).0 c);
  all = λ p c. let h = a.all p c in record { part = h.part; is = h.is; listed = elim h.listed [ inl e ↦ inl e | inr d ↦ inr ((same h.part).1 d) ] };
}
