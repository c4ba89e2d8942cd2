-- A replay keeps that an assignment is at just one case.
use Rattle.std.specs.Prelude.{◌≡◌, ◌≢◌, ◌<◌, ◌≤◌, ◌+◌, ◌⊎◌, ◌==◌, ℕ, Bool, true, false, List, [], ◌∷◌, length}
use Rattle.std.specs.declared.option.Option.TheVariants.{Some}
use Rattle.std.proofs.Common.{arith, refl, sym, ◌∙◌, ap, inl, inr, subst}
use Rattle.std.proofs.lemmas.Bool.Decides.{eqb_tells}
use Rattle.std.proofs.lemmas.Option.{none-some, same_Some}
use Rattle.sparse_poly.specs.declared.Term.{Term}
use Rattle.derive_lines.specs.declared.parts.Decision.{Decision}
use Rattle.derive_lines.specs.declared.parts.Line.{Line}
use Rattle.derive_lines.specs.declared.parts.Item.{Item}
use Rattle.derive_lines.specs.Refuting.{decided}
use Rattle.leaf_cert.specs.Parts.{LeafParts}
use Rattle.leaf_cert.specs.declared.certificate.RawEntry.{RawEntry}
use Rattle.leaf_cert.specs.declared.certificate.RawEntry.TheVariants.{Split, Post, Close, Publish}
use Rattle.case_history.specs.History.{Placed, publish, settles, cases_made, decisions_of, IsPending}
use Rattle.case_history.specs.Replay.{MayClose, MayPublish, Replays}
use Rattle.case_history.specs.JustOne.{IsAtCase, IsAtJustOne}
use Rattle.case_history.proofs.Numbers.{not_same, are_apart, same_test}
use Rattle.case_history.proofs.Fates.{fate-other, fate-same, unsettled_before, made_kept, made-split, decisions_kept, decisions-left, decisions-right, unmade}
use Rattle.case_history.proofs.Replays.{patterns_refuted}
use Rattle.case_history.proofs.Meanings.{IsMeaning}

entries_are : (p q : Placed) → Some p ≡ Some q → p.entry ≡ q.entry
entries_are p q same = ap (λ (x : Placed). x.entry) (same_Some p q same)

not_split : (m n : ℕ) (by : List Term) (l : LeafParts) → Split m by ≡ publish n l → ⊥
not_split m n by l e = cc

not_closed : (m k n : ℕ) (l : LeafParts) → Close m k ≡ publish n l → ⊥
not_closed m k n l e = cc

leaf_is : (m n : ℕ) (a b : LeafParts) → publish m a ≡ publish n b → a ≡ b
leaf_is m n a b e =
    let d : a.decisions ≡ b.decisions = cc in
    let l : a.lines ≡ b.lines = cc in
    let q : a.equations ≡ b.equations = cc in
    let t : a.end ≡ b.end = cc in
    same_leaf d l q t
  where
    same_leaf : a.decisions ≡ b.decisions → a.lines ≡ b.lines → a.equations ≡ b.equations → a.end ≡ b.end → a ≡ b
    same_leaf d l q t =
        ap (λ x. let r : LeafParts = record { decisions = x; lines = a.lines; equations = a.equations; end = a.end } in r) d
        ∙ (ap (λ x. let r : LeafParts = record { decisions = b.decisions; lines = x; equations = a.equations; end = a.end } in r) l
        ∙ (ap (λ x. let r : LeafParts = record { decisions = b.decisions; lines = b.lines; equations = x; end = a.end } in r) q
        ∙ ap (λ x. let r : LeafParts = record { decisions = b.decisions; lines = b.lines; equations = b.equations; end = x } in r) t))

module _ (root : List (List Term)) (solves : Type 0) (holds : List Decision → Type 0) (meets : LeafParts → Type 0) (m : IsMeaning root solves holds meets) where
  abbrev At : List RawEntry → ℕ → Type 0
  At h n = IsAtCase holds meets h n

  abbrev One : List RawEntry → Type 0
  One h = IsAtJustOne solves holds meets h

  -- where the entry settles another case, the assignment is at n after it as before
  still : (e : RawEntry) (h : List RawEntry) (n : ℕ) → settles e n ≡ false → At h n → At (e ∷ h) n
  still e h n other (inl p) = inl (record {
    pending = record { made = omega (arith, p.pending.made, made_kept e h); unsettled = fate-other e h n other ∙ p.pending.unsettled };
    holds_there = subst holds (sym (decisions_kept e h n p.pending.made)) p.holds_there;
  })
  still e h n other (inr l) = inr (record { leaf = l.leaf; place = l.place; published = fate-other e h n other ∙ l.published; meets_it = l.meets_it })

  -- and before it as after it, where no case was made
  was : (e : RawEntry) (h : List RawEntry) (n : ℕ) → settles e n ≡ false → (IsPending (e ∷ h) n → n < cases_made h) → At (e ∷ h) n → At h n
  was e h n other old (inl p) = inl (record {
    pending = record { made = old p.pending; unsettled = sym (fate-other e h n other) ∙ p.pending.unsettled };
    holds_there = subst holds (decisions_kept e h n (old p.pending)) p.holds_there;
  })
  was e h n other old (inr l) = inr (record { leaf = l.leaf; place = l.place; published = sym (fate-other e h n other) ∙ l.published; meets_it = l.meets_it })

  -- at a pending case the assignment is where its decisions hold
  pending_holds : (h : List RawEntry) (n : ℕ) → IsPending h n → At h n → holds (decisions_of h n)
  pending_holds h n is (inl p) = p.holds_there
  pending_holds h n is (inr l) = absurd (none-some _ (sym is.unsettled ∙ l.published))

  holds_pending : (h : List RawEntry) (n : ℕ) → IsPending h n → holds (decisions_of h n) → At h n
  holds_pending h n is s = inl (record { pending = is; holds_there = s })

  -- where an assignment at n after a split was before it
  data FromSplit (h : List RawEntry) (c : ℕ) (by : List Term) (n : ℕ) : Type 0 where
    kept : At h n → n ≢ c → FromSplit h c by n
    left : n ≡ cases_made h → At h c → holds (decided (decisions_of h c) by true) → FromSplit h c by n
    right : n ≡ cases_made h + 1 → At h c → holds (decided (decisions_of h c) by false) → FromSplit h c by n

  from_split : (h : List RawEntry) (c : ℕ) (by : List Term) (n : ℕ) → Replays root h → IsPending h c → At (Split c by ∷ h) n → FromSplit h c by n
  from_split h c by n r is (inr l) = go (c == n) refl
    where
      go : (b : Bool) → (c == n) ≡ b → FromSplit h c by n
      go true t = absurd (not_split c n by l.leaf (entries_are _ _ (sym (fate-same (Split c by) h n t) ∙ l.published)))
      go false t = kept (inr (record { leaf = l.leaf; place = l.place; published = sym (fate-other (Split c by) h n t) ∙ l.published; meets_it = l.meets_it })) (are_apart c n t)
  from_split h c by n r is (inl p) =
      let u = unsettled_before (Split c by) h n p.pending.unsettled in
      let t : (n < cases_made h) ⊎ (cases_made h ≤ n) = grind arith in
      elim t [
        | inl lt ↦ kept (was (Split c by) h n u.0 (λ _. lt) (inl p)) (are_apart c n u.0)
        | inr le ↦ fresh le
      ]
    where
      fresh : cases_made h ≤ n → FromSplit h c by n
      fresh le =
          let made : n < cases_made h + 2 = omega (arith, p.pending.made, made-split h c by) in
          let t : (n ≡ cases_made h) ⊎ (n ≡ cases_made h + 1) = grind arith in
          elim t [
            | inl e ↦ (let s : holds (decided (decisions_of h c) by true) = subst holds (decisions-left h c by n e) p.holds_there in left e (holds_pending h c is (m.above _ _ _ s)) s)
            | inr e ↦ (let s : holds (decided (decisions_of h c) by false) = subst holds (decisions-right h c by n e) p.holds_there in right e (holds_pending h c is (m.above _ _ _ s)) s)
          ]

  -- the two new numbers are pending
  new_pending : (h : List RawEntry) (c : ℕ) (by : List Term) (n : ℕ) → Replays root h → IsPending h c → (n ≡ cases_made h) ⊎ (n ≡ cases_made h + 1) → IsPending (Split c by ∷ h) n
  new_pending h c by n r is which =
      let ge : cases_made h ≤ n = elim which [ inl e ↦ omega (arith, e) | inr e ↦ omega (arith, e) ] in
      let lt : n < cases_made h + 2 = elim which [ inl e ↦ omega (arith, e) | inr e ↦ omega (arith, e) ] in
      let ne : c ≢ n = omega (arith, is.made) in
      record { made = omega (arith, made-split h c by); unsettled = fate-other (Split c by) h n (not_same c n ne) ∙ unmade root h n r ge }

  after_split : (h : List RawEntry) (c : ℕ) (by : List Term) → Replays root h → IsPending h c → One h → One (Split c by ∷ h)
  after_split h c by r is one = record {
    some = λ s. let at = one.some s in found at.0 at.1;
    only = λ n at. back n (from_split h c by n r is at);
    one = λ n k a b. same n k (from_split h c by n r is a) (from_split h c by k r is b);
  }
    where
      found : (n : ℕ) → At h n → (k : ℕ) × At (Split c by ∷ h) k
      found n at = elim (eqb_tells c n) [
        | inl t ↦ branches (m.branch (decisions_of h c) by (pending_holds h c is (subst (λ (i : ℕ). At h i) (sym t.1) at)))
        | inr f ↦ (n, still (Split c by) h n f.0 at)
      ]
        where
          branches : holds (decided (decisions_of h c) by true) ⊎ holds (decided (decisions_of h c) by false) → (k : ℕ) × At (Split c by ∷ h) k
          branches (inl s) = (cases_made h, holds_pending (Split c by ∷ h) (cases_made h) (new_pending h c by (cases_made h) r is (inl refl)) (subst holds (sym (decisions-left h c by (cases_made h) refl)) s))
          branches (inr s) = (cases_made h + 1, holds_pending (Split c by ∷ h) (cases_made h + 1) (new_pending h c by (cases_made h + 1) r is (inr refl)) (subst holds (sym (decisions-right h c by (cases_made h + 1) refl)) s))

      back : (n : ℕ) → FromSplit h c by n → solves
      back n (kept at ne) = one.only n at
      back n (left e at s) = one.only c at
      back n (right e at s) = one.only c at

      same : (n k : ℕ) → FromSplit h c by n → FromSplit h c by k → n ≡ k
      same n k (kept a ne) (kept b me) = one.one n k a b
      same n k (kept a ne) (left e b s) = absurd (ne (one.one n c a b))
      same n k (kept a ne) (right e b s) = absurd (ne (one.one n c a b))
      same n k (left e a s) (kept b me) = absurd (me (one.one k c b a))
      same n k (left e a s) (left f b t) = e ∙ sym f
      same n k (left e a s) (right f b t) = absurd (m.apart _ _ s t)
      same n k (right e a s) (kept b me) = absurd (me (one.one k c b a))
      same n k (right e a s) (left f b t) = absurd (m.apart _ _ t s)
      same n k (right e a s) (right f b t) = e ∙ sym f

  after_post : (h : List RawEntry) (ds : List Decision) (ls : List Line) (end : Item) → One h → One (Post ds ls end ∷ h)
  after_post h ds ls end one = record {
    some = λ s. let at = one.some s in (at.0, still (Post ds ls end) h at.0 refl at.1);
    only = λ n at. one.only n (was (Post ds ls end) h n refl (λ p. p.made) at);
    one = λ n k a b. one.one n k (was (Post ds ls end) h n refl (λ p. p.made) a) (was (Post ds ls end) h k refl (λ p. p.made) b);
  }

  -- nothing is at a case that was closed
  from_close : (h : List RawEntry) (c k n : ℕ) → At (Close c k ∷ h) n → At h n
  from_close h c k n (inl p) = was (Close c k) h n (unsettled_before (Close c k) h n p.pending.unsettled).0 (λ q. q.made) (inl p)
  from_close h c k n (inr l) = go (c == n) refl
    where
      go : (b : Bool) → (c == n) ≡ b → At h n
      go true t = absurd (not_closed c k n l.leaf (entries_are _ _ (sym (fate-same (Close c k) h n t) ∙ l.published)))
      go false t = was (Close c k) h n t (λ q. q.made) (inr l)

  after_close : (h : List RawEntry) (c k : ℕ) → Replays root h → MayClose h c k → One h → One (Close c k ∷ h)
  after_close h c k r may one = record {
    some = λ s. let at = one.some s in found at.0 at.1;
    only = λ n at. one.only n (from_close h c k n at);
    one = λ n j a b. one.one n j (from_close h c k n a) (from_close h c k j b);
  }
    where
      closed : holds (decisions_of h c) → ⊥
      closed s = let q = patterns_refuted root h k may.pattern.pattern r may.pattern.is in m.refuted may.pattern.pattern q.lines q.end (decisions_of h c) q.refutes may.pattern.within s

      found : (n : ℕ) → At h n → (j : ℕ) × At (Close c k ∷ h) j
      found n at = elim (eqb_tells c n) [
        | inl t ↦ absurd (closed (pending_holds h c may.pending (subst (λ (i : ℕ). At h i) (sym t.1) at)))
        | inr f ↦ (n, still (Close c k) h n f.0 at)
      ]

  -- an assignment meets the published leaf where its case held
  from_publish : (h : List RawEntry) (c n : ℕ) (leaf : LeafParts) → MayPublish root h c leaf → At (publish c leaf ∷ h) n → At h n
  from_publish h c n leaf may (inl p) = was (publish c leaf) h n (unsettled_before (publish c leaf) h n p.pending.unsettled).0 (λ q. q.made) (inl p)
  from_publish h c n leaf may (inr l) = elim (eqb_tells c n) [
    | inl t ↦ (let met : meets leaf = subst meets (sym (leaf_is c n leaf l.leaf (entries_are _ _ (sym (fate-same (publish c leaf) h n t.0) ∙ l.published)))) l.meets_it in
        subst (λ (i : ℕ). At h i) t.1 (holds_pending h c may.pending (subst holds may.same ((m.leaf leaf may.good).0 met))))
    | inr f ↦ was (publish c leaf) h n f.0 (λ q. q.made) (inr l)
  ]

  after_publish : (h : List RawEntry) (c : ℕ) (leaf : LeafParts) → MayPublish root h c leaf → One h → One (publish c leaf ∷ h)
  after_publish h c leaf may one = record {
    some = λ s. let at = one.some s in found at.0 at.1;
    only = λ n at. one.only n (from_publish h c n leaf may at);
    one = λ n j a b. one.one n j (from_publish h c n leaf may a) (from_publish h c j leaf may b);
  }
    where
      found : (n : ℕ) → At h n → (j : ℕ) × At (publish c leaf ∷ h) j
      found n at = elim (eqb_tells c n) [
        | inl t ↦ (c, inr (record { leaf = leaf; place = length h; published = fate-same (publish c leaf) h c (same_test c c refl); meets_it = (m.leaf leaf may.good).1 (subst holds (sym may.same) (pending_holds h c may.pending (subst (λ (i : ℕ). At h i) (sym t.1) at))) }))
        | inr f ↦ (n, still (publish c leaf) h n f.0 at)
      ]

  at_first : One []
  at_first = record {
    some = λ s. (0, holds_pending [] 0 first (m.top.0 s));
    only = λ n at. m.top.1 (top n at);
    one = λ n k a b. only_first n a ∙ sym (only_first k b);
  }
    where
      first : IsPending [] 0
      first = record { made = omega arith; unsettled = refl }

      only_first : (n : ℕ) → At [] n → n ≡ 0
      only_first n (inl p) = omega (arith, p.pending.made)
      only_first n (inr l) = absurd (none-some _ l.published)

      top : (n : ℕ) → At [] n → holds []
      top n at = let z = only_first n at in pending_holds [] 0 first (subst (λ (i : ℕ). At [] i) z at)

  pub at_just_one : (h : List RawEntry) → Replays root h → One h
  at_just_one [] r = at_first
  at_just_one (Split c by ∷ h) r = after_split h c by r.1 r.0 (at_just_one h r.1)
  at_just_one (Post ds ls end ∷ h) r = after_post h ds ls end (at_just_one h r.1)
  at_just_one (Close c k ∷ h) r = after_close h c k r.1 r.0 (at_just_one h r.1)
  at_just_one (Publish c ds ls es end ∷ h) r = after_publish h c (record { decisions = ds; lines = ls; equations = es; end = end }) r.0 (at_just_one h r.1)
