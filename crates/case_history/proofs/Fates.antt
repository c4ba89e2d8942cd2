-- What an entry changes of the fates and the decisions of cases.
use Rattle.std.specs.Prelude.{◌≡◌, ◌<◌, ◌≤◌, ◌+◌, ◌⊎◌, ℕ, Bool, true, false, List, [], ◌∷◌, length}
use Rattle.std.specs.declared.option.Option.TheVariants.{None, Some}
use Rattle.std.proofs.Common.{arith, refl, sym, ◌∙◌, length-append, subst, inl, inr}
use Rattle.std.proofs.Math.ListN.{get_or-append}
use Rattle.std.proofs.Math.Seq.{get_or-append_seam}
use Rattle.std.proofs.lemmas.List.{get_or-append-add}
use Rattle.std.proofs.lemmas.Option.{none-some}
use Rattle.sparse_poly.specs.declared.Term.{Term}
use Rattle.derive_lines.specs.Refuting.{decided}
use Rattle.leaf_cert.specs.declared.certificate.RawEntry.{RawEntry}
use Rattle.leaf_cert.specs.declared.certificate.RawEntry.TheVariants.{Split, Post, Close, Publish}
use Rattle.case_history.specs.History.{Placed, settles, fate, case_decisions, cases_made, decisions_of, IsPending}
use Rattle.case_history.specs.Replay.{MayCome, Replays}
use Rattle.case_history.proofs.Numbers.{true-false, numbers_are}

pub fate-other : (e : RawEntry) (h : List RawEntry) (n : ℕ) → settles e n ≡ false → fate (e ∷ h) n ≡ fate h n
fate-other e h n is = rw is refl

pub fate-same : (e : RawEntry) (h : List RawEntry) (n : ℕ) → settles e n ≡ true → fate (e ∷ h) n ≡ Some (record { place = length h; entry = e })
fate-same e h n is = rw is refl

-- what is pending after an entry was not settled by it
pub unsettled_before : (e : RawEntry) (h : List RawEntry) (n : ℕ) → fate (e ∷ h) n ≡ None → (settles e n ≡ false) × (fate h n ≡ None)
unsettled_before e h n un = go (settles e n) refl
  where
    go : (b : Bool) → settles e n ≡ b → (settles e n ≡ false) × (fate h n ≡ None)
    go true is = absurd (none-some _ (sym un ∙ fate-same e h n is))
    go false is = (is, sym (fate-other e h n is) ∙ un)

pub made-split : (h : List RawEntry) (m : ℕ) (by : List Term) → cases_made (Split m by ∷ h) ≡ cases_made h + 2
made-split h m by = omega (arith, length-append (case_decisions h) (decided (decisions_of h m) by true ∷ decided (decisions_of h m) by false ∷ []))

pub made_kept : (e : RawEntry) (h : List RawEntry) → cases_made h ≤ cases_made (e ∷ h)
made_kept (Split m by) h = omega (arith, made-split h m by)
made_kept (Post ds ls end) h = omega arith
made_kept (Close m k) h = omega arith
made_kept (Publish m ds ls es end) h = omega arith

pub decisions_kept : (e : RawEntry) (h : List RawEntry) (n : ℕ) → n < cases_made h → decisions_of (e ∷ h) n ≡ decisions_of h n
decisions_kept (Split m by) h n lt = get_or-append _ _ _ _ lt
decisions_kept (Post ds ls end) h n lt = refl
decisions_kept (Close m k) h n lt = refl
decisions_kept (Publish m ds ls es end) h n lt = refl

pub decisions-left : (h : List RawEntry) (m : ℕ) (by : List Term) (n : ℕ) → n ≡ cases_made h → decisions_of (Split m by ∷ h) n ≡ decided (decisions_of h m) by true
decisions-left h m by n is = rw is (get_or-append_seam (case_decisions h) _ _ [])

pub decisions-right : (h : List RawEntry) (m : ℕ) (by : List Term) (n : ℕ) → n ≡ cases_made h + 1 → decisions_of (Split m by ∷ h) n ≡ decided (decisions_of h m) by false
decisions-right h m by n is = rw is (get_or-append-add (case_decisions h) (decided (decisions_of h m) by true ∷ decided (decisions_of h m) by false ∷ []) 1 [])

-- the case that an entry settles was pending
pub settles_pending : (root : List (List Term)) (e : RawEntry) (h : List RawEntry) (n : ℕ) → MayCome root h e → settles e n ≡ true → IsPending h n
settles_pending root (Split m by) h n may is = subst (IsPending h) (numbers_are m n is) may
settles_pending root (Post ds ls end) h n may is = true-false (sym is)
settles_pending root (Close m k) h n may is = subst (IsPending h) (numbers_are m n is) may.pending
settles_pending root (Publish m ds ls es end) h n may is = subst (IsPending h) (numbers_are m n is) may.pending

-- a case that was not made was not settled
pub unmade : (root : List (List Term)) (h : List RawEntry) (n : ℕ) → Replays root h → cases_made h ≤ n → fate h n ≡ None
unmade root [] n r le = refl
unmade root (e ∷ h) n r le = go (unmade root h n r.1 (omega (arith, made_kept e h))) (settles e n) refl
  where
    go : fate h n ≡ None → (b : Bool) → settles e n ≡ b → fate (e ∷ h) n ≡ None
    go ih true is = let p = settles_pending root e h n r.0 is in absurd (omega (arith, p.made, made_kept e h))
    go ih false is = fate-other e h n is ∙ ih

-- a case that was settled was made
pub settled_made : (root : List (List Term)) (h : List RawEntry) (n : ℕ) (f : Placed) → Replays root h → fate h n ≡ Some f → n < cases_made h
settled_made root h n f r is =
    let t : (cases_made h ≤ n) ⊎ (n < cases_made h) = grind arith in
    elim t [ inl le ↦ absurd (none-some f (sym (unmade root h n r le) ∙ is)) | inr lt ↦ lt ]
