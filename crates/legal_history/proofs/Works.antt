-- Each step leaves less work.
use Rattle.std.specs.Prelude.{◌≡◌, ◌<◌, ◌≤◌, ◌+◌, ◌⊎◌, ℕ, zero, suc, true, false, List, [], ◌∷◌, ◌++◌, length, slice_get, get_or}
use Rattle.std.specs.declared.option.Option.TheVariants.{Some}
use Rattle.std.proofs.Common.{arith, refl, sym, ◌∙◌, ap, inl, inr, length-append}
use Rattle.std.proofs.lemmas.Option.{slice_get_within, get_or_from_slice_get, slice_get_cases}
use Rattle.sparse_poly.specs.declared.Term.{Term}
use Rattle.leaf_cert.specs.declared.certificate.RawEntry.{RawEntry}
use Rattle.leaf_cert.specs.declared.certificate.RawEntry.TheVariants.{Split as split, Post as posted, Close as close, Publish as published}
use Rattle.case_rules.specs.Cases.{CaseState}
use Rattle.case_rules.specs.declared.outcome.Outcome.TheVariants.{Split}
use Rattle.case_history.specs.History.{cases_made, decisions_of, IsPending}
use Rattle.case_history.specs.Replay.{Replays}
use Rattle.case_history.proofs.Numbers.{are_apart}
use Rattle.case_history.proofs.Fates.{unsettled_before, made-split, decisions_kept, decisions-left, decisions-right}
use Rattle.case_rules.specs.EndLaws.{AreEndLaws}
use Rattle.legal_history.specs.Legal.{AreCases, Step, closes, refutes, splits, publishes, IsLegal}
use Rattle.std.specs.Prelude.{◌-◌, sum, slice_set}
use Rattle.std.proofs.lemmas.List.{length-set}
use Rattle.std.proofs.lemmas.List.Sums.{sum_by-set, sum_by-append}
use Rattle.legal_history.proofs.Pairs.{get-first, get-seam, get-next, get-set_other}
use Rattle.legal_history.proofs.Cases.{length-cases, cases_fit, case_decisions_are}
use Rattle.legal_history.proofs.Grown.{fit_end, legal_replays, legal_cases}
use Rattle.legal_history.specs.Work.{full_tree, most_under, works, work_left}

pub sum-set : (xs : List ℕ) (n w : ℕ) → slice_get xs n ≡ Some w → sum (slice_set xs n 0) + w ≡ sum xs
sum-set xs n w is = let s : sum (slice_set xs n 0) + get_or xs n 0 ≡ sum xs + 0 = sum_by-set (λ (x : ℕ). x) xs n 0 0 (slice_get_within xs n w is) in omega (arith, s, get_or_from_slice_get xs n w 0 is)

sum-two : (xs : List ℕ) (a b : ℕ) → sum (xs ++ a ∷ b ∷ []) ≡ sum xs + a + b
sum-two xs a b = let s : sum (xs ++ a ∷ b ∷ []) ≡ sum xs + (0 + a + b) = sum_by-append (λ (x : ℕ). x) xs (a ∷ b ∷ []) in omega (arith, s)

length-works : (budget : ℕ) (h : List RawEntry) → length (works budget h) ≡ cases_made h
length-works budget [] = refl
length-works budget (split n by ∷ h) = omega (arith, length-append (slice_set (works budget h) n 0) (most_under budget (length (decisions_of h n) + 1) ∷ most_under budget (length (decisions_of h n) + 1) ∷ []), length-set (works budget h) n 0, length-works budget h, made-split h n by)
length-works budget (posted ps ls end ∷ h) = length-works budget h
length-works budget (close n k ∷ h) = length-set (works budget h) n 0 ∙ length-works budget h
length-works budget (published n ps ls es end ∷ h) = length-set (works budget h) n 0 ∙ length-works budget h

-- the work of a pending case is that of its decisions
pub work_of : (root : List (List Term)) (budget : ℕ) (h : List RawEntry) (n : ℕ) → Replays root h → IsPending h n → slice_get (works budget h) n ≡ Some (most_under budget (length (decisions_of h n)))
work_of root budget [] zero r p = refl
work_of root budget [] (suc n) r p = absurd (omega (arith, p.made))
work_of root budget (e ∷ h) n r p = go e r p (work_of root budget h n r.1)
  where
    go : (e : RawEntry) → Replays root (e ∷ h) → IsPending (e ∷ h) n → (IsPending h n → slice_get (works budget h) n ≡ Some (most_under budget (length (decisions_of h n)))) → slice_get (works budget (e ∷ h)) n ≡ Some (most_under budget (length (decisions_of (e ∷ h) n)))
    go (posted ps ls end) r p ih = ih (record { made = p.made; unsettled = p.unsettled })
    go (close m k) r p ih = let u = unsettled_before (close m k) h n p.unsettled in get-set_other (works budget h) m n 0 (are_apart m n u.0) ∙ ih (record { made = p.made; unsettled = u.1 })
    go (published m ps ls es end) r p ih = let u = unsettled_before (published m ps ls es end) h n p.unsettled in get-set_other (works budget h) m n 0 (are_apart m n u.0) ∙ ih (record { made = p.made; unsettled = u.1 })
    go (split m by) r p ih =
        let u = unsettled_before (split m by) h n p.unsettled in
        let long : length (slice_set (works budget h) m 0) ≡ cases_made h = length-set (works budget h) m 0 ∙ length-works budget h in
        let made : n < cases_made h + 2 = omega (arith, p.made, made-split h m by) in
        let t : (n < cases_made h) ⊎ ((n ≡ cases_made h) ⊎ (n ≡ cases_made h + 1)) = grind arith in
        elim t [
          | inl lt ↦ (let d = decisions_kept (split m by) h n lt in
              rw d (get-first (slice_set (works budget h) m 0) (most_under budget (length (decisions_of h m) + 1) ∷ most_under budget (length (decisions_of h m) + 1) ∷ []) n (omega (arith, long, lt)) ∙ (get-set_other (works budget h) m n 0 (are_apart m n u.0) ∙ ih (record { made = lt; unsettled = u.1 }))))
          | inr v ↦ elim v [
            | inl x ↦ get-seam (slice_set (works budget h) m 0) (most_under budget (length (decisions_of h m) + 1)) (most_under budget (length (decisions_of h m) + 1) ∷ []) n (x ∙ sym long) ∙ ap (λ (ds : ℕ). Some (most_under budget ds)) (sym (ap length (decisions-left h m by n x) ∙ length-append (decisions_of h m) (record { poly = by; zero = true } ∷ [])))
            | inr x ↦ get-next (slice_set (works budget h) m 0) (most_under budget (length (decisions_of h m) + 1)) (most_under budget (length (decisions_of h m) + 1)) [] n (omega (arith, x, long)) ∙ ap (λ (ds : ℕ). Some (most_under budget ds)) (sym (ap length (decisions-right h m by n x) ∙ length-append (decisions_of h m) (record { poly = by; zero = false } ∷ [])))
          ]
        ]

-- a case within the budget leaves some work
some_work : (budget d : ℕ) → d ≤ budget → 0 < most_under budget d
some_work budget d le = go (budget + 1 - d) (omega arith)
  where
    go : (n : ℕ) → 0 < n → 0 < full_tree n
    go zero lt = absurd (omega arith)
    go (suc n) lt = omega arith

-- both branches leave less than their case
branch_work : (budget d : ℕ) → d + 1 ≤ budget → most_under budget (d + 1) + most_under budget (d + 1) < most_under budget d
branch_work budget d le =
    let e : budget + 1 - d ≡ suc (budget + 1 - (d + 1)) = omega arith in
    rw e (omega arith)

module _ (root : List (List Term)) (budget : ℕ) (laws : AreEndLaws root budget) where
  -- a pending case of a legal history has no more decisions than the budget
  depth_of : (h : List RawEntry) (n : ℕ) → IsLegal root budget h → IsPending h n → length (decisions_of h n) ≤ budget
  depth_of h n legal p =
      let cs = legal_cases root budget laws h legal in
      elim (slice_get_cases cs.0 n).1 [ inl c ↦ deep cs.0 cs.1 c.0 c.2 | inr past ↦ absurd (omega (arith, past.0, length-cases root budget h cs.0 cs.1, p.made)) ]
    where
      deep : (cs : List CaseState) → AreCases root budget h cs → (c : CaseState) → slice_get cs n ≡ Some c → length (decisions_of h n) ≤ budget
      deep cs are c is =
          let f = cases_fit root budget laws h cs n c are is in
          omega (arith, f.belongs.depth, f.few, ap length (case_decisions_are root budget laws h cs n c are is))

  work_is : (h : List RawEntry) (n : ℕ) → IsLegal root budget h → IsPending h n → sum (slice_set (works budget h) n 0) + most_under budget (length (decisions_of h n)) ≡ work_left budget h
  work_is h n legal p = sum-set (works budget h) n _ (work_of root budget h n (legal_replays root budget laws h legal) p)

  less : (h : List RawEntry) (n : ℕ) → IsLegal root budget h → IsPending h n → sum (slice_set (works budget h) n 0) < work_left budget h
  less h n legal p = omega (arith, work_is h n legal p, some_work budget (length (decisions_of h n)) (depth_of h n legal p))

  pub step_works : (h k : List RawEntry) → IsLegal root budget h → Step root budget IsPending h k → work_left budget k < work_left budget h
  step_works h k legal (closes n j p l) = less h n legal p
  step_works h k legal (refutes n r p e) = less h n legal p
  step_works h k legal (publishes n l p e) = less h n legal p
  step_works h k legal (splits n by z x p e) =
      let f = fit_end root budget laws h n (Split by z x) e.is_end in
      let s = laws.split e.is_end.c by z x f.0.belongs f.0.few e.is_end.is_end in
      let child : length (decisions_of h n) + 1 ≤ budget = omega (arith, s.zero_belongs.depth, s.zero_moves, ap length s.zero_decisions, ap length f.1, length-append e.is_end.c.decisions (record { poly = by; zero = true } ∷ [])) in
      omega (arith, sum-two (slice_set (works budget h) n 0) (most_under budget (length (decisions_of h n) + 1)) (most_under budget (length (decisions_of h n) + 1)), work_is h n legal p, branch_work budget (length (decisions_of h n)) child)
