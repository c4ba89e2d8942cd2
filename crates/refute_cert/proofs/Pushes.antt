-- Lists and places with one more at the end.
use Rattle.std.specs.Prelude.{◌≡◌, ◌<◌, ◌≤◌, ℕ, zero, suc, ◌+◌, ◌⊎◌, Bool, true, false, List, [], ◌∷◌, ◌++◌, length, slice_get, slice_index_or, refl}
use mathlib.Core.Logic.{inl, inr}
use Rattle.std.proofs.Common.{arith, sym, ◌∙◌, ap, subst}
use Rattle.std.proofs.lemmas.Option.{none-some, same_Some, slice_get_within, slice_get-get_or, get_or_from_slice_get}
use Rattle.std.proofs.lemmas.Bool.{true≢false}
use Rattle.std.specs.declared.option.Option.TheVariants.{Some}
use Rattle.sparse_poly.specs.Contributions.{IsPoly}
use Rattle.derive_lines.specs.declared.parts.Line.{Line}
use Rattle.derive_lines.specs.Lines.{multiplier}
use Rattle.refute_cert.specs.Cone.{AscendFrom, IsAmong, StandsAt, HavePolyMultipliers}
use Rattle.refute_cert.specs.Marks.{IsMarked}
use Rattle.refute_cert.proofs.Places.{place_before}

pub get_pushed : {X : Type 0} (xs : List X) (x : X) (k : ℕ) (y : X) → slice_get (xs ++ x ∷ []) k ≡ Some y → (slice_get xs k ≡ Some y) ⊎ ((k ≡ length xs) × (x ≡ y))
get_pushed [] x zero y e = inr (refl, same_Some x y e)
get_pushed [] x (suc k) y e = absurd (none-some y e)
get_pushed (z ∷ zs) x zero y e = inl e
get_pushed (z ∷ zs) x (suc k) y e = later (get_pushed zs x k y e)
  where
    later : (slice_get zs k ≡ Some y) ⊎ ((k ≡ length zs) × (x ≡ y)) → (slice_get zs k ≡ Some y) ⊎ ((suc k ≡ length (z ∷ zs)) × (x ≡ y))
    later (inl f) = inl f
    later (inr f) = inr (ap suc f.0, f.1)

pub get_before : {X : Type 0} (xs : List X) (x : X) (k : ℕ) (y : X) → slice_get xs k ≡ Some y → slice_get (xs ++ x ∷ []) k ≡ Some y
get_before [] x k y e = absurd (none-some y e)
get_before (z ∷ zs) x zero y e = e
get_before (z ∷ zs) x (suc k) y e = get_before zs x k y e

pub get_last : {X : Type 0} (xs : List X) (x : X) → slice_get (xs ++ x ∷ []) (length xs) ≡ Some x
get_last [] x = refl
get_last (z ∷ zs) x = get_last zs x

pub ascend_pushed : (n : ℕ) (ks : List ℕ) (k : ℕ) → AscendFrom n ks → n ≤ k → ((a : ℕ) → IsAmong ks a → a < k) → AscendFrom n (ks ++ k ∷ [])
ascend_pushed n [] k h l b = (l, tt)
ascend_pushed n (x ∷ xs) k h l b = let m : x < k = b x (zero, refl) in (h.0, ascend_pushed (suc x) xs k h.1 (omega arith) (λ a w. b a (suc w.0, w.1)))

-- the places before k that are marked, and place k, which is
pub marked_pushed : (marks : List Bool) (ks : List ℕ) (k : ℕ) → ((a : ℕ) → (IsAmong ks a → (a < k) × IsMarked marks a) × ((a < k) × IsMarked marks a → IsAmong ks a)) → IsMarked marks k → (a : ℕ) → (IsAmong (ks ++ k ∷ []) a → (a < k + 1) × IsMarked marks a) × ((a < k + 1) × IsMarked marks a → IsAmong (ks ++ k ∷ []) a)
marked_pushed marks ks k h m a = (λ w. forth (get_pushed ks k w.0 a w.1), λ w. back w.1 (cases a k w.0))
  where
    cases : (a k : ℕ) → a < k + 1 → (a < k) ⊎ (a ≡ k)
    cases a k l = grind arith

    forth : {i : ℕ} → (slice_get ks i ≡ Some a) ⊎ ((i ≡ length ks) × (k ≡ a)) → (a < k + 1) × IsMarked marks a
    forth {i} (inl f) = let r = (h a).0 (i, f) in (omega (arith, r.0), r.1)
    forth (inr f) = (omega (arith, f.1), subst (IsMarked marks) f.1 m)

    back : IsMarked marks a → (a < k) ⊎ (a ≡ k) → IsAmong (ks ++ k ∷ []) a
    back n (inl l) = let r = (h a).1 (l, n) in (r.0, get_before ks k r.0 a r.1)
    back n (inr e) = (length ks, get_last ks k ∙ ap Some (sym e))

pub marked_passed : (marks : List Bool) (ks : List ℕ) (k : ℕ) → ((a : ℕ) → (IsAmong ks a → (a < k) × IsMarked marks a) × ((a < k) × IsMarked marks a → IsAmong ks a)) → slice_get marks k ≡ Some false → (a : ℕ) → (IsAmong ks a → (a < k + 1) × IsMarked marks a) × ((a < k + 1) × IsMarked marks a → IsAmong ks a)
marked_passed marks ks k h m a = (λ w. let r = (h a).0 w in (omega (arith, r.0), r.1), λ w. back w.1 (cases a k w.0))
  where
    cases : (a k : ℕ) → a < k + 1 → (a < k) ⊎ (a ≡ k)
    cases a k l = grind arith

    back : IsMarked marks a → (a < k) ⊎ (a ≡ k) → IsAmong ks a
    back n (inl l) = (h a).1 (l, n)
    back n (inr e) = absurd (true≢false (same_Some true false (sym n ∙ ap (slice_get marks) e ∙ m)))

-- all places below the length are passed
pub marked_all : (marks : List Bool) (ks : List ℕ) (k : ℕ) → length marks ≤ k → ((a : ℕ) → (IsAmong ks a → (a < k) × IsMarked marks a) × ((a < k) × IsMarked marks a → IsAmong ks a)) → (a : ℕ) → (IsAmong ks a → IsMarked marks a) × (IsMarked marks a → IsAmong ks a)
marked_all marks ks k l h a = (λ w. ((h a).0 w).1, λ m. let lt : a < length marks = slice_get_within marks a true m in (h a).1 (omega arith, m))

-- one more element that stands at its place
pub stands_pushed : {X Y : Type 0} (xs : List X) (ks : List ℕ) (R : X → Y → Type 0) (ys : List Y) (i place : ℕ) (x : X) (y : Y) → length ys ≡ i → ((n : ℕ) (d : Y) → slice_get ys n ≡ Some d → StandsAt xs ks n (λ (old : X). R old d)) → slice_get ks i ≡ Some place → slice_get xs place ≡ Some x → R x y → (n : ℕ) (d : Y) → slice_get (ys ++ y ∷ []) n ≡ Some d → StandsAt xs ks n (λ (old : X). R old d)
stands_pushed xs ks R ys i place x y l h e f r n d g = either (get_pushed ys y n d g)
  where
    either : (slice_get ys n ≡ Some d) ⊎ ((n ≡ length ys) × (y ≡ d)) → StandsAt xs ks n (λ old. R old d)
    either (inl a) = h n d a
    either (inr a) = record { place = place; kept = ap (slice_get ks) (a.0 ∙ l) ∙ e; old = x; is = f; so = subst (R x) a.1 r }

-- one more line whose multiplier is a polynomial
pub polys_pushed : (ls : List Line) (x : Line) → HavePolyMultipliers ls → IsPoly (multiplier x) → HavePolyMultipliers (ls ++ x ∷ [])
polys_pushed ls x h p k line e = either (get_pushed ls x k line e)
  where
    either : (slice_get ls k ≡ Some line) ⊎ ((k ≡ length ls) × (x ≡ line)) → IsPoly (multiplier line)
    either (inl f) = h k line f
    either (inr f) = subst (λ (y : Line). IsPoly (multiplier y)) f.1 p

-- ascending places rise
pub rises : (ks : List ℕ) → AscendFrom 0 ks → (i j : ℕ) → i ≤ j → j < length ks → slice_index_or ks i 0 ≤ slice_index_or ks j 0
rises ks h i j l m = either (cases (slice_index_or ks i 0) (slice_index_or ks j 0))
  where
    cases : (a b : ℕ) → (a ≤ b) ⊎ (b < a)
    cases a b = grind arith

    either : (slice_index_or ks i 0 ≤ slice_index_or ks j 0) ⊎ (slice_index_or ks j 0 < slice_index_or ks i 0) → slice_index_or ks i 0 ≤ slice_index_or ks j 0
    either (inl a) = a
    either (inr b) =
        let lt : j < i = place_before 0 ks j i (slice_index_or ks j 0) (slice_index_or ks i 0) h (slice_get-get_or ks j 0 m) (slice_get-get_or ks i 0 (omega arith)) b in
        absurd (omega arith)

pub found_at : (ks : List ℕ) (k i : ℕ) → (i < length ks) × (slice_index_or ks i 0 ≡ k) → slice_get ks i ≡ Some k
found_at ks k i h = slice_get-get_or ks i 0 h.0 ∙ ap Some h.1

pub not_found : (ks : List ℕ) (k i : ℕ) → IsAmong ks k → (i ≤ length ks) × ((j : ℕ) → j < i → slice_index_or ks j 0 < k) × ((j : ℕ) → i ≤ j → j < length ks → k < slice_index_or ks j 0) → ⊥
not_found ks k i w h = either (cases w.0 i)
  where
    cases : (j i : ℕ) → (j < i) ⊎ (i ≤ j)
    cases j i = grind arith

    lt : w.0 < length ks
    lt = slice_get_within ks w.0 k w.1

    same : slice_index_or ks w.0 0 ≡ k
    same = get_or_from_slice_get ks w.0 k 0 w.1

    either : (w.0 < i) ⊎ (i ≤ w.0) → ⊥
    either (inl l) = let m = h.1 w.0 l in let s = same in absurd (omega arith)
    either (inr l) = let m = h.2 w.0 l lt in let s = same in absurd (omega arith)
