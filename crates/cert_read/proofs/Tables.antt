-- Tables of lines.
use Rattle.std.specs.Prelude.{◌≡◌, ℕ, zero, suc, ◌+◌, ◌<◌, ◌≤◌, ◌⊎◌, Bool, true, false, not, ◌&&◌, ◌||◌, ◌==◌, if◌then◌else◌, Some, List, [], ◌∷◌, ◌++◌, length, slice_get, refl}
use Rattle.std.specs.List.{AllByRecursion}
use Rattle.std.proofs.Common.{sym, ◌∙◌, ap, subst, inl, inr, append_assoc, append-nil, arith}
use Rattle.std.proofs.lemmas.Bool.Decides.{nat_tests}
use Rattle.std.proofs.lemmas.List.{length-append}
use Rattle.derive_lines.specs.declared.parts.Line.{Line}
use Rattle.cert_text.specs.Tables.{is_same, stands_in, with_new, place}
use Rattle.cert_text.specs.TableLaws.{lines}

-- ---- the same line

pub both : (a b : Bool) → a && b ≡ true → (a ≡ true) × (b ≡ true)
both true b h = (refl, h)
both false b h = absurd (cc)

pub equal_number : (n m : ℕ) → (n == m) ≡ true → n ≡ m
equal_number n m e = grind (arith, nat_tests)

pub own_number : (n : ℕ) → (n == n) ≡ true
own_number n = grind (arith, nat_tests)

pub other_number : (n m : ℕ) → n < m → (n == m) ≡ false
other_number n m h = grind (arith, nat_tests)

-- lines that are the same are equal
pub same_line : (l k : Line) → is_same l k ≡ true → l ≡ k
same_line = lines.equal

pub own_line : (l : Line) → is_same l l ≡ true
own_line = lines.own

-- ---- places

-- the place in a table with one line more in front
place_step : (k : Line) (t : List Line) (l : Line) → place (k ∷ t) l ≡ (if is_same l k then 0 else suc (place t l))
place_step k t l = by (is_same l k)
  where
    by : (b : Bool) → (if not b then 1 + place t l else 0) ≡ (if b then 0 else suc (place t l))
    by true = refl
    by false = omega arith

-- a line that stands in a table is at its place
pub at_place : (t : List Line) (l : Line) → stands_in t l ≡ true → slice_get t (place t l) ≡ Some l
at_place [] l h = absurd (cc)
at_place (k ∷ t) l h = ap (slice_get (k ∷ t)) (place_step k t l) ∙ by (is_same l k) refl h (at_place t l)
  where
    by : (b : Bool) → is_same l k ≡ b → b || stands_in t l ≡ true → (stands_in t l ≡ true → slice_get t (place t l) ≡ Some l) → slice_get (k ∷ t) (if is_same l k then 0 else suc (place t l)) ≡ Some l
    by true e h r = ap (λ b. slice_get (k ∷ t) (if b then 0 else suc (place t l))) e ∙ ap Some (sym (same_line l k e))
    by false e h r = ap (λ b. slice_get (k ∷ t) (if b then 0 else suc (place t l))) e ∙ r h

-- and keeps it where the table grows
pub old_place : (t more : List Line) (l : Line) → stands_in t l ≡ true → (place (t ++ more) l ≡ place t l) × (place t l < length t)
old_place [] more l h = absurd (cc)
old_place (k ∷ t) more l h =
    let r = by (is_same l k) refl h (old_place t more l) in
    let a = place_step k t l in
    let lt = r.1 in
    (place_step k (t ++ more) l ∙ r.0 ∙ sym a, omega (arith, a, lt))
  where
    Holds : Bool → Type 0
    Holds b = ((if b then 0 else suc (place (t ++ more) l)) ≡ (if b then 0 else suc (place t l))) × ((if b then 0 else suc (place t l)) < suc (length t))

    by : (b : Bool) → is_same l k ≡ b → b || stands_in t l ≡ true → (stands_in t l ≡ true → (place (t ++ more) l ≡ place t l) × (place t l < length t)) → Holds (is_same l k)
    by true e h r = subst Holds (sym e) (refl, omega arith)
    by false e h r = let q = r h in let lt = q.1 in subst Holds (sym e) (ap suc q.0, omega (arith, lt))

-- a line that is not in the first part of a table is searched for in the rest
pub later_place : (t more : List Line) (l : Line) → stands_in t l ≡ false → place (t ++ more) l ≡ length t + place more l
later_place [] more l h = omega arith
later_place (k ∷ t) more l h = place_step k (t ++ more) l ∙ by (is_same l k) refl h (later_place t more l)
  where
    by : (b : Bool) → is_same l k ≡ b → b || stands_in t l ≡ false → (stands_in t l ≡ false → place (t ++ more) l ≡ length t + place more l) → (if is_same l k then 0 else suc (place (t ++ more) l)) ≡ suc (length t) + place more l
    by true e h r = absurd (cc)
    by false e h r = let z = ap (λ b. if b then 0 else suc (place (t ++ more) l)) e in let q = r h in omega (arith, z, q)

-- a new line goes behind the table
pub new_place : (t more : List Line) (l : Line) → stands_in t l ≡ false → place (t ++ l ∷ more) l ≡ length t
new_place t more l h = let e = later_place t (l ∷ more) l h in let z = place_step l more l ∙ ap (λ b. if b then 0 else suc (place more l)) (own_line l) in omega (arith, e, z)

pub got_stands : (t : List Line) (i : ℕ) (l : Line) → slice_get t i ≡ Some l → stands_in t l ≡ true
got_stands [] i l e = absurd (cc)
got_stands (k ∷ t) zero l e = let same : k ≡ l = cc in ap (λ b. b || stands_in t l) (ap (is_same l) same ∙ own_line l)
got_stands (k ∷ t) (suc i) l e = by (is_same l k) (got_stands t i l e)
  where
    by : (b : Bool) → stands_in t l ≡ true → b || stands_in t l ≡ true
    by true h = refl
    by false h = h

pub still_stands : (t more : List Line) (l : Line) → stands_in t l ≡ true → stands_in (t ++ more) l ≡ true
still_stands [] more l h = absurd (cc)
still_stands (k ∷ t) more l h = by (is_same l k) h (still_stands t more l)
  where
    by : (b : Bool) → b || stands_in t l ≡ true → (stands_in t l ≡ true → stands_in (t ++ more) l ≡ true) → b || stands_in (t ++ more) l ≡ true
    by true h r = refl
    by false h r = r h

pub pushed_stands : (t : List Line) (l : Line) → stands_in (t ++ l ∷ []) l ≡ true
pushed_stands [] l = ap (λ b. b || false) (own_line l)
pushed_stands (k ∷ t) l = by (is_same l k) (pushed_stands t l)
  where
    by : (b : Bool) → stands_in (t ++ l ∷ []) l ≡ true → b || stands_in (t ++ l ∷ []) l ≡ true
    by true h = refl
    by false h = h

-- ---- tables that have each line once

-- each line stands at its place alone
abbrev pub HasEachOnce : List Line → Type 0
HasEachOnce t = (i : ℕ) (l : Line) → slice_get t i ≡ Some l → place t l ≡ i

pub none_once : HasEachOnce []
none_once i l e = absurd (cc)

got_pushed : (t : List Line) (l : Line) (i : ℕ) (x : Line) → slice_get (t ++ l ∷ []) i ≡ Some x → (slice_get t i ≡ Some x) ⊎ ((i ≡ length t) × (l ≡ x))
got_pushed [] l zero x e = let q : l ≡ x = cc in inr (refl, q)
got_pushed [] l (suc i) x e = absurd (cc)
got_pushed (k ∷ t) l zero x e = inl e
got_pushed (k ∷ t) l (suc i) x e = by (got_pushed t l i x e)
  where
    by : (slice_get t i ≡ Some x) ⊎ ((i ≡ length t) × (l ≡ x)) → (slice_get t i ≡ Some x) ⊎ ((suc i ≡ suc (length t)) × (l ≡ x))
    by (inl q) = inl q
    by (inr q) = inr (ap suc q.0, q.1)

pub pushed_once : (t : List Line) (l : Line) → HasEachOnce t → stands_in t l ≡ false → HasEachOnce (t ++ l ∷ [])
pushed_once t l h n i x e = by (got_pushed t l i x e)
  where
    by : (slice_get t i ≡ Some x) ⊎ ((i ≡ length t) × (l ≡ x)) → place (t ++ l ∷ []) x ≡ i
    by (inl q) = (old_place t (l ∷ []) x (got_stands t i x q)).0 ∙ h i x q
    by (inr q) = ap (place (t ++ l ∷ [])) (sym q.1) ∙ new_place t [] l n ∙ sym q.0

-- one line more, if it is new
abbrev pub with_line : List Line → Line → List Line
with_line t l = if stands_in t l then t else t ++ l ∷ []

pub line_once : (t : List Line) (l : Line) → HasEachOnce t → HasEachOnce (with_line t l)
line_once t l h = by (stands_in t l) refl
  where
    by : (b : Bool) → stands_in t l ≡ b → HasEachOnce (if b then t else t ++ l ∷ [])
    by true e = h
    by false e = pushed_once t l h e

pub new_once : (t ls : List Line) → HasEachOnce t → HasEachOnce (with_new t ls)
new_once t [] h = h
new_once t (l ∷ ls) h = new_once (with_line t l) ls (line_once t l h)

-- ---- lines that are added

pub new_append : (t ls ms : List Line) → with_new t (ls ++ ms) ≡ with_new (with_new t ls) ms
new_append t [] ms = refl
new_append t (l ∷ ls) ms = new_append (with_line t l) ls ms

line_grows : (t : List Line) (l : Line) → (more : List Line) × (with_line t l ≡ t ++ more)
line_grows t l = by (stands_in t l)
  where
    by : (b : Bool) → (more : List Line) × ((if b then t else t ++ l ∷ []) ≡ t ++ more)
    by true = ([], sym (append-nil t))
    by false = (l ∷ [], refl)

-- what stands in a table stays
pub grows : (t ls : List Line) → (more : List Line) × (with_new t ls ≡ t ++ more)
grows t [] = ([], sym (append-nil t))
grows t (l ∷ ls) = let a = line_grows t l in let r = grows (with_line t l) ls in (a.0 ++ r.0, r.1 ∙ ap (λ x. x ++ r.0) a.1 ∙ append_assoc t a.0 r.0)

line_stands : (t : List Line) (l : Line) → stands_in (with_line t l) l ≡ true
line_stands t l = by (stands_in t l) refl
  where
    by : (b : Bool) → stands_in t l ≡ b → stands_in (if b then t else t ++ l ∷ []) l ≡ true
    by true e = e
    by false e = pushed_stands t l

-- each of the lines stands in the table
abbrev pub AllStandIn : List Line → List Line → Type 0
AllStandIn t ls = AllByRecursion (λ l. stands_in t l ≡ true) ls

pub new_stand : (t ls : List Line) → AllStandIn (with_new t ls) ls
new_stand t [] = tt
new_stand t (l ∷ ls) =
    let g = grows (with_line t l) ls in
    (ap (λ x. stands_in x l) g.1 ∙ still_stands (with_line t l) g.0 l (line_stands t l), new_stand (with_line t l) ls)

line_length : (t : List Line) (l : Line) → length (with_line t l) ≤ length t + 1
line_length t l = by (stands_in t l)
  where
    by : (b : Bool) → length (if b then t else t ++ l ∷ []) ≤ length t + 1
    by true = omega arith
    by false = let e = length-append t (l ∷ []) in omega (arith, e)

pub new_length : (t ls : List Line) → length (with_new t ls) ≤ length t + length ls
new_length t [] = omega arith
new_length t (l ∷ ls) = let a = line_length t l in let r = new_length (with_line t l) ls in omega (arith, a, r)

module _ (P : Line → Type 0) where
  all_push : (t : List Line) (l : Line) → AllByRecursion P t → P l → AllByRecursion P (t ++ l ∷ [])
  all_push [] l h k = (k, tt)
  all_push (x ∷ t) l h k = (h.0, all_push t l h.1 k)

  -- what holds of a table and of lines holds of the table with them
  pub new_all : (t ls : List Line) → AllByRecursion P t → AllByRecursion P ls → AllByRecursion P (with_new t ls)
  new_all t [] h k = h
  new_all t (l ∷ ls) h k = new_all (with_line t l) ls (by (stands_in t l)) k.1
    where
      by : (b : Bool) → AllByRecursion P (if b then t else t ++ l ∷ [])
      by true = h
      by false = all_push t l h k.0

  one_of : (t : List Line) (l : Line) → AllByRecursion P t → stands_in t l ≡ true → P l
  one_of [] l h s = absurd (cc)
  one_of (k ∷ t) l h s = by (is_same l k) refl s (one_of t l h.1)
    where
      by : (b : Bool) → is_same l k ≡ b → b || stands_in t l ≡ true → (stands_in t l ≡ true → P l) → P l
      by true e s r = subst P (sym (same_line l k e)) h.0
      by false e s r = r s

  -- and of lines that stand in it
  pub standing_all : (t ls : List Line) → AllByRecursion P t → AllStandIn t ls → AllByRecursion P ls
  standing_all t [] h k = tt
  standing_all t (l ∷ ls) h k = (one_of t l h k.0, standing_all t ls h k.1)
