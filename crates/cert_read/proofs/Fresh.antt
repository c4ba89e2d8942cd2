-- Each table lacks a line whose number is at most its length.
use Rattle.std.specs.Prelude.{◌≡◌, ℕ, zero, suc, ◌+◌, ◌<◌, ◌≤◌, Bool, true, false, ◌||◌, ◌==◌, if◌then◌else◌, Option, None, Some, List, [], ◌∷◌, length, map, refl}
use Rattle.std.proofs.Common.{sym, ◌∙◌, ap, arith}
use Rattle.derive_lines.specs.declared.parts.Line.{Line}
use Rattle.derive_lines.specs.declared.parts.Item.{Item}
use Rattle.derive_lines.specs.declared.parts.Item.TheVariants.{Root}
use Rattle.derive_lines.specs.declared.parts.Way.TheVariants.{Fwd}
use Rattle.cert_text.specs.Tables.{is_same, stands_in}
use Rattle.cert_read.proofs.Tables.{equal_number, own_number, same_line}

-- ---- numbers

abbrev is_among : ℕ → List ℕ → Bool
is_among k [] = false
is_among k (n ∷ ns) = (n == k) || is_among k ns

abbrev without : ℕ → List ℕ → List ℕ
without k [] = []
without k (n ∷ ns) = if n == k then without k ns else n ∷ without k ns

without_shorter : (k : ℕ) (ns : List ℕ) → length (without k ns) ≤ length ns
without_shorter k [] = omega arith
without_shorter k (n ∷ ns) = by (n == k) (without_shorter k ns)
  where
    by : (b : Bool) → length (without k ns) ≤ length ns → length (if b then without k ns else n ∷ without k ns) ≤ suc (length ns)
    by true h = omega (arith, h)
    by false h = omega (arith, h)

among_shorter : (k : ℕ) (ns : List ℕ) → is_among k ns ≡ true → length (without k ns) < length ns
among_shorter k [] h = absurd (cc)
among_shorter k (n ∷ ns) h = by (n == k) h (without_shorter k ns) (among_shorter k ns)
  where
    by : (b : Bool) → b || is_among k ns ≡ true → length (without k ns) ≤ length ns → (is_among k ns ≡ true → length (without k ns) < length ns) → length (if b then without k ns else n ∷ without k ns) < suc (length ns)
    by true h le r = omega (arith, le)
    by false h le r = let lt = r h in omega (arith, lt)

-- what is not among the others and is another number is not among all
not_among : (k m : ℕ) (ns : List ℕ) → k < m → is_among m (without k ns) ≡ false → is_among m ns ≡ false
not_among k m [] lt h = refl
not_among k m (n ∷ ns) lt h = by (n == k) refl (n == m) refl h (not_among k m ns lt)
  where
    by : (b : Bool) → (n == k) ≡ b → (c : Bool) → (n == m) ≡ c → is_among m (if b then without k ns else n ∷ without k ns) ≡ false → (is_among m (without k ns) ≡ false → is_among m ns ≡ false) → (n == m) || is_among m ns ≡ false
    by true e true f h r = absurd (let p = equal_number n k e in let q = equal_number n m f in omega (arith, p, q, lt))
    by true e false f h r = ap (λ x. x || is_among m ns) f ∙ r h
    by false e true f h r = absurd (let w : true ≡ false = sym (ap (λ x. x || is_among m (without k ns)) f) ∙ h in cc)
    by false e false f h r = ap (λ x. x || is_among m ns) f ∙ r (sym (ap (λ x. x || is_among m (without k ns)) f) ∙ h)

-- from each number on there is one that is not among these
free_from : (fuel : ℕ) (ns : List ℕ) (n : ℕ) → length ns ≤ fuel → (k : ℕ) × (n ≤ k) × (k ≤ n + length ns) × (is_among k ns ≡ false)
free_from zero [] n le = (n, omega arith, omega arith, refl)
free_from zero (m ∷ ns) n le = absurd (omega (arith, le))
free_from (suc fuel) ns n le = by (is_among n ns) refl (free_from fuel (without n ns) (suc n))
  where
    by : (b : Bool) → is_among n ns ≡ b → (length (without n ns) ≤ fuel → (k : ℕ) × (suc n ≤ k) × (k ≤ suc n + length (without n ns)) × (is_among k (without n ns) ≡ false)) → (k : ℕ) × (n ≤ k) × (k ≤ n + length ns) × (is_among k ns ≡ false)
    by false e r = (n, omega arith, omega arith, e)
    by true e r =
        let lt = among_shorter n ns e in
        let q = r (omega (arith, lt, le)) in
        let a = q.1 in
        let b = q.2 in
        (q.0, omega (arith, a), omega (arith, b, lt), not_among n q.0 ns (omega (arith, a)) q.3)

-- ---- lines

-- a line by its number
abbrev pub numbered : ℕ → Line
numbered k = record { way = Fwd; from = Some (Root k); by = None; l = []; a = []; m = []; made = [] }

abbrev item_number : Option Item → ℕ
item_number (Some (Root k)) = k
item_number r = 0

abbrev number_of : Line → ℕ
number_of l = item_number l.from

other_lines : (t : List Line) (k : ℕ) → is_among k (map number_of t) ≡ false → stands_in t (numbered k) ≡ false
other_lines [] k h = refl
other_lines (l ∷ t) k h = by (number_of l == k) refl (is_same (numbered k) l) refl h (other_lines t k)
  where
    by : (c : Bool) → (number_of l == k) ≡ c → (b : Bool) → is_same (numbered k) l ≡ b → c || is_among k (map number_of t) ≡ false → (is_among k (map number_of t) ≡ false → stands_in t (numbered k) ≡ false) → b || stands_in t (numbered k) ≡ false
    by true f b e h r = absurd (cc)
    by false f true e h r = absurd (let w : true ≡ false = sym (own_number k) ∙ ap (λ x. x == k) (sym (here e)) ∙ f in cc)
      where
        here : is_same (numbered k) l ≡ true → number_of l ≡ k
        here e = ap (λ x. item_number x.from) (sym (same_line (numbered k) l e))
    by false f false e h r = r h

-- a line that a table lacks
pub fresh : (t : List Line) → (k : ℕ) × (k ≤ length t) × (stands_in t (numbered k) ≡ false)
fresh t =
    let f = free_from (length (map number_of t)) (map number_of t) 0 (omega arith) in
    let le = f.2 in
    let n = same_length t in
    (f.0, omega (arith, le, n), other_lines t f.0 f.3)
  where
    same_length : (t : List Line) → length (map number_of t) ≡ length t
    same_length [] = refl
    same_length (l ∷ t) = ap suc (same_length t)
