-- A text spells at most one number, a list is determined by what is made of its items, and at most one item is the first without something.
use Rattle.std.specs.Prelude.{◌≡◌, ℕ, suc, ◌≤◌, ℤ, unsigned_abs, Some, List, [], ◌∷◌, ◌++◌, map, length, refl}
use Rattle.std.specs.List.{All}
use Rattle.std.specs.Fmt.{signed_decimal}
use Rattle.std.proofs.Common.{◌∙◌, ap, sym as back, arith}
use Rattle.std.proofs.lemmas.List.Elements.{All-head, All-map, All-tail, All-weaker}
use Rattle.fusion_ring.specs.Fusion.{Fusion}
use Rattle.symbol_index.specs.declared.Symbol.{Symbol}
use Rattle.symbol_index.specs.declared.GaugeEntry.{GaugeEntry}
use Rattle.sparse_poly.specs.Contributions.{max_coeff}
use Rattle.ring_file.specs.Problems.{IsGauge, IsGaugeEntry}
use Rattle.ring_file.specs.Reading.{IsFirstWithout, HasNumber, NamesUnknown, in_file}
use Rattle.decimal_text.proofs.Written.{same_signed}

-- ---- the number of a text

pub same_number : (v w : ℤ) → unsigned_abs v ≤ max_coeff → unsigned_abs w ≤ max_coeff → signed_decimal v ≡ signed_decimal w → v ≡ w
same_number v w h k e = same_signed v w (omega arith) (omega arith) e

-- ---- lists

pub same_items : {T : Type 0} (xs ys : List T) → map Some xs ≡ map Some ys → xs ≡ ys
same_items [] [] e = refl
same_items [] (y ∷ ys) e = absurd (cc e)
same_items (x ∷ xs) [] e = absurd (cc e)
same_items (x ∷ xs) (y ∷ ys) e =
    let t : map Some xs ≡ map Some ys = cc e in
    let i = same_items xs ys t in
    let h : x ≡ y = cc e in
    cc (h, i)

same_entry : (r : Fusion) (x y : GaugeEntry) → IsGaugeEntry r x → IsGaugeEntry r y → in_file x ≡ in_file y → x ≡ y
same_entry r x y h k e =
    let s : x.symbol ≡ y.symbol = ap (λ t. t.0) e in
    let v : x.value ≡ y.value = same_number x.value y.value h.value k.value (ap (λ t. t.1) e) in
    both x.symbol y.symbol x.value y.value s v
  where
    both : (s t : Symbol) (v w : ℤ) → s ≡ t → v ≡ w → ◌≡◌ {A = GaugeEntry} (record { symbol = s; value = v }) (record { symbol = t; value = w })
    both s t v w e f = cc

pub same_gauge : (r : Fusion) (xs ys : List GaugeEntry) → IsGauge r xs → IsGauge r ys → map in_file xs ≡ map in_file ys → xs ≡ ys
same_gauge r [] [] h k e = refl
same_gauge r [] (y ∷ ys) h k e = absurd (cc e)
same_gauge r (x ∷ xs) [] h k e = absurd (cc e)
same_gauge r (x ∷ xs) (y ∷ ys) h k e =
    let t : map in_file xs ≡ map in_file ys = cc e in
    let i : xs ≡ ys = same_gauge r xs ys (All-tail (IsGaugeEntry r) x xs h) (All-tail (IsGaugeEntry r) y ys k) t in
    let f : in_file x ≡ in_file y = cc e in
    let j : x ≡ y = same_entry r x y (All-head (IsGaugeEntry r) x xs h) (All-head (IsGaugeEntry r) y ys k) f in
    cc (j, i)

-- ---- the first item without something

module _ {T : Type 0} (P : T → Type 0) where
  same_split : (f g : List T) (a b : T) (r s : List T) → f ++ a ∷ r ≡ g ++ b ∷ s → All P f → All P g → ¬ P a → ¬ P b → length f ≡ length g
  same_split [] [] a b r s e h k y z = refl
  same_split [] (x ∷ g) a b r s e h k y z = let q : a ≡ x = cc e in absurd (y (rw q (All-head P x g k)))
  same_split (x ∷ f) [] a b r s e h k y z = let q : b ≡ x = cc e in absurd (z (rw q (All-head P x f h)))
  same_split (x ∷ f) (x' ∷ g) a b r s e h k y z =
      let t : f ++ a ∷ r ≡ g ++ b ∷ s = cc e in
      ap suc (same_split f g a b r s t (All-tail P x f h) (All-tail P x' g k) y z)

  pub one_first : (xs : List T) (i j : ℕ) → IsFirstWithout P xs i → IsFirstWithout P xs j → i ≡ j
  one_first xs i j h k = back h.place ∙ same_split h.front k.front h.at k.at h.rest k.rest (back h.split ∙ k.split) h.holds k.holds h.fails k.fails ∙ k.place

  at_split : (f : List T) (a : T) (r : List T) → All P (f ++ a ∷ r) → P a
  at_split [] a r h = All-head P a r h
  at_split (x ∷ f) a r h = at_split f a r (All-tail P x (f ++ a ∷ r) h)

  pub all_or_first : (xs : List T) (i : ℕ) → All P xs → ¬ IsFirstWithout P xs i
  all_or_first xs i h k = k.fails (at_split k.front k.at k.rest (rw k.split at h))

-- ---- the entries of a gauge

pub gauge_numbers : (r : Fusion) (xs : List GaugeEntry) → IsGauge r xs → All HasNumber (map in_file xs)
gauge_numbers r xs h = All-map HasNumber in_file xs (All-weaker (IsGaugeEntry r) (λ x. HasNumber (in_file x)) (λ x k. (x.value, record { spelled = refl; in_range = k.value })) xs h)

pub gauge_symbols : (r : Fusion) (xs : List GaugeEntry) → IsGauge r xs → All (NamesUnknown r) (map in_file xs)
gauge_symbols r xs h = All-map (NamesUnknown r) in_file xs (All-weaker (IsGaugeEntry r) (λ x. NamesUnknown r (in_file x)) (λ x k. k.symbol) xs h)
