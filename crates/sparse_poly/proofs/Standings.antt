-- Shares and what they stand for: sums in range are exact, and sums out of range stay so.
use Rattle.std.specs.Prelude.{◌≡◌, ◌<◌, ◌≤◌, ℕ, ◌+◌, ◌-◌, Bool, true, false, if◌then◌else◌, nat_le, ℤ, pos, negsuc, unsigned_abs, ◌+ℤ◌, List, [], ◌∷◌, ◌++◌, length, take, drop, ◌*ℤ◌, refl}
use mathlib.Core.Logic.{inl, inr}
use Rattle.std.proofs.Common.{arith, sym, ◌∙◌, ap, subst}
use Rattle.std.specs.Ordering.{is_eq}
use Rattle.monomial.specs.Monomials.{monomial_cmp, monomial_times}
use Rattle.sparse_poly.specs.declared.entry.Share.{Share}
use Rattle.sparse_poly.specs.Standing.{Agree, Stands, StandsForBoth, IsLightSum, IsHeavyFault}
use Rattle.sparse_poly.proofs.Evaluation.{coefficient-append, weight-append}
use Rattle.sparse_poly.proofs.Sums.{ssum-append, sweight-append}
use Rattle.std.proofs.lemmas.Bool.Decides.{nat_tests}
use Rattle.std.proofs.lemmas.List.{take-append-drop}
use Rattle.std.proofs.lemmas.Slice.{between_to_end}
use Rattle.std.specs.declared.option.Option.{Option}
use Rattle.std.specs.declared.option.Option.TheVariants.{None}
use Rattle.sparse_poly.specs.declared.Term.{Term}
use Rattle.sparse_poly.specs.declared.PolyFault.{PolyFault}
use Rattle.sparse_poly.specs.declared.PolyFault.TheVariants.{Degree, Heavy, OutOfMemory}
use Rattle.sparse_poly.specs.Polynomials.{products, negated}
use Rattle.sparse_poly.specs.Contributions.{max_coeff, signed, signed_row, kept, higher, degree_of, contributions, signed_products, IsResult, IsFault}
use Rattle.sparse_poly.proofs.Adding.{none_before, degree_of-append, higher-assoc, signed_products-append}

pair : (a b c d : ℕ) → a ≡ b → c ≡ d → a + c ≡ b + d
pair a b c d e f = omega arith

more_left : (m a b : ℕ) → m < a → m < a + b
more_left m a b h = omega arith

more_right : (m a b : ℕ) → m < b → m < a + b
more_right m a b h = omega arith

pub agree_plus : (a b c d : ℕ) (x y z w : ℤ) → Agree a x b y → Agree c z d w → Agree (a + c) (x +ℤ z) (b + d) (y +ℤ w)
agree_plus a b c d x y z w (inl h) (inl k) = inl (pair a b c d h.0 k.0, ap (λ u. u +ℤ z) h.1 ∙ ap (λ u. y +ℤ u) k.1)
agree_plus a b c d x y z w (inl h) (inr k) = inr (more_right max_coeff a c k.0, more_right max_coeff b d k.1)
agree_plus a b c d x y z w (inr h) k = inr (more_left max_coeff a c h.0, more_left max_coeff b d h.1)

above_limit : (n : ℕ) → nat_le n max_coeff ≡ false → max_coeff < n
above_limit n e = grind (arith, nat_tests)

pub agree_kept : (c : ℤ) → Agree (unsigned_abs (kept c)) (kept c) (unsigned_abs c) c
agree_kept c = elim (nat_le (unsigned_abs c) max_coeff) as (λ b. nat_le (unsigned_abs c) max_coeff ≡ b → Agree (unsigned_abs (if b then c else negsuc max_coeff)) (if b then c else negsuc max_coeff) (unsigned_abs c) c) [
  | true ↦ λ e. inl (refl, refl)
  | false ↦ λ e. inr (omega arith, above_limit (unsigned_abs c) e)
] refl

pub same_if_light : (w v : ℕ) (z y : ℤ) → Agree w z v y → w ≤ max_coeff → (w ≡ v) × (z ≡ y)
same_if_light w v z y (inl h) l = h
same_if_light w v z y (inr h) l = absurd (omega (arith, h.0, l))

pub heavy_if : (w v : ℕ) (z y : ℤ) → Agree w z v y → max_coeff < w → max_coeff < v
heavy_if w v z y (inl h) l = omega (arith, h.0, l)
heavy_if w v z y (inr h) l = h.1

pub light_if : (w v : ℕ) (z y : ℤ) → Agree w z v y → w ≤ max_coeff → v ≤ max_coeff
light_if w v z y a l = let e = (same_if_light w v z y a l).0 in omega arith

pub IsResult-from_shares : (ss : List Share) (cs p : List Term) → Stands ss cs → degree_of cs ≡ None → IsLightSum ss p → IsResult cs p
IsResult-from_shares ss cs p a d s = record {
  degree = d;
  light = λ m. light_if _ _ _ _ (a m) (s.light m);
  sums = λ m. s.sums m ∙ (same_if_light _ _ _ _ (a m) (s.light m)).1;
  poly = s.poly;
}

pub IsFault-from_shares : (ss : List Share) (cs : List Term) (fault : PolyFault) → Stands ss cs → degree_of cs ≡ None → IsHeavyFault ss fault → IsFault cs fault
IsFault-from_shares ss cs (Degree v) a d h = absurd h
IsFault-from_shares ss cs (Heavy m) a d h = (
  d,
  record {
    heavy = heavy_if _ _ _ _ (a m) h.heavy;
    greatest = λ k l. light_if _ _ _ _ (a k) (h.greatest k l);
  },
)
IsFault-from_shares ss cs OutOfMemory a d h = tt

-- both products of a combination
pub combined_high : (l q a p : List Term) (first both : Option ℕ) → first ≡ higher None (degree_of (signed_products false l q)) → both ≡ higher first (degree_of (signed_products true a p)) → both ≡ degree_of (contributions l q a p)
combined_high l q a p first both e f = f ∙ ap (λ o. higher o (degree_of (negated (products a p)))) e ∙ sym (degree_of-append (products l q) (negated (products a p)))

pub agree_through : (a b c : ℕ) (x y z : ℤ) → Agree a x b y → Agree b y c z → Agree a x c z
agree_through a b c x y z (inl h) (inl k) = inl (h.0 ∙ k.0, h.1 ∙ k.1)
agree_through a b c x y z (inl h) (inr k) = inr (rw h.0 k.0, k.1)
agree_through a b c x y z (inr h) (inl k) = inr (h.0, rw (sym k.0) h.1)
agree_through a b c x y z (inr h) (inr k) = inr (h.0, k.1)

pub same_agrees : (a b : ℕ) (x y : ℤ) → a ≡ b → x ≡ y → Agree a x b y
same_agrees a b x y e f = inl (e, f)

pub Stands-both : (ss xs ys : List Share) (cs ds : List Term) → StandsForBoth ss xs ys → Stands xs cs → Stands ys ds → Stands ss (cs ++ ds)
Stands-both ss xs ys cs ds b x y m =
    agree_through _ _ _ _ _ _ (b m) (agree_through _ _ _ _ _ _ (agree_plus _ _ _ _ _ _ _ _ (x m) (y m)) (same_agrees _ _ _ _ (sym (weight-append m cs ds)) (sym (coefficient-append m cs ds))))

pub StandsForBoth-append : (xs ys : List Share) → StandsForBoth (xs ++ ys) xs ys
StandsForBoth-append xs ys m = same_agrees _ _ _ _ (sweight-append m xs ys) (ssum-append m xs ys)

pub Stands-append : (xs ys : List Share) (cs ds : List Term) → Stands xs cs → Stands ys ds → Stands (xs ++ ys) (cs ++ ds)
Stands-append xs ys cs ds a b = Stands-both (xs ++ ys) xs ys cs ds (StandsForBoth-append xs ys) a b

pub Stands-one : (s : Share) (t : Term) → s.monomial ≡ t.monomial → Agree s.weight s.sum (unsigned_abs t.coeff) t.coeff → Stands (s ∷ []) (t ∷ [])
Stands-one s t e a m = agree_plus _ _ _ _ _ _ _ _ (subst (λ n. Agree (if is_eq (monomial_cmp m s.monomial) then s.weight else 0) (if is_eq (monomial_cmp m s.monomial) then s.sum else pos 0) (if is_eq (monomial_cmp m n) then unsigned_abs t.coeff else 0) (if is_eq (monomial_cmp m n) then t.coeff else pos 0)) e (either (is_eq (monomial_cmp m s.monomial)))) (inl (refl, refl))
  where
    either : (b : Bool) → Agree (if b then s.weight else 0) (if b then s.sum else pos 0) (if b then unsigned_abs t.coeff else 0) (if b then t.coeff else pos 0)
    either true = a
    either false = inl (refl, refl)

pub row_one : (b : Bool) (t u : Term) → signed_row b t (u ∷ []) ≡ record { monomial = monomial_times t.monomial u.monomial; coeff = signed b (t.coeff *ℤ u.coeff) } ∷ []
row_one false t u = refl
row_one true t u = refl

-- the halves of a product
pub halves : (ts : List Term) (k : ℕ) → ts ≡ take k ts ++ take (length ts - k) (drop k ts)
halves ts k = sym (ap (λ zs. take k ts ++ zs) (between_to_end ts k (length ts) (omega arith)) ∙ take-append-drop k ts)

pub halves_high : (b : Bool) (ts us xs ys : List Term) (old mid new : Option ℕ) → ts ≡ xs ++ ys → mid ≡ higher old (degree_of (signed_products b xs us)) → new ≡ higher mid (degree_of (signed_products b ys us)) → new ≡ higher old (degree_of (signed_products b ts us))
halves_high b ts us xs ys old mid new e f g =
    g ∙ ap (λ o. higher o (degree_of (signed_products b ys us))) f ∙ higher-assoc old (degree_of (signed_products b xs us)) (degree_of (signed_products b ys us))
    ∙ ap (higher old) (sym (degree_of-append (signed_products b xs us) (signed_products b ys us)) ∙ ap degree_of (sym (signed_products-append b xs ys us) ∙ ap (λ zs. signed_products b zs us) (sym e)))

pub halves_sums : (b : Bool) (ts us xs ys : List Term) (mid new : Option ℕ) (ps qs ss : List Share) → ts ≡ xs ++ ys → new ≡ higher mid (degree_of (signed_products b ys us)) → (mid ≡ None → Stands ps (signed_products b xs us)) → (new ≡ None → Stands qs (signed_products b ys us)) → StandsForBoth ss ps qs → new ≡ None → Stands ss (signed_products b ts us)
halves_sums b ts us xs ys mid new ps qs ss e g p q both n =
    rw (e, signed_products-append b xs ys us) (Stands-both ss ps qs _ _ both (p (none_before mid (degree_of (signed_products b ys us)) (sym g ∙ n))) (q n))
