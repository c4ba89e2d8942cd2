-- The last terms of a polynomial, a divisor and a quotient.
use Rattle.std.specs.Prelude.{◌≡◌, ◌≢◌, ◌≤◌, ◌-◌, ℕ, suc, length, if◌then◌else◌, slice_get, ℤ, pos, ◌+ℤ◌, ◌*ℤ◌, unsigned_abs, List, [], ◌∷◌, ◌++◌, refl}
use Rattle.std.proofs.Common.{arith, sym, ◌∙◌, ap, subst}
use Rattle.std.proofs.lemmas.Int.{ints}
use Rattle.std.specs.List.{AllByRecursion}
use Rattle.std.specs.Ordering.{is_eq, ordering_reverse}
use Rattle.std.specs.declared.cmp.Ordering.{Ordering}
use Rattle.std.specs.declared.cmp.Ordering.TheVariants.{Less, Equal, Greater}
use Rattle.std.specs.declared.option.Option.TheVariants.{Some}
use Rattle.monomial.specs.Monomials.{monomial_cmp, monomial_times, IsPowers, IsMonomial}
use Rattle.monomial.proofs.Total.{monomial_cmp-IsAntisymmetric, monomial_cmp-IsTotalOrder}
use Rattle.monomial.proofs.Lower.{monomial_cmp-times}
use Rattle.sparse_poly.specs.declared.Term.{Term}
use Rattle.sparse_poly.specs.Polynomials.{coefficient, term_times, row, products, IsSum}
use Rattle.sparse_poly.specs.Contributions.{max_coeff, IsFalling, IsPoly}
use Rattle.sparse_poly.specs.Standing.{AllMonomials}
use Rattle.sparse_poly.specs.Clearing.{DividesOpenly}
use Rattle.sparse_poly.specs.Dividing.{IsTermOver}
use Rattle.sparse_poly.proofs.Descending.{all_both, all_front, all_last, all_map, all_more}
use Rattle.sparse_poly.proofs.Evaluation.{coefficient-append, zero_plus, is_of-own}
use Rattle.sparse_poly.proofs.OneQuotient.{times-mono, nonzero_product}
use Rattle.sparse_poly.proofs.Divisions.{row-more}
use Rattle.sparse_poly.proofs.LongDivision.{products_append}

abbrev AllOver : List (ℕ × ℕ) → List Term → Type 0
AllOver m ts = AllByRecursion (λ (t : Term). monomial_cmp m t.monomial ≡ Less) ts

over_through : (m n : List (ℕ × ℕ)) (ts : List Term) → monomial_cmp m n ≡ Less → AllOver n ts → AllOver m ts
over_through m n ts l h = all_map (λ (t : Term). monomial_cmp n t.monomial ≡ Less) (λ (t : Term). monomial_cmp m t.monomial ≡ Less) ts (λ t k. monomial_cmp-IsTotalOrder.trans m n t.monomial l k) h

over_last : (xs : List Term) (t : Term) → IsFalling (xs ++ t ∷ []) → AllOver t.monomial xs
over_last [] t f = tt
over_last (x ∷ xs) t f = (all_last (λ (u : Term). monomial_cmp u.monomial x.monomial ≡ Less) xs t f.0, over_last xs t f.1)

none_over : (m : List (ℕ × ℕ)) (ts : List Term) → AllOver m ts → coefficient ts m ≡ pos 0
none_over m [] h = refl
none_over m (t ∷ ts) h = ap (λ b. (if is_eq b then t.coeff else pos 0) +ℤ coefficient ts m) h.0 ∙ zero_plus _ ∙ none_over m ts h.1

at_last : (xs : List Term) (t : Term) → AllOver t.monomial xs → coefficient (xs ++ t ∷ []) t.monomial ≡ t.coeff
at_last xs t h = coefficient-append t.monomial xs (t ∷ []) ∙ ap (λ z. z +ℤ coefficient (t ∷ []) t.monomial) (none_over t.monomial xs h) ∙ ap (λ b. pos 0 +ℤ ((if b then t.coeff else pos 0) +ℤ pos 0)) (is_of-own t) ∙ last t.coeff
  where
    last : (z : ℤ) → pos 0 +ℤ (z +ℤ pos 0) ≡ z
    last z = omega (arith, ints)

-- the products of a term and those of a list that ends in w
row_over : (x w : Term) (us : List Term) → IsPowers x.monomial → IsPowers w.monomial → AllMonomials us → AllOver w.monomial us → AllOver (monomial_times x.monomial w.monomial) (row x us)
row_over x w [] h i m o = tt
row_over x w (u ∷ us) h i m o = (monomial_cmp-times x.monomial w.monomial u.monomial h i m.0.powers o.0, row_over x w us h i m.1 o.1)

products_over : (xs us : List Term) (b w : Term) → AllMonomials xs → IsPowers b.monomial → IsPowers w.monomial → AllMonomials us → AllOver b.monomial xs → AllOver w.monomial us → AllOver (monomial_times b.monomial w.monomial) (products xs (us ++ w ∷ []))
products_over [] us b w h i j m o p = tt
products_over (x ∷ xs) us b w h i j m o p =
    let first : monomial_cmp (monomial_times b.monomial w.monomial) (monomial_times x.monomial w.monomial) ≡ Less = times-mono b.monomial x.monomial w.monomial i h.0.powers j o.0 in
    let own : AllOver (monomial_times b.monomial w.monomial) (row x (us ++ w ∷ [])) = subst (AllOver (monomial_times b.monomial w.monomial)) (sym (row-more x us w)) (all_more (λ (t : Term). monomial_cmp (monomial_times b.monomial w.monomial) t.monomial ≡ Less) (row x us) (term_times x w) (over_through (monomial_times b.monomial w.monomial) (monomial_times x.monomial w.monomial) (row x us) first (row_over x w us h.0.powers j m p)) first) in
    all_both (λ (t : Term). monomial_cmp (monomial_times b.monomial w.monomial) t.monomial ≡ Less) (row x (us ++ w ∷ [])) (products xs (us ++ w ∷ [])) own (products_over xs us b w h.1 i j m o.1 p)

record HasLast (g : List Term) : Type 0 where
  front : List Term
  last : Term
  whole : front ++ last ∷ [] ≡ g

ends : (x : Term) (xs : List Term) → HasLast (x ∷ xs)
ends x [] = record { front = []; last = x; whole = refl }
ends x (y ∷ ys) = let r = ends y ys in record { front = x ∷ r.front; last = r.last; whole = ap (λ zs. x ∷ zs) r.whole }

module _ (us ps : List Term) (w z : Term) (n : IsPoly (us ++ w ∷ [])) (p : IsPoly (ps ++ z ∷ [])) where
  w_own : IsPowers w.monomial
  w_own = (all_last (λ (t : Term). IsMonomial t.monomial) us w n.monomials).powers

  z_over : AllOver z.monomial ps
  z_over = over_last ps z p.falling

  z_apart : z.coeff ≢ pos 0
  z_apart = all_last (λ (t : Term). t.coeff ≢ pos 0) ps z p.apart

  by_last : (gs : List Term) (b : Term) → IsPoly (gs ++ b ∷ []) → IsSum (ps ++ z ∷ []) (products (gs ++ b ∷ []) (us ++ w ∷ [])) → IsTermOver w z b
  by_last gs b q s = each (monomial_cmp z.monomial (monomial_times b.monomial w.monomial)) refl
    where
      b_own : IsMonomial b.monomial
      b_own = all_last (λ (t : Term). IsMonomial t.monomial) gs b q.monomials

      sums : (m : List (ℕ × ℕ)) → coefficient (ps ++ z ∷ []) m ≡ coefficient ((products gs (us ++ w ∷ []) ++ row b us) ++ term_times b w ∷ []) m
      sums m = s m ∙ ap (λ ts. coefficient ts m) (products_append gs (b ∷ []) (us ++ w ∷ [])) ∙ coefficient-append m (products gs (us ++ w ∷ [])) (row b (us ++ w ∷ []) ++ []) ∙ ap (λ v. coefficient (products gs (us ++ w ∷ [])) m +ℤ v) (coefficient-append m (row b (us ++ w ∷ [])) [] ∙ none (coefficient (row b (us ++ w ∷ [])) m) ∙ ap (λ ts. coefficient ts m) (row-more b us w) ∙ coefficient-append m (row b us) (term_times b w ∷ [])) ∙ more (coefficient (products gs (us ++ w ∷ [])) m) (coefficient (row b us) m) (coefficient (term_times b w ∷ []) m) ∙ ap (λ v. v +ℤ coefficient (term_times b w ∷ []) m) (sym (coefficient-append m (products gs (us ++ w ∷ [])) (row b us))) ∙ sym (coefficient-append m (products gs (us ++ w ∷ []) ++ row b us) (term_times b w ∷ []))
        where
          none : (v : ℤ) → v +ℤ pos 0 ≡ v
          none v = omega (arith, ints)

          more : (x y v : ℤ) → x +ℤ (y +ℤ v) ≡ (x +ℤ y) +ℤ v
          more x y v = omega (arith, ints)

      over : AllOver (monomial_times b.monomial w.monomial) (products gs (us ++ w ∷ []) ++ row b us)
      over = all_both (λ (t : Term). monomial_cmp (monomial_times b.monomial w.monomial) t.monomial ≡ Less) (products gs (us ++ w ∷ [])) (row b us) (products_over gs us b w (all_front (λ (t : Term). IsMonomial t.monomial) gs (b ∷ []) q.monomials) b_own.powers w_own (all_front (λ (t : Term). IsMonomial t.monomial) us (w ∷ []) n.monomials) (over_last gs b q.falling) (over_last us w n.falling)) (row_over b w us b_own.powers w_own (all_front (λ (t : Term). IsMonomial t.monomial) us (w ∷ []) n.monomials) (over_last us w n.falling))

      lead : coefficient ((products gs (us ++ w ∷ []) ++ row b us) ++ term_times b w ∷ []) (monomial_times b.monomial w.monomial) ≡ b.coeff *ℤ w.coeff
      lead = at_last (products gs (us ++ w ∷ []) ++ row b us) (term_times b w) over

      some : b.coeff *ℤ w.coeff ≢ pos 0
      some = nonzero_product b.coeff w.coeff (all_last (λ (t : Term). t.coeff ≢ pos 0) gs b q.apart) (all_last (λ (t : Term). t.coeff ≢ pos 0) us w n.apart)

      each : (o : Ordering) → monomial_cmp z.monomial (monomial_times b.monomial w.monomial) ≡ o → IsTermOver w z b
      each Less o = absurd (z_apart (sym (at_last ps z z_over) ∙ sums z.monomial ∙ none_over z.monomial _ (all_more (λ (t : Term). monomial_cmp z.monomial t.monomial ≡ Less) (products gs (us ++ w ∷ []) ++ row b us) (term_times b w) (over_through z.monomial (monomial_times b.monomial w.monomial) _ o over) o)))
      each Greater o =
          let l : monomial_cmp (monomial_times b.monomial w.monomial) z.monomial ≡ Less = monomial_cmp-IsTotalOrder.antisymm (monomial_times b.monomial w.monomial) z.monomial ∙ ap ordering_reverse o in
          absurd (some (sym lead ∙ sym (sums (monomial_times b.monomial w.monomial)) ∙ none_over (monomial_times b.monomial w.monomial) _ (all_more (λ (t : Term). monomial_cmp (monomial_times b.monomial w.monomial) t.monomial ≡ Less) ps z (over_through (monomial_times b.monomial w.monomial) z.monomial ps l z_over) l)))
      each Equal o =
          let same : z.monomial ≡ monomial_times b.monomial w.monomial = monomial_cmp-IsAntisymmetric z.monomial (monomial_times b.monomial w.monomial) o in
          record { own = b_own; monomial = sym same; coeff = sym lead ∙ sym (sums (monomial_times b.monomial w.monomial)) ∙ ap (coefficient (ps ++ z ∷ [])) (sym same) ∙ at_last ps z z_over }

  pub last_over : ((t : Term) → IsTermOver w z t → ⊥) → (g : List Term) → DividesOpenly (us ++ w ∷ []) (ps ++ z ∷ []) g → ⊥
  last_over f [] d = z_apart (sym (at_last ps z z_over) ∙ d.product.sums z.monomial)
  last_over f (x ∷ xs) d =
      let e = ends x xs in
      f e.last (by_last e.front e.last (subst IsPoly (sym e.whole) d.poly) (subst (λ g. IsSum (ps ++ z ∷ []) (products g (us ++ w ∷ []))) (sym e.whole) d.product.sums))

-- a list with its last member
pub record HasFront (xs : List Term) (t : Term) : Type 0 where
  pub front : List Term
  pub whole : front ++ t ∷ [] ≡ xs

shifted : (x : Term) (xs : List Term) (k j : ℕ) → k ≡ suc j → slice_get (x ∷ xs) k ≡ slice_get xs j
shifted x xs k j e = ap (slice_get (x ∷ xs)) e

pub front_of : (xs : List Term) (t : Term) → Some t ≡ slice_get xs (length xs - 1) → HasFront xs t
front_of [] t e = absurd (cc e)
front_of (x ∷ []) t e = let same : t ≡ x = cc e in record { front = []; whole = ap (λ y. y ∷ []) same }
front_of (x ∷ y ∷ ys) t e =
    let shorter : length (x ∷ y ∷ ys) - 1 ≡ suc (length (y ∷ ys) - 1) = omega arith in
    let r = front_of (y ∷ ys) t (e ∙ shifted x (y ∷ ys) (length (x ∷ y ∷ ys) - 1) (length (y ∷ ys) - 1) shorter) in
    record { front = x ∷ r.front; whole = ap (λ zs. x ∷ zs) r.whole }

pub last_apart : (xs : List Term) (t : Term) → Some t ≡ slice_get xs (length xs - 1) → IsPoly xs → t.coeff ≢ pos 0
last_apart xs t e p = let f = front_of xs t e in all_last (λ (u : Term). u.coeff ≢ pos 0) f.front t (subst IsPoly (sym f.whole) p).apart

pub last_small : (xs : List Term) (t : Term) → Some t ≡ slice_get xs (length xs - 1) → IsPoly xs → unsigned_abs t.coeff ≤ max_coeff
last_small xs t e p = let f = front_of xs t e in all_last (λ (u : Term). unsigned_abs u.coeff ≤ max_coeff) f.front t (subst IsPoly (sym f.whole) p).in_range

pub no_last : (ns ps : List Term) (w z : Term) → Some w ≡ slice_get ns (length ns - 1) → Some z ≡ slice_get ps (length ps - 1) → IsPoly ns → IsPoly ps → ((t : Term) → IsTermOver w z t → ⊥) → (g : List Term) → DividesOpenly ns ps g → ⊥
no_last ns ps w z e f n p h g d =
    let a = front_of ns w e in
    let b = front_of ps z f in
    last_over a.front b.front w z (subst IsPoly (sym a.whole) n) (subst IsPoly (sym b.whole) p) h g (subst (λ xs. DividesOpenly xs (b.front ++ z ∷ []) g) (sym a.whole) (subst (λ xs. DividesOpenly ns xs g) (sym b.whole) d))
