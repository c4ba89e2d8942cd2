-- Contributions of two parts: their degree and their products.
use Rattle.std.specs.Prelude.{◌≡◌, ◌<◌, ℕ, ◌+◌, Bool, true, false, if◌then◌else◌, nat_lt, neg_ℤ, List, [], ◌∷◌, ◌++◌, take, length, slice_index_or, refl}
use Rattle.std.proofs.Common.{arith, sym, ◌∙◌, ap, append_assoc}
use Rattle.std.proofs.Math.Numerals.{add-one}
use Rattle.std.proofs.lemmas.Bool.Decides.{nat_tests}
use Rattle.std.proofs.Math.Seq.{take-suc}
use Rattle.std.specs.declared.option.Option.{Option}
use Rattle.std.specs.declared.option.Option.TheVariants.{None, Some}
use Rattle.monomial.specs.Monomials.{too_high}
use Rattle.sparse_poly.specs.declared.Term.{Term}
use Rattle.sparse_poly.specs.Polynomials.{row, products, negated, term_times}
use Rattle.sparse_poly.specs.Contributions.{signed_row, signed_products, higher, degree_of}
use Rattle.std.proofs.lemmas.List.{append-nil}

pub higher-None : (o : Option ℕ) → higher o None ≡ o
higher-None None = refl
higher-None (Some v) = refl

greatest : (u v w : ℕ) → (if nat_lt (if nat_lt u v then v else u) w then w else (if nat_lt u v then v else u)) ≡ (if nat_lt u (if nat_lt v w then w else v) then (if nat_lt v w then w else v) else u)
greatest u v w = grind (arith, nat_tests)

pub higher-assoc : (a b c : Option ℕ) → higher (higher a b) c ≡ higher a (higher b c)
higher-assoc None b c = refl
higher-assoc (Some u) None c = refl
higher-assoc (Some u) (Some v) None = refl
higher-assoc (Some u) (Some v) (Some w) = ap Some (greatest u v w)

pub degree_of-append : (cs ds : List Term) → degree_of (cs ++ ds) ≡ higher (degree_of cs) (degree_of ds)
degree_of-append [] ds = refl
degree_of-append (c ∷ cs) ds = ap (λ o. higher (too_high c.monomial) o) (degree_of-append cs ds) ∙ sym (higher-assoc (too_high c.monomial) (degree_of cs) (degree_of ds))

pub none_before : (a b : Option ℕ) → higher a b ≡ None → a ≡ None
none_before None b e = refl
none_before (Some u) None e = e
none_before (Some u) (Some v) e = absurd (cc e)

negated-append : (cs ds : List Term) → negated (cs ++ ds) ≡ negated cs ++ negated ds
negated-append [] ds = refl
negated-append (c ∷ cs) ds = ap (λ es. let t : Term = record { monomial = c.monomial; coeff = neg_ℤ c.coeff } in t ∷ es) (negated-append cs ds)

row-append : (t : Term) (us vs : List Term) → row t (us ++ vs) ≡ row t us ++ row t vs
row-append t [] vs = refl
row-append t (u ∷ us) vs = ap (λ es. term_times t u ∷ es) (row-append t us vs)

products-append : (ts us vs : List Term) → products (ts ++ us) vs ≡ products ts vs ++ products us vs
products-append [] us vs = refl
products-append (t ∷ ts) us vs = ap (λ es. row t vs ++ es) (products-append ts us vs) ∙ sym (append_assoc (row t vs) (products ts vs) (products us vs))

pub signed_products-append : (b : Bool) (ts us vs : List Term) → signed_products b (ts ++ us) vs ≡ signed_products b ts vs ++ signed_products b us vs
signed_products-append false ts us vs = products-append ts us vs
signed_products-append true ts us vs = ap negated (products-append ts us vs) ∙ negated-append (products ts vs) (products us vs)

pub signed_products-one : (b : Bool) (t : Term) (vs : List Term) → signed_products b (t ∷ []) vs ≡ signed_row b t vs
signed_products-one false t vs = append-nil (row t vs)
signed_products-one true t vs = ap negated (append-nil (row t vs))

pub take_one : (xs : List Term) (k : ℕ) (x : Term) → k < length xs → x ≡ slice_index_or xs k x → take (k + 1) xs ≡ take k xs ++ x ∷ []
take_one xs k x h e = ap (λ n. take n xs) (add-one k) ∙ take-suc xs k x h ∙ ap (λ y. take k xs ++ y ∷ []) (sym e)
