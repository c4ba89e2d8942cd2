-- There is one quotient, one strip and one clearing.
use Rattle.std.specs.Prelude.{◌≡◌, ◌≢◌, ◌<◌, ◌≤◌, ℕ, ◌+◌, length, drop, MatchOption, ℤ, pos, ◌+ℤ◌, ◌*ℤ◌, List, [], ◌∷◌, ◌++◌, refl, slice_index_or}
use Rattle.std.proofs.Common.{arith, sym, ◌∙◌, ap, subst}
use Rattle.std.proofs.lemmas.Int.{ints}
use Rattle.std.proofs.Math.IntN.{*ℤ-zero, *ℤ_comm}
use Rattle.std.specs.Ordering.{ordering_reverse}
use Rattle.std.specs.declared.cmp.Ordering.{Ordering}
use Rattle.std.specs.declared.cmp.Ordering.TheVariants.{Less, Equal, Greater}
use Rattle.monomial.specs.Monomials.{monomial_cmp, monomial_times, top, IsPowers}
use Rattle.monomial.proofs.Total.{monomial_cmp-IsAntisymmetric, monomial_cmp-IsTotalOrder}
use Rattle.monomial.proofs.Exponents.{exponent-times, IsPowers-times, same_from_exponents}
use Rattle.monomial.proofs.Lower.{monomial_cmp-times}
use Rattle.sparse_poly.specs.declared.Term.{Term}
use Rattle.sparse_poly.specs.Polynomials.{coefficient, term_times, row, products, IsSum}
use Rattle.sparse_poly.specs.Contributions.{IsFalling, IsPoly, IsResult, IsFault}
use Rattle.sparse_poly.specs.Standing.{AllMonomials}
use Rattle.sparse_poly.specs.Reads.{main_variable}
use Rattle.std.specs.declared.option.Option.{Option}
use Rattle.std.specs.declared.option.Option.TheVariants.{None, Some}
use Rattle.sparse_poly.specs.Units.{IsStripped}
use Rattle.sparse_poly.specs.Clearing.{IsLight, IsInForm, DividesOpenly, IsDivision, IsDividedOut, finished, passed, divided, IsCleared, total_degree, leading_degree}
use Rattle.std.specs.List.{Contains}
pub use Rattle.sparse_poly.specs.Owing.{AllUnder}
use Rattle.std.specs.FinMap.Entries.{by_order}
use Rattle.std.specs.Ordering.{nat_cmp}
use Rattle.std.proofs.lemmas.Option.{none-some, same_Some}
use Rattle.sparse_poly.specs.declared.Stripped.{Stripped}
use Rattle.sparse_poly.specs.declared.PolyFault.{PolyFault}
use Rattle.sparse_poly.specs.declared.PolyFault.TheVariants.{Degree, Heavy, OutOfMemory}
use Rattle.sparse_poly.proofs.Ordered.{main_variable-leading}
use Rattle.sparse_poly.proofs.Evaluation.{coefficient-append}
use Rattle.sparse_poly.proofs.Places.{drop_one, drop_end}
use Rattle.sparse_poly.specs.OrderLaws.{same_term}
use Rattle.sparse_poly.proofs.Descending.{all_both}
use Rattle.sparse_poly.proofs.Same.{coefficient_above, coefficient_leading, all_through, same_polynomial}
use Rattle.sparse_poly.proofs.PrimitiveParts.{cancel_factor}
use Rattle.sparse_poly.proofs.Strips.{row_falls, rows_first, row_of_stripped, monomial_cancel, one_rest}

pub times_comm : (m n : List (ℕ × ℕ)) → IsPowers m → IsPowers n → monomial_times m n ≡ monomial_times n m
times_comm m n h i = same_from_exponents _ _ (IsPowers-times m n h i) (IsPowers-times n m i h) (λ v. omega (arith, exponent-times m n v h i, exponent-times n m v i h))

pub times-mono : (x a u : List (ℕ × ℕ)) → IsPowers x → IsPowers a → IsPowers u → monomial_cmp x a ≡ Less → monomial_cmp (monomial_times x u) (monomial_times a u) ≡ Less
times-mono x a u h i j l = ap (λ m. monomial_cmp m (monomial_times a u)) (times_comm x u h j) ∙ ap (monomial_cmp (monomial_times u x)) (times_comm a u i j) ∙ monomial_cmp-times u x a j h i l

pub right_cancel : (a b u : List (ℕ × ℕ)) → IsPowers a → IsPowers b → IsPowers u → monomial_times a u ≡ monomial_times b u → a ≡ b
right_cancel a b u h i j e = monomial_cancel u a b j h i (times_comm u a j h ∙ e ∙ times_comm b u i j)

pub right_factor : (a b c : ℤ) → c ≢ pos 0 → a *ℤ c ≡ b *ℤ c → a ≡ b
right_factor a b c n e = cancel_factor c a b n (*ℤ_comm c a ∙ e ∙ *ℤ_comm b c)

pub nonzero_product : (c d : ℤ) → c ≢ pos 0 → d ≢ pos 0 → c *ℤ d ≢ pos 0
nonzero_product c d h i z = i (cancel_factor c d (pos 0) h (z ∙ sym (*ℤ-zero c)))

-- all products of g and u ∷ us but the leading one are below that
rows_under : (as' : List Term) (a u : Term) (us : List Term) → IsPowers a.monomial → AllMonomials as' → AllMonomials (u ∷ us) → IsFalling (u ∷ us) → AllUnder a.monomial as' → AllUnder (monomial_times a.monomial u.monomial) (products as' (u ∷ us))
rows_under [] a u us g h i f b = tt
rows_under (x ∷ xs) a u us g h i f b =
    let first : monomial_cmp (monomial_times x.monomial u.monomial) (monomial_times a.monomial u.monomial) ≡ Less = times-mono x.monomial a.monomial u.monomial h.0.powers g i.0.powers b.0 in
    all_both (λ (t : Term). monomial_cmp t.monomial (monomial_times a.monomial u.monomial) ≡ Less) (row x (u ∷ us)) (products xs (u ∷ us))
    (first, all_through (monomial_times x.monomial u.monomial) (monomial_times a.monomial u.monomial) (row x us) first (row_falls x (u ∷ us) h.0.powers i f).0)
    (rows_under xs a u us g h.1 i f b.1)

pub tail_under : (a u : Term) (as' us : List Term) → AllMonomials (a ∷ as') → IsFalling (a ∷ as') → AllMonomials (u ∷ us) → IsFalling (u ∷ us) → AllUnder (monomial_times a.monomial u.monomial) (row a us ++ products as' (u ∷ us))
tail_under a u as' us h f i g =
    all_both (λ (t : Term). monomial_cmp t.monomial (monomial_times a.monomial u.monomial) ≡ Less) (row a us) (products as' (u ∷ us)) (row_falls a (u ∷ us) h.0.powers i g).0 (rows_under as' a u us h.0.powers h.1 i g f.0)

-- lists with the same coefficients that are led by one term each have one leading term
under_none : (t u : Term) (ts us : List Term) → monomial_cmp t.monomial u.monomial ≡ Less → AllUnder t.monomial ts → AllUnder u.monomial us → u.coeff ≢ pos 0 → IsSum (t ∷ ts) (u ∷ us) → ⊥
under_none t u ts us l f g n e = n (sym (coefficient_leading u us g) ∙ sym (e u.monomial) ∙ coefficient_above u.monomial (t ∷ ts) (l, all_through t.monomial u.monomial ts l f))

pub same_leading : (t u : Term) (ts us : List Term) → AllUnder t.monomial ts → AllUnder u.monomial us → t.coeff ≢ pos 0 → u.coeff ≢ pos 0 → IsSum (t ∷ ts) (u ∷ us) → (t.monomial ≡ u.monomial) × (t.coeff ≡ u.coeff)
same_leading t u ts us f g n m e = each (monomial_cmp t.monomial u.monomial) refl
  where
    each : (o : Ordering) → monomial_cmp t.monomial u.monomial ≡ o → (t.monomial ≡ u.monomial) × (t.coeff ≡ u.coeff)
    each Less o = absurd (under_none t u ts us o f g m e)
    each Greater o = absurd (under_none u t us ts (monomial_cmp-IsTotalOrder.antisymm u.monomial t.monomial ∙ ap ordering_reverse o) g f n (λ k. sym (e k)))
    each Equal o =
        let one : t.monomial ≡ u.monomial = monomial_cmp-IsAntisymmetric t.monomial u.monomial o in
        (one, sym (coefficient_leading t ts f) ∙ e t.monomial ∙ ap (coefficient (u ∷ us)) one ∙ coefficient_leading u us g)

pub IsPoly-rest : (t : Term) (ts : List Term) → IsPoly (t ∷ ts) → IsPoly ts
IsPoly-rest t ts p = record { falling = p.falling.1; monomials = p.monomials.1; apart = p.apart.1; in_range = p.in_range.1 }

drop_row : (x y a b : ℤ) → x ≡ y → x +ℤ a ≡ y +ℤ b → a ≡ b
drop_row x y a b e f = omega (arith, ints)

-- there is one factor
pub one_factor : (u : Term) (us g h : List Term) → IsPoly (u ∷ us) → IsPoly g → IsPoly h → IsSum (products g (u ∷ us)) (products h (u ∷ us)) → g ≡ h
one_factor u us [] [] n p q e = refl
one_factor u us [] (b ∷ bs) n p q e = absurd (nonzero_product b.coeff u.coeff q.apart.0 n.apart.0 (sym (coefficient_leading (term_times b u) _ (tail_under b u bs us q.monomials q.falling n.monomials n.falling)) ∙ sym (e (monomial_times b.monomial u.monomial))))
one_factor u us (a ∷ as') [] n p q e = absurd (nonzero_product a.coeff u.coeff p.apart.0 n.apart.0 (sym (coefficient_leading (term_times a u) _ (tail_under a u as' us p.monomials p.falling n.monomials n.falling)) ∙ e (monomial_times a.monomial u.monomial)))
one_factor u us (a ∷ as') (b ∷ bs) n p q e =
    let lead = same_leading (term_times a u) (term_times b u) _ _ (tail_under a u as' us p.monomials p.falling n.monomials n.falling) (tail_under b u bs us q.monomials q.falling n.monomials n.falling) (nonzero_product a.coeff u.coeff p.apart.0 n.apart.0) (nonzero_product b.coeff u.coeff q.apart.0 n.apart.0) e in
    let same : a ≡ b = same_term a b (right_cancel a.monomial b.monomial u.monomial p.monomials.0.powers q.monomials.0.powers n.monomials.0.powers lead.0) (right_factor a.coeff b.coeff u.coeff n.apart.0 lead.1) in
    let rest : as' ≡ bs = one_factor u us as' bs n (IsPoly-rest a as' p) (IsPoly-rest b bs q) (λ m. drop_row (coefficient (row a (u ∷ us)) m) (coefficient (row b (u ∷ us)) m) _ _ (ap (λ (x : Term). coefficient (row x (u ∷ us)) m) same) (sym (coefficient-append m (row a (u ∷ us)) (products as' (u ∷ us))) ∙ e m ∙ coefficient-append m (row b (u ∷ us)) (products bs (u ∷ us)))) in
    ap (λ x. x ∷ as') same ∙ ap (λ xs. b ∷ xs) rest

-- there is one quotient
pub one_quotient : (n p g h : List Term) → IsPoly n → n ≢ [] → DividesOpenly n p g → DividesOpenly n p h → g ≡ h
one_quotient [] p g h i m d e = absurd (m refl)
one_quotient (u ∷ us) p g h i m d e = one_factor u us g h i d.poly e.poly (λ k. sym (d.product.sums k) ∙ e.product.sums k)

not_zero : (n : List Term) → (main_variable n ≢ None) → n ≢ []
not_zero [] h e = h refl
not_zero (t ∷ ts) h e = absurd (cc e)

-- what is divided out is determined
one_division : {units ns : List (List Term)} {f g e h e' h' : List Term} → IsDividedOut units ns f g e h → IsDividedOut units ns f g e' h' → (e ≡ e') × (h ≡ h')
one_division finished finished = (refl, refl)
one_division (passed z r) (passed z' r') = one_division r r'
one_division (passed z r) (divided d r') = absurd (z _ _ d)
one_division (divided d r) (passed z r') = absurd (z _ _ d)
one_division {units = units} {e' = e'} {h' = h'} (divided {n = n} {ns = ns} {f = a} {g = b} {d = c} {k = k} d r) (divided {d = c'} {k = k'} d' r') =
    let factor : c ≡ c' = same_polynomial c c' d.factor.poly d'.factor.poly (λ m. d.factor.sums m ∙ sym (d'.factor.sums m)) in
    let quotient : k ≡ k' = one_quotient n b k k' d.in_form.poly (not_zero n d.in_form.varied) d.quotient d'.quotient in
    one_division r (subst (λ x. IsDividedOut units (n ∷ ns) x k e' h') (sym factor) (subst (λ x. IsDividedOut units (n ∷ ns) c' x e' h') (sym quotient) r'))

-- there is one factor of a strip
one_strip_factor : (units : List (List Term)) (p f r f' r' : List Term) → IsPoly p → IsStripped units p f r → IsStripped units p f' r' → f ≡ f'
one_strip_factor units p [] r f' r' h s s' = absurd s.out
one_strip_factor units p (t ∷ u ∷ us) r f' r' h s s' = absurd s.out
one_strip_factor units p (t ∷ []) r [] r' h s s' = absurd s'.out
one_strip_factor units p (t ∷ []) r (t' ∷ u' ∷ us') r' h s s' = absurd s'.out
one_strip_factor units p (t ∷ []) [] (t' ∷ []) r' h s s' = let z : p ≡ [] = sym (row_of_stripped units p t [] h s) in s.zero_factor z ∙ sym (s'.zero_factor z)
one_strip_factor units p (t ∷ []) (u ∷ us) (t' ∷ []) r' h s s' =
    let same : u ∷ us ≡ r' = one_rest units p (t ∷ []) (u ∷ us) (t' ∷ []) r' h s s' in
    let rows : row t (u ∷ us) ≡ row t' (u ∷ us) = row_of_stripped units p t (u ∷ us) h s ∙ sym (row_of_stripped units p t' r' h s') ∙ ap (row t') (sym same) in
    let first = rows_first t t' u u us us rows in
    ap (λ x. x ∷ []) (same_term t t' (right_cancel t.monomial t'.monomial u.monomial s.factor_poly.monomials.0.powers s'.factor_poly.monomials.0.powers s.rest_poly.monomials.0.powers first.0) (right_factor t.coeff t'.coeff u.coeff s.rest_poly.apart.0 first.1))

pub one_strip : (units : List (List Term)) (p f r f' r' : List Term) → IsPoly p → IsStripped units p f r → IsStripped units p f' r' → (f ≡ f') × (r ≡ r')
one_strip units p f r f' r' h s s' = (one_strip_factor units p f r f' r' h s s', one_rest units p f r f' r' h s s')

-- there is one clearing
pub one_clearing : (units : List (List Term)) (p f r f' r' : List Term) → IsPoly p → IsCleared units p f r → IsCleared units p f' r' → (f ≡ f') × (r ≡ r')
one_clearing units p f r f' r' h c c' =
    let strip = one_strip units p c.strip_factor c.strip_rest c'.strip_factor c'.strip_rest h c.stripped c'.stripped in
    one_division c.divided_out (subst (λ x. IsDividedOut units units x c.strip_rest f' r') (sym strip.0) (subst (λ x. IsDividedOut units units c'.strip_factor x f' r') (sym strip.1) c'.divided_out))

-- one division, by what was found
pub IsDivision-made : (units : List (List Term)) (n f g d k : List Term) (m : List Term) → IsInForm n → (g ≡ [] → ⊥) → (Contains units g → ⊥) → DividesOpenly n g k → IsResult (products f n) d → IsResult (products d k) m → IsDivision units n f g d k
IsDivision-made units n f g d k m i z c q e w = record { in_form = i; nonzero = z; apart = c; quotient = q; factor = e; whole = record { degree = w.degree; light = w.light } }

pub stopped_factor : (units : List (List Term)) (n f g d k : List Term) (fault : PolyFault) → IsFault (products f n) fault → fault ≢ OutOfMemory → IsDivision units n f g d k → ⊥
stopped_factor units n f g d k (Degree v) h o i = none-some v (sym i.factor.degree ∙ h)
stopped_factor units n f g d k (Heavy m) h o i = let l = i.factor.light m in let j = h.1.heavy in absurd (omega arith)
stopped_factor units n f g d k OutOfMemory h o i = o refl

pub by_light : (cs : List Term) (fault : PolyFault) → IsLight cs → IsFault cs fault → fault ≢ OutOfMemory → ⊥
by_light cs (Degree v) l h o = none-some v (sym l.degree ∙ h)
by_light cs (Heavy m) l h o = let a = l.light m in let b = h.1.heavy in absurd (omega arith)
by_light cs OutOfMemory l h o = o refl

pub stopped_whole : (units : List (List Term)) (n f g d k e h : List Term) (fault : PolyFault) → DividesOpenly n g k → IsResult (products f n) d → IsFault (products d k) fault → fault ≢ OutOfMemory → IsDivision units n f g e h → ⊥
stopped_whole units n f g d k e h fault q r s o i =
    let factor : d ≡ e = same_polynomial d e r.poly i.factor.poly (λ m. r.sums m ∙ sym (i.factor.sums m)) in
    let quotient : k ≡ h = one_quotient n g k h i.in_form.poly (not_zero n i.in_form.varied) q i.quotient in
    by_light (products e h) fault i.whole (subst (λ x. IsFault (products x h) fault) factor (subst (λ x. IsFault (products d x) fault) quotient s)) o

-- a division lowers the leading monomial
total_degree-times : (m n : List (ℕ × ℕ)) → total_degree (monomial_times m n) ≡ total_degree m + total_degree n
total_degree-times [] n = omega arith
total_degree-times (a ∷ as') [] = omega arith
total_degree-times (a ∷ as') (b ∷ bs) = each (nat_cmp a.0 b.0) (total_degree-times (a ∷ as') bs) (total_degree-times as' bs) (total_degree-times as' (b ∷ bs))
  where
    each : (o : Ordering) → total_degree (monomial_times (a ∷ as') bs) ≡ total_degree (a ∷ as') + total_degree bs → total_degree (monomial_times as' bs) ≡ total_degree as' + total_degree bs → total_degree (monomial_times as' (b ∷ bs)) ≡ total_degree as' + total_degree (b ∷ bs) → total_degree (by_order o (b ∷ monomial_times (a ∷ as') bs) ((a.0, a.1 + b.1) ∷ monomial_times as' bs) (a ∷ monomial_times as' (b ∷ bs))) ≡ total_degree (a ∷ as') + total_degree (b ∷ bs)
    each Less h i j = omega arith
    each Equal h i j = omega arith
    each Greater h i j = omega arith

varied_degree : (u : Term) (us : List Term) → IsPoly (u ∷ us) → main_variable (u ∷ us) ≢ None → 0 < total_degree u.monomial
varied_degree u us p h = some u.monomial p.monomials.0.powers (λ e. h (main_variable-leading u us p.falling ∙ ap top e))
  where
    some : (m : List (ℕ × ℕ)) → IsPowers m → (m ≡ [] → ⊥) → 0 < total_degree m
    some [] i n = absurd (n refl)
    some (q ∷ qs) i n = let l : 0 < q.1 = i.0 in omega arith

pub division_lowers : (units : List (List Term)) (n f g d k : List Term) → IsDivision units n f g d k → leading_degree k < leading_degree g
division_lowers units [] f g d k i = absurd (i.in_form.varied refl)
division_lowers units (u ∷ us) f [] d k i = absurd (i.nonzero refl)
division_lowers units (u ∷ us) f (t ∷ ts) d [] i = absurd (i.quotient.product.poly.apart.0 (sym (coefficient_leading t ts i.quotient.product.poly.falling.0) ∙ i.quotient.product.sums t.monomial))
division_lowers units (u ∷ us) f (t ∷ ts) d (a ∷ as') i =
    let n = i.in_form.poly in
    let q = i.quotient.poly in
    let p = i.quotient.product.poly in
    let lead = same_leading t (term_times a u) ts _ p.falling.0 (tail_under a u as' us q.monomials q.falling n.monomials n.falling) p.apart.0 (nonzero_product a.coeff u.coeff q.apart.0 n.apart.0) i.quotient.product.sums in
    let some = varied_degree u us n i.in_form.varied in
    omega (arith, ap total_degree lead.0, total_degree-times a.monomial u.monomial)

pub some_quotient : (n p : List Term) (o : Option (List Term)) (q : List Term) → o ≡ Some q → MatchOption o ((g : List Term) → DividesOpenly n p g → ⊥) (λ g. DividesOpenly n p g) → DividesOpenly n p q
some_quotient n p None q e h = absurd (none-some q e)
some_quotient n p (Some x) q e h = subst (DividesOpenly n p) (same_Some x q e) h

pub degree_apart : (f : PolyFault) (v : ℕ) → f ≡ Degree v → f ≡ OutOfMemory → ⊥
degree_apart f v e z = cc

pub heavy_apart : (f : PolyFault) (m : List (ℕ × ℕ)) → f ≡ Heavy m → f ≡ OutOfMemory → ⊥
heavy_apart f m e z = cc

pub IsDividedOut-past : (units : List (List Term)) (n : ℕ) (f g : List Term) → length units ≤ n → IsDividedOut units (drop n units) f g f g
IsDividedOut-past units n f g l = subst (λ ns. IsDividedOut units ns f g f g) (sym (drop_end units n l)) finished

module _ (units : List (List Term)) (n f g : List Term) where
  pub once_none : (o : Option Stripped) → o ≡ None → MatchOption o ((e h : List Term) → IsDivision units n f g e h → ⊥) (λ s. IsDivision units n f g s.factor s.rest) → (e h : List Term) → IsDivision units n f g e h → ⊥
  once_none None e h = h
  once_none (Some s) e h = absurd (none-some s (sym e))

  pub once_some : (o : Option Stripped) (s : Stripped) → o ≡ Some s → MatchOption o ((e h : List Term) → IsDivision units n f g e h → ⊥) (λ s. IsDivision units n f g s.factor s.rest) → IsDivision units n f g s.factor s.rest
  once_some None s e h = absurd (none-some s e)
  once_some (Some x) s e h = subst (λ (y : Stripped). IsDivision units n f g y.factor y.rest) (same_Some x s e) h

-- a member that is not divided out is passed
pub passed_at : (units : List (List Term)) (k : ℕ) (n f g : List Term) → k < length units → n ≡ slice_index_or units k n → ((d j : List Term) → IsDivision units n f g d j → ⊥) → (e h : List Term) → IsDividedOut units (drop (k + 1) units) f g e h → IsDividedOut units (drop k units) f g e h
passed_at units k n f g l s z e h r = subst (λ ns. IsDividedOut units ns f g e h) (sym (drop_one units k n l ∙ ap (λ x. x ∷ drop (k + 1) units) (sym s))) (passed z r)
