-- Terms with the same text are the same.
use Rattle.std.specs.Prelude.{◌≡◌, ◌≢◌, ℕ, ◌^◌, ◌<◌, ◌≤◌, Bool, true, false, ◌||◌, not, ◌==◌, if◌then◌else◌, ℤ, pos, negsuc, unsigned_abs, List, [], ◌∷◌, ◌++◌, decimal, codes, refl}
use Rattle.std.proofs.Common.{sym, ◌∙◌, ap, subst, arith, append_assoc}
use Rattle.std.proofs.lemmas.Bool.Decides.{nat_tests}
use Rattle.std.specs.List.{AllByRecursion}
use Rattle.sparse_poly.specs.declared.Term.{Term}
use Rattle.sparse_poly.specs.Contributions.{max_coeff}
use Rattle.sparse_poly.specs.OrderLaws.{same_term}
use Rattle.poly_text.specs.Text.{factor_text, more_factors, body_text, sign_text, more_terms, poly_text}
use Rattle.poly_text.specs.Form.{is_digit}
use Rattle.poly_text.specs.Numbers.{number_from, IsFactorInRange, IsTermInRange, AreInRange}
use Rattle.poly_text.proofs.Digits.{Lacks, Small, same_number, read_number}
use Rattle.sparse_poly.proofs.PrimitiveParts.{some_size}

-- a byte that goes on a number, a factor or a term
abbrev pub goes_on : ℕ → Bool
goes_on c = is_digit c || (c == 94) || (c == 42)

abbrev pub continues : ℕ → Bool
continues c = is_digit c || (c == 94)

no_or : (a b : Bool) → (a || b) ≡ false → a ≡ false
no_or true b h = h
no_or false b h = refl

lacks_less : (f g : ℕ → Bool) (xs : List ℕ) → Lacks (λ c. f c || g c) xs → Lacks f xs
lacks_less f g [] h = tt
lacks_less f g (c ∷ cs) h = no_or (f c) (g c) h

pub no_digit : (xs : List ℕ) → Lacks continues xs → Lacks is_digit xs
no_digit xs h = lacks_less is_digit (λ c. c == 94) xs h

pub no_factor_more : (xs : List ℕ) → Lacks goes_on xs → Lacks continues xs
no_factor_more xs h = lacks_less continues (λ c. c == 42) xs h

-- a text that lacks a byte does not begin with it
pub lacks_at : (f : ℕ → Bool) (c : ℕ) (xs ys : List ℕ) → Lacks f xs → f c ≡ true → xs ≡ c ∷ ys → ⊥
lacks_at f c xs ys h t e = let g : f c ≡ false = subst (Lacks f) e h in absurd (cc)

pub same_tail : (a b : ℕ) (xs ys : List ℕ) → a ∷ xs ≡ b ∷ ys → xs ≡ ys
same_tail a b xs ys e = cc

pub same_head : (a b : ℕ) (xs ys : List ℕ) → a ∷ xs ≡ b ∷ ys → a ≡ b
same_head a b xs ys e = cc

pub is_equal : (n k : ℕ) → (n == k) ≡ true → n ≡ k
is_equal n k h = grind (arith, nat_tests)

-- ---- factors

abbrev pub power_text : ℕ → List ℕ
power_text e = if e == 1 then [] else codes "^" ++ decimal e

same_power : (a b : ℕ) (xs ys : List ℕ) → Small a → Small b → Lacks continues xs → Lacks continues ys → power_text a ++ xs ≡ power_text b ++ ys → (a ≡ b) × (xs ≡ ys)
same_power a b xs ys s t h k e = by (a == 1) (b == 1) refl refl
  where
    shown : (c : ℕ) (v : Bool) (zs : List ℕ) → (c == 1) ≡ v → power_text c ++ zs ≡ (if v then [] else codes "^" ++ decimal c) ++ zs
    shown c v zs w = ap (λ x. (if x then [] else codes "^" ++ decimal c) ++ zs) w

    by : (v w : Bool) → (a == 1) ≡ v → (b == 1) ≡ w → (a ≡ b) × (xs ≡ ys)
    by true true p q = (is_equal a 1 p ∙ sym (is_equal b 1 q), sym (shown a true xs p) ∙ e ∙ shown b true ys q)
    by true false p q = absurd (lacks_at continues 94 xs (decimal b ++ ys) h refl (sym (shown a true xs p) ∙ e ∙ shown b false ys q))
    by false true p q = absurd (lacks_at continues 94 ys (decimal a ++ xs) k refl (sym (shown b true ys q) ∙ sym e ∙ shown a false xs p))
    by false false p q = same_number a b xs ys s t (no_digit xs h) (no_digit ys k) (same_tail 94 94 (decimal a ++ xs) (decimal b ++ ys) (sym (shown a false xs p) ∙ e ∙ shown b false ys q))

power_lacks : (e : ℕ) (xs : List ℕ) → Lacks continues xs → Lacks is_digit (power_text e ++ xs)
power_lacks e xs h = by (e == 1)
  where
    by : (v : Bool) → Lacks is_digit ((if v then [] else codes "^" ++ decimal e) ++ xs)
    by true = no_digit xs h
    by false = refl

pub factor_shown : (p : ℕ × ℕ) (xs : List ℕ) → factor_text p ++ xs ≡ 120 ∷ (decimal p.0 ++ (power_text p.1 ++ xs))
factor_shown p xs = ap (λ l. 120 ∷ l) (append_assoc (decimal p.0) (power_text p.1) xs)

same_pair : (p q : ℕ × ℕ) → p.0 ≡ q.0 → p.1 ≡ q.1 → p ≡ q
same_pair (a, b) (c, d) e f = cc

-- a factor's numbers are written whole
abbrev pub IsSmallFactor : ℕ × ℕ → Type 0
IsSmallFactor p = Small p.0 × Small p.1

same_factor : (p q : ℕ × ℕ) (xs ys : List ℕ) → IsSmallFactor p → IsSmallFactor q → Lacks continues xs → Lacks continues ys → factor_text p ++ xs ≡ factor_text q ++ ys → (p ≡ q) × (xs ≡ ys)
same_factor p q xs ys s t h k e =
    let f : decimal p.0 ++ (power_text p.1 ++ xs) ≡ decimal q.0 ++ (power_text q.1 ++ ys) = same_tail 120 120 _ _ (sym (factor_shown p xs) ∙ e ∙ factor_shown q ys) in
    let n = same_number p.0 q.0 (power_text p.1 ++ xs) (power_text q.1 ++ ys) s.0 t.0 (power_lacks p.1 xs h) (power_lacks q.1 ys k) f in
    let m = same_power p.1 q.1 xs ys s.1 t.1 h k n.1 in
    (same_pair p q n.0 m.0, m.1)

pub more_shown : (p : ℕ × ℕ) (ps : List (ℕ × ℕ)) (xs : List ℕ) → more_factors (p ∷ ps) ++ xs ≡ 42 ∷ (factor_text p ++ (more_factors ps ++ xs))
more_shown p ps xs = ap (λ l. 42 ∷ l) (append_assoc (factor_text p) (more_factors ps) xs)

pub factors_lack : (ps : List (ℕ × ℕ)) (xs : List ℕ) → Lacks goes_on xs → Lacks continues (more_factors ps ++ xs)
factors_lack [] xs h = no_factor_more xs h
factors_lack (p ∷ ps) xs h = refl

same_list : (p q : ℕ × ℕ) (ps qs : List (ℕ × ℕ)) → p ≡ q → ps ≡ qs → p ∷ ps ≡ q ∷ qs
same_list p q ps qs e f = cc

same_factors : (ps qs : List (ℕ × ℕ)) (xs ys : List ℕ) → AllByRecursion IsSmallFactor ps → AllByRecursion IsSmallFactor qs → Lacks goes_on xs → Lacks goes_on ys → more_factors ps ++ xs ≡ more_factors qs ++ ys → (ps ≡ qs) × (xs ≡ ys)
same_factors [] [] xs ys s t h k e = (refl, e)
same_factors [] (q ∷ qs) xs ys s t h k e = absurd (lacks_at goes_on 42 xs _ h refl (e ∙ more_shown q qs ys))
same_factors (p ∷ ps) [] xs ys s t h k e = absurd (lacks_at goes_on 42 ys _ k refl (sym e ∙ more_shown p ps xs))
same_factors (p ∷ ps) (q ∷ qs) xs ys s t h k e =
    let f : factor_text p ++ (more_factors ps ++ xs) ≡ factor_text q ++ (more_factors qs ++ ys) = same_tail 42 42 _ _ (sym (more_shown p ps xs) ∙ e ∙ more_shown q qs ys) in
    let one = same_factor p q (more_factors ps ++ xs) (more_factors qs ++ ys) s.0 t.0 (factors_lack ps xs h) (factors_lack qs ys k) f in
    let others = same_factors ps qs xs ys s.1 t.1 h k one.1 in
    (same_list p q ps qs one.0 others.0, others.1)

-- ---- terms

-- the coefficient is written
abbrev pub is_written : ℕ → List (ℕ × ℕ) → Bool
is_written n [] = true
is_written n (p ∷ ps) = not (n == 1)

pub body_written : (n : ℕ) (ps : List (ℕ × ℕ)) (xs : List ℕ) → is_written n ps ≡ true → body_text n ps ++ xs ≡ decimal n ++ (more_factors ps ++ xs)
body_written n [] xs h = refl
body_written n (p ∷ ps) xs h = by (n == 1) refl h
  where
    by : (v : Bool) → (n == 1) ≡ v → not v ≡ true → body_text n (p ∷ ps) ++ xs ≡ decimal n ++ (more_factors (p ∷ ps) ++ xs)
    by true e k = absurd (cc)
    by false e k =
        ap (λ x. (((if x then [] else decimal n ++ codes "*") ++ factor_text p) ++ more_factors ps) ++ xs) e
        ∙ append_assoc ((decimal n ++ codes "*") ++ factor_text p) (more_factors ps) xs
        ∙ append_assoc (decimal n ++ codes "*") (factor_text p) (more_factors ps ++ xs)
        ∙ append_assoc (decimal n) (codes "*") (factor_text p ++ (more_factors ps ++ xs))
        ∙ ap (λ l. decimal n ++ l) (sym (more_shown p ps xs))

-- a term whose coefficient is not written is its factors without the first `*`
pub body_bare : (n : ℕ) (ps : List (ℕ × ℕ)) (xs : List ℕ) → is_written n ps ≡ false → (n ≡ 1) × (42 ∷ (body_text n ps ++ xs) ≡ more_factors ps ++ xs)
body_bare n [] xs h = absurd (cc)
body_bare n (p ∷ ps) xs h = by (n == 1) refl h
  where
    by : (v : Bool) → (n == 1) ≡ v → not v ≡ false → (n ≡ 1) × (42 ∷ (body_text n (p ∷ ps) ++ xs) ≡ more_factors (p ∷ ps) ++ xs)
    by true e k = (is_equal n 1 e, ap (λ x. 42 ∷ ((((if x then [] else decimal n ++ codes "*") ++ factor_text p) ++ more_factors ps) ++ xs)) e)
    by false e k = absurd (cc)

-- such a term begins with an `x`
bare_head : (n : ℕ) (ps : List (ℕ × ℕ)) (xs zs : List ℕ) (c : ℕ) → is_written n ps ≡ false → c ∷ zs ≡ body_text n ps ++ xs → c ≡ 120
bare_head n [] xs zs c h e = absurd (cc)
bare_head n (p ∷ ps) xs zs c h e =
    same_head c 120 zs _ (same_tail 42 42 (c ∷ zs) _ (ap (λ l. 42 ∷ l) e ∙ (body_bare n (p ∷ ps) xs h).1 ∙ more_shown p ps xs ∙ ap (λ l. 42 ∷ l) (factor_shown p (more_factors ps ++ xs))))

pub record IsSmallBody (n : ℕ) (ps : List (ℕ × ℕ)) : Type 0 where
  pub some : 0 < n
  pub small : Small n
  pub factors : AllByRecursion IsSmallFactor ps

-- a text that begins with another byte is that of no number but 0
written_head : (n : ℕ) (ps : List (ℕ × ℕ)) (xs zs : List ℕ) → IsSmallBody n ps → Lacks goes_on xs → is_written n ps ≡ true → number_from 0 zs ≡ 0 → zs ≡ body_text n ps ++ xs → ⊥
written_head n ps xs zs s h w z e =
    let f : 0 ≡ n = sym z ∙ ap (number_from 0) (e ∙ body_written n ps xs w) ∙ read_number n (more_factors ps ++ xs) s.small (no_digit (more_factors ps ++ xs) (factors_lack ps xs h)) in
    let k = s.some in absurd (omega arith)

same_body : (n m : ℕ) (ps qs : List (ℕ × ℕ)) (xs ys : List ℕ) → IsSmallBody n ps → IsSmallBody m qs → Lacks goes_on xs → Lacks goes_on ys → body_text n ps ++ xs ≡ body_text m qs ++ ys → (n ≡ m) × (ps ≡ qs) × (xs ≡ ys)
same_body n m ps qs xs ys s t h k e = by (is_written n ps) (is_written m qs) refl refl
  where
    mixed : (i j : ℕ) (us vs : List (ℕ × ℕ)) (zs ws : List ℕ) → IsSmallBody i us → Lacks goes_on zs → is_written i us ≡ true → is_written j vs ≡ false → body_text i us ++ zs ≡ body_text j vs ++ ws → ⊥
    mixed i j us [] zs ws a b p q f = absurd (cc)
    mixed i j us (v ∷ vs) zs ws a b p q f =
        let g : body_text j (v ∷ vs) ++ ws ≡ factor_text v ++ (more_factors vs ++ ws) = same_tail 42 42 _ _ ((body_bare j (v ∷ vs) ws q).1 ∙ more_shown v vs ws) in
        written_head i us zs (factor_text v ++ (more_factors vs ++ ws)) a b p refl (sym g ∙ sym f)

    by : (v w : Bool) → is_written n ps ≡ v → is_written m qs ≡ w → (n ≡ m) × (ps ≡ qs) × (xs ≡ ys)
    by true true p q =
        let one = same_number n m (more_factors ps ++ xs) (more_factors qs ++ ys) s.small t.small (no_digit _ (factors_lack ps xs h)) (no_digit _ (factors_lack qs ys k)) (sym (body_written n ps xs p) ∙ e ∙ body_written m qs ys q) in
        let others = same_factors ps qs xs ys s.factors t.factors h k one.1 in
        (one.0, others.0, others.1)
    by true false p q = absurd (mixed n m ps qs xs ys s h p q e)
    by false true p q = absurd (mixed m n qs ps ys xs t k q p (sym e))
    by false false p q =
        let a = body_bare n ps xs p in
        let b = body_bare m qs ys q in
        let others = same_factors ps qs xs ys s.factors t.factors h k (sym a.1 ∙ ap (λ l. 42 ∷ l) e ∙ b.1) in
        (a.0 ∙ sym b.0, others.0, others.1)

-- a text that begins with neither an `x` nor a number other than 0 is that of no term
no_body : (n : ℕ) (ps : List (ℕ × ℕ)) (xs zs : List ℕ) (c : ℕ) → IsSmallBody n ps → Lacks goes_on xs → number_from 0 (c ∷ zs) ≡ 0 → c ≢ 120 → c ∷ zs ≡ body_text n ps ++ xs → ⊥
no_body n ps xs zs c s h z x e = by (is_written n ps) refl
  where
    by : (v : Bool) → is_written n ps ≡ v → ⊥
    by true w = written_head n ps xs (c ∷ zs) s h w z e
    by false w = x (bare_head n ps xs zs c w e)

-- ---- polynomials

abbrev sign : ℤ → ℕ
sign (pos n) = 43
sign (negsuc n) = 45

sign_shown : (z : ℤ) (bs xs : List ℕ) → (sign_text (codes "+") z ++ bs) ++ xs ≡ sign z ∷ (bs ++ xs)
sign_shown (pos n) bs xs = refl
sign_shown (negsuc n) bs xs = refl

same_coeff : (y z : ℤ) → sign y ≡ sign z → unsigned_abs y ≡ unsigned_abs z → y ≡ z
same_coeff (pos n) (pos m) e f = ap pos f
same_coeff (pos n) (negsuc m) e f = absurd (omega arith)
same_coeff (negsuc n) (pos m) e f = absurd (omega arith)
same_coeff (negsuc n) (negsuc m) e f = ap negsuc (let g : n ≡ m = omega arith in g)

sign_lacks : (z : ℤ) (bs xs : List ℕ) → Lacks goes_on ((sign_text (codes "+") z ++ bs) ++ xs)
sign_lacks (pos n) bs xs = refl
sign_lacks (negsuc n) bs xs = refl

pub terms_lack : (ts : List Term) → Lacks goes_on (more_terms ts)
terms_lack [] = tt
terms_lack (t ∷ ts) = sign_lacks t.coeff (body_text (unsigned_abs t.coeff) t.monomial) (more_terms ts)

-- each coefficient is not 0, and all numbers are written whole
abbrev pub AreSmall : List Term → Type 0
AreSmall ts = AllByRecursion (λ (t : Term). IsSmallBody (unsigned_abs t.coeff) t.monomial) ts

terms_shown : (t : Term) (ts : List Term) → more_terms (t ∷ ts) ≡ sign t.coeff ∷ (body_text (unsigned_abs t.coeff) t.monomial ++ more_terms ts)
terms_shown t ts = sign_shown t.coeff (body_text (unsigned_abs t.coeff) t.monomial) (more_terms ts)

none_or_some : (c : ℕ) (xs : List ℕ) → [] ≡ c ∷ xs → ⊥
none_or_some c xs e = absurd (cc)

same_terms : (t u : Term) (ts us : List Term) → t ≡ u → ts ≡ us → t ∷ ts ≡ u ∷ us
same_terms t u ts us e f = cc

same_more : (ts us : List Term) → AreSmall ts → AreSmall us → more_terms ts ≡ more_terms us → ts ≡ us
same_more [] [] s h e = refl
same_more [] (u ∷ us) s h e = absurd (none_or_some _ _ (e ∙ terms_shown u us))
same_more (t ∷ ts) [] s h e = absurd (none_or_some _ _ (sym e ∙ terms_shown t ts))
same_more (t ∷ ts) (u ∷ us) s h e =
    let f : sign t.coeff ∷ (body_text (unsigned_abs t.coeff) t.monomial ++ more_terms ts) ≡ sign u.coeff ∷ (body_text (unsigned_abs u.coeff) u.monomial ++ more_terms us) = sym (terms_shown t ts) ∙ e ∙ terms_shown u us in
    let b = same_body (unsigned_abs t.coeff) (unsigned_abs u.coeff) t.monomial u.monomial (more_terms ts) (more_terms us) s.0 h.0 (terms_lack ts) (terms_lack us) (same_tail _ _ _ _ f) in
    same_terms t u ts us (same_term t u b.1 (same_coeff t.coeff u.coeff (same_head _ _ _ _ f) b.0)) (same_more ts us s.1 h.1 b.2)

same_first : (t u : Term) (ts us : List Term) (y z : ℤ) → t.coeff ≡ y → u.coeff ≡ z → AreSmall (t ∷ ts) → AreSmall (u ∷ us) → poly_text (t ∷ ts) ≡ poly_text (u ∷ us) → t ∷ ts ≡ u ∷ us
same_first t u ts us y z a b s h e = same_more (t ∷ ts) (u ∷ us) s h (by y z a b)
  where
    first : Term → List Term → ℤ → List ℕ
    first v vs w = (sign_text [] w ++ body_text (unsigned_abs v.coeff) v.monomial) ++ more_terms vs

    further : Term → List Term → ℤ → List ℕ
    further v vs w = (sign_text (codes "+") w ++ body_text (unsigned_abs v.coeff) v.monomial) ++ more_terms vs

    by : (y z : ℤ) → t.coeff ≡ y → u.coeff ≡ z → more_terms (t ∷ ts) ≡ more_terms (u ∷ us)
    by (pos n) (pos m) p q = ap (further t ts) p ∙ ap (λ l. 43 ∷ l) (sym (ap (first t ts) p) ∙ e ∙ ap (first u us) q) ∙ sym (ap (further u us) q)
    by (negsuc n) (negsuc m) p q = ap (further t ts) p ∙ sym (ap (first t ts) p) ∙ e ∙ ap (first u us) q ∙ sym (ap (further u us) q)
    by (pos n) (negsuc m) p q = absurd (no_body (unsigned_abs t.coeff) t.monomial (more_terms ts) (body_text (unsigned_abs u.coeff) u.monomial ++ more_terms us) 45 s.0 (terms_lack ts) refl (λ k. omega arith) (sym (ap (first u us) q) ∙ sym e ∙ ap (first t ts) p))
    by (negsuc n) (pos m) p q = absurd (no_body (unsigned_abs u.coeff) u.monomial (more_terms us) (body_text (unsigned_abs t.coeff) t.monomial ++ more_terms ts) 45 h.0 (terms_lack us) refl (λ k. omega arith) (sym (ap (first t ts) p) ∙ e ∙ ap (first u us) q))

not_letter : ◌≢◌ {A = ℕ} 48 120
not_letter k = omega arith

pub no_zero : (t : Term) (ts : List Term) → AreSmall (t ∷ ts) → codes "0" ≡ poly_text (t ∷ ts) → ⊥
no_zero t ts s e = by t.coeff refl
  where
    first : ℤ → List ℕ
    first w = (sign_text [] w ++ body_text (unsigned_abs t.coeff) t.monomial) ++ more_terms ts

    by : (z : ℤ) → t.coeff ≡ z → ⊥
    by (pos n) p = no_body (unsigned_abs t.coeff) t.monomial (more_terms ts) [] 48 s.0 (terms_lack ts) refl not_letter (e ∙ ap first p)
    by (negsuc n) p = let k : ◌≡◌ {A = ℕ} 48 45 = same_head 48 45 [] _ (e ∙ ap first p) in absurd (omega arith)

-- terms with the same text are the same
pub same_text : (ts us : List Term) → AreSmall ts → AreSmall us → poly_text ts ≡ poly_text us → ts ≡ us
same_text [] [] s h e = refl
same_text [] (u ∷ us) s h e = absurd (no_zero u us h e)
same_text (t ∷ ts) [] s h e = absurd (no_zero t ts s (sym e))
same_text (t ∷ ts) (u ∷ us) s h e = same_first t u ts us t.coeff u.coeff refl refl s h e

-- ---- numbers in range

small_coeff : (n : ℕ) → n ≤ max_coeff → Small n
small_coeff n h = omega arith

small_factors : (u : ℕ) (ps : List (ℕ × ℕ)) → u ≤ 2 ^ 32 → AllByRecursion (IsFactorInRange u) ps → AllByRecursion IsSmallFactor ps
small_factors u [] l h = tt
small_factors u (p ∷ ps) l h =
    let a = h.0.0 in let b = h.0.2 in
    ((omega arith, omega arith), small_factors u ps l h.1)

pub small_body : (u : ℕ) (t : Term) → u ≤ 2 ^ 32 → IsTermInRange u t → IsSmallBody (unsigned_abs t.coeff) t.monomial
small_body u t l h = record { some = some_size t.coeff h.apart; small = small_coeff (unsigned_abs t.coeff) h.in_range; factors = small_factors u t.monomial l h.factors }

pub are_small : (u : ℕ) (ts : List Term) → u ≤ 2 ^ 32 → AreInRange u ts → AreSmall ts
are_small u [] l h = tt
are_small u (t ∷ ts) l h = (small_body u t l h.0, are_small u ts l h.1)
