-- On what it rests that a polynomial is a unit, by its strip and its clearing.
use Rattle.std.specs.Prelude.{◌≡◌, ◌≢◌, ◌<◌, ◌≤◌, ◌⊎◌, ℕ, pos, ◌<ℤ◌, List, refl}
use mathlib.Core.Logic.{inl, inr}
use Rattle.std.proofs.Common.{arith, subst}
use Rattle.std.proofs.lemmas.Int.{ints}
use Rattle.sparse_poly.specs.declared.Term.{Term}
use Rattle.sparse_poly.specs.Polynomials.{constant}
use Rattle.sparse_poly.specs.Contributions.{max_coeff, IsPoly}
use Rattle.sparse_poly.specs.Units.{IsStripped}
use Rattle.sparse_poly.specs.Clearing.{IsDivision, IsDividedOut, finished, passed, divided, IsDividedOutBy, by_first, by_later, after, IsCleared}
use Rattle.sparse_poly.proofs.InForm.{one_size}
use Rattle.sparse_poly.proofs.OneQuotient.{one_strip, one_clearing}
use Rattle.derive_lines.specs.Known.{Holds}
use Rattle.refute_cert.specs.Cone.{RestsOn, on_variable, on_divisor, on_strip_rest, on_clear_rest}
use Rattle.refute_cert.specs.Resting.{IsDividingVariable}
use Rattle.refute_cert.proofs.FewerConditions.{one_whole}

-- the strip of 1
never : (n : ℕ) → n ≡ 0 → 0 < n → ⊥
never n e l = omega (arith, e, l)

one_poly : IsPoly (constant (pos 1))
one_poly =
    let small : 1 ≤ max_coeff = omega arith in
    let some : pos 1 ≢ pos 0 = λ e. absurd (cc e) in
    record { falling = (tt, tt); monomials = (record { powers = tt; in_range = tt }, tt); apart = (some, tt); in_range = (small, tt) }

one_stripped : (units : List (List Term)) → IsStripped units (constant (pos 1)) (constant (pos 1)) (constant (pos 1))
one_stripped units =
    let positive : pos 0 <ℤ pos 1 = omega (arith, ints) in
    record {
      factor_poly = one_poly;
      rest_poly = one_poly;
      product = λ m. refl;
      primitive = (positive, λ d a. one_size d a.0);
      divided = λ v c a. absurd (never 0 refl a.0);
      out = tt;
      zero_factor = λ e. absurd (cc e);
    }

module _ (units : List (List Term)) where
  one_rest : (f r : List Term) → IsStripped units (constant (pos 1)) f r → r ≡ constant (pos 1)
  one_rest f r s = (one_strip units (constant (pos 1)) f r (constant (pos 1)) (constant (pos 1)) one_poly s (one_stripped units)).1

  undivided : (n : List Term) (ns : List (List Term)) (f g : List Term) → g ≡ constant (pos 1) → IsDividedOutBy units n ns f g → ⊥
  undivided n ns f g e (by_first {e = d} {h = k} i) = one_whole units n f d k (subst (λ x. IsDivision units n f x d k) e i)
  undivided n ns f g e (by_later {ns = ms} z r) = undivided n ms f g e r
  undivided n ns f g e (after {m = m} {e = d} {h = k} i r) = one_whole units m f d k (subst (λ x. IsDivision units m f x d k) e i)

  unchanged : (ns : List (List Term)) (f g e h : List Term) → g ≡ constant (pos 1) → IsDividedOut units ns f g e h → h ≡ constant (pos 1)
  unchanged ns f g e h z finished = z
  unchanged ns f g e h z (passed {ns = ms} p r) = unchanged ms f g e h z r
  unchanged ns f g e h z (divided {n = n} {d = d} {k = k} i r) = absurd (one_whole units n f d k (subst (λ x. IsDivision units n f x d k) z i))

  -- nothing rests on a condition for 1
  one_rests : (n : List Term) → RestsOn units (constant (pos 1)) n → ⊥
  one_rests n (on_variable e d) = never 0 refl d.0
  one_rests n (on_divisor s d) = undivided n units _ _ (one_rest _ _ s) d
  one_rests n (on_strip_rest z s) = z (one_rest _ n s)
  one_rests n (on_clear_rest z c) = z (unchanged units _ _ _ n (one_rest _ _ c.stripped) c.divided_out)

  pub none_rests : (m : List Term) (known : List (List Term)) → m ≡ constant (pos 1) → (n : List Term) → (Holds known n → Holds known n ⊎ RestsOn units m n) × (Holds known n ⊎ RestsOn units m n → Holds known n)
  none_rests m known e n = (λ a. inl a, λ t. only t)
    where
      only : Holds known n ⊎ RestsOn units m n → Holds known n
      only (inl a) = a
      only (inr r) = absurd (one_rests n (subst (λ x. RestsOn units x n) e r))

  -- a set to which all was added
  module _ (m f r e h : List Term) (p : IsPoly m) (s : IsStripped units m f r) (c : IsDividedOut units units f r e h) where
    cleared : IsCleared units m e h
    cleared = record { strip_factor = f; strip_rest = r; stripped = s; divided_out = c }

    pub all_rests : (n : List Term) (none variables first divisors last : List (List Term)) → (Holds variables n → Holds none n ⊎ IsDividingVariable m n) × (Holds none n ⊎ IsDividingVariable m n → Holds variables n) → (Holds first n → Holds variables n ⊎ ((n ≢ constant (pos 1)) × (r ≡ n))) × (Holds variables n ⊎ ((n ≢ constant (pos 1)) × (r ≡ n)) → Holds first n) → (Holds divisors n → Holds first n ⊎ IsDividedOutBy units n units f r) × (Holds first n ⊎ IsDividedOutBy units n units f r → Holds divisors n) → (Holds last n → Holds divisors n ⊎ ((n ≢ constant (pos 1)) × (h ≡ n))) × (Holds divisors n ⊎ ((n ≢ constant (pos 1)) × (h ≡ n)) → Holds last n) → (Holds last n → Holds none n ⊎ RestsOn units m n) × (Holds none n ⊎ RestsOn units m n → Holds last n)
    all_rests n none variables first divisors last a b d g = (λ x. from_last (g.0 x), λ x. into x)
      where
        from_variables : Holds none n ⊎ IsDividingVariable m n → Holds none n ⊎ RestsOn units m n
        from_variables (inl x) = inl x
        from_variables (inr v) = inr (on_variable v.is v.divides)

        from_first : Holds variables n ⊎ ((n ≢ constant (pos 1)) × (r ≡ n)) → Holds none n ⊎ RestsOn units m n
        from_first (inl x) = from_variables (a.0 x)
        from_first (inr x) = inr (on_strip_rest x.0 (subst (IsStripped units m f) x.1 s))

        from_divisors : Holds first n ⊎ IsDividedOutBy units n units f r → Holds none n ⊎ RestsOn units m n
        from_divisors (inl x) = from_first (b.0 x)
        from_divisors (inr x) = inr (on_divisor s x)

        from_last : Holds divisors n ⊎ ((n ≢ constant (pos 1)) × (h ≡ n)) → Holds none n ⊎ RestsOn units m n
        from_last (inl x) = from_divisors (d.0 x)
        from_last (inr x) = inr (on_clear_rest x.0 (subst (IsCleared units m e) x.1 cleared))

        -- what was added stays
        keep : Holds first n → Holds last n
        keep x = g.1 (inl (d.1 (inl x)))

        rest : RestsOn units m n → Holds last n
        rest (on_variable {v = v} i v') = keep (b.1 (inl (a.1 (inr (record { var = v; is = i; divides = v' })))))
        rest (on_divisor {f = f'} {r = r'} t x) =
            let same = one_strip units m f' r' f r p t s in
            g.1 (inl (d.1 (inr (subst (λ y. IsDividedOutBy units n units y r) same.0 (subst (λ y. IsDividedOutBy units n units f' y) same.1 x)))))
        rest (on_strip_rest {f = f'} z t) = keep (b.1 (inr (z, (one_strip units m f r f' n p s t).1)))
        rest (on_clear_rest {f = f'} z t) = g.1 (inr (z, (one_clearing units m e h f' n p cleared t).1))

        into : Holds none n ⊎ RestsOn units m n → Holds last n
        into (inl x) = keep (b.1 (inl (a.1 (inl x))))
        into (inr x) = rest x
