-- Items, lines and what is recovered, as decisions and lines are appended.
use Rattle.std.specs.Prelude.{◌≡◌, ℕ, zero, suc, ◌<◌, ◌≤◌, ◌⊎◌, Bool, true, false, if◌then◌else◌, List, [], ◌∷◌, ◌++◌, length, take, slice_get, Contains, refl}
use mathlib.Core.Logic.{inl, inr}
use Rattle.std.proofs.Common.{arith, subst, sym, ◌∙◌, ap, append-nil}
use Rattle.std.specs.declared.option.Option.{Option}
use Rattle.std.specs.declared.option.Option.TheVariants.{None, Some}
use Rattle.sparse_poly.specs.declared.Term.{Term}
use Rattle.sparse_poly.specs.Contributions.{IsPoly}
use Rattle.sparse_poly.specs.Clearing.{IsUnit}
use Rattle.derive_lines.specs.declared.parts.Decision.{Decision}
use Rattle.derive_lines.specs.declared.parts.Line.{Line}
use Rattle.derive_lines.specs.declared.parts.Item.{Item}
use Rattle.derive_lines.specs.declared.parts.Item.TheVariants as item
use Rattle.derive_lines.specs.Lines.{conditions, item_poly, operand, zero_poly, made_poly, multiplier, Refers, IsGoodLine}
use Rattle.derive_lines.specs.Recovery as recovery
use Rattle.derive_lines.specs.Recovery.{LeadsBack, IsRecovered, is_given, is_zero, by_line}
use Rattle.derive_lines.specs.Refuting.{decided}

module _ {X : Type 0} where
  -- the front of a list that goes on
  pub still_there : (xs ys : List X) (k : ℕ) (x : X) → slice_get xs k ≡ Some x → slice_get (xs ++ ys) k ≡ Some x
  still_there [] ys k x h = cc h
  still_there (y ∷ xs) ys zero x h = h
  still_there (y ∷ xs) ys (suc k) x h = still_there xs ys k x h

  same_front : (xs ys : List X) (k : ℕ) (x : X) → slice_get xs k ≡ Some x → take k (xs ++ ys) ≡ take k xs
  same_front [] ys k x h = cc h
  same_front (y ∷ xs) ys zero x h = refl
  same_front (y ∷ xs) ys (suc k) x h = ap (λ zs. y ∷ zs) (same_front xs ys k x h)

  below_length : (xs : List X) (k : ℕ) (x : X) → slice_get xs k ≡ Some x → k < length xs
  below_length [] k x h = cc h
  below_length (y ∷ xs) zero x h = omega arith
  below_length (y ∷ xs) (suc k) x h = let l = below_length xs k x h in omega (arith, l)

  pub at_seam : (xs : List X) (x : X) (ys : List X) → slice_get (xs ++ x ∷ ys) (length xs) ≡ Some x
  at_seam [] x ys = refl
  at_seam (y ∷ xs) x ys = at_seam xs x ys

  pub front_of_seam : (xs ys : List X) → take (length xs) (xs ++ ys) ≡ xs
  front_of_seam [] [] = refl
  front_of_seam [] (y ∷ ys) = refl
  front_of_seam (x ∷ xs) ys = ap (λ zs. x ∷ zs) (front_of_seam xs ys)

  -- a place in a list with one more is one of the list, or the last
  pub record IsLast (xs : List X) (y : X) (k : ℕ) (x : X) : Type 0 where
    pub place : k ≡ length xs
    pub same : y ≡ x

  pub before_or_last : (xs : List X) (y : X) (k : ℕ) (x : X) → slice_get (xs ++ y ∷ []) k ≡ Some x → (slice_get xs k ≡ Some x) ⊎ IsLast xs y k x
  before_or_last [] y zero x h = inr (record { place = refl; same = cc h })
  before_or_last [] y (suc k) x h = cc h
  before_or_last (z ∷ xs) y zero x h = inl h
  before_or_last (z ∷ xs) y (suc k) x h = each (before_or_last xs y k x h)
    where
      each : (slice_get xs k ≡ Some x) ⊎ IsLast xs y k x → (slice_get (z ∷ xs) (suc k) ≡ Some x) ⊎ IsLast (z ∷ xs) y (suc k) x
      each (inl g) = inl g
      each (inr g) = inr (record { place = ap suc g.place; same = g.same })

-- a line that is good and whose multiplier is a polynomial
pub record IsFineLine (root : List (List Term)) (ds : List Decision) (before : List Line) (line : Line) : Type 0 where
  pub good : IsGoodLine root ds before line
  pub multiplier : IsPoly (multiplier line)

abbrev pub AreFine : List (List Term) → List Decision → List Line → Type 0
AreFine root ds ls = (k : ℕ) (line : Line) → slice_get ls k ≡ Some line → IsFineLine root ds (take k ls) line

module _ (root : List (List Term)) where
  item_more : (ds es : List Decision) (ls more : List Line) (i : Item) (p : List Term) → item_poly root ds ls i ≡ Some p → item_poly root (ds ++ es) (ls ++ more) i ≡ Some p
  item_more ds es ls more (item.Root i) p h = h
  item_more ds es ls more (item.Decision j) p h = each (slice_get ds j) refl h
    where
      each : (o : Option Decision) → slice_get ds j ≡ o → zero_poly o ≡ Some p → zero_poly (slice_get (ds ++ es) j) ≡ Some p
      each None e g = cc g
      each (Some d) e g = ap zero_poly (still_there ds es j d e) ∙ g
  item_more ds es ls more (item.Line k) p h = each (slice_get ls k) refl h
    where
      each : (o : Option Line) → slice_get ls k ≡ o → made_poly o ≡ Some p → made_poly (slice_get (ls ++ more) k) ≡ Some p
      each None e g = cc g
      each (Some l) e g = ap made_poly (still_there ls more k l e) ∙ g

  -- an item stays where decisions or lines are appended
  pub item_lines : (ds : List Decision) (ls more : List Line) (i : Item) (p : List Term) → item_poly root ds ls i ≡ Some p → item_poly root ds (ls ++ more) i ≡ Some p
  item_lines ds ls more i p h = subst (λ ds. item_poly root ds (ls ++ more) i ≡ Some p) (append-nil ds) (item_more ds [] ls more i p h)

  pub item_decisions : (ds es : List Decision) (ls : List Line) (i : Item) (p : List Term) → item_poly root ds ls i ≡ Some p → item_poly root (ds ++ es) ls i ≡ Some p
  item_decisions ds es ls i p h = subst (λ ls. item_poly root (ds ++ es) ls i ≡ Some p) (append-nil ls) (item_more ds es ls [] i p h)

  operand_decisions : (ds es : List Decision) (ls : List Line) (o : Option Item) (p : List Term) → operand root ds ls o ≡ Some p → operand root (ds ++ es) ls o ≡ Some p
  operand_decisions ds es ls None p h = h
  operand_decisions ds es ls (Some i) p h = item_decisions ds es ls i p h

  refers_decisions : (ds es : List Decision) (before : List Line) (line : Line) (q p : List Term) → Refers root ds before line q p → Refers root (ds ++ es) before line q p
  refers_decisions ds es before line q p r = record {
    from_is = operand_decisions ds es before line.from q r.from_is;
    by_is = operand_decisions ds es before line.by p r.by_is;
    by_fits = r.by_fits;
    from_fits = r.from_fits;
  }

  -- one more fine line
  pub fine_more : (ds : List Decision) (ls : List Line) (line : Line) → AreFine root ds ls → IsFineLine root ds ls line → AreFine root ds (ls ++ line ∷ [])
  fine_more ds ls line h f = λ k x is. each k x (before_or_last ls line k x is)
    where
      each : (k : ℕ) (x : Line) → (slice_get ls k ≡ Some x) ⊎ IsLast ls line k x → IsFineLine root ds (take k (ls ++ line ∷ [])) x
      each k x (inl g) = subst (λ b. IsFineLine root ds b x) (sym (same_front ls (line ∷ []) k x g)) (h k x g)
      each k x (inr g) = subst (λ y. IsFineLine root ds (take k (ls ++ line ∷ [])) y) g.same (subst (λ b. IsFineLine root ds b line) (sym (ap (λ n. take n (ls ++ line ∷ [])) g.place ∙ front_of_seam ls (line ∷ []))) f)

  -- fine lines stay so under more decisions, where units stay units
  pub fine_decisions : (ds es : List Decision) (ls : List Line) → ((p : List Term) → IsUnit (conditions ds) p → IsUnit (conditions (ds ++ es)) p) → AreFine root ds ls → AreFine root (ds ++ es) ls
  fine_decisions ds es ls keeps h = λ k line is. record {
    good = record {
      from = (h k line is).good.from;
      by = (h k line is).good.by;
      refers = refers_decisions ds es (take k ls) line (h k line is).good.from (h k line is).good.by (h k line is).good.refers;
      unit = keeps (multiplier line) (h k line is).good.unit;
      sides = (h k line is).good.sides;
    };
    multiplier = (h k line is).multiplier;
  }

  -- what is recovered by the lines from a later place on is recovered
  pub earlier : (ds : List Decision) (ls : List Line) (given : List (List Term)) (n m : ℕ) (p : List Term) → n ≤ m → IsRecovered root ds ls given m p → IsRecovered root ds ls given n p
  earlier ds ls given n m p l (recovery.IsRecovered.is_given c) = is_given c
  earlier ds ls given n m p l (recovery.IsRecovered.is_zero) = is_zero
  earlier ds ls given n m p l (recovery.IsRecovered.by_line a b x y) = by_line (omega (arith, l, a)) b x y

  -- what leads back from given polynomials leads back from what these are recovered from by further lines
  pub recovered_more : (ds es : List Decision) (ls more : List Line) (given last : List (List Term)) → ((p : List Term) → IsUnit (conditions ds) p → IsUnit (conditions (ds ++ es)) p) → ((p : List Term) → Contains given p → IsRecovered root (ds ++ es) (ls ++ more) last (length ls) p) → (n : ℕ) (p : List Term) → n ≤ length ls → IsRecovered root ds ls given n p → IsRecovered root (ds ++ es) (ls ++ more) last n p
  recovered_more ds es ls more given last keeps all n p l (recovery.IsRecovered.is_given c) = earlier (ds ++ es) (ls ++ more) last n (length ls) p l (all p c)
  recovered_more ds es ls more given last keeps all n p l (recovery.IsRecovered.is_zero) = is_zero
  recovered_more ds es ls more given last keeps all n p l (recovery.IsRecovered.by_line {k = k} {p = b} {r = r} a lead x y) =
      let k_below : k < length ls = below_length ls k lead.line lead.is in
      by_line a
      (record {
        line = lead.line;
        is = still_there ls more k lead.line lead.is;
        forward = lead.forward;
        unit = keeps lead.line.l lead.unit;
        refers = subst (λ before. Refers root (ds ++ es) before lead.line p b) (sym (same_front ls more k lead.line lead.is)) (refers_decisions ds es (take k ls) lead.line p b lead.refers);
        made = lead.made;
      })
      (recovered_more ds es ls more given last keeps all (suc k) b (omega (arith, k_below)) x)
      (recovered_more ds es ls more given last keeps all (suc k) r (omega (arith, k_below)) y)

-- the conditions with one decision more
pub conditions_zero : (ds : List Decision) (s : List Term) → conditions (decided ds s true) ≡ conditions ds
conditions_zero [] s = refl
conditions_zero (d ∷ ds) s = each d.zero (conditions_zero ds s)
  where
    each : (b : Bool) → conditions (decided ds s true) ≡ conditions ds → (if b then conditions (decided ds s true) else d.poly ∷ conditions (decided ds s true)) ≡ (if b then conditions ds else d.poly ∷ conditions ds)
    each true h = h
    each false h = ap (λ ns. d.poly ∷ ns) h

pub conditions_nonzero : (ds : List Decision) (s : List Term) → conditions (decided ds s false) ≡ conditions ds ++ s ∷ []
conditions_nonzero [] s = refl
conditions_nonzero (d ∷ ds) s = each d.zero (conditions_nonzero ds s)
  where
    each : (b : Bool) → conditions (decided ds s false) ≡ conditions ds ++ s ∷ [] → (if b then conditions (decided ds s false) else d.poly ∷ conditions (decided ds s false)) ≡ (if b then conditions ds else d.poly ∷ conditions ds) ++ s ∷ []
    each true h = h
    each false h = ap (λ ns. d.poly ∷ ns) h
