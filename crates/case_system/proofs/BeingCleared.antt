-- Equations that are being cleared or stripped: what is left to do leads to what the whole leads to.
use Rattle.std.specs.Prelude.{◌≡◌, ◌<◌, ℕ, ◌+◌, pos, List, [], ◌∷◌, ◌++◌, length, refl}
use Rattle.std.proofs.Common.{arith, sym, ◌∙◌, ap, subst, append_assoc, length-append, append-nil}
use Rattle.sparse_poly.specs.declared.Term.{Term}
use Rattle.sparse_poly.specs.Polynomials.{constant}
use Rattle.sparse_poly.specs.Contributions.{IsResult}
use Rattle.sparse_poly.specs.Clearing.{IsInForm, IsDivision, leading_degree}
use Rattle.sparse_poly.specs.Units.{IsStripped}
use Rattle.sparse_poly.proofs.InOrder.{IsResult-own}
use Rattle.sparse_poly.proofs.OneQuotient.{division_lowers}
use Rattle.derive_lines.specs.declared.parts.Line.{Line}
use Rattle.case_rules.specs.declared.equation.Equation.{Equation}
use Rattle.case_rules.specs.Kept.{added, all_added}
use Rattle.case_rules.specs.Clearings as clearings
use Rattle.case_rules.specs.Clearings.{made, quotient_line, Divides, IsClearing, AreCleared, AreStripped}
use Rattle.case_system.specs.Appending as appending
use Rattle.case_system.specs.Kept.{AreAddedCleared}
use Rattle.case_system.specs.Appending.{IsClearedBy, AreClearedBy, IsStrippedBy, AreStrippedBy}
use Rattle.case_rules.proofs.Sides.{one_product, division_sides}

-- one division of a polynomial is one of a clearing that begins with it
pub division_from : (n p h : List Term) → Divides n p h → IsDivision [] n (constant (pos 1)) p n h
division_from n p h d = record {
  in_form = d.in_form;
  nonzero = d.nonzero;
  apart = λ c. let l = c.1 in absurd (omega (arith, l));
  quotient = d.quotient;
  factor = subst (λ cs. IsResult cs n) (sym (one_product n)) (IsResult-own n d.in_form.poly);
  whole = (division_sides n p h d.in_form.poly d.quotient).right_light;
}

-- a quotient has a lower leading degree
pub quotient_smaller : (n p h : List Term) → Divides n p h → leading_degree h < leading_degree p
quotient_smaller n p h d = division_lowers [] n (constant (pos 1)) p n h (division_from n p h d)

pub out_of_form : (n p : List Term) → (IsInForm n → ⊥) → (h : List Term) → Divides n p h → ⊥
out_of_form n p none h d = none d.in_form

-- the conditions `left` are still to be divided out
pub record IsBeingCleared (units : List (List Term)) (before : List Line) (e0 : Equation) (left : List (List Term)) (now : List Line) (e : Equation) : Type 0 where
  pub more : List Line
  pub is : now ≡ before ++ more
  pub goes_on : (rest : List Line) (f : Equation) → IsClearing left (length now) e rest f → IsClearing units (length before) e0 (more ++ rest) f

pub begun : (units : List (List Term)) (lines : List Line) (e : Equation) → IsBeingCleared units lines e units lines e
begun units lines e = record { more = []; is = sym (append-nil lines); goes_on = λ rest f h. h }

pub passed_at : (units : List (List Term)) (before : List Line) (e0 : Equation) (left ns : List (List Term)) (n : List Term) (now : List Line) (e : Equation) → left ≡ n ∷ ns → IsBeingCleared units before e0 left now e → ((h : List Term) → Divides n e.poly h → ⊥) → IsBeingCleared units before e0 ns now e
passed_at units before e0 left ns n now e s b none = record { more = b.more; is = b.is; goes_on = λ rest f h. b.goes_on rest f (subst (λ l. IsClearing l (length now) e rest f) (sym s) (clearings.IsClearing.next n ns (length now) e rest f none h)) }

pub divided_at : (units : List (List Term)) (before : List Line) (e0 : Equation) (left ns : List (List Term)) (n : List Term) (now next : List Line) (e : Equation) (h : List Term) (k : ℕ) → left ≡ n ∷ ns → IsBeingCleared units before e0 left now e → Divides n e.poly h → k ≡ length now → next ≡ now ++ quotient_line e.item n h ∷ [] → IsBeingCleared units before e0 left next (made h k)
divided_at units before e0 left ns n now next e h k s b d l m = record {
  more = b.more ++ line ∷ [];
  is = m ∙ ap (λ ls. ls ++ line ∷ []) b.is ∙ append_assoc before b.more (line ∷ []);
  goes_on = λ rest f g. subst (λ ls. IsClearing units (length before) e0 ls f) (sym (append_assoc b.more (line ∷ []) rest)) (b.goes_on (line ∷ rest) f (whole rest f g));
}
  where
    line : Line
    line = quotient_line e.item n h

    long : length next ≡ length now + 1
    long = ap length m ∙ length-append now (line ∷ [])

    whole : (rest : List Line) (f : Equation) → IsClearing left (length next) (made h k) rest f → IsClearing left (length now) e (line ∷ rest) f
    whole rest f g =
        subst (λ l. IsClearing l (length now) e (line ∷ rest) f) (sym s)
        (clearings.IsClearing.once n ns (length now) e h rest f d
        (subst (λ j. IsClearing (n ∷ ns) (length now + 1) (made h j) rest f) l
        (subst (λ j. IsClearing (n ∷ ns) j (made h k) rest f) long (subst (λ x. IsClearing x (length next) (made h k) rest f) s g))))

-- first by some conditions, then by others
pub first_then : (ns ms : List (List Term)) (k : ℕ) (e : Equation) (ls : List Line) (f : Equation) (more : List Line) (g : Equation) → IsClearing ns k e ls f → IsClearing ms (k + length ls) f more g → IsClearing (ns ++ ms) k e (ls ++ more) g
first_then ns ms k e ls f more g (clearings.IsClearing.end i j) h = subst (λ j. IsClearing ms j e more g) (omega arith) h
first_then ns ms k e ls f more g (clearings.IsClearing.next n ns' i j ls' f' none rest) h = clearings.IsClearing.next n (ns' ++ ms) k e (ls ++ more) g none (first_then ns' ms k e ls f more g rest h)
first_then ns ms k e ls f more g (clearings.IsClearing.once n ns' i j q ls' f' d rest) h =
    clearings.IsClearing.once n (ns' ++ ms) k e q (ls' ++ more) g d (first_then (n ∷ ns') ms (k + 1) (made q k) ls' f more g rest (subst (λ j. IsClearing ms j f more g) (omega arith) h))

-- condition n is divided out
pub divided_out_at : (units : List (List Term)) (before : List Line) (e0 : Equation) (left ns : List (List Term)) (n : List Term) (now next : List Line) (e f : Equation) → left ≡ n ∷ ns → IsBeingCleared units before e0 left now e → IsClearedBy (n ∷ []) now e next f → IsBeingCleared units before e0 ns next f
divided_out_at units before e0 left ns n now next e f s b c = record {
  more = b.more ++ c.more;
  is = c.is ∙ ap (λ ls. ls ++ c.more) b.is ∙ append_assoc before b.more c.more;
  goes_on = λ rest g h.
      subst (λ ls. IsClearing units (length before) e0 ls g) (sym (append_assoc b.more c.more rest))
      (b.goes_on (c.more ++ rest) g (subst (λ l. IsClearing l (length now) e (c.more ++ rest) g) (sym s)
      (first_then (n ∷ []) ns (length now) e c.more f rest g c.clearing (subst (λ j. IsClearing ns j f rest g) (ap length c.is ∙ length-append now c.more) h))));
}

pub cleared_at_last : (units : List (List Term)) (before : List Line) (e0 : Equation) (left : List (List Term)) (now : List Line) (e : Equation) → left ≡ [] → IsBeingCleared units before e0 left now e → IsClearedBy units before e0 now e
cleared_at_last units before e0 left now e s b = record {
  more = b.more;
  is = b.is;
  clearing = subst (λ ls. IsClearing units (length before) e0 ls e) (append-nil b.more) (b.goes_on [] e (subst (λ l. IsClearing l (length now) e [] e) (sym s) (clearings.IsClearing.end (length now) e)));
}

-- equations `left` are still to be cleared
pub record AreBeingCleared (units : List (List Term)) (before : List Line) (es left : List Equation) (now : List Line) (done : List Equation) : Type 0 where
  pub more : List Line
  pub is : now ≡ before ++ more
  pub goes_on : (rest : List Line) (fs : List Equation) → AreCleared units (length now) left rest fs → AreCleared units (length before) es (more ++ rest) (done ++ fs)

all_begun : (units : List (List Term)) (lines : List Line) (es : List Equation) → AreBeingCleared units lines es es lines []
all_begun units lines es = record { more = []; is = sym (append-nil lines); goes_on = λ rest fs h. h }

pub cleared_next : (units : List (List Term)) (before : List Line) (es : List Equation) (e : Equation) (left : List Equation) (now next : List Line) (done : List Equation) (f : Equation) → AreBeingCleared units before es (e ∷ left) now done → IsClearedBy units now e next f → AreBeingCleared units before es left next (done ++ f ∷ [])
cleared_next units before es e left now next done f b c = record {
  more = b.more ++ c.more;
  is = c.is ∙ ap (λ ls. ls ++ c.more) b.is ∙ append_assoc before b.more c.more;
  goes_on = λ rest fs h.
      subst (λ ls. AreCleared units (length before) es ls ((done ++ f ∷ []) ++ fs)) (sym (append_assoc b.more c.more rest))
      (subst (λ xs. AreCleared units (length before) es (b.more ++ (c.more ++ rest)) xs) (sym (append_assoc done (f ∷ []) fs))
      (b.goes_on (c.more ++ rest) (f ∷ fs) (clearings.AreCleared.next (length now) e left c.more f rest fs c.clearing
      (subst (λ j. AreCleared units j left rest fs) (ap length c.is ∙ length-append now c.more) h))));
}

all_cleared_at_last : (units : List (List Term)) (before : List Line) (es left : List Equation) (now : List Line) (done : List Equation) → left ≡ [] → AreBeingCleared units before es left now done → AreClearedBy units before es now done
all_cleared_at_last units before es left now done s b = record {
  more = b.more;
  is = b.is;
  clearing = subst (λ ls. AreCleared units (length before) es ls done) (append-nil b.more)
      (subst (λ fs. AreCleared units (length before) es (b.more ++ []) fs) (append-nil done)
      (b.goes_on [] [] (subst (λ xs. AreCleared units (length now) xs [] []) (sym s) (clearings.AreCleared.end (length now)))));
}

-- the same, where each that is done was added to those before it
pub record AreBeingAdded (units : List (List Term)) (before : List Line) (es left : List Equation) (now : List Line) (fs : List Equation) : Type 0 where
  pub done : List Equation
  pub cleared : AreBeingCleared units before es left now done
  pub is : fs ≡ all_added done []

pub adding_begun : (units : List (List Term)) (lines : List Line) (es fs : List Equation) → fs ≡ [] → AreBeingAdded units lines es es lines fs
adding_begun units lines es fs e = record { done = []; cleared = all_begun units lines es; is = e }

pub added_next : (units : List (List Term)) (before : List Line) (es : List Equation) (e : Equation) (left : List Equation) (now next : List Line) (fs gs : List Equation) (f : Equation) → AreBeingAdded units before es (e ∷ left) now fs → IsClearedBy units now e next f → gs ≡ added f fs → AreBeingAdded units before es left next gs
added_next units before es e left now next fs gs f b c g = record {
  done = b.done ++ f ∷ [];
  cleared = cleared_next units before es e left now next b.done f b.cleared c;
  is = g ∙ ap (added f) b.is ∙ sym (added_last b.done []);
}
  where
    added_last : (done hs : List Equation) → all_added (done ++ f ∷ []) hs ≡ added f (all_added done hs)
    added_last [] hs = refl
    added_last (d ∷ done) hs = added_last done (added d hs)

pub all_added_at_last : (units : List (List Term)) (before : List Line) (es left : List Equation) (now : List Line) (fs : List Equation) → left ≡ [] → AreBeingAdded units before es left now fs → AreAddedCleared units before es now fs
all_added_at_last units before es left now fs s b = record { cleared = b.done; are_cleared = all_cleared_at_last units before es left now b.done s b.cleared; is = b.is }

-- equations `left` are still to be stripped
pub record AreBeingStripped (units : List (List Term)) (before : List Line) (es left : List Equation) (now : List Line) (done : List Equation) : Type 0 where
  pub more : List Line
  pub is : now ≡ before ++ more
  pub goes_on : (rest : List Line) (fs : List Equation) → AreStripped units (length now) left rest fs → AreStripped units (length before) es (more ++ rest) (done ++ fs)

pub stripped_next : (units : List (List Term)) (before : List Line) (es left rest : List Equation) (e : Equation) (now next : List Line) (done : List Equation) (f : Equation) → left ≡ e ∷ rest → AreBeingStripped units before es left now done → IsStrippedBy units now e next f → AreBeingStripped units before es rest next (done ++ f ∷ [])
stripped_next units before es left rest e now next done f s b (appending.IsStrippedBy.same m x) = record {
  more = b.more;
  is = b.is;
  goes_on = λ ls fs h.
      subst (λ xs. AreStripped units (length before) es (b.more ++ ls) xs) (sym (append_assoc done (e ∷ []) fs))
      (b.goes_on ls (e ∷ fs) (subst (λ xs. AreStripped units (length now) xs ls (e ∷ fs)) (sym s) (clearings.AreStripped.same (length now) e rest m ls fs x h)));
}
stripped_next units before es left rest e now next done f s b (appending.IsStrippedBy.changed m r x differs) = record {
  more = b.more ++ line ∷ [];
  is = ap (λ ls. ls ++ line ∷ []) b.is ∙ append_assoc before b.more (line ∷ []);
  goes_on = λ ls fs h.
      subst (λ ks. AreStripped units (length before) es ks ((done ++ made r (length now) ∷ []) ++ fs)) (sym (append_assoc b.more (line ∷ []) ls))
      (subst (λ xs. AreStripped units (length before) es (b.more ++ line ∷ ls) xs) (sym (append_assoc done (made r (length now) ∷ []) fs))
      (b.goes_on (line ∷ ls) (made r (length now) ∷ fs) (subst (λ xs. AreStripped units (length now) xs (line ∷ ls) (made r (length now) ∷ fs)) (sym s)
      (clearings.AreStripped.changed (length now) e rest m r ls fs x differs (subst (λ j. AreStripped units j rest ls fs) (length-append now (line ∷ [])) h)))));
}
  where
    line : Line
    line = quotient_line e.item m r

pub strips_at_last : (units : List (List Term)) (before : List Line) (es left : List Equation) (now : List Line) (done : List Equation) → left ≡ [] → AreBeingStripped units before es left now done → AreStrippedBy units before es now done
strips_at_last units before es left now done s b = record {
  more = b.more;
  is = b.is;
  stripping = subst (λ ls. AreStripped units (length before) es ls done) (append-nil b.more)
      (subst (λ fs. AreStripped units (length before) es (b.more ++ []) fs) (append-nil done)
      (b.goes_on [] [] (subst (λ xs. AreStripped units (length now) xs [] []) (sym s) (clearings.AreStripped.end (length now)))));
}

-- a strip of an equation, by whether it changed
pub strip_same : (units : List (List Term)) (lines : List Line) (e f : Equation) (m : List Term) → IsStripped units e.poly m f.poly → f.poly ≡ e.poly → f.item ≡ e.item → IsStrippedBy units lines e lines f
strip_same units lines e f m s p i =
    let same : f ≡ e = ap (λ q. let x : Equation = record { poly = q; item = f.item } in x) p ∙ ap (λ j. let x : Equation = record { poly = e.poly; item = j } in x) i in
    subst (λ x. IsStrippedBy units lines e lines x) (sym same) (appending.IsStrippedBy.same m (subst (IsStripped units e.poly m) p s))

pub strip_changed : (units : List (List Term)) (lines next : List Line) (e : Equation) (m r : List Term) (k : ℕ) → IsStripped units e.poly m r → (r ≡ e.poly → ⊥) → k ≡ length lines → next ≡ lines ++ quotient_line e.item m r ∷ [] → IsStrippedBy units lines e next (made r k)
strip_changed units lines next e m r k s n l g =
    subst (λ ls. IsStrippedBy units lines e ls (made r k)) (sym g) (subst (λ j. IsStrippedBy units lines e (lines ++ quotient_line e.item m r ∷ []) (made r j)) (sym l) (appending.IsStrippedBy.changed m r s n))
