-- Marks of conditions in form.
use Rattle.std.specs.Prelude.{◌≡◌, ◌<◌, ◌↔◌, ℕ, zero, suc, Bool, IsTrue, List, [], ◌∷◌, ◌++◌, length, slice_index_or, refl}
use Rattle.std.proofs.Common.{arith, sym, subst}
use Rattle.sparse_poly.specs.declared.Term.{Term}
use Rattle.sparse_poly.specs.Clearing.{IsInForm}
use Rattle.case_system.specs.Marks.{AreMarked}

pub marks_length : (ps : List (List Term)) (bs : List Bool) → AreMarked ps bs → length bs ≡ length ps
marks_length [] [] h = refl
marks_length [] (b ∷ bs) h = absurd h
marks_length (p ∷ ps) [] h = absurd h
marks_length (p ∷ ps) (b ∷ bs) h = let rest = marks_length ps bs h.1 in omega (arith, rest)

pub marked_at : (ps : List (List Term)) (bs : List Bool) (i : ℕ) (b : Bool) → AreMarked ps bs → i < length ps → b ≡ slice_index_or bs i b → IsTrue b ↔ IsInForm (slice_index_or ps i [])
marked_at [] bs i b h l e = absurd (omega (arith, l))
marked_at (p ∷ ps) [] i b h l e = absurd h
marked_at (p ∷ ps) (c ∷ bs) zero b h l e = subst (λ x. IsTrue x ↔ IsInForm p) (sym e) h.0
marked_at (p ∷ ps) (c ∷ bs) (suc i) b h l e = marked_at ps bs i b h.1 (omega (arith, l)) e

pub marked_more : (ps : List (List Term)) (bs : List Bool) (p : List Term) (b : Bool) → AreMarked ps bs → IsTrue b ↔ IsInForm p → AreMarked (ps ++ p ∷ []) (bs ++ b ∷ [])
marked_more [] [] p b h m = (m, tt)
marked_more [] (c ∷ bs) p b h m = absurd h
marked_more (q ∷ ps) [] p b h m = absurd h
marked_more (q ∷ ps) (c ∷ bs) p b h m = (h.0, marked_more ps bs p b h.1 m)
