-- A seat outside every call.
use Rattle.std.proofs.Common.{◌≡◌, List, [], ◌∷◌, Option, Some, refl, sym, ap, ◌∙◌, true, false, Bool, not}
use Rattle.turn_lock.specs.declared.view.View.{View}
use Rattle.turn_lock.specs.Turn.{is_idle}
use Rattle.turn_lock.specs.Lock.{origin_of, seen_of}

not_true : (b : Bool) → not b ≡ true → b ≡ false
not_true true e = absurd (cc e)
not_true false e = refl

module _ {E O : Type 0} where
  pub record IsOne (vs : List (View E O)) : Type 0 where
    pub view : View E O
    pub is : vs ≡ view ∷ []
    pub idle : view.holds ≡ false

  pub one_of : (vs : List (View E O)) → is_idle vs ≡ true → IsOne vs
  one_of [] e = absurd (cc e)
  one_of (v ∷ []) e = record { view = v; is = refl; idle = not_true v.holds e }
  one_of (v ∷ w ∷ vs) e = absurd (cc e)

  pub origin_one : (v : View E O) (vs : List (View E O)) (o : O) → vs ≡ v ∷ [] → origin_of vs ≡ Some o → v.origin ≡ o
  origin_one v vs o is e = let p : ◌≡◌ {A = Option O} (Some v.origin) (Some o) = sym (ap origin_of is) ∙ e in cc p

  pub seen_one : (v : View E O) (vs : List (View E O)) → vs ≡ v ∷ [] → seen_of vs ≡ v.seen
  seen_one v vs is = ap seen_of is
