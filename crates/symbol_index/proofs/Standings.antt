-- What the standing of a symbol says.
use Rattle.std.specs.Prelude.{◌≡◌, ◌↔◌, ℕ, ◌<◌, Bool, true, false, ◌&&◌, not, if◌then◌else◌, Some, Result, IfOk, List, length, slice_get, slice_index_or, Contains, refl}
use Rattle.std.specs.Option.{unwrap_or}
use Rattle.std.specs.Result.{result_unwrap_or}
use Rattle.std.specs.List.Sorted.{IsBinarySearchResult}
use Rattle.symbol_index.specs.Order.{symbol_cmp}
use Rattle.std.proofs.Common.{sym as back, ◌∙◌, ap, subst}
use Rattle.std.proofs.lemmas.Option.{slice_get-get_or, slice_get_within, get_or_from_slice_get}
use Rattle.fusion_ring.specs.Fusion.{Fusion}
use Rattle.symbol_index.specs.declared.Symbol.{Symbol}
use Rattle.symbol_index.specs.declared.Standing.TheVariants.{Unit as unit_symbol, Unknown, NotAdmissible}
use Rattle.symbol_index.specs.Symbols.{is_admissible, has_unit, is_unknown, unknowns, number, standing}
use Rattle.symbol_index.proofs.Members.{unknowns_sorted, unknowns_contain, contains_unknowns}
use Rattle.symbol_index.proofs.Numbers.{position_is, search_is}

module _ (r : Fusion) (s : Symbol) (m : Contains (unknowns r) s) where
  number_is : number r s ≡ m.0
  number_is = ap (λ o. unwrap_or o 0) (position_is (unknowns r) (unknowns_sorted r) s m)

  pub number_below : number r s < length (unknowns r)
  number_below = subst (λ i. i < length (unknowns r)) (back number_is) m.1

  -- the unknown of that number is s
  pub unknown_at_number : slice_get (unknowns r) (number r s) ≡ Some s
  unknown_at_number = ap (slice_get (unknowns r)) number_is ∙ slice_get-get_or (unknowns r) m.0 s m.1 ∙ ap Some m.2

-- different unknowns have different numbers
pub number_injective : (r : Fusion) (s t : Symbol) → is_unknown r s ≡ true → is_unknown r t ≡ true → number r s ≡ number r t → s ≡ t
number_injective r s t h k e =
    let p = unknown_at_number r s (unknowns_contain r s h) in
    let q = unknown_at_number r t (unknowns_contain r t k) in
    some_same (back p ∙ ap (slice_get (unknowns r)) e ∙ q)
  where
    some_same : {x y : Symbol} → Some x ≡ Some y → x ≡ y
    some_same e = cc

by_tests : (a u : Bool) (n : ℕ) → (if a then (if u then unit_symbol else Unknown n) else NotAdmissible) ≡ Unknown n → (not u && a) ≡ true
by_tests true true n e = absurd (cc e)
by_tests true false n e = refl
by_tests false u n e = absurd (cc e)

unknown_number : (a u : Bool) (n i : ℕ) → (if a then (if u then unit_symbol else Unknown n) else NotAdmissible) ≡ Unknown i → (n ≡ i) × ((not u && a) ≡ true)
unknown_number true true n i e = absurd (cc e)
unknown_number true false n i e = (cc e, refl)
unknown_number false u n i e = absurd (cc e)

-- an unknown and its number
pub standing_unknown : (r : Fusion) (s : Symbol) (i : ℕ) → standing r s ≡ Unknown i → (is_unknown r s ≡ true) × (number r s ≡ i)
standing_unknown r s i e = let q = unknown_number (is_admissible r s) (has_unit s) (number r s) i e in (q.1, q.0)

pub standing_below : (r : Fusion) (s : Symbol) (i : ℕ) → standing r s ≡ Unknown i → i < length (unknowns r)
standing_below r s i e =
    let q = standing_unknown r s i e in
    subst (λ j. j < length (unknowns r)) q.1 (number_below r s (unknowns_contain r s q.0))

of_tests : (a u : Bool) (n : ℕ) → (not u && a) ≡ true → (if a then (if u then unit_symbol else Unknown n) else NotAdmissible) ≡ Unknown n
of_tests true true n h = absurd (cc h)
of_tests true false n h = refl
of_tests false true n h = absurd (cc h)
of_tests false false n h = absurd (cc h)

pub standing_is_unknown : (r : Fusion) (s : Symbol) → is_unknown r s ≡ true → standing r s ≡ Unknown (number r s)
standing_is_unknown r s h = of_tests (is_admissible r s) (has_unit s) (number r s) h

-- the symbol at a place has this number
pub standing_at : (r : Fusion) (i : ℕ) (s : Symbol) → i < length (unknowns r) → slice_index_or (unknowns r) i s ≡ s → standing r s ≡ Unknown i
standing_at r i s h e =
    let m : Contains (unknowns r) s = (i, h, e) in
    standing_is_unknown r s (contains_unknowns r s m) ∙ ap Unknown (number_is r s m)

-- what a binary search in the list of the unknowns finds
pub number_from_search : (r : Fusion) (s : Symbol) → is_unknown r s ≡ true → (us : List Symbol) (o : Result ℕ ℕ) → us ≡ unknowns r → IsBinarySearchResult (λ u. symbol_cmp u s) us o → IfOk o (λ i. i < length us) → result_unwrap_or o 0 ≡ number r s
number_from_search r s h us o e found below =
    let m = unknowns_contain r s h in
    let found_there : IsBinarySearchResult (λ u. symbol_cmp u s) (unknowns r) o = subst (λ xs. IsBinarySearchResult (λ u. symbol_cmp u s) xs o) e found in
    let below_there : IfOk o (λ i. i < length (unknowns r)) = subst (λ xs. IfOk o (λ i. i < length xs)) e below in
    ap (λ x. result_unwrap_or x 0) (search_is (unknowns r) (unknowns_sorted r) s m o (λ i k. subst (λ x. IfOk x (λ j. j < length (unknowns r))) k below_there) found_there)
    ∙ back (number_is r s m)

-- the unknown at the place i, and only it, stands as that of number i
pub standing_is : (r : Fusion) (i : ℕ) (s : Symbol) → (slice_get (unknowns r) i ≡ Some s) ↔ (standing r s ≡ Unknown i)
standing_is r i s = (
  λ e. standing_at r i s (slice_get_within (unknowns r) i s e) (get_or_from_slice_get (unknowns r) i s s e),
  λ e. let q = standing_unknown r s i e in subst (λ j. slice_get (unknowns r) j ≡ Some s) q.1 (unknown_at_number r s (unknowns_contain r s q.0)),
)
