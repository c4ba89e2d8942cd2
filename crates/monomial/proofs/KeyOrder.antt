-- The order of keys is that of their powers.
use Rattle.std.specs.Prelude.{◌≡◌, ◌≢◌, ℕ, ◌/◌, ◌%◌, ◌<◌, List, [], ◌∷◌, map, drop, length, slice_index_or, refl}
use Rattle.std.proofs.Common.{arith, ◌∙◌, ap, drop-cons}
use Rattle.std.specs.declared.cmp.Ordering.{Ordering}
use Rattle.std.specs.declared.cmp.Ordering.TheVariants.{Less, Equal, Greater}
use Rattle.std.specs.Cmp.{nat_cmp_is}
use Rattle.std.specs.Cmp.Lexicographic.{slice_cmp}
use Rattle.std.specs.Cmp.Derive.Mapped.{lex_map}
use Rattle.std.specs.Ordering.{nat_cmp, ordering_then, MatchOrdering}
use Rattle.std.proofs.lemmas.Cmp.{ranked}
use Rattle.monomial.specs.declared.keys.Key.{Key}
use Rattle.monomial.specs.Keys.{power_of}
use Rattle.monomial.specs.Monomials.{power_cmp, monomial_cmp}

-- two words are ordered as their upper halves, then as their lower ones
halves : (a b : ℕ) → power_cmp (a / 65536, a % 65536) (b / 65536, b % 65536) ≡ nat_cmp a b
halves a b = nat_cmp_is a b _ (each (nat_cmp (a / 65536) (b / 65536)) (ranked (a / 65536) (b / 65536) _ refl) (nat_cmp (a % 65536) (b % 65536)) (ranked (a % 65536) (b % 65536) _ refl))
  where
    each : (o : Ordering) → MatchOrdering o (a / 65536 < b / 65536) (a / 65536 ≡ b / 65536) (b / 65536 < a / 65536) → (p : Ordering) → MatchOrdering p (a % 65536 < b % 65536) (a % 65536 ≡ b % 65536) (b % 65536 < a % 65536) → MatchOrdering (ordering_then o p) (a < b) (a ≡ b) (b < a)
    each Less h p i = omega arith
    each Greater h p i = omega arith
    each Equal h Less i = omega arith
    each Equal h Equal i = omega arith
    each Equal h Greater i = omega arith

pub key_order : (k l : Key) → power_cmp (power_of k) (power_of l) ≡ nat_cmp k.word l.word
key_order k l = halves k.word l.word

same_order : {X : Type 0} (R S : X → X → Ordering) → ((x y : X) → R x y ≡ S x y) → (xs ys : List X) → slice_cmp R xs ys ≡ slice_cmp S xs ys
same_order R S e [] [] = refl
same_order R S e [] (y ∷ ys) = refl
same_order R S e (x ∷ xs) [] = refl
same_order R S e (x ∷ xs) (y ∷ ys) = ap (λ o. ordering_then o (slice_cmp R xs ys)) (e x y) ∙ ap (ordering_then (S x y)) (same_order R S e xs ys)

-- two lists of keys in order of their words
pub keys_order : (ks ls : List Key) → monomial_cmp (map power_of ks) (map power_of ls) ≡ slice_cmp (λ k l. nat_cmp k.word l.word) ks ls
keys_order ks ls = lex_map power_of power_cmp ks ls ∙ same_order _ _ key_order ks ls

-- the first two words that differ decide
pub differing : (ks ls : List Key) (i : ℕ) (d e : Key) → i < length ks → i < length ls → (slice_index_or ks i d).word ≢ (slice_index_or ls i e).word → slice_cmp (λ k l. nat_cmp k.word l.word) (drop i ks) (drop i ls) ≡ nat_cmp (slice_index_or ks i d).word (slice_index_or ls i e).word
differing ks ls i d e h g n = rw (drop-cons ks i d h, drop-cons ls i e g) (decided (nat_cmp (slice_index_or ks i d).word (slice_index_or ls i e).word) _ (ranked (slice_index_or ks i d).word (slice_index_or ls i e).word _ refl))
  where
    decided : (o p : Ordering) → MatchOrdering o ((slice_index_or ks i d).word < (slice_index_or ls i e).word) ((slice_index_or ks i d).word ≡ (slice_index_or ls i e).word) ((slice_index_or ls i e).word < (slice_index_or ks i d).word) → ordering_then o p ≡ o
    decided Less p m = refl
    decided Equal p m = absurd (n m)
    decided Greater p m = refl
