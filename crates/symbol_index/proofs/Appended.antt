-- The step of the loop that appends symbols.
use Rattle.std.specs.Prelude.{◌≡◌, ℕ, ◌+◌, ◌<◌, List, [], ◌∷◌, ◌++◌, map, take, length, slice_index_or}
use Rattle.std.proofs.Common.{sym as back, ◌∙◌, ap, append_assoc}
use Rattle.std.proofs.lemmas.List.{take_more, map-append}

module _ {T X : Type 0} (make : T → X) where
  pub mapped_more : (ts : List T) (i : ℕ) (t : T) (s : X) (start old new : List X) → i < length ts → t ≡ slice_index_or ts i t → s ≡ make t → old ≡ start ++ map make (take i ts) → new ≡ old ++ s ∷ [] → new ≡ start ++ map make (take (i + 1) ts)
  mapped_more ts i t s start old new h is k e f =
      f ∙ ap (λ xs. xs ++ s ∷ []) e
      ∙ append_assoc start (map make (take i ts)) (s ∷ [])
      ∙ ap (λ x. start ++ (map make (take i ts) ++ x ∷ [])) (k ∙ ap make is)
      ∙ ap (λ xs. start ++ xs) (back (map-append make (take i ts) (slice_index_or ts i t ∷ [])))
      ∙ ap (λ xs. start ++ map make xs) (back (take_more ts i t h))
