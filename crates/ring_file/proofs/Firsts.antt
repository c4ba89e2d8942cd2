-- The first item of which a fact does not hold.
use Rattle.std.specs.Prelude.{◌≡◌, ℕ, suc, ◌+◌, ◌<◌, List, [], ◌∷◌, ◌++◌, map, length, get_or, drop}
use Rattle.std.specs.List.{All}
use Rattle.std.proofs.Common.{◌∙◌, ap, sym, add-one, drop-cons, append_assoc, refl}
use Rattle.std.proofs.lemmas.List.{length-map, map-append}
use Rattle.std.proofs.lemmas.List.Elements.{All-map}
use Rattle.ring_file.specs.Reading.{IsFirstWithout}

-- as far as the items ys go, the items of xs are those of ys; then comes one of which P does not hold
pub first_at : {A B T : Type 0} (P : T → Type 0) (f : A → T) (g : B → T) (xs : List A) (ys : List B) (i j : ℕ) (d : A) → i < length xs → map f xs ≡ map g ys ++ map f (drop i xs) → j ≡ length ys → All (λ b. P (g b)) ys → ¬ P (f (get_or xs i d)) → IsFirstWithout P (map f xs) j
first_at P f g xs ys i j d h same k all fails = record {
  front = map g ys;
  at = f (get_or xs i d);
  rest = map f (drop (suc i) xs);
  split = same ∙ ap (λ z. map g ys ++ map f z) (drop-cons xs i d h);
  place = rw length-map (sym k);
  holds = All-map P g ys all;
  fails = fails;
}

-- the same, one item further
pub one_more : {A B T : Type 0} (f : A → T) (g : B → T) (xs : List A) (ys zs : List B) (y : B) (i : ℕ) (d : A) → i < length xs → map f xs ≡ map g ys ++ map f (drop i xs) → zs ≡ ys ++ y ∷ [] → g y ≡ f (get_or xs i d) → map f xs ≡ map g zs ++ map f (drop (i + 1) xs)
one_more f g xs ys zs y i d h same e k =
    same ∙ ap (λ z. map g ys ++ map f z) (drop-cons xs i d h) ∙ sym (rw (e, map-append, append_assoc, k, add-one) refl)
