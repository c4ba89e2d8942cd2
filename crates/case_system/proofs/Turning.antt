-- Lists of which a part is turned by one.
use Rattle.std.specs.Prelude.{◌≡◌, ◌<◌, ◌≤◌, ℕ, zero, suc, ◌+◌, ◌-◌, List, [], ◌∷◌, ◌++◌, length, insert, remove, take, drop, slice_index_or, slice_set, refl}
use Rattle.std.proofs.Common.{arith, sym, ◌∙◌, ap, length-append, append_assoc, add-one, drop-cons}
use Rattle.std.proofs.lemmas.List.{take_at, drop_at, take-append-drop, length-take, length-drop}
use borrow.Rule.Slice.PartMut.{put_mid, mid_of}

-- what takes the place of a part
placed_mid : {X : Type 0} (front mid back ys : List X) (a k : ℕ) → length front ≡ a → length mid ≡ k → put_mid a k (front ++ (mid ++ back)) ys ≡ front ++ (ys ++ back)
placed_mid front mid back ys a k e f =
    ap (λ zs. zs ++ (ys ++ drop k (drop a (front ++ (mid ++ back))))) (take_at front (mid ++ back) a e) ∙
    ap (λ zs. front ++ (ys ++ zs)) (ap (drop k) (drop_at front (mid ++ back) a e) ∙ drop_at mid back k f)

middle_of : {X : Type 0} (front mid back : List X) (a k : ℕ) → length front ≡ a → length mid ≡ k → mid_of a k (front ++ (mid ++ back)) ≡ mid
middle_of front mid back a k e f = ap (take k) (drop_at front (mid ++ back) a e) ∙ take_at mid back k f

-- what is taken out, and what comes in
taken_out : {X : Type 0} (front back : List X) (x : X) (a : ℕ) → length front ≡ a → remove (front ++ x ∷ back) a ≡ front ++ back
taken_out front back x a e =
    ap (λ zs. zs ++ drop (suc a) (front ++ x ∷ back)) (take_at front (x ∷ back) a e) ∙
    ap (λ zs. front ++ zs) (ap (drop (suc a)) (sym (append_assoc front (x ∷ []) back)) ∙ drop_at (front ++ x ∷ []) back (suc a) (length-append front (x ∷ []) ∙ ap (λ n. n + 1) e ∙ add-one a))

put_in : {X : Type 0} (front back : List X) (x : X) (a : ℕ) → length front ≡ a → insert (front ++ back) a x ≡ front ++ x ∷ back
put_in front back x a e = ap (λ zs. zs ++ x ∷ drop a (front ++ back)) (take_at front back a e) ∙ ap (λ zs. front ++ x ∷ zs) (drop_at front back a e)

module _ {X : Type 0} (front middle : List X) (x : X) (back : List X) (a b : ℕ) (first : length front ≡ a) (more : length front + length middle ≡ b) where
  long : length (front ++ middle) ≡ b
  long = length-append front middle ∙ more

  -- the item comes before the middle
  pub brought_back : (ys rest : List X) → rest ≡ middle ++ x ∷ [] → ys ≡ drop (length rest - 1) rest ++ take (length rest - 1) rest → front ++ (ys ++ back) ≡ insert (remove (front ++ (middle ++ x ∷ back)) b) a x
  brought_back ys rest e f =
      let n : length rest - 1 ≡ length middle = ap (λ zs. length zs - 1) e ∙ ap (λ n. n - 1) (length-append middle (x ∷ [])) ∙ omega arith in
      let turned : ys ≡ x ∷ middle =
      f ∙ ap (λ n. drop n rest ++ take n rest) n ∙ ap (λ zs. drop (length middle) zs ++ take (length middle) zs) e ∙
      ap (λ zs. zs ++ take (length middle) (middle ++ x ∷ [])) (drop_at middle (x ∷ []) (length middle) refl) ∙
      ap (λ zs. x ∷ zs) (take_at middle (x ∷ []) (length middle) refl) in
      ap (λ zs. front ++ (zs ++ back)) turned ∙
      sym (ap (λ zs. insert zs a x) (ap (λ zs. remove zs b) (sym (append_assoc front middle (x ∷ back))) ∙ taken_out (front ++ middle) back x b long ∙ append_assoc front middle back) ∙ put_in front (middle ++ back) x a first)

  -- the item comes after the middle
  pub brought_on : (ys rest : List X) → rest ≡ x ∷ middle → ys ≡ drop 1 rest ++ take 1 rest → front ++ (ys ++ back) ≡ insert (remove (front ++ x ∷ (middle ++ back)) a) b x
  brought_on ys rest e f =
      let turned : ys ≡ middle ++ x ∷ [] = f ∙ ap (λ zs. drop 1 zs ++ take 1 zs) e in
      ap (λ zs. front ++ (zs ++ back)) turned ∙ ap (λ zs. front ++ zs) (append_assoc middle (x ∷ []) back) ∙
      sym (ap (λ zs. insert zs b x) (taken_out front (middle ++ back) x a first ∙ sym (append_assoc front middle back)) ∙ put_in (front ++ middle) back x b long ∙ append_assoc front middle (x ∷ back))

parted : {X : Type 0} (xs : List X) (b : ℕ) (x : X) → b < length xs → x ≡ slice_index_or xs b x → xs ≡ take b xs ++ x ∷ drop (suc b) xs
parted xs b x l e = sym (take-append-drop b xs) ∙ ap (λ zs. take b xs ++ zs) (drop-cons xs b x l ∙ ap (λ y. y ∷ drop (suc b) xs) (sym e))

pub turned_back : {X : Type 0} (xs : List X) (a b : ℕ) (x : X) (ys : List X) → a ≤ b → b < length xs → x ≡ slice_index_or xs b x → ys ≡ drop (length (mid_of a (b + 1 - a) xs) - 1) (mid_of a (b + 1 - a) xs) ++ take (length (mid_of a (b + 1 - a) xs) - 1) (mid_of a (b + 1 - a) xs) → put_mid a (b + 1 - a) xs ys ≡ insert (remove xs b) a x
turned_back {X} xs a b x ys l m e f =
    ap (λ zs. put_mid a (b + 1 - a) zs ys) (whole ∙ regrouped) ∙ placed_mid front (middle ++ x ∷ []) back ys a (b + 1 - a) first size ∙
    brought_back front middle x back a b first more ys (mid_of a (b + 1 - a) xs) (ap (mid_of a (b + 1 - a)) (whole ∙ regrouped) ∙ middle_of front (middle ++ x ∷ []) back a (b + 1 - a) first size) f ∙
    ap (λ zs. insert (remove zs b) a x) (sym whole)
  where
    front : List X
    front = take a (take b xs)

    middle : List X
    middle = drop a (take b xs)

    back : List X
    back = drop (suc b) xs

    whole : xs ≡ front ++ (middle ++ x ∷ back)
    whole = parted xs b x m e ∙ ap (λ zs. zs ++ x ∷ back) (sym (take-append-drop a (take b xs))) ∙ append_assoc front middle (x ∷ back)

    regrouped : front ++ (middle ++ x ∷ back) ≡ front ++ ((middle ++ x ∷ []) ++ back)
    regrouped = ap (λ zs. front ++ zs) (sym (append_assoc middle (x ∷ []) back))

    first : length front ≡ a
    first = let n = length-take a (take b xs) in let k = length-take b xs in omega (arith, n, k, l, m)

    more : length front + length middle ≡ b
    more = sym (length-append front middle) ∙ ap length (take-append-drop a (take b xs)) ∙ (let k = length-take b xs in omega (arith, k, m))

    size : length (middle ++ x ∷ []) ≡ b + 1 - a
    size = length-append middle (x ∷ []) ∙ omega (arith, first, more, l)

pub turned_on : {X : Type 0} (xs : List X) (a b : ℕ) (x : X) (ys : List X) → a ≤ b → b < length xs → x ≡ slice_index_or xs a x → ys ≡ drop 1 (mid_of a (b + 1 - a) xs) ++ take 1 (mid_of a (b + 1 - a) xs) → put_mid a (b + 1 - a) xs ys ≡ insert (remove xs a) b x
turned_on {X} xs a b x ys l m e f =
    ap (λ zs. put_mid a (b + 1 - a) zs ys) whole ∙ placed_mid front (x ∷ middle) back ys a (b + 1 - a) first size ∙
    brought_on front middle x back a b first more ys (mid_of a (b + 1 - a) xs) (ap (mid_of a (b + 1 - a)) whole ∙ middle_of front (x ∷ middle) back a (b + 1 - a) first size) f ∙
    ap (λ zs. insert (remove zs a) b x) (sym whole)
  where
    front : List X
    front = take a xs

    middle : List X
    middle = take (b - a) (drop (suc a) xs)

    back : List X
    back = drop (b - a) (drop (suc a) xs)

    whole : xs ≡ front ++ x ∷ (middle ++ back)
    whole = parted xs a x (omega (arith, l, m)) e ∙ ap (λ zs. front ++ x ∷ zs) (sym (take-append-drop (b - a) (drop (suc a) xs)))

    first : length front ≡ a
    first = let n = length-take a xs in omega (arith, n, l, m)

    long : length middle ≡ b - a
    long = let n = length-take (b - a) (drop (suc a) xs) in let k = length-drop (suc a) xs in omega (arith, n, k, l, m)

    more : length front + length middle ≡ b
    more = omega (arith, first, long, l)

    size : length (x ∷ middle) ≡ b + 1 - a
    size = omega (arith, long, l)

-- an item that is set and then taken out
pub removed_set : {X : Type 0} (xs : List X) (i : ℕ) (x : X) → remove (slice_set xs i x) i ≡ remove xs i
removed_set [] i x = refl
removed_set (y ∷ ys) zero x = refl
removed_set (y ∷ ys) (suc i) x = ap (λ zs. y ∷ zs) (removed_set ys i x)

set_there : {X : Type 0} (xs : List X) (i : ℕ) (y d : X) → i < length xs → y ≡ slice_index_or (slice_set xs i y) i d
set_there [] i y d l = absurd (omega (arith, l))
set_there (x ∷ xs) zero y d l = refl
set_there (x ∷ xs) (suc i) y d l = set_there xs i y d (omega (arith, l))

pub exchanged : {X : Type 0} (xs : List X) (i : ℕ) (y x : X) (a : ℕ) (zs : List X) → i < length xs → y ≡ x → ((w : X) → w ≡ slice_index_or (slice_set xs i y) i w → zs ≡ insert (remove (slice_set xs i y) i) a w) → zs ≡ insert (remove xs i) a x
exchanged xs i y x a zs l e h = h y (set_there xs i y y l) ∙ ap (λ ys. insert ys a y) (removed_set xs i y) ∙ ap (insert (remove xs i) a) e
