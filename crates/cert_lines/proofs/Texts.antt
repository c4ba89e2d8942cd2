-- The fields of a line and its text.
use Rattle.std.specs.Prelude.{◌≡◌, ◌≢◌, ℕ, Bool, true, false, ◌==◌, if◌then◌else◌, List, [], ◌∷◌, ◌++◌, codes, refl}
use Rattle.std.proofs.Common.{sym, ◌∙◌, ap, arith, append_assoc}
use Rattle.std.proofs.lemmas.Bool.Decides.{nat_tests}
use Rattle.std.proofs.lemmas.List.{append_cancel_right}
use Rattle.std.specs.List.{AllByRecursion}
use Rattle.cert_lines.specs.Bytes.{Lacks}
use Rattle.cert_text.specs.Fields.{ended}
use Rattle.cert_lines.specs.Words.{before_first, words}

not_equal : (c b : ℕ) → c ≢ b → (c == b) ≡ false
not_equal c b e = grind (arith, nat_tests)

-- the first field of a line
pub words_front : (f rest : List ℕ) → Lacks 32 f → words (f ++ 32 ∷ rest) ≡ f ∷ words rest
words_front [] rest h = refl
words_front (c ∷ f) rest h = ap (λ b. if b then [] ∷ words (f ++ 32 ∷ rest) else before_first c (words (f ++ 32 ∷ rest))) (not_equal c 32 h.0) ∙ ap (before_first c) (words_front f rest h.1)

-- a line of one field
pub words_alone : (f : List ℕ) → Lacks 32 f → words f ≡ f ∷ []
words_alone [] h = refl
words_alone (c ∷ f) h = ap (λ b. if b then [] ∷ words f else before_first c (words f)) (not_equal c 32 h.0) ∙ ap (before_first c) (words_alone f h.1)

-- fields with a space between each two
abbrev pub joined : List (List ℕ) → List ℕ
joined [] = []
joined (f ∷ []) = f
joined (f ∷ g ∷ gs) = f ++ 32 ∷ joined (g ∷ gs)

pub ended_joined : (fs : List (List ℕ)) → ended fs ≡ joined fs ++ codes "\n"
ended_joined [] = refl
ended_joined (f ∷ []) = refl
ended_joined (f ∷ g ∷ gs) = ap (λ x. f ++ 32 ∷ x) (ended_joined (g ∷ gs)) ∙ sym (append_assoc f (32 ∷ joined (g ∷ gs)) (codes "\n"))

abbrev pub AreSpaceless : List (List ℕ) → Type 0
AreSpaceless fs = AllByRecursion (Lacks 32) fs

pub words_joined : (f : List ℕ) (fs : List (List ℕ)) → AreSpaceless (f ∷ fs) → words (joined (f ∷ fs)) ≡ f ∷ fs
words_joined f [] h = words_alone f h.0
words_joined f (g ∷ gs) h = words_front f (joined (g ∷ gs)) h.0 ∙ ap (λ x. f ∷ x) (words_joined g gs h.1)

-- the fields that a line is made of are those between its spaces
pub words_of : (line f : List ℕ) (fs : List (List ℕ)) → AreSpaceless (f ∷ fs) → line ++ codes "\n" ≡ ended (f ∷ fs) → words line ≡ f ∷ fs
words_of line f fs h e = ap words (append_cancel_right line (joined (f ∷ fs)) (codes "\n") (e ∙ ended_joined (f ∷ fs))) ∙ words_joined f fs h

joined_first : (c : ℕ) (fs : List (List ℕ)) → joined (before_first c fs) ≡ c ∷ joined fs
joined_first c [] = refl
joined_first c (f ∷ []) = refl
joined_first c (f ∷ g ∷ gs) = refl

first_some : (c : ℕ) (fs : List (List ℕ)) → before_first c fs ≢ []
first_some c [] e = cc
first_some c (f ∷ fs) e = cc

-- a line has a field
pub some_word : (cs : List ℕ) → words cs ≢ []
some_word [] e = cc
some_word (c ∷ cs) e = pick (c == 32) e
  where
    pick : (b : Bool) → (if b then [] ∷ words cs else before_first c (words cs)) ≡ [] → ⊥
    pick true w = cc
    pick false w = first_some c (words cs) w

joined_more : (fs : List (List ℕ)) → fs ≢ [] → joined ([] ∷ fs) ≡ 32 ∷ joined fs
joined_more [] n = absurd (n refl)
joined_more (f ∷ fs) n = refl

space : (c : ℕ) → (c == 32) ≡ true → 32 ≡ c
space c e = grind (arith, nat_tests)

-- the text of a line's fields is the line
pub joined_words : (line : List ℕ) → joined (words line) ≡ line
joined_words [] = refl
joined_words (c ∷ cs) = by (c == 32) refl (joined_words cs)
  where
    by : (b : Bool) → (c == 32) ≡ b → joined (words cs) ≡ cs → joined (if b then [] ∷ words cs else before_first c (words cs)) ≡ c ∷ cs
    by true e r = joined_more (words cs) (some_word cs) ∙ ap (λ x. 32 ∷ x) r ∙ ap (λ x. x ∷ cs) (space c e)
    by false e r = joined_first c (words cs) ∙ ap (λ x. c ∷ x) r

pub ended_words : (line : List ℕ) → ended (words line) ≡ line ++ codes "\n"
ended_words line = ended_joined (words line) ∙ ap (λ x. x ++ codes "\n") (joined_words line)
