-- From bytes to lines and back.
use Rattle.std.specs.Prelude.{◌≡◌, ℕ, ◌≤◌, List, [], ◌∷◌, ◌++◌, refl}
use Rattle.std.proofs.Common.{sym, ◌∙◌, ap, subst, append_assoc}
use Rattle.cert_text.specs.declared.sentence.Sentence.{Sentence}
use Rattle.cert_lines.specs.Bytes.{Lacks}
use Rattle.cert_text.specs.Fields.{ended}
use Rattle.cert_text.specs.Sentences.{fields, spelled}
use Rattle.cert_lines.specs.Words.{words}
use Rattle.cert_lines.specs.Forms.{form}
use Rattle.cert_read.specs.Faults.{with_ends}
use Rattle.cert_lines.specs.Fitting.{FitsSentence, Says}
use Rattle.cert_read.specs.Machine.{kind_of}
use Rattle.cert_read.specs.Progress.{AreSaid}
use Rattle.cert_lines.proofs.Texts.{joined, ended_joined}
use Rattle.cert_lines.proofs.Noted.{right_formed}
use Rattle.cert_read.proofs.RightLines.{line_right}
use Rattle.cert_read.proofs.Plain.{fields_plain, form_words, one_line}
use Rattle.cert_read.proofs.Alone.{alone}
use Rattle.cert_read.proofs.Fit.{AllFit}

-- two lines at the front of one text are the same
pub same_line : (a b x y : List ℕ) → Lacks 10 a → Lacks 10 b → a ++ 10 ∷ x ≡ b ++ 10 ∷ y → (a ≡ b) × (x ≡ y)
same_line [] [] x y h k e = (refl, cc)
same_line [] (d ∷ b) x y h k e = let w : d ≡ 10 = cc in absurd (k.0 w)
same_line (c ∷ a) [] x y h k e = let w : c ≡ 10 = cc in absurd (h.0 w)
same_line (c ∷ a) (d ∷ b) x y h k e =
    let first : c ≡ d = cc in
    let t : a ++ 10 ∷ x ≡ b ++ 10 ∷ y = cc in
    let r = same_line a b x y h.1 k.1 t in
    let p = r.0 in
    (cc, r.1)

-- the text of a line and of what follows
said_joined : (line x : List ℕ) (s : Sentence) → Says line s → ended (fields s) ++ x ≡ line ++ 10 ∷ x
said_joined line x s h = ap (λ l. l ++ x) h ∙ append_assoc line (10 ∷ []) x

pub said_text : (ls : List (List ℕ)) (ss : List Sentence) → AreSaid ls ss → with_ends ls ≡ spelled ss
said_text [] [] h = refl
said_text [] (s ∷ ss) h = absurd h
said_text (l ∷ ls) [] h = absurd h
said_text (l ∷ ls) (s ∷ ss) h = ap (λ x. x ++ with_ends ls) (sym h.0.0) ∙ ap (λ x. ended (fields s) ++ x) (said_text ls ss h.1)

nothing_left : (line x : List ℕ) → line ++ 10 ∷ x ≡ [] → ⊥
nothing_left [] x e = cc
nothing_left (c ∷ l) x e = cc

-- the line of a sentence
abbrev pub line_of : Sentence → List ℕ
line_of s = joined (fields s)

pub of_says : (s : Sentence) → Says (line_of s) s
of_says s = ended_joined (fields s)

module _ (u : ℕ) (small : u ≤ 4096) where
  pub of_lacks : (s : Sentence) → FitsSentence u s → Lacks 10 (line_of s)
  of_lacks s h = one_line (fields s) (fields_plain (kind_of s) (fields s) (right_formed u (form (kind_of s)) (fields s) (line_right u small s h)))

  -- the fields of a line are those between its spaces
  pub said_words : (line : List ℕ) (s : Sentence) → FitsSentence u s → Says line s → words line ≡ fields s
  said_words line s h k = form_words (kind_of s) line (fields s) (right_formed u (form (kind_of s)) (fields s) (line_right u small s h)) (sym k)

-- what a text that goes on with one line more has said
pub record GoesOn (u : ℕ) (ss ts : List Sentence) (line : List ℕ) : Type 0 where
  pub s : Sentence
  pub more : List Sentence
  pub fits : FitsSentence u s
  pub said : Says line s
  pub split : ts ≡ ss ++ s ∷ more

module _ (u v : ℕ) (small : u ≤ 4096) (low : v ≤ 4096) where
  -- a line says one thing
  pub one_sentence : (line : List ℕ) (s t : Sentence) → FitsSentence u s → FitsSentence v t → Says line s → Says line t → s ≡ t
  one_sentence line s t h k a b = alone u v small low s t h k (sym (said_words u small line s h a) ∙ said_words v low line t k b)

  pub goes_on : (ls : List (List ℕ)) (ss ts : List Sentence) (line x : List ℕ) → AreSaid ls ss → AllFit v ss → AllFit u ts → Lacks 10 line → spelled ss ++ (line ++ 10 ∷ x) ≡ spelled ts → GoesOn u ss ts line
  goes_on [] (s ∷ ss) ts line x n f g h e = absurd n
  goes_on (l ∷ ls) [] ts line x n f g h e = absurd n
  goes_on [] [] [] line x n f g h e = absurd (nothing_left line x e)
  goes_on [] [] (t ∷ ts) line x n f g h e =
      let q = same_line line (line_of t) x (spelled ts) h (of_lacks u small t g.0) (e ∙ said_joined (line_of t) (spelled ts) t (of_says t)) in
      record { s = t; more = ts; fits = g.0; said = subst (λ l. Says l t) (sym q.0) (of_says t); split = refl }
  goes_on (l ∷ ls) (s ∷ ss) [] line x n f g h e = absurd (nothing_left l _ (sym (said_joined l (spelled ss ++ (line ++ 10 ∷ x)) s n.0.0) ∙ sym (append_assoc (ended (fields s)) (spelled ss) (line ++ 10 ∷ x)) ∙ e))
  goes_on (l ∷ ls) (s ∷ ss) (t ∷ ts) line x n f g h e =
      let rest = spelled ss ++ (line ++ 10 ∷ x) in
      let q = same_line l (line_of t) rest (spelled ts) n.0.1 (of_lacks u small t g.0) (sym (said_joined l rest s n.0.0) ∙ sym (append_assoc (ended (fields s)) (spelled ss) (line ++ 10 ∷ x)) ∙ e ∙ said_joined (line_of t) (spelled ts) t (of_says t)) in
      let again : Says l t = subst (λ z. Says z t) (sym q.0) (of_says t) in
      let same : t ≡ s = one_sentence l t s g.0 f.0 again n.0.0 in
      let r = goes_on ls ss ts line x n.1 f.1 g.1 h q.1 in
      record { s = r.s; more = r.more; fits = r.fits; said = r.said; split = ap (λ z. z ∷ ts) same ∙ ap (λ z. s ∷ z) r.split }
