-- No bytes are the text of two certificates, or have two faults.
use Rattle.std.specs.Prelude.{◌≡◌, ◌≢◌, ℕ, ◌+◌, ◌≤◌, List, [], ◌∷◌, ◌++◌, length, refl}
use Rattle.std.specs.List.{AllByRecursion}
use Rattle.std.proofs.Common.{sym, ◌∙◌, ap, subst, inl, inr, append_assoc}
use Rattle.leaf_cert.specs.declared.certificate.Certificate.{Certificate}
use Rattle.cert_text.specs.declared.sentence.Sentence.{Sentence}
use Rattle.cert_read.specs.declared.reader.CertFault.{CertFault}
use Rattle.cert_read.specs.declared.reader.CertFault.TheVariants.{Truncated, Number, Syntax, OutOfMemory}
use Rattle.cert_lines.specs.Bytes.{Lacks}
use Rattle.cert_text.specs.Fields.{ended}
use Rattle.cert_text.specs.Sentences.{fields, sentences, spelled}
use Rattle.cert_text.specs.Text.{IsText}
use Rattle.cert_read.specs.Faults.{with_ends, IsOneLine, IsCut, AreRight, IsFirstWrong, IsWrongAt, IsOutOfRange, HasDone, IsTruncated, IsTrailing, IsNumberAt, IsSyntaxAt, IsCertFault}
use Rattle.cert_lines.specs.Fitting.{Says}
use Rattle.cert_read.specs.Machine.{AtStart, Whole, run}
use Rattle.cert_read.proofs.Runs.{whole_run}
use Rattle.cert_read.proofs.Fit.{AllFit, fit_lines}
use Rattle.cert_read.proofs.Cut.{same_line, line_of, of_says, of_lacks, one_sentence}
use Rattle.cert_read.proofs.LinesRead.{ends_append}
use Rattle.cert_read.proofs.Finish.{text_done}

-- ---- one certificate

line_joined : (s : Sentence) (x : List ℕ) → ended (fields s) ++ x ≡ line_of s ++ 10 ∷ x
line_joined s x = ap (λ l. l ++ x) (of_says s) ∙ append_assoc (line_of s) (10 ∷ []) x

nothing_left : (line x : List ℕ) → line ++ 10 ∷ x ≡ [] → ⊥
nothing_left [] x e = cc
nothing_left (c ∷ l) x e = cc

same_sentences : (u v : ℕ) → u ≤ 4096 → v ≤ 4096 → (ss ts : List Sentence) → AllFit u ss → AllFit v ts → spelled ss ≡ spelled ts → ss ≡ ts
same_sentences u v a b [] [] f g e = refl
same_sentences u v a b [] (t ∷ ts) f g e = absurd (nothing_left (line_of t) (spelled ts) (sym (line_joined t (spelled ts)) ∙ sym e))
same_sentences u v a b (s ∷ ss) [] f g e = absurd (nothing_left (line_of s) (spelled ss) (sym (line_joined s (spelled ss)) ∙ e))
same_sentences u v a b (s ∷ ss) (t ∷ ts) f g e =
    let q = same_line (line_of s) (line_of t) (spelled ss) (spelled ts) (of_lacks u a s f.0) (of_lacks v b t g.0) (sym (line_joined s (spelled ss)) ∙ e ∙ line_joined t (spelled ts)) in
    let said : Says (line_of s) t = subst (λ l. Says l t) (sym q.0) (of_says t) in
    let same : s ≡ t = one_sentence u v a b (line_of s) s t f.0 g.0 (of_says s) said in
    ap (λ x. x ∷ ss) same ∙ ap (λ x. t ∷ x) (same_sentences u v a b ss ts f.1 g.1 q.1)

pub one_certificate : (text : List ℕ) (c d : Certificate) → IsText text c → IsText text d → c ≡ d
one_certificate text c d h k =
    let v = h.version in
    let w = k.version in
    let e = same_sentences c.unknowns d.unknowns h.fits.head.unknowns k.fits.head.unknowns (sentences v c) (sentences w d) (fit_lines v c h.fits) (fit_lines w d k.fits) (sym h.spelled ∙ k.spelled) in
    let q : Whole v c ≡ Whole w d = sym (whole_run v c) ∙ ap (run AtStart) e ∙ whole_run w d in
    cc

-- ---- one way to cut

has_lf : (p l x : List ℕ) → Lacks 10 p → p ≡ l ++ 10 ∷ x → ⊥
has_lf [] l x h e = nothing_left l x (sym e)
has_lf (c ∷ p) [] x h e = h.0 (cc)
has_lf (c ∷ p) (d ∷ l) x h e = let q : p ≡ l ++ 10 ∷ x = cc in has_lf p l x h.1 q

first_line : (l : List ℕ) (ls : List (List ℕ)) (p : List ℕ) → with_ends (l ∷ ls) ++ p ≡ l ++ 10 ∷ (with_ends ls ++ p)
first_line l ls p = append_assoc (l ++ 10 ∷ []) (with_ends ls) p ∙ append_assoc l (10 ∷ []) (with_ends ls ++ p)

same_cut : (ls ms : List (List ℕ)) (p q : List ℕ) → AllByRecursion IsOneLine ls → AllByRecursion IsOneLine ms → Lacks 10 p → Lacks 10 q → with_ends ls ++ p ≡ with_ends ms ++ q → (ls ≡ ms) × (p ≡ q)
same_cut [] [] p q a b c d e = (refl, e)
same_cut [] (m ∷ ms) p q a b c d e = absurd (has_lf p m (with_ends ms ++ q) c (e ∙ first_line m ms q))
same_cut (l ∷ ls) [] p q a b c d e = absurd (has_lf q l (with_ends ls ++ p) d (sym e ∙ first_line l ls p))
same_cut (l ∷ ls) (m ∷ ms) p q a b c d e =
    let h = same_line l m (with_ends ls ++ p) (with_ends ms ++ q) a.0 b.0 (sym (first_line l ls p) ∙ e ∙ first_line m ms q) in
    let r = same_cut ls ms p q a.1 b.1 c d h.1 in
    (ap (λ x. x ∷ ls) h.0 ∙ ap (λ x. m ∷ x) r.0, r.1)

one_cut : (text : List ℕ) (ls ms : List (List ℕ)) (p q : List ℕ) → IsCut text ls p → IsCut text ms q → (ls ≡ ms) × (p ≡ q)
one_cut text ls ms p q h k = same_cut ls ms p q h.lines k.lines h.unended k.unended (sym h.joined ∙ k.joined)

-- ---- the first line that is not right

fewer_right : (xs ys : List (List ℕ)) → AreRight (xs ++ ys) → AreRight xs
fewer_right xs ys h = (h.0, (with_ends ys ++ h.1.0, subst (λ t. IsText t h.0) (ap (λ x. x ++ h.1.0) (ends_append xs ys) ∙ append_assoc (with_ends xs) (with_ends ys) h.1.0) h.1.1))

not_all_right : (ls before : List (List ℕ)) (line : List ℕ) → IsFirstWrong ls before line → AreRight ls → ⊥
not_all_right ls before line w h = w.wrong (fewer_right (before ++ line ∷ []) w.after (subst AreRight (w.split ∙ sym (append_assoc before (line ∷ []) w.after)) h))

-- two places in a list are the same, or one is before the other
data Places (xs ys : List (List ℕ)) (x y : List ℕ) : Type 0 where
  same : xs ≡ ys → x ≡ y → Places xs ys x y
  earlier : (z : List (List ℕ)) → ys ≡ xs ++ x ∷ z → Places xs ys x y
  later : (z : List (List ℕ)) → xs ≡ ys ++ y ∷ z → Places xs ys x y

places : (xs ys xs' ys' : List (List ℕ)) (x y : List ℕ) → xs ++ x ∷ xs' ≡ ys ++ y ∷ ys' → Places xs ys x y
places [] [] xs' ys' x y e = same refl (cc)
places [] (b ∷ ys) xs' ys' x y e = let q : b ≡ x = cc in earlier ys (ap (λ z. z ∷ ys) q)
places (a ∷ xs) [] xs' ys' x y e = let q : a ≡ y = cc in later xs (ap (λ z. z ∷ xs) q)
places (a ∷ xs) (b ∷ ys) xs' ys' x y e =
    let q : a ≡ b = cc in
    let t : xs ++ x ∷ xs' ≡ ys ++ y ∷ ys' = cc in
    by q (places xs ys xs' ys' x y t)
  where
    by : a ≡ b → Places xs ys x y → Places (a ∷ xs) (b ∷ ys) x y
    by q (same e f) = same (ap (λ z. z ∷ xs) q ∙ ap (λ z. b ∷ z) e) f
    by q (earlier z e) = earlier z (ap (λ w. w ∷ ys) (sym q) ∙ ap (λ w. a ∷ w) e)
    by q (later z e) = later z (ap (λ w. w ∷ xs) q ∙ ap (λ w. b ∷ w) e)

one_wrong : (ls bs cs : List (List ℕ)) (x y : List ℕ) → IsFirstWrong ls bs x → IsFirstWrong ls cs y → (bs ≡ cs) × (x ≡ y)
one_wrong ls bs cs x y h k = by (places bs cs h.after k.after x y (sym h.split ∙ k.split))
  where
    by : Places bs cs x y → (bs ≡ cs) × (x ≡ y)
    by (same e f) = (e, f)
    by (earlier z e) = absurd (h.wrong (fewer_right (bs ++ x ∷ []) z (subst AreRight (e ∙ sym (append_assoc bs (x ∷ []) z)) k.right)))
    by (later z e) = absurd (k.wrong (fewer_right (cs ++ y ∷ []) z (subst AreRight (e ∙ sym (append_assoc cs (y ∷ []) z)) h.right)))

module _ (text : List ℕ) where
  same_wrong : (k j : ℕ) (bs cs : List (List ℕ)) (x y : List ℕ) → IsWrongAt text k bs x → IsWrongAt text j cs y → (bs ≡ cs) × (x ≡ y)
  same_wrong k j bs cs x y h i =
      let e = one_cut text h.lines i.lines h.piece i.piece h.cut i.cut in
      one_wrong h.lines bs cs x y h.first (subst (λ ls. IsFirstWrong ls cs y) (sym e.0) i.first)

  same_number : (k j : ℕ) (bs cs : List (List ℕ)) (x y : List ℕ) → IsWrongAt text k bs x → IsWrongAt text j cs y → k ≡ j
  same_number k j bs cs x y h i = h.at_line ∙ ap (λ ls. length ls + 1) (same_wrong k j bs cs x y h i).0 ∙ sym i.at_line

  wrong_right : (k : ℕ) (bs ls : List (List ℕ)) (x p : List ℕ) → IsWrongAt text k bs x → IsCut text ls p → AreRight ls → ⊥
  wrong_right k bs ls x p h c r = not_all_right h.lines bs x h.first (subst AreRight (one_cut text ls h.lines p h.piece c h.cut).0 r)

  number_syntax : (k j : ℕ) → IsNumberAt text k → IsSyntaxAt text j → ⊥
  number_syntax k j h i =
      let e = same_wrong k j h.before i.before h.line i.line h.wrong i.wrong in
      i.other (subst (λ l. IsOutOfRange i.before l) e.1 (subst (λ bs. IsOutOfRange bs h.line) e.0 h.out))

  truncated_trailing : (k : ℕ) → IsTruncated text → IsTrailing text k → ⊥
  truncated_trailing k h i = h.unfinished (subst HasDone (one_cut text i.lines h.lines i.piece h.piece i.cut h.cut).0 i.finished)

  pub one_fault : (f g : CertFault) → IsCertFault text f → IsCertFault text g → f ≢ OutOfMemory → g ≢ OutOfMemory → f ≡ g
  one_fault OutOfMemory g h i y z = absurd (y refl)
  one_fault f OutOfMemory h i y z = absurd (z refl)
  one_fault Truncated Truncated h i y z = refl
  one_fault Truncated (Number j) h i y z = absurd (wrong_right j i.before h.lines i.line h.piece i.wrong h.cut h.right)
  one_fault Truncated (Syntax j) h (inl i) y z = absurd (wrong_right j i.before h.lines i.line h.piece i.wrong h.cut h.right)
  one_fault Truncated (Syntax j) h (inr i) y z = absurd (truncated_trailing j h i)
  one_fault (Number k) Truncated h i y z = absurd (wrong_right k h.before i.lines h.line i.piece h.wrong i.cut i.right)
  one_fault (Number k) (Number j) h i y z = ap Number (same_number k j h.before i.before h.line i.line h.wrong i.wrong)
  one_fault (Number k) (Syntax j) h (inl i) y z = absurd (number_syntax k j h i)
  one_fault (Number k) (Syntax j) h (inr i) y z = absurd (wrong_right k h.before i.lines h.line i.piece h.wrong i.cut i.right)
  one_fault (Syntax k) Truncated (inl h) i y z = absurd (wrong_right k h.before i.lines h.line i.piece h.wrong i.cut i.right)
  one_fault (Syntax k) Truncated (inr h) i y z = absurd (truncated_trailing k i h)
  one_fault (Syntax k) (Number j) (inl h) i y z = absurd (number_syntax j k i h)
  one_fault (Syntax k) (Number j) (inr h) i y z = absurd (wrong_right j i.before h.lines i.line h.piece i.wrong h.cut h.right)
  one_fault (Syntax k) (Syntax j) (inl h) (inl i) y z = ap Syntax (same_number k j h.before i.before h.line i.line h.wrong i.wrong)
  one_fault (Syntax k) (Syntax j) (inl h) (inr i) y z = absurd (wrong_right k h.before i.lines h.line i.piece h.wrong i.cut i.right)
  one_fault (Syntax k) (Syntax j) (inr h) (inl i) y z = absurd (wrong_right j i.before h.lines i.line h.piece i.wrong h.cut h.right)
  one_fault (Syntax k) (Syntax j) (inr h) (inr i) y z = ap Syntax (h.at_line ∙ ap (λ ls. length ls + 1) (one_cut text h.lines i.lines h.piece i.piece h.cut i.cut).0 ∙ sym i.at_line)

  -- ---- a text has no fault

  text_wrong : (c : Certificate) (k : ℕ) (bs : List (List ℕ)) (x : List ℕ) → IsText text c → IsWrongAt text k bs x → ⊥
  text_wrong c k bs x h w = not_all_right w.lines bs x w.first (c, (w.piece, subst (λ t. IsText t c) w.cut.joined h))

  pub no_fault : (c : Certificate) (f : CertFault) → IsText text c → IsCertFault text f → f ≡ OutOfMemory
  no_fault c OutOfMemory h i = refl
  no_fault c Truncated h i = let d = text_done text c h in absurd (i.unfinished (subst HasDone (one_cut text d.lines i.lines [] i.piece d.cut i.cut).0 d.finished))
  no_fault c (Number k) h i = absurd (text_wrong c k i.before i.line h i.wrong)
  no_fault c (Syntax k) h (inl i) = absurd (text_wrong c k i.before i.line h i.wrong)
  no_fault c (Syntax k) h (inr i) = let d = text_done text c h in absurd (i.some (sym (one_cut text d.lines i.lines [] i.piece d.cut i.cut).1))
