-- A line that can't come next.
use Rattle.std.specs.Prelude.{◌≡◌, ℕ, ◌≤◌, true, false, None, Some, List}
use Rattle.std.proofs.Common.{sym, ◌∙◌, ap, subst}
use Rattle.cert_lines.specs.declared.kind.Kind.{Kind}
use Rattle.cert_lines.specs.declared.notes.LineFault.{LineFault}
use Rattle.cert_lines.specs.declared.notes.LineFault.TheVariants.{Number, Syntax, OutOfMemory}
use Rattle.cert_text.specs.declared.sentence.Sentence.{Sentence}
use Rattle.cert_lines.specs.Words.{words, first}
use Rattle.cert_lines.specs.Forms.{form, has_form, any_out, kind_by_word}
use Rattle.cert_lines.specs.Fitting.{AreRightFields}
use Rattle.cert_lines.specs.LineReading.{IsSaid, IsLineFault}
use Rattle.cert_read.specs.Machine.{State, Wrong, next, may, unknowns, kind_of}
use Rattle.cert_read.specs.Progress.{IsNoLine, IsOutside, IsWrongLine}
use Rattle.cert_lines.proofs.Noted.{right_in_range}
use Rattle.cert_read.proofs.RightLines.{line_right}
use Rattle.cert_read.proofs.Plain.{form_kind}
use Rattle.cert_read.proofs.Alone.{kinded}
use Rattle.cert_read.proofs.Mays.{may_come}
use Rattle.cert_read.proofs.Cut.{said_words, one_sentence}

module _ (st : State) (line : List ℕ) (small : unknowns st ≤ 4096) where
  said_kind : (s : Sentence) → IsSaid (unknowns st) line s → kind_by_word (first (words line)) ≡ Some (kind_of s)
  said_kind s h = ap (λ fs. kind_by_word (first fs)) (said_words (unknowns st) small line s h.fits h.says) ∙ kinded s

  said_right : (s : Sentence) → IsSaid (unknowns st) line s → AreRightFields (unknowns st) (form (kind_of s)) (words line)
  said_right s h = subst (AreRightFields (unknowns st) (form (kind_of s))) (sym (said_words (unknowns st) small line s h.fits h.says)) (line_right (unknowns st) small s h.fits)

  -- the first word is that of no line
  pub no_kind : kind_by_word (first (words line)) ≡ None → IsNoLine st line
  no_kind e = record {
    inside = λ k h m. let w : Some k ≡ None = sym (form_kind k (words line) h) ∙ e in absurd (cc);
    wrong = λ s h w. let q : Some (kind_of s) ≡ None = sym (said_kind s h) ∙ e in absurd (cc);
  }

  module _ (k : Kind) (e : kind_by_word (first (words line)) ≡ Some k) where
    form_is : (j : Kind) → has_form (form j) (words line) ≡ true → j ≡ k
    form_is j h = let w : Some j ≡ Some k = sym (form_kind j (words line) h) ∙ e in cc

    said_is : (s : Sentence) → IsSaid (unknowns st) line s → kind_of s ≡ k
    said_is s h = let w : Some (kind_of s) ≡ Some k = sym (said_kind s h) ∙ e in cc

    -- a line of the kind may not come next
    pub misplaced : may st k ≡ false → IsNoLine st line
    misplaced n = record {
      inside = λ j h m. let w : true ≡ false = sym m ∙ ap (may st) (form_is j h) ∙ n in absurd (cc);
      wrong = λ s h w. let q : true ≡ false = sym (may_come st s w) ∙ ap (may st) (said_is s h) ∙ n in absurd (cc);
    }

    -- the line says nothing
    pub nothing_said : may st k ≡ true → (f : LineFault) → IsLineFault (unknowns st) k line f → IsWrongLine st line f
    nothing_said m Number h = record { kind = k; formed = h.0; may_come = m; out = h.1 }
    nothing_said m Syntax h = record {
      inside = λ j g _. let q = form_is j g in subst (λ x. any_out (unknowns st) (form x) (words line) ≡ false) (sym q) (h.0 (subst (λ x. has_form (form x) (words line) ≡ true) q g));
      wrong = λ s g _. h.1 (subst (λ x. AreRightFields (unknowns st) (form x) (words line)) (said_is s g) (said_right s g));
    }
    nothing_said m OutOfMemory h = tt

    -- what the line says can't come next
    pub said_wrong : (s : Sentence) → IsSaid (unknowns st) line s → next st s ≡ Wrong → IsNoLine st line
    said_wrong s h w = record {
      inside = λ j g _. right_in_range (unknowns st) (form j) (words line) (subst (λ x. AreRightFields (unknowns st) (form x) (words line)) (said_is s h ∙ sym (form_is j g)) (said_right s h));
      wrong = λ t g n. n (ap (next st) (one_sentence (unknowns st) (unknowns st) small small line t s g.fits h.fits g.says h.says) ∙ w);
    }

  -- a line with a number out of range says nothing
  pub outside_wrong : IsOutside st line → (s : Sentence) → IsSaid (unknowns st) line s → ⊥
  outside_wrong o s h =
      let same = said_is o.kind (form_kind o.kind (words line) o.formed) s h in
      let no = right_in_range (unknowns st) (form o.kind) (words line) (subst (λ x. AreRightFields (unknowns st) (form x) (words line)) same (said_right s h)) in
      let w : true ≡ false = sym o.out ∙ no in
      absurd (cc)
