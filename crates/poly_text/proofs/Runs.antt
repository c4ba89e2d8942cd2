-- Going over a text by the grammar.
use Rattle.std.specs.Prelude.{◌≡◌, ◌≢◌, ℕ, ◌+◌, ◌<◌, true, false, List, [], ◌∷◌, ◌++◌, length, take, drop, get_or, refl, codes}
use Rattle.std.proofs.Common.{sym, ◌∙◌, ap, inl, inr, arith, add-one}
use Rattle.std.specs.List.{AllByRecursion}
use Rattle.std.proofs.lemmas.List.{take-append-drop}
use Rattle.std.proofs.Math.Seq.{take-suc, take-length}
use Rattle.poly_text.specs.Form.{run, next, ends, IsForm, IsPlainByte, IsSyntaxFault}
use Rattle.poly_text.specs.State.{State, Start, Signed, Zero, One, Coefficient, Times, Letter, VariableZero, Variable, Caret, FactorEnd, Exponent, Wrong}

pub run-append : (s : State) (xs ys : List ℕ) → run s (xs ++ ys) ≡ run (run s xs) ys
run-append s [] ys = refl
run-append s (x ∷ xs) ys = run-append (next s x) xs ys

pub run-wrong : (xs : List ℕ) → run Wrong xs ≡ Wrong
run-wrong [] = refl
run-wrong (x ∷ xs) = run-wrong xs

-- one byte more
pub run-more : (s : State) (text : List ℕ) (at : ℕ) → at < length text → run s (take (at + 1) text) ≡ next (run s (take at text)) (get_or text at 0)
run-more s text at h = rw (add-one, take-suc text at 0 h) (run-append s (take at text) (get_or text at 0 ∷ []))

-- how a text that is live may go on to its end
abbrev pub completion : State → List ℕ
completion Start = codes "0"
completion Signed = codes "1"
completion Zero = []
completion One = []
completion Coefficient = []
completion Times = codes "x0"
completion Letter = codes "0"
completion VariableZero = []
completion Variable = []
completion Caret = codes "0"
completion FactorEnd = []
completion Exponent = []
completion Wrong = []

pub complete : (s : State) → s ≢ Wrong → ends (run s (completion s)) ≡ true
complete Start h = refl
complete Signed h = refl
complete Zero h = refl
complete One h = refl
complete Coefficient h = refl
complete Times h = refl
complete Letter h = refl
complete VariableZero h = refl
complete Variable h = refl
complete Caret h = refl
complete FactorEnd h = refl
complete Exponent h = refl
complete Wrong h = absurd (h refl)

-- a text that is live after some bytes is begun like one of the form
pub begins_as : (xs : List ℕ) (s : State) → run Start xs ≡ s → s ≢ Wrong → (rest : List ℕ) × IsForm (xs ++ rest)
begins_as xs s e h = (completion s, rw (run-append Start xs (completion s), e) (complete s h))

-- after `Wrong` no text is of the form
pub never : (xs rest : List ℕ) → run Start xs ≡ Wrong → ¬ IsForm (xs ++ rest)
never xs rest e f =
    let w : run Start (xs ++ rest) ≡ Wrong = run-append Start xs rest ∙ ap (λ s. run s rest) e ∙ run-wrong rest in
    let g : false ≡ true = sym (ap ends w) ∙ f in absurd (cc)

pub fault_at : (text : List ℕ) (at : ℕ) (s : State) → at < length text → run Start (take at text) ≡ s → s ≢ Wrong → next s (get_or text at 0) ≡ Wrong → IsSyntaxFault text at
fault_at text at s h e live w =
    let d : run Start (take (at + 1) text) ≡ Wrong = run-more Start text at h ∙ ap (λ z. next z (get_or text at 0)) e ∙ w in
    let whole : take (at + 1) text ++ drop (at + 1) text ≡ text = take-append-drop (at + 1) text in
    record {
      not_form = λ f. never (take (at + 1) text) (drop (at + 1) text) d (rw whole f);
      within = omega arith;
      begins = begins_as (take at text) s e live;
      stops = inr (λ rest. never (take (at + 1) text) rest d);
    }

pub fault_end : (text : List ℕ) (s : State) → run Start text ≡ s → s ≢ Wrong → ends s ≡ false → IsSyntaxFault text (length text)
fault_end text s e live n = record {
  not_form = λ f. let g : false ≡ true = sym n ∙ sym (ap ends e) ∙ f in absurd (cc);
  within = omega arith;
  begins = rw (take-length text) (begins_as text s e live);
  stops = inl refl;
}

-- no text of the form goes on with a line feed
line_feed : (s : State) → next s 10 ≡ Wrong
line_feed Start = refl
line_feed Signed = refl
line_feed Zero = refl
line_feed One = refl
line_feed Coefficient = refl
line_feed Times = refl
line_feed Letter = refl
line_feed VariableZero = refl
line_feed Variable = refl
line_feed Caret = refl
line_feed FactorEnd = refl
line_feed Exponent = refl
line_feed Wrong = refl

-- or with a space
space : (s : State) → next s 32 ≡ Wrong
space Start = refl
space Signed = refl
space Zero = refl
space One = refl
space Coefficient = refl
space Times = refl
space Letter = refl
space VariableZero = refl
space Variable = refl
space Caret = refl
space FactorEnd = refl
space Exponent = refl
space Wrong = refl

not_before : (s : State) (c : ℕ) (cs : List ℕ) → ends (run s (c ∷ cs)) ≡ true → next s c ≡ Wrong → ⊥
not_before s c cs h e = let g : false ≡ true = sym (ap ends (ap (λ t. run t cs) e ∙ run-wrong cs)) ∙ h in absurd (cc)

pub plain_bytes : (s : State) (text : List ℕ) → ends (run s text) ≡ true → AllByRecursion IsPlainByte text
plain_bytes s [] h = tt
plain_bytes s (c ∷ cs) h = ((λ e. not_before s c cs h (ap (next s) e ∙ line_feed s), λ e. not_before s c cs h (ap (next s) e ∙ space s)), plain_bytes (next s c) cs h)
