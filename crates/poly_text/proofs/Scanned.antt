-- What reading a whole text says of it.
use Rattle.std.specs.Prelude.{◌≡◌, ◌≢◌, ℕ, suc, ◌+◌, ◌-◌, ◌≤◌, Bool, true, false, if◌then◌else◌, Option, None, Some, option_map, Result, Ok, Err, List, [], ◌∷◌, ◌++◌, length, refl}
use Rattle.std.proofs.Common.{sym, ◌∙◌, ap, subst, arith, append_assoc}
use Rattle.std.proofs.lemmas.List.{length-append}
use Rattle.std.proofs.Math.Seq.{take-append_seam, get_or-append_seam}
use Rattle.sparse_poly.specs.declared.Term.{Term}
use Rattle.poly_text.specs.State.{State, Start, Wrong}
use Rattle.poly_text.specs.Form.{run, ends, next, IsSyntaxFault}
use Rattle.poly_text.specs.Numbers.{is_out, first_out}
use Rattle.poly_text.specs.Scan.{is_wrong, noted, scan}
use Rattle.poly_text.specs.Fronts.{IsLive}
use Rattle.poly_text.specs.Places.{IsReading}
use Rattle.poly_text.specs.Reading.{IsNumberFault, IsPlaceFault}
use Rattle.poly_text.proofs.Runs.{fault_at, fault_end, run-append}

same_ok : (f g : Option ℕ) → ◌≡◌ {A = Result (Option ℕ) ℕ} (Ok f) (Ok g) → f ≡ g
same_ok f g h = cc

same_err : (n m : ℕ) → ◌≡◌ {A = Result (Option ℕ) ℕ} (Err n) (Err m) → n ≡ m
same_err n m h = cc

ok_err : (f : Option ℕ) (n : ℕ) → ◌≡◌ {A = Result (Option ℕ) ℕ} (Ok f) (Err n) → ⊥
ok_err f n h = cc

wrong_of : (s : State) → is_wrong s ≡ true → s ≡ Wrong
wrong_of Wrong h = refl
wrong_of s h = absurd (cc)

live_of : (s : State) → is_wrong s ≡ false → s ≢ Wrong
live_of s h e = let k : false ≡ true = sym h ∙ ap is_wrong e in absurd (cc)

shown_end : (u : ℕ) (f : Option ℕ) (s : State) (r : Result (Option ℕ) ℕ) (b : Bool) → ends s ≡ b → scan u f s [] ≡ r → (if b then Ok f else Err 0) ≡ r
shown_end u f s r b e h = sym (ap (λ v. if v then Ok f else Err 0) e) ∙ h

shown : (u : ℕ) (f : Option ℕ) (s : State) (c : ℕ) (cs : List ℕ) (r : Result (Option ℕ) ℕ) (b : Bool) → is_wrong (next s c) ≡ b → scan u f s (c ∷ cs) ≡ r → (if b then Err (suc (length cs)) else scan u (noted u s (c ∷ cs) f) (next s c) cs) ≡ r
shown u f s c cs r b e h = sym (ap (λ v. if v then Err (suc (length cs)) else scan u (noted u s (c ∷ cs) f) (next s c) cs) e) ∙ h

-- ---- the form

record FaultAt (text : List ℕ) (left : ℕ) : Type 0 where
  at : ℕ
  fault : IsSyntaxFault text at
  sum : left + at ≡ length text

fault_scanned : (u left : ℕ) (f : Option ℕ) (front rest : List ℕ) (s : State) → run Start front ≡ s → s ≢ Wrong → scan u f s rest ≡ Err left → FaultAt (front ++ rest) left
fault_scanned u left f front [] s e live h = by (ends s) refl
  where
    by : (b : Bool) → ends s ≡ b → FaultAt (front ++ []) left
    by true q = absurd (ok_err f left (shown_end u f s (Err left) true q h))
    by false q =
        let z : 0 ≡ left = same_err 0 left (shown_end u f s (Err left) false q h) in
        record { at = length (front ++ []); fault = fault_end (front ++ []) s (run-append Start front [] ∙ e) live q; sum = omega (arith, z) }
fault_scanned u left f front (c ∷ cs) s e live h = by (is_wrong (next s c)) refl (λ l k. subst (λ t. FaultAt t left) (append_assoc front (c ∷ []) cs) (fault_scanned u left (noted u s (c ∷ cs) f) (front ++ c ∷ []) cs (next s c) (run-append Start front (c ∷ []) ∙ ap (λ r. next r c) e) l k))
  where
    by : (b : Bool) → is_wrong (next s c) ≡ b → (next s c ≢ Wrong → scan u (noted u s (c ∷ cs) f) (next s c) cs ≡ Err left → FaultAt (front ++ c ∷ cs) left) → FaultAt (front ++ c ∷ cs) left
    by true q further =
        let z : suc (length cs) ≡ left = same_err (suc (length cs)) left (shown u f s c cs (Err left) true q h) in
        let w = length-append front (c ∷ cs) in
        record { at = length front; fault = fault_at (front ++ c ∷ cs) (length front) s (omega (arith, w)) (ap (run Start) (take-append_seam front (c ∷ cs)) ∙ e) live (ap (next s) (get_or-append_seam front c cs 0) ∙ wrong_of (next s c) q); sum = omega (arith, z, w) }
    by false q further = further (live_of (next s c) q) (shown u f s c cs (Err left) false q h)

pub syntax_answer : (u left : ℕ) (f : Option ℕ) (text : List ℕ) → scan u f Start text ≡ Err left → (left ≤ length text) × IsSyntaxFault text (length text - left)
syntax_answer u left f text h =
    let k = fault_scanned u left f [] text Start refl (λ e. cc) h in
    let sum = k.sum in
    let e : k.at ≡ length text - left = omega arith in
    (omega arith, subst (IsSyntaxFault text) e k.fault)

form_scanned : (u : ℕ) (f g : Option ℕ) (s : State) (rest : List ℕ) → scan u f s rest ≡ Ok g → ends (run s rest) ≡ true
form_scanned u f g s [] h = by (ends s) refl
  where
    by : (b : Bool) → ends s ≡ b → b ≡ true
    by true q = refl
    by false q = absurd (ok_err g 0 (sym (shown_end u f s (Ok g) false q h)))
form_scanned u f g s (c ∷ cs) h = by (is_wrong (next s c)) refl (λ k. form_scanned u (noted u s (c ∷ cs) f) g (next s c) cs k)
  where
    by : (b : Bool) → is_wrong (next s c) ≡ b → (scan u (noted u s (c ∷ cs) f) (next s c) cs ≡ Ok g → ends (run (next s c) cs) ≡ true) → ends (run (next s c) cs) ≡ true
    by true q further = absurd (ok_err g (suc (length cs)) (sym (shown u f s c cs (Ok g) true q h)))
    by false q further = further (shown u f s c cs (Ok g) false q h)

-- ---- the numbers

kept_some : (u k : ℕ) (s : State) (text : List ℕ) → noted u s text (Some k) ≡ Some k
kept_some u k s text = by (is_out u s text)
  where
    by : (b : Bool) → (if b then Some k else Some k) ≡ Some k
    by true = refl
    by false = refl

-- the first number out of range stays
fault_kept : (u k : ℕ) (g : Option ℕ) (s : State) (rest : List ℕ) → scan u (Some k) s rest ≡ Ok g → Some k ≡ g
fault_kept u k g s [] h = by (ends s) refl
  where
    by : (b : Bool) → ends s ≡ b → Some k ≡ g
    by true q = same_ok (Some k) g (shown_end u (Some k) s (Ok g) true q h)
    by false q = absurd (ok_err g 0 (sym (shown_end u (Some k) s (Ok g) false q h)))
fault_kept u k g s (c ∷ cs) h = by (is_wrong (next s c)) refl (λ j. fault_kept u k g (next s c) cs j)
  where
    by : (b : Bool) → is_wrong (next s c) ≡ b → (scan u (Some k) (next s c) cs ≡ Ok g → Some k ≡ g) → Some k ≡ g
    by true q further = absurd (ok_err g (suc (length cs)) (sym (shown u (Some k) s c cs (Ok g) true q h)))
    by false q further = further (ap (λ o. scan u o (next s c) cs) (sym (kept_some u k s (c ∷ cs))) ∙ shown u (Some k) s c cs (Ok g) false q h)

record OutAt (u : ℕ) (s : State) (text : List ℕ) (left : ℕ) : Type 0 where
  at : ℕ
  first : first_out u s text ≡ Some at
  sum : left + at ≡ length text

abbrev IsOut : ℕ → State → List ℕ → Option ℕ → Type 0
IsOut u s text None = first_out u s text ≡ None
IsOut u s text (Some left) = OutAt u s text left

out_scanned : (u : ℕ) (g : Option ℕ) (s : State) (rest : List ℕ) → scan u None s rest ≡ Ok g → IsOut u s rest g
out_scanned u g s [] h = by (ends s) refl
  where
    by : (b : Bool) → ends s ≡ b → IsOut u s [] g
    by true q = subst (IsOut u s []) (same_ok None g (shown_end u None s (Ok g) true q h)) refl
    by false q = absurd (ok_err g 0 (sym (shown_end u None s (Ok g) false q h)))
out_scanned u g s (c ∷ cs) h = by (is_wrong (next s c)) refl (λ k. out_scanned u g (next s c) cs k)
  where
    first : (b : Bool) → is_out u s (c ∷ cs) ≡ b → first_out u s (c ∷ cs) ≡ (if b then Some 0 else option_map (λ k. k + 1) (first_out u (next s c) cs))
    first b e = ap (λ v. if v then Some 0 else option_map (λ k. k + 1) (first_out u (next s c) cs)) e

    note : (b : Bool) → is_out u s (c ∷ cs) ≡ b → noted u s (c ∷ cs) None ≡ (if b then Some (suc (length cs)) else None)
    note b e = ap (λ v. if v then Some (suc (length cs)) else None) e

    later : (o : Option ℕ) → is_out u s (c ∷ cs) ≡ false → IsOut u (next s c) cs o → IsOut u s (c ∷ cs) o
    later None e k = first false e ∙ ap (option_map (λ k. k + 1)) k
    later (Some left) e k = let sum = k.sum in record { at = k.at + 1; first = first false e ∙ ap (option_map (λ k. k + 1)) k.first; sum = omega arith }

    by : (b : Bool) → is_wrong (next s c) ≡ b → (scan u None (next s c) cs ≡ Ok g → IsOut u (next s c) cs g) → IsOut u s (c ∷ cs) g
    by true q further = absurd (ok_err g (suc (length cs)) (sym (shown u None s c cs (Ok g) true q h)))
    by false q further = here (is_out u s (c ∷ cs)) refl
      where
        goes : scan u (noted u s (c ∷ cs) None) (next s c) cs ≡ Ok g
        goes = shown u None s c cs (Ok g) false q h

        here : (b : Bool) → is_out u s (c ∷ cs) ≡ b → IsOut u s (c ∷ cs) g
        here true e = subst (IsOut u s (c ∷ cs)) (fault_kept u (suc (length cs)) g (next s c) cs (ap (λ o. scan u o (next s c) cs) (sym (note true e)) ∙ goes)) (record { at = 0; first = first true e; sum = omega arith })
        here false e = later g e (further (ap (λ o. scan u o (next s c) cs) (sym (note false e)) ∙ goes))

-- ---- the answer

pub number_answer : (u left : ℕ) (text : List ℕ) → scan u None Start text ≡ Ok (Some left) → (left ≤ length text) × IsNumberFault u text (length text - left)
number_answer u left text h =
    let k = out_scanned u (Some left) Start text h in
    let sum = k.sum in
    let e : k.at ≡ length text - left = omega arith in
    (omega arith, record { form = form_scanned u None (Some left) Start text h; first = k.first ∙ ap Some e })

pub live_answer : (u : ℕ) (text : List ℕ) → scan u None Start text ≡ Ok None → IsLive u Start text
live_answer u text h = record { form = form_scanned u None None Start text h; numbers = out_scanned u None Start text h }

pub order_answer : (u left : ℕ) (text : List ℕ) (ts : List Term) → IsLive u Start text → IsReading u text ts (Some left) → (left ≤ length text) × IsPlaceFault u text (length text - left)
order_answer u left text ts live h =
    let sum = h.order.at_place in (
      omega arith,
      record {
        form = live.form;
        numbers = live.numbers;
        order = record { terms = ts; spelled = h.spelled; in_range = h.in_range; first = h.order.first; is_first = h.order.is_first; at_place = omega arith };
      },
    )
