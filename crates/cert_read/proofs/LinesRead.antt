-- A text that is read up to a line, and one line more.
use Rattle.std.specs.Prelude.{◌≡◌, ◌≢◌, ℕ, ◌+◌, ◌<◌, ◌≤◌, ◌⊎◌, Bool, true, false, ◌==◌, Some, List, [], ◌∷◌, ◌++◌, codes, length, refl}
use Rattle.std.specs.List.{AllByRecursion}
use Rattle.std.proofs.Common.{sym, ◌∙◌, ap, subst, inl, inr, append_assoc, append-nil, arith}
use Rattle.std.proofs.lemmas.Bool.Decides.{nat_tests}
use Rattle.std.proofs.lemmas.Grind.{flat_map-append}
use Rattle.std.proofs.lemmas.List.{length-append}
use Rattle.leaf_cert.specs.declared.certificate.Certificate.{Certificate}
use Rattle.cert_lines.specs.declared.kind.Kind.{Kind}
use Rattle.cert_lines.specs.declared.kind.Kind.TheVariants as kind
use Rattle.cert_text.specs.declared.version.Version.{Version}
use Rattle.cert_text.specs.declared.sentence.Sentence.{Sentence}
use Rattle.cert_text.specs.Numbers.{max_number}
use Rattle.cert_lines.specs.Bytes.{Lacks, IsSplitAt}
use Rattle.cert_text.specs.Sentences.{fields, sentences}
use Rattle.cert_lines.specs.Words.{words, first}
use Rattle.cert_lines.specs.Forms.{greatest_place, form, has_form, any_out, kind_by_word}
use Rattle.cert_text.specs.Text.{IsText}
use Rattle.cert_read.specs.Faults.{with_ends, IsOneLine, IsCut, BeginsAs, AreRight, HasForm, IsRightSomehow, MayUse, MayStand, IsOutOfRange, IsWrongAt}
use Rattle.cert_lines.specs.Fitting.{FitsSentence, Says}
use Rattle.cert_lines.specs.LineReading.{IsSaid}
use Rattle.cert_read.specs.Machine.{State, AtStart, Wrong, next, run, may, unknowns, printed, kind_of}
use Rattle.cert_read.specs.Progress.{AreSaid, IsReadTo, IsNextLine, IsOutside}
use Rattle.cert_lines.proofs.Texts.{ended_words}
use Rattle.cert_lines.proofs.Noted.{right_formed}
use Rattle.cert_read.proofs.RightLines.{line_right}
use Rattle.cert_read.proofs.Plain.{form_words, form_kind, kind_line}
use Rattle.cert_read.proofs.Alone.{kinded}
use Rattle.cert_read.proofs.Used.{IsSound}
use Rattle.cert_read.proofs.Runs.{run-append}
use Rattle.cert_read.proofs.Steps.{Begins, begins_run, run_sound, run_printed}
use Rattle.cert_read.proofs.Mays.{weight, weight_more, is_use, SomeLine, some_next, may_come}
use Rattle.cert_read.proofs.Unknowns.{fits_next, fits_there, small_unknowns, count_alike, out_alike}
use Rattle.cert_read.proofs.Fit.{AllFit, fit_lines}
use Rattle.cert_read.proofs.Cut.{said_text, line_of, of_says, of_lacks, said_words, GoesOn, goes_on}
use Rattle.cert_read.proofs.Living.{Begun, begun}
use Rattle.cert_read.proofs.Uses.{may_use, use_may}

-- ---- lines with their LFs

ends_more : (ls : List (List ℕ)) (l x : List ℕ) → with_ends (ls ++ l ∷ []) ++ x ≡ with_ends ls ++ (l ++ 10 ∷ x)
ends_more [] l x = ap (λ z. z ++ x) (append-nil (l ++ 10 ∷ [])) ∙ append_assoc l (10 ∷ []) x
ends_more (m ∷ ls) l x = append_assoc (m ++ 10 ∷ []) (with_ends (ls ++ l ∷ [])) x ∙ ap (λ z. (m ++ 10 ∷ []) ++ z) (ends_more ls l x) ∙ sym (append_assoc (m ++ 10 ∷ []) (with_ends ls) (l ++ 10 ∷ x))

pub ends_append : (ls ms : List (List ℕ)) → with_ends (ls ++ ms) ≡ with_ends ls ++ with_ends ms
ends_append ls ms = flat_map-append (λ l. l ++ codes "\n") ls ms

-- a text as ended lines and a piece
pub record Cut (text : List ℕ) : Type 0 where
  pub lines : List (List ℕ)
  pub piece : List ℕ
  pub cut : IsCut text lines piece

pub cut_of : (text : List ℕ) → Cut text
cut_of [] = record { lines = []; piece = []; cut = record { joined = refl; lines = tt; unended = tt } }
cut_of (c ∷ cs) = by (c == 10) refl (cut_of cs)
  where
    is : (c == 10) ≡ true → c ≡ 10
    is e = grind (arith, nat_tests)

    is_not : (c == 10) ≡ false → c ≢ 10
    is_not e = grind (arith, nat_tests)

    longer : c ≢ 10 → (ls : List (List ℕ)) (piece : List ℕ) → IsCut cs ls piece → Cut (c ∷ cs)
    longer n [] piece k = record { lines = []; piece = c ∷ piece; cut = record { joined = ap (λ x. c ∷ x) k.joined; lines = tt; unended = (n, k.unended) } }
    longer n (l ∷ ls) piece k = record { lines = (c ∷ l) ∷ ls; piece = piece; cut = record { joined = ap (λ x. c ∷ x) k.joined; lines = ((n, k.lines.0), k.lines.1); unended = k.unended } }

    by : (b : Bool) → (c == 10) ≡ b → Cut cs → Cut (c ∷ cs)
    by true e k = record { lines = [] ∷ k.lines; piece = k.piece; cut = record { joined = ap (λ x. x ∷ cs) (is e) ∙ ap (λ x. 10 ∷ x) k.cut.joined; lines = (tt, k.cut.lines); unended = k.cut.unended } }
    by false e k = longer (is_not e) k.lines k.piece k.cut

use_kind : (k : Kind) → is_use k ≡ true → k ≡ kind.Use
use_kind kind.Use e = refl
use_kind k e = absurd (cc)

-- ---- lines that are said

pub said_more : (ls : List (List ℕ)) (ss : List Sentence) (l : List ℕ) (s : Sentence) → AreSaid ls ss → Says l s → Lacks 10 l → AreSaid (ls ++ l ∷ []) (ss ++ s ∷ [])
said_more [] [] l s h k n = ((k, n), tt)
said_more [] (t ∷ ss) l s h k n = absurd h
said_more (m ∷ ls) [] l s h k n = absurd h
said_more (m ∷ ls) (t ∷ ss) l s h k n = (h.0, said_more ls ss l s h.1 k n)

pub said_lines : (ls : List (List ℕ)) (ss : List Sentence) → AreSaid ls ss → AllByRecursion IsOneLine ls
said_lines [] [] h = tt
said_lines [] (s ∷ ss) h = absurd h
said_lines (l ∷ ls) [] h = absurd h
said_lines (l ∷ ls) (s ∷ ss) h = (h.0.1, said_lines ls ss h.1)

said_length : (ls : List (List ℕ)) (ss : List Sentence) → AreSaid ls ss → length ls ≡ length ss
said_length [] [] h = refl
said_length [] (s ∷ ss) h = absurd h
said_length (l ∷ ls) [] h = absurd h
said_length (l ∷ ls) (s ∷ ss) h = let r = said_length ls ss h.1 in omega (arith, r)

lines_append : (ls ms : List (List ℕ)) → AllByRecursion IsOneLine ls → AllByRecursion IsOneLine ms → AllByRecursion IsOneLine (ls ++ ms)
lines_append [] ms h k = k
lines_append (l ∷ ls) ms h k = (h.0, lines_append ls ms h.1 k)

run_weight : (st : State) (ss : List Sentence) → weight (run st ss) ≤ weight st + length ss
run_weight st [] = omega arith
run_weight st (s ∷ ss) = let r = run_weight (next st s) ss in let w = weight_more st s in omega (arith, r, w)

ends_length : (ls : List (List ℕ)) → length ls ≤ length (with_ends ls)
ends_length [] = omega arith
ends_length (l ∷ ls) =
    let a = length-append (l ++ 10 ∷ []) (with_ends ls) in
    let b = length-append l (10 ∷ []) in
    let r = ends_length ls in
    omega (arith, a, b, r)

module _ (text rest : List ℕ) (k : ℕ) (st : State) (r : IsReadTo text rest k st) where
  taken : run AtStart r.sentences ≢ Wrong
  taken e = r.live (sym r.leads ∙ e)

  here : printed st ≡ r.sentences
  here = ap printed (sym r.leads) ∙ run_printed AtStart r.sentences tt taken

  sound : IsSound st
  sound = subst IsSound r.leads (run_sound AtStart r.sentences tt taken)

  pub small : unknowns st ≤ 4096
  small = small_unknowns st (unknowns st) (subst (AllFit (unknowns st)) (sym here) r.fits)

  -- each line takes a byte, and each entry a line
  pub counted_within : k + length rest ≤ length text
  counted_within =
      let a = ap (λ (x : List ℕ). length x) r.joined ∙ length-append (with_ends r.lines) rest in
      let b = ends_length r.lines in
      let c = r.counted in
      omega (arith, a, b, c)

  weight_within : weight st ≤ k
  weight_within =
      let a = run_weight AtStart r.sentences in
      let b = ap weight r.leads in
      let c = said_length r.lines r.sentences r.said in
      let d = r.counted in
      omega (arith, a, b, c, d)

  pub said_count : length r.sentences ≡ k
  said_count = let a = said_length r.lines r.sentences r.said in let b = r.counted in omega (arith, a, b)

  module _ (few : length text + 8 < max_number) where
    few_entries : weight st + 2 ≤ max_number
    few_entries = let a = weight_within in let b = counted_within in omega (arith, a, b, few)

    pub begun_here : Begun st r.lines
    begun_here = begun st r.lines r.sentences r.said r.fits here r.live sound few_entries (let a = said_count in let b = counted_within in omega (arith, a, b, few))

    pub are_right : AreRight r.lines
    are_right = (begun_here.certificate, begun_here.begins)

  module _ (line after : List ℕ) (split : IsSplitAt 10 rest line after) where
    text_is : text ≡ with_ends r.lines ++ (line ++ 10 ∷ after)
    text_is = r.joined ∙ ap (λ x. with_ends r.lines ++ x) split.joined

    -- one line more
    pub read_more : (new : State) → IsNextLine st line new → IsReadTo text after (k + 1) new
    read_more new n =
        let s = n.sentence in
        let live : next st s ≢ Wrong = λ e. n.live (sym n.leads ∙ e) in
        let f = fits_next st r.sentences s here r.fits live n.said.fits in
        record {
          lines = r.lines ++ line ∷ [];
          sentences = r.sentences ++ s ∷ [];
          said = said_more r.lines r.sentences line s r.said n.said.says split.before;
          fits = subst (λ x. AllFit (unknowns x) (r.sentences ++ s ∷ [])) n.leads f;
          leads = run-append AtStart r.sentences (s ∷ []) ∙ ap (λ x. next x s) r.leads ∙ n.leads;
          live = n.live;
          joined = text_is ∙ sym (ends_more r.lines line after);
          counted = ap (λ x. x + 1) r.counted ∙ sym (length-append r.lines (line ∷ []));
        }

    -- what a certificate says in this line that begins with the lines before
    goes : (c : Certificate) (l x : List ℕ) → Lacks 10 l → (t : IsText (with_ends r.lines ++ (l ++ 10 ∷ x)) c) → GoesOn c.unknowns r.sentences (sentences t.version c) l
    goes c l x n t = goes_on c.unknowns (unknowns st) t.fits.head.unknowns small r.lines r.sentences (sentences t.version c) l x r.said r.fits (fit_lines t.version c t.fits) n
        (ap (λ z. z ++ (l ++ 10 ∷ x)) (sym (said_text r.lines r.sentences r.said)) ∙ t.spelled)

    goes_live : (v : Version) (c : Certificate) (l : List ℕ) (g : GoesOn c.unknowns r.sentences (sentences v c) l) → next st g.s ≢ Wrong
    goes_live v c l g w =
        let b : Begins (r.sentences ++ g.s ∷ []) = record { version = v; certificate = c; more = g.more; split = g.split ∙ sym (append_assoc r.sentences (g.s ∷ []) g.more) } in
        begins_run (r.sentences ++ g.s ∷ []) b (run-append AtStart r.sentences (g.s ∷ []) ∙ ap (λ x. next x g.s) r.leads ∙ w)

    goes_fits : (v : Version) (c : Certificate) (l : List ℕ) (g : GoesOn c.unknowns r.sentences (sentences v c) l) → FitsSentence (unknowns st) g.s
    goes_fits v c l g = fits_there st v c (g.s ∷ g.more) g.s (g.split ∙ ap (λ x. x ++ g.s ∷ g.more) (sym here)) (goes_live v c l g) g.fits

    right_text : (l : List ℕ) (c : Certificate) (b : BeginsAs (r.lines ++ l ∷ []) c) → IsText (with_ends r.lines ++ (l ++ 10 ∷ b.0)) c
    right_text l c b = subst (λ t. IsText t c) (ends_more r.lines l b.0) b.1

    -- a line that says nothing that may come next is not right
    pub not_right : ((s : Sentence) → IsSaid (unknowns st) line s → next st s ≢ Wrong → ⊥) → AreRight (r.lines ++ line ∷ []) → ⊥
    not_right wrong b =
        let t = right_text line b.0 b.1 in
        let g = goes b.0 line b.1.0 split.before t in
        wrong g.s (record { says = g.said; fits = goes_fits t.version b.0 line g }) (goes_live t.version b.0 line g)

    module _ (few : length text + 8 < max_number) (wrong : (s : Sentence) → IsSaid (unknowns st) line s → next st s ≢ Wrong → ⊥) where
      pub wrong_at : IsWrongAt text (k + 1) r.lines line
      wrong_at =
          let m = cut_of after in
          record {
            lines = r.lines ++ line ∷ m.lines;
            piece = m.piece;
            cut = record {
              joined = text_is ∙ ap (λ x. with_ends r.lines ++ (line ++ 10 ∷ x)) m.cut.joined
                  ∙ ap (λ x. with_ends r.lines ++ x) (sym (append_assoc line (10 ∷ []) (with_ends m.lines ++ m.piece)) ∙ sym (append_assoc (line ++ 10 ∷ []) (with_ends m.lines) m.piece))
                  ∙ sym (append_assoc (with_ends r.lines) (with_ends (line ∷ m.lines)) m.piece)
                  ∙ ap (λ x. x ++ m.piece) (sym (ends_append r.lines (line ∷ m.lines)));
              lines = lines_append r.lines (line ∷ m.lines) (said_lines r.lines r.sentences r.said) (split.before, m.cut.lines);
              unended = m.cut.unended;
            };
            first = record { after = m.lines; split = refl; right = are_right few; wrong = not_right wrong };
            at_line = ap (λ x. x + 1) r.counted;
          }

    -- ---- out of range

    module _ (few : length text + 8 < max_number) where
      module _ (j : Kind) (t : SomeLine st j) where
        fit : FitsSentence (unknowns st) t.said
        fit = t.fits (unknowns st)

        next_leads : run AtStart (r.sentences ++ t.said ∷ []) ≡ next st t.said
        next_leads = run-append AtStart r.sentences (t.said ∷ []) ∙ ap (λ x. next x t.said) r.leads

        next_taken : run AtStart (r.sentences ++ t.said ∷ []) ≢ Wrong
        next_taken e = t.live (sym next_leads ∙ e)

        next_printed : printed (next st t.said) ≡ r.sentences ++ t.said ∷ []
        next_printed = ap printed (sym next_leads) ∙ run_printed AtStart (r.sentences ++ t.said ∷ []) tt next_taken

        next_sound : IsSound (next st t.said)
        next_sound = subst IsSound next_leads (run_sound AtStart (r.sentences ++ t.said ∷ []) tt next_taken)

        next_begun : Begun (next st t.said) (r.lines ++ line_of t.said ∷ [])
        next_begun =
            let said = said_more r.lines r.sentences (line_of t.said) t.said r.said (of_says t.said) (of_lacks (unknowns st) small t.said fit) in
            let w = weight_more st t.said in
            let wk = weight_within in
            let cw = counted_within in
            let sl = ap (λ (x : List ℕ). length x) split.joined ∙ length-append line (10 ∷ after) in
            let sc = said_count in
            let sn = length-append r.sentences (t.said ∷ []) in
            begun (next st t.said) (r.lines ++ line_of t.said ∷ []) (r.sentences ++ t.said ∷ []) said (fits_next st r.sentences t.said here r.fits t.live fit) next_printed t.live next_sound (omega (arith, w, wk, cw, sl, few)) (omega (arith, cw, sl, sc, sn, few))

        stands_so : IsRightSomehow r.lines j (unknowns st)
        stands_so = record {
          line = line_of t.said;
          fields = fields t.said;
          certificate = next_begun.certificate;
          form = record { cut = sym (of_says t.said); formed = ap (λ x. has_form (form x) (fields t.said)) (sym t.kind_is) ∙ right_formed (unknowns st) (form (kind_of t.said)) (fields t.said) (line_right (unknowns st) small t.said fit) };
          right = next_begun.begins;
          unknowns = sym t.keeps ∙ sym next_begun.unknowns_are;
        }

      pub stands : (j : Kind) → may st j ≡ true → MayStand r.lines j (unknowns st)
      stands j m = by (is_use j) refl
        where
          by : (b : Bool) → is_use j ≡ b → MayStand r.lines j (unknowns st)
          by false e = inl (stands_so j (some_next st j m e (let w = few_entries few in omega (arith, w))))
          by true e = let q = use_kind j e in inr (q, may_use st r.lines r.sentences (unknowns st) small r.said here r.fits (ap (may st) (sym q) ∙ m))

      pub out_of_range : IsOutside st line → IsOutOfRange r.lines line
      out_of_range o = record {
        kind = o.kind;
        unknowns = unknowns st;
        fields = words line;
        form_is = record { cut = sym (ended_words line); formed = o.formed };
        stands = stands o.kind o.may_come;
        out = o.out;
      }

    -- the number of unknowns is that of the certificate, or the kind of line has no variables
    same_out : (v : Version) (c : Certificate) (l : List ℕ) (g : GoesOn c.unknowns r.sentences (sentences v c) l) (j : Kind) (fs : List (List ℕ)) → may st j ≡ true → any_out c.unknowns (form j) fs ≡ any_out (unknowns st) (form j) fs
    same_out v c l g j fs m = out_alike st v c (g.s ∷ g.more) j fs (g.split ∙ ap (λ x. x ++ g.s ∷ g.more) (sym here)) m

    module _ (inside : (j : Kind) → has_form (form j) (words line) ≡ true → may st j ≡ true → any_out (unknowns st) (form j) (words line) ≡ false) where
      not_so : (k : Kind) (fs : List (List ℕ)) (u : ℕ) → HasForm k line fs → may st k ≡ true → any_out u (form k) fs ≡ any_out (unknowns st) (form k) fs → any_out u (form k) fs ≡ true → ⊥
      not_so k fs u f may_be same out =
          let q : words line ≡ fs = form_words k line fs f.formed f.cut in
          let no = inside k (ap (has_form (form k)) q ∙ f.formed) may_be in
          let yes : any_out (unknowns st) (form k) (words line) ≡ true = ap (any_out (unknowns st) (form k)) q ∙ sym same ∙ out in
          let w : true ≡ false = sym yes ∙ no in
          cc

      not_right_somehow : (k : Kind) (fs : List (List ℕ)) (u : ℕ) → HasForm k line fs → IsRightSomehow r.lines k u → any_out u (form k) fs ≡ true → ⊥
      not_right_somehow k fs u f m out =
          let other : Lacks 10 m.line = kind_line k m.line m.fields m.form.formed m.form.cut in
          let t = right_text m.line m.certificate m.right in
          let g = goes m.certificate m.line m.right.0 other t in
          let ws : words m.line ≡ fields g.s = said_words (unknowns st) small m.line g.s (goes_fits t.version m.certificate m.line g) g.said in
          let ms : words m.line ≡ m.fields = form_words k m.line m.fields m.form.formed m.form.cut in
          let e : Some k ≡ Some (kind_of g.s) = sym (form_kind k m.fields m.form.formed) ∙ ap (λ x. kind_by_word (first x)) (sym ms ∙ ws) ∙ kinded g.s in
          let same : kind_of g.s ≡ k = cc in
          let may_be : may st k ≡ true = ap (may st) (sym same) ∙ may_come st g.s (goes_live t.version m.certificate m.line g) in
          not_so k fs u f may_be (ap (λ x. any_out x (form k) fs) m.unknowns ∙ same_out t.version m.certificate m.line g k fs may_be) out

      -- the state before the last line
      back : (before : List Sentence) (s : Sentence) → r.sentences ≡ before ++ s ∷ [] → (old : State) × (next old s ≡ st)
      back before s e = (run AtStart before, sym (run-append AtStart before (s ∷ [])) ∙ ap (run AtStart) (sym e) ∙ r.leads)

      not_use : (fs : List (List ℕ)) (u : ℕ) → HasForm kind.Use line fs → MayUse r.lines → any_out u (form kind.Use) fs ≡ true → ⊥
      not_use fs u f m out = not_so kind.Use fs u f (use_may st r.lines r.sentences (unknowns st) small r.said here r.fits back r.live m) (count_alike u (unknowns st) (codes "use") greatest_place fs) out

      pub not_out : IsOutOfRange r.lines line → ⊥
      not_out o = by o.stands
        where
          by : IsRightSomehow r.lines o.kind o.unknowns ⊎ ((o.kind ≡ kind.Use) × MayUse r.lines) → ⊥
          by (inl m) = not_right_somehow o.kind o.fields o.unknowns o.form_is m o.out
          by (inr m) = not_use o.fields o.unknowns (subst (λ k. HasForm k line o.fields) m.0 o.form_is) m.1 (subst (λ k. any_out o.unknowns (form k) o.fields ≡ true) m.0 o.out)
