-- What a text is that has been read to its end.
use Rattle.std.specs.Prelude.{◌≡◌, ◌≢◌, ℕ, ◌+◌, ◌<◌, ◌≤◌, Bool, true, false, ◌&&◌, ◌==◌, ◌⊎◌, if◌then◌else◌, Some, List, [], ◌∷◌, ◌++◌, codes, decimal, length, map, flat_map, slice_index_or, zero, suc, refl}
use Rattle.std.specs.List.{Contains}
use Rattle.std.proofs.Common.{sym, ◌∙◌, ap, subst, inl, inr, append_assoc, append-nil, arith}
use Rattle.std.proofs.lemmas.List.{append_cancel_right}
use Rattle.leaf_cert.specs.declared.certificate.Certificate.{Certificate}
use Rattle.leaf_cert.specs.declared.certificate.RawEntry.{RawEntry}
use Rattle.leaf_cert.specs.declared.certificate.RawEntry.TheVariants.{Publish}
use Rattle.leaf_cert.specs.declared.ends.LeafEnd.{LeafEnd}
use Rattle.sparse_poly.specs.declared.Term.{Term}
use Rattle.derive_lines.specs.declared.parts.Decision.{Decision}
use Rattle.derive_lines.specs.declared.parts.Line.{Line}
use Rattle.std.proofs.lemmas.List.Elements.{Contains-push}
use Rattle.cert_lines.specs.declared.kind.Kind.{Kind}
use Rattle.cert_lines.specs.declared.kind.Kind.TheVariants as kind
use Rattle.cert_read.specs.declared.machine.Head.{Head}
use Rattle.cert_text.specs.declared.version.Version.{Version}
use Rattle.cert_text.specs.declared.sentence.Sentence.{Sentence}
use Rattle.cert_text.specs.declared.sentence.Sentence.TheVariants as says
use Rattle.cert_text.specs.Numbers.{max_number}
use Rattle.cert_lines.specs.Bytes.{Lacks}
use Rattle.cert_text.specs.Sentences.{said_in, table_sentences, sentences, spelled, head, entry_sentences}
use Rattle.cert_lines.specs.Words.{words, first}
use Rattle.cert_lines.specs.Forms.{kind_by_word}
use Rattle.cert_text.specs.Text.{IsText}
use Rattle.cert_read.specs.Faults.{with_ends, IsCut, IsDoneLine, HasDone, IsTruncated, IsTrailing}
use Rattle.cert_lines.specs.Fitting.{FitsSentence, Says}
use Rattle.cert_read.specs.Machine.{Wording, Nothing, InPost, InLeaf, State, AtStart, AtUnknowns, AtEquations, AtBudget, AtLines, InTable, Listing, Whole, Wrong, is_used_up, version_of, certificate, begin, in_post, in_leaf, at_start, at_unknowns, at_equations, at_budget, at_lines, in_table, next, run, unknowns, kind_of}
use Rattle.cert_read.specs.Progress.{AreSaid, IsReadTo}
use Rattle.cert_read.proofs.Alone.{kinded}
use Rattle.cert_read.proofs.Runs.{run-wrong, whole_run}
use Rattle.cert_read.proofs.Steps.{whole_is}
use Rattle.cert_read.proofs.Fit.{AllFit, fit_lines, fit_certificate}
use Rattle.cert_read.proofs.Cut.{said_text, said_words, line_of, of_says, of_lacks}
use Rattle.cert_read.proofs.Living.{few_different}
use Rattle.cert_read.proofs.Uses.{last_said}
use Rattle.cert_read.proofs.LinesRead.{small, are_right, said_lines, said_count, counted_within}

-- ---- `done` lines

abbrev is_done : Kind → Bool
is_done kind.Done = true
is_done k = false

-- a line that is said begins with `done ` exactly if it says the end of the entries
done_said : (u : ℕ) → u ≤ 4096 → (l : List ℕ) (s : Sentence) → FitsSentence u s → Says l s → IsDoneLine l → is_done (kind_of s) ≡ true
done_said u low l s h k d =
    let e : Some (kind_of s) ≡ Some kind.Done = sym (kinded s) ∙ ap (λ f. kind_by_word (first f)) (sym (said_words u low l s h k) ∙ ap words d.1) in
    let q : kind_of s ≡ kind.Done = cc in
    ap is_done q

said_done : (l : List ℕ) (n : ℕ) → Says l (says.Done n) → IsDoneLine l
said_done l n h = (decimal n, append_cancel_right l (codes "done " ++ decimal n) (codes "\n") (sym h))

-- some line ends the entries
abbrev Ends : List Sentence → Type 0
Ends [] = ⊥
Ends (s ∷ ss) = (is_done (kind_of s) ≡ true) ⊎ Ends ss

-- a whole certificate was said
pub record IsWhole (st : State) : Type 0 where
  pub version : Version
  pub certificate : Certificate
  pub is : st ≡ Whole version certificate

-- the state behind the end is whole
begin_whole : (h : Head) (w : Wording) (used : ℕ) (es : List RawEntry) (s : Sentence) → is_done (kind_of s) ≡ true → begin h w used es s ≢ Wrong → IsWhole (begin h w used es s)
begin_whole h w used es (says.Split n by) d ok = absurd (cc)
begin_whole h w used es says.Post d ok = absurd (cc)
begin_whole h w used es (says.Close n k) d ok = absurd (cc)
begin_whole h w used es (says.Leaf n end) d ok = absurd (cc)
begin_whole h w used es (says.Done n) d ok = by ((n == length es) && is_used_up w used) ok
  where
    by : (b : Bool) → (if b then Whole (version_of w) (certificate h es) else Wrong) ≢ Wrong → IsWhole (if b then Whole (version_of w) (certificate h es) else Wrong)
    by true ok = record { version = version_of w; certificate = certificate h es; is = refl }
    by false ok = absurd (ok refl)
begin_whole h w used es s d ok = absurd (ok refl)

post_whole : (h : Head) (w : Wording) (used : ℕ) (es : List RawEntry) (ds : List Decision) (ls : List Line) (s : Sentence) → is_done (kind_of s) ≡ true → in_post h w used es ds ls s ≢ Wrong → IsWhole (in_post h w used es ds ls s)
post_whole h w used es ds ls (says.Decided d) k ok = absurd (cc)
post_whole h w used es ds ls (says.Derived l) k ok = absurd (cc)
post_whole h w used es ds ls (says.Use i) k ok = absurd (cc)
post_whole h w used es ds ls (says.End item) k ok = absurd (cc)
post_whole h w used es ds ls s k ok = absurd (ok refl)

leaf_whole : (h : Head) (w : Wording) (used : ℕ) (es : List RawEntry) (n : ℕ) (end : LeafEnd) (ds : List Decision) (ls : List Line) (ps : List (List Term)) (s : Sentence) → is_done (kind_of s) ≡ true → in_leaf h w used es n end ds ls ps s ≢ Wrong → IsWhole (in_leaf h w used es n end ds ls ps s)
leaf_whole h w used es n end ds ls ps (says.Decided d) k ok = absurd (cc)
leaf_whole h w used es n end ds ls ps (says.Derived l) k ok = absurd (cc)
leaf_whole h w used es n end ds ls ps (says.Use i) k ok = absurd (cc)
leaf_whole h w used es n end ds ls ps (says.Equation p) k ok = absurd (cc)
leaf_whole h w used es n end ds ls ps s k ok = begin_whole h w used (es ++ Publish n ds ls ps end ∷ []) s k ok

start_whole : (s : Sentence) → is_done (kind_of s) ≡ true → at_start s ≢ Wrong → IsWhole (at_start s)
start_whole (says.Title v) d ok = absurd (cc)
start_whole s d ok = absurd (ok refl)

unknowns_whole : (v : Version) (s : Sentence) → is_done (kind_of s) ≡ true → at_unknowns v s ≢ Wrong → IsWhole (at_unknowns v s)
unknowns_whole v (says.Unknowns n) d ok = absurd (cc)
unknowns_whole v s d ok = absurd (ok refl)

equations_whole : (v : Version) (u : ℕ) (s : Sentence) → is_done (kind_of s) ≡ true → at_equations v u s ≢ Wrong → IsWhole (at_equations v u s)
equations_whole v u (says.Equations n) d ok = absurd (cc)
equations_whole v u s d ok = absurd (ok refl)

budget_whole : (v : Version) (u e : ℕ) (s : Sentence) → is_done (kind_of s) ≡ true → at_budget v u e s ≢ Wrong → IsWhole (at_budget v u e s)
budget_whole v u e (says.Budget n) d ok = absurd (cc)
budget_whole v u e s d ok = absurd (ok refl)

lines_whole : (h : Head) (s : Sentence) → is_done (kind_of s) ≡ true → at_lines h s ≢ Wrong → IsWhole (at_lines h s)
lines_whole h (says.Lines n) d ok = absurd (cc)
lines_whole h s d ok = absurd (ok refl)

table_whole : (h : Head) (size : ℕ) (t : List Line) (s : Sentence) → is_done (kind_of s) ≡ true → in_table h size t s ≢ Wrong → IsWhole (in_table h size t s)
table_whole h size t (says.Derived l) d ok = absurd (cc)
table_whole h size t s d ok = absurd (ok refl)

done_next : (st : State) (s : Sentence) → is_done (kind_of s) ≡ true → next st s ≢ Wrong → IsWhole (next st s)
done_next AtStart s d ok = start_whole s d ok
done_next (AtUnknowns v) s d ok = unknowns_whole v s d ok
done_next (AtEquations v u) s d ok = equations_whole v u s d ok
done_next (AtBudget v u e) s d ok = budget_whole v u e s d ok
done_next (AtLines h) s d ok = lines_whole h s d ok
done_next (InTable h size t) s d ok = table_whole h size t s d ok
done_next (Listing h w used es Nothing) s d ok = begin_whole h w used es s d ok
done_next (Listing h w used es (InPost ds ls)) s d ok = post_whole h w used es ds ls s d ok
done_next (Listing h w used es (InLeaf n end ds ls ps)) s d ok = leaf_whole h w used es n end ds ls ps s d ok
done_next (Whole v c) s d ok = absurd (ok refl)
done_next Wrong s d ok = absurd (ok refl)

whole_end : (st : State) (ss : List Sentence) → Ends ss → run st ss ≢ Wrong → IsWhole (run st ss)
whole_end st [] h w = absurd h
whole_end st (s ∷ []) (inl d) w = done_next st s d w
whole_end st (s ∷ t ∷ ss) (inl d) w =
    let live : next st s ≢ Wrong = λ e. w (ap (λ x. run x (t ∷ ss)) e ∙ run-wrong (t ∷ ss)) in
    let q = done_next st s d live in
    absurd (w (ap (λ x. run x (t ∷ ss)) q.is ∙ run-wrong ss))
whole_end st (s ∷ ss) (inr e) w = whole_end (next st s) ss e w

-- a `done` line among lines ends what they say
done_ends : (u : ℕ) → u ≤ 4096 → (ls : List (List ℕ)) (ss : List Sentence) → AreSaid ls ss → AllFit u ss → (l : List ℕ) → Contains ls l → IsDoneLine l → Ends ss
done_ends u low [] ss a f l h d = absurd (let k = h.1 in omega (arith, k))
done_ends u low (m ∷ ls) [] a f l h d = absurd a
done_ends u low (m ∷ ls) (s ∷ ss) a f l h d = by (done_ends u low ls ss a.1 f.1 l) h.0 h.1 h.2
  where
    by : (Contains ls l → IsDoneLine l → Ends ss) → (k : ℕ) → k < length (m ∷ ls) → slice_index_or (m ∷ ls) k l ≡ l → Ends (s ∷ ss)
    by again zero lt e = inl (done_said u low m s f.0 a.0.0 (subst IsDoneLine (sym e) d))
    by again (suc k) lt e = inr (again (k, omega (arith, lt), e) d)

module _ (text rest : List ℕ) (k : ℕ) (st : State) (r : IsReadTo text rest k st) where
  -- the sentences of a whole certificate are its own
  sentences_are : (v : Version) (c : Certificate) → st ≡ Whole v c → r.sentences ≡ sentences v c
  sentences_are v c e = whole_is r.sentences v c (r.leads ∙ e)

  finished : (v : Version) (c : Certificate) → st ≡ Whole v c → HasDone r.lines
  finished v c e =
      let entries = flat_map (entry_sentences (said_in v c)) c.entries in
      let front = head v c ++ (table_sentences v c ++ entries) in
      let last : Sentence = says.Done (length c.entries) in
      let split : r.sentences ≡ front ++ last ∷ [] =
      sentences_are v c e ∙ ap (λ x. head v c ++ x) (sym (append_assoc (table_sentences v c) entries (last ∷ []))) ∙ sym (append_assoc (head v c) (table_sentences v c ++ entries) (last ∷ [])) in
      let l = last_said r.lines front last (subst (AreSaid r.lines) split r.said) in
      (l.line, subst (λ x. Contains x l.line) (sym l.split) (Contains-push l.before l.line), said_done l.line (length c.entries) l.says_it)

  unfinished : (IsWhole st → ⊥) → HasDone r.lines → ⊥
  unfinished n h =
      let e = done_ends (unknowns st) (small text rest k st r) r.lines r.sentences r.said r.fits h.0 h.1 h.2 in
      let w = whole_end AtStart r.sentences e (λ q. r.live (sym r.leads ∙ q)) in
      n (record { version = w.version; certificate = w.certificate; is = sym r.leads ∙ w.is })

  pub truncated : length text + 8 < max_number → Lacks 10 rest → (IsWhole st → ⊥) → IsTruncated text
  truncated few h n = record {
    lines = r.lines;
    piece = rest;
    cut = record { joined = r.joined; lines = said_lines r.lines r.sentences r.said; unended = h };
    right = are_right text rest k st r few;
    unfinished = unfinished n;
  }

  pub trailing : (v : Version) (c : Certificate) → st ≡ Whole v c → length text + 8 < max_number → Lacks 10 rest → rest ≢ [] → IsTrailing text (k + 1)
  trailing v c e few h n = record {
    lines = r.lines;
    piece = rest;
    cut = record { joined = r.joined; lines = said_lines r.lines r.sentences r.said; unended = h };
    right = are_right text rest k st r few;
    finished = finished v c e;
    some = n;
    at_line = ap (λ x. x + 1) r.counted;
  }

  pub whole_text : (v : Version) (c : Certificate) → st ≡ Whole v c → length text + 8 < max_number → rest ≡ [] → IsText text c
  whole_text v c e few h =
      let s = sentences_are v c e in
      let fit = subst (AllFit c.unknowns) s (subst (λ x. AllFit (unknowns x) r.sentences) e r.fits) in
      let count : length (sentences v c) ≤ max_number = (let a = ap (λ (x : List Sentence). length x) s in let b = said_count text rest k st r in let d = counted_within text rest k st r in omega (arith, a, b, d, few)) in
      record {
        version = v;
        fits = fit_certificate v c fit (few_different v c c.unknowns fit (λ o. count));
        spelled = r.joined ∙ ap (λ x. with_ends r.lines ++ x) h ∙ append-nil (with_ends r.lines) ∙ said_text r.lines r.sentences r.said ∙ ap spelled s;
      }

-- ---- the lines of a text

lines_said : (u : ℕ) → u ≤ 4096 → (ss : List Sentence) → AllFit u ss → AreSaid (map line_of ss) ss
lines_said u low [] h = tt
lines_said u low (s ∷ ss) h = ((of_says s, of_lacks u low s h.0), lines_said u low ss h.1)

-- a certificate's text as ended lines, of which one is a `done` line
pub record WholeText (text : List ℕ) : Type 0 where
  pub lines : List (List ℕ)
  pub cut : IsCut text lines []
  pub finished : HasDone lines

pub text_done : (text : List ℕ) (c : Certificate) → IsText text c → WholeText text
text_done text c h =
    let v = h.version in
    let fit = fit_lines v c h.fits in
    let ls = map line_of (sentences v c) in
    let said = lines_said c.unknowns h.fits.head.unknowns (sentences v c) fit in
    let r : IsReadTo text [] (length ls) (Whole v c) = record {
      lines = ls;
      sentences = sentences v c;
      said = said;
      fits = fit;
      leads = whole_run v c;
      live = λ e. cc;
      joined = h.spelled ∙ sym (said_text ls (sentences v c) said) ∙ sym (append-nil (with_ends ls));
      counted = refl;
    } in
    record { lines = ls; cut = record { joined = r.joined; lines = said_lines ls (sentences v c) said; unended = tt }; finished = finished text [] (length ls) (Whole v c) r v c refl }
