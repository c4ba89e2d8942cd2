-- Each line that is taken is the last of those that lead to the state.
use Rattle.std.specs.Prelude.{◌≡◌, ◌≢◌, ℕ, Bool, true, false, ◌&&◌, ◌==◌, if◌then◌else◌, Option, None, Some, List, [], ◌∷◌, ◌++◌, length, map, flat_map, refl}
use Rattle.std.proofs.Common.{sym, ◌∙◌, ap, subst, append_assoc, append-nil, arith}
use Rattle.std.proofs.lemmas.Grind.{flat_map-append}
use Rattle.std.proofs.lemmas.List.{map-append, length-append}
use Rattle.sparse_poly.specs.declared.Term.{Term}
use Rattle.derive_lines.specs.declared.parts.Decision.{Decision}
use Rattle.derive_lines.specs.declared.parts.Line.{Line}
use Rattle.leaf_cert.specs.declared.ends.LeafEnd.{LeafEnd}
use Rattle.leaf_cert.specs.declared.certificate.RawEntry.{RawEntry}
use Rattle.leaf_cert.specs.declared.certificate.RawEntry.TheVariants.{Split, Post, Close, Publish}
use Rattle.leaf_cert.specs.declared.certificate.Certificate.{Certificate}
use Rattle.cert_text.specs.declared.version.Version.{Version}
use Rattle.cert_text.specs.declared.version.Version.TheVariants.{One, Two}
use Rattle.cert_text.specs.declared.sentence.Sentence.{Sentence}
use Rattle.cert_text.specs.declared.sentence.Sentence.TheVariants as says
use Rattle.cert_text.specs.Tables.{stands_in, entry_lines, table}
use Rattle.cert_text.specs.Sentences.{entry_sentences, head, sentences}
use Rattle.cert_read.specs.declared.machine.Head.{Head}
use Rattle.cert_read.specs.Machine.{Wording, InFull, ByPlace, Open, Nothing, InPost, InLeaf, State, AtStart, AtUnknowns, AtEquations, AtBudget, AtLines, InTable, Listing, Whole, Wrong, Taken, taken, is_used_up, version_of, certificate, begin, derive, in_post, in_leaf, listing, at_start, at_unknowns, at_equations, headed, at_budget, filled, at_lines, in_table, next, run, said, open_sentences, table_of, printed}
use Rattle.cert_read.proofs.Tables.{equal_number, both}
use Rattle.cert_read.proofs.Runs.{run-append, run-wrong, whole_run}
use Rattle.cert_read.proofs.Used.{different, IsTableOf, IsUsedBy, takes, lines_of, closed_lines, IsSound, sound_next}

-- the lines of whole entries, and further ones
abbrev behind : Head → Wording → List RawEntry → List Sentence → List Sentence
behind h w es ss = head (version_of w) (certificate h es) ++ (table_of w ++ (flat_map (entry_sentences (said w)) es ++ ss))

module _ (w : Wording) where
  pub one_more : (es : List RawEntry) (e : RawEntry) → flat_map (entry_sentences (said w)) (es ++ e ∷ []) ≡ flat_map (entry_sentences (said w)) es ++ entry_sentences (said w) e
  one_more es e = flat_map-append (entry_sentences (said w)) es (e ∷ []) ∙ ap (λ l. flat_map (entry_sentences (said w)) es ++ l) (append-nil (entry_sentences (said w) e))

-- an entry more, behind which nothing is open
closed : (h : Head) (w : Wording) (es : List RawEntry) (e : RawEntry) → behind h w (es ++ e ∷ []) [] ≡ behind h w es (entry_sentences (said w) e)
closed h w es e = ap (λ l. head (version_of w) (certificate h es) ++ (table_of w ++ l)) (append-nil (flat_map (entry_sentences (said w)) (es ++ e ∷ [])) ∙ one_more w es e)

-- a table all of whose places are used is that of the lines
used_table : (t : List Line) (used : ℕ) (ls : List Line) → IsTableOf t used ls → (used == length t) ≡ true → t ≡ different ls
used_table t used ls h e = by h.more h.split (equal_number used (length t) e)
  where
    by : (more : List Line) → t ≡ different ls ++ more → used ≡ length t → t ≡ different ls
    by [] k n = k ∙ append-nil (different ls)
    by (m ∷ more) k n = let a = ap (λ (x : List Line). length x) k ∙ length-append (different ls) (m ∷ more) in let c = h.counted in absurd (omega (arith, a, n, c))

-- the lines of the certificate
whole_printed : (h : Head) (w : Wording) (used : ℕ) (es : List RawEntry) → IsUsedBy w used (lines_of es Nothing) → is_used_up w used ≡ true → sentences (version_of w) (certificate h es) ≡ behind h w es (says.Done (length es) ∷ [])
whole_printed h InFull used es u e = refl
whole_printed h (ByPlace t) used es u e =
    let same : table (certificate h es) ≡ t = sym (used_table t used (lines_of es Nothing) u e ∙ ap different (append-nil (flat_map entry_lines es))) in
    ap (λ x. head Two (certificate h es) ++ (table_of (ByPlace x) ++ (flat_map (entry_sentences (said (ByPlace x))) es ++ says.Done (length es) ∷ []))) same

begin_printed : (h : Head) (w : Wording) (used : ℕ) (es : List RawEntry) (s : Sentence) → IsUsedBy w used (lines_of es Nothing) → begin h w used es s ≢ Wrong → printed (begin h w used es s) ≡ behind h w es (s ∷ [])
begin_printed h w used es (says.Split n by) u ok = closed h w es (Split n by)
begin_printed h w used es says.Post u ok = refl
begin_printed h w used es (says.Close n k) u ok = closed h w es (Close n k)
begin_printed h w used es (says.Leaf n end) u ok = refl
begin_printed h w used es (says.Done n) u ok = by ((n == length es) && is_used_up w used) refl ok
  where
    by : (b : Bool) → (n == length es) && is_used_up w used ≡ b → (if b then Whole (version_of w) (certificate h es) else Wrong) ≢ Wrong → printed (if b then Whole (version_of w) (certificate h es) else Wrong) ≡ behind h w es (says.Done n ∷ [])
    by true e ok = let k = both (n == length es) (is_used_up w used) e in whole_printed h w used es u k.1 ∙ ap (λ m. behind h w es (says.Done m ∷ [])) (sym (equal_number n (length es) k.0))
    by false e ok = absurd (ok refl)
begin_printed h w used es s u ok = absurd (ok refl)

decisions_more : (ds : List Decision) (d : Decision) → map says.Decided (ds ++ d ∷ []) ++ [] ≡ (map says.Decided ds ++ []) ++ says.Decided d ∷ []
decisions_more ds d = append-nil (map says.Decided (ds ++ d ∷ [])) ∙ map-append says.Decided ds (d ∷ []) ∙ ap (λ l. l ++ says.Decided d ∷ []) (sym (append-nil (map says.Decided ds)))

lines_more : (w : Wording) (front : List Sentence) (ls : List Line) (l : Line) → front ++ map (said w) (ls ++ l ∷ []) ≡ (front ++ map (said w) ls) ++ said w l ∷ []
lines_more w front ls l = ap (λ x. front ++ x) (map-append (said w) ls (l ∷ [])) ∙ sym (append_assoc front (map (said w) ls) (said w l ∷ []))

module _ (h : Head) (w : Wording) (used : ℕ) (es : List RawEntry) where
  derive_post : (ds : List Decision) (ls : List Line) (s : Sentence) → IsUsedBy w used (lines_of es (InPost ds ls)) → (o : Option Taken) → taken w used s ≡ o → derive h w es (InPost ds ls) o ≢ Wrong → printed (derive h w es (InPost ds ls) o) ≡ behind h w es (open_sentences w (InPost ds ls) ++ s ∷ [])
  derive_post ds ls s u None e ok = absurd (ok refl)
  derive_post ds ls s u (Some x) e ok =
      let k = takes w used (lines_of es (InPost ds ls)) u s x e in
      ap (λ z. behind h w es (says.Post ∷ z)) (lines_more w (map says.Decided ds) ls x.line) ∙ ap (λ z. behind h w es (open_sentences w (InPost ds ls) ++ z ∷ [])) k.says_it

  derive_leaf : (n : ℕ) (end : LeafEnd) (ds : List Decision) (ls : List Line) (ps : List (List Term)) (s : Sentence) → IsUsedBy w used (lines_of es (InLeaf n end ds ls ps)) → (o : Option Taken) → taken w used s ≡ o → derive h w es (InLeaf n end ds ls ps) o ≢ Wrong
      → printed (derive h w es (InLeaf n end ds ls ps) o) ≡ behind h w es (open_sentences w (InLeaf n end ds ls ps) ++ s ∷ [])
  derive_leaf n end ds ls [] s u None e ok = absurd (ok refl)
  derive_leaf n end ds ls [] s u (Some x) e ok =
      let k = takes w used (lines_of es (InLeaf n end ds ls [])) u s x e in
      ap (λ z. behind h w es (says.Leaf n end ∷ z)) (ap (λ z. map says.Decided ds ++ z) (append-nil (map (said w) (ls ++ x.line ∷ []))) ∙ lines_more w (map says.Decided ds) ls x.line ∙ ap (λ z. (map says.Decided ds ++ z) ++ said w x.line ∷ []) (sym (append-nil (map (said w) ls))))
      ∙ ap (λ z. behind h w es (open_sentences w (InLeaf n end ds ls []) ++ z ∷ [])) k.says_it
  derive_leaf n end ds ls (p ∷ ps) s u None e ok = absurd (ok refl)
  derive_leaf n end ds ls (p ∷ ps) s u (Some x) e ok = absurd (ok refl)

  in_post_printed : (ds : List Decision) (ls : List Line) (s : Sentence) → IsUsedBy w used (lines_of es (InPost ds ls)) → in_post h w used es ds ls s ≢ Wrong → printed (in_post h w used es ds ls s) ≡ behind h w es (open_sentences w (InPost ds ls) ++ s ∷ [])
  in_post_printed ds [] (says.Decided d) u ok = ap (λ l. behind h w es (says.Post ∷ l)) (decisions_more ds d)
  in_post_printed ds (l ∷ ls) (says.Decided d) u ok = absurd (ok refl)
  in_post_printed ds ls (says.Derived l) u ok = derive_post ds ls (says.Derived l) u (taken w used (says.Derived l)) refl ok
  in_post_printed ds ls (says.Use i) u ok = derive_post ds ls (says.Use i) u (taken w used (says.Use i)) refl ok
  in_post_printed ds ls (says.End item) u ok = closed h w es (Post ds ls item) ∙ ap (λ l. behind h w es (says.Post ∷ l)) (sym (append_assoc (map says.Decided ds) (map (said w) ls) (says.End item ∷ [])))
  in_post_printed ds ls s u ok = absurd (ok refl)

  leaf_begin : (n : ℕ) (end : LeafEnd) (ds : List Decision) (ls : List Line) (ps : List (List Term)) (s : Sentence) → IsUsedBy w used (lines_of es (InLeaf n end ds ls ps)) → begin h w used (es ++ Publish n ds ls ps end ∷ []) s ≢ Wrong
      → printed (begin h w used (es ++ Publish n ds ls ps end ∷ []) s) ≡ behind h w es (open_sentences w (InLeaf n end ds ls ps) ++ s ∷ [])
  leaf_begin n end ds ls ps s u ok =
      let o = open_sentences w (InLeaf n end ds ls ps) in
      let v = subst (IsUsedBy w used) (sym (closed_lines es (Publish n ds ls ps end))) u in
      begin_printed h w used (es ++ Publish n ds ls ps end ∷ []) s v ok
      ∙ ap (λ l. head (version_of w) (certificate h es) ++ (table_of w ++ (l ++ s ∷ []))) (one_more w es (Publish n ds ls ps end))
      ∙ ap (λ l. head (version_of w) (certificate h es) ++ (table_of w ++ l)) (append_assoc (flat_map (entry_sentences (said w)) es) o (s ∷ []))

  equations_more : (ds ls : List Sentence) (ps : List (List Term)) (p : List Term) → ds ++ (ls ++ map says.Equation (ps ++ p ∷ [])) ≡ (ds ++ (ls ++ map says.Equation ps)) ++ says.Equation p ∷ []
  equations_more ds ls ps p =
      ap (λ x. ds ++ (ls ++ x)) (map-append says.Equation ps (p ∷ []))
      ∙ ap (λ x. ds ++ x) (sym (append_assoc ls (map says.Equation ps) (says.Equation p ∷ [])))
      ∙ sym (append_assoc ds (ls ++ map says.Equation ps) (says.Equation p ∷ []))

  in_leaf_printed : (n : ℕ) (end : LeafEnd) (ds : List Decision) (ls : List Line) (ps : List (List Term)) (s : Sentence) → IsUsedBy w used (lines_of es (InLeaf n end ds ls ps)) → in_leaf h w used es n end ds ls ps s ≢ Wrong
      → printed (in_leaf h w used es n end ds ls ps s) ≡ behind h w es (open_sentences w (InLeaf n end ds ls ps) ++ s ∷ [])
  in_leaf_printed n end ds [] [] (says.Decided d) u ok = ap (λ l. behind h w es (says.Leaf n end ∷ l)) (decisions_more ds d)
  in_leaf_printed n end ds [] (p ∷ ps) (says.Decided d) u ok = absurd (ok refl)
  in_leaf_printed n end ds (l ∷ ls) ps (says.Decided d) u ok = absurd (ok refl)
  in_leaf_printed n end ds ls ps (says.Derived l) u ok = derive_leaf n end ds ls ps (says.Derived l) u (taken w used (says.Derived l)) refl ok
  in_leaf_printed n end ds ls ps (says.Use i) u ok = derive_leaf n end ds ls ps (says.Use i) u (taken w used (says.Use i)) refl ok
  in_leaf_printed n end ds ls ps (says.Equation p) u ok = ap (λ x. behind h w es (says.Leaf n end ∷ x)) (equations_more (map says.Decided ds) (map (said w) ls) ps p)
  in_leaf_printed n end ds ls ps s u ok = leaf_begin n end ds ls ps s u ok

  listing_printed : (o : Open) (s : Sentence) → IsUsedBy w used (lines_of es o) → listing h w used es o s ≢ Wrong → printed (listing h w used es o s) ≡ behind h w es (open_sentences w o ++ s ∷ [])
  listing_printed Nothing s u ok = begin_printed h w used es s u ok
  listing_printed (InPost ds ls) s u ok = in_post_printed ds ls s u ok
  listing_printed (InLeaf n end ds ls ps) s u ok = in_leaf_printed n end ds ls ps s u ok

  -- the lines behind the head are further ones
  behind_more : (o : List Sentence) (s : Sentence) → behind h w es (o ++ s ∷ []) ≡ behind h w es o ++ s ∷ []
  behind_more o s =
      let entries = flat_map (entry_sentences (said w)) es in
      ap (λ l. head (version_of w) (certificate h es) ++ l) (ap (λ l. table_of w ++ l) (sym (append_assoc entries o (s ∷ []))) ∙ sym (append_assoc (table_of w) (entries ++ o) (s ∷ [])))

start_printed : (s : Sentence) → at_start s ≢ Wrong → printed (at_start s) ≡ s ∷ []
start_printed (says.Title v) ok = refl
start_printed s ok = absurd (ok refl)

unknowns_printed : (v : Version) (s : Sentence) → at_unknowns v s ≢ Wrong → printed (at_unknowns v s) ≡ says.Title v ∷ s ∷ []
unknowns_printed v (says.Unknowns u) ok = refl
unknowns_printed v s ok = absurd (ok refl)

equations_printed : (v : Version) (u : ℕ) (s : Sentence) → at_equations v u s ≢ Wrong → printed (at_equations v u s) ≡ says.Title v ∷ says.Unknowns u ∷ s ∷ []
equations_printed v u (says.Equations e) ok = refl
equations_printed v u s ok = absurd (ok refl)

headed_printed : (v : Version) (h : Head) → printed (headed v h) ≡ head v (certificate h [])
headed_printed One h = refl
headed_printed Two h = refl

budget_printed : (v : Version) (u e : ℕ) (s : Sentence) → at_budget v u e s ≢ Wrong → printed (at_budget v u e s) ≡ says.Title v ∷ says.Unknowns u ∷ says.Equations e ∷ s ∷ []
budget_printed v u e (says.Budget b) ok = headed_printed v (record { unknowns = u; equations = e; budget = b })
budget_printed v u e s ok = absurd (ok refl)

filled_printed : (h : Head) (size : ℕ) (t : List Line) → printed (filled h size t) ≡ printed (InTable h size t)
filled_printed h size t = by (length t == size) refl
  where
    by : (b : Bool) → (length t == size) ≡ b → printed (if b then Listing h (ByPlace t) 0 [] Nothing else InTable h size t) ≡ printed (InTable h size t)
    by true e = ap (λ n. head Two (certificate h []) ++ (says.Lines n ∷ map says.Derived t ++ [])) (equal_number (length t) size e) ∙ ap (λ l. head Two (certificate h []) ++ says.Lines size ∷ l) (append-nil (map says.Derived t))
    by false e = refl

lines_printed : (h : Head) (s : Sentence) → at_lines h s ≢ Wrong → printed (at_lines h s) ≡ head Two (certificate h []) ++ s ∷ []
lines_printed h (says.Lines n) ok = filled_printed h n []
lines_printed h s ok = absurd (ok refl)

table_printed : (h : Head) (size : ℕ) (t : List Line) (s : Sentence) → in_table h size t s ≢ Wrong → printed (in_table h size t s) ≡ printed (InTable h size t) ++ s ∷ []
table_printed h size t (says.Derived l) ok = by (stands_in t l) ok
  where
    by : (b : Bool) → (if b then Wrong else filled h size (t ++ l ∷ [])) ≢ Wrong → printed (if b then Wrong else filled h size (t ++ l ∷ [])) ≡ printed (InTable h size t) ++ says.Derived l ∷ []
    by true ok = absurd (ok refl)
    by false ok = filled_printed h size (t ++ l ∷ []) ∙ ap (λ x. head Two (certificate h []) ++ says.Lines size ∷ x) (map-append says.Derived t (l ∷ []))
table_printed h size t s ok = absurd (ok refl)

-- a line that is taken stands behind those before it
pub next_printed : (st : State) (s : Sentence) → IsSound st → next st s ≢ Wrong → printed (next st s) ≡ printed st ++ s ∷ []
next_printed AtStart s u ok = start_printed s ok
next_printed (AtUnknowns v) s u ok = unknowns_printed v s ok
next_printed (AtEquations v n) s u ok = equations_printed v n s ok
next_printed (AtBudget v n e) s u ok = budget_printed v n e s ok
next_printed (AtLines h) s u ok = lines_printed h s ok
next_printed (InTable h size t) s u ok = table_printed h size t s ok
next_printed (Listing h w used es o) s u ok = listing_printed h w used es o s u ok ∙ behind_more h w used es (open_sentences w o) s
next_printed (Whole v c) s u ok = absurd (ok refl)
next_printed Wrong s u ok = absurd (ok refl)

-- a certificate whose lines begin so, in a version
pub record Begins (ss : List Sentence) : Type 0 where
  pub version : Version
  pub certificate : Certificate
  pub more : List Sentence
  pub split : sentences version certificate ≡ ss ++ more

still_live : (st : State) (s : Sentence) (ss : List Sentence) → run st (s ∷ ss) ≢ Wrong → next st s ≢ Wrong
still_live st s ss ok e = ok (ap (λ x. run x ss) e ∙ run-wrong ss)

pub run_sound : (st : State) (ss : List Sentence) → IsSound st → run st ss ≢ Wrong → IsSound (run st ss)
run_sound st [] u ok = u
run_sound st (s ∷ ss) u ok = run_sound (next st s) ss (sound_next st s u (still_live st s ss ok)) ok

-- a run that is live has taken each line
pub run_printed : (st : State) (ss : List Sentence) → IsSound st → run st ss ≢ Wrong → printed (run st ss) ≡ printed st ++ ss
run_printed st [] u ok = sym (append-nil (printed st))
run_printed st (s ∷ ss) u ok =
    let here = still_live st s ss ok in
    run_printed (next st s) ss (sound_next st s u here) ok ∙ ap (λ l. l ++ ss) (next_printed st s u here) ∙ append_assoc (printed st) (s ∷ []) ss

-- the machine takes the lines that begin a certificate's
pub begins_run : (ss : List Sentence) → Begins ss → run AtStart ss ≢ Wrong
begins_run ss b w =
    let e : Whole b.version b.certificate ≡ Wrong = sym (whole_run b.version b.certificate) ∙ ap (run AtStart) b.split ∙ run-append AtStart ss b.more ∙ ap (λ x. run x b.more) w ∙ run-wrong b.more in
    absurd (cc)

-- and where it ends at a certificate they are all of its lines
pub whole_is : (ss : List Sentence) (v : Version) (c : Certificate) → run AtStart ss ≡ Whole v c → ss ≡ sentences v c
whole_is ss v c e = let w : run AtStart ss ≢ Wrong = λ f. (let g : Whole v c ≡ Wrong = sym e ∙ f in absurd (cc)) in sym (run_printed AtStart ss tt w) ∙ ap printed e
