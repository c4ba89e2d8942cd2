-- Each certificate's lines lead to it.
use Rattle.std.specs.Prelude.{◌≡◌, ℕ, suc, ◌≤◌, Bool, true, false, ◌&&◌, ◌==◌, nat_le, if◌then◌else◌, None, Some, List, [], ◌∷◌, ◌++◌, length, map, flat_map, slice_get, refl}
use Rattle.std.proofs.Common.{sym, ◌∙◌, ap, subst, append_assoc, append-nil, arith}
use Rattle.std.proofs.lemmas.Bool.Decides.{nat_tests}
use Rattle.std.proofs.lemmas.List.{length-append}
use Rattle.sparse_poly.specs.declared.Term.{Term}
use Rattle.derive_lines.specs.declared.parts.Decision.{Decision}
use Rattle.derive_lines.specs.declared.parts.Line.{Line}
use Rattle.leaf_cert.specs.declared.ends.LeafEnd.{LeafEnd}
use Rattle.leaf_cert.specs.declared.certificate.RawEntry.{RawEntry}
use Rattle.leaf_cert.specs.declared.certificate.RawEntry.TheVariants.{Split, Post, Close, Publish}
use Rattle.leaf_cert.specs.declared.certificate.Certificate.{Certificate}
use Rattle.cert_text.specs.declared.version.Version.{Version}
use Rattle.cert_text.specs.declared.version.Version.TheVariants.{One, Two}
use Rattle.cert_text.specs.declared.sentence.Sentence.{Sentence}
use Rattle.cert_text.specs.declared.sentence.Sentence.TheVariants as says
use Rattle.cert_text.specs.Tables.{stands_in, with_new, place, entry_lines, table}
use Rattle.cert_text.specs.Sentences.{entry_sentences, sentences}
use Rattle.cert_read.specs.declared.machine.Head.{Head}
use Rattle.cert_read.specs.Machine.{Wording, InFull, ByPlace, Nothing, InPost, InLeaf, State, AtStart, InTable, Listing, Whole, Wrong, taken_at, taken, is_used_up, version_of, certificate, begin, derive, in_post, in_leaf, filled, next, run, said}
use Rattle.cert_read.proofs.Tables.{own_number, other_number, at_place, old_place, new_place, still_stands, HasEachOnce, none_once, new_append, grows, new_once}
use Rattle.cert_read.proofs.Used.{different}

pub run-append : (st : State) (ss ts : List Sentence) → run st (ss ++ ts) ≡ run (run st ss) ts
run-append st [] ts = refl
run-append st (s ∷ ss) ts = run-append (next st s) ss ts

pub run-wrong : (ss : List Sentence) → run Wrong ss ≡ Wrong
run-wrong [] = refl
run-wrong (s ∷ ss) = run-wrong ss

-- ---- lines of derivations

-- behind these lines so many places are used, and with the rest the whole table is made
pub record MakesTable (t : List Line) (used : ℕ) (ls rest : List Line) : Type 0 where
  pub counted : used ≡ length (different ls)
  pub made : t ≡ different (ls ++ rest)

abbrev pub Makes : Wording → ℕ → List Line → List Line → Type 0
Makes InFull used ls rest = Unit {0}
Makes (ByPlace t) used ls rest = MakesTable t used ls rest

-- the next line is taken
pub record IsTakenNext (w : Wording) (used : ℕ) (ls : List Line) (l : Line) (rest : List Line) : Type 0 where
  pub after : ℕ
  pub takes : taken w used (said w l) ≡ Some (record { line = l; used = after })
  pub makes : Makes w after (ls ++ l ∷ []) rest

module _ (t : List Line) (used : ℕ) (ls : List Line) (l : Line) (rest : List Line) (h : MakesTable t used ls (l ∷ rest)) where
  abbrev f : List Line
  f = different ls

  -- the table behind this line
  abbrev g : List Line
  g = if stands_in f l then f else f ++ l ∷ []

  one_more : different (ls ++ l ∷ []) ≡ g
  one_more = new_append [] ls (l ∷ [])

  whole : t ≡ with_new g rest
  whole = h.made ∙ new_append [] ls (l ∷ rest)

  later : t ≡ different ((ls ++ l ∷ []) ++ rest)
  later = h.made ∙ ap different (sym (append_assoc ls (l ∷ []) rest))

  taken_so : (i : ℕ) → nat_le i used ≡ true → slice_get t i ≡ Some l → (n : ℕ) → (if i == used then suc used else used) ≡ n → taken (ByPlace t) used (says.Use i) ≡ Some (record { line = l; used = n })
  taken_so i low got n e = ap (λ b. if b then taken_at (if i == used then suc used else used) (slice_get t i) else None) low ∙ ap (taken_at (if i == used then suc used else used)) got ∙ ap (λ m. taken_at m (Some l)) e

  take_old : stands_in f l ≡ true → IsTakenNext (ByPlace t) used ls l rest
  take_old e =
      let k : with_new g rest ≡ with_new f rest = ap (λ b. with_new (if b then f else f ++ l ∷ []) rest) e in
      let m = grows f rest in
      let split : t ≡ f ++ m.0 = whole ∙ k ∙ m.1 in
      let p = old_place f m.0 l e in
      let a : place t l ≡ place f l = ap (λ x. place x l) split ∙ p.0 in
      let lt = p.1 in
      let c = h.counted in
      let got : slice_get t (place t l) ≡ Some l = at_place t l (ap (λ x. stands_in x l) split ∙ still f m.0 e) in
      let low : nat_le (place t l) used ≡ true = (let le : place t l ≤ used = omega (arith, lt, a, c) in grind (arith, nat_tests)) in
      let other : (place t l == used) ≡ false = other_number (place t l) used (omega (arith, lt, a, c)) in
      record {
        after = used;
        takes = taken_so (place t l) low got used (ap (λ b. if b then suc used else used) other);
        makes = record { counted = c ∙ ap (λ (x : List Line). length x) (sym (one_more ∙ ap (λ b. if b then f else f ++ l ∷ []) e)); made = later };
      }
    where
      still : (x more : List Line) → stands_in x l ≡ true → stands_in (x ++ more) l ≡ true
      still x more = still_stands x more l

  take_new : stands_in f l ≡ false → IsTakenNext (ByPlace t) used ls l rest
  take_new e =
      let longer : g ≡ f ++ l ∷ [] = ap (λ b. if b then f else f ++ l ∷ []) e in
      let m = grows (f ++ l ∷ []) rest in
      let split : t ≡ f ++ l ∷ m.0 = whole ∙ ap (λ x. with_new x rest) longer ∙ m.1 ∙ append_assoc f (l ∷ []) m.0 in
      let c = h.counted in
      let at : place t l ≡ used = ap (λ x. place x l) split ∙ new_place f m.0 l e ∙ sym c in
      let got : slice_get t (place t l) ≡ Some l = ap (slice_get t) (at ∙ c) ∙ ap (λ x. slice_get x (length f)) split ∙ nth f m.0 in
      let low : nat_le (place t l) used ≡ true = ap (λ n. nat_le n used) at ∙ reaches used in
      let own : (place t l == used) ≡ true = ap (λ n. n == used) at ∙ own_number used in
      let n = length-append f (l ∷ []) in
      let count : suc used ≡ length (f ++ l ∷ []) = omega (arith, n, c) in
      record {
        after = suc used;
        takes = taken_so (place t l) low got (suc used) (ap (λ b. if b then suc used else used) own);
        makes = record { counted = count ∙ ap (λ (x : List Line). length x) (sym (one_more ∙ longer)); made = later };
      }
    where
      nth : (x more : List Line) → slice_get (x ++ l ∷ more) (length x) ≡ Some l
      nth [] more = refl
      nth (k ∷ x) more = nth x more

      reaches : (n : ℕ) → nat_le n n ≡ true
      reaches n = grind (arith, nat_tests)

  take_next : IsTakenNext (ByPlace t) used ls l rest
  take_next = by (stands_in f l) refl
    where
      by : (b : Bool) → stands_in f l ≡ b → IsTakenNext (ByPlace t) used ls l rest
      by true e = take_old e
      by false e = take_new e

taken_next : (w : Wording) (used : ℕ) (ls : List Line) (l : Line) (rest : List Line) → Makes w used ls (l ∷ rest) → IsTakenNext w used ls l rest
taken_next InFull used ls l rest h = record { after = used; takes = refl; makes = tt }
taken_next (ByPlace t) used ls l rest h = take_next t used ls l rest h

module _ (h : Head) (w : Wording) where
  post_line : (used : ℕ) (es : List RawEntry) (ds : List Decision) (ls : List Line) (l : Line) → in_post h w used es ds ls (said w l) ≡ derive h w es (InPost ds ls) (taken w used (said w l))
  post_line = by w
    where
      by : (w : Wording) (used : ℕ) (es : List RawEntry) (ds : List Decision) (ls : List Line) (l : Line) → in_post h w used es ds ls (said w l) ≡ derive h w es (InPost ds ls) (taken w used (said w l))
      by InFull used es ds ls l = refl
      by (ByPlace t) used es ds ls l = refl

  leaf_line : (used : ℕ) (es : List RawEntry) (n : ℕ) (end : LeafEnd) (ds : List Decision) (ls : List Line) (ps : List (List Term)) (l : Line) → in_leaf h w used es n end ds ls ps (said w l) ≡ derive h w es (InLeaf n end ds ls ps) (taken w used (said w l))
  leaf_line = by w
    where
      by : (w : Wording) (used : ℕ) (es : List RawEntry) (n : ℕ) (end : LeafEnd) (ds : List Decision) (ls : List Line) (ps : List (List Term)) (l : Line) → in_leaf h w used es n end ds ls ps (said w l) ≡ derive h w es (InLeaf n end ds ls ps) (taken w used (said w l))
      by InFull used es n end ds ls ps l = refl
      by (ByPlace t) used es n end ds ls ps l = refl

  post_decisions : (used : ℕ) (es : List RawEntry) (old ds : List Decision) (ss : List Sentence) → run (Listing h w used es (InPost old [])) (map says.Decided ds ++ ss) ≡ run (Listing h w used es (InPost (old ++ ds) [])) ss
  post_decisions used es old [] ss = ap (λ l. run (Listing h w used es (InPost l [])) ss) (sym (append-nil old))
  post_decisions used es old (d ∷ ds) ss = post_decisions used es (old ++ d ∷ []) ds ss ∙ ap (λ l. run (Listing h w used es (InPost l [])) ss) (append_assoc old (d ∷ []) ds)

  leaf_decisions : (used : ℕ) (es : List RawEntry) (n : ℕ) (end : LeafEnd) (old ds : List Decision) (ss : List Sentence) → run (Listing h w used es (InLeaf n end old [] [])) (map says.Decided ds ++ ss) ≡ run (Listing h w used es (InLeaf n end (old ++ ds) [] [])) ss
  leaf_decisions used es n end old [] ss = ap (λ l. run (Listing h w used es (InLeaf n end l [] [])) ss) (sym (append-nil old))
  leaf_decisions used es n end old (d ∷ ds) ss = leaf_decisions used es n end (old ++ d ∷ []) ds ss ∙ ap (λ l. run (Listing h w used es (InLeaf n end l [] [])) ss) (append_assoc old (d ∷ []) ds)

  leaf_equations : (used : ℕ) (es : List RawEntry) (n : ℕ) (end : LeafEnd) (ds : List Decision) (ls : List Line) (old ps : List (List Term)) (ss : List Sentence) → run (Listing h w used es (InLeaf n end ds ls old)) (map says.Equation ps ++ ss) ≡ run (Listing h w used es (InLeaf n end ds ls (old ++ ps))) ss
  leaf_equations used es n end ds ls old [] ss = ap (λ l. run (Listing h w used es (InLeaf n end ds ls l)) ss) (sym (append-nil old))
  leaf_equations used es n end ds ls old (p ∷ ps) ss = leaf_equations used es n end ds ls (old ++ p ∷ []) ps ss ∙ ap (λ l. run (Listing h w used es (InLeaf n end ds ls l)) ss) (append_assoc old (p ∷ []) ps)

  -- lines of a post, behind further ones
  post_lines : (used : ℕ) (es : List RawEntry) (ds : List Decision) (old ls before rest : List Line) (ss : List Sentence) → Makes w used before (ls ++ rest)
      → (n : ℕ) × Makes w n (before ++ ls) rest × (run (Listing h w used es (InPost ds old)) (map (said w) ls ++ ss) ≡ run (Listing h w n es (InPost ds (old ++ ls))) ss)
  post_lines used es ds old [] before rest ss m = (used, subst (λ x. Makes w used x rest) (sym (append-nil before)) m, ap (λ l. run (Listing h w used es (InPost ds l)) ss) (sym (append-nil old)))
  post_lines used es ds old (l ∷ ls) before rest ss m =
      let k = taken_next w used before l (ls ++ rest) m in
      let r = post_lines k.after es ds (old ++ l ∷ []) ls (before ++ l ∷ []) rest ss k.makes in (
        r.0,
        subst (λ x. Makes w r.0 x rest) (append_assoc before (l ∷ []) ls) r.1,
        ap (λ x. run x (map (said w) ls ++ ss)) (post_line used es ds old l ∙ ap (derive h w es (InPost ds old)) k.takes) ∙ r.2 ∙ ap (λ x. run (Listing h w r.0 es (InPost ds x)) ss) (append_assoc old (l ∷ []) ls),
      )

  leaf_lines : (used : ℕ) (es : List RawEntry) (n : ℕ) (end : LeafEnd) (ds : List Decision) (old ls before rest : List Line) (ss : List Sentence) → Makes w used before (ls ++ rest)
      → (m : ℕ) × Makes w m (before ++ ls) rest × (run (Listing h w used es (InLeaf n end ds old [])) (map (said w) ls ++ ss) ≡ run (Listing h w m es (InLeaf n end ds (old ++ ls) [])) ss)
  leaf_lines used es n end ds old [] before rest ss m = (used, subst (λ x. Makes w used x rest) (sym (append-nil before)) m, ap (λ l. run (Listing h w used es (InLeaf n end ds l [])) ss) (sym (append-nil old)))
  leaf_lines used es n end ds old (l ∷ ls) before rest ss m =
      let k = taken_next w used before l (ls ++ rest) m in
      let r = leaf_lines k.after es n end ds (old ++ l ∷ []) ls (before ++ l ∷ []) rest ss k.makes in (
        r.0,
        subst (λ x. Makes w r.0 x rest) (append_assoc before (l ∷ []) ls) r.1,
        ap (λ x. run x (map (said w) ls ++ ss)) (leaf_line used es n end ds old [] l ∙ ap (derive h w es (InLeaf n end ds old [])) k.takes) ∙ r.2 ∙ ap (λ x. run (Listing h w r.0 es (InLeaf n end ds x [])) ss) (append_assoc old (l ∷ []) ls),
      )

-- the lines of an entry lead from a state behind whole entries, or in a leaf, to another such state
pub data Ready : Head → Wording → ℕ → List RawEntry → State → Type 0 where
  between : (h : Head) (w : Wording) (used : ℕ) (es : List RawEntry) → Ready h w used es (Listing h w used es Nothing)
  behind_leaf : (h : Head) (w : Wording) (used : ℕ) (es : List RawEntry) (n : ℕ) (end : LeafEnd) (ds : List Decision) (ls : List Line) (ps : List (List Term)) → Ready h w used (es ++ Publish n ds ls ps end ∷ []) (Listing h w used es (InLeaf n end ds ls ps))

split_next : (h : Head) (w : Wording) (used : ℕ) (es : List RawEntry) (st : State) → Ready h w used es st → (n : ℕ) (by : List Term) → next st (says.Split n by) ≡ begin h w used es (says.Split n by)
split_next h w used es st (between _ _ _ _) n by = refl
split_next h w used es st (behind_leaf _ _ _ _ _ _ _ _ _) n by = refl

close_next : (h : Head) (w : Wording) (used : ℕ) (es : List RawEntry) (st : State) → Ready h w used es st → (n k : ℕ) → next st (says.Close n k) ≡ begin h w used es (says.Close n k)
close_next h w used es st (between _ _ _ _) n k = refl
close_next h w used es st (behind_leaf _ _ _ _ _ _ _ _ _) n k = refl

post_next : (h : Head) (w : Wording) (used : ℕ) (es : List RawEntry) (st : State) → Ready h w used es st → next st says.Post ≡ begin h w used es says.Post
post_next h w used es st (between _ _ _ _) = refl
post_next h w used es st (behind_leaf _ _ _ _ _ _ _ _ _) = refl

leaf_next : (h : Head) (w : Wording) (used : ℕ) (es : List RawEntry) (st : State) → Ready h w used es st → (n : ℕ) (end : LeafEnd) → next st (says.Leaf n end) ≡ begin h w used es (says.Leaf n end)
leaf_next h w used es st (between _ _ _ _) n end = refl
leaf_next h w used es st (behind_leaf _ _ _ _ _ _ _ _ _) n end = refl

pub done_next : (h : Head) (w : Wording) (used : ℕ) (es : List RawEntry) (st : State) → Ready h w used es st → (n : ℕ) → next st (says.Done n) ≡ begin h w used es (says.Done n)
done_next h w used es st (between _ _ _ _) n = refl
done_next h w used es st (behind_leaf _ _ _ _ _ _ _ _ _) n = refl

-- some ready state, behind lines that are so many more
pub record Reaches (h : Head) (w : Wording) (es : List RawEntry) (st : State) (ss rest : List Sentence) (lines later : List Line) : Type 0 where
  pub used : ℕ
  pub new : State
  pub ready : Ready h w used es new
  pub makes : Makes w used lines later
  pub runs : run st (ss ++ rest) ≡ run new rest

module _ (h : Head) (w : Wording) where
  pub entry_run : (used : ℕ) (es : List RawEntry) (st : State) → Ready h w used es st → (e : RawEntry) (rest : List Sentence) (lines later : List Line) → Makes w used lines (entry_lines e ++ later)
      → Reaches h w (es ++ e ∷ []) st (entry_sentences (said w) e) rest (lines ++ entry_lines e) later
  entry_run used es st r (Split n by) rest lines later m = record {
    used = used;
    new = Listing h w used (es ++ Split n by ∷ []) Nothing;
    ready = between h w used (es ++ Split n by ∷ []);
    makes = subst (λ x. Makes w used x later) (sym (append-nil lines)) m;
    runs = ap (λ s. run s rest) (split_next h w used es st r n by);
  }
  entry_run used es st r (Close n k) rest lines later m = record {
    used = used;
    new = Listing h w used (es ++ Close n k ∷ []) Nothing;
    ready = between h w used (es ++ Close n k ∷ []);
    makes = subst (λ x. Makes w used x later) (sym (append-nil lines)) m;
    runs = ap (λ s. run s rest) (close_next h w used es st r n k);
  }
  entry_run used es st r (Post ds ls end) rest lines later m =
      let p = post_lines h w used es ds [] ls lines later (says.End end ∷ rest) m in
      record {
        used = p.0;
        new = Listing h w p.0 (es ++ Post ds ls end ∷ []) Nothing;
        ready = between h w p.0 (es ++ Post ds ls end ∷ []);
        makes = p.1;
        runs = ap (λ s. run s ((map says.Decided ds ++ (map (said w) ls ++ says.End end ∷ [])) ++ rest)) (post_next h w used es st r)
            ∙ ap (run (Listing h w used es (InPost [] []))) (append_assoc (map says.Decided ds) (map (said w) ls ++ says.End end ∷ []) rest ∙ ap (λ l. map says.Decided ds ++ l) (append_assoc (map (said w) ls) (says.End end ∷ []) rest))
            ∙ post_decisions h w used es [] ds (map (said w) ls ++ says.End end ∷ rest)
            ∙ p.2;
      }
  entry_run used es st r (Publish n ds ls ps end) rest lines later m =
      let p = leaf_lines h w used es n end ds [] ls lines later (map says.Equation ps ++ rest) m in
      record {
        used = p.0;
        new = Listing h w p.0 es (InLeaf n end ds ls ps);
        ready = behind_leaf h w p.0 es n end ds ls ps;
        makes = p.1;
        runs = ap (λ s. run s ((map says.Decided ds ++ (map (said w) ls ++ map says.Equation ps)) ++ rest)) (leaf_next h w used es st r n end)
            ∙ ap (run (Listing h w used es (InLeaf n end [] [] []))) (append_assoc (map says.Decided ds) (map (said w) ls ++ map says.Equation ps) rest ∙ ap (λ l. map says.Decided ds ++ l) (append_assoc (map (said w) ls) (map says.Equation ps) rest))
            ∙ leaf_decisions h w used es n end [] ds (map (said w) ls ++ (map says.Equation ps ++ rest))
            ∙ p.2
            ∙ leaf_equations h w p.0 es n end ds ls [] ps rest;
      }

  entries_run : (used : ℕ) (old : List RawEntry) (st : State) → Ready h w used old st → (es : List RawEntry) (rest : List Sentence) (lines later : List Line) → Makes w used lines (flat_map entry_lines es ++ later)
      → Reaches h w (old ++ es) st (flat_map (entry_sentences (said w)) es) rest (lines ++ flat_map entry_lines es) later
  entries_run used old st r [] rest lines later m = record { used = used; new = st; ready = rw (append-nil old) r; makes = subst (λ x. Makes w used x later) (sym (append-nil lines)) m; runs = refl }
  entries_run used old st r (e ∷ es) rest lines later m =
      let here = subst (Makes w used lines) (append_assoc (entry_lines e) (flat_map entry_lines es) later) m in
      let one = entry_run used old st r e (flat_map (entry_sentences (said w)) es ++ rest) lines (flat_map entry_lines es ++ later) here in
      let more = entries_run one.used (old ++ e ∷ []) one.new one.ready es rest (lines ++ entry_lines e) later one.makes in
      record {
        used = more.used;
        new = more.new;
        ready = rw (← append_assoc old (e ∷ []) es) more.ready;
        makes = subst (λ x. Makes w more.used x later) (append_assoc lines (entry_lines e) (flat_map entry_lines es)) more.makes;
        runs = ap (run st) (append_assoc (entry_sentences (said w) e) (flat_map (entry_sentences (said w)) es) rest) ∙ one.runs ∙ more.runs;
      }

-- behind all lines the whole table is used
pub all_used : (w : Wording) (used : ℕ) (ls : List Line) → Makes w used ls [] → is_used_up w used ≡ true
all_used InFull used ls m = refl
all_used (ByPlace t) used ls m = ap (λ n. n == length t) (m.counted ∙ ap (λ (x : List Line). length (different x)) (sym (append-nil ls)) ∙ ap (λ (x : List Line). length x) (sym m.made)) ∙ own_number (length t)

-- the entries and their number lead to the certificate
listing_run : (h : Head) (w : Wording) (es : List RawEntry) → Makes w 0 [] (flat_map entry_lines es ++ []) → run (Listing h w 0 [] Nothing) (flat_map (entry_sentences (said w)) es ++ says.Done (length es) ∷ []) ≡ Whole (version_of w) (certificate h es)
listing_run h w es m =
    let all = entries_run h w 0 [] (Listing h w 0 [] Nothing) (between h w 0 []) es (says.Done (length es) ∷ []) [] [] m in
    let up = all_used w all.used (flat_map entry_lines es) all.makes in
    all.runs ∙ done_next h w all.used es all.new all.ready (length es)
    ∙ ap (λ b. if b && is_used_up w all.used then Whole (version_of w) (certificate h es) else Wrong) (own_number (length es))
    ∙ ap (λ b. if b then Whole (version_of w) (certificate h es) else Wrong) up

-- ---- the table

pub absent : (t ls : List Line) (l : Line) → HasEachOnce (t ++ l ∷ ls) → stands_in t l ≡ false
absent t ls l h = by (stands_in t l) refl
  where
    nth : (x more : List Line) → slice_get (x ++ l ∷ more) (length x) ≡ Some l
    nth [] more = refl
    nth (k ∷ x) more = nth x more

    by : (b : Bool) → stands_in t l ≡ b → b ≡ false
    by true e = let p = old_place t (l ∷ ls) l e in let q = h (length t) l (nth t ls) in let a = p.0 in let lt = p.1 in absurd (omega (arith, q, a, lt))
    by false e = refl

table_run : (h : Head) (size : ℕ) (t ls : List Line) (ss : List Sentence) → HasEachOnce (t ++ ls) → length (t ++ ls) ≡ size → run (filled h size t) (map says.Derived ls ++ ss) ≡ run (Listing h (ByPlace (t ++ ls)) 0 [] Nothing) ss
table_run h size t [] ss once e =
    let same = append-nil t in
    let full : (length t == size) ≡ true = ap (λ (x : List Line). length x == size) (sym same) ∙ ap (λ n. n == size) e ∙ own_number size in
    ap (λ b. run (if b then Listing h (ByPlace t) 0 [] Nothing else InTable h size t) ss) full ∙ ap (λ x. run (Listing h (ByPlace x) 0 [] Nothing) ss) (sym same)
table_run h size t (l ∷ ls) ss once e =
    let n = length-append t (l ∷ ls) in
    let short : (length t == size) ≡ false = other_number (length t) size (omega (arith, n, e)) in
    let a = append_assoc t (l ∷ []) ls in
    ap (λ b. run (next (if b then Listing h (ByPlace t) 0 [] Nothing else InTable h size t) (says.Derived l)) (map says.Derived ls ++ ss)) short
    ∙ ap (λ b. run (if b then Wrong else filled h size (t ++ l ∷ [])) (map says.Derived ls ++ ss)) (absent t ls l once)
    ∙ table_run h size (t ++ l ∷ []) ls ss (subst HasEachOnce (sym a) once) (ap (λ (x : List Line). length x) a ∙ e)
    ∙ ap (λ x. run (Listing h (ByPlace x) 0 [] Nothing) ss) a

pub table_once : (c : Certificate) → HasEachOnce (table c)
table_once c = new_once [] (flat_map entry_lines c.entries) none_once

pub whole_run : (v : Version) (c : Certificate) → run AtStart (sentences v c) ≡ Whole v c
whole_run One c = listing_run (record { unknowns = c.unknowns; equations = c.equations; budget = c.budget }) InFull c.entries tt
whole_run Two c =
    let h : Head = record { unknowns = c.unknowns; equations = c.equations; budget = c.budget } in
    let entries = flat_map (entry_sentences (said (ByPlace (table c)))) c.entries ++ says.Done (length c.entries) ∷ [] in
    table_run h (length (table c)) [] (table c) entries (table_once c) refl
    ∙ listing_run h (ByPlace (table c)) c.entries (record { counted = refl; made = ap different (sym (append-nil (flat_map entry_lines c.entries))) })
