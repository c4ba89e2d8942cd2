-- Lines that lead to a state begin the text of a certificate.
use Rattle.std.specs.Prelude.{◌≡◌, ◌≢◌, ℕ, zero, suc, ◌+◌, ◌<◌, ◌≤◌, ◌-◌, true, false, ◌==◌, if◌then◌else◌, List, [], ◌∷◌, ◌++◌, length, map, flat_map, refl}
use Rattle.std.specs.List.{AllByRecursion}
use Rattle.std.proofs.Common.{sym, ◌∙◌, ap, subst, append_assoc, append-nil, arith}
use Rattle.std.proofs.lemmas.List.{length-append}
use Rattle.derive_lines.specs.declared.parts.Line.{Line}
use Rattle.derive_lines.specs.declared.parts.Item.TheVariants.{Root}
use Rattle.leaf_cert.specs.declared.certificate.RawEntry.{RawEntry}
use Rattle.leaf_cert.specs.declared.certificate.RawEntry.TheVariants.{Split, Post, Close, Publish}
use Rattle.leaf_cert.specs.declared.certificate.Certificate.{Certificate}
use Rattle.cert_text.specs.declared.version.Version.{Version}
use Rattle.cert_text.specs.declared.version.Version.TheVariants.{One, Two}
use Rattle.cert_text.specs.declared.sentence.Sentence.{Sentence}
use Rattle.cert_text.specs.declared.sentence.Sentence.TheVariants as says
use Rattle.cert_text.specs.Numbers.{max_number}
use Rattle.cert_text.specs.Tables.{stands_in, with_new, entry_lines, table}
use Rattle.cert_text.specs.Sentences.{entry_sentences, sentences, spelled}
use Rattle.cert_text.specs.Text.{Fits}
use Rattle.cert_read.specs.declared.machine.Head.{Head}
use Rattle.cert_lines.specs.Fitting.{FitsSentence}
use Rattle.cert_read.specs.Faults.{BeginsAs}
use Rattle.cert_read.specs.Machine.{Wording, InFull, ByPlace, Open, Nothing, InPost, InLeaf, State, AtStart, AtUnknowns, AtEquations, AtBudget, AtLines, InTable, Listing, Whole, Wrong, version_of, certificate, filled, next, run, said, printed, unknowns}
use Rattle.cert_read.specs.Progress.{AreSaid}
use Rattle.cert_text.proofs.Joined.{spelled-append}
use Rattle.cert_read.proofs.Tables.{own_number, other_number, HasEachOnce, pushed_once, AllStandIn, new_append, new_length, new_stand}
use Rattle.cert_read.proofs.Used.{different, IsUsedBy, lines_of, closed_lines, IsSound}
use Rattle.cert_read.proofs.Runs.{Makes, Ready, between, behind_leaf, entry_run, done_next, all_used, absent}
use Rattle.cert_read.proofs.Mays.{weight, longer, begin_done, filled_keeps, fresh_line}
use Rattle.cert_read.proofs.Steps.{run_printed}
use Rattle.cert_read.proofs.Fit.{AllFit, fit_append, fit_certificate, places_fit}
use Rattle.cert_read.proofs.Cut.{said_text}

-- further lines that lead from a state to a certificate of the version, with as many unknowns as are said there
pub record Completed (v : Version) (st : State) : Type 0 where
  pub certificate : Certificate
  pub more : List Sentence
  pub leads : run st more ≡ Whole v certificate
  pub unknowns_are : certificate.unknowns ≡ unknowns st
  pub fits : AllFit (unknowns st) more
  -- few lines, where there is no table
  pub short : v ≡ One → length more ≤ 5

-- ---- behind the head

-- the rest of a table goes on with the lines that it has not used
all_new : (t ls : List Line) → HasEachOnce (t ++ ls) → with_new t ls ≡ t ++ ls
all_new t [] h = sym (append-nil t)
all_new t (l ∷ ls) h =
    let a = append_assoc t (l ∷ []) ls in
    ap (λ b. with_new (if b then t else t ++ l ∷ []) ls) (absent t ls l h) ∙ all_new (t ++ l ∷ []) ls (subst HasEachOnce (sym a) h) ∙ a

-- the lines of a table that are not used
pub record Unused (w : Wording) (used : ℕ) (ls : List Line) (u : ℕ) : Type 0 where
  pub rest : List Line
  pub makes : Makes w used ls (rest ++ [])
  pub fits : AllFit u (map (said w) rest)
  pub none : version_of w ≡ One → rest ≡ []

rest_parts : {X : Type 0} (P : X → Type 0) (xs ys : List X) → AllByRecursion P (xs ++ ys) → AllByRecursion P ys
rest_parts P [] ys h = h
rest_parts P (x ∷ xs) ys h = rest_parts P xs ys h.1

abbrev IsTableShort : Wording → Type 0
IsTableShort InFull = Unit {0}
IsTableShort (ByPlace t) = length t ≤ max_number

unused : (w : Wording) (used : ℕ) (ls : List Line) (u : ℕ) → IsUsedBy w used ls → IsTableShort w → Unused w used ls u
unused InFull used ls u h few = record { rest = []; makes = tt; fits = tt; none = λ e. refl }
unused (ByPlace t) used ls u h few =
    let d = different ls in
    let e : t ≡ different (ls ++ h.more) = h.split ∙ sym (all_new d h.more (subst HasEachOnce h.split h.once)) ∙ sym (new_append [] ls h.more) in
    let stand : AllStandIn t h.more = subst (λ x. AllStandIn x h.more) (sym e) (rest_parts (λ l. stands_in (different (ls ++ h.more)) l ≡ true) ls h.more (new_stand [] (ls ++ h.more))) in
    record {
      rest = h.more;
      makes = record { counted = h.counted; made = e ∙ ap (λ x. different (ls ++ x)) (sym (append-nil h.more)) };
      fits = places_fit u t h.more few stand;
      none = λ f. absurd (cc);
    }

-- a post with these lines, and the end
abbrev ending : Wording → ℕ → List Line → List Sentence
ending w n rest = entry_sentences (said w) (Post [] rest (Root 0)) ++ says.Done n ∷ []

ending_fits : (w : Wording) (n u : ℕ) (rest : List Line) → AllFit u (map (said w) rest) → n ≤ max_number → AllFit u (ending w n rest)
ending_fits w n u rest h few = fit_append u (says.Post ∷ (map (said w) rest ++ says.End (Root 0) ∷ [])) (says.Done n ∷ []) (tt, fit_append u (map (said w) rest) (says.End (Root 0) ∷ []) h (omega arith, tt)) (few, tt)

ending_short : (w : Wording) (n : ℕ) (rest : List Line) → rest ≡ [] → length (ending w n rest) ≤ 3
ending_short w n rest e = subst (λ x. length (ending w n x) ≤ 3) (sym e) (omega arith)

-- from a state behind whole entries, or in a leaf
completed : (h : Head) (w : Wording) (used : ℕ) (es : List RawEntry) (st : State) → Ready h w used es st → (ls : List Line) → Unused w used ls h.unknowns → length es + 1 ≤ max_number
    → (c : Certificate) × (more : List Sentence) × (run st more ≡ Whole (version_of w) c) × (c.unknowns ≡ h.unknowns) × AllFit h.unknowns more × (version_of w ≡ One → length more ≤ 3)
completed h w used es st r ls n few =
    let entry = Post [] n.rest (Root 0) in
    let all = es ++ entry ∷ [] in
    let l = longer es entry in
    let k = entry_run h w used es st r entry (says.Done (length all) ∷ []) ls [] n.makes in
    let up = all_used w k.used (ls ++ n.rest) k.makes in (
      certificate h all,
      ending w (length all) n.rest,
      k.runs ∙ done_next h w k.used all k.new k.ready (length all) ∙ begin_done h w k.used all up,
      refl,
      ending_fits w (length all) h.unknowns n.rest n.fits (omega (arith, l, few)),
      λ e. ending_short w (length all) n.rest (n.none e),
    )

listing_live : (h : Head) (w : Wording) (used : ℕ) (es : List RawEntry) (o : Open) → IsUsedBy w used (lines_of es o) → IsTableShort w → length es + 2 ≤ max_number → Completed (version_of w) (Listing h w used es o)
listing_live h w used es Nothing u short few =
    let c = completed h w used es (Listing h w used es Nothing) (between h w used es) (lines_of es Nothing) (unused w used (lines_of es Nothing) h.unknowns u short) (omega (arith, few)) in
    record { certificate = c.0; more = c.1; leads = c.2; unknowns_are = c.3; fits = c.4; short = λ e. (let q = c.5 e in omega (arith, q)) }
listing_live h w used es (InPost ds ls) u short few =
    let entry = Post ds ls (Root 0) in
    let all = es ++ entry ∷ [] in
    let l = longer es entry in
    let v = subst (IsUsedBy w used) (sym (closed_lines es entry)) u in
    let c = completed h w used all (Listing h w used all Nothing) (between h w used all) (lines_of all Nothing) (unused w used (lines_of all Nothing) h.unknowns v short) (omega (arith, l, few)) in
    record { certificate = c.0; more = says.End (Root 0) ∷ c.1; leads = c.2; unknowns_are = c.3; fits = (omega arith, c.4); short = λ e. (let q = c.5 e in omega (arith, q)) }
listing_live h w used es (InLeaf n end ds ls ps) u short few =
    let entry = Publish n ds ls ps end in
    let all = es ++ entry ∷ [] in
    let l = longer es entry in
    let v = subst (IsUsedBy w used) (sym (closed_lines es entry)) u in
    let c = completed h w used all (Listing h w used es (InLeaf n end ds ls ps)) (behind_leaf h w used es n end ds ls ps) (lines_of all Nothing) (unused w used (lines_of all Nothing) h.unknowns v short) (omega (arith, l, few)) in
    record { certificate = c.0; more = c.1; leads = c.2; unknowns_are = c.3; fits = c.4; short = λ e. (let q = c.5 e in omega (arith, q)) }

-- ---- in a table

-- a line of a table, and what comes behind it
behind_line : (st : State) (s : Sentence) → FitsSentence (unknowns st) s → unknowns (next st s) ≡ unknowns st → Completed Two (next st s) → Completed Two st
behind_line st s f k c = record {
  certificate = c.certificate;
  more = s ∷ c.more;
  leads = c.leads;
  unknowns_are = c.unknowns_are ∙ k;
  fits = (f, subst (λ u. AllFit u c.more) k c.fits);
  short = λ e. absurd (cc);
}

-- a full table
full_live : (h : Head) (size : ℕ) (t : List Line) → length t ≡ size → HasEachOnce t → size ≤ max_number → Completed Two (filled h size t)
full_live h size t e once few =
    let f : (length t == size) ≡ true = ap (λ n. n == size) e ∙ own_number size in
    subst (Completed Two) (sym (ap (λ b. if b then Listing h (ByPlace t) 0 [] Nothing else InTable h size t) f))
    (listing_live h (ByPlace t) 0 [] Nothing (record { once = once; more = t; split = refl; counted = refl }) (subst (λ n. n ≤ max_number) (sym e) few) (omega arith))

-- a table that lacks so many lines
table_live : (missing : ℕ) (h : Head) (size : ℕ) (t : List Line) → length t + missing ≡ size → HasEachOnce t → size ≤ max_number → Completed Two (filled h size t)
table_live zero h size t e once few = full_live h size t (omega (arith, e)) once few
table_live (suc n) h size t e once few =
    let s = fresh_line t (omega (arith, e, few)) in
    let f : (length t == size) ≡ false = other_number (length t) size (omega (arith, e)) in
    let k = length-append t (s.0 ∷ []) in
    let more = table_live n h size (t ++ s.0 ∷ []) (omega (arith, e, k)) (pushed_once t s.0 once s.1) few in
    let here : next (InTable h size t) (says.Derived s.0) ≡ filled h size (t ++ s.0 ∷ []) = ap (λ b. if b then Wrong else filled h size (t ++ s.0 ∷ [])) s.1 in
    subst (Completed Two) (sym (ap (λ b. if b then Listing h (ByPlace t) 0 [] Nothing else InTable h size t) f))
    (behind_line (InTable h size t) (says.Derived s.0) (s.2 h.unknowns) (ap unknowns here ∙ filled_keeps h size (t ++ s.0 ∷ [])) (subst (Completed Two) (sym here) more))

table_there : (h : Head) (size : ℕ) (t : List Line) → HasEachOnce t → length t < size → size ≤ max_number → Completed Two (InTable h size t)
table_there h size t once short few =
    let f : (length t == size) ≡ false = other_number (length t) size short in
    subst (Completed Two) (ap (λ b. if b then Listing h (ByPlace t) 0 [] Nothing else InTable h size t) f) (table_live (size - length t) h size t (omega (arith, short)) once few)

-- ---- all states

-- the version, as far as it is said
abbrev pub version_at : State → Version
version_at AtStart = One
version_at (AtUnknowns v) = v
version_at (AtEquations v u) = v
version_at (AtBudget v u e) = v
version_at (AtLines h) = Two
version_at (InTable h size t) = Two
version_at (Listing h w used es o) = version_of w
version_at (Whole v c) = v
version_at Wrong = One

-- the certificate with these numbers and no entries
abbrev empty : ℕ → ℕ → ℕ → Certificate
empty u e b = record { unknowns = u; equations = e; budget = b; entries = [] }

short_table : (w : Wording) (u : ℕ) (h : Head) (used : ℕ) (es : List RawEntry) (o : Open) → AllFit u (printed (Listing h w used es o)) → IsTableShort w
short_table InFull u h used es o f = tt
short_table (ByPlace t) u h used es o f = f.1.1.1.1.0

pub live : (st : State) → st ≢ Wrong → IsSound st → AllFit (unknowns st) (printed st) → weight st + 2 ≤ max_number → Completed (version_at st) st
live AtStart ok s f few = record {
  certificate = empty 0 0 0;
  more = sentences One (empty 0 0 0);
  leads = refl;
  unknowns_are = refl;
  fits = (tt, (omega arith, (omega arith, (omega arith, (omega arith, tt)))));
  short = λ e. omega arith;
}
live (AtUnknowns One) ok s f few = record {
  certificate = empty 0 0 0;
  more = says.Unknowns 0 ∷ says.Equations 0 ∷ says.Budget 0 ∷ says.Done 0 ∷ [];
  leads = refl;
  unknowns_are = refl;
  fits = (omega arith, (omega arith, (omega arith, (omega arith, tt))));
  short = λ e. omega arith;
}
live (AtUnknowns Two) ok s f few = record {
  certificate = empty 0 0 0;
  more = says.Unknowns 0 ∷ says.Equations 0 ∷ says.Budget 0 ∷ says.Lines 0 ∷ says.Done 0 ∷ [];
  leads = refl;
  unknowns_are = refl;
  fits = (omega arith, (omega arith, (omega arith, (omega arith, (omega arith, tt)))));
  short = λ e. absurd (cc);
}
live (AtEquations One u) ok s f few = record {
  certificate = empty u 0 0;
  more = says.Equations 0 ∷ says.Budget 0 ∷ says.Done 0 ∷ [];
  leads = refl;
  unknowns_are = refl;
  fits = (omega arith, (omega arith, (omega arith, tt)));
  short = λ e. omega arith;
}
live (AtEquations Two u) ok s f few = record {
  certificate = empty u 0 0;
  more = says.Equations 0 ∷ says.Budget 0 ∷ says.Lines 0 ∷ says.Done 0 ∷ [];
  leads = refl;
  unknowns_are = refl;
  fits = (omega arith, (omega arith, (omega arith, (omega arith, tt))));
  short = λ e. absurd (cc);
}
live (AtBudget One u e) ok s f few = record {
  certificate = empty u e 0;
  more = says.Budget 0 ∷ says.Done 0 ∷ [];
  leads = refl;
  unknowns_are = refl;
  fits = (omega arith, (omega arith, tt));
  short = λ e. omega arith;
}
live (AtBudget Two u e) ok s f few = record {
  certificate = empty u e 0;
  more = says.Budget 0 ∷ says.Lines 0 ∷ says.Done 0 ∷ [];
  leads = refl;
  unknowns_are = refl;
  fits = (omega arith, (omega arith, (omega arith, tt)));
  short = λ e. absurd (cc);
}
live (AtLines h) ok s f few = record {
  certificate = certificate h [];
  more = says.Lines 0 ∷ says.Done 0 ∷ [];
  leads = refl;
  unknowns_are = refl;
  fits = (omega arith, (omega arith, tt));
  short = λ e. absurd (cc);
}
live (InTable h size t) ok s f few = table_there h size t s.0 s.1 f.1.1.1.1.0
live (Listing h w used es Nothing) ok s f few = listing_live h w used es Nothing s (short_table w h.unknowns h used es Nothing f) few
live (Listing h w used es (InPost ds ls)) ok s f few = listing_live h w used es (InPost ds ls) s (short_table w h.unknowns h used es (InPost ds ls) f) (omega (arith, few))
live (Listing h w used es (InLeaf n end ds ls ps)) ok s f few = listing_live h w used es (InLeaf n end ds ls ps) s (short_table w h.unknowns h used es (InLeaf n end ds ls ps) f) (omega (arith, few))
live (Whole v c) ok s f few = record { certificate = c; more = []; leads = refl; unknowns_are = refl; fits = tt; short = λ e. omega arith }
live Wrong ok s f few = absurd (ok refl)

-- ---- certificates

map_length : {X Y : Type 0} (f : X → Y) (xs : List X) → length (map f xs) ≡ length xs
map_length f [] = refl
map_length f (x ∷ xs) = ap suc (map_length f xs)

entry_count : (say : Line → Sentence) (e : RawEntry) → length (entry_lines e) ≤ length (entry_sentences say e)
entry_count say (Split n by) = omega arith
entry_count say (Post ds ls end) =
    let a = length-append (map says.Decided ds) (map say ls ++ says.End end ∷ []) in
    let b = length-append (map say ls) (says.End end ∷ []) in
    let c = map_length say ls in
    omega (arith, a, b, c)
entry_count say (Close n k) = omega arith
entry_count say (Publish n ds ls ps end) =
    let a = length-append (map says.Decided ds) (map say ls ++ map says.Equation ps) in
    let b = length-append (map say ls) (map says.Equation ps) in
    let c = map_length say ls in
    omega (arith, a, b, c)

entries_count : (say : Line → Sentence) (es : List RawEntry) → length (flat_map entry_lines es) ≤ length (flat_map (entry_sentences say) es)
entries_count say [] = omega arith
entries_count say (e ∷ es) =
    let a = length-append (entry_lines e) (flat_map entry_lines es) in
    let b = length-append (entry_sentences say e) (flat_map (entry_sentences say) es) in
    let c = entry_count say e in
    let r = entries_count say es in
    omega (arith, a, b, c, r)

-- in version 1 a certificate has no more different lines than lines in all
few_lines : (c : Certificate) → length (table c) ≤ length (sentences One c)
few_lines c =
    let a = new_length [] (flat_map entry_lines c.entries) in
    let b = entries_count says.Derived c.entries in
    let d = length-append (flat_map (entry_sentences says.Derived) c.entries) (says.Done (length c.entries) ∷ []) in
    omega (arith, a, b, d)

-- and in version 2 they are counted
pub few_different : (v : Version) (c : Certificate) (u : ℕ) → AllFit u (sentences v c) → (v ≡ One → length (sentences v c) ≤ max_number) → length (table c) ≤ max_number
few_different One c u f h = let a = few_lines c in let b = h refl in omega (arith, a, b)
few_different Two c u f h = f.1.1.1.1.0

-- a certificate that the lines of a state begin
pub record Begun (st : State) (ls : List (List ℕ)) : Type 0 where
  pub certificate : Certificate
  pub begins : BeginsAs ls certificate
  pub unknowns_are : certificate.unknowns ≡ unknowns st

pub begun : (st : State) (ls : List (List ℕ)) (ss : List Sentence) → AreSaid ls ss → AllFit (unknowns st) ss → printed st ≡ ss → st ≢ Wrong → IsSound st → weight st + 2 ≤ max_number → length ss + 5 ≤ max_number → Begun st ls
begun st ls ss said fits p ok sound few short =
    let l = live st ok sound (subst (AllFit (unknowns st)) (sym p) fits) few in
    let v = version_at st in
    let there : run st l.more ≢ Wrong = λ w. (let q : Whole v l.certificate ≡ Wrong = sym l.leads ∙ w in absurd (cc)) in
    let e : sentences v l.certificate ≡ ss ++ l.more = ap printed (sym l.leads) ∙ run_printed st l.more sound there ∙ ap (λ x. x ++ l.more) p in
    let all : AllFit (unknowns st) (ss ++ l.more) = fit_append (unknowns st) ss l.more fits l.fits in
    let own : AllFit l.certificate.unknowns (sentences v l.certificate) = subst (λ u. AllFit u (sentences v l.certificate)) (sym l.unknowns_are) (subst (AllFit (unknowns st)) (sym e) all) in
    let count : v ≡ One → length (sentences v l.certificate) ≤ max_number = λ o. (let a = ap (λ (x : List Sentence). length x) e ∙ length-append ss l.more in let b = l.short o in omega (arith, a, b, short)) in
    let fit : Fits l.certificate = fit_certificate v l.certificate own (few_different v l.certificate l.certificate.unknowns own count) in
    record {
      certificate = l.certificate;
      begins = (spelled l.more, record { version = v; fits = fit; spelled = ap (λ x. x ++ spelled l.more) (said_text ls ss said) ∙ sym (spelled-append ss l.more) ∙ sym (ap spelled e) });
      unknowns_are = l.unknowns_are;
    }
