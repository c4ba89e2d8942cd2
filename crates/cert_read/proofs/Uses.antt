-- Where a line of a derivation may be said by its place.
use Rattle.std.specs.Prelude.{◌≡◌, ◌≢◌, ℕ, ◌≤◌, true, false, ◌&&◌, not, Option, None, Some, List, [], ◌∷◌, ◌++◌, codes, map, flat_map, refl}
use Rattle.std.specs.List.{AllByRecursion}
use Rattle.std.proofs.Common.{sym, ◌∙◌, ap, subst, append_assoc}
use Rattle.std.proofs.lemmas.List.{append_cancel_right}
use Rattle.sparse_poly.specs.declared.Term.{Term}
use Rattle.derive_lines.specs.declared.parts.Decision.{Decision}
use Rattle.derive_lines.specs.declared.parts.Line.{Line}
use Rattle.leaf_cert.specs.declared.ends.LeafEnd.{LeafEnd}
use Rattle.leaf_cert.specs.declared.certificate.RawEntry.{RawEntry}
use Rattle.leaf_cert.specs.declared.certificate.RawEntry.TheVariants.{Publish}
use Rattle.cert_text.specs.declared.version.Version.{Version}
use Rattle.cert_text.specs.declared.version.Version.TheVariants.{One, Two}
use Rattle.cert_text.specs.declared.sentence.Sentence.{Sentence}
use Rattle.cert_text.specs.declared.sentence.Sentence.TheVariants as says
use Rattle.cert_text.specs.Sentences.{fields, entry_sentences, head}
use Rattle.cert_lines.specs.declared.kind.Kind.TheVariants as kind
use Rattle.cert_lines.specs.Words.{words, first}
use Rattle.cert_lines.specs.Forms.{form, kind_by_word}
use Rattle.cert_lines.specs.Fitting.{FitsSentence, Says}
use Rattle.cert_lines.proofs.Noted.{right_formed}
use Rattle.cert_read.specs.declared.machine.Head.{Head}
use Rattle.cert_read.specs.Faults.{is_before_use, MayUse}
use Rattle.cert_read.specs.Machine.{Wording, InFull, ByPlace, Open, Nothing, InPost, InLeaf, State, AtStart, AtUnknowns, AtEquations, AtBudget, AtLines, InTable, Listing, Whole, Wrong, Taken, taken, version_of, is_in_full, certificate, begin, derive, in_post, in_leaf, at_start, at_unknowns, at_equations, at_budget, at_lines, in_table, next, said, open_sentences, table_of, printed, kind_of, may}
use Rattle.cert_read.specs.Progress.{AreSaid}
use Rattle.cert_read.proofs.RightLines.{line_right}
use Rattle.cert_read.proofs.Plain.{form_words, form_kind}
use Rattle.cert_read.proofs.Alone.{kinded, apart}
use Rattle.cert_read.proofs.Fit.{AllFit, fit_parts}
use Rattle.cert_read.proofs.Cut.{said_words}
use Rattle.cert_read.proofs.Living.{version_at}

-- the last line says the last of what is said
pub record Last (ls : List (List ℕ)) (s : Sentence) : Type 0 where
  pub before : List (List ℕ)
  pub line : List ℕ
  pub split : ls ≡ before ++ line ∷ []
  pub says_it : Says line s

pub last_said : (ls : List (List ℕ)) (ss : List Sentence) (s : Sentence) → AreSaid ls (ss ++ s ∷ []) → Last ls s
last_said [] [] s h = absurd h
last_said [] (t ∷ ss) s h = absurd h
last_said (l ∷ []) [] s h = record { before = []; line = l; split = refl; says_it = h.0.0 }
last_said (l ∷ m ∷ ls) [] s h = absurd h.1
last_said (l ∷ ls) (t ∷ ss) s h = let r = last_said ls ss s h.1 in record { before = l ∷ r.before; line = r.line; split = ap (λ x. l ∷ x) r.split; says_it = r.says_it }

-- what the last line says is the last of what is said
record LastSaid (ss : List Sentence) (l : List ℕ) : Type 0 where
  before : List Sentence
  said : Sentence
  split : ss ≡ before ++ said ∷ []
  says_it : Says l said

said_last : (ls : List (List ℕ)) (l : List ℕ) (ss : List Sentence) → AreSaid (ls ++ l ∷ []) ss → LastSaid ss l
said_last [] l [] h = absurd h
said_last [] l (s ∷ []) h = record { before = []; said = s; split = refl; says_it = h.0.0 }
said_last [] l (s ∷ t ∷ ss) h = absurd h.1
said_last (m ∷ ls) l [] h = absurd h
said_last (m ∷ ls) l (s ∷ ss) h = let r = said_last ls l ss h.1 in record { before = s ∷ r.before; said = r.said; split = ap (λ x. s ∷ x) r.split; says_it = r.says_it }

-- ---- what stands before such a line

abbrev IsBefore : Sentence → Type 0
IsBefore s = is_before_use (kind_of s) ≡ true

abbrev AllBefore : List Sentence → Type 0
AllBefore ss = AllByRecursion IsBefore ss

before_append : (ss ts : List Sentence) → AllBefore ss → AllBefore ts → AllBefore (ss ++ ts)
before_append [] ts h k = k
before_append (s ∷ ss) ts h k = (h.0, before_append ss ts h.1 k)

decisions_before : (ds : List Decision) → AllBefore (map says.Decided ds)
decisions_before [] = tt
decisions_before (d ∷ ds) = (refl, decisions_before ds)

uses_before : (t ls : List Line) → AllBefore (map (said (ByPlace t)) ls)
uses_before t [] = tt
uses_before t (l ∷ ls) = (refl, uses_before t ls)

record EndsBefore (ss : List Sentence) : Type 0 where
  before : List Sentence
  last : Sentence
  split : ss ≡ before ++ last ∷ []
  is_before : IsBefore last

ends_before : (front : List Sentence) (s : Sentence) (ss : List Sentence) → IsBefore s → AllBefore ss → EndsBefore (front ++ s ∷ ss)
ends_before [] s [] h k = record { before = []; last = s; split = refl; is_before = h }
ends_before [] s (t ∷ ss) h k = let r = ends_before [] t ss k.0 k.1 in record { before = s ∷ r.before; last = r.last; split = ap (λ x. s ∷ x) r.split; is_before = r.is_before }
ends_before (f ∷ front) s ss h k = let r = ends_before front s ss h k in record { before = f ∷ r.before; last = r.last; split = ap (λ x. f ∷ x) r.split; is_before = r.is_before }

-- the lines that lead to a state with an open post or leaf
open_ends : (h : Head) (t : List Line) (used : ℕ) (es : List RawEntry) (s : Sentence) (ss : List Sentence) (o : Open) → open_sentences (ByPlace t) o ≡ s ∷ ss → IsBefore s → AllBefore ss → EndsBefore (printed (Listing h (ByPlace t) used es o))
open_ends h t used es s ss o e b k =
    let entries = flat_map (entry_sentences (said (ByPlace t))) es in
    let top = head Two (certificate h es) in
    let q : printed (Listing h (ByPlace t) used es o) ≡ (top ++ (table_of (ByPlace t) ++ entries)) ++ s ∷ ss =
    ap (λ x. top ++ (table_of (ByPlace t) ++ (entries ++ x))) e ∙ ap (λ x. top ++ x) (sym (append_assoc (table_of (ByPlace t)) entries (s ∷ ss))) ∙ sym (append_assoc top (table_of (ByPlace t) ++ entries) (s ∷ ss)) in
    subst EndsBefore (sym q) (ends_before (top ++ (table_of (ByPlace t) ++ entries)) s ss b k)

-- a state behind which such a line may come
record TakesUse (st : State) : Type 0 where
  ends : EndsBefore (printed st)
  version : version_at st ≡ Two

takes_use : (st : State) → may st kind.Use ≡ true → TakesUse st
takes_use (Listing h (ByPlace t) used es (InPost ds ls)) e = record {
  ends = open_ends h t used es says.Post (map says.Decided ds ++ map (said (ByPlace t)) ls) (InPost ds ls) refl refl (before_append (map says.Decided ds) (map (said (ByPlace t)) ls) (decisions_before ds) (uses_before t ls));
  version = refl;
}
takes_use (Listing h (ByPlace t) used es (InLeaf n end ds ls [])) e = record {
  ends = open_ends h t used es (says.Leaf n end) (map says.Decided ds ++ (map (said (ByPlace t)) ls ++ [])) (InLeaf n end ds ls []) refl refl (before_append (map says.Decided ds) (map (said (ByPlace t)) ls ++ []) (decisions_before ds) (before_append (map (said (ByPlace t)) ls) [] (uses_before t ls) tt));
  version = refl;
}
takes_use (Listing h (ByPlace t) used es (InLeaf n end ds ls (p ∷ ps))) e = absurd (cc)
takes_use (Listing h (ByPlace t) used es Nothing) e = absurd (cc)
takes_use (Listing h InFull used es Nothing) e = absurd (cc)
takes_use (Listing h InFull used es (InPost ds ls)) e = absurd (cc)
takes_use (Listing h InFull used es (InLeaf n end ds ls ps)) e = absurd (cc)
takes_use st e = absurd (cc)

-- ---- the first line

title_first : (st : State) (s : Sentence) (ss : List Sentence) → printed st ≡ s ∷ ss → s ≡ says.Title (version_at st)
title_first AtStart s ss e = absurd (cc)
title_first (AtUnknowns v) s ss e = cc
title_first (AtEquations v u) s ss e = cc
title_first (AtBudget v u b) s ss e = cc
title_first (AtLines h) s ss e = cc
title_first (InTable h size t) s ss e = cc
title_first (Listing h w used es o) s ss e = cc
title_first (Whole v c) s ss e = cc
title_first Wrong s ss e = absurd (cc)

title_line : (l : List ℕ) → Says l (says.Title Two) → l ≡ codes "braidcert 2"
title_line l h = append_cancel_right l (codes "braidcert 2") (codes "\n") (sym h)

line_title : (v : Version) → Says (codes "braidcert 2") (says.Title v) → v ≡ Two
line_title Two h = refl
line_title One h = absurd (apart (codes "braidcert 1") (codes "braidcert 2") refl (append_cancel_right (codes "braidcert 1") (codes "braidcert 2") (codes "\n") h))

record Titled (ls : List (List ℕ)) : Type 0 where
  after : List (List ℕ)
  split : ls ≡ codes "braidcert 2" ∷ after

titled : (ls : List (List ℕ)) (ss : List Sentence) (st : State) → AreSaid ls ss → printed st ≡ ss → version_at st ≡ Two → EndsBefore ss → Titled ls
titled [] [] st h e v b = absurd (none b.before b.split)
  where
    none : (x : List Sentence) → [] ≡ x ++ b.last ∷ [] → ⊥
    none [] q = cc
    none (y ∷ x) q = cc
titled [] (s ∷ ss) st h e v b = absurd h
titled (l ∷ ls) [] st h e v b = absurd h
titled (l ∷ ls) (s ∷ ss) st h e v b = record { after = ls; split = ap (λ x. x ∷ ls) (title_line l (subst (Says l) (title_first st s ss e ∙ ap says.Title v) h.0.0)) }

-- a state in which such a line may come is one behind the right lines
pub may_use : (st : State) (ls : List (List ℕ)) (ss : List Sentence) (u : ℕ) → u ≤ 4096 → AreSaid ls ss → printed st ≡ ss → AllFit u ss → may st kind.Use ≡ true → MayUse ls
may_use st ls ss u low a e f m =
    let t = takes_use st m in
    let b : EndsBefore ss = subst EndsBefore e t.ends in
    let l = last_said ls b.before b.last (subst (AreSaid ls) b.split a) in
    let fit : FitsSentence u b.last = (fit_parts u b.before (b.last ∷ []) (subst (AllFit u) b.split f)).1.0 in
    let k = titled ls ss st a e t.version b in
    record {
      after = k.after;
      version = k.split;
      front = l.before;
      last = l.line;
      split = l.split;
      kind = kind_of b.last;
      fields = fields b.last;
      form = record { cut = sym l.says_it; formed = right_formed u (form (kind_of b.last)) (fields b.last) (line_right u low b.last fit) };
      behind = b.is_before;
    }

-- ---- and behind such lines it may come

full_two : (w : Wording) → version_of w ≡ Two → is_in_full w ≡ false
full_two InFull e = absurd (cc)
full_two (ByPlace t) e = refl

module _ (h : Head) (w : Wording) where
  two : version_of w ≡ Two → not (is_in_full w) ≡ true
  two e = ap not (full_two w e)

  two_more : version_of w ≡ Two → not (is_in_full w) && true ≡ true
  two_more e = ap (λ b. b && true) (two e)

  begin_behind : (used : ℕ) (es : List RawEntry) (s : Sentence) → begin h w used es s ≢ Wrong → IsBefore s → version_at (begin h w used es s) ≡ Two → may (begin h w used es s) kind.Use ≡ true
  begin_behind used es (says.Split n by) ok b e = absurd (cc)
  begin_behind used es says.Post ok b e = two e
  begin_behind used es (says.Close n k) ok b e = absurd (cc)
  begin_behind used es (says.Leaf n end) ok b e = two_more e
  begin_behind used es (says.Done n) ok b e = absurd (cc)
  begin_behind used es s ok b e = absurd (ok refl)

  post_taken : (es : List RawEntry) (ds : List Decision) (ls : List Line) (o : Option Taken) → derive h w es (InPost ds ls) o ≢ Wrong → version_at (derive h w es (InPost ds ls) o) ≡ Two → may (derive h w es (InPost ds ls) o) kind.Use ≡ true
  post_taken es ds ls None ok e = absurd (ok refl)
  post_taken es ds ls (Some x) ok e = two e

  leaf_taken : (es : List RawEntry) (n : ℕ) (end : LeafEnd) (ds : List Decision) (ls : List Line) (ps : List (List Term)) (o : Option Taken) → derive h w es (InLeaf n end ds ls ps) o ≢ Wrong → version_at (derive h w es (InLeaf n end ds ls ps) o) ≡ Two → may (derive h w es (InLeaf n end ds ls ps) o) kind.Use ≡ true
  leaf_taken es n end ds ls [] None ok e = absurd (ok refl)
  leaf_taken es n end ds ls [] (Some x) ok e = two_more e
  leaf_taken es n end ds ls (p ∷ ps) None ok e = absurd (ok refl)
  leaf_taken es n end ds ls (p ∷ ps) (Some x) ok e = absurd (ok refl)

  post_behind : (used : ℕ) (es : List RawEntry) (ds : List Decision) (ls : List Line) (s : Sentence) → in_post h w used es ds ls s ≢ Wrong → IsBefore s → version_at (in_post h w used es ds ls s) ≡ Two → may (in_post h w used es ds ls s) kind.Use ≡ true
  post_behind used es ds [] (says.Decided d) ok b e = two e
  post_behind used es ds (l ∷ ls) (says.Decided d) ok b e = absurd (ok refl)
  post_behind used es ds ls (says.Derived l) ok b e = absurd (cc)
  post_behind used es ds ls (says.Use i) ok b e = post_taken es ds ls (taken w used (says.Use i)) ok e
  post_behind used es ds ls (says.End item) ok b e = absurd (cc)
  post_behind used es ds ls s ok b e = absurd (ok refl)

  leaf_behind : (used : ℕ) (es : List RawEntry) (n : ℕ) (end : LeafEnd) (ds : List Decision) (ls : List Line) (ps : List (List Term)) (s : Sentence) → in_leaf h w used es n end ds ls ps s ≢ Wrong → IsBefore s → version_at (in_leaf h w used es n end ds ls ps s) ≡ Two → may (in_leaf h w used es n end ds ls ps s) kind.Use ≡ true
  leaf_behind used es n end ds [] [] (says.Decided d) ok b e = two_more e
  leaf_behind used es n end ds [] (p ∷ ps) (says.Decided d) ok b e = absurd (ok refl)
  leaf_behind used es n end ds (l ∷ ls) ps (says.Decided d) ok b e = absurd (ok refl)
  leaf_behind used es n end ds ls ps (says.Derived l) ok b e = absurd (cc)
  leaf_behind used es n end ds ls ps (says.Use i) ok b e = leaf_taken es n end ds ls ps (taken w used (says.Use i)) ok e
  leaf_behind used es n end ds ls ps (says.Equation p) ok b e = absurd (cc)
  leaf_behind used es n end ds ls ps s ok b e = begin_behind used (es ++ Publish n ds ls ps end ∷ []) s ok b e

start_behind : (s : Sentence) → at_start s ≢ Wrong → IsBefore s → ⊥
start_behind (says.Title v) ok b = cc
start_behind s ok b = ok refl

unknowns_behind : (v : Version) (s : Sentence) → at_unknowns v s ≢ Wrong → IsBefore s → ⊥
unknowns_behind v (says.Unknowns n) ok b = cc
unknowns_behind v s ok b = ok refl

equations_behind : (v : Version) (u : ℕ) (s : Sentence) → at_equations v u s ≢ Wrong → IsBefore s → ⊥
equations_behind v u (says.Equations n) ok b = cc
equations_behind v u s ok b = ok refl

budget_behind : (v : Version) (u e : ℕ) (s : Sentence) → at_budget v u e s ≢ Wrong → IsBefore s → ⊥
budget_behind v u e (says.Budget n) ok b = cc
budget_behind v u e s ok b = ok refl

lines_behind : (h : Head) (s : Sentence) → at_lines h s ≢ Wrong → IsBefore s → ⊥
lines_behind h (says.Lines n) ok b = cc
lines_behind h s ok b = ok refl

table_behind : (h : Head) (size : ℕ) (t : List Line) (s : Sentence) → in_table h size t s ≢ Wrong → IsBefore s → ⊥
table_behind h size t (says.Derived l) ok b = cc
table_behind h size t s ok b = ok refl

use_behind : (st : State) (s : Sentence) → next st s ≢ Wrong → IsBefore s → version_at (next st s) ≡ Two → may (next st s) kind.Use ≡ true
use_behind AtStart s ok b e = absurd (start_behind s ok b)
use_behind (AtUnknowns v) s ok b e = absurd (unknowns_behind v s ok b)
use_behind (AtEquations v u) s ok b e = absurd (equations_behind v u s ok b)
use_behind (AtBudget v u x) s ok b e = absurd (budget_behind v u x s ok b)
use_behind (AtLines h) s ok b e = absurd (lines_behind h s ok b)
use_behind (InTable h size t) s ok b e = absurd (table_behind h size t s ok b)
use_behind (Listing h w used es Nothing) s ok b e = begin_behind h w used es s ok b e
use_behind (Listing h w used es (InPost ds ls)) s ok b e = post_behind h w used es ds ls s ok b e
use_behind (Listing h w used es (InLeaf n end ds ls ps)) s ok b e = leaf_behind h w used es n end ds ls ps s ok b e
use_behind (Whole v c) s ok b e = absurd (ok refl)
use_behind Wrong s ok b e = absurd (ok refl)

two_said : (ls : List (List ℕ)) (ss : List Sentence) (st : State) → AreSaid ls ss → printed st ≡ ss → Titled ls → version_at st ≡ Two
two_said [] ss st h e t = absurd (let q = t.split in cc)
two_said (l ∷ ls) [] st h e t = absurd h
two_said (l ∷ ls) (s ∷ ss) st h e t =
    let q = t.split in
    let same : l ≡ codes "braidcert 2" = cc in
    line_title (version_at st) (subst (Says (codes "braidcert 2")) (title_first st s ss e) (subst (λ x. Says x s) same h.0.0))

pub use_may : (st : State) (ls : List (List ℕ)) (ss : List Sentence) (u : ℕ) → u ≤ 4096 → AreSaid ls ss → printed st ≡ ss → AllFit u ss → ((before : List Sentence) (s : Sentence) → ss ≡ before ++ s ∷ [] → (old : State) × (next old s ≡ st)) → st ≢ Wrong → MayUse ls → may st kind.Use ≡ true
use_may st ls ss u low a e f back ok m =
    let t = said_last m.front m.last ss (subst (λ x. AreSaid x ss) m.split a) in
    let fit : FitsSentence u t.said = (fit_parts u t.before (t.said ∷ []) (subst (AllFit u) t.split f)).1.0 in
    let ws : words m.last ≡ m.fields = form_words m.kind m.last m.fields m.form.formed m.form.cut in
    let k : Some m.kind ≡ Some (kind_of t.said) = sym (form_kind m.kind m.fields m.form.formed) ∙ ap (λ x. kind_by_word (first x)) (sym ws ∙ said_words u low m.last t.said fit t.says_it) ∙ kinded t.said in
    let same : m.kind ≡ kind_of t.said = cc in
    let b : IsBefore t.said = ap is_before_use (sym same) ∙ m.behind in
    let o = back t.before t.said t.split in
    let two = two_said ls ss st a e (record { after = m.after; split = m.version }) in
    ap (λ x. may x kind.Use) (sym o.1) ∙ use_behind o.0 t.said (λ w. ok (sym o.1 ∙ w)) b (ap version_at o.1 ∙ two)
