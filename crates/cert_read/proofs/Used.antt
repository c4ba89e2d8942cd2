-- The places of a table that lines have used.
use Rattle.std.specs.Prelude.{◌≡◌, ◌≢◌, ℕ, suc, ◌<◌, ◌≤◌, Bool, true, false, ◌&&◌, ◌==◌, nat_le, if◌then◌else◌, Option, None, Some, List, [], ◌∷◌, ◌++◌, length, flat_map, slice_get, refl}
use Rattle.std.proofs.Common.{sym, ◌∙◌, ap, subst, append_assoc, append-nil, arith}
use Rattle.std.proofs.lemmas.Bool.Decides.{nat_tests}
use Rattle.std.proofs.lemmas.Grind.{flat_map-append}
use Rattle.std.proofs.lemmas.List.{length-append}
use Rattle.sparse_poly.specs.declared.Term.{Term}
use Rattle.derive_lines.specs.declared.parts.Decision.{Decision}
use Rattle.derive_lines.specs.declared.parts.Line.{Line}
use Rattle.leaf_cert.specs.declared.ends.LeafEnd.{LeafEnd}
use Rattle.leaf_cert.specs.declared.certificate.RawEntry.{RawEntry}
use Rattle.leaf_cert.specs.declared.certificate.RawEntry.TheVariants.{Split, Post, Close, Publish}
use Rattle.cert_text.specs.declared.version.Version.{Version}
use Rattle.cert_text.specs.declared.version.Version.TheVariants.{One, Two}
use Rattle.cert_text.specs.declared.sentence.Sentence.{Sentence}
use Rattle.cert_text.specs.declared.sentence.Sentence.TheVariants as says
use Rattle.cert_text.specs.Tables.{stands_in, with_new, place, entry_lines}
use Rattle.cert_read.specs.declared.machine.Head.{Head}
use Rattle.cert_read.specs.Machine.{Wording, InFull, ByPlace, Open, Nothing, InPost, InLeaf, State, AtStart, AtUnknowns, AtEquations, AtBudget, AtLines, InTable, Listing, Whole, Wrong, Taken, taken_at, taken, is_used_up, version_of, certificate, begin, derive, in_post, in_leaf, at_start, at_unknowns, at_equations, headed, at_budget, filled, at_lines, in_table, next, said}
use Rattle.cert_read.proofs.Tables.{own_number, other_number, old_place, later_place, HasEachOnce, none_once, pushed_once, new_append}

abbrev pub different : List Line → List Line
different ls = with_new [] ls

-- the table has each line once, and its first places are those of the different lines so far
pub record IsTableOf (t : List Line) (used : ℕ) (ls : List Line) : Type 0 where
  pub once : HasEachOnce t
  pub more : List Line
  pub split : t ≡ different ls ++ more
  pub counted : used ≡ length (different ls)

-- so many places are used by these lines
abbrev pub IsUsedBy : Wording → ℕ → List Line → Type 0
IsUsedBy InFull used ls = Unit {0}
IsUsedBy (ByPlace t) used ls = IsTableOf t used ls

-- ---- a line that is taken

nth : (f more : List Line) (l : Line) → slice_get (f ++ more) (length f) ≡ Some l → (rest : List Line) × (more ≡ l ∷ rest)
nth [] [] l e = absurd (cc)
nth [] (k ∷ more) l e = let q : k ≡ l = cc in (more, ap (λ x. x ∷ more) q)
nth (k ∷ f) more l e = nth f more l e

-- what a line that is taken says, and what it uses
pub record Takes (w : Wording) (ls : List Line) (s : Sentence) (x : Taken) : Type 0 where
  pub says_it : said w x.line ≡ s
  pub used : IsUsedBy w x.used (ls ++ x.line ∷ [])

module _ (t : List Line) (used : ℕ) (ls : List Line) (h : IsTableOf t used ls) (i : ℕ) (l : Line) (low : nat_le i used ≡ true) (got : slice_get t i ≡ Some l) where
  here : place t l ≡ i
  here = h.once i l got

  among : place (different ls ++ h.more) l ≡ i
  among = ap (λ x. place x l) (sym h.split) ∙ here

  one_more : different (ls ++ l ∷ []) ≡ with_new (different ls) (l ∷ [])
  one_more = new_append [] ls (l ∷ [])

  is_old : stands_in (different ls) l ≡ true → IsTableOf t (if i == used then suc used else used) (ls ++ l ∷ [])
  is_old e =
      let p = old_place (different ls) h.more l e in
      let lt = p.1 in
      let at = sym p.0 ∙ among in
      let c = h.counted in
      let other : (i == used) ≡ false = other_number i used (omega (arith, lt, at, c)) in
      let same : different (ls ++ l ∷ []) ≡ different ls = one_more ∙ ap (λ b. if b then different ls else different ls ++ l ∷ []) e in
      record {
        once = h.once;
        more = h.more;
        split = h.split ∙ ap (λ x. x ++ h.more) (sym same);
        counted = ap (λ b. if b then suc used else used) other ∙ h.counted ∙ ap (λ (x : List Line). length x) (sym same);
      }

  is_new : stands_in (different ls) l ≡ false → IsTableOf t (if i == used then suc used else used) (ls ++ l ∷ [])
  is_new e =
      let p = later_place (different ls) h.more l e in
      let a = among in
      let c = h.counted in
      let le : i ≤ used = grind (arith, nat_tests) in
      let at : i ≡ used = omega (arith, p, a, c, le) in
      let own : (i == used) ≡ true = ap (λ n. n == used) at ∙ own_number used in
      let m = nth (different ls) h.more l (ap (slice_get (different ls ++ h.more)) (sym (at ∙ c)) ∙ ap (λ x. slice_get x i) (sym h.split) ∙ got) in
      let longer : different (ls ++ l ∷ []) ≡ different ls ++ l ∷ [] = one_more ∙ ap (λ b. if b then different ls else different ls ++ l ∷ []) e in
      let n = length-append (different ls) (l ∷ []) in
      let more : suc used ≡ length (different ls ++ l ∷ []) = omega (arith, n, c) in
      record {
        once = h.once;
        more = m.0;
        split = h.split ∙ ap (λ x. different ls ++ x) m.1 ∙ sym (append_assoc (different ls) (l ∷ []) m.0) ∙ ap (λ x. x ++ m.0) (sym longer);
        counted = ap (λ b. if b then suc used else used) own ∙ more ∙ ap (λ (x : List Line). length x) (sym longer);
      }

  is_used : IsTableOf t (if i == used then suc used else used) (ls ++ l ∷ [])
  is_used = by (stands_in (different ls) l) refl
    where
      by : (b : Bool) → stands_in (different ls) l ≡ b → IsTableOf t (if i == used then suc used else used) (ls ++ l ∷ [])
      by true e = is_old e
      by false e = is_new e

place_takes : (t : List Line) (used : ℕ) (ls : List Line) → IsTableOf t used ls → (i : ℕ) (b : Bool) → nat_le i used ≡ b → (o : Option Line) → slice_get t i ≡ o → (x : Taken) → (if b then taken_at (if i == used then suc used else used) o else None) ≡ Some x → Takes (ByPlace t) ls (says.Use i) x
place_takes t used ls h i false low o got x e = absurd (cc)
place_takes t used ls h i true low None got x e = absurd (cc)
place_takes t used ls h i true low (Some l) got x e =
    let it : Taken = record { line = l; used = if i == used then suc used else used } in
    let q : it ≡ x = cc in
    subst (Takes (ByPlace t) ls (says.Use i)) q (record { says_it = ap says.Use (here t used ls h i l low got); used = is_used t used ls h i l low got })

pub takes : (w : Wording) (used : ℕ) (ls : List Line) → IsUsedBy w used ls → (s : Sentence) (x : Taken) → taken w used s ≡ Some x → Takes w ls s x
takes InFull used ls h (says.Derived l) x e =
    let it : Taken = record { line = l; used = used } in
    let q : it ≡ x = cc in
    subst (Takes InFull ls (says.Derived l)) q (record { says_it = refl; used = tt })
takes InFull used ls h s x e = absurd (cc)
takes (ByPlace t) used ls h (says.Use i) x e = place_takes t used ls h i (nat_le i used) refl (slice_get t i) refl x e
takes (ByPlace t) used ls h s x e = absurd (cc)

-- ---- states that lines lead to

-- the lines of what is open
abbrev pub open_lines : Open → List Line
open_lines Nothing = []
open_lines (InPost ds ls) = ls
open_lines (InLeaf n end ds ls ps) = ls

-- the lines so far
abbrev pub lines_of : List RawEntry → Open → List Line
lines_of es o = flat_map entry_lines es ++ open_lines o

-- a state whose table has each line once and is used by its lines
abbrev pub IsSound : State → Type 0
IsSound (InTable h size t) = HasEachOnce t × (length t < size)
IsSound (Listing h w used es o) = IsUsedBy w used (lines_of es o)
IsSound st = Unit {0}

pub entry_more : (es : List RawEntry) (e : RawEntry) → flat_map entry_lines (es ++ e ∷ []) ≡ flat_map entry_lines es ++ entry_lines e
entry_more es e = flat_map-append entry_lines es (e ∷ []) ∙ ap (λ l. flat_map entry_lines es ++ l) (append-nil (entry_lines e))

-- an entry more, behind which nothing is open
pub closed_lines : (es : List RawEntry) (e : RawEntry) → lines_of (es ++ e ∷ []) Nothing ≡ flat_map entry_lines es ++ entry_lines e
closed_lines es e = append-nil (flat_map entry_lines (es ++ e ∷ [])) ∙ entry_more es e

module _ (h : Head) (w : Wording) (used : ℕ) where
  begin_sound : (es : List RawEntry) (s : Sentence) → IsUsedBy w used (lines_of es Nothing) → begin h w used es s ≢ Wrong → IsSound (begin h w used es s)
  begin_sound es (says.Split n by) u ok = subst (IsUsedBy w used) (sym (closed_lines es (Split n by))) u
  begin_sound es says.Post u ok = u
  begin_sound es (says.Close n k) u ok = subst (IsUsedBy w used) (sym (closed_lines es (Close n k))) u
  begin_sound es (says.Leaf n end) u ok = u
  begin_sound es (says.Done n) u ok = by ((n == length es) && is_used_up w used)
    where
      by : (b : Bool) → IsSound (if b then Whole (version_of w) (certificate h es) else Wrong)
      by true = tt
      by false = tt
  begin_sound es s u ok = absurd (ok refl)

  more_lines : (es : List RawEntry) (ls : List Line) (s : Sentence) → IsUsedBy w used (flat_map entry_lines es ++ ls) → (x : Taken) → taken w used s ≡ Some x → IsUsedBy w x.used (flat_map entry_lines es ++ (ls ++ x.line ∷ []))
  more_lines es ls s u x e = subst (IsUsedBy w x.used) (append_assoc (flat_map entry_lines es) ls (x.line ∷ [])) (takes w used (flat_map entry_lines es ++ ls) u s x e).used

  derive_post : (es : List RawEntry) (ds : List Decision) (ls : List Line) (s : Sentence) → IsUsedBy w used (flat_map entry_lines es ++ ls) → (o : Option Taken) → taken w used s ≡ o → IsSound (derive h w es (InPost ds ls) o)
  derive_post es ds ls s u None e = tt
  derive_post es ds ls s u (Some x) e = more_lines es ls s u x e

  derive_leaf : (es : List RawEntry) (n : ℕ) (end : LeafEnd) (ds : List Decision) (ls : List Line) (ps : List (List Term)) (s : Sentence) → IsUsedBy w used (flat_map entry_lines es ++ ls) → (o : Option Taken) → taken w used s ≡ o → IsSound (derive h w es (InLeaf n end ds ls ps) o)
  derive_leaf es n end ds ls [] s u None e = tt
  derive_leaf es n end ds ls [] s u (Some x) e = more_lines es ls s u x e
  derive_leaf es n end ds ls (p ∷ ps) s u None e = tt
  derive_leaf es n end ds ls (p ∷ ps) s u (Some x) e = tt

  post_sound : (es : List RawEntry) (ds : List Decision) (ls : List Line) (s : Sentence) → IsUsedBy w used (lines_of es (InPost ds ls)) → in_post h w used es ds ls s ≢ Wrong → IsSound (in_post h w used es ds ls s)
  post_sound es ds [] (says.Decided d) u ok = u
  post_sound es ds (l ∷ ls) (says.Decided d) u ok = absurd (ok refl)
  post_sound es ds ls (says.Derived l) u ok = derive_post es ds ls (says.Derived l) u (taken w used (says.Derived l)) refl
  post_sound es ds ls (says.Use i) u ok = derive_post es ds ls (says.Use i) u (taken w used (says.Use i)) refl
  post_sound es ds ls (says.End item) u ok = subst (IsUsedBy w used) (sym (closed_lines es (Post ds ls item))) u
  post_sound es ds ls s u ok = absurd (ok refl)

  leaf_sound : (es : List RawEntry) (n : ℕ) (end : LeafEnd) (ds : List Decision) (ls : List Line) (ps : List (List Term)) (s : Sentence) → IsUsedBy w used (lines_of es (InLeaf n end ds ls ps)) → in_leaf h w used es n end ds ls ps s ≢ Wrong → IsSound (in_leaf h w used es n end ds ls ps s)
  leaf_sound es n end ds [] [] (says.Decided d) u ok = u
  leaf_sound es n end ds [] (p ∷ ps) (says.Decided d) u ok = absurd (ok refl)
  leaf_sound es n end ds (l ∷ ls) ps (says.Decided d) u ok = absurd (ok refl)
  leaf_sound es n end ds ls ps (says.Derived l) u ok = derive_leaf es n end ds ls ps (says.Derived l) u (taken w used (says.Derived l)) refl
  leaf_sound es n end ds ls ps (says.Use i) u ok = derive_leaf es n end ds ls ps (says.Use i) u (taken w used (says.Use i)) refl
  leaf_sound es n end ds ls ps (says.Equation p) u ok = u
  leaf_sound es n end ds ls ps s u ok = begin_sound (es ++ Publish n ds ls ps end ∷ []) s (subst (IsUsedBy w used) (sym (closed_lines es (Publish n ds ls ps end))) u) ok

start_sound : (s : Sentence) → at_start s ≢ Wrong → IsSound (at_start s)
start_sound (says.Title v) ok = tt
start_sound s ok = absurd (ok refl)

unknowns_sound : (v : Version) (s : Sentence) → at_unknowns v s ≢ Wrong → IsSound (at_unknowns v s)
unknowns_sound v (says.Unknowns n) ok = tt
unknowns_sound v s ok = absurd (ok refl)

equations_sound : (v : Version) (u : ℕ) (s : Sentence) → at_equations v u s ≢ Wrong → IsSound (at_equations v u s)
equations_sound v u (says.Equations n) ok = tt
equations_sound v u s ok = absurd (ok refl)

headed_sound : (v : Version) (h : Head) → IsSound (headed v h)
headed_sound One h = tt
headed_sound Two h = tt

budget_sound : (v : Version) (u e : ℕ) (s : Sentence) → at_budget v u e s ≢ Wrong → IsSound (at_budget v u e s)
budget_sound v u e (says.Budget n) ok = headed_sound v _
budget_sound v u e s ok = absurd (ok refl)

-- a table that is not too long
filled_sound : (h : Head) (size : ℕ) (t : List Line) → HasEachOnce t → length t ≤ size → IsSound (filled h size t)
filled_sound h size t once short = by (length t == size) refl
  where
    by : (b : Bool) → (length t == size) ≡ b → IsSound (if b then Listing h (ByPlace t) 0 [] Nothing else InTable h size t)
    by true e = record { once = once; more = t; split = refl; counted = refl }
    by false e = (once, grind (arith, nat_tests))

lines_sound : (h : Head) (s : Sentence) → at_lines h s ≢ Wrong → IsSound (at_lines h s)
lines_sound h (says.Lines n) ok = filled_sound h n [] none_once (omega arith)
lines_sound h s ok = absurd (ok refl)

table_sound : (h : Head) (size : ℕ) (t : List Line) (s : Sentence) → HasEachOnce t → length t < size → in_table h size t s ≢ Wrong → IsSound (in_table h size t s)
table_sound h size t (says.Derived l) once short ok = by (stands_in t l) refl
  where
    by : (b : Bool) → stands_in t l ≡ b → IsSound (if b then Wrong else filled h size (t ++ l ∷ []))
    by true e = tt
    by false e = filled_sound h size (t ++ l ∷ []) (pushed_once t l once e) (let n = length-append t (l ∷ []) in omega (arith, n, short))
table_sound h size t s once short ok = absurd (ok refl)

pub sound_next : (st : State) (s : Sentence) → IsSound st → next st s ≢ Wrong → IsSound (next st s)
sound_next AtStart s h ok = start_sound s ok
sound_next (AtUnknowns v) s h ok = unknowns_sound v s ok
sound_next (AtEquations v u) s h ok = equations_sound v u s ok
sound_next (AtBudget v u e) s h ok = budget_sound v u e s ok
sound_next (AtLines k) s h ok = lines_sound k s ok
sound_next (InTable k size t) s h ok = table_sound k size t s h.0 h.1 ok
sound_next (Listing k w used es Nothing) s h ok = begin_sound k w used es s h ok
sound_next (Listing k w used es (InPost ds ls)) s h ok = post_sound k w used es ds ls s h ok
sound_next (Listing k w used es (InLeaf n end ds ls ps)) s h ok = leaf_sound k w used es n end ds ls ps s h ok
sound_next (Whole v c) s h ok = absurd (ok refl)
sound_next Wrong s h ok = absurd (ok refl)
