-- Which lines may come next, by their kind alone.
use Rattle.std.specs.Prelude.{◌≡◌, ◌≢◌, ℕ, ◌+◌, ◌≤◌, Bool, true, false, ◌&&◌, ◌==◌, if◌then◌else◌, Option, None, Some, List, [], ◌∷◌, ◌++◌, length, refl}
use Rattle.std.proofs.Common.{sym, ◌∙◌, ap, arith}
use Rattle.std.proofs.lemmas.List.{length-append}
use Rattle.sparse_poly.specs.declared.Term.{Term}
use Rattle.sparse_poly.specs.Contributions.{IsPoly}
use Rattle.derive_lines.specs.declared.parts.Decision.{Decision}
use Rattle.derive_lines.specs.declared.parts.Line.{Line}
use Rattle.derive_lines.specs.declared.parts.Item.TheVariants.{Root}
use Rattle.derive_lines.specs.declared.parts.Way.TheVariants.{Fwd}
use Rattle.leaf_cert.specs.declared.ends.LeafEnd.{LeafEnd}
use Rattle.leaf_cert.specs.declared.ends.LeafEnd.TheVariants.{Triangular}
use Rattle.leaf_cert.specs.declared.certificate.RawEntry.{RawEntry}
use Rattle.leaf_cert.specs.declared.certificate.RawEntry.TheVariants.{Split, Post, Close, Publish}
use Rattle.cert_lines.specs.declared.kind.Kind.{Kind}
use Rattle.cert_lines.specs.declared.kind.Kind.TheVariants as kind
use Rattle.cert_read.specs.declared.machine.Head.{Head}
use Rattle.cert_text.specs.declared.version.Version.{Version}
use Rattle.cert_text.specs.declared.version.Version.TheVariants.{One, Two}
use Rattle.cert_text.specs.declared.sentence.Sentence.{Sentence}
use Rattle.cert_text.specs.declared.sentence.Sentence.TheVariants as says
use Rattle.cert_text.specs.Numbers.{max_number}
use Rattle.cert_lines.specs.Fitting.{FitsSentence}
use Rattle.cert_text.specs.Tables.{stands_in}
use Rattle.cert_read.specs.Machine.{Wording, InFull, ByPlace, Nothing, InPost, InLeaf, State, AtStart, AtUnknowns, AtEquations, AtBudget, AtLines, InTable, Listing, Whole, Wrong, Taken, taken, is_used_up, version_of, certificate, begin, derive, in_post, in_leaf, at_start, at_unknowns, at_equations, headed, at_budget, filled, at_lines, in_table, next, kind_of, may_begin, may_post, may_leaf, is_title, is_unknowns, is_equations, is_budget, is_lines, is_derived, may, unknowns}
use Rattle.cert_read.proofs.Tables.{both, own_number}
use Rattle.cert_read.proofs.Fresh.{numbered, fresh}

-- ---- a line that comes next is of a kind that may

begin_may : (h : Head) (w : Wording) (used : ℕ) (es : List RawEntry) (s : Sentence) → begin h w used es s ≢ Wrong → may_begin w used (kind_of s) ≡ true
begin_may h w used es (says.Split n by) ok = refl
begin_may h w used es says.Post ok = refl
begin_may h w used es (says.Close n k) ok = refl
begin_may h w used es (says.Leaf n end) ok = refl
begin_may h w used es (says.Done n) ok = by ((n == length es) && is_used_up w used) refl ok
  where
    by : (b : Bool) → (n == length es) && is_used_up w used ≡ b → (if b then Whole (version_of w) (certificate h es) else Wrong) ≢ Wrong → is_used_up w used ≡ true
    by true e ok = (both (n == length es) (is_used_up w used) e).1
    by false e ok = absurd (ok refl)
begin_may h w used es s ok = absurd (ok refl)

post_may : (h : Head) (w : Wording) (used : ℕ) (es : List RawEntry) (ds : List Decision) (ls : List Line) (s : Sentence) → in_post h w used es ds ls s ≢ Wrong → may_post w ls (kind_of s) ≡ true
post_may h w used es ds [] (says.Decided d) ok = refl
post_may h w used es ds (l ∷ ls) (says.Decided d) ok = absurd (ok refl)
post_may h InFull used es ds ls (says.Derived l) ok = refl
post_may h (ByPlace t) used es ds ls (says.Derived l) ok = absurd (ok refl)
post_may h InFull used es ds ls (says.Use i) ok = absurd (ok refl)
post_may h (ByPlace t) used es ds ls (says.Use i) ok = refl
post_may h w used es ds ls (says.End item) ok = refl
post_may h w used es ds ls s ok = absurd (ok refl)

no_line : (h : Head) (w : Wording) (es : List RawEntry) (n : ℕ) (end : LeafEnd) (ds : List Decision) (ls : List Line) (p : List Term) (ps : List (List Term)) (o : Option Taken) → derive h w es (InLeaf n end ds ls (p ∷ ps)) o ≡ Wrong
no_line h w es n end ds ls p ps None = refl
no_line h w es n end ds ls p ps (Some x) = refl

leaf_may : (h : Head) (w : Wording) (used : ℕ) (es : List RawEntry) (n : ℕ) (end : LeafEnd) (ds : List Decision) (ls : List Line) (ps : List (List Term)) (s : Sentence) → in_leaf h w used es n end ds ls ps s ≢ Wrong → may_leaf w used ls ps (kind_of s) ≡ true
leaf_may h w used es n end ds [] [] (says.Decided d) ok = refl
leaf_may h w used es n end ds [] (p ∷ ps) (says.Decided d) ok = absurd (ok refl)
leaf_may h w used es n end ds (l ∷ ls) ps (says.Decided d) ok = absurd (ok refl)
leaf_may h InFull used es n end ds ls [] (says.Derived l) ok = refl
leaf_may h (ByPlace t) used es n end ds ls [] (says.Derived l) ok = absurd (ok refl)
leaf_may h w used es n end ds ls (p ∷ ps) (says.Derived l) ok = absurd (ok (no_line h w es n end ds ls p ps (taken w used (says.Derived l))))
leaf_may h InFull used es n end ds ls [] (says.Use i) ok = absurd (ok refl)
leaf_may h (ByPlace t) used es n end ds ls [] (says.Use i) ok = refl
leaf_may h w used es n end ds ls (p ∷ ps) (says.Use i) ok = absurd (ok (no_line h w es n end ds ls p ps (taken w used (says.Use i))))
leaf_may h w used es n end ds ls ps (says.Equation p) ok = refl
leaf_may h w used es n end ds ls ps s ok = begin_may h w used (es ++ Publish n ds ls ps end ∷ []) s ok

start_may : (s : Sentence) → at_start s ≢ Wrong → is_title (kind_of s) ≡ true
start_may (says.Title v) ok = refl
start_may s ok = absurd (ok refl)

unknowns_may : (v : Version) (s : Sentence) → at_unknowns v s ≢ Wrong → is_unknowns (kind_of s) ≡ true
unknowns_may v (says.Unknowns n) ok = refl
unknowns_may v s ok = absurd (ok refl)

equations_may : (v : Version) (u : ℕ) (s : Sentence) → at_equations v u s ≢ Wrong → is_equations (kind_of s) ≡ true
equations_may v u (says.Equations n) ok = refl
equations_may v u s ok = absurd (ok refl)

budget_may : (v : Version) (u e : ℕ) (s : Sentence) → at_budget v u e s ≢ Wrong → is_budget (kind_of s) ≡ true
budget_may v u e (says.Budget n) ok = refl
budget_may v u e s ok = absurd (ok refl)

lines_may : (h : Head) (s : Sentence) → at_lines h s ≢ Wrong → is_lines (kind_of s) ≡ true
lines_may h (says.Lines n) ok = refl
lines_may h s ok = absurd (ok refl)

table_may : (h : Head) (size : ℕ) (t : List Line) (s : Sentence) → in_table h size t s ≢ Wrong → is_derived (kind_of s) ≡ true
table_may h size t (says.Derived l) ok = refl
table_may h size t s ok = absurd (ok refl)

pub may_come : (st : State) (s : Sentence) → next st s ≢ Wrong → may st (kind_of s) ≡ true
may_come AtStart s ok = start_may s ok
may_come (AtUnknowns v) s ok = unknowns_may v s ok
may_come (AtEquations v u) s ok = equations_may v u s ok
may_come (AtBudget v u e) s ok = budget_may v u e s ok
may_come (AtLines h) s ok = lines_may h s ok
may_come (InTable h size t) s ok = table_may h size t s ok
may_come (Listing h w used es Nothing) s ok = begin_may h w used es s ok
may_come (Listing h w used es (InPost ds ls)) s ok = post_may h w used es ds ls s ok
may_come (Listing h w used es (InLeaf n end ds ls ps)) s ok = leaf_may h w used es n end ds ls ps s ok
may_come (Whole v c) s ok = absurd (ok refl)
may_come Wrong s ok = absurd (ok refl)

-- ---- the number of entries, with one that is open, or of the lines of a table

abbrev pub weight : State → ℕ
weight AtStart = 0
weight (AtUnknowns v) = 0
weight (AtEquations v u) = 0
weight (AtBudget v u e) = 0
weight (AtLines h) = 0
weight (InTable h size t) = length t
weight (Listing h w used es Nothing) = length es
weight (Listing h w used es (InPost ds ls)) = length es + 1
weight (Listing h w used es (InLeaf n end ds ls ps)) = length es + 1
weight (Whole v c) = length c.entries
weight Wrong = 0

pub longer : (es : List RawEntry) (e : RawEntry) → length (es ++ e ∷ []) ≡ length es + 1
longer es e = length-append es (e ∷ [])

begin_weight : (h : Head) (w : Wording) (used : ℕ) (es : List RawEntry) (s : Sentence) → weight (begin h w used es s) ≤ length es + 1
begin_weight h w used es (says.Split n by) = let l = longer es (Split n by) in omega (arith, l)
begin_weight h w used es says.Post = omega arith
begin_weight h w used es (says.Close n k) = let l = longer es (Close n k) in omega (arith, l)
begin_weight h w used es (says.Leaf n end) = omega arith
begin_weight h w used es (says.Done n) = by ((n == length es) && is_used_up w used)
  where
    by : (b : Bool) → weight (if b then Whole (version_of w) (certificate h es) else Wrong) ≤ length es + 1
    by true = omega arith
    by false = omega arith
begin_weight h w used es s = omega arith

derive_post_weight : (h : Head) (w : Wording) (es : List RawEntry) (ds : List Decision) (ls : List Line) (o : Option Taken) → weight (derive h w es (InPost ds ls) o) ≤ length es + 2
derive_post_weight h w es ds ls None = omega arith
derive_post_weight h w es ds ls (Some x) = omega arith

derive_leaf_weight : (h : Head) (w : Wording) (es : List RawEntry) (n : ℕ) (end : LeafEnd) (ds : List Decision) (ls : List Line) (ps : List (List Term)) (o : Option Taken) → weight (derive h w es (InLeaf n end ds ls ps) o) ≤ length es + 2
derive_leaf_weight h w es n end ds ls [] None = omega arith
derive_leaf_weight h w es n end ds ls [] (Some x) = omega arith
derive_leaf_weight h w es n end ds ls (p ∷ ps) None = omega arith
derive_leaf_weight h w es n end ds ls (p ∷ ps) (Some x) = omega arith

post_weight : (h : Head) (w : Wording) (used : ℕ) (es : List RawEntry) (ds : List Decision) (ls : List Line) (s : Sentence) → weight (in_post h w used es ds ls s) ≤ length es + 2
post_weight h w used es ds [] (says.Decided d) = omega arith
post_weight h w used es ds (l ∷ ls) (says.Decided d) = omega arith
post_weight h w used es ds ls (says.Derived l) = derive_post_weight h w es ds ls (taken w used (says.Derived l))
post_weight h w used es ds ls (says.Use i) = derive_post_weight h w es ds ls (taken w used (says.Use i))
post_weight h w used es ds ls (says.End item) = let l = longer es (Post ds ls item) in omega (arith, l)
post_weight h w used es ds ls s = omega arith

leaf_weight : (h : Head) (w : Wording) (used : ℕ) (es : List RawEntry) (n : ℕ) (end : LeafEnd) (ds : List Decision) (ls : List Line) (ps : List (List Term)) (s : Sentence) → weight (in_leaf h w used es n end ds ls ps s) ≤ length es + 2
leaf_weight h w used es n end ds [] [] (says.Decided d) = omega arith
leaf_weight h w used es n end ds [] (p ∷ ps) (says.Decided d) = omega arith
leaf_weight h w used es n end ds (l ∷ ls) ps (says.Decided d) = omega arith
leaf_weight h w used es n end ds ls ps (says.Derived l) = derive_leaf_weight h w es n end ds ls ps (taken w used (says.Derived l))
leaf_weight h w used es n end ds ls ps (says.Use i) = derive_leaf_weight h w es n end ds ls ps (taken w used (says.Use i))
leaf_weight h w used es n end ds ls ps (says.Equation p) = omega arith
leaf_weight h w used es n end ds ls ps s = let b = begin_weight h w used (es ++ Publish n ds ls ps end ∷ []) s in let l = longer es (Publish n ds ls ps end) in omega (arith, b, l)

start_weight : (s : Sentence) → weight (at_start s) ≤ 1
start_weight (says.Title v) = omega arith
start_weight s = omega arith

unknowns_weight : (v : Version) (s : Sentence) → weight (at_unknowns v s) ≤ 1
unknowns_weight v (says.Unknowns n) = omega arith
unknowns_weight v s = omega arith

equations_weight : (v : Version) (u : ℕ) (s : Sentence) → weight (at_equations v u s) ≤ 1
equations_weight v u (says.Equations n) = omega arith
equations_weight v u s = omega arith

headed_weight : (v : Version) (h : Head) → weight (headed v h) ≤ 1
headed_weight One h = omega arith
headed_weight Two h = omega arith

budget_weight : (v : Version) (u e : ℕ) (s : Sentence) → weight (at_budget v u e s) ≤ 1
budget_weight v u e (says.Budget n) = headed_weight v (record { unknowns = u; equations = e; budget = n })
budget_weight v u e s = omega arith

filled_weight : (h : Head) (size : ℕ) (t : List Line) → weight (filled h size t) ≤ length t
filled_weight h size t = by (length t == size)
  where
    by : (b : Bool) → weight (if b then Listing h (ByPlace t) 0 [] Nothing else InTable h size t) ≤ length t
    by true = omega arith
    by false = omega arith

lines_weight : (h : Head) (s : Sentence) → weight (at_lines h s) ≤ 1
lines_weight h (says.Lines n) = let w = filled_weight h n [] in omega (arith, w)
lines_weight h s = omega arith

table_weight : (h : Head) (size : ℕ) (t : List Line) (s : Sentence) → weight (in_table h size t s) ≤ length t + 1
table_weight h size t (says.Derived l) = by (stands_in t l)
  where
    by : (b : Bool) → weight (if b then Wrong else filled h size (t ++ l ∷ [])) ≤ length t + 1
    by true = omega arith
    by false = let w = filled_weight h size (t ++ l ∷ []) in let n = length-append t (l ∷ []) in omega (arith, w, n)
table_weight h size t s = omega arith

-- one line adds at most one
pub weight_more : (st : State) (s : Sentence) → weight (next st s) ≤ weight st + 1
weight_more AtStart s = start_weight s
weight_more (AtUnknowns v) s = unknowns_weight v s
weight_more (AtEquations v u) s = equations_weight v u s
weight_more (AtBudget v u e) s = budget_weight v u e s
weight_more (AtLines h) s = lines_weight h s
weight_more (InTable h size t) s = table_weight h size t s
weight_more (Listing h w used es Nothing) s = begin_weight h w used es s
weight_more (Listing h w used es (InPost ds ls)) s = let k = post_weight h w used es ds ls s in omega (arith, k)
weight_more (Listing h w used es (InLeaf n end ds ls ps)) s = let k = leaf_weight h w used es n end ds ls ps s in omega (arith, k)
weight_more (Whole v c) s = omega arith
weight_more Wrong s = omega arith

-- ---- where a kind may come next, some line of it does, but for a line by its place

-- some line of the kind comes next, whose numbers are in range, and leaves the number of unknowns as it is
pub record SomeLine (st : State) (k : Kind) : Type 0 where
  pub said : Sentence
  pub kind_is : kind_of said ≡ k
  pub live : next st said ≢ Wrong
  pub fits : (u : ℕ) → FitsSentence u said
  pub keeps : unknowns (next st said) ≡ unknowns st

some : (st : State) (s : Sentence) → next st s ≢ Wrong → ((u : ℕ) → FitsSentence u s) → unknowns (next st s) ≡ unknowns st → SomeLine st (kind_of s)
some st s live fits keeps = record { said = s; kind_is = refl; live = live; fits = fits; keeps = keeps }

zero_poly : IsPoly []
zero_poly = record { falling = tt; monomials = tt; apart = tt; in_range = tt }

abbrev some_decision : Decision
some_decision = record { poly = []; zero = true }

abbrev some_line : Line
some_line = record { way = Fwd; from = None; by = None; l = []; a = []; m = []; made = [] }

split_fits : (u : ℕ) → FitsSentence u (says.Split 0 [])
split_fits u = (record { case_number = omega arith; poly = zero_poly }, tt)

close_fits : (u : ℕ) → FitsSentence u (says.Close 0 0)
close_fits u = record { case_number = omega arith; pattern = omega arith }

leaf_fits : (u : ℕ) → FitsSentence u (says.Leaf 0 Triangular)
leaf_fits u = (omega arith, tt, tt)

decision_fits : (u : ℕ) → FitsSentence u (says.Decided some_decision)
decision_fits u = (zero_poly, tt)

line_fits : (u : ℕ) → FitsSentence u (says.Derived some_line)
line_fits u = (record { from = tt; by = tt; l = zero_poly; a = zero_poly; m = zero_poly; made = zero_poly }, record { l = tt; a = tt; m = tt; made = tt })

numbered_fits : (k u : ℕ) → k ≤ max_number → FitsSentence u (says.Derived (numbered k))
numbered_fits k u h = (record { from = h; by = tt; l = zero_poly; a = zero_poly; m = zero_poly; made = zero_poly }, record { l = tt; a = tt; m = tt; made = tt })

pub begin_done : (h : Head) (w : Wording) (used : ℕ) (es : List RawEntry) → is_used_up w used ≡ true → begin h w used es (says.Done (length es)) ≡ Whole (version_of w) (certificate h es)
begin_done h w used es e =
    ap (λ b. if b && is_used_up w used then Whole (version_of w) (certificate h es) else Wrong) (own_number (length es)) ∙ ap (λ b. if b then Whole (version_of w) (certificate h es) else Wrong) e

done_live : (h : Head) (w : Wording) (used : ℕ) (es : List RawEntry) → is_used_up w used ≡ true → begin h w used es (says.Done (length es)) ≢ Wrong
done_live h w used es e f = let q : Whole (version_of w) (certificate h es) ≡ Wrong = sym (begin_done h w used es e) ∙ f in cc

done_keeps : (h : Head) (w : Wording) (used : ℕ) (es : List RawEntry) → is_used_up w used ≡ true → unknowns (begin h w used es (says.Done (length es))) ≡ h.unknowns
done_keeps h w used es e = ap unknowns (begin_done h w used es e)

-- a line by its place
abbrev pub is_use : Kind → Bool
is_use kind.Use = true
is_use k = false

begin_some : (h : Head) (w : Wording) (used : ℕ) (es : List RawEntry) (k : Kind) → may_begin w used k ≡ true → length es ≤ max_number → SomeLine (Listing h w used es Nothing) k
begin_some h w used es kind.Split e few = some (Listing h w used es Nothing) (says.Split 0 []) (λ w. cc) split_fits refl
begin_some h w used es kind.Post e few = some (Listing h w used es Nothing) says.Post (λ w. cc) (λ u. tt) refl
begin_some h w used es kind.Close e few = some (Listing h w used es Nothing) (says.Close 0 0) (λ w. cc) close_fits refl
begin_some h w used es kind.Leaf e few = some (Listing h w used es Nothing) (says.Leaf 0 Triangular) (λ w. cc) leaf_fits refl
begin_some h w used es kind.Done e few = some (Listing h w used es Nothing) (says.Done (length es)) (done_live h w used es e) (λ u. few) (done_keeps h w used es e)
begin_some h w used es k e few = absurd (cc)

post_some : (h : Head) (w : Wording) (used : ℕ) (es : List RawEntry) (ds : List Decision) (ls : List Line) (k : Kind) → may_post w ls k ≡ true → is_use k ≡ false → SomeLine (Listing h w used es (InPost ds ls)) k
post_some h w used es ds [] kind.Decided e n = some (Listing h w used es (InPost ds [])) (says.Decided some_decision) (λ w. cc) decision_fits refl
post_some h w used es ds (l ∷ ls) kind.Decided e n = absurd (cc)
post_some h InFull used es ds ls kind.Derived e n = some (Listing h InFull used es (InPost ds ls)) (says.Derived some_line) (λ w. cc) line_fits refl
post_some h (ByPlace t) used es ds ls kind.Derived e n = absurd (cc)
post_some h w used es ds ls kind.End e n = some (Listing h w used es (InPost ds ls)) (says.End (Root 0)) (λ w. cc) (λ u. omega arith) refl
post_some h w used es ds ls kind.Use e n = absurd (cc)
post_some h w used es ds ls k e n = absurd (cc)

leaf_some : (h : Head) (w : Wording) (used : ℕ) (es : List RawEntry) (n : ℕ) (end : LeafEnd) (ds : List Decision) (ls : List Line) (ps : List (List Term)) (k : Kind) → may_leaf w used ls ps k ≡ true → is_use k ≡ false → length es + 1 ≤ max_number → SomeLine (Listing h w used es (InLeaf n end ds ls ps)) k
leaf_some h w used es n end ds [] [] kind.Decided e not_use few = some (Listing h w used es (InLeaf n end ds [] [])) (says.Decided some_decision) (λ w. cc) decision_fits refl
leaf_some h w used es n end ds [] (p ∷ ps) kind.Decided e not_use few = absurd (cc)
leaf_some h w used es n end ds (l ∷ ls) ps kind.Decided e not_use few = absurd (cc)
leaf_some h InFull used es n end ds ls [] kind.Derived e not_use few = some (Listing h InFull used es (InLeaf n end ds ls [])) (says.Derived some_line) (λ w. cc) line_fits refl
leaf_some h InFull used es n end ds ls (p ∷ ps) kind.Derived e not_use few = absurd (cc)
leaf_some h (ByPlace t) used es n end ds ls ps kind.Derived e not_use few = absurd (cc)
leaf_some h w used es n end ds ls ps kind.Use e not_use few = absurd (cc)
leaf_some h w used es n end ds ls ps kind.Equation e not_use few = some (Listing h w used es (InLeaf n end ds ls ps)) (says.Equation []) (λ w. cc) (λ u. (zero_poly, tt)) refl
leaf_some h w used es n end ds ls ps kind.Split e not_use few = some (Listing h w used es (InLeaf n end ds ls ps)) (says.Split 0 []) (λ w. cc) split_fits refl
leaf_some h w used es n end ds ls ps kind.Post e not_use few = some (Listing h w used es (InLeaf n end ds ls ps)) says.Post (λ w. cc) (λ u. tt) refl
leaf_some h w used es n end ds ls ps kind.Close e not_use few = some (Listing h w used es (InLeaf n end ds ls ps)) (says.Close 0 0) (λ w. cc) close_fits refl
leaf_some h w used es n end ds ls ps kind.Leaf e not_use few = some (Listing h w used es (InLeaf n end ds ls ps)) (says.Leaf 0 Triangular) (λ w. cc) leaf_fits refl
leaf_some h w used es n end ds ls ps kind.Done e not_use few =
    let all = es ++ Publish n ds ls ps end ∷ [] in
    let l = longer es (Publish n ds ls ps end) in
    some (Listing h w used es (InLeaf n end ds ls ps)) (says.Done (length all)) (done_live h w used all e) (λ u. omega (arith, l, few)) (done_keeps h w used all e)
leaf_some h w used es n end ds ls ps k e not_use few = absurd (cc)

start_some : (k : Kind) → is_title k ≡ true → SomeLine AtStart k
start_some kind.Title e = some AtStart (says.Title One) (λ w. cc) (λ u. tt) refl
start_some k e = absurd (cc)

unknowns_some : (v : Version) (k : Kind) → is_unknowns k ≡ true → SomeLine (AtUnknowns v) k
unknowns_some v kind.Unknowns e = some (AtUnknowns v) (says.Unknowns 0) (λ w. cc) (λ u. omega arith) refl
unknowns_some v k e = absurd (cc)

equations_some : (v : Version) (u : ℕ) (k : Kind) → is_equations k ≡ true → SomeLine (AtEquations v u) k
equations_some v u kind.Equations e = some (AtEquations v u) (says.Equations 0) (λ w. cc) (λ u. omega arith) refl
equations_some v u k e = absurd (cc)

budget_some : (v : Version) (u e : ℕ) (k : Kind) → is_budget k ≡ true → SomeLine (AtBudget v u e) k
budget_some One u e kind.Budget h = some (AtBudget One u e) (says.Budget 0) (λ w. cc) (λ u. omega arith) refl
budget_some Two u e kind.Budget h = some (AtBudget Two u e) (says.Budget 0) (λ w. cc) (λ u. omega arith) refl
budget_some v u e k h = absurd (cc)

filled_live : (h : Head) (size : ℕ) (t : List Line) → filled h size t ≢ Wrong
filled_live h size t = by (length t == size)
  where
    by : (b : Bool) → (if b then Listing h (ByPlace t) 0 [] Nothing else InTable h size t) ≢ Wrong
    by true w = cc
    by false w = cc

pub filled_keeps : (h : Head) (size : ℕ) (t : List Line) → unknowns (filled h size t) ≡ h.unknowns
filled_keeps h size t = by (length t == size)
  where
    by : (b : Bool) → unknowns (if b then Listing h (ByPlace t) 0 [] Nothing else InTable h size t) ≡ h.unknowns
    by true = refl
    by false = refl

lines_some : (h : Head) (k : Kind) → is_lines k ≡ true → SomeLine (AtLines h) k
lines_some h kind.Lines e = some (AtLines h) (says.Lines 0) (filled_live h 0 []) (λ u. omega arith) (filled_keeps h 0 [])
lines_some h k e = absurd (cc)

-- a line that a table has not yet
pub fresh_line : (t : List Line) → length t ≤ max_number → (l : Line) × (stands_in t l ≡ false) × ((u : ℕ) → FitsSentence u (says.Derived l))
fresh_line t few = let f = fresh t in let le = f.1 in (numbered f.0, f.2, λ u. numbered_fits f.0 u (omega (arith, le, few)))

table_some : (h : Head) (size : ℕ) (t : List Line) (k : Kind) → is_derived k ≡ true → length t ≤ max_number → SomeLine (InTable h size t) k
table_some h size t kind.Derived e few =
    let f = fresh_line t few in
    let e : in_table h size t (says.Derived f.0) ≡ filled h size (t ++ f.0 ∷ []) = ap (λ b. if b then Wrong else filled h size (t ++ f.0 ∷ [])) f.1 in
    some (InTable h size t) (says.Derived f.0) (λ w. filled_live h size (t ++ f.0 ∷ []) (sym e ∙ w)) f.2 (ap unknowns e ∙ filled_keeps h size (t ++ f.0 ∷ []))
table_some h size t k e few = absurd (cc)

pub some_next : (st : State) (k : Kind) → may st k ≡ true → is_use k ≡ false → weight st ≤ max_number → SomeLine st k
some_next AtStart k e n few = start_some k e
some_next (AtUnknowns v) k e n few = unknowns_some v k e
some_next (AtEquations v u) k e n few = equations_some v u k e
some_next (AtBudget v u b) k e n few = budget_some v u b k e
some_next (AtLines h) k e n few = lines_some h k e
some_next (InTable h size t) k e n few = table_some h size t k e few
some_next (Listing h w used es Nothing) k e n few = begin_some h w used es k e few
some_next (Listing h w used es (InPost ds ls)) k e n few = post_some h w used es ds ls k e n
some_next (Listing h w used es (InLeaf m end ds ls ps)) k e n few = leaf_some h w used es m end ds ls ps k e n few
some_next (Whole v c) k e n few = absurd (cc)
some_next Wrong k e n few = absurd (cc)
