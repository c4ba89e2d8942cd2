-- The number of unknowns of a state, and of the certificates that it leads to.
use Rattle.std.specs.Prelude.{◌≡◌, ◌≢◌, ℕ, ◌≤◌, Bool, true, false, ◌&&◌, ◌==◌, if◌then◌else◌, Option, None, Some, List, [], ◌∷◌, ◌++◌, length, codes, refl}
use Rattle.std.proofs.Common.{sym, ap, subst, arith}
use Rattle.sparse_poly.specs.declared.Term.{Term}
use Rattle.derive_lines.specs.declared.parts.Decision.{Decision}
use Rattle.derive_lines.specs.declared.parts.Line.{Line}
use Rattle.leaf_cert.specs.declared.ends.LeafEnd.{LeafEnd}
use Rattle.leaf_cert.specs.declared.certificate.RawEntry.{RawEntry}
use Rattle.leaf_cert.specs.declared.certificate.RawEntry.TheVariants.{Publish}
use Rattle.leaf_cert.specs.declared.certificate.Certificate.{Certificate}
use Rattle.cert_lines.specs.declared.kind.Kind.{Kind}
use Rattle.cert_lines.specs.declared.kind.Kind.TheVariants as kind
use Rattle.cert_read.specs.declared.machine.Head.{Head}
use Rattle.cert_text.specs.declared.version.Version.{Version}
use Rattle.cert_text.specs.declared.version.Version.TheVariants.{One, Two}
use Rattle.cert_text.specs.declared.sentence.Sentence.{Sentence}
use Rattle.cert_text.specs.declared.sentence.Sentence.TheVariants as says
use Rattle.cert_text.specs.Sentences.{sentences}
use Rattle.cert_lines.specs.Forms.{form, count_form, any_out}
use Rattle.cert_lines.specs.Fitting.{FitsSentence}
use Rattle.cert_text.specs.Tables.{stands_in}
use Rattle.cert_read.specs.Machine.{Wording, Open, Nothing, InPost, InLeaf, State, AtStart, AtUnknowns, AtEquations, AtBudget, AtLines, InTable, Listing, Whole, Wrong, Taken, taken, is_used_up, version_of, certificate, begin, derive, in_post, in_leaf, listing, at_start, at_unknowns, at_equations, headed, at_budget, filled, at_lines, in_table, next, may, is_title, is_unknowns, printed, unknowns}
use Rattle.cert_read.proofs.Mays.{filled_keeps}
use Rattle.cert_read.proofs.Fit.{AllFit, fit_append}

begin_keeps : (h : Head) (w : Wording) (used : ℕ) (es : List RawEntry) (s : Sentence) → begin h w used es s ≢ Wrong → unknowns (begin h w used es s) ≡ h.unknowns
begin_keeps h w used es (says.Split n by) ok = refl
begin_keeps h w used es says.Post ok = refl
begin_keeps h w used es (says.Close n k) ok = refl
begin_keeps h w used es (says.Leaf n end) ok = refl
begin_keeps h w used es (says.Done n) ok = by ((n == length es) && is_used_up w used) ok
  where
    by : (b : Bool) → (if b then Whole (version_of w) (certificate h es) else Wrong) ≢ Wrong → unknowns (if b then Whole (version_of w) (certificate h es) else Wrong) ≡ h.unknowns
    by true ok = refl
    by false ok = absurd (ok refl)
begin_keeps h w used es s ok = absurd (ok refl)

derive_post : (h : Head) (w : Wording) (es : List RawEntry) (ds : List Decision) (ls : List Line) (o : Option Taken) → derive h w es (InPost ds ls) o ≢ Wrong → unknowns (derive h w es (InPost ds ls) o) ≡ h.unknowns
derive_post h w es ds ls None ok = absurd (ok refl)
derive_post h w es ds ls (Some x) ok = refl

derive_leaf : (h : Head) (w : Wording) (es : List RawEntry) (n : ℕ) (end : LeafEnd) (ds : List Decision) (ls : List Line) (ps : List (List Term)) (o : Option Taken) → derive h w es (InLeaf n end ds ls ps) o ≢ Wrong → unknowns (derive h w es (InLeaf n end ds ls ps) o) ≡ h.unknowns
derive_leaf h w es n end ds ls [] None ok = absurd (ok refl)
derive_leaf h w es n end ds ls [] (Some x) ok = refl
derive_leaf h w es n end ds ls (p ∷ ps) None ok = absurd (ok refl)
derive_leaf h w es n end ds ls (p ∷ ps) (Some x) ok = absurd (ok refl)

post_keeps : (h : Head) (w : Wording) (used : ℕ) (es : List RawEntry) (ds : List Decision) (ls : List Line) (s : Sentence) → in_post h w used es ds ls s ≢ Wrong → unknowns (in_post h w used es ds ls s) ≡ h.unknowns
post_keeps h w used es ds [] (says.Decided d) ok = refl
post_keeps h w used es ds (l ∷ ls) (says.Decided d) ok = absurd (ok refl)
post_keeps h w used es ds ls (says.Derived l) ok = derive_post h w es ds ls (taken w used (says.Derived l)) ok
post_keeps h w used es ds ls (says.Use i) ok = derive_post h w es ds ls (taken w used (says.Use i)) ok
post_keeps h w used es ds ls (says.End item) ok = refl
post_keeps h w used es ds ls s ok = absurd (ok refl)

leaf_keeps : (h : Head) (w : Wording) (used : ℕ) (es : List RawEntry) (n : ℕ) (end : LeafEnd) (ds : List Decision) (ls : List Line) (ps : List (List Term)) (s : Sentence) → in_leaf h w used es n end ds ls ps s ≢ Wrong → unknowns (in_leaf h w used es n end ds ls ps s) ≡ h.unknowns
leaf_keeps h w used es n end ds [] [] (says.Decided d) ok = refl
leaf_keeps h w used es n end ds [] (p ∷ ps) (says.Decided d) ok = absurd (ok refl)
leaf_keeps h w used es n end ds (l ∷ ls) ps (says.Decided d) ok = absurd (ok refl)
leaf_keeps h w used es n end ds ls ps (says.Derived l) ok = derive_leaf h w es n end ds ls ps (taken w used (says.Derived l)) ok
leaf_keeps h w used es n end ds ls ps (says.Use i) ok = derive_leaf h w es n end ds ls ps (taken w used (says.Use i)) ok
leaf_keeps h w used es n end ds ls ps (says.Equation p) ok = refl
leaf_keeps h w used es n end ds ls ps s ok = begin_keeps h w used (es ++ Publish n ds ls ps end ∷ []) s ok

listing_keeps : (h : Head) (w : Wording) (used : ℕ) (es : List RawEntry) (o : Open) (s : Sentence) → listing h w used es o s ≢ Wrong → unknowns (listing h w used es o s) ≡ h.unknowns
listing_keeps h w used es Nothing s ok = begin_keeps h w used es s ok
listing_keeps h w used es (InPost ds ls) s ok = post_keeps h w used es ds ls s ok
listing_keeps h w used es (InLeaf n end ds ls ps) s ok = leaf_keeps h w used es n end ds ls ps s ok

equations_keeps : (v : Version) (u : ℕ) (s : Sentence) → at_equations v u s ≢ Wrong → unknowns (at_equations v u s) ≡ u
equations_keeps v u (says.Equations e) ok = refl
equations_keeps v u s ok = absurd (ok refl)

headed_keeps : (v : Version) (h : Head) → unknowns (headed v h) ≡ h.unknowns
headed_keeps One h = refl
headed_keeps Two h = refl

budget_keeps : (v : Version) (u e : ℕ) (s : Sentence) → at_budget v u e s ≢ Wrong → unknowns (at_budget v u e s) ≡ u
budget_keeps v u e (says.Budget b) ok = headed_keeps v (record { unknowns = u; equations = e; budget = b })
budget_keeps v u e s ok = absurd (ok refl)

lines_keeps : (h : Head) (s : Sentence) → at_lines h s ≢ Wrong → unknowns (at_lines h s) ≡ h.unknowns
lines_keeps h (says.Lines n) ok = filled_keeps h n []
lines_keeps h s ok = absurd (ok refl)

table_keeps : (h : Head) (size : ℕ) (t : List Line) (s : Sentence) → in_table h size t s ≢ Wrong → unknowns (in_table h size t s) ≡ h.unknowns
table_keeps h size t (says.Derived l) ok = by (stands_in t l) ok
  where
    by : (b : Bool) → (if b then Wrong else filled h size (t ++ l ∷ [])) ≢ Wrong → unknowns (if b then Wrong else filled h size (t ++ l ∷ [])) ≡ h.unknowns
    by true ok = absurd (ok refl)
    by false ok = filled_keeps h size (t ++ l ∷ [])
table_keeps h size t s ok = absurd (ok refl)

-- ---- what fits at a state fits at the next

any_title : (u v : ℕ) (s : Sentence) → at_start s ≢ Wrong → FitsSentence u s → FitsSentence v s
any_title u v (says.Title x) w h = tt
any_title u v s w h = absurd (w refl)

any_unknowns : (x : Version) (u v : ℕ) (s : Sentence) → at_unknowns x s ≢ Wrong → FitsSentence u s → FitsSentence v s
any_unknowns x u v (says.Unknowns n) w h = h
any_unknowns x u v s w h = absurd (w refl)

one_more : (u v : ℕ) (ss : List Sentence) (s : Sentence) → v ≡ u → AllFit u ss → FitsSentence u s → AllFit v (ss ++ s ∷ [])
one_more u v ss s e f h = subst (λ w. AllFit w (ss ++ s ∷ [])) (sym e) (fit_append u ss (s ∷ []) f (h, tt))

-- the lines before a state, where they are given by it
pub fits_next : (st : State) (ss : List Sentence) (s : Sentence) → printed st ≡ ss → AllFit (unknowns st) ss → next st s ≢ Wrong → FitsSentence (unknowns st) s → AllFit (unknowns (next st s)) (ss ++ s ∷ [])
fits_next AtStart ss s e f w h = subst (λ l. AllFit (unknowns (at_start s)) (l ++ s ∷ [])) e (any_title 0 (unknowns (at_start s)) s w h, tt)
fits_next (AtUnknowns x) ss s e f w h = subst (λ l. AllFit (unknowns (at_unknowns x s)) (l ++ s ∷ [])) e (tt, (any_unknowns x 0 (unknowns (at_unknowns x s)) s w h, tt))
fits_next (AtEquations x u) ss s e f w h = one_more u (unknowns (at_equations x u s)) ss s (equations_keeps x u s w) f h
fits_next (AtBudget x u v) ss s e f w h = one_more u (unknowns (at_budget x u v s)) ss s (budget_keeps x u v s w) f h
fits_next (AtLines h) ss s e f w k = one_more h.unknowns (unknowns (at_lines h s)) ss s (lines_keeps h s w) f k
fits_next (InTable h size t) ss s e f w k = one_more h.unknowns (unknowns (in_table h size t s)) ss s (table_keeps h size t s w) f k
fits_next (Listing h x used es o) ss s e f w k = one_more h.unknowns (unknowns (listing h x used es o s)) ss s (listing_keeps h x used es o s w) f k
fits_next (Whole x c) ss s e f w h = absurd (w refl)
fits_next Wrong ss s e f w h = absurd (w refl)

-- the number of unknowns is in range
pub small_unknowns : (st : State) (v : ℕ) → AllFit v (printed st) → unknowns st ≤ 4096
small_unknowns AtStart v h = omega arith
small_unknowns (AtUnknowns x) v h = omega arith
small_unknowns (AtEquations x u) v h = h.1.0
small_unknowns (AtBudget x u e) v h = h.1.0
small_unknowns (AtLines k) v h = h.1.0
small_unknowns (InTable k size t) v h = h.1.0
small_unknowns (Listing k x used es o) v h = h.1.0
small_unknowns (Whole x c) v h = h.1.0
small_unknowns Wrong v h = omega arith

-- ---- certificates that begin with the lines of a state

abbrev second : List Sentence → ℕ
second (s ∷ says.Unknowns n ∷ ss) = n
second ss = 0

-- a certificate's line that comes next fits there
pub fits_there : (st : State) (x : Version) (c : Certificate) (more : List Sentence) (s : Sentence) → sentences x c ≡ printed st ++ more → next st s ≢ Wrong → FitsSentence c.unknowns s → FitsSentence (unknowns st) s
fits_there AtStart x c more s e w h = any_title c.unknowns 0 s w h
fits_there (AtUnknowns y) x c more s e w h = any_unknowns y c.unknowns 0 s w h
fits_there (AtEquations y u) x c more s e w h = subst (λ v. FitsSentence v s) (ap second e) h
fits_there (AtBudget y u v) x c more s e w h = subst (λ v. FitsSentence v s) (ap second e) h
fits_there (AtLines k) x c more s e w h = subst (λ v. FitsSentence v s) (ap second e) h
fits_there (InTable k size t) x c more s e w h = subst (λ v. FitsSentence v s) (ap second e) h
fits_there (Listing k y used es o) x c more s e w h = subst (λ v. FitsSentence v s) (ap second e) h
fits_there (Whole y d) x c more s e w h = absurd (w refl)
fits_there Wrong x c more s e w h = absurd (w refl)

-- ---- numbers out of range, at the number of unknowns of a state and of a certificate that it leads to

pub count_alike : (u v : ℕ) (w : List ℕ) (most : ℕ) (fs : List (List ℕ)) → any_out u (count_form w most) fs ≡ any_out v (count_form w most) fs
count_alike u v w most [] = refl
count_alike u v w most (f ∷ []) = refl
count_alike u v w most (f ∷ g ∷ fs) = refl

title_alike : (u v : ℕ) (fs : List (List ℕ)) → any_out u (form kind.Title) fs ≡ any_out v (form kind.Title) fs
title_alike u v [] = refl
title_alike u v (f ∷ []) = refl
title_alike u v (f ∷ g ∷ fs) = refl

start_alike : (u v : ℕ) (k : Kind) (fs : List (List ℕ)) → is_title k ≡ true → any_out u (form k) fs ≡ any_out v (form k) fs
start_alike u v kind.Title fs m = title_alike u v fs
start_alike u v k fs m = absurd (cc)

unknowns_alike : (u v : ℕ) (k : Kind) (fs : List (List ℕ)) → is_unknowns k ≡ true → any_out u (form k) fs ≡ any_out v (form k) fs
unknowns_alike u v kind.Unknowns fs m = count_alike u v (codes "unknowns") 4096 fs
unknowns_alike u v k fs m = absurd (cc)

pub out_alike : (st : State) (x : Version) (c : Certificate) (more : List Sentence) (k : Kind) (fs : List (List ℕ)) → sentences x c ≡ printed st ++ more → may st k ≡ true → any_out c.unknowns (form k) fs ≡ any_out (unknowns st) (form k) fs
out_alike AtStart x c more k fs e m = start_alike c.unknowns 0 k fs m
out_alike (AtUnknowns y) x c more k fs e m = unknowns_alike c.unknowns 0 k fs m
out_alike (AtEquations y u) x c more k fs e m = ap (λ v. any_out v (form k) fs) (ap second e)
out_alike (AtBudget y u b) x c more k fs e m = ap (λ v. any_out v (form k) fs) (ap second e)
out_alike (AtLines h) x c more k fs e m = ap (λ v. any_out v (form k) fs) (ap second e)
out_alike (InTable h size t) x c more k fs e m = ap (λ v. any_out v (form k) fs) (ap second e)
out_alike (Listing h y used es o) x c more k fs e m = ap (λ v. any_out v (form k) fs) (ap second e)
out_alike (Whole y d) x c more k fs e m = absurd (cc)
out_alike Wrong x c more k fs e m = absurd (cc)
