-- No two lines whose numbers are in range have the same fields.
use Rattle.std.specs.Prelude.{◌≡◌, ℕ, ◌≤◌, Bool, true, false, Option, None, Some, List, ◌++◌, codes, decimal, refl}
use Rattle.std.specs.Str.{bytes_eq}
use Rattle.std.proofs.Common.{sym, ◌∙◌, ap, arith}
use Rattle.std.proofs.lemmas.Fmt.{decimal_injective}
use Rattle.sparse_poly.specs.declared.Term.{Term}
use Rattle.poly_text.proofs.Answered.{one_poly}
use Rattle.derive_lines.specs.declared.parts.Decision.{Decision}
use Rattle.derive_lines.specs.declared.parts.Line.{Line}
use Rattle.derive_lines.specs.declared.parts.Item.{Item}
use Rattle.derive_lines.specs.declared.parts.Item.TheVariants.{Root, Decision as of_decision, Line as of_line}
use Rattle.derive_lines.specs.declared.parts.Way.{Way}
use Rattle.derive_lines.specs.declared.parts.Way.TheVariants.{Fwd, Back}
use Rattle.leaf_cert.specs.declared.ends.LeafEnd.{LeafEnd}
use Rattle.leaf_cert.specs.declared.ends.LeafEnd.TheVariants.{Triangular, Open}
use Rattle.leaf_cert.specs.declared.ends.OpenCause.{OpenCause}
use Rattle.leaf_cert.specs.declared.ends.OpenCause.TheVariants.{Budget, Coefficient, Degree}
use Rattle.leaf_cert.specs.declared.ends.StepKind.{StepKind}
use Rattle.leaf_cert.specs.declared.ends.StepKind.TheVariants.{Reduce, Tail}
use Rattle.leaf_cert.specs.declared.ends.Stop.{Stop}
use Rattle.cert_text.specs.declared.version.Version.{Version}
use Rattle.cert_text.specs.declared.version.Version.TheVariants.{One, Two}
use Rattle.cert_text.specs.declared.sentence.Sentence.{Sentence}
use Rattle.cert_text.specs.declared.sentence.Sentence.TheVariants as says
use Rattle.cert_text.specs.Fields.{version_text, item_text, reference_text, way_text, sign_word, step_word, stop_fields, cause_fields, leaf_end_fields}
use Rattle.cert_text.specs.Sentences.{fields}
use Rattle.cert_text.specs.Numbers.{max_number, HasItemInRange, HasReferenceInRange, HasStopInRange, HasCauseInRange, HasEndInRange}
use Rattle.leaf_cert.specs.Variables.{HasStopVariablesBelow, HasCauseVariablesBelow, HasEndVariablesBelow}
use Rattle.cert_lines.specs.Words.{first}
use Rattle.cert_lines.specs.Forms.{kind_by_word}
use Rattle.cert_lines.specs.Fitting.{FitsSentence}
use Rattle.cert_read.specs.Machine.{kind_of}
use Rattle.cert_lines.proofs.Shaped.{same_bytes}

sign_kind : (b : Bool) → kind_by_word (sign_word b) ≡ kind_by_word (sign_word true)
sign_kind true = refl
sign_kind false = refl

way_kind : (w : Way) → kind_by_word (way_text w) ≡ kind_by_word (way_text Fwd)
way_kind Fwd = refl
way_kind Back = refl

-- the first word of a line tells its kind
pub kinded : (s : Sentence) → kind_by_word (first (fields s)) ≡ Some (kind_of s)
kinded (says.Title v) = refl
kinded (says.Unknowns n) = refl
kinded (says.Equations n) = refl
kinded (says.Budget n) = refl
kinded (says.Lines n) = refl
kinded (says.Split n by) = refl
kinded says.Post = refl
kinded (says.Close n k) = refl
kinded (says.Leaf n end) = refl
kinded (says.Decided d) = sign_kind d.zero
kinded (says.Derived l) = way_kind l.way
kinded (says.Use i) = refl
kinded (says.End item) = refl
kinded (says.Equation p) = refl
kinded (says.Done n) = refl

-- texts that a test tells apart
pub apart : (x y : List ℕ) → bytes_eq x y ≡ false → x ≡ y → ⊥
apart x y h e = let w : true ≡ false = sym (same_bytes x) ∙ ap (bytes_eq x) e ∙ h in cc

number : (n m : ℕ) → n ≤ max_number → m ≤ max_number → decimal n ≡ decimal m → n ≡ m
number n m h k e = decimal_injective n m (omega arith) (omega arith) e

item : (x y : Item) → HasItemInRange x → HasItemInRange y → item_text x ≡ item_text y → x ≡ y
item (Root i) (Root j) h k e = ap Root (number i j h k (cc))
item (Root i) (of_decision j) h k e = absurd (apart (item_text (Root i)) (item_text (of_decision j)) refl e)
item (Root i) (of_line j) h k e = absurd (apart (item_text (Root i)) (item_text (of_line j)) refl e)
item (of_decision i) (Root j) h k e = absurd (apart (item_text (of_decision i)) (item_text (Root j)) refl e)
item (of_decision i) (of_decision j) h k e = ap of_decision (number i j h k (cc))
item (of_decision i) (of_line j) h k e = absurd (apart (item_text (of_decision i)) (item_text (of_line j)) refl e)
item (of_line i) (Root j) h k e = absurd (apart (item_text (of_line i)) (item_text (Root j)) refl e)
item (of_line i) (of_decision j) h k e = absurd (apart (item_text (of_line i)) (item_text (of_decision j)) refl e)
item (of_line i) (of_line j) h k e = ap of_line (number i j h k (cc))

reference : (x y : Option Item) → HasReferenceInRange x → HasReferenceInRange y → reference_text x ≡ reference_text y → x ≡ y
reference None None h k e = refl
reference None (Some y) h k e = absurd (absent y e)
  where
    absent : (y : Item) → codes "-" ≡ item_text y → ⊥
    absent (Root j) e = apart (codes "-") (item_text (Root j)) refl e
    absent (of_decision j) e = apart (codes "-") (item_text (of_decision j)) refl e
    absent (of_line j) e = apart (codes "-") (item_text (of_line j)) refl e
reference (Some x) None h k e = absurd (absent x (sym e))
  where
    absent : (y : Item) → codes "-" ≡ item_text y → ⊥
    absent (Root j) e = apart (codes "-") (item_text (Root j)) refl e
    absent (of_decision j) e = apart (codes "-") (item_text (of_decision j)) refl e
    absent (of_line j) e = apart (codes "-") (item_text (of_line j)) refl e
reference (Some x) (Some y) h k e = ap Some (item x y h k e)

sign : (a b : Bool) → sign_word a ≡ sign_word b → a ≡ b
sign true true e = refl
sign true false e = absurd (apart (sign_word true) (sign_word false) refl e)
sign false true e = absurd (apart (sign_word false) (sign_word true) refl e)
sign false false e = refl

way : (a b : Way) → way_text a ≡ way_text b → a ≡ b
way Fwd Fwd e = refl
way Fwd Back e = absurd (apart (way_text Fwd) (way_text Back) refl e)
way Back Fwd e = absurd (apart (way_text Back) (way_text Fwd) refl e)
way Back Back e = refl

abbrev made_decision : List Term → Bool → Decision
made_decision p z = record { poly = p; zero = z }

abbrev made_line : Way → Option Item → Option Item → List Term → List Term → List Term → List Term → Line
made_line w f b l a m r = record { way = w; from = f; by = b; l = l; a = a; m = m; made = r }

version : (v w : Version) → version_text v ≡ version_text w → v ≡ w
version One One e = refl
version One Two e = absurd (apart (version_text One) (version_text Two) refl e)
version Two One e = absurd (apart (version_text Two) (version_text One) refl e)
version Two Two e = refl

step : (a b : StepKind) → step_word a ≡ step_word b → a ≡ b
step Reduce Reduce e = refl
step Reduce Tail e = absurd (apart (step_word Reduce) (step_word Tail) refl e)
step Tail Reduce e = absurd (apart (step_word Tail) (step_word Reduce) refl e)
step Tail Tail e = refl

abbrev made_stop : StepKind → ℕ → List Term → List Term → Stop
made_stop s v q p = record { step = s; v = v; q = q; p = p }

module _ (u v : ℕ) (small : u ≤ 4096) (low : v ≤ 4096) where
  variable : (n m : ℕ) → n ≤ u → m ≤ v → codes "x" ++ decimal n ≡ codes "x" ++ decimal m → n ≡ m
  variable n m h k e = number n m (omega (arith, small, h)) (omega (arith, low, k)) (cc)

  stop : (x y : Stop) → HasStopInRange x → HasStopInRange y → HasStopVariablesBelow u x → HasStopVariablesBelow v y → stop_fields x ≡ stop_fields y → x ≡ y
  stop x y g h i j e =
      let a : x.step ≡ y.step = step x.step y.step (cc) in
      let w : codes "x" ++ decimal x.v ≡ codes "x" ++ decimal y.v = cc in
      let iv = i.v in
      let jv = j.v in
      let b : x.v ≡ y.v = variable x.v y.v (omega (arith, iv)) (omega (arith, jv)) w in
      let c : x.q ≡ y.q = one_poly x.q y.q g.q h.q (cc) in
      let d : x.p ≡ y.p = one_poly x.p y.p g.p h.p (cc) in
      ap (λ z. made_stop z x.v x.q x.p) a ∙ ap (λ z. made_stop y.step z x.q x.p) b ∙ ap (λ z. made_stop y.step y.v z x.p) c ∙ ap (made_stop y.step y.v y.q) d

  cause : (x y : OpenCause) → HasCauseInRange x → HasCauseInRange y → HasCauseVariablesBelow u x → HasCauseVariablesBelow v y → cause_fields x ≡ cause_fields y → x ≡ y
  cause Budget Budget g h i j e = refl
  cause Budget (Coefficient s) g h i j e = absurd (apart (codes "budget") (codes "coefficient") refl (cc))
  cause Budget (Degree s) g h i j e = absurd (apart (codes "budget") (codes "degree") refl (cc))
  cause (Coefficient s) Budget g h i j e = absurd (apart (codes "coefficient") (codes "budget") refl (cc))
  cause (Coefficient s) (Coefficient t) g h i j e = ap Coefficient (stop s t g h i j (cc))
  cause (Coefficient s) (Degree t) g h i j e = absurd (apart (codes "coefficient") (codes "degree") refl (cc))
  cause (Degree s) Budget g h i j e = absurd (apart (codes "degree") (codes "budget") refl (cc))
  cause (Degree s) (Coefficient t) g h i j e = absurd (apart (codes "degree") (codes "coefficient") refl (cc))
  cause (Degree s) (Degree t) g h i j e = ap Degree (stop s t g h i j (cc))

  ending : (x y : LeafEnd) → HasEndInRange x → HasEndInRange y → HasEndVariablesBelow u x → HasEndVariablesBelow v y → leaf_end_fields x ≡ leaf_end_fields y → x ≡ y
  ending Triangular Triangular g h i j e = refl
  ending Triangular (Open c) g h i j e = absurd (apart (codes "triangular") (codes "open") refl (cc))
  ending (Open c) Triangular g h i j e = absurd (apart (codes "open") (codes "triangular") refl (cc))
  ending (Open c) (Open d) g h i j e = ap Open (cause c d g h i j (cc))

  same_kind : (s t : Sentence) → kind_of s ≡ kind_of t → FitsSentence u s → FitsSentence v t → fields s ≡ fields t → s ≡ t
  same_kind (says.Title v) (says.Title w) g h k e = ap says.Title (version v w (cc))
  same_kind (says.Unknowns n) (says.Unknowns m) g h k e = ap says.Unknowns (number n m (omega arith) (omega arith) (cc))
  same_kind (says.Equations n) (says.Equations m) g h k e = ap says.Equations (number n m (omega arith) (omega arith) (cc))
  same_kind (says.Budget n) (says.Budget m) g h k e = ap says.Budget (number n m (omega arith) (omega arith) (cc))
  same_kind (says.Lines n) (says.Lines m) g h k e = ap says.Lines (number n m h k (cc))
  same_kind (says.Split n p) (says.Split m q) g h k e =
      let a : n ≡ m = number n m h.0.case_number k.0.case_number (cc) in
      let b : p ≡ q = one_poly p q h.0.poly k.0.poly (cc) in cc
  same_kind says.Post says.Post g h k e = refl
  same_kind (says.Close n i) (says.Close m j) g h k e =
      let a : n ≡ m = number n m h.case_number k.case_number (cc) in
      let b : i ≡ j = number i j h.pattern k.pattern (cc) in cc
  same_kind (says.Leaf n x) (says.Leaf m y) g h k e =
      let a : n ≡ m = number n m h.0 k.0 (cc) in
      let b : x ≡ y = ending x y h.1 k.1 h.2 k.2 (cc) in cc
  same_kind (says.Decided d) (says.Decided f) g h k e =
      let a : d.zero ≡ f.zero = sign d.zero f.zero (cc) in
      let b : d.poly ≡ f.poly = one_poly d.poly f.poly h.0 k.0 (cc) in
      ap says.Decided (ap (made_decision d.poly) a ∙ ap (λ p. made_decision p f.zero) b)
  same_kind (says.Derived x) (says.Derived y) g h k e =
      let a : x.way ≡ y.way = way x.way y.way (cc) in
      let b : x.from ≡ y.from = reference x.from y.from h.0.from k.0.from (cc) in
      let c : x.by ≡ y.by = reference x.by y.by h.0.by k.0.by (cc) in
      let p : x.l ≡ y.l = one_poly x.l y.l h.0.l k.0.l (cc) in
      let q : x.a ≡ y.a = one_poly x.a y.a h.0.a k.0.a (cc) in
      let r : x.m ≡ y.m = one_poly x.m y.m h.0.m k.0.m (cc) in
      let s : x.made ≡ y.made = one_poly x.made y.made h.0.made k.0.made (cc) in
      ap says.Derived (ap (λ z. made_line z x.from x.by x.l x.a x.m x.made) a ∙ ap (λ z. made_line y.way z x.by x.l x.a x.m x.made) b ∙ ap (λ z. made_line y.way y.from z x.l x.a x.m x.made) c
      ∙ ap (λ z. made_line y.way y.from y.by z x.a x.m x.made) p ∙ ap (λ z. made_line y.way y.from y.by y.l z x.m x.made) q ∙ ap (λ z. made_line y.way y.from y.by y.l y.a z x.made) r ∙ ap (made_line y.way y.from y.by y.l y.a y.m) s)
  same_kind (says.Use n) (says.Use m) g h k e = ap says.Use (number n m (omega (arith, h)) (omega (arith, k)) (cc))
  same_kind (says.End x) (says.End y) g h k e = ap says.End (item x y h k (cc))
  same_kind (says.Equation p) (says.Equation q) g h k e = ap says.Equation (one_poly p q h.0 k.0 (cc))
  same_kind (says.Done n) (says.Done m) g h k e = ap says.Done (number n m h k (cc))
  same_kind s t g h k e = absurd (cc)

  -- lines that fit are told by their fields
  pub alone : (s t : Sentence) → FitsSentence u s → FitsSentence v t → fields s ≡ fields t → s ≡ t
  alone s t h k e = let w : Some (kind_of s) ≡ Some (kind_of t) = sym (kinded s) ∙ ap (λ f. kind_by_word (first f)) e ∙ kinded t in same_kind s t (cc) h k e
