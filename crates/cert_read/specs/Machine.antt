-- A certificate's lines, read one after another.
use Rattle.std.specs.Prelude.{ℕ, suc, Bool, true, false, ◌&&◌, not, ◌==◌, nat_le, if◌then◌else◌, Option, None, Some, List, [], ◌∷◌, ◌++◌, length, map, flat_map, slice_get}
use Rattle.sparse_poly.specs.declared.Term.{Term}
use Rattle.derive_lines.specs.declared.parts.Decision.{Decision}
use Rattle.derive_lines.specs.declared.parts.Line.{Line}
use Rattle.leaf_cert.specs.declared.ends.LeafEnd.{LeafEnd}
use Rattle.leaf_cert.specs.declared.certificate.RawEntry.{RawEntry}
use Rattle.leaf_cert.specs.declared.certificate.RawEntry.TheVariants.{Split, Post, Close, Publish}
use Rattle.leaf_cert.specs.declared.certificate.Certificate.{Certificate}
use Rattle.cert_text.specs.declared.version.Version.{Version}
use Rattle.cert_text.specs.declared.version.Version.TheVariants.{One, Two}
use Rattle.cert_text.specs.declared.sentence.Sentence.{Sentence}
use Rattle.cert_text.specs.declared.sentence.Sentence.TheVariants as says
use Rattle.cert_lines.specs.declared.kind.Kind.{Kind}
use Rattle.cert_lines.specs.declared.kind.Kind.TheVariants as kind
use Rattle.cert_read.specs.declared.machine.Head.{Head}
use Rattle.cert_text.specs.Tables.{stands_in, place}
use Rattle.cert_text.specs.Sentences.{entry_sentences, head, sentences}

-- how the lines of derivations are said: themselves, or by their places in this table
pub data Wording : Type 0 where
  InFull : Wording
  ByPlace : List Line → Wording

-- what is open behind the whole entries: nothing, or a post or a leaf with what it has so far
pub data Open : Type 0 where
  Nothing : Open
  InPost : List Decision → List Line → Open
  InLeaf : ℕ → LeafEnd → List Decision → List Line → List (List Term) → Open

-- what the lines so far say: behind the head the size of a table and what it has so far, and behind that how many of its places are used
pub data State : Type 0 where
  AtStart : State
  AtUnknowns : Version → State
  AtEquations : Version → ℕ → State
  AtBudget : Version → ℕ → ℕ → State
  AtLines : Head → State
  InTable : Head → ℕ → List Line → State
  Listing : Head → Wording → ℕ → List RawEntry → Open → State
  Whole : Version → Certificate → State
  -- no certificate has such lines
  Wrong : State

-- the certificate of a head and entries
abbrev pub certificate : Head → List RawEntry → Certificate
certificate h es = record { unknowns = h.unknowns; equations = h.equations; budget = h.budget; entries = es }

-- the version in which lines are said so
abbrev pub version_of : Wording → Version
version_of InFull = One
version_of (ByPlace table) = Two

-- all places of the table are used
abbrev pub is_used_up : Wording → ℕ → Bool
is_used_up InFull used = true
is_used_up (ByPlace table) used = used == length table

-- a line of a derivation, and how many places of the table are used behind it
pub record Taken : Type 0 where
  pub line : Line
  pub used : ℕ

-- the line at a place of the table
abbrev pub taken_at : ℕ → Option Line → Option Taken
taken_at used None = None
taken_at used (Some l) = Some (record { line = l; used = used })

-- a line of a derivation: in version 2 one whose place was used before, or that at the next place
abbrev pub taken : Wording → ℕ → Sentence → Option Taken
taken InFull used (says.Derived l) = Some (record { line = l; used = used })
taken (ByPlace table) used (says.Use i) = if nat_le i used then taken_at (if i == used then suc used else used) (slice_get table i) else None
taken w used s = None

-- a line behind whole entries
abbrev pub begin : Head → Wording → ℕ → List RawEntry → Sentence → State
begin h w used es (says.Split n by) = Listing h w used (es ++ Split n by ∷ []) Nothing
begin h w used es says.Post = Listing h w used es (InPost [] [])
begin h w used es (says.Close n k) = Listing h w used (es ++ Close n k ∷ []) Nothing
begin h w used es (says.Leaf n end) = Listing h w used es (InLeaf n end [] [] [])
begin h w used es (says.Done n) = if (n == length es) && is_used_up w used then Whole (version_of w) (certificate h es) else Wrong
begin h w used es s = Wrong

-- a decision where no line stands yet
abbrev pub decide : Head → Wording → ℕ → List RawEntry → Decision → Open → State
decide h w used es d (InPost ds []) = Listing h w used es (InPost (ds ++ d ∷ []) [])
decide h w used es d (InLeaf n end ds [] []) = Listing h w used es (InLeaf n end (ds ++ d ∷ []) [] [])
decide h w used es d o = Wrong

-- a line where no equation stands yet
abbrev pub derive : Head → Wording → List RawEntry → Open → Option Taken → State
derive h w es (InPost ds ls) (Some t) = Listing h w t.used es (InPost ds (ls ++ t.line ∷ []))
derive h w es (InLeaf n end ds ls []) (Some t) = Listing h w t.used es (InLeaf n end ds (ls ++ t.line ∷ []) [])
derive h w es o t = Wrong

-- a line of a post
abbrev pub in_post : Head → Wording → ℕ → List RawEntry → List Decision → List Line → Sentence → State
in_post h w used es ds ls (says.Decided d) = decide h w used es d (InPost ds ls)
in_post h w used es ds ls (says.Derived l) = derive h w es (InPost ds ls) (taken w used (says.Derived l))
in_post h w used es ds ls (says.Use i) = derive h w es (InPost ds ls) (taken w used (says.Use i))
in_post h w used es ds ls (says.End item) = Listing h w used (es ++ Post ds ls item ∷ []) Nothing
in_post h w used es ds ls s = Wrong

-- a line of a leaf, or behind one
abbrev pub in_leaf : Head → Wording → ℕ → List RawEntry → ℕ → LeafEnd → List Decision → List Line → List (List Term) → Sentence → State
in_leaf h w used es n end ds ls ps (says.Decided d) = decide h w used es d (InLeaf n end ds ls ps)
in_leaf h w used es n end ds ls ps (says.Derived l) = derive h w es (InLeaf n end ds ls ps) (taken w used (says.Derived l))
in_leaf h w used es n end ds ls ps (says.Use i) = derive h w es (InLeaf n end ds ls ps) (taken w used (says.Use i))
in_leaf h w used es n end ds ls ps (says.Equation p) = Listing h w used es (InLeaf n end ds ls (ps ++ p ∷ []))
in_leaf h w used es n end ds ls ps s = begin h w used (es ++ Publish n ds ls ps end ∷ []) s

-- a line behind the head
abbrev pub listing : Head → Wording → ℕ → List RawEntry → Open → Sentence → State
listing h w used es Nothing s = begin h w used es s
listing h w used es (InPost ds ls) s = in_post h w used es ds ls s
listing h w used es (InLeaf n end ds ls ps) s = in_leaf h w used es n end ds ls ps s

-- the first line
abbrev pub at_start : Sentence → State
at_start (says.Title v) = AtUnknowns v
at_start s = Wrong

-- the line behind the first
abbrev pub at_unknowns : Version → Sentence → State
at_unknowns v (says.Unknowns u) = AtEquations v u
at_unknowns v s = Wrong

-- the line behind the number of unknowns
abbrev pub at_equations : Version → ℕ → Sentence → State
at_equations v u (says.Equations e) = AtBudget v u e
at_equations v u s = Wrong

-- behind the budget
abbrev pub headed : Version → Head → State
headed One h = Listing h InFull 0 [] Nothing
headed Two h = AtLines h

-- the line behind the number of equations
abbrev pub at_budget : Version → ℕ → ℕ → Sentence → State
at_budget v u e (says.Budget b) = headed v (record { unknowns = u; equations = e; budget = b })
at_budget v u e s = Wrong

-- a table with what it has so far: the entries begin where it is full
abbrev pub filled : Head → ℕ → List Line → State
filled h size table = if length table == size then Listing h (ByPlace table) 0 [] Nothing else InTable h size table

-- the line behind the budget of version 2
abbrev pub at_lines : Head → Sentence → State
at_lines h (says.Lines n) = filled h n []
at_lines h s = Wrong

-- a line of the table, which it has not yet
abbrev pub in_table : Head → ℕ → List Line → Sentence → State
in_table h size table (says.Derived l) = if stands_in table l then Wrong else filled h size (table ++ l ∷ [])
in_table h size table s = Wrong

-- one line more
abbrev pub next : State → Sentence → State
next AtStart s = at_start s
next (AtUnknowns v) s = at_unknowns v s
next (AtEquations v u) s = at_equations v u s
next (AtBudget v u e) s = at_budget v u e s
next (AtLines h) s = at_lines h s
next (InTable h size table) s = in_table h size table s
next (Listing h w used es o) s = listing h w used es o s
next (Whole v c) s = Wrong
next Wrong s = Wrong

-- several lines more
abbrev pub run : State → List Sentence → State
run st [] = st
run st (s ∷ ss) = run (next st s) ss

-- a line of a derivation is said so
abbrev pub said : Wording → Line → Sentence
said InFull l = says.Derived l
said (ByPlace table) l = says.Use (place table l)

-- the lines of what is open
abbrev pub open_sentences : Wording → Open → List Sentence
open_sentences w Nothing = []
open_sentences w (InPost ds ls) = says.Post ∷ (map says.Decided ds ++ map (said w) ls)
open_sentences w (InLeaf n end ds ls ps) = says.Leaf n end ∷ (map says.Decided ds ++ (map (said w) ls ++ map says.Equation ps))

-- the lines of a whole table
abbrev pub table_of : Wording → List Sentence
table_of InFull = []
table_of (ByPlace table) = says.Lines (length table) ∷ map says.Derived table

-- the lines that lead to a state
abbrev pub printed : State → List Sentence
printed AtStart = []
printed (AtUnknowns v) = says.Title v ∷ []
printed (AtEquations v u) = says.Title v ∷ says.Unknowns u ∷ []
printed (AtBudget v u e) = says.Title v ∷ says.Unknowns u ∷ says.Equations e ∷ []
printed (AtLines h) = head Two (certificate h [])
printed (InTable h size table) = head Two (certificate h []) ++ says.Lines size ∷ map says.Derived table
printed (Listing h w used es o) = head (version_of w) (certificate h es) ++ (table_of w ++ (flat_map (entry_sentences (said w)) es ++ open_sentences w o))
printed (Whole v c) = sentences v c
printed Wrong = []

-- the kind of a line
abbrev pub kind_of : Sentence → Kind
kind_of (says.Title v) = kind.Title
kind_of (says.Unknowns n) = kind.Unknowns
kind_of (says.Equations n) = kind.Equations
kind_of (says.Budget n) = kind.Budget
kind_of (says.Lines n) = kind.Lines
kind_of (says.Split n by) = kind.Split
kind_of says.Post = kind.Post
kind_of (says.Close n k) = kind.Close
kind_of (says.Leaf n end) = kind.Leaf
kind_of (says.Decided d) = kind.Decided
kind_of (says.Derived l) = kind.Derived
kind_of (says.Use i) = kind.Use
kind_of (says.End item) = kind.End
kind_of (says.Equation p) = kind.Equation
kind_of (says.Done n) = kind.Done

-- the list has no members
abbrev pub is_nil : {A : Type 0} → List A → Bool
is_nil [] = true
is_nil (x ∷ xs) = false

-- the lines of derivations are said themselves
abbrev pub is_in_full : Wording → Bool
is_in_full InFull = true
is_in_full (ByPlace table) = false

-- a line of this kind may begin an entry, or end the entries
abbrev pub may_begin : Wording → ℕ → Kind → Bool
may_begin w used kind.Split = true
may_begin w used kind.Post = true
may_begin w used kind.Close = true
may_begin w used kind.Leaf = true
may_begin w used kind.Done = is_used_up w used
may_begin w used k = false

-- or stand in a post with these lines
abbrev pub may_post : Wording → List Line → Kind → Bool
may_post w ls kind.Decided = is_nil ls
may_post w ls kind.Derived = is_in_full w
may_post w ls kind.Use = not (is_in_full w)
may_post w ls kind.End = true
may_post w ls k = false

-- or in or behind a leaf with these lines and equations
abbrev pub may_leaf : Wording → ℕ → List Line → List (List Term) → Kind → Bool
may_leaf w used ls ps kind.Decided = is_nil ls && is_nil ps
may_leaf w used ls ps kind.Derived = is_in_full w && is_nil ps
may_leaf w used ls ps kind.Use = not (is_in_full w) && is_nil ps
may_leaf w used ls ps kind.Equation = true
may_leaf w used ls ps k = may_begin w used k

-- or where this is open
abbrev pub may_open : Wording → ℕ → Open → Kind → Bool
may_open w used Nothing k = may_begin w used k
may_open w used (InPost ds ls) k = may_post w ls k
may_open w used (InLeaf n end ds ls ps) k = may_leaf w used ls ps k

-- the kind of the first line
abbrev pub is_title : Kind → Bool
is_title kind.Title = true
is_title k = false

-- the kind of the line behind the first
abbrev pub is_unknowns : Kind → Bool
is_unknowns kind.Unknowns = true
is_unknowns k = false

-- the kind of the line behind the number of unknowns
abbrev pub is_equations : Kind → Bool
is_equations kind.Equations = true
is_equations k = false

-- the kind of the line behind the number of equations
abbrev pub is_budget : Kind → Bool
is_budget kind.Budget = true
is_budget k = false

-- the kind of the line behind the budget of version 2
abbrev pub is_lines : Kind → Bool
is_lines kind.Lines = true
is_lines k = false

-- the kind of a line of the table
abbrev pub is_derived : Kind → Bool
is_derived kind.Derived = true
is_derived k = false

-- a line of this kind may come next
abbrev pub may : State → Kind → Bool
may AtStart k = is_title k
may (AtUnknowns v) k = is_unknowns k
may (AtEquations v u) k = is_equations k
may (AtBudget v u e) k = is_budget k
may (AtLines h) k = is_lines k
may (InTable h size table) k = is_derived k
may (Listing h w used es o) k = may_open w used o k
may (Whole v c) k = false
may Wrong k = false

-- the number of unknowns, as far as it is said
abbrev pub unknowns : State → ℕ
unknowns AtStart = 0
unknowns (AtUnknowns v) = 0
unknowns (AtEquations v u) = u
unknowns (AtBudget v u e) = u
unknowns (AtLines h) = h.unknowns
unknowns (InTable h size table) = h.unknowns
unknowns (Listing h w used es o) = h.unknowns
unknowns (Whole v c) = c.unknowns
unknowns Wrong = 0
