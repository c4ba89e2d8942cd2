-- Certificates all of whose numbers are in range, their variables apart.
use Rattle.std.specs.Prelude.{ℕ, ◌≤◌, Option, None, Some, List, length, All}
use Rattle.sparse_poly.specs.declared.Term.{Term}
use Rattle.sparse_poly.specs.Contributions.{IsPoly}
use Rattle.derive_lines.specs.declared.parts.Decision.{Decision}
use Rattle.derive_lines.specs.declared.parts.Line.{Line}
use Rattle.derive_lines.specs.declared.parts.Item.{Item}
use Rattle.derive_lines.specs.declared.parts.Item.TheVariants.{Root, Decision as of_decision, Line as of_line}
use Rattle.leaf_cert.specs.declared.ends.LeafEnd.{LeafEnd}
use Rattle.leaf_cert.specs.declared.ends.LeafEnd.TheVariants.{Triangular, Open}
use Rattle.leaf_cert.specs.declared.ends.OpenCause.{OpenCause}
use Rattle.leaf_cert.specs.declared.ends.OpenCause.TheVariants.{Budget, Coefficient, Degree}
use Rattle.leaf_cert.specs.declared.ends.Stop.{Stop}
use Rattle.leaf_cert.specs.declared.certificate.RawEntry.{RawEntry}
use Rattle.leaf_cert.specs.declared.certificate.RawEntry.TheVariants.{Split, Post, Close, Publish}
use Rattle.leaf_cert.specs.declared.certificate.Certificate.{Certificate}

-- the greatest number of a case, a pattern or an item, and of entries
abbrev pub max_number : ℕ
max_number = 18_446_744_073_709_551_615

-- the place of an item
abbrev pub HasItemInRange : Item → Type 0
HasItemInRange (Root i) = i ≤ max_number
HasItemInRange (of_decision j) = j ≤ max_number
HasItemInRange (of_line k) = k ≤ max_number

-- an absent item has none
abbrev pub HasReferenceInRange : Option Item → Type 0
HasReferenceInRange None = Unit {0}
HasReferenceInRange (Some item) = HasItemInRange item

-- the coefficients and exponents of a decision's polynomial
abbrev pub HasDecisionInRange : Decision → Type 0
HasDecisionInRange d = IsPoly d.poly

-- the items and polynomials of a line
pub record HasLineInRange (line : Line) : Type 0 where
  pub from : HasReferenceInRange line.from
  pub by : HasReferenceInRange line.by
  pub l : IsPoly line.l
  pub a : IsPoly line.a
  pub m : IsPoly line.m
  pub made : IsPoly line.made

-- the polynomials of a stopped step
pub record HasStopInRange (stop : Stop) : Type 0 where
  pub q : IsPoly stop.q
  pub p : IsPoly stop.p

-- those of the step that leaves a leaf open; a used budget has none
abbrev pub HasCauseInRange : OpenCause → Type 0
HasCauseInRange Budget = Unit {0}
HasCauseInRange (Coefficient stop) = HasStopInRange stop
HasCauseInRange (Degree stop) = HasStopInRange stop

abbrev pub HasEndInRange : LeafEnd → Type 0
HasEndInRange Triangular = Unit {0}
HasEndInRange (Open cause) = HasCauseInRange cause

-- the case and the polynomial of a split
pub record HasSplitInRange (n : ℕ) (by : List Term) : Type 0 where
  pub case_number : n ≤ max_number
  pub poly : IsPoly by

-- the parts of a refutation
pub record HasPostInRange (ds : List Decision) (ls : List Line) (last : Item) : Type 0 where
  pub decisions : All HasDecisionInRange ds
  pub lines : All HasLineInRange ls
  pub end : HasItemInRange last

-- the case and the pattern that closes it
pub record HasCloseInRange (n k : ℕ) : Type 0 where
  pub case_number : n ≤ max_number
  pub pattern : k ≤ max_number

-- the case and the parts of its leaf
pub record HasLeafInRange (n : ℕ) (ds : List Decision) (ls : List Line) (ps : List (List Term)) (ending : LeafEnd) : Type 0 where
  pub case_number : n ≤ max_number
  pub decisions : All HasDecisionInRange ds
  pub lines : All HasLineInRange ls
  pub equations : All IsPoly ps
  pub end : HasEndInRange ending

-- the numbers of an entry
abbrev pub HasEntryInRange : RawEntry → Type 0
HasEntryInRange (Split n by) = HasSplitInRange n by
HasEntryInRange (Post ds lines end) = HasPostInRange ds lines end
HasEntryInRange (Close n k) = HasCloseInRange n k
HasEntryInRange (Publish n ds lines equations end) = HasLeafInRange n ds lines equations end

-- all numbers are such that their types hold them
pub record HasNumbersInRange (c : Certificate) : Type 0 where
  pub few_entries : length c.entries ≤ max_number
  pub entries : All HasEntryInRange c.entries
