-- Entries of a history all of whose variables are below n.
use Rattle.std.specs.Prelude.{ℕ, ◌<◌, List, All}
use Rattle.sparse_poly.specs.declared.Term.{Term}
use Rattle.sparse_poly.specs.Reads.{HasVariablesBelow}
use Rattle.derive_lines.specs.declared.parts.Decision.{Decision}
use Rattle.derive_lines.specs.declared.parts.Line.{Line}
use Rattle.leaf_cert.specs.declared.ends.Stop.{Stop}
use Rattle.leaf_cert.specs.declared.ends.OpenCause.{OpenCause}
use Rattle.leaf_cert.specs.declared.ends.OpenCause.TheVariants.{Budget, Coefficient, Degree}
use Rattle.leaf_cert.specs.declared.ends.LeafEnd.{LeafEnd}
use Rattle.leaf_cert.specs.declared.ends.LeafEnd.TheVariants.{Triangular, Open}
use Rattle.leaf_cert.specs.declared.certificate.RawEntry.{RawEntry}
use Rattle.leaf_cert.specs.declared.certificate.RawEntry.TheVariants.{Split, Post, Close, Publish}

-- all variables of the polynomial of a decision are below n
abbrev pub HasDecisionVariablesBelow : ℕ → Decision → Type 0
HasDecisionVariablesBelow n d = HasVariablesBelow n d.poly

-- all variables of the four polynomials of a line are below n
pub record HasLineVariablesBelow (n : ℕ) (line : Line) : Type 0 where
  pub l : HasVariablesBelow n line.l
  pub a : HasVariablesBelow n line.a
  pub m : HasVariablesBelow n line.m
  pub made : HasVariablesBelow n line.made

-- the variable of a step that is stopped and all variables of its two polynomials are below n
pub record HasStopVariablesBelow (n : ℕ) (stop : Stop) : Type 0 where
  pub v : stop.v < n
  pub q : HasVariablesBelow n stop.q
  pub p : HasVariablesBelow n stop.p

-- all variables of the cause of an open end are below n; a budget that is used up has none
abbrev pub HasCauseVariablesBelow : ℕ → OpenCause → Type 0
HasCauseVariablesBelow n Budget = Unit {0}
HasCauseVariablesBelow n (Coefficient stop) = HasStopVariablesBelow n stop
HasCauseVariablesBelow n (Degree stop) = HasStopVariablesBelow n stop

-- all variables of the end of a leaf are below n; a triangular one has none
abbrev pub HasEndVariablesBelow : ℕ → LeafEnd → Type 0
HasEndVariablesBelow n Triangular = Unit {0}
HasEndVariablesBelow n (Open cause) = HasCauseVariablesBelow n cause

-- all variables of decisions and lines are below n
pub record HaveDerivationVariablesBelow (n : ℕ) (ds : List Decision) (ls : List Line) : Type 0 where
  pub decisions : All (HasDecisionVariablesBelow n) ds
  pub lines : All (HasLineVariablesBelow n) ls

-- all variables of the decisions, lines, equations and end of a leaf are below n
pub record HaveLeafVariablesBelow (n : ℕ) (ds : List Decision) (ls : List Line) (es : List (List Term)) (ending : LeafEnd) : Type 0 where
  pub derivation : HaveDerivationVariablesBelow n ds ls
  pub equations : All (HasVariablesBelow n) es
  pub end : HasEndVariablesBelow n ending

-- all variables of an entry are below n: of what a case is split by, of a refutation or of a leaf; an entry that closes a case has none
abbrev pub HasEntryVariablesBelow : ℕ → RawEntry → Type 0
HasEntryVariablesBelow n (Split k by) = HasVariablesBelow n by
HasEntryVariablesBelow n (Post ds ls end) = HaveDerivationVariablesBelow n ds ls
HasEntryVariablesBelow n (Close k j) = Unit {0}
HasEntryVariablesBelow n (Publish k ds ls es end) = HaveLeafVariablesBelow n ds ls es end
