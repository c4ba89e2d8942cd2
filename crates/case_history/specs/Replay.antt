-- Which entries may come after others, and which certificates are accepted.
use Rattle.std.specs.Prelude.{◌≡◌, ℕ, true, List, [], ◌∷◌, reverse, length, slice_get}
use Rattle.std.specs.declared.option.Option.TheVariants.{Some}
use Rattle.sparse_poly.specs.declared.Term.{Term}
use Rattle.derive_lines.specs.declared.parts.Decision.{Decision}
use Rattle.derive_lines.specs.declared.parts.Line.{Line}
use Rattle.derive_lines.specs.declared.parts.Item.{Item}
use Rattle.derive_lines.specs.Refuting.{Refutes}
use Rattle.refute_store.specs.Live.{IsWithin, IsPattern}
use Rattle.leaf_cert.specs.Parts.{LeafParts}
use Rattle.leaf_cert.specs.Leaves.{GoodLeaf}
use Rattle.leaf_cert.specs.declared.certificate.RawEntry.{RawEntry}
use Rattle.leaf_cert.specs.declared.certificate.RawEntry.TheVariants.{Split, Post, Close, Publish}
use Rattle.leaf_cert.specs.declared.certificate.Certificate.{Certificate}
use Rattle.case_history.specs.History.{settles, decisions_of, patterns, IsPending, IsComplete}

-- pattern k was posted, and is within the decisions
pub record HasPatternWithin (h : List RawEntry) (k : ℕ) (ds : List Decision) : Type 0 where
  pub pattern : List Decision
  pub is : IsPattern (patterns h) k pattern
  pub within : IsWithin pattern ds

-- case n is pending, and pattern k is within its decisions
pub record MayClose (h : List RawEntry) (n k : ℕ) : Type 0 where
  pub pending : IsPending h n
  pub pattern : HasPatternWithin h k (decisions_of h n)

-- case n is pending, the decisions of the leaf are those of the case, and the leaf is good
pub record MayPublish (root : List (List Term)) (h : List RawEntry) (n : ℕ) (leaf : LeafParts) : Type 0 where
  pub pending : IsPending h n
  pub same : leaf.decisions ≡ decisions_of h n
  pub good : GoodLeaf root leaf

-- the entry may come next
abbrev pub MayCome : List (List Term) → List RawEntry → RawEntry → Type 0
MayCome root h (Split n by) = IsPending h n
MayCome root h (Post ds ls end) = Refutes root ds ls end
MayCome root h (Close n k) = MayClose h n k
MayCome root h (Publish n ds ls es end) = MayPublish root h n (record { decisions = ds; lines = ls; equations = es; end = end })

-- each entry of the history may come after those before it
abbrev pub Replays : List (List Term) → List RawEntry → Type 0
Replays root [] = Unit {0}
Replays root (e ∷ before) = MayCome root before e × Replays root before

-- the certificate's head is that of the root, each entry may come, and no case is pending at the end
pub record Accepted (unknowns : ℕ) (root : List (List Term)) (c : Certificate) : Type 0 where
  pub unknowns_are : c.unknowns ≡ unknowns
  pub equations_are : c.equations ≡ length root
  pub replays : Replays root (reverse c.entries)
  pub complete : IsComplete (reverse c.entries)

-- lines refute the pattern
pub record HasRefutation (root : List (List Term)) (pattern : List Decision) : Type 0 where
  pub lines : List Line
  pub end : Item
  pub refutes : Refutes root pattern lines end

-- the entry at this place, counted from the oldest, settles case n
pub record SettlesAt (h : List RawEntry) (n place : ℕ) : Type 0 where
  pub entry : RawEntry
  pub is : slice_get (reverse h) place ≡ Some entry
  pub settles_it : settles entry n ≡ true
