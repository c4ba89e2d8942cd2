-- A state as the reader keeps it.
use Rattle.std.specs.Prelude.{ℕ, Option, None, Some}
use Rattle.cert_read.specs.declared.machine.Opened.{Opened}
use Rattle.cert_read.specs.declared.machine.Opened.TheVariants as opened
use Rattle.cert_read.specs.declared.machine.Worded.{Worded}
use Rattle.cert_read.specs.declared.machine.Worded.TheVariants as worded
use Rattle.cert_read.specs.declared.machine.Kept.{Kept}
use Rattle.cert_read.specs.declared.machine.Kept.TheVariants as kept
use Rattle.cert_read.specs.Machine.{Wording, InFull, ByPlace, Open, Nothing, InPost, InLeaf, State, AtStart, AtUnknowns, AtEquations, AtBudget, AtLines, InTable, Listing, Whole, Wrong}

-- how lines are said
abbrev pub seen_wording : Worded → Wording
seen_wording worded.InFull = InFull
seen_wording (worded.ByPlace table used) = ByPlace table

-- how many places of the table are used
abbrev pub seen_used : Worded → ℕ
seen_used worded.InFull = 0
seen_used (worded.ByPlace table used) = used

-- what is open
abbrev pub seen_open : Opened → Open
seen_open opened.Nothing = Nothing
seen_open (opened.Post post) = InPost post.decisions.items post.lines.items
seen_open (opened.Leaf leaf) = InLeaf leaf.n leaf.end leaf.decisions.items leaf.lines.items leaf.equations.items

-- what is kept
abbrev pub seen : Kept → State
seen kept.Start = AtStart
seen (kept.Unknowns version) = AtUnknowns version
seen (kept.Equations version unknowns) = AtEquations version unknowns
seen (kept.Budget version unknowns equations) = AtBudget version unknowns equations
seen (kept.Lines head) = AtLines head
seen (kept.Table head size table) = InTable head size table
seen (kept.Listing head wording entries open_part) = Listing head (seen_wording wording) (seen_used wording) entries.items (seen_open open_part)
seen (kept.Whole version c) = Whole version c

-- no state is kept where a line is wrong
abbrev pub seen_or_wrong : Option Kept → State
seen_or_wrong None = Wrong
seen_or_wrong (Some k) = seen k
