-- The different lines of a certificate.
use Rattle.std.specs.Prelude.{ℕ, Bool, true, false, ◌==◌, ◌&&◌, if◌then◌else◌, List, [], ◌∷◌, ◌++◌, flat_map}
use Rattle.std.specs.List.{list_any, position_or_len}
use Rattle.std.specs.Option.{option_eq}
use Rattle.std.specs.Ordering.{eq_by_cmp}
use Rattle.sparse_poly.specs.Order.{poly_cmp}
use Rattle.derive_lines.specs.declared.parts.Line.{Line}
use Rattle.derive_lines.specs.declared.parts.Item.{Item}
use Rattle.derive_lines.specs.declared.parts.Item.TheVariants.{Root, Decision as of_decision, Line as of_line}
use Rattle.derive_lines.specs.declared.parts.Way.{Way}
use Rattle.derive_lines.specs.declared.parts.Way.TheVariants.{Fwd, Back}
use Rattle.leaf_cert.specs.declared.certificate.RawEntry.{RawEntry}
use Rattle.leaf_cert.specs.declared.certificate.RawEntry.TheVariants.{Split, Post, Close, Publish}
use Rattle.leaf_cert.specs.declared.certificate.Certificate.{Certificate}

-- two ways are the same
abbrev pub is_same_way : Way → Way → Bool
is_same_way Fwd Fwd = true
is_same_way Back Back = true
is_same_way v w = false

-- two items are the same
abbrev pub is_same_item : Item → Item → Bool
is_same_item (Root i) (Root j) = i == j
is_same_item (of_decision i) (of_decision j) = i == j
is_same_item (of_line i) (of_line j) = i == j
is_same_item a b = false

-- two lines are the same: all their parts are
abbrev pub is_same : Line → Line → Bool
is_same l k =
    is_same_way l.way k.way && option_eq is_same_item l.from k.from && option_eq is_same_item l.by k.by
    && eq_by_cmp poly_cmp l.l k.l && eq_by_cmp poly_cmp l.a k.a && eq_by_cmp poly_cmp l.m k.m && eq_by_cmp poly_cmp l.made k.made

-- the line stands in the table
abbrev pub stands_in : List Line → Line → Bool
stands_in t l = list_any (is_same l) t

-- the first place of a line in the table
abbrev pub place : List Line → Line → ℕ
place t l = position_or_len (is_same l) t

-- the different lines behind those that a table has, in the order of first use
abbrev pub with_new : List Line → List Line → List Line
with_new t [] = t
with_new t (l ∷ ls) = with_new (if stands_in t l then t else t ++ l ∷ []) ls

-- the lines that an entry uses
abbrev pub entry_lines : RawEntry → List Line
entry_lines (Split n by) = []
entry_lines (Post decisions lines end) = lines
entry_lines (Close n k) = []
entry_lines (Publish n decisions lines equations end) = lines

-- the table of a certificate: each line that some entry uses, once
abbrev pub table : Certificate → List Line
table c = with_new [] (flat_map entry_lines c.entries)
