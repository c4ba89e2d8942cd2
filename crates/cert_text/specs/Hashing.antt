-- What a line feeds to a hash function: lines that are the same feed the same.
use Rattle.std.specs.Prelude.{◌≡◌, Option, None, Some, ◌++◌, IsTrue}
use Rattle.std.specs.Hash.{HashWrites, u8, u64}
use Rattle.std.proofs.Common.{ap}
use Rattle.sparse_poly.specs.Hashing.{terms_input}
use Rattle.derive_lines.specs.declared.parts.Line.{Line}
use Rattle.derive_lines.specs.declared.parts.Item.{Item}
use Rattle.derive_lines.specs.declared.parts.Item.TheVariants.{Root, Decision as of_decision, Line as of_line}
use Rattle.cert_text.specs.Tables.{is_same}
use Rattle.cert_text.specs.TableLaws.{lines}

abbrev pub reference_input : Option Item → HashWrites
reference_input None = u8 0
reference_input (Some (Root i)) = u8 1 ++ u64 i
reference_input (Some (of_decision i)) = u8 2 ++ u64 i
reference_input (Some (of_line i)) = u8 3 ++ u64 i

abbrev pub line_input : Line → HashWrites
line_input l = reference_input l.from ++ (reference_input l.by ++ (terms_input l.l ++ (terms_input l.a ++ (terms_input l.m ++ terms_input l.made))))

pub line_input-respects : (l k : Line) → IsTrue (is_same l k) → line_input l ≡ line_input k
line_input-respects l k e = ap line_input (lines.equal l k e)
