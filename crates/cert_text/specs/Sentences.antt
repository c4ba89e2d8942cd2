-- What a line of a certificate's text says, and which lines a certificate has.
use Rattle.std.specs.Prelude.{ℕ, List, [], ◌∷◌, ◌++◌, codes, length, map, flat_map}
use Rattle.derive_lines.specs.declared.parts.Line.{Line}
use Rattle.leaf_cert.specs.declared.certificate.RawEntry.{RawEntry}
use Rattle.leaf_cert.specs.declared.certificate.RawEntry.TheVariants.{Split, Post, Close, Publish}
use Rattle.leaf_cert.specs.declared.certificate.Certificate.{Certificate}
use Rattle.cert_text.specs.declared.version.Version.{Version}
use Rattle.cert_text.specs.declared.version.Version.TheVariants.{One, Two}
use Rattle.cert_text.specs.declared.sentence.Sentence.{Sentence}
use Rattle.cert_text.specs.declared.sentence.Sentence.TheVariants as says
use Rattle.cert_text.specs.Fields.{ended, version_text, decision_fields, line_fields, count_fields, split_fields, close_fields, leaf_fields, end_fields, equation_fields}
use Rattle.cert_text.specs.Tables.{place, table}

-- the fields of a line
abbrev pub fields : Sentence → List (List ℕ)
fields (says.Title version) = codes "braidcert" ∷ version_text version ∷ []
fields (says.Unknowns n) = count_fields (codes "unknowns") n
fields (says.Equations n) = count_fields (codes "equations") n
fields (says.Budget n) = count_fields (codes "budget") n
fields (says.Lines n) = count_fields (codes "lines") n
fields (says.Split n by) = split_fields n by
fields says.Post = codes "post" ∷ []
fields (says.Close n k) = close_fields n k
fields (says.Leaf n end) = leaf_fields n end
fields (says.Decided d) = decision_fields d
fields (says.Derived l) = line_fields l
fields (says.Use i) = count_fields (codes "use") i
fields (says.End item) = end_fields item
fields (says.Equation p) = equation_fields p
fields (says.Done n) = count_fields (codes "done") n

-- the lines of an entry: its head, decisions, lines of its derivation, said in this way, and end or equations
abbrev pub entry_sentences : (Line → Sentence) → RawEntry → List Sentence
entry_sentences say (Split n by) = says.Split n by ∷ []
entry_sentences say (Post decisions lines end) = says.Post ∷ (map says.Decided decisions ++ (map say lines ++ says.End end ∷ []))
entry_sentences say (Close n k) = says.Close n k ∷ []
entry_sentences say (Publish n decisions lines equations end) = says.Leaf n end ∷ (map says.Decided decisions ++ (map say lines ++ map says.Equation equations))

-- a line by its place in a table
abbrev pub use_of : List Line → Line → Sentence
use_of t l = says.Use (place t l)

-- how the entries say a line of a derivation: version 1 writes it out, version 2 gives its place in the table
abbrev pub said_in : Version → Certificate → Line → Sentence
said_in One c = says.Derived
said_in Two c = use_of (table c)

-- the lines before the table
abbrev pub head : Version → Certificate → List Sentence
head version c = says.Title version ∷ says.Unknowns c.unknowns ∷ says.Equations c.equations ∷ says.Budget c.budget ∷ []

-- the lines of the table, which version 1 has not
abbrev pub table_sentences : Version → Certificate → List Sentence
table_sentences One c = []
table_sentences Two c = says.Lines (length (table c)) ∷ map says.Derived (table c)

-- the lines of a certificate
abbrev pub sentences : Version → Certificate → List Sentence
sentences version c = head version c ++ (table_sentences version c ++ (flat_map (entry_sentences (said_in version c)) c.entries ++ says.Done (length c.entries) ∷ []))

-- the text of lines
abbrev pub spelled : List Sentence → List ℕ
spelled ss = flat_map (λ s. ended (fields s)) ss

-- the text of a certificate
abbrev pub text_in : Version → Certificate → List ℕ
text_in version c = spelled (sentences version c)
