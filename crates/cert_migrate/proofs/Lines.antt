-- Lines with one text.
use Rattle.std.specs.Prelude.{◌≡◌, ◌≤◌, ◌↔◌, ℕ, IsTrue}
use Rattle.std.proofs.Common.{sym, ◌∙◌, ap, subst}
use Rattle.derive_lines.specs.declared.parts.Line.{Line}
use Rattle.leaf_cert.specs.Variables.{HasLineVariablesBelow}
use Rattle.cert_text.specs.declared.sentence.Sentence.{Sentence}
use Rattle.cert_text.specs.declared.sentence.Sentence.TheVariants as says
use Rattle.cert_text.specs.Fields.{ended, line_fields}
use Rattle.cert_text.specs.Numbers.{HasLineInRange}
use Rattle.cert_text.specs.Tables.{is_same}
use Rattle.cert_text.specs.TableLaws.{lines}
use Rattle.cert_read.proofs.Cut.{line_of, of_says, one_sentence}

-- what a sentence of a line says
abbrev line_in : Line → Sentence → Line
line_in l (says.Derived k) = k
line_in l s = l

pub same_text : (u : ℕ) → u ≤ 4096 → (l k : Line) → HasLineInRange l → HasLineInRange k → HasLineVariablesBelow u l → HasLineVariablesBelow u k → IsTrue (is_same l k) ↔ (ended (line_fields l) ≡ ended (line_fields k))
same_text u small l k f g v w = (
  λ e. ap (λ x. ended (line_fields x)) (lines.equal l k e),
  λ e. subst (λ (x : Line). IsTrue (is_same l x)) (ap (line_in l) (one_sentence u u small small (line_of (says.Derived l)) (says.Derived l) (says.Derived k) (f, v) (g, w) (of_says (says.Derived l)) (sym e ∙ of_says (says.Derived l)))) (lines.own l),
)
