-- Which bytes are the text of which certificate.
use Rattle.std.specs.Prelude.{◌≡◌, ◌≤◌, ℕ, List, All, length}
use Rattle.leaf_cert.specs.declared.certificate.Certificate.{Certificate}
use Rattle.cert_text.specs.declared.version.Version.{Version}
use Rattle.cert_text.specs.Tables.{table}
use Rattle.cert_text.specs.Sentences.{text_in}
use Rattle.cert_text.specs.Numbers.{max_number, HasNumbersInRange}
use Rattle.leaf_cert.specs.Variables.{HasEntryVariablesBelow}

-- the numbers of the head
pub record HasHeadInRange (c : Certificate) : Type 0 where
  pub unknowns : c.unknowns ≤ 4096
  pub equations : c.equations ≤ 65536
  pub budget : c.budget ≤ 1000000

-- all variables are below the number of unknowns
abbrev pub HasUnknownsAlone : Certificate → Type 0
HasUnknownsAlone c = All (HasEntryVariablesBelow c.unknowns) c.entries

-- all numbers of a certificate are in range, and its different lines are not too many
pub record Fits (c : Certificate) : Type 0 where
  pub head : HasHeadInRange c
  pub numbers : HasNumbersInRange c
  pub variables : HasUnknownsAlone c
  pub lines : length (table c) ≤ max_number

-- the bytes are the text of this certificate, in either version
pub record IsText (text : List ℕ) (c : Certificate) : Type 0 where
  pub version : Version
  pub fits : Fits c
  pub spelled : text ≡ text_in version c
