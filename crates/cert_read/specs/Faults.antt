-- Why bytes are not the text of a certificate.
use Rattle.std.specs.Prelude.{◌≡◌, ◌≢◌, ℕ, ◌+◌, ◌⊎◌, Bool, true, false, List, [], ◌∷◌, ◌++◌, codes, length, flat_map}
use Rattle.std.specs.List.{AllByRecursion, Contains}
use Rattle.leaf_cert.specs.declared.certificate.Certificate.{Certificate}
use Rattle.cert_read.specs.declared.reader.CertFault.{CertFault}
use Rattle.cert_read.specs.declared.reader.CertFault.TheVariants.{Truncated, Number, Syntax, OutOfMemory}
use Rattle.cert_lines.specs.declared.kind.Kind.{Kind}
use Rattle.cert_lines.specs.declared.kind.Kind.TheVariants as kind
use Rattle.cert_text.specs.Fields.{ended}
use Rattle.cert_lines.specs.Forms.{form, has_form, any_out}
use Rattle.cert_text.specs.Text.{IsText}

-- the bytes have no LF
abbrev pub IsOneLine : List ℕ → Type 0
IsOneLine l = AllByRecursion (λ (c : ℕ). c ≢ 10) l

-- lines with their LFs
abbrev pub with_ends : List (List ℕ) → List ℕ
with_ends ls = flat_map (λ l. l ++ codes "\n") ls

-- the bytes are these ended lines, and behind the last LF this unended piece
pub record IsCut (text : List ℕ) (ls : List (List ℕ)) (piece : List ℕ) : Type 0 where
  pub joined : text ≡ with_ends ls ++ piece
  pub lines : AllByRecursion IsOneLine ls
  pub unended : IsOneLine piece

-- these lines with their LFs are a prefix of the text of this certificate
abbrev pub BeginsAs : List (List ℕ) → Certificate → Type 0
BeginsAs ls c = (more : List ℕ) × IsText (with_ends ls ++ more) c

-- and of some certificate's
abbrev pub AreRight : List (List ℕ) → Type 0
AreRight ls = (c : Certificate) × BeginsAs ls c

-- the line has these fields, and the form of this kind
pub record HasForm (kind : Kind) (line : List ℕ) (fs : List (List ℕ)) : Type 0 where
  pub cut : line ++ codes "\n" ≡ ended fs
  pub formed : has_form (form kind) fs ≡ true

-- behind these lines some line of the kind is right, in a certificate with u unknowns
pub record IsRightSomehow (before : List (List ℕ)) (kind : Kind) (u : ℕ) : Type 0 where
  pub line : List ℕ
  pub fields : List (List ℕ)
  pub certificate : Certificate
  pub form : HasForm kind line fields
  pub right : BeginsAs (before ++ line ∷ []) certificate
  pub unknowns : u ≡ certificate.unknowns

-- behind a line of this kind a `use` may stand
abbrev pub is_before_use : Kind → Bool
is_before_use kind.Post = true
is_before_use kind.Leaf = true
is_before_use kind.Decided = true
is_before_use kind.Use = true
is_before_use k = false

-- these lines are of version 2, and behind the last one lines of a derivation stand, whatever the table has
pub record MayUse (before : List (List ℕ)) : Type 0 where
  pub after : List (List ℕ)
  pub version : before ≡ codes "braidcert 2" ∷ after
  pub front : List (List ℕ)
  pub last : List ℕ
  pub split : before ≡ front ++ last ∷ []
  pub kind : Kind
  pub fields : List (List ℕ)
  pub form : HasForm kind last fields
  pub behind : is_before_use kind ≡ true

-- a line of this kind may stand there: some such line is right, or it is a `use` where lines of a derivation stand
abbrev pub MayStand : List (List ℕ) → Kind → ℕ → Type 0
MayStand before k u = IsRightSomehow before k u ⊎ ((k ≡ kind.Use) × MayUse before)

-- the line has the form of a line that may stand there, and at least one of its numbers is out of range
pub record IsOutOfRange (before : List (List ℕ)) (line : List ℕ) : Type 0 where
  pub kind : Kind
  pub unknowns : ℕ
  pub fields : List (List ℕ)
  pub form_is : HasForm kind line fields
  pub stands : MayStand before kind unknowns
  pub out : any_out unknowns (form kind) fields ≡ true

-- the line behind these is the first that is not right
pub record IsFirstWrong (ls before : List (List ℕ)) (line : List ℕ) : Type 0 where
  pub after : List (List ℕ)
  pub split : ls ≡ before ++ line ∷ after
  pub right : AreRight before
  pub wrong : AreRight (before ++ line ∷ []) → ⊥

-- the line begins with `done `
abbrev pub IsDoneLine : List ℕ → Type 0
IsDoneLine l = (more : List ℕ) × (l ≡ codes "done " ++ more)

-- a `done` line is among these
abbrev pub HasDone : List (List ℕ) → Type 0
HasDone ls = (l : List ℕ) × Contains ls l × IsDoneLine l

-- every ended line is right, and no `done` line is among them
pub record IsTruncated (text : List ℕ) : Type 0 where
  pub lines : List (List ℕ)
  pub piece : List ℕ
  pub cut : IsCut text lines piece
  pub right : AreRight lines
  pub unfinished : HasDone lines → ⊥

-- line k, counted from 1, is the first that is not right
pub record IsWrongAt (text : List ℕ) (k : ℕ) (before : List (List ℕ)) (line : List ℕ) : Type 0 where
  pub lines : List (List ℕ)
  pub piece : List ℕ
  pub cut : IsCut text lines piece
  pub first : IsFirstWrong lines before line
  pub at_line : k ≡ length before + 1

-- and has the form of a line that may stand there, with a number out of range
pub record IsNumberAt (text : List ℕ) (k : ℕ) : Type 0 where
  pub before : List (List ℕ)
  pub line : List ℕ
  pub wrong : IsWrongAt text k before line
  pub out : IsOutOfRange before line

-- and is not such a line
pub record IsSyntaxAt (text : List ℕ) (k : ℕ) : Type 0 where
  pub before : List (List ℕ)
  pub line : List ℕ
  pub wrong : IsWrongAt text k before line
  pub other : IsOutOfRange before line → ⊥

-- every ended line is right, a `done` line is among them, and line k is the piece behind it
pub record IsTrailing (text : List ℕ) (k : ℕ) : Type 0 where
  pub lines : List (List ℕ)
  pub piece : List ℕ
  pub cut : IsCut text lines piece
  pub right : AreRight lines
  pub finished : HasDone lines
  pub some : piece ≢ []
  pub at_line : k ≡ length lines + 1

-- why the bytes are not the text of a certificate
abbrev pub IsCertFault : List ℕ → CertFault → Type 0
IsCertFault text Truncated = IsTruncated text
IsCertFault text (Number k) = IsNumberAt text k
IsCertFault text (Syntax k) = IsSyntaxAt text k ⊎ IsTrailing text k
IsCertFault text OutOfMemory = Unit {0}
