-- The patterns of refutations.
use Rattle.std.specs.Prelude.{List, map}
use Rattle.derive_lines.specs.declared.parts.Decision.{Decision}
use Rattle.refute_cert.specs.Parts.{RefutationParts}

-- in the order of their numbers
abbrev pub patterns_of : List RefutationParts → List (List Decision)
patterns_of rs = map (λ (r : RefutationParts). r.pattern) rs
