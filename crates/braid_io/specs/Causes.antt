-- Counts of faults, and what was moved before a refusal.
use Rattle.std.specs.Prelude.{◌≡◌, ℕ, ◌+◌, ◌-◌, ◌^◌, ◌<◌, ◌≤◌, min, OnErr, List, ◌++◌, Option, length, take}
use Rattle.std.specs.declared.result.Result.{Result}
use Rattle.std.specs.Io.KnownBytes.{Consumes, Appends}

-- a count of faults rose: it is greater than before, or stands at its last value
abbrev pub Rose : ℕ → ℕ → Type 0
Rose before now = min (before + 1) (2 ^ 64 - 1) ≤ now

-- the count of faults did not fall, and rose where the answer is a refusal
pub record HasCause {T E : Type 0} (before now : ℕ) (result : Result T E) : Type 0 where
  pub later : before ≤ now
  pub failed : OnErr result (Rose before now)

-- more than `limit` bytes were taken, by just one
abbrev pub TookMore : Option (List ℕ) → Option (List ℕ) → ℕ → Type 0
TookMore old new limit = (bytes : List ℕ) × Consumes old new bytes × (length bytes ≡ limit + 1)

-- at most `most` bytes were taken
abbrev pub TookUpTo : Option (List ℕ) → Option (List ℕ) → ℕ → Type 0
TookUpTo old new most = (bytes : List ℕ) × Consumes old new bytes × (length bytes ≤ most)

-- the bytes that were taken were put behind those that were there before
abbrev pub Gave : Option (List ℕ) → Option (List ℕ) → List ℕ → List ℕ → Type 0
Gave old new before now = (bytes : List ℕ) × Consumes old new bytes × (now ≡ before ++ bytes)

-- the first `count` bytes were appended, and these are not all
pub record WrotePart (old new : Option (List ℕ)) (bytes : List ℕ) : Type 0 where
  pub count : ℕ
  pub proper : count < length bytes
  pub wrote : Appends old new (take count bytes)
