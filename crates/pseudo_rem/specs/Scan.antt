-- The member that is next due, as far as a list has been read.
use Rattle.std.specs.Prelude.{◌≤◌, ℕ}
use Rattle.std.specs.declared.option.Option.{Option}
use Rattle.std.specs.declared.option.Option.TheVariants.{None, Some}
use Rattle.pseudo_rem.specs.declared.remainders.Due.{Due}

-- a variable is not above that of the member that was found, if there is one
abbrev pub IsUpTo : Option Due → ℕ → Type 0
IsUpTo None w = ⊥
IsUpTo (Some due) w = w ≤ due.var
