-- A power in one word.
use Rattle.std.specs.Prelude.{ℕ, ◌/◌, ◌%◌}
use Rattle.monomial.specs.declared.keys.Key.{Key}

-- the power of a key: the variable in the upper sixteen bits, the exponent in the lower
abbrev pub power_of : Key → ℕ × ℕ
power_of k = (k.word / 65536, k.word % 65536)
