-- The powers that are stored.
use Rattle.std.specs.Prelude.{ℕ, List, map}
use Rattle.monomial.specs.declared.powers.Stored.{Stored}
use Rattle.monomial.specs.declared.powers.Stored.TheVariants.{Word, Few, Many}
use Rattle.monomial.specs.Keys.{power_of}

abbrev pub stored_powers : Stored → List (ℕ × ℕ)
stored_powers (Word laid) = laid
stored_powers (Few keys) = map power_of keys.items
stored_powers (Many powers) = powers.items
