-- The powers that are left to read, and those of a stored form.
use Rattle.std.specs.Prelude.{ℕ, List, map, drop}
use Rattle.monomial.specs.declared.reading.PowersLeft.{PowersLeft}
use Rattle.monomial.specs.declared.reading.Left.{Left}
use Rattle.monomial.specs.declared.reading.Left.TheVariants.{Word, Few, Many}
use Rattle.monomial.specs.declared.form.Form.{Form}
use Rattle.monomial.specs.declared.form.Form.TheVariants.{Powers}
use Rattle.monomial.specs.declared.form.Form.TheVariants.{Word as LaidOut}
use Rattle.monomial.specs.Keys.{power_of}
use Rattle.monomial.specs.Layouts.{monomial_of}

abbrev pub left_of : Left → List (ℕ × ℕ)
left_of (Word keys place) = drop place (map power_of keys.items)
left_of (Few keys) = map power_of keys.now
left_of (Many powers) = powers.now

abbrev pub left_powers : PowersLeft → List (ℕ × ℕ)
left_powers p = left_of p.left

-- the monomial that is stored
abbrev pub form_powers : Form → List (ℕ × ℕ)
form_powers (LaidOut layout word) = monomial_of layout.now word
form_powers (Powers powers) = left_powers powers
