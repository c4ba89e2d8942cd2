-- A term as the reader holds it.
use Rattle.sparse_poly.specs.declared.Term.{Term}
use Rattle.poly_text.specs.declared.raw.RawTerm.{RawTerm}

abbrev pub raw : RawTerm → Term
raw t = record { monomial = t.powers.items; coeff = t.coeff }
