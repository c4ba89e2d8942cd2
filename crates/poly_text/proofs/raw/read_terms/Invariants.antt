use Rattle.std.proofs.Common.{◌≡◌, None, length, map}
use Rattle.poly_text.specs.Raw.{raw}
use Rattle.poly_text.specs.State.{Start}
use Rattle.poly_text.specs.Scan.{scan, scan_terms}
use Rattle.poly_text.specs.Fronts.{IsLive}
use Rattle.poly_text.specs.Places.{IsAtSign, IsReadTo}
use Rattle.poly_text.proofs.raw.read_terms.Given as goal

abbrev pub invariant-terms : goal.invariant-terms
invariant-terms l = record {
  same : scan l.unknowns None Start l.text ≡ scan_terms l.unknowns l.reading.number_fault (map raw l.reading.terms.items) l.rest;
  at_sign : IsAtSign (map raw l.reading.terms.items) l.rest;
  read : IsLive l.unknowns Start l.text → IsReadTo l.unknowns l.text (map raw l.reading.terms.items) l.reading.disorder l.rest;
}

abbrev pub decreases-terms : goal.decreases-terms
decreases-terms l = length l.rest
