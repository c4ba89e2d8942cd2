use Rattle.std.proofs.Common.{◌≡◌, ◌∙◌, ◌++◌, refl, sym, ap, length, map, false, if◌then◌else◌, ◌==◌}
use Rattle.std.specs.Prelude.{codes}
use Rattle.poly_text.specs.Raw.{raw}
use Rattle.poly_text.specs.State.{Signed}
use Rattle.poly_text.specs.Text.{term_text}
use Rattle.poly_text.specs.Scan.{scan, scan_end, scan_terms}
use Rattle.poly_text.specs.Fronts.{IsLive, IsTermFront, after_sign}
use Rattle.poly_text.specs.Places.{IsFactorPlace}
use Rattle.poly_text.proofs.Fronts.{plus_of, sign_read, terms_more}
use Rattle.poly_text.proofs.Scans.{sign_scan, terms_scan}
use Rattle.poly_text.proofs.Places.{not_empty, disorder_more}
use Rattle.poly_text.proofs.raw.read_term.Goals as goal

pub returns-clause-scan : goal.returns-clause-scan
returns-clause-scan c =
    let u = c.args.unknowns in
    let old = map raw c.args.reading.now.terms.items in
    let f = c.args.reading.now.number_fault in
    let g = c.push_term.new.reading.number_fault in
    let rest = c.in_ok-term.rest.now in
    sign_scan u f old c.args.text.now c.requires.some c.requires.at_sign
    ∙ ap (scan u f Signed) (sym c.after_sign.ensures)
    ∙ c.in_ok-term.ensures.scan
    ∙ ap (λ h. scan_end u h rest) (sym c.in_ok-push_term.ensures.fault)
    ∙ sym (terms_scan u g old (raw c.in_ok-term.term) rest)
    ∙ ap (λ ts. scan_terms u g ts rest) (sym c.in_ok-push_term.ensures.terms)

pub returns-clause-terms : goal.returns-clause-terms
returns-clause-terms c = λ whole read.
    let u = c.args.unknowns in
    let text = c.args.text.now in
    let old = map raw c.args.reading.now.terms.items in
    let t = raw c.in_ok-term.term in
    let rest = c.in_ok-term.rest.now in
    let some : (length text == 0) ≡ false = not_empty (length text) c.requires.some in
    let s = sign_read u old text read.goes_on some in
    let live : IsLive u Signed c.after_sign.result.now = rw c.after_sign.ensures s.live in
    let f : IsTermFront u c.begins_with-negative.result (after_sign text) t rest = rw c.after_sign.ensures at (c.in_ok-term.ensures.front live) in
    let place : IsFactorPlace t.monomial rest c.in_ok-term.factor = c.in_ok-term.ensures.order live in
    let spelled : text ≡ term_text (plus_of old) t ++ rest = s.spelled ∙ ap (λ v. (if v then codes "-" else plus_of old) ++ after_sign text) (sym c.begins_with-negative.ensures) ∙ f.spelled (plus_of old) in
    let m = terms_more u whole text rest c.begins_with-negative.result old (map raw c.push_term.new.reading.terms.items) t read.spelled read.in_range read.goes_on some c.begins_with-negative.ensures f c.in_ok-push_term.ensures.terms in
    record {
      spelled = m.spelled;
      in_range = m.in_range;
      goes_on = m.goes_on;
      order = rw c.in_ok-push_term.ensures.terms (disorder_more whole text rest old t c.args.reading.now.disorder c.push_term.new.reading.disorder c.in_ok-term.factor (length text) read.spelled spelled refl place read.order c.in_ok-push_term.ensures.place);
    }
