use Rattle.std.proofs.Common.{◌≡◌, ◌≤◌, ◌^◌, ◌∙◌, ap, arith, map, None, Some, Ok, Err}
use Rattle.poly_text.specs.Raw.{raw}
use Rattle.poly_text.specs.State.{Start}
use Rattle.poly_text.specs.Scan.{scan}
use Rattle.poly_text.specs.Places.{IsReading}
use Rattle.poly_text.proofs.Ordered.{ordered_poly}
use Rattle.poly_text.proofs.Read.{terms_below}
use Rattle.poly_text.proofs.Scanned.{syntax_answer, number_answer, live_answer, order_answer}
use Rattle.poly_text.proofs.reader.read_poly.Goals as goal

pub overflow_sub-result : goal.overflow_sub-result
overflow_sub-result c =
    let e : scan c.args.unknowns None Start c.args.text.now ≡ Err c.in-Err-Syntax.left = rw c.in-Err-Syntax.field-0-is at c.in-Err-Syntax.ensures.scan in
    rw c.in-Err-Syntax.field-0-is (syntax_answer c.args.unknowns c.in-Err-Syntax.left None c.args.text.now e).0

pub returns-in-Err-Syntax : goal.returns-in-Err-Syntax
returns-in-Err-Syntax c =
    let e : scan c.args.unknowns None Start c.args.text.now ≡ Err c.in-Err-Syntax.left = rw c.in-Err-Syntax.field-0-is at c.in-Err-Syntax.ensures.scan in
    rw c.in-Err-Syntax.field-0-is (syntax_answer c.args.unknowns c.in-Err-Syntax.left None c.args.text.now e).1

pub overflow_sub-result-in-Some : goal.overflow_sub-result-in-Some
overflow_sub-result-in-Some c = (number_answer c.args.unknowns c.in-Some.left c.args.text.now (c.in-Ok.ensures.scan ∙ ap Ok c.in-Some.is)).0

pub returns-in-Some : goal.returns-in-Some
returns-in-Some c = (number_answer c.args.unknowns c.in-Some.left c.args.text.now (c.in-Ok.ensures.scan ∙ ap Ok c.in-Some.is)).1

pub overflow_sub-result-in-Some-disorder : goal.overflow_sub-result-in-Some-disorder
overflow_sub-result-in-Some-disorder c =
    let u = c.args.unknowns in
    let ts = map raw c.in-Ok.reading.terms.items in
    let live = live_answer u c.args.text.now (c.in-Ok.ensures.scan ∙ ap Ok c.in_default.is) in
    let r : IsReading u c.args.text.now ts (Some c.in-Some-disorder.left) = rw c.in-Some-disorder.is at (c.in-Ok.ensures.terms live) in
    (order_answer u c.in-Some-disorder.left c.args.text.now ts live r).0

pub returns-in-Some-disorder : goal.returns-in-Some-disorder
returns-in-Some-disorder c =
    let u = c.args.unknowns in
    let ts = map raw c.in-Ok.reading.terms.items in
    let live = live_answer u c.args.text.now (c.in-Ok.ensures.scan ∙ ap Ok c.in_default.is) in
    let r : IsReading u c.args.text.now ts (Some c.in-Some-disorder.left) = rw c.in-Some-disorder.is at (c.in-Ok.ensures.terms live) in
    (order_answer u c.in-Some-disorder.left c.args.text.now ts live r).1

pub poly_of-requires : goal.poly_of-requires
poly_of-requires c =
    let u = c.args.unknowns in
    let ts = map raw c.in-Ok.reading.terms.items in
    let live = live_answer u c.args.text.now (c.in-Ok.ensures.scan ∙ ap Ok c.in_default.is) in
    let r : IsReading u c.args.text.now ts None = rw c.in_default-disorder.is at (c.in-Ok.ensures.terms live) in
    let fits : u ≤ 2 ^ 32 = omega arith in
    rw c.deref.ensures.value (ordered_poly u ts fits r.in_range r.order)

pub returns : goal.returns
returns c =
    let u = c.args.unknowns in
    let ts = map raw c.in-Ok.reading.terms.items in
    let e : c.in_ok-poly.poly ≡ ts = c.in_ok-poly.ensures ∙ ap (map raw) c.deref.ensures.value in
    let live = live_answer u c.args.text.now (c.in-Ok.ensures.scan ∙ ap Ok c.in_default.is) in
    let r : IsReading u c.args.text.now ts None = rw c.in_default-disorder.is at (c.in-Ok.ensures.terms live) in
    let fits : u ≤ 2 ^ 32 = omega arith in
    rw e (record {
      spelled = r.spelled;
      poly = ordered_poly u ts fits r.in_range r.order;
      below = terms_below u ts r.in_range;
    })
