use Rattle.std.proofs.Common.{◌≡◌, ◌++◌, ◌∙◌, sym, ap, rules, Some}
use Rattle.serde_json.specs.View.{view, items_view}
use Rattle.ring_file.specs.Files.{list_of, product_checks, entry_checks, checks, items_or_none, gauge_in, products_in}
use Rattle.ring_file.proofs.Checks.{HasProducts, same_fault, within, name_checks, gauge_checks, at_products, at_gauge, no_gauge, at_entries, at_names, no_name, no_member, all_named}
use Rattle.ring_file.proofs.file.read_outline.Goals as goal

pub returns-in-Err : goal.returns-in-Err
returns-in-Err c =
    let d = view c.args.value.now in
    let n = c.in-Some.labels in
    let ps = list_of (items_view c.in-Some-product_items.items.now) in
    let h : HasProducts d n ps = record { top = search rules; labels = c.in-Some.ensures; products = c.in-Some-product_items.ensures } in
    same_fault (checks d) (product_checks 0 ps ++ gauge_checks d) c.in-Err.fault (at_products d n ps h) (within (product_checks 0 ps) (gauge_checks d) c.in-Err.fault c.in-Err.ensures)

pub returns-in_default-gauge_items : goal.returns-in_default-gauge_items
returns-in_default-gauge_items c =
    let d = view c.args.value.now in
    let n = c.in-Some.labels in
    let ps = list_of (items_view c.in-Some-product_items.items.now) in
    let h : HasProducts d n ps = record { top = search rules; labels = c.in-Some.ensures; products = c.in-Some-product_items.ensures } in
    at_gauge d n ps h c.in-Ok.ensures.form ∙ no_gauge d c.in_default-gauge_items.ensures

pub returns-in-Err-entries : goal.returns-in-Err-entries
returns-in-Err-entries c =
    let d = view c.args.value.now in
    let n = c.in-Some.labels in
    let ps = list_of (items_view c.in-Some-product_items.items.now) in
    let h : HasProducts d n ps = record { top = search rules; labels = c.in-Some.ensures; products = c.in-Some-product_items.ensures } in
    let gs = list_of (items_view c.in-Some-gauge_items.items.now) in
    let e : Some gs ≡ gauge_in d = c.in-Some-gauge_items.ensures in
    same_fault (checks d) (entry_checks 0 gs ++ name_checks d) c.in-Err-entries.fault (at_gauge d n ps h c.in-Ok.ensures.form ∙ at_entries d gs e) (within (entry_checks 0 gs) (name_checks d) c.in-Err-entries.fault c.in-Err-entries.ensures)

pub returns-then-not-has_name_form : goal.returns-then-not-has_name_form
returns-then-not-has_name_form c =
    let d = view c.args.value.now in
    let n = c.in-Some.labels in
    let ps = list_of (items_view c.in-Some-product_items.items.now) in
    let h : HasProducts d n ps = record { top = search rules; labels = c.in-Some.ensures; products = c.in-Some-product_items.ensures } in
    let gs = list_of (items_view c.in-Some-gauge_items.items.now) in
    let e : Some gs ≡ gauge_in d = c.in-Some-gauge_items.ensures in
    at_gauge d n ps h c.in-Ok.ensures.form ∙ at_names d gs e c.in-Ok-entries.ensures.form ∙ no_name d (search rules)

pub returns-then-not-has_file_names : goal.returns-then-not-has_file_names
returns-then-not-has_file_names c =
    let d = view c.args.value.now in
    let n = c.in-Some.labels in
    let ps = list_of (items_view c.in-Some-product_items.items.now) in
    let h : HasProducts d n ps = record { top = search rules; labels = c.in-Some.ensures; products = c.in-Some-product_items.ensures } in
    let gs = list_of (items_view c.in-Some-gauge_items.items.now) in
    let e : Some gs ≡ gauge_in d = c.in-Some-gauge_items.ensures in
    at_gauge d n ps h c.in-Ok.ensures.form ∙ at_names d gs e c.in-Ok-entries.ensures.form ∙ no_member d (search rules) (search rules)

pub returns : goal.returns
returns c =
    let d = view c.args.value.now in
    let n = c.in-Some.labels in
    let ps = list_of (items_view c.in-Some-product_items.items.now) in
    let h : HasProducts d n ps = record { top = search rules; labels = c.in-Some.ensures; products = c.in-Some-product_items.ensures } in
    let gs = list_of (items_view c.in-Some-gauge_items.items.now) in
    let e : Some gs ≡ gauge_in d = c.in-Some-gauge_items.ensures in
    record {
      form = at_gauge d n ps h c.in-Ok.ensures.form ∙ at_names d gs e c.in-Ok-entries.ensures.form ∙ all_named d (search rules) (search rules);
      labels = sym c.in-Some.ensures;
      products = (let k : items_or_none (products_in d) ≡ ps = ap items_or_none (sym c.in-Some-product_items.ensures) in rw k c.in-Ok.ensures.items);
      gauge = (let k : items_or_none (gauge_in d) ≡ gs = ap items_or_none (sym e) in rw k c.in-Ok-entries.ensures.items);
    }
