use Rattle.std.proofs.Common.{◌≡◌, ◌++◌, drop, vec_len, map, Some}
use Rattle.serde_json.specs.View.{items_view}
use Rattle.ring_file.specs.Files.{list_of, first_failing, product_checks, triple_of}
use Rattle.ring_file.proofs.file.products.Given as goal

abbrev pub invariant-items : goal.invariant-items
invariant-items l = record {
  form : first_failing (product_checks 0 (list_of (items_view l.items))) ≡ first_failing (product_checks (vec_len l.products) (list_of (items_view (drop l.item-index l.items))));
  read : map triple_of (list_of (items_view l.items)) ≡ map Some l.products.items ++ map triple_of (list_of (items_view (drop l.item-index l.items)));
}
