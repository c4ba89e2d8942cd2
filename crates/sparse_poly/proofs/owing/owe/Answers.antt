use Rattle.std.proofs.Common.{rules, ◌≡◌, ◌∷◌}
use Rattle.std.specs.BinaryHeap.{heap_items}
use Rattle.sparse_poly.proofs.Owings.{owed_more}
use Rattle.sparse_poly.proofs.owing.owe.Goals as goal

pub returns-in_ok-push : goal.returns-in_ok-push
returns-in_ok-push c =
    let front : c.args.products.items ≡ c.in-Some.first ∷ c.pop_front.new.self.items = search rules in
    owed_more (heap_items c.args.owed.now) (heap_items c.push.new.self) c.args.products.items (record { first = c.in-Some.first; rest = c.pop_front.new.self }) c.requires.owed c.requires.poly front c.in_ok-push.ensures.permutation (c.in_ok-push.ensures.heap_order c.requires.owed.heap)
