use Rattle.std.proofs.Common.{rules, arith, ◌∙◌, ap, sym as back, ◌++◌}
use Rattle.std.specs.Prelude.{map}
use Rattle.symbol_index.specs.Symbols.{fsym, ginv, rsym, sinv}
use Rattle.symbol_index.proofs.Listed.{length_is, list_is}
use Rattle.symbol_index.proofs.unknowns.numbered_unknowns.Goals as goal

pub returns-then-count-gt-MAX_UNKNOWNS-clause-list :
    goal.returns-then-count-gt-MAX_UNKNOWNS-clause-list
returns-then-count-gt-MAX_UNKNOWNS-clause-list k =
    let count = length_is k.args.ring.now k.in_ok-f.f.items k.in_ok-g.g.items k.in_ok-r.r.items k.in_ok-f.ensures k.in_ok-g.ensures k.in_ok-r.ensures in
    (omega (arith, count), k.if-count-gt-MAX_UNKNOWNS.true)

pub returns-clause-list : goal.returns-clause-list
returns-clause-list k =
    list_is k.args.ring.now k.deref.result.now k.deref-2.result.now k.deref-3.result.now
    (k.deref.ensures.value ∙ k.in_ok-f.ensures) (k.deref-2.ensures.value ∙ k.in_ok-g.ensures) (k.deref-3.ensures.value ∙ k.in_ok-r.ensures)
    k.in_ok-list.list.items k.append.new.list.items k.append-2.new.list.items k.append-3.new.list.items k.append-4.new.list.items
    k.in_ok-list.ensures.items (k.in_ok-append.ensures fsym (λ t s h. search rules)) (k.in_ok-append-2.ensures ginv (λ t s h. search rules)) (k.in_ok-append-3.ensures rsym (λ t s h. search rules))
    (k.in_ok-append-4.ensures sinv (λ t s h. search rules) ∙ ap (λ ts. k.append-3.new.list.items ++ map sinv ts) (k.deref-4.ensures.value ∙ back k.deref-3.ensures.value))

pub returns-clause-few : goal.returns-clause-few
returns-clause-few k =
    let count = length_is k.args.ring.now k.in_ok-f.f.items k.in_ok-g.g.items k.in_ok-r.r.items k.in_ok-f.ensures k.in_ok-g.ensures k.in_ok-r.ensures in
    omega (arith, count)
