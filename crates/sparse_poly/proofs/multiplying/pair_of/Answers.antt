use Rattle.std.proofs.Common.{rules, arith, sym, subst, option_map}
use Rattle.monomial.proofs.Total.{monomial_cmp-IsAntisymmetric}
use Rattle.sparse_poly.proofs.Merges.{turned}
use Rattle.sparse_poly.specs.Standing.{IsMade, row_share}
use Rattle.sparse_poly.proofs.RowShares.{ArePaired-start, IsAlone-start, ArePaired-greater, ArePaired-less, ArePaired-equal, IsAlone-equal, IsAlone-ended, IsAlone-end, none_made, pair_high, pair_sums, product_shares-fall}
use Rattle.sparse_poly.proofs.multiplying.pair_of.Goals as goal

pub both-init : goal.both-init
both-init c =
    let made = subst (λ o. IsMade c.new-waiting.result c.next_product.new.self c.args.high.now c.next_product.new.high (option_map (row_share c.next_product.new.self) o)) c.in-Some.is c.in_ok-held.ensures in
    rw c.in_ok-shares.ensures.items (record {
      paired = ArePaired-start _ _ _ _ c.new-going.result c.new-waiting.result c.next_product.new.self _ _ (row_share c.next_product.new.self c.in-Some.held) c.new-going.ensures.shares c.new-going.ensures.degree c.new-waiting.ensures.shares c.new-waiting.ensures.degree made;
      room = search (rules, made.room);
    })

pub both-preserved-in-Less : goal.both-preserved-in-Less
both-preserved-in-Less c =
    let made = subst (λ o. IsMade c.both.going c.next_product-in-both.new.self c.both.high c.next_product-in-both.new.high (option_map (row_share c.next_product-in-both.new.self) o)) c.in-Some-2.is c.in_ok-product.ensures in
    rw (c.push_reserved.ensures.items, c.swap.ensures.x_after, c.swap.ensures.y_after, c.share.ensures) (record {
      paired = ArePaired-less _ _ _ _ _ _ _ _ _ _ c.both.invariant.paired (row_share c.next_product-in-both.new.self c.in-Some-2.product) made (sym c.in-Less.ensures);
      room = omega (arith, c.push_reserved.ensures.len, c.push_reserved.ensures.capacity, made.room, c.both.invariant.room);
    })

pub both-preserved-in-Equal : goal.both-preserved-in-Equal
both-preserved-in-Equal c =
    let made = subst (λ o. IsMade c.both.going c.next_product-in-both.new.self c.both.high c.next_product-in-both.new.high (option_map (row_share c.next_product-in-both.new.self) o)) c.in-Some-2.is c.in_ok-product.ensures in
    let after = subst (λ o. IsMade c.both.waiting c.next_product-in-Equal.new.self c.next_product-in-both.new.high c.next_product-in-Equal.new.high (option_map (row_share c.next_product-in-Equal.new.self) o)) c.in-Some-3.is c.in_ok-next-in-Equal.ensures in
    record {
      paired = rw c.push_reserved-in-Equal.ensures.items (ArePaired-equal _ _ _ _ _ _ _ _ _ _ c.both.invariant.paired (row_share c.next_product-in-both.new.self c.in-Some-2.product) c.joined.result (row_share c.next_product-in-Equal.new.self c.in-Some-3.next) _ _ made (monomial_cmp-IsAntisymmetric c.in-Some-2.product c.both.held (sym c.in-Equal.ensures)) (rw c.share-in-Equal.ensures at c.joined.ensures.monomial) (rw (c.share-in-Equal.ensures, c.share-in-Equal-2.ensures) at c.joined.ensures.sum) after);
      room = omega (arith, c.push_reserved-in-Equal.ensures.len, c.push_reserved-in-Equal.ensures.capacity, made.room, after.room, c.both.invariant.room);
    }

pub both-preserved : goal.both-preserved
both-preserved c =
    let made = subst (λ o. IsMade c.both.going c.next_product-in-both.new.self c.both.high c.next_product-in-both.new.high (option_map (row_share c.next_product-in-both.new.self) o)) c.in-Some-2.is c.in_ok-product.ensures in
    record {
      paired = rw (c.push_reserved-in-Greater.ensures.items, c.share-in-Greater.ensures) (ArePaired-greater _ _ _ _ _ _ _ _ _ _ c.both.invariant.paired (row_share c.next_product-in-both.new.self c.in-Some-2.product) made (turned c.in-Some-2.product c.both.held (sym c.in-Greater.ensures)));
      room = omega (arith, c.push_reserved-in-Greater.ensures.len, c.push_reserved-in-Greater.ensures.capacity, made.room, c.both.invariant.room);
    }

pub returns-in_default-clause-high : goal.returns-in_default-clause-high
returns-in_default-clause-high c = pair_high c.args.minus c.args.t.now c.args.s.now c.args.us.now c.args.high.now _ (IsAlone-end _ _ _ _ _ _ _ _ _ (IsAlone-start _ _ _ _ c.new-going.result c.new-waiting.result c.next_product.new.self _ _ c.new-going.ensures.shares c.new-going.ensures.degree c.new-waiting.ensures.shares c.new-waiting.ensures.degree (none_made _ _ _ _ _ c.in_ok-held.ensures c.in_default.not-Some)) (rw c.in_ok-shares.ensures.items at c.in_ok-add_rest_to.ensures.shares) c.in_ok-add_rest_to.ensures.high).1

pub returns-in_default-clause-sums : goal.returns-in_default-clause-sums
returns-in_default-clause-sums c = pair_sums c.args.minus c.args.t.now c.args.s.now c.args.us.now c.args.high.now _ _ (IsAlone-end _ _ _ _ _ _ _ _ _ (IsAlone-start _ _ _ _ c.new-going.result c.new-waiting.result c.next_product.new.self _ _ c.new-going.ensures.shares c.new-going.ensures.degree c.new-waiting.ensures.shares c.new-waiting.ensures.degree (none_made _ _ _ _ _ c.in_ok-held.ensures c.in_default.not-Some)) (rw c.in_ok-shares.ensures.items at c.in_ok-add_rest_to.ensures.shares) c.in_ok-add_rest_to.ensures.high)

pub returns-in_default-clause-order : goal.returns-in_default-clause-order
returns-in_default-clause-order c h i f = (IsAlone-end _ _ _ _ _ _ _ _ _ (IsAlone-start _ _ _ _ c.new-going.result c.new-waiting.result c.next_product.new.self _ _ c.new-going.ensures.shares c.new-going.ensures.degree c.new-waiting.ensures.shares c.new-waiting.ensures.degree (none_made _ _ _ _ _ c.in_ok-held.ensures c.in_default.not-Some)) (rw c.in_ok-shares.ensures.items at c.in_ok-add_rest_to.ensures.shares) c.in_ok-add_rest_to.ensures.high).0.falling (product_shares-fall c.args.minus c.args.t.now c.args.us.now h i f) (product_shares-fall c.args.minus c.args.s.now c.args.us.now c.len-powers.ensures.monomial i f)

pub returns-in_default-3-clause-high : goal.returns-in_default-3-clause-high
returns-in_default-3-clause-high c = pair_high c.args.minus c.args.t.now c.args.s.now c.args.us.now c.args.high.now _ (IsAlone-end _ _ _ _ _ _ _ _ _ (IsAlone-equal _ _ _ _ _ _ _ _ _ _ c.both.invariant.paired (row_share c.next_product-in-both.new.self c.in-Some-2.product) c.joined.result _ _ (subst (λ o. IsMade c.both.going c.next_product-in-both.new.self c.both.high c.next_product-in-both.new.high (option_map (row_share c.next_product-in-both.new.self) o)) c.in-Some-2.is c.in_ok-product.ensures) (monomial_cmp-IsAntisymmetric c.in-Some-2.product c.both.held (sym c.in-Equal.ensures)) (rw c.share-in-Equal.ensures at c.joined.ensures.monomial) (rw (c.share-in-Equal.ensures, c.share-in-Equal-2.ensures) at c.joined.ensures.sum) (none_made _ _ _ _ _ c.in_ok-next-in-Equal.ensures c.in_default-3.not-Some)) (rw c.push_reserved-in-Equal.ensures.items at c.in_ok-add_rest_to-in-Equal.ensures.shares) c.in_ok-add_rest_to-in-Equal.ensures.high).1

pub returns-in_default-3-clause-sums : goal.returns-in_default-3-clause-sums
returns-in_default-3-clause-sums c = pair_sums c.args.minus c.args.t.now c.args.s.now c.args.us.now c.args.high.now _ _ (IsAlone-end _ _ _ _ _ _ _ _ _ (IsAlone-equal _ _ _ _ _ _ _ _ _ _ c.both.invariant.paired (row_share c.next_product-in-both.new.self c.in-Some-2.product) c.joined.result _ _ (subst (λ o. IsMade c.both.going c.next_product-in-both.new.self c.both.high c.next_product-in-both.new.high (option_map (row_share c.next_product-in-both.new.self) o)) c.in-Some-2.is c.in_ok-product.ensures) (monomial_cmp-IsAntisymmetric c.in-Some-2.product c.both.held (sym c.in-Equal.ensures)) (rw c.share-in-Equal.ensures at c.joined.ensures.monomial) (rw (c.share-in-Equal.ensures, c.share-in-Equal-2.ensures) at c.joined.ensures.sum) (none_made _ _ _ _ _ c.in_ok-next-in-Equal.ensures c.in_default-3.not-Some)) (rw c.push_reserved-in-Equal.ensures.items at c.in_ok-add_rest_to-in-Equal.ensures.shares) c.in_ok-add_rest_to-in-Equal.ensures.high)

pub returns-in_default-3-clause-order : goal.returns-in_default-3-clause-order
returns-in_default-3-clause-order c h i f = (IsAlone-end _ _ _ _ _ _ _ _ _ (IsAlone-equal _ _ _ _ _ _ _ _ _ _ c.both.invariant.paired (row_share c.next_product-in-both.new.self c.in-Some-2.product) c.joined.result _ _ (subst (λ o. IsMade c.both.going c.next_product-in-both.new.self c.both.high c.next_product-in-both.new.high (option_map (row_share c.next_product-in-both.new.self) o)) c.in-Some-2.is c.in_ok-product.ensures) (monomial_cmp-IsAntisymmetric c.in-Some-2.product c.both.held (sym c.in-Equal.ensures)) (rw c.share-in-Equal.ensures at c.joined.ensures.monomial) (rw (c.share-in-Equal.ensures, c.share-in-Equal-2.ensures) at c.joined.ensures.sum) (none_made _ _ _ _ _ c.in_ok-next-in-Equal.ensures c.in_default-3.not-Some)) (rw c.push_reserved-in-Equal.ensures.items at c.in_ok-add_rest_to-in-Equal.ensures.shares) c.in_ok-add_rest_to-in-Equal.ensures.high).0.falling (product_shares-fall c.args.minus c.args.t.now c.args.us.now h i f) (product_shares-fall c.args.minus c.args.s.now c.args.us.now c.len-powers.ensures.monomial i f)

pub returns-clause-high : goal.returns-clause-high
returns-clause-high c = pair_high c.args.minus c.args.t.now c.args.s.now c.args.us.now c.args.high.now _ (IsAlone-end _ _ _ _ _ _ _ _ _ (IsAlone-ended _ _ _ _ _ _ _ _ _ _ c.both.invariant.paired (none_made _ _ _ _ _ c.in_ok-product.ensures c.in_default-2.not-Some)) (rw (c.push_reserved-2.ensures.items, c.share-2.ensures) at c.in_ok-add_rest_to-2.ensures.shares) c.in_ok-add_rest_to-2.ensures.high).1

pub returns-clause-sums : goal.returns-clause-sums
returns-clause-sums c = pair_sums c.args.minus c.args.t.now c.args.s.now c.args.us.now c.args.high.now _ _ (IsAlone-end _ _ _ _ _ _ _ _ _ (IsAlone-ended _ _ _ _ _ _ _ _ _ _ c.both.invariant.paired (none_made _ _ _ _ _ c.in_ok-product.ensures c.in_default-2.not-Some)) (rw (c.push_reserved-2.ensures.items, c.share-2.ensures) at c.in_ok-add_rest_to-2.ensures.shares) c.in_ok-add_rest_to-2.ensures.high)

pub returns-clause-order : goal.returns-clause-order
returns-clause-order c h i f = (IsAlone-end _ _ _ _ _ _ _ _ _ (IsAlone-ended _ _ _ _ _ _ _ _ _ _ c.both.invariant.paired (none_made _ _ _ _ _ c.in_ok-product.ensures c.in_default-2.not-Some)) (rw (c.push_reserved-2.ensures.items, c.share-2.ensures) at c.in_ok-add_rest_to-2.ensures.shares) c.in_ok-add_rest_to-2.ensures.high).0.falling (product_shares-fall c.args.minus c.args.t.now c.args.us.now h i f) (product_shares-fall c.args.minus c.args.s.now c.args.us.now c.len-powers.ensures.monomial i f)
