use Rattle.std.proofs.Common.{◌≡◌, sym, ◌∙◌, true}
use Rattle.std.specs.declared.option.Option.TheVariants.{None}
use Rattle.sparse_poly.specs.Contributions.{degree_of, contributions, signed_products}
use Rattle.sparse_poly.proofs.Standings.{combined_high, Stands-append, IsResult-from_shares, IsFault-from_shares}
use Rattle.sparse_poly.proofs.Adding.{none_before}
use Rattle.sparse_poly.proofs.multiplying.combined_by_shares.Goals as goal

pub returns-in-Some : goal.returns-in-Some
returns-in-Some c =
    sym (combined_high c.args.l.now c.args.q.now c.args.a.now c.args.p.now _ _ c.in_ok-first.ensures.high c.in_ok-second.ensures.high) ∙ c.in-Some.is

pub returns-in-Ok : goal.returns-in-Ok
returns-in-Ok c =
    let degree : degree_of (contributions c.args.l.now c.args.q.now c.args.a.now c.args.p.now) ≡ None = sym (combined_high c.args.l.now c.args.q.now c.args.a.now c.args.p.now _ _ c.in_ok-first.ensures.high c.in_ok-second.ensures.high) ∙ c.in-None.is in
    let before : c.part.new.high ≡ None = none_before c.part.new.high (degree_of (signed_products true c.args.a.now c.args.p.now)) (sym c.in_ok-second.ensures.high ∙ c.in-None.is) in
    IsResult-from_shares _ _ _ (Stands-append _ _ _ _ (c.in_ok-first.ensures.sums before) (c.in_ok-second.ensures.sums c.in-None.is)) degree c.in-Ok.ensures

pub returns-in-Err : goal.returns-in-Err
returns-in-Err c =
    let degree : degree_of (contributions c.args.l.now c.args.q.now c.args.a.now c.args.p.now) ≡ None = sym (combined_high c.args.l.now c.args.q.now c.args.a.now c.args.p.now _ _ c.in_ok-first.ensures.high c.in_ok-second.ensures.high) ∙ c.in-None.is in
    let before : c.part.new.high ≡ None = none_before c.part.new.high (degree_of (signed_products true c.args.a.now c.args.p.now)) (sym c.in_ok-second.ensures.high ∙ c.in-None.is) in
    IsFault-from_shares _ _ c.in-Err.fault (Stands-append _ _ _ _ (c.in_ok-first.ensures.sums before) (c.in_ok-second.ensures.sums c.in-None.is)) degree c.in-Err.ensures
