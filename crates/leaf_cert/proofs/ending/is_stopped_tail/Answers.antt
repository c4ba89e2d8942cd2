use Rattle.std.proofs.Common.{rules, sym, ◌≡◌, ◌∙◌, ap, subst, refl, true, false}
use mathlib.Core.Logic.{inl, inr}
use Rattle.std.proofs.lemmas.Bool.{true≢false}
use Rattle.sparse_poly.specs.Contributions.{IsPoly}
use Rattle.sparse_poly.specs.Reads.{leading_in, coefficient_of_power}
use Rattle.sparse_poly.specs.Units.{IsStripped}
use Rattle.pseudo_rem.specs.Steps.{IsTail}
use Rattle.leaf_cert.proofs.StoppedSteps.{no_test, stopped_by, tail_test}
use Rattle.leaf_cert.proofs.ending.is_stopped_tail.Goals as goal

pub returns-then-not-is_tail : goal.returns-then-not-is_tail
returns-then-not-is_tail c =
    let not_so : c.is_tail.result ≡ false = search rules in
    no_test _ (λ s. true≢false (sym (c.is_tail.ensures.1 (s.reduced, s.tail.main)) ∙ not_so))

pub is_stopped_by-requires : goal.is_stopped_by-requires
is_stopped_by-requires c =
    let so : c.is_tail.result ≡ true = search rules in
    let initial : c.in_ok-initial.initial ≡ leading_in c.args.stop.now.v c.args.stop.now.q = c.in_ok-initial.ensures ∙ ap (λ n. coefficient_of_power c.args.stop.now.v n c.args.stop.now.q) c.degree_in.ensures in
    record { main = (c.is_tail.ensures.0 so).1; divided = inl (subst (λ x. IsStripped c.args.units.now x c.in_ok-stripped.stripped.factor c.in_ok-stripped.stripped.rest) initial c.in_ok-stripped.ensures) }

pub returns-then-by_strip : goal.returns-then-by_strip
returns-then-by_strip c =
    let so : c.is_tail.result ≡ true = search rules in
    let tail = c.is_tail.ensures.0 so in
    let initial : c.in_ok-initial.initial ≡ leading_in c.args.stop.now.v c.args.stop.now.q = c.in_ok-initial.ensures ∙ ap (λ n. coefficient_of_power c.args.stop.now.v n c.args.stop.now.q) c.degree_in.ensures in
    let step : IsTail c.args.units.now c.args.stop.now.v c.args.stop.now.q c.in_ok-stripped.stripped.factor c.in_ok-stripped.stripped.rest = record { main = tail.1; divided = inl (subst (λ x. IsStripped c.args.units.now x c.in_ok-stripped.stripped.factor c.in_ok-stripped.stripped.rest) initial c.in_ok-stripped.ensures) } in
    (λ t. stopped_by c.args.equations.now c.args.units.now c.args.stop.now.v c.args.stop.now.q c.args.stop.now.p c.args.limit tail.0 tail.1 c.in_ok-stripped.stripped.factor c.in_ok-stripped.stripped.rest step (c.in_ok-by_strip.ensures.0 c.if-by_strip.true), λ s. refl)

pub is_stopped_by-requires-2 : goal.is_stopped_by-requires-2
is_stopped_by-requires-2 c =
    let so : c.is_tail.result ≡ true = search rules in
    let initial : c.in_ok-initial.initial ≡ leading_in c.args.stop.now.v c.args.stop.now.q = c.in_ok-initial.ensures ∙ ap (λ n. coefficient_of_power c.args.stop.now.v n c.args.stop.now.q) c.degree_in.ensures in
    record {
      main = (c.is_tail.ensures.0 so).1;
      divided = inr (record {
        strip_factor = c.in_ok-stripped.stripped.factor;
        strip_rest = c.in_ok-stripped.stripped.rest;
        stripped = subst (λ x. IsStripped c.args.units.now x c.in_ok-stripped.stripped.factor c.in_ok-stripped.stripped.rest) initial c.in_ok-stripped.ensures;
        divided_out = c.in_ok-cleared.ensures;
      });
    }

pub returns : goal.returns
returns c =
    let so : c.is_tail.result ≡ true = search rules in
    let tail = c.is_tail.ensures.0 so in
    let initial : c.in_ok-initial.initial ≡ leading_in c.args.stop.now.v c.args.stop.now.q = c.in_ok-initial.ensures ∙ ap (λ n. coefficient_of_power c.args.stop.now.v n c.args.stop.now.q) c.degree_in.ensures in
    let strip : IsStripped c.args.units.now (leading_in c.args.stop.now.v c.args.stop.now.q) c.in_ok-stripped.stripped.factor c.in_ok-stripped.stripped.rest = subst (λ x. IsStripped c.args.units.now x c.in_ok-stripped.stripped.factor c.in_ok-stripped.stripped.rest) initial c.in_ok-stripped.ensures in
    tail_test c.args.equations.now c.args.units.now c.args.stop.now.v c.args.stop.now.q c.args.stop.now.p c.args.limit tail.0 tail.1 c.in_ok-stripped.stripped.factor c.in_ok-stripped.stripped.rest c.in_ok-cleared.cleared.factor c.in_ok-cleared.cleared.rest (subst IsPoly initial c.terms-terms.ensures.poly) strip
    (record { strip_factor = c.in_ok-stripped.stripped.factor; strip_rest = c.in_ok-stripped.stripped.rest; stripped = strip; divided_out = c.in_ok-cleared.ensures })
    c.in_ok-by_strip.by_strip c.in_ok-by_clearing.by_clearing c.in_ok-by_strip.ensures c.if-by_strip.false c.in_ok-by_clearing.ensures
