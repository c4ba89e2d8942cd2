use Rattle.std.proofs.Common.{arith, sym, ◌∙◌, ap, length, subst, List}
use Rattle.std.proofs.lemmas.Bool.{true≢false}
use Rattle.std.proofs.lemmas.Option.{slice_get_within}
use Rattle.std.specs.declared.option.Option.TheVariants.{Some}
use Rattle.derive_lines.specs.declared.parts.Decision.{Decision}
use Rattle.refute_store.specs.Live.{IsWithin}
use Rattle.cert_check.proofs.Replaying.{pending_is, pattern_is}
use Rattle.cert_check.proofs.replay.Replay.close_cause.Goals as goal

pub returns-in_default-pattern-clause-cause : goal.returns-in_default-pattern-clause-cause
returns-in_default-pattern-clause-cause c root h r = ((pending_is root h _ r c.args.n _ c.in-Some.ensures).0, omega (arith, c.in_default-pattern.ensures, ap length r.stored_are))

pub returns-then-not-has_within-clause-cause : goal.returns-then-not-has_within-clause-cause
returns-then-not-has_within-clause-cause c root h r =
    let p = pending_is root h _ r c.args.n _ c.in-Some.ensures in
    record {
      pending = p.0;
      pattern = c.in-Some-pattern.pattern.now;
      is = pattern_is root h _ r c.args.k _ c.in-Some-pattern.ensures;
      not_within = λ w. true≢false (sym (c.has_within.ensures.1 (subst (λ (l : List Decision). IsWithin l c.in-Some.path.now) (sym c.items.ensures) (subst (IsWithin c.in-Some-pattern.pattern.now) (sym p.1) w))) ∙ c.if-not-has_within.true);
    }

pub returns-clause-cause : goal.returns-clause-cause
returns-clause-cause c root h r =
    let p = pending_is root h _ r c.args.n _ c.in-Some.ensures in
    record {
      pending = p.0;
      pattern = record {
        pattern = c.in-Some-pattern.pattern.now;
        is = pattern_is root h _ r c.args.k _ c.in-Some-pattern.ensures;
        within = subst (IsWithin c.in-Some-pattern.pattern.now) p.1 (subst (λ (l : List Decision). IsWithin l c.in-Some.path.now) c.items.ensures (c.has_within.ensures.0 c.if-not-has_within.false));
      };
    }

pub returns-clause-made : goal.returns-clause-made
returns-clause-made c = slice_get_within c.args.self.now.cases c.args.n (Some c.in-Some.path.now) c.in-Some.ensures
