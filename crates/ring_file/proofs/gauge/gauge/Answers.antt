use Rattle.std.proofs.Common.{◌≡◌, ◌∙◌, sym, rules, true, false}
use Rattle.std.specs.Prelude.{pos}
use Rattle.std.proofs.lemmas.List.Elements.{All-weaker, All-push}
use Rattle.ring_file.specs.Problems.{IsGaugeEntry}
use Rattle.ring_file.specs.Reading.{NamesUnknown, in_file}
use Rattle.ring_file.specs.Named.{valued_entry}
use Rattle.ring_file.specs.declared.symbols.Named.TheVariants.{F}
use Rattle.ring_file.proofs.Firsts.{first_at, one_more}
use Rattle.ring_file.proofs.gauge.gauge.Goals as goal

pub returns-in-None : goal.returns-in-None
returns-in-None c =
    first_at (NamesUnknown c.args.ring.now) valued_entry in_file c.args.entries.now c.entries.gauge.items c.entries.entry-index c.len.result _ (search rules) c.entries.invariant.same (search rules)
    (All-weaker (IsGaugeEntry c.args.ring.now) (λ e. NamesUnknown c.args.ring.now (in_file e)) (λ e h. h.symbol) c.entries.gauge.items c.entries.invariant.valid)
    (λ p. let q : true ≡ false = sym p ∙ c.in-None.ensures in absurd (cc))

pub entries-preserved : goal.entries-preserved
entries-preserved c = record {
  same = one_more valued_entry in_file c.args.entries.now c.entries.gauge.items c.push.new.self.items _ c.entries.entry-index (record { symbol = F 0 0 0 0 0 0; value = pos 0 }) (search rules) c.entries.invariant.same (rw c.in_ok-push-in-Some.was at c.push.ensures.items) (search rules);
  valid = rw (rw c.in_ok-push-in-Some.was at c.push.ensures.items) (All-push (IsGaugeEntry c.args.ring.now) c.entries.gauge.items _ c.entries.invariant.valid (record { symbol = search rules; value = search rules }));
}
