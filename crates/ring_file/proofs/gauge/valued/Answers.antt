use Rattle.std.proofs.Common.{rules, refl}
use Rattle.std.specs.Prelude.{◌≤◌, unsigned_abs}
use Rattle.std.proofs.lemmas.List.Elements.{All-weaker}
use Rattle.sparse_poly.specs.Contributions.{max_coeff}
use Rattle.ring_file.specs.Reading.{HasNumber}
use Rattle.ring_file.specs.Named.{written_entry, valued_entry}
use Rattle.ring_file.proofs.Firsts.{first_at}
use Rattle.ring_file.proofs.gauge.valued.Goals as goal

pub returns-in-None : goal.returns-in-None
returns-in-None c =
    first_at HasNumber written_entry valued_entry c.args.entries.now c.entries.valued.items c.entries.entry-index c.len.result _ (search rules) c.entries.invariant.same (search rules)
    (All-weaker (λ e. unsigned_abs e.value ≤ max_coeff) (λ e. HasNumber (valued_entry e)) (λ e h. (e.value, record { spelled = refl; in_range = h })) c.entries.valued.items c.entries.invariant.in_range)
    (λ p. c.in-None.ensures p.0 p.1)
