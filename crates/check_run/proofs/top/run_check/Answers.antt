use Rattle.std.specs.Prelude.{ℕ, List, refl}
use Rattle.std.proofs.Common.{sym, ◌∙◌, subst}
use Rattle.std.proofs.lemmas.List.{length-map}
use Rattle.std.specs.Io.KnownBytes.{Appends}
use Rattle.braid_io.specs.Causes.{WrotePart}
use Rattle.check_run.specs.Outcomes.{by_words, by_migration, by_inputs, by_verdict, by_sink, by_memory}
use Rattle.check_run.proofs.Apart.{unjudged_is_no_usage}
use Rattle.check_run.proofs.top.run_check.Goals as goal

pub returns-then-words-ne2-clause-ends : goal.returns-then-words-ne2-clause-ends
returns-then-words-ne2-clause-ends g c = by_words (rw length-map c.if-words-ne2.true)

pub returns-in-Err-clause-ends : goal.returns-in-Err-clause-ends
returns-in-Err-clause-ends g c = by_inputs c.in-Err.status (record { two = rw length-map c.if-words-ne2.false; plain = sym c.asks_migration.ensures ∙ c.if-asks_migration.false }) c.in-Err.ensures.verdict

pub returns-in-Err-clause-unread : goal.returns-in-Err-clause-unread
returns-in-Err-clause-unread g c e = absurd (unjudged_is_no_usage _ _ c.in-Err.status c.in-Err.ensures.verdict e)

pub returns-in_default-clause-ends : goal.returns-in_default-clause-ends
returns-in_default-clause-ends g c = by_memory (record { two = rw length-map c.if-words-ne2.false; plain = sym c.asks_migration.ensures ∙ c.if-asks_migration.false })

pub returns-in-Ok-write_all_of-clause-ends : goal.returns-in-Ok-write_all_of-clause-ends
returns-in-Ok-write_all_of-clause-ends g c =
    let before = g.K.Sink.written c.args.sink.now in
    let after = g.K.Sink.written c.write_all_of.new.sink in
    let written = subst (λ (text : List ℕ). Appends before after text) (c.as_bytes.ensures.value ∙ c.in-Ok-verdict_line.ensures) c.in-Ok-write_all_of.ensures.all in
    rw c.from.ensures (by_verdict c.in-Ok.verdict (record { two = rw length-map c.if-words-ne2.false; plain = sym c.asks_migration.ensures ∙ c.if-asks_migration.false }) c.in-Ok.ensures.verdict written)

pub returns-clause-ends : goal.returns-clause-ends
returns-clause-ends g c =
    let before = g.K.Sink.written c.args.sink.now in
    let after = g.K.Sink.written c.write_all_of.new.sink in
    let failed = c.in-Err-write_all_of.ensures in
    let written = subst (λ (text : List ℕ). WrotePart before after text) (c.as_bytes.ensures.value ∙ c.in-Ok-verdict_line.ensures) failed.part in
    by_sink c.in-Ok.verdict (record { two = rw length-map c.if-words-ne2.false; plain = sym c.asks_migration.ensures ∙ c.if-asks_migration.false }) c.in-Ok.ensures.verdict failed.cause.failed written

pub returns-then-asks_migration-clause-ends : goal.returns-then-asks_migration-clause-ends
returns-then-asks_migration-clause-ends g c =
    by_migration c.migrate_from.result (sym c.asks_migration.ensures ∙ c.if-asks_migration.true) (record { same = refl; quiet = refl }) c.migrate_from.ensures.ends
