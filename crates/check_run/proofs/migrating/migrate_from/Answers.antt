use Rattle.std.specs.Prelude.{ℕ, List}
use Rattle.std.proofs.Common.{◌∙◌, subst}
use Rattle.std.specs.Io.KnownBytes.{Appends}
use Rattle.braid_io.specs.Causes.{WrotePart}
use Rattle.check_run.specs.Migrations.{by_certificate, by_text, by_fault, by_lack}
use Rattle.check_run.proofs.migrating.migrate_from.Goals as goal

pub returns-in-Err-clause-ends : goal.returns-in-Err-clause-ends
returns-in-Err-clause-ends g c = by_certificate c.in-Err.status c.in-Err.ensures.read

pub returns-in_default-clause-ends : goal.returns-in_default-clause-ends
returns-in_default-clause-ends g c = by_lack

pub returns-in-Ok-write_all_of-clause-ends : goal.returns-in-Ok-write_all_of-clause-ends
returns-in-Ok-write_all_of-clause-ends g c =
    let before = g.K.Sink.written c.args.sink.now in
    let after = g.K.Sink.written c.write_all_of.new.sink in
    let written = subst (λ (text : List ℕ). Appends before after text) (c.deref.ensures.value ∙ c.in-Ok-write_certificate.ensures.text) c.in-Ok-write_all_of.ensures.all in
    rw c.items.ensures (by_text c.in-Ok.read c.in-Ok.ensures.read written)

pub returns-clause-ends : goal.returns-clause-ends
returns-clause-ends g c =
    let before = g.K.Sink.written c.args.sink.now in
    let after = g.K.Sink.written c.write_all_of.new.sink in
    let failed = c.in-Err-write_all_of.ensures in
    let written = subst (λ (text : List ℕ). WrotePart before after text) (c.deref.ensures.value ∙ c.in-Ok-write_certificate.ensures.text) failed.part in
    by_fault c.in-Ok.read c.in-Ok.ensures.read failed.cause.failed written
