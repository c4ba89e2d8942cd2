use Rattle.std.specs.Prelude.{◌≡◌, true, false, ℕ, List, refl}
use Rattle.std.proofs.Common.{sym, ◌∙◌, subst}
use Rattle.std.specs.Io.KnownBytes.{Appends}
use Rattle.braid_io.specs.Causes.{WrotePart}
use Rattle.leaf_cert.specs.declared.certificate.RawEntry.{RawEntry}
use Rattle.case_history.specs.Counts.{leaf_count, open_count}
use Rattle.cert_text.specs.Text.{Fits}
use Rattle.solve_run.specs.Outcomes.{Counts, by_source, by_sink, by_memory}
use Rattle.solve_run.proofs.Apart.{written_is_no_usage, written_may}
use Rattle.solve_run.proofs.Certified.{certified, counted, stopped}
use Rattle.solve_run.proofs.top.run.Goals as goal

pub returns-in-Err-clause-ends : goal.returns-in-Err-clause-ends
returns-in-Err-clause-ends g c = stopped _ _ _ _ c.in-Err.stop c.from.result c.from.ensures c.in-Err.ensures.settings

pub returns-in-Err-root_for-clause-ends : goal.returns-in-Err-root_for-clause-ends
returns-in-Err-root_for-clause-ends g c =
    by_source c.in-Ok.settings _ c.in-Ok.ensures.settings (record { fault = c.in-Err-root_for.fault; is_fault = c.in-Err-root_for.ensures.root; becomes = c.from-in-Err-root_for.ensures })

pub returns-in_default-clause-ends : goal.returns-in_default-clause-ends
returns-in_default-clause-ends g c = by_memory

pub returns-in_default-output_of-clause-ends : goal.returns-in_default-output_of-clause-ends
returns-in_default-output_of-clause-ends g c = by_memory

pub returns-in-Ok-write_all_of-clause-ends : goal.returns-in-Ok-write_all_of-clause-ends
returns-in-Ok-write_all_of-clause-ends g c =
    let settings = c.in-Ok.settings in
    let gives = c.in-Ok-root_for.ensures.root in
    let found = c.in-Ok-certificate_of.ensures in
    let searched = found.searched in
    let certificate = c.in-Ok-certificate_of.certificate in
    let fits : settings.summary ≡ false → Fits certificate = λ plain. record { head = found.head; numbers = c.in-Ok-output_of.ensures.numbers plain; variables = found.variables; lines = c.in-Ok-output_of.ensures.lines plain } in
    let before = g.K.Sink.written c.args.sink.now in
    let after = g.K.Sink.written c.write_all_of.new.sink in
    let written = subst (λ (text : List ℕ). Appends before after text) (c.deref.ensures.value ∙ c.in-Ok-output_of.ensures.text) c.in-Ok-write_all_of.ensures.all in
    counted _ _ _ _ certificate.entries c.status_of.result (subst (λ (entries : List RawEntry). Counts entries c.status_of.result) c.items.ensures c.status_of.ensures)
    (λ leaves opens l o. certified _ _ _ (λ text. Appends before after text) leaves opens settings gives.0 c.in-Ok-root_for.root searched.0 certificate
    c.root_law.ensures c.accepted_law.ensures c.in-Ok.ensures.settings gives.1 searched.1 l o written fits)

pub returns-in-Ok-write_all_of-clause-unread : goal.returns-in-Ok-write_all_of-clause-unread
returns-in-Ok-write_all_of-clause-unread g c kind e = absurd (written_is_no_usage _ kind c.status_of.result c.status_of.ensures e)

pub returns-in-Ok-write_all_of-clause-unwritten : goal.returns-in-Ok-write_all_of-clause-unwritten
returns-in-Ok-write_all_of-clause-unwritten g c none = let some : false ≡ true = sym none ∙ written_may _ c.status_of.result c.status_of.ensures in absurd (cc)

pub returns-clause-ends : goal.returns-clause-ends
returns-clause-ends g c =
    let settings = c.in-Ok.settings in
    let gives = c.in-Ok-root_for.ensures.root in
    let found = c.in-Ok-certificate_of.ensures in
    let searched = found.searched in
    let certificate = c.in-Ok-certificate_of.certificate in
    let fits : settings.summary ≡ false → Fits certificate = λ plain. record { head = found.head; numbers = c.in-Ok-output_of.ensures.numbers plain; variables = found.variables; lines = c.in-Ok-output_of.ensures.lines plain } in
    let before = g.K.Sink.written c.args.sink.now in
    let after = g.K.Sink.written c.write_all_of.new.sink in
    let failed = c.in-Err-write_all_of.ensures in
    let written = subst (λ (text : List ℕ). WrotePart before after text) (c.deref.ensures.value ∙ c.in-Ok-output_of.ensures.text) failed.part in
    by_sink (leaf_count certificate.entries) (open_count certificate.entries) failed.cause.failed
    (certified _ _ _ (λ text. WrotePart before after text) _ _ settings gives.0 c.in-Ok-root_for.root searched.0 certificate
    c.root_law.ensures c.accepted_law.ensures c.in-Ok.ensures.settings gives.1 searched.1 refl refl written fits)
