use Rattle.std.specs.Prelude.{◌≡◌, ◌==◌}
use Rattle.std.proofs.Common.{sym, ◌∙◌, ap, subst}
use Rattle.cert_text.specs.declared.sentence.Sentence.TheVariants as says
use Rattle.cert_read.specs.Machine.{Wrong, taken, in_leaf}
use Rattle.cert_read.specs.Seen.{seen_wording, seen_used}
use Rattle.cert_read.proofs.SeenStates.{behind_equation}
use Rattle.cert_read.proofs.machine.in_leaf.Goals as goal

pub returns-then-not-is_empty-4 : goal.returns-then-not-is_empty-4
returns-then-not-is_empty-4 c =
    let w = seen_wording c.args.wording in
    let used = seen_used c.args.wording in
    let leaf = c.args.leaf in
    let es = c.args.entries.items in
    let said = says.Use c.in-Use.place in
    subst (λ s. Wrong ≡ in_leaf c.args.head w used es leaf.n leaf.end leaf.decisions.items leaf.lines.items leaf.equations.items s) (sym c.in-Use.is)
    (sym (behind_equation c.args.head w es leaf.n leaf.end leaf.decisions.items leaf.lines.items leaf.equations.items (taken w used said) (ap (λ n. n == 0) (sym leaf.equations.ok.0) ∙ sym c.is_empty-in-Use.ensures ∙ c.if-not-is_empty-4.true)))
