use Rattle.std.proofs.Common.{rules, arith, ◌≡◌, ◌-◌, ◌∙◌, ◌++◌, ap, refl}
use Rattle.std.specs.Prelude.{length, List}
use Rattle.std.proofs.lemmas.Result.{IfOk-weaker}
use Rattle.derive_lines.specs.declared.parts.Line.{Line}
use Rattle.derive_lines.specs.declared.parts.Item.TheVariants as item
use Rattle.case_rules.specs.Rules.{condition}
use Rattle.case_rules.specs.Ends.{back_lines}
use Rattle.case_split.proofs.LeadingBack.{condition_is}
use Rattle.case_split.proofs.Running.{some_lines, refutes_by, refutation_by, same_refutes, same_cone}
use Rattle.case_split.proofs.conditions.refuted.Goals as goal

pub overflow_sub-end : goal.overflow_sub-end
overflow_sub-end c =
    let own : c.in_ok-lines.lines.items ≡ c.args.case.now.lines = search rules in
    let known : c.index-known-k.result ≡ condition c.args.case.now c.args.k = condition_is c.args.case.now c.known.result.now c.args.k c.index-known-k.result c.known.ensures c.requires.place c.index-known-k.is in
    let lines : c.push_back_lines.new.lines.items ≡ c.args.case.now.lines ++ back_lines c.args.case.now (length c.args.case.now.lines) (condition c.args.case.now c.args.k) c.args.steps.items = c.in_ok-push_back_lines.ensures ∙ ap (λ (ls : List Line). ls ++ back_lines c.args.case.now (length ls) c.index-known-k.result c.args.steps.items) own ∙ ap (λ n. c.args.case.now.lines ++ back_lines c.args.case.now (length c.args.case.now.lines) n c.args.steps.items) known in
    let some = some_lines c.args.root.now c.args.case.now c.requires.belongs c.requires.settled c.args.k c.requires.place c.args.steps.items c.requires.zero in
    omega (arith, some, ap (λ (ls : List Line). length ls) lines, c.len.ensures)

pub cone_under-requires-clause-refutes : goal.cone_under-requires-clause-refutes
cone_under-requires-clause-refutes c =
    let own : c.in_ok-lines.lines.items ≡ c.args.case.now.lines = search rules in
    let known : c.index-known-k.result ≡ condition c.args.case.now c.args.k = condition_is c.args.case.now c.known.result.now c.args.k c.index-known-k.result c.known.ensures c.requires.place c.index-known-k.is in
    let lines : c.push_back_lines.new.lines.items ≡ c.args.case.now.lines ++ back_lines c.args.case.now (length c.args.case.now.lines) (condition c.args.case.now c.args.k) c.args.steps.items = c.in_ok-push_back_lines.ensures ∙ ap (λ (ls : List Line). ls ++ back_lines c.args.case.now (length ls) c.index-known-k.result c.args.steps.items) own ∙ ap (λ n. c.args.case.now.lines ++ back_lines c.args.case.now (length c.args.case.now.lines) n c.args.steps.items) known in
    let some = some_lines c.args.root.now c.args.case.now c.requires.belongs c.requires.settled c.args.k c.requires.place c.args.steps.items c.requires.zero in
    same_refutes c.args.root.now c.args.case.now.decisions c.as_slice.result.now _ c.deref.result.now (item.Line (c.len.result - 1)) (item.Line (c.len.result - 1)) (search rules) (c.deref.ensures.value ∙ lines) refl
    (refutes_by c.args.root.now c.args.case.now c.requires.belongs c.requires.settled c.args.k c.requires.place c.args.steps.items c.requires.zero (c.len.result - 1) (omega (arith, some, ap (λ (ls : List Line). length ls) lines, c.len.ensures)))

pub returns : goal.returns
returns c =
    let own : c.in_ok-lines.lines.items ≡ c.args.case.now.lines = search rules in
    let known : c.index-known-k.result ≡ condition c.args.case.now c.args.k = condition_is c.args.case.now c.known.result.now c.args.k c.index-known-k.result c.known.ensures c.requires.place c.index-known-k.is in
    let lines : c.push_back_lines.new.lines.items ≡ c.args.case.now.lines ++ back_lines c.args.case.now (length c.args.case.now.lines) (condition c.args.case.now c.args.k) c.args.steps.items = c.in_ok-push_back_lines.ensures ∙ ap (λ (ls : List Line). ls ++ back_lines c.args.case.now (length ls) c.index-known-k.result c.args.steps.items) own ∙ ap (λ n. c.args.case.now.lines ++ back_lines c.args.case.now (length c.args.case.now.lines) n c.args.steps.items) known in
    let some = some_lines c.args.root.now c.args.case.now c.requires.belongs c.requires.settled c.args.k c.requires.place c.args.steps.items c.requires.zero in
    IfOk-weaker c.cone_under.result _ _
    (λ r h. refutation_by c.args.root.now c.args.case.now c.requires.belongs c.requires.settled c.args.k c.requires.place c.args.steps.items c.requires.zero (c.len.result - 1) r (omega (arith, some, ap (λ (ls : List Line). length ls) lines, c.len.ensures))
    (same_cone c.args.root.now c.args.case.now.decisions c.as_slice.result.now _ c.deref.result.now (item.Line (c.len.result - 1)) (item.Line (c.len.result - 1)) r (search rules) (c.deref.ensures.value ∙ lines) refl h))
    c.cone_under.ensures.cone
