use Rattle.std.proofs.Common.{rules, ◌<◌, length}
use Rattle.case_system.specs.Kept.{equations_of}
use Rattle.case_system.proofs.Counting.{facts_length, facts_at, stripped_kept, bare_kept}
use Rattle.case_system.proofs.BeingCleared.{strips_at_last}
use Rattle.case_system.proofs.Placing.{drop_this, drop_end}
use Rattle.case_system.specs.CaseLines.{all_lines}
use Rattle.case_system.proofs.clearing.strip_equations.Goals as goal

pub index-requires-in-loop-i : goal.index-requires-in-loop-i
index-requires-in-loop-i c =
    let within : c.loop-i.i < length c.args.list.now.equations.items = search rules in
    let long = facts_length c.args.conditions.now c.args.list.now.equations.items c.args.list.now.facts.items c.requires in
    let same = c.args.list.now.facts.len in
    search rules

pub strip_equation-requires : goal.strip_equation-requires
strip_equation-requires c =
    let within : c.loop-i.i < length c.args.list.now.equations.items = search rules in
    facts_at c.args.conditions.now c.args.list.now.equations.items c.args.list.now.facts.items c.loop-i.i c.index.result.now c.index-in-loop-i.result.now c.requires within c.index.ensures c.index-in-loop-i.ensures

pub loop-i-preserved : goal.loop-i-preserved
loop-i-preserved c =
    let within : c.loop-i.i < length c.args.list.now.equations.items = search rules in
    record {
      stripped = stripped_kept c.args.conditions.now (all_lines c.args.lines.now) c.args.list.now.equations.items _ _ c.index.result.now (all_lines c.loop-i.lines) (all_lines c.strip_equation.new.lines) c.loop-i.stripped.items c.in_ok-kept.kept c.push.new.self.items
          (drop_this c.args.list.now.equations.items c.loop-i.i c.index.result.now within c.index.ensures) c.loop-i.invariant.stripped c.in_ok-kept.ensures.stripped c.in_ok-push.ensures.items;
      bare = bare_kept c.args.conditions.now c.loop-i.stripped.items c.in_ok-kept.kept c.push.new.self.items c.loop-i.invariant.bare c.in_ok-kept.ensures.bare c.in_ok-push.ensures.items;
    }

pub returns-clause-stripped : goal.returns-clause-stripped
returns-clause-stripped c = strips_at_last c.args.conditions.now (all_lines c.args.lines.now) c.args.list.now.equations.items _ (all_lines c.loop-i.lines) (equations_of c.loop-i.stripped.items) (drop_end c.args.list.now.equations.items c.loop-i.i (search rules)) c.loop-i.invariant.stripped
