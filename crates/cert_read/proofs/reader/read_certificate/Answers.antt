use Rattle.std.proofs.Common.{arith, rules, sym, subst}
use Rattle.cert_read.specs.Seen.{seen}
use Rattle.cert_read.specs.Faults.{IsCertFault}
use Rattle.cert_read.proofs.LinesRead.{read_more, small, counted_within}
use Rattle.cert_read.proofs.WrongLines.{nothing_read, wrong_line}
use Rattle.cert_read.proofs.reader.read_certificate.Goals as goal

pub lines-init : goal.lines-init
lines-init c = record { read = nothing_read c.args.text.now; few = search rules }

pub overflow_add-count : goal.overflow_add-count
overflow_add-count c =
    let within = counted_within c.args.text.now c.lines.rest.now c.lines.count (seen c.lines.kept) c.lines.invariant.read in
    let few = c.lines.invariant.few in
    omega (arith, within, few)

pub read_line-requires : goal.read_line-requires
read_line-requires c = small c.args.text.now c.lines.rest.now c.lines.count (seen c.lines.kept) c.lines.invariant.read

pub returns-in-Err : goal.returns-in-Err
returns-in-Err c =
    let text = c.args.text.now in
    let i = c.lines.invariant in
    subst (IsCertFault text) (sym c.fault_at.ensures) (wrong_line text c.lines.rest.now c.lines.count (seen c.lines.kept) i.read c.in-Some.line.now c.in-Some.after.now c.in-Some.ensures i.few c.in-Err.fault c.in-Err.ensures)

pub lines-preserved : goal.lines-preserved
lines-preserved c =
    let i = c.lines.invariant in
    record {
      read = read_more c.args.text.now c.lines.rest.now c.lines.count (seen c.lines.kept) i.read c.in-Some.line.now c.in-Some.after.now c.in-Some.ensures (seen c.in-Ok.kept) c.in-Ok.ensures;
      few = i.few;
    }

pub finish-requires : goal.finish-requires
finish-requires c =
    let within = counted_within c.args.text.now c.lines.rest.now c.lines.count (seen c.lines.kept) c.lines.invariant.read in
    let few = c.lines.invariant.few in
    omega (arith, within, few)
