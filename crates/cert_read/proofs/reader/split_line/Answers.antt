use Rattle.std.proofs.Common.{sym, subst, take}
use Rattle.cert_lines.specs.Bytes.{IsSplitAt}
use Rattle.cert_lines.proofs.Bytes.{split_found, split_none}
use Rattle.cert_read.proofs.reader.split_line.Goals as goal

pub returns-in-None : goal.returns-in-None
returns-in-None c = split_none 10 c.args.text.now c.in-None.ensures

pub returns-in-Some : goal.returns-in-Some
returns-in-Some c =
    let text = c.args.text.now in
    let i = c.in-Some.i in
    subst (IsSplitAt 10 text (take i text)) (sym c.behind.ensures) (split_found 10 text i c.in-Some.ensures)
