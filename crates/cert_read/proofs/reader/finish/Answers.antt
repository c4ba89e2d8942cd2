use Rattle.std.proofs.Common.{ap, sym, inr, ◌∙◌}
use Rattle.cert_read.specs.Seen.{seen}
use Rattle.cert_read.proofs.Finish.{whole_text, trailing, truncated}
use Rattle.cert_read.proofs.SeenStates.{not_whole, no_bytes, some_bytes}
use Rattle.cert_read.proofs.reader.finish.Goals as goal

pub returns-in_default : goal.returns-in_default
returns-in_default c text r few lacks = truncated text c.args.rest.now c.args.count (seen c.args.kept) r few lacks (not_whole c.args.kept c.in_default.not-Whole)

pub returns-then-not-is_empty : goal.returns-then-not-is_empty
returns-then-not-is_empty c text r few lacks =
    inr (trailing text c.args.rest.now c.args.count (seen c.args.kept) r c.in-Whole.version c.in-Whole.certificate (ap seen c.in-Whole.is) few lacks (some_bytes c.args.rest.now (sym c.is_empty.ensures ∙ c.if-not-is_empty.true)))

pub returns : goal.returns
returns c text r few lacks = whole_text text c.args.rest.now c.args.count (seen c.args.kept) r c.in-Whole.version c.in-Whole.certificate (ap seen c.in-Whole.is) few (no_bytes c.args.rest.now (sym c.is_empty.ensures ∙ c.if-not-is_empty.false))
