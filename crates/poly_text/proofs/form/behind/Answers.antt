use Rattle.std.proofs.Common.{sym, ◌∙◌, ap, take, drop, length-drop}
use Rattle.std.proofs.Math.Seq.{take-length}
use Rattle.poly_text.proofs.form.behind.Goals as goal

pub returns : goal.returns
returns c =
    let ts = c.args.text.now in
    let n = c.args.count in
    ap (λ k. take k (drop n ts)) (sym (length-drop n ts)) ∙ take-length (drop n ts)
