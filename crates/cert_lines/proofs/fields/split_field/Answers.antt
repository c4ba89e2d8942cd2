use Rattle.std.proofs.Common.{sym, ◌∙◌, ◌∷◌, ◌+◌, ap, take, drop}
use Rattle.cert_lines.specs.Words.{words}
use Rattle.cert_lines.proofs.Bytes.{split_found, split_none}
use Rattle.cert_lines.proofs.Texts.{words_alone, words_front}
use Rattle.cert_lines.proofs.fields.split_field.Goals as goal

pub returns-in-None : goal.returns-in-None
returns-in-None c = words_alone c.args.line.now (split_none 32 c.args.line.now c.in-None.ensures)

pub returns-in-Some : goal.returns-in-Some
returns-in-Some c =
    let line = c.args.line.now in
    let i = c.in-Some.i in
    let s = split_found 32 line i c.in-Some.ensures in
    ap words s.joined ∙ words_front (take i line) (drop (i + 1) line) s.before ∙ ap (λ x. take i line ∷ words x) (sym c.behind.ensures)
