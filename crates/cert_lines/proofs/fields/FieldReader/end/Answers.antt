use Rattle.std.proofs.Common.{[], sym, subst}
use Rattle.decimal_text.specs.declared.NumeralFault.TheVariants.{Form}
use Rattle.cert_lines.specs.Forms.{Ended}
use Rattle.cert_lines.specs.Words.{words, left}
use Rattle.cert_lines.specs.LineReading.{AreFieldsRead, noted}
use Rattle.cert_lines.proofs.Texts.{some_word}
use Rattle.cert_lines.proofs.Noted.{still_left}
use Rattle.cert_lines.proofs.fields.FieldReader.end.Goals as goal

pub returns-in-Some : goal.returns-in-Some
returns-in-Some c u =
    let notes = c.args.self.now.notes in
    subst (λ part. AreFieldsRead u Ended (left part) notes (noted Form notes) [] (Unit {0})) (sym c.in-Some.is) (still_left u (words c.in-Some._part.now) notes (some_word c.in-Some._part.now))
