use Rattle.std.specs.Prelude.{◌≡◌, true, Some}
use Rattle.std.proofs.Common.{sym, ◌∙◌, ap, subst}
use Rattle.std.proofs.lemmas.Result.{err_from_is_err_and}
use Rattle.cert_lines.specs.Words.{words, first}
use Rattle.cert_lines.specs.Forms.{kind_by_word}
use Rattle.cert_lines.specs.LineReading.{IsSaid, IsLineFault}
use Rattle.cert_read.specs.Machine.{may}
use Rattle.cert_read.specs.Seen.{seen, seen_or_wrong}
use Rattle.cert_read.proofs.LineFaults.{no_kind, misplaced, nothing_said, said_wrong}
use Rattle.cert_read.proofs.SeenStates.{seen_live}
use Rattle.cert_read.proofs.reader.read_line.Goals as goal

pub returns-in_default : goal.returns-in_default
returns-in_default c =
    no_kind (seen c.args.kept) c.args.line.now c.requires (ap (λ fs. kind_by_word (first fs)) c.split_field.ensures ∙ sym c.kind_by_word.ensures ∙ c.in_default.is)

pub returns-then-not-may : goal.returns-then-not-may
returns-then-not-may c =
    let e : kind_by_word (first (words c.args.line.now)) ≡ Some c.in-Some.kind = ap (λ fs. kind_by_word (first fs)) c.split_field.ensures ∙ sym c.in-Some.ensures in
    misplaced (seen c.args.kept) c.args.line.now c.requires c.in-Some.kind e (sym c.may.ensures ∙ c.if-not-may.true)

pub returns-in_err-said : goal.returns-in_err-said
returns-in_err-said c =
    let st = seen c.args.kept in
    let line = c.args.line.now in
    let kind = c.in-Some.kind in
    let e : kind_by_word (first (words line)) ≡ Some kind = ap (λ fs. kind_by_word (first fs)) c.split_field.ensures ∙ sym c.in-Some.ensures in
    let m : may st kind ≡ true = sym c.may.ensures ∙ c.if-not-may.false in
    let p = err_from_is_err_and c.from_residual.result c.from_residual.ensures.1 in
    let said : IsLineFault c.unknowns.result kind line p.0 = subst (IsLineFault c.unknowns.result kind line) (sym p.2) c.in_err-said.ensures in
    rw p.1 (nothing_said st line c.requires kind e m p.0 (subst (λ u. IsLineFault u kind line p.0) c.unknowns.ensures said))

pub returns-in-Some-2 : goal.returns-in-Some-2
returns-in-Some-2 c = record {
  sentence = c.in_ok-said.said;
  said = subst (λ u. IsSaid u c.args.line.now c.in_ok-said.said) c.unknowns.ensures c.in_ok-said.ensures;
  leads = sym c.in_ok-kept.ensures ∙ ap seen_or_wrong c.in-Some-2.is;
  live = seen_live c.in-Some-2.kept;
}

pub returns-in-None : goal.returns-in-None
returns-in-None c =
    let st = seen c.args.kept in
    let line = c.args.line.now in
    let e : kind_by_word (first (words line)) ≡ Some c.in-Some.kind = ap (λ fs. kind_by_word (first fs)) c.split_field.ensures ∙ sym c.in-Some.ensures in
    said_wrong st line c.requires c.in-Some.kind e c.in_ok-said.said (subst (λ u. IsSaid u line c.in_ok-said.said) c.unknowns.ensures c.in_ok-said.ensures) (sym c.in_ok-kept.ensures ∙ ap seen_or_wrong c.in-None.is)
