use Rattle.std.proofs.Common.{◌∙◌, ◌≡◌, ◌++◌, ◌≤◌, [], ap, codes, length, map, flat_map, subst}
use Rattle.cert_text.specs.declared.sentence.Sentence.TheVariants as says
use Rattle.cert_text.specs.declared.version.Version.TheVariants as Version
use Rattle.cert_text.specs.Fields.{ended, count_fields}
use Rattle.cert_text.specs.Tables.{with_new, entry_lines, table}
use Rattle.cert_text.specs.Sentences.{use_of, entry_sentences, head, spelled}
use Rattle.cert_text.specs.Numbers.{max_number}
use Rattle.cert_text.proofs.Joined.{text_joined}
use Rattle.cert_text.proofs.writer.write_certificate.Goals as goal

tabulated : (c : goal.After-drop-table-inside-5) → c.in_ok-table.table.keys ≡ table c.args.c.now
tabulated c = c.in_ok-table.ensures ∙ ap (λ es. with_new [] (flat_map entry_lines es)) c.items-entries.ensures

pub returns-clause-text : goal.returns-clause-text
returns-clause-text c =
    let es = c.items-entries.result.now in
    let t = c.in_ok-table.table.keys in
    c.in_ok-push_count.ensures
    ∙ ap (λ x. x ++ ended (count_fields (codes "done") (length es))) (c.in_ok-push_entries.ensures.text
    ∙ ap (λ x. x ++ spelled (flat_map (entry_sentences (use_of t)) es)) (c.in_ok-push_table.ensures.text
    ∙ ap (λ x. x ++ (ended (count_fields (codes "lines") (length t)) ++ spelled (map says.Derived t))) (c.in_ok-push_head.ensures ∙ ap (λ x. x ++ spelled (head Version.Two c.args.c.now)) c.new-text.ensures.items)))
    ∙ text_joined c.args.c.now t es c.items-entries.ensures (tabulated c)

pub returns-clause-lines : goal.returns-clause-lines
returns-clause-lines c = subst (λ t. length t ≤ max_number) (tabulated c) c.push_table.ensures.size
