-- Texts that are written part by part.
use Rattle.std.specs.Prelude.{◌≡◌, ℕ, List, [], ◌∷◌, ◌++◌, length, map, flat_map, codes, decimal, refl}
use Rattle.std.proofs.Common.{sym, ◌∙◌, ap, append_assoc, append-nil}
use Rattle.sparse_poly.specs.declared.Term.{Term}
use Rattle.poly_text.specs.Text.{poly_text}
use Rattle.derive_lines.specs.declared.parts.Decision.{Decision}
use Rattle.derive_lines.specs.declared.parts.Line.{Line}
use Rattle.derive_lines.specs.declared.parts.Item.{Item}
use Rattle.leaf_cert.specs.declared.ends.LeafEnd.{LeafEnd}
use Rattle.leaf_cert.specs.declared.ends.Stop.{Stop}
use Rattle.leaf_cert.specs.declared.certificate.RawEntry.{RawEntry}
use Rattle.leaf_cert.specs.declared.certificate.Certificate.{Certificate}
use Rattle.cert_text.specs.declared.sentence.Sentence.{Sentence}
use Rattle.cert_text.specs.declared.sentence.Sentence.TheVariants as says
use Rattle.cert_text.specs.Fields.{further, ended, reference_text, way_text, step_word, line_fields, stop_fields, leaf_fields, end_fields, count_fields}
use Rattle.cert_text.specs.declared.version.Version.TheVariants.{Two}
use Rattle.cert_text.specs.Tables.{table}
use Rattle.cert_text.specs.Sentences.{fields, use_of, entry_sentences, head, table_sentences, spelled, text_in}

pub spelled-append : (ss ts : List Sentence) → spelled (ss ++ ts) ≡ spelled ss ++ spelled ts
spelled-append [] ts = refl
spelled-append (s ∷ ss) ts = ap (λ l. ended (fields s) ++ l) (spelled-append ss ts) ∙ sym (append_assoc (ended (fields s)) (spelled ss) (spelled ts))

seven : (old w f b p q r m e sp : List ℕ) → (((old ++ w) ++ (sp ++ f ++ (sp ++ b))) ++ (sp ++ p ++ (sp ++ q ++ (sp ++ r ++ (sp ++ m))))) ++ e ≡ old ++ (w ++ (sp ++ f ++ (sp ++ b ++ (sp ++ p ++ (sp ++ q ++ (sp ++ r ++ (sp ++ m ++ e)))))))
seven old w f b p q r m e sp = simp append_assoc

pub line_joined : (l : Line) (old : List ℕ) → old ++ way_text l.way ++ (codes " " ++ reference_text l.from ++ (codes " " ++ reference_text l.by)) ++ (codes " " ++ poly_text l.l ++ (codes " " ++ poly_text l.a ++ (codes " " ++ poly_text l.m ++ (codes " " ++ poly_text l.made)))) ++ codes "\n" ≡ old ++ ended (line_fields l)
line_joined l old = seven old (way_text l.way) (reference_text l.from) (reference_text l.by) (poly_text l.l) (poly_text l.a) (poly_text l.m) (poly_text l.made) (codes "\n") (codes " ")

four : (old w v q p e sp : List ℕ) → (((old ++ (sp ++ w ++ (sp ++ v))) ++ (sp ++ q)) ++ (sp ++ p)) ++ e ≡ old ++ (sp ++ w ++ (sp ++ v ++ (sp ++ q ++ (sp ++ p ++ e))))
four old w v q p e sp = simp append_assoc

pub stop_joined : (s : Stop) (old : List ℕ) → old ++ (codes " " ++ step_word s.step ++ (codes " " ++ (codes "x" ++ decimal s.v))) ++ (codes " " ++ poly_text s.q) ++ (codes " " ++ poly_text s.p) ++ codes "\n" ≡ old ++ further (stop_fields s)
stop_joined s old = four old (step_word s.step) (codes "x" ++ decimal s.v) (poly_text s.q) (poly_text s.p) (codes "\n") (codes " ")

parts : (old a b c d : List ℕ) → (((old ++ a) ++ b) ++ c) ++ d ≡ old ++ (a ++ (b ++ (c ++ d)))
parts old a b c d = simp append_assoc

parts_of : (a b c d : List ℕ) → ((a ++ b) ++ c) ++ d ≡ a ++ (b ++ (c ++ d))
parts_of a b c d = simp append_assoc

-- the texts of three lists of lines
three : (ss ts us : List Sentence) → spelled (ss ++ (ts ++ us)) ≡ spelled ss ++ (spelled ts ++ spelled us)
three ss ts us = spelled-append ss (ts ++ us) ∙ ap (λ l. spelled ss ++ l) (spelled-append ts us)

pub head_joined : (c : Certificate) (old : List ℕ) → old ++ codes "braidcert 2\n" ++ ended (count_fields (codes "unknowns") c.unknowns) ++ ended (count_fields (codes "equations") c.equations) ++ ended (count_fields (codes "budget") c.budget) ≡ old ++ spelled (head Two c)
head_joined c old =
    let u = ended (count_fields (codes "unknowns") c.unknowns) in
    let e = ended (count_fields (codes "equations") c.equations) in
    let b = ended (count_fields (codes "budget") c.budget) in
    parts old (codes "braidcert 2\n") u e b ∙ ap (λ l. old ++ (codes "braidcert 2\n" ++ (u ++ (e ++ l)))) (sym (append-nil b))

pub post_joined : (t : List Line) (ds : List Decision) (ls : List Line) (end : Item) (old : List ℕ) → old ++ codes "post\n" ++ spelled (map says.Decided ds) ++ spelled (map (use_of t) ls) ++ ended (end_fields end) ≡ old ++ spelled (says.Post ∷ (map says.Decided ds ++ (map (use_of t) ls ++ says.End end ∷ [])))
post_joined t ds ls end old =
    parts old (codes "post\n") (spelled (map says.Decided ds)) (spelled (map (use_of t) ls)) (ended (end_fields end))
    ∙ ap (λ l. old ++ (codes "post\n" ++ (spelled (map says.Decided ds) ++ (spelled (map (use_of t) ls) ++ l)))) (sym (append-nil (ended (end_fields end))))
    ∙ ap (λ l. old ++ (codes "post\n" ++ l)) (sym (three (map says.Decided ds) (map (use_of t) ls) (says.End end ∷ [])))

pub leaf_joined : (t : List Line) (n : ℕ) (ds : List Decision) (ls : List Line) (ps : List (List Term)) (end : LeafEnd) (old : List ℕ) → old ++ ended (leaf_fields n end) ++ spelled (map says.Decided ds) ++ spelled (map (use_of t) ls) ++ spelled (map says.Equation ps) ≡ old ++ spelled (says.Leaf n end ∷ (map says.Decided ds ++ (map (use_of t) ls ++ map says.Equation ps)))
leaf_joined t n ds ls ps end old =
    parts old (ended (leaf_fields n end)) (spelled (map says.Decided ds)) (spelled (map (use_of t) ls)) (spelled (map says.Equation ps))
    ∙ ap (λ l. old ++ (ended (leaf_fields n end) ++ l)) (sym (three (map says.Decided ds) (map (use_of t) ls) (map says.Equation ps)))

-- the four parts of a text, with this table and these entries
abbrev pub parts_text : Certificate → List Line → List RawEntry → List ℕ
parts_text c t es = spelled (head Two c) ++ (ended (count_fields (codes "lines") (length t)) ++ spelled (map says.Derived t)) ++ spelled (flat_map (entry_sentences (use_of t)) es) ++ ended (count_fields (codes "done") (length es))

whole : (c : Certificate) → parts_text c (table c) c.entries ≡ text_in Two c
whole c =
    let uses = flat_map (entry_sentences (use_of (table c))) c.entries in
    let done = ended (count_fields (codes "done") (length c.entries)) in
    parts_of (spelled (head Two c)) (spelled (table_sentences Two c)) (spelled uses) done
    ∙ ap (λ l. spelled (head Two c) ++ (spelled (table_sentences Two c) ++ (spelled uses ++ l))) (sym (append-nil done))
    ∙ ap (λ l. spelled (head Two c) ++ l) (sym (three (table_sentences Two c) uses (says.Done (length c.entries) ∷ [])))
    ∙ sym (spelled-append (head Two c) (table_sentences Two c ++ (uses ++ says.Done (length c.entries) ∷ [])))

pub text_joined : (c : Certificate) (t : List Line) (es : List RawEntry) → es ≡ c.entries → t ≡ table c → parts_text c t es ≡ text_in Two c
text_joined c t es same is = ap (λ x. parts_text c x es) is ∙ ap (λ x. parts_text c (table c) x) same ∙ whole c
