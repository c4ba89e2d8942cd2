-- All numbers of a certificate are in range exactly if those of each of its lines are.
use Rattle.std.specs.Prelude.{◌≡◌, ℕ, ◌≤◌, true, List, [], ◌∷◌, ◌++◌, All, length, map, flat_map}
use Rattle.std.specs.List.{AllByRecursion}
use Rattle.std.proofs.Common.{arith}
use Rattle.std.proofs.lemmas.List.Elements.{All-nil, All-cons, All-head, All-tail}
use Rattle.sparse_poly.specs.declared.Term.{Term}
use Rattle.sparse_poly.specs.Contributions.{IsPoly}
use Rattle.derive_lines.specs.declared.parts.Decision.{Decision}
use Rattle.derive_lines.specs.declared.parts.Line.{Line}
use Rattle.leaf_cert.specs.declared.certificate.RawEntry.{RawEntry}
use Rattle.leaf_cert.specs.declared.certificate.RawEntry.TheVariants.{Split, Post, Close, Publish}
use Rattle.leaf_cert.specs.declared.certificate.Certificate.{Certificate}
use Rattle.cert_text.specs.declared.version.Version.{Version}
use Rattle.cert_text.specs.declared.version.Version.TheVariants.{One, Two}
use Rattle.cert_text.specs.declared.sentence.Sentence.{Sentence}
use Rattle.cert_text.specs.declared.sentence.Sentence.TheVariants as says
use Rattle.cert_text.specs.Tables.{stands_in, place, entry_lines, table}
use Rattle.cert_text.specs.Sentences.{said_in, table_sentences, entry_sentences, sentences}
use Rattle.cert_text.specs.Numbers.{max_number, HasDecisionInRange, HasLineInRange, HasEntryInRange}
use Rattle.sparse_poly.specs.Reads.{HasVariablesBelow}
use Rattle.leaf_cert.specs.Variables.{HasDecisionVariablesBelow, HasLineVariablesBelow, HasEntryVariablesBelow}
use Rattle.cert_text.specs.Text.{Fits}
use Rattle.cert_lines.specs.Fitting.{FitsSentence}
use Rattle.cert_read.proofs.Tables.{AllStandIn, old_place, new_stand, new_all, standing_all}

-- each line fits
abbrev pub AllFit : ℕ → List Sentence → Type 0
AllFit u ss = AllByRecursion (FitsSentence u) ss

module _ {X : Type 0} (P : X → Type 0) where
  all_append : (xs ys : List X) → AllByRecursion P xs → AllByRecursion P ys → AllByRecursion P (xs ++ ys)
  all_append [] ys h k = k
  all_append (x ∷ xs) ys h k = (h.0, all_append xs ys h.1 k)

  all_parts : (xs ys : List X) → AllByRecursion P (xs ++ ys) → AllByRecursion P xs × AllByRecursion P ys
  all_parts [] ys h = (tt, h)
  all_parts (x ∷ xs) ys h = let r = all_parts xs ys h.1 in ((h.0, r.0), r.1)

pub fit_append : (u : ℕ) (ss ts : List Sentence) → AllFit u ss → AllFit u ts → AllFit u (ss ++ ts)
fit_append u ss ts h k = all_append (FitsSentence u) ss ts h k

pub fit_parts : (u : ℕ) (ss ts : List Sentence) → AllFit u (ss ++ ts) → AllFit u ss × AllFit u ts
fit_parts u ss ts h = all_parts (FitsSentence u) ss ts h

module _ {X : Type 0} (u : ℕ) (f : X → Sentence) (P Q : X → Type 0) where
  map_fit : ((x : X) → P x → Q x → FitsSentence u (f x)) → (xs : List X) → All P xs → All Q xs → AllFit u (map f xs)
  map_fit g [] h k = tt
  map_fit g (x ∷ xs) h k = (g x (All-head P x xs h) (All-head Q x xs k), map_fit g xs (All-tail P x xs h) (All-tail Q x xs k))

  map_parts : ((x : X) → FitsSentence u (f x) → P x × Q x) → (xs : List X) → AllFit u (map f xs) → All P xs × All Q xs
  map_parts g [] h = (All-nil P, All-nil Q)
  map_parts g (x ∷ xs) h = let a = g x h.0 in let r = map_parts g xs h.1 in (All-cons P x xs a.0 r.0, All-cons Q x xs a.1 r.1)

-- ---- lines of derivations

abbrev FitsLine : ℕ → Line → Type 0
FitsLine u l = HasLineInRange l × HasLineVariablesBelow u l

abbrev AllLinesFit : ℕ → List Line → Type 0
AllLinesFit u ls = AllByRecursion (FitsLine u) ls

module _ (u : ℕ) where
  both_fit : (ls : List Line) → All HasLineInRange ls → All (HasLineVariablesBelow u) ls → AllLinesFit u ls
  both_fit [] h k = tt
  both_fit (l ∷ ls) h k = ((All-head HasLineInRange l ls h, All-head (HasLineVariablesBelow u) l ls k), both_fit ls (All-tail HasLineInRange l ls h) (All-tail (HasLineVariablesBelow u) l ls k))

  both_parts : (ls : List Line) → AllLinesFit u ls → All HasLineInRange ls × All (HasLineVariablesBelow u) ls
  both_parts [] h = (All-nil HasLineInRange, All-nil (HasLineVariablesBelow u))
  both_parts (l ∷ ls) h = let r = both_parts ls h.1 in (All-cons HasLineInRange l ls h.0.0 r.0, All-cons (HasLineVariablesBelow u) l ls h.0.1 r.1)

  derived_fit : (ls : List Line) → AllLinesFit u ls → AllFit u (map says.Derived ls)
  derived_fit [] h = tt
  derived_fit (l ∷ ls) h = (h.0, derived_fit ls h.1)

  derived_parts : (ls : List Line) → AllFit u (map says.Derived ls) → AllLinesFit u ls
  derived_parts [] h = tt
  derived_parts (l ∷ ls) h = (h.0, derived_parts ls h.1)

  -- the places of lines that stand in a table
  pub places_fit : (t ls : List Line) → length t ≤ max_number → AllStandIn t ls → AllFit u (map (λ l. says.Use (place t l)) ls)
  places_fit t [] few h = tt
  places_fit t (l ∷ ls) few h = let p = old_place t [] l h.0 in let lt = p.1 in (omega (arith, lt, few), places_fit t ls few h.1)

  said_fit : (v : Version) (c : Certificate) → length (table c) ≤ max_number → (ls : List Line) → AllLinesFit u ls → AllStandIn (table c) ls → AllFit u (map (said_in v c) ls)
  said_fit One c few ls h s = derived_fit ls h
  said_fit Two c few ls h s = places_fit (table c) ls few s

  decisions_fit : (ds : List Decision) → All HasDecisionInRange ds → All (HasDecisionVariablesBelow u) ds → AllFit u (map says.Decided ds)
  decisions_fit ds h k = map_fit u says.Decided HasDecisionInRange (HasDecisionVariablesBelow u) (λ d a b. (a, b)) ds h k

  equations_fit : (ps : List (List Term)) → All IsPoly ps → All (HasVariablesBelow u) ps → AllFit u (map says.Equation ps)
  equations_fit ps h k = map_fit u says.Equation IsPoly (HasVariablesBelow u) (λ p a b. (a, b)) ps h k

  entry_lines_fit : (e : RawEntry) → HasEntryInRange e → HasEntryVariablesBelow u e → AllLinesFit u (entry_lines e)
  entry_lines_fit (Split n by) h k = tt
  entry_lines_fit (Post ds ls end) h k = both_fit ls h.lines k.lines
  entry_lines_fit (Close n i) h k = tt
  entry_lines_fit (Publish n ds ls ps end) h k = both_fit ls h.lines k.derivation.lines

  entries_lines_fit : (es : List RawEntry) → All HasEntryInRange es → All (HasEntryVariablesBelow u) es → AllLinesFit u (flat_map entry_lines es)
  entries_lines_fit [] h k = tt
  entries_lines_fit (e ∷ es) h k = all_append (FitsLine u) (entry_lines e) (flat_map entry_lines es) (entry_lines_fit e (All-head HasEntryInRange e es h) (All-head (HasEntryVariablesBelow u) e es k))
      (entries_lines_fit es (All-tail HasEntryInRange e es h) (All-tail (HasEntryVariablesBelow u) e es k))

  -- lines that say themselves
  entry_derived : (e : RawEntry) → AllFit u (entry_sentences says.Derived e) → AllLinesFit u (entry_lines e)
  entry_derived (Split n by) h = tt
  entry_derived (Post ds ls end) h = derived_parts ls (fit_parts u (map says.Derived ls) (says.End end ∷ []) (fit_parts u (map says.Decided ds) (map says.Derived ls ++ says.End end ∷ []) h.1).1).0
  entry_derived (Close n i) h = tt
  entry_derived (Publish n ds ls ps end) h = derived_parts ls (fit_parts u (map says.Derived ls) (map says.Equation ps) (fit_parts u (map says.Decided ds) (map says.Derived ls ++ map says.Equation ps) h.1).1).0

  entries_derived : (es : List RawEntry) → AllFit u (flat_map (entry_sentences says.Derived) es) → AllLinesFit u (flat_map entry_lines es)
  entries_derived [] h = tt
  entries_derived (e ∷ es) h =
      let a = fit_parts u (entry_sentences says.Derived e) (flat_map (entry_sentences says.Derived) es) h in
      all_append (FitsLine u) (entry_lines e) (flat_map entry_lines es) (entry_derived e a.0) (entries_derived es a.1)

  -- ---- entries

  module _ (say : Line → Sentence) where
    entry_fits : (e : RawEntry) → HasEntryInRange e → HasEntryVariablesBelow u e → AllFit u (map say (entry_lines e)) → AllFit u (entry_sentences say e)
    entry_fits (Split n by) h k s = ((h, k), tt)
    entry_fits (Post ds ls end) h k s = (
      tt,
      fit_append u (map says.Decided ds) (map say ls ++ says.End end ∷ []) (decisions_fit ds h.decisions k.decisions)
          (fit_append u (map say ls) (says.End end ∷ []) s (h.end, tt)),
    )
    entry_fits (Close n i) h k s = (h, tt)
    entry_fits (Publish n ds ls ps end) h k s = (
      (h.case_number, h.end, k.end),
      fit_append u (map says.Decided ds) (map say ls ++ map says.Equation ps) (decisions_fit ds h.decisions k.derivation.decisions)
          (fit_append u (map say ls) (map says.Equation ps) s (equations_fit ps h.equations k.equations)),
    )

    entry_parts : (e : RawEntry) → AllFit u (entry_sentences say e) → AllLinesFit u (entry_lines e) → HasEntryInRange e × HasEntryVariablesBelow u e
    entry_parts (Split n by) h s = (h.0.0, h.0.1)
    entry_parts (Post ds ls end) h s =
        let a = fit_parts u (map says.Decided ds) (map say ls ++ says.End end ∷ []) h.1 in
        let b = fit_parts u (map say ls) (says.End end ∷ []) a.1 in
        let d = map_parts u says.Decided HasDecisionInRange (HasDecisionVariablesBelow u) (λ x f. (f.0, f.1)) ds a.0 in
        let l = both_parts ls s in
        (record { decisions = d.0; lines = l.0; end = b.1.0 }, record { decisions = d.1; lines = l.1 })
    entry_parts (Close n i) h s = (h.0, tt)
    entry_parts (Publish n ds ls ps end) h s =
        let a = fit_parts u (map says.Decided ds) (map say ls ++ map says.Equation ps) h.1 in
        let b = fit_parts u (map say ls) (map says.Equation ps) a.1 in
        let d = map_parts u says.Decided HasDecisionInRange (HasDecisionVariablesBelow u) (λ x f. (f.0, f.1)) ds a.0 in
        let l = both_parts ls s in
        let p = map_parts u says.Equation IsPoly (HasVariablesBelow u) (λ x f. (f.0, f.1)) ps b.1 in
        (record { case_number = h.0.0; decisions = d.0; lines = l.0; equations = p.0; end = h.0.1 }, record { derivation = record { decisions = d.1; lines = l.1 }; equations = p.1; end = h.0.2 })

    entries_parts : (es : List RawEntry) → AllFit u (flat_map (entry_sentences say) es) → AllLinesFit u (flat_map entry_lines es) → All HasEntryInRange es × All (HasEntryVariablesBelow u) es
    entries_parts [] h s = (All-nil HasEntryInRange, All-nil (HasEntryVariablesBelow u))
    entries_parts (e ∷ es) h s =
        let a = fit_parts u (entry_sentences say e) (flat_map (entry_sentences say) es) h in
        let b = all_parts (FitsLine u) (entry_lines e) (flat_map entry_lines es) s in
        let x = entry_parts e a.0 b.0 in
        let r = entries_parts es a.1 b.1 in
        (All-cons HasEntryInRange e es x.0 r.0, All-cons (HasEntryVariablesBelow u) e es x.1 r.1)

  entries_fit : (v : Version) (c : Certificate) → length (table c) ≤ max_number → (es : List RawEntry) → All HasEntryInRange es → All (HasEntryVariablesBelow u) es → AllStandIn (table c) (flat_map entry_lines es) → AllFit u (flat_map (entry_sentences (said_in v c)) es)
  entries_fit v c few [] h k s = tt
  entries_fit v c few (e ∷ es) h k s =
      let a = All-head HasEntryInRange e es h in
      let b = All-head (HasEntryVariablesBelow u) e es k in
      let p = all_parts (λ l. stands_in (table c) l ≡ true) (entry_lines e) (flat_map entry_lines es) s in
      fit_append u (entry_sentences (said_in v c) e) (flat_map (entry_sentences (said_in v c)) es)
      (entry_fits (said_in v c) e a b (said_fit v c few (entry_lines e) (entry_lines_fit e a b) p.0))
      (entries_fit v c few es (All-tail HasEntryInRange e es h) (All-tail (HasEntryVariablesBelow u) e es k) p.1)

-- ---- certificates

table_fits : (v : Version) (c : Certificate) → Fits c → AllFit c.unknowns (table_sentences v c)
table_fits One c h = tt
table_fits Two c h = (
  h.lines,
  derived_fit c.unknowns (table c) (new_all (FitsLine c.unknowns) [] (flat_map entry_lines c.entries) tt (entries_lines_fit c.unknowns c.entries h.numbers.entries h.variables)),
)

pub fit_lines : (v : Version) (c : Certificate) → Fits c → AllFit c.unknowns (sentences v c)
fit_lines v c h =
    let entries = flat_map (entry_sentences (said_in v c)) c.entries in
    let done : List Sentence = says.Done (length c.entries) ∷ [] in (
      tt,
      (
        h.head.unknowns,
        (
          h.head.equations,
          (
            h.head.budget,
            fit_append c.unknowns (table_sentences v c) (entries ++ done) (table_fits v c h)
                (fit_append c.unknowns entries done (entries_fit c.unknowns v c h.lines c.entries h.numbers.entries h.variables (new_stand [] (flat_map entry_lines c.entries))) (h.numbers.few_entries, tt)),
          ),
        ),
      ),
    )

all_lines_fit : (v : Version) (c : Certificate) → AllFit c.unknowns (table_sentences v c) → AllFit c.unknowns (flat_map (entry_sentences (said_in v c)) c.entries) → AllLinesFit c.unknowns (flat_map entry_lines c.entries)
all_lines_fit One c t h = entries_derived c.unknowns c.entries h
all_lines_fit Two c t h = standing_all (FitsLine c.unknowns) (table c) (flat_map entry_lines c.entries) (derived_parts c.unknowns (table c) t.1) (new_stand [] (flat_map entry_lines c.entries))

pub fit_certificate : (v : Version) (c : Certificate) → AllFit c.unknowns (sentences v c) → length (table c) ≤ max_number → Fits c
fit_certificate v c h few =
    let entries = flat_map (entry_sentences (said_in v c)) c.entries in
    let done : List Sentence = says.Done (length c.entries) ∷ [] in
    let t = fit_parts c.unknowns (table_sentences v c) (entries ++ done) h.1.1.1.1 in
    let a = fit_parts c.unknowns entries done t.1 in
    let e = entries_parts c.unknowns (said_in v c) c.entries a.0 (all_lines_fit v c t.0 a.0) in
    record {
      head = record { unknowns = h.1.0; equations = h.1.1.0; budget = h.1.1.1.0 };
      numbers = record { few_entries = a.1.0; entries = e.0 };
      variables = e.1;
      lines = few;
    }
