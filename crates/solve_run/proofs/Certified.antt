-- What a run with a certificate says, from what its stages say.
use Rattle.std.specs.Prelude.{◌≡◌, ◌↔◌, ℕ, false, Option, None, Some, List, refl}
use Rattle.std.proofs.Common.{sym, subst}
use Rattle.std.specs.Io.KnownBytes.{Appends}
use Rattle.field_laws.specs.Field.{Field, AllElements}
use Rattle.derive_lines.specs.Refuting.{AllVanish}
use Rattle.sparse_poly.specs.declared.Term.{Term}
use Rattle.leaf_cert.specs.Parts.{LeafParts}
use Rattle.leaf_cert.specs.Leaves.{Meets}
use Rattle.leaf_cert.specs.declared.certificate.Certificate.{Certificate}
use Rattle.leaf_cert.specs.declared.certificate.RawEntry.{RawEntry}
use Rattle.ring_file.specs.Problems.{Stated}
use Rattle.root_system.specs.Forms.{RootEquations}
use Rattle.root_system.specs.Root.{AreRootEquations}
use Rattle.root_system.specs.Solution.{Solution}
use Rattle.case_history.specs.Replay.{Accepted}
use Rattle.case_history.specs.JustOne.{MeetsJustOneLeaf}
use Rattle.case_history.specs.Counts.{leaf_count, open_count}
use Rattle.cert_text.specs.Text.{Fits}
use Rattle.root_input.specs.Streams.{Stream}
use Rattle.run_words.specs.Words.{IsSettings}
use Rattle.run_words.specs.declared.settings.Made.{Made}
use Rattle.run_words.specs.declared.settings.Settings.{Settings}
use Rattle.run_words.specs.declared.settings.WordsStop.{WordsStop}
use Rattle.run_words.specs.declared.settings.WordsStop.TheVariants as stop
use Rattle.run_words.specs.Words.{IsWordsStop}
use Rattle.solve_run.specs.Problems.{GivesRoot}
use Rattle.solve_run.specs.Statuses.{words_status}
use Rattle.solve_run.specs.Outcomes.{IsSearched, Certifies, Counts, Ends, output_text, none_open, some_open, by_words, by_leaves, by_open_leaves, by_memory}
use Rattle.solve_run.specs.declared.status.Status.{Status}

-- what solves may be said in other words
in_other_words : (P Q : Type 0) (meets : LeafParts → Type 0) (entries : List RawEntry) → P ↔ Q → MeetsJustOneLeaf P meets entries → MeetsJustOneLeaf Q meets entries
in_other_words P Q meets entries same h = record { some = λ q. h.some (same.1 q); only = λ place is. same.0 (h.only place is); one = h.one }

-- the root of the problem is made of its equations
given_equations : (source : Stream) (made : Option Made) (problem : Stated) (root : RootEquations) → GivesRoot source made problem root → AreRootEquations problem root.equations
given_equations source None problem root gives = gives.1.has_root.is_root.are_equations
given_equations source (Some made) problem root gives = gives.1.is_root.are_equations

pub certified : {E : Type 0} (f : Field E) (words : List (List ℕ)) (source : Stream) (IsWritten : List ℕ → Type 0) (leaves opens : ℕ)
    (settings : Settings) (problem : Stated) (root : RootEquations) (history : List RawEntry) (certificate : Certificate)
    → ((p : Stated) (x : List E) (qs : List (List Term)) → AllElements f x → AreRootEquations p qs → AllVanish f x qs ↔ Solution f p x)
    → ((x : List E) (unknowns : ℕ) (qs : List (List Term)) (c : Certificate) → AllElements f x → Accepted unknowns qs c → MeetsJustOneLeaf (AllVanish f x qs) (Meets f x) c.entries)
    → IsSettings words settings → GivesRoot source settings.made problem root → IsSearched root settings.budget settings.workers history certificate
    → leaves ≡ leaf_count certificate.entries → opens ≡ open_count certificate.entries → IsWritten (output_text settings.summary certificate) → (settings.summary ≡ false → Fits certificate)
    → Certifies f words source IsWritten leaves opens
certified f words source IsWritten leaves opens settings problem root history certificate root_law accepted_law are_settings gives searched leaves_are opens_are writes fits = record {
  settings = settings;
  problem = problem;
  root = root;
  history = history;
  certificate = certificate;
  are_settings = are_settings;
  gives = gives;
  searched = searched;
  leaves_are = leaves_are;
  opens_are = opens_are;
  writes = writes;
  fits = fits;
  covers = λ x elements. in_other_words (AllVanish f x root.equations) (Solution f problem x) (Meets f x) certificate.entries
      (root_law problem x root.equations elements (given_equations source settings.made problem root gives)) (accepted_law x root.unknowns root.equations certificate elements searched.accepted);
}

pub counted : {E : Type 0} (f : Field E) (words : List (List ℕ)) (source sink : Stream) (entries : List RawEntry) (status : Status) → Counts entries status
    → ((leaves opens : ℕ) → leaves ≡ leaf_count entries → opens ≡ open_count entries → Certifies f words source (Appends sink.before sink.after) leaves opens)
    → Ends f words source sink status
counted f words source sink entries result (none_open none) says = by_leaves (leaf_count entries) (says (leaf_count entries) 0 refl (sym none))
counted f words source sink entries result (some_open some) says = by_open_leaves (leaf_count entries) (open_count entries) some (says (leaf_count entries) (open_count entries) refl refl)

-- words that are refused
stops : {E : Type 0} (f : Field E) (words : List (List ℕ)) (source sink : Stream) (why : WordsStop) → IsWordsStop words why → Ends f words source sink (words_status why)
stops f words source sink (stop.Usage kind) is = by_words kind is
stops f words source sink stop.OutOfMemory is = by_memory

pub stopped : {E : Type 0} (f : Field E) (words : List (List ℕ)) (source sink : Stream) (why : WordsStop) (status : Status) → status ≡ words_status why → IsWordsStop words why → Ends f words source sink status
stopped f words source sink why status e is = subst (λ (s : Status). Ends f words source sink s) (sym e) (stops f words source sink why is)
