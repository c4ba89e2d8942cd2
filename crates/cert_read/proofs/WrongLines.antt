-- The fault of a text whose next line can't come next.
use Rattle.std.specs.Prelude.{ℕ, ◌+◌, ◌<◌, List, [], ◌∷◌, length, refl}
use Rattle.std.proofs.Common.{◌∙◌, ap, inl, arith}
use Rattle.std.proofs.lemmas.List.{length-append}
use Rattle.cert_text.specs.Numbers.{max_number}
use Rattle.cert_lines.specs.declared.notes.LineFault.{LineFault}
use Rattle.cert_lines.specs.declared.notes.LineFault.TheVariants.{Number, Syntax, OutOfMemory}
use Rattle.cert_lines.specs.Bytes.{IsSplitAt}
use Rattle.cert_read.specs.Faults.{IsCertFault}
use Rattle.cert_read.specs.Machine.{State, AtStart}
use Rattle.cert_read.specs.Progress.{IsReadTo, IsWrongLine, fault_at}
use Rattle.cert_read.proofs.LineFaults.{outside_wrong}
use Rattle.cert_read.proofs.LinesRead.{small, wrong_at, out_of_range, not_out}

-- nothing is read yet
pub nothing_read : (text : List ℕ) → IsReadTo text text 0 AtStart
nothing_read text = record { lines = []; sentences = []; said = tt; fits = tt; leads = refl; live = λ e. cc; joined = refl; counted = refl }

-- what is behind a line is shorter
pub shorter : (rest line after : List ℕ) → IsSplitAt 10 rest line after → length after < length rest
shorter rest line after h = let e = ap (λ (x : List ℕ). length x) h.joined ∙ length-append line (10 ∷ after) in omega (arith, e)

module _ (text rest : List ℕ) (k : ℕ) (st : State) (r : IsReadTo text rest k st) (line after : List ℕ) (split : IsSplitAt 10 rest line after) (few : length text + 8 < max_number) where
  pub wrong_line : (fault : LineFault) → IsWrongLine st line fault → IsCertFault text (fault_at (k + 1) fault)
  wrong_line Number h = record {
    before = r.lines;
    line = line;
    wrong = wrong_at text rest k st r line after split few (λ s g _. outside_wrong st line (small text rest k st r) h s g);
    out = out_of_range text rest k st r line after split few h;
  }
  wrong_line Syntax h = inl (record {
    before = r.lines;
    line = line;
    wrong = wrong_at text rest k st r line after split few h.wrong;
    other = not_out text rest k st r line after split h.inside;
  })
  wrong_line OutOfMemory h = tt
