-- Lines in segments.
use Rattle.std.specs.Prelude.{◌≡◌, ◌<◌, ◌+◌, ◌^◌, ℕ, List, [], ◌∷◌, ◌++◌, length, take, slice_index_or, refl}
use Rattle.std.proofs.Common.{arith, sym, ◌∙◌, ap, subst, append_assoc, length-append, append-nil}
use Rattle.std.proofs.lemmas.Grind.{flat_map-append}
use Rattle.derive_lines.specs.declared.parts.Line.{Line}
use Rattle.case_system.specs.Appending.{Grows}
use Rattle.case_system.specs.CaseLines.{LinesState, all_lines, joined, IsCounted}
use Rattle.case_system.proofs.Placing.{take_this}

abbrev lines_of : List Line → List Line → LinesState
lines_of shared own = record { shared = shared; own = own }

-- one more line
pub grown : (old : LinesState) (shared own next : List Line) (line : Line) → lines_of shared own ≡ old → next ≡ own ++ line ∷ [] → Grows old (lines_of shared next)
grown old shared own next line v e = subst (λ o. Grows o (lines_of shared next)) v (record { more = line ∷ []; is = e; shared = refl })

-- one more segment
joined_more : (ss : List (List Line)) (s : List Line) → joined (ss ++ s ∷ []) ≡ joined ss ++ s
joined_more ss s = flat_map-append (λ segment. segment) ss (s ∷ []) ∙ ap (λ ls. joined ss ++ ls) (append-nil s)

-- own lines become a segment
pub all_shared : (old : LinesState) (ss next : List (List Line)) (own segment left : List Line) → lines_of (joined ss) own ≡ old → segment ≡ own → next ≡ ss ++ segment ∷ [] → left ≡ [] → joined next ++ left ≡ all_lines old
all_shared old ss next own segment left v e n z =
    ap (λ ls. joined next ++ ls) z ∙ append-nil (joined next) ∙ ap joined n ∙ joined_more ss segment ∙ ap (λ ls. joined ss ++ ls) e ∙ ap all_lines v

pub counted_more : (ss next : List (List Line)) (segment : List Line) (n k m : ℕ) → IsCounted n (joined ss) → k ≡ length segment → next ≡ ss ++ segment ∷ [] → m ≡ n + k → m < 2 ^ 63 → IsCounted m (joined next)
counted_more ss next segment n k m c l e a small = record {
  count = let long = ap length (ap joined e ∙ joined_more ss segment) ∙ length-append (joined ss) segment in let count = c.count in omega (arith, a, l, long, count);
  small = small;
}

pub joined_next : (ss : List (List Line)) (i : ℕ) (s now next : List Line) → now ≡ joined (take i ss) → i < length ss → s ≡ slice_index_or ss i s → next ≡ now ++ s → next ≡ joined (take (i + 1) ss)
joined_next ss i s now next h l e n = n ∙ ap (λ ls. ls ++ s) h ∙ sym (joined_more (take i ss) s) ∙ ap joined (sym (take_this ss i s l e))

-- lines that grow twice
pub grows_on : (before middle now : LinesState) → Grows before middle → Grows middle now → Grows before now
grows_on before middle now g h = record {
  more = g.more ++ h.more;
  is = h.is ∙ ap (λ ls. ls ++ h.more) g.is ∙ append_assoc before.own g.more h.more;
  shared = h.shared ∙ g.shared;
}

pub grows_none : (lines : LinesState) → Grows lines lines
grows_none lines = record { more = []; is = sym (append-nil lines.own); shared = refl }
