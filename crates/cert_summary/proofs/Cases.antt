-- Each split makes two cases.
use Rattle.std.specs.Prelude.{◌≡◌, ℕ, ◌+◌, ◌*◌, cond, List, [], ◌∷◌, reverse, refl}
use Rattle.std.proofs.Common.{sym, ◌∙◌, ap, arith}
use Rattle.std.proofs.lemmas.List.Recursion.{is_count_by}
use Rattle.std.proofs.lemmas.List.Sorted.{IsPermutation-reverse, sum_by-IsPermutation}
use Rattle.leaf_cert.specs.declared.certificate.RawEntry.{RawEntry}
use Rattle.leaf_cert.specs.declared.certificate.RawEntry.TheVariants as entry
use Rattle.case_history.specs.History.{cases_made}
use Rattle.case_history.proofs.Fates.{made-split}
use Rattle.cert_summary.specs.Summary.{is_of, kind_count}
use Rattle.cert_summary.specs.declared.counting.EntryKind.TheVariants.{Split}

abbrev splits : List RawEntry → ℕ
splits [] = 0
splits (entry.Split n by ∷ h) = 1 + splits h
splits (entry.Post ds ls end ∷ h) = splits h
splits (entry.Close n k ∷ h) = splits h
splits (entry.Publish n ds ls es end ∷ h) = splits h

one_more : (e : RawEntry) (h : List RawEntry) → splits (e ∷ h) ≡ cond (is_of Split e) (1 + splits h) (splits h)
one_more (entry.Split n by) h = refl
one_more (entry.Post ds ls end) h = refl
one_more (entry.Close n k) h = refl
one_more (entry.Publish n ds ls es end) h = refl

made : (h : List RawEntry) → cases_made h ≡ 2 * splits h + 1
made [] = refl
made (entry.Split n by ∷ h) = let e = made h in made-split h n by ∙ omega (arith, e)
made (entry.Post ds ls end ∷ h) = made h
made (entry.Close n k ∷ h) = made h
made (entry.Publish n ds ls es end ∷ h) = made h

pub cases_are : (es : List RawEntry) → cases_made (reverse es) ≡ 2 * kind_count Split es + 1
cases_are es =
    made (reverse es) ∙ ap (λ n. 2 * n + 1) (is_count_by splits (is_of Split) refl one_more (reverse es) ∙ sum_by-IsPermutation (λ e. cond (is_of Split e) 1 0) es (reverse es) (IsPermutation-reverse es))
