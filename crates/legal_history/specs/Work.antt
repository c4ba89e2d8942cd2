-- How many cases may still be settled: a measure, which each step makes less.
use Rattle.std.specs.Prelude.{◌+◌, ◌-◌, ℕ, zero, suc, List, [], ◌∷◌, ◌++◌, length, sum, slice_set}
use Rattle.leaf_cert.specs.declared.certificate.RawEntry.{RawEntry}
use Rattle.leaf_cert.specs.declared.certificate.RawEntry.TheVariants.{Split, Post, Close, Publish}
use Rattle.case_history.specs.History.{decisions_of}

-- the number of nodes of a full tree of this many levels
abbrev pub full_tree : ℕ → ℕ
full_tree zero = 0
full_tree (suc n) = full_tree n + full_tree n + 1

-- the most cases at and under a case with so many decisions
abbrev pub most_under : ℕ → ℕ → ℕ
most_under budget depth = full_tree (budget + 1 - depth)

-- for each case the most cases at and under it that may still be settled: none where it was settled, since its branches are cases of their own
abbrev pub works : ℕ → List RawEntry → List ℕ
works budget [] = most_under budget 0 ∷ []
works budget (Split n by ∷ h) = slice_set (works budget h) n 0 ++ most_under budget (length (decisions_of h n) + 1) ∷ most_under budget (length (decisions_of h n) + 1) ∷ []
works budget (Post ds ls end ∷ h) = works budget h
works budget (Close n k ∷ h) = slice_set (works budget h) n 0
works budget (Publish n ds ls es end ∷ h) = slice_set (works budget h) n 0

-- the most cases that may still be settled
abbrev pub work_left : ℕ → List RawEntry → ℕ
work_left budget h = sum (works budget h)
