use Rattle.std.specs.Prelude.{eqb}
use Rattle.std.proofs.lemmas.Map.Keys.{IsStrictlyIncreasing-dedup}
use Rattle.std.proofs.lemmas.List.Filters.{dedup_is}
use Rattle.std.proofs.lemmas.List.Kept.{Contains-dedup_nat, Contains-from_dedup}
use Rattle.std.proofs.lemmas.List.Sorted.{Contains-permutation, IsPermutation-sym}
use Rattle.pattern_store.proofs.Literals.{set_same}
use Rattle.pattern_store.proofs.numbering.literals.Goals as goal

pub returns-clause-ascending : goal.returns-clause-ascending
returns-clause-ascending c = rw (dedup_is eqb _ _ c.dedup.ensures.filtered) (IsStrictlyIncreasing-dedup _ c.in_ok-sort.ensures.sorted)

pub returns-clause-set : goal.returns-clause-set
returns-clause-set c = rw (dedup_is eqb _ _ c.dedup.ensures.filtered)
    (set_same _ _ _ _ (λ l. (
      λ k. Contains-permutation _ _ l (IsPermutation-sym _ _ c.in_ok-sort.ensures.permutation) (Contains-from_dedup eqb _ l k),
      λ k. Contains-dedup_nat _ l (Contains-permutation _ _ l c.in_ok-sort.ensures.permutation k),
    )) c.in_ok-all.ensures)
