use Rattle.std.proofs.Common.{◌≡◌, ◌<◌, ℕ, List}
use Rattle.std.specs.Prelude.{slice_get, MatchOption}
use Rattle.std.specs.declared.option.Option.TheVariants.{Some}
use Rattle.sparse_poly.specs.declared.Term.{Term}
use Rattle.pseudo_rem.specs.Remainders.{IsDue}
use Rattle.pseudo_rem.specs.Scan.{IsUpTo}
use Rattle.pseudo_rem.proofs.remainders.next_due.Given as goal

abbrev pub invariant-loop-at : goal.invariant-loop-at
invariant-loop-at l = record {
  found : MatchOption l.next (Unit {0}) (λ due. (slice_get l.list due.at ≡ Some due.member.now) × IsDue l.n due.member.now due.var);
  highest : (j : ℕ) (q : List Term) (w : ℕ) → j < l.at → slice_get l.list j ≡ Some q → IsDue l.n q w → IsUpTo l.next w;
}
