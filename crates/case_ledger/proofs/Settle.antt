-- What a settle of a pending case is: one step.
use Rattle.std.specs.Prelude.{◌≡◌, ℕ, List, ◌∷◌}
use Rattle.std.proofs.Common.{arith, refl, sym, ◌∙◌, subst, inl, inr}
use Rattle.std.proofs.lemmas.Option.{none-some}
use Rattle.leaf_cert.specs.declared.certificate.RawEntry.{RawEntry}
use Rattle.leaf_cert.specs.declared.certificate.RawEntry.TheVariants.{Split as split, Close as close}
use Rattle.case_rules.specs.Ends.{End}
use Rattle.case_rules.specs.declared.outcome.Outcome.TheVariants.{Dead as dead_end}
use Rattle.case_history.specs.History.{publish, IsPending}
use Rattle.legal_history.specs.Legal.{IsEndOf, Step, closes, refutes, splits, publishes}
use Rattle.case_ledger.specs.State.{BoardState, with_entry}
use Rattle.case_ledger.specs.Board.{Settles, StepsOn}
use Rattle.case_ledger.specs.declared.answers.Reply.{Reply}
use Rattle.case_ledger.specs.declared.answers.Reply.TheVariants as reply

by_one : (b new : BoardState) (e : RawEntry) (next : List RawEntry → ℕ → Type 0) → new ≡ with_entry b e → Step b.root.equations b.budget next b.history (e ∷ b.history) → StepsOn next b new
by_one b new e next is step = rw is (record { root_is = refl; budget_is = refl; step = step })

pub settle_steps : (next : List RawEntry → ℕ → Type 0) → (b : BoardState) (n : ℕ) (o : End) (r : Reply) (new : BoardState) → next b.history n → IsPending b.history n → IsEndOf b.root.equations b.budget b.history n o → Settles b n o r new → StepsOn next b new
settle_steps next b n o reply.NoCase new x p e s = absurd (omega (arith, p.made, s.0))
settle_steps next b n o (reply.AlreadySettled at) new x p e s = absurd (none-some _ (sym p.unsettled ∙ s.0.is))
settle_steps next b n o (reply.Closed k) new x p e s = elim s.1 [
  | inl c ↦ by_one b new (close n k) next c.is (closes n k x c.least)
  | inr c ↦ (let d : IsEndOf b.root.equations b.budget b.history n (dead_end c.refutation) = subst (IsEndOf b.root.equations b.budget b.history n) c.is_end e in
      rw (c.is, c.number) (record { root_is = refl; budget_is = refl; step = refutes n c.refutation x (record { none = c.none; is_end = d }) }))
]
settle_steps next b n o (reply.Split left right) new x p e s =
    let c = s.1 in
    by_one b new (split n c.by) next c.is (splits n c.by c.zero_case c.nonzero_case x (record { none = c.none; is_end = subst (IsEndOf b.root.equations b.budget b.history n) c.is_end e }))
settle_steps next b n o reply.Published new x p e s =
    let c = s.1 in
    by_one b new (publish n c.leaf) next c.is (publishes n c.leaf x (record { none = c.none; is_end = subst (IsEndOf b.root.equations b.budget b.history n) c.is_end e }))
