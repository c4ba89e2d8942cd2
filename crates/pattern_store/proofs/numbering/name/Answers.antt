use Rattle.std.specs.Prelude.{ℕ, List}
use Rattle.std.proofs.Common.{subst}
use Rattle.sparse_poly.specs.declared.Term.{Term}
use Rattle.pattern_store.specs.Numbers.{IsPlace}
use Rattle.pattern_store.proofs.Places.{stored_place}
use Rattle.pattern_store.proofs.numbering.name.Goals as goal

pub returns-clause-ok : goal.returns-clause-ok
returns-clause-ok c =
    let s = c.in_ok-insert_full.ensures.stored in
    subst (λ (p : List Term). (i : ℕ) × IsPlace c.insert_full.new.self.keys p i) c.in_ok-copy.ensures (stored_place _ _ s.0 c.in_ok-insert_full.field-0.0 s.1 s.2)
