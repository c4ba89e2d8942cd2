use Rattle.pattern_store.proofs.Transfer.{same_live}
use Rattle.pattern_store.proofs.PatternStore.is_live.Goals as goal

pub returns : goal.returns
returns c =
    let live = same_live _ _ c.self.invariant c.args.k in
    rw (← c.self.view_is) (λ t. live.0 (c.is_live.ensures.0 t), λ l. c.is_live.ensures.1 (live.1 l))
