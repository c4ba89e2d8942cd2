use Rattle.std.specs.Prelude.{◌≡◌}
use Rattle.pattern_store.proofs.Literals.{all_stay, after_post}
use Rattle.pattern_store.proofs.PatternStore.post.Goals as goal

pub invariant_of-self : goal.invariant_of-self
invariant_of-self c = all_stay _ _ _ c.numbered.ensures.grows c.self.invariant

pub invariant_of-self-2 : goal.invariant_of-self-2
invariant_of-self-2 c = after_post _ _ _ _ _ c.post.result (λ k. k ≡ _) (λ e. e.payload ≡ _) c.post.ensures.ok c.post.ensures.err (all_stay _ _ _ c.numbered.ensures.grows c.self.invariant) (rw (c.deref.ensures.value, ← c.pattern.ensures) c.in-Ok.ensures.set)
