use Rattle.std.proofs.Common.{rules, ◌≡◌, ◌∙◌, sym, ap, to_z, of_z}
use Rattle.std.specs.Int.{w128}
use Rattle.std.specs.Prelude.{slice_get}
use Rattle.sparse_poly.proofs.Ordered.{constant_of_first}
use Rattle.sparse_poly.proofs.Poly.constant_value.Goals as goal

pub returns-in-None-top : goal.returns-in-None-top
returns-in-None-top c =
    let same : to_z w128 (of_z w128 c.in-Some.term.now.coeff) ≡ c.in-Some.term.now.coeff = search rules in
    rw (same, ← c.self.view_is) (constant_of_first _ c.in-Some.term.now (c.in-Some.ensures.value ∙ ap (λ xs. slice_get xs 0) c.as_slice.ensures) c.self.invariant (sym c.top.ensures ∙ c.in-None-top.is))
