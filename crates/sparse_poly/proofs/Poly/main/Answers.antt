use Rattle.std.proofs.Common.{◌∙◌, ap}
use Rattle.std.specs.Prelude.{slice_get}
use Rattle.sparse_poly.proofs.Ordered.{main_of_first}
use Rattle.sparse_poly.proofs.Poly.main.Goals as goal

pub returns-in-Some : goal.returns-in-Some
returns-in-Some c =
    rw (← c.self.view_is) (c.top.ensures ∙ main_of_first _ c.in-Some.term.now (c.in-Some.ensures.value ∙ ap (λ xs. slice_get xs 0) c.as_slice.ensures) c.self.invariant.falling)
