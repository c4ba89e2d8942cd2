use Rattle.root_system.proofs.Parts.{ArePrimitiveParts-same}
use Rattle.root_system.proofs.Vanishing.{IfOk-both}
use Rattle.root_system.proofs.root.root_equations.Goals as goal

pub returns : goal.returns
returns c =
    IfOk-both c.ascending.result _ _ _
    (λ v sorted same. record {
      differences = c.in_ok-differences.differences.items;
      are_differences = c.in_ok-differences.ensures;
      are_parts = ArePrimitiveParts-same _ c.in_ok-primitive_parts.field-0.items v.items same (rw c.deref.ensures.value at c.in_ok-primitive_parts.ensures);
      ascending = sorted;
    })
    c.ascending.ensures.sorted c.ascending.ensures.same
