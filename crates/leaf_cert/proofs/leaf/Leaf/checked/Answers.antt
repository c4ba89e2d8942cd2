use Rattle.std.proofs.lemmas.Result.{err_from_is_err_and}
use Rattle.leaf_cert.proofs.leaf.Leaf.checked.Goals as goal

pub returns-in_err-check_leaf : goal.returns-in_err-check_leaf
returns-in_err-check_leaf c =
    let p = err_from_is_err_and c.from_residual.result c.from_residual.ensures.1 in
    rw (p.1, p.2) (rw (c.deref.ensures.value, c.deref-2.ensures.value, c.deref-3.ensures.value) at c.in_err-check_leaf.ensures)
