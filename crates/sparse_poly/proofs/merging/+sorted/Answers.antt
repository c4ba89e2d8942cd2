use Rattle.std.proofs.Common.{arith, sym, ◌≡◌, ◌∙◌, ap, ◌++◌, take, ◌/◌}
use Rattle.std.proofs.lemmas.List.{take-append-drop}
use Rattle.sparse_poly.proofs.Merges.{IsSorted-short, IsSorted-halves}
use Rattle.sparse_poly.proofs.merging.+sorted.Goals as goal

pub returns-then-n-lt2 : goal.returns-then-n-lt2
returns-then-n-lt2 t c = IsSorted-short _ (omega (arith, c.if-n-lt2.true))

pub returns-in-Ok : goal.returns-in-Ok
returns-in-Ok t c =
    let k = c.len-n.result / 2 in
    let split : c.args.shares.items ≡ c.split_off.new.self.items ++ c.in_ok-back.back.items = sym (ap (λ us. us ++ c.in_ok-back.back.items) c.in_ok-back.ensures.items ∙ ap (λ us. take k c.args.shares.items ++ us) c.in_ok-back.ensures.tail ∙ take-append-drop k c.args.shares.items) in
    IsSorted-halves _ _ _ _ _ _ split c.in_ok-first.ensures c.in_ok-second.ensures c.in-Ok.ensures
