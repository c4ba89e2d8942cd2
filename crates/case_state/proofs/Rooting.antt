-- The root equations, one by one.
use Rattle.std.specs.Prelude.{◌≡◌, ℕ, ◌+◌, ◌<◌, List, [], ◌∷◌, ◌++◌, length, take, slice_index_or, refl}
use Rattle.std.proofs.Common.{arith, sym, ◌∙◌, ap}
use Rattle.sparse_poly.specs.declared.Term.{Term}
use Rattle.derive_lines.specs.declared.parts.Item.TheVariants as item
use Rattle.case_rules.specs.declared.equation.Equation.{Equation}
use Rattle.case_rules.specs.Cases.{numbered}
use Rattle.case_system.proofs.Placing.{take_this}

pub numbered_more : (k : ℕ) (ps : List (List Term)) (p : List Term) → numbered k (ps ++ p ∷ []) ≡ numbered k ps ++ (let e : Equation = record { poly = p; item = item.Root (k + length ps) } in e) ∷ []
numbered_more k [] p = ap (λ n. (let e : Equation = record { poly = p; item = item.Root n } in e) ∷ []) (omega arith)
numbered_more k (q ∷ qs) p = ap (λ es. (let e : Equation = record { poly = q; item = item.Root k } in e) ∷ es) (numbered_more (k + 1) qs p ∙ ap (λ n. numbered (k + 1) qs ++ (let e : Equation = record { poly = p; item = item.Root n } in e) ∷ []) (omega arith))

pub numbered_length : (k : ℕ) (ps : List (List Term)) → length (numbered k ps) ≡ length ps
numbered_length k [] = refl
numbered_length k (p ∷ ps) = omega (arith, numbered_length (k + 1) ps)

pub rooted_more : (items next : List Equation) (root : List (List Term)) (i : ℕ) (p q : List Term) (n : ℕ) → items ≡ numbered 0 (take i root) → i < length root → p ≡ slice_index_or root i p → q ≡ p → n ≡ length items → next ≡ items ++ (let e : Equation = record { poly = q; item = item.Root n } in e) ∷ [] → next ≡ numbered 0 (take (i + 1) root)
rooted_more items next root i p q n h l at c k e =
    let long : n ≡ 0 + length (take i root) = omega (arith, k, ap length h, numbered_length 0 (take i root)) in
    e
    ∙ ap (λ xs. xs ++ (let e : Equation = record { poly = q; item = item.Root n } in e) ∷ []) h
    ∙ ap (λ r. numbered 0 (take i root) ++ (let e : Equation = record { poly = r; item = item.Root n } in e) ∷ []) c
    ∙ ap (λ m. numbered 0 (take i root) ++ (let e : Equation = record { poly = p; item = item.Root m } in e) ∷ []) long
    ∙ sym (numbered_more 0 (take i root) p)
    ∙ ap (numbered 0) (sym (take_this root i p l at))
