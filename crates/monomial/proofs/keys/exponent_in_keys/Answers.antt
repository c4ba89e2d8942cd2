use Rattle.std.proofs.Common.{sym, ap, ◌∙◌, ◌≡◌, ◌<◌, ◌+◌, ◌∷◌, List, ℕ, map, drop, length, slice_index_or, drop-cons}
use Rattle.std.proofs.Math.Numerals.{add-one}
use Rattle.monomial.specs.declared.keys.Key.{Key}
use Rattle.monomial.specs.Keys.{power_of}
use Rattle.monomial.specs.Monomials.{exponent}
use Rattle.monomial.proofs.Exponents.{exponent_here, exponent_there}
use Rattle.monomial.proofs.keys.exponent_in_keys.Goals as goal

-- the powers of the keys that are left begin with that of the next key
left : (ks : List Key) (i : ℕ) (k : Key) → i < length ks → map power_of (drop i ks) ≡ power_of (slice_index_or ks i k) ∷ map power_of (drop (i + 1) ks)
left ks i k h = ap (map power_of) (drop-cons ks i k h) ∙ ap (λ n. power_of (slice_index_or ks i k) ∷ map power_of (drop n ks)) (sym (add-one i))

pub returns-then-variable-var : goal.returns-then-variable-var
returns-then-variable-var c =
    c.exponent.ensures
    ∙ sym (exponent_here _ (map power_of (drop (c.loop-key.key-index + 1) c.args.keys.now)) c.args.var (sym c.variable.ensures ∙ c.if-variable-var.true))
    ∙ ap (λ ps. exponent ps c.args.var) (sym (left c.args.keys.now c.loop-key.key-index _ c.loop-key-test.true))
    ∙ c.loop-key.invariant

pub loop-key-preserved : goal.loop-key-preserved
loop-key-preserved c =
    sym (exponent_there _ (map power_of (drop (c.loop-key.key-index + 1) c.args.keys.now)) c.args.var (λ e. c.if-variable-var.false (c.variable.ensures ∙ e)))
    ∙ ap (λ ps. exponent ps c.args.var) (sym (left c.args.keys.now c.loop-key.key-index _ c.loop-key-test.true))
    ∙ c.loop-key.invariant
