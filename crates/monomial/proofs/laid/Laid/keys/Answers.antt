use Rattle.std.proofs.Common.{arith, sym, ap, subst, append_assoc, ◌∙◌, ◌≡◌, ◌<◌, ◌≤◌, ◌-◌, ◌+◌, ◌++◌, [], ◌∷◌, ℕ, List, length, map, refl}
use Rattle.std.proofs.lemmas.List.{map-append}
use Rattle.monomial.specs.declared.keys.Key.{Key}
use Rattle.monomial.specs.Keys.{power_of}
use Rattle.monomial.specs.Layouts.{lane, lanes, monomial_of}
use Rattle.monomial.proofs.Lanes.{lanes_more, lanes_skip, lanes_none}
use Rattle.monomial.proofs.laid.Laid.keys.Goals.{then-exp-gt0, else-exp-gt0}
use Rattle.monomial.proofs.laid.Laid.keys.Goals as goal

place_of : (i : ℕ) → i < 8 → (8 - i) - 1 ≡ 7 - i
place_of i h = omega arith

left_of : (i : ℕ) → i < 8 → (8 - i) - 1 ≡ 8 - (i + 1)
left_of i h = omega arith

pair_same : (a c b d : ℕ) → a ≡ c → b ≡ d → ◌≡◌ {A = ℕ × ℕ} (a, b) (c, d)
pair_same a c b d e f = cc

pushed : (v w i : ℕ) (ks : List Key) (k : Key) (m : List (ℕ × ℕ)) → i < 8 → 0 < lane w (7 - i) → power_of k ≡ (lane v (7 - i), lane w (7 - i)) → map power_of ks ++ monomial_of (lanes (8 - i) v) w ≡ m → map power_of (ks ++ k ∷ []) ++ monomial_of (lanes (8 - (i + 1)) v) w ≡ m
pushed v w i ks k m h l e g =
    ap (λ ps. ps ++ monomial_of (lanes (8 - (i + 1)) v) w) (map-append power_of ks (k ∷ []))
    ∙ append_assoc (map power_of ks) (power_of k ∷ []) (monomial_of (lanes (8 - (i + 1)) v) w)
    ∙ ap (λ p. map power_of ks ++ p ∷ monomial_of (lanes (8 - (i + 1)) v) w) e
    ∙ ap (λ ps. map power_of ks ++ ps) (sym whole) ∙ g
  where
    whole : monomial_of (lanes (8 - i) v) w ≡ (lane v (7 - i), lane w (7 - i)) ∷ monomial_of (lanes (8 - (i + 1)) v) w
    whole = lanes_more (8 - i) v w (omega arith) (subst (λ n. 0 < lane w n) (sym (place_of i h)) l)
        ∙ ap (λ n. (lane v n, lane w n) ∷ monomial_of (lanes ((8 - i) - 1) v) w) (place_of i h)
        ∙ ap (λ n. (lane v (7 - i), lane w (7 - i)) ∷ monomial_of (lanes n v) w) (left_of i h)

skipped : (v w i : ℕ) (ks : List Key) (m : List (ℕ × ℕ)) → i < 8 → lane w (7 - i) ≤ 0 → map power_of ks ++ monomial_of (lanes (8 - i) v) w ≡ m → map power_of ks ++ monomial_of (lanes (8 - (i + 1)) v) w ≡ m
skipped v w i ks m h l g =
    ap (λ ps. map power_of ks ++ ps) (ap (λ n. monomial_of (lanes n v) w) (sym (left_of i h)) ∙ sym (lanes_skip (8 - i) v w (omega arith) (subst (λ n. lane w n ≤ 0) (sym (place_of i h)) l))) ∙ g

pub loop-i-preserved : goal.loop-i-preserved
loop-i-preserved c =
    elim c.if-exp-gt0.branch [
      | then-exp-gt0 w ↦
          let some : 0 < lane c.self.inside.word (7 - c.loop-i.i) = omega (arith, w.if-exp-gt0.true, c.lane-exp.ensures) in
          let key : power_of w.of_lanes.result ≡ (lane c.word-variables.result (7 - c.loop-i.i), lane c.self.inside.word (7 - c.loop-i.i)) = w.of_lanes.ensures ∙ pair_same _ _ _ _ w.lane.ensures c.lane-exp.ensures in
          let longer : length w.push.new.self.items ≡ length c.loop-i.keys.items + 1 = w.push.ensures.len in
          rw w.keys-is (record {
            room = omega (arith, longer, c.loop-i.invariant.room);
            made = subst (λ ks. map power_of ks ++ monomial_of (lanes (8 - (c.loop-i.i + 1)) c.word-variables.result) c.self.inside.word ≡ c.args.self.now) (sym w.push.ensures.items) (pushed c.word-variables.result c.self.inside.word c.loop-i.i c.loop-i.keys.items w.of_lanes.result c.args.self.now c.loop-i-test.true some key c.loop-i.invariant.made);
          })
      | else-exp-gt0 w ↦
          let none : lane c.self.inside.word (7 - c.loop-i.i) ≤ 0 = omega (arith, w.if-exp-gt0.false, c.lane-exp.ensures) in
          rw w.keys-is (record {
            room = omega (arith, c.loop-i.invariant.room);
            made = skipped c.word-variables.result c.self.inside.word c.loop-i.i c.loop-i.keys.items c.args.self.now c.loop-i-test.true none c.loop-i.invariant.made;
          })
    ]

pub returns : goal.returns
returns c =
    let ended : 8 - c.loop-i.i ≡ 0 = omega (arith, c.loop-i-test.false) in
    sym (append_end (map power_of c.loop-i.keys.items)) ∙ ap (λ ps. map power_of c.loop-i.keys.items ++ ps) (sym (ap (λ n. monomial_of (lanes n c.word-variables.result) c.self.inside.word) ended ∙ lanes_none c.word-variables.result c.self.inside.word)) ∙ c.loop-i.invariant.made
  where
    append_end : (xs : List (ℕ × ℕ)) → xs ++ [] ≡ xs
    append_end [] = refl
    append_end (x ∷ xs) = ap (λ r. x ∷ r) (append_end xs)
