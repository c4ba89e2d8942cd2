-- A text split at the first place of a byte.
use Rattle.std.specs.Prelude.{◌≡◌, ℕ, zero, suc, ◌+◌, ◌<◌, ◌≤◌, true, ◌==◌, None, Some, List, [], ◌∷◌, ◌++◌, length, take, drop, get_or}
use Rattle.std.proofs.Common.{◌∙◌, ap, subst, arith}
use Rattle.std.proofs.lemmas.Bool.Decides.{nat_tests}
use Rattle.std.proofs.Math.Seq.{take-length}
use Rattle.memchr.specs.Find.{IsFirstByte, is_byte}
use Rattle.cert_lines.specs.Bytes.{Lacks, IsSplitAt}

equal_test : (c b : ℕ) → c ≡ b → (c == b) ≡ true
equal_test c b e = grind (arith, nat_tests)

test_equal : (c b : ℕ) → (c == b) ≡ true → c ≡ b
test_equal c b e = grind (arith, nat_tests)

lacks_upto : (b : ℕ) (text : List ℕ) (i : ℕ) → i ≤ length text → ((k : ℕ) → k < i → (get_or text k 0 == b) ≡ true → ⊥) → Lacks b (take i text)
lacks_upto b [] zero l n = tt
lacks_upto b [] (suc i) l n = tt
lacks_upto b (c ∷ cs) zero l n = tt
lacks_upto b (c ∷ cs) (suc i) l n = (λ e. n 0 (omega arith) (equal_test c b e), lacks_upto b cs i (omega arith) (λ k h. n (suc k) (omega arith)))

joined_at : (b : ℕ) (text : List ℕ) (i : ℕ) → i < length text → get_or text i 0 ≡ b → text ≡ take i text ++ b ∷ drop (suc i) text
joined_at b [] i l e = absurd (omega arith)
joined_at b (c ∷ cs) zero l e = ap (λ x. x ∷ cs) e
joined_at b (c ∷ cs) (suc i) l e = ap (λ x. c ∷ x) (joined_at b cs i (omega arith) e)

next : (i : ℕ) → suc i ≡ i + 1
next i = omega arith

pub split_found : (b : ℕ) (text : List ℕ) (i : ℕ) → IsFirstByte (is_byte b) text (Some i) → IsSplitAt b text (take i text) (drop (i + 1) text)
split_found b text i h = record {
  joined = joined_at b text i h.0.high (test_equal (get_or text i 0) b h.1) ∙ ap (λ n. take i text ++ b ∷ drop n text) (next i);
  before = lacks_upto b text i (let l = h.0.high in omega (arith, l)) (λ k l. h.0.before k (omega arith) l);
}

pub split_none : (b : ℕ) (text : List ℕ) → IsFirstByte (is_byte b) text None → Lacks b text
split_none b text h = subst (Lacks b) (take-length text) (lacks_upto b text (length text) (omega arith) (λ k l. h k (omega arith) l))
