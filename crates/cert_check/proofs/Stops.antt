-- A certificate that is accepted is not refused, and one that is refused has one answer.
use Rattle.std.specs.Prelude.{◌≡◌, ◌≢◌, ◌<◌, ℕ, List, [], ◌∷◌, ◌++◌, reverse}
use Rattle.std.proofs.Common.{refl, sym, ◌∙◌, ap, subst, inl, inr, arith, append_assoc}
use Rattle.std.proofs.lemmas.List.{reverse-append}
use Rattle.sparse_poly.specs.declared.Term.{Term}
use Rattle.leaf_cert.specs.declared.certificate.RawEntry.{RawEntry}
use Rattle.leaf_cert.specs.declared.certificate.Certificate.{Certificate}
use Rattle.case_history.specs.History.{IsLeastPending}
use Rattle.case_history.specs.Replay.{MayCome, Replays, Accepted}
use Rattle.root_system.specs.Forms.{RootEquations}
use Rattle.cert_check.specs.declared.answers.Part.{Part}
use Rattle.cert_check.specs.declared.answers.RefuseCause.{RefuseCause}
use Rattle.cert_check.specs.declared.answers.RefuseCause.TheVariants.{Unknowns, Equations}
use Rattle.cert_check.specs.declared.answers.AcceptStop.{AcceptStop}
use Rattle.cert_check.specs.declared.answers.AcceptStop.TheVariants.{Refused, OutOfMemory}
use Rattle.cert_check.specs.Refusals.{IsRefusal, IsEntryRefused}
use Rattle.cert_check.specs.Accepting.{HasHeadOf, IsHeadCause, IsRefused, IsAcceptStop}
use Rattle.cert_check.proofs.Lists.{AreCuts, same, before, after, cuts}
use Rattle.cert_check.proofs.Causes.{AreOneAnswers, no_refusal, one_refusal, same_stop}

no_head_cause : (root : RootEquations) (c : Certificate) (x : RefuseCause) → HasHeadOf root c → IsHeadCause root c x → ⊥
no_head_cause root c Unknowns head a = a head.unknowns_are
no_head_cause root c Equations head a = a.1 head.equations_are
no_head_cause root c _ head a = a

one_head_cause : (root : RootEquations) (c : Certificate) (x y : RefuseCause) → IsHeadCause root c x → IsHeadCause root c y → x ≡ y
one_head_cause root c Unknowns Unknowns a b = refl
one_head_cause root c Unknowns Equations a b = absurd (a b.0)
one_head_cause root c Unknowns _ a b = absurd b
one_head_cause root c Equations Unknowns a b = absurd (b a.0)
one_head_cause root c Equations Equations a b = refl
one_head_cause root c Equations _ a b = absurd b
one_head_cause root c _ y a b = absurd a

one_least : (h : List RawEntry) (n m : ℕ) → IsLeastPending h n → IsLeastPending h m → n ≡ m
one_least h n m a b = at (λ l. b.least n l a.pending) (λ l. a.least m l b.pending)
  where
    at : (n < m → ⊥) → (m < n → ⊥) → n ≡ m
    at f g = grind arith

module _ (root : List (List Term)) (one : AreOneAnswers root) where
  came : (later : List RawEntry) (e : RawEntry) (h : List RawEntry) → Replays root (later ++ e ∷ h) → MayCome root h e
  came [] e h r = r.0
  came (d ∷ later) e h r = came later e h r.1

  -- an entry among those that replay may come after those before it
  may_come : (xs : List RawEntry) (e : RawEntry) (ys : List RawEntry) → Replays root (reverse (xs ++ e ∷ ys)) → MayCome root (reverse xs) e
  may_come xs e ys r =
      let turned : reverse (xs ++ e ∷ ys) ≡ reverse ys ++ e ∷ reverse xs = reverse-append xs (e ∷ ys) ∙ (ap (λ l. l ++ reverse xs) (reverse-append (e ∷ []) ys) ∙ append_assoc (reverse ys) (e ∷ []) (reverse xs)) in
      came (reverse ys) e (reverse xs) (subst (Replays root) turned r)

  -- where all entries replay, none is refused
  pub no_entry : (entries : List RawEntry) (p : Part) (n : ℕ) (c : RefuseCause) → Replays root (reverse entries) → IsEntryRefused root entries p n c → ⊥
  no_entry entries p n c r a =
      no_refusal root one (reverse a.before) a.entry p n c
      (may_come a.before a.entry a.after (subst (λ l. Replays root (reverse l)) a.are r)) a.refused

  one_entry : (entries : List RawEntry) (p q : Part) (n m : ℕ) (c d : RefuseCause) → IsEntryRefused root entries p n c → IsEntryRefused root entries q m d → ◌≡◌ {A = AcceptStop} (Refused p n c) (Refused q m d)
  one_entry entries p q n m c d a b = go (cuts a.before a.entry a.after b.before b.entry b.after (sym a.are ∙ b.are))
    where
      go : AreCuts a.before a.entry b.before b.entry → ◌≡◌ {A = AcceptStop} (Refused p n c) (Refused q m d)
      go (same e f) =
          one_refusal root one (reverse a.before) a.entry p q n m c d a.refused
          (subst (λ (x : RawEntry). IsRefusal root (reverse a.before) x q m d) (sym f) (subst (λ (l : List RawEntry). IsRefusal root (reverse l) b.entry q m d) (sym e) b.refused))
      go (before zs e) =
          absurd (no_refusal root one (reverse a.before) a.entry p n c
          (may_come a.before a.entry zs (subst (λ l. Replays root (reverse l)) e b.replays)) a.refused)
      go (after zs e) =
          absurd (no_refusal root one (reverse b.before) b.entry q m d
          (may_come b.before b.entry zs (subst (λ l. Replays root (reverse l)) e a.replays)) b.refused)

module _ (root : RootEquations) (one : AreOneAnswers root.equations) (c : Certificate) where
  pub not_refused : (p : Part) (n : ℕ) (x : RefuseCause) → Accepted root.unknowns root.equations c → IsRefused root c p n x → ⊥
  not_refused p n x a (inl h) = no_head_cause root c x (record { unknowns_are = a.unknowns_are; equations_are = a.equations_are }) h.cause_is
  not_refused p n x a (inr (hd, inl e)) = no_entry root.equations one c.entries p n x a.replays e
  not_refused p n x a (inr (hd, inr w)) = a.complete n w.pending.pending

  one_refused : (p q : Part) (n m : ℕ) (x y : RefuseCause) → IsRefused root c p n x → IsRefused root c q m y → ◌≡◌ {A = AcceptStop} (Refused p n x) (Refused q m y)
  one_refused p q n m x y (inl a) (inl b) = same_stop p q n m x y (a.part_is ∙ sym b.part_is) (a.number_is ∙ sym b.number_is) (one_head_cause root c x y a.cause_is b.cause_is)
  one_refused p q n m x y (inl a) (inr b) = absurd (no_head_cause root c x b.0 a.cause_is)
  one_refused p q n m x y (inr a) (inl b) = absurd (no_head_cause root c y a.0 b.cause_is)
  one_refused p q n m x y (inr (hd, inl a)) (inr (dh, inl b)) = one_entry root.equations one c.entries p q n m x y a b
  one_refused p q n m x y (inr (hd, inl a)) (inr (dh, inr b)) = absurd (no_entry root.equations one c.entries p n x b.replays a)
  one_refused p q n m x y (inr (hd, inr a)) (inr (dh, inl b)) = absurd (no_entry root.equations one c.entries q m y a.replays b)
  one_refused p q n m x y (inr (hd, inr a)) (inr (dh, inr b)) = same_stop p q n m x y (a.part_is ∙ sym b.part_is) (one_least _ n m a.pending b.pending) (a.cause_is ∙ sym b.cause_is)

  pub accepted_stop : (s : AcceptStop) → Accepted root.unknowns root.equations c → IsAcceptStop root c s → s ≡ OutOfMemory
  accepted_stop (Refused p n x) a h = absurd (not_refused p n x a h)
  accepted_stop OutOfMemory a h = refl

  pub one_stop : (s t : AcceptStop) → IsAcceptStop root c s → IsAcceptStop root c t → s ≢ OutOfMemory → t ≢ OutOfMemory → s ≡ t
  one_stop OutOfMemory t a b n m = absurd (n refl)
  one_stop (Refused p i x) OutOfMemory a b n m = absurd (m refl)
  one_stop (Refused p i x) (Refused q j y) a b n m = one_refused p q i j x y a b
