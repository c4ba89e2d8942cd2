-- An entry that may come is not refused, and one that may not come is refused for one cause.
use Rattle.std.specs.Prelude.{◌≡◌, ◌≢◌, ℕ, List}
use Rattle.std.proofs.Common.{arith, refl, sym, ◌∙◌, ap, subst}
use Rattle.std.proofs.lemmas.Option.{slice_get_within, same_Some}
use Rattle.sparse_poly.specs.declared.Term.{Term}
use Rattle.derive_lines.specs.declared.parts.Decision.{Decision}
use Rattle.derive_lines.specs.declared.parts.Line.{Line as DerivationLine}
use Rattle.derive_lines.specs.declared.parts.Item.{Item}
use Rattle.derive_lines.specs.declared.parts.LineCause.{LineCause}
use Rattle.derive_lines.specs.Refuting.{Refutes}
use Rattle.refute_store.specs.Live.{IsWithin}
use Rattle.refute_cert.specs.Refutations.{IsCertStop}
use Rattle.refute_cert.specs.declared.CertStop.{CertStop}
use Rattle.refute_cert.specs.declared.CertStop.TheVariants.{Line as bad_line, End as bad_end, OutOfMemory as cert_memory}
use Rattle.leaf_cert.specs.Parts.{LeafParts}
use Rattle.leaf_cert.specs.Leaves.{GoodLeaf, IsLeafStop}
use Rattle.leaf_cert.specs.declared.leaf.LeafStop.{LeafStop}
use Rattle.leaf_cert.specs.declared.leaf.LeafStop.TheVariants.{Line as leaf_line, Equation as leaf_equation, Lost as leaf_lost, End as leaf_end, OutOfMemory as leaf_memory}
use Rattle.leaf_cert.specs.declared.certificate.RawEntry.{RawEntry}
use Rattle.leaf_cert.specs.declared.certificate.RawEntry.TheVariants.{Split, Post, Close, Publish}
use Rattle.case_history.specs.History.{decisions_of, patterns, IsPending}
use Rattle.case_history.specs.Replay.{MayCome, MayClose, MayPublish}
use Rattle.cert_check.specs.declared.answers.Part.{Part}
use Rattle.cert_check.specs.declared.answers.RefuseCause.{RefuseCause}
use Rattle.cert_check.specs.declared.answers.RefuseCause.TheVariants.{NotPending, NotStored, NotWithin, Decisions, Line, Equation, Lost, End}
use Rattle.cert_check.specs.declared.answers.AcceptStop.{AcceptStop}
use Rattle.cert_check.specs.declared.answers.AcceptStop.TheVariants.{Refused}
use Rattle.cert_check.specs.Refusals.{IsSplitCause, IsPatternCause, IsCloseCause, IsBadLeaf, IsLeafCause, IsRefusal}

pub same_stop : (p q : Part) (n m : ℕ) (c d : RefuseCause) → p ≡ q → n ≡ m → c ≡ d → ◌≡◌ {A = AcceptStop} (Refused p n c) (Refused q m d)
same_stop p q n m c d e f g = cc

no_split_cause : (h : List RawEntry) (n : ℕ) (c : RefuseCause) → IsPending h n → IsSplitCause h n c → ⊥
no_split_cause h n NotPending p a = a p
no_split_cause h n _ p a = a

one_split_cause : (h : List RawEntry) (n : ℕ) (c d : RefuseCause) → IsSplitCause h n c → IsSplitCause h n d → c ≡ d
one_split_cause h n NotPending NotPending a b = refl
one_split_cause h n NotPending _ a b = absurd b
one_split_cause h n _ d a b = absurd a

no_close_cause : (h : List RawEntry) (n k : ℕ) (c : RefuseCause) → MayClose h n k → IsCloseCause h n k c → ⊥
no_close_cause h n k NotPending may a = a may.pending
no_close_cause h n k NotStored may a = let lt = slice_get_within (patterns h) k may.pattern.pattern may.pattern.is in absurd (omega (arith, lt, a.1))
no_close_cause h n k NotWithin may a = a.not_within (subst (λ (p : List Decision). IsWithin p (decisions_of h n)) (same_Some may.pattern.pattern a.pattern (sym may.pattern.is ∙ a.is)) may.pattern.within)
no_close_cause h n k _ may a = a

one_close_cause : (h : List RawEntry) (n k : ℕ) (c d : RefuseCause) → IsCloseCause h n k c → IsCloseCause h n k d → c ≡ d
one_close_cause h n k NotPending NotPending a b = refl
one_close_cause h n k NotPending NotStored a b = absurd (a b.0)
one_close_cause h n k NotPending NotWithin a b = absurd (a b.pending)
one_close_cause h n k NotPending _ a b = absurd b
one_close_cause h n k NotStored NotPending a b = absurd (b a.0)
one_close_cause h n k NotStored NotStored a b = refl
one_close_cause h n k NotStored NotWithin a b = let lt = slice_get_within (patterns h) k b.pattern b.is in absurd (omega (arith, lt, a.1))
one_close_cause h n k NotStored _ a b = absurd b
one_close_cause h n k NotWithin NotPending a b = absurd (b a.pending)
one_close_cause h n k NotWithin NotStored a b = let lt = slice_get_within (patterns h) k a.pattern a.is in absurd (omega (arith, lt, b.1))
one_close_cause h n k NotWithin NotWithin a b = refl
one_close_cause h n k NotWithin _ a b = absurd b
one_close_cause h n k _ d a b = absurd a

-- the cause that a stop of a refutation, or of a leaf, is answered as
pattern_cause : CertStop → RefuseCause
pattern_cause (bad_line k c) = Line k c
pattern_cause bad_end = End
pattern_cause cert_memory = End

leaf_cause : LeafStop → RefuseCause
leaf_cause (leaf_line k c) = Line k c
leaf_cause (leaf_equation i) = Equation i
leaf_cause (leaf_lost item) = Lost item
leaf_cause leaf_end = End
leaf_cause leaf_memory = End

record IsCertCause (root : List (List Term)) (ds : List Decision) (ls : List DerivationLine) (end : Item) (c : RefuseCause) : Type 0 where
  stop : CertStop
  is : IsCertStop root ds ls end stop
  answered : c ≡ pattern_cause stop
  no_memory : stop ≢ cert_memory

line_apart : (k : ℕ) (c : LineCause) → ◌≡◌ {A = CertStop} (bad_line k c) cert_memory → ⊥
line_apart k c e = cc

end_apart : ◌≡◌ {A = CertStop} bad_end cert_memory → ⊥
end_apart e = cc

leaf_line_apart : (k : ℕ) (c : LineCause) → ◌≡◌ {A = LeafStop} (leaf_line k c) leaf_memory → ⊥
leaf_line_apart k c e = cc

leaf_equation_apart : (i : ℕ) → ◌≡◌ {A = LeafStop} (leaf_equation i) leaf_memory → ⊥
leaf_equation_apart i e = cc

leaf_lost_apart : (item : Item) → ◌≡◌ {A = LeafStop} (leaf_lost item) leaf_memory → ⊥
leaf_lost_apart item e = cc

leaf_end_apart : ◌≡◌ {A = LeafStop} leaf_end leaf_memory → ⊥
leaf_end_apart e = cc

cert_cause : (root : List (List Term)) (ds : List Decision) (ls : List DerivationLine) (end : Item) (c : RefuseCause) → IsPatternCause root ds ls end c → IsCertCause root ds ls end c
unfolding pattern_cause
cert_cause root ds ls end (Line k x) a = record { stop = bad_line k x; is = a; answered = refl; no_memory = line_apart k x }
cert_cause root ds ls end End a = record { stop = bad_end; is = a; answered = refl; no_memory = end_apart }
cert_cause root ds ls end _ a = absurd a

-- why a leaf may not come: its case is not pending, or its decisions are others, or it is bad
data LeafWhy (root : List (List Term)) (h : List RawEntry) (n : ℕ) (leaf : LeafParts) (c : RefuseCause) : Type 0 where
  not_pending : (IsPending h n → ⊥) → c ≡ NotPending → LeafWhy root h n leaf c
  not_same : IsPending h n → leaf.decisions ≢ decisions_of h n → c ≡ Decisions → LeafWhy root h n leaf c
  not_good : (stop : LeafStop) → IsBadLeaf root h n leaf stop → c ≡ leaf_cause stop → stop ≢ leaf_memory → LeafWhy root h n leaf c

leaf_why : (root : List (List Term)) (h : List RawEntry) (n : ℕ) (leaf : LeafParts) (c : RefuseCause) → IsLeafCause root h n leaf c → LeafWhy root h n leaf c
unfolding leaf_cause
leaf_why root h n leaf NotPending a = not_pending a refl
leaf_why root h n leaf Decisions a = not_same a.0 a.1 refl
leaf_why root h n leaf (Line k x) a = not_good (leaf_line k x) a refl (leaf_line_apart k x)
leaf_why root h n leaf (Equation i) a = not_good (leaf_equation i) a refl (leaf_equation_apart i)
leaf_why root h n leaf (Lost item) a = not_good (leaf_lost item) a refl (leaf_lost_apart item)
leaf_why root h n leaf End a = not_good leaf_end a refl leaf_end_apart
leaf_why root h n leaf _ a = absurd a

-- what is known of the answers to refutations and to leaves
pub record AreOneAnswers (root : List (List Term)) : Type 0 where
  pub good_cert : (ds : List Decision) (ls : List DerivationLine) (end : Item) (s : CertStop) → Refutes root ds ls end → IsCertStop root ds ls end s → s ≡ cert_memory
  pub one_cert : (ds : List Decision) (ls : List DerivationLine) (end : Item) (s t : CertStop) → IsCertStop root ds ls end s → IsCertStop root ds ls end t → s ≢ cert_memory → t ≢ cert_memory → s ≡ t
  pub good_leaf : (leaf : LeafParts) (s : LeafStop) → GoodLeaf root leaf → IsLeafStop root leaf.decisions leaf.lines leaf.equations leaf.end s → s ≡ leaf_memory
  pub one_leaf : (leaf : LeafParts) (s t : LeafStop) → IsLeafStop root leaf.decisions leaf.lines leaf.equations leaf.end s → IsLeafStop root leaf.decisions leaf.lines leaf.equations leaf.end t → s ≢ leaf_memory → t ≢ leaf_memory → s ≡ t

module _ (root : List (List Term)) (one : AreOneAnswers root) (h : List RawEntry) where
  no_pattern_cause : (ds : List Decision) (ls : List DerivationLine) (end : Item) (c : RefuseCause) → Refutes root ds ls end → IsPatternCause root ds ls end c → ⊥
  no_pattern_cause ds ls end c good a = let w = cert_cause root ds ls end c a in w.no_memory (one.good_cert ds ls end w.stop good w.is)

  one_pattern_cause : (ds : List Decision) (ls : List DerivationLine) (end : Item) (c d : RefuseCause) → IsPatternCause root ds ls end c → IsPatternCause root ds ls end d → c ≡ d
  one_pattern_cause ds ls end c d a b =
      let v = cert_cause root ds ls end c a in
      let w = cert_cause root ds ls end d b in
      v.answered ∙ (ap pattern_cause (one.one_cert ds ls end v.stop w.stop v.is w.is v.no_memory w.no_memory) ∙ sym w.answered)

  no_leaf_cause : (n : ℕ) (leaf : LeafParts) (c : RefuseCause) → MayPublish root h n leaf → IsLeafCause root h n leaf c → ⊥
  no_leaf_cause n leaf c may a = go (leaf_why root h n leaf c a)
    where
      go : LeafWhy root h n leaf c → ⊥
      go (not_pending un e) = un may.pending
      go (not_same p un e) = un may.same
      go (not_good s b e un) = un (one.good_leaf leaf s may.good b.bad)

  one_leaf_cause : (n : ℕ) (leaf : LeafParts) (c d : RefuseCause) → IsLeafCause root h n leaf c → IsLeafCause root h n leaf d → c ≡ d
  one_leaf_cause n leaf c d a b = go (leaf_why root h n leaf c a) (leaf_why root h n leaf d b)
    where
      go : LeafWhy root h n leaf c → LeafWhy root h n leaf d → c ≡ d
      go (not_pending un e) (not_pending nu f) = e ∙ sym f
      go (not_pending un e) (not_same q nu f) = absurd (un q)
      go (not_pending un e) (not_good t y f nu) = absurd (un y.pending)
      go (not_same p un e) (not_pending nu f) = absurd (nu p)
      go (not_same p un e) (not_same q nu f) = e ∙ sym f
      go (not_same p un e) (not_good t y f nu) = absurd (un y.same)
      go (not_good s x e un) (not_pending nu f) = absurd (nu x.pending)
      go (not_good s x e un) (not_same q nu f) = absurd (nu x.same)
      go (not_good s x e un) (not_good t y f nu) = e ∙ (ap leaf_cause (one.one_leaf leaf s t x.bad y.bad un nu) ∙ sym f)

  pub no_refusal : (e : RawEntry) (p : Part) (n : ℕ) (c : RefuseCause) → MayCome root h e → IsRefusal root h e p n c → ⊥
  no_refusal (Split m by) p n c may a = no_split_cause h m c may a.2
  no_refusal (Post ds ls end) p n c may a = no_pattern_cause ds ls end c may a.2
  no_refusal (Close m k) p n c may a = no_close_cause h m k c may a.2
  no_refusal (Publish m ds ls es end) p n c may a = no_leaf_cause m _ c may a.2

  pub one_refusal : (e : RawEntry) (p q : Part) (n m : ℕ) (c d : RefuseCause) → IsRefusal root h e p n c → IsRefusal root h e q m d → ◌≡◌ {A = AcceptStop} (Refused p n c) (Refused q m d)
  one_refusal (Split i by) p q n m c d a b = same_stop p q n m c d (a.0 ∙ sym b.0) (a.1 ∙ sym b.1) (one_split_cause h i c d a.2 b.2)
  one_refusal (Post ds ls end) p q n m c d a b = same_stop p q n m c d (a.0 ∙ sym b.0) (a.1 ∙ sym b.1) (one_pattern_cause ds ls end c d a.2 b.2)
  one_refusal (Close i k) p q n m c d a b = same_stop p q n m c d (a.0 ∙ sym b.0) (a.1 ∙ sym b.1) (one_close_cause h i k c d a.2 b.2)
  one_refusal (Publish i ds ls es end) p q n m c d a b = same_stop p q n m c d (a.0 ∙ sym b.0) (a.1 ∙ sym b.1) (one_leaf_cause i _ c d a.2 b.2)
