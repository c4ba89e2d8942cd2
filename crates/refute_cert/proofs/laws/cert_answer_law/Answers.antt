use Rattle.std.proofs.Common.{◌≡◌, refl, List, ℕ, take}
use Rattle.std.specs.Prelude.{◌≢◌}
use Rattle.sparse_poly.specs.declared.Term.{Term}
use Rattle.derive_lines.specs.declared.parts.Decision.{Decision}
use Rattle.derive_lines.specs.declared.parts.Line.{Line as DerivationLine}
use Rattle.derive_lines.specs.declared.parts.Item.{Item}
use Rattle.derive_lines.specs.declared.parts.LineCause.{LineCause}
use Rattle.derive_lines.specs.declared.parts.LineStop.{LineStop}
use Rattle.derive_lines.specs.declared.parts.LineStop.TheVariants.{BadLine}
use Rattle.derive_lines.specs.Lines.{AreGoodLines, IsFirstBad}
use Rattle.derive_lines.specs.Refuting.{Refutes}
use Rattle.derive_lines.proofs.OneAnswer.{good_bad, one_stop}
use Rattle.refute_cert.specs.Refutations.{IsCertStop}
use Rattle.refute_cert.specs.declared.CertStop.{CertStop}
use Rattle.refute_cert.specs.declared.CertStop.TheVariants.{Line, End, OutOfMemory}
use Rattle.refute_cert.proofs.laws.cert_answer_law.Goals as goal

same_line : (k j : ℕ) (c d : LineCause) → ◌≡◌ {A = LineStop} (BadLine k c) (BadLine j d) → ◌≡◌ {A = CertStop} (Line k c) (Line j d)
same_line k j c d e = cc

module _ (root : List (List Term)) (ds : List Decision) (ls : List DerivationLine) (end : Item) where
  no_line : (k : ℕ) (c : LineCause) → IsFirstBad root ds ls k c → AreGoodLines root ds ls → ⊥
  no_line k c h g = good_bad root ds (take k ls) h.line c (g k h.line h.is) h.bad

  no_stop : (stop : CertStop) → Refutes root ds ls end → IsCertStop root ds ls end stop → stop ≡ OutOfMemory
  no_stop (Line k c) r h = absurd (no_line k c h r.lines)
  no_stop End r h = absurd (h.1 r.ends)
  no_stop OutOfMemory r h = refl

  one_cert_stop : (s t : CertStop) → IsCertStop root ds ls end s → IsCertStop root ds ls end t → s ≢ OutOfMemory → t ≢ OutOfMemory → s ≡ t
  one_cert_stop OutOfMemory t h i n m = absurd (n refl)
  one_cert_stop (Line k c) OutOfMemory h i n m = absurd (m refl)
  one_cert_stop (Line k c) (Line j d) h i n m = same_line k j c d (one_stop root ds ls (BadLine k c) (BadLine j d) h i (λ e. absurd (cc e)) (λ e. absurd (cc e)))
  one_cert_stop (Line k c) End h i n m = absurd (no_line k c h i.0)
  one_cert_stop End OutOfMemory h i n m = absurd (m refl)
  one_cert_stop End (Line j d) h i n m = absurd (no_line j d i h.0)
  one_cert_stop End End h i n m = refl

pub returns-clause-good : goal.returns-clause-good
returns-clause-good c root ds ls end stop r h = no_stop root ds ls end stop r h

pub returns-clause-one_stop : goal.returns-clause-one_stop
returns-clause-one_stop c root ds ls end stop other h i n m = one_cert_stop root ds ls end stop other h i n m
