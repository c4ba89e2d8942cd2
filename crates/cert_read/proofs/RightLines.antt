-- The fields of a line whose numbers are in range are right.
use Rattle.std.specs.Prelude.{ℕ, ◌≤◌, ◌^◌, Bool, true, false, codes, refl}
use Rattle.std.proofs.Common.{arith}
use Rattle.derive_lines.specs.declared.parts.Way.{Way}
use Rattle.derive_lines.specs.declared.parts.Way.TheVariants.{Fwd, Back}
use Rattle.leaf_cert.specs.declared.ends.LeafEnd.{LeafEnd}
use Rattle.leaf_cert.specs.declared.ends.LeafEnd.TheVariants.{Triangular, Open}
use Rattle.leaf_cert.specs.declared.ends.OpenCause.{OpenCause}
use Rattle.leaf_cert.specs.declared.ends.OpenCause.TheVariants.{Budget, Coefficient, Degree}
use Rattle.leaf_cert.specs.declared.ends.StepKind.{StepKind}
use Rattle.leaf_cert.specs.declared.ends.StepKind.TheVariants.{Reduce, Tail}
use Rattle.leaf_cert.specs.declared.ends.Stop.{Stop}
use Rattle.cert_text.specs.declared.version.Version.{Version}
use Rattle.cert_text.specs.declared.version.Version.TheVariants.{One, Two}
use Rattle.cert_text.specs.declared.sentence.Sentence.{Sentence}
use Rattle.cert_text.specs.declared.sentence.Sentence.TheVariants as says
use Rattle.cert_text.specs.Fields.{version_text, sign_word, way_text, step_word, stop_fields, cause_fields, leaf_end_fields}
use Rattle.cert_text.specs.Sentences.{fields}
use Rattle.cert_text.specs.Numbers.{max_number, HasStopInRange, HasCauseInRange, HasEndInRange}
use Rattle.leaf_cert.specs.Variables.{HasStopVariablesBelow, HasCauseVariablesBelow, HasEndVariablesBelow}
use Rattle.cert_lines.specs.Forms.{greatest_place, OneOf, form, stop_form, cause_form, end_form}
use Rattle.cert_lines.specs.Fitting.{IsRight, AreRightFields, FitsSentence}
use Rattle.cert_read.specs.Machine.{kind_of}
use Rattle.cert_lines.proofs.Shaped.{number_right, item_right, reference_right, variable_right, poly_right, word_right, first_right, second_right}

module _ (u : ℕ) (small : u ≤ 4096) where
  low : u ≤ 2 ^ 32
  low = omega arith

  sign_right : (b : Bool) → IsRight u (OneOf (codes "zero") (codes "nonzero")) (sign_word b)
  sign_right true = first_right u (codes "zero") (codes "nonzero")
  sign_right false = second_right u (codes "zero") (codes "nonzero")

  way_right : (w : Way) → IsRight u (OneOf (codes "fwd") (codes "back")) (way_text w)
  way_right Fwd = first_right u (codes "fwd") (codes "back")
  way_right Back = second_right u (codes "fwd") (codes "back")

  step_right : (s : StepKind) → IsRight u (OneOf (codes "reduce") (codes "tail")) (step_word s)
  step_right Reduce = first_right u (codes "reduce") (codes "tail")
  step_right Tail = second_right u (codes "reduce") (codes "tail")

  stop_right : (s : Stop) → HasStopInRange s → HasStopVariablesBelow u s → AreRightFields u stop_form (stop_fields s)
  stop_right s h b = (step_right s.step, (variable_right u s.v b.v (omega (arith, small)), (poly_right u s.q low h.q b.q, (poly_right u s.p low h.p b.p, refl))))

  cause_right : (c : OpenCause) → HasCauseInRange c → HasCauseVariablesBelow u c → AreRightFields u cause_form (cause_fields c)
  cause_right Budget h b = refl
  cause_right (Coefficient s) h b = (first_right u (codes "coefficient") (codes "degree"), stop_right s h b)
  cause_right (Degree s) h b = (second_right u (codes "coefficient") (codes "degree"), stop_right s h b)

  end_right : (e : LeafEnd) → HasEndInRange e → HasEndVariablesBelow u e → AreRightFields u end_form (leaf_end_fields e)
  end_right Triangular h b = refl
  end_right (Open c) h b = (word_right u (codes "open"), cause_right c h b)

  version_right : (v : Version) → IsRight u (OneOf (codes "1") (codes "2")) (version_text v)
  version_right One = first_right u (codes "1") (codes "2")
  version_right Two = second_right u (codes "1") (codes "2")

  pub line_right : (s : Sentence) → FitsSentence u s → AreRightFields u (form (kind_of s)) (fields s)
  line_right (says.Title v) h = (word_right u (codes "braidcert"), (version_right v, refl))
  line_right (says.Unknowns n) h = (word_right u (codes "unknowns"), (number_right u n 4096 h (omega arith), refl))
  line_right (says.Equations n) h = (word_right u (codes "equations"), (number_right u n 65536 h (omega arith), refl))
  line_right (says.Budget n) h = (word_right u (codes "budget"), (number_right u n 1000000 h (omega arith), refl))
  line_right (says.Lines n) h = (word_right u (codes "lines"), (number_right u n max_number h (omega arith), refl))
  line_right (says.Split n by) h = (word_right u (codes "split"), (number_right u n max_number h.0.case_number (omega arith), (poly_right u by low h.0.poly h.1, refl)))
  line_right says.Post h = (word_right u (codes "post"), refl)
  line_right (says.Close n k) h = (word_right u (codes "close"), (number_right u n max_number h.case_number (omega arith), (number_right u k max_number h.pattern (omega arith), refl)))
  line_right (says.Leaf n end) h = (word_right u (codes "leaf"), (number_right u n max_number h.0 (omega arith), end_right end h.1 h.2))
  line_right (says.Decided d) h = (sign_right d.zero, (poly_right u d.poly low h.0 h.1, refl))
  line_right (says.Derived l) h = (
    way_right l.way,
    (
      reference_right u l.from h.0.from,
      (
        reference_right u l.by h.0.by,
        (poly_right u l.l low h.0.l h.1.l, (poly_right u l.a low h.0.a h.1.a, (poly_right u l.m low h.0.m h.1.m, (poly_right u l.made low h.0.made h.1.made, refl)))),
      ),
    ),
  )
  line_right (says.Use i) h = (word_right u (codes "use"), (number_right u i greatest_place h (omega arith), refl))
  line_right (says.End item) h = (word_right u (codes "end"), (item_right u item h, refl))
  line_right (says.Equation p) h = (word_right u (codes "eq"), (poly_right u p low h.0 h.1, refl))
  line_right (says.Done n) h = (word_right u (codes "done"), (number_right u n max_number h (omega arith), refl))
