-- Equations that are cleared or stripped, and the lines for it, have their variables below n where those of the equations are.
use Rattle.std.specs.Prelude.{ℕ, ◌+◌, pos, List, ◌∷◌, length}
use Rattle.std.specs.List.{AllByRecursion}
use Rattle.sparse_poly.specs.declared.Term.{Term}
use Rattle.sparse_poly.proofs.Descending.{all_both}
use Rattle.derive_lines.specs.declared.parts.Item.{Item}
use Rattle.derive_lines.specs.declared.parts.Line.{Line}
use Rattle.case_rules.specs.declared.equation.Equation.{Equation}
use Rattle.case_rules.specs.Clearings as clearings
use Rattle.case_rules.specs.Clearings.{quotient_line, made, IsClearing, AreCleared, AreStripped}
use Rattle.leaf_cert.specs.Variables.{HasLineVariablesBelow}
use Rattle.legal_ranges.proofs.Contributions.{constant_below}
use Rattle.legal_ranges.proofs.Strips.{IsPolyBelow, ArePolysBelow, stripped_below, quotient_below}

module _ (n : ℕ) where
  abbrev pub AreLinesBelow : List Line → Type 0
  AreLinesBelow lines = AllByRecursion (HasLineVariablesBelow n) lines

  -- the polynomial of an equation has its variables below n
  abbrev pub IsEquationBelow : Equation → Type 0
  IsEquationBelow e = IsPolyBelow n e.poly

  abbrev pub AreEquationsBelow : List Equation → Type 0
  AreEquationsBelow es = AllByRecursion IsEquationBelow es

  quotient_line_below : (item : Item) (m r : List Term) → ArePolysBelow n m r → HasLineVariablesBelow n (quotient_line item m r)
  quotient_line_below item m r h = record { l = constant_below n (pos 1); a = tt; m = h.factor.below; made = h.rest.below }

  pub record IsClearingBelow (lines : List Line) (e : Equation) : Type 0 where
    pub lines_are : AreLinesBelow lines
    pub equation : IsEquationBelow e

  pub clearing_below : (ns : List (List Term)) (k : ℕ) (e : Equation) (lines : List Line) (e' : Equation) → IsEquationBelow e → IsClearing ns k e lines e' → IsClearingBelow lines e'
  clearing_below ns k e lines e' h (clearings.IsClearing.end i j) = record { lines_are = tt; equation = h }
  clearing_below ns k e lines e' h (clearings.IsClearing.next m ms i j ls f none rest) = clearing_below ms k e lines e' h rest
  clearing_below ns k e lines e' h (clearings.IsClearing.once m ms i j g ls f d rest) =
      let both = quotient_below n m e.poly g h d.nonzero d.in_form.poly d.quotient in
      let more = clearing_below (m ∷ ms) (k + 1) (made g k) ls f both.rest rest in
      record { lines_are = (quotient_line_below e.item m g both, more.lines_are); equation = more.equation }

  pub record AreClearingsBelow (lines : List Line) (es : List Equation) : Type 0 where
    pub lines_are : AreLinesBelow lines
    pub equations : AreEquationsBelow es

  pub clearings_below : (ns : List (List Term)) (k : ℕ) (es : List Equation) (lines : List Line) (es' : List Equation) → AreEquationsBelow es → AreCleared ns k es lines es' → AreClearingsBelow lines es'
  clearings_below ns k es lines es' h (clearings.AreCleared.end i) = record { lines_are = tt; equations = tt }
  clearings_below ns k es lines es' h (clearings.AreCleared.next i e rest first f more fs one others) =
      let here = clearing_below ns i e first f h.0 one in
      let there = clearings_below ns (i + length first) rest more fs h.1 others in
      record { lines_are = all_both (HasLineVariablesBelow n) first more here.lines_are there.lines_are; equations = (here.equation, there.equations) }

  pub strips_below : (ns : List (List Term)) (k : ℕ) (es : List Equation) (lines : List Line) (es' : List Equation) → AreEquationsBelow es → AreStripped ns k es lines es' → AreClearingsBelow lines es'
  strips_below ns k es lines es' h (clearings.AreStripped.end i) = record { lines_are = tt; equations = tt }
  strips_below ns k es lines es' h (clearings.AreStripped.same i e rest m more fs one others) =
      let there = strips_below ns i rest more fs h.1 others in
      record { lines_are = there.lines_are; equations = (h.0, there.equations) }
  strips_below ns k es lines es' h (clearings.AreStripped.changed i e rest m r more fs one other others) =
      let both = stripped_below n ns e.poly m r h.0 one in
      let there = strips_below ns (i + 1) rest more fs h.1 others in
      record { lines_are = (quotient_line_below e.item m r both, there.lines_are); equations = (both.rest, there.equations) }
