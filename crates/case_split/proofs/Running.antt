-- Steps of the strategy's run, and its ends.
use Rattle.std.specs.Prelude.{◌≡◌, ◌≢◌, ◌<◌, ◌≤◌, ℕ, ◌+◌, true, List, [], ◌++◌, length, ◌∷◌, refl}
use Rattle.std.proofs.Common.{arith, subst, sym, ◌∙◌, ap, length-append}
use Rattle.std.specs.declared.option.Option.TheVariants.{Some}
use Rattle.sparse_poly.specs.declared.Term.{Term}
use Rattle.sparse_poly.specs.declared.PolyFault.{PolyFault}
use Rattle.sparse_poly.specs.declared.PolyFault.TheVariants.{Degree, Heavy, OutOfMemory}
use Rattle.sparse_poly.specs.Contributions.{IsFault}
use Rattle.sparse_poly.specs.Reads.{main_variable}
use Rattle.pseudo_rem.specs.declared.remainders.Step.{Step}
use Rattle.pseudo_rem.specs.Remainders.{rest_of}
use Rattle.pseudo_rem.specs.Steps.{tail_contributions}
use Rattle.derive_lines.specs.declared.parts.Decision.{Decision}
use Rattle.derive_lines.specs.declared.parts.Item.{Item}
use Rattle.derive_lines.specs.declared.parts.Item.TheVariants as item
use Rattle.derive_lines.specs.declared.parts.Line.{Line}
use Rattle.derive_lines.specs.Refuting.{Refutes}
use Rattle.refute_cert.specs.Parts.{RefutationParts}
use Rattle.refute_cert.specs.Cone.{IsCone}
use Rattle.leaf_cert.specs.Parts.{LeafParts}
use Rattle.leaf_cert.specs.Leaves.{GoodLeaf}
use Rattle.leaf_cert.specs.declared.ends.LeafEnd.{LeafEnd}
use Rattle.leaf_cert.specs.declared.ends.LeafEnd.TheVariants as leaf_end
use Rattle.leaf_cert.specs.declared.ends.OpenCause.{OpenCause}
use Rattle.leaf_cert.specs.declared.ends.OpenCause.TheVariants as cause
use Rattle.leaf_cert.specs.declared.ends.Stop.{Stop}
use Rattle.leaf_cert.specs.declared.ends.StepKind.TheVariants as kind
use Rattle.case_rules.specs.declared.moves.Move.{Move}
use Rattle.case_rules.specs.declared.moves.Move.TheVariants as move_
use Rattle.case_rules.specs.declared.outcome.Outcome.TheVariants as outcome
use Rattle.case_rules.specs.Cases.{CaseState, known, poly, polys}
use Rattle.case_rules.specs.Branches.{IsReduced, IsBranchFault, IsTailRefused}
use Rattle.case_rules.specs.Rules.{None_has, IsAlive, IsMove, IsSettled, HasZeroRemainder, IsRefutedAt, condition}
use Rattle.case_rules.specs.Belonging.{Belongs}
use Rattle.case_rules.specs.Ends.{End, IsEnd, IsStoppedBy, IsReductionStopped, IsTailStopped, IsRefutation, leaf_of, back_lines, spent, reduced, reduction_stopped, tail_stopped, triangular}
use Rattle.case_rules.proofs.EndsBelong.{refuted_by, condition_some}
use Rattle.case_split.proofs.LeadingBack.{back_length}

pub moves_after : (c : CaseState) (q p v : ℕ) (c' : CaseState) → IsReduced c q p v c' → c'.moves ≡ c.moves + 1
moves_after c q p v c' s = ap (λ (c : CaseState). c.moves) s.is

pub reduced_end : (root : List (List Term)) (budget : ℕ) (c : CaseState) (q p v : ℕ) (m : Move) (c' : CaseState) (o : End) → m ≡ move_.Reduce q p v → IsAlive c → IsMove c m → c.moves < budget → IsReduced c q p v c' → IsEnd root budget c' o → IsEnd root budget c o
reduced_end root budget c q p v m c' o e a h w s t = reduced c q p v c' o a (subst (IsMove c) e h) w s t

-- the same decisions, lines and end
pub same_refutes : (root : List (List Term)) (ds ds' : List Decision) (ls ls' : List Line) (e e' : Item) → ds' ≡ ds → ls' ≡ ls → e' ≡ e → Refutes root ds ls e → Refutes root ds' ls' e'
same_refutes root ds ds' ls ls' e e' f g h r = subst (λ ds. Refutes root ds ls' e') (sym f) (subst (λ ls. Refutes root ds ls e') (sym g) (subst (Refutes root ds ls) (sym h) r))

pub same_cone : (root : List (List Term)) (ds ds' : List Decision) (ls ls' : List Line) (e e' : Item) (r : RefutationParts) → ds' ≡ ds → ls' ≡ ls → e' ≡ e → IsCone root ds' ls' e' r → IsCone root ds ls e r
same_cone root ds ds' ls ls' e e' r f g h k = subst (λ e. IsCone root ds ls e r) h (subst (λ ls. IsCone root ds ls e' r) g (subst (λ ds. IsCone root ds ls' e' r) f k))

-- a tail step that is refused is stopped
pub tail_stopped_by : (c : CaseState) (s : List Term) (i : ℕ) (fault : PolyFault) (stop : Stop) (why : OpenCause) (v : ℕ) → IsBranchFault c s true (Some i) fault → fault ≢ OutOfMemory → ((cs : List Term) → IsFault cs fault → IsStoppedBy cs stop why) → main_variable (poly c i) ≡ Some v → stop ≡ record { step = kind.Tail; v = v; q = poly c i; p = s } → IsTailStopped c s i why
tail_stopped_by c s i fault stop why v h n f m e = each fault h n f
  where
    same_variable : (v w : ℕ) → Some v ≡ Some w → v ≡ w
    same_variable v w e = cc e

    stopped : (fault : PolyFault) → IsTailRefused c s i fault → ((cs : List Term) → IsFault cs fault → IsStoppedBy cs stop why) → IsTailStopped c s i why
    stopped fault r g =
        let own : stop ≡ record { step = kind.Tail; v = r.v; q = poly c i; p = s } = e ∙ ap (λ (v : ℕ). let t : Stop = record { step = kind.Tail; v = v; q = poly c i; p = s } in t) (same_variable v r.v (sym m ∙ r.initial.main)) in
        record { v = r.v; u = r.u; initial = r.initial; stopped = subst (λ (t : Stop). IsStoppedBy (tail_contributions r.v (poly c i) r.u s) t why) own (g (tail_contributions r.v (poly c i) r.u s) r.fault) }

    each : (fault : PolyFault) → IsBranchFault c s true (Some i) fault → fault ≢ OutOfMemory → ((cs : List Term) → IsFault cs fault → IsStoppedBy cs stop why) → IsTailStopped c s i why
    each OutOfMemory h n g = absurd (n refl)
    each (Degree w) h n g = stopped (Degree w) h g
    each (Heavy w) h n g = stopped (Heavy w) h g

pub same_good : (root : List (List Term)) (c : CaseState) (ds : List Decision) (ls : List Line) (es : List (List Term)) (end : LeafEnd) → ds ≡ c.decisions → ls ≡ c.lines → es ≡ polys c → GoodLeaf root (leaf_of c end) → GoodLeaf root (record { decisions = ds; lines = ls; equations = es; end = end })
same_good root c ds ls es end d l p g =
    subst (λ ds. GoodLeaf root (record { decisions = ds; lines = ls; equations = es; end = end })) (sym d)
    (subst (λ ls. GoodLeaf root (record { decisions = c.decisions; lines = ls; equations = es; end = end })) (sym l)
    (subst (λ es. GoodLeaf root (record { decisions = c.decisions; lines = c.lines; equations = es; end = end })) (sym p) g))

-- a zero remainder of what is not zero has steps
some_steps : (n : List Term) (ss : List Step) → n ≢ [] → rest_of n ss ≡ [] → 1 ≤ length ss
some_steps n [] z e = absurd (z e)
some_steps n (s ∷ ss) z e = omega arith

-- the lines that lead back, with the last of them as the end
module _ (root : List (List Term)) (c : CaseState) (b : Belongs root c) (settled : IsSettled c) (k : ℕ) (place : k < length (known c)) (ss : List Step) (zero : HasZeroRemainder c (condition c k) ss) where
  abbrev pub refuting_lines : List Line
  refuting_lines = c.lines ++ back_lines c (length c.lines) (condition c k) ss

  long : length refuting_lines ≡ length c.lines + length ss
  long = length-append c.lines (back_lines c (length c.lines) (condition c k) ss) ∙ ap (λ n. length c.lines + n) (back_length c (length c.lines) (condition c k) ss)

  pub some_lines : 1 ≤ length refuting_lines
  some_lines = let l = some_steps (condition c k) ss (condition_some root c k b place) zero.zero in omega (arith, l, long)

  pub refutes_by : (last : ℕ) → last + 1 ≡ length refuting_lines → Refutes root c.decisions refuting_lines (item.Line last)
  refutes_by last e = (refuted_by root c k last ss b settled place zero (e ∙ long) (condition_some root c k b place)).refutes

  pub refutation_by : (last : ℕ) (r : RefutationParts) → last + 1 ≡ length refuting_lines → IsCone root c.decisions refuting_lines (item.Line last) r → IsRefutation root c k r
  refutation_by last r e h = record { steps = ss; remainder = zero; last = last; last_is = e ∙ long; cone = h }

-- a case whose step is stopped ends as a leaf
pub same_stop : (cs : List Term) (v : ℕ) (q q' p p' : List Term) (why : OpenCause) → q ≡ q' → p ≡ p' → IsStoppedBy cs (record { step = kind.Reduce; v = v; q = q; p = p }) why → IsStoppedBy cs (record { step = kind.Reduce; v = v; q = q'; p = p' }) why
same_stop cs v q q' p p' why e f h =
    subst (λ p. IsStoppedBy cs (record { step = kind.Reduce; v = v; q = q'; p = p }) why) f (subst (λ q. IsStoppedBy cs (record { step = kind.Reduce; v = v; q = q; p = p }) why) e h)

pub reduction_stopped_end : (root : List (List Term)) (budget : ℕ) (c : CaseState) (q p v : ℕ) (why : OpenCause) (leaf : LeafParts) → IsAlive c → IsMove c (move_.Reduce q p v) → c.moves < budget → IsReductionStopped c q p v why → leaf ≡ leaf_of c (leaf_end.Open why) → IsEnd root budget c (outcome.Leaf leaf)
reduction_stopped_end root budget c q p v why leaf a m l s e = subst (λ (leaf : LeafParts). IsEnd root budget c (outcome.Leaf leaf)) (sym e) (reduction_stopped c q p v why a m l s)

pub tail_stopped_end : (root : List (List Term)) (budget : ℕ) (c : CaseState) (s : List Term) (i : ℕ) (why : OpenCause) (leaf : LeafParts) → IsAlive c → IsMove c (move_.Split s (Some i)) → c.moves < budget → IsTailStopped c s i why → leaf ≡ leaf_of c (leaf_end.Open why) → IsEnd root budget c (outcome.Leaf leaf)
tail_stopped_end root budget c s i why leaf a m l t e = subst (λ (leaf : LeafParts). IsEnd root budget c (outcome.Leaf leaf)) (sym e) (tail_stopped c s i why a m l t)

pub triangular_end : (root : List (List Term)) (budget : ℕ) (c : CaseState) (leaf : LeafParts) → IsAlive c → IsSettled c → None_has (IsRefutedAt c) → leaf ≡ leaf_of c leaf_end.Triangular → IsEnd root budget c (outcome.Leaf leaf)
triangular_end root budget c leaf a s n e = subst (λ (leaf : LeafParts). IsEnd root budget c (outcome.Leaf leaf)) (sym e) (triangular c a s n)

pub spent_end : (root : List (List Term)) (budget : ℕ) (c : CaseState) (m : Move) (leaf : LeafParts) → IsAlive c → IsMove c m → budget ≤ c.moves → leaf ≡ leaf_of c (leaf_end.Open cause.Budget) → IsEnd root budget c (outcome.Leaf leaf)
spent_end root budget c m leaf a h w e = subst (λ (leaf : LeafParts). IsEnd root budget c (outcome.Leaf leaf)) (sym e) (spent c m a h w)
