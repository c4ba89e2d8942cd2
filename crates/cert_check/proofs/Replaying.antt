-- What each entry changes of what a replay keeps.
use Rattle.std.specs.Prelude.{◌≡◌, ◌≢◌, ◌<◌, ◌≤◌, ◌+◌, ◌==◌, ◌⊎◌, ℕ, zero, suc, Bool, true, false, List, [], ◌∷◌, ◌++◌, length, slice_get, slice_set, MatchOption, option_copied}
use Rattle.std.specs.declared.option.Option.{Option}
use Rattle.std.specs.declared.option.Option.TheVariants.{None, Some}
use Rattle.std.specs.Slice.{IsItemAt}
use denote.Ref.{Bor}
use Rattle.std.proofs.Common.{arith, refl, sym, ◌∙◌, ap, subst, inl, inr, length-append}
use Rattle.std.proofs.lemmas.List.{length-set}
use Rattle.std.proofs.lemmas.Option.{none-some, same_Some, slice_get_within, slice_get_read}
use Rattle.sparse_poly.specs.declared.Term.{Term}
use Rattle.derive_lines.specs.declared.parts.Decision.{Decision}
use Rattle.derive_lines.specs.declared.parts.Line.{Line}
use Rattle.derive_lines.specs.declared.parts.Item.{Item}
use Rattle.derive_lines.specs.Refuting.{decided, Refutes}
use Rattle.refute_store.specs.Live.{IsPattern}
use Rattle.refute_cert.proofs.Pushes.{get_before, get_last}
use Rattle.leaf_cert.specs.declared.certificate.RawEntry.{RawEntry}
use Rattle.leaf_cert.specs.declared.certificate.RawEntry.TheVariants.{Split, Post}
use Rattle.case_history.specs.History.{Placed, settles, fate, case_decisions, cases_made, decisions_of, patterns, IsPending}
use Rattle.case_history.specs.Replay.{MayCome}
use Rattle.case_history.proofs.Numbers.{not_same, are_apart, numbers_are}
use Rattle.case_history.proofs.Fates.{fate-other, fate-same, made-split, decisions_kept, decisions-left, decisions-right, unmade}
use Rattle.cert_check.specs.Kept.{ReplayParts, lists_of, kept_of, IsReplay}
use Rattle.cert_check.proofs.Lists.{get-set_same, get-set_other}

pub lists_of-push : (ps : List (Bor (List Decision))) (p : Bor (List Decision)) → lists_of (ps ++ p ∷ []) ≡ lists_of ps ++ p.now ∷ []
lists_of-push [] p = refl
lists_of-push (q ∷ ps) p = ap (λ (qs : List (List Decision)). q.now ∷ qs) (lists_of-push ps p)

pub lists_of-length : (ps : List (Bor (List Decision))) → length (lists_of ps) ≡ length ps
lists_of-length [] = refl
lists_of-length (p ∷ ps) = ap suc (lists_of-length ps)

pub lists_of-get : (ps : List (Bor (List Decision))) (k : ℕ) (p : Bor (List Decision)) → slice_get ps k ≡ Some p → slice_get (lists_of ps) k ≡ Some p.now
lists_of-get [] k p is = absurd (none-some p is)
lists_of-get (q ∷ ps) zero p is = ap (λ (b : Bor (List Decision)). Some b.now) (same_Some q p is)
lists_of-get (q ∷ ps) (suc k) p is = lists_of-get ps k p is

pub pattern_at : (ps : List (Bor (List Decision))) (k : ℕ) (r : Option (Bor (Bor (List Decision)))) → IsItemAt ps k r → MatchOption (option_copied r) (length (lists_of ps) ≤ k) (λ (p : Bor (List Decision)). slice_get (lists_of ps) k ≡ Some p.now)
pattern_at ps k None h = rw (lists_of-length ps) h.3
pattern_at ps k (Some x) h = lists_of-get ps k x.now (slice_get_read ps (length ps) k x.now refl h.3.0 h.1)

-- the same parts, written otherwise
pub with_parts : (root : List (List Term)) (h : List RawEntry) (a c : List (Option (List Decision))) (b d : List (List Decision)) → IsReplay root h (record { cases = a; stored = b }) → c ≡ a → d ≡ b → IsReplay root h (record { cases = c; stored = d })
with_parts root h a c b d r e f = subst (λ (s : List (List Decision)). IsReplay root h (record { cases = c; stored = s })) (sym f) (subst (λ (cs : List (Option (List Decision))). IsReplay root h (record { cases = cs; stored = b })) (sym e) r)

module _ (root : List (List Term)) (h : List RawEntry) (k : ReplayParts) (r : IsReplay root h k) where
  -- a case whose decisions are kept is pending, and has these decisions
  pub pending_is : (n : ℕ) (ds : List Decision) → slice_get k.cases n ≡ Some (Some ds) → IsPending h n × (ds ≡ decisions_of h n)
  pending_is n ds is = go (fate h n) refl
    where
      lt : n < cases_made h
      lt = omega (arith, r.made, slice_get_within k.cases n (Some ds) is)

      go : (f : Option Placed) → fate h n ≡ f → IsPending h n × (ds ≡ decisions_of h n)
      go f e = at f e (same_Some (Some ds) (kept_of f (decisions_of h n)) (sym is ∙ (r.each n lt ∙ ap (λ (g : Option Placed). Some (kept_of g (decisions_of h n))) e)))
        where
          at : (f : Option Placed) → fate h n ≡ f → Some ds ≡ kept_of f (decisions_of h n) → IsPending h n × (ds ≡ decisions_of h n)
          at None e kept = (record { made = lt; unsettled = e }, same_Some ds (decisions_of h n) kept)
          at (Some p) e kept = absurd (none-some ds (sym kept))

  pub pattern_is : (j : ℕ) (p : List Decision) → slice_get k.stored j ≡ Some p → IsPattern (patterns h) j p
  pattern_is j p is = subst (λ (ps : List (List Decision)). slice_get ps j ≡ Some p) r.stored_are is

  -- what is kept of the cases made before, where an entry settles case n
  settled_each : (e : RawEntry) (n : ℕ) → IsPending h n → ((m : ℕ) → settles e m ≡ (n == m)) → (m : ℕ) → m < cases_made h → slice_get (slice_set k.cases n None) m ≡ Some (kept_of (fate (e ∷ h) m) (decisions_of (e ∷ h) m))
  settled_each e n p is m lt = go (n == m) refl
    where
      goes : Option Placed → Type 0
      goes f = slice_get (slice_set k.cases n None) m ≡ Some (kept_of f (decisions_of (e ∷ h) m))

      go : (b : Bool) → (n == m) ≡ b → slice_get (slice_set k.cases n None) m ≡ Some (kept_of (fate (e ∷ h) m) (decisions_of (e ∷ h) m))
      go true t =
          let gone : slice_get (slice_set k.cases n None) n ≡ Some None = get-set_same k.cases n None (omega (arith, r.made, p.made)) in
          subst (λ (i : ℕ). slice_get (slice_set k.cases n None) i ≡ Some None) (numbers_are n m t) gone ∙ sym (ap (λ (f : Option Placed). Some (kept_of f (decisions_of (e ∷ h) m))) (fate-same e h m (is m ∙ t)))
      go false t =
          get-set_other k.cases n m None (are_apart n m t) ∙ (r.each m lt ∙ sym (ap (λ (f : Option Placed). Some (kept_of f (decisions_of (e ∷ h) m))) (fate-other e h m (is m ∙ t)) ∙ ap (λ (ds : List Decision). Some (kept_of (fate h m) ds)) (decisions_kept e h m lt)))

  -- an entry that settles case n, and changes nothing else
  pub replay_settled : (e : RawEntry) (n : ℕ) → MayCome root h e → IsPending h n → ((m : ℕ) → settles e m ≡ (n == m)) → case_decisions (e ∷ h) ≡ case_decisions h → patterns (e ∷ h) ≡ patterns h → IsReplay root (e ∷ h) (record { cases = slice_set k.cases n None; stored = k.stored })
  replay_settled e n may p is cases_are patterns_are = record {
    replays = (may, r.replays);
    made = length-set k.cases n None ∙ (r.made ∙ sym (ap length cases_are));
    each = λ m lt. settled_each e n p is m (subst (λ (l : ℕ). m < l) (ap length cases_are) lt);
    stored_are = r.stored_are ∙ sym patterns_are;
  }

  pub replay_posted : (ds : List Decision) (ls : List Line) (end : Item) → Refutes root ds ls end → IsReplay root (Post ds ls end ∷ h) (record { cases = k.cases; stored = k.stored ++ ds ∷ [] })
  replay_posted ds ls end good = record {
    replays = (good, r.replays);
    made = r.made;
    each = r.each;
    stored_are = ap (λ (ps : List (List Decision)). ps ++ ds ∷ []) r.stored_are;
  }

  -- the two cases that a split makes
  replay_split : (n : ℕ) (by : List Term) (ds : List Decision) → slice_get k.cases n ≡ Some (Some ds) → IsReplay root (Split n by ∷ h) (record { cases = (slice_set k.cases n None ++ Some (decided ds by true) ∷ []) ++ Some (decided ds by false) ∷ []; stored = k.stored })
  replay_split n by ds is = record {
    replays = (pending, r.replays);
    made = omega (arith, made-split h n by, length-append two (Some (decided ds by false) ∷ []), length-append one (Some (decided ds by true) ∷ []), long);
    each = λ m lt. either m (places m (cases_made h) (omega (arith, lt, made-split h n by)));
    stored_are = r.stored_are;
  }
    where
      one : List (Option (List Decision))
      one = slice_set k.cases n None

      two : List (Option (List Decision))
      two = slice_set k.cases n None ++ Some (decided ds by true) ∷ []

      pending : IsPending h n
      pending = (pending_is n ds is).0

      long : length one ≡ cases_made h
      long = length-set k.cases n None ∙ r.made

      places : (m l : ℕ) → m < l + 2 → (m < l) ⊎ ((m ≡ l) ⊎ (m ≡ l + 1))
      places m l lt = grind arith

      -- a new case is pending
      fresh : (m : ℕ) → cases_made h ≤ m → fate (Split n by ∷ h) m ≡ None
      fresh m le =
          let apart : n ≢ m = λ e. absurd (omega (arith, e, le, pending.made)) in
          fate-other (Split n by) h m (not_same n m apart) ∙ unmade root h m r.replays le

      made_so : (m : ℕ) (is_zero : Bool) → cases_made h ≤ m → decisions_of (Split n by ∷ h) m ≡ decided (decisions_of h n) by is_zero → Some (Some (decided ds by is_zero)) ≡ Some (kept_of (fate (Split n by ∷ h) m) (decisions_of (Split n by ∷ h) m))
      made_so m is_zero le are =
          ap (λ (es : List Decision). Some (Some (decided es by is_zero))) (pending_is n ds is).1
          ∙ (ap (λ (es : List Decision). Some (Some es)) (sym are)
          ∙ sym (ap (λ (f : Option Placed). Some (kept_of f (decisions_of (Split n by ∷ h) m))) (fresh m le)))

      either : (m : ℕ) → (m < cases_made h) ⊎ ((m ≡ cases_made h) ⊎ (m ≡ cases_made h + 1)) → slice_get (two ++ Some (decided ds by false) ∷ []) m ≡ Some (kept_of (fate (Split n by ∷ h) m) (decisions_of (Split n by ∷ h) m))
      either m (inl lt) = get_before two (Some (decided ds by false)) m _ (get_before one (Some (decided ds by true)) m _ (settled_each (Split n by) n pending (λ i. refl) m lt))
      either m (inr (inl e)) =
          get_before two (Some (decided ds by false)) m _ (subst (λ (i : ℕ). slice_get two i ≡ Some (Some (decided ds by true))) (long ∙ sym e) (get_last one (Some (decided ds by true))))
          ∙ made_so m true (omega (arith, e)) (decisions-left h n by m e)
      either m (inr (inr e)) =
          let end : length two ≡ m = omega (arith, e, length-append one (Some (decided ds by true) ∷ []), long) in
          subst (λ (i : ℕ). slice_get (two ++ Some (decided ds by false) ∷ []) i ≡ Some (Some (decided ds by false))) end (get_last two (Some (decided ds by false)))
          ∙ made_so m false (omega (arith, e)) (decisions-right h n by m e)

  -- the same, where the lists are made one after the other
  pub replay_split_by : (n : ℕ) (by : List Term) (ds zs ns : List Decision) (gone one two : List (Option (List Decision))) (stored : List (List Decision)) → slice_get k.cases n ≡ Some (Some ds) → gone ≡ slice_set k.cases n None → zs ≡ decided ds by true → ns ≡ decided ds by false → one ≡ gone ++ Some zs ∷ [] → two ≡ one ++ Some ns ∷ [] → stored ≡ k.stored → IsReplay root (Split n by ∷ h) (record { cases = two; stored = stored })
  replay_split_by n by ds zs ns gone one two stored is e f g a b s = with_parts root (Split n by ∷ h) _ two _ stored (replay_split n by ds is) joined s
    where
      joined : two ≡ (slice_set k.cases n None ++ Some (decided ds by true) ∷ []) ++ Some (decided ds by false) ∷ []
      joined = b ∙ (ap (λ (cs : List (Option (List Decision))). cs ++ Some ns ∷ []) (a ∙ (ap (λ (cs : List (Option (List Decision))). cs ++ Some zs ∷ []) e ∙ ap (λ (es : List Decision). slice_set k.cases n None ++ Some es ∷ []) f)) ∙ ap (λ (es : List Decision). (slice_set k.cases n None ++ Some (decided ds by true) ∷ []) ++ Some es ∷ []) g)
