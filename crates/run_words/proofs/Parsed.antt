-- The command is one whose parse is known.
use Rattle.std.specs.Prelude.{◌≡◌, ◌≤◌, ℕ, true, Bool, Option, None, Some, List, [], codes, refl}
use Rattle.std.proofs.Common.{sym, ◌∙◌, ap, subst, inl, inr, arith}
use Rattle.clap.specs.Words.{HasKind, IsAmong, Kinds, Text, fault_of, matches_of, first_of, first_value, is_simple, is_simple_and_free, kind_of, rows_of}
use Rattle.clap.specs.declared.error.Error.{Error}
use Rattle.clap.specs.declared.error.kind.ErrorKind.TheVariants.{OutOfMemory}
use Rattle.clap.specs.declared.parser.matches.Found.{Found}
use Rattle.clap.proofs.OnLiterals.{clap_on_literals}
use Rattle.clap.proofs.WalkLemmas.{first_value-rows}
use Rattle.run_words.specs.Words.{command, named, Takes, Given, is_given, given_in, given, IsNumberOf, IsMadeBy, IsMadeInRange, AsksFor, AreInRange, IsFirstFault, IsSettings, IsGivenFault, IsUsageFault}
use Rattle.run_words.specs.declared.settings.Made.{Made}
use Rattle.run_words.specs.declared.settings.Settings.{Settings}
use Rattle.run_words.specs.declared.settings.UsageKind.{UsageKind}
use Rattle.run_words.specs.declared.settings.UsageKind.TheVariants.{Words, Workers, Budget, Make, Summary}

pub simple : is_simple command ≡ true
unfolding command clap_on_literals
simple = refl

pub simple_and_free : is_simple_and_free command ≡ true
unfolding command clap_on_literals
simple_and_free = refl

abbrev pub five : Option Text → Option Text → Bool → Option Text → Option Text → Given
five workers budget summary cyclic cube = record { workers = workers; budget = budget; summary = summary; cyclic = cyclic; cube = cube }

pub read_in : (f : Found) (w b c k s : Option Text) → w ≡ first_value f (codes "workers") → b ≡ first_value f (codes "budget")
    → s ≡ first_value f (codes "summary") → c ≡ first_value f (codes "cyclic") → k ≡ first_value f (codes "cube")
    → five w b (is_given s) c k ≡ given_in (rows_of f)
read_in f w b c k s p q r t u =
    ap (λ o. five o b (is_given s) c k) (p ∙ first_value-rows f (codes "workers"))
    ∙ ap (λ o. five (first_of (codes "workers") (rows_of f)) o (is_given s) c k) (q ∙ first_value-rows f (codes "budget"))
    ∙ ap (λ o. five (first_of (codes "workers") (rows_of f)) (first_of (codes "budget") (rows_of f)) (is_given o) c k) (r ∙ first_value-rows f (codes "summary"))
    ∙ ap (λ o. five (first_of (codes "workers") (rows_of f)) (first_of (codes "budget") (rows_of f)) (is_given (first_of (codes "summary") (rows_of f))) o k) (t ∙ first_value-rows f (codes "cyclic"))
    ∙ ap (λ o. five (first_of (codes "workers") (rows_of f)) (first_of (codes "budget") (rows_of f)) (is_given (first_of (codes "summary") (rows_of f))) (first_of (codes "cyclic") (rows_of f)) o) (u ∙ first_value-rows f (codes "cube"))

-- an error that is not one of memory has a kind
pub no_kind : (kinds : Kinds) (e : Error) → kinds ≡ [] → (kind_of e ≡ OutOfMemory → ⊥) → HasKind kinds e → ⊥
no_kind kinds e none other has = elim has [ inl memory ↦ other memory | inr among ↦ subst (IsAmong (kind_of e)) none among ]

-- ---- what the texts ask for is what the words ask for

module _ (words all : List Text) (g : Given) (named_are : all ≡ named words) (takes : fault_of command all ≡ []) (texts : g ≡ given_in (matches_of command all)) where
  taken : Takes words
  taken = subst (λ (ws : List Text). fault_of command ws ≡ []) named_are takes

  are_given : g ≡ given words
  unfolding given
  are_given = texts ∙ ap (λ (ws : List Text). given_in (matches_of command ws)) named_are

  pub settings_hold : (s : Settings) → AsksFor g s → IsSettings words s
  settings_hold s asks = record { takes = taken; asks = subst (λ (h : Given). AsksFor h s) are_given asks }

  given_fault : (kind : UsageKind) → IsFirstFault g kind → IsGivenFault words kind
  given_fault kind fault = record { takes = taken; fault = subst (λ (h : Given). IsFirstFault h kind) are_given fault }

  pub fault_holds : (kind : UsageKind) → IsFirstFault g kind → IsUsageFault words kind
  fault_holds Words fault = absurd fault
  fault_holds Workers fault = given_fault Workers fault
  fault_holds Budget fault = given_fault Budget fault
  fault_holds Make fault = given_fault Make fault
  fault_holds Summary fault = given_fault Summary fault

-- ---- settings that are asked for are in range

number_in : (least most default : ℕ) (o : Option Text) (n : ℕ) → least ≤ default → default ≤ most → IsNumberOf least most default o n → (least ≤ n) × (n ≤ most)
number_in least most default None n low high is = (omega (arith, is), omega (arith, is))
number_in least most default (Some text) n low high is = (is.at_least, is.at_most)

made_in : (cyclic cube : Option Text) (made : Option Made) → IsMadeBy cyclic cube made → IsMadeInRange made
made_in None None made is = subst IsMadeInRange (sym is) tt
made_in (Some text) None made is = subst IsMadeInRange (sym is.2) (is.1.at_least, is.1.at_most)
made_in None (Some text) made is = subst IsMadeInRange (sym is.2) is.1.at_most
made_in (Some text) (Some other) made is = absurd is

pub in_range : (g : Given) (s : Settings) → AsksFor g s → AreInRange s
in_range g s asks =
    let workers = number_in 1 64 1 g.workers s.workers (omega arith) (omega arith) asks.workers in
    record {
      some_worker = workers.0;
      few_workers = workers.1;
      budget = (number_in 0 1000000 2000 g.budget s.budget (omega arith) (omega arith) asks.budget).1;
      made = made_in g.cyclic g.cube s.made asks.made;
      alone = asks.alone;
    }
