-- Tuples of labels, listed one label after the other.
use Rattle.std.specs.Prelude.{◌≡◌, ℕ, zero, suc, Bool, if◌then◌else◌, Option, Some, None, List, [], ◌∷◌, ◌++◌, flat_map, filter_map, find, count_by, not, refl}

-- 0, 1, .. n - 1
abbrev pub below : ℕ → List ℕ
below zero = []
below (suc n) = below n ++ n ∷ []

-- each of the tuples with each label below n that the step takes, in order
abbrev pub extended : {T U : Type 0} → (T → ℕ → Option U) → List T → ℕ → List U
extended step ts n = flat_map (λ t. filter_map (step t) (below n)) ts

-- each answer is that of the step
abbrev pub Computes : {T U : Type 0} → (T → ℕ → Option U → Type 0) → (T → ℕ → Option U) → Type 0
Computes {T} {U} answers step = (t : T) (x : ℕ) (o : Option U) → answers t x o → o ≡ step t x

-- the found tuples are those of the list, for the step that the answers compute
abbrev pub Follows : {T U : Type 0} → (T → ℕ → Option U → Type 0) → List U → ((T → ℕ → Option U) → List U) → Type 0
Follows {T} {U} answers found list = (step : T → ℕ → Option U) → Computes answers step → found ≡ list step

-- a longer tuple is a shorter one and its last label
pub record Longer (T U : Type 0) : Type 0 where
  pub make : T → ℕ → U
  pub front : U → T
  pub last : U → ℕ
  pub front_is : (t : T) (x : ℕ) → front (make t x) ≡ t
  pub last_is : (t : T) (x : ℕ) → last (make t x) ≡ x
  pub make_is : (u : U) → make (front u) (last u) ≡ u

-- the longer tuple, where it passes the test
abbrev pub kept : {T U : Type 0} → (T → ℕ → U) → (U → Bool) → T → ℕ → Option U
kept make test t x = if test (make t x) then Some (make t x) else None

-- each tuple with each label below n, in order
abbrev pub every : {T U : Type 0} → (T → ℕ → U) → List T → ℕ → List U
every make ts n = extended (λ t x. Some (make t x)) ts n

-- the first label, and one label more
abbrev pub singles : Longer (Unit {0}) ℕ
singles = record { make = λ t x. x; front = λ u. tt; last = λ u. u; front_is = λ t x. refl; last_is = λ t x. refl; make_is = λ u. refl }

abbrev pub pairs : Longer ℕ (ℕ × ℕ)
pairs = record { make = λ t x. (t, x); front = λ u. u.0; last = λ u. u.1; front_is = λ t x. refl; last_is = λ t x. refl; make_is = λ u. refl }

abbrev pub triples : Longer (ℕ × ℕ) (ℕ × ℕ × ℕ)
triples = record { make = λ t x. (t.0, t.1, x); front = λ u. (u.0, u.1); last = λ u. u.2; front_is = λ t x. refl; last_is = λ t x. refl; make_is = λ u. refl }

abbrev pub fours : Longer (ℕ × ℕ × ℕ) (ℕ × ℕ × ℕ × ℕ)
fours = record { make = λ t x. (t.0, t.1, t.2, x); front = λ u. (u.0, u.1, u.2); last = λ u. u.3; front_is = λ t x. refl; last_is = λ t x. refl; make_is = λ u. refl }

abbrev pub fives : Longer (ℕ × ℕ × ℕ × ℕ) (ℕ × ℕ × ℕ × ℕ × ℕ)
fives = record { make = λ t x. (t.0, t.1, t.2, t.3, x); front = λ u. (u.0, u.1, u.2, u.3); last = λ u. u.4; front_is = λ t x. refl; last_is = λ t x. refl; make_is = λ u. refl }

abbrev pub sixes : Longer (ℕ × ℕ × ℕ × ℕ × ℕ) (ℕ × ℕ × ℕ × ℕ × ℕ × ℕ)
sixes = record { make = λ t x. (t.0, t.1, t.2, t.3, t.4, x); front = λ u. (u.0, u.1, u.2, u.3, u.4); last = λ u. u.5; front_is = λ t x. refl; last_is = λ t x. refl; make_is = λ u. refl }

abbrev pub sevens : Longer (ℕ × ℕ × ℕ × ℕ × ℕ × ℕ) (ℕ × ℕ × ℕ × ℕ × ℕ × ℕ × ℕ)
sevens = record { make = λ t x. (t.0, t.1, t.2, t.3, t.4, t.5, x); front = λ u. (u.0, u.1, u.2, u.3, u.4, u.5); last = λ u. u.6; front_is = λ t x. refl; last_is = λ t x. refl; make_is = λ u. refl }

abbrev pub eights : Longer (ℕ × ℕ × ℕ × ℕ × ℕ × ℕ × ℕ) (ℕ × ℕ × ℕ × ℕ × ℕ × ℕ × ℕ × ℕ)
eights = record { make = λ t x. (t.0, t.1, t.2, t.3, t.4, t.5, t.6, x); front = λ u. (u.0, u.1, u.2, u.3, u.4, u.5, u.6); last = λ u. u.7; front_is = λ t x. refl; last_is = λ t x. refl; make_is = λ u. refl }

-- all tuples of labels below n, in lexicographic order
abbrev pub all_singles : ℕ → List ℕ
all_singles n = every singles.make (tt ∷ []) n

abbrev pub all_pairs : ℕ → List (ℕ × ℕ)
all_pairs n = every pairs.make (all_singles n) n

abbrev pub all_triples : ℕ → List (ℕ × ℕ × ℕ)
all_triples n = every triples.make (all_pairs n) n

abbrev pub all_fours : ℕ → List (ℕ × ℕ × ℕ × ℕ)
all_fours n = every fours.make (all_triples n) n

abbrev pub all_fives : ℕ → List (ℕ × ℕ × ℕ × ℕ × ℕ)
all_fives n = every fives.make (all_fours n) n

abbrev pub all_sixes : ℕ → List (ℕ × ℕ × ℕ × ℕ × ℕ × ℕ)
all_sixes n = every sixes.make (all_fives n) n

-- the first element at which the test that the answers compute fails
abbrev pub IsFirstFault : {T : Type 0} → (T → Bool → Type 0) → List T → Option T → Type 0
IsFirstFault {T} answers ts o = (holds : T → Bool) → ((t : T) (b : Bool) → answers t b → b ≡ holds t) → o ≡ find (λ t. not (holds t)) ts

-- the same first fault stands in the rest
abbrev pub FaultIsIn : {T : Type 0} → (T → Bool → Type 0) → List T → List T → Type 0
FaultIsIn {T} answers ts rest = (holds : T → Bool) → ((t : T) (b : Bool) → answers t b → b ≡ holds t) → find (λ t. not (holds t)) ts ≡ find (λ t. not (holds t)) rest

-- the count of the labels below n that pass the test that the answers compute
abbrev pub IsCount : (ℕ → Bool → Type 0) → ℕ → ℕ → Type 0
IsCount answers n count = (test : ℕ → Bool) → ((x : ℕ) (b : Bool) → answers x b → b ≡ test x) → count ≡ count_by test (below n)
