-- The form of a problem file, over the value that its JSON text has.
use Rattle.std.specs.Prelude.{◌≡◌, ℕ, ◌+◌, Bool, true, false, ◌||◌, ◌&&◌, if◌then◌else◌, is_some, Option, Some, None, option_map, option_and_then, List, [], ◌∷◌, ◌++◌, map, codes}
use Rattle.std.specs.Str.{bytes_eq}
use Rattle.std.specs.Option.{unwrap_or}
use Rattle.serde_json.specs.Data.{Data, Items, no_items, item, Members, no_members, member}
use Rattle.serde_json.specs.Find.{get, as_number, as_u64, as_array, as_object, as_str}
use Rattle.fusion_ring.specs.declared.Triple.{Triple}
use Rattle.symbol_index.specs.declared.Symbol.{Symbol}
use Rattle.symbol_index.specs.declared.Symbol.TheVariants.{Fsym, Rsym}
use Rattle.ring_file.specs.declared.problem.Place.{Place}
use Rattle.ring_file.specs.declared.problem.Place.TheVariants.{Top, Labels, Products, Product, Gauge, GaugeEntry, Name, Member}
use Rattle.ring_file.specs.declared.problem.ProblemFault.{ProblemFault}
use Rattle.ring_file.specs.declared.problem.ProblemFault.TheVariants.{NotJson, Shape, Ring, GaugeNumber, GaugeSymbol, OutOfMemory}

-- ---- the parts

-- a whole number from 0 that fits 64 bits
abbrev pub number_of : Data → Option ℕ
number_of d = option_and_then as_u64 (as_number d)

-- the value is this text
abbrev pub is_text : List ℕ → Data → Bool
is_text text d = unwrap_or (option_map (λ s. bytes_eq s text) (as_str d)) false

abbrev pub list_of : Items → List Data
list_of no_items = []
list_of (item d ds) = d ∷ list_of ds

-- the items of an array
abbrev pub array_of : Data → Option (List Data)
array_of d = option_map list_of (as_array d)

-- three whole numbers
abbrev pub triple_of_list : List Data → Option Triple
triple_of_list (x ∷ y ∷ z ∷ []) = option_and_then (λ a. option_and_then (λ b. option_map (λ c. record { a = a; b = b; c = c }) (number_of z)) (number_of y)) (number_of x)
triple_of_list _ = None

abbrev pub triple_of : Data → Option Triple
triple_of d = option_and_then triple_of_list (array_of d)

-- "F" and six whole numbers: its labels, of any size
abbrev pub f_symbol_of : List Data → Option Symbol
f_symbol_of (kind ∷ u ∷ v ∷ w ∷ x ∷ y ∷ z ∷ []) = if is_text (codes "F") kind then option_and_then (λ a. option_and_then (λ b. option_and_then (λ c. option_and_then (λ d. option_and_then (λ e. option_map (λ f. Fsym a b c d e f) (number_of z)) (number_of y)) (number_of x)) (number_of w)) (number_of v)) (number_of u) else None
f_symbol_of _ = None

-- "R" and three whole numbers
abbrev pub r_symbol_of : List Data → Option Symbol
r_symbol_of (kind ∷ x ∷ y ∷ z ∷ []) = if is_text (codes "R") kind then option_and_then (λ a. option_and_then (λ b. option_map (λ c. Rsym a b c) (number_of z)) (number_of y)) (number_of x) else None
r_symbol_of _ = None

abbrev pub or_else : {T : Type 0} → Option T → Option T → Option T
or_else None o = o
or_else (Some x) o = Some x

abbrev pub symbol_of_list : List Data → Option Symbol
symbol_of_list ds = or_else (f_symbol_of ds) (r_symbol_of ds)

abbrev pub symbol_of : Data → Option Symbol
symbol_of d = option_and_then symbol_of_list (array_of d)

-- each member's name passes the test
abbrev pub all_named : (List ℕ → Bool) → Members → Bool
all_named test no_members = true
all_named test (member name d ms) = test name && all_named test ms

-- an object whose members' names all pass the test
abbrev pub has_only : (List ℕ → Bool) → Data → Bool
has_only test d = unwrap_or (option_map (all_named test) (as_object d)) false

abbrev pub is_entry_name : List ℕ → Bool
is_entry_name name = bytes_eq name (codes "symbol") || bytes_eq name (codes "value")

abbrev pub is_file_name : List ℕ → Bool
is_file_name name = bytes_eq name (codes "labels") || bytes_eq name (codes "products") || bytes_eq name (codes "gauge") || bytes_eq name (codes "name")

-- an object with exactly the members `symbol` and `value`: the symbol, and the value's text
abbrev pub entry_of : Data → Option (Symbol × List ℕ)
entry_of d = if has_only is_entry_name d then option_and_then (λ symbol. option_map (λ text. (symbol, text)) (option_and_then as_str (get (codes "value") d))) (option_and_then symbol_of (get (codes "symbol") d)) else None

-- ---- the whole

abbrev pub labels_of : Data → Option ℕ
labels_of d = option_and_then number_of (get (codes "labels") d)

abbrev pub products_in : Data → Option (List Data)
products_in d = option_and_then array_of (get (codes "products") d)

-- the items of an array, and none where there is no value
abbrev pub array_if_there : Option Data → Option (List Data)
array_if_there None = Some []
array_if_there (Some d) = array_of d

-- the items of the gauge, and none where there is no such member
abbrev pub gauge_in : Data → Option (List Data)
gauge_in d = array_if_there (get (codes "gauge") d)

-- the name is a text, or there is none
abbrev pub has_name_form : Data → Bool
has_name_form d = unwrap_or (option_map (λ e. is_some (as_str e)) (get (codes "name") d)) true

abbrev pub items_or_none : Option (List Data) → List Data
items_or_none o = unwrap_or o []

-- each item, with whether it passes the test, and its place
abbrev pub numbered : (ℕ → Place) → (Data → Bool) → ℕ → List Data → List (Place × Bool)
numbered place test n [] = []
numbered place test n (d ∷ ds) = (place n, test d) ∷ numbered place test (n + 1) ds

-- the first place that has not its form
abbrev pub first_failing : List (Place × Bool) → Option Place
first_failing [] = None
first_failing (c ∷ cs) = if c.1 then first_failing cs else Some c.0

-- the products, from the number n on, and the gauge entries
abbrev pub product_checks : ℕ → List Data → List (Place × Bool)
product_checks n ds = numbered Product (λ d. is_some (triple_of d)) n ds

abbrev pub entry_checks : ℕ → List Data → List (Place × Bool)
entry_checks n ds = numbered GaugeEntry (λ d. is_some (entry_of d)) n ds

-- the places of a file in their order, each with whether it has its form
abbrev pub checks : Data → List (Place × Bool)
checks d =
    (Top, is_some (as_object d)) ∷ (Labels, is_some (labels_of d)) ∷ (Products, is_some (products_in d))
    ∷ (product_checks 0 (items_or_none (products_in d)) ++ (Gauge, is_some (gauge_in d))
    ∷ (entry_checks 0 (items_or_none (gauge_in d)) ++ (Name, has_name_form d) ∷ (Member, has_only is_file_name d) ∷ []))

-- the fault of a form: the first place that fails, or want of memory
abbrev pub IsShapeFault : List (Place × Bool) → ProblemFault → Type 0
IsShapeFault cs NotJson = ⊥
IsShapeFault cs (Shape place) = first_failing cs ≡ Some place
IsShapeFault cs (Ring fault) = ⊥
IsShapeFault cs (GaugeNumber entry) = ⊥
IsShapeFault cs (GaugeSymbol entry) = ⊥
IsShapeFault cs OutOfMemory = Unit {0}

-- what a file states: labels, products, and for each gauge entry its symbol and its value's text
pub record File : Type 0 where
  pub labels : ℕ
  pub products : List Triple
  pub gauge : List (Symbol × List ℕ)

-- each place has its form, and the file states this
pub record IsFile (d : Data) (file : File) : Type 0 where
  pub form : first_failing (checks d) ≡ None
  pub labels : labels_of d ≡ Some file.labels
  pub products : map triple_of (items_or_none (products_in d)) ≡ map Some file.products
  pub gauge : map entry_of (items_or_none (gauge_in d)) ≡ map Some file.gauge
