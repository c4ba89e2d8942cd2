-- The first place of a file that has not its form, step by step.
use Rattle.std.specs.Prelude.{◌≡◌, ℕ, Bool, true, false, is_some, Option, Some, None, List, [], ◌∷◌, ◌++◌, refl}
use Rattle.std.proofs.Common.{sym, ◌∙◌, ap}
use Rattle.serde_json.specs.Data.{Data}
use Rattle.serde_json.specs.Find.{as_object}
use Rattle.ring_file.specs.Files.{checks, product_checks, entry_checks, items_or_none, first_failing, IsShapeFault, labels_of, products_in, gauge_in, has_name_form, has_only, is_file_name}
use Rattle.ring_file.specs.declared.problem.Place.{Place}
use Rattle.ring_file.specs.declared.problem.Place.TheVariants.{Top, Labels, Products, Gauge, Name, Member}
use Rattle.ring_file.specs.declared.problem.ProblemFault.{ProblemFault}
use Rattle.ring_file.specs.declared.problem.ProblemFault.TheVariants.{NotJson, Shape, Ring, GaugeNumber, GaugeSymbol, OutOfMemory}

pub first_failing-none : (xs ys : List (Place × Bool)) → first_failing xs ≡ None → first_failing (xs ++ ys) ≡ first_failing ys
first_failing-none [] ys h = refl
first_failing-none ((p, true) ∷ xs) ys h = first_failing-none xs ys h
first_failing-none ((p, false) ∷ xs) ys h = absurd (cc)

pub first_failing-some : (xs ys : List (Place × Bool)) (q : Place) → first_failing xs ≡ Some q → first_failing (xs ++ ys) ≡ Some q
first_failing-some [] ys q h = absurd (cc)
first_failing-some ((p, true) ∷ xs) ys q h = first_failing-some xs ys q h
first_failing-some ((p, false) ∷ xs) ys q h = h

-- the same first failure makes the same fault
pub same_fault : (xs ys : List (Place × Bool)) (fault : ProblemFault) → first_failing xs ≡ first_failing ys → IsShapeFault ys fault → IsShapeFault xs fault
same_fault xs ys NotJson h k = k
same_fault xs ys (Shape place) h k = h ∙ k
same_fault xs ys (Ring fault) h k = k
same_fault xs ys (GaugeNumber entry) h k = k
same_fault xs ys (GaugeSymbol entry) h k = k
same_fault xs ys OutOfMemory h k = tt

pub within : (xs ys : List (Place × Bool)) (fault : ProblemFault) → IsShapeFault xs fault → IsShapeFault (xs ++ ys) fault
within xs ys NotJson k = k
within xs ys (Shape place) k = first_failing-some xs ys place k
within xs ys (Ring fault) k = k
within xs ys (GaugeNumber entry) k = k
within xs ys (GaugeSymbol entry) k = k
within xs ys OutOfMemory k = tt

abbrev pub name_checks : Data → List (Place × Bool)
name_checks d = (Name, has_name_form d) ∷ (Member, has_only is_file_name d) ∷ []

abbrev pub gauge_checks : Data → List (Place × Bool)
gauge_checks d = (Gauge, is_some (gauge_in d)) ∷ (entry_checks 0 (items_or_none (gauge_in d)) ++ name_checks d)

-- the file is an object with labels and products
pub record HasProducts (d : Data) (n : ℕ) (ps : List Data) : Type 0 where
  pub top : is_some (as_object d) ≡ true
  pub labels : Some n ≡ labels_of d
  pub products : Some ps ≡ products_in d

heads : (top : Bool) (labels : Option ℕ) (products : Option (List Data)) (zs : List (Place × Bool)) (n : ℕ) (ps : List Data) → top ≡ true → Some n ≡ labels → Some ps ≡ products → first_failing ((Top, top) ∷ (Labels, is_some labels) ∷ (Products, is_some products) ∷ (product_checks 0 (items_or_none products) ++ zs)) ≡ first_failing (product_checks 0 ps ++ zs)
heads top labels products zs n ps t e f = rw (t, ← e, ← f) refl

pub at_products : (d : Data) (n : ℕ) (ps : List Data) → HasProducts d n ps → first_failing (checks d) ≡ first_failing (product_checks 0 ps ++ gauge_checks d)
at_products d n ps h = heads (is_some (as_object d)) (labels_of d) (products_in d) (gauge_checks d) n ps h.top h.labels h.products

pub at_gauge : (d : Data) (n : ℕ) (ps : List Data) → HasProducts d n ps → first_failing (product_checks 0 ps) ≡ None → first_failing (checks d) ≡ first_failing (gauge_checks d)
at_gauge d n ps h k = at_products d n ps h ∙ first_failing-none (product_checks 0 ps) (gauge_checks d) k

head : (gauge : Option (List Data)) (zs : List (Place × Bool)) (gs : List Data) → Some gs ≡ gauge → first_failing ((Gauge, is_some gauge) ∷ (entry_checks 0 (items_or_none gauge) ++ zs)) ≡ first_failing (entry_checks 0 gs ++ zs)
head gauge zs gs e = rw (← e) refl

pub no_gauge : (d : Data) → None ≡ gauge_in d → first_failing (gauge_checks d) ≡ Some Gauge
no_gauge d e = ap (λ g. first_failing ((Gauge, is_some g) ∷ (entry_checks 0 (items_or_none g) ++ name_checks d))) (sym e)

pub at_entries : (d : Data) (gs : List Data) → Some gs ≡ gauge_in d → first_failing (gauge_checks d) ≡ first_failing (entry_checks 0 gs ++ name_checks d)
at_entries d gs e = head (gauge_in d) (name_checks d) gs e

pub at_names : (d : Data) (gs : List Data) → Some gs ≡ gauge_in d → first_failing (entry_checks 0 gs) ≡ None → first_failing (gauge_checks d) ≡ first_failing (name_checks d)
at_names d gs e k = at_entries d gs e ∙ first_failing-none (entry_checks 0 gs) (name_checks d) k

pub no_name : (d : Data) → has_name_form d ≡ false → first_failing (name_checks d) ≡ Some Name
no_name d e = ap (λ b. first_failing ((Name, b) ∷ (Member, has_only is_file_name d) ∷ [])) e

pub no_member : (d : Data) → has_name_form d ≡ true → has_only is_file_name d ≡ false → first_failing (name_checks d) ≡ Some Member
no_member d e f = ap (λ b. first_failing ((Name, b) ∷ (Member, has_only is_file_name d) ∷ [])) e ∙ ap (λ b. first_failing ((Name, true) ∷ (Member, b) ∷ [])) f

pub all_named : (d : Data) → has_name_form d ≡ true → has_only is_file_name d ≡ true → first_failing (name_checks d) ≡ None
all_named d e f = ap (λ b. first_failing ((Name, b) ∷ (Member, has_only is_file_name d) ∷ [])) e ∙ ap (λ b. first_failing ((Name, true) ∷ (Member, b) ∷ [])) f
