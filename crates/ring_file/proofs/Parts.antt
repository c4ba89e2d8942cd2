-- An array of more or fewer items than a product or a symbol has is none.
use Rattle.std.specs.Prelude.{◌≡◌, ◌<◌, ◌≤◌, List, [], ◌∷◌, length, None, refl}
use Rattle.std.proofs.Common.{arith}
use Rattle.serde_json.specs.declared.value.Value.{Value}
use Rattle.serde_json.specs.View.{items_view}
use Rattle.ring_file.specs.Files.{list_of, triple_of_list, f_symbol_of, r_symbol_of}

pub triple_if_short : (vs : List Value) → length vs < 3 → None ≡ triple_of_list (list_of (items_view vs))
triple_if_short [] _ = refl
triple_if_short (a ∷ []) _ = refl
triple_if_short (a ∷ b ∷ []) _ = refl
triple_if_short (a ∷ b ∷ c ∷ vs) le = absurd (omega arith)

pub triple_if_long : (vs : List Value) → 4 ≤ length vs → None ≡ triple_of_list (list_of (items_view vs))
triple_if_long [] le = absurd (omega arith)
triple_if_long (a ∷ []) le = absurd (omega arith)
triple_if_long (a ∷ b ∷ []) le = absurd (omega arith)
triple_if_long (a ∷ b ∷ c ∷ []) le = absurd (omega arith)
triple_if_long (a ∷ b ∷ c ∷ d ∷ vs) _ = refl

pub f_if_short : (vs : List Value) → length vs < 7 → None ≡ f_symbol_of (list_of (items_view vs))
f_if_short [] _ = refl
f_if_short (a ∷ []) _ = refl
f_if_short (a ∷ b ∷ []) _ = refl
f_if_short (a ∷ b ∷ c ∷ []) _ = refl
f_if_short (a ∷ b ∷ c ∷ d ∷ []) _ = refl
f_if_short (a ∷ b ∷ c ∷ d ∷ e ∷ []) _ = refl
f_if_short (a ∷ b ∷ c ∷ d ∷ e ∷ f ∷ []) _ = refl
f_if_short (a ∷ b ∷ c ∷ d ∷ e ∷ f ∷ g ∷ vs) le = absurd (omega arith)

pub f_if_long : (vs : List Value) → 8 ≤ length vs → None ≡ f_symbol_of (list_of (items_view vs))
f_if_long [] le = absurd (omega arith)
f_if_long (a ∷ []) le = absurd (omega arith)
f_if_long (a ∷ b ∷ []) le = absurd (omega arith)
f_if_long (a ∷ b ∷ c ∷ []) le = absurd (omega arith)
f_if_long (a ∷ b ∷ c ∷ d ∷ []) le = absurd (omega arith)
f_if_long (a ∷ b ∷ c ∷ d ∷ e ∷ []) le = absurd (omega arith)
f_if_long (a ∷ b ∷ c ∷ d ∷ e ∷ f ∷ []) le = absurd (omega arith)
f_if_long (a ∷ b ∷ c ∷ d ∷ e ∷ f ∷ g ∷ []) le = absurd (omega arith)
f_if_long (a ∷ b ∷ c ∷ d ∷ e ∷ f ∷ g ∷ h ∷ vs) _ = refl

pub r_if_short : (vs : List Value) → length vs < 4 → None ≡ r_symbol_of (list_of (items_view vs))
r_if_short [] _ = refl
r_if_short (a ∷ []) _ = refl
r_if_short (a ∷ b ∷ []) _ = refl
r_if_short (a ∷ b ∷ c ∷ []) _ = refl
r_if_short (a ∷ b ∷ c ∷ d ∷ vs) le = absurd (omega arith)

pub r_if_long : (vs : List Value) → 5 ≤ length vs → None ≡ r_symbol_of (list_of (items_view vs))
r_if_long [] le = absurd (omega arith)
r_if_long (a ∷ []) le = absurd (omega arith)
r_if_long (a ∷ b ∷ []) le = absurd (omega arith)
r_if_long (a ∷ b ∷ c ∷ []) le = absurd (omega arith)
r_if_long (a ∷ b ∷ c ∷ d ∷ []) le = absurd (omega arith)
r_if_long (a ∷ b ∷ c ∷ d ∷ e ∷ vs) _ = refl
