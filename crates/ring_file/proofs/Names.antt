-- The names of an object's members.
use Rattle.std.specs.Prelude.{◌≡◌, ℕ, Bool, ◌&&◌, List, [], ◌∷◌, refl, string_bytes, String, Some, option_map, false}
use Rattle.std.proofs.Common.{ap, sym, ◌∙◌}
use Rattle.std.specs.List.{list_all}
use Rattle.std.specs.Map.{keys_of}
use Rattle.std.specs.declared.alloc.Global.{Global}
use Rattle.serde_json.specs.declared.value.Value.{Value}
use Rattle.serde_json.specs.View.{view, members_view}
use Rattle.serde_json.specs.Find.{as_object}
use Rattle.std.specs.Option.{unwrap_or}
use Rattle.ring_file.specs.Files.{all_named, has_only}

pub all_named_of_keys : (test : List ℕ → Bool) (es : List (String Global × Value)) → all_named test (members_view es) ≡ list_all (λ k. test (string_bytes k)) (keys_of es)
all_named_of_keys test [] = refl
all_named_of_keys test (e ∷ es) = ap (λ b. test (string_bytes e.0) && b) (all_named_of_keys test es)

pub has_only_of_keys : (test : List ℕ → Bool) (v : Value) (es : List (String Global × Value)) (b : Bool) → Some (members_view es) ≡ as_object (view v) → b ≡ list_all (λ k. test (string_bytes k)) (keys_of es) → b ≡ has_only test (view v)
has_only_of_keys test v es b e h = h ∙ sym (all_named_of_keys test es) ∙ ap (λ o. unwrap_or (option_map (all_named test) o) false) e
