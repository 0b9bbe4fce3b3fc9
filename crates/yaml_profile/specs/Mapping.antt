-- Pairs and their names.
use Rattle.std.specs.Prelude.{◌≡◌, ℕ, Bool, false, ◌||◌, List, [], ◌∷◌, bytes_eq}
use Rattle.std.specs.List.{list_any}
use Rattle.std.specs.Global.{Vec}
use Rattle.yaml_profile.specs.declared.yaml.Yaml.{Yaml}
use Rattle.yaml_profile.specs.declared.yaml.Pair.{Pair, roll-Pair, out-Pair}

-- the pair of this name and this value
abbrev pub pair : List ℕ → Yaml → Pair
pair name value = roll-Pair (record { name = name; value = value })

-- whether one of the pairs has the name
unfoldable pub has_name : List ℕ → List Pair → Bool
has_name name [] = false
has_name name (p ∷ ps) = bytes_eq name (out-Pair p).name || has_name name ps

-- the set has the names of these pairs and no others
pub record AreNames (names : List (Vec ℕ)) (pairs : List Pair) : Type 0 where
  pub same : (name : List ℕ) → list_any (λ k. bytes_eq name k.items) names ≡ has_name name pairs
