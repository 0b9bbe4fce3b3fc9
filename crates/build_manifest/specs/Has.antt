-- The texts that have a place.
use Rattle.std.specs.Prelude.{ℕ, Bool, List}
use Rattle.std.specs.Option.{is_some}
use Rattle.std.specs.declared.string.String.{String}
use Rattle.indexmap.specs.IndexMap.{IndexMap, get_by_text}

-- whether the text has a place
abbrev pub has : {A S : Type 0} → IndexMap (String A) ℕ S → List ℕ → Bool
has places text = is_some (get_by_text places text)
