-- A text that spells a tree, and parts of texts that spell nothing.
use Rattle.std.proofs.Common.{◌≡◌, false, [], ◌∷◌, Ok, refl}
use Rattle.yaml_profile.specs.declared.yaml.Yaml.{Yaml}
use Rattle.yaml_profile.specs.declared.yaml.Yaml.TheVariants.{Scalar, Seq, Map}
use Rattle.yaml_profile.specs.Text.{Text, past_white, past_space}
use Rattle.yaml_profile.specs.Scalar.{plain_len, has_forbidden, plain, scalar}
use Rattle.yaml_profile.specs.Mapping.{pair, has_name}
use Rattle.yaml_profile.specs.Flow.{items, inline}
use Rattle.yaml_profile.specs.Block.{line_from, next_line, alone, entry_key, map_value, item, new_entry, entries, dashes, block, document}
use Rattle.yaml_profile.specs.ScalarTexts.{IsPlain}
use Rattle.yaml_profile.specs.Spells.{Spells}
use Rattle.yaml_profile.proofs.SpellsDocumentLemmas.{document_spells}

-- `k: [1, x]`, `m:` and `- a`, each with LF
abbrev example : Text
example = 107 ∷ 58 ∷ 32 ∷ 91 ∷ 49 ∷ 44 ∷ 32 ∷ 120 ∷ 93 ∷ 10 ∷ 109 ∷ 58 ∷ 10 ∷ 45 ∷ 32 ∷ 97 ∷ 10 ∷ []

abbrev its_tree : Yaml
its_tree = Map (pair (107 ∷ []) (Seq (Scalar (49 ∷ []) ∷ Scalar (120 ∷ []) ∷ [])) ∷ pair (109 ∷ []) (Seq (Scalar (97 ∷ []) ∷ [])) ∷ [])

example-read : document example ≡ Ok its_tree
unfolding document line_from past_white block entry_key scalar plain has_forbidden plain_len entries new_entry has_name map_value alone inline items past_space next_line dashes item
example-read = refl

example-spells : Spells its_tree example
example-spells = document_spells example its_tree example-read

-- `a: b` is no plain scalar
colon-no_plain : IsPlain false (97 ∷ 58 ∷ 32 ∷ 98 ∷ []) [] → ⊥
colon-no_plain h = let e = h.goes_on.0 in cc

-- nor is `a #b`
hash-no_plain : IsPlain false (97 ∷ 32 ∷ 35 ∷ 98 ∷ []) [] → ⊥
hash-no_plain h = let e = h.goes_on.1.0 in cc

-- nor is `-`, but before `:` it is
dash-no_plain : IsPlain false (45 ∷ []) [] → ⊥
dash-no_plain h = let e = h.begins in cc

dash-plain : IsPlain false (45 ∷ []) (58 ∷ [])
unfolding has_forbidden
dash-plain = record { begins = refl; goes_on = refl; allowed = refl }
