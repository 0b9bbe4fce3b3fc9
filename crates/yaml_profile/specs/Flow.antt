-- Inline nodes: scalars and flow collections, which may go over several lines.
-- Bytes by their codes: 33 !, 38 &, 42 *, 44 comma, 58 :, 62 >, 63 ?, 91 and 93 [ and ], 123 and 125 { and }, 124 |.
use Rattle.std.specs.Prelude.{ℕ, zero, suc, Bool, true, ◌&&◌, ◌||◌, ◌==◌, if◌then◌else◌, List, [], ◌∷◌, ◌++◌, length, drop, Option, Some, None, Result, Ok}
use Rattle.yaml_profile.specs.declared.fault.Refusal.{Refusal}
use Rattle.yaml_profile.specs.declared.fault.Fault.TheVariants.{LeftOut, TooDeep, RepeatedKey, Syntax}
use Rattle.yaml_profile.specs.declared.error.Feature.{Feature}
use Rattle.yaml_profile.specs.declared.error.Feature.TheVariants.{Anchor, Alias, Tag, BlockScalar, ExplicitKey}
use Rattle.yaml_profile.specs.declared.yaml.Yaml.{Yaml}
use Rattle.yaml_profile.specs.declared.yaml.Yaml.TheVariants.{Scalar, Seq, Map}
use Rattle.yaml_profile.specs.declared.yaml.Pair.{Pair}
use Rattle.yaml_profile.specs.Text.{Text, Outcome, refuse, ◌>>=◌, sees, is_gap, past_white, spaced}
use Rattle.yaml_profile.specs.Scalar.{scalar}
use Rattle.yaml_profile.specs.Mapping.{pair, has_name}

-- what reads a text: it gives a value and the text after it, or the first refusal
abbrev pub Reader : Type 0 → Type 0
Reader A = Text → Outcome A

-- what the profile leaves out that stands here, where a node or a key is due, and None where nothing such does
abbrev pub left_out : Text → Option Feature
left_out [] = None
left_out (b ∷ t) =
    if b == 38 then Some Anchor else (if b == 42 then Some Alias else (if b == 33 then Some Tag
    else (if b == 124 || b == 62 then Some BlockScalar else (if b == 63 && is_gap t then Some ExplicitKey else None))))

-- the refusal of what the profile leaves out, where it stands here, and otherwise what reading gives
abbrev pub unless : {A : Type 0} → Option Feature → Text → Result A Refusal → Result A Refusal
unless (Some feature) t reading = refuse (LeftOut feature) t
unless None t reading = reading

-- ---- a flow sequence

-- what follows an item: the end of the sequence, or `,` and more
abbrev pub after_item : (List Yaml → Reader Yaml) → List Yaml → Reader Yaml
after_item go_on found t =
    if sees 93 t then Ok (Seq found, drop 1 t) else (if sees 44 t then go_on found (drop 1 t) else refuse Syntax t)

-- the sequence after its `[`, with the items so far; `node` reads an item. The number bounds the turns, and the count of the
-- bytes is enough
unfoldable pub items : Reader Yaml → ℕ → List Yaml → Reader Yaml
items node zero found t = refuse Syntax t
items node (suc n) found t =
    if sees 93 (spaced t) then Ok (Seq found, drop 1 (spaced t))
    else (do
      item ← node (spaced t)
      after_item (items node n) (found ++ item.0 ∷ []) (spaced item.1))

-- the sequence after its `[`
abbrev pub sequence : Reader Yaml → Reader Yaml
sequence node t = items node (suc (length t)) [] t

-- ---- a flow mapping

-- a key that is not among the names of the pairs so far
unfoldable pub new_key : List Pair → Reader (List ℕ)
new_key found t = unless (left_out t) t (do
  key ← scalar true t
  if has_name key.0 found then refuse RepeatedKey t else Ok key)

-- the value of a pair, or the empty scalar where none stands
abbrev pub value_or_none : Reader Yaml → Reader Yaml
value_or_none node t = if sees 44 t || sees 125 t then Ok (Scalar [], t) else node t

-- what follows a key: `:` and the value
unfoldable pub value_of : Reader Yaml → Reader Yaml
value_of node t =
    if sees 58 (past_white t) then value_or_none node (spaced (drop 1 (past_white t))) else refuse Syntax (spaced t)

-- what follows a pair: the end of the mapping, or `,` and more
abbrev pub after_pair : (List Pair → Reader Yaml) → List Pair → Reader Yaml
after_pair go_on found t =
    if sees 125 t then Ok (Map found, drop 1 t) else (if sees 44 t then go_on found (drop 1 t) else refuse Syntax t)

-- the mapping after its `{`, with the pairs so far; `node` reads a value. The number bounds the turns, and the count of the
-- bytes is enough
unfoldable pub pairs : Reader Yaml → ℕ → List Pair → Reader Yaml
pairs node zero found t = refuse Syntax t
pairs node (suc n) found t =
    if sees 125 (spaced t) then Ok (Map found, drop 1 (spaced t))
    else (do
      key ← new_key found (spaced t)
      value ← value_of node key.1
      after_pair (pairs node n) (found ++ pair key.0 value.0 ∷ []) (spaced value.1))

-- the mapping after its `{`
abbrev pub mapping : Reader Yaml → Reader Yaml
mapping node t = pairs node (suc (length t)) [] t

-- ---- an inline node

-- an inline node, whose collections are read so. The flag says that it stands in a flow collection
abbrev pub inline_by : Reader Yaml → Reader Yaml → Bool → Reader Yaml
inline_by seq map flow t = unless (left_out t) t
    (if sees 91 t then seq t else (if sees 123 t then map t else (do text ← scalar flow t; Ok (Scalar text.0, text.1))))

-- an inline node with collections nested no deeper than the number. The flag says that it stands in a flow collection
unfoldable pub inline : ℕ → Bool → Reader Yaml
inline zero flow = inline_by (refuse TooDeep) (refuse TooDeep) flow
inline (suc depth) flow = inline_by (λ t. sequence (inline depth true) (drop 1 t)) (λ t. mapping (inline depth true) (drop 1 t)) flow
