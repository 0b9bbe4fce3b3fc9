-- Block nodes: lines, mappings and sequences by their columns.
-- Bytes by their codes: 9 tab, 10 LF, 32 space, 35 #, 37 %, 45 -, 46 dot, 58 :.
use Rattle.std.specs.Prelude.{ℕ, zero, suc, ◌+◌, Bool, true, false, ◌&&◌, ◌||◌, ◌==◌, nat_lt, if◌then◌else◌, List, [], ◌∷◌, ◌++◌, length, drop, Option, Some, None, Result, Ok, Err}
use Rattle.std.specs.Borrow.{Bor}
use Rattle.yaml_profile.specs.declared.fault.Refusal.{Refusal}
use Rattle.yaml_profile.specs.declared.fault.Fault.TheVariants.{LeftOut, Indent, TooDeep, RepeatedKey, Syntax}
use Rattle.yaml_profile.specs.declared.error.Feature.TheVariants.{Documents, Directive, Compact}
use Rattle.yaml_profile.specs.declared.yaml.Yaml.{Yaml}
use Rattle.yaml_profile.specs.declared.yaml.Yaml.TheVariants.{Scalar, Seq, Map}
use Rattle.yaml_profile.specs.declared.yaml.Pair.{Pair}
use Rattle.yaml_profile.specs.Text.{Text, Outcome, refuse, ◌>>=◌, sees, is_white, ends_line, is_gap, past_white}
use Rattle.yaml_profile.specs.Scalar.{scalar}
use Rattle.yaml_profile.specs.Flow.{left_out, unless, inline}
use Rattle.yaml_profile.specs.Mapping.{pair, has_name}

-- a line that is not passed over: its column, and its text from the first byte that is no space
abbrev pub Line : Type 0
Line = ℕ × Text

-- the line, as code keeps it
abbrev pub seen : Option (ℕ × Bor Text) → Option Line
seen None = None
seen (Some l) = Some (l.0, l.1.now)

-- what reading a block node from a line on gives: the node, and the next line that it has no part in, or the first refusal
abbrev pub Blocks : Type 0
Blocks = Result (Yaml × Option Line) Refusal

-- whether the text begins with white
abbrev pub begins_white : Text → Bool
begins_white [] = false
begins_white (b ∷ t) = is_white b

-- whether the rest of a line is white, with a comment or without; such a line is passed over
abbrev pub is_blank : Text → Bool
is_blank t = ends_line (past_white t) || sees 35 (past_white t)

-- where a byte that is passed over leads: to the start of a line, or on in this one
abbrev pub passed : ℕ → Option ℕ
passed b = if b == 10 then Some 0 else None

-- the next line. Before it stand so many spaces of its own line, or, at None, the rest of an earlier one
unfoldable pub line_from : Option ℕ → Text → Result (Option Line) Refusal
line_from spaces [] = Ok None
line_from None (b ∷ t) = line_from (passed b) t
line_from (Some column) (b ∷ t) =
    if b == 32 then line_from (Some (column + 1)) t
    else (if is_blank (b ∷ t) then line_from (passed b) t
    else (if b == 9 then refuse Indent (b ∷ t) else Ok (Some (column, b ∷ t))))

-- whether the text begins with this byte three times and then a gap
abbrev pub is_three : ℕ → Text → Bool
is_three b t = sees b t && sees b (drop 1 t) && sees b (drop 2 t) && is_gap (drop 3 t)

-- whether the line begins with `---` or `...` and a gap at column 0, as where one document ends and another begins
abbrev pub is_marker : Line → Bool
is_marker l = l.0 == 0 && (is_three 45 l.1 || is_three 46 l.1)

-- the line, or its refusal where it is such a marker
abbrev pub without_marker : Option Line → Result (Option Line) Refusal
without_marker None = Ok None
without_marker (Some l) = if is_marker l then refuse (LeftOut Documents) l.1 else Ok (Some l)

-- the next line, after the one whose rest this is
unfoldable pub next_line : Text → Result (Option Line) Refusal
next_line t = line_from None t >>= without_marker

-- whether white and a comment at most stand before the line's end
abbrev pub ends_node : Text → Bool
ends_node t = ends_line (past_white t) || (begins_white t && sees 35 (past_white t))

-- an inline node, after which nothing stands on its line
unfoldable pub alone : ℕ → Text → Blocks
alone depth t = do
  node ← inline depth false t
  if ends_node node.1 then (do next ← next_line node.1; Ok (node.0, next)) else refuse Syntax (past_white node.1)

-- whether `-` and a gap stand here
abbrev pub is_dash : Text → Bool
is_dash [] = false
is_dash (b ∷ t) = b == 45 && is_gap t

-- a key, and the text after its colon
unfoldable pub entry_key : Text → Outcome (List ℕ)
entry_key t =
    if is_dash t then refuse Syntax t
    else (do
      key ← scalar false t
      if sees 58 (past_white key.1) && is_gap (drop 1 (past_white key.1)) then Ok (key.0, drop 1 (past_white key.1)) else refuse Syntax t)

-- whether reading gave a value
abbrev pub is_found : {A : Type 0} → Result A Refusal → Bool
is_found (Ok x) = true
is_found (Err e) = false

-- whether a key, white at most, `:` and a gap stand here
abbrev pub has_key : Text → Bool
has_key t = is_found (entry_key t)

-- ---- values and items

-- what reads a block node from a line on. The flag says that a mapping of the same column holds it
abbrev pub Node : Type 0
Node = Bool → Line → Blocks

-- a node on the lines below: a deeper one, or, in a mapping, a sequence of the same column; and otherwise the empty scalar
abbrev pub below : Node → Bool → ℕ → Option Line → Blocks
below block of_map column None = Ok (Scalar [], None)
below block of_map column (Some l) =
    if nat_lt column l.0 then block false l
    else (if of_map && (l.0 == column && is_dash l.1) then block true l else Ok (Scalar [], Some l))

-- the value after a colon
unfoldable pub map_value : Node → ℕ → ℕ → Text → Blocks
map_value block depth column t =
    if ends_node t then (do next ← next_line t; below block true column next) else alone depth (past_white t)

-- the item after a dash
unfoldable pub item : Node → ℕ → ℕ → Text → Blocks
item block depth column t =
    if ends_node t then (do next ← next_line t; below block false column next)
    else unless (left_out (past_white t)) (past_white t)
    (if is_dash (past_white t) || has_key (past_white t) then refuse (LeftOut Compact) (past_white t) else alone depth (past_white t))

-- ---- mappings and sequences

-- what follows an entry: a line of a smaller column ends the collection, a line of the same column is the next entry, and one
-- of a greater column is refused
abbrev pub after_entry : Yaml → ℕ → (Line → Blocks) → Option Line → Blocks
after_entry whole column go_on None = Ok (whole, None)
after_entry whole column go_on (Some l) =
    if nat_lt l.0 column then Ok (whole, Some l) else (if nat_lt column l.0 then refuse Indent l.1 else go_on l)

-- a key that is not among the names of the entries so far, and the text after its colon
unfoldable pub new_entry : List Pair → Text → Outcome (List ℕ)
new_entry found t = unless (left_out t) t (do
  key ← entry_key t
  if has_name key.0 found then refuse RepeatedKey t else Ok key)

-- the mapping from its next entry on, with the entries so far. The number bounds the turns, and the count of the bytes is
-- enough
unfoldable pub entries : Node → ℕ → ℕ → ℕ → List Pair → Text → Blocks
entries block depth column zero found t = refuse Syntax t
entries block depth column (suc n) found t = do
  key ← new_entry found t
  value ← map_value block depth column key.1
  after_entry (Map (found ++ pair key.0 value.0 ∷ [])) column (λ l. entries block depth column n (found ++ pair key.0 value.0 ∷ []) l.1) value.1

-- the mapping at this column
abbrev pub mapping : Node → ℕ → ℕ → Text → Blocks
mapping block depth column t = entries block depth column (suc (length t)) [] t

-- what a line at the column of a sequence is: one more item, or, where a mapping holds the sequence, that mapping's entry
abbrev pub after_dash : Bool → Yaml → (Text → Blocks) → Line → Blocks
after_dash held whole go_on l = if is_dash l.1 then go_on l.1 else (if held then Ok (whole, Some l) else refuse Syntax l.1)

-- the sequence from its next item on, with the items so far. The number bounds the turns, and the count of the bytes is
-- enough
unfoldable pub dashes : Node → ℕ → Bool → ℕ → ℕ → List Yaml → Text → Blocks
dashes block depth held column zero found t = refuse Syntax t
dashes block depth held column (suc n) found t = do
  value ← item block depth column (drop 1 t)
  after_entry (Seq (found ++ value.0 ∷ [])) column
      (after_dash held (Seq (found ++ value.0 ∷ [])) (dashes block depth held column n (found ++ value.0 ∷ []))) value.1

-- the sequence at this column. The flag says that a mapping of the same column holds it
abbrev pub sequence : Node → ℕ → Bool → ℕ → Text → Blocks
sequence block depth held column t = dashes block depth held column (suc (length t)) [] t

-- ---- a block node

-- a block node: a sequence, a mapping or one inline node, each read so
abbrev pub block_by : (Bool → Line → Blocks) → (Line → Blocks) → (Text → Blocks) → Node
block_by seq map one held l = unless (left_out l.1) l.1
    (if is_dash l.1 then seq held l else (if has_key l.1 then map l else one l.1))

-- a block node with collections nested no deeper than the number
unfoldable pub block : ℕ → Node
block zero = block_by (λ held l. refuse TooDeep l.1) (λ l. refuse TooDeep l.1) (alone zero)
block (suc depth) = block_by
    (λ held l. sequence (block depth) depth held l.0 l.1)
    (λ l. mapping (block depth) depth l.0 l.1)
    (alone (suc depth))

-- ---- a document

-- the outermost node, from the first line on: the empty scalar where there is no line
abbrev pub root : Option Line → Blocks
root None = Ok (Scalar [], None)
root (Some l) = if l.0 == 0 && sees 37 l.1 then refuse (LeftOut Directive) l.1 else block 64 false l

-- the next line after `---`
abbrev pub behind_marker : Text → Result (Option Line) Refusal
behind_marker t = if ends_node t then next_line t else refuse Syntax (past_white t)

-- the first line, after one line `---` at most
abbrev pub begun : Option Line → Result (Option Line) Refusal
begun None = Ok None
begun (Some l) =
    if l.0 == 0 && is_three 45 l.1 then behind_marker (drop 3 l.1) else without_marker (Some l)

-- the tree, if no line is left
abbrev pub ended : Yaml × Option Line → Result Yaml Refusal
ended (tree, None) = Ok tree
ended (tree, Some l) = refuse Indent l.1

-- the tree of a text, or its first refusal
unfoldable pub document : Text → Result Yaml Refusal
document t = do
  first ← line_from (Some 0) t
  line ← begun first
  node ← root line
  ended node
