-- Which texts spell a tree.
-- Bytes by their codes: 44 comma, 45 -, 91 and 93 [ and ], 123 and 125 { and }.
use Rattle.std.specs.Prelude.{◌≡◌, ◌⊎◌, ℕ, zero, suc, Bool, true, false, List, [], ◌∷◌, ◌++◌, map, ◌<◌}
use Rattle.file_info.specs.Lists.{IsDistinct}
use Rattle.yaml_profile.specs.declared.yaml.Yaml.{Yaml}
use Rattle.yaml_profile.specs.declared.yaml.Yaml.TheVariants.{Scalar, Seq, Map}
use Rattle.yaml_profile.specs.declared.yaml.Pair.{Pair}
use Rattle.yaml_profile.specs.Text.{Text}
use Rattle.yaml_profile.specs.Block.{is_dash, is_marker}
use Rattle.yaml_profile.specs.Tree.{name_of, value_of}
use Rattle.yaml_profile.specs.Space.{◌and_then◌, Is, IsSomeWhite, IsPassed, IsIndent, ToLine, IsBlankEnd, ToEnd, IsSpace}
use Rattle.yaml_profile.specs.ScalarTexts.{IsScalar, IsKey}

-- a production of nodes: which texts spell which tree
abbrev pub Production : Type 1
Production = Yaml → Text → Type 0

-- ---- inline nodes

-- items with `,` between them, and one more `,` after the last or none, up to the closing byte
pub data IsListed {A : Type 0} (close : ℕ) (IsItem : A → Text → Type 0) : List A → Text → Type 0 where
  none : {t : Text} → (IsSpace and_then Is close) t → IsListed close IsItem [] t
  last : {x : A} {t : Text} → (IsSpace and_then IsItem x and_then IsSpace and_then Is close) t → IsListed close IsItem (x ∷ []) t
  more : {x : A} {xs : List A} {t : Text} (first rest : Text) → (IsSpace and_then IsItem x and_then IsSpace and_then Is 44) first
      → IsListed close IsItem xs rest → t ≡ first ++ rest → IsListed close IsItem (x ∷ xs) t

-- a value in a flow mapping: a node with space before it or none, or nothing for the empty scalar
abbrev pub IsFlowValue : Production → Production
IsFlowValue node tree t = (IsSpace and_then node tree) t ⊎ ((tree ≡ Scalar []) × (t ≡ []))

-- a pair of a flow mapping
pub record IsFlowPair (node : Production) (pair : Pair) (t : Text) : Type 0 where
  pub key : Text
  pub value : Text
  pub parts : t ≡ key ++ value
  pub is_key : IsKey true (name_of pair) key value
  pub is_value : IsFlowValue node (value_of pair) value

-- a flow collection of such nodes
pub data IsFlow (node : Production) (tree : Yaml) (t : Text) : Type 0 where
  sequence : (items : List Yaml) → tree ≡ Seq items → (Is 91 and_then IsListed 93 node items) t → IsFlow node tree t
  mapping : (pairs : List Pair) → tree ≡ Map pairs → IsDistinct (map name_of pairs)
      → (Is 123 and_then IsListed 125 (IsFlowPair node) pairs) t → IsFlow node tree t

-- a scalar as a node
pub record IsText (flow : Bool) (tree : Yaml) (t : Text) : Type 0 where
  pub text : List ℕ
  pub same : tree ≡ Scalar text
  pub is_scalar : IsScalar flow text t

-- an inline node with collections nested no deeper than the number. The flag says that it stands in a flow collection
unfoldable pub IsInline : ℕ → Bool → Production
IsInline zero flow tree t = IsText flow tree t
IsInline (suc depth) flow tree t = IsText flow tree t ⊎ IsFlow (IsInline depth true) tree t

-- ---- block nodes

-- entries that each begin at this column of a line
pub data IsJoined {A : Type 0} (column : ℕ) (IsEntry : A → Text → Type 0) : List A → Text → Type 0 where
  last : {x : A} {t : Text} → IsEntry x t → IsJoined column IsEntry (x ∷ []) t
  more : {x : A} {xs : List A} {t : Text} (first rest : Text) → (IsEntry x and_then ToLine column) first → IsJoined column IsEntry xs rest
      → t ≡ first ++ rest → IsJoined column IsEntry (x ∷ xs) t

-- what follows `-` or a key with its colon: an inline node, a node on a later line, or nothing for the empty scalar
pub data IsBeside (inline : Production) (lower : ℕ → Production) (tree : Yaml) (t : Text) : Type 0 where
  nothing : tree ≡ Scalar [] → t ≡ [] → IsBeside inline lower tree t
  same_line : (IsSomeWhite and_then inline tree) t → IsBeside inline lower tree t
  later_line : (column : ℕ) → (ToLine column and_then lower column tree) t → IsBeside inline lower tree t

-- a node at a greater column than the first
abbrev pub IsDeeper : (ℕ → Production) → ℕ → ℕ → Production
IsDeeper block column deeper tree t = (column < deeper) × block deeper tree t

-- a node at a greater column, or a sequence at the same one
abbrev pub IsDeeperOrSequence : (ℕ → Production) → ℕ → ℕ → Production
IsDeeperOrSequence block column other tree t = (column < other ⊎ ((other ≡ column) × (is_dash t ≡ true))) × block other tree t

-- an item of a block sequence at this column
abbrev pub IsItem : Production → (ℕ → Production) → ℕ → Production
IsItem inline block column tree t = (Is 45 and_then IsBeside inline (IsDeeper block column) tree) t

-- a pair of a block mapping at this column. Its key is no document marker there
pub record IsEntry (inline : Production) (block : ℕ → Production) (column : ℕ) (pair : Pair) (t : Text) : Type 0 where
  pub key : Text
  pub value : Text
  pub parts : t ≡ key ++ value
  pub is_key : IsKey false (name_of pair) key value
  pub no_marker : is_marker (column, key) ≡ false
  pub is_value : IsBeside inline (IsDeeperOrSequence block column) (value_of pair) value

-- a block collection of such nodes at this column
pub data IsBlockCollection (inline : Production) (block : ℕ → Production) (column : ℕ) (tree : Yaml) (t : Text) : Type 0 where
  sequence : (items : List Yaml) → tree ≡ Seq items → IsJoined column (IsItem inline block column) items t
      → IsBlockCollection inline block column tree t
  mapping : (pairs : List Pair) → tree ≡ Map pairs → IsDistinct (map name_of pairs) → IsJoined column (IsEntry inline block column) pairs t
      → IsBlockCollection inline block column tree t

-- an inline node that begins at this column of a line, and is no document marker there
abbrev pub IsLineNode : ℕ → ℕ → Production
IsLineNode depth column tree t = IsInline depth false tree t × (is_marker (column, t) ≡ false)

-- a block node at this column with collections nested no deeper than the first number. It goes up to its last byte that is
-- not white, a comment or a break
unfoldable pub IsBlock : ℕ → ℕ → Production
IsBlock zero column tree t = IsLineNode zero column tree t
IsBlock (suc depth) column tree t = IsLineNode (suc depth) column tree t ⊎ IsBlockCollection (IsInline depth false) (IsBlock depth) column tree t

-- ---- a document

-- lines with no node in them, `---` at the start of a line, and what follows it
abbrev pub IsMarked : (Text → Type 0) → Text → Type 0
IsMarked rest t = (IsPassed and_then (λ s. s ≡ 45 ∷ 45 ∷ 45 ∷ []) and_then rest) t

-- from the start of the text to the first node, at this column, with one line `---` or none
abbrev pub IsStart : ℕ → Text → Type 0
IsStart column t = IsIndent column t ⊎ IsMarked (ToLine column) t

-- a text without a node, with one line `---` or none
abbrev pub IsEmpty : Text → Type 0
IsEmpty t = IsBlankEnd t ⊎ IsMarked ToEnd t

-- the text spells the tree: it has one outermost node, or none for the empty scalar
pub data Spells (tree : Yaml) (t : Text) : Type 0 where
  node : (column : ℕ) → (IsStart column and_then IsBlock 64 column tree and_then ToEnd) t → Spells tree t
  empty : tree ≡ Scalar [] → IsEmpty t → Spells tree t
