-- When two keys are one, and by which text a key is looked up.
use Rattle.std.specs.Prelude.{◌&&◌, ℕ, Bool, true, false, List, [], ◌∷◌}
use Rattle.file_info.specs.Content.{same_list, node_text}
use Rattle.file_info.specs.declared.node.NodeName.{NodeName}
use Rattle.file_info.specs.declared.node.NodeName.TheVariants.{Path, Virtual}
use Rattle.build_keys.specs.declared.key.Key.{Key}
use Rattle.build_keys.specs.declared.key.Key.TheVariants.{Target, Command, Node, Contents, Tree, Structure}

-- whether two lists of texts are equal
abbrev pub same_texts : List (List ℕ) → List (List ℕ) → Bool
same_texts [] [] = true
same_texts (x ∷ xs) (y ∷ ys) = same_list x y && same_texts xs ys
same_texts [] (y ∷ ys) = false
same_texts (x ∷ xs) [] = false

-- whether two nodes are one
abbrev pub is_node : NodeName → NodeName → Bool
is_node (Path p) (Path q) = same_list p q
is_node (Virtual m) (Virtual n) = same_list m n
is_node (Path p) (Virtual n) = false
is_node (Virtual m) (Path q) = false

-- whether two keys are one
abbrev pub is_key : Key → Key → Bool
is_key (Target m) (Target n) = same_list m n
is_key (Command m) (Command n) = same_list m n
is_key (Node m) (Node n) = is_node m n
is_key (Contents p) (Contents q) = same_list p q
is_key (Tree p ps) (Tree q qs) = same_list p q && same_texts ps qs
is_key (Structure p ps) (Structure q qs) = same_list p q && same_texts ps qs
is_key a b = false

-- the name or the path of a key
abbrev pub key_text : Key → List ℕ
key_text (Target name) = name
key_text (Command name) = name
key_text (Node node) = node_text node
key_text (Contents path) = path
key_text (Tree path patterns) = path
key_text (Structure path patterns) = path
