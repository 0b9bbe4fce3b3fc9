-- Each document that is read has texts in UTF-8 and distinct names.
use Rattle.std.proofs.Common.{◌≡◌, ℕ, zero, suc, Bool, true, false, ◌&&◌, ◌||◌, ◌==◌, cond, nat_lt, List, [], ◌∷◌, ◌++◌, length, drop, Option, Some, None, Ok, Err, Result, refl, subst, arith}
use Rattle.std.specs.Prelude.{IsUtf8, IfOk}
use Rattle.std.specs.Str.{is_utf8}
use Rattle.std.proofs.lemmas.Str.{IsUtf8-nil, IsUtf8-from_is_utf8}
use Rattle.yaml_profile.specs.declared.fault.Refusal.{Refusal}
use Rattle.yaml_profile.specs.declared.error.YamlError.{YamlError}
use Rattle.yaml_profile.specs.declared.yaml.Yaml.{Yaml}
use Rattle.yaml_profile.specs.declared.yaml.Yaml.TheVariants.{Seq, Map}
use Rattle.yaml_profile.specs.declared.yaml.Pair.{Pair}
use Rattle.yaml_profile.specs.Text.{Text, ◌>>=◌, sees, is_gap, past_white}
use Rattle.yaml_profile.specs.Scalar.{scalar}
use Rattle.yaml_profile.specs.Mapping.{pair, has_name}
use Rattle.yaml_profile.specs.Flow.{left_out, inline}
use Rattle.yaml_profile.specs.Block.{Line, Blocks, Node, line_from, is_three, next_line, ends_node, alone, is_dash, entry_key, has_key, below, map_value, item, after_entry, new_entry, entries, after_dash, dashes, block, root, begun, ended, document}
use Rattle.yaml_profile.specs.Read.{yaml_of, placed}
use Rattle.yaml_profile.specs.Tree.{Each, IsTree}
use Rattle.yaml_profile.proofs.CutLemmas.{behind_ascii, behind_byte, small_by, IsTail, tail_of, tail_behind}
use Rattle.yaml_profile.proofs.FineLemmas.{Fine, bind, choose, allowed, first_of_both}
use Rattle.yaml_profile.proofs.ScalarLemmas.{scalar_fine}
use Rattle.yaml_profile.proofs.SpaceLemmas.{past_white_utf8, LineFine, line_from_fine, without_marker_fine, next_line_fine}
use Rattle.yaml_profile.proofs.TreeLemmas.{each_more, PairsFine, pairs_more, NewKey, KeyFine, After, scalar_tree, seq_tree, map_tree, inline_fine}

-- a node that is so, and a line in UTF-8 after it
abbrev NodeAfter : ℕ → Yaml × Option Line → Type 0
NodeAfter depth x = IsTree depth x.0 × LineFine x.1

abbrev BlockFine : ℕ → Blocks → Type 0
BlockFine depth o = IfOk o (NodeAfter depth)

alone_fine : (depth : ℕ) (t : Text) → IsUtf8 t → BlockFine depth (alone depth t)
unfolding alone
alone_fine depth t u =
    bind (After (IsTree depth)) (NodeAfter depth) (inline depth false t) _ (inline_fine depth false t u)
    (λ node h. choose (NodeAfter depth) (ends_node node.1) _ _
    (λ _. bind LineFine (NodeAfter depth) (next_line node.1) (λ next. Ok (node.0, next)) (next_line_fine node.1 (tail_of node.1 h.1)) (λ next k. (h.0, k)))
    (λ _. tt))

entry_key_fine : (t : Text) → IsUtf8 t → Fine IsUtf8 (entry_key t)
unfolding entry_key
entry_key_fine t u =
    choose KeyFine (is_dash t) _ _ (λ _. tt)
    (λ _. bind KeyFine KeyFine (scalar false t) _ (scalar_fine false t u)
    (λ key h.
    let behind = past_white key.1 in
    choose KeyFine (sees 58 behind && is_gap (drop 1 behind)) _ _
    (λ e. (h.0, behind_byte 58 behind (omega arith) (first_of_both (sees 58 behind) (is_gap (drop 1 behind)) e) (past_white_utf8 key.1 h.1))) (λ _. tt)))

new_entry_fine : (found : List Pair) (t : Text) → IsUtf8 t → IfOk (new_entry found t) (NewKey found)
unfolding new_entry
new_entry_fine found t u =
    allowed (NewKey found) (left_out t) t _ (bind KeyFine (NewKey found) (entry_key t) _ (entry_key_fine t u)
    (λ key h. choose (NewKey found) (has_name key.0 found) _ _ (λ _. tt) (λ e. ((h.0, e), h.1))))

abbrev ReaderFine : ℕ → Node → Type 0
ReaderFine depth node = (held : Bool) (l : Line) → IsUtf8 l.1 → BlockFine depth (node held l)

below_fine : (depth : ℕ) (node : Node) → ReaderFine depth node → (of_map : Bool) (column : ℕ) (next : Option Line) → LineFine next → BlockFine depth (below node of_map column next)
below_fine depth node fine of_map column None h = (scalar_tree depth [] IsUtf8-nil, tt)
below_fine depth node fine of_map column (Some l) h =
    choose (NodeAfter depth) (nat_lt column l.0) _ _ (λ _. fine false l h)
    (λ _. choose (NodeAfter depth) (of_map && (l.0 == column && is_dash l.1)) _ _ (λ _. fine true l h) (λ _. (scalar_tree depth [] IsUtf8-nil, h)))

lower_fine : (depth : ℕ) (node : Node) → ReaderFine depth node → (of_map : Bool) (column : ℕ) (t : Text) → IsUtf8 t → BlockFine depth (next_line t >>= λ next. below node of_map column next)
lower_fine depth node fine of_map column t u =
    bind LineFine (NodeAfter depth) (next_line t) (λ next. below node of_map column next) (next_line_fine t (tail_of t u)) (below_fine depth node fine of_map column)

map_value_fine : (depth : ℕ) (node : Node) → ReaderFine depth node → (column : ℕ) (t : Text) → IsUtf8 t → BlockFine depth (map_value node depth column t)
unfolding map_value
map_value_fine depth node fine column t u =
    choose (NodeAfter depth) (ends_node t) _ _ (λ _. lower_fine depth node fine true column t u) (λ _. alone_fine depth (past_white t) (past_white_utf8 t u))

item_fine : (depth : ℕ) (node : Node) → ReaderFine depth node → (column : ℕ) (t : Text) → IsUtf8 t → BlockFine depth (item node depth column t)
unfolding item
item_fine depth node fine column t u =
    choose (NodeAfter depth) (ends_node t) _ _ (λ _. lower_fine depth node fine false column t u)
    (λ _. allowed (NodeAfter depth) (left_out (past_white t)) (past_white t) _ (choose (NodeAfter depth) (is_dash (past_white t) || has_key (past_white t)) _ _ (λ _. tt) (λ _. alone_fine depth (past_white t) (past_white_utf8 t u))))

after_entry_fine : (depth : ℕ) (whole : Yaml) (column : ℕ) (go_on : Line → Blocks) (next : Option Line) → IsTree depth whole → LineFine next → ((l : Line) → IsUtf8 l.1 → BlockFine depth (go_on l))
    → BlockFine depth (after_entry whole column go_on next)
after_entry_fine depth whole column go_on None ok h more = (ok, tt)
after_entry_fine depth whole column go_on (Some l) ok h more =
    choose (NodeAfter depth) (nat_lt l.0 column) _ _ (λ _. (ok, h)) (λ _. choose (NodeAfter depth) (nat_lt column l.0) _ _ (λ _. tt) (λ _. more l h))

entries_fine : (depth : ℕ) (node : Node) → ReaderFine depth node → (column n : ℕ) (found : List Pair) (t : Text) → PairsFine (IsTree depth) found → IsUtf8 t
    → BlockFine (suc depth) (entries node depth column n found t)
unfolding entries
entries_fine depth node fine column zero found t each u = tt
entries_fine depth node fine column (suc n) found t each u =
    bind (NewKey found) (NodeAfter (suc depth)) (new_entry found t) _ (new_entry_fine found t u)
    (λ key k. bind (NodeAfter depth) (NodeAfter (suc depth)) (map_value node depth column key.1) _ (map_value_fine depth node fine column key.1 k.1)
    (λ value h.
    let now = found ++ pair key.0 value.0 ∷ [] in
    let more = pairs_more (IsTree depth) found key.0 value.0 each k.0.0 k.0.1 h.0 in
    after_entry_fine (suc depth) (Map now) column (λ l. entries node depth column n now l.1) value.1 (map_tree depth now more) h.1
    (λ l v. entries_fine depth node fine column n now l.1 more v)))

dash_utf8 : (t : Text) → is_dash t ≡ true → IsUtf8 t → IsUtf8 (drop 1 t)
dash_utf8 [] e u = u
dash_utf8 (b ∷ t) e u = behind_ascii b t (small_by b 45 (first_of_both (b == 45) (is_gap t) e) (omega arith)) u

dashes_fine : (depth : ℕ) (node : Node) → ReaderFine depth node → (held : Bool) (column n : ℕ) (found : List Yaml) (t : Text) → Each (IsTree depth) found → is_dash t ≡ true → IsUtf8 t
    → BlockFine (suc depth) (dashes node depth held column n found t)
unfolding dashes
dashes_fine depth node fine held column zero found t each d u = tt
dashes_fine depth node fine held column (suc n) found t each d u =
    bind (NodeAfter depth) (NodeAfter (suc depth)) (item node depth column (drop 1 t)) _ (item_fine depth node fine column (drop 1 t) (dash_utf8 t d u))
    (λ value h.
    let now = found ++ value.0 ∷ [] in
    let more = each_more (IsTree depth) found value.0 each h.0 in
    let whole = seq_tree depth now more in
    after_entry_fine (suc depth) (Seq now) column (after_dash held (Seq now) (dashes node depth held column n now)) value.1 whole h.1
    (λ l v. choose (NodeAfter (suc depth)) (is_dash l.1) _ _ (λ e. dashes_fine depth node fine held column n now l.1 more e v)
    (λ _. choose (NodeAfter (suc depth)) held _ _ (λ _. (whole, v)) (λ _. tt))))

block_fine : (depth : ℕ) (held : Bool) (l : Line) → IsUtf8 l.1 → BlockFine depth (block depth held l)
unfolding block
block_fine zero held l u =
    allowed (NodeAfter zero) (left_out l.1) l.1 _ (choose (NodeAfter zero) (is_dash l.1) _ _ (λ _. tt) (λ _. choose (NodeAfter zero) (has_key l.1) _ _ (λ _. tt) (λ _. alone_fine zero l.1 u)))
block_fine (suc depth) held l u =
    let fine : ReaderFine depth (block depth) = λ h m v. block_fine depth h m v in
    let turns = suc (length l.1) in
    allowed (NodeAfter (suc depth)) (left_out l.1) l.1 _ (choose (NodeAfter (suc depth)) (is_dash l.1) _ _ (λ e. dashes_fine depth (block depth) fine held l.0 turns [] l.1 tt e u)
    (λ _. choose (NodeAfter (suc depth)) (has_key l.1) _ _ (λ _. entries_fine depth (block depth) fine l.0 turns [] l.1 (tt, tt) u) (λ _. alone_fine (suc depth) l.1 u)))

-- ---- a document

root_fine : (next : Option Line) → LineFine next → BlockFine 64 (root next)
root_fine None h = (scalar_tree 64 [] IsUtf8-nil, tt)
root_fine (Some l) h = choose (NodeAfter 64) (l.0 == 0 && sees 37 l.1) _ _ (λ _. tt) (λ _. block_fine 64 false l h)

behind_three : (t : Text) → IsTail t → IsTail (drop 3 t)
behind_three [] h = h
behind_three (a ∷ []) h = tail_behind a [] h
behind_three (a ∷ b ∷ []) h = tail_behind b [] (tail_behind a (b ∷ []) h)
behind_three (a ∷ b ∷ c ∷ t) h = tail_behind c t (tail_behind b (c ∷ t) (tail_behind a (b ∷ c ∷ t) h))

begun_fine : (next : Option Line) → LineFine next → IfOk (begun next) LineFine
begun_fine None h = tt
begun_fine (Some l) h =
    choose LineFine (l.0 == 0 && is_three 45 l.1) _ _
    (λ _. choose LineFine (ends_node (drop 3 l.1)) _ _ (λ _. next_line_fine (drop 3 l.1) (behind_three l.1 (tail_of l.1 h))) (λ _. tt))
    (λ _. without_marker_fine (Some l) h)

ended_fine : (node : Yaml × Option Line) → NodeAfter 64 node → IfOk (ended node) (IsTree 64)
ended_fine (tree, None) h = h.0
ended_fine (tree, Some l) h = tt

document_fine : (t : Text) → IsUtf8 t → IfOk (document t) (IsTree 64)
unfolding document
document_fine t u =
    bind LineFine (IsTree 64) (line_from (Some 0) t) _ (line_from_fine (Some 0) t u)
    (λ first h. bind LineFine (IsTree 64) (begun first) _ (begun_fine first h)
    (λ next k. bind (NodeAfter 64) (IsTree 64) (root next) ended (root_fine next k) ended_fine))

placed_fine : (t : Text) (o : Result Yaml Refusal) → IfOk o (IsTree 64) → IfOk (placed t o) (IsTree 64)
placed_fine t (Ok tree) h = h
placed_fine t (Err refusal) h = tt

-- a choice of answers
answered : (c : Bool) (x y : Result Yaml YamlError) → (c ≡ true → IfOk x (IsTree 64)) → (c ≡ false → IfOk y (IsTree 64)) → IfOk (cond c x y) (IsTree 64)
answered true x y p q = p refl
answered false x y p q = q refl

pub yaml_of_fine : (t : Text) → IfOk (yaml_of t) (IsTree 64)
unfolding yaml_of
yaml_of_fine t =
    answered (nat_lt 67108864 (length t)) _ _ (λ _. tt)
    (λ _. answered (is_utf8 t) _ _ (λ e. placed_fine t (document t) (document_fine t (IsUtf8-from_is_utf8 t e))) (λ _. tt))

pub tree_fine : (t : Text) (tree : Yaml) → yaml_of t ≡ Ok tree → IsTree 64 tree
tree_fine t tree e = let P : Result Yaml YamlError → Type 0 = λ o. IfOk o (IsTree 64) in subst P e (yaml_of_fine t)
