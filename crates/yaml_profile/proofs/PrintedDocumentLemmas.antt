-- A tree as it is printed is read back.
use Rattle.std.proofs.Common.{◌≡◌, ℕ, suc, ◌≤◌, false, cond, ◌&&◌, List, [], ◌∷◌, ◌++◌, length, drop, Some, None, Ok, refl, sym, ap, subst, ◌∙◌, append-nil}
use Rattle.yaml_profile.specs.declared.fault.Fault.TheVariants.{Syntax}
use Rattle.yaml_profile.specs.declared.yaml.Yaml.{Yaml, out-Yaml}
use Rattle.yaml_profile.specs.declared.yaml.Yaml.TheOpen.{Yaml-F}
use Rattle.yaml_profile.specs.declared.yaml.Yaml.TheVariants.{Map}
use Rattle.yaml_profile.specs.declared.yaml.Pair.{Pair}
use Rattle.yaml_profile.specs.Text.{Text, Outcome, refuse, ◌>>=◌, sees, is_gap, past_white}
use Rattle.yaml_profile.specs.Scalar.{plain, scalar}
use Rattle.yaml_profile.specs.Block.{Blocks, line_from, alone, entry_key, is_found, has_key, block, root, begun, ended, document}
use Rattle.yaml_profile.specs.Read.{yaml_of, placed}
use Rattle.yaml_profile.specs.Tree.{IsTree}
use Rattle.yaml_profile.specs.Print.{Layer, quoted, layer_text, flow_text, map_lines, spelling_of, spelling}
use Rattle.yaml_profile.proofs.QuotedLemmas.{scalar_read}
use Rattle.yaml_profile.proofs.ReadLemmas.{placed_text}
use Rattle.yaml_profile.proofs.StartLemmas.{IsStarted, at_start, started_more}
use Rattle.yaml_profile.proofs.InlineLemmas.{tree_inline, map_is}
use Rattle.yaml_profile.proofs.LineLemmas.{Lines, first_line, line_read, alone_read, blocks_read, if_false}
use Rattle.yaml_profile.proofs.PrintedLemmas.{spelling_utf8}

-- ---- a document

first_begun : (t : Text) → IsStarted t → begun (Some (0, t)) ≡ Ok (Some (0, t))
first_begun t s =
    at_start (λ (w : Text). begun (Some (0, w)) ≡ Ok (Some (0, w))) t s (λ w. refl) (λ w. refl) (λ w. refl)

first_root : (t : Text) → IsStarted t → root (Some (0, t)) ≡ block 64 false (0, t)
first_root t s = at_start (λ (w : Text). root (Some (0, w)) ≡ block 64 false (0, w)) t s (λ w. refl) (λ w. refl) (λ w. refl)

started_document : (t : Text) (y : Yaml) → IsStarted t → block 64 false (0, t) ≡ Ok (y, None) → document t ≡ Ok y
unfolding document
started_document t y s read =
    ap (λ (o : Lines). o >>= λ first. (begun first >>= λ line. (root line >>= λ node. ended node))) (line_read 0 t s)
    ∙ ap (λ (o : Lines). o >>= λ line. (root line >>= λ node. ended node)) (first_begun t s)
    ∙ ap (λ (o : Blocks). o >>= λ node. ended node) (first_root t s ∙ read)

nothing_left : first_line [] ≡ Ok None
unfolding line_from
nothing_left = refl

-- ---- a node on one line

-- no key stands at the start of the line
abbrev NoKey : Text → Type 0
NoKey t = has_key (t ++ 10 ∷ []) ≡ false

quoted_alone : (text : List ℕ) → NoKey (quoted text)
unfolding entry_key past_white
quoted_alone text =
    let whole = quoted text ++ 10 ∷ [] in
    let colon : List ℕ × Text → Outcome (List ℕ) =
    λ key. cond (sees 58 (past_white key.1) && is_gap (drop 1 (past_white key.1))) (Ok (key.0, drop 1 (past_white key.1))) (refuse Syntax whole) in
    ap (λ (o : Outcome (List ℕ)). is_found (o >>= colon)) (scalar_read false text (10 ∷ []))

layer_alone : (depth : ℕ) (l : Layer) → NoKey (layer_text (flow_text depth) l)
unfolding entry_key scalar plain
layer_alone depth (Yaml-F.Scalar text) = quoted_alone text
layer_alone depth (Yaml-F.Seq ys) = refl
layer_alone depth (Yaml-F.Map ps) = refl

flow_alone : (depth : ℕ) (y : Yaml) → NoKey (flow_text (suc depth) y)
unfolding flow_text
flow_alone depth y = layer_alone depth (out-Yaml y)

block_alone : (depth : ℕ) (t : Text) → IsStarted t → has_key t ≡ false → block (suc depth) false (0, t) ≡ alone (suc depth) t
unfolding block
block_alone depth t s none =
    at_start (λ (w : Text). has_key w ≡ false → block (suc depth) false (0, w) ≡ alone (suc depth) w) t s (λ w e. if_false _ _ _ e)
    (λ w e. if_false _ _ _ e) (λ w e. if_false _ _ _ e) none

one_line : (y : Yaml) → IsTree 64 y → document (flow_text 64 y ++ 10 ∷ []) ≡ Ok y
one_line y h =
    let r = tree_inline 64 y h in
    let t = flow_text 64 y ++ 10 ∷ [] in
    let s = started_more (flow_text 64 y) (10 ∷ []) r.started in
    started_document t y s (block_alone 63 t s (flow_alone 63 y) ∙ alone_read 64 y [] None r nothing_left)

-- ---- every tree

more_lines : (y : Yaml) (p : Pair) (ps : List Pair) → Map (p ∷ ps) ≡ y → IsTree 64 y → document (map_lines 64 0 (p ∷ ps)) ≡ Ok y
more_lines y p ps same h =
    let b = blocks_read 64 0 p ps [] None (subst (λ (z : Yaml). IsTree 64 z) (sym same) h) (record { read = nothing_left; left = tt }) in
    let text : map_lines 64 0 (p ∷ ps) ≡ b.text = sym (append-nil (map_lines 64 0 (p ∷ ps))) ∙ b.parts in
    ap document text ∙ started_document b.text y b.started (b.again ∙ ap (λ (z : Yaml). Ok (z, None)) same)

spelling_document : (y : Yaml) → IsTree 64 y → document (spelling y) ≡ Ok y
unfolding spelling
spelling_document y h = go (out-Yaml y) refl
  where
    go : (l : Layer) → out-Yaml y ≡ l → document (spelling_of y l) ≡ Ok y
    go (Yaml-F.Scalar text) e = one_line y h
    go (Yaml-F.Seq ys) e = one_line y h
    go (Yaml-F.Map []) e = one_line y h
    go (Yaml-F.Map (p ∷ ps)) e = more_lines y p ps (map_is y (p ∷ ps) e) h

pub spelling_read : (y : Yaml) → IsTree 64 y → length (spelling y) ≤ 67108864 → yaml_of (spelling y) ≡ Ok y
spelling_read y h fits = placed_text (spelling y) fits (spelling_utf8 y h) ∙ ap (placed (spelling y)) (spelling_document y h)

pub spelling_tells : (x y : Yaml) → IsTree 64 x → IsTree 64 y → length (spelling x) ≤ 67108864 → spelling x ≡ spelling y → x ≡ y
spelling_tells x y h k fits same =
    let first = spelling_read x h fits in
    let second = spelling_read y k (subst (λ (t : Text). length t ≤ 67108864) same fits) in
    let read : Ok x ≡ Ok y = sym first ∙ ap yaml_of same ∙ second in
    cc read
