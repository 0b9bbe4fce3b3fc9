-- A tree weighs no more than its text and one byte.
use Rattle.std.proofs.Common.{◌≡◌, inl, inr, ℕ, zero, suc, ◌+◌, ◌≤◌, Bool, true, false, List, [], ◌++◌, length, Ok, ap, ◌∙◌, arith}
use Rattle.std.proofs.lemmas.List.{length-append}
use Rattle.yaml_profile.specs.declared.yaml.Yaml.{Yaml}
use Rattle.yaml_profile.specs.declared.yaml.Yaml.TheVariants.{Scalar, Seq, Map, outs-Scalar, outs-Seq, outs-Map}
use Rattle.yaml_profile.specs.declared.yaml.Pair.{Pair}
use Rattle.yaml_profile.specs.Text.{Text}
use Rattle.yaml_profile.specs.Tree.{name_of, value_of}
use Rattle.yaml_profile.specs.Read.{yaml_of}
use Rattle.yaml_profile.specs.Space.{◌and_then◌, Is, IsBreak, ToLine, IsSpace}
use Rattle.yaml_profile.specs.Spells.{Production, IsListed, none, last, more, IsFlowValue, IsFlowPair, IsFlow, sequence, mapping, IsText, IsInline, IsJoined, IsBeside, nothing, same_line, later_line, IsDeeper, IsDeeperOrSequence, IsItem, IsEntry, IsBlockCollection, IsBlock, Spells, node, empty}
use Rattle.yaml_profile.specs.Weight.{total, pair_weight, node_weight, weight}
use Rattle.yaml_profile.proofs.SpellsDocumentLemmas.{read_spells}
use Rattle.yaml_profile.proofs.WeightScalarLemmas.{both_length, scalar_fits, key_fits}

-- ---- nodes

scalar_weight : (depth : ℕ) (text : List ℕ) → weight depth (Scalar text) ≡ length text + 1
unfolding weight
scalar_weight zero text = ap (node_weight (λ _. 0)) (outs-Scalar text)
scalar_weight (suc depth) text = ap (node_weight (weight depth)) (outs-Scalar text)

seq_weight : (depth : ℕ) (items : List Yaml) → weight (suc depth) (Seq items) ≡ total (weight depth) items
unfolding weight
seq_weight depth items = ap (node_weight (weight depth)) (outs-Seq items)

map_weight : (depth : ℕ) (pairs : List Pair) → weight (suc depth) (Map pairs) ≡ total (pair_weight (weight depth)) pairs
unfolding weight
map_weight depth pairs = ap (node_weight (weight depth)) (outs-Map pairs)

-- what is so weighs no more than its text and one byte
abbrev Weighs : {A : Type 0} → (A → ℕ) → (A → Text → Type 0) → Type 0
Weighs {A = A} f P = (x : A) (t : Text) → P x t → f x ≤ length t + 1

empty_weighs : (depth : ℕ) (tree : Yaml) (t : Text) → tree ≡ Scalar [] → weight depth tree ≤ length t + 1
empty_weighs depth tree t e = let same = ap (weight depth) e ∙ scalar_weight depth [] in omega arith

-- a key and its value
pair_weighs : (depth : ℕ) (pair : Pair) (t key value : Text) → t ≡ key ++ value → length (name_of pair) + 1 ≤ length key
    → weight depth (value_of pair) ≤ length value + 1 → pair_weight (weight depth) pair ≤ length t + 1
pair_weighs depth pair t key value whole name fits = let sum = ap length whole ∙ length-append key value in omega arith

-- ---- inline nodes

text_weighs : (depth : ℕ) (flow : Bool) → Weighs (weight depth) (IsText flow)
text_weighs depth flow tree t h =
    let same = ap (weight depth) h.same ∙ scalar_weight depth h.text in
    let fits = scalar_fits flow h.text t h.is_scalar in omega arith

item_weighs : {A : Type 0} (f : A → ℕ) (P : A → Text → Type 0) → Weighs f P → (x : A) (byte : ℕ) (t : Text)
    → (IsSpace and_then P x and_then IsSpace and_then Is byte) t → f x ≤ length t
item_weighs f P weighs x byte t h =
    let item = weighs x h.is_second.first h.is_second.is_first in
    let one = both_length t h in
    let two = both_length h.second h.is_second in
    let three = both_length h.is_second.second h.is_second.is_second in
    let mark = ap length h.is_second.is_second.is_second in omega arith

listed_weighs : {A : Type 0} (f : A → ℕ) (close : ℕ) (P : A → Text → Type 0) → Weighs f P → {xs : List A} {t : Text} → IsListed close P xs t
    → total f xs ≤ length t
listed_weighs f close P weighs (none h) = omega arith
listed_weighs f close P weighs (last {x = x} {t = t} h) = let item = item_weighs f P weighs x close t h in omega arith
listed_weighs f close P weighs (more {x = x} first rest h k e) =
    let item = item_weighs f P weighs x 44 first h in
    let others = listed_weighs f close P weighs k in
    let whole = ap length e ∙ length-append first rest in omega arith

flow_value_weighs : (depth : ℕ) (P : Production) → Weighs (weight depth) P → Weighs (weight depth) (IsFlowValue P)
flow_value_weighs depth P weighs tree t (inl h) =
    let value = weighs tree h.second h.is_second in
    let whole = both_length t h in omega arith
flow_value_weighs depth P weighs tree t (inr h) = empty_weighs depth tree t h.0

flow_pair_weighs : (depth : ℕ) (P : Production) → Weighs (weight depth) P → Weighs (pair_weight (weight depth)) (IsFlowPair P)
flow_pair_weighs depth P weighs pair t h =
    pair_weighs depth pair t h.key h.value h.parts (key_fits true (name_of pair) h.key h.value h.is_key)
    (flow_value_weighs depth P weighs (value_of pair) h.value h.is_value)

flow_weighs : (depth : ℕ) (P : Production) → Weighs (weight depth) P → Weighs (weight (suc depth)) (IsFlow P)
flow_weighs depth P weighs tree t (sequence items e h) =
    let same = ap (weight (suc depth)) e ∙ seq_weight depth items in
    let inside = listed_weighs (weight depth) 93 P weighs h.is_second in
    let whole = both_length t h in omega arith
flow_weighs depth P weighs tree t (mapping pairs e d h) =
    let same = ap (weight (suc depth)) e ∙ map_weight depth pairs in
    let inside = listed_weighs (pair_weight (weight depth)) 125 (IsFlowPair P) (flow_pair_weighs depth P weighs) h.is_second in
    let whole = both_length t h in omega arith

inline_weighs : (depth : ℕ) (flow : Bool) → Weighs (weight depth) (IsInline depth flow)
unfolding IsInline
inline_weighs zero flow tree t h = text_weighs zero flow tree t h
inline_weighs (suc depth) flow tree t (inl h) = text_weighs (suc depth) flow tree t h
inline_weighs (suc depth) flow tree t (inr h) = flow_weighs depth (IsInline depth true) (inline_weighs depth true) tree t h

-- ---- block nodes

break_full : (t : Text) → IsBreak t → 1 ≤ length t
break_full t (inl h) = let one = ap length h in omega arith
break_full t (inr h) =
    let whole = both_length t h in
    let one = ap length h.is_first in omega arith

line_full : (column : ℕ) (t : Text) → ToLine column t → 1 ≤ length t
line_full column t h =
    let one = break_full h.is_second.first h.is_second.is_first in
    let whole = both_length t h in
    let behind = both_length h.second h.is_second in omega arith

joined_weighs : {A : Type 0} (f : A → ℕ) (column : ℕ) (P : A → Text → Type 0) → Weighs f P → {xs : List A} {t : Text} → IsJoined column P xs t
    → total f xs ≤ length t + 1
joined_weighs f column P weighs (last {x = x} {t = t} h) = let entry = weighs x t h in omega arith
joined_weighs f column P weighs (more {x = x} first rest h k e) =
    let entry = weighs x h.first h.is_first in
    let line = line_full column h.second h.is_second in
    let front = both_length first h in
    let others = joined_weighs f column P weighs k in
    let whole = ap length e ∙ length-append first rest in omega arith

beside_weighs : (depth : ℕ) (inline : Production) (lower : ℕ → Production) → Weighs (weight depth) inline
    → ((column : ℕ) → Weighs (weight depth) (lower column)) → Weighs (weight depth) (IsBeside inline lower)
beside_weighs depth inline lower weighs deeper tree t (nothing e f) = empty_weighs depth tree t e
beside_weighs depth inline lower weighs deeper tree t (same_line h) =
    let value = weighs tree h.second h.is_second in
    let whole = both_length t h in omega arith
beside_weighs depth inline lower weighs deeper tree t (later_line column h) =
    let value = deeper column tree h.second h.is_second in
    let whole = both_length t h in omega arith

dash_weighs : (depth : ℕ) (inline : Production) (block : ℕ → Production) (column : ℕ) → Weighs (weight depth) inline
    → ((column : ℕ) → Weighs (weight depth) (block column)) → Weighs (weight depth) (IsItem inline block column)
dash_weighs depth inline block column weighs deeper tree t h =
    let value = beside_weighs depth inline (IsDeeper block column) weighs (λ c x s k. deeper c x s k.1) tree h.second h.is_second in
    let whole = both_length t h in omega arith

entry_weighs : (depth : ℕ) (inline : Production) (block : ℕ → Production) (column : ℕ) → Weighs (weight depth) inline
    → ((column : ℕ) → Weighs (weight depth) (block column)) → Weighs (pair_weight (weight depth)) (IsEntry inline block column)
entry_weighs depth inline block column weighs deeper pair t h =
    pair_weighs depth pair t h.key h.value h.parts (key_fits false (name_of pair) h.key h.value h.is_key)
    (beside_weighs depth inline (IsDeeperOrSequence block column) weighs (λ c x s k. deeper c x s k.1) (value_of pair) h.value h.is_value)

collection_weighs : (depth : ℕ) (inline : Production) (block : ℕ → Production) (column : ℕ) → Weighs (weight depth) inline
    → ((column : ℕ) → Weighs (weight depth) (block column)) → Weighs (weight (suc depth)) (IsBlockCollection inline block column)
collection_weighs depth inline block column weighs deeper tree t (sequence items e h) =
    let same = ap (weight (suc depth)) e ∙ seq_weight depth items in
    let item = dash_weighs depth inline block column weighs deeper in
    let inside = joined_weighs (weight depth) column (IsItem inline block column) item h in omega arith
collection_weighs depth inline block column weighs deeper tree t (mapping pairs e d h) =
    let same = ap (weight (suc depth)) e ∙ map_weight depth pairs in
    let entry = entry_weighs depth inline block column weighs deeper in
    let inside = joined_weighs (pair_weight (weight depth)) column (IsEntry inline block column) entry h in omega arith

block_weighs : (depth column : ℕ) → Weighs (weight depth) (IsBlock depth column)
unfolding IsBlock
block_weighs zero column tree t h = inline_weighs zero false tree t h.0
block_weighs (suc depth) column tree t (inl h) = inline_weighs (suc depth) false tree t h.0
block_weighs (suc depth) column tree t (inr h) =
    collection_weighs depth (IsInline depth false) (IsBlock depth) column (inline_weighs depth false) (block_weighs depth) tree t h

-- ---- a document

spelled_weighs : (t : Text) (tree : Yaml) → Spells tree t → weight 64 tree ≤ length t + 1
spelled_weighs t tree (node column h) =
    let inside = block_weighs 64 column tree h.is_second.first h.is_second.is_first in
    let whole = both_length t h in
    let behind = both_length h.second h.is_second in omega arith
spelled_weighs t tree (empty e h) = empty_weighs 64 tree t e

pub read_weighs : (t : Text) (tree : Yaml) → yaml_of t ≡ Ok tree → weight 64 tree ≤ length t + 1
read_weighs t tree e = spelled_weighs t tree (read_spells t tree e)
