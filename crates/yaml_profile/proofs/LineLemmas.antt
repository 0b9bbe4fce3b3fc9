-- The lines of a mapping, as they are printed, are read back.
use Rattle.std.proofs.Common.{◌≡◌, ℕ, zero, suc, ◌+◌, ◌<◌, ◌≤◌, Bool, true, false, cond, ◌&&◌, ◌==◌, nat_lt, List, [], ◌∷◌, ◌++◌, length, drop, replicate, Option, Some, None, Result, Ok, refl, sym, ap, subst, ◌∙◌, append_assoc, arith}
use Rattle.std.specs.Prelude.{flat_map}
use Rattle.std.proofs.lemmas.Bool.Decides.{nat_tests}
use Rattle.std.proofs.lemmas.List.{length-append}
use Rattle.yaml_profile.specs.declared.fault.Refusal.{Refusal}
use Rattle.yaml_profile.specs.declared.fault.Fault.TheVariants.{LeftOut, RepeatedKey, Syntax}
use Rattle.yaml_profile.specs.declared.error.Feature.TheVariants.{Documents}
use Rattle.yaml_profile.specs.declared.yaml.Yaml.{Yaml, out-Yaml}
use Rattle.yaml_profile.specs.declared.yaml.Yaml.TheOpen.{Yaml-F}
use Rattle.yaml_profile.specs.declared.yaml.Yaml.TheVariants.{Map, outs-Map}
use Rattle.yaml_profile.specs.declared.yaml.Pair.{Pair}
use Rattle.yaml_profile.specs.Text.{Text, Outcome, refuse, ◌>>=◌, sees, is_gap, past_white}
use Rattle.yaml_profile.specs.Mapping.{pair, has_name}
use Rattle.yaml_profile.specs.Block.{Line, Blocks, Node, line_from, is_marker, without_marker, next_line, ends_node, alone, is_found, entry_key, has_key, below, map_value, after_entry, new_entry, entries, block}
use Rattle.yaml_profile.specs.Tree.{name_of, IsText, IsNode, IsTree}
use Rattle.yaml_profile.specs.Tree as tree
use Rattle.yaml_profile.specs.Print.{Layer, quoted, value_text, entry_text, flow_text, map_lines}
use Rattle.yaml_profile.proofs.QuotedLemmas.{scalar_read}
use Rattle.yaml_profile.proofs.StartLemmas.{IsStarted, at_start, started_more, kept}
use Rattle.yaml_profile.proofs.InlineLemmas.{IsInline, NewPairs, one_more, map_is, new_pairs, tree_inline}

-- ---- lines

-- what reading a text that begins with a line gives: the next line, or nothing
abbrev pub Lines : Type 0
Lines = Result (Option Line) Refusal

-- the next line of a text that begins with one
abbrev pub first_line : Text → Lines
first_line t = line_from (Some 0) t >>= without_marker

next_is_first : (t : Text) → next_line (10 ∷ t) ≡ first_line t
unfolding next_line line_from
next_is_first t = refl

spaces_read : (column spaces : ℕ) (t : Text) → line_from (Some column) (replicate spaces 32 ++ t) ≡ line_from (Some (column + spaces)) t
unfolding line_from
spaces_read column zero t = ap (λ (n : ℕ). line_from (Some n) t) (omega arith)
spaces_read column (suc spaces) t = spaces_read (column + 1) spaces t ∙ ap (λ (n : ℕ). line_from (Some n) t) (omega arith)

pub line_read : (column : ℕ) (t : Text) → IsStarted t → line_from (Some column) t ≡ Ok (Some (column, t))
unfolding line_from past_white
line_read column t s = at_start (λ (w : Text). line_from (Some column) w ≡ Ok (Some (column, w))) t s (λ w. refl) (λ w. refl) (λ w. refl)

and_false : (b : Bool) → (b && false) ≡ false
and_false true = refl
and_false false = refl

pub no_marker : (column : ℕ) (t : Text) → IsStarted t → without_marker (Some (column, t)) ≡ Ok (Some (column, t))
no_marker column t s =
    at_start (λ (w : Text). without_marker (Some (column, w)) ≡ Ok (Some (column, w))) t s
    (λ w. choice (34 ∷ w) (and_false (column == 0))) (λ w. choice (91 ∷ w) (and_false (column == 0)))
    (λ w. choice (123 ∷ w) (and_false (column == 0)))
  where
    choice : (w : Text) → is_marker (column, w) ≡ false → without_marker (Some (column, w)) ≡ Ok (Some (column, w))
    choice w e = ap (λ (c : Bool). cond c (refuse (LeftOut Documents) w) (Ok (Some (column, w)))) e

pub first_read : (spaces : ℕ) (t : Text) → IsStarted t → first_line (replicate spaces 32 ++ t) ≡ Ok (Some (spaces, t))
first_read spaces t s =
    ap (λ (o : Lines). o >>= without_marker) (spaces_read 0 spaces t ∙ line_read (0 + spaces) t s ∙ ap (λ (n : ℕ). Ok (Some (n, t))) (omega arith))
    ∙ no_marker spaces t s

-- ---- what follows a mapping

-- no line follows, or one of a smaller column
abbrev pub IsLeft : ℕ → Option Line → Type 0
IsLeft spaces None = Unit {0}
IsLeft spaces (Some l) = l.0 < spaces

-- the text begins with this line, which ends a mapping at the column
pub record Follows (spaces : ℕ) (rest : Text) (next : Option Line) : Type 0 where
  pub read : first_line rest ≡ Ok next
  pub left : IsLeft spaces next

left_more : (spaces : ℕ) (next : Option Line) → IsLeft spaces next → IsLeft (spaces + 2) next
left_more spaces None h = tt
left_more spaces (Some l) h = omega arith

follows_more : (spaces : ℕ) (rest : Text) (next : Option Line) → Follows spaces rest next → Follows (spaces + 2) rest next
follows_more spaces rest next f = record { read = f.read; left = left_more spaces next f.left }

-- ---- a value on its key's line

line_ended : (t : Text) → ends_node (10 ∷ t) ≡ true
unfolding past_white
line_ended t = refl

not_ended : (t : Text) → IsStarted t → ends_node (32 ∷ t) ≡ false
unfolding past_white
not_ended t s = at_start (λ (w : Text). ends_node (32 ∷ w) ≡ false) t s (λ w. refl) (λ w. refl) (λ w. refl)

pub alone_read : (depth : ℕ) (y : Yaml) (rest : Text) (next : Option Line) → IsInline depth y → first_line rest ≡ Ok next
    → alone depth (flow_text depth y ++ 10 ∷ rest) ≡ Ok (y, next)
unfolding alone
alone_read depth y rest next r e =
    ap (λ (o : Outcome Yaml). o >>= λ node. cond (ends_node node.1) (next_line node.1 >>= λ l. Ok (node.0, l)) (refuse Syntax (past_white node.1)))
    (r.again false (10 ∷ rest))
    ∙ ap (λ (c : Bool). cond c (next_line (10 ∷ rest) >>= λ l. Ok (y, l)) (refuse Syntax (past_white (10 ∷ rest)))) (line_ended rest)
    ∙ ap (λ (o : Lines). o >>= λ l. Ok (y, l)) (next_is_first rest ∙ e)

on_line : (node : Node) (depth column : ℕ) (y : Yaml) (rest : Text) (next : Option Line) → IsInline depth y → first_line rest ≡ Ok next
    → map_value node depth column ((32 ∷ (flow_text depth y ++ 10 ∷ [])) ++ rest) ≡ Ok (y, next)
unfolding map_value
on_line node depth column y rest next r e =
    let w = flow_text depth y in
    let t = w ++ 10 ∷ rest in
    let s = started_more w (10 ∷ rest) r.started in
    ap (λ (x : Text). map_value node depth column (32 ∷ x)) (append_assoc w (10 ∷ []) rest)
    ∙ ap (λ (c : Bool). cond c (next_line (32 ∷ t) >>= below node true column) (alone depth (past_white (32 ∷ t)))) (not_ended t s)
    ∙ ap (alone depth) (kept t s).past_space ∙ alone_read depth y rest next r e

-- ---- a value on the lines below

if_true : {A : Type 0} (c : Bool) (x y : A) → c ≡ true → cond c x y ≡ x
if_true c x y e = ap (λ (b : Bool). cond b x y) e

pub if_false : {A : Type 0} (c : Bool) (x y : A) → c ≡ false → cond c x y ≡ y
if_false c x y e = ap (λ (b : Bool). cond b x y) e

below_line : (node : Node) (depth column spaces : ℕ) (t rest : Text) → column < spaces → first_line rest ≡ Ok (Some (spaces, t))
    → map_value node depth column (10 ∷ rest) ≡ node false (spaces, t)
unfolding map_value
below_line node depth column spaces t rest h e =
    let deeper : nat_lt column spaces ≡ true = grind (arith, nat_tests) in
    if_true (ends_node (10 ∷ rest)) (next_line (10 ∷ rest) >>= below node true column) (alone depth (past_white (10 ∷ rest))) (line_ended rest)
    ∙ ap (λ (o : Lines). o >>= below node true column) (next_is_first rest ∙ e) ∙ if_true (nat_lt column spaces) _ _ deeper

-- ---- a mapping

-- the lines of pairs, to so many levels below them
abbrev pairs_lines : ℕ → ℕ → List Pair → List ℕ
pairs_lines depth spaces ps = flat_map (entry_text (flow_text depth) (map_lines depth (spaces + 2)) spaces) ps

-- what stands after the colon of a pair
abbrev value_lines : ℕ → ℕ → Yaml → List ℕ
value_lines depth spaces v = value_text (flow_text depth) (map_lines depth (spaces + 2)) v (out-Yaml v)

-- a text from the name of a pair on
abbrev from_name : ℕ → ℕ → Pair → Text → Text
from_name depth spaces p more = quoted (name_of p) ++ (58 ∷ (value_lines depth spaces (tree.value_of p) ++ more))

lines_from : (depth spaces : ℕ) (p : Pair) (ps : List Pair) (rest : Text)
    → pairs_lines depth spaces (p ∷ ps) ++ rest ≡ replicate spaces 32 ++ from_name depth spaces p (pairs_lines depth spaces ps ++ rest)
lines_from depth spaces p ps rest =
    let white : List ℕ = replicate spaces 32 in
    let name : List ℕ = quoted (name_of p) in
    let value : List ℕ = value_lines depth spaces (tree.value_of p) in
    let more : List ℕ = pairs_lines depth spaces ps in
    append_assoc (white ++ name ++ 58 ∷ value) more rest ∙ append_assoc (white ++ name) (58 ∷ value) (more ++ rest)
    ∙ append_assoc white name (58 ∷ (value ++ (more ++ rest)))

name_started : (depth spaces : ℕ) (p : Pair) (more : Text) → IsStarted (from_name depth spaces p more)
name_started depth spaces p more = record { first = 34; others = _; parts = refl; starts = refl }

-- the lines of a mapping are read as that mapping, and leave the line after them
pub record IsBlock (depth spaces : ℕ) (p : Pair) (ps : List Pair) (rest : Text) (next : Option Line) : Type 0 where
  pub text : Text
  pub parts : map_lines depth spaces (p ∷ ps) ++ rest ≡ replicate spaces 32 ++ text
  pub started : IsStarted text
  pub again : block depth false (spaces, text) ≡ Ok (Map (p ∷ ps), next)

abbrev BlocksRead : ℕ → Type 0
BlocksRead depth =
    (spaces : ℕ) (p : Pair) (ps : List Pair) (rest : Text) (next : Option Line) → IsTree depth (Map (p ∷ ps)) → Follows spaces rest next
    → IsBlock depth spaces p ps rest next

value_read : (depth spaces : ℕ) (v : Yaml) (rest : Text) (next : Option Line) → BlocksRead depth → IsTree depth v → Follows (spaces + 2) rest next
    → map_value (block depth) depth spaces (value_lines depth spaces v ++ rest) ≡ Ok (v, next)
value_read depth spaces v rest next below h f = go (out-Yaml v) refl
  where
    reads : Layer → Blocks
    reads l = map_value (block depth) depth spaces (value_text (flow_text depth) (map_lines depth (spaces + 2)) v l ++ rest)

    beside : map_value (block depth) depth spaces ((32 ∷ (flow_text depth v ++ 10 ∷ [])) ++ rest) ≡ Ok (v, next)
    beside = on_line (block depth) depth spaces v rest next (tree_inline depth v h) f.read

    go : (l : Layer) → out-Yaml v ≡ l → reads (out-Yaml v) ≡ Ok (v, next)
    go (Yaml-F.Scalar text) e = ap reads e ∙ beside
    go (Yaml-F.Seq ys) e = ap reads e ∙ beside
    go (Yaml-F.Map []) e = ap reads e ∙ beside
    go (Yaml-F.Map (q ∷ qs)) e =
        let same = map_is v (q ∷ qs) e in
        let b = below (spaces + 2) q qs rest next (subst (λ (y : Yaml). IsTree depth y) (sym same) h) f in
        ap reads e
        ∙ below_line (block depth) depth spaces (spaces + 2) b.text (map_lines depth (spaces + 2) (q ∷ qs) ++ rest) (omega arith)
        (ap first_line b.parts ∙ first_read (spaces + 2) b.text b.started)
        ∙ b.again ∙ ap (λ (y : Yaml). Ok (y, next)) same

value_gap : (depth spaces : ℕ) (v : Yaml) (rest : Text) → is_gap (value_lines depth spaces v ++ rest) ≡ true
value_gap depth spaces v rest = go (out-Yaml v) refl
  where
    gap : Layer → Bool
    gap l = is_gap (value_text (flow_text depth) (map_lines depth (spaces + 2)) v l ++ rest)

    go : (l : Layer) → out-Yaml v ≡ l → gap (out-Yaml v) ≡ true
    go (Yaml-F.Scalar text) e = ap gap e
    go (Yaml-F.Seq ys) e = ap gap e
    go (Yaml-F.Map []) e = ap gap e
    go (Yaml-F.Map (q ∷ qs)) e = ap gap e

key_read : (name : List ℕ) (t : Text) → is_gap t ≡ true → entry_key (quoted name ++ 58 ∷ t) ≡ Ok (name, t)
unfolding entry_key past_white
key_read name t gap =
    let whole = quoted name ++ 58 ∷ t in
    let colon : List ℕ × Text → Outcome (List ℕ) =
    λ key. cond (sees 58 (past_white key.1) && is_gap (drop 1 (past_white key.1))) (Ok (key.0, drop 1 (past_white key.1))) (refuse Syntax whole) in
    ap (λ (o : Outcome (List ℕ)). o >>= colon) (scalar_read false name (58 ∷ t)) ∙ if_true (is_gap t) (Ok (name, t)) (refuse Syntax whole) gap

pair_key : (depth spaces : ℕ) (p : Pair) (more : Text)
    → entry_key (from_name depth spaces p more) ≡ Ok (name_of p, value_lines depth spaces (tree.value_of p) ++ more)
pair_key depth spaces p more =
    key_read (name_of p) (value_lines depth spaces (tree.value_of p) ++ more) (value_gap depth spaces (tree.value_of p) more)

-- an entry whose name is new and whose value is read
one_entry : (depth spaces n : ℕ) (found : List Pair) (p : Pair) (more : Text) (next : Option Line) → has_name (name_of p) found ≡ false
    → map_value (block depth) depth spaces (value_lines depth spaces (tree.value_of p) ++ more) ≡ Ok (tree.value_of p, next)
    → entries (block depth) depth spaces (suc n) found (from_name depth spaces p more)
    ≡ after_entry (Map (found ++ p ∷ [])) spaces (λ l. entries (block depth) depth spaces n (found ++ p ∷ []) l.1) next
unfolding entries new_entry
one_entry depth spaces n found p more next new read =
    let t = from_name depth spaces p more in
    let w = value_lines depth spaces (tree.value_of p) ++ more in
    let named : List ℕ × Text → Outcome (List ℕ) = λ key. cond (has_name key.0 found) (refuse RepeatedKey t) (Ok key) in
    let after : List Pair → Option Line → Blocks = λ now. after_entry (Map now) spaces (λ l. entries (block depth) depth spaces n now l.1) in
    let valued : List ℕ × Text → Blocks =
    λ key. map_value (block depth) depth spaces key.1 >>= λ value. after (found ++ pair key.0 value.0 ∷ []) value.1 in
    ap (λ (o : Outcome (List ℕ)). o >>= named >>= valued) (pair_key depth spaces p more)
    ∙ ap (λ (o : Outcome (List ℕ)). o >>= valued) (if_false (has_name (name_of p) found) (refuse RepeatedKey t) (Ok (name_of p, w)) new)
    ∙ ap (λ (o : Blocks). o >>= λ value. after (found ++ pair (name_of p) value.0 ∷ []) value.1) read
    ∙ ap (λ (now : List Pair). after now next) (one_more found p)

entry_ends : (whole : Yaml) (column : ℕ) (go_on : Line → Blocks) (next : Option Line) → IsLeft column next
    → after_entry whole column go_on next ≡ Ok (whole, next)
entry_ends whole column go_on None h = refl
entry_ends whole column go_on (Some l) h =
    let left : nat_lt l.0 column ≡ true = grind (arith, nat_tests) in
    if_true (nat_lt l.0 column) _ _ left

entry_goes_on : (whole : Yaml) (column : ℕ) (go_on : Line → Blocks) (t : Text) → after_entry whole column go_on (Some (column, t)) ≡ go_on (column, t)
entry_goes_on whole column go_on t =
    let same : nat_lt column column ≡ false = grind (arith, nat_tests) in
    if_false (nat_lt column column) _ _ same ∙ if_false (nat_lt column column) _ _ same

entries_read : (depth spaces : ℕ) (p : Pair) (ps : List Pair) (n : ℕ) (found : List Pair) (rest : Text) (next : Option Line) → BlocksRead depth
    → NewPairs (IsTree depth) found (p ∷ ps) → length ps ≤ n → Follows spaces rest next
    → entries (block depth) depth spaces (suc n) found (from_name depth spaces p (pairs_lines depth spaces ps ++ rest))
    ≡ Ok (Map (found ++ p ∷ ps), next)
entries_read depth spaces p [] n found rest next below each le f =
    one_entry depth spaces n found p rest next each.1
    (value_read depth spaces (tree.value_of p) rest next below each.0 (follows_more spaces rest next f))
    ∙ entry_ends (Map (found ++ p ∷ [])) spaces _ next f.left
entries_read depth spaces p (q ∷ ps) zero found rest next below each le f = absurd (omega arith)
entries_read depth spaces p (q ∷ ps) (suc n) found rest next below each le f =
    let more = pairs_lines depth spaces (q ∷ ps) ++ rest in
    let t = from_name depth spaces q (pairs_lines depth spaces ps ++ rest) in
    let line : Follows (spaces + 2) more (Some (spaces, t)) = record {
      read =
          ap first_line (lines_from depth spaces q ps rest) ∙ first_read spaces t (name_started depth spaces q (pairs_lines depth spaces ps ++ rest));
      left = omega arith;
    } in
    one_entry depth spaces (suc n) found p more (Some (spaces, t)) each.1
    (value_read depth spaces (tree.value_of p) more (Some (spaces, t)) below each.0 line)
    ∙ entry_goes_on (Map (found ++ p ∷ [])) spaces (λ l. entries (block depth) depth spaces (suc n) (found ++ p ∷ []) l.1) t
    ∙ entries_read depth spaces q ps n (found ++ p ∷ []) rest next below each.2 (omega arith) f
    ∙ ap (λ (w : List Pair). Ok (Map w, next)) (append_assoc found (p ∷ []) (q ∷ ps))

lines_long : (depth spaces : ℕ) (ps : List Pair) → length ps ≤ length (pairs_lines depth spaces ps)
lines_long depth spaces [] = omega arith
lines_long depth spaces (p ∷ ps) =
    let one = entry_text (flow_text depth) (map_lines depth (spaces + 2)) spaces p in
    let named : List ℕ = replicate spaces 32 ++ quoted (name_of p) in
    let value = value_lines depth spaces (tree.value_of p) in
    let parts : pairs_lines depth spaces (p ∷ ps) ≡ one ++ pairs_lines depth spaces ps = refl in
    let more : one ≡ named ++ 58 ∷ value = refl in
    let longer = length-append one (pairs_lines depth spaces ps) in
    omega (arith, ap length parts, ap length more, longer, length-append named (58 ∷ value), lines_long depth spaces ps)

mapping_pairs : (depth : ℕ) (ps : List Pair) → IsTree (suc depth) (Map ps) → NewPairs (IsTree depth) [] ps
unfolding IsTree
mapping_pairs depth ps h = new_pairs (IsTree depth) ps (subst (λ (l : Layer). IsNode (IsTree depth) l) (outs-Map ps) h)

no_mapping : (ps : List Pair) → IsTree zero (Map ps) → ⊥
unfolding IsTree
no_mapping ps h = subst (λ (l : Layer). IsText l) (outs-Map ps) h

pub blocks_read : (depth : ℕ) → BlocksRead depth
unfolding map_lines block
blocks_read zero spaces p ps rest next h f = absurd (no_mapping (p ∷ ps) h)
blocks_read (suc depth) spaces p ps rest next h f =
    let more = pairs_lines depth spaces ps ++ rest in
    let t = from_name depth spaces p more in
    let name = quoted (name_of p) in
    let value = value_lines depth spaces (tree.value_of p) in
    let lines = length-append (pairs_lines depth spaces ps) rest in
    let long : length ps ≤ length t =
    omega (arith, length-append name (58 ∷ (value ++ more)), length-append value more, lines, lines_long depth spaces ps) in
    record {
      text = t;
      parts = lines_from depth spaces p ps rest;
      started = name_started depth spaces p more;
      again =
          if_true (has_key t) _ _ (ap is_found (pair_key depth spaces p more))
          ∙ entries_read depth spaces p ps (length t) [] rest next (blocks_read depth) (mapping_pairs depth (p ∷ ps) h) long f;
    }
