-- The texts of block collections are read as such.
use Rattle.std.proofs.Common.{◌≡◌, ◌⊎◌, inl, inr, ℕ, zero, suc, ◌<◌, Bool, true, false, ◌&&◌, ◌||◌, ◌==◌, cond, nat_lt, List, [], ◌∷◌, ◌++◌, length, drop, Option, Some, None, Ok, refl, sym, ap, subst, ◌∙◌, append_assoc, arith}
use Rattle.std.proofs.lemmas.Bool.Decides.{nat_tests}
use Rattle.yaml_profile.specs.declared.fault.Fault.TheVariants.{Syntax}
use Rattle.yaml_profile.specs.declared.yaml.Yaml.{Yaml}
use Rattle.yaml_profile.specs.declared.yaml.Yaml.TheVariants.{Seq, Map}
use Rattle.yaml_profile.specs.declared.yaml.Pair.{Pair}
use Rattle.yaml_profile.specs.Text.{Text, refuse, sees, is_gap}
use Rattle.yaml_profile.specs.Flow.{left_out, unless}
use Rattle.yaml_profile.specs.Block.{Line, Blocks, Node, is_three, is_marker, ends_node, alone, is_dash, is_found, has_key, item, after_entry, entries, after_dash, dashes, block}
use Rattle.yaml_profile.specs.Space.{◌and_then◌, IsBreak, ToLine}
use Rattle.yaml_profile.specs.Spells.{Production, IsInline, IsJoined, last, more, IsDeeper, IsItem, IsEntry, IsBlockCollection, sequence, mapping, IsLineNode, IsBlock}
use Rattle.yaml_profile.proofs.FineLemmas.{either, first_of_both, second_of_both}
use Rattle.yaml_profile.proofs.SpellsPartLemmas.{Cuts, whole_cut, IsFull, full_shorter}
use Rattle.yaml_profile.proofs.SpellsScalarLemmas.{differ}
use Rattle.yaml_profile.proofs.SpellsKeyLemmas.{refuted, append_full, full_append, full_by}
use Rattle.yaml_profile.proofs.SpellsFlowLemmas.{Distinct}
use Rattle.yaml_profile.proofs.SpellsBlockLemmas.{node_gap, gap_more, line_begins, beside_gap}
use Rattle.yaml_profile.proofs.SpellsBackSpaceLemmas.{when_true, when_false, when_ok, split, one_cut, Led, line_led}
use Rattle.yaml_profile.proofs.SpellsBackScalarLemmas.{IsBegun}
use Rattle.yaml_profile.proofs.SpellsBackFlowLemmas.{new_name, distinct_along, admit, inline_back}
use Rattle.yaml_profile.proofs.SpellsBackBlockLemmas.{gap_other, IsStart, begun_start, node_over, inline_text, alone_back, Apart, Outside, BlockBack, BlockStarts, beside_back, item_back, entry_text, entry_key_back, one_entry, outside_apart, after_mapping, at_column}

-- ---- lines

break_full : (s : Text) → IsBreak s → IsFull s
break_full s (inl e) = full_by (10 ∷ []) s e (λ f. cc)
break_full s (inr h) = full_by (h.first ++ h.second) s h.parts (append_full h.first h.second (full_by (13 ∷ []) h.first h.is_first (λ f. cc)))

line_full : (column : ℕ) (s : Text) → ToLine column s → IsFull s
line_full column s h =
    let k = h.is_second in
    full_by (h.first ++ h.second) s h.parts (full_append h.first h.second
    (full_by (k.first ++ k.second) h.second k.parts (append_full k.first k.second (break_full k.first k.is_first))))

entry_full : {P : Text → Type 0} (column : ℕ) (s : Text) → (P and_then ToLine column) s → IsFull s
entry_full column s h = full_by (h.first ++ h.second) s h.parts (full_append h.first h.second (line_full column h.second h.is_second))

-- ---- mappings

-- the text of entries, with what ends their last line
record EntriesText (column : ℕ) (t : Text) : Type 0 where
  start : IsStart column t
  dash : is_dash t ≡ false
  out : left_out t ≡ None
  key : has_key t ≡ true

entry_first : (inline : Production) (block : ℕ → Production) (column : ℕ) (p : Pair) (t after : Text) → Cuts (IsEntry inline block column p) t after
    → is_gap after ≡ true → EntriesText column t
entry_first inline block column p t after c g =
    let e = entry_text inline block column p t after c g in
    let b = e.key.back.begins.begun in
    record {
      start = begun_start column t b e.no_marker;
      dash = b.dash;
      out = b.out;
      key = ap is_found
          (entry_key_back _ t (e.value ++ after) e.key e.gap);
    }

entries_text : (inline : Production) (block : ℕ → Production) (column : ℕ) (ps : List Pair) (s after : Text)
    → IsJoined column (IsEntry inline block column) ps s → is_gap after ≡ true → EntriesText column (s ++ after)
entries_text inline block column ps s after (last {x = p} h) g = entry_first inline block column p (s ++ after) after (whole_cut s after h) g
entries_text inline block column ps s after (more {x = p} first rest h j e) g =
    let u = rest ++ after in
    let k = split (whole_cut first u h) in
    let gap : is_gap k.middle ≡ true = ap is_gap k.back.whole ∙ line_begins column k.back.part u k.back.holds in
    let P : Text → Type 0 = λ x. EntriesText column x in
    subst P (sym (ap (λ (x : Text). x ++ after) e ∙ append_assoc first rest after))
    (entry_first inline block column p (first ++ u) k.middle k.front gap)

entries_back : (depth : ℕ) (block : ℕ → Production) (node : Node) → BlockBack block node → BlockStarts block
    → (column n : ℕ) (found ps : List Pair) (s after : Text) (next : Option Line)
    → IsJoined column (IsEntry (IsInline depth false) block column) ps s → Led after next → Outside false column next → Distinct (found ++ ps)
    → length (s ++ after) < n
    → entries node depth column n found (s ++ after) ≡ Ok (Map (found ++ ps), next)
entries_back depth block node back starts column zero found ps s after next j l o d less = absurd (omega arith)
entries_back depth block node back starts column (suc n) found ps s after next (last {x = p} h) l o d less =
    one_entry depth block node back starts column n found p (s ++ after) after next (whole_cut s after h) l
    (outside_apart true false column next (λ _. refl) o) (new_name found p [] d)
    ∙ after_mapping (Map (found ++ p ∷ [])) column _ next o
entries_back depth block node back starts column (suc n) found ps s after next (more {x = p} {xs = qs} first rest h j e) l o d less =
    let I : Production = IsInline depth false in
    let u = rest ++ after in
    let whole : s ++ after ≡ first ++ u = ap (λ (x : Text). x ++ after) e ∙ append_assoc first rest after in
    let k = split (whole_cut first u h) in
    let text = entries_text I block column qs rest after j (node_gap after l.ends) in
    let led = line_led column k.middle u k.back text.start.stop text.start.no_marker in
    let no : nat_lt column column ≡ false = grind (arith, nat_tests) in
    let eq : (column == column) ≡ true = grind (arith, nat_tests) in
    let apart : Apart true column (Some (column, u)) = (no, ap (λ (c : Bool). c && is_dash u) eq ∙ text.dash) in
    let shorter : length u < n = (let a = full_shorter first u (entry_full column first h) in let b = ap length whole in omega arith) in
    ap (entries node depth column (suc n) found) whole
    ∙ one_entry depth block node back starts column n found p (first ++ u) k.middle (Some (column, u)) k.front led apart (new_name found p qs d)
    ∙ at_column (Map (found ++ p ∷ [])) column (λ k. entries node depth column n (found ++ p ∷ []) k.1) u
    ∙ entries_back depth block node back starts column n (found ++ p ∷ []) qs rest after next j l o (distinct_along found p qs d) shorter
    ∙ ap (λ (x : List Pair). Ok (Map x, next)) (append_assoc found (p ∷ []) qs)

-- ---- sequences

dash_marker : (column : ℕ) (t : Text) → is_gap t ≡ true → is_marker (column, 45 ∷ t) ≡ false
dash_marker column t g =
    refuted (is_marker (column, 45 ∷ t)) false (λ e.
    let both = is_three 45 (45 ∷ t) || is_three 46 (45 ∷ t) in
    either (is_three 45 (45 ∷ t)) (is_three 46 (45 ∷ t))
    (λ f. absurd (differ (first_of_both (sees 45 t) (sees 45 (drop 1 t)) (first_of_both (sees 45 t && sees 45 (drop 1 t)) (is_gap (drop 2 t)) f))
    (gap_other 45 t refl refl g)))
    (λ f. f) (second_of_both (column == 0) both e)) refl

-- the text of items, with what ends their last line
record ItemsText (column : ℕ) (t : Text) : Type 0 where
  start : IsStart column t
  dash : is_dash t ≡ true
  out : left_out t ≡ None

dash_text : (column : ℕ) (t : Text) → is_gap t ≡ true → ItemsText column (45 ∷ t)
dash_text column t g = record {
  start = record { stop = record { no_gap = refl; no_hash = refl }; no_marker = dash_marker column t g; percent = refl };
  dash = g;
  out = refl;
}

item_first : (inline : Production) (block : ℕ → Production) (column : ℕ) (x : Yaml) (t after : Text) → Cuts (IsItem inline block column x) t after
    → is_gap after ≡ true → ItemsText column t
item_first inline block column x t after c g =
    let k = split c in
    let gap : is_gap k.middle ≡ true = ap is_gap k.back.whole
    ∙ gap_more k.back.part after (beside_gap inline (IsDeeper block column) x k.back.part k.back.holds) g in
    let P : Text → Type 0 = λ y. ItemsText column y in subst P (sym (one_cut k.front)) (dash_text column k.middle gap)

items_text : (inline : Production) (block : ℕ → Production) (column : ℕ) (xs : List Yaml) (s after : Text)
    → IsJoined column (IsItem inline block column) xs s → is_gap after ≡ true → ItemsText column (s ++ after)
items_text inline block column xs s after (last {x = x} h) g = item_first inline block column x (s ++ after) after (whole_cut s after h) g
items_text inline block column xs s after (more {x = x} first rest h j e) g =
    let u = rest ++ after in
    let k = split (whole_cut first u h) in
    let gap : is_gap k.middle ≡ true = ap is_gap k.back.whole ∙ line_begins column k.back.part u k.back.holds in
    let P : Text → Type 0 = λ y. ItemsText column y in
    subst P (sym (ap (λ (y : Text). y ++ after) e ∙ append_assoc first rest after))
    (item_first inline block column x (first ++ u) k.middle k.front gap)

-- the item, and what comes after it
one_item : (depth : ℕ) (block : ℕ → Production) (node : Node) → BlockBack block node → BlockStarts block
    → (held : Bool) (column n : ℕ) (found : List Yaml) (x : Yaml) (t after : Text) (next : Option Line)
    → Cuts (IsItem (IsInline depth false) block column x) t after → Led after next → Apart false column next
    → dashes node depth held column (suc n) found t
    ≡ after_entry (Seq (found ++ x ∷ [])) column (after_dash held (Seq (found ++ x ∷ [])) (dashes node depth held column n (found ++ x ∷ []))) next
unfolding dashes
one_item depth block node back starts held column n found x t after next c l a =
    let k = split c in
    let rest : Yaml × Option Line → Blocks = λ v.
    after_entry (Seq (found ++ v.0 ∷ [])) column (after_dash held (Seq (found ++ v.0 ∷ []))
    (dashes node depth held column n (found ++ v.0 ∷ []))) v.1 in
    let b = beside_back depth block node back starts false column x k.back.part after next k.back.holds l a in
    ap (dashes node depth held column (suc n) found) (one_cut k.front ∙ ap (λ (y : Text). 45 ∷ y) k.back.whole)
    ∙ when_ok (item node depth column (k.back.part ++ after)) (x, next) rest (item_back depth node column x (k.back.part ++ after) next b)

-- the line after a sequence ends it
after_sequence : (held : Bool) (whole : Yaml) (column : ℕ) (go_on : Text → Blocks) (next : Option Line) → Outside held column next
    → after_entry whole column (after_dash held whole go_on) next ≡ Ok (whole, next)
after_sequence held whole column go_on None o = refl
after_sequence held whole column go_on (Some l) (inl less) = let e : nat_lt l.0 column ≡ true = grind (arith, nat_tests) in when_true
    (nat_lt l.0 column) (Ok (whole, Some l)) _ e
after_sequence held whole column go_on (Some l) (inr h) =
    let at = h.1 in
    let e : nat_lt l.0 column ≡ false = grind (arith, nat_tests) in
    let f : nat_lt column l.0 ≡ false = grind (arith, nat_tests) in
    when_false (nat_lt l.0 column) (Ok (whole, Some l)) _ e ∙ when_false (nat_lt column l.0) _ (after_dash held whole go_on l) f
    ∙ when_false (is_dash l.1) (go_on l.1) _ h.2 ∙ when_true held (Ok (whole, Some l)) (refuse Syntax l.1) h.0

dashes_back : (depth : ℕ) (block : ℕ → Production) (node : Node) → BlockBack block node → BlockStarts block
    → (held : Bool) (column n : ℕ) (found xs : List Yaml) (s after : Text) (next : Option Line)
    → IsJoined column (IsItem (IsInline depth false) block column) xs s → Led after next → Outside held column next → length (s ++ after) < n
    → dashes node depth held column n found (s ++ after) ≡ Ok (Seq (found ++ xs), next)
dashes_back depth block node back starts held column zero found xs s after next j l o less = absurd (omega arith)
dashes_back depth block node back starts held column (suc n) found xs s after next (last {x = x} h) l o less =
    one_item depth block node back starts held column n found x (s ++ after) after next (whole_cut s after h) l
    (outside_apart false held column next (λ e. absurd cc) o)
    ∙ after_sequence held (Seq (found ++ x ∷ [])) column _ next o
dashes_back depth block node back starts held column (suc n) found xs s after next (more {x = x} {xs = ys} first rest h j e) l o less =
    let I : Production = IsInline depth false in
    let u = rest ++ after in
    let whole : s ++ after ≡ first ++ u = ap (λ (y : Text). y ++ after) e ∙ append_assoc first rest after in
    let k = split (whole_cut first u h) in
    let text = items_text I block column ys rest after j (node_gap after l.ends) in
    let led = line_led column k.middle u k.back text.start.stop text.start.no_marker in
    let no : nat_lt column column ≡ false = grind (arith, nat_tests) in
    let now = found ++ x ∷ [] in
    let shorter : length u < n = (let a = full_shorter first u (entry_full column first h) in let b = ap length whole in omega arith) in
    ap (dashes node depth held column (suc n) found) whole
    ∙ one_item depth block node back starts held column n found x (first ++ u) k.middle (Some (column, u)) k.front led (no, refl)
    ∙ at_column (Seq now) column (after_dash held (Seq now) (dashes node depth held column n now)) u
    ∙ when_true (is_dash u) (dashes node depth held column n now u) (cond held (Ok (Seq now, Some (column, u))) (refuse Syntax u)) text.dash
    ∙ dashes_back depth block node back starts held column n now ys rest after next j l o shorter
    ∙ ap (λ (y : List Yaml). Ok (Seq y, next)) (append_assoc found (x ∷ []) ys)

-- ---- block nodes

-- the text of an inline node at the start of a line, with what ends its last line
record LineText (depth column : ℕ) (x : Yaml) (t : Text) (next : Option Line) : Type 0 where
  reads : alone depth t ≡ Ok (x, next)
  begun : IsBegun t
  no_key : has_key t ≡ false

line_text : (depth column : ℕ) (x : Yaml) (t after : Text) (next : Option Line) → Cuts (IsLineNode depth column x) t after → Led after next
    → LineText depth column x t next
line_text depth column x t after next c l =
    let a = alone_back depth x t after next (record { part = c.part; whole = c.whole; holds = c.holds.0 }) l in
    record {
      reads = a.reads;
      begun = a.begun;
      no_key = ap has_key c.whole
          ∙ (inline_text depth column x c.part after c.holds.0 l.ends c.holds.1).no_key;
    }

line_start : (depth column : ℕ) (x : Yaml) (t after : Text) → Cuts (IsLineNode depth column x) t after → ends_node after ≡ true → IsStart column t
line_start depth column x t after c e =
    let inner : Cuts (IsInline depth false x) t after = record { part = c.part; whole = c.whole; holds = c.holds.0 } in
    begun_start column t (inline_back depth false x t after inner (node_over false after e)).1
    (ap (λ (y : Text). is_marker (column, y)) c.whole ∙ (inline_text depth column x c.part after c.holds.0 e c.holds.1).no_marker)

collection_start : (inline : Production) (block : ℕ → Production) (column : ℕ) (x : Yaml) (s after : Text)
    → IsBlockCollection inline block column x s → ends_node after ≡ true → IsStart column (s ++ after)
collection_start inline block column x s after (sequence xs same j) e = (items_text inline block column xs s after j (node_gap after e)).start
collection_start inline block column x s after (mapping ps same d j) e = (entries_text inline block column ps s after j (node_gap after e)).start

pub block_starts : (depth : ℕ) → BlockStarts (IsBlock depth)
unfolding IsBlock
block_starts zero column x t after c e = line_start zero column x t after c e
block_starts (suc depth) column x t after c e = let P : Text → Type 0 = λ y. IsStart column y in subst P (sym c.whole) (go c.part c.holds)
  where
    go : (s : Text) → IsLineNode (suc depth) column x s ⊎ IsBlockCollection (IsInline depth false) (IsBlock depth) column x s
        → IsStart column (s ++ after)
    go s (inl h) = line_start (suc depth) column x (s ++ after) after (whole_cut s after h) e
    go s (inr h) = collection_start (IsInline depth false) (IsBlock depth) column x s after h e

-- a block node by its first bytes
one_by : (column depth : ℕ) (x : Yaml) (t : Text) (next : Option Line) (seq map : Blocks) → LineText depth column x t next
    → unless (left_out t) t (cond (is_dash t) seq (cond (has_key t) map (alone depth t))) ≡ Ok (x, next)
one_by column depth x t next seq map k = admit (left_out t) t _ k.begun.out ∙ when_false (is_dash t) seq _ k.begun.dash
    ∙ when_false (has_key t) map (alone depth t) k.no_key ∙ k.reads

not_held : (held dash : Bool) → dash ≡ false → (held ≡ true → dash ≡ true) → held ≡ false
not_held true dash e f = absurd (differ (f refl) e)
not_held false dash e f = refl

collection_back : (depth : ℕ) → BlockBack (IsBlock depth) (block depth) → (held : Bool) (column : ℕ) (x : Yaml) (s after : Text) (next : Option Line)
    → IsBlockCollection (IsInline depth false) (IsBlock depth) column x s → Led after next → Outside held column next
    → (held ≡ true → is_dash (s ++ after) ≡ true)
    → block (suc depth) held (column, s ++ after) ≡ Ok (x, next)
unfolding block
collection_back depth back held column x s after next (sequence xs same j) l o f =
    let t = s ++ after in
    let text = items_text (IsInline depth false) (IsBlock depth) column xs s after j (node_gap after l.ends) in
    admit (left_out t) t _ text.out ∙ when_true (is_dash t) (dashes (block depth) depth held column (suc (length t)) [] t) _ text.dash
    ∙ dashes_back depth (IsBlock depth) (block depth) back (block_starts depth) held column (suc (length t)) [] xs s after next j l o (omega arith)
    ∙ ap (λ (y : Yaml). Ok (y, next)) (sym same)
collection_back depth back held column x s after next (mapping ps same d j) l o f =
    let t = s ++ after in
    let text = entries_text (IsInline depth false) (IsBlock depth) column ps s after j (node_gap after l.ends) in
    let P : Bool → Type 0 = λ c. Outside c column next in
    admit (left_out t) t _ text.out ∙ when_false (is_dash t) _ _ text.dash
    ∙ when_true (has_key t) (entries (block depth) depth column (suc (length t)) [] t) _ text.key
    ∙ entries_back depth (IsBlock depth) (block depth) back (block_starts depth) column (suc (length t)) [] ps s after next j l
    (subst P (not_held held (is_dash t) text.dash f) o) d (omega arith)
    ∙ ap (λ (y : Yaml). Ok (y, next)) (sym same)

pub block_back : (depth : ℕ) → BlockBack (IsBlock depth) (block depth)
unfolding block IsBlock
block_back zero held column x t after next c l o f = one_by column zero x t next _ _ (line_text zero column x t after next c l)
block_back (suc depth) held column x t after next c l o f = go (block_back depth) c.part c.whole c.holds
  where
    go : BlockBack (IsBlock depth) (block depth) → (s : Text) → t ≡ s ++ after
        → IsLineNode (suc depth) column x s ⊎ IsBlockCollection (IsInline depth false) (IsBlock depth) column x s
        → block (suc depth) held (column, t) ≡ Ok (x, next)
    go back s e (inl h) = one_by column (suc depth) x t next _ _
        (line_text (suc depth) column x t after next (record { part = s; whole = e; holds = h }) l)
    go back s e (inr h) =
        ap (λ (y : Text). block (suc depth) held (column, y)) e
        ∙ collection_back depth back held column x s after next h l o (λ k. ap is_dash (sym e) ∙ f k)
