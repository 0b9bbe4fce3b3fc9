-- The texts of block nodes are read as such.
use Rattle.std.proofs.Common.{◌≡◌, ◌⊎◌, inl, inr, ℕ, zero, suc, ◌<◌, Bool, true, false, not, ◌&&◌, ◌||◌, ◌==◌, cond, nat_lt, List, [], ◌∷◌, ◌++◌, drop, Option, Some, None, Result, Ok, refl, sym, ap, subst, ◌∙◌, append_assoc, arith}
use Rattle.std.proofs.lemmas.Bool.{eqb-true}
use Rattle.std.proofs.lemmas.Bool.Decides.{nat_tests}
use Rattle.yaml_profile.specs.declared.fault.Refusal.{Refusal}
use Rattle.yaml_profile.specs.declared.fault.Fault.TheVariants.{LeftOut, RepeatedKey, Syntax}
use Rattle.yaml_profile.specs.declared.error.Feature.TheVariants.{Compact}
use Rattle.yaml_profile.specs.declared.yaml.Yaml.{Yaml}
use Rattle.yaml_profile.specs.declared.yaml.Yaml.TheVariants.{Scalar, Map}
use Rattle.yaml_profile.specs.declared.yaml.Pair.{Pair}
use Rattle.yaml_profile.specs.Text.{Text, ◌>>=◌, refuse, sees, is_white, ends_line, is_gap, past_white}
use Rattle.yaml_profile.specs.Scalar.{closes, is_forbidden, has_forbidden, plain, scalar}
use Rattle.yaml_profile.specs.Mapping.{pair, has_name}
use Rattle.yaml_profile.specs.Flow.{left_out, unless, inline}
use Rattle.yaml_profile.specs.Block.{Line, Blocks, Node, is_three, is_marker, next_line, begins_white, ends_node, alone, is_dash, entry_key, is_found, has_key, below, map_value, item, after_entry, new_entry, entries, block}
use Rattle.yaml_profile.specs.Tree.{name_of, value_of}
use Rattle.yaml_profile.specs.Space.{IsSomeWhite}
use Rattle.yaml_profile.specs.ScalarTexts.{IsScalar, IsKey, quoted, plain as plain_key}
use Rattle.yaml_profile.specs.Spells.{Production, IsFlow, sequence as flow_sequence, mapping as flow_mapping, IsText, IsInline, IsBeside, nothing, same_line, later_line, IsDeeperOrSequence, IsEntry}
use Rattle.yaml_profile.proofs.FineLemmas.{either, first_of_both, second_of_both}
use Rattle.yaml_profile.proofs.SpellsPartLemmas.{Cuts, whole_cut}
use Rattle.yaml_profile.proofs.SpellsScalarLemmas.{left_true, right_true, both_true, left_false, differ}
use Rattle.yaml_profile.proofs.SpellsKeyLemmas.{refuted}
use Rattle.yaml_profile.proofs.SpellsBlockLemmas.{node_gap, gap_more, beside_gap, Lower}
use Rattle.yaml_profile.proofs.SpellsBackSpaceLemmas.{when_true, when_false, when_ok, false_or, right_false, split, white_over, no_white, gapless, IsStop, Led, line_led}
use Rattle.yaml_profile.proofs.SpellsBackScalarLemmas.{IsBegun}
use Rattle.yaml_profile.proofs.SpellsBackPlainLemmas.{KeyBack, key_back, scalar_back, node_ended, node_quote}
use Rattle.yaml_profile.proofs.SpellsBackFlowLemmas.{admit, IsOver, inline_back}

-- ---- document markers

-- no byte of a gap
pub gap_other : (b : ℕ) (t : Text) → is_gap (b ∷ []) ≡ false → (b == 13) ≡ false → is_gap t ≡ true → sees b t ≡ false
gap_other b [] n r e = refl
gap_other b (c ∷ t) n r e = refuted (c == b) (not (is_gap (c ∷ t))) (λ f. ap not (black f)) (ap not e)
  where
    black : (c == b) ≡ true → is_gap (c ∷ t) ≡ false
    black f = ap (λ (x : ℕ). is_gap (x ∷ t)) (eqb-true c b f)
        ∙ false_or (is_white b) _ (left_false (is_white b) _ n)
        (false_or (b == 10) _ (left_false (b == 10) _ (right_false (is_white b) _ n)) (ap (λ (x : Bool). x && sees 10 t) r))

-- no text that may stand before a marker's gap ends with CR
abbrev pub Firm : Text → Type 0
Firm s = drop 3 s ≡ 13 ∷ [] → ⊥

gap_less : (s t : Text) → (s ≡ 13 ∷ [] → ⊥) → is_gap (s ++ t) ≡ true → is_gap s ≡ true
gap_less [] t firm e = refl
gap_less (b ∷ []) t firm e =
    either (is_white b) (ends_line (b ∷ t)) (λ f. left_true (is_white b) _ f)
    (λ f. right_true (is_white b) _ (either (b == 10) (b == 13 && sees 10 t) (λ g. left_true (b == 10) _ g)
    (λ g. absurd (firm (ap (λ (x : ℕ). x ∷ []) (eqb-true b 13 (first_of_both (b == 13) _ g))))) f)) e
gap_less (b ∷ c ∷ s) t firm e = e

three_less : (b : ℕ) (s t : Text) → sees b t ≡ false → Firm s → is_three b (s ++ t) ≡ true → is_three b s ≡ true
three_less b [] t n firm e = absurd (differ (first_of_both (sees b t) (sees b (drop 1 t))
    (first_of_both (sees b t && sees b (drop 1 t)) (sees b (drop 2 t))
    (first_of_both (sees b t && sees b (drop 1 t) && sees b (drop 2 t)) (is_gap (drop 3 t)) e))) n)
three_less b (x ∷ []) t n firm e =
    absurd (differ (second_of_both (x == b) (sees b t)
    (first_of_both ((x == b) && sees b t) (sees b (drop 1 t))
    (first_of_both ((x == b) && sees b t && sees b (drop 1 t)) (is_gap (drop 2 t)) e))) n)
three_less b (x ∷ y ∷ []) t n firm e =
    absurd (differ (second_of_both ((x == b) && (y == b)) (sees b t) (first_of_both ((x == b) && (y == b) && sees b t) (is_gap (drop 1 t)) e)) n)
three_less b (x ∷ y ∷ z ∷ s) t n firm e =
    let front = (x == b) && (y == b) && (z == b) in both_true front _ (first_of_both front (is_gap (s ++ t)) e)
    (gap_less s t firm (second_of_both front (is_gap (s ++ t)) e))

pub marker_back : (column : ℕ) (s t : Text) → is_gap t ≡ true → Firm s → is_marker (column, s) ≡ false → is_marker (column, s ++ t) ≡ false
marker_back column s t g firm e =
    refuted (is_marker (column, s ++ t)) (is_marker (column, s)) (λ f.
    let both = is_three 45 (s ++ t) || is_three 46 (s ++ t) in
    both_true (column == 0) _ (first_of_both (column == 0) both f)
    (either (is_three 45 (s ++ t)) (is_three 46 (s ++ t)) (λ h. left_true (is_three 45 s) _ (three_less 45 s t (gap_other 45 t refl refl g) firm h))
    (λ h. right_true (is_three 45 s) _ (three_less 46 s t (gap_other 46 t refl refl g) firm h)) (second_of_both (column == 0) both f))) e

-- a text that begins with another byte is no marker
other_marker : (column b : ℕ) (t : Text) → (b == 45) ≡ false → (b == 46) ≡ false → is_marker (column, b ∷ t) ≡ false
other_marker column b t e f =
    refuted (is_marker (column, b ∷ t)) false (λ g.
    let both = is_three 45 (b ∷ t) || is_three 46 (b ∷ t) in
    either (is_three 45 (b ∷ t)) (is_three 46 (b ∷ t)) (λ h. absurd (differ (begin 45 h) e)) (λ h. absurd (differ (begin 46 h) f))
    (second_of_both (column == 0) both g)) refl
  where
    begin : (k : ℕ) → is_three k (b ∷ t) ≡ true → (b == k) ≡ true
    begin k h = first_of_both (b == k) (sees k t) (first_of_both ((b == k) && sees k t) (sees k (drop 1 t))
        (first_of_both ((b == k) && sees k t && sees k (drop 1 t)) (is_gap (drop 2 t)) h))

abbrev first : Text → ℕ
first [] = 0
first (x ∷ xs) = x

colon_return : (x : ℕ) → x ≡ 58 → x ≡ 13 → ⊥
colon_return x e f = cc

colon_firm : (s : Text) → Firm (s ++ 58 ∷ [])
colon_firm [] e = cc
colon_firm (a ∷ []) e = cc
colon_firm (a ∷ b ∷ []) e = cc
colon_firm (a ∷ b ∷ c ∷ []) e = colon_return (first (58 ∷ [])) refl (ap first e)
colon_firm (a ∷ b ∷ c ∷ d ∷ s) e = tail s (ap (drop 1) e)
  where
    tail : (x : Text) → x ++ 58 ∷ [] ≡ [] → ⊥
    tail [] f = cc
    tail (y ∷ ys) f = cc

plain_firm : (s : Text) → has_forbidden s ≡ false → Firm s
unfolding has_forbidden
plain_firm [] h e = cc
plain_firm (a ∷ []) h e = cc
plain_firm (a ∷ b ∷ []) h e = cc
plain_firm (a ∷ b ∷ c ∷ s) h e =
    let rest = right_false (is_forbidden c) _ (right_false (is_forbidden b) _ (right_false (is_forbidden a) _ h)) in
    let P : Text → Type 0 = λ x. has_forbidden x ≡ false in differ refl (left_false (is_forbidden 13) false (subst P e rest))

-- ---- inline nodes

-- what a node or an entry begins with, at this column of a line
pub record IsStart (column : ℕ) (t : Text) : Type 0 where
  pub stop : IsStop t
  pub no_marker : is_marker (column, t) ≡ false
  pub percent : sees 37 t ≡ false

pub begun_start : (column : ℕ) (t : Text) → IsBegun t → is_marker (column, t) ≡ false → IsStart column t
begun_start column t b m = record { stop = b.stop; no_marker = m; percent = b.percent }

pub node_over : (flow : Bool) (t : Text) → ends_node t ≡ true → IsOver flow t
node_over flow t e = record { ended = node_ended flow t e; no_quote = node_quote t (node_gap t e) }

-- white or the line's end stands after a node, and then no colon
end_no_colon : (w : Bool) (t : Text) → (ends_line t || (w && sees 35 t)) ≡ true → sees 58 t ≡ false
end_no_colon w [] e = refl
end_no_colon w (b ∷ t) e = refuted (b == 58) false (λ f. absurd (no w (subst P (eqb-true b 58 f) e))) refl
  where
    P : ℕ → Type 0
    P c = (ends_line (c ∷ t) || (w && c == 35)) ≡ true

    no : (c : Bool) → (c && false) ≡ true → ⊥
    no true g = cc
    no false g = cc

abbrev key_end : Text → List ℕ × Text → Result (List ℕ × Text) Refusal
key_end t key = cond (sees 58 (past_white key.1) && is_gap (drop 1 (past_white key.1))) (Ok (key.0, drop 1 (past_white key.1))) (refuse Syntax t)

abbrev found_of : Text → Result (List ℕ × Text) Refusal → Bool
found_of t o = is_found (o >>= key_end t)

-- no key stands where a scalar does
scalar_no_key : (v t rest : Text) → is_dash t ≡ false → scalar false t ≡ Ok (v, rest) → ends_node rest ≡ true → has_key t ≡ false
unfolding entry_key
scalar_no_key v t rest d reads e =
    ap is_found (when_false (is_dash t) (refuse Syntax t) _ d) ∙ ap (found_of t) reads
    ∙ ap is_found (when_false (sees 58 (past_white rest) && is_gap (drop 1 (past_white rest))) (Ok (v, drop 1 (past_white rest))) (refuse Syntax t)
    (ap (λ (c : Bool). c && is_gap (drop 1 (past_white rest))) (end_no_colon (begins_white rest) (past_white rest) e)))

bracket_no_key : (t : Text) → has_key (91 ∷ t) ≡ false
unfolding entry_key scalar plain
bracket_no_key t = refl

brace_no_key : (t : Text) → has_key (123 ∷ t) ≡ false
unfolding entry_key scalar plain
brace_no_key t = refl

-- the text of an inline node, with what ends its line
pub record InlineText (column : ℕ) (t : Text) : Type 0 where
  pub no_key : has_key t ≡ false
  pub no_marker : is_marker (column, t) ≡ false

text_inline : (column : ℕ) (x : Yaml) (s rest : Text) → IsText false x s → ends_node rest ≡ true → is_marker (column, s) ≡ false
    → InlineText column (s ++ rest)
text_inline column x s rest h e m =
    let over = node_over false rest e in
    let k = scalar_back false h.text (s ++ rest) rest (record { part = s; whole = refl; holds = h.is_scalar }) over.no_quote over.ended in
    record { no_key = scalar_no_key h.text (s ++ rest) rest k.begins.begun.dash k.reads e; no_marker = marker h.is_scalar }
  where
    quote : (b : ℕ) (u : Text) → s ≡ b ∷ u → (b == 45) ≡ false → (b == 46) ≡ false → is_marker (column, s ++ rest) ≡ false
    quote b u f g k = ap (λ (y : Text). is_marker (column, y ++ rest)) f ∙ other_marker column b (u ++ rest) g k

    marker : IsScalar false h.text s → is_marker (column, s ++ rest) ≡ false
    marker (inl (inl q)) = quote 39 _ q.quoted refl refl
    marker (inl (inr q)) = quote 34 q.second (q.parts ∙ ap (λ (y : Text). y ++ q.second) q.is_first) refl refl
    marker (inr p) = marker_back column s rest (node_gap rest e)
        (let P : Text → Type 0 = λ y. Firm y in subst P (sym p.0) (plain_firm h.text p.1.allowed)) m

flow_inline : (column : ℕ) (P : Production) (x : Yaml) (s rest : Text) → IsFlow P x s → InlineText column (s ++ rest)
flow_inline column P x s rest (flow_sequence xs same h) =
    let e : s ++ rest ≡ 91 ∷ (h.second ++ rest) = ap (λ (y : Text). y ++ rest) (h.parts ∙ ap (λ (y : Text). y ++ h.second) h.is_first) in
    record {
      no_key = ap has_key e ∙ bracket_no_key (h.second ++ rest);
      no_marker = ap (λ (y : Text). is_marker (column, y)) e
          ∙ other_marker column 91 (h.second ++ rest) refl refl;
    }
flow_inline column P x s rest (flow_mapping ps same d h) =
    let e : s ++ rest ≡ 123 ∷ (h.second ++ rest) = ap (λ (y : Text). y ++ rest) (h.parts ∙ ap (λ (y : Text). y ++ h.second) h.is_first) in
    record {
      no_key = ap has_key e ∙ brace_no_key (h.second ++ rest);
      no_marker = ap (λ (y : Text). is_marker (column, y)) e
          ∙ other_marker column 123 (h.second ++ rest) refl refl;
    }

pub inline_text : (depth column : ℕ) (x : Yaml) (s rest : Text) → IsInline depth false x s → ends_node rest ≡ true → is_marker (column, s) ≡ false
    → InlineText column (s ++ rest)
unfolding IsInline
inline_text zero column x s rest h e m = text_inline column x s rest h e m
inline_text (suc depth) column x s rest (inl h) e m = text_inline column x s rest h e m
inline_text (suc depth) column x s rest (inr h) e m = flow_inline column (IsInline depth true) x s rest h

-- an inline node alone on what is left of its line
pub record AloneBack (depth : ℕ) (x : Yaml) (t : Text) (next : Option Line) : Type 0 where
  pub reads : alone depth t ≡ Ok (x, next)
  pub begun : IsBegun t

pub alone_back : (depth : ℕ) (x : Yaml) (t after : Text) (next : Option Line) → Cuts (IsInline depth false x) t after → Led after next
    → AloneBack depth x t next
unfolding alone
alone_back depth x t after next c l =
    let k = inline_back depth false x t after c (node_over false after l.ends) in
    let rest : Yaml × Text → Blocks = λ node. cond (ends_node node.1) (next_line node.1 >>= λ line. Ok (node.0, line))
    (refuse Syntax (past_white node.1)) in
    record {
      reads = when_ok (inline depth false t) (x, after) rest k.0
          ∙ when_true (ends_node after) (next_line after >>= λ line. Ok (x, line)) (refuse Syntax (past_white after)) l.ends
          ∙ when_ok (next_line after) next (λ line. Ok (x, line)) l.line;
      begun = k.1;
    }

-- ---- values and items

-- the line after a node belongs to something further out
abbrev pub Apart : Bool → ℕ → Option Line → Type 0
Apart of_map column None = Unit {0}
Apart of_map column (Some l) = (nat_lt column l.0 ≡ false) × ((of_map && (l.0 == column && is_dash l.1)) ≡ false)

-- and so where the node is a collection at this column
abbrev pub Outside : Bool → ℕ → Option Line → Type 0
Outside held column None = Unit {0}
Outside held column (Some l) = (l.0 < column) ⊎ ((held ≡ true) × (l.0 ≡ column) × (is_dash l.1 ≡ false))

abbrev pub BlockBack : (ℕ → Production) → Node → Type 0
BlockBack block node = (held : Bool) (column : ℕ) (x : Yaml) (t after : Text) (next : Option Line) → Cuts (block column x) t after → Led after next
    → Outside held column next
    → (held ≡ true → is_dash t ≡ true) → node held (column, t) ≡ Ok (x, next)

abbrev pub BlockStarts : (ℕ → Production) → Type 0
BlockStarts block = (column : ℕ) (x : Yaml) (t after : Text) → Cuts (block column x) t after → ends_node after ≡ true → IsStart column t

pub dash_more : (s t : Text) → is_gap t ≡ true → is_dash s ≡ true → is_dash (s ++ t) ≡ true
dash_more [] t g e = absurd cc
dash_more (b ∷ s) t g e = both_true (b == 45) _ (first_of_both (b == 45) (is_gap s) e) (gap_more s t (second_of_both (b == 45) (is_gap s) e) g)

deeper_outside : (of_map : Bool) (column deeper : ℕ) (next : Option Line) → column < deeper → Apart of_map column next → Outside false deeper next
deeper_outside of_map column deeper None less a = tt
deeper_outside of_map column deeper (Some l) less a = let no = a.0 in inl (let r : l.0 < deeper = grind (arith, nat_tests) in r)

level_outside : (column : ℕ) (next : Option Line) → Apart true column next → Outside true column next
level_outside column None a = tt
level_outside column (Some l) a = go (nat_lt l.0 column) refl
  where
    same : nat_lt l.0 column ≡ false → l.0 ≡ column
    same e = let no = a.0 in let r : l.0 ≡ column = grind (arith, nat_tests) in r

    go : (c : Bool) → nat_lt l.0 column ≡ c → Outside true column (Some l)
    go true e = inl (let r : l.0 < column = grind (arith, nat_tests) in r)
    go false e =
        let at = same e in
        let eq : (l.0 == column) ≡ true = grind (arith, nat_tests) in
        inr (refl, at, ap (λ (c : Bool). c && is_dash l.1) (sym eq) ∙ a.1)

-- what stands on a later line
below_none : (node : Node) (of_map : Bool) (column : ℕ) (next : Option Line) → Apart of_map column next
    → below node of_map column next ≡ Ok (Scalar [], next)
below_none node of_map column None a = refl
below_none node of_map column (Some l) a =
    when_false (nat_lt column l.0) (node false l) _ a.0
    ∙ when_false (of_map && (l.0 == column && is_dash l.1)) (node true l) (Ok (Scalar [], Some l)) a.1

below_deeper : (node : Node) (of_map : Bool) (column deeper : ℕ) (t : Text) → column < deeper
    → below node of_map column (Some (deeper, t)) ≡ node false (deeper, t)
below_deeper node of_map column deeper t less = let e : nat_lt column deeper ≡ true = grind (arith, nat_tests) in when_true (nat_lt column deeper)
    (node false (deeper, t)) _ e

below_level : (node : Node) (column : ℕ) (t : Text) → is_dash t ≡ true → below node true column (Some (column, t)) ≡ node true (column, t)
below_level node column t d =
    let e : nat_lt column column ≡ false = grind (arith, nat_tests) in
    let f : (column == column) ≡ true = grind (arith, nat_tests) in
    when_false (nat_lt column column) (node false (column, t)) _ e
    ∙ when_true (true && (column == column && is_dash t)) (node true (column, t)) _ (both_true (column == column) _ f d)

-- a node that a later line begins is read
lower_back : (block : ℕ → Production) (node : Node) → BlockBack block node
    → (of_map : Bool) (column at : ℕ) (x : Yaml) (t after : Text) (next : Option Line) → Cuts (Lower of_map block column at x) t after
    → Led after next → Apart of_map column next → below node of_map column (Some (at, t)) ≡ Ok (x, next)
lower_back block node back false column at x t after next c l a =
    let h = c.holds in
    let n : (false ≡ true → is_dash t ≡ true) = λ e. absurd cc in
    below_deeper node false column at t h.0 ∙ back false at x t after next (record { part = c.part; whole = c.whole; holds = h.1 }) l
    (deeper_outside false column at next h.0 a) n
lower_back block node back true column at x t after next c l a = go c.holds.0
  where
    inner : Cuts (block at x) t after
    inner = record { part = c.part; whole = c.whole; holds = c.holds.1 }

    go : (column < at) ⊎ ((at ≡ column) × (is_dash c.part ≡ true)) → below node true column (Some (at, t)) ≡ Ok (x, next)
    go (inl less) = below_deeper node true column at t less
        ∙ back false at x t after next inner l (deeper_outside true column at next less a) (λ e. absurd cc)
    go (inr h) =
        let dash : is_dash t ≡ true = ap is_dash c.whole ∙ dash_more c.part after (node_gap after l.ends) h.1 in
        let P : ℕ → Type 0 = λ k. below node true column (Some (k, t)) ≡ node true (k, t) in
        let Q : ℕ → Type 0 = λ k. Outside true k next in
        subst P (sym h.0) (below_level node column t dash)
        ∙ back true at x t after next inner l (subst Q (sym h.0) (level_outside column next a)) (λ _. dash)

lower_start : (block : ℕ → Production) → BlockStarts block → (of_map : Bool) (column at : ℕ) (x : Yaml) (t after : Text)
    → Cuts (Lower of_map block column at x) t after → ends_node after ≡ true → IsStart at t
lower_start block starts true column at x t after c e = starts at x t after (record { part = c.part; whole = c.whole; holds = c.holds.1 }) e
lower_start block starts false column at x t after c e = starts at x t after (record { part = c.part; whole = c.whole; holds = c.holds.1 }) e

-- the value or item from here on is read, whether on this line or on a later one
pub record BesideBack (node : Node) (depth : ℕ) (of_map : Bool) (column : ℕ) (x : Yaml) (t : Text) (next : Option Line) : Type 0 where
  pub later : ends_node t ≡ true → (next_line t >>= λ line. below node of_map column line) ≡ Ok (x, next)
  pub same : ends_node t ≡ false → alone depth (past_white t) ≡ Ok (x, next)
  pub open_text : ends_node t ≡ false → IsBegun (past_white t) × (has_key (past_white t) ≡ false)

some_past : (s t : Text) → IsSomeWhite s → IsStop t → past_white (s ++ t) ≡ t
some_past [] t h stop = absurd h
some_past (b ∷ s) t h stop = white_over (b ∷ s) t h ∙ no_white t (gapless t stop.no_gap)

stop_open : (s t : Text) → past_white (s ++ t) ≡ t → IsStop t → ends_node (s ++ t) ≡ true → ⊥
stop_open s t e stop f =
    let seen : (ends_line t || (begins_white (s ++ t) && sees 35 t)) ≡ true = ap (λ (x : Text). ends_line x || (begins_white (s ++ t) && sees 35 x))
    (sym e) ∙ f in
    either (ends_line t) (begins_white (s ++ t) && sees 35 t) (λ g. differ g (no_line t stop.no_gap))
    (λ g. differ (second_of_both (begins_white (s ++ t)) (sees 35 t) g) stop.no_hash) seen
  where
    no_line : (u : Text) → is_gap u ≡ false → ends_line u ≡ false
    no_line [] k = k
    no_line (b ∷ u) k = right_false (is_white b) _ k

pub beside_back : (depth : ℕ) (block : ℕ → Production) (node : Node) → BlockBack block node → BlockStarts block
    → (of_map : Bool) (column : ℕ) (x : Yaml) (v after : Text) (next : Option Line)
    → IsBeside (IsInline depth false) (Lower of_map block column) x v → Led after next → Apart of_map column next
    → BesideBack node depth of_map column x (v ++ after) next
beside_back depth block node back starts of_map column x v after next (nothing e f) l a =
    let P : Text → Type 0 = λ s. BesideBack node depth of_map column x (s ++ after) next in
    subst P (sym f) (record {
      later = λ _. when_ok (next_line after) next (below node of_map column) l.line ∙ below_none node of_map column next a
          ∙ ap (λ (y : Yaml). Ok (y, next)) (sym e);
      same = λ g. absurd (differ l.ends g);
      open_text = λ g. absurd (differ l.ends g);
    })
beside_back depth block node back starts of_map column x v after next (same_line h) l a =
    let k = split (whole_cut v after h) in
    let r = alone_back depth x k.middle after next k.back l in
    let past : past_white (v ++ after) ≡ k.middle = ap past_white k.front.whole ∙ some_past k.front.part k.middle k.front.holds r.begun.stop in
    let closed : ends_node (v ++ after) ≡ true → ⊥ = λ e. stop_open k.front.part k.middle
    (some_past k.front.part k.middle k.front.holds r.begun.stop) r.begun.stop (ap ends_node (sym k.front.whole) ∙ e) in
    record {
      later = λ e. absurd (closed e);
      same = λ _. ap (alone depth) past ∙ r.reads;
      open_text = λ _.
          let P : Text → Type 0 = λ s. IsBegun s × (has_key s ≡ false) in
          subst P (sym past) (r.begun, ap has_key k.back.whole ∙ (inline_text depth 1 x k.back.part after k.back.holds l.ends refl).no_key);
    }
beside_back depth block node back starts of_map column x v after next (later_line at h) l a =
    let k = split (whole_cut v after h) in
    let start = lower_start block starts of_map column at x k.middle after k.back l.ends in
    let led = line_led at (v ++ after) k.middle k.front start.stop start.no_marker in
    record {
      later = λ _. when_ok (next_line (v ++ after)) (Some (at, k.middle)) (below node of_map column) led.line
          ∙ lower_back block node back of_map column at x k.middle after next k.back l a;
      same = λ e. absurd (differ led.ends e);
      open_text = λ e. absurd (differ led.ends e);
    }

value_back : (depth : ℕ) (node : Node) (column : ℕ) (x : Yaml) (t : Text) (next : Option Line) → BesideBack node depth true column x t next
    → map_value node depth column t ≡ Ok (x, next)
unfolding map_value
value_back depth node column x t next b = go (ends_node t) refl
  where
    go : (c : Bool) → ends_node t ≡ c → cond (ends_node t) (next_line t >>= λ line. below node true column line) (alone depth (past_white t)) ≡ Ok
        (x, next)
    go true e = when_true (ends_node t) _ (alone depth (past_white t)) e ∙ b.later e
    go false e = when_false (ends_node t) _ (alone depth (past_white t)) e ∙ b.same e

pub item_back : (depth : ℕ) (node : Node) (column : ℕ) (x : Yaml) (t : Text) (next : Option Line) → BesideBack node depth false column x t next
    → item node depth column t ≡ Ok (x, next)
unfolding item
item_back depth node column x t next b = go (ends_node t) refl
  where
    rest : Blocks
    rest = unless (left_out (past_white t)) (past_white t)
        (cond (is_dash (past_white t) || has_key (past_white t)) (refuse (LeftOut Compact) (past_white t)) (alone depth (past_white t)))

    go : (c : Bool) → ends_node t ≡ c
        → cond (ends_node t) (next_line t >>= λ line. below node false column line)
        (unless (left_out (past_white t)) (past_white t)
        (cond (is_dash (past_white t) || has_key (past_white t)) (refuse (LeftOut Compact) (past_white t)) (alone depth (past_white t)))) ≡ Ok
        (x, next)
    go true e = when_true (ends_node t) _ _ e ∙ b.later e
    go false e =
        let u = past_white t in
        let k = b.open_text e in
        when_false (ends_node t) _ _ e ∙ admit (left_out u) u _ k.0.out
        ∙ when_false (is_dash u || has_key u) (refuse (LeftOut Compact) u) (alone depth u) (false_or (is_dash u) _ k.0.dash k.1) ∙ b.same e

-- ---- mappings

-- an entry is read up to its value
pub record EntryBack (inline : Production) (block : ℕ → Production) (column : ℕ) (p : Pair) (t after : Text) : Type 0 where
  pub value : Text
  pub is_value : IsBeside inline (IsDeeperOrSequence block column) (value_of p) value
  pub key : KeyBack false (name_of p) t (value ++ after)
  pub gap : is_gap (value ++ after) ≡ true
  pub no_marker : is_marker (column, t) ≡ false

key_firm : (name key value : Text) → IsKey false name key value → Firm key
key_firm name key value (quoted h) =
    let P : Text → Type 0 = λ y. Firm y in
    let k = h.is_second in
    subst P (sym (h.parts ∙ ap (λ (y : Text). h.first ++ y) (k.parts ∙ ap (λ (y : Text). k.first ++ y) k.is_second)
    ∙ sym (append_assoc h.first k.first (58 ∷ [])))) (colon_firm (h.first ++ k.first))
key_firm name key value (plain_key white w h e f) =
    let P : Text → Type 0 = λ y. Firm y in subst P (sym (e ∙ sym (append_assoc name white (58 ∷ [])))) (colon_firm (name ++ white))

gap_closed : (t : Text) → is_gap t ≡ true → closes false t ≡ true
gap_closed [] e = refl
gap_closed (b ∷ t) e = left_true (is_gap (b ∷ t)) _ e

pub entry_text : (inline : Production) (block : ℕ → Production) (column : ℕ) (p : Pair) (t after : Text)
    → Cuts (IsEntry inline block column p) t after → is_gap after ≡ true → EntryBack inline block column p t after
entry_text inline block column p t after c g =
    let h = c.holds in
    let rest = h.value ++ after in
    let gap = gap_more h.value after (beside_gap inline (IsDeeperOrSequence block column) (value_of p) h.value h.is_value) g in
    let whole : t ≡ h.key ++ rest = c.whole ∙ ap (λ (y : Text). y ++ after) h.parts ∙ append_assoc h.key h.value after in
    let P : Text → Type 0 = λ y. KeyBack false (name_of p) y rest in
    record {
      value = h.value;
      is_value = h.is_value;
      key = subst P (sym whole) (key_back false (name_of p) h.key h.value rest h.is_key (λ _. gap_closed rest gap));
      gap = gap;
      no_marker = ap (λ (y : Text). is_marker (column, y)) whole
          ∙ marker_back column h.key rest gap (key_firm (name_of p) h.key h.value h.is_key) h.no_marker;
    }

pub entry_key_back : (name t rest : Text) → KeyBack false name t rest → is_gap rest ≡ true → entry_key t ≡ Ok (name, rest)
unfolding entry_key
entry_key_back name t rest k g =
    let last_step : key_end t (name, k.rest) ≡ Ok (name, rest) =
    ap (λ (u : Text). cond (sees 58 u && is_gap (drop 1 u)) (Ok (name, drop 1 u)) (refuse Syntax t)) k.colon
    ∙ when_true (is_gap rest) (Ok (name, rest)) (refuse Syntax t) g in
    when_false (is_dash t) (refuse Syntax t) _ k.back.begins.begun.dash ∙ when_ok (scalar false t) (name, k.rest) (key_end t) k.back.reads ∙ last_step

new_entry_back : (found : List Pair) (name t rest : Text) → KeyBack false name t rest → is_gap rest ≡ true → has_name name found ≡ false
    → new_entry found t ≡ Ok (name, rest)
unfolding new_entry
new_entry_back found name t rest k g new =
    admit (left_out t) t _ k.back.begins.begun.out
    ∙ when_ok (entry_key t) (name, rest) (λ key. cond (has_name key.0 found) (refuse RepeatedKey t) (Ok key)) (entry_key_back name t rest k g)
    ∙ when_false (has_name name found) (refuse RepeatedKey t) (Ok (name, rest)) new

-- the entry, and what comes after it
pub one_entry : (depth : ℕ) (block : ℕ → Production) (node : Node) → BlockBack block node → BlockStarts block
    → (column n : ℕ) (found : List Pair) (p : Pair) (t after : Text) (next : Option Line)
    → Cuts (IsEntry (IsInline depth false) block column p) t after → Led after next → Apart true column next → has_name (name_of p) found ≡ false
    → entries node depth column (suc n) found t ≡ after_entry (Map (found ++ p ∷ [])) column
    (λ l. entries node depth column n (found ++ p ∷ []) l.1) next
unfolding entries
one_entry depth block node back starts column n found p t after next c l a new =
    let e = entry_text (IsInline depth false) block column p t after c (node_gap after l.ends) in
    let rest = e.value ++ after in
    let b = beside_back depth block node back starts true column (value_of p) e.value after next e.is_value l a in
    let go : List ℕ → Yaml × Option Line → Blocks = λ name v. after_entry (Map (found ++ pair name v.0 ∷ [])) column
    (λ k. entries node depth column n (found ++ pair name v.0 ∷ []) k.1) v.1 in
    when_ok (new_entry found t) (name_of p, rest) (λ key. map_value node depth column key.1 >>= go key.0)
    (new_entry_back found (name_of p) t rest e.key e.gap new)
    ∙ when_ok (map_value node depth column rest) (value_of p, next) (go (name_of p)) (value_back depth node column (value_of p) rest next b)

pub outside_apart : (of_map held : Bool) (column : ℕ) (next : Option Line) → (of_map ≡ true → held ≡ false) → Outside held column next
    → Apart of_map column next
outside_apart of_map held column None only o = tt
outside_apart of_map held column (Some l) only (inl less) =
    let no : nat_lt column l.0 ≡ false = grind (arith, nat_tests) in
    let other : (l.0 == column) ≡ false = grind (arith, nat_tests) in
    (no, ap (λ (c : Bool). of_map && (c && is_dash l.1)) other ∙ none of_map)
  where
    none : (c : Bool) → (c && false) ≡ false
    none true = refl
    none false = refl
outside_apart of_map held column (Some l) only (inr h) =
    let at = h.1 in
    let no : nat_lt column l.0 ≡ false = grind (arith, nat_tests) in
    (no, go of_map refl)
  where
    go : (c : Bool) → of_map ≡ c → (of_map && (l.0 == column && is_dash l.1)) ≡ false
    go true e = absurd (differ h.0 (only e))
    go false e = ap (λ (c : Bool). c && (l.0 == column && is_dash l.1)) e

-- the line after a mapping ends it
pub after_mapping : (whole : Yaml) (column : ℕ) (go_on : Line → Blocks) (next : Option Line) → Outside false column next
    → after_entry whole column go_on next ≡ Ok (whole, next)
after_mapping whole column go_on None o = refl
after_mapping whole column go_on (Some l) (inl less) = let e : nat_lt l.0 column ≡ true = grind (arith, nat_tests) in when_true (nat_lt l.0 column)
    (Ok (whole, Some l)) _ e
after_mapping whole column go_on (Some l) (inr h) = absurd cc

-- the line of the next entry
pub at_column : (whole : Yaml) (column : ℕ) (go_on : Line → Blocks) (t : Text) → after_entry whole column go_on (Some (column, t)) ≡ go_on (column, t)
at_column whole column go_on t =
    let e : nat_lt column column ≡ false = grind (arith, nat_tests) in when_false (nat_lt column column) (Ok (whole, Some (column, t))) _ e
    ∙ when_false (nat_lt column column) _ (go_on (column, t)) e
