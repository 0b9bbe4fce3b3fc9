-- Block nodes that are read are such texts.
use Rattle.std.proofs.Common.{◌≡◌, inl, inr, ℕ, zero, suc, ◌<◌, Bool, true, false, ◌&&◌, ◌||◌, ◌==◌, cond, nat_lt, List, [], ◌∷◌, ◌++◌, length, drop, Option, Some, None, Ok, refl, sym, ap, subst, ◌∙◌, append_assoc, arith}
use Rattle.std.specs.Prelude.{IfOk}
use Rattle.std.proofs.lemmas.Bool.{eqb-true}
use Rattle.std.proofs.lemmas.Bool.Decides.{nat_tests}
use Rattle.yaml_profile.specs.declared.yaml.Yaml.{Yaml}
use Rattle.yaml_profile.specs.declared.yaml.Yaml.TheVariants.{Seq, Map}
use Rattle.yaml_profile.specs.declared.yaml.Pair.{Pair}
use Rattle.yaml_profile.specs.Text.{Text, ◌>>=◌, sees, is_white, ends_line, is_gap, past_white}
use Rattle.yaml_profile.specs.Scalar.{scalar}
use Rattle.yaml_profile.specs.Mapping.{pair, has_name}
use Rattle.yaml_profile.specs.Flow.{left_out, inline}
use Rattle.yaml_profile.specs.Block.{Line, Blocks, Node, is_three, is_marker, next_line, ends_node, alone, is_dash, entry_key, has_key, below, map_value, item, after_entry, new_entry, entries, after_dash, dashes, block}
use Rattle.yaml_profile.specs.Space.{Is, IsSomeWhite, IsLineRest, ToLine}
use Rattle.yaml_profile.specs.Spells.{Production, IsInline, IsJoined, last, more, IsBeside, nothing, same_line, later_line, IsDeeper, IsDeeperOrSequence, IsItem, IsEntry, sequence, mapping, IsLineNode, IsBlock}
use Rattle.yaml_profile.proofs.FineLemmas.{bind, choose, allowed, either, first_of_both, second_of_both}
use Rattle.yaml_profile.proofs.SpellsPartLemmas.{Cuts, chain, widen, no_part, seen_byte, append_nil, mapped}
use Rattle.yaml_profile.proofs.SpellsSpaceLemmas.{white_cut, white_begins, break_begins}
use Rattle.yaml_profile.proofs.SpellsLineLemmas.{Leads, next_read}
use Rattle.yaml_profile.proofs.SpellsScalarLemmas.{left_true, right_true, both_true, differ, ScalarText, scalar_text}
use Rattle.yaml_profile.proofs.SpellsKeyLemmas.{gap_weaker, feed_more, refuted, gap_closes, KeyOf, key_cut}
use Rattle.yaml_profile.proofs.SpellsFlowLemmas.{NodeRead, inline_read, Distinct, distinct_next, distinct_last}

-- ---- gaps

pub node_gap : (t : Text) → ends_node t ≡ true → is_gap t ≡ true
unfolding past_white
node_gap [] e = refl
node_gap (b ∷ t) e = go (is_white b) refl e
  where
    go : (c : Bool) → is_white b ≡ c → (ends_line (cond c (past_white t) (b ∷ t)) || (c && sees 35 (cond c (past_white t) (b ∷ t)))) ≡ true
        → is_gap (b ∷ t) ≡ true
    go true w k = left_true (is_white b) _ w
    go false w k = right_true (is_white b) _ (either (ends_line (b ∷ t)) false (λ f. f) (λ f. absurd cc) k)

some_white : (t : Text) → is_gap t ≡ true → ends_node t ≡ false → Cuts IsSomeWhite t (past_white t)
unfolding past_white
some_white [] g e = absurd cc
some_white (b ∷ t) g e = go (is_white b) refl e
  where
    begin : is_white b ≡ true → Cuts IsSomeWhite (b ∷ t) (past_white t)
    begin w = let c = white_cut t in record { part = b ∷ c.part; whole = ap (λ (s : Text). b ∷ s) c.whole; holds = (w, c.holds) }

    go : (c : Bool) → is_white b ≡ c → (ends_line (cond c (past_white t) (b ∷ t)) || (c && sees 35 (cond c (past_white t) (b ∷ t)))) ≡ false
        → Cuts IsSomeWhite (b ∷ t) (cond c (past_white t) (b ∷ t))
    go true w k = begin w
    go false w k = absurd (either (is_white b) (ends_line (b ∷ t)) (λ f. differ f w) (λ f. differ (left_true (ends_line (b ∷ t)) _ f) k) g)

pub gap_more : (s t : Text) → is_gap s ≡ true → is_gap t ≡ true → is_gap (s ++ t) ≡ true
gap_more [] t e f = f
gap_more (b ∷ s) t e f = gap_weaker b s (s ++ t) (feed_more s t) e

rest_begins : (r s : Text) → IsLineRest r → is_gap s ≡ true → is_gap (r ++ s) ≡ true
rest_begins [] s h g = g
rest_begins (b ∷ r) s (inl h) g = left_true (is_white b) _ h.0
rest_begins (b ∷ r) s (inr h) g =
    ap is_gap (ap (λ (x : Text). x ++ s) h.parts ∙ append_assoc h.first h.second s) ∙ white_begins h.first (h.second ++ s) h.is_first

pub line_begins : (column : ℕ) (s next : Text) → ToLine column s → is_gap (s ++ next) ≡ true
line_begins column s next h =
    let k = h.is_second in
    let behind : is_gap (h.second ++ next) ≡ true = ap is_gap (ap (λ (x : Text). x ++ next) k.parts ∙ append_assoc k.first k.second next)
    ∙ break_begins k.first (k.second ++ next) k.is_first in
    ap is_gap (ap (λ (x : Text). x ++ next) h.parts ∙ append_assoc h.first h.second next) ∙ rest_begins h.first (h.second ++ next) h.is_first behind

pub beside_gap : (inline : Production) (lower : ℕ → Production) (tree : Yaml) (t : Text) → IsBeside inline lower tree t → is_gap t ≡ true
beside_gap inline lower tree t (nothing e f) = ap is_gap f
beside_gap inline lower tree t (same_line h) = ap is_gap h.parts ∙ white_begins h.first h.second h.is_first
beside_gap inline lower tree t (later_line column h) = ap is_gap h.parts ∙ line_begins column h.first h.second h.is_first

three_more : (b : ℕ) (s t : Text) → is_gap t ≡ true → is_three b s ≡ true → is_three b (s ++ t) ≡ true
three_more b [] t g e = absurd cc
three_more b (a ∷ []) t g e = absurd (none (second_of_both (a == b) false
    (first_of_both ((a == b) && false) false (first_of_both (((a == b) && false) && false) true e))))
  where
    none : false ≡ true → ⊥
    none e = cc
three_more b (a ∷ c ∷ []) t g e = absurd (none (second_of_both ((a == b) && (c == b)) false (first_of_both (((a == b) && (c == b)) && false) true e)))
  where
    none : false ≡ true → ⊥
    none e = cc
three_more b (a ∷ c ∷ d ∷ s) t g e =
    let front = ((a == b) && (c == b)) && (d == b) in both_true front _ (first_of_both front (is_gap s) e)
    (gap_more s t (second_of_both front (is_gap s) e) g)

marker_more : (column : ℕ) (s t : Text) → is_gap t ≡ true → is_marker (column, s) ≡ true → is_marker (column, s ++ t) ≡ true
marker_more column s t g e =
    let either_three = is_three 45 s || is_three 46 s in
    both_true (column == 0) _ (first_of_both (column == 0) either_three e)
    (either (is_three 45 s) (is_three 46 s) (λ f. left_true (is_three 45 (s ++ t)) _ (three_more 45 s t g f))
    (λ f. right_true (is_three 45 (s ++ t)) _ (three_more 46 s t g f))
    (second_of_both (column == 0) either_three e))

-- what is cut from a line that is no marker is none, where a gap follows
marker_cut : (column : ℕ) (s t whole : Text) → whole ≡ s ++ t → is_gap t ≡ true → is_marker (column, whole) ≡ false → is_marker (column, s) ≡ false
marker_cut column s t whole same g e =
    refuted (is_marker (column, s)) (is_marker (column, s ++ t)) (marker_more column s t g) (ap (λ (x : Text). is_marker (column, x)) (sym same) ∙ e)

-- ---- a node and the line after it

pub record NodeEnds (P : Production) (t : Text) (x : Yaml × Option Line) : Type 0 where
  pub after : Text
  pub node : Cuts (P x.0) t after
  pub leads : Leads after x.1
  pub gap : is_gap after ≡ true

ends_widen : (P Q : Production) (t : Text) (x : Yaml × Option Line) → ((s : Text) → P x.0 s → Q x.0 s) → NodeEnds P t x → NodeEnds Q t x
ends_widen P Q t x f h = record { after = h.after; node = widen f h.node; leads = h.leads; gap = h.gap }

alone_read : (depth : ℕ) (t : Text) → IfOk (alone depth t) (NodeEnds (IsInline depth false) t)
unfolding alone
alone_read depth t =
    let N : Yaml × Option Line → Type 0 = NodeEnds (IsInline depth false) t in
    bind (NodeRead false (IsInline depth false) t) N (inline depth false t) _ (inline_read depth false t)
    (λ node h. choose N (ends_node node.1) _ _
    (λ e. bind (Leads node.1) N (next_line node.1) (λ next. Ok (node.0, next)) (next_read node.1 e)
    (λ next l. let g = node_gap node.1 e in record { after = node.1; node = h.1 (gap_closes false node.1 g); leads = l; gap = g }))
    (λ _. tt))

-- ---- values and items

-- a block node, which begins with a dash if its line does
abbrev pub Dashed : (ℕ → Production) → Line → Production
Dashed block l tree s = block l.0 tree s × (is_dash l.1 ≡ true → is_dash s ≡ true)

abbrev pub BlockReads : (ℕ → Production) → Node → Type 0
BlockReads block node = (held : Bool) (l : Line) → is_marker l ≡ false → IfOk (node held l) (NodeEnds (Dashed block l) l.1)

-- the nodes that a mapping or a sequence may hold on a later line
abbrev pub Lower : Bool → (ℕ → Production) → ℕ → ℕ → Production
Lower true block column = IsDeeperOrSequence block column
Lower false block column = IsDeeper block column

deeper : (of_map : Bool) (block : ℕ → Production) (column other : ℕ) (tree : Yaml) (s : Text) → column < other → block other tree s
    → Lower of_map block column other tree s
deeper true block column other tree s less h = (inl less, h)
deeper false block column other tree s less h = (less, h)

level : (of_map : Bool) (block : ℕ → Production) (column other : ℕ) (tree : Yaml) (s : Text) → of_map ≡ true → other ≡ column → is_dash s ≡ true
    → block other tree s → Lower of_map block column other tree s
level true block column other tree s e same dash h = (inr (same, dash), h)
level false block column other tree s e same dash h = absurd cc

abbrev BesideRead : Production → (ℕ → Production) → Bool → ℕ → Text → Yaml × Option Line → Type 0
BesideRead inline block of_map column t x = NodeEnds (IsBeside inline (Lower of_map block column)) t x

lower_node : (inline : Production) (block : ℕ → Production) (of_map : Bool) (column : ℕ) (t : Text) (l : Line) (x : Yaml × Option Line)
    → Cuts (ToLine l.0) t l.1
    → ((s : Text) → Dashed block l x.0 s → Lower of_map block column l.0 x.0 s) → NodeEnds (Dashed block l) l.1 x
    → BesideRead inline block of_map column t x
lower_node inline block of_map column t l x line f h = record {
  after = h.after;
  node = widen (λ s k. later_line l.0 k)
      (chain line (widen f h.node));
  leads = h.leads;
  gap = h.gap;
}

below_read : (inline : Production) (block : ℕ → Production) (node : Node) → BlockReads block node
    → (of_map : Bool) (column : ℕ) (t : Text) (next : Option Line) → is_gap t ≡ true → Leads t next
    → IfOk (below node of_map column next) (BesideRead inline block of_map column t)
below_read inline block node reads of_map column t None g h = record { after = t; node = no_part t (nothing refl refl); leads = h; gap = g }
below_read inline block node reads of_map column t (Some l) g h =
    let B : Yaml × Option Line → Type 0 = BesideRead inline block of_map column t in
    choose B (nat_lt column l.0) _ _
    (λ e. mapped (NodeEnds (Dashed block l) l.1) B (node false l)
    (λ x k. let less : column < l.0 = grind (arith, nat_tests) in lower_node inline block of_map column t l x h.0
    (λ s d. deeper of_map block column l.0 x.0 s less d.0) k) (reads false l h.1))
    (λ _. choose B (of_map && (l.0 == column && is_dash l.1)) _ _
    (λ e.
    let both = second_of_both of_map (l.0 == column && is_dash l.1) e in
    let same = eqb-true l.0 column (first_of_both (l.0 == column) (is_dash l.1) both) in
    let dash = second_of_both (l.0 == column) (is_dash l.1) both in
    mapped (NodeEnds (Dashed block l) l.1) B (node true l)
    (λ x k. lower_node inline block of_map column t l x h.0
    (λ s d. level of_map block column l.0 x.0 s (first_of_both of_map _ e) same (d.1 dash) d.0) k) (reads true l h.1))
    (λ _. record { after = t; node = no_part t (nothing refl refl); leads = h; gap = g }))

same_node : (inline : Production) (block : ℕ → Production) (of_map : Bool) (column : ℕ) (t : Text) (x : Yaml × Option Line) → is_gap t ≡ true
    → ends_node t ≡ false → NodeEnds inline (past_white t) x
    → BesideRead inline block of_map column t x
same_node inline block of_map column t x g e h = record {
  after = h.after;
  node = widen (λ s k. same_line k)
      (chain (some_white t g e) h.node);
  leads = h.leads;
  gap = h.gap;
}

later_read : (inline : Production) (block : ℕ → Production) (node : Node) → BlockReads block node → (of_map : Bool) (column : ℕ) (t : Text)
    → is_gap t ≡ true → ends_node t ≡ true
    → IfOk (next_line t >>= λ next. below node of_map column next) (BesideRead inline block of_map column t)
later_read inline block node reads of_map column t g e =
    bind (Leads t) (BesideRead inline block of_map column t) (next_line t) (λ next. below node of_map column next) (next_read t e)
    (λ next h. below_read inline block node reads of_map column t next g h)

map_value_read : (depth : ℕ) (block : ℕ → Production) (node : Node) → BlockReads block node → (column : ℕ) (t : Text) → is_gap t ≡ true
    → IfOk (map_value node depth column t) (BesideRead (IsInline depth false) block true column t)
unfolding map_value
map_value_read depth block node reads column t g =
    let B : Yaml × Option Line → Type 0 = BesideRead (IsInline depth false) block true column t in
    choose B (ends_node t) _ _ (later_read (IsInline depth false) block node reads true column t g)
    (λ e. mapped (NodeEnds (IsInline depth false) (past_white t)) B (alone depth (past_white t))
    (λ x h. same_node (IsInline depth false) block true column t x g e h) (alone_read depth (past_white t)))

item_read : (depth : ℕ) (block : ℕ → Production) (node : Node) → BlockReads block node → (column : ℕ) (t : Text) → is_gap t ≡ true
    → IfOk (item node depth column t) (BesideRead (IsInline depth false) block false column t)
unfolding item
item_read depth block node reads column t g =
    let B : Yaml × Option Line → Type 0 = BesideRead (IsInline depth false) block false column t in
    choose B (ends_node t) _ _ (later_read (IsInline depth false) block node reads false column t g)
    (λ e. allowed B (left_out (past_white t)) (past_white t) _ (choose B (is_dash (past_white t) || has_key (past_white t)) _ _ (λ _. tt)
    (λ _. mapped (NodeEnds (IsInline depth false) (past_white t)) B (alone depth (past_white t))
    (λ x h. same_node (IsInline depth false) block false column t x g e h) (alone_read depth (past_white t)))))

-- ---- mappings

abbrev EntryKey : Text → List ℕ × Text → Type 0
EntryKey t x = Cuts (KeyOf false x.0 x.1) t x.1 × (is_gap x.1 ≡ true)

entry_key_read : (t : Text) → IfOk (entry_key t) (EntryKey t)
unfolding entry_key
entry_key_read t =
    choose (EntryKey t) (is_dash t) _ _ (λ _. tt)
    (λ _. bind (ScalarText false t) (EntryKey t) (scalar false t) _ (scalar_text false t)
    (λ key h.
    let behind = past_white key.1 in
    choose (EntryKey t) (sees 58 behind && is_gap (drop 1 behind)) _ _
    (λ e. (
      key_cut false t key (first_of_both (sees 58 behind) (is_gap (drop 1 behind)) e) h,
      second_of_both (sees 58 behind)
          (is_gap (drop 1 behind)) e,
    )) (λ _. tt)))

abbrev NewEntry : List Pair → Text → List ℕ × Text → Type 0
NewEntry found t x = EntryKey t x × (has_name x.0 found ≡ false)

new_entry_read : (found : List Pair) (t : Text) → IfOk (new_entry found t) (NewEntry found t)
unfolding new_entry
new_entry_read found t =
    allowed (NewEntry found t) (left_out t) t _ (bind (EntryKey t) (NewEntry found t) (entry_key t) _ (entry_key_read t)
    (λ key h. choose (NewEntry found t) (has_name key.0 found) _ _ (λ _. tt) (λ e. (h, e))))

after_entry_read : (P : Yaml × Option Line → Type 0) (after : Text) (whole : Yaml) (column : ℕ) (go_on : Line → Blocks) (next : Option Line)
    → Leads after next → P (whole, next)
    → ((l : Line) → Leads after (Some l) → l.0 ≡ column → IfOk (go_on l) P) → IfOk (after_entry whole column go_on next) P
after_entry_read P after whole column go_on None h p f = p
after_entry_read P after whole column go_on (Some l) h p f =
    choose P (nat_lt l.0 column) _ _ (λ _. p)
    (λ e. choose P (nat_lt column l.0) _ _ (λ _. tt) (λ g. f l h (let same : l.0 ≡ column = grind (arith, nat_tests) in same)))

joined_more : {A : Type 0} {P : A → Text → Type 0} (column : ℕ) (x : A) (xs : List A) (t u v w : Text) → Cuts (P x) t u → Cuts (ToLine column) u v
    → Cuts (IsJoined column P xs) v w
    → Cuts (IsJoined column P (x ∷ xs)) t w
joined_more column x xs t u v w e g j =
    let f = chain e g in record {
      part = f.part ++ j.part;
      whole = f.whole ∙ ap (λ (s : Text). f.part ++ s) j.whole ∙ sym (append_assoc f.part j.part w);
      holds = more f.part j.part f.holds j.holds refl;
    }

to_column : (after : Text) (l : Line) (column : ℕ) → Leads after (Some l) → l.0 ≡ column
    → Cuts (ToLine column) after l.1 × (is_marker (column, l.1) ≡ false)
to_column after l column h same =
    let P : ℕ → Type 0 = λ c. Cuts (ToLine c) after l.1 × (is_marker (c, l.1) ≡ false) in subst P same (h.0, h.1)

record EntriesRest (inline : Production) (block : ℕ → Production) (column : ℕ) (found : List Pair) (t : Text) (x : Yaml × Option Line) : Type 0 where
  rest : List Pair
  after : Text
  same : x.0 ≡ Map (found ++ rest)
  joined : Cuts (IsJoined column (IsEntry inline block column) rest) t after
  leads : Leads after x.1
  gap : is_gap after ≡ true
  distinct : Distinct found → Distinct (found ++ rest)

entry_cut : (inline : Production) (block : ℕ → Production) (column : ℕ) (t : Text) (key : List ℕ × Text) (value : Yaml × Option Line)
    → is_marker (column, t) ≡ false → EntryKey t key
    → (h : BesideRead inline block true column key.1 value) → Cuts (IsEntry inline block column (pair key.0 value.0)) t h.after
entry_cut inline block column t key value m k h =
    let c = k.0 in
    let v = h.node in record {
      part = c.part ++ v.part;
      whole = c.whole ∙ ap (λ (s : Text). c.part ++ s) v.whole ∙ sym (append_assoc c.part v.part h.after);
      holds = record {
        key = c.part;
        value = v.part;
        parts = refl;
        is_key = c.holds v.part (λ _. gap_closes false v.part (beside_gap inline (IsDeeperOrSequence block column) value.0 v.part v.holds));
        no_marker = marker_cut column c.part key.1 t c.whole k.1 m;
        is_value = v.holds;
      };
    }

entries_read : (depth : ℕ) (block : ℕ → Production) (node : Node) → BlockReads block node → (column n : ℕ) (found : List Pair) (t : Text)
    → is_marker (column, t) ≡ false
    → IfOk (entries node depth column n found t) (EntriesRest (IsInline depth false) block column found t)
unfolding entries
entries_read depth block node reads column zero found t m = tt
entries_read depth block node reads column (suc n) found t m =
    let I : Production = IsInline depth false in
    let E : Yaml × Option Line → Type 0 = EntriesRest I block column found t in
    bind (NewEntry found t) E (new_entry found t) _ (new_entry_read found t)
    (λ key k. bind (BesideRead I block true column key.1) E (map_value node depth column key.1) _
    (map_value_read depth block node reads column key.1 k.0.1)
    (λ value h.
    let p = pair key.0 value.0 in
    let now = found ++ p ∷ [] in
    let entry = entry_cut I block column t key value m k.0 h in
    after_entry_read E h.after (Map now) column (λ l. entries node depth column n now l.1) value.1 h.leads
    (record {
      rest = p ∷ [];
      after = h.after;
      same = refl;
      joined = widen
          (λ s j. last j) entry;
      leads = h.leads;
      gap = h.gap;
      distinct = distinct_last found key.0 value.0 k.1;
    })
    (λ l leads same.
    let line = to_column h.after l column leads same in
    mapped (EntriesRest I block column now l.1) E (entries node depth column n now l.1)
    (λ x r. record {
      rest = p ∷ r.rest;
      after = r.after;
      same = r.same ∙ ap Map (append_assoc found (p ∷ []) r.rest);
      joined = joined_more column p r.rest t h.after l.1 r.after entry line.0 r.joined;
      leads = r.leads;
      gap = r.gap;
      distinct = distinct_next found r.rest key.0 value.0 k.1 r.distinct;
    }) (entries_read depth block node reads column n now l.1 line.1))))

-- ---- sequences

record ItemsRest (inline : Production) (block : ℕ → Production) (column : ℕ) (found : List Yaml) (t : Text) (x : Yaml × Option Line) : Type 0 where
  rest : List Yaml
  after : Text
  same : x.0 ≡ Seq (found ++ rest)
  joined : Cuts (IsJoined column (IsItem inline block column) rest) t after
  leads : Leads after x.1
  gap : is_gap after ≡ true

dash_seen : (t : Text) → is_dash t ≡ true → Cuts (Is 45) t (drop 1 t) × (is_gap (drop 1 t) ≡ true)
dash_seen [] e = absurd cc
dash_seen (b ∷ t) e = (seen_byte 45 (b ∷ t) (first_of_both (b == 45) (is_gap t) e), second_of_both (b == 45) (is_gap t) e)

dashes_read : (depth : ℕ) (block : ℕ → Production) (node : Node) → BlockReads block node
    → (held : Bool) (column n : ℕ) (found : List Yaml) (t : Text) → is_dash t ≡ true
    → IfOk (dashes node depth held column n found t) (ItemsRest (IsInline depth false) block column found t)
unfolding dashes
dashes_read depth block node reads held column zero found t d = tt
dashes_read depth block node reads held column (suc n) found t d =
    let I : Production = IsInline depth false in
    let E : Yaml × Option Line → Type 0 = ItemsRest I block column found t in
    let begin = dash_seen t d in
    bind (BesideRead I block false column (drop 1 t)) E (item node depth column (drop 1 t)) _
    (item_read depth block node reads column (drop 1 t) begin.1)
    (λ value h.
    let now = found ++ value.0 ∷ [] in
    let one : Cuts (IsItem I block column value.0) t h.after = chain begin.0 h.node in
    let ended : (next : Option Line) → Leads h.after next
    → E (Seq now, next) = λ next leads. record {
      rest = value.0 ∷ [];
      after = h.after;
      same = refl;
      joined = widen
          (λ s j. last j) one;
      leads = leads;
      gap = h.gap;
    } in
    after_entry_read E h.after (Seq now) column (after_dash held (Seq now) (dashes node depth held column n now)) value.1 h.leads
    (ended value.1 h.leads)
    (λ l leads same. choose E (is_dash l.1) _ _
    (λ e. mapped (ItemsRest I block column now l.1) E (dashes node depth held column n now l.1)
    (λ x r. record {
      rest = value.0 ∷ r.rest;
      after = r.after;
      same = r.same ∙ ap Seq (append_assoc found (value.0 ∷ []) r.rest);
      joined = joined_more column value.0 r.rest t h.after l.1 r.after one (to_column h.after l column leads same).0 r.joined;
      leads = r.leads;
      gap = r.gap;
    }) (dashes_read depth block node reads held column n now l.1 e))
    (λ _. choose E held _ _ (λ _. ended (Some l) leads) (λ _. tt))))

item_dash : (inline : Production) (block : ℕ → Production) (column : ℕ) (tree : Yaml) (s next : Text) → is_gap next ≡ true
    → IsItem inline block column tree s → is_dash (s ++ next) ≡ true
item_dash inline block column tree s next g h =
    let gap = gap_more h.second next (beside_gap inline (IsDeeper block column) tree h.second h.is_second) g in
    ap is_dash (ap (λ (x : Text). x ++ next) (h.parts ∙ ap (λ (x : Text). x ++ h.second) h.is_first)) ∙ gap

items_dash : (inline : Production) (block : ℕ → Production) (column : ℕ) (xs : List Yaml) (s : Text)
    → IsJoined column (IsItem inline block column) xs s → is_dash s ≡ true
items_dash inline block column xs s (last {x = x} h) = ap is_dash (append_nil s) ∙ item_dash inline block column x s [] refl h
items_dash inline block column xs s (more {x = x} first rest h j e) =
    let behind : s ≡ h.first ++ (h.second ++ rest) = e ∙ ap (λ (y : Text). y ++ rest) h.parts ∙ append_assoc h.first h.second rest in
    ap is_dash behind ∙ item_dash inline block column x h.first (h.second ++ rest) (line_begins column h.second rest h.is_second) h.is_first

-- ---- block nodes

line_node : (depth : ℕ) (l : Line) (x : Yaml × Option Line) → is_marker l ≡ false → is_dash l.1 ≡ false → (h : NodeEnds (IsInline depth false) l.1 x)
    → NodeEnds (λ tree s. IsLineNode depth l.0 tree s × (is_dash l.1 ≡ true → is_dash s ≡ true)) l.1 x
line_node depth l x m d h = record {
  after = h.after;
  node = record { part = h.node.part; whole = h.node.whole; holds = ((h.node.holds, marker_cut l.0 h.node.part h.after l.1 h.node.whole h.gap m), λ e. absurd (differ e d)) };
  leads = h.leads;
  gap = h.gap;
}

pub block_read : (depth : ℕ) → BlockReads (IsBlock depth) (block depth)
unfolding block IsBlock
block_read zero held l m =
    let N : Yaml × Option Line → Type 0 = NodeEnds (Dashed (IsBlock zero) l) l.1 in
    allowed N (left_out l.1) l.1 _ (choose N (is_dash l.1) _ _ (λ _. tt)
    (λ d. choose N (has_key l.1) _ _ (λ _. tt) (λ _. mapped (NodeEnds (IsInline zero false) l.1) N (alone zero l.1) (λ x h. line_node zero l x m d h)
    (alone_read zero l.1))))
block_read (suc depth) held l m =
    let I : Production = IsInline depth false in
    let B : ℕ → Production = IsBlock depth in
    let N : Yaml × Option Line → Type 0 = NodeEnds (Dashed (IsBlock (suc depth)) l) l.1 in
    let reads : BlockReads B (block depth) = λ h k. block_read depth h k in
    let turns = suc (length l.1) in
    allowed N (left_out l.1) l.1 _ (choose N (is_dash l.1) _ _
    (λ d. mapped (ItemsRest I B l.0 [] l.1) N (dashes (block depth) depth held l.0 turns [] l.1)
    (λ x r. record {
      after = r.after;
      node = widen
          (λ s j. (inr (sequence r.rest r.same j), λ _. items_dash I B l.0 r.rest s j)) r.joined;
      leads = r.leads;
      gap = r.gap;
    })
    (dashes_read depth B (block depth) reads held l.0 turns [] l.1 d))
    (λ d. choose N (has_key l.1) _ _
    (λ _. mapped (EntriesRest I B l.0 [] l.1) N (entries (block depth) depth l.0 turns [] l.1)
    (λ x r. record {
      after = r.after;
      node = widen
          (λ s j. (inr (mapping r.rest r.same (r.distinct tt) j), λ e. absurd (differ e d))) r.joined;
      leads = r.leads;
      gap = r.gap;
    })
    (entries_read depth B (block depth) reads l.0 turns [] l.1 m))
    (λ _. mapped (NodeEnds (IsInline (suc depth) false) l.1) N (alone (suc depth) l.1)
    (λ x h. ends_widen (λ tree s. IsLineNode (suc depth) l.0 tree s × (is_dash l.1 ≡ true → is_dash s ≡ true)) (Dashed (IsBlock (suc depth)) l) l.1 x
    (λ s k. (inl k.0, k.1)) (line_node (suc depth) l x m d h)) (alone_read (suc depth) l.1))))
