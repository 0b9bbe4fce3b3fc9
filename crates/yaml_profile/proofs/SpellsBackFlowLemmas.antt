-- The texts of inline nodes are read as such.
use Rattle.std.proofs.Common.{◌≡◌, ◌⊎◌, inl, inr, ℕ, zero, suc, ◌<◌, Bool, true, false, ◌||◌, ◌==◌, cond, List, [], ◌∷◌, ◌++◌, length, drop, map, Option, None, Result, Ok, refl, sym, ap, subst, ◌∙◌, append_assoc, arith}
use Rattle.std.specs.Prelude.{bytes_eq}
use Rattle.std.proofs.lemmas.Slice.Eq.{bytes_eq-Decides}
use Rattle.file_info.specs.Lists.{In}
use Rattle.yaml_profile.specs.declared.error.Feature.{Feature}
use Rattle.yaml_profile.specs.declared.fault.Refusal.{Refusal}
use Rattle.yaml_profile.specs.declared.fault.Fault.TheVariants.{RepeatedKey, Syntax}
use Rattle.yaml_profile.specs.declared.yaml.Yaml.{Yaml}
use Rattle.yaml_profile.specs.declared.yaml.Yaml.TheVariants.{Scalar, Seq, Map}
use Rattle.yaml_profile.specs.declared.yaml.Pair.{Pair}
use Rattle.yaml_profile.specs.Text.{Text, Outcome, ◌>>=◌, refuse, sees, is_gap, is_flow_mark, past_white, spaced}
use Rattle.yaml_profile.specs.Scalar.{closes, scalar}
use Rattle.yaml_profile.specs.Mapping.{pair, has_name}
use Rattle.yaml_profile.specs.Flow.{Reader, left_out, unless, items, after_item, new_key, value_or_none, value_of, pairs, after_pair, inline}
use Rattle.yaml_profile.specs.Tree.{name_of}
use Rattle.yaml_profile.specs.Tree as tree
use Rattle.yaml_profile.specs.Space.{◌and_then◌, Is, IsSpace}
use Rattle.yaml_profile.specs.Spells.{Production, IsListed, none, last, more, IsFlowValue, IsFlowPair, IsFlow, sequence, mapping, IsText, IsInline}
use Rattle.yaml_profile.proofs.SpellsPartLemmas.{Cuts, widen, whole_cut, no_part, IsFull, full_shorter}
use Rattle.yaml_profile.proofs.SpellsScalarLemmas.{right_true}
use Rattle.yaml_profile.proofs.SpellsKeyLemmas.{closes_weaker, feed_more, full_append, full_by, gap_closes}
use Rattle.yaml_profile.proofs.SpellsSpaceLemmas.{gap_begins}
use Rattle.yaml_profile.proofs.SpellsFlowLemmas.{Distinct, seq_none, map_none}
use Rattle.yaml_profile.proofs.SpellsBackSpaceLemmas.{when_true, when_false, when_ok, false_or, split, one_cut, space_passed}
use Rattle.yaml_profile.proofs.SpellsBackScalarLemmas.{IsBegun, ScalarBack}
use Rattle.yaml_profile.proofs.SpellsBackPlainLemmas.{Ended, scalar_back, KeyBack, key_back, IsMark, IsClosed, closed_ended, closed_quote, mark_at, mark_stops}

-- ---- names

in_middle : (p : Pair) (found ps : List Pair) → In (name_of p) (map name_of (found ++ p ∷ ps))
in_middle p [] ps = inl refl
in_middle p (q ∷ found) ps = inr (in_middle p found ps)

-- a name is new where all are distinct
pub new_name : (found : List Pair) (p : Pair) (ps : List Pair) → Distinct (found ++ p ∷ ps) → has_name (name_of p) found ≡ false
unfolding has_name
new_name [] p ps h = refl
new_name (q ∷ found) p ps h = false_or (bytes_eq (name_of p) (name_of q)) _ (go (bytes_eq (name_of p) (name_of q)) refl) (new_name found p ps h.1)
  where
    go : (c : Bool) → bytes_eq (name_of p) (name_of q) ≡ c → bytes_eq (name_of p) (name_of q) ≡ false
    go true e = let P : List ℕ → Type 0 = λ n. In n (map name_of (found ++ p ∷ ps)) in absurd
        (h.0 (subst P ((bytes_eq-Decides (name_of p) (name_of q)).0 e) (in_middle p found ps)))
    go false e = e

pub distinct_along : (found : List Pair) (p : Pair) (ps : List Pair) → Distinct (found ++ p ∷ ps) → Distinct ((found ++ p ∷ []) ++ ps)
distinct_along found p ps h = let P : List Pair → Type 0 = λ l. Distinct l in subst P (sym (append_assoc found (p ∷ []) ps)) h

-- ---- a mark after space

pub admit : {A : Type 0} (o : Option Feature) (t : Text) (r : Result A Refusal) → o ≡ None → unless o t r ≡ r
admit o t r e = ap (λ (f : Option Feature). unless f t r) e

marked : (b : ℕ) (t rest : Text) → Cuts (IsSpace and_then Is b) t rest → is_flow_mark b ≡ true → (spaced t ≡ b ∷ rest) × IsClosed t
marked b t rest c m =
    let k = split c in
    let e = one_cut k.back in
    let P : Text → Type 0 = λ x. Cuts IsSpace t x in
    let front = subst P e k.front in (
      space_passed t (b ∷ rest) front (mark_stops b rest m),
      record { mark = b ∷ rest; space = front; is_mark = mark_at b rest m },
    )

-- a part between two spaces and before a mark
record Between (P : Text → Type 0) (b : ℕ) (t rest : Text) : Type 0 where
  start : Text
  after : Text
  before : Cuts IsSpace t start
  part : Cuts P start after
  closed : IsClosed after
  mark : spaced after ≡ b ∷ rest

between : (P : Text → Type 0) (b : ℕ) (t rest : Text) → Cuts (IsSpace and_then P and_then IsSpace and_then Is b) t rest → is_flow_mark b ≡ true
    → Between P b t rest
between P b t rest c m =
    let k = split c in
    let l = split k.back in
    let n = marked b l.middle rest l.back m in
    record { start = k.middle; after = l.middle; before = k.front; part = l.front; closed = n.1; mark = n.0 }

mark_full : (P Q R : Text → Type 0) (b : ℕ) (s : Text) → (P and_then Q and_then R and_then Is b) s → IsFull s
mark_full P Q R b s h =
    let k = h.is_second in
    let l = k.is_second in
    let n = full_by (l.first ++ l.second) l.first in
    let last_full : IsFull l.second = full_by (b ∷ []) l.second l.is_second (λ e. cc) in
    let third : IsFull k.second = full_by (l.first ++ l.second) k.second l.parts (full_append l.first l.second last_full) in
    let second : IsFull h.second = full_by (k.first ++ k.second) h.second k.parts (full_append k.first k.second third) in
    full_by (h.first ++ h.second) s h.parts (full_append h.first h.second second)

-- ---- flow sequences

-- the texts of a node are read as it, up to space and a mark
abbrev NodeBack : Production → Reader Yaml → Type 0
NodeBack P node = (x : Yaml) (t rest : Text) → Cuts (P x) t rest → IsClosed rest → (node t ≡ Ok (x, rest)) × IsBegun t

abbrev Trees : Type 0
Trees = Outcome Yaml

-- what is read from the next item on
abbrev item_from : Reader Yaml → ℕ → List Yaml → Text → Trees
item_from node n found u =
    cond (sees 93 u) (Ok (Seq found, drop 1 u)) (node u >>= λ item. after_item (items node n) (found ++ item.0 ∷ []) (spaced item.1))

one_item : (P : Production) (node : Reader Yaml) → NodeBack P node → (n : ℕ) (found : List Yaml) (x : Yaml) (b : ℕ) (t rest : Text)
    → is_flow_mark b ≡ true
    → Cuts (IsSpace and_then P x and_then IsSpace and_then Is b) t rest
    → items node (suc n) found t ≡ after_item (items node n) (found ++ x ∷ []) (b ∷ rest)
unfolding items
one_item P node back n found x b t rest m c =
    let k = between (P x) b t rest c m in
    let r = back x k.start k.after k.part k.closed in
    ap (item_from node n found) (space_passed t k.start k.before r.1.stop)
    ∙ when_false (sees 93 k.start) (Ok (Seq found, drop 1 k.start)) _ r.1.bracket
    ∙ when_ok (node k.start) (x, k.after) (λ item. after_item (items node n) (found ++ item.0 ∷ []) (spaced item.1)) r.0
    ∙ ap (after_item (items node n) (found ++ x ∷ [])) k.mark

items_back : (P : Production) (node : Reader Yaml) → NodeBack P node → (n : ℕ) (found xs : List Yaml) (s rest : Text) → IsListed 93 P xs s
    → length (s ++ rest) < n
    → items node n found (s ++ rest) ≡ Ok (Seq (found ++ xs), rest)
unfolding items
items_back P node back zero found xs s rest h less = absurd (omega arith)
items_back P node back (suc n) found xs s rest (none c) less =
    ap (item_from node n found) (marked 93 (s ++ rest) rest (whole_cut s rest c) refl).0 ∙ ap (λ (y : Yaml). Ok (y, rest)) (seq_none found)
items_back P node back (suc n) found xs s rest (last {x = x} c) less = one_item P node back n found x 93 (s ++ rest) rest refl (whole_cut s rest c)
items_back P node back (suc n) found xs s rest (more {x = x} {xs = ys} first next c h e) less =
    let whole : s ++ rest ≡ first ++ (next ++ rest) = ap (λ (y : Text). y ++ rest) e ∙ append_assoc first next rest in
    let shorter : length (next ++ rest) < n = (let l = full_shorter first (next ++ rest)
    (mark_full IsSpace (P x) IsSpace 44 first c) in let k = ap length whole in omega arith) in
    ap (items node (suc n) found) whole ∙ one_item P node back n found x 44 (first ++ (next ++ rest)) (next ++ rest) refl
    (whole_cut first (next ++ rest) c)
    ∙ items_back P node back n (found ++ x ∷ []) ys next rest h shorter ∙ ap (λ (l : List Yaml). Ok (Seq l, rest)) (append_assoc found (x ∷ []) ys)

-- ---- flow mappings

mark_closes : (t : Text) → IsMark t → closes true t ≡ true
mark_closes t m = ap (closes true) m.parts ∙ right_true (is_gap (m.byte ∷ m.rest)) _ m.is_mark

space_closes : (s t : Text) → IsSpace s → IsMark t → closes true (s ++ t) ≡ true
space_closes s t (inl e) m = ap (λ (x : Text). closes true (x ++ t)) e ∙ mark_closes t m
space_closes s t (inr h) m =
    let same = ap (λ (x : Text). x ++ t) h.parts ∙ append_assoc h.first h.second t in
    gap_closes true (s ++ t) (ap is_gap same ∙ gap_begins h.first (h.second ++ t) h.is_first)

closed_closes : (t : Text) → IsClosed t → closes true t ≡ true
closed_closes t c = ap (closes true) c.space.whole ∙ space_closes c.space.part c.mark c.space.holds c.is_mark

value_closes : (v t : Text) → closes true t ≡ true → closes true v ≡ true → closes true (v ++ t) ≡ true
value_closes [] t e f = e
value_closes (b ∷ v) t e f = closes_weaker true b v (v ++ t) (feed_more v t) f

-- a value is read, and then this mark comes
record ValueBack (node : Reader Yaml) (x : Yaml) (rest : Text) (b : ℕ) (t : Text) : Type 0 where
  end : Text
  reads : value_of node rest ≡ Ok (x, end)
  mark : spaced end ≡ b ∷ t

abbrev value_from : Reader Yaml → Text → Text → Trees
value_from node t w = cond (sees 58 w) (value_or_none node (spaced (drop 1 w))) (refuse Syntax (spaced t))

value_back : (P : Production) (node : Reader Yaml) → NodeBack P node → (x : Yaml) (value after rest t : Text) (b : ℕ) → IsFlowValue P x value
    → past_white rest ≡ 58 ∷ (value ++ after) → IsClosed after
    → spaced after ≡ b ∷ t → is_flow_mark b ≡ true → (b == 44 || b == 125) ≡ true → ValueBack node x rest b t
unfolding value_of
value_back P node back x value after rest t b (inl h) colon closed mark m two =
    let k = split (whole_cut value after h) in
    let r = back x k.middle after k.back closed in
    let text = k.middle in
    record {
      end = after;
      reads = ap (value_from node rest) colon ∙ ap (value_or_none node) (space_passed (value ++ after) text k.front r.1.stop)
          ∙ when_false (sees 44 text || sees 125 text) _ (node text) (false_or (sees 44 text) _ r.1.comma r.1.brace) ∙ r.0;
      mark = mark;
    }
value_back P node back x value after rest t b (inr h) colon closed mark m two =
    let none_there = ap (value_from node rest) (colon ∙ ap (λ (y : Text). 58 ∷ (y ++ after)) h.1) ∙ ap (value_or_none node) mark
    ∙ when_true (b == 44 || b == 125) (Ok (Scalar [], b ∷ t)) _ two in
    record {
      end = b ∷ t;
      reads = none_there ∙ ap (λ (y : Yaml). Ok (y, b ∷ t)) (sym h.0);
      mark = space_passed (b ∷ t) (b ∷ t) (no_part (b ∷ t) (inl refl)) (mark_stops b t m);
    }

abbrev pair_from : Reader Yaml → ℕ → List Pair → Text → Trees
pair_from node n found u =
    cond (sees 125 u) (Ok (Map found, drop 1 u))
    (new_key found u >>= λ key. value_of node key.1 >>= λ value. after_pair (pairs node n) (found ++ pair key.0 value.0 ∷ []) (spaced value.1))

key_read : (found : List Pair) (name t rest : Text) → ScalarBack true name t rest → has_name name found ≡ false → new_key found t ≡ Ok (name, rest)
unfolding new_key
key_read found name t rest k new =
    admit (left_out t) t _ k.begins.begun.out ∙ when_ok (scalar true t) (name, rest)
    (λ key. cond (has_name key.0 found) (refuse RepeatedKey t) (Ok key)) k.reads
    ∙ when_false (has_name name found) (refuse RepeatedKey t) (Ok (name, rest)) new

pair_key : (P : Production) (p : Pair) (start after : Text) → IsClosed after → (c : Cuts (IsFlowPair P p) start after)
    → KeyBack true (name_of p) start (c.holds.value ++ after)
pair_key P p start after closed c =
    let h = c.holds in
    let whole : start ≡ h.key ++ (h.value ++ after) = c.whole ∙ ap (λ (x : Text). x ++ after) h.parts ∙ append_assoc h.key h.value after in
    let Q : Text → Type 0 = λ x. KeyBack true (name_of p) x (h.value ++ after) in
    subst Q (sym whole) (key_back true (name_of p) h.key h.value (h.value ++ after) h.is_key
    (value_closes h.value after (closed_closes after closed)))

one_pair : (P : Production) (node : Reader Yaml) → NodeBack P node → (n : ℕ) (found : List Pair) (p : Pair) (b : ℕ) (t rest : Text)
    → is_flow_mark b ≡ true → (b == 44 || b == 125) ≡ true
    → has_name (name_of p) found ≡ false → Cuts (IsSpace and_then IsFlowPair P p and_then IsSpace and_then Is b) t rest
    → pairs node (suc n) found t ≡ after_pair (pairs node n) (found ++ p ∷ []) (b ∷ rest)
unfolding pairs
one_pair P node back n found p b t rest m two new c =
    let k = between (IsFlowPair P p) b t rest c m in
    let h = k.part.holds in
    let key = pair_key P p k.start k.after k.closed k.part in
    let begun = key.back.begins.begun in
    let value = value_back P node back (tree.value_of p) h.value k.after key.rest rest b h.is_value key.colon k.closed k.mark m two in
    ap (pair_from node n found) (space_passed t k.start k.before begun.stop)
    ∙ when_false (sees 125 k.start) (Ok (Map found, drop 1 k.start)) _ begun.brace
    ∙ when_ok (new_key found k.start) (name_of p, key.rest)
    (λ l. value_of node l.1 >>= λ v. after_pair (pairs node n) (found ++ pair l.0 v.0 ∷ []) (spaced v.1))
    (key_read found (name_of p) k.start key.rest key.back new)
    ∙ when_ok (value_of node key.rest) (tree.value_of p, value.end)
    (λ v. after_pair (pairs node n) (found ++ pair (name_of p) v.0 ∷ []) (spaced v.1)) value.reads
    ∙ ap (after_pair (pairs node n) (found ++ p ∷ [])) value.mark

pairs_back : (P : Production) (node : Reader Yaml) → NodeBack P node → (n : ℕ) (found ps : List Pair) (s rest : Text)
    → IsListed 125 (IsFlowPair P) ps s → length (s ++ rest) < n → Distinct (found ++ ps)
    → pairs node n found (s ++ rest) ≡ Ok (Map (found ++ ps), rest)
unfolding pairs
pairs_back P node back zero found ps s rest h less d = absurd (omega arith)
pairs_back P node back (suc n) found ps s rest (none c) less d =
    ap (pair_from node n found) (marked 125 (s ++ rest) rest (whole_cut s rest c) refl).0 ∙ ap (λ (y : Yaml). Ok (y, rest)) (map_none found)
pairs_back P node back (suc n) found ps s rest (last {x = p} c) less d = one_pair P node back n found p 125 (s ++ rest) rest refl refl
    (new_name found p [] d) (whole_cut s rest c)
pairs_back P node back (suc n) found ps s rest (more {x = p} {xs = qs} first next c h e) less d =
    let whole : s ++ rest ≡ first ++ (next ++ rest) = ap (λ (y : Text). y ++ rest) e ∙ append_assoc first next rest in
    let shorter : length (next ++ rest) < n = (let l = full_shorter first (next ++ rest)
    (mark_full IsSpace (IsFlowPair P p) IsSpace 44 first c) in let k = ap length whole in omega arith) in
    ap (pairs node (suc n) found) whole ∙ one_pair P node back n found p 44 (first ++ (next ++ rest)) (next ++ rest) refl refl
    (new_name found p qs d) (whole_cut first (next ++ rest) c)
    ∙ pairs_back P node back n (found ++ p ∷ []) qs next rest h shorter (distinct_along found p qs d)
    ∙ ap (λ (l : List Pair). Ok (Map l, rest)) (append_assoc found (p ∷ []) qs)

-- ---- inline nodes

-- what follows ends a plain scalar, and is no quote
pub record IsOver (flow : Bool) (t : Text) : Type 0 where
  pub ended : Ended flow t
  pub no_quote : sees 39 t ≡ false

abbrev pub InlineBack : ℕ → Bool → Yaml → Text → Text → Type 0
InlineBack depth flow x t rest = (inline depth flow t ≡ Ok (x, rest)) × IsBegun t

abbrev text_of : List ℕ × Text → Outcome Yaml
text_of text = Ok (Scalar text.0, text.1)

text_back : (flow : Bool) (x : Yaml) (t rest : Text) (seq map : Outcome Yaml) → Cuts (IsText flow x) t rest → IsOver flow rest
    → (unless (left_out t) t (cond (sees 91 t) seq (cond (sees 123 t) map (scalar flow t >>= λ text. Ok (Scalar text.0, text.1)))) ≡ Ok
    (x, rest)) × IsBegun t
text_back flow x t rest seq map c over =
    let h = c.holds in
    let k = scalar_back flow h.text t rest (widen (λ s n. n)
    (record { part = c.part; whole = c.whole; holds = h.is_scalar })) over.no_quote over.ended in (
      admit (left_out t) t _ k.begins.begun.out ∙ when_false (sees 91 t) seq _ k.begins.no_sequence
          ∙ when_false (sees 123 t) map _ k.begins.no_mapping
          ∙ when_ok (scalar flow t) (h.text, rest) text_of k.reads ∙ ap (λ (y : Yaml). Ok (y, rest)) (sym h.same),
      k.begins.begun,
    )

closed_over : (t : Text) → IsClosed t → IsOver true t
closed_over t c = record { ended = closed_ended t c; no_quote = closed_quote t c }

bracket_begun : (t : Text) → IsBegun (91 ∷ t)
bracket_begun t = record { stop = record { no_gap = refl; no_hash = refl }; out = refl; dash = refl; percent = refl; comma = refl; bracket = refl; brace = refl }

brace_begun : (t : Text) → IsBegun (123 ∷ t)
brace_begun t = record { stop = record { no_gap = refl; no_hash = refl }; out = refl; dash = refl; percent = refl; comma = refl; bracket = refl; brace = refl }

flow_back : (depth : ℕ) (flow : Bool) (x : Yaml) (t s rest : Text) → NodeBack (IsInline depth true) (inline depth true) → t ≡ s ++ rest
    → IsFlow (IsInline depth true) x s → InlineBack (suc depth) flow x t rest
unfolding inline
flow_back depth flow x t s rest back e (sequence xs same h) =
    let u = h.second ++ rest in
    let whole : t ≡ 91 ∷ u = e ∙ ap (λ (y : Text). y ++ rest) (h.parts ∙ ap (λ (y : Text). y ++ h.second) h.is_first) in
    let Q : Text → Type 0 = λ y. IsBegun y in (
      ap (inline (suc depth) flow) whole ∙ items_back (IsInline depth true) (inline depth true) back (suc (length u)) [] xs h.second rest h.is_second
          (omega arith)
          ∙ ap (λ (y : Yaml). Ok (y, rest)) (sym same),
      subst Q (sym whole) (bracket_begun u),
    )
flow_back depth flow x t s rest back e (mapping ps same d h) =
    let u = h.second ++ rest in
    let whole : t ≡ 123 ∷ u = e ∙ ap (λ (y : Text). y ++ rest) (h.parts ∙ ap (λ (y : Text). y ++ h.second) h.is_first) in
    let Q : Text → Type 0 = λ y. IsBegun y in (
      ap (inline (suc depth) flow) whole ∙ pairs_back (IsInline depth true) (inline depth true) back (suc (length u)) [] ps h.second rest h.is_second
          (omega arith) d
          ∙ ap (λ (y : Yaml). Ok (y, rest)) (sym same),
      subst Q (sym whole) (brace_begun u),
    )

deeper_back : (depth : ℕ) (flow : Bool) (x : Yaml) (t s rest : Text) → NodeBack (IsInline depth true) (inline depth true) → t ≡ s ++ rest
    → IsText flow x s ⊎ IsFlow (IsInline depth true) x s → IsOver flow rest
    → InlineBack (suc depth) flow x t rest
unfolding inline
deeper_back depth flow x t s rest back e (inl h) over = text_back flow x t rest _ _ (record { part = s; whole = e; holds = h }) over
deeper_back depth flow x t s rest back e (inr h) over = flow_back depth flow x t s rest back e h

pub inline_back : (depth : ℕ) (flow : Bool) (x : Yaml) (t rest : Text) → Cuts (IsInline depth flow x) t rest → IsOver flow rest
    → InlineBack depth flow x t rest
unfolding inline IsInline
inline_back zero flow x t rest c over = text_back flow x t rest _ _ c over
inline_back (suc depth) flow x t rest c over =
    let back : NodeBack (IsInline depth true) (inline depth true) = λ y u v k closed. inline_back depth true y u v k (closed_over v closed) in
    deeper_back depth flow x t c.part rest back c.whole c.holds over
