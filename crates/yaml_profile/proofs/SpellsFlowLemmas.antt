-- Inline nodes that are read are such texts.
use Rattle.std.proofs.Common.{◌≡◌, inl, inr, ℕ, zero, suc, Bool, true, false, ◌||◌, List, [], ◌∷◌, ◌++◌, length, drop, map, Ok, refl, sym, ap, subst, ◌∙◌, append_assoc, arith}
use Rattle.std.specs.Prelude.{IfOk, bytes_eq}
use Rattle.std.proofs.lemmas.Slice.Eq.{bytes_eq-Decides}
use Rattle.std.proofs.lemmas.Grind.{common_steps}
use Rattle.file_info.specs.Lists.{In, IsDistinct}
use Rattle.file_info.proofs.Lists.{distinct-more}
use Rattle.yaml_profile.specs.declared.yaml.Yaml.{Yaml}
use Rattle.yaml_profile.specs.declared.yaml.Yaml.TheVariants.{Scalar, Seq, Map}
use Rattle.yaml_profile.specs.declared.yaml.Pair.{Pair}
use Rattle.yaml_profile.specs.Text.{Text, ◌>>=◌, sees, is_flow_mark, past_white, spaced}
use Rattle.yaml_profile.specs.Scalar.{closes, scalar}
use Rattle.yaml_profile.specs.Mapping.{pair, has_name}
use Rattle.yaml_profile.specs.Flow.{Reader, left_out, items, after_item, new_key, value_of, pairs, after_pair, inline}
use Rattle.yaml_profile.specs.Tree.{name_of}
use Rattle.yaml_profile.specs.Space.{◌and_then◌, Is, IsSpace}
use Rattle.yaml_profile.specs.Spells.{Production, IsListed, none, last, more, IsFlowValue, IsFlowPair, IsFlow, sequence, mapping, IsText, IsInline}
use Rattle.yaml_profile.proofs.FineLemmas.{bind, choose, allowed, either}
use Rattle.yaml_profile.proofs.SpellsPartLemmas.{Cuts, Reads, chain, widen, no_part, seen_byte, IsFull, seen_full, mapped}
use Rattle.yaml_profile.proofs.SpellsSpaceLemmas.{space_cut, space_append}
use Rattle.yaml_profile.proofs.SpellsScalarLemmas.{differ, ScalarText, scalar_text}
use Rattle.yaml_profile.proofs.SpellsKeyLemmas.{scalar_closed, scalar_full, KeyOf, key_cut, mark_closes, spaced_value}

-- ---- names

named : (n : List ℕ) (ps : List Pair) → In n (map name_of ps) → has_name n ps ≡ true
unfolding has_name
named n [] h = absurd h
named n (p ∷ ps) (inl e) = ap (λ (b : Bool). b || has_name n ps) ((bytes_eq-Decides n (name_of p)).1 e)
named n (p ∷ ps) (inr h) = ap (λ (b : Bool). bytes_eq n (name_of p) || b) (named n ps h) ∙ last_true (bytes_eq n (name_of p))
  where
    last_true : (b : Bool) → (b || true) ≡ true
    last_true true = refl
    last_true false = refl

names_more : (n : List ℕ) (v : Yaml) (ps : List Pair) → map name_of (ps ++ pair n v ∷ []) ≡ map name_of ps ++ n ∷ []
names_more n v [] = refl
names_more n v (p ∷ ps) = ap (λ (l : List (List ℕ)). name_of p ∷ l) (names_more n v ps)

abbrev pub Distinct : List Pair → Type 0
Distinct ps = IsDistinct (map name_of ps)

distinct_one : (n : List ℕ) (v : Yaml) (ps : List Pair) → has_name n ps ≡ false → Distinct ps → Distinct (ps ++ pair n v ∷ [])
distinct_one n v ps new h =
    let D : List (List ℕ) → Type 0 = λ l. IsDistinct l in
    subst D (sym (names_more n v ps)) (distinct-more (map name_of ps) n h (λ k. differ (named n ps k) new))

-- ---- flow sequences

-- a node that was read, if what follows it closes a plain scalar
abbrev pub NodeRead : Bool → Production → Text → Yaml × Text → Type 0
NodeRead flow P t x = IsFull t × (closes flow x.1 ≡ true → Reads P t x)

abbrev NodeReads : Production → Reader Yaml → Type 0
NodeReads P node = (t : Text) → IfOk (node t) (NodeRead true P t)

pub seq_none : (found : List Yaml) → Seq found ≡ Seq (found ++ [])
seq_none found = ap Seq (grind (arith, common_steps))

pub map_none : (found : List Pair) → Map found ≡ Map (found ++ [])
map_none found = ap Map (grind (arith, common_steps))

listed_more : {A : Type 0} {close : ℕ} {P : A → Text → Type 0} (x : A) (xs : List A) (t u v : Text)
    → Cuts (IsSpace and_then P x and_then IsSpace and_then Is 44) t u → Cuts (IsListed close P xs) u v
    → Cuts (IsListed close P (x ∷ xs)) t v
listed_more x xs t u v f l = record {
  part = f.part ++ l.part;
  whole = f.whole ∙ ap (λ (s : Text). f.part ++ s) l.whole ∙ sym (append_assoc f.part l.part v);
  holds = more f.part l.part f.holds l.holds refl;
}

record ItemsRest (P : Production) (found : List Yaml) (t : Text) (x : Yaml × Text) : Type 0 where
  rest : List Yaml
  same : x.0 ≡ Seq (found ++ rest)
  listed : Cuts (IsListed 93 P rest) t x.1

items_none : (P : Production) (found : List Yaml) (t : Text) → sees 93 (spaced t) ≡ true → ItemsRest P found t (Seq found, drop 1 (spaced t))
items_none P found t e = record {
  rest = [];
  same = seq_none found;
  listed = widen (λ s k. none k)
      (chain (space_cut t (seen_full 93 (spaced t) e)) (seen_byte 93 (spaced t) e));
}

items_last : (P : Production) (found : List Yaml) (t : Text) (item : Yaml × Text) → sees 93 (spaced item.1) ≡ true → NodeRead true P (spaced t) item
    → ItemsRest P found t (Seq (found ++ item.0 ∷ []), drop 1 (spaced item.1))
items_last P found t item e h = record {
  rest = item.0 ∷ [];
  same = refl;
  listed = widen (λ s k. last k)
      (chain (space_cut t h.0) (chain (h.1 (mark_closes 93 item.1 e refl))
      (chain (space_cut item.1 (seen_full 93 (spaced item.1) e)) (seen_byte 93 (spaced item.1) e))));
}

items_next : (P : Production) (found : List Yaml) (t : Text) (item x : Yaml × Text) → sees 44 (spaced item.1) ≡ true → NodeRead true P (spaced t) item
    → ItemsRest P (found ++ item.0 ∷ []) (drop 1 (spaced item.1)) x → ItemsRest P found t x
items_next P found t item x e h k = record {
  rest = item.0 ∷ k.rest;
  same = k.same ∙ ap Seq (append_assoc found (item.0 ∷ []) k.rest);
  listed = listed_more item.0 k.rest t (drop 1 (spaced item.1)) x.1
      (chain (space_cut t h.0) (chain (h.1 (mark_closes 44 item.1 e refl))
      (chain (space_cut item.1 (seen_full 44 (spaced item.1) e)) (seen_byte 44 (spaced item.1) e)))) k.listed;
}

items_read : (P : Production) (node : Reader Yaml) → NodeReads P node → (n : ℕ) (found : List Yaml) (t : Text)
    → IfOk (items node n found t) (ItemsRest P found t)
unfolding items
items_read P node reads zero found t = tt
items_read P node reads (suc n) found t =
    choose (ItemsRest P found t) (sees 93 (spaced t)) _ _ (λ e. items_none P found t e)
    (λ _. bind (NodeRead true P (spaced t)) (ItemsRest P found t) (node (spaced t))
    (λ item. after_item (items node n) (found ++ item.0 ∷ []) (spaced item.1)) (reads (spaced t))
    (λ item h. choose (ItemsRest P found t) (sees 93 (spaced item.1)) _ _ (λ e. items_last P found t item e h)
    (λ _. choose (ItemsRest P found t) (sees 44 (spaced item.1)) _ _
    (λ e. mapped (ItemsRest P (found ++ item.0 ∷ []) (drop 1 (spaced item.1))) (ItemsRest P found t)
    (items node n (found ++ item.0 ∷ []) (drop 1 (spaced item.1)))
    (λ x k. items_next P found t item x e h k) (items_read P node reads n (found ++ item.0 ∷ []) (drop 1 (spaced item.1)))) (λ _. tt))))

-- ---- flow mappings

abbrev pub NewKey : Bool → List Pair → Text → List ℕ × Text → Type 0
NewKey flow found t x = ScalarText flow t x × (has_name x.0 found ≡ false)

new_key_read : (found : List Pair) (t : Text) → IfOk (new_key found t) (NewKey true found t)
unfolding new_key
new_key_read found t =
    allowed (NewKey true found t) (left_out t) t _ (bind (ScalarText true t) (NewKey true found t) (scalar true t) _ (scalar_text true t)
    (λ key h. choose (NewKey true found t) (has_name key.0 found) _ _ (λ _. tt) (λ e. (h, e))))

-- a pair that was read, and the space after it that was passed
record PairText (P : Production) (name : List ℕ) (t : Text) (x : Yaml × Text) : Type 0 where
  after : Text
  is_pair : Cuts (IsFlowPair P (pair name x.0)) t after
  space : Cuts IsSpace after x.1

abbrev PairRead : Production → List ℕ → Text → Yaml × Text → Type 0
PairRead P name t x = closes true x.1 ≡ true → PairText P name t x

-- a key and its value
with_value : (P : Production) (name : List ℕ) (value : Yaml) (t u v : Text) → Cuts (KeyOf true name u) t u
    → Cuts (λ s. IsFlowValue P value s × (closes true u ≡ true → closes true s ≡ true)) u v → Cuts (IsFlowPair P (pair name value)) t v
with_value P name value t u v k w = record {
  part = k.part ++ w.part;
  whole = k.whole ∙ ap (λ (s : Text). k.part ++ s) w.whole ∙ sym (append_assoc k.part w.part v);
  holds = record { key = k.part; value = w.part; parts = refl; is_key = k.holds w.part w.holds.1; is_value = w.holds.0 };
}

value_read : (P : Production) (node : Reader Yaml) → NodeReads P node → (t : Text) (key : List ℕ × Text) → ScalarText true t key
    → IfOk (value_of node key.1) (PairRead P key.0 t)
unfolding value_of
value_read P node reads t key h =
    let after : Text = drop 1 (past_white key.1) in
    choose (PairRead P key.0 t) (sees 58 (past_white key.1)) _ _
    (λ e. choose (PairRead P key.0 t) (sees 44 (spaced after) || sees 125 (spaced after)) _ _
    (λ f c. record {
      after = after;
      is_pair = with_value P key.0 (Scalar []) t after after (key_cut true t key e h) (no_part after (inr (refl, refl), λ _. refl));
      space = space_cut after (either (sees 44 (spaced after)) (sees 125 (spaced after)) (seen_full 44 (spaced after))
          (seen_full 125 (spaced after)) f);
    })
    (λ _. mapped (NodeRead true P (spaced after)) (PairRead P key.0 t) (node (spaced after))
    (λ x k c. record {
      after = x.1;
      is_pair = with_value P key.0 x.0 t after x.1 (key_cut true t key e h)
          (widen (λ s w. (inl w.0, w.1)) (spaced_value (P x.0) after x.1 k.0 (k.1 c)));
      space = no_part x.1 (inl refl);
    }) (reads (spaced after))))
    (λ _. tt)

record PairsRest (P : Production) (found : List Pair) (t : Text) (x : Yaml × Text) : Type 0 where
  rest : List Pair
  same : x.0 ≡ Map (found ++ rest)
  listed : Cuts (IsListed 125 (IsFlowPair P) rest) t x.1
  distinct : Distinct found → Distinct (found ++ rest)

pub distinct_none : (found : List Pair) → Distinct found → Distinct (found ++ [])
distinct_none found h = let e : found ≡ found ++ [] = grind (arith, common_steps) in let P : List Pair → Type 0 = λ l. Distinct l in subst P e h

pub distinct_next : (found rest : List Pair) (n : List ℕ) (v : Yaml) → has_name n found ≡ false
    → (Distinct (found ++ pair n v ∷ []) → Distinct ((found ++ pair n v ∷ []) ++ rest))
    → Distinct found → Distinct (found ++ pair n v ∷ rest)
distinct_next found rest n v new f h = let P : List Pair
    → Type 0 = λ l. Distinct l in subst P (append_assoc found (pair n v ∷ []) rest) (f (distinct_one n v found new h))

pub distinct_last : (found : List Pair) (n : List ℕ) (v : Yaml) → has_name n found ≡ false → Distinct found → Distinct (found ++ pair n v ∷ [])
distinct_last found n v new h = distinct_one n v found new h

pairs_none : (P : Production) (found : List Pair) (t : Text) → sees 125 (spaced t) ≡ true → PairsRest P found t (Map found, drop 1 (spaced t))
pairs_none P found t e = record {
  rest = [];
  same = map_none found;
  listed = widen (λ s k. none k) (chain (space_cut t (seen_full 125 (spaced t) e)) (seen_byte 125 (spaced t) e));
  distinct = distinct_none found;
}

-- the space after a pair up to a mark
space_after : (c : ℕ) (t u : Text) → Cuts IsSpace t u → sees c (spaced u) ≡ true → Cuts IsSpace t (spaced u)
space_after c t u s e =
    let w = space_cut u (seen_full c (spaced u) e) in
    record {
      part = s.part ++ w.part;
      whole = s.whole ∙ ap (λ (x : Text). s.part ++ x) w.whole
          ∙ sym (append_assoc s.part w.part (spaced u));
      holds = space_append s.part w.part s.holds w.holds;
    }

pair_listed : (P : Production) (c : ℕ) (t : Text) (key : List ℕ × Text) (value : Yaml × Text) → is_flow_mark c ≡ true
    → sees c (spaced value.1) ≡ true → ScalarText true (spaced t) key → PairRead P key.0 (spaced t) value
    → Cuts (IsSpace and_then IsFlowPair P (pair key.0 value.0) and_then IsSpace and_then Is c) t (drop 1 (spaced value.1))
pair_listed P c t key value m e h k =
    let p = k (mark_closes c value.1 e m) in
    chain (space_cut t (scalar_full true (spaced t) key h))
    (chain p.is_pair (chain (space_after c p.after value.1 p.space e) (seen_byte c (spaced value.1) e)))

pairs_next : (P : Production) (found : List Pair) (t : Text) (key : List ℕ × Text) (value x : Yaml × Text) → sees 44 (spaced value.1) ≡ true
    → NewKey true found (spaced t) key
    → PairRead P key.0 (spaced t) value → PairsRest P (found ++ pair key.0 value.0 ∷ []) (drop 1 (spaced value.1)) x → PairsRest P found t x
pairs_next P found t key value x e h v k = record {
  rest = pair key.0 value.0 ∷ k.rest;
  same = k.same ∙ ap Map (append_assoc found (pair key.0 value.0 ∷ []) k.rest);
  listed = listed_more (pair key.0 value.0) k.rest t (drop 1 (spaced value.1)) x.1 (pair_listed P 44 t key value refl e h.0 v) k.listed;
  distinct = distinct_next found k.rest key.0 value.0 h.1 k.distinct;
}

pairs_read : (P : Production) (node : Reader Yaml) → NodeReads P node → (n : ℕ) (found : List Pair) (t : Text)
    → IfOk (pairs node n found t) (PairsRest P found t)
unfolding pairs
pairs_read P node reads zero found t = tt
pairs_read P node reads (suc n) found t =
    choose (PairsRest P found t) (sees 125 (spaced t)) _ _ (λ e. pairs_none P found t e)
    (λ _. bind (NewKey true found (spaced t)) (PairsRest P found t) (new_key found (spaced t))
    (λ key. value_of node key.1 >>= λ value. after_pair (pairs node n) (found ++ pair key.0 value.0 ∷ []) (spaced value.1))
    (new_key_read found (spaced t))
    (λ key h. bind (PairRead P key.0 (spaced t)) (PairsRest P found t) (value_of node key.1)
    (λ value. after_pair (pairs node n) (found ++ pair key.0 value.0 ∷ []) (spaced value.1)) (value_read P node reads (spaced t) key h.0)
    (λ value v.
    let now = found ++ pair key.0 value.0 ∷ [] in
    choose (PairsRest P found t) (sees 125 (spaced value.1)) _ _
    (λ e. record {
      rest = pair key.0 value.0 ∷ [];
      same = refl;
      listed = widen (λ s k. last k)
          (pair_listed P 125 t key value refl e h.0 v);
      distinct = distinct_last found key.0 value.0 h.1;
    })
    (λ _. choose (PairsRest P found t) (sees 44 (spaced value.1)) _ _
    (λ e. mapped (PairsRest P now (drop 1 (spaced value.1))) (PairsRest P found t) (pairs node n now (drop 1 (spaced value.1)))
    (λ x k. pairs_next P found t key value x e h v k) (pairs_read P node reads n now (drop 1 (spaced value.1)))) (λ _. tt)))))

-- ---- inline nodes

text_read : (flow : Bool) (t : Text) → IfOk (scalar flow t >>= λ text. Ok (Scalar text.0, text.1)) (NodeRead flow (IsText flow) t)
text_read flow t =
    bind (ScalarText flow t) (NodeRead flow (IsText flow) t) (scalar flow t) (λ text. Ok (Scalar text.0, text.1)) (scalar_text flow t)
    (λ text h. (scalar_full flow t text h, λ c. widen (λ s k. record { text = text.0; same = refl; is_scalar = k }) (scalar_closed flow t text c h)))

seq_node : (P : Production) (flow : Bool) (t : Text) (x : Yaml × Text) → sees 91 t ≡ true → ItemsRest P [] (drop 1 t) x → NodeRead flow (IsFlow P) t x
seq_node P flow t x e h = (seen_full 91 t e, λ _. widen (λ s k. sequence h.rest h.same k) (chain (seen_byte 91 t e) h.listed))

map_node : (P : Production) (flow : Bool) (t : Text) (x : Yaml × Text) → sees 123 t ≡ true → PairsRest P [] (drop 1 t) x
    → NodeRead flow (IsFlow P) t x
map_node P flow t x e h = (seen_full 123 t e, λ _. widen (λ s k. mapping h.rest h.same (h.distinct tt) k) (chain (seen_byte 123 t e) h.listed))

pub inline_read : (depth : ℕ) (flow : Bool) (t : Text) → IfOk (inline depth flow t) (NodeRead flow (IsInline depth flow) t)
unfolding inline IsInline
inline_read zero flow t =
    allowed (NodeRead flow (IsText flow) t) (left_out t) t _
    (choose (NodeRead flow (IsText flow) t) (sees 91 t) _ _ (λ _. tt)
    (λ _. choose (NodeRead flow (IsText flow) t) (sees 123 t) _ _ (λ _. tt) (λ _. text_read flow t)))
inline_read (suc depth) flow t =
    let P : Production = IsInline depth true in
    let N : Yaml × Text → Type 0 = NodeRead flow (IsInline (suc depth) flow) t in
    let reads : NodeReads P (inline depth true) = λ s. inline_read depth true s in
    let rest = drop 1 t in
    let inside : (x : Yaml × Text) → NodeRead flow (IsFlow P) t x → N x = λ x h. (h.0, λ c. widen (λ s k. inr k) (h.1 c)) in
    allowed N (left_out t) t _ (choose N (sees 91 t) _ _
    (λ e. mapped (ItemsRest P [] rest) N (items (inline depth true) (suc (length rest)) [] rest) (λ x h. inside x (seq_node P flow t x e h))
    (items_read P (inline depth true) reads (suc (length rest)) [] rest))
    (λ _. choose N (sees 123 t) _ _
    (λ e. mapped (PairsRest P [] rest) N (pairs (inline depth true) (suc (length rest)) [] rest) (λ x h. inside x (map_node P flow t x e h))
    (pairs_read P (inline depth true) reads (suc (length rest)) [] rest))
    (λ _. mapped (NodeRead flow (IsText flow) t) N (scalar flow t >>= λ text. Ok (Scalar text.0, text.1))
    (λ x h. (h.0, λ c. widen (λ s k. inl k) (h.1 c))) (text_read flow t))))
