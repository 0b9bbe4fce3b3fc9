-- A tree on one line is read back.
use Rattle.std.proofs.Common.{◌≡◌, ℕ, zero, suc, ◌≤◌, Bool, true, false, cond, ◌||◌, List, [], ◌∷◌, ◌++◌, length, map, drop, Ok, refl, sym, ap, subst, ◌∙◌, inl, inr, append_assoc, append-nil, arith}
use Rattle.std.specs.Prelude.{IsUtf8, bytes_eq}
use Rattle.std.proofs.lemmas.List.{length-append}
use Rattle.std.proofs.lemmas.Slice.Eq.{bytes_eq-Decides}
use Rattle.file_info.specs.Lists.{In, IsDistinct}
use Rattle.yaml_profile.specs.declared.fault.Fault.TheVariants.{RepeatedKey}
use Rattle.yaml_profile.specs.declared.yaml.Yaml.{Yaml, out-Yaml, roll-Yaml, roll-out-Yaml}
use Rattle.yaml_profile.specs.declared.yaml.Yaml.TheOpen.{Yaml-F}
use Rattle.yaml_profile.specs.declared.yaml.Yaml.TheVariants.{Scalar, Seq, Map, rolls-Scalar, rolls-Seq, rolls-Map}
use Rattle.yaml_profile.specs.declared.yaml.Pair.{Pair, roll-out-Pair}
use Rattle.yaml_profile.specs.Text.{Text, Outcome, refuse, ◌>>=◌, sees, past_white, spaced}
use Rattle.yaml_profile.specs.Mapping.{pair, has_name}
use Rattle.yaml_profile.specs.Flow.{Reader, items, after_item, pairs, after_pair, new_key, value_of, value_or_none, inline}
use Rattle.yaml_profile.specs.Tree.{Each, name_of, IsText, IsNode, IsTree}
use Rattle.yaml_profile.specs.Tree as tree
use Rattle.yaml_profile.specs.Print.{Layer, all_escaped, quoted, with_commas, pair_text, layer_text, shallow_text, flow_text}
use Rattle.yaml_profile.proofs.NameLemmas.{has_name-append}
use Rattle.yaml_profile.proofs.QuotedLemmas.{scalar_read}
use Rattle.yaml_profile.proofs.StartLemmas.{IsStarted, started_more, kept, node_start, spaced_mark}

-- ---- what each tree on one line meets

-- the tree on one line is read as that tree, whatever follows, in a flow collection and outside
pub record IsInline (depth : ℕ) (y : Yaml) : Type 0 where
  pub again : (flow : Bool) (rest : Text) → inline depth flow (flow_text depth y ++ rest) ≡ Ok (y, rest)
  pub started : IsStarted (flow_text depth y)

-- each value is so, and each name is new
abbrev pub NewPairs : (Yaml → Type 0) → List Pair → List Pair → Type 0
NewPairs P found [] = Unit {0}
NewPairs P found (p ∷ ps) = P (tree.value_of p) × (has_name (name_of p) found ≡ false) × NewPairs P (found ++ p ∷ []) ps

pub pair_is : (p : Pair) → pair (name_of p) (tree.value_of p) ≡ p
pair_is p = roll-out-Pair p

pub one_more : (found : List Pair) (p : Pair) → found ++ pair (name_of p) (tree.value_of p) ∷ [] ≡ found ++ p ∷ []
one_more found p = ap (λ (q : Pair). found ++ q ∷ []) (pair_is p)

-- ---- scalars

inline_scalar : (depth : ℕ) (flow : Bool) (text : List ℕ) (rest : Text) → inline depth flow (quoted text ++ rest) ≡ Ok (Scalar text, rest)
unfolding inline
inline_scalar zero flow text rest = ap (λ (o : Outcome (List ℕ)). o >>= λ x. Ok (Scalar x.0, x.1)) (scalar_read flow text rest)
inline_scalar (suc depth) flow text rest = ap (λ (o : Outcome (List ℕ)). o >>= λ x. Ok (Scalar x.0, x.1)) (scalar_read flow text rest)

-- ---- items

-- the items between commas
abbrev items_text : ℕ → List Yaml → List ℕ
items_text depth ys = with_commas (map (flow_text depth) ys)

abbrev items_from : Reader Yaml → ℕ → List Yaml → Text → Outcome Yaml
items_from node n found s =
    cond (sees 93 s) (Ok (Seq found, drop 1 s)) (node s >>= λ item. after_item (items node n) (found ++ item.0 ∷ []) (spaced item.1))

items_turn : (node : Reader Yaml) (n : ℕ) (found : List Yaml) (t : Text) → items node (suc n) found t ≡ items_from node n found (spaced t)
unfolding items
items_turn node n found t = refl

one_item : (depth n : ℕ) (found : List Yaml) (y : Yaml) (rest : Text) → IsInline depth y
    → items_from (inline depth true) n found (flow_text depth y ++ rest) ≡ after_item (items (inline depth true) n) (found ++ y ∷ []) (spaced rest)
one_item depth n found y rest r =
    let t = flow_text depth y ++ rest in
    let read : Outcome Yaml → Outcome Yaml = λ o. o >>= λ item. after_item (items (inline depth true) n) (found ++ item.0 ∷ []) (spaced item.1) in
    ap (λ (c : Bool). cond c (Ok (Seq found, drop 1 t)) (read (inline depth true t)))
    (node_start t (started_more (flow_text depth y) rest r.started)).no_bracket
    ∙ ap read (r.again true rest)

items_start : (depth : ℕ) (y : Yaml) (ys : List Yaml) (rest : Text) → IsInline depth y → IsStarted (items_text depth (y ∷ ys) ++ rest)
unfolding with_commas
items_start depth y [] rest r = started_more (flow_text depth y) rest r.started
items_start depth y (z ∷ ys) rest r =
    started_more (items_text depth (y ∷ z ∷ ys)) rest (started_more (flow_text depth y) (44 ∷ 32 ∷ items_text depth (z ∷ ys)) r.started)

items_read : (depth : ℕ) (ys : List Yaml) (n : ℕ) (found : List Yaml) (t rest : Text) → Each (IsInline depth) ys → length ys ≤ n
    → spaced t ≡ items_text depth ys ++ 93 ∷ rest → items (inline depth true) (suc n) found t ≡ Ok (Seq (found ++ ys), rest)
unfolding with_commas
items_read depth [] n found t rest all le e =
    items_turn (inline depth true) n found t ∙ ap (items_from (inline depth true) n found) e
    ∙ ap (λ (w : List Yaml). Ok (Seq w, rest)) (sym (append-nil found))
items_read depth (y ∷ []) n found t rest all le e =
    items_turn (inline depth true) n found t ∙ ap (items_from (inline depth true) n found) e ∙ one_item depth n found y (93 ∷ rest) all.0
    ∙ ap (after_item (items (inline depth true) n) (found ++ y ∷ [])) (spaced_mark rest).0
items_read depth (y ∷ z ∷ ys) zero found t rest all le e = absurd (omega arith)
items_read depth (y ∷ z ∷ ys) (suc n) found t rest all le e =
    let more = items_text depth (z ∷ ys) ++ 93 ∷ rest in
    let regrouped : items_text depth (y ∷ z ∷ ys) ++ 93 ∷ rest ≡ flow_text depth y ++ (44 ∷ 32 ∷ more) =
    append_assoc (flow_text depth y) (44 ∷ 32 ∷ items_text depth (z ∷ ys)) (93 ∷ rest) in
    items_turn (inline depth true) (suc n) found t ∙ ap (items_from (inline depth true) (suc n) found) (e ∙ regrouped)
    ∙ one_item depth (suc n) found y (44 ∷ 32 ∷ more) all.0
    ∙ ap (after_item (items (inline depth true) (suc n)) (found ++ y ∷ [])) (spaced_mark (32 ∷ more)).1
    ∙ items_read depth (z ∷ ys) n (found ++ y ∷ []) (32 ∷ more) rest all.1 (omega arith)
    (kept more (items_start depth z ys (93 ∷ rest) all.1.0)).spaced_space
    ∙ ap (λ (k : List Yaml). Ok (Seq k, rest)) (append_assoc found (y ∷ []) (z ∷ ys))

items_long : (depth : ℕ) (ys : List Yaml) → Each (IsInline depth) ys → length ys ≤ length (items_text depth ys)
unfolding with_commas
items_long depth [] all = omega arith
items_long depth (y ∷ []) all = omega (arith, ap length all.0.started.parts)
items_long depth (y ∷ z ∷ ys) all =
    omega (arith, length-append (flow_text depth y) (44 ∷ 32 ∷ items_text depth (z ∷ ys)), items_long depth (z ∷ ys) all.1)

items_spaced : (depth : ℕ) (ys : List Yaml) (rest : Text) → Each (IsInline depth) ys
    → spaced (items_text depth ys ++ 93 ∷ rest) ≡ items_text depth ys ++ 93 ∷ rest
unfolding with_commas
items_spaced depth [] rest all = (spaced_mark rest).0
items_spaced depth (y ∷ ys) rest all = (kept (items_text depth (y ∷ ys) ++ 93 ∷ rest) (items_start depth y ys (93 ∷ rest) all.0)).spaced_self

sequence_read : (depth : ℕ) (flow : Bool) (ys : List Yaml) (rest : Text) → Each (IsInline depth) ys
    → inline (suc depth) flow ((91 ∷ (items_text depth ys ++ 93 ∷ [])) ++ rest) ≡ Ok (Seq ys, rest)
unfolding inline
sequence_read depth flow ys rest all =
    let w = items_text depth ys in
    let t = (w ++ 93 ∷ []) ++ rest in
    let long : length ys ≤ length t = omega (arith, length-append w (93 ∷ []), length-append (w ++ 93 ∷ []) rest, items_long depth ys all) in
    items_read depth ys (length t) [] t rest all long (ap spaced (append_assoc w (93 ∷ []) rest) ∙ items_spaced depth ys rest all)

-- ---- pairs

-- the pairs between commas
abbrev pairs_text : ℕ → List Pair → List ℕ
pairs_text depth ps = with_commas (map (pair_text (flow_text depth)) ps)

abbrev pairs_from : Reader Yaml → ℕ → List Pair → Text → Outcome Yaml
pairs_from node n found s =
    cond (sees 125 s) (Ok (Map found, drop 1 s))
    (new_key found s >>= λ key. (value_of node key.1 >>= λ value. after_pair (pairs node n) (found ++ pair key.0 value.0 ∷ []) (spaced value.1)))

pairs_turn : (node : Reader Yaml) (n : ℕ) (found : List Pair) (t : Text) → pairs node (suc n) found t ≡ pairs_from node n found (spaced t)
unfolding pairs
pairs_turn node n found t = refl

key_read : (found : List Pair) (name : List ℕ) (rest : Text) → has_name name found ≡ false → new_key found (quoted name ++ rest) ≡ Ok (name, rest)
unfolding new_key
key_read found name rest h =
    ap (λ (o : Outcome (List ℕ)). o >>= λ key. cond (has_name key.0 found) (refuse RepeatedKey (quoted name ++ rest)) (Ok key))
    (scalar_read true name rest)
    ∙ ap (λ (c : Bool). cond c (refuse RepeatedKey (quoted name ++ rest)) (Ok (name, rest))) h

value_read : (depth : ℕ) (y : Yaml) (rest : Text) → IsInline depth y
    → value_of (inline depth true) (58 ∷ 32 ∷ (flow_text depth y ++ rest)) ≡ Ok (y, rest)
unfolding value_of past_white
value_read depth y rest r =
    let t = flow_text depth y ++ rest in
    let s = started_more (flow_text depth y) rest r.started in
    let node = node_start t s in
    let absent : (sees 44 t || sees 125 t) ≡ false = ap (λ (c : Bool). c || sees 125 t) node.no_comma ∙ node.no_brace in
    ap (value_or_none (inline depth true)) (kept t s).spaced_space ∙ ap (λ (c : Bool). cond c (Ok (Scalar [], t)) (inline depth true t)) absent
    ∙ r.again true rest

one_pair : (depth n : ℕ) (found : List Pair) (p : Pair) (rest : Text) → IsInline depth (tree.value_of p) → has_name (name_of p) found ≡ false
    → pairs_from (inline depth true) n found (pair_text (flow_text depth) p ++ rest)
    ≡ after_pair (pairs (inline depth true) n) (found ++ p ∷ []) (spaced rest)
one_pair depth n found p rest r new =
    let node = inline depth true in
    let v = flow_text depth (tree.value_of p) in
    let after : List Pair → Text → Outcome Yaml = λ now t. after_pair (pairs node n) now (spaced t) in
    let regrouped : pair_text (flow_text depth) p ++ rest ≡ quoted (name_of p) ++ (58 ∷ 32 ∷ (v ++ rest)) =
    append_assoc (quoted (name_of p)) (58 ∷ 32 ∷ v) rest in
    ap (pairs_from node n found) regrouped
    ∙ ap (λ (o : Outcome (List ℕ)). o >>= λ key. (value_of node key.1 >>= λ value. after (found ++ pair key.0 value.0 ∷ []) value.1))
    (key_read found (name_of p) (58 ∷ 32 ∷ (v ++ rest)) new)
    ∙ ap (λ (o : Outcome Yaml). o >>= λ value. after (found ++ pair (name_of p) value.0 ∷ []) value.1) (value_read depth (tree.value_of p) rest r)
    ∙ ap (λ (w : List Pair). after w rest) (one_more found p)

pairs_start : (depth : ℕ) (p : Pair) (ps : List Pair) (rest : Text) → IsStarted (pairs_text depth (p ∷ ps) ++ rest)
unfolding with_commas
pairs_start depth p [] rest = record { first = 34; others = _; parts = refl; starts = refl }
pairs_start depth p (q ∷ ps) rest = record { first = 34; others = _; parts = refl; starts = refl }

pairs_read : (depth : ℕ) (ps : List Pair) (n : ℕ) (found : List Pair) (t rest : Text) → NewPairs (IsInline depth) found ps → length ps ≤ n
    → spaced t ≡ pairs_text depth ps ++ 125 ∷ rest → pairs (inline depth true) (suc n) found t ≡ Ok (Map (found ++ ps), rest)
unfolding with_commas
pairs_read depth [] n found t rest all le e =
    pairs_turn (inline depth true) n found t ∙ ap (pairs_from (inline depth true) n found) e
    ∙ ap (λ (w : List Pair). Ok (Map w, rest)) (sym (append-nil found))
pairs_read depth (p ∷ []) n found t rest all le e =
    pairs_turn (inline depth true) n found t ∙ ap (pairs_from (inline depth true) n found) e ∙ one_pair depth n found p (125 ∷ rest) all.0 all.1
    ∙ ap (after_pair (pairs (inline depth true) n) (found ++ p ∷ [])) (spaced_mark rest).2
pairs_read depth (p ∷ q ∷ ps) zero found t rest all le e = absurd (omega arith)
pairs_read depth (p ∷ q ∷ ps) (suc n) found t rest all le e =
    let more = pairs_text depth (q ∷ ps) ++ 125 ∷ rest in
    let one = pair_text (flow_text depth) p in
    let regrouped : pairs_text depth (p ∷ q ∷ ps) ++ 125 ∷ rest ≡ one ++ (44 ∷ 32 ∷ more) =
    append_assoc one (44 ∷ 32 ∷ pairs_text depth (q ∷ ps)) (125 ∷ rest) in
    pairs_turn (inline depth true) (suc n) found t ∙ ap (pairs_from (inline depth true) (suc n) found) (e ∙ regrouped)
    ∙ one_pair depth (suc n) found p (44 ∷ 32 ∷ more) all.0 all.1
    ∙ ap (after_pair (pairs (inline depth true) (suc n)) (found ++ p ∷ [])) (spaced_mark (32 ∷ more)).1
    ∙ pairs_read depth (q ∷ ps) n (found ++ p ∷ []) (32 ∷ more) rest all.2 (omega arith)
    (kept more (pairs_start depth q ps (125 ∷ rest))).spaced_space
    ∙ ap (λ (k : List Pair). Ok (Map k, rest)) (append_assoc found (p ∷ []) (q ∷ ps))

pairs_long : (depth : ℕ) (ps : List Pair) → length ps ≤ length (pairs_text depth ps)
unfolding with_commas
pairs_long depth [] = omega arith
pairs_long depth (p ∷ []) = omega arith
pairs_long depth (p ∷ q ∷ ps) =
    omega (arith, length-append (pair_text (flow_text depth) p) (44 ∷ 32 ∷ pairs_text depth (q ∷ ps)), pairs_long depth (q ∷ ps))

pairs_spaced : (depth : ℕ) (ps : List Pair) (rest : Text) → spaced (pairs_text depth ps ++ 125 ∷ rest) ≡ pairs_text depth ps ++ 125 ∷ rest
unfolding with_commas
pairs_spaced depth [] rest = (spaced_mark rest).2
pairs_spaced depth (p ∷ ps) rest = (kept (pairs_text depth (p ∷ ps) ++ 125 ∷ rest) (pairs_start depth p ps (125 ∷ rest))).spaced_self

mapping_read : (depth : ℕ) (flow : Bool) (ps : List Pair) (rest : Text) → NewPairs (IsInline depth) [] ps
    → inline (suc depth) flow ((123 ∷ (pairs_text depth ps ++ 125 ∷ [])) ++ rest) ≡ Ok (Map ps, rest)
unfolding inline
mapping_read depth flow ps rest all =
    let w = pairs_text depth ps in
    let t = (w ++ 125 ∷ []) ++ rest in
    let long : length ps ≤ length t = omega (arith, length-append w (125 ∷ []), length-append (w ++ 125 ∷ []) rest, pairs_long depth ps) in
    pairs_read depth ps (length t) [] t rest all long (ap spaced (append_assoc w (125 ∷ []) rest) ∙ pairs_spaced depth ps rest)

-- ---- a tree

pub scalar_is : (y : Yaml) (text : List ℕ) → out-Yaml y ≡ Yaml-F.Scalar text → Scalar text ≡ y
scalar_is y text e = sym (rolls-Scalar text) ∙ sym (ap roll-Yaml e) ∙ roll-out-Yaml y

pub seq_is : (y : Yaml) (ys : List Yaml) → out-Yaml y ≡ Yaml-F.Seq ys → Seq ys ≡ y
seq_is y ys e = sym (rolls-Seq ys) ∙ sym (ap roll-Yaml e) ∙ roll-out-Yaml y

pub map_is : (y : Yaml) (ps : List Pair) → out-Yaml y ≡ Yaml-F.Map ps → Map ps ≡ y
map_is y ps e = sym (rolls-Map ps) ∙ sym (ap roll-Yaml e) ∙ roll-out-Yaml y

at_scalar : (depth : ℕ) (y : Yaml) (text : List ℕ) → flow_text depth y ≡ quoted text → Scalar text ≡ y → IsInline depth y
at_scalar depth y text e s = record {
  again = λ flow rest. ap (λ (t : List ℕ). inline depth flow (t ++ rest)) e ∙ inline_scalar depth flow text rest ∙ ap (λ (z : Yaml). Ok (z, rest)) s;
  started = record { first = 34; others = all_escaped text ++ 34 ∷ []; parts = e; starts = refl };
}

at_seq : (depth : ℕ) (y : Yaml) (ys : List Yaml) → flow_text (suc depth) y ≡ 91 ∷ (items_text depth ys ++ 93 ∷ []) → Seq ys ≡ y
    → Each (IsInline depth) ys → IsInline (suc depth) y
at_seq depth y ys e s all = record {
  again =
      λ flow rest. ap (λ (t : List ℕ). inline (suc depth) flow (t ++ rest)) e ∙ sequence_read depth flow ys rest all
      ∙ ap (λ (z : Yaml). Ok (z, rest)) s;
  started = record { first = 91; others = items_text depth ys ++ 93 ∷ []; parts = e; starts = refl };
}

at_map : (depth : ℕ) (y : Yaml) (ps : List Pair) → flow_text (suc depth) y ≡ 123 ∷ (pairs_text depth ps ++ 125 ∷ []) → Map ps ≡ y
    → NewPairs (IsInline depth) [] ps
    → IsInline (suc depth) y
at_map depth y ps e s all = record {
  again =
      λ flow rest. ap (λ (t : List ℕ). inline (suc depth) flow (t ++ rest)) e ∙ mapping_read depth flow ps rest all
      ∙ ap (λ (z : Yaml). Ok (z, rest)) s;
  started = record { first = 123; others = pairs_text depth ps ++ 125 ∷ []; parts = e; starts = refl };
}

each_inline : (depth : ℕ) (ys : List Yaml) → ((y : Yaml) → IsTree depth y → IsInline depth y) → Each (IsTree depth) ys → Each (IsInline depth) ys
each_inline depth [] f each = tt
each_inline depth (y ∷ ys) f each = (f y each.0, each_inline depth ys f each.1)

pub pairs_inline : (depth : ℕ) (found ps : List Pair) → ((y : Yaml) → IsTree depth y → IsInline depth y) → NewPairs (IsTree depth) found ps
    → NewPairs (IsInline depth) found ps
pairs_inline depth found [] f each = tt
pairs_inline depth found (p ∷ ps) f each = (f (tree.value_of p) each.0, each.1, pairs_inline depth (found ++ p ∷ []) ps f each.2)

-- two names that differ
apart : (q n : List ℕ) → (q ≡ n → ⊥) → bytes_eq q n ≡ false
apart q n differ = go (bytes_eq q n) refl
  where
    go : (b : Bool) → bytes_eq q n ≡ b → bytes_eq q n ≡ false
    go true e = absurd (differ ((bytes_eq-Decides q n).0 e))
    go false e = e

-- distinct names are new one after another
names_new : (P : Yaml → Type 0) (found ps : List Pair) → Each (λ p. IsUtf8 (name_of p) × P (tree.value_of p)) ps → IsDistinct (map name_of ps)
    → ((q : List ℕ) → In q (map name_of ps) → has_name q found ≡ false) → NewPairs P found ps
names_new P found [] each distinct fresh = tt
names_new P found (p ∷ ps) each distinct fresh =
    (each.0.1, fresh (name_of p) (inl refl), names_new P (found ++ p ∷ []) ps each.1 distinct.1 (λ q i. later q i))
  where
    later : (q : List ℕ) → In q (map name_of ps) → has_name q (found ++ p ∷ []) ≡ false
    later q i =
        ap (has_name q) (sym (one_more found p)) ∙ has_name-append q (name_of p) (tree.value_of p) found
        ∙ ap (λ (b : Bool). b || has_name q found) (apart q (name_of p) (λ same. distinct.0 (subst (λ (n : List ℕ). In n (map name_of ps)) same i)))
        ∙ fresh q (inr i)

pub new_pairs : (P : Yaml → Type 0) (ps : List Pair) → Each (λ p. IsUtf8 (name_of p) × P (tree.value_of p)) ps × IsDistinct (map name_of ps)
    → NewPairs P [] ps
unfolding has_name
new_pairs P ps h = names_new P [] ps h.0 h.1 (λ q i. refl)

pub tree_inline : (depth : ℕ) (y : Yaml) → IsTree depth y → IsInline depth y
unfolding IsTree flow_text
tree_inline zero y h = go (out-Yaml y) refl h
  where
    go : (l : Layer) → out-Yaml y ≡ l → IsText l → IsInline zero y
    go (Yaml-F.Scalar text) e k = at_scalar zero y text (ap shallow_text e) (scalar_is y text e)
    go (Yaml-F.Seq ys) e k = absurd k
    go (Yaml-F.Map ps) e k = absurd k
tree_inline (suc depth) y h = go (tree_inline depth) (out-Yaml y) refl h
  where
    go : ((z : Yaml) → IsTree depth z → IsInline depth z) → (l : Layer) → out-Yaml y ≡ l → IsNode (IsTree depth) l → IsInline (suc depth) y
    go f (Yaml-F.Scalar text) e k = at_scalar (suc depth) y text (ap (layer_text (flow_text depth)) e) (scalar_is y text e)
    go f (Yaml-F.Seq ys) e k = at_seq depth y ys (ap (layer_text (flow_text depth)) e) (seq_is y ys e) (each_inline depth ys f k)
    go f (Yaml-F.Map ps) e k =
        at_map depth y ps (ap (layer_text (flow_text depth)) e) (map_is y ps e) (pairs_inline depth [] ps f (new_pairs (IsTree depth) ps k))
