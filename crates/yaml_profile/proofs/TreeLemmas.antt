-- Each tree that is read has texts in UTF-8 and distinct names.
use Rattle.std.proofs.Common.{◌≡◌, ℕ, zero, suc, Bool, true, false, ◌||◌, List, [], ◌∷◌, ◌++◌, length, drop, map, Ok, refl, sym, ap, subst, ◌∙◌, inl, inr, arith}
use Rattle.std.specs.Prelude.{IsUtf8, IfOk, bytes_eq}
use Rattle.std.proofs.lemmas.Slice.Eq.{bytes_eq-Decides}
use Rattle.std.proofs.lemmas.Str.{IsUtf8-nil}
use Rattle.file_info.specs.Lists.{In, IsDistinct}
use Rattle.file_info.proofs.Lists.{distinct-more}
use Rattle.yaml_profile.specs.declared.yaml.Yaml.{Yaml}
use Rattle.yaml_profile.specs.declared.yaml.Yaml.TheOpen.{Yaml-F}
use Rattle.yaml_profile.specs.declared.yaml.Yaml.TheVariants.{Scalar, Seq, Map, outs-Scalar, outs-Seq, outs-Map}
use Rattle.yaml_profile.specs.declared.yaml.Pair.{Pair}
use Rattle.yaml_profile.specs.Text.{Text, ◌>>=◌, sees, past_white, spaced}
use Rattle.yaml_profile.specs.Scalar.{scalar}
use Rattle.yaml_profile.specs.Mapping.{pair, has_name}
use Rattle.yaml_profile.specs.Flow.{Reader, left_out, items, after_item, new_key, value_of, pairs, after_pair, inline}
use Rattle.yaml_profile.specs.Tree.{Each, name_of, IsText, IsNode, IsTree}
use Rattle.yaml_profile.specs.Tree as tree
use Rattle.yaml_profile.proofs.CutLemmas.{behind_byte}
use Rattle.yaml_profile.proofs.FineLemmas.{Fine, bind, choose, allowed}
use Rattle.yaml_profile.proofs.ScalarLemmas.{scalar_fine}
use Rattle.yaml_profile.proofs.SpaceLemmas.{past_white_utf8, spaced_utf8}

-- ---- lists

pub each_more : {A : Type 0} (P : A → Type 0) (xs : List A) (x : A) → Each P xs → P x → Each P (xs ++ x ∷ [])
each_more P [] x e h = (h, tt)
each_more P (y ∷ ys) x e h = (e.0, each_more P ys x e.1 h)

names_more : (n : List ℕ) (v : Yaml) (ps : List Pair) → map name_of (ps ++ pair n v ∷ []) ≡ map name_of ps ++ n ∷ []
names_more n v [] = refl
names_more n v (p ∷ ps) = ap (λ (l : List (List ℕ)). name_of p ∷ l) (names_more n v ps)

named : (n : List ℕ) (ps : List Pair) → In n (map name_of ps) → has_name n ps ≡ true
unfolding has_name
named n [] h = absurd h
named n (p ∷ ps) (inl e) = ap (λ (b : Bool). b || has_name n ps) ((bytes_eq-Decides n (name_of p)).1 e)
named n (p ∷ ps) (inr h) = ap (λ (b : Bool). bytes_eq n (name_of p) || b) (named n ps h) ∙ last (bytes_eq n (name_of p))
  where
    last : (b : Bool) → (b || true) ≡ true
    last true = refl
    last false = refl

-- ---- nodes, by the predicate that holds of what they hold

abbrev pub PairsFine : (Yaml → Type 0) → List Pair → Type 0
PairsFine P ps = Each (λ p. IsUtf8 (name_of p) × P (tree.value_of p)) ps × IsDistinct (map name_of ps)

pub pairs_more : (P : Yaml → Type 0) (found : List Pair) (n : List ℕ) (v : Yaml) → PairsFine P found → IsUtf8 n → has_name n found ≡ false → P v → PairsFine P (found ++ pair n v ∷ [])
pairs_more P found n v h u new ok =
    let D : List (List ℕ) → Type 0 = λ l. IsDistinct l in (
      each_more (λ p. IsUtf8 (name_of p) × P (tree.value_of p)) found (pair n v) h.0 (u, ok),
      subst D (sym (names_more n v found)) (distinct-more (map name_of found) n h.1 (λ k. absurd (different (named n found k) new))),
    )
  where
    different : {b : Bool} → b ≡ true → b ≡ false → ⊥
    different e f = cc

pub scalar_tree : (depth : ℕ) (text : List ℕ) → IsUtf8 text → IsTree depth (Scalar text)
unfolding IsTree
scalar_tree zero text u = let P : Yaml-F Yaml Pair → Type 0 = λ l. IsText l in subst P (sym (outs-Scalar text)) u
scalar_tree (suc depth) text u = let P : Yaml-F Yaml Pair → Type 0 = λ l. IsNode (IsTree depth) l in subst P (sym (outs-Scalar text)) u

pub seq_tree : (depth : ℕ) (ys : List Yaml) → Each (IsTree depth) ys → IsTree (suc depth) (Seq ys)
unfolding IsTree
seq_tree depth ys h = let P : Yaml-F Yaml Pair → Type 0 = λ l. IsNode (IsTree depth) l in subst P (sym (outs-Seq ys)) h

pub map_tree : (depth : ℕ) (ps : List Pair) → PairsFine (IsTree depth) ps → IsTree (suc depth) (Map ps)
unfolding IsTree
map_tree depth ps h = let P : Yaml-F Yaml Pair → Type 0 = λ l. IsNode (IsTree depth) l in subst P (sym (outs-Map ps)) h

-- ---- flow collections

abbrev NodeFine : (Yaml → Type 0) → Reader Yaml → Type 0
NodeFine P node = (t : Text) → IsUtf8 t → Fine P (node t)

abbrev pub After : (Yaml → Type 0) → Yaml × Text → Type 0
After P x = P x.0 × IsUtf8 x.1

items_fine : (depth : ℕ) (node : Reader Yaml) → NodeFine (IsTree depth) node → (n : ℕ) (found : List Yaml) (t : Text) → Each (IsTree depth) found → IsUtf8 t
    → Fine (IsTree (suc depth)) (items node n found t)
unfolding items
items_fine depth node fine zero found t each u = tt
items_fine depth node fine (suc n) found t each u =
    choose (After (IsTree (suc depth))) (sees 93 (spaced t)) _ _ (λ e. (seq_tree depth found each, behind_byte 93 (spaced t) (omega arith) e (spaced_utf8 t u)))
    (λ _. bind (After (IsTree depth)) (After (IsTree (suc depth))) (node (spaced t)) (λ item. after_item (items node n) (found ++ item.0 ∷ []) (spaced item.1)) (fine (spaced t) (spaced_utf8 t u))
    (λ item h.
    let more = each_more (IsTree depth) found item.0 each h.0 in
    let end = spaced item.1 in
    let ending = spaced_utf8 item.1 h.1 in
    choose (After (IsTree (suc depth))) (sees 93 end) _ _ (λ e. (seq_tree depth (found ++ item.0 ∷ []) more, behind_byte 93 end (omega arith) e ending))
    (λ _. choose (After (IsTree (suc depth))) (sees 44 end) _ _ (λ e. items_fine depth node fine n (found ++ item.0 ∷ []) (drop 1 end) more (behind_byte 44 end (omega arith) e ending)) (λ _. tt))))

-- a key that is new
abbrev pub NewKey : List Pair → List ℕ × Text → Type 0
NewKey found x = (IsUtf8 x.0 × (has_name x.0 found ≡ false)) × IsUtf8 x.1

abbrev pub KeyFine : List ℕ × Text → Type 0
KeyFine x = IsUtf8 x.0 × IsUtf8 x.1

new_key_fine : (found : List Pair) (t : Text) → IsUtf8 t → IfOk (new_key found t) (NewKey found)
unfolding new_key
new_key_fine found t u =
    allowed (NewKey found) (left_out t) t _ (bind KeyFine (NewKey found) (scalar true t) _ (scalar_fine true t u)
    (λ key h. choose (NewKey found) (has_name key.0 found) _ _ (λ _. tt) (λ e. ((h.0, e), h.1))))

value_of_fine : (depth : ℕ) (node : Reader Yaml) → NodeFine (IsTree depth) node → (t : Text) → IsUtf8 t → Fine (IsTree depth) (value_of node t)
unfolding value_of
value_of_fine depth node fine t u =
    let white = past_white_utf8 t u in
    choose (After (IsTree depth)) (sees 58 (past_white t)) _ _
    (λ e.
    let start = spaced (drop 1 (past_white t)) in
    let ok = spaced_utf8 (drop 1 (past_white t)) (behind_byte 58 (past_white t) (omega arith) e white) in
    choose (After (IsTree depth)) (sees 44 start || sees 125 start) _ _ (λ _. (scalar_tree depth [] IsUtf8-nil, ok)) (λ _. fine start ok))
    (λ _. tt)

pairs_fine : (depth : ℕ) (node : Reader Yaml) → NodeFine (IsTree depth) node → (n : ℕ) (found : List Pair) (t : Text) → PairsFine (IsTree depth) found → IsUtf8 t
    → Fine (IsTree (suc depth)) (pairs node n found t)
unfolding pairs
pairs_fine depth node fine zero found t each u = tt
pairs_fine depth node fine (suc n) found t each u =
    choose (After (IsTree (suc depth))) (sees 125 (spaced t)) _ _ (λ e. (map_tree depth found each, behind_byte 125 (spaced t) (omega arith) e (spaced_utf8 t u)))
    (λ _. bind (NewKey found) (After (IsTree (suc depth))) (new_key found (spaced t)) (λ key. value_of node key.1 >>= λ value. after_pair (pairs node n) (found ++ pair key.0 value.0 ∷ []) (spaced value.1)) (new_key_fine found (spaced t) (spaced_utf8 t u))
    (λ key k. bind (After (IsTree depth)) (After (IsTree (suc depth))) (value_of node key.1) (λ value. after_pair (pairs node n) (found ++ pair key.0 value.0 ∷ []) (spaced value.1)) (value_of_fine depth node fine key.1 k.1)
    (λ value h.
    let now = found ++ pair key.0 value.0 ∷ [] in
    let more = pairs_more (IsTree depth) found key.0 value.0 each k.0.0 k.0.1 h.0 in
    let end = spaced value.1 in
    let ending = spaced_utf8 value.1 h.1 in
    choose (After (IsTree (suc depth))) (sees 125 end) _ _ (λ e. (map_tree depth now more, behind_byte 125 end (omega arith) e ending))
    (λ _. choose (After (IsTree (suc depth))) (sees 44 end) _ _ (λ e. pairs_fine depth node fine n now (drop 1 end) more (behind_byte 44 end (omega arith) e ending)) (λ _. tt)))))

text_fine : (depth : ℕ) (flow : Bool) (t : Text) → IsUtf8 t → Fine (IsTree depth) (scalar flow t >>= λ text. Ok (Scalar text.0, text.1))
text_fine depth flow t u = bind KeyFine (After (IsTree depth)) (scalar flow t) (λ text. Ok (Scalar text.0, text.1)) (scalar_fine flow t u) (λ text h. (scalar_tree depth text.0 h.0, h.1))

pub inline_fine : (depth : ℕ) (flow : Bool) (t : Text) → IsUtf8 t → Fine (IsTree depth) (inline depth flow t)
unfolding inline
inline_fine zero flow t u =
    allowed (After (IsTree zero)) (left_out t) t _ (choose (After (IsTree zero)) (sees 91 t) _ _ (λ _. tt) (λ _. choose (After (IsTree zero)) (sees 123 t) _ _ (λ _. tt) (λ _. text_fine zero flow t u)))
inline_fine (suc depth) flow t u =
    let fine : NodeFine (IsTree depth) (inline depth true) = λ s v. inline_fine depth true s v in
    let rest = drop 1 t in
    allowed (After (IsTree (suc depth))) (left_out t) t _ (choose (After (IsTree (suc depth))) (sees 91 t) _ _ (λ e. items_fine depth (inline depth true) fine (suc (length rest)) [] rest tt (behind_byte 91 t (omega arith) e u))
    (λ _. choose (After (IsTree (suc depth))) (sees 123 t) _ _ (λ e. pairs_fine depth (inline depth true) fine (suc (length rest)) [] rest (tt, tt) (behind_byte 123 t (omega arith) e u)) (λ _. text_fine (suc depth) flow t u)))
