-- The shapes of the values of a tree: what they keep of it, and what they weigh.
use Rattle.std.proofs.Common.{◌≡◌, ◌≤◌, ℕ, zero, suc, ◌+◌, Bool, true, false, List, [], ◌∷◌, map, cond, Option, None, Some, ◌⊎◌, inl, inr, refl, sym, subst, ap, ◌∙◌, arith}
use Rattle.std.specs.Prelude.{IsUtf8, bytes_eq}
use Rattle.std.proofs.lemmas.Slice.Eq.{bytes_eq-Decides}
use Rattle.file_info.specs.Lists.{In, IsDistinct}
use Rattle.file_info.proofs.Lists.{In-map}
use Rattle.yaml_profile.specs.Tree.{Each, name_of, value_of, IsText, IsNode, IsTree}
use Rattle.yaml_profile.specs.Weight.{total, pair_weight, node_weight, weight}
use Rattle.yaml_profile.specs.declared.yaml.Yaml.{Yaml, out-Yaml}
use Rattle.yaml_profile.specs.declared.yaml.Yaml.TheOpen.{Yaml-F}
use Rattle.yaml_profile.specs.declared.yaml.Pair.{Pair}
use Rattle.build_manifest.specs.Command.{text_weight}
use Rattle.manifest_values.specs.Shapes.{◌then◌, text_of, pairs_of, all_texts, texts_of, value_named}

-- each of two steps finds a value
pub both_found : {A B : Type 0} (o : Option A) (f : A → Option B) (y : B) → (o then f) ≡ Some y → (x : A) × (o ≡ Some x) × (f x ≡ Some y)
both_found None f y e = cc e
both_found (Some x) f y e = (x, refl, e)

-- ---- weights

-- an item weighs no more than all
pub total_in : {A : Type 0} (f : A → ℕ) (x : A) (xs : List A) → In x xs → f x ≤ total f xs
total_in f x [] i = absurd i
total_in f x (y ∷ xs) (inl e) = let same = ap f e in omega arith
total_in f x (y ∷ xs) (inr i) = let rest = total_in f x xs i in omega arith

-- ---- lists of nodes

-- one item is as each is
pub Each-in : {A : Type 0} (P : A → Type 0) (xs : List A) → Each P xs → (x : A) → In x xs → P x
Each-in P [] h x i = absurd i
Each-in P (y ∷ xs) h x (inl e) = subst P (sym e) h.0
Each-in P (y ∷ xs) h x (inr i) = Each-in P xs h.1 x i

-- ---- texts

scalar_given : (tree : Yaml) (text : List ℕ) → text_of tree ≡ Some text → out-Yaml tree ≡ Yaml-F.Scalar text
unfolding text_of
scalar_given tree text e = go (out-Yaml tree) e
  where
    go : (l : Yaml-F Yaml Pair) → elim l [ Yaml-F.Scalar t ↦ Some t | Yaml-F.Seq items ↦ None | Yaml-F.Map pairs ↦ None ] ≡ Some text
        → l ≡ Yaml-F.Scalar text
    go (Yaml-F.Scalar t) h = cc h
    go (Yaml-F.Seq items) h = cc h
    go (Yaml-F.Map pairs) h = cc h

-- a text weighs what its node weighs
pub text_weighs : (depth : ℕ) (tree : Yaml) (text : List ℕ) → text_of tree ≡ Some text → text_weight text ≡ weight depth tree
unfolding weight
text_weighs zero tree text e = ap (node_weight (λ _. 0)) (sym (scalar_given tree text e))
text_weighs (suc depth) tree text e = ap (node_weight (weight depth)) (sym (scalar_given tree text e))

-- a text of a tree is UTF-8
pub text_utf8 : (depth : ℕ) (tree : Yaml) (text : List ℕ) → IsTree depth tree → text_of tree ≡ Some text → IsUtf8 text
unfolding IsTree
text_utf8 zero tree text h e = subst IsText (scalar_given tree text e) h
text_utf8 (suc depth) tree text h e = subst (IsNode (IsTree depth)) (scalar_given tree text e) h

-- texts in UTF-8 that weigh no more than so much
pub record AreTexts (most : ℕ) (texts : List (List ℕ)) : Type 0 where
  pub utf8 : (t : List ℕ) → In t texts → IsUtf8 t
  pub light : total text_weight texts ≤ most

-- the texts of nodes of a tree
pub all_texts_fine : (depth : ℕ) (items : List Yaml) (texts : List (List ℕ)) → Each (IsTree depth) items → all_texts items ≡ Some texts
    → AreTexts (total (weight depth) items) texts
all_texts_fine depth [] texts h e =
    let is : [] ≡ texts = cc e in
    subst (AreTexts 0) is (record { utf8 = λ t i. absurd i; light = omega arith })
all_texts_fine depth (x ∷ xs) texts h e =
    let (text, a, e1) = both_found (text_of x) _ texts e in
    let (others, b, e2) = both_found (all_texts xs) _ texts e1 in
    let is : (text ∷ others) ≡ texts = cc e2 in
    let rest = all_texts_fine depth xs others h.1 b in
    let utf8 = text_utf8 depth x text h.0 a in
    let weighs = text_weighs depth x text a in
    let light = rest.light in
    subst (AreTexts (weight depth x + total (weight depth) xs)) is (record {
      utf8 = λ t i. elim i [ inl same ↦ subst IsUtf8 (sym same) utf8 | inr later ↦ rest.utf8 t later ];
      light = omega arith;
    })

-- the texts of a list weigh no more than its node
pub texts_fine : (depth : ℕ) (tree : Yaml) (texts : List (List ℕ)) → IsTree depth tree → texts_of tree ≡ Some texts
    → AreTexts (weight depth tree) texts
unfolding texts_of IsTree weight
texts_fine depth tree texts h e = go depth (out-Yaml tree) refl h e
  where
    one : (most : ℕ) (t : List ℕ) → text_weight t ≡ most → IsUtf8 t → Some (t ∷ []) ≡ Some texts → AreTexts most texts
    one most t m u e =
        let is : (t ∷ []) ≡ texts = cc e in
        subst (AreTexts most) is (record {
          utf8 = λ s i. elim i [ inl same ↦ subst IsUtf8 (sym same) u | inr later ↦ absurd later ];
          light = omega arith;
        })

    go : (n : ℕ) (l : Yaml-F Yaml Pair) → out-Yaml tree ≡ l → IsTree n tree
        → elim l [ Yaml-F.Scalar t ↦ Some (t ∷ []) | Yaml-F.Seq items ↦ all_texts items | Yaml-F.Map pairs ↦ None ] ≡ Some texts
        → AreTexts (weight n tree) texts
    go zero (Yaml-F.Scalar t) s k f = one (weight zero tree) t (ap (node_weight (λ _. 0)) (sym s)) (subst IsText s k) f
    go zero (Yaml-F.Seq items) s k f = absurd (subst IsText s k)
    go zero (Yaml-F.Map pairs) s k f = cc f
    go (suc n) (Yaml-F.Scalar t) s k f = one (weight (suc n) tree) t (ap (node_weight (weight n)) (sym s)) (subst (IsNode (IsTree n)) s k) f
    go (suc n) (Yaml-F.Seq items) s k f =
        let fine = all_texts_fine n items texts (subst (IsNode (IsTree n)) s k) f in
        subst (λ w. AreTexts w texts) (ap (node_weight (weight n)) (sym s)) fine
    go (suc n) (Yaml-F.Map pairs) s k f = cc f

-- ---- pairs

-- the pairs of a mapping: names and values are those of a tree, and no name stands twice
pub record ArePairs (depth : ℕ) (ps : List Pair) : Type 0 where
  pub names : (p : Pair) → In p ps → IsUtf8 (name_of p)
  pub values : (p : Pair) → In p ps → IsTree depth (value_of p)
  pub distinct : IsDistinct (map name_of ps)

-- the pairs of a node, and how deep their values nest
pub record PairsBelow (depth : ℕ) (tree : Yaml) (ps : List Pair) : Type 0 where
  pub below : ℕ
  pub fine : ArePairs below ps
  pub weighs : total (pair_weight (weight below)) ps ≡ weight depth tree

map_given : (tree : Yaml) (ps : List Pair) → pairs_of tree ≡ Some ps → out-Yaml tree ≡ Yaml-F.Map ps
unfolding pairs_of
map_given tree ps e = go (out-Yaml tree) e
  where
    go : (l : Yaml-F Yaml Pair) → elim l [ Yaml-F.Scalar t ↦ None | Yaml-F.Seq items ↦ None | Yaml-F.Map pairs ↦ Some pairs ] ≡ Some ps
        → l ≡ Yaml-F.Map ps
    go (Yaml-F.Scalar t) h = cc h
    go (Yaml-F.Seq items) h = cc h
    go (Yaml-F.Map pairs) h = cc h

-- the pairs of a mapping of a tree
pub pairs_below : (depth : ℕ) (tree : Yaml) (ps : List Pair) → IsTree depth tree → pairs_of tree ≡ Some ps → PairsBelow depth tree ps
unfolding IsTree weight
pairs_below zero tree ps h e = absurd (subst IsText (map_given tree ps e) h)
pairs_below (suc depth) tree ps h e =
    let node : IsNode (IsTree depth) (Yaml-F.Map ps) = subst (IsNode (IsTree depth)) (map_given tree ps e) h in
    let each = Each-in (λ (p : Pair). IsUtf8 (name_of p) × IsTree depth (value_of p)) ps node.0 in
    record {
      below = depth;
      fine = record { names = λ p i. (each p i).0; values = λ p i. (each p i).1; distinct = node.1 };
      weighs = ap (node_weight (weight depth)) (sym (map_given tree ps e));
    }

-- ---- the value of a name

cond-some : {A : Type 0} (b : Bool) (x : A) (o : Option A) (y : A) → cond b (Some x) o ≡ Some y → ((b ≡ true) × (x ≡ y)) ⊎ (o ≡ Some y)
cond-some true x o y e = inl (refl, cc e)
cond-some false x o y e = inr e

-- a pair of the name, where a value of it is found
pub named_in : (name : List ℕ) (ps : List Pair) (v : Yaml) → value_named name ps ≡ Some v
    → (p : Pair) × In p ps × (name_of p ≡ name) × (value_of p ≡ v)
named_in name [] v e = cc e
named_in name (p ∷ ps) v e = elim (cond-some (bytes_eq name (name_of p)) (value_of p) (value_named name ps) v e) [
  | inl here ↦ (p, inl refl, sym ((bytes_eq-Decides name (name_of p)).0 here.0), here.1)
  | inr later ↦ let (q, i, n, w) = named_in name ps v later in (q, inr i, n, w)
]

-- where no name stands twice, the value of a pair is found by its name
pub named_is : (ps : List Pair) → IsDistinct (map name_of ps) → (p : Pair) → In p ps → value_named (name_of p) ps ≡ Some (value_of p)
named_is [] d p i = absurd i
named_is (q ∷ ps) d p (inl e) =
    ap (λ b. cond b (Some (value_of q)) (value_named (name_of p) ps)) ((bytes_eq-Decides (name_of p) (name_of q)).1 (ap name_of e))
    ∙ ap (λ r. Some (value_of r)) (sym e)
named_is (q ∷ ps) d p (inr i) = go (bytes_eq (name_of p) (name_of q)) refl (named_is ps d.1 p i)
  where
    go : (b : Bool) → bytes_eq (name_of p) (name_of q) ≡ b → value_named (name_of p) ps ≡ Some (value_of p)
        → cond b (Some (value_of q)) (value_named (name_of p) ps) ≡ Some (value_of p)
    go true same e = absurd (d.0 (subst (λ n. In n (map name_of ps)) ((bytes_eq-Decides (name_of p) (name_of q)).0 same) (In-map name_of p ps i)))
    go false other e = e
