-- The values of attributes are such as they may be, and weigh no more than their nodes.
use Rattle.std.proofs.Common.{◌≡◌, ◌≤◌, ◌≢◌, ℕ, ◌+◌, zero, suc, Bool, true, false, not, ◌&&◌, ◌||◌, List, [], ◌∷◌, length, Option, None, Some, Ok, inl, inr, refl, sym, subst, ap, ◌∙◌, arith}
use Rattle.std.specs.Prelude.{◌==◌}
use Rattle.std.specs.List.{list_any}
use Rattle.std.proofs.lemmas.Bool.{and_parts, not-true, true≢false}
use Rattle.file_info.specs.Lists.{In}
use Rattle.file_info.specs.Normal.{IsPath}
use Rattle.file_info.proofs.Lists.{any-in}
use Rattle.yaml_profile.specs.Tree.{Each, name_of, value_of, IsText, IsNode, IsTree}
use Rattle.yaml_profile.specs.Weight.{total, pair_weight, node_weight, weight}
use Rattle.yaml_profile.specs.declared.yaml.Yaml.{Yaml, out-Yaml}
use Rattle.yaml_profile.specs.declared.yaml.Yaml.TheOpen.{Yaml-F}
use Rattle.yaml_profile.specs.declared.yaml.Pair.{Pair}
use Rattle.build_manifest.specs.Command.{has_nul, IsProgram, IsVariable, text_weight, args_weight}
use Rattle.build_manifest.specs.declared.command.Args.{Args}
use Rattle.build_manifest.specs.declared.command.Args.TheVariants.{Words, Line}
use Rattle.build_manifest.specs.declared.command.EnvPair.{EnvPair}
use Rattle.manifest_values.specs.Nodes.{path_of}
use Rattle.manifest_values.specs.Refusal.{each}
use Rattle.manifest_values.specs.Shapes.{◌then◌, text_of, all_texts}
use Rattle.manifest_values.specs.Values.{when, has_item, words_in, program_of, is_variable_name, variable_of, all_variables, variables_of, link_of}
use Rattle.manifest_reader.proofs.GivenLemmas.{each_given, each_total}
use Rattle.manifest_reader.proofs.NodeLemmas.{path_read}
use Rattle.manifest_reader.proofs.ShapeLemmas.{both_found, text_weighs, AreTexts, all_texts_fine, pairs_below}

-- the test holds, and there is a value
pub when_found : {A : Type 0} (b : Bool) (o : Option A) (y : A) → when b o ≡ Some y → (b ≡ true) × (o ≡ Some y)
when_found true o y e = (refl, e)
when_found false o y e = cc e

-- a list with an item is not empty
pub some_items : {A : Type 0} (xs : List A) → has_item xs ≡ true → xs ≢ []
some_items [] e h = true≢false (sym e)
some_items (x ∷ xs) e h = cc h

-- a list without an item is empty
pub no_items : {A : Type 0} (xs : List A) → has_item xs ≡ false → xs ≡ []
no_items [] e = refl
no_items (x ∷ xs) e = cc e

none_in : {A : Type 0} (p : A → Bool) (xs : List A) → list_any p xs ≡ false → (x : A) → In x xs → p x ≡ false
none_in {A} p xs e x i = go (p x) refl
  where
    go : (b : Bool) → p x ≡ b → p x ≡ false
    go true h = absurd (true≢false (sym (any-in p xs x i h) ∙ e))
    go false h = h

-- ---- programs

-- a program that weighs no more than so much
abbrev pub IsLightProgram : ℕ → Args → Type 0
IsLightProgram most a = IsProgram a × (args_weight a ≤ most)

words_fine : (most : ℕ) (words : List (List ℕ)) (a : Args) → AreTexts most words → words_in words ≡ Some a → IsLightProgram most a
words_fine most words a texts e =
    let (test, there) = when_found (has_item words && not (list_any has_nul words)) (Some (Words words)) a e in
    let (some, none) = and_parts (has_item words) (not (list_any has_nul words)) test in
    let is : Words words ≡ a = cc there in
    subst (IsLightProgram most) is ((some_items words some, none_in has_nul words (not-true _ none)), texts.light)

abbrev program_in : Yaml-F Yaml Pair → Option Args
program_in l = elim l [
  | Yaml-F.Scalar t ↦ when (not (has_nul t)) (Some (Line t))
  | Yaml-F.Seq items ↦ all_texts items then words_in
  | Yaml-F.Map pairs ↦ None
]

-- the program of `args`
pub program_fine : (depth : ℕ) (tree : Yaml) (a : Args) → IsTree depth tree → program_of tree ≡ Some a → IsLightProgram (weight depth tree) a
unfolding program_of IsTree weight
program_fine depth tree a h e = go depth (out-Yaml tree) refl h e
  where
    line : (most : ℕ) (t : List ℕ) → text_weight t ≡ most → when (not (has_nul t)) (Some (Line t)) ≡ Some a → IsLightProgram most a
    line most t m f =
        let (test, there) = when_found (not (has_nul t)) (Some (Line t)) a f in
        let is : Line t ≡ a = cc there in
        subst (IsLightProgram most) is (not-true (has_nul t) test, omega arith)

    words : (n : ℕ) (items : List Yaml) → Each (IsTree n) items → (all_texts items then words_in) ≡ Some a → IsLightProgram (total (weight n) items) a
    words n items k f =
        let (texts, read, found) = both_found (all_texts items) words_in a f in
        words_fine (total (weight n) items) texts a (all_texts_fine n items texts k read) found

    go : (n : ℕ) (l : Yaml-F Yaml Pair) → out-Yaml tree ≡ l → IsTree n tree
        → program_in l ≡ Some a
        → IsLightProgram (weight n tree) a
    go zero (Yaml-F.Scalar t) s k f = line (weight zero tree) t (ap (node_weight (λ _. 0)) (sym s)) f
    go zero (Yaml-F.Seq items) s k f = absurd (subst IsText s k)
    go zero (Yaml-F.Map pairs) s k f = cc f
    go (suc n) (Yaml-F.Scalar t) s k f = line (weight (suc n) tree) t (ap (node_weight (weight n)) (sym s)) f
    go (suc n) (Yaml-F.Seq items) s k f =
        subst (λ w. IsLightProgram w a) (ap (node_weight (weight n)) (sym s)) (words n items (subst (IsNode (IsTree n)) s k) f)
    go (suc n) (Yaml-F.Map pairs) s k f = cc f

-- ---- variables

-- what a variable weighs
abbrev pub variable_weight : EnvPair → ℕ
variable_weight v = text_weight v.name + text_weight v.text

variable_fine : (depth : ℕ) (p : Pair) (v : EnvPair) → variable_of p ≡ Some v → IsVariable v × (variable_weight v ≡ pair_weight (weight depth) p)
unfolding variable_of
variable_fine depth p v e =
    let (text, read, found) = both_found (text_of (value_of p)) _ v e in
    let made : EnvPair = record { name = name_of p; text = text } in
    let (test, there) = when_found (is_variable_name (name_of p) && not (has_nul text)) (Some made) v found in
    let (named, no_nul) = and_parts (is_variable_name (name_of p)) (not (has_nul text)) test in
    let (some, none) = and_parts (has_item (name_of p)) (not (list_any (λ b. b == 0 || b == 61) (name_of p))) named in
    let is : made ≡ v = cc there in
    let fine : IsVariable made = record { named = some_items (name_of p) some; name = not-true _ none; text = not-true (has_nul text) no_nul } in
    let weighs = text_weighs depth (value_of p) text read in
    let heavy : variable_weight made ≡ pair_weight (weight depth) p = omega arith in
    subst (λ (w : EnvPair). IsVariable w × (variable_weight w ≡ pair_weight (weight depth) p)) is (fine, heavy)

-- variables that weigh no more than so much
pub record AreVariables (most : ℕ) (vs : List EnvPair) : Type 0 where
  pub each : (v : EnvPair) → In v vs → IsVariable v
  pub light : total variable_weight vs ≤ most

all_fine : (depth : ℕ) (ps : List Pair) (vs : List EnvPair) → all_variables ps ≡ Some vs → AreVariables (total (pair_weight (weight depth)) ps) vs
all_fine depth [] vs e =
    let is : [] ≡ vs = cc e in
    subst (AreVariables 0) is (record { each = λ v i. absurd i; light = omega arith })
all_fine depth (p ∷ ps) vs e =
    let (v, a, e1) = both_found (variable_of p) _ vs e in
    let (others, b, e2) = both_found (all_variables ps) _ vs e1 in
    let is : (v ∷ others) ≡ vs = cc e2 in
    let rest = all_fine depth ps others b in
    let (fine, weighs) = variable_fine depth p v a in
    let light = rest.light in
    subst (AreVariables (pair_weight (weight depth) p + total (pair_weight (weight depth)) ps)) is (record {
      each = λ w i. elim i [ inl same ↦ subst IsVariable (sym same) fine | inr later ↦ rest.each w later ];
      light = omega arith;
    })

-- the variables of `env`
pub variables_fine : (depth : ℕ) (tree : Yaml) (vs : List EnvPair) → IsTree depth tree → variables_of tree ≡ Some vs
    → AreVariables (weight depth tree) vs
unfolding variables_of
variables_fine depth tree vs h e =
    let (ps, read, found) = both_found _ all_variables vs e in
    let below = pairs_below depth tree ps h read in
    subst (λ w. AreVariables w vs) below.weighs (all_fine below.below ps vs found)

-- ---- links and paths

-- the text of a link
pub record IsLink (most : ℕ) (text : List ℕ) : Type 0 where
  pub no_nul : has_nul text ≡ false
  pub light : length text ≤ most

-- the text of `contents`
pub link_fine : (depth : ℕ) (tree : Yaml) (text : List ℕ) → link_of tree ≡ Some text → IsLink (weight depth tree) text
unfolding link_of
link_fine depth tree text e =
    let (t, read, found) = both_found (text_of tree) _ text e in
    let (test, there) = when_found (has_item t && not (has_nul t)) (Some t) text found in
    let (some, none) = and_parts (has_item t) (not (has_nul t)) test in
    let is : t ≡ text = cc there in
    let weighs = text_weighs depth tree t read in
    subst (IsLink (weight depth tree)) is (record { no_nul = not-true (has_nul t) none; light = omega arith })

-- paths that weigh no more than so much
pub record ArePaths (most : ℕ) (paths : List (List ℕ)) : Type 0 where
  pub each : (p : List ℕ) → In p paths → IsPath p
  pub light : total text_weight paths ≤ most

-- the paths of texts weigh no more than these
pub paths_fine : (most : ℕ) (owner : List ℕ) (texts paths : List (List ℕ)) → AreTexts most texts → each (path_of owner) texts ≡ Ok paths
    → ArePaths most paths
paths_fine most owner texts paths fine e =
    let less = each_total (path_of owner) text_weight text_weight texts paths (λ t p r. (path_read owner t p r).1) e in
    let light = fine.light in
    record {
      each = λ p i. let (t, j, read) = each_given (path_of owner) texts paths e p i in (path_read owner t p read).0;
      light = omega arith;
    }
