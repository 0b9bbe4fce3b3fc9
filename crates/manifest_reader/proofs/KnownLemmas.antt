-- What is known of names, where the sections were checked: the patterns of entries, and the virtual outputs of commands.
use Rattle.std.proofs.Common.{◌≡◌, ℕ, Bool, true, false, not, ◌&&◌, ◌||◌, List, [], ◌∷◌, length, cond, Option, None, Some, Ok, Err, inl, inr, refl, sym, subst, ap, ◌∙◌, arith}
use Rattle.std.specs.Prelude.{bytes_eq, codes, nat_lt}
use Rattle.std.specs.List.{list_any, flat_map}
use Rattle.std.proofs.lemmas.Bool.{ltb-false, not-true}
use Rattle.std.proofs.lemmas.Slice.Eq.{bytes_eq-Decides}
use Rattle.file_info.specs.Lists.{In}
use Rattle.file_info.proofs.Lists.{In-left, In-right, In-either, In-one, any-in}
use Rattle.yaml_profile.specs.Tree.{name_of, value_of, IsTree}
use Rattle.yaml_profile.specs.declared.yaml.Yaml.{Yaml}
use Rattle.yaml_profile.specs.declared.yaml.Pair.{Pair}
use Rattle.build_manifest.specs.Command.{ArePatterns}
use Rattle.manifest_values.specs.declared.known.Entry.{Entry}
use Rattle.manifest_values.specs.declared.refusal.Refusal.TheVariants.{BadAttribute, UnknownAttribute, UnknownSection, SectionOrder, Limit}
use Rattle.manifest_values.specs.declared.refusal.Counted.TheVariants.{Patterns}
use Rattle.manifest_reader.specs.declared.sections.Parts.{Parts}
use Rattle.manifest_reader.specs.declared.sections.Section.TheVariants as section
use Rattle.manifest_values.specs.Known.{Facts, facts_of, is_virtual_text, is_virtual_in, pairs_or_none, texts_or_none, section_pairs, virtual_outputs, virtual_entry, virtuals_of, path_entry}
use Rattle.manifest_values.specs.Refusal.{◌>>=◌, given_or, each_within, fold}
use Rattle.manifest_values.specs.Shapes.{pairs_of, texts_of, flag_of, value_named}
use Rattle.manifest_values.specs.Texts.{is_path_text, is_angled}
use Rattle.manifest_values.specs.Texts.{is_name}
use Rattle.manifest_reader.specs.Sections.{pattern_checked, patterns_checked, is_node_flag, node_attribute_checked, entry_checked, nodes_checked, section_named, section_read, with_section, rank, no_parts}
use Rattle.manifest_reader.proofs.DraftLemmas.{AreKnown}
use Rattle.manifest_reader.proofs.GivenLemmas.{both_given, test_given, found_given, each_read, each_length, within_given, fold_takes}
use Rattle.manifest_reader.proofs.NodeLemmas.{AreEntries}
use Rattle.manifest_reader.proofs.RowLemmas.{nodes_section}
use Rattle.manifest_reader.proofs.ShapeLemmas.{texts_fine, ArePairs, pairs_below, named_in, named_is}

-- ---- lists

In-flat_map : {A B : Type 0} (f : A → List B) (y : B) (xs : List A) (x : A) → In x xs → In y (f x) → In y (flat_map f xs)
In-flat_map f y [] x i j = absurd i
In-flat_map f y (z ∷ xs) x (inl e) j = In-left y (f z) (flat_map f xs) (subst (λ w. In y (f w)) e j)
In-flat_map f y (z ∷ xs) x (inr i) j = In-right y (f z) (flat_map f xs) (In-flat_map f y xs x i j)

In-flat_map-back : {A B : Type 0} (f : A → List B) (y : B) (xs : List A) → In y (flat_map f xs) → (x : A) × In x xs × In y (f x)
In-flat_map-back f y [] i = absurd i
In-flat_map-back f y (x ∷ xs) i = elim (In-either y (f x) (flat_map f xs) i) [
  | inl here ↦ (x, inl refl, here)
  | inr later ↦ let (z, j, k) = In-flat_map-back f y xs later in (z, inr j, k)
]

-- ---- sections

-- the pair of a section, and the pairs of its value
pub record SectionPair (name : List ℕ) (pairs : List Pair) (q : Pair) : Type 0 where
  pub pair : Pair
  pub there : In pair pairs
  pub named : name_of pair ≡ name
  pub items : List Pair
  pub read : pairs_of (value_of pair) ≡ Some items
  pub item : In q items

-- a pair of a section stands in the value of a pair of its name
pub section_pair : (name : List ℕ) (pairs : List Pair) (q : Pair) → In q (section_pairs name pairs) → SectionPair name pairs q
section_pair name pairs q i = go (value_named name pairs) refl i
  where
    below : (v : Yaml) → value_named name pairs ≡ Some v → (o : Option (List Pair)) → pairs_of v ≡ o → In q (elim o [ None ↦ [] | Some ps ↦ ps ])
        → SectionPair name pairs q
    below v e None read j = absurd j
    below v e (Some ps) read j =
        let (p, there, named, is) = named_in name pairs v e in
        record { pair = p; there = there; named = named; items = ps; read = ap pairs_of is ∙ read; item = j }

    go : (o : Option Yaml) → value_named name pairs ≡ o → In q (pairs_or_none o) → SectionPair name pairs q
    go None e j = absurd j
    go (Some v) e j = below v e (pairs_of v) refl j

-- the pairs of a section, where no name stands twice
pub section_pairs-is : (pairs : List Pair) (depth : ℕ) → ArePairs depth pairs → (p : Pair) (name : List ℕ) (ps : List Pair) → In p pairs
    → name_of p ≡ name
    → pairs_of (value_of p) ≡ Some ps → section_pairs name pairs ≡ ps
section_pairs-is pairs depth fine p name ps i named read =
    let value : value_named name pairs ≡ Some (value_of p) =
    subst (λ n. value_named n pairs ≡ Some (value_of p)) named (named_is pairs fine.distinct p i) in
    ap pairs_or_none value ∙ ap (λ (o : Option (List Pair)). elim o [ None ↦ [] | Some qs ↦ qs ]) read

-- ---- patterns

patterns_there : (tree : Yaml) (texts : List (List ℕ)) → texts_of tree ≡ Some texts → ArePatterns texts → ArePatterns (texts_or_none (Some tree))
patterns_there tree texts read h = subst (λ o. ArePatterns (elim o [ None ↦ [] | Some ts ↦ ts ])) (sym read) h

-- the patterns of a node that was checked
patterns_fine : (depth : ℕ) (owner name : List ℕ) (tree : Yaml) (u : Unit {0}) → IsTree depth tree → patterns_checked owner name tree ≡ Ok u
    → ArePatterns (texts_or_none (Some tree))
unfolding patterns_checked
patterns_fine depth owner name tree u fine e =
    let (texts, read, e1) = found_given _ (texts_of tree) _ u e in
    let (done, all, last) = both_given (each_within 64 (Limit Patterns 64) (pattern_checked (BadAttribute owner name)) texts) _ u e1 in
    let (each, few) = within_given 64 _ (pattern_checked (BadAttribute owner name)) texts done all in
    let as_many = each_length (pattern_checked (BadAttribute owner name)) texts done each in
    let patterns : ArePatterns texts = record {
      few = omega arith;
      utf8 = (texts_fine depth tree texts fine read).utf8;
      short = λ p i.
          let (v, j, passed) = each_read (pattern_checked (BadAttribute owner name)) texts done each p i in
          let (test, rest) = test_given (not (nat_lt 255 (length p))) (BadAttribute owner name) (Ok tt) v passed in
          ltb-false 255 (length p) (not-true _ test);
    } in
    patterns_there tree texts read patterns

-- the patterns of an attribute that was checked
attribute_patterns : (depth : ℕ) (owner : List ℕ) (c d : Unit {0}) (p : Pair) → IsTree depth (value_of p)
    → name_of p ≡ codes "content-exclusion-patterns"
    → node_attribute_checked owner c p ≡ Ok d → ArePatterns (texts_or_none (Some (value_of p)))
unfolding node_attribute_checked
attribute_patterns depth owner c d p fine named e =
    let flag : is_node_flag (name_of p) ≡ false = ap is_node_flag named in
    let excluded : bytes_eq (name_of p) (codes "content-exclusion-patterns") ≡ true =
    (bytes_eq-Decides (name_of p) (codes "content-exclusion-patterns")).1 named in
    patterns_fine depth owner (name_of p) (value_of p) d fine (go _ _ flag excluded e)
  where
    go : (b x : Bool) → b ≡ false → x ≡ true
        → cond b (given_or (BadAttribute owner (name_of p)) (flag_of (value_of p)) >>= λ flag. Ok tt)
        (cond x (patterns_checked owner (name_of p) (value_of p)) (Err (UnknownAttribute owner (name_of p))))
        ≡ Ok d
        → patterns_checked owner (name_of p) (value_of p) ≡ Ok d
    go true x f g h = cc f
    go false true f g h = h
    go false false f g h = cc h

-- the patterns of an entry of `nodes` that was checked
entry_patterns : (facts : Facts) (depth : ℕ) (c d : Unit {0}) (q : Pair) → IsTree depth (value_of q) → entry_checked facts c q ≡ Ok d
    → ArePatterns (texts_or_none (value_named (codes "content-exclusion-patterns") (pairs_or_none (Some (value_of q)))))
unfolding entry_checked
entry_patterns facts depth c d q fine e =
    let (name, e1) = test_given (is_name (name_of q)) _ _ d e in
    let (ps, read, e2) = found_given _ (pairs_of (value_of q)) _ d e1 in
    let (path, all) = test_given (is_virtual_text facts (name_of q) || is_path_text (name_of q)) _ _ d e2 in
    let below = pairs_below depth (value_of q) ps fine read in
    let there : pairs_or_none (Some (value_of q)) ≡ ps = ap (λ (o : Option (List Pair)). elim o [ None ↦ [] | Some rs ↦ rs ]) read in
    subst (λ rs. ArePatterns (texts_or_none (value_named (codes "content-exclusion-patterns") rs))) (sym there)
    (go ps below.below below.fine all (value_named (codes "content-exclusion-patterns") ps) refl)
  where
    go : (ps : List Pair) (n : ℕ) → ArePairs n ps → fold (node_attribute_checked (name_of q)) tt ps ≡ Ok d → (o : Option Yaml)
        → value_named (codes "content-exclusion-patterns") ps ≡ o → ArePatterns (texts_or_none o)
    go ps n pairs all None found = record { few = omega arith; utf8 = λ p i. absurd i; short = λ p i. absurd i }
    go ps n pairs all (Some v) found =
        let (p, i, named, is) = named_in (codes "content-exclusion-patterns") ps v found in
        let (c, d, done) = fold_takes (node_attribute_checked (name_of q)) tt ps d all p i in
        subst (λ w. ArePatterns (texts_or_none (Some w))) is (attribute_patterns n (name_of q) c d p (pairs.values p i) named done)

-- an entry has the patterns of its pair
path_entry-patterns : (virtuals : List (List ℕ)) (q : Pair) (e : Entry) → In e (path_entry virtuals q)
    → e.patterns ≡ texts_or_none (value_named (codes "content-exclusion-patterns") (pairs_or_none (Some (value_of q))))
path_entry-patterns virtuals q e i = go (not (is_virtual_in virtuals (name_of q)) && is_path_text (name_of q)) _ refl i
  where
    go : (b : Bool) (made : Entry)
        → made.patterns ≡ texts_or_none (value_named (codes "content-exclusion-patterns") (pairs_or_none (Some (value_of q))))
        → In e (cond b (made ∷ []) [])
        → e.patterns ≡ texts_or_none (value_named (codes "content-exclusion-patterns") (pairs_or_none (Some (value_of q))))
    go true made same j = ap (λ (x : Entry). x.patterns) (In-one j) ∙ same
    go false made same j = absurd j

-- ---- where all sections were read

nodes_read : (facts : Facts) (c d : Parts) (p : Pair) → name_of p ≡ codes "nodes" → section_read facts c p ≡ Ok d
    → (u : Unit {0}) × (nodes_checked facts (value_of p) ≡ Ok u)
unfolding section_read
nodes_read facts c d p named e =
    let (s, found, e1) = found_given (UnknownSection (name_of p)) (section_named (name_of p)) _ d e in
    let (order, e2) = test_given (not (nat_lt (rank s) c.rank)) (SectionOrder (name_of p)) _ d e1 in
    let nodes : section_named (name_of p) ≡ Some section.Nodes = subst (λ n. section_named n ≡ Some section.Nodes) (sym named) nodes_section in
    let is : s ≡ section.Nodes = cc (found, nodes) in
    let read : with_section facts (record c { rank = rank section.Nodes }) section.Nodes (value_of p) ≡ Ok d =
    subst (λ t. with_section facts (record c { rank = rank t }) t (value_of p) ≡ Ok d) is e2 in
    let (u, checked, last) = both_given (nodes_checked facts (value_of p)) _ d read in
    (u, checked)

entries_read : (facts : Facts) (tree : Yaml) (ps : List Pair) (u : Unit {0}) → pairs_of tree ≡ Some ps → nodes_checked facts tree ≡ Ok u
    → fold (entry_checked facts) tt ps ≡ Ok u
unfolding nodes_checked
entries_read facts tree ps u read e =
    let (qs, again, all) = found_given _ (pairs_of tree) _ u e in
    let same : qs ≡ ps = cc (again, read) in
    subst (λ rs. fold (entry_checked facts) tt rs ≡ Ok u) same all

-- the patterns of each entry are such as they may be, where all sections were read
pub entries_fine : (pairs : List Pair) (depth : ℕ) (parts : Parts) → ArePairs depth pairs
    → fold (section_read (facts_of pairs)) no_parts pairs ≡ Ok parts → AreEntries (facts_of pairs)
unfolding facts_of
entries_fine pairs depth parts fine all e there =
    let (q, i, made) = In-flat_map-back (path_entry (virtuals_of pairs)) e (section_pairs (codes "nodes") pairs) there in
    let s = section_pair (codes "nodes") pairs q i in
    let (c, d, read) = fold_takes (section_read (facts_of pairs)) no_parts pairs parts all s.pair s.there in
    let (u, checked) = nodes_read (facts_of pairs) c d s.pair s.named read in
    let entries = entries_read (facts_of pairs) (value_of s.pair) s.items u s.read checked in
    let (v, w, entry) = fold_takes (entry_checked (facts_of pairs)) tt s.items u entries q s.item in
    let below = pairs_below depth (value_of s.pair) s.items (fine.values s.pair s.there) s.read in
    let items = below.fine in
    subst ArePatterns (sym (path_entry-patterns (virtuals_of pairs) q e made))
    (entry_patterns (facts_of pairs) below.below v w q (items.values q s.item) entry)

-- the virtual outputs of a command are known
pub outputs_known : (pairs : List Pair) (p : Pair) → In p (section_pairs (codes "commands") pairs) → AreKnown (facts_of pairs) p
unfolding facts_of
outputs_known pairs p i text there =
    let among : In text (virtuals_of pairs) =
    In-left text (flat_map virtual_outputs (section_pairs (codes "commands") pairs)) (flat_map virtual_entry (section_pairs (codes "nodes") pairs))
    (In-flat_map virtual_outputs text (section_pairs (codes "commands") pairs) p i there) in
    last (is_angled text) (any-in (bytes_eq text) (virtuals_of pairs) text among ((bytes_eq-Decides text text).1 refl))
  where
    last : (b : Bool) → list_any (bytes_eq text) (virtuals_of pairs) ≡ true → (b || list_any (bytes_eq text) (virtuals_of pairs)) ≡ true
    last true h = refl
    last false h = h
