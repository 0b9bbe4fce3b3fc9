-- A command of a manifest, read alone, is such as it may be.
use Rattle.std.proofs.Common.{◌≡◌, ◌≤◌, ℕ, ◌+◌, true, false, List, [], cond, Option, None, Some, Ok, sym, subst, ap, ◌∙◌, arith}
use Rattle.std.specs.Prelude.{bytes_eq, codes}
use Rattle.std.proofs.lemmas.Bool.{or_left, or_right}
use Rattle.std.proofs.lemmas.Slice.Eq.{bytes_eq-Decides}
use Rattle.file_info.specs.Lists.{In}
use Rattle.yaml_profile.specs.Tree.{name_of, value_of, IsTree}
use Rattle.yaml_profile.specs.Weight.{total, pair_weight, weight}
use Rattle.yaml_profile.specs.declared.yaml.Yaml.{Yaml}
use Rattle.yaml_profile.specs.declared.yaml.Pair.{Pair}
use Rattle.build_manifest.specs.Command.{bare_command, IsCommand, own_weight}
use Rattle.build_manifest.specs.declared.command.Tool.{Tool}
use Rattle.build_manifest.specs.declared.command.Tool.TheVariants.{Phony, Shell, Mkdir, Symlink, Archive, StaleFileRemoval}
use Rattle.build_manifest.specs.declared.draft.Draft.{Draft}
use Rattle.manifest_reader.specs.Commands.{bare_draft, taken, tool_of, finished, draft_of}
use Rattle.manifest_values.specs.Known.{Facts, is_virtual_text, pairs_or_none, texts_or_none, says, makes_virtual, is_scalar, virtual_outputs}
use Rattle.manifest_values.specs.Refusal.{fold}
use Rattle.manifest_reader.specs.Rows.{attribute_of, tool_named}
use Rattle.manifest_values.specs.Shapes.{◌then◌, text_of, pairs_of, texts_of, value_named}
use Rattle.manifest_values.specs.Texts.{is_name}
use Rattle.manifest_reader.proofs.GivenLemmas.{both_given, test_given, found_given, there_given, fold_keeps, fold_total}
use Rattle.manifest_reader.proofs.NodeLemmas.{AreEntries}
use Rattle.manifest_reader.proofs.OwnLemmas.{finished_is, own_finished}
use Rattle.manifest_reader.proofs.PutLemmas.{IsSoFar, bare_so_far, put_keeps}
use Rattle.manifest_reader.proofs.PutWeightLemmas.{put_weighs}
use Rattle.manifest_reader.proofs.RowLemmas.{makes_nothing, attribute_has, outputs_named, phony_named, removal_named}
use Rattle.manifest_reader.proofs.ShapeLemmas.{pairs_below, ArePairs, named_is}

-- ---- virtual outputs

says_there : (found : Option Yaml) (text wanted : List ℕ) → (found then text_of) ≡ Some text → text ≡ wanted
    → elim found [ None ↦ false | Some tree ↦ is_scalar wanted tree ] ≡ true
says_there None text wanted e same = cc e
says_there (Some tree) text wanted e same =
    ap (λ (o : Option (List ℕ)). elim o [ None ↦ false | Some t ↦ bytes_eq t wanted ]) e ∙ (bytes_eq-Decides text wanted).1 same

says_text : (name text wanted : List ℕ) (pairs : List Pair) → (value_named name pairs then text_of) ≡ Some text → text ≡ wanted
    → says name wanted pairs ≡ true
says_text name text wanted pairs e same = says_there (value_named name pairs) text wanted e same

makes_by : (t : Tool) (text : List ℕ) (pairs : List Pair) → makes_nothing t ≡ true → tool_named text ≡ Some t
    → (value_named (codes "tool") pairs then text_of) ≡ Some text
    → makes_virtual pairs ≡ true
makes_by Phony text pairs h named there = or_left _ _ (says_text (codes "tool") text (codes "phony") pairs there (phony_named text named))
makes_by Shell text pairs h named there = cc h
makes_by Mkdir text pairs h named there = cc h
makes_by Symlink text pairs h named there = cc h
makes_by Archive text pairs h named there = cc h
makes_by StaleFileRemoval text pairs h named there =
    or_right _ _ (says_text (codes "tool") text (codes "stale-file-removal") pairs there (removal_named text named))

-- a command whose tool makes no file says so by the name of its tool
tool_says : (name : List ℕ) (pairs : List Pair) (t : Tool) → tool_of name pairs ≡ Ok t → makes_nothing t ≡ true → makes_virtual pairs ≡ true
unfolding tool_of
tool_says name pairs t e h =
    let (text, there, named) = found_given _ (value_named (codes "tool") pairs then text_of) _ t e in
    makes_by t text pairs h (there_given _ (tool_named text) t named) there

pairs_there : (p : Pair) (pairs : List Pair) → pairs_of (value_of p) ≡ Some pairs → pairs_or_none (Some (value_of p)) ≡ pairs
pairs_there p pairs e = ap (λ (o : Option (List Pair)). elim o [ None ↦ [] | Some ps ↦ ps ]) e

texts_there : (tree : Yaml) (texts : List (List ℕ)) → texts_of tree ≡ Some texts → texts_or_none (Some tree) ≡ texts
texts_there tree texts e = ap (λ (o : Option (List (List ℕ))). elim o [ None ↦ [] | Some ts ↦ ts ]) e

-- the texts of `outputs` are the virtual outputs, where the tool makes no file
outputs_are : (p q : Pair) (name : List ℕ) (depth : ℕ) (pairs : List Pair) (t : Tool) (texts : List (List ℕ)) → pairs_of (value_of p) ≡ Some pairs
    → ArePairs depth pairs
    → tool_of name pairs ≡ Ok t → makes_nothing t ≡ true → In q pairs → name_of q ≡ codes "outputs" → texts_of (value_of q) ≡ Some texts
    → virtual_outputs p ≡ texts
outputs_are p q name depth pairs t texts read fine tool none i named found =
    let of_pairs = λ (ps : List Pair). cond (makes_virtual ps) (texts_or_none (value_named (codes "outputs") ps)) [] in
    let first : virtual_outputs p ≡ of_pairs pairs = ap of_pairs (pairs_there p pairs read) in
    let second : of_pairs pairs ≡ texts_or_none (value_named (codes "outputs") pairs) =
    ap (λ b. cond b (texts_or_none (value_named (codes "outputs") pairs)) []) (tool_says name pairs t tool none) in
    let value : value_named (codes "outputs") pairs ≡ Some (value_of q) =
    subst (λ n. value_named n pairs ≡ Some (value_of q)) named (named_is pairs fine.distinct q i) in
    first ∙ (second ∙ (ap texts_or_none value ∙ texts_there (value_of q) texts found))

-- ---- the attributes

-- the virtual outputs of the command are known
abbrev pub AreKnown : Facts → Pair → Type 0
AreKnown facts p = (text : List ℕ) → In text (virtual_outputs p) → is_virtual_text facts text ≡ true

taken_keeps : (facts : Facts) (p q : Pair) (name : List ℕ) (depth : ℕ) (pairs : List Pair) (t : Tool) (d e : Draft) → AreEntries facts
    → AreKnown facts p
    → pairs_of (value_of p) ≡ Some pairs → ArePairs depth pairs → tool_of name pairs ≡ Ok t → In q pairs → IsSoFar name t d.command
    → taken facts d q ≡ Ok e
    → IsSoFar name t e.command
unfolding taken
taken_keeps facts p q name depth pairs t d e entries known read fine tool i h given =
    let (a, found, new) = found_given _ (attribute_of d.command.tool (name_of q)) _ e given in
    let of_tool : attribute_of t (name_of q) ≡ Some a = subst (λ s. attribute_of s (name_of q) ≡ Some a) h.tool found in
    put_keeps facts name t d e a depth (value_of q) entries (fine.values q i) (attribute_has t (name_of q) a of_tool)
    (λ is none texts there text j.
    let named = outputs_named t (name_of q) (subst (λ b. attribute_of t (name_of q) ≡ Some b) is of_tool) in
    known text (subst (In text) (sym (outputs_are p q name depth pairs t texts read fine tool none i named there)) j))
    h new

taken_weighs : (facts : Facts) (depth : ℕ) (q : Pair) (d e : Draft) → IsTree depth (value_of q) → taken facts d q ≡ Ok e
    → own_weight e.command ≤ own_weight d.command + pair_weight (weight depth) q
unfolding taken
taken_weighs facts depth q d e fine given =
    let (a, found, new) = found_given _ (attribute_of d.command.tool (name_of q)) _ e given in
    let more = put_weighs facts d e a depth (value_of q) fine new in
    omega arith

-- ---- the command

-- a command of a manifest by its own name
pub record IsDraft (p : Pair) (d : Draft) : Type 0 where
  pub named : d.command.name ≡ name_of p
  pub fine : IsCommand d.command

-- a command that is read alone is such as it may be
pub draft_fine : (facts : Facts) (depth : ℕ) (p : Pair) (d : Draft) → AreEntries facts → AreKnown facts p → IsTree depth (value_of p)
    → weight depth (value_of p) ≤ 67108865
    → draft_of facts p ≡ Ok d → IsDraft p d
unfolding draft_of
draft_fine facts depth p d entries known tree light e =
    let (name, e1) = test_given (is_name (name_of p)) _ _ d e in
    let (pairs, read, e2) = found_given _ (pairs_of (value_of p)) _ d e1 in
    let (t, tool, e3) = both_given (tool_of (name_of p) pairs) _ d e2 in
    let (last, all, done) = both_given (fold (taken facts) (bare_draft (name_of p) t) pairs) finished d e3 in
    let b = pairs_below depth (value_of p) pairs tree read in
    let fine = b.fine in
    let so_far : IsSoFar (name_of p) t last.command =
    fold_keeps (λ (x : Draft). IsSoFar (name_of p) t x.command) (taken facts) (bare_draft (name_of p) t) pairs last
    (λ x y q i h given. taken_keeps facts p q (name_of p) b.below pairs t x y entries known read fine tool i h given)
    (bare_so_far (name_of p) t) all in
    let weighs : own_weight last.command ≤ own_weight (bare_command (name_of p) t) + total (pair_weight (weight b.below)) pairs =
    fold_total (λ (x : Draft). own_weight x.command) (pair_weight (weight b.below)) (taken facts) (bare_draft (name_of p) t) pairs last
    (λ x y q i given. taken_weighs facts b.below q x y (fine.values q i) given) all in
    let heavy = b.weighs in
    let bound : own_weight last.command ≤ 67108865 = omega arith in
    let command : IsCommand last.command = record {
      few_nodes = so_far.few_nodes;
      few_outputs = so_far.few_outputs;
      few_deps = so_far.few_deps;
      inputs = so_far.inputs;
      follow = so_far.follow;
      outputs = so_far.outputs;
      own = own_finished last d (name_of p) t so_far done;
      light = bound;
    } in
    subst (IsDraft p) (finished_is last d done).is (record { named = so_far.named; fine = command })
