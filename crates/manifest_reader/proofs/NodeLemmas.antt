-- The nodes of lists are names and paths, each read as it may be.
use Rattle.std.proofs.Common.{◌≡◌, ◌≤◌, ◌<◌, ℕ, suc, Bool, true, false, ◌||◌, List, [], ◌∷◌, length, cond, Option, None, Some, Ok, Err, refl, sym, subst, ap, ◌∙◌, arith}
use Rattle.std.specs.Prelude.{All, position, slice_get, nat_lt, ◌==◌}
use Rattle.std.specs.Option.{is_none, option_map, option_and_then}
use Rattle.std.proofs.lemmas.Grind.{common_steps}
use Rattle.std.proofs.lemmas.Bool.{and_parts, ltb-false}
use Rattle.std.proofs.lemmas.Bool.Decides.{nat_tests}
use Rattle.std.proofs.lemmas.List.Elements.{All-cons, All-nil}
use Rattle.file_info.specs.Lists.{In}
use Rattle.file_info.specs.Name.{IsName, is_control}
use Rattle.file_info.specs.NameFault.{name_fault}
use Rattle.file_info.specs.Normal.{IsPath}
use Rattle.file_info.specs.Path.{normal_form}
use Rattle.file_info.specs.PathFault.{path_fault}
use Rattle.file_info.specs.declared.name.NameError.TheVariants.{Empty, TooLong, Control}
use Rattle.file_info.specs.declared.path.PathError.TheVariants.{Empty as EmptyPath}
use Rattle.file_info.specs.declared.node.NodeName.{NodeName}
use Rattle.file_info.specs.declared.node.NodeName.TheVariants.{Path, Virtual}
use Rattle.file_info.proofs.FaultLemmas.{accepted-IsPath}
use Rattle.file_info.proofs.BoundLemmas.{length-normal_form}
use Rattle.file_info.proofs.Lists.{In-get}
use Rattle.build_manifest.specs.Command.{ArePatterns, IsRead, IsNode, is_virtual, text_weight}
use Rattle.build_manifest.specs.declared.command.Input.{Input}
use Rattle.build_manifest.specs.declared.command.InputForm.{InputForm}
use Rattle.build_manifest.specs.declared.command.InputForm.TheVariants as form
use Rattle.manifest_values.specs.declared.known.Entry.{Entry}
use Rattle.manifest_values.specs.declared.refusal.Refusal.TheVariants.{BadPath}
use Rattle.manifest_values.specs.Known.{Facts, is_virtual_text, entry_of}
use Rattle.manifest_values.specs.Nodes.{form_of, path_input, virtual_input, input_of, path_of}
use Rattle.manifest_values.specs.Texts.{is_name, is_path_text, has_slash}
use Rattle.manifest_reader.proofs.GivenLemmas.{test_given}

-- ---- names and paths

none_is : {A : Type 0} (o : Option A) → is_none o ≡ true → o ≡ None
none_is None e = refl
none_is (Some x) e = cc e

position_cons : {X : Type 0} (p : X → Bool) (x : X) (xs : List X) → position p (x ∷ xs) ≡ cond (p x) (Some 0) (option_map suc (position p xs))
position_cons p x xs = grind (arith, common_steps, nat_tests)

cond-none : (c : Bool) (o : Option ℕ) → cond c (Some 0) (option_map suc o) ≡ None → (c ≡ false) × (o ≡ None)
cond-none true o e = cc e
cond-none false None e = (refl, refl)
cond-none false (Some n) e = cc e

no_control : (text : List ℕ) → position is_control text ≡ None → All (λ b. is_control b ≡ false) text
no_control [] e = All-nil (λ b. is_control b ≡ false)
no_control (b ∷ text) e =
    let (here, later) = cond-none (is_control b) (position is_control text) (sym (position_cons is_control b text) ∙ e) in
    All-cons (λ b. is_control b ≡ false) b text here (no_control text later)

-- none of three faults
record NoFault (empty long : Bool) (control : Option ℕ) : Type 0 where
  not_empty : empty ≡ false
  not_long : long ≡ false
  no_control : control ≡ None

no_fault : (empty long : Bool) (control : Option ℕ) → cond empty (Some Empty) (cond long (Some TooLong) (option_map Control control)) ≡ None
    → NoFault empty long control
no_fault true long control e = cc e
no_fault false true control e = cc e
no_fault false false None e = record { not_empty = refl; not_long = refl; no_control = refl }
no_fault false false (Some n) e = cc e

some_bytes : (n : ℕ) → (n == 0) ≡ false → 0 < n
some_bytes n e = grind (arith, common_steps, nat_tests)

-- a text that is accepted as a name is one
pub accepted-IsName : (text : List ℕ) → is_name text ≡ true → IsName text
unfolding is_name
accepted-IsName text e =
    let (utf8, none) = and_parts _ (is_none (name_fault text)) e in
    let found = no_fault (length text == 0) (nat_lt 4096 (length text)) (position is_control text) (none_is (name_fault text) none) in
    record {
      not_empty = some_bytes (length text) found.not_empty;
      at_most = ltb-false 4096 (length text) found.not_long;
      no_control = no_control text found.no_control;
    }

-- the normal form of a text that is accepted as a path
pub path_text-IsPath : (text : List ℕ) → is_path_text text ≡ true → IsPath (normal_form text)
unfolding is_path_text
path_text-IsPath text e =
    let (utf8, none) = and_parts _ (is_none (path_fault text)) e in
    accepted-IsPath text (none_is (path_fault text) none)

cond-not : {A : Type 0} (c : Bool) (x : A) (o : Option A) → cond c (Some x) o ≡ None → c ≡ false
cond-not true x o e = cc e
cond-not false x o e = refl

-- a path weighs no more than its text
pub path_light : (text : List ℕ) → is_path_text text ≡ true → text_weight (normal_form text) ≤ text_weight text
unfolding is_path_text
path_light text e =
    let (utf8, none) = and_parts _ (is_none (path_fault text)) e in
    let not_empty : (length text == 0) ≡ false = cond-not (length text == 0) EmptyPath _ (none_is (path_fault text) none) in
    let shorter = length-normal_form text (some_bytes (length text) not_empty) in
    omega arith

-- what a path of a list keeps
pub path_read : (owner text path : List ℕ) → path_of owner text ≡ Ok path → IsPath path × (text_weight path ≤ text_weight text)
unfolding path_of
path_read owner text path e =
    let (test, there) = test_given (is_path_text text) _ (Ok (normal_form text)) path e in
    let is : normal_form text ≡ path = cc there in
    (subst IsPath is (path_text-IsPath text test), subst (λ p. text_weight p ≤ text_weight text) is (path_light text test))

-- ---- inputs

-- the patterns of each entry are such as they may be
abbrev pub AreEntries : Facts → Type 0
AreEntries facts = (e : Entry) → In e facts.entries → ArePatterns e.patterns

entry_found : (xs : List Entry) (o : Option ℕ) (e : Entry) → option_and_then (slice_get xs) o ≡ Some e → In e xs
entry_found xs None e h = cc h
entry_found xs (Some k) e h = In-get xs k e h

no_patterns : ArePatterns []
no_patterns = record { few = omega arith; utf8 = λ p i. absurd i; short = λ p i. absurd i }

-- a path is read as its entry says
form_read : (o : Option Entry) (slash : Bool) (path : List ℕ) → ((e : Entry) → o ≡ Some e → ArePatterns e.patterns) → IsPath path
    → IsRead (Path path) (form_of o slash)
form_read None true path patterns p = (p, no_patterns)
form_read None false path patterns p = p
form_read (Some e) slash path patterns p = go e.structure e.directory slash
  where
    go : (structure directory slash : Bool)
        → IsRead (Path path) (cond structure (form.Structure e.patterns) (cond (directory || slash) (form.Tree e.patterns) form.File))
    go true directory slash = (p, patterns e refl)
    go false true slash = (p, patterns e refl)
    go false false true = (p, patterns e refl)
    go false false false = p

-- a node is virtual, or a path
record HasNode (facts : Facts) (text : List ℕ) (i : Input) : Type 0 where
  name : is_name text ≡ true
  virtual : is_virtual_text facts text ≡ true → i ≡ virtual_input text
  path : is_virtual_text facts text ≡ false → (is_path_text text ≡ true) × (i ≡ path_input facts text)

has_node : (facts : Facts) (owner text : List ℕ) (i : Input) → input_of facts owner text ≡ Ok i → HasNode facts text i
unfolding input_of
has_node facts owner text i e =
    let (name, there) = test_given (is_name text) _ _ i e in
    go (is_virtual_text facts text) refl name there
  where
    go : (v : Bool) → is_virtual_text facts text ≡ v → is_name text ≡ true
        → cond v (Ok (virtual_input text)) (cond (is_path_text text) (Ok (path_input facts text)) (Err (BadPath owner text))) ≡ Ok i
        → HasNode facts text i
    go true is name there = record { name = name; virtual = λ h. cc there; path = λ h. cc (is, h) }
    go false is name there =
        let (path, found) = test_given (is_path_text text) (BadPath owner text) (Ok (path_input facts text)) i there in
        record { name = name; virtual = λ h. cc (is, h); path = λ h. (path, cc found) }

-- an input is read as it may be
pub input_read : (facts : Facts) (owner text : List ℕ) (i : Input) → AreEntries facts → input_of facts owner text ≡ Ok i → IsRead i.node i.form
input_read facts owner text i entries e = go (is_virtual_text facts text) refl
  where
    h : HasNode facts text i
    h = has_node facts owner text i e

    go : (v : Bool) → is_virtual_text facts text ≡ v → IsRead i.node i.form
    go true is = subst (λ (j : Input). IsRead j.node j.form) (sym (h.virtual is)) (accepted-IsName text h.name)
    go false is =
        let (path, found) = h.path is in
        subst (λ (j : Input). IsRead j.node j.form) (sym found)
        (form_read (entry_of facts (normal_form text) (has_slash text)) (has_slash text) (normal_form text)
        (λ x at. entries x (entry_found facts.entries _ x at)) (path_text-IsPath text path))

-- the node of a virtual node's text
pub input_virtual : (facts : Facts) (owner text : List ℕ) (i : Input) → is_virtual_text facts text ≡ true → input_of facts owner text ≡ Ok i
    → is_virtual i.node ≡ true
input_virtual facts owner text i v e = ap (λ (j : Input). is_virtual j.node) ((has_node facts owner text i e).virtual v)

-- what is read is a path or a virtual name
pub read_node : (n : NodeName) (f : InputForm) → IsRead n f → IsNode n
read_node (Path p) form.File h = h
read_node (Path p) form.Virtual h = absurd h
read_node (Path p) (form.Tree patterns) h = h.0
read_node (Path p) (form.Structure patterns) h = h.0
read_node (Virtual n) form.File h = absurd h
read_node (Virtual n) form.Virtual h = h
read_node (Virtual n) (form.Tree patterns) h = absurd h
read_node (Virtual n) (form.Structure patterns) h = absurd h
