-- The tests of what is built, and what they say.
use Rattle.std.proofs.Common.{◌≡◌, ◌≤◌, ◌+◌, ℕ, Bool, true, false, not, ◌&&◌, List, [], ◌∷◌, drop, nat_le, refl, sym, ap, ◌∙◌, subst, inl, inr, arith, rules}
use Rattle.std.specs.Prelude.{◌↔◌, IsTrue, Option, Some, None}
use Rattle.std.specs.List.{list_all}
use Rattle.std.specs.Option.{is_none}
use Rattle.std.proofs.lemmas.Bool.Decides.{nat_tests}
use Rattle.file_info.specs.Content.{node_text}
use Rattle.file_info.specs.Lists.{In}
use Rattle.file_info.proofs.Lists.{In-index, In-drop-get, get-drop}
use Rattle.file_info.specs.declared.node.NodeName.{NodeName}
use Rattle.file_info.specs.declared.node.NodeName.TheVariants as node
use Rattle.build_manifest.specs.declared.command.Command.{Command}
use Rattle.build_manifest.specs.declared.command.Input.{Input}
use Rattle.build_manifest.specs.declared.command.InputForm.{InputForm}
use Rattle.build_manifest.specs.declared.command.InputForm.TheVariants as form
use Rattle.build_manifest.specs.declared.command.Tool.{Tool}
use Rattle.build_manifest.specs.declared.command.Tool.TheVariants as tools
use Rattle.build_manifest.specs.Manifest.{IsManifest, ManifestLists}
use Rattle.build_manifest.specs.Places.{maker_of}
use Rattle.build_meaning.proofs.MakerLemmas.{maker_makes, maker_at}
use Rattle.build_meaning.proofs.OrderlyLemmas.{made_path, path_made}
use Rattle.build_plan.specs.Built.{IsFileNode, IsFileInput, IsMadeLater, IsPlain}
use Rattle.build_plan.specs.Plain.{is_file_node, is_file_form, is_file_input, is_shell, has_none, has_plain_nodes, has_plain_program, has_plain_flags, is_plain, is_from}

-- a test of emptiness
pub none_test : {A : Type 0} (b : Bool) (xs : List A) → IsTrue b ↔ (xs ≡ []) → b ≡ has_none xs
none_test true [] e = refl
none_test true (x ∷ xs) e = let no = e.0 refl in cc no
none_test false [] e = let no = e.1 refl in cc no
none_test false (x ∷ xs) e = refl

both : (a b : Bool) → (a && b) ≡ true → (a ≡ true) × (b ≡ true)
both true b e = (refl, e)
both false b e = absurd (search (rules))

together : (a b : Bool) → a ≡ true → b ≡ true → (a && b) ≡ true
together a b e f = ap (λ (c : Bool). c && b) e ∙ f

all_in : {A : Type 0} (p : A → Bool) (xs : List A) (x : A) → In x xs → list_all p xs ≡ true → p x ≡ true
all_in p [] x i e = absurd i
all_in p (y ∷ xs) x (inl same) e = ap p same ∙ (both (p y) (list_all p xs) e).0
all_in p (y ∷ xs) x (inr i) e = all_in p xs x i (both (p y) (list_all p xs) e).1

all_of : {A : Type 0} (p : A → Bool) (xs : List A) → ((x : A) → In x xs → p x ≡ true) → list_all p xs ≡ true
all_of p [] h = refl
all_of p (x ∷ xs) h = together (p x) (list_all p xs) (h x (inl refl)) (all_of p xs (λ y i. h y (inr i)))

-- where not all pass there is one that does not
pub one_fails : {A : Type 0} (p : A → Bool) (xs : List A) → list_all p xs ≡ false → (x : A) × In x xs × (p x ≡ false)
one_fails p [] e = cc e
one_fails {A} p (x ∷ xs) e = go (p x) refl e (one_fails p xs)
  where
    go : (b : Bool) → p x ≡ b → (b && list_all p xs) ≡ false → (list_all p xs ≡ false → (y : A) × In y xs × (p y ≡ false))
        → (y : A) × In y (x ∷ xs) × (p y ≡ false)
    go true same f more = let (y, i, g) = more f in (y, inr i, g)
    go false same f more = (x, inl refl, same)

node_is : (n : NodeName) → is_file_node n ≡ true → IsFileNode n
node_is (node.Path p) e = record { path = p; is = refl }
node_is (node.Virtual n) e = cc e

is_node : (n : NodeName) → IsFileNode n → is_file_node n ≡ true
is_node n f = ap is_file_node f.is

form_is : (f : InputForm) → is_file_form f ≡ true → f ≡ form.File
form_is form.File e = refl
form_is form.Virtual e = cc e
form_is (form.Tree p) e = cc e
form_is (form.Structure p) e = cc e

shell_is : (t : Tool) → is_shell t ≡ true → t ≡ tools.Shell
shell_is tools.Phony e = cc e
shell_is tools.Shell e = refl
shell_is tools.Mkdir e = cc e
shell_is tools.Symlink e = cc e
shell_is tools.Archive e = cc e
shell_is tools.StaleFileRemoval e = cc e

none_is : {A : Type 0} (xs : List A) → has_none xs ≡ true → xs ≡ []
none_is [] e = refl
none_is (x ∷ xs) e = cc e

no_value : {A : Type 0} (o : Option A) → is_none o ≡ true → o ≡ None
no_value None e = refl
no_value (Some x) e = cc e

not_is : (b : Bool) → not b ≡ true → b ≡ false
not_is true e = cc e
not_is false e = refl

-- an input that passes is a file
pub input_is : (i : Input) → is_file_input i ≡ true → IsFileInput i
input_is i e =
    let parts = both (is_file_node i.node) (is_file_form i.form) e in
    record { node = node_is i.node parts.0; form = form_is i.form parts.1 }

-- and a file passes
pub is_input : (i : Input) → IsFileInput i → is_file_input i ≡ true
is_input i f = together (is_file_node i.node) (is_file_form i.form) (is_node i.node f.node) (ap is_file_form f.form)

-- inputs that all pass are files
pub inputs_are : (is : List Input) → list_all is_file_input is ≡ true → (i : Input) → In i is → IsFileInput i
inputs_are is e i among = input_is i (all_in is_file_input is i among e)

-- a command that passes is plain
plain_is : (c : Command) → is_plain c ≡ true → IsPlain c
plain_is c e =
    let last = both (has_plain_nodes c && has_plain_program c) (has_plain_flags c) e in
    let first = both (has_plain_nodes c) (has_plain_program c) last.0 in
    let outputs = both (is_shell c.tool && list_all is_file_input c.inputs && has_none c.follow) (list_all is_file_node c.outputs) first.0 in
    let follow = both (is_shell c.tool && list_all is_file_input c.inputs) (has_none c.follow) outputs.0 in
    let tool = both (is_shell c.tool) (list_all is_file_input c.inputs) follow.0 in
    let signature = both (has_none c.env && c.inherit_env && has_none c.deps) (is_none c.signature) first.1 in
    let deps = both (has_none c.env && c.inherit_env) (has_none c.deps) signature.0 in
    let env = both (has_none c.env) c.inherit_env deps.0 in
    let flags = both (not c.allow_missing) (not c.always) last.1 in
    record {
      tool = shell_is c.tool tool.0;
      inputs = inputs_are c.inputs tool.1;
      follow = none_is c.follow follow.1;
      outputs = λ n o. node_is n (all_in is_file_node c.outputs n o outputs.1);
      env = none_is c.env env.0;
      inherit_env = env.1;
      deps = none_is c.deps deps.1;
      signature = no_value c.signature signature.1;
      allow_missing = not_is c.allow_missing flags.0;
      always = not_is c.always flags.1;
    }

-- and a plain command passes
is_plain_command : (c : Command) → IsPlain c → is_plain c ≡ true
is_plain_command c p =
    let inputs = all_of is_file_input c.inputs (λ i n. is_input i (p.inputs i n)) in
    let outputs = all_of is_file_node c.outputs (λ n o. is_node n (p.outputs n o)) in
    let nodes : has_plain_nodes c ≡ true =
    together (is_shell c.tool && list_all is_file_input c.inputs && has_none c.follow) (list_all is_file_node c.outputs)
    (together (is_shell c.tool && list_all is_file_input c.inputs) (has_none c.follow)
    (together (is_shell c.tool) (list_all is_file_input c.inputs) (ap is_shell p.tool) inputs) (ap has_none p.follow)) outputs in
    let program : has_plain_program c ≡ true =
    together (has_none c.env && c.inherit_env && has_none c.deps) (is_none c.signature)
    (together (has_none c.env && c.inherit_env) (has_none c.deps)
    (together (has_none c.env) c.inherit_env (ap has_none p.env) p.inherit_env) (ap has_none p.deps))
    (ap is_none p.signature) in
    let flags : has_plain_flags c ≡ true = together (not c.allow_missing) (not c.always) (ap not p.allow_missing) (ap not p.always) in
    together (has_plain_nodes c && has_plain_program c) (has_plain_flags c) (together (has_plain_nodes c) (has_plain_program c) nodes program) flags

-- the test says whether the command is plain
pub plain_test : (c : Command) (b : Bool) → b ≡ is_plain c → IsTrue b ↔ IsPlain c
plain_test c b is = ((λ e. plain_is c (sym is ∙ e)), (λ plain. is ∙ is_plain_command c plain))

file_path : (i : Input) → IsFileInput i → i.node ≡ node.Path (node_text i.node)
file_path i f = f.node.is ∙ ap (λ (n : NodeName). node.Path (node_text n)) (sym f.node.is)

made_later : (m : ManifestLists) → IsManifest m → (k : ℕ) (i : Input) → IsFileInput i → IsMadeLater m.commands k i
    → (j : ℕ) × (k ≤ j) × (maker_of m.commands i.node ≡ Some j)
made_later m h k i f made =
    let (j, at) = In-index made.by (drop k m.commands) made.named in
    let there = get-drop m.commands k j made.by at in
    let o = subst (λ n. In n made.by.outputs) (sym (file_path i f)) (made_path made.by (node_text i.node) made.output) in
    (k + j, omega arith, maker_at m h i.node (k + j) made.by there o)

later_made : (m : ManifestLists) → (k j : ℕ) (i : Input) → IsFileInput i → k ≤ j → maker_of m.commands i.node ≡ Some j
    → IsMadeLater m.commands k i
later_made m k j i f late is =
    let (e, at, o) = maker_makes m.commands i.node j is in
    let output = path_made e (node_text i.node) (subst (λ n. In n e.outputs) (file_path i f) o) in
    record { by = e; named = In-drop-get m.commands k j e at late; output = output }

-- a test of a maker's place says whether the file is made there or later
pub later_test : (m : ManifestLists) → IsManifest m → (k : ℕ) (i : Input) → IsFileInput i → (b : Bool)
    → b ≡ is_from k (maker_of m.commands i.node) → IsTrue b ↔ IsMadeLater m.commands k i
later_test m h k i f b is = ((λ e. go (maker_of m.commands i.node) refl (sym is ∙ e)), back)
  where
    go : (o : Option ℕ) → maker_of m.commands i.node ≡ o → is_from k o ≡ true → IsMadeLater m.commands k i
    go None at e = cc e
    go (Some j) at e = later_made m k j i f (grind (arith, nat_tests)) at

    back : IsMadeLater m.commands k i → b ≡ true
    back made =
        let (j, late, at) = made_later m h k i f made in
        let from : nat_le k j ≡ true = grind (arith, nat_tests) in
        is ∙ ap (is_from k) at ∙ from
