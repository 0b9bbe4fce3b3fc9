-- How long a signature is at most.
use Rattle.std.proofs.Common.{◌≡◌, ◌≤◌, ◌<◌, ◌+◌, ◌*◌, ◌^◌, ℕ, Bool, true, false, List, [], ◌∷◌, ◌++◌, length, map, refl, ap, ◌∙◌, inl, inr, arith, length-append}
use Rattle.std.specs.Prelude.{Option, Some, None}
use Rattle.file_info.specs.Lists.{In}
use Rattle.file_info.specs.Normal.{IsPath}
use Rattle.file_info.specs.declared.node.NodeName.{NodeName}
use Rattle.file_info.specs.declared.node.NodeName.TheVariants as node
use Rattle.spelling.specs.Spelling.{count_bytes, flag_bytes, text_bytes, items_bytes, list_bytes, node_bytes}
use Rattle.spelling.proofs.SplitLemmas.{count-length}
use Rattle.spelling.proofs.ItemLemmas.{items-map}
use Rattle.yaml_profile.specs.Weight.{total}
use Rattle.outside.specs.Meaning.{key_bytes, env_bytes, tool_bytes, signature_of}
use Rattle.build_manifest.specs.declared.command.Args.{Args}
use Rattle.build_manifest.specs.declared.command.Args.TheVariants.{Absent, Words, Line}
use Rattle.build_manifest.specs.declared.command.Command.{Command}
use Rattle.build_manifest.specs.declared.command.EnvPair.{EnvPair}
use Rattle.build_manifest.specs.declared.command.Input.{Input}
use Rattle.build_manifest.specs.declared.command.InputForm.{InputForm}
use Rattle.build_manifest.specs.declared.command.InputForm.TheVariants as form
use Rattle.build_manifest.specs.declared.command.TargetEntry.{TargetEntry}
use Rattle.build_manifest.specs.declared.command.Tool.{Tool}
use Rattle.build_manifest.specs.declared.command.Tool.TheVariants as tools
use Rattle.build_manifest.specs.Command.{ArePatterns, IsRead, AreInputs, IsNode, HasItsOwn, text_weight, args_weight, signature_weight, own_weight, IsCommand, IsTarget}
use Rattle.build_meaning.specs.Commands.{key_in, key_of, variable_of, program_of, shell_of, tool_in, meaning_of}

-- ---- lists of which each item is short

text_length : (t : List ℕ) → length (text_bytes t) ≡ 4 + length t
text_length t = length-append (count_bytes (length t)) t ∙ ap (λ n. n + length t) (count-length (length t))

-- so many items, each at most so long
items_short : {A : Type 0} (f : A → List ℕ) (most : ℕ) (xs : List A) → ((x : A) → In x xs → length (f x) ≤ most)
    → length (items_bytes f xs) ≤ length xs * most
items_short f most [] h = omega arith
items_short f most (x ∷ xs) h =
    let first = h x (inl refl) in
    let rest = items_short f most xs (λ y i. h y (inr i)) in
    let both = length-append (f x) (items_bytes f xs) in
    omega arith

-- a list of at most so many items, each at most so long
list_short : {A : Type 0} (f : A → List ℕ) (many most all : ℕ) (xs : List A) → length xs ≤ many → many * most ≡ all
    → ((x : A) → In x xs → length (f x) ≤ most) → length (list_bytes f xs) ≤ 4 + all
list_short f many most all xs few product h =
    let items = items_short f most xs h in
    let whole = length-append (count_bytes (length xs)) (items_bytes f xs) in
    let count = count-length (length xs) in
    grind arith

-- a list whose items are at most four times as long as what they weigh
items_light : {A : Type 0} (f : A → List ℕ) (g : A → ℕ) (xs : List A) → ((x : A) → length (f x) ≤ 4 * g x)
    → length (items_bytes f xs) ≤ 4 * total g xs
items_light f g [] h = omega arith
items_light f g (x ∷ xs) h =
    let first = h x in
    let rest = items_light f g xs h in
    let both = length-append (f x) (items_bytes f xs) in
    omega arith

list_light : {A : Type 0} (f : A → List ℕ) (g : A → ℕ) (xs : List A) → ((x : A) → length (f x) ≤ 4 * g x)
    → length (list_bytes f xs) ≤ 4 + 4 * total g xs
list_light f g xs h =
    let items = items_light f g xs h in
    let whole = length-append (count_bytes (length xs)) (items_bytes f xs) in
    let count = count-length (length xs) in
    omega arith

text_light : (t : List ℕ) → length (text_bytes t) ≤ 4 * text_weight t
text_light t = let whole = text_length t in omega arith

texts_light : (ts : List (List ℕ)) → length (list_bytes text_bytes ts) ≤ 4 + 4 * total text_weight ts
texts_light ts = list_light text_bytes text_weight ts text_light

-- ---- keys and nodes

path_short : (p : List ℕ) → IsPath p → length (text_bytes p) ≤ 4100
path_short p h = let whole = text_length p in let most = h.at_most in omega arith

patterns_short : (ps : List (List ℕ)) → ArePatterns ps → length (list_bytes text_bytes ps) ≤ 16580
patterns_short ps h = list_short text_bytes 64 259 16576 ps h.few refl (λ p i. let whole = text_length p in let most = h.short p i in omega arith)

key_short : (n : NodeName) (f : InputForm) → IsRead n f → length (key_bytes (key_in n f)) ≤ 20681
key_short (node.Path p) form.File h = let path = path_short p h in omega arith
key_short (node.Path p) form.Virtual h = absurd h
key_short (node.Path p) (form.Tree ps) h =
    let path = path_short p h.0 in
    let patterns = patterns_short ps h.1 in
    let whole = length-append (text_bytes p) (list_bytes text_bytes ps) in
    omega arith
key_short (node.Path p) (form.Structure ps) h =
    let path = path_short p h.0 in
    let patterns = patterns_short ps h.1 in
    let whole = length-append (text_bytes p) (list_bytes text_bytes ps) in
    omega arith
key_short (node.Virtual n) form.File h = absurd h
key_short (node.Virtual n) form.Virtual h = let whole = text_length n in let most = h.at_most in omega arith
key_short (node.Virtual n) (form.Tree ps) h = absurd h
key_short (node.Virtual n) (form.Structure ps) h = absurd h

node_short : (n : NodeName) → IsNode n → length (node_bytes n) ≤ 4101
node_short (node.Path p) h = let path = path_short p h in omega arith
node_short (node.Virtual n) h = let whole = text_length n in let most = h.at_most in omega arith

-- the keys of inputs, each at most so long
keys_length : (is : List Input) → AreInputs is → length (list_bytes key_bytes (map key_of is)) ≤ 4 + length is * 20681
keys_length is h =
    let same = ap length (items-map key_bytes key_of is) in
    let items = items_short (λ (i : Input). key_bytes (key_of i)) 20681 is (λ i n. key_short i.node i.form (h i n)) in
    let whole = length-append (count_bytes (length (map key_of is))) (items_bytes key_bytes (map key_of is)) in
    let count = count-length (length (map key_of is)) in
    omega arith

-- the keys of a target
pub target_short : (t : TargetEntry) → IsTarget t → length (list_bytes key_bytes (map key_of t.nodes)) < 2 ^ 32
target_short t h =
    let keys = keys_length t.nodes h.nodes in
    let few = h.few_nodes in
    omega arith

-- ---- what a tool is handed

deps_short : (ps : List (List ℕ)) → length ps ≤ 16 → ((p : List ℕ) → In p ps → IsPath p) → length (list_bytes text_bytes ps) ≤ 65604
deps_short ps few h = list_short text_bytes 16 4100 65600 ps few refl (λ p i. path_short p (h p i))

-- what a variable weighs
abbrev env_weight : EnvPair → ℕ
env_weight v = text_weight v.name + text_weight v.text

variable_light : (v : EnvPair) → length (env_bytes (variable_of v)) ≤ 4 * env_weight v
variable_light v =
    let name = text_light v.name in
    let text = text_light v.text in
    let whole = length-append (text_bytes v.name) (text_bytes v.text) in
    omega arith

env_light : (env : List EnvPair) → length (list_bytes env_bytes (map variable_of env)) ≤ 4 + 4 * total env_weight env
env_light env =
    let same = ap length (items-map env_bytes variable_of env) in
    let items = items_light (λ (v : EnvPair). env_bytes (variable_of v)) env_weight env variable_light in
    let whole = length-append (count_bytes (length (map variable_of env))) (items_bytes env_bytes (map variable_of env)) in
    let count = count-length (length (map variable_of env)) in
    omega arith

flag_length : (b : Bool) → length (flag_bytes b) ≡ 1
flag_length true = refl
flag_length false = refl

three_parts : (a b c : List ℕ) → length (a ++ b ++ c) ≡ length a + length b + length c
three_parts a b c = simp length-append (omega arith)

four_parts : (a b c d : List ℕ) → length (a ++ b ++ c ++ d) ≡ length a + length b + length c + length d
four_parts a b c d = simp length-append (omega arith)

six_parts : (a b c d e f : List ℕ) → length (a ++ b ++ c ++ d ++ e ++ f) ≡ length a + length b + length c + length d + length e + length f
six_parts a b c d e f = simp length-append (omega arith)

program_light : (args : Args) (env : List EnvPair) (inherit : Bool) (deps : List (List ℕ)) → length (list_bytes text_bytes deps) ≤ 65604
    → length (tool_bytes (program_of args (map variable_of env) inherit deps)) ≤ 65623 + 4 * (args_weight args + total env_weight env)
program_light Absent env inherit deps short =
    let words = texts_light [] in
    let variables = env_light env in
    let flag = flag_length inherit in
    let whole =
    four_parts (list_bytes text_bytes []) (list_bytes env_bytes (map variable_of env)) (flag_bytes inherit) (list_bytes text_bytes deps) in
    omega arith
program_light (Words ws) env inherit deps short =
    let words = texts_light ws in
    let variables = env_light env in
    let flag = flag_length inherit in
    let whole =
    four_parts (list_bytes text_bytes ws) (list_bytes env_bytes (map variable_of env)) (flag_bytes inherit) (list_bytes text_bytes deps) in
    omega arith
program_light (Line line) env inherit deps short =
    let words = texts_light (line ∷ []) in
    let variables = env_light env in
    let flag = flag_length inherit in
    let whole =
    four_parts (list_bytes text_bytes (line ∷ [])) (list_bytes env_bytes (map variable_of env)) (flag_bytes inherit) (list_bytes text_bytes deps) in
    omega arith

shell_light : (own : Option (List ℕ)) (args : Args) (env : List EnvPair) (inherit : Bool) (deps : List (List ℕ))
    → length (list_bytes text_bytes deps) ≤ 65604
    → length (tool_bytes (shell_of own args (map variable_of env) inherit deps))
    ≤ 65623 + 4 * (args_weight args + total env_weight env + signature_weight own)
shell_light (Some signature) args env inherit deps short =
    let text = text_light signature in
    let flag = flag_length inherit in
    let whole = three_parts (text_bytes signature) (flag_bytes inherit) (list_bytes text_bytes deps) in
    omega arith
shell_light None args env inherit deps short = let program = program_light args env inherit deps short in omega arith

tool_light : (t : Tool) (c : Command) → length c.deps ≤ 16 → HasItsOwn t c → length (tool_bytes (tool_in t c)) ≤ 65623 + 4 * own_weight c
tool_light tools.Phony c few own = omega arith
tool_light tools.Shell c few own =
    let program = shell_light c.signature c.args c.env c.inherit_env c.deps (deps_short c.deps few own.0.deps) in
    omega arith
tool_light tools.Mkdir c few own = omega arith
tool_light tools.Symlink c few own = let whole = text_length c.contents in omega arith
tool_light tools.Archive c few own = omega arith
tool_light tools.StaleFileRemoval c few own =
    let expected = texts_light c.expected in
    let roots = texts_light c.roots in
    let whole = length-append (list_bytes text_bytes c.expected) (list_bytes text_bytes c.roots) in
    omega arith

-- ---- the signature

outputs_short : (ns : List NodeName) → length ns ≤ 65536 → ((n : NodeName) → In n ns → IsNode n) → length (list_bytes node_bytes ns) ≤ 268763140
outputs_short ns few h = list_short node_bytes 65536 4101 268763136 ns few refl (λ n i. node_short n (h n i))

-- a command of a manifest has a signature of fewer than 2^32 bytes
pub signature_short : (c : Command) → IsCommand c → length (signature_of (meaning_of c)) < 2 ^ 32
unfolding signature_of
signature_short c h =
    let inputs = keys_length c.inputs h.inputs in
    let follow = keys_length c.follow h.follow in
    let few = h.few_nodes in
    let outputs = outputs_short c.outputs h.few_outputs h.outputs in
    let missing = flag_length c.allow_missing in
    let always = flag_length c.always in
    let tool = tool_light c.tool c h.few_deps h.own in
    let light = h.light in
    let whole =
    six_parts (list_bytes key_bytes (map key_of c.inputs)) (list_bytes key_bytes (map key_of c.follow)) (list_bytes node_bytes c.outputs)
    (flag_bytes c.allow_missing) (flag_bytes c.always) (tool_bytes (tool_in c.tool c)) in
    omega arith
