-- How a tool is spelled part by part, and what one variable or one node more adds to an order.
use Rattle.std.proofs.Common.{◌≡◌, ℕ, ◌+◌, ◌<◌, Bool, List, [], ◌∷◌, ◌++◌, map, take, length, get_or, Option, Some, None, refl, sym, ◌∙◌, ap, append_assoc, append-nil}
use Rattle.std.specs.Prelude.{Result, Ok, Err, OnOk}
use Rattle.std.proofs.lemmas.List.{take_more, map-append}
use Rattle.file_info.specs.declared.node.NodeName.{NodeName}
use Rattle.file_info.specs.declared.node.NodeName.TheVariants.{Path, Virtual}
use Rattle.spelling.specs.Spelling.{flag_bytes, text_bytes, list_bytes, node_bytes}
use Rattle.outside.specs.Meaning.{InputKey, NodeKey, TreeKey, StructureKey, ToolMeaning, group_of, key_bytes, tool_bytes, signature_of}
use Rattle.outside.specs.OrderForm.{files_of, paths_of}
use Rattle.outside.specs.declared.order.EnvText.{EnvText}
use Rattle.build_manifest.specs.declared.command.Args.{Args}
use Rattle.build_manifest.specs.declared.command.Args.TheVariants.{Absent, Words, Line}
use Rattle.build_manifest.specs.declared.command.Command.{Command}
use Rattle.build_manifest.specs.declared.command.EnvPair.{EnvPair}
use Rattle.build_manifest.specs.declared.command.Input.{Input}
use Rattle.build_manifest.specs.declared.command.Tool.TheVariants as tools
use Rattle.build_meaning.specs.Commands.{key_of, variable_of, shell_of, tool_in, meaning_of}
use Rattle.tool_commands.specs.Program.{definition_bytes}

-- what follows from what holds of a success
pub on_ok : {A E P Q : Type 0} (r : Result A E) → (P → Q) → OnOk r P → OnOk r Q
on_ok (Ok x) f p = f p
on_ok (Err e) f p = tt

-- two texts were pushed
pub pushed_both : (n t name text before between after : List ℕ) → n ≡ name → t ≡ text → between ≡ before ++ text_bytes n → after ≡ between ++ text_bytes t
    → after ≡ before ++ (text_bytes name ++ text_bytes text)
pushed_both n t name text before between after e f b a =
    a ∙ ap (λ z. z ++ text_bytes t) b ∙ append_assoc before (text_bytes n) (text_bytes t) ∙ ap (λ z. before ++ (text_bytes z ++ text_bytes t)) e
    ∙ ap (λ z. before ++ (text_bytes name ++ text_bytes z)) f

-- one variable more was taken
pub variables_more : (xs : List EnvPair) (i : ℕ) (x : EnvPair) (name text : List ℕ) (before after : List EnvText) → i < length xs → x ≡ get_or xs i x
    → before ≡ map variable_of (take i xs) → name ≡ x.name → text ≡ x.text → after ≡ before ++ record { name = name; text = text } ∷ []
    → after ≡ map variable_of (take (i + 1) xs)
variables_more xs i x name text before after h e b n t a =
    let named : EnvText → List EnvText = λ v. map variable_of (take i xs) ++ v ∷ [] in
    a ∙ ap (λ z. z ++ record { name = name; text = text } ∷ []) b
    ∙ ap (λ z. named (record { name = z; text = text })) n ∙ ap (λ z. named (record { name = x.name; text = z })) t
    ∙ ap (λ (z : EnvPair). named (variable_of z)) e ∙ sym (map-append variable_of (take i xs) (get_or xs i x ∷ []))
    ∙ ap (map variable_of) (sym (take_more xs i x h))

paths-append : (xs ys : List NodeName) → paths_of (xs ++ ys) ≡ paths_of xs ++ paths_of ys
paths-append [] ys = refl
paths-append (Path p ∷ xs) ys = ap (λ z. p ∷ z) (paths-append xs ys)
paths-append (Virtual n ∷ xs) ys = paths-append xs ys

paths_more : (xs : List NodeName) (i : ℕ) (x : NodeName) → i < length xs → x ≡ get_or xs i x
    → paths_of (take (i + 1) xs) ≡ paths_of (take i xs) ++ paths_of (x ∷ [])
paths_more xs i x h e =
    ap paths_of (take_more xs i x h) ∙ paths-append (take i xs) (get_or xs i x ∷ []) ∙ ap (λ z. paths_of (take i xs) ++ paths_of (z ∷ [])) (sym e)

-- a path was taken
pub path_taken : (xs : List NodeName) (i : ℕ) (x : NodeName) (p q : List ℕ) (before after : List (List ℕ)) → i < length xs → x ≡ get_or xs i x
    → before ≡ paths_of (take i xs) → x ≡ Path p → q ≡ p → after ≡ before ++ q ∷ [] → after ≡ paths_of (take (i + 1) xs)
path_taken xs i x p q before after h e b v s a =
    a ∙ ap (λ z. z ++ q ∷ []) b ∙ ap (λ z. paths_of (take i xs) ++ z ∷ []) s ∙ sym (paths_more xs i x h e ∙ ap (λ z. paths_of (take i xs) ++ paths_of (z ∷ [])) v)

-- a virtual node was left out
pub virtual_left : (xs : List NodeName) (i : ℕ) (x : NodeName) (n : List ℕ) (before after : List (List ℕ)) → i < length xs → x ≡ get_or xs i x
    → before ≡ paths_of (take i xs) → x ≡ Virtual n → after ≡ before → after ≡ paths_of (take (i + 1) xs)
virtual_left xs i x n before after h e b v a =
    a ∙ b ∙ sym (paths_more xs i x h e ∙ ap (λ z. paths_of (take i xs) ++ paths_of (z ∷ [])) v ∙ append-nil (paths_of (take i xs)))

-- a path was added to words
pub path_added : (xs : List NodeName) (i : ℕ) (x : NodeName) (p : List ℕ) (base before after : List (List ℕ)) → i < length xs → x ≡ get_or xs i x
    → before ≡ base ++ paths_of (take i xs) → x ≡ Path p → after ≡ before ++ p ∷ [] → after ≡ base ++ paths_of (take (i + 1) xs)
path_added xs i x p base before after h e b v a =
    a ∙ ap (λ z. z ++ p ∷ []) b ∙ append_assoc base (paths_of (take i xs)) (p ∷ [])
    ∙ ap (λ z. base ++ z) (path_taken xs i x p p (paths_of (take i xs)) (paths_of (take i xs) ++ p ∷ []) h e refl v refl refl)

-- a virtual node was not added
pub virtual_passed : (xs : List NodeName) (i : ℕ) (x : NodeName) (n : List ℕ) (base before after : List (List ℕ)) → i < length xs → x ≡ get_or xs i x
    → before ≡ base ++ paths_of (take i xs) → x ≡ Virtual n → after ≡ before → after ≡ base ++ paths_of (take (i + 1) xs)
virtual_passed xs i x n base before after h e b v a =
    a ∙ b ∙ ap (λ z. base ++ z) (virtual_left xs i x n (paths_of (take i xs)) (paths_of (take i xs)) h e refl v refl)

files-append : (xs ys : List InputKey) → files_of (xs ++ ys) ≡ files_of xs ++ files_of ys
files-append [] ys = refl
files-append (NodeKey (Path p) ∷ xs) ys = ap (λ z. p ∷ z) (files-append xs ys)
files-append (NodeKey (Virtual n) ∷ xs) ys = files-append xs ys
files-append (TreeKey p ps ∷ xs) ys = files-append xs ys
files-append (StructureKey p ps ∷ xs) ys = files-append xs ys

files-more : (xs : List Input) (i : ℕ) (x : Input) → i < length xs → x ≡ get_or xs i x
    → files_of (map key_of (take (i + 1) xs)) ≡ files_of (map key_of (take i xs)) ++ files_of (key_of x ∷ [])
files-more xs i x h e =
    ap (λ z. files_of (map key_of z)) (take_more xs i x h) ∙ ap files_of (map-append key_of (take i xs) (get_or xs i x ∷ []))
    ∙ files-append (map key_of (take i xs)) (key_of (get_or xs i x) ∷ []) ∙ ap (λ z. files_of (map key_of (take i xs)) ++ files_of (key_of z ∷ [])) (sym e)

-- the path of an input was added to words, if it is a file
pub file_added : (xs : List Input) (i : ℕ) (x : Input) (got base before after : List (List ℕ)) → i < length xs → x ≡ get_or xs i x
    → before ≡ base ++ files_of (map key_of (take i xs)) → got ≡ files_of (key_of x ∷ []) → after ≡ before ++ got
    → after ≡ base ++ files_of (map key_of (take (i + 1) xs))
file_added xs i x got base before after h e b g a =
    a ∙ ap (λ z. z ++ got) b ∙ append_assoc base (files_of (map key_of (take i xs))) got ∙ ap (λ z. base ++ (files_of (map key_of (take i xs)) ++ z)) g
    ∙ ap (λ z. base ++ z) (sym (files-more xs i x h e))

-- what a shell command hands its tool: its definition, whether it has the variables of the build, and its dependency files
pub tool_spelled : (own : Option (List ℕ)) (args : Args) (env : List EnvPair) (inherit : Bool) (deps : List (List ℕ))
    → tool_bytes (shell_of own args (map variable_of env) inherit deps) ≡ definition_bytes own args env ++ flag_bytes inherit ++ list_bytes text_bytes deps
tool_spelled (Some signature) args env inherit deps = refl
tool_spelled None Absent env inherit deps = refl
tool_spelled None (Words words) env inherit deps = refl
tool_spelled None (Line line) env inherit deps = refl

pub shell_group : (own : Option (List ℕ)) (args : Args) (env : List EnvText) (inherit : Bool) (deps : List (List ℕ)) → group_of (shell_of own args env inherit deps) ≡ 1
shell_group (Some signature) args env inherit deps = refl
shell_group None Absent env inherit deps = refl
shell_group None (Words words) env inherit deps = refl
shell_group None (Line line) env inherit deps = refl

-- the parts of a signature, one after the other
pub pushed_whole : (c : Command) (none group inputs follow outputs missing always whole : List ℕ) (byte : ℕ) → byte ≡ group_of (tool_in c.tool c)
    → group ≡ none ++ byte ∷ [] → inputs ≡ group ++ list_bytes key_bytes (map key_of c.inputs) → follow ≡ inputs ++ list_bytes key_bytes (map key_of c.follow)
    → outputs ≡ follow ++ list_bytes node_bytes c.outputs → missing ≡ outputs ++ flag_bytes c.allow_missing → always ≡ missing ++ flag_bytes c.always
    → whole ≡ always ++ tool_bytes (tool_in c.tool c) → whole ≡ none ++ signature_of (meaning_of c)
unfolding signature_of
pushed_whole c none group inputs follow outputs missing always whole byte b g i f o m a w =
    let ib = list_bytes key_bytes (map key_of c.inputs) in
    let fb = list_bytes key_bytes (map key_of c.follow) in
    let ob = list_bytes node_bytes c.outputs in
    let mb = flag_bytes c.allow_missing in
    let ab = flag_bytes c.always in
    let tb = tool_bytes (tool_in c.tool c) in
    let one = byte ∷ ib in
    let two = one ++ fb in
    let three = two ++ ob in
    let four = three ++ mb in
    w ∙ ap (λ z. z ++ tb) (a ∙ ap (λ z. z ++ ab) (m ∙ ap (λ z. z ++ mb) (o ∙ ap (λ z. z ++ ob) (f ∙ ap (λ z. z ++ fb) (i ∙ ap (λ z. z ++ ib) g)))))
    ∙ ap (λ z. ((((z ++ fb) ++ ob) ++ mb) ++ ab) ++ tb) (append_assoc none (byte ∷ []) ib)
    ∙ ap (λ z. (((z ++ ob) ++ mb) ++ ab) ++ tb) (append_assoc none one fb)
    ∙ ap (λ z. ((z ++ mb) ++ ab) ++ tb) (append_assoc none two ob)
    ∙ ap (λ z. (z ++ ab) ++ tb) (append_assoc none three mb)
    ∙ ap (λ z. z ++ tb) (append_assoc none four ab)
    ∙ append_assoc none (four ++ ab) tb
    ∙ ap (λ z. none ++ (z ∷ ib ++ fb ++ ob ++ mb ++ ab ++ tb)) b
