-- What each command and each target of a manifest keeps.
use Rattle.std.specs.Prelude.{◌≡◌, ◌≤◌, ◌≢◌, ℕ, ◌+◌, Bool, true, false, ◌==◌, ◌||◌, List, [], ◌∷◌, length, Option, Some, None, IsUtf8}
use Rattle.std.specs.List.{list_any}
use Rattle.file_info.specs.Lists.{In}
use Rattle.file_info.specs.Name.{IsName}
use Rattle.file_info.specs.Normal.{IsPath}
use Rattle.file_info.specs.declared.node.NodeName.{NodeName}
use Rattle.file_info.specs.declared.node.NodeName.TheVariants as node
use Rattle.yaml_profile.specs.Weight.{total}
use Rattle.build_manifest.specs.declared.command.Args.{Args}
use Rattle.build_manifest.specs.declared.command.Args.TheVariants.{Absent, Words, Line}
use Rattle.build_manifest.specs.declared.command.Command.{Command}
use Rattle.build_manifest.specs.declared.command.EnvPair.{EnvPair}
use Rattle.build_manifest.specs.declared.command.Input.{Input}
use Rattle.build_manifest.specs.declared.command.InputForm.{InputForm}
use Rattle.build_manifest.specs.declared.command.InputForm.TheVariants as form
use Rattle.build_manifest.specs.declared.command.TargetEntry.{TargetEntry}
use Rattle.build_manifest.specs.declared.command.Tool.{Tool}
use Rattle.build_manifest.specs.declared.command.Tool.TheVariants as tools

-- the command of this name and this tool of which nothing else is said
abbrev pub bare_command : List ℕ → Tool → Command
bare_command name tool = record {
  name = name;
  tool = tool;
  inputs = [];
  follow = [];
  outputs = [];
  description = None;
  args = Absent;
  env = [];
  inherit_env = true;
  deps = [];
  signature = None;
  contents = [];
  allow_missing = false;
  always = false;
  expected = [];
  roots = [];
}

-- at most 64 patterns, each in UTF-8 and of at most 255 bytes
pub record ArePatterns (patterns : List (List ℕ)) : Type 0 where
  pub few : length patterns ≤ 64
  pub utf8 : (p : List ℕ) → In p patterns → IsUtf8 p
  pub short : (p : List ℕ) → In p patterns → length p ≤ 255

-- a path node is read as a file, a tree or a structure, and a virtual node not at all
abbrev pub IsRead : NodeName → InputForm → Type 0
IsRead (node.Path p) form.File = IsPath p
IsRead (node.Path p) form.Virtual = ⊥
IsRead (node.Path p) (form.Tree patterns) = IsPath p × ArePatterns patterns
IsRead (node.Path p) (form.Structure patterns) = IsPath p × ArePatterns patterns
IsRead (node.Virtual n) form.File = ⊥
IsRead (node.Virtual n) form.Virtual = IsName n
IsRead (node.Virtual n) (form.Tree patterns) = ⊥
IsRead (node.Virtual n) (form.Structure patterns) = ⊥

-- each input is read as its node allows
abbrev pub AreInputs : List Input → Type 0
AreInputs inputs = (i : Input) → In i inputs → IsRead i.node i.form

-- the node is a path or a virtual name
abbrev pub IsNode : NodeName → Type 0
IsNode (node.Path p) = IsPath p
IsNode (node.Virtual n) = IsName n

-- whether the node is virtual
abbrev pub is_virtual : NodeName → Bool
is_virtual (node.Path p) = false
is_virtual (node.Virtual n) = true

-- how many of the nodes are files
abbrev pub files_in : List NodeName → ℕ
files_in [] = 0
files_in (node.Path p ∷ ns) = 1 + files_in ns
files_in (node.Virtual n ∷ ns) = files_in ns

-- whether a byte of the text is 0
abbrev pub has_nul : List ℕ → Bool
has_nul text = list_any (λ b. b == 0) text

-- a line without a byte 0, or at least one word and none with a byte 0
abbrev pub IsProgram : Args → Type 0
IsProgram Absent = ⊥
IsProgram (Words words) = (words ≢ []) × ((w : List ℕ) → In w words → has_nul w ≡ false)
IsProgram (Line line) = has_nul line ≡ false

-- a name that is not empty and has neither `=` nor a byte 0, and a text without a byte 0
pub record IsVariable (pair : EnvPair) : Type 0 where
  pub named : pair.name ≢ []
  pub name : list_any (λ b. b == 0 || b == 61) pair.name ≡ false
  pub text : has_nul pair.text ≡ false

-- no program, no variables, no dependency files
pub record RunsNothing (c : Command) : Type 0 where
  pub args : c.args ≡ Absent
  pub env : c.env ≡ []
  pub inherit_env : c.inherit_env ≡ true
  pub deps : c.deps ≡ []
  pub signature : c.signature ≡ None

-- a program and its variables
pub record RunsProgram (c : Command) : Type 0 where
  pub args : IsProgram c.args
  pub env : (v : EnvPair) → In v c.env → IsVariable v
  pub deps : (p : List ℕ) → In p c.deps → IsPath p

-- nothing is removed
pub record RemovesNothing (c : Command) : Type 0 where
  pub expected : c.expected ≡ []
  pub roots : c.roots ≡ []

-- nothing is asked, and the paths of a removal are paths
pub record RemovesStale (c : Command) : Type 0 where
  pub inputs : c.inputs ≡ []
  pub follow : c.follow ≡ []
  pub allow_missing : c.allow_missing ≡ false
  pub always : c.always ≡ false
  pub expected : (p : List ℕ) → In p c.expected → IsPath p
  pub roots : (p : List ℕ) → In p c.roots → IsPath p

-- each output is virtual
abbrev pub MakesNoFile : Command → Type 0
MakesNoFile c = (n : NodeName) → In n c.outputs → is_virtual n ≡ true

-- what the attributes of its tool allow and require, and the defaults elsewhere
abbrev pub HasItsOwn : Tool → Command → Type 0
HasItsOwn tools.Phony c = RunsNothing c × (c.contents ≡ []) × RemovesNothing c × MakesNoFile c
HasItsOwn tools.Shell c = RunsProgram c × (c.contents ≡ []) × RemovesNothing c
HasItsOwn tools.Mkdir c = RunsNothing c × (c.contents ≡ []) × RemovesNothing c × (files_in c.outputs ≡ 1)
HasItsOwn tools.Symlink c = RunsNothing c × ((c.contents ≢ []) × (has_nul c.contents ≡ false)) × RemovesNothing c × (files_in c.outputs ≡ 1)
HasItsOwn tools.Archive c = RunsNothing c × (c.contents ≡ []) × RemovesNothing c × (files_in c.outputs ≡ 1)
HasItsOwn tools.StaleFileRemoval c = RunsNothing c × (c.contents ≡ []) × RemovesStale c × MakesNoFile c

-- what a text weighs: its bytes and one more
abbrev pub text_weight : List ℕ → ℕ
text_weight text = length text + 1

-- what the program weighs
abbrev pub args_weight : Args → ℕ
args_weight Absent = 0
args_weight (Words words) = total text_weight words
args_weight (Line line) = text_weight line

-- what a signature of its own weighs
abbrev pub signature_weight : Option (List ℕ) → ℕ
signature_weight None = 0
signature_weight (Some text) = text_weight text

-- what the texts of a command weigh that no limit of their own bounds
abbrev pub own_weight : Command → ℕ
own_weight c =
    args_weight c.args + total (λ (v : EnvPair). text_weight v.name + text_weight v.text) c.env + signature_weight c.signature
    + length c.contents + total text_weight c.expected + total text_weight c.roots

-- a command of a manifest: within the limits, each node read as it may be, and with what its tool has
pub record IsCommand (c : Command) : Type 0 where
  pub few_nodes : length c.inputs + length c.follow ≤ 65536
  pub few_outputs : length c.outputs ≤ 65536
  pub few_deps : length c.deps ≤ 16
  pub inputs : AreInputs c.inputs
  pub follow : AreInputs c.follow
  pub outputs : (n : NodeName) → In n c.outputs → IsNode n
  pub own : HasItsOwn c.tool c
  pub light : own_weight c ≤ 67108865

-- a target of a manifest: at most 65,536 nodes, each read as it may be
pub record IsTarget (t : TargetEntry) : Type 0 where
  pub few_nodes : length t.nodes ≤ 65536
  pub nodes : AreInputs t.nodes
