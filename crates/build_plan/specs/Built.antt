-- What is built today, and who needs what is not.
use Rattle.std.specs.Prelude.{◌≡◌, ◌<◌, ℕ, true, false, List, [], ◌∷◌, ◌++◌, drop, slice_get, Some, None}
use Rattle.file_info.specs.Content.{node_text}
use Rattle.file_info.specs.Lists.{In}
use Rattle.file_info.specs.declared.node.NodeName.{NodeName}
use Rattle.file_info.specs.declared.node.NodeName.TheVariants.{Path}
use Rattle.build_manifest.specs.declared.command.Command.{Command}
use Rattle.build_manifest.specs.declared.command.Input.{Input}
use Rattle.build_manifest.specs.declared.command.InputForm.TheVariants.{File}
use Rattle.build_manifest.specs.declared.command.TargetEntry.{TargetEntry}
use Rattle.build_manifest.specs.declared.command.Tool.TheVariants.{Shell}
use Rattle.build_manifest.specs.Manifest.{ManifestLists}
use Rattle.build_meaning.specs.Fresh.{IsMade}
use Rattle.build_meaning.specs.Need.{IsNeeded}

-- the node is a file
pub record IsFileNode (node : NodeName) : Type 0 where
  pub path : List ℕ
  pub is : node ≡ Path path

-- the input is a file, read as one
pub record IsFileInput (input : Input) : Type 0 where
  pub node : IsFileNode input.node
  pub form : input.form ≡ File

-- each of these inputs is a file, read as one
abbrev pub AreFiles : List Input → Type 0
AreFiles inputs = (i : Input) → In i inputs → IsFileInput i

-- a shell command over files, of which nothing is said but its inputs, its outputs, its description and its program
pub record IsPlain (c : Command) : Type 0 where
  pub tool : c.tool ≡ Shell
  pub inputs : AreFiles c.inputs
  pub follow : c.follow ≡ []
  pub outputs : (n : NodeName) → In n c.outputs → IsFileNode n
  pub env : c.env ≡ []
  pub inherit_env : c.inherit_env ≡ true
  pub deps : c.deps ≡ []
  pub signature : c.signature ≡ None
  pub allow_missing : c.allow_missing ≡ false
  pub always : c.always ≡ false

-- the input is made by the command at this place or a later one
abbrev pub IsMadeLater : List Command → ℕ → Input → Type 0
IsMadeLater commands place i = IsMade (drop place commands) (node_text i.node)

-- none of these inputs is made by the command at this place or a later one
abbrev pub AreEarlier : List Command → ℕ → List Input → Type 0
AreEarlier commands place inputs = (i : Input) → In i inputs → IsMadeLater commands place i → ⊥

-- the command at this place is plain, and reads nothing that it or a later command makes
pub record IsBuiltAt (commands : List Command) (place : ℕ) (c : Command) : Type 0 where
  pub plain : IsPlain c
  pub earlier : AreEarlier commands place c.inputs

-- each command that the target needs is such as this says of it and its place
abbrev pub AreNeeded : ManifestLists → TargetEntry → (ℕ → Command → Type 0) → Type 0
AreNeeded m target is = (k : ℕ) (c : Command) → slice_get m.commands k ≡ Some c → IsNeeded m.commands target.nodes c → is k c

-- each node of the target is a file, and each command that it needs is built
pub record IsBuilt (m : ManifestLists) (target : TargetEntry) : Type 0 where
  pub nodes : AreFiles target.nodes
  pub commands : AreNeeded m target (IsBuiltAt m.commands)

-- this command is the first of those that the target needs, in the order of the manifest, that is not such
pub record IsFirstOther (m : ManifestLists) (target : TargetEntry) (is : ℕ → Command → Type 0) (c : Command) : Type 0 where
  pub place : ℕ
  pub at : slice_get m.commands place ≡ Some c
  pub needed : IsNeeded m.commands target.nodes c
  pub other : is place c → ⊥
  pub before : (k : ℕ) (d : Command) → k < place → slice_get m.commands k ≡ Some d → IsNeeded m.commands target.nodes d → is k d

-- who uses what is not built: the target, where one of its nodes is no file, and otherwise the first command that it needs and
-- that is not plain
pub data IsAsker (m : ManifestLists) (target : TargetEntry) : List ℕ → Type 0 where
  target_asks : (i : Input) → In i target.nodes → (IsFileInput i → ⊥) → IsAsker m target target.name
  command_asks : AreFiles target.nodes → (c : Command) → IsFirstOther m target (λ k. IsPlain) c → IsAsker m target c.name

-- the first of these inputs that the command at this place or a later one makes is written so
pub record IsFirstLater (commands : List Command) (place : ℕ) (inputs : List Input) (node : List ℕ) : Type 0 where
  pub before : List Input
  pub input : Input
  pub after : List Input
  pub inputs_are : inputs ≡ before ++ input ∷ after
  pub earlier : AreEarlier commands place before
  pub later : IsMadeLater commands place input
  pub written : input.written ≡ node

-- all that the target needs is plain; the first command of this that reads what it or a later command makes has this name, and
-- its first such input is written so
pub record IsLaterMaker (m : ManifestLists) (target : TargetEntry) (command node : List ℕ) : Type 0 where
  pub nodes : AreFiles target.nodes
  pub plain : AreNeeded m target (λ k. IsPlain)
  pub asker : Command
  pub first : IsFirstOther m target (λ k c. AreEarlier m.commands k c.inputs) asker
  pub named : asker.name ≡ command
  pub input : IsFirstLater m.commands first.place asker.inputs node
