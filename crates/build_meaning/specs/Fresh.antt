-- The content that a manifest and the sources give a path, by recursion over the manifest.
use Rattle.std.specs.Prelude.{◌≡◌, ℕ, List, [], map, slice_get, Some}
use Rattle.file_info.specs.Content.{Content, ReadContent, One, FileVersion, content, Absent}
use Rattle.file_info.specs.Lists.{In}
use Rattle.file_info.specs.declared.info.Info.{Info}
use Rattle.file_info.specs.declared.node.NodeName.{NodeName}
use Rattle.file_info.specs.declared.node.NodeName.TheVariants.{Path}
use Rattle.outside.specs.OrderForm.{paths_of}
use Rattle.outside.specs.Meaning.{signature_of}
use Rattle.build_manifest.specs.declared.command.Command.{Command}
use Rattle.build_manifest.specs.declared.command.Input.{Input}
use Rattle.build_meaning.specs.Commands.{meaning_of}

-- a law of commands: a relation from the text of a meaning and the contents of what was read and found to those of what was
-- made
abbrev pub Does : Type 1
Does = List ℕ → List (NodeName × ReadContent) → List (List ℕ × Content) → List Content → Type 0

-- what a build saw: source paths with their file information
abbrev pub Sights : Type 0
Sights = List (List ℕ × Info)

-- one of these commands has the path among its outputs
pub record IsMade (commands : List Command) (path : List ℕ) : Type 0 where
  pub by : Command
  pub named : In by commands
  pub output : In path (paths_of by.outputs)

-- the nodes that a command reads, in order
abbrev pub nodes_read : List Input → List NodeName
nodes_read inputs = map (λ (i : Input). i.node) inputs

-- files with these contents, as inputs that are read
abbrev pub as_read : List (List ℕ × Content) → List (NodeName × ReadContent)
as_read files = map (λ (f : List ℕ × Content). (Path f.0, One f.1)) files

-- the content that manifest and sources give a path, by recursion: of a source what the build saw there; of an output what
-- the law gives its maker, whose inputs are all there and have their own contents by the same rule. (File nodes and shell
-- commands; each further kind of node or tool is a further rule.)
pub data Fresh (does : Does) (m : List FileVersion) (commands : List Command) (seen : Sights) : List ℕ → Content → Type 0 where
  source : {p : List ℕ} {x : Content} (i : Info) → (IsMade commands p → ⊥) → In (p, i) seen → x ≡ content m p i → Fresh does m commands seen p x
  made : {p : List ℕ} {x : Content} (c : Command) (d : List (List ℕ × Content)) (o : List Content) (k : ℕ) → In c commands
      → nodes_read c.inputs ≡ map (λ (f : List ℕ × Content). Path f.0) d
      → ((q : List ℕ) (y : Content) → In (q, y) d → y ≡ Absent → ⊥)
      → ((q : List ℕ) (y : Content) → In (q, y) d → Fresh does m commands seen q y)
      → does (signature_of (meaning_of c)) (as_read d) [] o → slice_get (paths_of c.outputs) k ≡ Some p → slice_get o k ≡ Some x
      → Fresh does m commands seen p x
