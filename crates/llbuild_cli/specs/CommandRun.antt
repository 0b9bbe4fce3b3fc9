-- What a command finds before it runs, and leaves after it.
use Rattle.std.specs.Prelude.{◌≡◌, ℕ, List, [], ◌∷◌, ◌++◌, map}
use Rattle.file_info.specs.Content.{Content, FileVersion, content, node_text, read_contents}
use Rattle.file_info.specs.Lists.{In, IsDistinct}
use Rattle.file_info.specs.declared.info.Info.{Info}
use Rattle.file_info.specs.declared.info.Form.{Form}
use Rattle.file_info.specs.declared.info.Form.TheVariants.{Follow}
use Rattle.file_info.specs.declared.node.NodeName.TheVariants.{Path}
use Rattle.file_info.specs.declared.node.Read.{Read}
use Rattle.file_info.specs.declared.node.Reading.TheVariants.{File}
use Rattle.outside.specs.OrderForm.{paths_of}
use Rattle.outside.specs.Meaning.{signature_of}
use Rattle.outside.specs.Outcome.{Unchanged}
use Rattle.outside.specs.View.{DiskView, Told, Tells, Keeps}
use Rattle.outside.specs.declared.order.Ended.{Ended}
use Rattle.outside.specs.declared.order.Exit.{Exit}
use Rattle.outside.specs.declared.order.Order.{Order}
use Rattle.build_manifest.specs.declared.command.Command.{Command}
use Rattle.build_manifest.specs.declared.command.Input.{Input}
use Rattle.build_manifest.specs.Command.{IsCommand}
use Rattle.build_meaning.specs.Commands.{meaning_of}
use Rattle.build_meaning.specs.Fresh.{Does}
use Rattle.build_plan.specs.Built.{IsPlain}
use Rattle.build_report.specs.declared.report.Heard.{Heard}
use Rattle.llbuild_cli.specs.Journal.{Journal, Knows}
use Rattle.llbuild_cli.specs.Look.{Looked}
use Rattle.llbuild_cli.specs.Sight.{GivesInfo}
use Rattle.llbuild_cli.specs.Input.{AreRead}
use Rattle.llbuild_cli.specs.OwnOrder.{IsOwnOrder}

-- the path is that of one of these inputs
abbrev pub IsInput : List Input → List ℕ → Type 0
IsInput inputs p = (i : Input) × (In i inputs × (p ≡ node_text i.node))

-- the path is an output of the command
abbrev pub IsOutput : Command → List ℕ → Type 0
IsOutput c p = In p (paths_of c.outputs)

-- what was seen still stands, where the world tells
abbrev pub SeenStands : DiskView → Journal → Type 0
SeenStands world seen = Told world → (p : List ℕ) (i : Info) → Knows seen p i → world.at p Follow ≡ i

-- a command of a manifest, plain, with distinct outputs, none of which it reads
pub record IsSound (c : Command) : Type 0 where
  pub command : IsCommand c
  pub plain : IsPlain c
  pub distinct : IsDistinct (paths_of c.outputs)
  pub apart : (p : List ℕ) → IsInput c.inputs p → IsOutput c p → ⊥

-- what was read of files stands
abbrev pub ReadsStand : (List ℕ → Form → Info) → List Read → Type 0
ReadsStand at reads = (r : Read) (p : List ℕ) (i : Info) → In r reads → r.node ≡ Path p → r.reading ≡ File i → at p Follow ≡ i

-- the contents that stand at the outputs of the command
abbrev pub contents_made : List FileVersion → (List ℕ → Form → Info) → Command → List Content
contents_made m at c = map (λ (p : List ℕ). content m p (at p Follow)) (paths_of c.outputs)

-- the law gives the command, on what was read, the contents that stand at its outputs
abbrev pub DidLaw : Does → List FileVersion → (List ℕ → Form → Info) → Command → List Read → Type 0
DidLaw does m at c reads = does (signature_of (meaning_of c)) (read_contents m reads) [] (contents_made m at c)

-- the order of the command, with this ticket and on what was read
pub record IsOrderFor (c : Command) (ticket : ℕ) (reads : List Read) (order : Order) : Type 0 where
  pub name : order.command ≡ c.name
  pub is : IsOwnOrder c order
  pub ticket_is : order.ticket ≡ ticket
  pub reads_are : order.reads ≡ reads
  pub outputs_are : order.outputs ≡ paths_of c.outputs

-- an exit was answered of the order, at a moment at which all that it read still stood
pub record IsEnded (ended : DiskView → Order → Exit → Type 0) (old new : DiskView) (e : Ended) : Type 0 where
  pub moment : DiskView
  pub answered : ended moment e.order e.exit
  pub keeps : Keeps moment new
  pub stood : Told new → ReadsStand old.at e.order.reads → Unchanged moment.at e.order

-- the command ran on what was read of its inputs: the journal went on by its inputs and then by the end of its order, whose
-- outcome has what stands at its outputs; and where the world tells, it did what the law says
pub record DidCommand (does : Does) (c : Command) (after : DiskView) (old new : Journal) : Type 0 where
  pub middle : Journal
  pub looked : Looked after (IsInput c.inputs) old middle
  pub reads : List Read
  pub are_read : AreRead (Knows middle) c.inputs reads
  pub last : Heard
  pub stats : new.stats ≡ middle.stats
  pub heard : new.heard ≡ old.heard ++ last ∷ []
  pub outputs : (p : List ℕ) → IsOutput c p → (i : Info) × GivesInfo last.order.outputs last.outcome p i
  pub gives : (p : List ℕ) (i : Info) → GivesInfo last.order.outputs last.outcome p i → IsOutput c p × (Told after → after.at p Follow ≡ i)
  pub did : (m : List FileVersion) → Tells after m → DidLaw does m after.at c reads
