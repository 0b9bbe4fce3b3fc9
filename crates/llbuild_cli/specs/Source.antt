-- The sources that a build asks for.
use Rattle.std.specs.Prelude.{◌⊎◌, ℕ, List}
use Rattle.file_info.specs.Lists.{In, IsDistinct}
use Rattle.build_manifest.specs.declared.command.Command.{Command}
use Rattle.build_meaning.specs.Fresh.{IsMade}
use Rattle.build_meaning.specs.Need.{IsNeeded}
use Rattle.build_report.specs.declared.report.StatSeen.{StatSeen}
use Rattle.llbuild_cli.specs.Plan.{Plan}
use Rattle.llbuild_cli.specs.CommandRun.{IsInput}
use Rattle.llbuild_cli.specs.Sight.{sources_of}

-- a needed command asks for the path
pub record IsAskedBy (plan : Plan) (path : List ℕ) (command : Command) : Type 0 where
  pub named : In command plan.manifest.commands
  pub needed : IsNeeded plan.manifest.commands plan.target.nodes command
  pub input : IsInput command.inputs path

-- a needed command or the target asks for the path
abbrev pub IsAsked : Plan → List ℕ → Type 0
IsAsked plan path = ((command : Command) × IsAskedBy plan path command) ⊎ IsInput plan.target.nodes path

-- each source is reported once, no command makes it, and it was asked for
pub record AreSources (plan : Plan) (stats : List StatSeen) : Type 0 where
  pub once : IsDistinct (sources_of stats)
  pub free : (s : StatSeen) → In s stats → IsMade plan.manifest.commands s.path → ⊥
  pub asked : (s : StatSeen) → In s stats → IsAsked plan s.path
