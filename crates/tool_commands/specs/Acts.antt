-- What is done for a command.
use Rattle.std.specs.Prelude.{◌≡◌, ℕ, true, false, [], map}
use Rattle.outside.specs.declared.order.Act.{Act}
use Rattle.outside.specs.declared.order.Act.TheVariants.{Spawn, MakeDir, MakeLink}
use Rattle.outside.specs.OrderForm.{archive_words}
use Rattle.build_manifest.specs.declared.command.Command.{Command}
use Rattle.build_manifest.specs.declared.command.Tool.{Tool}
use Rattle.build_manifest.specs.declared.command.Tool.TheVariants as tools
use Rattle.build_meaning.specs.Commands.{variable_of, meaning_of}
use Rattle.tool_commands.specs.Program.{words_of}

-- something is done for commands of this tool: not for phony ones, and not for those that remove what is stale
abbrev pub HasOrder : Tool → Type 0
HasOrder tools.Phony = ⊥
HasOrder tools.Shell = Unit {0}
HasOrder tools.Mkdir = Unit {0}
HasOrder tools.Symlink = Unit {0}
HasOrder tools.Archive = Unit {0}
HasOrder tools.StaleFileRemoval = ⊥

-- what is done for the command where it has this tool: its program is started, its directory or link is made, or its archive is
-- removed and made anew
abbrev pub IsActFor : Command → Tool → Act → Type 0
IsActFor c tools.Phony act = ⊥
IsActFor c tools.Shell act = act ≡ Spawn (words_of c.args) (map variable_of c.env) c.inherit_env false
IsActFor c tools.Mkdir act = act ≡ MakeDir
IsActFor c tools.Symlink act = act ≡ MakeLink c.contents
IsActFor c tools.Archive act = act ≡ Spawn (archive_words (meaning_of c)) [] true true
IsActFor c tools.StaleFileRemoval act = ⊥
