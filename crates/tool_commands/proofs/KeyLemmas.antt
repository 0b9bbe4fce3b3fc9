-- The key that an input asks for is spelled as its signature has it.
use Rattle.std.proofs.Common.{◌≡◌, refl}
use Rattle.file_info.specs.declared.node.NodeName.{NodeName}
use Rattle.file_info.specs.declared.node.NodeName.TheVariants as node
use Rattle.build_manifest.specs.Command.{IsRead}
use Rattle.build_manifest.specs.declared.command.InputForm.{InputForm}
use Rattle.build_manifest.specs.declared.command.InputForm.TheVariants.{File, Virtual, Tree, Structure}
use Rattle.build_keys.specs.Keys.{key_bytes as spelled}
use Rattle.outside.specs.Meaning.{key_bytes}
use Rattle.build_meaning.specs.Commands.{key_in}
use Rattle.tool_commands.specs.InputKeys.{asked}

pub asked_spelled : (form : InputForm) (n : NodeName) → IsRead n form → spelled (asked form n) ≡ key_bytes (key_in n form)
asked_spelled File n h = refl
asked_spelled Virtual n h = refl
asked_spelled (Tree patterns) (node.Path path) h = refl
asked_spelled (Tree patterns) (node.Virtual name) h = absurd h
asked_spelled (Structure patterns) (node.Path path) h = refl
asked_spelled (Structure patterns) (node.Virtual name) h = absurd h
