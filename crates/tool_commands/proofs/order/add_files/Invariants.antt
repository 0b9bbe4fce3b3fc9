use Rattle.std.proofs.Common.{◌≡◌, ◌++◌, map, take}
use Rattle.outside.specs.OrderForm.{files_of}
use Rattle.build_meaning.specs.Commands.{key_of}
use Rattle.tool_commands.proofs.order.add_files.Given as goal

abbrev pub invariant-loop-input : goal.invariant-loop-input
invariant-loop-input l = l.words ≡ l.initial.words ++ files_of (map key_of (take l.input-index l.input-items))
