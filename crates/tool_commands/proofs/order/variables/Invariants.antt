use Rattle.std.proofs.Common.{◌≡◌, map, take}
use Rattle.build_meaning.specs.Commands.{variable_of}
use Rattle.tool_commands.proofs.order.variables.Given as goal

abbrev pub invariant-loop-pair : goal.invariant-loop-pair
invariant-loop-pair l = l.variables ≡ map variable_of (take l.pair-index l.pair-items)
