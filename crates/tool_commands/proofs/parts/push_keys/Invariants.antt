use Rattle.std.proofs.Common.{◌≡◌, ◌++◌, take}
use Rattle.spelling.specs.Spelling.{items_bytes}
use Rattle.outside.specs.Meaning.{key_bytes}
use Rattle.build_manifest.specs.declared.command.Input.{Input}
use Rattle.build_meaning.specs.Commands.{key_of}
use Rattle.tool_commands.proofs.parts.push_keys.Given as goal

abbrev pub invariant-loop-input : goal.invariant-loop-input
invariant-loop-input l = l.out.items ≡ l.initial.out.items ++ items_bytes (λ (i : Input). key_bytes (key_of i)) (take l.input-index l.input-items)
