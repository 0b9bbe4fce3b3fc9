use Rattle.std.proofs.Common.{◌≡◌, ◌++◌, take}
use Rattle.spelling.specs.Spelling.{items_bytes, text_bytes}
use Rattle.tool_commands.proofs.parts.push_paths.Given as goal

abbrev pub invariant-loop-path : goal.invariant-loop-path
invariant-loop-path l = l.out.items ≡ l.initial.out.items ++ items_bytes text_bytes (take l.path-index l.path-items)
