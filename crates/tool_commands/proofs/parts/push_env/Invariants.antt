use Rattle.std.proofs.Common.{◌≡◌, ◌++◌, take}
use Rattle.spelling.specs.Spelling.{items_bytes}
use Rattle.outside.specs.Meaning.{env_bytes}
use Rattle.build_manifest.specs.declared.command.EnvPair.{EnvPair}
use Rattle.build_meaning.specs.Commands.{variable_of}
use Rattle.tool_commands.proofs.parts.push_env.Given as goal

abbrev pub invariant-loop-pair : goal.invariant-loop-pair
invariant-loop-pair l = l.out.items ≡ l.initial.out.items ++ items_bytes (λ (p : EnvPair). env_bytes (variable_of p)) (take l.pair-index l.pair-items)
