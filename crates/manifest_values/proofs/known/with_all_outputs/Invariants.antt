use Rattle.std.proofs.Common.{◌≡◌, ◌++◌, length}
use Rattle.std.specs.List.{flat_map}
use Rattle.manifest_values.specs.Known.{virtual_outputs}
use Rattle.manifest_values.proofs.known.with_all_outputs.Given as goal

abbrev pub invariant-turns : goal.invariant-turns
invariant-turns l = l.found ++ flat_map virtual_outputs l.rest ≡ l.fn.texts ++ flat_map virtual_outputs l.commands

abbrev pub decreases-turns : goal.decreases-turns
decreases-turns l = length l.rest
