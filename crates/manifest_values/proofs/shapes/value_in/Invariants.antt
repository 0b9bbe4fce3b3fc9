use Rattle.std.proofs.Common.{◌≡◌, length}
use Rattle.manifest_values.specs.Shapes.{value_named}
use Rattle.manifest_values.proofs.shapes.value_in.Given as goal

abbrev pub invariant-turns : goal.invariant-turns
invariant-turns l = value_named l.name l.pairs ≡ value_named l.name l.rest

abbrev pub decreases-turns : goal.decreases-turns
decreases-turns l = length l.rest
