use Rattle.std.proofs.Common.{length}
use Rattle.manifest_values.specs.Shapes.{text_of}
use Rattle.manifest_values.proofs.ShapeLemmas.{Shaped}
use Rattle.manifest_values.proofs.shapes.all_copied.Given as goal

abbrev pub invariant-turns : goal.invariant-turns
invariant-turns l = Shaped text_of l.items l.texts l.rest (length l.rest)

abbrev pub decreases-turns : goal.decreases-turns
decreases-turns l = length l.rest
