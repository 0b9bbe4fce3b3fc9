use Rattle.std.specs.Vec.Iter.{into_iter_items, into_iter_len}
use Rattle.manifest_values.specs.Values.{variable_of}
use Rattle.manifest_values.proofs.ShapeLemmas.{Shaped}
use Rattle.manifest_values.proofs.values.all_variables.Given as goal

abbrev pub invariant-loop-pair : goal.invariant-loop-pair
invariant-loop-pair l =
    Shaped variable_of (into_iter_items l.initial.pair-iterator) l.variables (into_iter_items l.pair-iterator) (into_iter_len l.pair-iterator)
