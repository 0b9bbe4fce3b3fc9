use Rattle.std.specs.Vec.Iter.{into_iter_items, into_iter_len}
use Rattle.manifest_reader.proofs.OutputLemmas.{Splits}
use Rattle.manifest_reader.proofs.outputs.set_outputs.Given as goal

abbrev pub invariant-loop-output : goal.invariant-loop-output
invariant-loop-output l =
    Splits (into_iter_items l.initial.output-iterator) l.nodes l.directory (into_iter_items l.output-iterator) (into_iter_len l.output-iterator)
