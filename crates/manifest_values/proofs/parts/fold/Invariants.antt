use Rattle.std.specs.Vec.Iter.{into_iter_items, into_iter_len}
use Rattle.manifest_values.proofs.PartLemmas.{Folds}
use Rattle.manifest_values.proofs.parts.fold.Given as goal

abbrev pub invariant-loop-item : goal.invariant-loop-item
invariant-loop-item g l =
    Folds (g.S.Step.makes l.fn.step) l.fn.start (into_iter_items l.initial.item-iterator) l.state
    (into_iter_items l.item-iterator) (into_iter_len l.item-iterator)
