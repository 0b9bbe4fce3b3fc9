use Rattle.std.specs.Vec.Iter.{into_iter_items, into_iter_len}
use Rattle.manifest_values.specs.Shapes.{text_of}
use Rattle.manifest_values.proofs.ShapeLemmas.{Shaped}
use Rattle.manifest_values.proofs.shapes.all_texts.Given as goal

abbrev pub invariant-loop-item : goal.invariant-loop-item
invariant-loop-item l =
    Shaped text_of (into_iter_items l.initial.item-iterator) l.texts (into_iter_items l.item-iterator) (into_iter_len l.item-iterator)
