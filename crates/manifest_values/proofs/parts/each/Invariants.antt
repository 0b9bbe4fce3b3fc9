use Rattle.std.specs.Vec.Iter.{into_iter_items, into_iter_len}
use Rattle.manifest_values.proofs.PartLemmas.{Reads}
use Rattle.manifest_values.proofs.parts.each.Given as goal

abbrev pub invariant-loop-item : goal.invariant-loop-item
invariant-loop-item g l =
    Reads (g.R.ReadPart.gives l.fn.reader) (into_iter_items l.initial.item-iterator) l.parts
    (into_iter_items l.item-iterator) (into_iter_len l.item-iterator)
