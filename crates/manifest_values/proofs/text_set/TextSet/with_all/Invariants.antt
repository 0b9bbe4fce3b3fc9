use Rattle.std.proofs.Common.{◌++◌}
use Rattle.std.specs.Vec.Iter.{into_iter_items, into_iter_len}
use Rattle.manifest_values.proofs.KnownLemmas.{Joins}
use Rattle.manifest_values.proofs.text_set.TextSet.with_all.Given as goal

abbrev pub invariant-loop-text : goal.invariant-loop-text
invariant-loop-text l =
    Joins (l.initial.texts ++ into_iter_items l.initial.text-iterator) l.texts (into_iter_items l.text-iterator) (into_iter_len l.text-iterator)
