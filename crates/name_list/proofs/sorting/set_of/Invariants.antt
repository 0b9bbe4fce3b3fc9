use Rattle.std.proofs.Common.{◌≡◌, length}
use Rattle.std.specs.List.Sorted.{IsStrictlySortedBy}
use Rattle.name_list.proofs.SortLemmas.{vec_cmp, IsTaken}
use Rattle.name_list.proofs.sorting.set_of.Given as goal

abbrev pub invariant-loop-name : goal.invariant-loop-name
invariant-loop-name l =
    (goal.iterator-loop-name).can_next l.name-iterator ×
    (goal.iterator-loop-name).is_finite l.name-iterator ×
    (length l.name-iterator.rest.items ≡ l.name-iterator.rest.len) ×
    IsStrictlySortedBy vec_cmp l.set.keys ×
    IsTaken l.fn.names l.set.keys l.yielded l.name-iterator.rest.items
