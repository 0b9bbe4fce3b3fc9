use Rattle.std.proofs.Common.{◌≡◌, ◌++◌, map}
use Rattle.name_list.proofs.sorting.list_of.Given as goal

abbrev pub invariant-loop-name : goal.invariant-loop-name
invariant-loop-name l = l.list ++ map (λ v. v.items) l.name-iterator ≡ map (λ v. v.items) l.fn.set.keys
