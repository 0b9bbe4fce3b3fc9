use Rattle.std.proofs.Common.{arith, ◌≡◌, [], Some, length, ◌≤◌, sym, ◌∙◌, subst, ap, inr}
use Rattle.std.proofs.lemmas.List.{nil_from_length}
use Rattle.name_list.specs.EntryNames.{is_entry_name}
use Rattle.name_list.specs.ListFaults.{first_fault}
use Rattle.name_list.specs.declared.fault.ListError.TheVariants.{Bad, Repeated}
use Rattle.name_list.proofs.SortLemmas.{IsTaken, next_of, none_taken, no_more, takes_as, bad_next, repeated_next, all_taken, left_alike}
use Rattle.name_list.proofs.sorting.set_of.Goals as goal

pub loop-name-init : goal.loop-name-init
loop-name-init c =
    let vec = c.into_vec-name-items in
    let queue = c.into_iter-name-iterator.ensures.into_iter_gives in
    let left = ap length queue.0 ∙ sym vec.result.ok.0 ∙ sym queue.1 in
    (tt, tt, left, c.new-set.ensures.ordered, none_taken _ _ _ c.new-set.ensures.empty (queue.0 ∙ vec.ensures))

pub overflow_cast-place : goal.overflow_cast-place
overflow_cast-place c =
    let few : length c.loop-name.set.keys ≤ length c.args.names = no_more _ _ _ _ c.loop-name.invariant.4 in
    grind (arith, few, c.len-place.ensures.len, c.requires)

pub returns-then-not-names_entry-clause-refused : goal.returns-then-not-names_entry-clause-refused
returns-then-not-names_entry-clause-refused c =
    let names = c.if-not-names_entry.ensures ∙ ap is_entry_name c.as_slice.ensures in
    inr (bad_next _ _ _ _ _ _ c.loop-name.invariant.4 c.in-Some.ensures.steps.0 names ∙ ap (λ n. Some (Bad n)) (sym c.len-place.ensures.len))

pub returns-then-not-branch-clause-refused : goal.returns-then-not-branch-clause-refused
returns-then-not-branch-clause-refused c =
    let names = c.if-not-names_entry.ensures ∙ ap is_entry_name c.as_slice.ensures in
    let next = next_of _ _ _ _ _ _ c.into_vec.result c.loop-name.invariant.4 c.in-Some.ensures.steps.0 names c.into_vec.ensures in
    let kept = sym c.if-not-branch.true ∙ c.in_ok-insert.ensures.added in
    inr (repeated_next _ _ _ _ _ next kept ∙ ap (λ n. Some (Repeated n)) (sym c.len-place.ensures.len))

pub loop-name-preserved : goal.loop-name-preserved
loop-name-preserved c =
    let steps = c.in-Some.ensures.steps in
    let names = c.if-not-names_entry.ensures ∙ ap is_entry_name c.as_slice.ensures in
    let next = next_of _ _ _ _ _ _ c.into_vec.result c.loop-name.invariant.4 steps.0 names c.into_vec.ensures in
    let added = sym c.if-not-branch.false ∙ c.in_ok-insert.ensures.added in
    let taken = takes_as _ _ _ _ _ _ _ next c.into_vec.ensures added c.in_ok-insert.ensures.keys in
    (tt, tt, left_alike _ _ _ _ _ c.loop-name.invariant.2 steps.0 steps.1, c.in_ok-insert.ensures.ordered, taken)

pub returns-clause-ok : goal.returns-clause-ok
returns-clause-ok c =
    let rest = nil_from_length _ (c.loop-name.invariant.2 ∙ c.in-None.ensures.steps.0) in
    let all = subst (IsTaken c.args.names c.loop-name.set.keys c.loop-name.yielded) rest c.loop-name.invariant.4 in
    (all_taken _ _ _ all c.loop-name.invariant.3).0

pub returns-clause-faultless : goal.returns-clause-faultless
returns-clause-faultless c =
    let rest = nil_from_length _ (c.loop-name.invariant.2 ∙ c.in-None.ensures.steps.0) in
    c.loop-name.invariant.4.faults ∙ ap (first_fault c.loop-name.yielded) rest
