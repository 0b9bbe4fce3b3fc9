use Rattle.std.proofs.Common.{◌≡◌, ◌≤◌, List, length, subst, arith}
use Rattle.std.specs.Prelude.{Some, slice_get}
use Rattle.file_info.proofs.Lists.{In-get}
use Rattle.build_manifest.specs.declared.command.Input.{Input}
use Rattle.build_plan.proofs.LaterLemmas.{all_earlier, first_found, item_there, one_earlier}
use Rattle.build_plan.proofs.later.first_later.Goals as goal

pub is_later-requires-clause-file : goal.is_later-requires-clause-file
is_later-requires-clause-file c =
    let there = item_there c.as_slice-input-items.result.now c.loop-at.at c.input-item.result c.loop-at-test.true c.input-item.is in
    let same : slice_get c.args.inputs.now c.loop-at.at ≡ Some c.input-item.result =
    subst (λ (is : List Input). slice_get is c.loop-at.at ≡ Some c.input-item.result) c.as_slice-input-items.ensures there in
    c.requires.files c.input-item.result (In-get c.args.inputs.now c.loop-at.at c.input-item.result same)

pub returns-then-is_later : goal.returns-then-is_later
returns-then-is_later c =
    let there = item_there c.as_slice-input-items.result.now c.loop-at.at c.input-item.result c.loop-at-test.true c.input-item.is in
    let same : slice_get c.args.inputs.now c.loop-at.at ≡ Some c.input-item.result =
    subst (λ (is : List Input). slice_get is c.loop-at.at ≡ Some c.input-item.result) c.as_slice-input-items.ensures there in
    first_found c.args.manifest.now.commands c.args.place c.args.inputs.now c.loop-at.at c.input-item.result c.loop-at.invariant same
    (c.is_later.ensures.0 c.if-is_later.true)

pub loop-at-preserved : goal.loop-at-preserved
loop-at-preserved c =
    let there = item_there c.as_slice-input-items.result.now c.loop-at.at c.input-item.result c.loop-at-test.true c.input-item.is in
    let same : slice_get c.args.inputs.now c.loop-at.at ≡ Some c.input-item.result =
    subst (λ (is : List Input). slice_get is c.loop-at.at ≡ Some c.input-item.result) c.as_slice-input-items.ensures there in
    one_earlier c.args.manifest.now.commands c.args.place c.args.inputs.now c.loop-at.at c.input-item.result c.loop-at.invariant same
    (λ late. (let no = c.if-is_later.false in let yes = c.is_later.ensures.1 late in cc (no, yes)))

pub returns : goal.returns
returns c =
    let last = c.loop-at-test.false in
    let past : length c.args.inputs.now ≤ c.loop-at.at = subst (λ (is : List Input). length is ≤ c.loop-at.at) c.as_slice-input-items.ensures (omega arith) in
    all_earlier c.args.manifest.now.commands c.args.place c.args.inputs.now c.loop-at.at c.loop-at.invariant past
