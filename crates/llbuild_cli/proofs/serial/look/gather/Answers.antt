use Rattle.std.proofs.Common.{rules, ◌≡◌, ◌+◌, ◌++◌, ◌∷◌, [], take, drop, sym, ◌∙◌, ap, subst}
use Rattle.std.proofs.lemmas.List.{take_more}
use Rattle.file_info.proofs.Lists.{In-at, In-one, take-drop}
use Rattle.file_info.specs.Lists.{In}
use Rattle.build_manifest.specs.declared.command.Input.{Input}
use Rattle.llbuild_cli.specs.Journal.{Knows}
use Rattle.llbuild_cli.proofs.ProgressLemmas.{stayed_both, looked_kept, looked_both, looked_stayed, looked_wider, if_err}
use Rattle.llbuild_cli.proofs.InputLemmas.{read_more, all_read_on, read_stop}
use Rattle.llbuild_cli.proofs.serial.look.gather.Goals as goal

pub read_input-requires-clause-file : goal.read_input-requires-clause-file
read_input-requires-clause-file g c κs within =
    let items = c.as_slice-input-items.result.now in
    c.requires.files c.input-item.result
    (subst (In c.input-item.result) c.as_slice-input-items.ensures
    (subst (λ (z : Input). In z items) (sym c.input-item.is) (In-at items c.loop-input.input-index c.input-item.result c.loop-input-test.true)))

pub returns-in_err-read-clause-looked : goal.returns-in_err-read-clause-looked
returns-in_err-read-clause-looked g c =
    let items = c.as_slice-input-items.result.now in
    let one : In c.input-item.result c.args.inputs.now = subst (In c.input-item.result) c.as_slice-input-items.ensures
    (subst (λ (z : Input). In z items) (sym c.input-item.is) (In-at items c.loop-input.input-index c.input-item.result c.loop-input-test.true)) in
    looked_both (looked_stayed c.read_input.ensures.stayed c.loop-input.invariant.looked)
    (looked_wider (λ p i. (i.0, (subst (λ (z : Input). In z c.args.inputs.now) (sym (In-one i.1.0)) one, i.1.1))) c.read_input.ensures.looked)

pub returns-in_err-read-clause-stop : goal.returns-in_err-read-clause-stop
returns-in_err-read-clause-stop g c =
    let items = c.as_slice-input-items.result.now in
    let at = c.loop-input.input-index in
    let one = c.input-item.result in
    let view = g.W.Disk.view in
    let parts : c.args.inputs.now ≡ take at items ++ one ∷ drop (at + 1) items =
    sym c.as_slice-input-items.ensures ∙ take-drop items at one c.input-item.is c.loop-input-test.true in
    if_err c.from_residual.result c.in_err-read.field-0.0 _ (search rules)
    (read_stop c.in_err-read.field-0.0 (view c.args.world.now).faults (view c.loop-input.world).faults (view c.read_input.new.world).faults
    c.args.asker.now (Knows c.loop-input.seen) (Knows c.read_input.new.seen) (take at items) one (drop (at + 1) items) c.args.inputs.now parts
    c.loop-input.reads c.loop-input.invariant.reads c.loop-input.invariant.stayed.later (looked_kept c.read_input.ensures.looked) c.in_err-read.ensures.stop)

pub returns-in_err-read-clause-stayed : goal.returns-in_err-read-clause-stayed
returns-in_err-read-clause-stayed g c = stayed_both c.loop-input.invariant.stayed c.read_input.ensures.stayed

pub loop-input-preserved : goal.loop-input-preserved
loop-input-preserved g c =
    let items = c.as_slice-input-items.result.now in
    let at = c.loop-input.input-index in
    let one = c.input-item.result in
    let is_one : In one c.args.inputs.now = subst (In one) c.as_slice-input-items.ensures
    (subst (λ (z : Input). In z items) (sym c.input-item.is) (In-at items at one c.loop-input-test.true)) in
    let looked = c.read_input.ensures.looked in
    let old = c.loop-input.invariant in
    let more : take (at + 1) items ≡ take at items ++ one ∷ [] = take_more items at one c.loop-input-test.true ∙ ap (λ (z : Input). take at items ++ z ∷ []) (sym c.input-item.is) in
    record {
      looked = looked_both (looked_stayed c.read_input.ensures.stayed old.looked)
          (looked_wider (λ p i. (i.0, (subst (λ (z : Input). In z c.args.inputs.now) (sym (In-one i.1.0)) is_one, i.1.1))) looked);
      once = c.read_input.ensures.once;
      reads = rw (more, c.in_ok-push.ensures.ok) (read_more (take at items) c.loop-input.reads (all_read_on (looked_kept looked) (take at items) c.loop-input.reads old.reads) c.in_ok-read.ensures.read);
      stayed = stayed_both old.stayed c.read_input.ensures.stayed;
    }

pub returns-in_err-push-clause-looked : goal.returns-in_err-push-clause-looked
returns-in_err-push-clause-looked g c =
    let items = c.as_slice-input-items.result.now in
    let one : In c.input-item.result c.args.inputs.now = subst (In c.input-item.result) c.as_slice-input-items.ensures
    (subst (λ (z : Input). In z items) (sym c.input-item.is) (In-at items c.loop-input.input-index c.input-item.result c.loop-input-test.true)) in
    looked_both (looked_stayed c.read_input.ensures.stayed c.loop-input.invariant.looked)
    (looked_wider (λ p i. (i.0, (subst (λ (z : Input). In z c.args.inputs.now) (sym (In-one i.1.0)) one, i.1.1))) c.read_input.ensures.looked)
