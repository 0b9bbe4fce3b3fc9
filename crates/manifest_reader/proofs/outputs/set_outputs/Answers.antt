use Rattle.std.proofs.Common.{rules, ◌≡◌, map, refl, ◌∙◌, ap}
use Rattle.std.specs.Option.{option_or}
use Rattle.std.specs.Vec.Iter.{into_iter_items}
use Rattle.build_manifest.specs.declared.command.Input.{Input}
use Rattle.manifest_reader.specs.Commands.{directory_at, directory_from}
use Rattle.manifest_reader.proofs.OutputLemmas.{split_begins, split_next, split_nodes, split_first}
use Rattle.manifest_reader.proofs.outputs.set_outputs.Goals as goal

pub loop-output-init : goal.loop-output-init
loop-output-init c = split_begins _ _ _ _ (cc) refl (search rules)

pub loop-output-preserved : goal.loop-output-preserved
loop-output-preserved c =
    split_next _ _ _ _ _ _ _ _ _ c.in-Some.output c.loop-output.invariant c.in-Some.ensures.steps.0 c.in-Some.ensures.steps.1
    (c.first_directory-directory.ensures
    ∙ ap (λ n. option_or c.loop-output.directory (directory_at n c.in-Some.output.written c.in-Some.output.form)) c.len-in-loop-output.ensures)
    c.in_ok-push.ensures.ok

pub returns : goal.returns
returns c =
    let same : into_iter_items c.into_iter-output-iterator.result ≡ c.args.outputs = cc in
    let nodes : c.loop-output.nodes ≡ map (λ (o : Input). o.node) c.args.outputs
    = split_nodes _ c.args.outputs _ _ _ _ same c.loop-output.invariant c.in-None.ensures.steps.0 in
    let first : c.loop-output.directory ≡ directory_from 0 c.args.outputs
    = split_first _ c.args.outputs _ _ _ _ same c.loop-output.invariant c.in-None.ensures.steps.0 in
    record { ok = cc (nodes, first); err = tt }
