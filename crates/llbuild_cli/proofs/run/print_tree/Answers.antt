use Rattle.std.proofs.Common.{inl, inr, refl, subst, ℕ, List}
use Rattle.outside.specs.View.{Grew}
use Rattle.build_report.specs.declared.report.End.TheVariants as ends
use Rattle.llbuild_cli.specs.Course.{part, whole}
use Rattle.llbuild_cli.specs.Growth.{GrewByPart}
use Rattle.llbuild_cli.specs.Journal.{unused}
use Rattle.llbuild_cli.specs.Plan.{IsUnopened, refused_end}
use Rattle.llbuild_cli.proofs.ProgressLemmas.{known_err}
use Rattle.llbuild_cli.proofs.RunLemmas.{declined_err, printed}
use Rattle.llbuild_cli.proofs.run.print_tree.Goals as goal

pub returns-in_err-text-clause-course : goal.returns-in_err-text-clause-course
returns-in_err-text-clause-course g c =
    let view = g.W.Disk.view in
    let refusal = c.in_err-text.field-0.0 in
    inl (declined_err (IsUnopened g.W.Disk.gave (view c.args.world.now) (view c.tree_text.new.world) c.args.file.now) (view c.args.world.now)
    (view c.tree_text.new.world) (g.O.Sink.view c.args.out.now) unused c.from_residual.result refusal
    (known_err c.from_residual.result (refused_end refusal) c.from_residual.ensures.1) refl c.in_err-text.ensures.refused c.tree_text.ensures.stayed)

pub returns-in-Ok-clause-course : goal.returns-in-Ok-clause-course
returns-in-Ok-clause-course g c =
    let view = g.W.Disk.view in
    inr (printed g.W.Disk.gave (view c.args.world.now) (view c.tree_text.new.world) (g.O.Sink.view c.args.out.now) (g.O.Sink.view c.put_all.new.out)
    c.args.file.now c.in_ok-text.text ends.Ok c.in_ok-text.ensures.ok c.tree_text.ensures.stayed
    (whole (subst (λ (t : List ℕ). Grew (g.O.Sink.view c.args.out.now) (g.O.Sink.view c.put_all.new.out) t) c.as_slice.ensures c.in-Ok.ensures.ok)))

pub returns-clause-course : goal.returns-clause-course
returns-clause-course g c =
    let view = g.W.Disk.view in
    let old = g.O.Sink.view c.args.out.now in
    let new = g.O.Sink.view c.put_all.new.out in
    inr (printed g.W.Disk.gave (view c.args.world.now) (view c.tree_text.new.world) old new c.args.file.now c.in_ok-text.text ends.SinkFault
    c.in_ok-text.ensures.ok c.tree_text.ensures.stayed
    (part c.in-Err.ensures.cause (subst (λ (t : List ℕ). GrewByPart old new t) c.as_slice.ensures c.in-Err.ensures.part)))
