use Rattle.std.proofs.Common.{ap, inl, inr, refl, ◌∙◌}
use Rattle.std.specs.Prelude.{Result, Ok, Err}
use Rattle.outside.specs.declared.world.NoFault.{NoFault}
use Rattle.build_report.specs.declared.report.End.{End}
use Rattle.llbuild_cli.specs.Finish.{end_in}
use Rattle.llbuild_cli.specs.Plan.{IsUnplanned, Plan, build_job, no_target, refused_end}
use Rattle.llbuild_cli.specs.Run.{Answers, answers_of}
use Rattle.llbuild_cli.specs.Stop.{end_of}
use Rattle.llbuild_cli.proofs.ProgressLemmas.{known_err}
use Rattle.llbuild_cli.proofs.OpenLemmas.{opened_plan, opened_targetless, opened_unbuilt, unopened_unplanned}
use Rattle.llbuild_cli.proofs.RunLemmas.{declined_err, planned_err}
use Rattle.llbuild_cli.proofs.run.build_target.Goals as goal

pub returns-in_err-manifest-clause-course : goal.returns-in_err-manifest-clause-course
returns-in_err-manifest-clause-course g c =
    let view = g.W.Disk.view in
    let job = build_job c.args.file.now c.args.target in
    let refusal = c.in_err-manifest.field-0.0 in
    inl (declined_err (IsUnplanned g.W.Disk.gave (view c.args.world.now) (view c.open.new.world) job) (view c.args.world.now) (view c.open.new.world)
    (g.O.Sink.view c.args.out.now) c.args.seen.now c.from_residual.result refusal
    (known_err c.from_residual.result (refused_end refusal) c.from_residual.ensures.1) c.requires.unused
    (unopened_unplanned c.args.file.now c.args.target refusal c.in_err-manifest.ensures.refused) c.open.ensures.stayed)

pub returns-in_err-marks-in-Some-clause-course : goal.returns-in_err-marks-in-Some-clause-course
returns-in_err-marks-in-Some-clause-course g c =
    let view = g.W.Disk.view in
    let job = build_job c.args.file.now c.args.target in
    let refusal = c.in_err-marks-in-Some.field-0.0 in
    inl (declined_err (IsUnplanned g.W.Disk.gave (view c.args.world.now) (view c.open.new.world) job) (view c.args.world.now) (view c.open.new.world)
    (g.O.Sink.view c.args.out.now) c.args.seen.now c.from_residual-in_err-marks-in-Some.result refusal
    (known_err c.from_residual-in_err-marks-in-Some.result (refused_end refusal) c.from_residual-in_err-marks-in-Some.ensures.1) c.requires.unused
    (opened_unbuilt c.args.file.now c.args.target c.in_ok-manifest.manifest c.in-Some.entry.now refusal c.in_ok-manifest.ensures.ok c.in-Some.ensures
    c.in_err-marks-in-Some.ensures.refused) c.open.ensures.stayed)

pub returns-in_err-build-in-Some-clause-course : goal.returns-in_err-build-in-Some-clause-course
returns-in_err-build-in-Some-clause-course g c =
    let view = g.W.Disk.view in
    let answers : Answers = answers_of g.L.Law.does g.W.World.ended g.W.Disk.gave in
    let job = build_job c.args.file.now c.args.target in
    let plan : Plan = record { manifest = c.in_ok-manifest.manifest; target = c.in-Some.entry.now } in
    let stop = c.in_err-build-in-Some.field-0.0 in
    let same = known_err c.from_residual-in_err-build-in-Some.result (end_of stop) c.from_residual-in_err-build-in-Some.ensures.1 in
    let did = c.in_err-build-in-Some.ensures.did in
    inr (planned_err answers (view c.args.world.now) (view c.open.new.world) (view c.build.new.world) (g.O.Sink.view c.args.out.now)
    (g.O.Sink.view c.build.new.out) job c.build.new.seen plan c.from_residual-in_err-build-in-Some.result (Err stop)
    (ap (λ (r : Result (Unit {0}) (End NoFault)). end_in r) same)
    (opened_plan c.args.file.now c.args.target c.in_ok-manifest.manifest c.in-Some.entry.now did.apart.keeps c.in_ok-manifest.ensures.ok c.in-Some.ensures
    c.in_ok-marks-in-Some.ensures.built) c.open.ensures.stayed did)

pub returns-in_ok-build-in-Some-clause-course : goal.returns-in_ok-build-in-Some-clause-course
returns-in_ok-build-in-Some-clause-course g c =
    let view = g.W.Disk.view in
    let answers : Answers = answers_of g.L.Law.does g.W.World.ended g.W.Disk.gave in
    let job = build_job c.args.file.now c.args.target in
    let plan : Plan = record { manifest = c.in_ok-manifest.manifest; target = c.in-Some.entry.now } in
    let did = c.in_ok-build-in-Some.ensures.did in
    inr (planned_err answers (view c.args.world.now) (view c.open.new.world) (view c.build.new.world) (g.O.Sink.view c.args.out.now)
    (g.O.Sink.view c.build.new.out) job c.build.new.seen plan (Ok tt) (Ok tt) refl
    (opened_plan c.args.file.now c.args.target c.in_ok-manifest.manifest c.in-Some.entry.now did.apart.keeps c.in_ok-manifest.ensures.ok c.in-Some.ensures
    c.in_ok-marks-in-Some.ensures.built) c.open.ensures.stayed did)

pub returns-in-None-clause-course : goal.returns-in-None-clause-course
returns-in-None-clause-course g c =
    let view = g.W.Disk.view in
    let job = build_job c.args.file.now c.args.target in
    let refusal = no_target c.args.target in
    inl (declined_err (IsUnplanned g.W.Disk.gave (view c.args.world.now) (view c.open.new.world) job) (view c.args.world.now) (view c.open.new.world)
    (g.O.Sink.view c.args.out.now) c.args.seen.now (Err c.from.result) refusal
    (ap (λ (e : End NoFault). Err e) (c.from.ensures ∙ ap refused_end c.no_target.ensures)) c.requires.unused
    (opened_targetless c.args.file.now c.args.target c.in_ok-manifest.manifest c.in_ok-manifest.ensures.ok c.in-None.ensures) c.open.ensures.stayed)
