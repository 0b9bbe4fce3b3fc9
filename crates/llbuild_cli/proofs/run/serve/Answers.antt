use Rattle.std.proofs.Common.{map, ap, sym, subst, ◌∙◌}
use Rattle.std.specs.Prelude.{string_bytes, Ok}
use Rattle.std.specs.Global.{Global}
use Rattle.command_line.specs.declared.job.Job.{Job}
use Rattle.command_line.specs.declared.job.Job.TheVariants as jobs
use Rattle.llbuild_cli.specs.Course.{ParseCourse}
use Rattle.llbuild_cli.specs.Finish.{end_in}
use Rattle.llbuild_cli.specs.Journal.{Journal}
use Rattle.llbuild_cli.specs.Plan.{refused_end}
use Rattle.llbuild_cli.specs.Run.{Answers, answers_of, report_of, run_of}
use Rattle.llbuild_cli.proofs.ProgressLemmas.{known_err}
use Rattle.llbuild_cli.proofs.RunLemmas.{left_stayed, served, served_none, served_unbuilt}
use Rattle.llbuild_cli.proofs.run.serve.Goals as goal

pub returns-in_err-file : goal.returns-in_err-file
returns-in_err-file g c =
    let answers : Answers = answers_of g.L.Law.does g.W.World.ended g.W.Disk.gave in
    let refusal = c.in_err-file.field-0.0 in
    served_none answers (map (string_bytes {Z = Global}) c.args.words.now) (g.W.Disk.view c.args.world.now) (g.O.Sink.view c.args.out.now) c.args.seen.now
    c.from_residual.result refusal (known_err c.from_residual.result (refused_end refusal) c.from_residual.ensures.1) c.requires.unused c.requires.none
    c.in_err-file.ensures.refused

pub returns-in-Build : goal.returns-in-Build
returns-in-Build g c =
    let answers : Answers = answers_of g.L.Law.does g.W.World.ended g.W.Disk.gave in
    let b = c.in-Build in
    served answers _ (map (string_bytes {Z = Global}) c.args.words.now) (Ok (jobs.Build b.file b.db b.serial b.target b.settings))
    (c.in_ok-file.ensures.ok ∙ ap (λ (j : Job). Ok j) b.is) c.build_target.ensures.course c.build_target.ensures.left

pub returns-in-Parse : goal.returns-in-Parse
returns-in-Parse g c =
    let answers : Answers = answers_of g.L.Law.does g.W.World.ended g.W.Disk.gave in
    let old = g.W.Disk.view c.args.world.now in
    let new = g.W.Disk.view c.print_tree.new.world in
    let out = g.O.Sink.view c.args.out.now in
    let out' = g.O.Sink.view c.print_tree.new.out in
    let end = end_in c.print_tree.result in
    let course : ParseCourse g.W.Disk.gave (run_of old new out out' (report_of end c.args.seen.now)) c.in-Parse.file =
    subst (λ (j : Journal). ParseCourse g.W.Disk.gave (run_of old new out out' (report_of end j)) c.in-Parse.file) (sym c.requires.unused)
    c.print_tree.ensures.course in
    served answers _ (map (string_bytes {Z = Global}) c.args.words.now) (Ok (jobs.Parse c.in-Parse.file))
    (c.in_ok-file.ensures.ok ∙ ap (λ (j : Job). Ok j) c.in-Parse.is) course
    (left_stayed old new out out' (report_of end c.args.seen.now) c.print_tree.ensures.stayed c.requires.none)

pub returns-in-Dump : goal.returns-in-Dump
returns-in-Dump g c =
    let answers : Answers = answers_of g.L.Law.does g.W.World.ended g.W.Disk.gave in
    served_unbuilt answers (map (string_bytes {Z = Global}) c.args.words.now) (g.W.Disk.view c.args.world.now) (g.O.Sink.view c.args.out.now)
    c.args.seen.now (Ok (jobs.Dump c.in-Dump.db)) (c.in_ok-file.ensures.ok ∙ ap (λ (j : Job). Ok j) c.in-Dump.is) c.requires.unused c.requires.none (λ d. d)

pub returns-in-Rehearse : goal.returns-in-Rehearse
returns-in-Rehearse g c =
    let answers : Answers = answers_of g.L.Law.does g.W.World.ended g.W.Disk.gave in
    served_unbuilt answers (map (string_bytes {Z = Global}) c.args.words.now) (g.W.Disk.view c.args.world.now) (g.O.Sink.view c.args.out.now)
    c.args.seen.now (Ok (jobs.Rehearse c.in-Rehearse.script)) (c.in_ok-file.ensures.ok ∙ ap (λ (j : Job). Ok j) c.in-Rehearse.is) c.requires.unused
    c.requires.none (λ d. d)

pub returns : goal.returns
returns g c =
    let answers : Answers = answers_of g.L.Law.does g.W.World.ended g.W.Disk.gave in
    served_unbuilt answers (map (string_bytes {Z = Global}) c.args.words.now) (g.W.Disk.view c.args.world.now) (g.O.Sink.view c.args.out.now)
    c.args.seen.now (Ok (jobs.Generate c.in-Generate.number c.in-Generate.size)) (c.in_ok-file.ensures.ok ∙ ap (λ (j : Job). Ok j) c.in-Generate.is)
    c.requires.unused c.requires.none (λ d. d)
