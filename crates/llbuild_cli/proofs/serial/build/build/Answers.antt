use Rattle.std.proofs.Common.{rules, ◌≡◌, ◌∙◌, ◌++◌, ℕ, List, length, sym, ap, subst}
use Rattle.file_info.specs.Content.{content, node_text}
use Rattle.file_info.specs.declared.info.Info.{Info}
use Rattle.file_info.specs.declared.info.Form.TheVariants.{Follow}
use Rattle.outside.specs.View.{Grew}
use Rattle.build_meaning.specs.Fresh.{Fresh}
use Rattle.build_meaning.specs.Need.{AreMarks}
use Rattle.build_report.specs.declared.report.Heard.{Heard}
use Rattle.build_report.specs.declared.report.Start.{Start}
use Rattle.llbuild_cli.specs.BuildStop.{IsBuildStop, IsFinishStop}
use Rattle.llbuild_cli.specs.Outcome.{AllDone, AllEnded}
use Rattle.llbuild_cli.specs.Journal.{Knows}
use Rattle.llbuild_cli.specs.Plan.{Plan}
use Rattle.llbuild_cli.specs.Run.{Answers, answers_of}
use Rattle.llbuild_cli.specs.Sight.{sights_of}
use Rattle.llbuild_cli.specs.Stands.{Stands}
use Rattle.llbuild_cli.specs.Start.{AllStarted}
use Rattle.build_report.specs.Text.{lines_of, summary_text}
use Rattle.llbuild_cli.proofs.MissingLemmas.{finish_missing, read_not_stuck, target_asks}
use Rattle.llbuild_cli.proofs.DidLemmas.{WasBuilt, did_all, did_stop, finished}
use Rattle.llbuild_cli.proofs.ProgressLemmas.{moved_stayed}
use Rattle.llbuild_cli.proofs.InputLemmas.{read_of}
use Rattle.llbuild_cli.proofs.NeedLemmas.{nodes_settled}
use Rattle.llbuild_cli.proofs.SinkLemmas.{Grew-both}
use Rattle.llbuild_cli.proofs.StartLemmas.{all_started}
use Rattle.llbuild_cli.proofs.StandsLemmas.{stands_looked}
use Rattle.llbuild_cli.proofs.StopLemmas.{finish_part, finish_stopped}
use Rattle.llbuild_cli.proofs.serial.build.build.Goals as goal

pub returns-in_err-run_all-clause-did : goal.returns-in_err-run_all-clause-did
returns-in_err-run_all-clause-did g c =
    let view = g.W.Disk.view in
    let seen_out = g.O.Sink.view in
    let m = c.args.manifest.now in
    let commands = m.commands in
    let target = c.args.target.now in
    let plan : Plan = record { manifest = m; target = target } in
    let answers : Answers = answers_of g.L.Law.does g.W.World.ended g.W.Disk.gave in
    let all = c.run_all.ensures in
    let ran : WasBuilt answers (view c.args.world.now) (view c.run_all.new.world) plan c.run_all.new.seen = record {
      once = all.once;
      sources = all.sources;
      started = all.starts;
      step = all.step;
      orders = all.orders;
      heard = all.heard;
      stood = all.stood;
      read = all.read;
      apart = all.moved;
    } in
    let stop = c.in_err-run_all.field-0.0 in
    let err = c.in_err-run_all.ensures in
    did_stop answers (view c.args.world.now) (view c.run_all.new.world) (seen_out c.args.out.now) (seen_out c.run_all.new.out) plan c.run_all.new.seen c.from_residual.result stop (search rules)
    ran err.missing err.part err.stop

pub returns-in_err-finish-clause-did : goal.returns-in_err-finish-clause-did
returns-in_err-finish-clause-did g c =
    let view = g.W.Disk.view in
    let seen_out = g.O.Sink.view in
    let m = c.args.manifest.now in
    let commands = m.commands in
    let target = c.args.target.now in
    let plan : Plan = record { manifest = m; target = target } in
    let answers : Answers = answers_of g.L.Law.does g.W.World.ended g.W.Disk.gave in
    let all = c.run_all.ensures in
    let ran : WasBuilt answers (view c.args.world.now) (view c.run_all.new.world) plan c.run_all.new.seen = record {
      once = all.once;
      sources = all.sources;
      started = all.starts;
      step = all.step;
      orders = all.orders;
      heard = all.heard;
      stood = all.stood;
      read = all.read;
      apart = all.moved;
    } in
    let marks = c.args.marks.now in
    let are : AreMarks commands target.nodes marks = c.requires.marks in
    let ok = c.in_ok-run_all.ensures in
    let j = c.finish.new.seen in
    let looked = c.finish.ensures.looked in
    let stayed = c.finish.ensures.stayed in
    let settled = nodes_settled target.nodes are ok.stands c.requires.built.nodes in
    let built : WasBuilt answers (view c.args.world.now) (view c.finish.new.world) plan j =
    finished answers (view c.args.world.now) (view c.run_all.new.world) (view c.finish.new.world) plan c.run_all.new.seen j ran stayed looked c.finish.ensures.once settled in
    let started : AllStarted commands target.nodes j.starts =
    subst (λ (ss : List Start). AllStarted commands target.nodes ss) (sym (looked.starts ∙ ok.started)) (all_started commands target.nodes marks are) in
    let done : AllDone j.heard = subst (λ (hs : List Heard). AllDone hs) (sym looked.heard) ok.done in
    let ended : AllEnded j.starts j.heard =
    subst (λ (ss : List Start). AllEnded ss j.heard) (sym looked.starts) (subst (λ (hs : List Heard). AllEnded c.run_all.new.seen.starts hs) (sym looked.heard) ok.ended) in
    let wrote : Grew (seen_out c.args.out.now) (seen_out c.run_all.new.out) (lines_of j.starts) =
    subst (λ (ss : List Start). Grew (seen_out c.args.out.now) (seen_out c.run_all.new.out) (lines_of ss)) (sym looked.starts) ok.wrote in
    let stop = c.in_err-finish.field-0.0 in
    let first = (view c.args.world.now).faults in
    let disk = (view c.run_all.new.world).faults in
    let disk' = (view c.finish.new.world).faults in
    let start = (seen_out c.args.out.now).faults in
    let sink = (seen_out c.run_all.new.out).faults in
    let sink' = (seen_out c.finish.new.out).faults in
    let why : IsFinishStop disk disk' sink sink' (seen_out c.run_all.new.out) (seen_out c.finish.new.out) (Knows j) target (summary_text (length j.starts)) stop =
    subst (λ (ss : List Start). IsFinishStop disk disk' sink sink' (seen_out c.run_all.new.out) (seen_out c.finish.new.out) (Knows j) target (summary_text (length ss)) stop) (sym looked.starts) c.in_err-finish.ensures.stop in
    let stopped : IsBuildStop first disk' start sink' (Knows j) commands target j.starts j.heard stop =
    finish_stopped first disk disk' start sink sink' (seen_out c.run_all.new.out) (seen_out c.finish.new.out) commands target j (summary_text (length j.starts)) stop started done ended all.moved.later all.later why in
    did_stop answers (view c.args.world.now) (view c.finish.new.world) (seen_out c.args.out.now) (seen_out c.finish.new.out) plan j c.from_residual-in_err-finish.result stop (search rules)
    built
    (finish_missing first disk' start sink' commands target (Knows j) j.starts j.heard stop started c.finish.ensures.once.single c.in_err-finish.ensures.asked stopped)
    (finish_part _ _ disk disk' sink sink' (seen_out c.args.out.now) (seen_out c.run_all.new.out) (seen_out c.finish.new.out) (Knows j) target j.starts stop started wrote why)
    stopped

pub returns-clause-did : goal.returns-clause-did
returns-clause-did g c =
    let view = g.W.Disk.view in
    let seen_out = g.O.Sink.view in
    let m = c.args.manifest.now in
    let commands = m.commands in
    let target = c.args.target.now in
    let plan : Plan = record { manifest = m; target = target } in
    let answers : Answers = answers_of g.L.Law.does g.W.World.ended g.W.Disk.gave in
    let all = c.run_all.ensures in
    let ran : WasBuilt answers (view c.args.world.now) (view c.run_all.new.world) plan c.run_all.new.seen = record {
      once = all.once;
      sources = all.sources;
      started = all.starts;
      step = all.step;
      orders = all.orders;
      heard = all.heard;
      stood = all.stood;
      read = all.read;
      apart = all.moved;
    } in
    let marks = c.args.marks.now in
    let are : AreMarks commands target.nodes marks = c.requires.marks in
    let ok = c.in_ok-run_all.ensures in
    let j = c.finish.new.seen in
    let looked = c.finish.ensures.looked in
    let stayed = c.finish.ensures.stayed in
    let settled = nodes_settled target.nodes are ok.stands c.requires.built.nodes in
    let built : WasBuilt answers (view c.args.world.now) (view c.finish.new.world) plan j =
    finished answers (view c.args.world.now) (view c.run_all.new.world) (view c.finish.new.world) plan c.run_all.new.seen j ran stayed looked c.finish.ensures.once settled in
    let started : AllStarted commands target.nodes j.starts =
    subst (λ (ss : List Start). AllStarted commands target.nodes ss) (sym (looked.starts ∙ ok.started)) (all_started commands target.nodes marks are) in
    let done : AllDone j.heard = subst (λ (hs : List Heard). AllDone hs) (sym looked.heard) ok.done in
    let ended : AllEnded j.starts j.heard =
    subst (λ (ss : List Start). AllEnded ss j.heard) (sym looked.starts) (subst (λ (hs : List Heard). AllEnded c.run_all.new.seen.starts hs) (sym looked.heard) ok.ended) in
    let wrote : Grew (seen_out c.args.out.now) (seen_out c.run_all.new.out) (lines_of j.starts) =
    subst (λ (ss : List Start). Grew (seen_out c.args.out.now) (seen_out c.run_all.new.out) (lines_of ss)) (sym looked.starts) ok.wrote in
    let reads = c.in_ok-finish.ensures.reads in
    let final : Stands g.L.Law.does commands marks (length commands) (view c.finish.new.world) j =
    stands_looked ok.stands (moved_stayed stayed) (λ p i k n. n) settled looked in
    let at = (view c.finish.new.world).at in
    did_all answers (view c.args.world.now) (view c.finish.new.world) (seen_out c.args.out.now) (seen_out c.finish.new.out) plan j tt
    built
    (λ k t. record {
      fresh = λ n i.
          (let one = (read_of target.nodes reads.0 reads.1 n i).1.1 in
          let path : node_text n.node ≡ one.saw.path = ap node_text one.saw.node in
          let stood : at one.saw.path Follow ≡ one.info = final.stand (g.met.W.Disk.tells_infos c.finish.new.world k t) one.saw.path one.info one.saw.was in
          subst (λ (p : List ℕ). Fresh g.L.Law.does k commands (sights_of j.stats) p (content k p (at p Follow))) (sym path)
          (subst (λ (info : Info). Fresh g.L.Law.does k commands (sights_of j.stats) one.saw.path (content k one.saw.path info)) (sym stood)
          (final.fresh k t one.saw.path one.info one.saw.was)));
      there = λ n i missing.
          (let one = (read_of target.nodes reads.0 reads.1 n i).1.1 in
          let path : one.saw.path ≡ node_text n.node = ap node_text (sym one.saw.node) in
          one.there (sym (final.stand (g.met.W.Disk.tells_infos c.finish.new.world k t) one.saw.path one.info one.saw.was) ∙ ap (λ (p : List ℕ). at p Follow) path ∙ missing));
    })
    started reads done ended
    (λ asker node stuck. read_not_stuck c.finish.ensures.once.single (target_asks started) reads stuck)
    (subst (λ (ss : List Start). Grew (seen_out c.args.out.now) (seen_out c.finish.new.out) (lines_of ss ++ summary_text (length ss))) (sym looked.starts)
    (Grew-both (seen_out c.args.out.now) (seen_out c.run_all.new.out) (seen_out c.finish.new.out) (lines_of c.run_all.new.seen.starts) (summary_text (length c.run_all.new.seen.starts)) ok.wrote c.in_ok-finish.ensures.wrote))
