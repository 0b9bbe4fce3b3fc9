use Rattle.std.proofs.Common.{rules, ◌≡◌, ◌⊎◌, ◌∙◌, ◌++◌, ◌∷◌, [], ℕ, List, true, false, drop, take, length, sym, ap, subst, arith, inl, inr}
use Rattle.std.specs.Prelude.{slice_get, Some}
use Rattle.std.proofs.lemmas.List.{length-take}
use Rattle.file_info.proofs.Lists.{In-get, get-read, take-drop-get}
use Rattle.file_info.specs.Lists.{In}
use Rattle.file_info.specs.declared.info.Info.{Info}
use Rattle.build_meaning.specs.Fresh.{IsMade}
use Rattle.build_meaning.specs.Need.{IsNeeded}
use Rattle.build_meaning.specs.Orderly.{AreOrderly}
use Rattle.build_meaning.proofs.OrderlyLemmas.{orderly}
use Rattle.build_plan.specs.Built.{IsBuiltAt}
use Rattle.build_report.specs.declared.report.Start.{Start}
use Rattle.llbuild_cli.specs.Journal.{Knows}
use Rattle.llbuild_cli.specs.Plan.{Plan}
use Rattle.llbuild_cli.specs.CommandRun.{IsInput}
use Rattle.llbuild_cli.specs.Source.{AreSources}
use Rattle.llbuild_cli.specs.Start.{AreStarts, start_of}
use Rattle.llbuild_cli.proofs.MissingLemmas.{first_more, run_missing}
use Rattle.llbuild_cli.proofs.DidLemmas.{sources_more}
use Rattle.llbuild_cli.proofs.ProgressLemmas.{if_err, moved_both, moved_wider}
use Rattle.llbuild_cli.proofs.NeedLemmas.{made_once, inputs_settled, outputs_unseen}
use Rattle.llbuild_cli.proofs.PlaceLemmas.{made_here, stands_ran, stands_skip}
use Rattle.llbuild_cli.proofs.StartLemmas.{starts_few, starts_more, starts_skip, are_starts, not_started}
use Rattle.llbuild_cli.proofs.StopLemmas.{build_stopped, came_starts, done_one, even_names, is_next, names_both, orders_one, orders_stopped, starts_grow, starts_stopped, step_stopped, wrote_more, wrote_stopped}
use Rattle.llbuild_cli.proofs.serial.build.run_all.Goals as goal

pub run_one-requires-clause-sound : goal.run_one-requires-clause-sound
run_one-requires-clause-sound g c κs within =
    let view = g.W.Disk.view in
    let seen_out = g.O.Sink.view in
    let m = c.args.manifest.now in
    let commands = m.commands in
    let target = c.args.target.now in
    let wanted = target.nodes in
    let plan : Plan = record { manifest = m; target = target } in
    let marks = c.args.marks.now in
    let place = c.commands.place in
    let cmd = c.in-Some.command.now in
    let old = c.commands.invariant in
    let rule : AreOrderly commands = orderly m c.keeps.ensures in
    let at_place : slice_get commands place ≡ Some cmd = sym c.in-Some.ensures.value in
    let marked : slice_get marks place ≡ Some true = get-read marks place false true c.if-not-is_marked.false c.commands-test.true in
    let named : In cmd commands = In-get commands place cmd at_place in
    let needed : IsNeeded commands wanted cmd = (c.requires.marks.each place cmd at_place).0 marked in
    let here : IsBuiltAt commands place cmd = c.requires.built.commands place cmd at_place needed in
    record {
      command = c.keeps.ensures.parts.each_command cmd named;
      plain = here.plain;
      distinct = rule.outputs cmd named;
      apart = λ p i o. here.earlier i.0 i.1.0 (subst (λ (q : List ℕ). IsMade (drop place commands) q) i.1.1 (made_here commands place cmd p at_place o));
    }

pub run_one-requires-clause-room : goal.run_one-requires-clause-room
run_one-requires-clause-room g c κs within =
    let before = take c.commands.place c.args.manifest.now.commands in
    omega (arith, ap length c.commands.invariant.starts, starts_few before c.args.marks.now, length-take c.commands.place c.args.manifest.now.commands, c.keeps.ensures.parts.few_commands)

pub run_one-requires-clause-unseen : goal.run_one-requires-clause-unseen
run_one-requires-clause-unseen g c κs within p o =
    outputs_unseen c.commands.invariant.stands c.in-Some.command.now (sym c.in-Some.ensures.value) p o

pub run_one-requires-clause-even : goal.run_one-requires-clause-even
run_one-requires-clause-even g c κs within =
    even_names c.commands.seen.starts c.commands.seen.heard c.commands.invariant.names

pub returns-in_err-run_one-clause-moved : goal.returns-in_err-run_one-clause-moved
returns-in_err-run_one-clause-moved g c =
    let view = g.W.Disk.view in
    let seen_out = g.O.Sink.view in
    let m = c.args.manifest.now in
    let commands = m.commands in
    let target = c.args.target.now in
    let wanted = target.nodes in
    let plan : Plan = record { manifest = m; target = target } in
    let marks = c.args.marks.now in
    let place = c.commands.place in
    let cmd = c.in-Some.command.now in
    let old = c.commands.invariant in
    let rule : AreOrderly commands = orderly m c.keeps.ensures in
    let at_place : slice_get commands place ≡ Some cmd = sym c.in-Some.ensures.value in
    let marked : slice_get marks place ≡ Some true = get-read marks place false true c.if-not-is_marked.false c.commands-test.true in
    let named : In cmd commands = In-get commands place cmd at_place in
    let needed : IsNeeded commands wanted cmd = (c.requires.marks.each place cmd at_place).0 marked in
    let settled : (p : List ℕ) → IsInput cmd.inputs p → IsMade commands p → (i : Info) × Knows c.commands.seen p i =
    inputs_settled wanted c.requires.marks old.stands cmd at_place marked (c.requires.built.commands place cmd at_place needed) in
    let one = c.run_one.ensures in
    let before = c.commands.seen.starts in
    let after = c.run_one.new.seen.starts in
    let heard = c.commands.seen.heard in
    let ends = c.run_one.new.seen.heard in
    let sources : AreSources plan c.run_one.new.seen.stats =
    sources_more plan (IsInput cmd.inputs) c.commands.seen c.run_one.new.seen old.sources one.sources one.once (λ p i. inl (cmd, record { named = named; needed = needed; input = i })) settled in
    let stop = c.in_err-run_one.field-0.0 in
    let came = c.in_err-run_one.ensures.came in
    let why = c.in_err-run_one.ensures.stop in
    let shown = Knows c.run_one.new.seen in
    let parts = take-drop-get commands place cmd at_place in
    let grows = came_starts cmd (seen_out c.commands.out) (seen_out c.run_one.new.out) before after stop came in
    let stopped = build_stopped (view c.args.world.now).faults (view c.commands.world).faults (view c.run_one.new.world).faults (seen_out c.args.out.now).faults (seen_out c.commands.out).faults (seen_out c.run_one.new.out).faults
    shown commands target marks place cmd (seen_out c.commands.out) (seen_out c.run_one.new.out) before after heard ends stop rule c.requires.marks at_place marked old.starts parts
    old.moved.later old.later old.done old.names came why in
    moved_both
    (moved_wider (λ p w. (w.0, (w.1.0, (starts_grow before after (start_of cmd) (start_of w.0) grows w.1.1.0, w.1.1.1)))) old.moved)
    (moved_wider (λ p w. (cmd, (named, w))) one.moved)

pub returns-in_err-run_one-clause-starts : goal.returns-in_err-run_one-clause-starts
returns-in_err-run_one-clause-starts g c =
    let view = g.W.Disk.view in
    let seen_out = g.O.Sink.view in
    let m = c.args.manifest.now in
    let commands = m.commands in
    let target = c.args.target.now in
    let wanted = target.nodes in
    let plan : Plan = record { manifest = m; target = target } in
    let marks = c.args.marks.now in
    let place = c.commands.place in
    let cmd = c.in-Some.command.now in
    let old = c.commands.invariant in
    let rule : AreOrderly commands = orderly m c.keeps.ensures in
    let at_place : slice_get commands place ≡ Some cmd = sym c.in-Some.ensures.value in
    let marked : slice_get marks place ≡ Some true = get-read marks place false true c.if-not-is_marked.false c.commands-test.true in
    let named : In cmd commands = In-get commands place cmd at_place in
    let needed : IsNeeded commands wanted cmd = (c.requires.marks.each place cmd at_place).0 marked in
    let settled : (p : List ℕ) → IsInput cmd.inputs p → IsMade commands p → (i : Info) × Knows c.commands.seen p i =
    inputs_settled wanted c.requires.marks old.stands cmd at_place marked (c.requires.built.commands place cmd at_place needed) in
    let one = c.run_one.ensures in
    let before = c.commands.seen.starts in
    let after = c.run_one.new.seen.starts in
    let heard = c.commands.seen.heard in
    let ends = c.run_one.new.seen.heard in
    let sources : AreSources plan c.run_one.new.seen.stats =
    sources_more plan (IsInput cmd.inputs) c.commands.seen c.run_one.new.seen old.sources one.sources one.once (λ p i. inl (cmd, record { named = named; needed = needed; input = i })) settled in
    let stop = c.in_err-run_one.field-0.0 in
    let came = c.in_err-run_one.ensures.came in
    let why = c.in_err-run_one.ensures.stop in
    let shown = Knows c.run_one.new.seen in
    let parts = take-drop-get commands place cmd at_place in
    let grows = came_starts cmd (seen_out c.commands.out) (seen_out c.run_one.new.out) before after stop came in
    let stopped = build_stopped (view c.args.world.now).faults (view c.commands.world).faults (view c.run_one.new.world).faults (seen_out c.args.out.now).faults (seen_out c.commands.out).faults (seen_out c.run_one.new.out).faults
    shown commands target marks place cmd (seen_out c.commands.out) (seen_out c.run_one.new.out) before after heard ends stop rule c.requires.marks at_place marked old.starts parts
    old.moved.later old.later old.done old.names came why in
    starts_stopped commands wanted marks place cmd before after rule c.requires.marks at_place marked old.starts grows

pub returns-in_err-run_one-clause-step : goal.returns-in_err-run_one-clause-step
returns-in_err-run_one-clause-step g c =
    let view = g.W.Disk.view in
    let seen_out = g.O.Sink.view in
    let m = c.args.manifest.now in
    let commands = m.commands in
    let target = c.args.target.now in
    let wanted = target.nodes in
    let plan : Plan = record { manifest = m; target = target } in
    let marks = c.args.marks.now in
    let place = c.commands.place in
    let cmd = c.in-Some.command.now in
    let old = c.commands.invariant in
    let rule : AreOrderly commands = orderly m c.keeps.ensures in
    let at_place : slice_get commands place ≡ Some cmd = sym c.in-Some.ensures.value in
    let marked : slice_get marks place ≡ Some true = get-read marks place false true c.if-not-is_marked.false c.commands-test.true in
    let named : In cmd commands = In-get commands place cmd at_place in
    let needed : IsNeeded commands wanted cmd = (c.requires.marks.each place cmd at_place).0 marked in
    let settled : (p : List ℕ) → IsInput cmd.inputs p → IsMade commands p → (i : Info) × Knows c.commands.seen p i =
    inputs_settled wanted c.requires.marks old.stands cmd at_place marked (c.requires.built.commands place cmd at_place needed) in
    let one = c.run_one.ensures in
    let before = c.commands.seen.starts in
    let after = c.run_one.new.seen.starts in
    let heard = c.commands.seen.heard in
    let ends = c.run_one.new.seen.heard in
    let sources : AreSources plan c.run_one.new.seen.stats =
    sources_more plan (IsInput cmd.inputs) c.commands.seen c.run_one.new.seen old.sources one.sources one.once (λ p i. inl (cmd, record { named = named; needed = needed; input = i })) settled in
    let stop = c.in_err-run_one.field-0.0 in
    let came = c.in_err-run_one.ensures.came in
    let why = c.in_err-run_one.ensures.stop in
    let shown = Knows c.run_one.new.seen in
    let parts = take-drop-get commands place cmd at_place in
    let grows = came_starts cmd (seen_out c.commands.out) (seen_out c.run_one.new.out) before after stop came in
    let stopped = build_stopped (view c.args.world.now).faults (view c.commands.world).faults (view c.run_one.new.world).faults (seen_out c.args.out.now).faults (seen_out c.commands.out).faults (seen_out c.run_one.new.out).faults
    shown commands target marks place cmd (seen_out c.commands.out) (seen_out c.run_one.new.out) before after heard ends stop rule c.requires.marks at_place marked old.starts parts
    old.moved.later old.later old.done old.names came why in
    step_stopped (view c.commands.world).faults (view c.run_one.new.world).faults (seen_out c.commands.out).faults (seen_out c.run_one.new.out).faults shown cmd (seen_out c.commands.out) (seen_out c.run_one.new.out)
    before after heard ends stop old.names came why

pub returns-in_err-run_one-clause-orders : goal.returns-in_err-run_one-clause-orders
returns-in_err-run_one-clause-orders g c =
    let view = g.W.Disk.view in
    let seen_out = g.O.Sink.view in
    let m = c.args.manifest.now in
    let commands = m.commands in
    let target = c.args.target.now in
    let wanted = target.nodes in
    let plan : Plan = record { manifest = m; target = target } in
    let marks = c.args.marks.now in
    let place = c.commands.place in
    let cmd = c.in-Some.command.now in
    let old = c.commands.invariant in
    let rule : AreOrderly commands = orderly m c.keeps.ensures in
    let at_place : slice_get commands place ≡ Some cmd = sym c.in-Some.ensures.value in
    let marked : slice_get marks place ≡ Some true = get-read marks place false true c.if-not-is_marked.false c.commands-test.true in
    let named : In cmd commands = In-get commands place cmd at_place in
    let needed : IsNeeded commands wanted cmd = (c.requires.marks.each place cmd at_place).0 marked in
    let settled : (p : List ℕ) → IsInput cmd.inputs p → IsMade commands p → (i : Info) × Knows c.commands.seen p i =
    inputs_settled wanted c.requires.marks old.stands cmd at_place marked (c.requires.built.commands place cmd at_place needed) in
    let one = c.run_one.ensures in
    let before = c.commands.seen.starts in
    let after = c.run_one.new.seen.starts in
    let heard = c.commands.seen.heard in
    let ends = c.run_one.new.seen.heard in
    let sources : AreSources plan c.run_one.new.seen.stats =
    sources_more plan (IsInput cmd.inputs) c.commands.seen c.run_one.new.seen old.sources one.sources one.once (λ p i. inl (cmd, record { named = named; needed = needed; input = i })) settled in
    let stop = c.in_err-run_one.field-0.0 in
    let came = c.in_err-run_one.ensures.came in
    let why = c.in_err-run_one.ensures.stop in
    let shown = Knows c.run_one.new.seen in
    let parts = take-drop-get commands place cmd at_place in
    let grows = came_starts cmd (seen_out c.commands.out) (seen_out c.run_one.new.out) before after stop came in
    let stopped = build_stopped (view c.args.world.now).faults (view c.commands.world).faults (view c.run_one.new.world).faults (seen_out c.args.out.now).faults (seen_out c.commands.out).faults (seen_out c.run_one.new.out).faults
    shown commands target marks place cmd (seen_out c.commands.out) (seen_out c.run_one.new.out) before after heard ends stop rule c.requires.marks at_place marked old.starts parts
    old.moved.later old.later old.done old.names came why in
    orders_stopped (view c.commands.world).faults (view c.run_one.new.world).faults (seen_out c.commands.out).faults (seen_out c.run_one.new.out).faults shown commands cmd heard ends stop named old.orders why

pub returns-in_err-run_one-clause-part : goal.returns-in_err-run_one-clause-part
returns-in_err-run_one-clause-part g c =
    let view = g.W.Disk.view in
    let seen_out = g.O.Sink.view in
    let m = c.args.manifest.now in
    let commands = m.commands in
    let target = c.args.target.now in
    let wanted = target.nodes in
    let plan : Plan = record { manifest = m; target = target } in
    let marks = c.args.marks.now in
    let place = c.commands.place in
    let cmd = c.in-Some.command.now in
    let old = c.commands.invariant in
    let rule : AreOrderly commands = orderly m c.keeps.ensures in
    let at_place : slice_get commands place ≡ Some cmd = sym c.in-Some.ensures.value in
    let marked : slice_get marks place ≡ Some true = get-read marks place false true c.if-not-is_marked.false c.commands-test.true in
    let named : In cmd commands = In-get commands place cmd at_place in
    let needed : IsNeeded commands wanted cmd = (c.requires.marks.each place cmd at_place).0 marked in
    let settled : (p : List ℕ) → IsInput cmd.inputs p → IsMade commands p → (i : Info) × Knows c.commands.seen p i =
    inputs_settled wanted c.requires.marks old.stands cmd at_place marked (c.requires.built.commands place cmd at_place needed) in
    let one = c.run_one.ensures in
    let before = c.commands.seen.starts in
    let after = c.run_one.new.seen.starts in
    let heard = c.commands.seen.heard in
    let ends = c.run_one.new.seen.heard in
    let sources : AreSources plan c.run_one.new.seen.stats =
    sources_more plan (IsInput cmd.inputs) c.commands.seen c.run_one.new.seen old.sources one.sources one.once (λ p i. inl (cmd, record { named = named; needed = needed; input = i })) settled in
    let stop = c.in_err-run_one.field-0.0 in
    let came = c.in_err-run_one.ensures.came in
    let why = c.in_err-run_one.ensures.stop in
    let shown = Knows c.run_one.new.seen in
    let parts = take-drop-get commands place cmd at_place in
    let grows = came_starts cmd (seen_out c.commands.out) (seen_out c.run_one.new.out) before after stop came in
    let stopped = build_stopped (view c.args.world.now).faults (view c.commands.world).faults (view c.run_one.new.world).faults (seen_out c.args.out.now).faults (seen_out c.commands.out).faults (seen_out c.run_one.new.out).faults
    shown commands target marks place cmd (seen_out c.commands.out) (seen_out c.run_one.new.out) before after heard ends stop rule c.requires.marks at_place marked old.starts parts
    old.moved.later old.later old.done old.names came why in
    if_err c.from_residual.result stop _ (search rules)
    (wrote_stopped commands wanted _ (seen_out c.args.out.now) (seen_out c.commands.out) (seen_out c.run_one.new.out) cmd before after stop old.wrote named needed
    (λ i. not_started commands marks place cmd rule at_place (subst (λ (ss : List Start). In (start_of cmd) ss) old.starts i)) came)

pub returns-in_err-run_one-clause-stop : goal.returns-in_err-run_one-clause-stop
returns-in_err-run_one-clause-stop g c =
    let view = g.W.Disk.view in
    let seen_out = g.O.Sink.view in
    let m = c.args.manifest.now in
    let commands = m.commands in
    let target = c.args.target.now in
    let wanted = target.nodes in
    let plan : Plan = record { manifest = m; target = target } in
    let marks = c.args.marks.now in
    let place = c.commands.place in
    let cmd = c.in-Some.command.now in
    let old = c.commands.invariant in
    let rule : AreOrderly commands = orderly m c.keeps.ensures in
    let at_place : slice_get commands place ≡ Some cmd = sym c.in-Some.ensures.value in
    let marked : slice_get marks place ≡ Some true = get-read marks place false true c.if-not-is_marked.false c.commands-test.true in
    let named : In cmd commands = In-get commands place cmd at_place in
    let needed : IsNeeded commands wanted cmd = (c.requires.marks.each place cmd at_place).0 marked in
    let settled : (p : List ℕ) → IsInput cmd.inputs p → IsMade commands p → (i : Info) × Knows c.commands.seen p i =
    inputs_settled wanted c.requires.marks old.stands cmd at_place marked (c.requires.built.commands place cmd at_place needed) in
    let one = c.run_one.ensures in
    let before = c.commands.seen.starts in
    let after = c.run_one.new.seen.starts in
    let heard = c.commands.seen.heard in
    let ends = c.run_one.new.seen.heard in
    let sources : AreSources plan c.run_one.new.seen.stats =
    sources_more plan (IsInput cmd.inputs) c.commands.seen c.run_one.new.seen old.sources one.sources one.once (λ p i. inl (cmd, record { named = named; needed = needed; input = i })) settled in
    let stop = c.in_err-run_one.field-0.0 in
    let came = c.in_err-run_one.ensures.came in
    let why = c.in_err-run_one.ensures.stop in
    let shown = Knows c.run_one.new.seen in
    let parts = take-drop-get commands place cmd at_place in
    let grows = came_starts cmd (seen_out c.commands.out) (seen_out c.run_one.new.out) before after stop came in
    let stopped = build_stopped (view c.args.world.now).faults (view c.commands.world).faults (view c.run_one.new.world).faults (seen_out c.args.out.now).faults (seen_out c.commands.out).faults (seen_out c.run_one.new.out).faults
    shown commands target marks place cmd (seen_out c.commands.out) (seen_out c.run_one.new.out) before after heard ends stop rule c.requires.marks at_place marked old.starts parts
    old.moved.later old.later old.done old.names came why in
    if_err c.from_residual.result stop _ (search rules) stopped

pub returns-in_err-run_one-clause-read : goal.returns-in_err-run_one-clause-read
returns-in_err-run_one-clause-read g c =
    let view = g.W.Disk.view in
    let seen_out = g.O.Sink.view in
    let m = c.args.manifest.now in
    let commands = m.commands in
    let target = c.args.target.now in
    let wanted = target.nodes in
    let plan : Plan = record { manifest = m; target = target } in
    let marks = c.args.marks.now in
    let place = c.commands.place in
    let cmd = c.in-Some.command.now in
    let old = c.commands.invariant in
    let rule : AreOrderly commands = orderly m c.keeps.ensures in
    let at_place : slice_get commands place ≡ Some cmd = sym c.in-Some.ensures.value in
    let marked : slice_get marks place ≡ Some true = get-read marks place false true c.if-not-is_marked.false c.commands-test.true in
    let named : In cmd commands = In-get commands place cmd at_place in
    let needed : IsNeeded commands wanted cmd = (c.requires.marks.each place cmd at_place).0 marked in
    let settled : (p : List ℕ) → IsInput cmd.inputs p → IsMade commands p → (i : Info) × Knows c.commands.seen p i =
    inputs_settled wanted c.requires.marks old.stands cmd at_place marked (c.requires.built.commands place cmd at_place needed) in
    let one = c.run_one.ensures in
    let before = c.commands.seen.starts in
    let after = c.run_one.new.seen.starts in
    let heard = c.commands.seen.heard in
    let ends = c.run_one.new.seen.heard in
    let sources : AreSources plan c.run_one.new.seen.stats =
    sources_more plan (IsInput cmd.inputs) c.commands.seen c.run_one.new.seen old.sources one.sources one.once (λ p i. inl (cmd, record { named = named; needed = needed; input = i })) settled in
    let stop = c.in_err-run_one.field-0.0 in
    let came = c.in_err-run_one.ensures.came in
    let why = c.in_err-run_one.ensures.stop in
    let shown = Knows c.run_one.new.seen in
    let parts = take-drop-get commands place cmd at_place in
    let grows = came_starts cmd (seen_out c.commands.out) (seen_out c.run_one.new.out) before after stop came in
    let stopped = build_stopped (view c.args.world.now).faults (view c.commands.world).faults (view c.run_one.new.world).faults (seen_out c.args.out.now).faults (seen_out c.commands.out).faults (seen_out c.run_one.new.out).faults
    shown commands target marks place cmd (seen_out c.commands.out) (seen_out c.run_one.new.out) before after heard ends stop rule c.requires.marks at_place marked old.starts parts
    old.moved.later old.later old.done old.names came why in
    first_more named one.read old.read

pub returns-in_err-run_one-clause-sources : goal.returns-in_err-run_one-clause-sources
returns-in_err-run_one-clause-sources g c =
    let view = g.W.Disk.view in
    let seen_out = g.O.Sink.view in
    let m = c.args.manifest.now in
    let commands = m.commands in
    let target = c.args.target.now in
    let wanted = target.nodes in
    let plan : Plan = record { manifest = m; target = target } in
    let marks = c.args.marks.now in
    let place = c.commands.place in
    let cmd = c.in-Some.command.now in
    let old = c.commands.invariant in
    let rule : AreOrderly commands = orderly m c.keeps.ensures in
    let at_place : slice_get commands place ≡ Some cmd = sym c.in-Some.ensures.value in
    let marked : slice_get marks place ≡ Some true = get-read marks place false true c.if-not-is_marked.false c.commands-test.true in
    let named : In cmd commands = In-get commands place cmd at_place in
    let needed : IsNeeded commands wanted cmd = (c.requires.marks.each place cmd at_place).0 marked in
    let settled : (p : List ℕ) → IsInput cmd.inputs p → IsMade commands p → (i : Info) × Knows c.commands.seen p i =
    inputs_settled wanted c.requires.marks old.stands cmd at_place marked (c.requires.built.commands place cmd at_place needed) in
    let one = c.run_one.ensures in
    let before = c.commands.seen.starts in
    let after = c.run_one.new.seen.starts in
    let heard = c.commands.seen.heard in
    let ends = c.run_one.new.seen.heard in
    let sources : AreSources plan c.run_one.new.seen.stats =
    sources_more plan (IsInput cmd.inputs) c.commands.seen c.run_one.new.seen old.sources one.sources one.once (λ p i. inl (cmd, record { named = named; needed = needed; input = i })) settled in
    let stop = c.in_err-run_one.field-0.0 in
    let came = c.in_err-run_one.ensures.came in
    let why = c.in_err-run_one.ensures.stop in
    let shown = Knows c.run_one.new.seen in
    let parts = take-drop-get commands place cmd at_place in
    let grows = came_starts cmd (seen_out c.commands.out) (seen_out c.run_one.new.out) before after stop came in
    let stopped = build_stopped (view c.args.world.now).faults (view c.commands.world).faults (view c.run_one.new.world).faults (seen_out c.args.out.now).faults (seen_out c.commands.out).faults (seen_out c.run_one.new.out).faults
    shown commands target marks place cmd (seen_out c.commands.out) (seen_out c.run_one.new.out) before after heard ends stop rule c.requires.marks at_place marked old.starts parts
    old.moved.later old.later old.done old.names came why in
    sources

pub returns-in_err-run_one-clause-missing : goal.returns-in_err-run_one-clause-missing
returns-in_err-run_one-clause-missing g c =
    let view = g.W.Disk.view in
    let seen_out = g.O.Sink.view in
    let m = c.args.manifest.now in
    let commands = m.commands in
    let target = c.args.target.now in
    let wanted = target.nodes in
    let plan : Plan = record { manifest = m; target = target } in
    let marks = c.args.marks.now in
    let place = c.commands.place in
    let cmd = c.in-Some.command.now in
    let old = c.commands.invariant in
    let rule : AreOrderly commands = orderly m c.keeps.ensures in
    let at_place : slice_get commands place ≡ Some cmd = sym c.in-Some.ensures.value in
    let marked : slice_get marks place ≡ Some true = get-read marks place false true c.if-not-is_marked.false c.commands-test.true in
    let named : In cmd commands = In-get commands place cmd at_place in
    let needed : IsNeeded commands wanted cmd = (c.requires.marks.each place cmd at_place).0 marked in
    let settled : (p : List ℕ) → IsInput cmd.inputs p → IsMade commands p → (i : Info) × Knows c.commands.seen p i =
    inputs_settled wanted c.requires.marks old.stands cmd at_place marked (c.requires.built.commands place cmd at_place needed) in
    let one = c.run_one.ensures in
    let before = c.commands.seen.starts in
    let after = c.run_one.new.seen.starts in
    let heard = c.commands.seen.heard in
    let ends = c.run_one.new.seen.heard in
    let sources : AreSources plan c.run_one.new.seen.stats =
    sources_more plan (IsInput cmd.inputs) c.commands.seen c.run_one.new.seen old.sources one.sources one.once (λ p i. inl (cmd, record { named = named; needed = needed; input = i })) settled in
    let stop = c.in_err-run_one.field-0.0 in
    let came = c.in_err-run_one.ensures.came in
    let why = c.in_err-run_one.ensures.stop in
    let shown = Knows c.run_one.new.seen in
    let parts = take-drop-get commands place cmd at_place in
    let grows = came_starts cmd (seen_out c.commands.out) (seen_out c.run_one.new.out) before after stop came in
    let stopped = build_stopped (view c.args.world.now).faults (view c.commands.world).faults (view c.run_one.new.world).faults (seen_out c.args.out.now).faults (seen_out c.commands.out).faults (seen_out c.run_one.new.out).faults
    shown commands target marks place cmd (seen_out c.commands.out) (seen_out c.run_one.new.out) before after heard ends stop rule c.requires.marks at_place marked old.starts parts
    old.moved.later old.later old.done old.names came why in
    if_err c.from_residual.result stop _ (search rules)
    (run_missing (view c.commands.world).faults (view c.run_one.new.world).faults (seen_out c.commands.out).faults (seen_out c.run_one.new.out).faults
    (view c.args.world.now).faults (view c.run_one.new.world).faults (seen_out c.args.out.now).faults (seen_out c.run_one.new.out).faults
    commands target cmd shown (seen_out c.commands.out) (seen_out c.run_one.new.out) before after heard ends stop
    (λ same. is_next commands wanted marks place cmd after rule c.requires.marks at_place marked (same ∙ old.starts) parts) old.names
    one.once.single came why c.in_err-run_one.ensures.asked stopped)

pub commands-preserved : goal.commands-preserved
commands-preserved g c =
    let view = g.W.Disk.view in
    let seen_out = g.O.Sink.view in
    let m = c.args.manifest.now in
    let commands = m.commands in
    let target = c.args.target.now in
    let wanted = target.nodes in
    let plan : Plan = record { manifest = m; target = target } in
    let marks = c.args.marks.now in
    let place = c.commands.place in
    let cmd = c.in-Some.command.now in
    let old = c.commands.invariant in
    let rule : AreOrderly commands = orderly m c.keeps.ensures in
    let at_place : slice_get commands place ≡ Some cmd = sym c.in-Some.ensures.value in
    let marked : slice_get marks place ≡ Some true = get-read marks place false true c.if-not-is_marked.false c.commands-test.true in
    let named : In cmd commands = In-get commands place cmd at_place in
    let needed : IsNeeded commands wanted cmd = (c.requires.marks.each place cmd at_place).0 marked in
    let settled : (p : List ℕ) → IsInput cmd.inputs p → IsMade commands p → (i : Info) × Knows c.commands.seen p i =
    inputs_settled wanted c.requires.marks old.stands cmd at_place marked (c.requires.built.commands place cmd at_place needed) in
    let one = c.run_one.ensures in
    let before = c.commands.seen.starts in
    let after = c.run_one.new.seen.starts in
    let heard = c.commands.seen.heard in
    let ends = c.run_one.new.seen.heard in
    let sources : AreSources plan c.run_one.new.seen.stats =
    sources_more plan (IsInput cmd.inputs) c.commands.seen c.run_one.new.seen old.sources one.sources one.once (λ p i. inl (cmd, record { named = named; needed = needed; input = i })) settled in
    let announced = c.in_ok-run_one.ensures.announced in
    let done = c.in_ok-run_one.ensures.done in
    let grows : (after ≡ before) ⊎ (after ≡ before ++ start_of cmd ∷ []) = inr announced.more in
    record {
      stands = stands_ran (g.met.W.Disk.tells_infos c.run_one.new.world) old.stands cmd at_place (λ p o h. made_once commands place cmd p rule at_place o h) settled
          (moved_wider (λ p w. w.1) one.moved) c.in_ok-run_one.ensures.ran;
      starts = announced.more ∙ ap (λ (ss : List Start). ss ++ start_of cmd ∷ []) old.starts ∙ sym (starts_more commands marks place cmd at_place marked);
      wrote = wrote_more (seen_out c.args.out.now) (seen_out c.commands.out) (seen_out c.run_one.new.out) cmd before after old.wrote announced;
      done = done_one cmd heard ends old.done done;
      names = names_both cmd before after heard ends old.names announced.more done.one;
      orders = orders_one commands cmd heard ends named old.orders done.one;
      read = first_more named one.read old.read;
      heard = one.heard;
      moved = moved_both
          (moved_wider (λ p w. (w.0, (w.1.0, (starts_grow before after (start_of cmd) (start_of w.0) grows w.1.1.0, w.1.1.1)))) old.moved)
          (moved_wider (λ p w. (cmd, (named, w))) one.moved);
      none = one.none;
      begins = omega (arith, old.begins, one.begins);
      later = omega (arith, old.later, one.later);
      once = one.once;
      sources = sources;
    }

pub commands-preserved-then-not-is_marked : goal.commands-preserved-then-not-is_marked
commands-preserved-then-not-is_marked g c =
    let commands = c.args.manifest.now.commands in
    let marks = c.args.marks.now in
    let place = c.commands.place in
    let old = c.commands.invariant in
    let unmarked : slice_get marks place ≡ Some false = get-read marks place false false c.if-not-is_marked.true c.commands-test.true in
    record {
      stands = stands_skip old.stands unmarked;
      starts = old.starts ∙ sym (starts_skip commands marks place unmarked);
      wrote = old.wrote;
      done = old.done;
      names = old.names;
      orders = old.orders;
      read = old.read;
      heard = old.heard;
      moved = old.moved;
      none = old.none;
      begins = old.begins;
      later = old.later;
      once = old.once;
      sources = old.sources;
    }

pub returns-clause-starts : goal.returns-clause-starts
returns-clause-starts g c =
    subst (λ (ss : List Start). AreStarts c.args.manifest.now.commands c.args.target.now.nodes ss) (sym c.commands.invariant.starts)
    (are_starts c.args.manifest.now.commands c.args.target.now.nodes c.args.marks.now c.commands.place (orderly c.args.manifest.now c.keeps.ensures) c.requires.marks)
