use Rattle.std.proofs.Common.{rules, ◌≡◌, ◌∙◌, ◌++◌, ◌∷◌, ◌+◌, [], ℕ, List, length, refl, sym, ap, subst, arith, inl, inr}
use Rattle.file_info.proofs.Lists.{In-either, In-left, In-one, In-right}
use Rattle.file_info.specs.Lists.{In}
use Rattle.build_report.specs.declared.report.Start.{Start}
use Rattle.build_report.specs.declared.report.StatSeen.{StatSeen}
use Rattle.llbuild_cli.specs.Start.{start_of}
use Rattle.build_report.specs.declared.report.Heard.{Heard}
use Rattle.build_report.specs.declared.report.Outcome.TheVariants.{Done}
use Rattle.std.specs.Prelude.{IfErr}
use Rattle.file_info.specs.declared.info.Info.{Info}
use Rattle.file_info.specs.Content.{FileVersion}
use Rattle.outside.specs.View.{Grew, Told, Tells}
use Rattle.llbuild_cli.specs.MissingInput.{ReadFirst}
use Rattle.llbuild_cli.specs.Stop.{AskedBefore}
use Rattle.build_report.specs.Text.{line_of}
use Rattle.llbuild_cli.specs.Outcome.{HeardWell}
use Rattle.llbuild_cli.specs.Journal.{Journal, Knows, IsOnce}
use Rattle.llbuild_cli.specs.Look.{CameFrom}
use Rattle.llbuild_cli.specs.CommandRun.{IsInput, IsOutput, SeenStands, ReadsStand, DidCommand}
use Rattle.llbuild_cli.specs.Move.{Moved}
use Rattle.llbuild_cli.specs.Sight.{sights_of}
use Rattle.llbuild_cli.proofs.ProgressLemmas.{if_err, looked_sources, stayed_at, moved_both, moved_stayed, moved_wider}
use Rattle.llbuild_cli.proofs.InputLemmas.{reads_fit}
use Rattle.llbuild_cli.proofs.CommandLemmas.{knows_same, stands_same, once_same, came_same, stands_moved, stands_stayed, seen_stands_looked, seen_apart, ran_stands, reads_stand, ran_one, did_on, heard_on, heard_same, heard_more, given_one, lawful_done}
use Rattle.llbuild_cli.proofs.StopLemmas.{run_stopped, settle_stopped, heard_stopped, settle_shows}
use Rattle.llbuild_cli.proofs.MissingLemmas.{input_asked, disk_asked, sink_asked, settle_asked, first_looked, first_started, settle_orders, settle_kept, order_reads}
use Rattle.llbuild_cli.proofs.serial.build.run_one.Goals as goal

pub returns-in_err-reads-clause-stop : goal.returns-in_err-reads-clause-stop
returns-in_err-reads-clause-stop g c =
    let view = g.W.Disk.view in
    let cmd = c.args.command.now in
    let old = c.args.seen.now in
    let middle = c.gather.new.seen in
    let looked = c.gather.ensures.looked in
    let stands : SeenStands (view c.gather.new.world) middle = seen_stands_looked c.requires.stands c.gather.ensures.stayed looked in
    if_err c.from_residual.result c.in_err-reads.field-0.0 _ (search rules)
    (run_stopped _ _ _ _ cmd old middle c.in_err-reads.field-0.0 looked.heard c.in_err-reads.ensures.stop)

pub returns-in_err-reads-clause-heard : goal.returns-in_err-reads-clause-heard
returns-in_err-reads-clause-heard g c =
    let view = g.W.Disk.view in
    let cmd = c.args.command.now in
    let old = c.args.seen.now in
    let middle = c.gather.new.seen in
    let looked = c.gather.ensures.looked in
    let stands : SeenStands (view c.gather.new.world) middle = seen_stands_looked c.requires.stands c.gather.ensures.stayed looked in
    heard_same looked.heard (heard_on c.gather.ensures.stayed.keeps c.requires.heard)

pub returns-in_err-reads-clause-stood : goal.returns-in_err-reads-clause-stood
returns-in_err-reads-clause-stood g c =
    let view = g.W.Disk.view in
    let cmd = c.args.command.now in
    let old = c.args.seen.now in
    let middle = c.gather.new.seen in
    let looked = c.gather.ensures.looked in
    let stands : SeenStands (view c.gather.new.world) middle = seen_stands_looked c.requires.stands c.gather.ensures.stayed looked in
    stands

pub returns-in_err-reads-clause-sources : goal.returns-in_err-reads-clause-sources
returns-in_err-reads-clause-sources g c =
    let view = g.W.Disk.view in
    let cmd = c.args.command.now in
    let old = c.args.seen.now in
    let middle = c.gather.new.seen in
    let looked = c.gather.ensures.looked in
    let stands : SeenStands (view c.gather.new.world) middle = seen_stands_looked c.requires.stands c.gather.ensures.stayed looked in
    looked_sources looked

pub returns-in_err-reads-clause-read : goal.returns-in_err-reads-clause-read
returns-in_err-reads-clause-read g c =
    let view = g.W.Disk.view in
    let cmd = c.args.command.now in
    let old = c.args.seen.now in
    let middle = c.gather.new.seen in
    let looked = c.gather.ensures.looked in
    let stands : SeenStands (view c.gather.new.world) middle = seen_stands_looked c.requires.stands c.gather.ensures.stayed looked in
    first_looked cmd middle.starts looked.starts looked c.gather.ensures.once.single

pub returns-in_err-reads-clause-asked : goal.returns-in_err-reads-clause-asked
returns-in_err-reads-clause-asked g c =
    let view = g.W.Disk.view in
    let cmd = c.args.command.now in
    let old = c.args.seen.now in
    let middle = c.gather.new.seen in
    let looked = c.gather.ensures.looked in
    let stands : SeenStands (view c.gather.new.world) middle = seen_stands_looked c.requires.stands c.gather.ensures.stayed looked in
    if_err c.from_residual.result c.in_err-reads.field-0.0 _ (search rules)
    (input_asked (view c.args.world.now).faults (view c.gather.new.world).faults cmd.name (Knows middle) cmd.inputs _ c.in_err-reads.field-0.0 c.in_err-reads.ensures.stop)

pub returns-in_err-ticket-clause-heard : goal.returns-in_err-ticket-clause-heard
returns-in_err-ticket-clause-heard g c =
    let view = g.W.Disk.view in
    let cmd = c.args.command.now in
    let old = c.args.seen.now in
    let middle = c.gather.new.seen in
    let looked = c.gather.ensures.looked in
    let stands : SeenStands (view c.gather.new.world) middle = seen_stands_looked c.requires.stands c.gather.ensures.stayed looked in
    let same = c.in_err-ticket.ensures.same in
    heard_same (ap (λ (j : Journal). j.heard) same ∙ looked.heard) (heard_on c.gather.ensures.stayed.keeps c.requires.heard)

pub returns-in_err-ticket-clause-stood : goal.returns-in_err-ticket-clause-stood
returns-in_err-ticket-clause-stood g c =
    let view = g.W.Disk.view in
    let cmd = c.args.command.now in
    let old = c.args.seen.now in
    let middle = c.gather.new.seen in
    let looked = c.gather.ensures.looked in
    let stands : SeenStands (view c.gather.new.world) middle = seen_stands_looked c.requires.stands c.gather.ensures.stayed looked in
    let same = c.in_err-ticket.ensures.same in
    subst (λ (j : Journal). SeenStands (view c.gather.new.world) j) (sym same) stands

pub returns-in_err-ticket-clause-once : goal.returns-in_err-ticket-clause-once
returns-in_err-ticket-clause-once g c =
    let view = g.W.Disk.view in
    let cmd = c.args.command.now in
    let old = c.args.seen.now in
    let middle = c.gather.new.seen in
    let looked = c.gather.ensures.looked in
    let stands : SeenStands (view c.gather.new.world) middle = seen_stands_looked c.requires.stands c.gather.ensures.stayed looked in
    let same = c.in_err-ticket.ensures.same in
    subst (λ (j : Journal). IsOnce j) (sym same) c.gather.ensures.once

pub returns-in_err-ticket-clause-sources : goal.returns-in_err-ticket-clause-sources
returns-in_err-ticket-clause-sources g c =
    let view = g.W.Disk.view in
    let cmd = c.args.command.now in
    let old = c.args.seen.now in
    let middle = c.gather.new.seen in
    let looked = c.gather.ensures.looked in
    let stands : SeenStands (view c.gather.new.world) middle = seen_stands_looked c.requires.stands c.gather.ensures.stayed looked in
    let same = c.in_err-ticket.ensures.same in
    subst (λ (j : Journal). CameFrom (IsInput cmd.inputs) old j) (sym same) (looked_sources looked)

pub returns-in_err-ticket-clause-read : goal.returns-in_err-ticket-clause-read
returns-in_err-ticket-clause-read g c =
    let view = g.W.Disk.view in
    let cmd = c.args.command.now in
    let old = c.args.seen.now in
    let middle = c.gather.new.seen in
    let looked = c.gather.ensures.looked in
    let stands : SeenStands (view c.gather.new.world) middle = seen_stands_looked c.requires.stands c.gather.ensures.stayed looked in
    let same = c.in_err-ticket.ensures.same in
    subst (λ (j : Journal). ReadFirst cmd (Knows old) (Knows j) old.starts j.starts old.heard j.heard) (sym same) (first_looked cmd middle.starts looked.starts looked c.gather.ensures.once.single)

pub returns-in_err-ticket-clause-asked : goal.returns-in_err-ticket-clause-asked
returns-in_err-ticket-clause-asked g c =
    let view = g.W.Disk.view in
    let cmd = c.args.command.now in
    let old = c.args.seen.now in
    let middle = c.gather.new.seen in
    let looked = c.gather.ensures.looked in
    let stands : SeenStands (view c.gather.new.world) middle = seen_stands_looked c.requires.stands c.gather.ensures.stayed looked in
    let same = c.in_err-ticket.ensures.same in
    subst (λ (j : Journal). IfErr c.from_residual-in_err-ticket.result (AskedBefore (Knows j) cmd.inputs (In (start_of cmd) j.starts))) (sym same)
    (if_err c.from_residual-in_err-ticket.result c.in_err-ticket.field-0.0 _ (search rules)
    (sink_asked (g.O.Sink.view c.args.out.now).faults (g.O.Sink.view c.announce.new.out).faults (Knows middle) cmd.inputs _ c.in_err-ticket.field-0.0 c.in_err-ticket.ensures.stop (c.in_ok-reads.reads, c.in_ok-reads.ensures.reads)))

pub execute-requires-clause-reads : goal.execute-requires-clause-reads
execute-requires-clause-reads g c κs within =
    reads_fit (Knows c.gather.new.seen) c.args.command.now.inputs c.in_ok-reads.reads c.requires.sound.plain.inputs c.in_ok-reads.ensures.reads

pub returns-in_err-ended-clause-heard : goal.returns-in_err-ended-clause-heard
returns-in_err-ended-clause-heard g c =
    let view = g.W.Disk.view in
    let cmd = c.args.command.now in
    let old = c.args.seen.now in
    let middle = c.gather.new.seen in
    let looked = c.gather.ensures.looked in
    let stands : SeenStands (view c.gather.new.world) middle = seen_stands_looked c.requires.stands c.gather.ensures.stayed looked in
    let noting = c.announce.new.seen in
    let noted = c.in_ok-ticket.ensures.noted in
    let same_stats : noting.stats ≡ middle.stats = ap (λ (j : Journal). j.stats) noted in
    let same_heard : noting.heard ≡ middle.heard = ap (λ (j : Journal). j.heard) noted in
    let more : noting.starts ≡ old.starts ++ start_of cmd ∷ [] = ap (λ (j : Journal). j.starts) noted ∙ ap (λ (ss : List Start). ss ++ start_of cmd ∷ []) looked.starts in
    let started : In (start_of cmd) noting.starts = subst (λ (ss : List Start). In (start_of cmd) ss) (sym more) (In-right (start_of cmd) old.starts (start_of cmd ∷ []) (inl refl)) in
    let number : c.in_ok-ticket.ticket ≡ length old.heard + 1 = c.in_ok-ticket.ensures.ticket ∙ ap (λ (n : ℕ). n + 1) (ap length looked.starts ∙ sym c.requires.even) in
    let once : IsOnce noting = once_same middle noting same_stats same_heard c.gather.ensures.once in
    let reads = c.in_ok-reads.reads in
    let read = c.in_ok-reads.ensures.reads in
    let stood : SeenStands (view c.execute.new.world) noting =
    stands_moved noting (λ p i k o. seen_apart cmd c.requires.sound c.requires.unseen looked p i (knows_same middle noting same_stats same_heard p i k) o) c.execute.ensures.moved (stands_same (view c.gather.new.world) middle noting same_stats same_heard stands) in
    let well : HeardWell g.W.World.ended g.L.Law.does (view c.execute.new.world) noting.heard =
    heard_on c.execute.ensures.moved.keeps (heard_same (same_heard ∙ looked.heard) (heard_on c.gather.ensures.stayed.keeps c.requires.heard)) in
    well

pub returns-in_err-ended-clause-stood : goal.returns-in_err-ended-clause-stood
returns-in_err-ended-clause-stood g c =
    let view = g.W.Disk.view in
    let cmd = c.args.command.now in
    let old = c.args.seen.now in
    let middle = c.gather.new.seen in
    let looked = c.gather.ensures.looked in
    let stands : SeenStands (view c.gather.new.world) middle = seen_stands_looked c.requires.stands c.gather.ensures.stayed looked in
    let noting = c.announce.new.seen in
    let noted = c.in_ok-ticket.ensures.noted in
    let same_stats : noting.stats ≡ middle.stats = ap (λ (j : Journal). j.stats) noted in
    let same_heard : noting.heard ≡ middle.heard = ap (λ (j : Journal). j.heard) noted in
    let more : noting.starts ≡ old.starts ++ start_of cmd ∷ [] = ap (λ (j : Journal). j.starts) noted ∙ ap (λ (ss : List Start). ss ++ start_of cmd ∷ []) looked.starts in
    let started : In (start_of cmd) noting.starts = subst (λ (ss : List Start). In (start_of cmd) ss) (sym more) (In-right (start_of cmd) old.starts (start_of cmd ∷ []) (inl refl)) in
    let number : c.in_ok-ticket.ticket ≡ length old.heard + 1 = c.in_ok-ticket.ensures.ticket ∙ ap (λ (n : ℕ). n + 1) (ap length looked.starts ∙ sym c.requires.even) in
    let once : IsOnce noting = once_same middle noting same_stats same_heard c.gather.ensures.once in
    let reads = c.in_ok-reads.reads in
    let read = c.in_ok-reads.ensures.reads in
    let stood : SeenStands (view c.execute.new.world) noting =
    stands_moved noting (λ p i k o. seen_apart cmd c.requires.sound c.requires.unseen looked p i (knows_same middle noting same_stats same_heard p i k) o) c.execute.ensures.moved (stands_same (view c.gather.new.world) middle noting same_stats same_heard stands) in
    let well : HeardWell g.W.World.ended g.L.Law.does (view c.execute.new.world) noting.heard =
    heard_on c.execute.ensures.moved.keeps (heard_same (same_heard ∙ looked.heard) (heard_on c.gather.ensures.stayed.keeps c.requires.heard)) in
    stood

pub returns-in_err-ended-clause-once : goal.returns-in_err-ended-clause-once
returns-in_err-ended-clause-once g c =
    let view = g.W.Disk.view in
    let cmd = c.args.command.now in
    let old = c.args.seen.now in
    let middle = c.gather.new.seen in
    let looked = c.gather.ensures.looked in
    let stands : SeenStands (view c.gather.new.world) middle = seen_stands_looked c.requires.stands c.gather.ensures.stayed looked in
    let noting = c.announce.new.seen in
    let noted = c.in_ok-ticket.ensures.noted in
    let same_stats : noting.stats ≡ middle.stats = ap (λ (j : Journal). j.stats) noted in
    let same_heard : noting.heard ≡ middle.heard = ap (λ (j : Journal). j.heard) noted in
    let more : noting.starts ≡ old.starts ++ start_of cmd ∷ [] = ap (λ (j : Journal). j.starts) noted ∙ ap (λ (ss : List Start). ss ++ start_of cmd ∷ []) looked.starts in
    let started : In (start_of cmd) noting.starts = subst (λ (ss : List Start). In (start_of cmd) ss) (sym more) (In-right (start_of cmd) old.starts (start_of cmd ∷ []) (inl refl)) in
    let number : c.in_ok-ticket.ticket ≡ length old.heard + 1 = c.in_ok-ticket.ensures.ticket ∙ ap (λ (n : ℕ). n + 1) (ap length looked.starts ∙ sym c.requires.even) in
    let once : IsOnce noting = once_same middle noting same_stats same_heard c.gather.ensures.once in
    let reads = c.in_ok-reads.reads in
    let read = c.in_ok-reads.ensures.reads in
    let stood : SeenStands (view c.execute.new.world) noting =
    stands_moved noting (λ p i k o. seen_apart cmd c.requires.sound c.requires.unseen looked p i (knows_same middle noting same_stats same_heard p i k) o) c.execute.ensures.moved (stands_same (view c.gather.new.world) middle noting same_stats same_heard stands) in
    let well : HeardWell g.W.World.ended g.L.Law.does (view c.execute.new.world) noting.heard =
    heard_on c.execute.ensures.moved.keeps (heard_same (same_heard ∙ looked.heard) (heard_on c.gather.ensures.stayed.keeps c.requires.heard)) in
    once

pub returns-in_err-ended-clause-sources : goal.returns-in_err-ended-clause-sources
returns-in_err-ended-clause-sources g c =
    let view = g.W.Disk.view in
    let cmd = c.args.command.now in
    let old = c.args.seen.now in
    let middle = c.gather.new.seen in
    let looked = c.gather.ensures.looked in
    let stands : SeenStands (view c.gather.new.world) middle = seen_stands_looked c.requires.stands c.gather.ensures.stayed looked in
    let noting = c.announce.new.seen in
    let noted = c.in_ok-ticket.ensures.noted in
    let same_stats : noting.stats ≡ middle.stats = ap (λ (j : Journal). j.stats) noted in
    let same_heard : noting.heard ≡ middle.heard = ap (λ (j : Journal). j.heard) noted in
    let more : noting.starts ≡ old.starts ++ start_of cmd ∷ [] = ap (λ (j : Journal). j.starts) noted ∙ ap (λ (ss : List Start). ss ++ start_of cmd ∷ []) looked.starts in
    let started : In (start_of cmd) noting.starts = subst (λ (ss : List Start). In (start_of cmd) ss) (sym more) (In-right (start_of cmd) old.starts (start_of cmd ∷ []) (inl refl)) in
    let number : c.in_ok-ticket.ticket ≡ length old.heard + 1 = c.in_ok-ticket.ensures.ticket ∙ ap (λ (n : ℕ). n + 1) (ap length looked.starts ∙ sym c.requires.even) in
    let once : IsOnce noting = once_same middle noting same_stats same_heard c.gather.ensures.once in
    let reads = c.in_ok-reads.reads in
    let read = c.in_ok-reads.ensures.reads in
    let stood : SeenStands (view c.execute.new.world) noting =
    stands_moved noting (λ p i k o. seen_apart cmd c.requires.sound c.requires.unseen looked p i (knows_same middle noting same_stats same_heard p i k) o) c.execute.ensures.moved (stands_same (view c.gather.new.world) middle noting same_stats same_heard stands) in
    let well : HeardWell g.W.World.ended g.L.Law.does (view c.execute.new.world) noting.heard =
    heard_on c.execute.ensures.moved.keeps (heard_same (same_heard ∙ looked.heard) (heard_on c.gather.ensures.stayed.keeps c.requires.heard)) in
    came_same old middle noting same_stats (looked_sources looked)

pub returns-in_err-ended-clause-moved : goal.returns-in_err-ended-clause-moved
returns-in_err-ended-clause-moved g c =
    let view = g.W.Disk.view in
    let cmd = c.args.command.now in
    let old = c.args.seen.now in
    let middle = c.gather.new.seen in
    let looked = c.gather.ensures.looked in
    let stands : SeenStands (view c.gather.new.world) middle = seen_stands_looked c.requires.stands c.gather.ensures.stayed looked in
    let noting = c.announce.new.seen in
    let noted = c.in_ok-ticket.ensures.noted in
    let same_stats : noting.stats ≡ middle.stats = ap (λ (j : Journal). j.stats) noted in
    let same_heard : noting.heard ≡ middle.heard = ap (λ (j : Journal). j.heard) noted in
    let more : noting.starts ≡ old.starts ++ start_of cmd ∷ [] = ap (λ (j : Journal). j.starts) noted ∙ ap (λ (ss : List Start). ss ++ start_of cmd ∷ []) looked.starts in
    let started : In (start_of cmd) noting.starts = subst (λ (ss : List Start). In (start_of cmd) ss) (sym more) (In-right (start_of cmd) old.starts (start_of cmd ∷ []) (inl refl)) in
    let number : c.in_ok-ticket.ticket ≡ length old.heard + 1 = c.in_ok-ticket.ensures.ticket ∙ ap (λ (n : ℕ). n + 1) (ap length looked.starts ∙ sym c.requires.even) in
    let once : IsOnce noting = once_same middle noting same_stats same_heard c.gather.ensures.once in
    let reads = c.in_ok-reads.reads in
    let read = c.in_ok-reads.ensures.reads in
    let stood : SeenStands (view c.execute.new.world) noting =
    stands_moved noting (λ p i k o. seen_apart cmd c.requires.sound c.requires.unseen looked p i (knows_same middle noting same_stats same_heard p i k) o) c.execute.ensures.moved (stands_same (view c.gather.new.world) middle noting same_stats same_heard stands) in
    let well : HeardWell g.W.World.ended g.L.Law.does (view c.execute.new.world) noting.heard =
    heard_on c.execute.ensures.moved.keeps (heard_same (same_heard ∙ looked.heard) (heard_on c.gather.ensures.stayed.keeps c.requires.heard)) in
    moved_both (moved_stayed c.gather.ensures.stayed) (moved_wider (λ p o. (started, o)) c.execute.ensures.moved)

pub returns-in_err-ended-clause-read : goal.returns-in_err-ended-clause-read
returns-in_err-ended-clause-read g c =
    let view = g.W.Disk.view in
    let cmd = c.args.command.now in
    let old = c.args.seen.now in
    let middle = c.gather.new.seen in
    let looked = c.gather.ensures.looked in
    let stands : SeenStands (view c.gather.new.world) middle = seen_stands_looked c.requires.stands c.gather.ensures.stayed looked in
    let noting = c.announce.new.seen in
    let noted = c.in_ok-ticket.ensures.noted in
    let same_stats : noting.stats ≡ middle.stats = ap (λ (j : Journal). j.stats) noted in
    let same_heard : noting.heard ≡ middle.heard = ap (λ (j : Journal). j.heard) noted in
    let more : noting.starts ≡ old.starts ++ start_of cmd ∷ [] = ap (λ (j : Journal). j.starts) noted ∙ ap (λ (ss : List Start). ss ++ start_of cmd ∷ []) looked.starts in
    let started : In (start_of cmd) noting.starts = subst (λ (ss : List Start). In (start_of cmd) ss) (sym more) (In-right (start_of cmd) old.starts (start_of cmd ∷ []) (inl refl)) in
    let number : c.in_ok-ticket.ticket ≡ length old.heard + 1 = c.in_ok-ticket.ensures.ticket ∙ ap (λ (n : ℕ). n + 1) (ap length looked.starts ∙ sym c.requires.even) in
    let once : IsOnce noting = once_same middle noting same_stats same_heard c.gather.ensures.once in
    let reads = c.in_ok-reads.reads in
    let read = c.in_ok-reads.ensures.reads in
    let stood : SeenStands (view c.execute.new.world) noting =
    stands_moved noting (λ p i k o. seen_apart cmd c.requires.sound c.requires.unseen looked p i (knows_same middle noting same_stats same_heard p i k) o) c.execute.ensures.moved (stands_same (view c.gather.new.world) middle noting same_stats same_heard stands) in
    let well : HeardWell g.W.World.ended g.L.Law.does (view c.execute.new.world) noting.heard =
    heard_on c.execute.ensures.moved.keeps (heard_same (same_heard ∙ looked.heard) (heard_on c.gather.ensures.stayed.keeps c.requires.heard)) in
    first_started cmd reads noting looked read same_stats more (λ h i. subst (λ (hs : List Heard). In h hs) (sym same_heard) i) (λ h i. inl (subst (λ (hs : List Heard). In h hs) same_heard i)) once.single

pub returns-in_err-ended-clause-asked : goal.returns-in_err-ended-clause-asked
returns-in_err-ended-clause-asked g c =
    let view = g.W.Disk.view in
    let cmd = c.args.command.now in
    let old = c.args.seen.now in
    let middle = c.gather.new.seen in
    let looked = c.gather.ensures.looked in
    let stands : SeenStands (view c.gather.new.world) middle = seen_stands_looked c.requires.stands c.gather.ensures.stayed looked in
    let noting = c.announce.new.seen in
    let noted = c.in_ok-ticket.ensures.noted in
    let same_stats : noting.stats ≡ middle.stats = ap (λ (j : Journal). j.stats) noted in
    let same_heard : noting.heard ≡ middle.heard = ap (λ (j : Journal). j.heard) noted in
    let more : noting.starts ≡ old.starts ++ start_of cmd ∷ [] = ap (λ (j : Journal). j.starts) noted ∙ ap (λ (ss : List Start). ss ++ start_of cmd ∷ []) looked.starts in
    let started : In (start_of cmd) noting.starts = subst (λ (ss : List Start). In (start_of cmd) ss) (sym more) (In-right (start_of cmd) old.starts (start_of cmd ∷ []) (inl refl)) in
    let number : c.in_ok-ticket.ticket ≡ length old.heard + 1 = c.in_ok-ticket.ensures.ticket ∙ ap (λ (n : ℕ). n + 1) (ap length looked.starts ∙ sym c.requires.even) in
    let once : IsOnce noting = once_same middle noting same_stats same_heard c.gather.ensures.once in
    let reads = c.in_ok-reads.reads in
    let read = c.in_ok-reads.ensures.reads in
    let stood : SeenStands (view c.execute.new.world) noting =
    stands_moved noting (λ p i k o. seen_apart cmd c.requires.sound c.requires.unseen looked p i (knows_same middle noting same_stats same_heard p i k) o) c.execute.ensures.moved (stands_same (view c.gather.new.world) middle noting same_stats same_heard stands) in
    let well : HeardWell g.W.World.ended g.L.Law.does (view c.execute.new.world) noting.heard =
    heard_on c.execute.ensures.moved.keeps (heard_same (same_heard ∙ looked.heard) (heard_on c.gather.ensures.stayed.keeps c.requires.heard)) in
    if_err c.from_residual-in_err-ended.result c.in_err-ended.field-0.0 _ (search rules)
    (disk_asked (view c.gather.new.world).faults (view c.execute.new.world).faults (Knows noting) cmd.inputs _ c.in_err-ended.field-0.0 c.in_err-ended.ensures.stop started)

pub settle-requires-clause-unknown : goal.settle-requires-clause-unknown
settle-requires-clause-unknown g c κs within p o i k =
    let view = g.W.Disk.view in
    let cmd = c.args.command.now in
    let old = c.args.seen.now in
    let middle = c.gather.new.seen in
    let looked = c.gather.ensures.looked in
    let stands : SeenStands (view c.gather.new.world) middle = seen_stands_looked c.requires.stands c.gather.ensures.stayed looked in
    let noting = c.announce.new.seen in
    let noted = c.in_ok-ticket.ensures.noted in
    let same_stats : noting.stats ≡ middle.stats = ap (λ (j : Journal). j.stats) noted in
    let same_heard : noting.heard ≡ middle.heard = ap (λ (j : Journal). j.heard) noted in
    let more : noting.starts ≡ old.starts ++ start_of cmd ∷ [] = ap (λ (j : Journal). j.starts) noted ∙ ap (λ (ss : List Start). ss ++ start_of cmd ∷ []) looked.starts in
    let started : In (start_of cmd) noting.starts = subst (λ (ss : List Start). In (start_of cmd) ss) (sym more) (In-right (start_of cmd) old.starts (start_of cmd ∷ []) (inl refl)) in
    let number : c.in_ok-ticket.ticket ≡ length old.heard + 1 = c.in_ok-ticket.ensures.ticket ∙ ap (λ (n : ℕ). n + 1) (ap length looked.starts ∙ sym c.requires.even) in
    let once : IsOnce noting = once_same middle noting same_stats same_heard c.gather.ensures.once in
    let reads = c.in_ok-reads.reads in
    let read = c.in_ok-reads.ensures.reads in
    let ended = c.in_ok-ended.ended in
    let order = ended.order in
    let is = c.in_ok-ended.ensures.order in
    let stood : SeenStands (view c.execute.new.world) noting =
    stands_moved noting (λ p i k o. seen_apart cmd c.requires.sound c.requires.unseen looked p i (knows_same middle noting same_stats same_heard p i k) o) c.execute.ensures.moved (stands_same (view c.gather.new.world) middle noting same_stats same_heard stands) in
    let read_stands : Told (view c.gather.new.world) → ReadsStand (view c.gather.new.world).at reads = reads_stand (view c.gather.new.world) middle cmd reads stands read in
    let well : HeardWell g.W.World.ended g.L.Law.does (view c.execute.new.world) noting.heard =
    heard_on c.execute.ensures.moved.keeps (heard_same (same_heard ∙ looked.heard) (heard_on c.gather.ensures.stayed.keeps c.requires.heard)) in
    seen_apart cmd c.requires.sound c.requires.unseen looked p i (knows_same middle noting same_stats same_heard p i k) (subst (λ (ps : List (List ℕ)). In p ps) is.outputs_are o)

pub settle-requires-clause-once : goal.settle-requires-clause-once
settle-requires-clause-once g c κs within =
    let view = g.W.Disk.view in
    let cmd = c.args.command.now in
    let old = c.args.seen.now in
    let middle = c.gather.new.seen in
    let looked = c.gather.ensures.looked in
    let stands : SeenStands (view c.gather.new.world) middle = seen_stands_looked c.requires.stands c.gather.ensures.stayed looked in
    let noting = c.announce.new.seen in
    let noted = c.in_ok-ticket.ensures.noted in
    let same_stats : noting.stats ≡ middle.stats = ap (λ (j : Journal). j.stats) noted in
    let same_heard : noting.heard ≡ middle.heard = ap (λ (j : Journal). j.heard) noted in
    let more : noting.starts ≡ old.starts ++ start_of cmd ∷ [] = ap (λ (j : Journal). j.starts) noted ∙ ap (λ (ss : List Start). ss ++ start_of cmd ∷ []) looked.starts in
    let started : In (start_of cmd) noting.starts = subst (λ (ss : List Start). In (start_of cmd) ss) (sym more) (In-right (start_of cmd) old.starts (start_of cmd ∷ []) (inl refl)) in
    let number : c.in_ok-ticket.ticket ≡ length old.heard + 1 = c.in_ok-ticket.ensures.ticket ∙ ap (λ (n : ℕ). n + 1) (ap length looked.starts ∙ sym c.requires.even) in
    let once : IsOnce noting = once_same middle noting same_stats same_heard c.gather.ensures.once in
    let reads = c.in_ok-reads.reads in
    let read = c.in_ok-reads.ensures.reads in
    let ended = c.in_ok-ended.ended in
    let order = ended.order in
    let is = c.in_ok-ended.ensures.order in
    let stood : SeenStands (view c.execute.new.world) noting =
    stands_moved noting (λ p i k o. seen_apart cmd c.requires.sound c.requires.unseen looked p i (knows_same middle noting same_stats same_heard p i k) o) c.execute.ensures.moved (stands_same (view c.gather.new.world) middle noting same_stats same_heard stands) in
    let read_stands : Told (view c.gather.new.world) → ReadsStand (view c.gather.new.world).at reads = reads_stand (view c.gather.new.world) middle cmd reads stands read in
    let well : HeardWell g.W.World.ended g.L.Law.does (view c.execute.new.world) noting.heard =
    heard_on c.execute.ensures.moved.keeps (heard_same (same_heard ∙ looked.heard) (heard_on c.gather.ensures.stayed.keeps c.requires.heard)) in
    once

pub returns-in_err-settle-clause-stop : goal.returns-in_err-settle-clause-stop
returns-in_err-settle-clause-stop g c =
    let view = g.W.Disk.view in
    let cmd = c.args.command.now in
    let old = c.args.seen.now in
    let middle = c.gather.new.seen in
    let looked = c.gather.ensures.looked in
    let stands : SeenStands (view c.gather.new.world) middle = seen_stands_looked c.requires.stands c.gather.ensures.stayed looked in
    let noting = c.announce.new.seen in
    let noted = c.in_ok-ticket.ensures.noted in
    let same_stats : noting.stats ≡ middle.stats = ap (λ (j : Journal). j.stats) noted in
    let same_heard : noting.heard ≡ middle.heard = ap (λ (j : Journal). j.heard) noted in
    let more : noting.starts ≡ old.starts ++ start_of cmd ∷ [] = ap (λ (j : Journal). j.starts) noted ∙ ap (λ (ss : List Start). ss ++ start_of cmd ∷ []) looked.starts in
    let started : In (start_of cmd) noting.starts = subst (λ (ss : List Start). In (start_of cmd) ss) (sym more) (In-right (start_of cmd) old.starts (start_of cmd ∷ []) (inl refl)) in
    let number : c.in_ok-ticket.ticket ≡ length old.heard + 1 = c.in_ok-ticket.ensures.ticket ∙ ap (λ (n : ℕ). n + 1) (ap length looked.starts ∙ sym c.requires.even) in
    let once : IsOnce noting = once_same middle noting same_stats same_heard c.gather.ensures.once in
    let reads = c.in_ok-reads.reads in
    let read = c.in_ok-reads.ensures.reads in
    let ended = c.in_ok-ended.ended in
    let order = ended.order in
    let is = c.in_ok-ended.ensures.order in
    let stood : SeenStands (view c.execute.new.world) noting =
    stands_moved noting (λ p i k o. seen_apart cmd c.requires.sound c.requires.unseen looked p i (knows_same middle noting same_stats same_heard p i k) o) c.execute.ensures.moved (stands_same (view c.gather.new.world) middle noting same_stats same_heard stands) in
    let read_stands : Told (view c.gather.new.world) → ReadsStand (view c.gather.new.world).at reads = reads_stand (view c.gather.new.world) middle cmd reads stands read in
    let well : HeardWell g.W.World.ended g.L.Law.does (view c.execute.new.world) noting.heard =
    heard_on c.execute.ensures.moved.keeps (heard_same (same_heard ∙ looked.heard) (heard_on c.gather.ensures.stayed.keeps c.requires.heard)) in
    let still : In (start_of cmd) c.settle.new.seen.starts = subst (λ (ss : List Start). In (start_of cmd) ss) (sym c.settle.ensures.starts) started in
    let moved : Moved (IsOutput cmd) (view c.args.world.now) (view c.settle.new.world) = moved_both (moved_stayed c.gather.ensures.stayed) (moved_both c.execute.ensures.moved (moved_stayed c.settle.ensures.stayed)) in
    let stop = c.in_err-settle.field-0.0 in
    let why = c.in_err-settle.ensures.stop in
    let before = (view c.execute.new.world).faults in
    let now = (view c.settle.new.world).faults in
    let then = c.settle.new.seen in
    let less : (p : List ℕ) (i : Info) → Knows then p i → Knows noting p i = λ p i k. elim k [
      | inl s ↦ inl (subst (λ (ss : List StatSeen). In (p, i) (sights_of ss)) c.settle.ensures.stats s)
      | inr w ↦ inr (settle_shows before now ended noting.heard then.heard stop why p i w)
    ] in
    if_err c.from_residual-in_err-settle.result stop _ (search rules)
    (settle_stopped (view c.args.world.now).faults before now (g.O.Sink.view c.args.out.now).faults (g.O.Sink.view c.announce.new.out).faults (Knows then) cmd c.in_ok-ticket.ticket reads ended old.heard noting.heard then.heard
    stop is number (omega (arith, c.gather.ensures.stayed.later, c.execute.ensures.moved.later)) (same_heard ∙ looked.heard) why)

pub returns-in_err-settle-clause-heard : goal.returns-in_err-settle-clause-heard
returns-in_err-settle-clause-heard g c =
    let view = g.W.Disk.view in
    let cmd = c.args.command.now in
    let old = c.args.seen.now in
    let middle = c.gather.new.seen in
    let looked = c.gather.ensures.looked in
    let stands : SeenStands (view c.gather.new.world) middle = seen_stands_looked c.requires.stands c.gather.ensures.stayed looked in
    let noting = c.announce.new.seen in
    let noted = c.in_ok-ticket.ensures.noted in
    let same_stats : noting.stats ≡ middle.stats = ap (λ (j : Journal). j.stats) noted in
    let same_heard : noting.heard ≡ middle.heard = ap (λ (j : Journal). j.heard) noted in
    let more : noting.starts ≡ old.starts ++ start_of cmd ∷ [] = ap (λ (j : Journal). j.starts) noted ∙ ap (λ (ss : List Start). ss ++ start_of cmd ∷ []) looked.starts in
    let started : In (start_of cmd) noting.starts = subst (λ (ss : List Start). In (start_of cmd) ss) (sym more) (In-right (start_of cmd) old.starts (start_of cmd ∷ []) (inl refl)) in
    let number : c.in_ok-ticket.ticket ≡ length old.heard + 1 = c.in_ok-ticket.ensures.ticket ∙ ap (λ (n : ℕ). n + 1) (ap length looked.starts ∙ sym c.requires.even) in
    let once : IsOnce noting = once_same middle noting same_stats same_heard c.gather.ensures.once in
    let reads = c.in_ok-reads.reads in
    let read = c.in_ok-reads.ensures.reads in
    let ended = c.in_ok-ended.ended in
    let order = ended.order in
    let is = c.in_ok-ended.ensures.order in
    let stood : SeenStands (view c.execute.new.world) noting =
    stands_moved noting (λ p i k o. seen_apart cmd c.requires.sound c.requires.unseen looked p i (knows_same middle noting same_stats same_heard p i k) o) c.execute.ensures.moved (stands_same (view c.gather.new.world) middle noting same_stats same_heard stands) in
    let read_stands : Told (view c.gather.new.world) → ReadsStand (view c.gather.new.world).at reads = reads_stand (view c.gather.new.world) middle cmd reads stands read in
    let well : HeardWell g.W.World.ended g.L.Law.does (view c.execute.new.world) noting.heard =
    heard_on c.execute.ensures.moved.keeps (heard_same (same_heard ∙ looked.heard) (heard_on c.gather.ensures.stayed.keeps c.requires.heard)) in
    let still : In (start_of cmd) c.settle.new.seen.starts = subst (λ (ss : List Start). In (start_of cmd) ss) (sym c.settle.ensures.starts) started in
    let moved : Moved (IsOutput cmd) (view c.args.world.now) (view c.settle.new.world) = moved_both (moved_stayed c.gather.ensures.stayed) (moved_both c.execute.ensures.moved (moved_stayed c.settle.ensures.stayed)) in
    let stop = c.in_err-settle.field-0.0 in
    let why = c.in_err-settle.ensures.stop in
    let before = (view c.execute.new.world).faults in
    let now = (view c.settle.new.world).faults in
    let then = c.settle.new.seen in
    let less : (p : List ℕ) (i : Info) → Knows then p i → Knows noting p i = λ p i k. elim k [
      | inl s ↦ inl (subst (λ (ss : List StatSeen). In (p, i) (sights_of ss)) c.settle.ensures.stats s)
      | inr w ↦ inr (settle_shows before now ended noting.heard then.heard stop why p i w)
    ] in
    heard_stopped before now ended noting.heard then.heard stop (heard_on c.settle.ensures.stayed.keeps well) c.in_ok-ended.ensures.ended is read_stands c.execute.ensures.moved.keeps c.settle.ensures.stayed.keeps why

pub returns-in_err-settle-clause-stood : goal.returns-in_err-settle-clause-stood
returns-in_err-settle-clause-stood g c =
    let view = g.W.Disk.view in
    let cmd = c.args.command.now in
    let old = c.args.seen.now in
    let middle = c.gather.new.seen in
    let looked = c.gather.ensures.looked in
    let stands : SeenStands (view c.gather.new.world) middle = seen_stands_looked c.requires.stands c.gather.ensures.stayed looked in
    let noting = c.announce.new.seen in
    let noted = c.in_ok-ticket.ensures.noted in
    let same_stats : noting.stats ≡ middle.stats = ap (λ (j : Journal). j.stats) noted in
    let same_heard : noting.heard ≡ middle.heard = ap (λ (j : Journal). j.heard) noted in
    let more : noting.starts ≡ old.starts ++ start_of cmd ∷ [] = ap (λ (j : Journal). j.starts) noted ∙ ap (λ (ss : List Start). ss ++ start_of cmd ∷ []) looked.starts in
    let started : In (start_of cmd) noting.starts = subst (λ (ss : List Start). In (start_of cmd) ss) (sym more) (In-right (start_of cmd) old.starts (start_of cmd ∷ []) (inl refl)) in
    let number : c.in_ok-ticket.ticket ≡ length old.heard + 1 = c.in_ok-ticket.ensures.ticket ∙ ap (λ (n : ℕ). n + 1) (ap length looked.starts ∙ sym c.requires.even) in
    let once : IsOnce noting = once_same middle noting same_stats same_heard c.gather.ensures.once in
    let reads = c.in_ok-reads.reads in
    let read = c.in_ok-reads.ensures.reads in
    let ended = c.in_ok-ended.ended in
    let order = ended.order in
    let is = c.in_ok-ended.ensures.order in
    let stood : SeenStands (view c.execute.new.world) noting =
    stands_moved noting (λ p i k o. seen_apart cmd c.requires.sound c.requires.unseen looked p i (knows_same middle noting same_stats same_heard p i k) o) c.execute.ensures.moved (stands_same (view c.gather.new.world) middle noting same_stats same_heard stands) in
    let read_stands : Told (view c.gather.new.world) → ReadsStand (view c.gather.new.world).at reads = reads_stand (view c.gather.new.world) middle cmd reads stands read in
    let well : HeardWell g.W.World.ended g.L.Law.does (view c.execute.new.world) noting.heard =
    heard_on c.execute.ensures.moved.keeps (heard_same (same_heard ∙ looked.heard) (heard_on c.gather.ensures.stayed.keeps c.requires.heard)) in
    let still : In (start_of cmd) c.settle.new.seen.starts = subst (λ (ss : List Start). In (start_of cmd) ss) (sym c.settle.ensures.starts) started in
    let moved : Moved (IsOutput cmd) (view c.args.world.now) (view c.settle.new.world) = moved_both (moved_stayed c.gather.ensures.stayed) (moved_both c.execute.ensures.moved (moved_stayed c.settle.ensures.stayed)) in
    let stop = c.in_err-settle.field-0.0 in
    let why = c.in_err-settle.ensures.stop in
    let before = (view c.execute.new.world).faults in
    let now = (view c.settle.new.world).faults in
    let then = c.settle.new.seen in
    let less : (p : List ℕ) (i : Info) → Knows then p i → Knows noting p i = λ p i k. elim k [
      | inl s ↦ inl (subst (λ (ss : List StatSeen). In (p, i) (sights_of ss)) c.settle.ensures.stats s)
      | inr w ↦ inr (settle_shows before now ended noting.heard then.heard stop why p i w)
    ] in
    (λ t p i k. stands_stayed noting c.settle.ensures.stayed stood t p i (less p i k))

pub returns-in_err-settle-clause-sources : goal.returns-in_err-settle-clause-sources
returns-in_err-settle-clause-sources g c =
    let view = g.W.Disk.view in
    let cmd = c.args.command.now in
    let old = c.args.seen.now in
    let middle = c.gather.new.seen in
    let looked = c.gather.ensures.looked in
    let stands : SeenStands (view c.gather.new.world) middle = seen_stands_looked c.requires.stands c.gather.ensures.stayed looked in
    let noting = c.announce.new.seen in
    let noted = c.in_ok-ticket.ensures.noted in
    let same_stats : noting.stats ≡ middle.stats = ap (λ (j : Journal). j.stats) noted in
    let same_heard : noting.heard ≡ middle.heard = ap (λ (j : Journal). j.heard) noted in
    let more : noting.starts ≡ old.starts ++ start_of cmd ∷ [] = ap (λ (j : Journal). j.starts) noted ∙ ap (λ (ss : List Start). ss ++ start_of cmd ∷ []) looked.starts in
    let started : In (start_of cmd) noting.starts = subst (λ (ss : List Start). In (start_of cmd) ss) (sym more) (In-right (start_of cmd) old.starts (start_of cmd ∷ []) (inl refl)) in
    let number : c.in_ok-ticket.ticket ≡ length old.heard + 1 = c.in_ok-ticket.ensures.ticket ∙ ap (λ (n : ℕ). n + 1) (ap length looked.starts ∙ sym c.requires.even) in
    let once : IsOnce noting = once_same middle noting same_stats same_heard c.gather.ensures.once in
    let reads = c.in_ok-reads.reads in
    let read = c.in_ok-reads.ensures.reads in
    let ended = c.in_ok-ended.ended in
    let order = ended.order in
    let is = c.in_ok-ended.ensures.order in
    let stood : SeenStands (view c.execute.new.world) noting =
    stands_moved noting (λ p i k o. seen_apart cmd c.requires.sound c.requires.unseen looked p i (knows_same middle noting same_stats same_heard p i k) o) c.execute.ensures.moved (stands_same (view c.gather.new.world) middle noting same_stats same_heard stands) in
    let read_stands : Told (view c.gather.new.world) → ReadsStand (view c.gather.new.world).at reads = reads_stand (view c.gather.new.world) middle cmd reads stands read in
    let well : HeardWell g.W.World.ended g.L.Law.does (view c.execute.new.world) noting.heard =
    heard_on c.execute.ensures.moved.keeps (heard_same (same_heard ∙ looked.heard) (heard_on c.gather.ensures.stayed.keeps c.requires.heard)) in
    let still : In (start_of cmd) c.settle.new.seen.starts = subst (λ (ss : List Start). In (start_of cmd) ss) (sym c.settle.ensures.starts) started in
    let moved : Moved (IsOutput cmd) (view c.args.world.now) (view c.settle.new.world) = moved_both (moved_stayed c.gather.ensures.stayed) (moved_both c.execute.ensures.moved (moved_stayed c.settle.ensures.stayed)) in
    let stop = c.in_err-settle.field-0.0 in
    let why = c.in_err-settle.ensures.stop in
    let before = (view c.execute.new.world).faults in
    let now = (view c.settle.new.world).faults in
    let then = c.settle.new.seen in
    let less : (p : List ℕ) (i : Info) → Knows then p i → Knows noting p i = λ p i k. elim k [
      | inl s ↦ inl (subst (λ (ss : List StatSeen). In (p, i) (sights_of ss)) c.settle.ensures.stats s)
      | inr w ↦ inr (settle_shows before now ended noting.heard then.heard stop why p i w)
    ] in
    came_same old middle c.settle.new.seen (c.settle.ensures.stats ∙ same_stats) (looked_sources looked)

pub returns-in_err-settle-clause-moved : goal.returns-in_err-settle-clause-moved
returns-in_err-settle-clause-moved g c =
    let view = g.W.Disk.view in
    let cmd = c.args.command.now in
    let old = c.args.seen.now in
    let middle = c.gather.new.seen in
    let looked = c.gather.ensures.looked in
    let stands : SeenStands (view c.gather.new.world) middle = seen_stands_looked c.requires.stands c.gather.ensures.stayed looked in
    let noting = c.announce.new.seen in
    let noted = c.in_ok-ticket.ensures.noted in
    let same_stats : noting.stats ≡ middle.stats = ap (λ (j : Journal). j.stats) noted in
    let same_heard : noting.heard ≡ middle.heard = ap (λ (j : Journal). j.heard) noted in
    let more : noting.starts ≡ old.starts ++ start_of cmd ∷ [] = ap (λ (j : Journal). j.starts) noted ∙ ap (λ (ss : List Start). ss ++ start_of cmd ∷ []) looked.starts in
    let started : In (start_of cmd) noting.starts = subst (λ (ss : List Start). In (start_of cmd) ss) (sym more) (In-right (start_of cmd) old.starts (start_of cmd ∷ []) (inl refl)) in
    let number : c.in_ok-ticket.ticket ≡ length old.heard + 1 = c.in_ok-ticket.ensures.ticket ∙ ap (λ (n : ℕ). n + 1) (ap length looked.starts ∙ sym c.requires.even) in
    let once : IsOnce noting = once_same middle noting same_stats same_heard c.gather.ensures.once in
    let reads = c.in_ok-reads.reads in
    let read = c.in_ok-reads.ensures.reads in
    let ended = c.in_ok-ended.ended in
    let order = ended.order in
    let is = c.in_ok-ended.ensures.order in
    let stood : SeenStands (view c.execute.new.world) noting =
    stands_moved noting (λ p i k o. seen_apart cmd c.requires.sound c.requires.unseen looked p i (knows_same middle noting same_stats same_heard p i k) o) c.execute.ensures.moved (stands_same (view c.gather.new.world) middle noting same_stats same_heard stands) in
    let read_stands : Told (view c.gather.new.world) → ReadsStand (view c.gather.new.world).at reads = reads_stand (view c.gather.new.world) middle cmd reads stands read in
    let well : HeardWell g.W.World.ended g.L.Law.does (view c.execute.new.world) noting.heard =
    heard_on c.execute.ensures.moved.keeps (heard_same (same_heard ∙ looked.heard) (heard_on c.gather.ensures.stayed.keeps c.requires.heard)) in
    let still : In (start_of cmd) c.settle.new.seen.starts = subst (λ (ss : List Start). In (start_of cmd) ss) (sym c.settle.ensures.starts) started in
    let moved : Moved (IsOutput cmd) (view c.args.world.now) (view c.settle.new.world) = moved_both (moved_stayed c.gather.ensures.stayed) (moved_both c.execute.ensures.moved (moved_stayed c.settle.ensures.stayed)) in
    let stop = c.in_err-settle.field-0.0 in
    let why = c.in_err-settle.ensures.stop in
    let before = (view c.execute.new.world).faults in
    let now = (view c.settle.new.world).faults in
    let then = c.settle.new.seen in
    let less : (p : List ℕ) (i : Info) → Knows then p i → Knows noting p i = λ p i k. elim k [
      | inl s ↦ inl (subst (λ (ss : List StatSeen). In (p, i) (sights_of ss)) c.settle.ensures.stats s)
      | inr w ↦ inr (settle_shows before now ended noting.heard then.heard stop why p i w)
    ] in
    moved_wider (λ p o. (still, o)) moved

pub returns-in_err-settle-clause-read : goal.returns-in_err-settle-clause-read
returns-in_err-settle-clause-read g c =
    let view = g.W.Disk.view in
    let cmd = c.args.command.now in
    let old = c.args.seen.now in
    let middle = c.gather.new.seen in
    let looked = c.gather.ensures.looked in
    let stands : SeenStands (view c.gather.new.world) middle = seen_stands_looked c.requires.stands c.gather.ensures.stayed looked in
    let noting = c.announce.new.seen in
    let noted = c.in_ok-ticket.ensures.noted in
    let same_stats : noting.stats ≡ middle.stats = ap (λ (j : Journal). j.stats) noted in
    let same_heard : noting.heard ≡ middle.heard = ap (λ (j : Journal). j.heard) noted in
    let more : noting.starts ≡ old.starts ++ start_of cmd ∷ [] = ap (λ (j : Journal). j.starts) noted ∙ ap (λ (ss : List Start). ss ++ start_of cmd ∷ []) looked.starts in
    let started : In (start_of cmd) noting.starts = subst (λ (ss : List Start). In (start_of cmd) ss) (sym more) (In-right (start_of cmd) old.starts (start_of cmd ∷ []) (inl refl)) in
    let number : c.in_ok-ticket.ticket ≡ length old.heard + 1 = c.in_ok-ticket.ensures.ticket ∙ ap (λ (n : ℕ). n + 1) (ap length looked.starts ∙ sym c.requires.even) in
    let once : IsOnce noting = once_same middle noting same_stats same_heard c.gather.ensures.once in
    let reads = c.in_ok-reads.reads in
    let read = c.in_ok-reads.ensures.reads in
    let ended = c.in_ok-ended.ended in
    let order = ended.order in
    let is = c.in_ok-ended.ensures.order in
    let stood : SeenStands (view c.execute.new.world) noting =
    stands_moved noting (λ p i k o. seen_apart cmd c.requires.sound c.requires.unseen looked p i (knows_same middle noting same_stats same_heard p i k) o) c.execute.ensures.moved (stands_same (view c.gather.new.world) middle noting same_stats same_heard stands) in
    let read_stands : Told (view c.gather.new.world) → ReadsStand (view c.gather.new.world).at reads = reads_stand (view c.gather.new.world) middle cmd reads stands read in
    let well : HeardWell g.W.World.ended g.L.Law.does (view c.execute.new.world) noting.heard =
    heard_on c.execute.ensures.moved.keeps (heard_same (same_heard ∙ looked.heard) (heard_on c.gather.ensures.stayed.keeps c.requires.heard)) in
    let still : In (start_of cmd) c.settle.new.seen.starts = subst (λ (ss : List Start). In (start_of cmd) ss) (sym c.settle.ensures.starts) started in
    let moved : Moved (IsOutput cmd) (view c.args.world.now) (view c.settle.new.world) = moved_both (moved_stayed c.gather.ensures.stayed) (moved_both c.execute.ensures.moved (moved_stayed c.settle.ensures.stayed)) in
    let stop = c.in_err-settle.field-0.0 in
    let why = c.in_err-settle.ensures.stop in
    let before = (view c.execute.new.world).faults in
    let now = (view c.settle.new.world).faults in
    let then = c.settle.new.seen in
    let less : (p : List ℕ) (i : Info) → Knows then p i → Knows noting p i = λ p i k. elim k [
      | inl s ↦ inl (subst (λ (ss : List StatSeen). In (p, i) (sights_of ss)) c.settle.ensures.stats s)
      | inr w ↦ inr (settle_shows before now ended noting.heard then.heard stop why p i w)
    ] in
    first_started cmd reads then looked read (c.settle.ensures.stats ∙ same_stats) (c.settle.ensures.starts ∙ more)
    (λ h i. settle_kept before now ended noting.heard then.heard stop why h (subst (λ (hs : List Heard). In h hs) (sym same_heard) i))
    (λ h i. elim (order_reads noting.heard cmd c.in_ok-ticket.ticket reads order h is (settle_orders before now ended noting.heard then.heard stop why h i)) [
      | inl k ↦ inl (subst (λ (hs : List Heard). In h hs) same_heard k)
      | inr k ↦ inr k
    ])
    c.settle.ensures.once.single

pub returns-in_err-settle-clause-asked : goal.returns-in_err-settle-clause-asked
returns-in_err-settle-clause-asked g c =
    let view = g.W.Disk.view in
    let cmd = c.args.command.now in
    let old = c.args.seen.now in
    let middle = c.gather.new.seen in
    let looked = c.gather.ensures.looked in
    let stands : SeenStands (view c.gather.new.world) middle = seen_stands_looked c.requires.stands c.gather.ensures.stayed looked in
    let noting = c.announce.new.seen in
    let noted = c.in_ok-ticket.ensures.noted in
    let same_stats : noting.stats ≡ middle.stats = ap (λ (j : Journal). j.stats) noted in
    let same_heard : noting.heard ≡ middle.heard = ap (λ (j : Journal). j.heard) noted in
    let more : noting.starts ≡ old.starts ++ start_of cmd ∷ [] = ap (λ (j : Journal). j.starts) noted ∙ ap (λ (ss : List Start). ss ++ start_of cmd ∷ []) looked.starts in
    let started : In (start_of cmd) noting.starts = subst (λ (ss : List Start). In (start_of cmd) ss) (sym more) (In-right (start_of cmd) old.starts (start_of cmd ∷ []) (inl refl)) in
    let number : c.in_ok-ticket.ticket ≡ length old.heard + 1 = c.in_ok-ticket.ensures.ticket ∙ ap (λ (n : ℕ). n + 1) (ap length looked.starts ∙ sym c.requires.even) in
    let once : IsOnce noting = once_same middle noting same_stats same_heard c.gather.ensures.once in
    let reads = c.in_ok-reads.reads in
    let read = c.in_ok-reads.ensures.reads in
    let ended = c.in_ok-ended.ended in
    let order = ended.order in
    let is = c.in_ok-ended.ensures.order in
    let stood : SeenStands (view c.execute.new.world) noting =
    stands_moved noting (λ p i k o. seen_apart cmd c.requires.sound c.requires.unseen looked p i (knows_same middle noting same_stats same_heard p i k) o) c.execute.ensures.moved (stands_same (view c.gather.new.world) middle noting same_stats same_heard stands) in
    let read_stands : Told (view c.gather.new.world) → ReadsStand (view c.gather.new.world).at reads = reads_stand (view c.gather.new.world) middle cmd reads stands read in
    let well : HeardWell g.W.World.ended g.L.Law.does (view c.execute.new.world) noting.heard =
    heard_on c.execute.ensures.moved.keeps (heard_same (same_heard ∙ looked.heard) (heard_on c.gather.ensures.stayed.keeps c.requires.heard)) in
    let still : In (start_of cmd) c.settle.new.seen.starts = subst (λ (ss : List Start). In (start_of cmd) ss) (sym c.settle.ensures.starts) started in
    let moved : Moved (IsOutput cmd) (view c.args.world.now) (view c.settle.new.world) = moved_both (moved_stayed c.gather.ensures.stayed) (moved_both c.execute.ensures.moved (moved_stayed c.settle.ensures.stayed)) in
    let stop = c.in_err-settle.field-0.0 in
    let why = c.in_err-settle.ensures.stop in
    let before = (view c.execute.new.world).faults in
    let now = (view c.settle.new.world).faults in
    let then = c.settle.new.seen in
    let less : (p : List ℕ) (i : Info) → Knows then p i → Knows noting p i = λ p i k. elim k [
      | inl s ↦ inl (subst (λ (ss : List StatSeen). In (p, i) (sights_of ss)) c.settle.ensures.stats s)
      | inr w ↦ inr (settle_shows before now ended noting.heard then.heard stop why p i w)
    ] in
    if_err c.from_residual-in_err-settle.result stop _ (search rules)
    (settle_asked before now ended noting.heard then.heard (Knows then) cmd.inputs _ stop why still)

pub returns-clause-ran : goal.returns-clause-ran
returns-clause-ran g c =
    let view = g.W.Disk.view in
    let cmd = c.args.command.now in
    let old = c.args.seen.now in
    let middle = c.gather.new.seen in
    let looked = c.gather.ensures.looked in
    let stands : SeenStands (view c.gather.new.world) middle = seen_stands_looked c.requires.stands c.gather.ensures.stayed looked in
    let noting = c.announce.new.seen in
    let noted = c.in_ok-ticket.ensures.noted in
    let same_stats : noting.stats ≡ middle.stats = ap (λ (j : Journal). j.stats) noted in
    let same_heard : noting.heard ≡ middle.heard = ap (λ (j : Journal). j.heard) noted in
    let more : noting.starts ≡ old.starts ++ start_of cmd ∷ [] = ap (λ (j : Journal). j.starts) noted ∙ ap (λ (ss : List Start). ss ++ start_of cmd ∷ []) looked.starts in
    let started : In (start_of cmd) noting.starts = subst (λ (ss : List Start). In (start_of cmd) ss) (sym more) (In-right (start_of cmd) old.starts (start_of cmd ∷ []) (inl refl)) in
    let number : c.in_ok-ticket.ticket ≡ length old.heard + 1 = c.in_ok-ticket.ensures.ticket ∙ ap (λ (n : ℕ). n + 1) (ap length looked.starts ∙ sym c.requires.even) in
    let once : IsOnce noting = once_same middle noting same_stats same_heard c.gather.ensures.once in
    let reads = c.in_ok-reads.reads in
    let read = c.in_ok-reads.ensures.reads in
    let ended = c.in_ok-ended.ended in
    let order = ended.order in
    let is = c.in_ok-ended.ensures.order in
    let stood : SeenStands (view c.execute.new.world) noting =
    stands_moved noting (λ p i k o. seen_apart cmd c.requires.sound c.requires.unseen looked p i (knows_same middle noting same_stats same_heard p i k) o) c.execute.ensures.moved (stands_same (view c.gather.new.world) middle noting same_stats same_heard stands) in
    let read_stands : Told (view c.gather.new.world) → ReadsStand (view c.gather.new.world).at reads = reads_stand (view c.gather.new.world) middle cmd reads stands read in
    let well : HeardWell g.W.World.ended g.L.Law.does (view c.execute.new.world) noting.heard =
    heard_on c.execute.ensures.moved.keeps (heard_same (same_heard ∙ looked.heard) (heard_on c.gather.ensures.stayed.keeps c.requires.heard)) in
    let still : In (start_of cmd) c.settle.new.seen.starts = subst (λ (ss : List Start). In (start_of cmd) ss) (sym c.settle.ensures.starts) started in
    let moved : Moved (IsOutput cmd) (view c.args.world.now) (view c.settle.new.world) = moved_both (moved_stayed c.gather.ensures.stayed) (moved_both c.execute.ensures.moved (moved_stayed c.settle.ensures.stayed)) in
    let done = c.in_ok-settle.ensures.done in
    let exit = c.in_ok-settle.ensures.exit in
    let last : Heard = record { order = order; outcome = Done [] done.infos } in
    let did = λ (m : List FileVersion) (t : Tells (view c.execute.new.world) m). c.in_ok-ended.ensures.does m t exit (read_stands (g.met.W.Disk.tells_infos c.gather.new.world m (c.execute.ensures.moved.keeps.contents m t))) in
    let ran : DidCommand g.L.Law.does cmd (view c.settle.new.world) old c.settle.new.seen =
    ran_one cmd reads order (g.met.W.Disk.tells_infos c.settle.new.world) c.requires.sound looked same_stats same_heard read c.execute.ensures.moved c.settle.ensures.stayed is.outputs_are done did in
    ran

pub returns-clause-announced : goal.returns-clause-announced
returns-clause-announced g c =
    let view = g.W.Disk.view in
    let cmd = c.args.command.now in
    let old = c.args.seen.now in
    let middle = c.gather.new.seen in
    let looked = c.gather.ensures.looked in
    let stands : SeenStands (view c.gather.new.world) middle = seen_stands_looked c.requires.stands c.gather.ensures.stayed looked in
    let noting = c.announce.new.seen in
    let noted = c.in_ok-ticket.ensures.noted in
    let same_stats : noting.stats ≡ middle.stats = ap (λ (j : Journal). j.stats) noted in
    let same_heard : noting.heard ≡ middle.heard = ap (λ (j : Journal). j.heard) noted in
    let more : noting.starts ≡ old.starts ++ start_of cmd ∷ [] = ap (λ (j : Journal). j.starts) noted ∙ ap (λ (ss : List Start). ss ++ start_of cmd ∷ []) looked.starts in
    let started : In (start_of cmd) noting.starts = subst (λ (ss : List Start). In (start_of cmd) ss) (sym more) (In-right (start_of cmd) old.starts (start_of cmd ∷ []) (inl refl)) in
    let number : c.in_ok-ticket.ticket ≡ length old.heard + 1 = c.in_ok-ticket.ensures.ticket ∙ ap (λ (n : ℕ). n + 1) (ap length looked.starts ∙ sym c.requires.even) in
    let once : IsOnce noting = once_same middle noting same_stats same_heard c.gather.ensures.once in
    let reads = c.in_ok-reads.reads in
    let read = c.in_ok-reads.ensures.reads in
    let ended = c.in_ok-ended.ended in
    let order = ended.order in
    let is = c.in_ok-ended.ensures.order in
    let stood : SeenStands (view c.execute.new.world) noting =
    stands_moved noting (λ p i k o. seen_apart cmd c.requires.sound c.requires.unseen looked p i (knows_same middle noting same_stats same_heard p i k) o) c.execute.ensures.moved (stands_same (view c.gather.new.world) middle noting same_stats same_heard stands) in
    let read_stands : Told (view c.gather.new.world) → ReadsStand (view c.gather.new.world).at reads = reads_stand (view c.gather.new.world) middle cmd reads stands read in
    let well : HeardWell g.W.World.ended g.L.Law.does (view c.execute.new.world) noting.heard =
    heard_on c.execute.ensures.moved.keeps (heard_same (same_heard ∙ looked.heard) (heard_on c.gather.ensures.stayed.keeps c.requires.heard)) in
    let still : In (start_of cmd) c.settle.new.seen.starts = subst (λ (ss : List Start). In (start_of cmd) ss) (sym c.settle.ensures.starts) started in
    let moved : Moved (IsOutput cmd) (view c.args.world.now) (view c.settle.new.world) = moved_both (moved_stayed c.gather.ensures.stayed) (moved_both c.execute.ensures.moved (moved_stayed c.settle.ensures.stayed)) in
    let done = c.in_ok-settle.ensures.done in
    let exit = c.in_ok-settle.ensures.exit in
    let last : Heard = record { order = order; outcome = Done [] done.infos } in
    let did = λ (m : List FileVersion) (t : Tells (view c.execute.new.world) m). c.in_ok-ended.ensures.does m t exit (read_stands (g.met.W.Disk.tells_infos c.gather.new.world m (c.execute.ensures.moved.keeps.contents m t))) in
    let ran : DidCommand g.L.Law.does cmd (view c.settle.new.world) old c.settle.new.seen =
    ran_one cmd reads order (g.met.W.Disk.tells_infos c.settle.new.world) c.requires.sound looked same_stats same_heard read c.execute.ensures.moved c.settle.ensures.stayed is.outputs_are done did in
    record { more = c.settle.ensures.starts ∙ more; grew = subst (λ (n : ℕ). Grew (g.O.Sink.view c.args.out.now) (g.O.Sink.view c.announce.new.out) (line_of (n + 1) (start_of cmd))) (ap length looked.starts) c.in_ok-ticket.ensures.wrote }

pub returns-clause-done : goal.returns-clause-done
returns-clause-done g c =
    let view = g.W.Disk.view in
    let cmd = c.args.command.now in
    let old = c.args.seen.now in
    let middle = c.gather.new.seen in
    let looked = c.gather.ensures.looked in
    let stands : SeenStands (view c.gather.new.world) middle = seen_stands_looked c.requires.stands c.gather.ensures.stayed looked in
    let noting = c.announce.new.seen in
    let noted = c.in_ok-ticket.ensures.noted in
    let same_stats : noting.stats ≡ middle.stats = ap (λ (j : Journal). j.stats) noted in
    let same_heard : noting.heard ≡ middle.heard = ap (λ (j : Journal). j.heard) noted in
    let more : noting.starts ≡ old.starts ++ start_of cmd ∷ [] = ap (λ (j : Journal). j.starts) noted ∙ ap (λ (ss : List Start). ss ++ start_of cmd ∷ []) looked.starts in
    let started : In (start_of cmd) noting.starts = subst (λ (ss : List Start). In (start_of cmd) ss) (sym more) (In-right (start_of cmd) old.starts (start_of cmd ∷ []) (inl refl)) in
    let number : c.in_ok-ticket.ticket ≡ length old.heard + 1 = c.in_ok-ticket.ensures.ticket ∙ ap (λ (n : ℕ). n + 1) (ap length looked.starts ∙ sym c.requires.even) in
    let once : IsOnce noting = once_same middle noting same_stats same_heard c.gather.ensures.once in
    let reads = c.in_ok-reads.reads in
    let read = c.in_ok-reads.ensures.reads in
    let ended = c.in_ok-ended.ended in
    let order = ended.order in
    let is = c.in_ok-ended.ensures.order in
    let stood : SeenStands (view c.execute.new.world) noting =
    stands_moved noting (λ p i k o. seen_apart cmd c.requires.sound c.requires.unseen looked p i (knows_same middle noting same_stats same_heard p i k) o) c.execute.ensures.moved (stands_same (view c.gather.new.world) middle noting same_stats same_heard stands) in
    let read_stands : Told (view c.gather.new.world) → ReadsStand (view c.gather.new.world).at reads = reads_stand (view c.gather.new.world) middle cmd reads stands read in
    let well : HeardWell g.W.World.ended g.L.Law.does (view c.execute.new.world) noting.heard =
    heard_on c.execute.ensures.moved.keeps (heard_same (same_heard ∙ looked.heard) (heard_on c.gather.ensures.stayed.keeps c.requires.heard)) in
    let still : In (start_of cmd) c.settle.new.seen.starts = subst (λ (ss : List Start). In (start_of cmd) ss) (sym c.settle.ensures.starts) started in
    let moved : Moved (IsOutput cmd) (view c.args.world.now) (view c.settle.new.world) = moved_both (moved_stayed c.gather.ensures.stayed) (moved_both c.execute.ensures.moved (moved_stayed c.settle.ensures.stayed)) in
    let done = c.in_ok-settle.ensures.done in
    let exit = c.in_ok-settle.ensures.exit in
    let last : Heard = record { order = order; outcome = Done [] done.infos } in
    let did = λ (m : List FileVersion) (t : Tells (view c.execute.new.world) m). c.in_ok-ended.ensures.does m t exit (read_stands (g.met.W.Disk.tells_infos c.gather.new.world m (c.execute.ensures.moved.keeps.contents m t))) in
    let ran : DidCommand g.L.Law.does cmd (view c.settle.new.world) old c.settle.new.seen =
    ran_one cmd reads order (g.met.W.Disk.tells_infos c.settle.new.world) c.requires.sound looked same_stats same_heard read c.execute.ensures.moved c.settle.ensures.stayed is.outputs_are done did in
    record {
      one = record {
        heard = last;
        more = ap (λ (j : Journal). j.heard) done.is ∙ ap (λ (hs : List Heard). hs ++ last ∷ []) (same_heard ∙ looked.heard);
        name = is.name;
        is = is.is;
        ticket = is.ticket_is ∙ number;
      };
      done = tt;
    }

pub returns-clause-stood : goal.returns-clause-stood
returns-clause-stood g c =
    let view = g.W.Disk.view in
    let cmd = c.args.command.now in
    let old = c.args.seen.now in
    let middle = c.gather.new.seen in
    let looked = c.gather.ensures.looked in
    let stands : SeenStands (view c.gather.new.world) middle = seen_stands_looked c.requires.stands c.gather.ensures.stayed looked in
    let noting = c.announce.new.seen in
    let noted = c.in_ok-ticket.ensures.noted in
    let same_stats : noting.stats ≡ middle.stats = ap (λ (j : Journal). j.stats) noted in
    let same_heard : noting.heard ≡ middle.heard = ap (λ (j : Journal). j.heard) noted in
    let more : noting.starts ≡ old.starts ++ start_of cmd ∷ [] = ap (λ (j : Journal). j.starts) noted ∙ ap (λ (ss : List Start). ss ++ start_of cmd ∷ []) looked.starts in
    let started : In (start_of cmd) noting.starts = subst (λ (ss : List Start). In (start_of cmd) ss) (sym more) (In-right (start_of cmd) old.starts (start_of cmd ∷ []) (inl refl)) in
    let number : c.in_ok-ticket.ticket ≡ length old.heard + 1 = c.in_ok-ticket.ensures.ticket ∙ ap (λ (n : ℕ). n + 1) (ap length looked.starts ∙ sym c.requires.even) in
    let once : IsOnce noting = once_same middle noting same_stats same_heard c.gather.ensures.once in
    let reads = c.in_ok-reads.reads in
    let read = c.in_ok-reads.ensures.reads in
    let ended = c.in_ok-ended.ended in
    let order = ended.order in
    let is = c.in_ok-ended.ensures.order in
    let stood : SeenStands (view c.execute.new.world) noting =
    stands_moved noting (λ p i k o. seen_apart cmd c.requires.sound c.requires.unseen looked p i (knows_same middle noting same_stats same_heard p i k) o) c.execute.ensures.moved (stands_same (view c.gather.new.world) middle noting same_stats same_heard stands) in
    let read_stands : Told (view c.gather.new.world) → ReadsStand (view c.gather.new.world).at reads = reads_stand (view c.gather.new.world) middle cmd reads stands read in
    let well : HeardWell g.W.World.ended g.L.Law.does (view c.execute.new.world) noting.heard =
    heard_on c.execute.ensures.moved.keeps (heard_same (same_heard ∙ looked.heard) (heard_on c.gather.ensures.stayed.keeps c.requires.heard)) in
    let still : In (start_of cmd) c.settle.new.seen.starts = subst (λ (ss : List Start). In (start_of cmd) ss) (sym c.settle.ensures.starts) started in
    let moved : Moved (IsOutput cmd) (view c.args.world.now) (view c.settle.new.world) = moved_both (moved_stayed c.gather.ensures.stayed) (moved_both c.execute.ensures.moved (moved_stayed c.settle.ensures.stayed)) in
    let done = c.in_ok-settle.ensures.done in
    let exit = c.in_ok-settle.ensures.exit in
    let last : Heard = record { order = order; outcome = Done [] done.infos } in
    let did = λ (m : List FileVersion) (t : Tells (view c.execute.new.world) m). c.in_ok-ended.ensures.does m t exit (read_stands (g.met.W.Disk.tells_infos c.gather.new.world m (c.execute.ensures.moved.keeps.contents m t))) in
    let ran : DidCommand g.L.Law.does cmd (view c.settle.new.world) old c.settle.new.seen =
    ran_one cmd reads order (g.met.W.Disk.tells_infos c.settle.new.world) c.requires.sound looked same_stats same_heard read c.execute.ensures.moved c.settle.ensures.stayed is.outputs_are done did in
    ran_stands cmd c.requires.unseen c.requires.stands moved ran

pub returns-clause-sources : goal.returns-clause-sources
returns-clause-sources g c =
    let view = g.W.Disk.view in
    let cmd = c.args.command.now in
    let old = c.args.seen.now in
    let middle = c.gather.new.seen in
    let looked = c.gather.ensures.looked in
    let stands : SeenStands (view c.gather.new.world) middle = seen_stands_looked c.requires.stands c.gather.ensures.stayed looked in
    let noting = c.announce.new.seen in
    let noted = c.in_ok-ticket.ensures.noted in
    let same_stats : noting.stats ≡ middle.stats = ap (λ (j : Journal). j.stats) noted in
    let same_heard : noting.heard ≡ middle.heard = ap (λ (j : Journal). j.heard) noted in
    let more : noting.starts ≡ old.starts ++ start_of cmd ∷ [] = ap (λ (j : Journal). j.starts) noted ∙ ap (λ (ss : List Start). ss ++ start_of cmd ∷ []) looked.starts in
    let started : In (start_of cmd) noting.starts = subst (λ (ss : List Start). In (start_of cmd) ss) (sym more) (In-right (start_of cmd) old.starts (start_of cmd ∷ []) (inl refl)) in
    let number : c.in_ok-ticket.ticket ≡ length old.heard + 1 = c.in_ok-ticket.ensures.ticket ∙ ap (λ (n : ℕ). n + 1) (ap length looked.starts ∙ sym c.requires.even) in
    let once : IsOnce noting = once_same middle noting same_stats same_heard c.gather.ensures.once in
    let reads = c.in_ok-reads.reads in
    let read = c.in_ok-reads.ensures.reads in
    let ended = c.in_ok-ended.ended in
    let order = ended.order in
    let is = c.in_ok-ended.ensures.order in
    let stood : SeenStands (view c.execute.new.world) noting =
    stands_moved noting (λ p i k o. seen_apart cmd c.requires.sound c.requires.unseen looked p i (knows_same middle noting same_stats same_heard p i k) o) c.execute.ensures.moved (stands_same (view c.gather.new.world) middle noting same_stats same_heard stands) in
    let read_stands : Told (view c.gather.new.world) → ReadsStand (view c.gather.new.world).at reads = reads_stand (view c.gather.new.world) middle cmd reads stands read in
    let well : HeardWell g.W.World.ended g.L.Law.does (view c.execute.new.world) noting.heard =
    heard_on c.execute.ensures.moved.keeps (heard_same (same_heard ∙ looked.heard) (heard_on c.gather.ensures.stayed.keeps c.requires.heard)) in
    let still : In (start_of cmd) c.settle.new.seen.starts = subst (λ (ss : List Start). In (start_of cmd) ss) (sym c.settle.ensures.starts) started in
    let moved : Moved (IsOutput cmd) (view c.args.world.now) (view c.settle.new.world) = moved_both (moved_stayed c.gather.ensures.stayed) (moved_both c.execute.ensures.moved (moved_stayed c.settle.ensures.stayed)) in
    let done = c.in_ok-settle.ensures.done in
    let exit = c.in_ok-settle.ensures.exit in
    let last : Heard = record { order = order; outcome = Done [] done.infos } in
    let did = λ (m : List FileVersion) (t : Tells (view c.execute.new.world) m). c.in_ok-ended.ensures.does m t exit (read_stands (g.met.W.Disk.tells_infos c.gather.new.world m (c.execute.ensures.moved.keeps.contents m t))) in
    let ran : DidCommand g.L.Law.does cmd (view c.settle.new.world) old c.settle.new.seen =
    ran_one cmd reads order (g.met.W.Disk.tells_infos c.settle.new.world) c.requires.sound looked same_stats same_heard read c.execute.ensures.moved c.settle.ensures.stayed is.outputs_are done did in
    came_same old middle c.settle.new.seen (c.settle.ensures.stats ∙ same_stats) (looked_sources looked)

pub returns-clause-moved : goal.returns-clause-moved
returns-clause-moved g c =
    let view = g.W.Disk.view in
    let cmd = c.args.command.now in
    let old = c.args.seen.now in
    let middle = c.gather.new.seen in
    let looked = c.gather.ensures.looked in
    let stands : SeenStands (view c.gather.new.world) middle = seen_stands_looked c.requires.stands c.gather.ensures.stayed looked in
    let noting = c.announce.new.seen in
    let noted = c.in_ok-ticket.ensures.noted in
    let same_stats : noting.stats ≡ middle.stats = ap (λ (j : Journal). j.stats) noted in
    let same_heard : noting.heard ≡ middle.heard = ap (λ (j : Journal). j.heard) noted in
    let more : noting.starts ≡ old.starts ++ start_of cmd ∷ [] = ap (λ (j : Journal). j.starts) noted ∙ ap (λ (ss : List Start). ss ++ start_of cmd ∷ []) looked.starts in
    let started : In (start_of cmd) noting.starts = subst (λ (ss : List Start). In (start_of cmd) ss) (sym more) (In-right (start_of cmd) old.starts (start_of cmd ∷ []) (inl refl)) in
    let number : c.in_ok-ticket.ticket ≡ length old.heard + 1 = c.in_ok-ticket.ensures.ticket ∙ ap (λ (n : ℕ). n + 1) (ap length looked.starts ∙ sym c.requires.even) in
    let once : IsOnce noting = once_same middle noting same_stats same_heard c.gather.ensures.once in
    let reads = c.in_ok-reads.reads in
    let read = c.in_ok-reads.ensures.reads in
    let ended = c.in_ok-ended.ended in
    let order = ended.order in
    let is = c.in_ok-ended.ensures.order in
    let stood : SeenStands (view c.execute.new.world) noting =
    stands_moved noting (λ p i k o. seen_apart cmd c.requires.sound c.requires.unseen looked p i (knows_same middle noting same_stats same_heard p i k) o) c.execute.ensures.moved (stands_same (view c.gather.new.world) middle noting same_stats same_heard stands) in
    let read_stands : Told (view c.gather.new.world) → ReadsStand (view c.gather.new.world).at reads = reads_stand (view c.gather.new.world) middle cmd reads stands read in
    let well : HeardWell g.W.World.ended g.L.Law.does (view c.execute.new.world) noting.heard =
    heard_on c.execute.ensures.moved.keeps (heard_same (same_heard ∙ looked.heard) (heard_on c.gather.ensures.stayed.keeps c.requires.heard)) in
    let still : In (start_of cmd) c.settle.new.seen.starts = subst (λ (ss : List Start). In (start_of cmd) ss) (sym c.settle.ensures.starts) started in
    let moved : Moved (IsOutput cmd) (view c.args.world.now) (view c.settle.new.world) = moved_both (moved_stayed c.gather.ensures.stayed) (moved_both c.execute.ensures.moved (moved_stayed c.settle.ensures.stayed)) in
    let done = c.in_ok-settle.ensures.done in
    let exit = c.in_ok-settle.ensures.exit in
    let last : Heard = record { order = order; outcome = Done [] done.infos } in
    let did = λ (m : List FileVersion) (t : Tells (view c.execute.new.world) m). c.in_ok-ended.ensures.does m t exit (read_stands (g.met.W.Disk.tells_infos c.gather.new.world m (c.execute.ensures.moved.keeps.contents m t))) in
    let ran : DidCommand g.L.Law.does cmd (view c.settle.new.world) old c.settle.new.seen =
    ran_one cmd reads order (g.met.W.Disk.tells_infos c.settle.new.world) c.requires.sound looked same_stats same_heard read c.execute.ensures.moved c.settle.ensures.stayed is.outputs_are done did in
    moved_wider (λ p o. (still, o)) moved

pub returns-clause-heard : goal.returns-clause-heard
returns-clause-heard g c =
    let view = g.W.Disk.view in
    let cmd = c.args.command.now in
    let old = c.args.seen.now in
    let middle = c.gather.new.seen in
    let looked = c.gather.ensures.looked in
    let stands : SeenStands (view c.gather.new.world) middle = seen_stands_looked c.requires.stands c.gather.ensures.stayed looked in
    let noting = c.announce.new.seen in
    let noted = c.in_ok-ticket.ensures.noted in
    let same_stats : noting.stats ≡ middle.stats = ap (λ (j : Journal). j.stats) noted in
    let same_heard : noting.heard ≡ middle.heard = ap (λ (j : Journal). j.heard) noted in
    let more : noting.starts ≡ old.starts ++ start_of cmd ∷ [] = ap (λ (j : Journal). j.starts) noted ∙ ap (λ (ss : List Start). ss ++ start_of cmd ∷ []) looked.starts in
    let started : In (start_of cmd) noting.starts = subst (λ (ss : List Start). In (start_of cmd) ss) (sym more) (In-right (start_of cmd) old.starts (start_of cmd ∷ []) (inl refl)) in
    let number : c.in_ok-ticket.ticket ≡ length old.heard + 1 = c.in_ok-ticket.ensures.ticket ∙ ap (λ (n : ℕ). n + 1) (ap length looked.starts ∙ sym c.requires.even) in
    let once : IsOnce noting = once_same middle noting same_stats same_heard c.gather.ensures.once in
    let reads = c.in_ok-reads.reads in
    let read = c.in_ok-reads.ensures.reads in
    let ended = c.in_ok-ended.ended in
    let order = ended.order in
    let is = c.in_ok-ended.ensures.order in
    let stood : SeenStands (view c.execute.new.world) noting =
    stands_moved noting (λ p i k o. seen_apart cmd c.requires.sound c.requires.unseen looked p i (knows_same middle noting same_stats same_heard p i k) o) c.execute.ensures.moved (stands_same (view c.gather.new.world) middle noting same_stats same_heard stands) in
    let read_stands : Told (view c.gather.new.world) → ReadsStand (view c.gather.new.world).at reads = reads_stand (view c.gather.new.world) middle cmd reads stands read in
    let well : HeardWell g.W.World.ended g.L.Law.does (view c.execute.new.world) noting.heard =
    heard_on c.execute.ensures.moved.keeps (heard_same (same_heard ∙ looked.heard) (heard_on c.gather.ensures.stayed.keeps c.requires.heard)) in
    let still : In (start_of cmd) c.settle.new.seen.starts = subst (λ (ss : List Start). In (start_of cmd) ss) (sym c.settle.ensures.starts) started in
    let moved : Moved (IsOutput cmd) (view c.args.world.now) (view c.settle.new.world) = moved_both (moved_stayed c.gather.ensures.stayed) (moved_both c.execute.ensures.moved (moved_stayed c.settle.ensures.stayed)) in
    let done = c.in_ok-settle.ensures.done in
    let exit = c.in_ok-settle.ensures.exit in
    let last : Heard = record { order = order; outcome = Done [] done.infos } in
    let did = λ (m : List FileVersion) (t : Tells (view c.execute.new.world) m). c.in_ok-ended.ensures.does m t exit (read_stands (g.met.W.Disk.tells_infos c.gather.new.world m (c.execute.ensures.moved.keeps.contents m t))) in
    let ran : DidCommand g.L.Law.does cmd (view c.settle.new.world) old c.settle.new.seen =
    ran_one cmd reads order (g.met.W.Disk.tells_infos c.settle.new.world) c.requires.sound looked same_stats same_heard read c.execute.ensures.moved c.settle.ensures.stayed is.outputs_are done did in
    heard_same (ap (λ (j : Journal). j.heard) done.is)
    (heard_more (heard_on c.settle.ensures.stayed.keeps well) last
    (given_one last ended refl (exit, refl, done.count) c.in_ok-ended.ensures.ended is read_stands c.execute.ensures.moved.keeps c.settle.ensures.stayed.keeps)
    (λ m t. lawful_done g.L.Law.does m (view c.settle.new.world).at cmd c.in_ok-ticket.ticket reads order done.infos is (done.stood (g.met.W.Disk.tells_infos c.settle.new.world m t))
    (did_on g.L.Law.does m (view c.execute.new.world).at (view c.settle.new.world).at cmd reads (λ p f. stayed_at c.settle.ensures.stayed (g.met.W.Disk.tells_infos c.settle.new.world m t) p f) (did m (c.settle.ensures.stayed.keeps.contents m t)))))

pub returns-clause-read : goal.returns-clause-read
returns-clause-read g c =
    let view = g.W.Disk.view in
    let cmd = c.args.command.now in
    let old = c.args.seen.now in
    let middle = c.gather.new.seen in
    let looked = c.gather.ensures.looked in
    let stands : SeenStands (view c.gather.new.world) middle = seen_stands_looked c.requires.stands c.gather.ensures.stayed looked in
    let noting = c.announce.new.seen in
    let noted = c.in_ok-ticket.ensures.noted in
    let same_stats : noting.stats ≡ middle.stats = ap (λ (j : Journal). j.stats) noted in
    let same_heard : noting.heard ≡ middle.heard = ap (λ (j : Journal). j.heard) noted in
    let more : noting.starts ≡ old.starts ++ start_of cmd ∷ [] = ap (λ (j : Journal). j.starts) noted ∙ ap (λ (ss : List Start). ss ++ start_of cmd ∷ []) looked.starts in
    let started : In (start_of cmd) noting.starts = subst (λ (ss : List Start). In (start_of cmd) ss) (sym more) (In-right (start_of cmd) old.starts (start_of cmd ∷ []) (inl refl)) in
    let number : c.in_ok-ticket.ticket ≡ length old.heard + 1 = c.in_ok-ticket.ensures.ticket ∙ ap (λ (n : ℕ). n + 1) (ap length looked.starts ∙ sym c.requires.even) in
    let once : IsOnce noting = once_same middle noting same_stats same_heard c.gather.ensures.once in
    let reads = c.in_ok-reads.reads in
    let read = c.in_ok-reads.ensures.reads in
    let ended = c.in_ok-ended.ended in
    let order = ended.order in
    let is = c.in_ok-ended.ensures.order in
    let stood : SeenStands (view c.execute.new.world) noting =
    stands_moved noting (λ p i k o. seen_apart cmd c.requires.sound c.requires.unseen looked p i (knows_same middle noting same_stats same_heard p i k) o) c.execute.ensures.moved (stands_same (view c.gather.new.world) middle noting same_stats same_heard stands) in
    let read_stands : Told (view c.gather.new.world) → ReadsStand (view c.gather.new.world).at reads = reads_stand (view c.gather.new.world) middle cmd reads stands read in
    let well : HeardWell g.W.World.ended g.L.Law.does (view c.execute.new.world) noting.heard =
    heard_on c.execute.ensures.moved.keeps (heard_same (same_heard ∙ looked.heard) (heard_on c.gather.ensures.stayed.keeps c.requires.heard)) in
    let still : In (start_of cmd) c.settle.new.seen.starts = subst (λ (ss : List Start). In (start_of cmd) ss) (sym c.settle.ensures.starts) started in
    let moved : Moved (IsOutput cmd) (view c.args.world.now) (view c.settle.new.world) = moved_both (moved_stayed c.gather.ensures.stayed) (moved_both c.execute.ensures.moved (moved_stayed c.settle.ensures.stayed)) in
    let done = c.in_ok-settle.ensures.done in
    let exit = c.in_ok-settle.ensures.exit in
    let last : Heard = record { order = order; outcome = Done [] done.infos } in
    let did = λ (m : List FileVersion) (t : Tells (view c.execute.new.world) m). c.in_ok-ended.ensures.does m t exit (read_stands (g.met.W.Disk.tells_infos c.gather.new.world m (c.execute.ensures.moved.keeps.contents m t))) in
    let ran : DidCommand g.L.Law.does cmd (view c.settle.new.world) old c.settle.new.seen =
    ran_one cmd reads order (g.met.W.Disk.tells_infos c.settle.new.world) c.requires.sound looked same_stats same_heard read c.execute.ensures.moved c.settle.ensures.stayed is.outputs_are done did in
    first_started cmd reads c.settle.new.seen looked read (c.settle.ensures.stats ∙ same_stats) (c.settle.ensures.starts ∙ more)
    (λ h i. subst (λ (hs : List Heard). In h hs) (sym (ap (λ (j : Journal). j.heard) done.is)) (In-left h noting.heard (last ∷ []) (subst (λ (hs : List Heard). In h hs) (sym same_heard) i)))
    (λ h i. elim (In-either h noting.heard (last ∷ []) (subst (λ (hs : List Heard). In h hs) (ap (λ (j : Journal). j.heard) done.is) i)) [
      | inl k ↦ inl (subst (λ (hs : List Heard). In h hs) same_heard k)
      | inr k ↦ inr (let one = In-one k in (ap (λ (x : Heard). x.order.command) one ∙ is.name, ap (λ (x : Heard). x.order.reads) one ∙ is.reads_are))
    ])
    c.settle.ensures.once.single
