use Rattle.std.proofs.Common.{◌≡◌, ◌∙◌, ◌++◌, ◌∷◌, [], ℕ, List, sym, ap, subst}
use Rattle.file_info.specs.declared.info.Form.{Form}
use Rattle.file_info.specs.declared.node.Read.{Read}
use Rattle.outside.specs.declared.order.Order.{Order}
use Rattle.llbuild_cli.specs.CommandRun.{IsOutput, IsOrderFor, ReadsStand}
use Rattle.llbuild_cli.proofs.OrderLemmas.{taken_one, written_one, no_deps, did_step, file_of, unchanged, reads_on}
use Rattle.llbuild_cli.proofs.serial.execute.execute.Goals as goal

pub returns-clause-order : goal.returns-clause-order
returns-clause-order g c =
    let cmd = c.args.command.now in
    let order = c.in_ok-order.order in
    let begun : (g.W.Disk.view c.begin.new.self).orders ≡ order ∷ [] = c.in_ok-begin.ensures.ok ∙ ap (λ (os : List Order). os ++ order ∷ []) c.requires.none in
    let taken = c.in_ok-ended.ensures.ok in
    let same : c.in_ok-ended.ended.order ≡ order = (taken_one c.in_ok-ended.ended.order order taken.0 taken.1 (sym taken.2 ∙ begun)).0 in
    subst (λ (o : Order). IsOrderFor cmd c.args.ticket c.args.reads o) (sym same) c.in_ok-order.ensures

pub returns-clause-does : goal.returns-clause-does
returns-clause-does g c m t exit stand =
    let cmd = c.args.command.now in
    let view = g.W.Disk.view in
    let order = c.in_ok-order.order in
    let sound = c.requires.sound in
    let begun : (g.W.Disk.view c.begin.new.self).orders ≡ order ∷ [] = c.in_ok-begin.ensures.ok ∙ ap (λ (os : List Order). os ++ order ∷ []) c.requires.none in
    let taken = c.in_ok-ended.ensures.ok in
    let ended = c.in_ok-ended.ended.order in
    let same : ended ≡ order = (taken_one ended order taken.0 taken.1 (sym taken.2 ∙ begun)).0 in
    let formed : IsOrderFor cmd c.args.ticket c.args.reads order = c.in_ok-order.ensures in
    let whole : IsOrderFor cmd c.args.ticket c.args.reads ended = subst (λ (o : Order). IsOrderFor cmd c.args.ticket c.args.reads o) (sym same) formed in
    let deps : order.deps ≡ [] = formed.is.formed.deps ∙ no_deps cmd sound.plain in
    let told = g.met.W.Disk.tells_infos c.end.new.self m t in
    let begin_told = c.end.ensures.keeps.infos told in
    let kept = λ (p : List ℕ) (f : Form) (n : IsOutput cmd p → ⊥).
    c.end.ensures.same told p f (λ w. n (written_one (g.W.Disk.view c.begin.new.self).orders order cmd p begun formed.outputs_are deps w))
    ∙ c.begin.ensures.same begin_told p f (λ w. n (written_one (g.W.Disk.view c.begin.new.self).orders order cmd p begun formed.outputs_are deps w)) in
    let files = file_of cmd.inputs c.args.reads sound.plain.inputs c.requires.reads in
    did_step g.L.Law.does m (view c.end.new.self).at cmd c.args.ticket c.args.reads ended sound.plain whole
    (c.in_ok-ended.ensures.does m t exit)
    (unchanged (view c.end.new.self).at cmd.inputs c.args.reads ended (λ p text e. g.met.W.Disk.leads_to_no_link c.end.new.self p text told e) whole.reads_are whole.is.links files
    (reads_on (view c.args.world.now).at (view c.end.new.self).at cmd c.args.reads sound.apart kept files stand))

pub returns-clause-ended : goal.returns-clause-ended
returns-clause-ended g c =
    let cmd = c.args.command.now in
    let view = g.W.Disk.view in
    let order = c.in_ok-order.order in
    let sound = c.requires.sound in
    let begun : (view c.begin.new.self).orders ≡ order ∷ [] = c.in_ok-begin.ensures.ok ∙ ap (λ (os : List Order). os ++ order ∷ []) c.requires.none in
    let taken = c.in_ok-ended.ensures.ok in
    let ended = c.in_ok-ended.ended.order in
    let same : ended ≡ order = (taken_one ended order taken.0 taken.1 (sym taken.2 ∙ begun)).0 in
    let formed : IsOrderFor cmd c.args.ticket c.args.reads order = c.in_ok-order.ensures in
    let whole : IsOrderFor cmd c.args.ticket c.args.reads ended = subst (λ (o : Order). IsOrderFor cmd c.args.ticket c.args.reads o) (sym same) formed in
    let deps : order.deps ≡ [] = formed.is.formed.deps ∙ no_deps cmd sound.plain in
    let files = file_of cmd.inputs c.args.reads sound.plain.inputs c.requires.reads in
    record {
      moment = view c.begin.new.self;
      answered = c.in_ok-ended.ensures.ended;
      keeps = c.end.ensures.keeps;
      stood = λ t stand.
          (let told = c.end.ensures.keeps.infos t in
          let kept = λ (p : List ℕ) (f : Form) (n : IsOutput cmd p → ⊥). c.begin.ensures.same told p f (λ w. n (written_one (view c.begin.new.self).orders order cmd p begun formed.outputs_are deps w)) in
          unchanged (view c.begin.new.self).at cmd.inputs c.args.reads ended (λ p text e. g.met.W.Disk.leads_to_no_link c.begin.new.self p text told e) whole.reads_are whole.is.links files
          (reads_on (view c.args.world.now).at (view c.begin.new.self).at cmd c.args.reads sound.apart kept files (subst (λ (rs : List Read). ReadsStand (view c.args.world.now).at rs) whole.reads_are stand)));
    }
