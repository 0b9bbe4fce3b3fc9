use Rattle.std.proofs.Common.{◌≡◌, ◌∙◌, ◌+◌, ℕ, List, length, rules, ap, subst}
use Rattle.outside.specs.View.{Grew}
use Rattle.build_report.specs.declared.report.Start.{Start}
use Rattle.llbuild_cli.specs.Start.{start_of}
use Rattle.build_report.specs.Text.{line_of}
use Rattle.llbuild_cli.specs.Growth.{GrewByPart}
use Rattle.llbuild_cli.proofs.ProgressLemmas.{on_err}
use Rattle.llbuild_cli.proofs.SinkLemmas.{part_none, part_whole}
use Rattle.llbuild_cli.proofs.serial.announce.announce.Goals as goal

pub returns-in_err-line-clause-part : goal.returns-in_err-line-clause-part
returns-in_err-line-clause-part g c = on_err c.from_residual-in_err-line.result _ (part_none (g.O.Sink.view c.args.out.now) _)

pub returns-in_err-put_all-clause-part : goal.returns-in_err-put_all-clause-part
returns-in_err-put_all-clause-part g c =
    let start = c.in_ok-start.start in
    let count = length c.args.seen.now.starts + 1 in
    let ticket : c.starts.result + 1 ≡ count = search rules in
    let whole : c.as_slice.result.now ≡ line_of count (start_of c.args.command.now) =
    c.as_slice.ensures.value ∙ c.in_ok-line.ensures ∙ ap (λ (n : ℕ). line_of n start) ticket ∙ ap (λ (s : Start). line_of count s) c.in_ok-start.ensures in
    on_err c.from_residual-in_err-put_all.result _
    (subst (λ (t : List ℕ). GrewByPart (g.O.Sink.view c.args.out.now) (g.O.Sink.view c.put_all.new.out) t) whole c.in_err-put_all.ensures.part)

pub returns-in_err-note_start-clause-part : goal.returns-in_err-note_start-clause-part
returns-in_err-note_start-clause-part g c =
    let start = c.in_ok-start.start in
    let count = length c.args.seen.now.starts + 1 in
    let ticket : c.starts.result + 1 ≡ count = search rules in
    let whole : c.as_slice.result.now ≡ line_of count (start_of c.args.command.now) =
    c.as_slice.ensures.value ∙ c.in_ok-line.ensures ∙ ap (λ (n : ℕ). line_of n start) ticket ∙ ap (λ (s : Start). line_of count s) c.in_ok-start.ensures in
    on_err c.from_residual-in_err-note_start.result _
    (part_whole (g.O.Sink.view c.args.out.now) (g.O.Sink.view c.put_all.new.out) (line_of count (start_of c.args.command.now))
    (subst (λ (t : List ℕ). Grew (g.O.Sink.view c.args.out.now) (g.O.Sink.view c.put_all.new.out) t) whole c.in_ok-put_all.ensures.ok))

pub returns-clause-wrote : goal.returns-clause-wrote
returns-clause-wrote g c =
    let start = c.in_ok-start.start in
    let count = length c.args.seen.now.starts + 1 in
    let ticket : c.starts.result + 1 ≡ count = search rules in
    let whole : c.as_slice.result.now ≡ line_of count (start_of c.args.command.now) =
    c.as_slice.ensures.value ∙ c.in_ok-line.ensures ∙ ap (λ (n : ℕ). line_of n start) ticket ∙ ap (λ (s : Start). line_of count s) c.in_ok-start.ensures in
    subst (λ (t : List ℕ). Grew (g.O.Sink.view c.args.out.now) (g.O.Sink.view c.put_all.new.out) t) whole c.in_ok-put_all.ensures.ok
