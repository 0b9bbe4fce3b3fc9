use Rattle.std.proofs.Common.{◌∙◌, rules, refl, sym, ap, inl}
use Rattle.file_info.specs.Content.{node_text}
use Rattle.llbuild_cli.proofs.ProgressLemmas.{looked_wider, if_err}
use Rattle.llbuild_cli.proofs.InputLemmas.{disk_read}
use Rattle.llbuild_cli.proofs.serial.look.read_input.Goals as goal

pub returns-in_err-info-clause-looked : goal.returns-in_err-info-clause-looked
returns-in_err-info-clause-looked g c = looked_wider (λ p e. (c.args.input.now, (inl refl, e ∙ ap node_text (sym c.in-Path.is)))) c.look.ensures.looked

pub returns-then-matches-clause-looked : goal.returns-then-matches-clause-looked
returns-then-matches-clause-looked g c = looked_wider (λ p e. (c.args.input.now, (inl refl, e ∙ ap node_text (sym c.in-Path.is)))) c.look.ensures.looked

pub returns-clause-looked : goal.returns-clause-looked
returns-clause-looked g c = looked_wider (λ p e. (c.args.input.now, (inl refl, e ∙ ap node_text (sym c.in-Path.is)))) c.look.ensures.looked

pub returns-in_err-copy-clause-looked : goal.returns-in_err-copy-clause-looked
returns-in_err-copy-clause-looked g c = looked_wider (λ p e. (c.args.input.now, (inl refl, e ∙ ap node_text (sym c.in-Path.is)))) c.look.ensures.looked

pub returns-in_err-copy-2-clause-looked : goal.returns-in_err-copy-2-clause-looked
returns-in_err-copy-2-clause-looked g c = looked_wider (λ p e. (c.args.input.now, (inl refl, e ∙ ap node_text (sym c.in-Path.is)))) c.look.ensures.looked

pub returns-in_err-info-clause-stop : goal.returns-in_err-info-clause-stop
returns-in_err-info-clause-stop g c =
    if_err c.from_residual-in_err-info.result c.in_err-info.field-0.0 _ (search rules)
    (disk_read c.in_err-info.field-0.0 _ _ c.args.asker.now _ c.args.input.now _ c.in-Path.is c.in_err-info.ensures.stop c.in_err-info.ensures.unseen)
