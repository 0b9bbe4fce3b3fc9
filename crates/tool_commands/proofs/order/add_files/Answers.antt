use Rattle.std.proofs.Common.{◌∙◌, ◌++◌, [], ap, sym, option_to_list, append-nil}
use Rattle.std.specs.Option.{option_copied}
use Rattle.tool_commands.proofs.SignatureLemmas.{file_added}
use Rattle.tool_commands.proofs.order.add_files.Goals as goal
use Rattle.tool_commands.proofs.order.add_files.Goals.{in-Some+in_ok-add_path, in_default}

pub loop-input-preserved : goal.loop-input-preserved
loop-input-preserved c = elim c.match-file_of.branch [
  | in-Some+in_ok-add_path w ↦
      file_added _ _ c.input-item.result _ _ _ _ c.loop-input-test.true c.input-item.is c.loop-input.invariant c.file_of.ensures
      (w.words-is ∙ w.in_ok-add_path.ensures ∙ ap (λ o. c.loop-input.words ++ option_to_list (option_copied o)) (sym w.in-Some.is))
  | in_default w ↦
      file_added _ _ c.input-item.result [] _ _ _ c.loop-input-test.true c.input-item.is c.loop-input.invariant w.in_default.ensures
      (w.words-is ∙ sym (append-nil c.loop-input.words))
]
