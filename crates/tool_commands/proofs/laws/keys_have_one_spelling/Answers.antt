use Rattle.tool_commands.proofs.KeyLemmas.{asked_spelled}
use Rattle.tool_commands.proofs.laws.keys_have_one_spelling.Goals as goal

pub returns : goal.returns
returns c input h = asked_spelled input.form input.node h
