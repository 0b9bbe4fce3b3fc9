use Rattle.tool_commands.proofs.LengthLemmas.{target_short}
use Rattle.tool_commands.proofs.laws.keys_are_short.Goals as goal

pub returns : goal.returns
returns c t h = target_short t h
