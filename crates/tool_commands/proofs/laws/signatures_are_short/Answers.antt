use Rattle.tool_commands.proofs.LengthLemmas.{signature_short}
use Rattle.tool_commands.proofs.laws.signatures_are_short.Goals as goal

pub returns : goal.returns
returns c d h = signature_short d h
