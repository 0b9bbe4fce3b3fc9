use Rattle.std.proofs.Common.{ap}
use Rattle.outside.specs.Meaning.{signature_of}
use Rattle.outside.specs.MeaningLemmas.{signature-once}
use Rattle.build_meaning.specs.Commands.{meaning_of}
use Rattle.tool_commands.proofs.LengthLemmas.{signature_short}
use Rattle.tool_commands.proofs.laws.same_text_is_same_meaning.Goals as goal

pub returns-clause-same : goal.returns-clause-same
returns-clause-same c a b command same = signature-once (meaning_of a) (meaning_of b) same (signature_short a command)

pub returns-clause-back : goal.returns-clause-back
returns-clause-back c a b same = ap signature_of same
