-- Words that a command does not accept ask for no job.
use Rattle.std.proofs.Common.{◌≡◌, List}
use Rattle.std.specs.Prelude.{Result}
use Rattle.std.specs.Result.{IsErrAnd}
use Rattle.clap.specs.Words.{Text}
use Rattle.command_line.specs.declared.job.Job.{Job}
use Rattle.command_line.specs.declared.job.UsageFault.{UsageFault}
use Rattle.command_line.specs.CommandLine.{build_app, dump_app, generate_app, rehearse_app}
use Rattle.command_line.specs.Fault.{Answers, Fails}
use Rattle.command_line.specs.Job.{when_accepted, build_of, dump_of, generate_of, script_of}
use Rattle.command_line.proofs.MatchLemmas.{unaccepted_answers}

pub build_refused : (words : List Text) (r : Result Job UsageFault) (fault : UsageFault) → Fails fault (when_accepted build_app words)
    → IsErrAnd r (λ f. f ≡ fault) → Answers r (build_of words)
unfolding build_of
build_refused words r fault fails is = unaccepted_answers build_app words _ r fault fails is

pub dump_refused : (words : List Text) (r : Result Job UsageFault) (fault : UsageFault) → Fails fault (when_accepted dump_app words)
    → IsErrAnd r (λ f. f ≡ fault) → Answers r (dump_of words)
unfolding dump_of
dump_refused words r fault fails is = unaccepted_answers dump_app words _ r fault fails is

pub script_refused : (words : List Text) (r : Result Job UsageFault) (fault : UsageFault) → Fails fault (when_accepted rehearse_app words)
    → IsErrAnd r (λ f. f ≡ fault) → Answers r (script_of words)
unfolding script_of
script_refused words r fault fails is = unaccepted_answers rehearse_app words _ r fault fails is

pub generate_refused : (words : List Text) (r : Result Job UsageFault) (fault : UsageFault) → Fails fault (when_accepted generate_app words)
    → IsErrAnd r (λ f. f ≡ fault) → Answers r (generate_of words)
unfolding generate_of
generate_refused words r fault fails is = unaccepted_answers generate_app words _ r fault fails is
