-- What a parse of words answers.
use Rattle.std.specs.Prelude.{◌≡◌, true, List, Result, Ok, Err}
use Rattle.clap.specs.Words.{App, Text, first_value, found_of}
use Rattle.clap.specs.declared.parser.matches.ArgMatches.{ArgMatches}
use Rattle.command_line.specs.declared.job.UsageFault.{UsageFault}
use Rattle.command_line.specs.CommandLine.{accepts, value_in}
use Rattle.command_line.specs.Fault.{Fails}
use Rattle.command_line.specs.Job.{when_accepted}

-- a command accepts these words, and these are the values that they give
pub record AreMatches (app : App) (words : List Text) (m : ArgMatches) : Type 0 where
  pub accepted : accepts app words ≡ true
  pub values : (id : Text) → first_value (found_of m) id ≡ value_in app words id

-- the matches of these words, or that the command does not accept them, or want of memory
abbrev pub AnswersMatches : App → List Text → Result ArgMatches UsageFault → Type 0
AnswersMatches app words (Ok m) = AreMatches app words m
AnswersMatches app words (Err fault) = Fails fault (when_accepted app words)
