-- All that is said of a run.
use Rattle.std.specs.Prelude.{◌≡◌, ◌≤◌, ◌+◌, ℕ, List, [], length}
use Rattle.command_line.specs.Job.{served_job}
use Rattle.llbuild_cli.specs.Complete.{IsComplete}
use Rattle.llbuild_cli.specs.Course.{Course}
use Rattle.llbuild_cli.specs.Run.{Answers, Run}

-- nothing is begun any more, and no more orders were begun than were reported
pub record LeavesNothing (run : Run) : Type 0 where
  pub none : run.new.orders ≡ []
  pub begins : run.new.begins ≤ run.old.begins + length run.report.starts

-- the run took the course of the job that its words ask for, and succeeded where nothing stood against that
pub record Served (answers : Answers) (run : Run) (words : List (List ℕ)) : Type 0 where
  pub course : Course answers run (served_job words)
  pub complete : IsComplete answers.gave run (served_job words)
  pub left : LeavesNothing run
