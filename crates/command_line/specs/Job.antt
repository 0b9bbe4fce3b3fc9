-- What words ask for, or why they are refused.
use Rattle.std.specs.Prelude.{ℕ, Bool, true, false, ◌&&◌, if◌then◌else◌, List, [], ◌∷◌, Option, Some, None, Ok, Err, codes}
use Rattle.std.specs.Prelude.{is_some, unwrap_or, not, bytes_eq, option_map, IfSome, IsTrue}
use Rattle.std.specs.Str.{is_utf8}
use Rattle.std.specs.Borrow.{Bor}
use Rattle.file_info.specs.Path.{normal_form}
use Rattle.file_info.specs.PathFault.{path_fault}
use Rattle.clap.specs.Words.{App, Text}
use Rattle.command_line.specs.declared.job.Job.{Job}
use Rattle.command_line.specs.declared.job.Job.TheVariants as jobs
use Rattle.command_line.specs.declared.job.Settings.{Settings}
use Rattle.command_line.specs.declared.words.BuildWords.{BuildWords}
use Rattle.command_line.specs.declared.job.UsageFault.TheVariants as faults
use Rattle.command_line.specs.CommandLine.{build_app, parse_app, dump_app, rehearse_app, generate_app, accepts, value_in, has_flag}
use Rattle.command_line.specs.Fault.{Read}
use Rattle.command_line.specs.Number.{number_in}

-- what was read, and then what follows from it
infixl 20 ◌>>=◌
abbrev pub ◌>>=◌ : {A B : Type 0} → Read A → (A → Read B) → Read B
Ok x >>= next = next x
Err fault >>= next = Err fault

-- the words of a command where they are accepted
abbrev pub accepted : {A : Type 0} → Bool → Read A → Read A
accepted true job = job
accepted false job = Err faults.Words

-- nothing, where a command accepts the words
abbrev pub when_accepted : App → List Text → Read (Unit {0})
when_accepted app words = accepted (accepts app words) (Ok tt)

-- the path of a text that an option gives
unfoldable pub path_for : Text → Text → Read (List ℕ)
path_for option text = elim (path_fault text) [ None ↦ Ok (normal_form text) | Some fault ↦ Err (faults.BadPath option) ]

-- the number that an option gives
abbrev pub found_number : Text → Option ℕ → Read ℕ
found_number option None = Err (faults.BadNumber option)
found_number option (Some number) = Ok number

-- the number of a text that an option gives, which lies between these
unfoldable pub number_for : Text → ℕ → ℕ → Text → Read ℕ
number_for option least most text = found_number option (number_in least most text)

-- the same of an option that may be absent
unfoldable pub number_if : Text → ℕ → ℕ → Option Text → Read (Option ℕ)
number_if option least most None = Ok None
number_if option least most (Some text) = number_for option least most text >>= λ number. Ok (Some number)

-- two options that may not stand together, and whether each is there
unfoldable pub apart : Text → Text → Bool → Bool → Read (Unit {0})
apart first second has_first has_second = if has_first && has_second then Err (faults.Exclusive first second) else Ok tt

-- the build that these options ask for: how many commands side by side, whether reasons are printed, and how many starts at most
abbrev pub settings_of : Option ℕ → Bool → Option ℕ → Settings
settings_of lanes verbose most = record { lanes = unwrap_or lanes 4; verbose = verbose; most = most }

-- what the words of a build say: the values and flags of its options, and its target
pub record BuildSaid : Type 0 where
  pub file : Option Text
  pub db : Option Text
  pub no_db : Bool
  pub serial : Bool
  pub lanes : Option Text
  pub verbose : Bool
  pub most : Option Text
  pub target : Option Text

-- what these words of a build say
abbrev pub build_said : List Text → BuildSaid
build_said words = record {
  file = value_in build_app words (codes "-f");
  db = value_in build_app words (codes "--db");
  no_db = has_flag build_app words (codes "--no-db");
  serial = has_flag build_app words (codes "--serial");
  lanes = value_in build_app words (codes "-j");
  verbose = has_flag build_app words (codes "-v");
  most = value_in build_app words (codes "--max-commands");
  target = value_in build_app words (codes "TARGET");
}

-- the path of a manifest: `build.llbuild` where none is given
unfoldable pub file_for : Option Text → Read Text
file_for given = path_for (codes "-f") (unwrap_or given (codes "build.llbuild"))

-- the path of a database: `build.db` where none is given
unfoldable pub db_for : Option Text → Read Text
db_for given = path_for (codes "--db") (unwrap_or given (codes "build.db"))

-- nothing where it is not wanted
abbrev pub unless : {A : Type 0} → Bool → A → Option A
unless true x = None
unless false x = Some x

-- how a build is done
unfoldable pub settings_for : BuildSaid → Read Settings
settings_for w =
    number_if (codes "-j") 1 64 w.lanes >>= λ lanes. number_if (codes "--max-commands") 0 4294967295 w.most >>= λ most.
    Ok (settings_of lanes w.verbose most)

-- the options that may not stand together
unfoldable pub clash_of : BuildSaid → Read (Unit {0})
clash_of w = apart (codes "--db") (codes "--no-db") (is_some w.db) w.no_db >>= λ _. apart (codes "--serial") (codes "-j") w.serial (is_some w.lanes)

-- the build that these words ask for: first the values in the order of the table, then what may not stand together
unfoldable pub build_for : BuildSaid → Read Job
build_for w =
    file_for w.file >>= λ file. db_for w.db >>= λ db. settings_for w >>= λ settings. clash_of w >>= λ _.
    Ok (jobs.Build file (unless w.no_db db) w.serial w.target settings)

-- `buildsystem build` and these words
unfoldable pub build_of : List Text → Read Job
build_of words = accepted (accepts build_app words) (build_for (build_said words))

-- `buildsystem parse` and these words
unfoldable pub parse_of : List Text → Read Job
parse_of words = accepted (accepts parse_app words) (file_for (value_in parse_app words (codes "-f")) >>= λ file. Ok (jobs.Parse file))

-- `db dump` and these words
unfoldable pub dump_of : List Text → Read Job
dump_of words = accepted (accepts dump_app words) (db_for (value_in dump_app words (codes "--db")) >>= λ db. Ok (jobs.Dump db))

-- `rehearse` and these words, which are a script
unfoldable pub script_of : List Text → Read Job
script_of words = accepted (accepts rehearse_app words)
    (path_for (codes "SCRIPT") (unwrap_or (value_in rehearse_app words (codes "SCRIPT")) []) >>= λ script. Ok (jobs.Rehearse script))

-- `rehearse --generate` and these words
unfoldable pub generate_of : List Text → Read Job
generate_of words = accepted (accepts generate_app words)
    (number_for (codes "--generate") 0 18446744073709551615 (unwrap_or (value_in generate_app words (codes "--generate")) []) >>= λ number.
    number_for (codes "SIZE") 1 65536 (unwrap_or (value_in generate_app words (codes "SIZE")) []) >>= λ size. Ok (jobs.Generate number size))

-- whether the words begin with this one
abbrev pub begins : Text → List Text → Bool
begins word [] = false
begins word (first ∷ rest) = bytes_eq first word

-- the words after the first
abbrev pub after_first : List Text → List Text
after_first [] = []
after_first (first ∷ rest) = rest

-- `rehearse` and these words
unfoldable pub rehearse_of : List Text → Read Job
rehearse_of words = if begins (codes "--generate") words then generate_of (after_first words) else script_of words

-- a command of two words, and the words after it
unfoldable pub two_words : Text → Text → List Text → Read Job
two_words first second words =
    if bytes_eq first (codes "buildsystem") && bytes_eq second (codes "build") then build_of words
    else if bytes_eq first (codes "buildsystem") && bytes_eq second (codes "parse") then parse_of words
    else if bytes_eq first (codes "db") && bytes_eq second (codes "dump") then dump_of words
    else Err faults.NoCommand

-- the job that words ask for, or the first reason why they ask for none
unfoldable pub job_of : List Text → Read Job
job_of [] = Err faults.NoCommand
job_of (first ∷ rest) = if bytes_eq first (codes "rehearse") then rehearse_of rest else command_of first rest
  where
    command_of : Text → List Text → Read Job
    command_of first [] = Err faults.NoCommand
    command_of first (second ∷ words) = two_words first second words

-- whether a job is served today: a serial build without a database, with no reasons and any number of starts, or the printing of
-- a manifest
abbrev pub is_served : Job → Bool
is_served (jobs.Build file db serial target settings) = serial && not (is_some db) && not settings.verbose && not (is_some settings.most)
is_served (jobs.Parse file) = true
is_served (jobs.Dump db) = false
is_served (jobs.Rehearse script) = false
is_served (jobs.Generate number size) = false

-- the job where it is served
abbrev pub if_served : Job → Read Job
if_served job = if is_served job then Ok job else Err faults.NotBuilt

-- the job that words ask for and that is served, or the first reason why there is none
unfoldable pub served_job : List Text → Read Job
served_job words = job_of words >>= if_served

-- a name that is there is UTF-8
abbrev pub IsText : Option Text → Type 0
IsText name = IfSome name (λ (t : Text). IsTrue (is_utf8 t))

-- the target that a job names is UTF-8
abbrev pub NamesText : Job → Type 0
NamesText (jobs.Build file db serial target settings) = IsText target
NamesText (jobs.Parse file) = Unit {0}
NamesText (jobs.Dump db) = Unit {0}
NamesText (jobs.Rehearse script) = Unit {0}
NamesText (jobs.Generate number size) = Unit {0}

-- a text that is lent, or none
abbrev pub text_in : Option (Bor Text) → Option Text
text_in lent = option_map (λ (t : Bor Text). t.now) lent

-- what the words of a build say, as the reader lends it
abbrev pub said_in : BuildWords → BuildSaid
said_in w = record {
  file = text_in w.file;
  db = text_in w.db;
  no_db = w.no_db;
  serial = w.serial;
  lanes = text_in w.lanes;
  verbose = w.verbose;
  most = text_in w.most;
  target = text_in w.target;
}
