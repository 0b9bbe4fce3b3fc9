-- The options and other words of each command, and what they are given. How words are matched with them is what `clap` says of
-- a simple command.
use Rattle.std.specs.Prelude.{ℕ, Bool, true, false, List, [], ◌∷◌, Option, Some, None, codes, bytes_eq}
use Rattle.clap.specs.Words.{App, Rule, Text, fault_of, first_of, matches_of, new_app, new_rule, with_rule}
use Rattle.clap.specs.Simple.{on_top}
use Rattle.clap.specs.declared.builder.action.ArgAction.TheVariants.{Set, SetTrue}

-- a command without options of its own for help
abbrev pub command_named : Text → App
command_named name = on_top (λ s. record s { no_binary_name = true; disable_help_flag = true }) (new_app name)

-- an option of one letter with a value
abbrev pub letter_option : Text → ℕ → Rule
letter_option id letter = record (new_rule id) { short = Some letter; action = Some Set }

-- an option of one letter without a value
abbrev pub letter_flag : Text → ℕ → Rule
letter_flag id letter = record (new_rule id) { short = Some letter; action = Some SetTrue }

-- an option with a value
abbrev pub named_option : Text → Text → Rule
named_option id name = record (new_rule id) { long = Some name; action = Some Set }

-- an option without a value
abbrev pub named_flag : Text → Text → Rule
named_flag id name = record (new_rule id) { long = Some name; action = Some SetTrue }

-- a word that may be absent
abbrev pub word : Text → Rule
word id = record (new_rule id) { action = Some Set }

-- a word that is due
abbrev pub due_word : Text → Rule
due_word id = record (new_rule id) { required = true; action = Some Set }

-- `-f FILE`
abbrev pub file_option : Rule
file_option = letter_option (codes "-f") 102

-- `--db FILE`
abbrev pub db_option : Rule
db_option = named_option (codes "--db") (codes "db")

-- the options of `buildsystem build`
abbrev pub build_app : App
build_app =
    with_rule (with_rule (with_rule (with_rule (with_rule (with_rule (with_rule (with_rule (command_named (codes "build"))
    file_option) db_option) (named_flag (codes "--no-db") (codes "no-db"))) (named_flag (codes "--serial") (codes "serial")))
    (letter_option (codes "-j") 106)) (letter_flag (codes "-v") 118)) (named_option (codes "--max-commands") (codes "max-commands")))
    (word (codes "TARGET"))

-- the option of `buildsystem parse`
abbrev pub parse_app : App
parse_app = with_rule (command_named (codes "parse")) file_option

-- the option of `db dump`
abbrev pub dump_app : App
dump_app = with_rule (command_named (codes "dump")) db_option

-- the word of `rehearse`
abbrev pub rehearse_app : App
rehearse_app = with_rule (command_named (codes "rehearse")) (due_word (codes "SCRIPT"))

-- the words of `rehearse --generate`
abbrev pub generate_app : App
generate_app = with_rule (with_rule (command_named (codes "generate")) (due_word (codes "--generate"))) (due_word (codes "SIZE"))

-- whether there is none
abbrev pub is_nothing : {A : Type 0} → List A → Bool
is_nothing [] = true
is_nothing (x ∷ xs) = false

-- whether these words are accepted
abbrev pub accepts : App → List Text → Bool
accepts app words = is_nothing (fault_of app words)

-- the value that these words give to an option or a word
abbrev pub value_in : App → List Text → Text → Option Text
value_in app words id = first_of id (matches_of app words)

-- whether a text is `true`
abbrev pub is_true_text : Option Text → Bool
is_true_text None = false
is_true_text (Some text) = bytes_eq text (codes "true")

-- whether these words have a flag
abbrev pub has_flag : App → List Text → Text → Bool
has_flag app words id = is_true_text (value_in app words id)
