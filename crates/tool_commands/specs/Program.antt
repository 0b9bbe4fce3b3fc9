-- How the program of a shell command is spelled and started.
use Rattle.std.specs.Prelude.{ℕ, List, [], ◌∷◌, ◌++◌, map, Option, Some, None, codes}
use Rattle.spelling.specs.Spelling.{text_bytes, list_bytes}
use Rattle.outside.specs.Meaning.{env_bytes}
use Rattle.build_manifest.specs.declared.command.Args.{Args}
use Rattle.build_manifest.specs.declared.command.Args.TheVariants.{Absent, Words, Line}
use Rattle.build_manifest.specs.declared.command.EnvPair.{EnvPair}
use Rattle.build_meaning.specs.Commands.{variable_of}

-- in a signature, what is run: 0 and the list of the words, which is empty where a command has none; or 1 and a list of the
-- line alone
abbrev pub program_bytes : Args → List ℕ
program_bytes Absent = 0 ∷ list_bytes text_bytes []
program_bytes (Words words) = 0 ∷ list_bytes text_bytes words
program_bytes (Line line) = 1 ∷ list_bytes text_bytes (line ∷ [])

-- in a signature, what a shell command does: 1 and the signature that it has of its own; or else 0, the program and the
-- variables that are set for it
abbrev pub definition_bytes : Option (List ℕ) → Args → List EnvPair → List ℕ
definition_bytes (Some signature) args env = 1 ∷ text_bytes signature
definition_bytes None args env = 0 ∷ program_bytes args ++ list_bytes env_bytes (map variable_of env)

-- what is started: the words, or `/bin/sh`, `-c` and the line
abbrev pub words_of : Args → List (List ℕ)
words_of Absent = []
words_of (Words words) = words
words_of (Line line) = codes "/bin/sh" ∷ codes "-c" ∷ line ∷ []
