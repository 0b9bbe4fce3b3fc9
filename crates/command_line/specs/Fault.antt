-- What a function answers: what is read, or want of memory.
use Rattle.std.specs.Prelude.{◌≡◌, Bool, true, false, cond, Result, Ok, Err}
use Rattle.clap.specs.declared.error.kind.ErrorKind.{ErrorKind}
use Rattle.clap.specs.declared.error.kind.ErrorKind.TheVariants.{OutOfMemory}
use Rattle.command_line.specs.declared.job.UsageFault.{UsageFault}
use Rattle.command_line.specs.declared.job.UsageFault.TheVariants.{NoCommand, Words, BadNumber, BadPath, Exclusive, NotBuilt, NoMemory}

-- what is read, or why words are refused
abbrev pub Read : Type 0 → Type 0
Read A = Result A UsageFault

-- the fault is this one, unless memory ran out
abbrev pub IsFault : UsageFault → UsageFault → Type 0
IsFault NoCommand fault = NoCommand ≡ fault
IsFault Words fault = Words ≡ fault
IsFault (BadNumber option) fault = BadNumber option ≡ fault
IsFault (BadPath option) fault = BadPath option ≡ fault
IsFault (Exclusive first second) fault = Exclusive first second ≡ fault
IsFault NotBuilt fault = NotBuilt ≡ fault
IsFault NoMemory fault = Unit {0}

-- a fault is what is read, unless memory ran out
abbrev pub Fails : {A : Type 0} → UsageFault → Read A → Type 0
Fails NoCommand read = read ≡ Err NoCommand
Fails Words read = read ≡ Err Words
Fails (BadNumber option) read = read ≡ Err (BadNumber option)
Fails (BadPath option) read = read ≡ Err (BadPath option)
Fails (Exclusive first second) read = read ≡ Err (Exclusive first second)
Fails NotBuilt read = read ≡ Err NotBuilt
Fails NoMemory read = Unit {0}

-- what a function answers is what is read, unless memory ran out
abbrev pub Answers : {A : Type 0} → Result A UsageFault → Read A → Type 0
Answers (Ok x) read = read ≡ Ok x
Answers (Err fault) read = Fails fault read

-- whether it is the kind of an error for want of memory
abbrev pub is_memory : ErrorKind → Bool
is_memory OutOfMemory = true
is_memory _ = false

-- the fault of an error of this kind
abbrev pub refused_kind : ErrorKind → UsageFault
refused_kind kind = cond (is_memory kind) NoMemory Words
