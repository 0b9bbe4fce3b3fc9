-- What an answer says of a rule.
use Rattle.std.specs.Prelude.{◌≡◌, ◌⊎◌, Option, Some, None, Result, Ok, Err}
use Rattle.build_manifest.specs.declared.fault.RuleFault.{RuleFault}
use Rattle.build_manifest.specs.declared.fault.RuleFault.TheVariants as faults

-- the fault that was answered is the one that there is, or memory ran out
abbrev pub IsFault : RuleFault → Option RuleFault → Type 0
IsFault answered fault = (answered ≡ faults.NoMemory) ⊎ (fault ≡ Some answered)

-- a call passes exactly where there is no fault, and otherwise answers it; or memory ran out
abbrev pub Judges : {A : Type 0} → Result A RuleFault → Option RuleFault → Type 0
Judges (Ok found) fault = fault ≡ None
Judges (Err answered) fault = IsFault answered fault
