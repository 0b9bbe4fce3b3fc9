-- Why nothing is built of a target, and how that is found among the marked commands.
use Rattle.std.specs.Prelude.{◌≡◌, ◌<◌, ℕ, Bool, List, length, slice_get, Some}
use Rattle.build_manifest.specs.declared.command.Command.{Command}
use Rattle.build_manifest.specs.declared.command.Input.{Input}
use Rattle.build_manifest.specs.declared.command.TargetEntry.{TargetEntry}
use Rattle.build_manifest.specs.Manifest.{ManifestLists}
use Rattle.build_plan.specs.declared.plan.Unbuilt.{Unbuilt}
use Rattle.build_plan.specs.declared.plan.Unbuilt.TheVariants.{Asker, Later, NoMemory}
use Rattle.build_plan.specs.Built.{AreEarlier, IsAsker, IsLaterMaker, IsMadeLater}
use Rattle.build_plan.specs.Reached.{IsMarked}

-- why nothing is built of the target: this is who uses what is not built, or this command reads what is made later. Want of
-- memory has no cause
abbrev pub IsUnbuilt : ManifestLists → TargetEntry → Unbuilt → Type 0
IsUnbuilt m target (Asker name) = IsAsker m target name
IsUnbuilt m target (Later command node) = IsLaterMaker m target command node
IsUnbuilt m target NoMemory = Unit {0}

-- each marked command before this place is such as this says of it and its place
abbrev pub AreBefore : (ℕ → Command → Type 0) → List Command → List Bool → ℕ → Type 0
AreBefore is commands marks place = (k : ℕ) (c : Command) → k < place → slice_get commands k ≡ Some c → IsMarked marks k → is k c

-- the command at this place is the first of the marked ones that is not such
pub record IsFirstMark (is : ℕ → Command → Type 0) (commands : List Command) (marks : List Bool) (place : ℕ) : Type 0 where
  pub within : place < length commands
  pub marked : IsMarked marks place
  pub other : (c : Command) → slice_get commands place ≡ Some c → is place c → ⊥
  pub before : AreBefore is commands marks place

-- no marked command before this place reads what it or a later command makes
abbrev pub AreNoneLate : List Command → List Bool → ℕ → Type 0
AreNoneLate commands marks place = AreBefore (λ k c. AreEarlier commands k c.inputs) commands marks place

-- the first of these inputs that the command at this place or a later one makes stands here
pub record IsFirstLaterAt (commands : List Command) (place : ℕ) (inputs : List Input) (at : ℕ) : Type 0 where
  pub within : at < length inputs
  pub later : (i : Input) → slice_get inputs at ≡ Some i → IsMadeLater commands place i
  pub earlier : (k : ℕ) (i : Input) → k < at → slice_get inputs k ≡ Some i → IsMadeLater commands place i → ⊥

-- a place of a command and one among its inputs: the command is the first of the marked ones that reads what it or a later
-- command makes, and that is its first such input
pub record IsFirstLate (commands : List Command) (marks : List Bool) (found : ℕ × ℕ) : Type 0 where
  pub first : IsFirstMark (λ k c. AreEarlier commands k c.inputs) commands marks found.0
  pub input : (c : Command) → slice_get commands found.0 ≡ Some c → IsFirstLaterAt commands found.0 c.inputs found.1
