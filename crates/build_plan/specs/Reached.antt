-- The marks of a walk over what nodes need, and the places that wait for it.
use Rattle.std.specs.Prelude.{◌≡◌, ◌⊎◌, ◌+◌, ◌≤◌, ℕ, Bool, true, false, List, [], ◌∷◌, ◌++◌, length, slice_get, Some}
use Rattle.file_info.specs.Lists.{In}
use Rattle.build_manifest.specs.declared.command.Command.{Command}
use Rattle.build_manifest.specs.declared.command.Input.{Input}
use Rattle.build_manifest.specs.Places.{maker_of}
use Rattle.build_meaning.specs.Need.{IsNeeded}

-- the place is marked
abbrev pub IsMarked : List Bool → ℕ → Type 0
IsMarked marks place = slice_get marks place ≡ Some true

-- how many places are not marked
abbrev pub unmarked : List Bool → ℕ
unmarked [] = 0
unmarked (true ∷ marks) = unmarked marks
unmarked (false ∷ marks) = 1 + unmarked marks

-- what the command asks: its inputs and its must-follow nodes
abbrev pub asked_by : Command → List Input
asked_by c = c.inputs ++ c.follow

-- the command at this place makes one of these inputs
pub record IsMakerOf (commands : List Command) (inputs : List Input) (place : ℕ) : Type 0 where
  pub input : Input
  pub among : In input inputs
  pub makes : maker_of commands input.node ≡ Some place

-- the makers of the inputs are marked now and no others are that were not; those that were not marked wait, after what
-- waited; and no more is left to do
pub record AddsMakers (commands : List Command) (inputs : List Input) (old : List Bool) (waited : List ℕ) (new : List Bool)
    (waiting : List ℕ) : Type 0 where
  pub count : length new ≡ length old
  pub kept : (k : ℕ) → IsMarked old k → IsMarked new k
  pub makers : (k : ℕ) → IsMakerOf commands inputs k → IsMarked new k
  pub only : (k : ℕ) → IsMarked new k → IsMarked old k ⊎ IsMakerOf commands inputs k
  pub waits : (k : ℕ) → In k waited → In k waiting
  pub held : (k : ℕ) → In k waiting → In k waited ⊎ IsMarked new k
  pub fresh : (k : ℕ) → IsMarked new k → IsMarked old k ⊎ In k waiting
  pub work : unmarked new + length waiting ≤ unmarked old + length waited

-- each marked command is needed for the wanted nodes, and the makers of these are marked; what waits is marked, and the makers
-- of what each other marked command asks are marked
pub record AreReached (commands : List Command) (wanted : List Input) (marks : List Bool) (waiting : List ℕ) : Type 0 where
  pub count : length marks ≡ length commands
  pub sound : (k : ℕ) (c : Command) → slice_get commands k ≡ Some c → IsMarked marks k → IsNeeded commands wanted c
  pub wanted_makers : (k : ℕ) → IsMakerOf commands wanted k → IsMarked marks k
  pub held : (k : ℕ) → In k waiting → IsMarked marks k
  pub closed : (k : ℕ) (c : Command) → slice_get commands k ≡ Some c → IsMarked marks k
      → In k waiting ⊎ ((j : ℕ) → IsMakerOf commands (asked_by c) j → IsMarked marks j)
