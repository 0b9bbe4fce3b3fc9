-- What is read of inputs.
use Rattle.std.specs.Prelude.{◌≡◌, ℕ, List, [], ◌∷◌, ◌++◌}
use Rattle.file_info.specs.Lists.{In}
use Rattle.file_info.specs.declared.info.Info.{Info}
use Rattle.file_info.specs.declared.info.Info.TheVariants.{Missing}
use Rattle.file_info.specs.declared.node.NodeName.TheVariants.{Path}
use Rattle.file_info.specs.declared.node.Read.{Read}
use Rattle.file_info.specs.declared.node.Reading.TheVariants.{File}
use Rattle.build_manifest.specs.declared.command.Input.{Input}
use Rattle.build_plan.specs.Built.{IsFileInput}

-- each input is a file, read as one
abbrev pub AreFileInputs : List Input → Type 0
AreFileInputs inputs = (i : Input) → In i inputs → IsFileInput i

-- this file information was seen at the path of the input
pub record SeenAs (seen : List ℕ → Info → Type 0) (input : Input) (info : Info) : Type 0 where
  pub path : List ℕ
  pub node : input.node ≡ Path path
  pub was : seen path info

-- the file of the input was seen and is there, and this is the reading of what was seen
pub record IsRead (seen : List ℕ → Info → Type 0) (input : Input) (read : Read) : Type 0 where
  pub info : Info
  pub saw : SeenAs seen input info
  pub there : info ≡ Missing → ⊥
  pub node : read.node ≡ input.node
  pub reading : read.reading ≡ File info

-- each input was read, in order
abbrev pub AreRead : (List ℕ → Info → Type 0) → List Input → List Read → Type 0
AreRead seen [] [] = Unit {0}
AreRead seen [] (read ∷ reads) = ⊥
AreRead seen (input ∷ inputs) [] = ⊥
AreRead seen (input ∷ inputs) (read ∷ reads) = IsRead seen input read × AreRead seen inputs reads

-- the first of the inputs that is missing is written so; those before it were seen, and are there
pub record IsFirstMissing (seen : List ℕ → Info → Type 0) (inputs : List Input) (written : List ℕ) : Type 0 where
  pub before : List Input
  pub input : Input
  pub after : List Input
  pub inputs_are : inputs ≡ before ++ input ∷ after
  pub reads : List Read
  pub there : AreRead seen before reads
  pub missing : SeenAs seen input Missing
  pub written_is : input.written ≡ written

-- nothing was seen of the file of the input
pub record IsUnseen (seen : List ℕ → Info → Type 0) (input : Input) : Type 0 where
  pub path : List ℕ
  pub node : input.node ≡ Path path
  pub unseen : (info : Info) → seen path info → ⊥

-- the inputs before one of them were seen, and are there, and of that one nothing was seen
pub record IsFirstUnseen (seen : List ℕ → Info → Type 0) (inputs : List Input) : Type 0 where
  pub before : List Input
  pub input : Input
  pub after : List Input
  pub inputs_are : inputs ≡ before ++ input ∷ after
  pub reads : List Read
  pub there : AreRead seen before reads
  pub unseen : IsUnseen seen input

-- each input was read
abbrev pub WereRead : (List ℕ → Info → Type 0) → List Input → Type 0
WereRead seen inputs = (reads : List Read) × AreRead seen inputs reads
