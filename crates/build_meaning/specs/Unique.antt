-- What makes the content that manifest and sources give a path the only one.
use Rattle.std.specs.Prelude.{◌≡◌, ℕ, List, slice_get, Some}
use Rattle.file_info.specs.Lists.{In}
use Rattle.file_info.specs.declared.info.Info.{Info}
use Rattle.outside.specs.OrderForm.{paths_of}
use Rattle.build_manifest.specs.declared.command.Command.{Command}
use Rattle.build_meaning.specs.Fresh.{Sights}

-- each path is an output of one command, at one place
abbrev pub HasOneMaker : List Command → Type 0
HasOneMaker cs = (c e : Command) (k j : ℕ) (p : List ℕ) → In c cs → In e cs
    → slice_get (paths_of c.outputs) k ≡ Some p → slice_get (paths_of e.outputs) j ≡ Some p → (c ≡ e) × (k ≡ j)

-- each path was seen with one file information at most. Where it also has one maker at most, it has one content at most: the
-- law `single_valued`
abbrev pub SawOnce : Sights → Type 0
SawOnce seen = (p : List ℕ) (i j : Info) → In (p, i) seen → In (p, j) seen → i ≡ j
