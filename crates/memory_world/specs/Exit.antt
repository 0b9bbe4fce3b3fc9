-- The exit of a toy command, as what is seen of the world before tells it.
use Rattle.std.specs.Prelude.{◌≡◌, ◌⊎◌, ℕ, true, List}
use Rattle.file_info.specs.Content.{Content, FileVersion, content, Text, node_text}
use Rattle.file_info.specs.Lists.{In}
use Rattle.file_info.specs.declared.info.Info.{Info}
use Rattle.file_info.specs.declared.info.Info.TheVariants as infos
use Rattle.file_info.specs.declared.info.Form.{Form}
use Rattle.file_info.specs.declared.info.Form.TheVariants.{Link}
use Rattle.file_info.specs.declared.node.Reading.TheVariants as readings
use Rattle.file_info.specs.declared.node.Read.{Read}
use Rattle.outside.specs.declared.order.Order.{Order}
use Rattle.outside.specs.declared.order.Act.{Act}
use Rattle.outside.specs.declared.order.Act.TheVariants.{Spawn, MakeDir, MakeLink}
use Rattle.outside.specs.declared.order.Exit.{Exit}
use Rattle.outside.specs.View.{DiskView, Tells}
use Rattle.outside.specs.Outcome.{form_of}
use Rattle.memory_world.specs.Toy.{has_fail}
use Rattle.memory_world.specs.Performance.{exit_by, is_read}

-- the exit of the order, where the paths have this file information and the map gives the contents
abbrev pub exit_on : List FileVersion → (List ℕ → Form → Info) → Order → Exit
exit_on m at order = exit_by at (λ p f. content m p (at p f)) order

-- the exit is the one that the toy command gives on what stood, for each map that the view tells
abbrev pub IsToyExit : DiskView → Order → Exit → Type 0
IsToyExit v order exit = (m : List FileVersion) → Tells v m → exit ≡ exit_on m v.at order

-- the path cannot be an output of the act: for a program it is a directory or was read, for a directory it is a file or a link, and
-- for a link it is a directory
abbrev pub IsBlocked : (List ℕ → Form → Info) → List Read → Act → List ℕ → Type 0
IsBlocked at reads (Spawn words env inherit clear) p =
    (at p Link ≡ infos.Directory) ⊎ ((r : Read) × In r reads × (is_read (node_text r.node) r.reading p ≡ true))
IsBlocked at reads MakeDir p = (at p Link ≡ infos.Missing → ⊥) × (at p Link ≡ infos.Directory → ⊥)
IsBlocked at reads (MakeLink text) p = at p Link ≡ infos.Directory

-- one of the outputs cannot be one
abbrev pub HasBlocked : (List ℕ → Form → Info) → Order → Type 0
HasBlocked at order = (p : List ℕ) × In p order.outputs × IsBlocked at order.reads order.act p

-- the content of a path that had this file information, asked for as the order asks
abbrev pub content_for : List FileVersion → (List ℕ → Form → Info) → Order → List ℕ → Info → Content
content_for m at order path info = content m path (at path (form_of order.links path info))

-- the act is a program
abbrev pub IsProgram : Act → Type 0
IsProgram (Spawn words env inherit clear) = Unit {0}
IsProgram MakeDir = ⊥
IsProgram (MakeLink text) = ⊥

-- the order is for a program, and a file that was read has a line `fail`
abbrev pub HasFailing : List FileVersion → (List ℕ → Form → Info) → Order → Type 0
HasFailing m at order = IsProgram order.act × ((r : Read) × In r order.reads × ((i : Info) × (r.reading ≡ readings.File i)
    × ((text : List ℕ) × (content_for m at order (node_text r.node) i ≡ Text text) × (has_fail text ≡ true))))
