-- What orders change, and what stands when they ended.
use Rattle.std.specs.Prelude.{◌≡◌, ◌⊎◌, ◌↔◌, ◌||◌, ℕ, Bool, true, false, List, [], ◌∷◌, ◌++◌, map, if◌then◌else◌}
use Rattle.std.specs.List.{list_any}
use Rattle.file_info.specs.Content.{Content, FileVersion, content, same_list, node_text}
use Rattle.file_info.specs.Lists.{In}
use Rattle.file_info.specs.declared.info.Info.{Info}
use Rattle.file_info.specs.declared.info.Info.TheVariants as infos
use Rattle.file_info.specs.declared.info.Form.{Form}
use Rattle.file_info.specs.declared.info.Form.TheVariants.{Follow, Link}
use Rattle.file_info.specs.declared.info.Kind.TheVariants as kinds
use Rattle.file_info.specs.declared.node.TreeEntry.{TreeEntry}
use Rattle.file_info.specs.declared.node.ShapeEntry.{ShapeEntry}
use Rattle.file_info.specs.declared.node.Reading.{Reading}
use Rattle.file_info.specs.declared.node.Reading.TheVariants.{Nothing, File, Tree, Structure}
use Rattle.file_info.specs.declared.node.Read.{Read}
use Rattle.outside.specs.declared.order.Order.{Order}
use Rattle.outside.specs.declared.order.Act.{Act}
use Rattle.outside.specs.declared.order.Act.TheVariants.{Spawn, MakeDir, MakeLink}

-- no path has different contents in these lists
abbrev pub Agree : List (List ℕ × Content) → List (List ℕ × Content) → Type 0
Agree xs ys = (p : List ℕ) (a b : Content) → In (p, a) xs → In (p, b) ys → a ≡ b

-- the path is an output or a dependency file of one of these orders
abbrev pub IsWritten : List Order → List ℕ → Type 0
IsWritten orders path = (o : Order) × In o orders × (In path o.outputs ⊎ In path o.deps)

-- nothing differs but what these orders write
abbrev pub SameBut : List Order → (List ℕ → Form → Info) → (List ℕ → Form → Info) → Type 0
SameBut orders old new = (p : List ℕ) (f : Form) → (IsWritten orders p → ⊥) → new p f ≡ old p f

-- what was a directory still is one
abbrev pub KeepsDirectories : (List ℕ → Form → Info) → (List ℕ → Form → Info) → Type 0
KeepsDirectories old new = (p : List ℕ) (f : Form) → old p f ≡ infos.Directory → new p f ≡ infos.Directory

-- the order was one of the old ones, and the others are left in their order
abbrev pub TakenOut : Order → List Order → List Order → Type 0
TakenOut order old new = (before : List Order) × (after : List Order) × (old ≡ before ++ order ∷ after) × (new ≡ before ++ after)

-- whether the path stands in the list
abbrev pub stands_in : List (List ℕ) → List ℕ → Bool
stands_in paths path = list_any (λ p. same_list p path) paths

-- the file information is that of a link
abbrev pub is_link : Info → Bool
is_link infos.Missing = false
is_link infos.Directory = false
is_link (infos.File size stamp) = false
is_link (infos.Link text) = true

-- how a path of an order is asked for: as a link where it is known to be one, or stands among the links; or else it is followed
abbrev pub asked_as : List (List ℕ) → Bool → List ℕ → Form
asked_as links linked path = if linked || stands_in links path then Link else Follow

-- how a path is asked for that had this file information when it was read
abbrev pub form_of : List (List ℕ) → List ℕ → Info → Form
form_of links path info = asked_as links (is_link info) path

-- the entry of a structure still has its kind
abbrev pub HasKind : (List ℕ → Form → Info) → ShapeEntry → Type 0
HasKind at e = (e.kind ≡ kinds.Directory) ↔ (at e.path Follow ≡ infos.Directory)

-- what was read of the path still stands
abbrev pub StandsAs : (List ℕ → Form → Info) → List (List ℕ) → List ℕ → Reading → Type 0
StandsAs at links path Nothing = Unit {0}
StandsAs at links path (File info) = at path (form_of links path info) ≡ info
StandsAs at links path (Tree entries) = (e : TreeEntry) → In e entries → at e.path (form_of links e.path e.info) ≡ e.info
StandsAs at links path (Structure entries) = (e : ShapeEntry) → In e entries → HasKind at e

-- all that the order read still stands
abbrev pub Unchanged : (List ℕ → Form → Info) → Order → Type 0
Unchanged at order = (r : Read) → In r order.reads → StandsAs at order.links (node_text r.node) r.reading

-- whether the act makes a link
abbrev pub makes_link : Act → Bool
makes_link (Spawn words env inherit clear) = false
makes_link MakeDir = false
makes_link (MakeLink text) = true

-- how an output is asked for
abbrev pub output_form : Order → List ℕ → Form
output_form order path = asked_as order.links (makes_link order.act) path

-- how a path is asked for that a dependency file names
abbrev pub found_form : Order → List ℕ → Form
found_form order path = asked_as order.links false path

-- the contents of the outputs, as they stand
abbrev pub contents_at : List FileVersion → (List ℕ → Form → Info) → Order → List Content
contents_at m at order = map (λ p. content m p (at p (output_form order p))) order.outputs

-- these are the paths that the dependency files name, as they stand. None are read yet, so a command that writes one is
-- promised nothing
abbrev pub IsFound : List FileVersion → (List ℕ → Form → Info) → List (List ℕ) → List (List ℕ) → Type 0
IsFound m at [] found = found ≡ []
IsFound m at (dep ∷ deps) found = ⊥

-- the contents of the found paths, as they stand
abbrev pub found_contents : List FileVersion → (List ℕ → Form → Info) → Order → List (List ℕ) → List (List ℕ × Content)
found_contents m at order found = map (λ p. (p, content m p (at p (found_form order p)))) found
