-- Which attributes each tool has.
use Rattle.std.specs.Prelude.{ℕ, ◌==◌, ◌&&◌, List, [], ◌∷◌, if◌then◌else◌, map, Option, Some, None, bytes_eq, codes}
use Rattle.std.specs.List.{find, flat_map}
use Rattle.std.specs.Option.{option_map}
use Rattle.build_manifest.specs.declared.command.Tool.{Tool}
use Rattle.build_manifest.specs.declared.command.Tool.TheVariants.{Phony, Shell, Mkdir, Symlink, Archive, StaleFileRemoval}
use Rattle.manifest_reader.specs.declared.attributes.Attribute.{Attribute}
use Rattle.manifest_reader.specs.declared.attributes.Attribute.TheVariants as attribute

-- an attribute with its name and the tools that have it
pub record Line : Type 0 where
  pub name : List ℕ
  pub attribute : Attribute
  pub tools : List Tool

-- an attribute of one tool
pub record Row : Type 0 where
  pub tool : Tool
  pub name : List ℕ
  pub attribute : Attribute

-- all tools
abbrev pub all_tools : List Tool
all_tools = Phony ∷ Shell ∷ Mkdir ∷ Symlink ∷ Archive ∷ StaleFileRemoval ∷ []

-- all tools but `stale-file-removal`
abbrev pub asking_tools : List Tool
asking_tools = Phony ∷ Shell ∷ Mkdir ∷ Symlink ∷ Archive ∷ []

-- the attributes by name, each with its tools
abbrev pub lines : List Line
lines =
    record { name = codes "tool"; attribute = attribute.Tool; tools = all_tools }
    ∷ record { name = codes "inputs"; attribute = attribute.Inputs; tools = all_tools }
    ∷ record { name = codes "outputs"; attribute = attribute.Outputs; tools = all_tools }
    ∷ record { name = codes "description"; attribute = attribute.Description; tools = all_tools }
    ∷ record { name = codes "must-follow"; attribute = attribute.MustFollow; tools = asking_tools }
    ∷ record { name = codes "allow-missing-inputs"; attribute = attribute.AllowMissingInputs; tools = asking_tools }
    ∷ record { name = codes "always-out-of-date"; attribute = attribute.AlwaysOutOfDate; tools = asking_tools }
    ∷ record { name = codes "args"; attribute = attribute.Args; tools = Shell ∷ [] }
    ∷ record { name = codes "env"; attribute = attribute.Env; tools = Shell ∷ [] }
    ∷ record { name = codes "deps"; attribute = attribute.Deps; tools = Shell ∷ [] }
    ∷ record { name = codes "deps-style"; attribute = attribute.DepsStyle; tools = Shell ∷ [] }
    ∷ record { name = codes "inherit-env"; attribute = attribute.InheritEnv; tools = Shell ∷ [] }
    ∷ record { name = codes "signature"; attribute = attribute.Signature; tools = Shell ∷ [] }
    ∷ record { name = codes "contents"; attribute = attribute.Contents; tools = Symlink ∷ [] }
    ∷ record { name = codes "expectedOutputs"; attribute = attribute.ExpectedOutputs; tools = StaleFileRemoval ∷ [] }
    ∷ record { name = codes "roots"; attribute = attribute.Roots; tools = StaleFileRemoval ∷ [] }
    ∷ []

-- the 48 rows: one for each tool and each of its attributes
abbrev pub rows : List Row
rows = flat_map (λ (l : Line). map (λ (t : Tool). record { tool = t; name = l.name; attribute = l.attribute }) l.tools) lines

-- the number of a tool
abbrev pub group_of : Tool → ℕ
group_of Phony = 0
group_of Shell = 1
group_of Mkdir = 2
group_of Symlink = 3
group_of Archive = 4
group_of StaleFileRemoval = 5

-- the attribute of the first of these rows with this tool and this name
abbrev pub found_in : List Row → Tool → List ℕ → Option Attribute
found_in [] tool name = None
found_in (r ∷ rs) tool name = if group_of r.tool == group_of tool && bytes_eq r.name name then Some r.attribute else found_in rs tool name

-- the attribute of this name that the tool has
unfoldable pub attribute_of : Tool → List ℕ → Option Attribute
attribute_of tool name = found_in rows tool name

-- the code of an attribute in the table
abbrev pub code_of : Attribute → ℕ
code_of attribute.Tool = 1
code_of attribute.Inputs = 2
code_of attribute.Outputs = 3
code_of attribute.Description = 4
code_of attribute.MustFollow = 5
code_of attribute.AllowMissingInputs = 6
code_of attribute.AlwaysOutOfDate = 7
code_of attribute.Args = 8
code_of attribute.Env = 9
code_of attribute.Deps = 10
code_of attribute.DepsStyle = 11
code_of attribute.InheritEnv = 12
code_of attribute.Signature = 13
code_of attribute.Contents = 14
code_of attribute.ExpectedOutputs = 15
code_of attribute.Roots = 16

-- the code of the first of these rows with a tool of this number and this name
abbrev pub code_in : List Row → ℕ → List ℕ → Option ℕ
code_in [] group name = None
code_in (r ∷ rs) group name = if group_of r.tool == group && bytes_eq r.name name then Some (code_of r.attribute) else code_in rs group name

-- the attribute of this code
abbrev pub attribute_at : ℕ → Option Attribute
attribute_at code = option_map (λ (l : Line). l.attribute) (find (λ (l : Line). code_of l.attribute == code) lines)

-- the tool of this name
unfoldable pub tool_named : List ℕ → Option Tool
tool_named name =
    if bytes_eq name (codes "phony") then Some Phony
    else (if bytes_eq name (codes "shell") then Some Shell
    else (if bytes_eq name (codes "mkdir") then Some Mkdir
    else (if bytes_eq name (codes "symlink") then Some Symlink
    else (if bytes_eq name (codes "archive") then Some Archive
    else (if bytes_eq name (codes "stale-file-removal") then Some StaleFileRemoval else None)))))
