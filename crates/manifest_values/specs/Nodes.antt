-- The nodes of lists.
use Rattle.std.specs.Prelude.{ℕ, Bool, ◌||◌, List, [], if◌then◌else◌, Option, Some, None, Ok}
use Rattle.file_info.specs.Path.{normal_form}
use Rattle.file_info.specs.declared.node.NodeName.TheVariants.{Path, Virtual}
use Rattle.build_manifest.specs.declared.command.Input.{Input}
use Rattle.build_manifest.specs.declared.command.InputForm.{InputForm}
use Rattle.build_manifest.specs.declared.command.InputForm.TheVariants as form
use Rattle.manifest_values.specs.declared.known.Entry.{Entry}
use Rattle.manifest_values.specs.declared.refusal.Refusal.TheVariants.{BadPath}
use Rattle.manifest_values.specs.Known.{Facts, is_virtual_text, entry_of}
use Rattle.manifest_values.specs.Refusal.{Given, given_if}
use Rattle.manifest_values.specs.Texts.{is_name, is_path_text, has_slash}

-- how a path without an entry is read, with this final `/` or without it
abbrev pub plain_form : Bool → InputForm
plain_form slash = if slash then form.Tree [] else form.File

-- how a path with this entry is read, with this final `/` or without it: of several true flags the first of structure and
-- directory holds
abbrev pub entry_form : Entry → Bool → InputForm
entry_form e slash = if e.structure then form.Structure e.patterns else (if e.directory || slash then form.Tree e.patterns else form.File)

-- how a path is read with this entry for it, where it has one, and with this final `/` or without it
abbrev pub form_of : Option Entry → Bool → InputForm
form_of None slash = plain_form slash
form_of (Some e) slash = entry_form e slash

-- how this path is read
abbrev pub form_in : Facts → List ℕ → Bool → InputForm
form_in facts path slash = form_of (entry_of facts path slash) slash

-- the node of a path's text
abbrev pub path_input : Facts → List ℕ → Input
path_input facts text = record {
  written = text;
  node = Path (normal_form text);
  form = form_in facts (normal_form text) (has_slash text);
}

-- the node of a virtual node's text
abbrev pub virtual_input : List ℕ → Input
virtual_input text = record { written = text; node = Virtual text; form = form.Virtual }

-- the node of a text that stands with this owner and names no virtual node: the text is a path
abbrev pub path_node : Facts → List ℕ → List ℕ → Given Input
path_node facts owner text = given_if (is_path_text text) (BadPath owner text) (Ok (path_input facts text))

-- the node of a text that stands with this owner: the text is a name, and a path where it names no virtual node
unfoldable pub input_of : Facts → List ℕ → List ℕ → Given Input
input_of facts owner text =
    given_if (is_name text) (BadPath owner text)
    (if is_virtual_text facts text then Ok (virtual_input text)
    else path_node facts owner text)

-- the path of a text that stands with this owner
unfoldable pub path_of : List ℕ → List ℕ → Given (List ℕ)
path_of owner text = given_if (is_path_text text) (BadPath owner text) (Ok (normal_form text))
