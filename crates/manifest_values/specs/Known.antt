-- What a manifest says of the names of its nodes, wherever they stand.
use Rattle.std.specs.Prelude.{ℕ, Bool, true, false, not, ◌&&◌, ◌||◌, ◌≡◌, List, [], ◌∷◌, ◌++◌, if◌then◌else◌, position, slice_get, Option, Some, None, bytes_eq, codes}
use Rattle.std.specs.List.{list_any, flat_map}
use Rattle.std.specs.Option.{option_and_then}
use Rattle.std.specs.Global.{Vec}
use Rattle.std.specs.HashMap.{HashMap, get_by_text}
use Rattle.std.specs.declared.string.String.{String}
use Rattle.file_info.specs.Path.{normal_form}
use Rattle.yaml_profile.specs.Tree.{name_of, value_of}
use Rattle.yaml_profile.specs.declared.yaml.Yaml.{Yaml}
use Rattle.yaml_profile.specs.declared.yaml.Pair.{Pair}
use Rattle.manifest_values.specs.declared.known.Entry.{Entry}
use Rattle.manifest_values.specs.Shapes.{◌then◌, text_of, pairs_of, texts_of, value_named}
use Rattle.manifest_values.specs.Texts.{is_path_text, has_slash, is_angled}

-- what is known: the texts that name virtual nodes besides `<...>`, and the entries of `nodes` for paths, in order
pub record Facts : Type 0 where
  pub virtuals : List (List ℕ)
  pub entries : List Entry

-- the pairs of a mapping, none for another node
abbrev pub pairs_or_none : Option Yaml → List Pair
pairs_or_none tree = elim (tree then pairs_of) [ None ↦ [] | Some pairs ↦ pairs ]

-- the texts of a list, none for another node
abbrev pub texts_or_none : Option Yaml → List (List ℕ)
texts_or_none tree = elim (tree then texts_of) [ None ↦ [] | Some texts ↦ texts ]

-- the pairs of this section, none where it is absent or no mapping
abbrev pub section_pairs : List ℕ → List Pair → List Pair
section_pairs name pairs = pairs_or_none (value_named name pairs)

-- whether the node is this text
abbrev pub is_scalar : List ℕ → Yaml → Bool
is_scalar text tree = elim (text_of tree) [ None ↦ false | Some found ↦ bytes_eq found text ]

-- whether the pairs have this name with this text
abbrev pub says : List ℕ → List ℕ → List Pair → Bool
says name text pairs = elim (value_named name pairs) [ None ↦ false | Some tree ↦ is_scalar text tree ]

-- whether each output of a command with these attributes is a virtual node
abbrev pub makes_virtual : List Pair → Bool
makes_virtual pairs = says (codes "tool") (codes "phony") pairs || says (codes "tool") (codes "stale-file-removal") pairs

-- the outputs of a command, where each is a virtual node
abbrev pub virtual_outputs : Pair → List (List ℕ)
virtual_outputs p =
    if makes_virtual (pairs_or_none (Some (value_of p)))
    then texts_or_none (value_named (codes "outputs") (pairs_or_none (Some (value_of p))))
    else []

-- the name of an entry of `nodes`, where it says that this is a virtual node
abbrev pub virtual_entry : Pair → List (List ℕ)
virtual_entry p = if says (codes "is-virtual") (codes "true") (pairs_or_none (Some (value_of p))) then name_of p ∷ [] else []

-- the texts that name virtual nodes: outputs of commands that make no file, and entries of `nodes`
abbrev pub virtuals_of : List Pair → List (List ℕ)
virtuals_of pairs = flat_map virtual_outputs (section_pairs (codes "commands") pairs) ++ flat_map virtual_entry (section_pairs (codes "nodes") pairs)

-- whether the text names a virtual node, where these do besides `<...>`
abbrev pub is_virtual_in : List (List ℕ) → List ℕ → Bool
is_virtual_in virtuals text = is_angled text || list_any (bytes_eq text) virtuals

-- what an entry of `nodes` with this path, this name and these attributes says of the path
abbrev pub entry_at : List ℕ → List ℕ → List Pair → Entry
entry_at path name attributes = record {
  path = path;
  slash = has_slash name;
  structure = says (codes "is-directory-structure") (codes "true") attributes;
  directory = says (codes "is-directory") (codes "true") attributes;
  patterns = texts_or_none (value_named (codes "content-exclusion-patterns") attributes);
}

-- what an entry of `nodes` says of its path, where it names one
abbrev pub path_entry : List (List ℕ) → Pair → List Entry
path_entry virtuals p = if not (is_virtual_in virtuals (name_of p)) && is_path_text (name_of p)
    then entry_at (normal_form (name_of p)) (name_of p) (pairs_or_none (Some (value_of p))) ∷ []
    else []

-- what is known of names from the sections of a manifest
unfoldable pub facts_of : List Pair → Facts
facts_of pairs = record {
  virtuals = virtuals_of pairs;
  entries = flat_map (path_entry (virtuals_of pairs)) (section_pairs (codes "nodes") pairs);
}

-- whether the text names a virtual node
abbrev pub is_virtual_text : Facts → List ℕ → Bool
is_virtual_text facts text = is_virtual_in facts.virtuals text

-- whether two flags are the same
abbrev pub same_flag : Bool → Bool → Bool
same_flag true b = b
same_flag false b = not b

-- whether the entry is one of the path with this final `/` or without it
abbrev pub is_entry_of : List ℕ → Bool → Entry → Bool
is_entry_of path slash e = bytes_eq path e.path && same_flag slash e.slash

-- the place of the first entry of the path with this final `/` or without it
abbrev pub entry_place : List Entry → List ℕ → Bool → Option ℕ
entry_place entries path slash = position (is_entry_of path slash) entries

-- the first entry of the path with this final `/` or without it
abbrev pub entry_among : List Entry → List ℕ → Bool → Option Entry
entry_among entries path slash = option_and_then (slice_get entries) (entry_place entries path slash)

-- the same of what is known: the first entry alone counts
abbrev pub entry_of : Facts → List ℕ → Bool → Option Entry
entry_of facts path slash = entry_among facts.entries path slash

-- the set has these texts and no others
pub record AreTexts (set : List (Vec ℕ)) (texts : List (List ℕ)) : Type 0 where
  pub same : (q : List ℕ) → list_any (λ k. bytes_eq q k.items) set ≡ list_any (bytes_eq q) texts

-- the maps have the place of the first entry of each path
pub record ArePlaced {A B S R : Type 0} (entries : List Entry) (files : HashMap (String A) ℕ S) (folders : HashMap (String B) ℕ R) : Type 0 where
  pub files_placed : (path : List ℕ) → get_by_text files path ≡ entry_place entries path false
  pub folders_placed : (path : List ℕ) → get_by_text folders path ≡ entry_place entries path true
