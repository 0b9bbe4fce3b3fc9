-- The steps of a script on files in memory: a file is set, a directory is made, a path is dropped.
use Rattle.std.specs.Prelude.{◌==◌, ◌||◌, ◌&&◌, ℕ, Bool, true, false, not, if◌then◌else◌, List, [], ◌∷◌, ◌++◌, Option, Some, None}
use Rattle.std.specs.List.{list_any}
use Rattle.file_info.specs.Content.{same_list}
use Rattle.file_info.specs.Path.{normal_form, is_absolute}
use Rattle.file_info.specs.PathFault.{path_fault}
use Rattle.file_info.specs.declared.info.Form.TheVariants.{Link}
use Rattle.file_info.specs.declared.path.PathError.{PathError}
use Rattle.memory_files.specs.declared.write.What.{What}
use Rattle.memory_files.specs.declared.write.What.TheVariants.{Gone, Dir, Bytes, LinkText}
use Rattle.memory_files.specs.declared.write.Write.{Write}
use Rattle.outside.specs.Outcome.{stands_in}
use Rattle.memory_files.specs.Log.{put, last_of, info_of, is_directory}

-- whether the text begins with a part `..`
abbrev pub begins_up : List ℕ → Bool
begins_up [] = false
begins_up (a ∷ []) = false
begins_up (a ∷ b ∷ []) = a == 46 && b == 46
begins_up (a ∷ b ∷ c ∷ more) = a == 46 && b == 46 && c == 47

-- whether the text is empty
abbrev pub is_empty : List ℕ → Bool
is_empty [] = true
is_empty (a ∷ more) = false

-- whether the text goes on with a part that is a name
abbrev pub leads_down : List ℕ → Bool
leads_down text = not (is_empty text) && not (begins_up text)

-- the path of this text, if it is one
abbrev pub named : List ℕ → List (List ℕ)
named text = unless_fault (path_fault text)
  where
    unless_fault : Option PathError → List (List ℕ)
    unless_fault None = normal_form text ∷ []
    unless_fault (Some error) = []

-- what stands before a slash: nothing stands before the root's
abbrev pub front : List ℕ → List ℕ
front [] = 47 ∷ []
front (a ∷ more) = a ∷ more

-- the directory whose text ends at this byte, if one does
abbrev pub above_at : List ℕ → ℕ → List ℕ → List (List ℕ)
above_at seen byte rest = if byte == 47 && leads_down rest then named (front seen) else []

-- the directories whose text ends in the rest, after what was passed of it
abbrev pub above_from : List ℕ → List ℕ → List (List ℕ)
above_from seen [] = []
above_from seen (byte ∷ rest) = above_at seen byte rest ++ above_from (seen ++ byte ∷ []) rest

-- whether the path stands below the folder that it starts from
abbrev pub is_here : List ℕ → Bool
is_here path = not (is_absolute path) && not (same_list path (46 ∷ [])) && leads_down path

-- the directories above a path, the outermost first
abbrev pub above : List ℕ → List (List ℕ)
above path = (if is_here path then named (46 ∷ []) else []) ++ above_from [] path

-- whether nothing stands where this was the last write
abbrev pub is_free : Option Write → Bool
is_free None = true
is_free (Some w) = what_free w.what
  where
    what_free : What → Bool
    what_free Gone = true
    what_free Dir = false
    what_free (Bytes text) = false
    what_free (LinkText text) = false

-- whether a file or a link stands where this was the last write
abbrev pub is_file : Option Write → Bool
is_file None = false
is_file (Some w) = what_file w.what
  where
    what_file : What → Bool
    what_file Gone = false
    what_file Dir = false
    what_file (Bytes text) = true
    what_file (LinkText text) = true

-- whether a file or a link stands at one of these paths
abbrev pub leads_through : List Write → List (List ℕ) → Bool
leads_through ws paths = list_any (λ p. is_file (last_of ws p)) paths

-- the files after the path became a directory, where nothing stood there
abbrev pub with_directory : List Write → List ℕ → List Write
with_directory ws path = if is_free (last_of ws path) then put ws path Dir else ws

-- the files after each of the paths became a directory, where nothing stood there
abbrev pub with_directories : List Write → List (List ℕ) → List Write
with_directories ws [] = ws
with_directories ws (path ∷ paths) = with_directories (with_directory ws path) paths

-- the directories above a path, and the path
abbrev pub way_to : List ℕ → List (List ℕ)
way_to path = above path ++ path ∷ []

-- the files after a file is set, with the directories above it. Nothing happens through a file or a link, or where a
-- directory stands
abbrev pub after_set : List Write → List ℕ → List ℕ → List Write
after_set ws path text =
    if leads_through ws (above path) || is_directory (info_of (last_of ws path) Link) then ws
    else put (with_directories ws (above path)) path (Bytes text)

-- the files after a directory is made, with those above it. Nothing happens through a file or a link, or where one stands
abbrev pub after_dir : List Write → List ℕ → List Write
after_dir ws path = if leads_through ws (way_to path) then ws else with_directories ws (way_to path)

-- whether something stands below the path
abbrev pub has_below : List Write → List ℕ → Bool
has_below ws path = list_any (λ w. not (is_free (last_of ws w.path)) && stands_in (above w.path) path) ws

-- the files after a file, a link or an empty directory is dropped
abbrev pub after_drop : List Write → List ℕ → List Write
after_drop ws path = if is_free (last_of ws path) || (is_directory (info_of (last_of ws path) Link) && has_below ws path) then ws
    else put ws path Gone
