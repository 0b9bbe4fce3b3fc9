-- What an order for a toy command does to files in memory.
use Rattle.std.specs.Prelude.{◌≡◌, ◌⊎◌, ◌||◌, ◌&&◌, ℕ, suc, Bool, true, false, not, if◌then◌else◌, List, [], ◌∷◌, ◌++◌, map}
use Rattle.std.specs.List.{list_any}
use Rattle.file_info.specs.Content.{Content, ReadContent, Void, One, Entries, Shape, same_list, node_text}
use Rattle.file_info.specs.Lists.{In}
use Rattle.file_info.specs.declared.info.Info.{Info}
use Rattle.file_info.specs.declared.info.Info.TheVariants as infos
use Rattle.file_info.specs.declared.info.Form.{Form}
use Rattle.file_info.specs.declared.info.Form.TheVariants.{Link}
use Rattle.file_info.specs.declared.node.NodeName.{NodeName}
use Rattle.file_info.specs.declared.node.TreeEntry.{TreeEntry}
use Rattle.file_info.specs.declared.node.ShapeEntry.{ShapeEntry}
use Rattle.file_info.specs.declared.node.Reading.{Reading}
use Rattle.file_info.specs.declared.node.Reading.TheVariants as readings
use Rattle.file_info.specs.declared.node.Read.{Read}
use Rattle.outside.specs.declared.order.Order.{Order}
use Rattle.outside.specs.declared.order.Act.{Act}
use Rattle.outside.specs.declared.order.Act.TheVariants.{Spawn, MakeDir, MakeLink}
use Rattle.outside.specs.declared.order.Exit.{Exit}
use Rattle.outside.specs.declared.order.Exit.TheVariants.{Code}
use Rattle.memory_files.specs.declared.write.Write.{Write}
use Rattle.memory_files.specs.declared.write.What.{What}
use Rattle.memory_files.specs.declared.write.What.TheVariants.{Dir, Bytes, LinkText}
use Rattle.outside.specs.Outcome.{form_of}
use Rattle.memory_files.specs.Log.{put, last_of, info_of, info_at, is_directory, standing}
use Rattle.memory_world.specs.Toy.{message_of, digest_of, reading_fails}

-- what stands at an entry of a tree, asked for as the order asks. Contents are given by path and form
abbrev pub entry_at : (List ℕ → Form → Content) → List (List ℕ) → TreeEntry → List ℕ × Content
entry_at held links e = (e.path, held e.path (form_of links e.path e.info))

-- the contents where this was read of the path
abbrev pub reading_at : (List ℕ → Form → Content) → List (List ℕ) → List ℕ → Reading → ReadContent
reading_at held links path readings.Nothing = Void
reading_at held links path (readings.File info) = One (held path (form_of links path info))
reading_at held links path (readings.Tree entries) = Entries (map (entry_at held links) entries)
reading_at held links path (readings.Structure entries) = Shape entries

-- the node of a reading, with the contents that stand there
abbrev pub read_at : (List ℕ → Form → Content) → List (List ℕ) → Read → NodeName × ReadContent
read_at held links r = (r.node, reading_at held links (node_text r.node) r.reading)

-- the reads of an order, as they stand
abbrev pub reads_at : List Write → Order → List (NodeName × ReadContent)
reads_at ws order = map (read_at (standing ws) order.links) order.reads

-- whether the other path was read, where this was read of the path
abbrev pub is_read : List ℕ → Reading → List ℕ → Bool
is_read path readings.Nothing other = false
is_read path (readings.File info) other = same_list path other
is_read path (readings.Tree entries) other = same_list path other || list_any (λ (e : TreeEntry). same_list e.path other) entries
is_read path (readings.Structure entries) other = same_list path other || list_any (λ (e : ShapeEntry). same_list e.path other) entries

-- whether the file information is that of a file or a link
abbrev pub is_file_or_link : Info → Bool
is_file_or_link infos.Missing = false
is_file_or_link infos.Directory = false
is_file_or_link (infos.File size stamp) = true
is_file_or_link (infos.Link text) = true

-- whether no program may write the path: it is a directory, or was read
abbrev pub is_kept : (List ℕ → Form → Info) → List Read → List ℕ → Bool
is_kept at reads path = is_directory (at path Link) || list_any (λ (r : Read). is_read (node_text r.node) r.reading path) reads

-- whether the path cannot be an output of the act. A directory is made where no file or link stands, and a link where no directory
-- does
abbrev pub is_blocked : (List ℕ → Form → Info) → List Read → Act → List ℕ → Bool
is_blocked at reads (Spawn words env inherit clear) path = is_kept at reads path
is_blocked at reads MakeDir path = is_file_or_link (at path Link)
is_blocked at reads (MakeLink text) path = is_directory (at path Link)

-- whether a file that was read has a line `fail`
abbrev pub has_failing : (List ℕ → Form → Content) → Order → Bool
has_failing held order = list_any (λ (r : Read). reading_fails (reading_at held order.links (node_text r.node) r.reading)) order.reads

-- whether the act is a program, and what it read fails it
abbrev pub fails_on : Act → Bool → Bool
fails_on (Spawn words env inherit clear) failing = failing
fails_on MakeDir failing = false
fails_on (MakeLink text) failing = false

-- whether the order is one without dependency files
abbrev pub is_served : Order → Bool
is_served order = is_none order.deps
  where
    is_none : List (List ℕ) → Bool
    is_none [] = true
    is_none (dep ∷ deps) = false

-- whether the order succeeds where this is the file information and these are the contents
abbrev pub succeeds_by : (List ℕ → Form → Info) → (List ℕ → Form → Content) → Order → Bool
succeeds_by at held order =
    is_served order && not (list_any (is_blocked at order.reads order.act) order.outputs) && not (fails_on order.act (has_failing held order))

-- the exit of the order where this is the file information and these are the contents
abbrev pub exit_by : (List ℕ → Form → Info) → (List ℕ → Form → Content) → Order → Exit
exit_by at held order = if succeeds_by at held order then Code 0 else Code 1

-- whether the order succeeds on these files
abbrev pub succeeds : List Write → Order → Bool
succeeds ws order = succeeds_by (info_at ws) (standing ws) order

-- what is hashed for an order, up to the output's place. Nothing is where no program is run
abbrev pub hashed : List Write → Order → List ℕ
hashed ws order = hashed_for order.act
  where
    hashed_for : Act → List ℕ
    hashed_for (Spawn words env inherit clear) = message_of order.signature (reads_at ws order) []
    hashed_for MakeDir = []
    hashed_for (MakeLink text) = []

-- what an act leaves at the output of this place, where this is hashed
abbrev pub made_by : Act → List ℕ → ℕ → What
made_by (Spawn words env inherit clear) message place = Bytes (digest_of message place)
made_by MakeDir message place = Dir
made_by (MakeLink text) message place = LinkText text

-- the outputs, from this place on, hold what is made for their places
abbrev pub put_outputs : List Write → (ℕ → What) → ℕ → List (List ℕ) → List Write
put_outputs ws made place [] = ws
put_outputs ws made place (path ∷ paths) = put_outputs (put ws path (made place)) made (suc place) paths

-- the files after the order: each output holds what is made where the order succeeds, and otherwise nothing changed
abbrev pub performed : List Write → Order → List Write
performed ws order = if succeeds ws order then put_outputs ws (made_by order.act (hashed ws order)) 0 order.outputs else ws

-- the exit of the order on these files
abbrev pub exit_of : List Write → Order → Exit
exit_of ws order = exit_by (info_at ws) (standing ws) order

-- the log went on at these paths alone, and what was a directory was made one again at most
pub record WentOn (paths : List (List ℕ)) (old new : List Write) : Type 0 where
  pub more : List Write
  pub is : new ≡ old ++ more
  pub at : (w : Write) → In w more → In w.path paths
  pub spared : (w : Write) → In w more → (is_directory (info_of (last_of old w.path) Link) ≡ false) ⊎ (w.what ≡ Dir)
