-- Files as the list of all writes: a path holds what the last one left there.
use Rattle.std.specs.Prelude.{◌≡◌, ◌+◌, ◌&&◌, ℕ, suc, Bool, true, false, cond, eqb, IsTrue}
use Rattle.std.specs.Prelude.{List, [], ◌∷◌, ◌++◌, length, Option, Some, None, slice_get}
use Rattle.std.proofs.Common.{subst}
use Rattle.file_info.specs.Content.{Content, FileVersion, text_at, same_list, Absent, Folder, LinkTo, Text}
use Rattle.file_info.specs.Lists.{In}
use Rattle.file_info.specs.declared.info.Info.{Info}
use Rattle.file_info.specs.declared.info.Info.TheVariants.{Missing, Directory, File, Link}
use Rattle.file_info.specs.declared.info.Form.{Form}
use Rattle.file_info.specs.declared.info.Form.TheVariants.{Follow, Link as AsLink}
use Rattle.memory_files.specs.declared.write.What.{What}
use Rattle.memory_files.specs.declared.write.What.TheVariants.{Gone, Dir, Bytes, LinkText}
use Rattle.memory_files.specs.declared.write.Write.{Write}

-- the log with one write more, which has the next number
abbrev pub put : List Write → List ℕ → What → List Write
put ws p x = ws ++ record { path = p; number = length ws + 1; what = x } ∷ []

-- the later one, if there is one
abbrev pub later : Option Write → Option Write → Option Write
later (Some v) o = Some v
later None o = o

-- the last write at the path
unfoldable pub last_of : List Write → List ℕ → Option Write
last_of [] p = None
last_of (w ∷ ws) p = later (last_of ws p) (cond (same_list w.path p) (Some w) None)

-- the file information that a write gives, by its number and what it left
abbrev pub what_info : ℕ → What → Form → Info
what_info n Gone f = Missing
what_info n Dir f = Directory
what_info n (Bytes b) f = File (length b) (n ∷ 0 ∷ 0 ∷ 0 ∷ [])
what_info n (LinkText t) Follow = Missing
what_info n (LinkText t) AsLink = Link t

-- the file information of a path where this was the last write
abbrev pub info_of : Option Write → Form → Info
info_of None f = Missing
info_of (Some w) f = what_info w.number w.what f

-- the file information of a path, as a disk tells it. A link that is followed leads nowhere
abbrev pub info_at : List Write → List ℕ → Form → Info
info_at ws p f = info_of (last_of ws p) f

-- whether the file information is that of a directory
abbrev pub is_directory : Info → Bool
is_directory Missing = false
is_directory Directory = true
is_directory (File size stamp) = false
is_directory (Link text) = false

-- the content that a write leaves
abbrev pub what_content : What → Form → Content
what_content Gone f = Absent
what_content Dir f = Folder
what_content (Bytes b) f = Text b
what_content (LinkText t) Follow = Absent
what_content (LinkText t) AsLink = LinkTo t

-- the content of a path where this was the last write
abbrev pub content_of : Option Write → Form → Content
content_of None f = Absent
content_of (Some w) f = what_content w.what f

-- the content of a path. A link that is followed leads nowhere
abbrev pub standing : List Write → List ℕ → Form → Content
standing ws p f = content_of (last_of ws p) f

-- the map gives the bytes of this write
abbrev pub AgreesAt : List FileVersion → List ℕ → ℕ → What → Type 0
AgreesAt m p n Gone = Unit {0}
AgreesAt m p n Dir = Unit {0}
AgreesAt m p n (Bytes b) = text_at m p (File (length b) (n ∷ 0 ∷ 0 ∷ 0 ∷ [])) ≡ b
AgreesAt m p n (LinkText t) = Unit {0}

-- the entries with one more, where the write has bytes
abbrev pub with_known : List ℕ → ℕ → What → List FileVersion → List FileVersion
with_known p n Gone known = known
with_known p n Dir known = known
with_known p n (Bytes b) known = record { path = p; info = File (length b) (n ∷ 0 ∷ 0 ∷ 0 ∷ []); text = b } ∷ known
with_known p n (LinkText t) known = known

-- the bytes of every write of a file, each at the file information that the write gives
abbrev pub known_of : List Write → List FileVersion
known_of [] = []
known_of (w ∷ ws) = with_known w.path w.number w.what (known_of ws)

-- the map gives the bytes of every write
abbrev pub Tells : List Write → List FileVersion → Type 0
Tells ws m = (k : FileVersion) → In k (known_of ws) → text_at m k.path k.info ≡ k.text

-- whether the writes have the numbers from this one on, in their order
abbrev pub numbered_from : ℕ → List Write → Bool
numbered_from n [] = true
numbered_from n (w ∷ ws) = eqb w.number n && numbered_from (suc n) ws

-- the bytes of a write, which are none where it left no file
abbrev pub text_of : What → List ℕ
text_of Gone = []
text_of Dir = []
text_of (Bytes text) = text
text_of (LinkText text) = []

-- the map that is made of the writes: each gives its bytes at its own file information. Where the writes are numbered it
-- tells them all: the law `numbered_writes_tell`
abbrev pub map_of : List Write → List FileVersion
map_of [] = []
map_of (w ∷ ws) = record { path = w.path; info = File (length (text_of w.what)) (w.number ∷ 0 ∷ 0 ∷ 0 ∷ []); text = text_of w.what } ∷ map_of ws

-- all writes, and how many more can be added without memory
pub record Stored : Type 0 where
  pub writes : List Write
  pub room : ℕ

-- the place is that of the last write at the path
abbrev pub IsPlaceOf : List Write → List ℕ → Option ℕ → Type 0
IsPlaceOf ws p None = last_of ws p ≡ None
IsPlaceOf ws p (Some k) = (w : Write) × (slice_get ws k ≡ Some w) × (last_of ws p ≡ Some w)

-- the writes have the numbers from 1 on, and the look-up gives the place of the last write at each path
pub record IsIndexed (ws : List Write) (place_at : List ℕ → Option ℕ) : Type 0 where
  pub numbered : IsTrue (numbered_from 1 ws)
  pub placed : (p : List ℕ) → IsPlaceOf ws p (place_at p)

-- the file information is not that of a link
abbrev pub IsNoLink : Info → Type 0
IsNoLink Missing = Unit {0}
IsNoLink Directory = Unit {0}
IsNoLink (File size stamp) = Unit {0}
IsNoLink (Link text) = ⊥

followed-what : (n : ℕ) (x : What) → IsNoLink (what_info n x Follow)
followed-what n Gone = tt
followed-what n Dir = tt
followed-what n (Bytes b) = tt
followed-what n (LinkText t) = tt

followed : (o : Option Write) → IsNoLink (info_of o Follow)
followed None = tt
followed (Some w) = followed-what w.number w.what

-- a path that is followed is no link
pub no_link : (ws : List Write) (p t : List ℕ) → info_of (last_of ws p) Follow ≡ Link t → ⊥
no_link ws p t e = subst IsNoLink e (followed (last_of ws p))
