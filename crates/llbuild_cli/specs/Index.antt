-- How entries come into an index over paths.
use Rattle.std.specs.Prelude.{◌≡◌, ℕ, List, ◌∷◌, map, slice_get, Option, Some, String, string_bytes, if◌then◌else◌, []}
use Rattle.std.specs.Str.{bytes_eq}
use Rattle.file_info.specs.Lists.{In}
use Rattle.file_info.specs.declared.info.Info.{Info}

-- the paths of the entries
abbrev pub keys_of : {A : Type 0} → List (String A × Info) → List (List ℕ)
keys_of entries = map (λ (e : String _ × Info). string_bytes e.0) entries

-- the file information of the entries
abbrev pub infos_of : {A : Type 0} → List (String A × Info) → List Info
infos_of entries = map (λ (e : String _ × Info). e.1) entries

-- the index has this file information of the path, and is otherwise as before
pub record Noted (path : List ℕ) (info : Info) (old new : List ℕ → Option Info) : Type 0 where
  pub here : new path ≡ Some info
  pub others : (q : List ℕ) → (q ≡ path → ⊥) → new q ≡ old q

-- the index has the file information of each entry at its path, and is otherwise as before
pub record AllNoted (paths : List (List ℕ)) (infos : List Info) (old new : List ℕ → Option Info) : Type 0 where
  pub here : (k : ℕ) (p : List ℕ) (i : Info) → slice_get paths k ≡ Some p → slice_get infos k ≡ Some i → new p ≡ Some i
  pub others : (q : List ℕ) → (In q paths → ⊥) → new q ≡ old q

-- the index with one entry more
abbrev pub with_entry : List ℕ → Info → (List ℕ → Option Info) → List ℕ → Option Info
with_entry key info look p = if bytes_eq p key then Some info else look p

-- the index with these entries; of several for one path it has the last
abbrev pub with_entries : {A : Type 0} → List (String A × Info) → (List ℕ → Option Info) → List ℕ → Option Info
with_entries [] look = look
with_entries (e ∷ more) look = with_entries more (with_entry (string_bytes e.0) e.1 look)
