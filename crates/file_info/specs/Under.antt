-- A path with one part more, and what stands below a path.
use Rattle.std.specs.Prelude.{◌≡◌, ◌≢◌, ℕ, Bool, false, List, [], ◌∷◌, ◌++◌, ◌==◌, ◌&&◌, All, if◌then◌else◌}
use Rattle.file_info.specs.Path.{is_absolute}

-- what stands in front of the last part of a path that is directly in this one: nothing for `.`, a slash for `/`, and
-- otherwise the path and a slash
abbrev pub front_of : List ℕ → List ℕ
front_of [] = []
front_of (a ∷ []) = if a == 46 then [] else (if a == 47 then 47 ∷ [] else a ∷ 47 ∷ [])
front_of (a ∷ b ∷ bytes) = (a ∷ b ∷ bytes) ++ 47 ∷ []

-- the path with one part more
abbrev pub joined_with : List ℕ → List ℕ → List ℕ
joined_with path name = front_of path ++ name

-- the first of the parts is `..`
abbrev pub leads_up : List ℕ → Bool
leads_up [] = false
leads_up (a ∷ []) = false
leads_up (a ∷ b ∷ []) = a == 46 && b == 46
leads_up (a ∷ b ∷ c ∷ bytes) = a == 46 && (b == 46 && c == 47)

-- one part or more, of which the first is not empty, not `.` alone and not `..`
pub record GoesDown (rest : List ℕ) : Type 0 where
  pub not_empty : rest ≢ []
  pub not_dot : rest ≢ 46 ∷ []
  pub not_rooted : is_absolute rest ≡ false
  pub not_up : leads_up rest ≡ false

-- the path is the root and then this rest, which goes down; both are absolute, or neither is
pub record IsBelow (path root rest : List ℕ) : Type 0 where
  pub begins : path ≡ front_of root ++ rest
  pub same_start : is_absolute path ≡ is_absolute root
  pub down : GoesDown rest

-- the parts of the path begin with those of the root and are more, and the next one is not `..`; both are absolute, or
-- neither is
abbrev pub IsUnder : List ℕ → List ℕ → Type 0
IsUnder path root = (rest : List ℕ) × IsBelow path root rest

-- the path is under the root with one part more
abbrev pub IsDirectlyIn : List ℕ → List ℕ → Type 0
IsDirectlyIn path root = (rest : List ℕ) × (IsBelow path root rest × All (λ b. b ≢ 47) rest)
