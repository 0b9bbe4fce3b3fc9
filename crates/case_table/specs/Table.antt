-- What stands in a table of cases, and which code it gives for a group and a name.
use Rattle.std.specs.Prelude.{◌≡◌, ℕ, ◌==◌, ◌&&◌, not, if◌then◌else◌, Bool, true, false, List, [], ◌∷◌, ◌++◌, Option, Some, None, bytes_eq}
use Rattle.std.specs.Option.{is_some}
use Rattle.case_table.specs.declared.cases.Case.{Case}

-- whether a row has this group and this name
abbrev pub is_row_of : ℕ → List ℕ → Case → Bool
is_row_of group name row = row.group == group && bytes_eq row.name.now name

-- the code of the first row with the group and the name
abbrev pub code_of : List Case → ℕ → List ℕ → Option ℕ
code_of [] group name = None
code_of (row ∷ rows) group name = if is_row_of group name row then Some row.code else code_of rows group name

-- no row has the group and the name
abbrev pub HasNone : List Case → ℕ → List ℕ → Type 0
HasNone [] group name = Unit {0}
HasNone (row ∷ rows) group name = (is_row_of group name row ≡ false) × HasNone rows group name

-- the code is that of a row with the group and the name, and no row before it has both
pub record IsFirst (rows : List Case) (group : ℕ) (name : List ℕ) (code : ℕ) : Type 0 where
  pub before : List Case
  pub row : Case
  pub after : List Case
  pub whole : rows ≡ before ++ row ∷ after
  pub none_before : HasNone before group name
  pub group_is : row.group ≡ group
  pub name_is : row.name.now ≡ name
  pub code_is : row.code ≡ code

-- whether no two rows share group and name
abbrev pub are_distinct : List Case → Bool
are_distinct [] = true
are_distinct (row ∷ rows) = not (is_some (code_of rows row.group row.name.now)) && are_distinct rows

-- no row shares group and name with a later one
abbrev pub AreDistinct : List Case → Type 0
AreDistinct [] = Unit {0}
AreDistinct (row ∷ rows) = HasNone rows row.group row.name.now × AreDistinct rows

-- the row stands in the table
pub record StandsIn (rows : List Case) (row : Case) : Type 0 where
  pub before : List Case
  pub after : List Case
  pub whole : rows ≡ before ++ row ∷ after
