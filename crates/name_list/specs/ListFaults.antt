-- Why texts are not the names in a directory.
use Rattle.std.specs.Prelude.{ℕ, if◌then◌else◌, not, Bool, List, [], ◌∷◌, ◌++◌, length, bytes_eq, Option, Some, None}
use Rattle.std.specs.List.{list_any}
use Rattle.std.specs.Option.{option_or}
use Rattle.name_list.specs.EntryNames.{is_entry_name}
use Rattle.name_list.specs.declared.fault.ListError.{ListError}
use Rattle.name_list.specs.declared.fault.ListError.TheVariants.{Bad, Repeated}

-- whether the text is one of these
abbrev pub is_among : List (List ℕ) → List ℕ → Bool
is_among texts text = list_any (bytes_eq text) texts

-- what is wrong with a text that comes after these, whose place is their number: it cannot name an entry, or it is one of them
abbrev pub fault_after : List (List ℕ) → List ℕ → Option ListError
fault_after before text =
    if not (is_entry_name text) then Some (Bad (length before))
    else (if is_among before text then Some (Repeated (length before)) else None)

-- the first fault of the texts, which come after these
abbrev pub first_fault : List (List ℕ) → List (List ℕ) → Option ListError
first_fault before [] = None
first_fault before (text ∷ others) = option_or (fault_after before text) (first_fault (before ++ text ∷ []) others)
