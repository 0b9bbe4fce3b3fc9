-- The names in a directory.
use Rattle.std.specs.Prelude.{◌≡◌, ℕ, ◌==◌, ◌||◌, ◌&&◌, not, Bool, true, List, [], ◌∷◌, length, nat_le}
use Rattle.std.specs.List.{list_any}
use Rattle.std.specs.List.Sorted.{IsPermutation}
use Rattle.std.specs.Ordering.{nat_cmp, is_lt}
use Rattle.std.specs.Cmp.Lexicographic.{slice_cmp}
use Rattle.std.specs.Str.{is_utf8}
use Rattle.file_info.specs.Path.{is_skipped, is_up}

-- whether the byte is a slash or 0
abbrev pub ends_name : ℕ → Bool
ends_name byte = byte == 47 || byte == 0

-- whether a text in UTF-8 can name an entry: it has from 1 to 4,096 bytes, it is neither `.` nor `..`, and it holds neither a
-- slash nor a byte 0
abbrev pub is_plain_name : List ℕ → Bool
is_plain_name text = not (is_skipped text) && not (is_up text) && nat_le (length text) 4096 && not (list_any ends_name text)

-- whether a text can name an entry of a directory
abbrev pub is_entry_name : List ℕ → Bool
is_entry_name text = is_utf8 text && is_plain_name text

-- whether the text comes before the first of the others, if there is one, byte by byte
abbrev pub comes_first : List ℕ → List (List ℕ) → Bool
comes_first text [] = true
comes_first text (next ∷ others) = is_lt (slice_cmp nat_cmp text next)

-- whether each text can name an entry, and comes before the next one, so that none stands there twice
abbrev pub are_entry_names : List (List ℕ) → Bool
are_entry_names [] = true
are_entry_names (text ∷ others) = is_entry_name text && comes_first text others && are_entry_names others

-- the names are these texts, put in order
pub record IsInOrder (texts names : List (List ℕ)) : Type 0 where
  pub same : IsPermutation texts names
  pub in_order : are_entry_names names ≡ true
