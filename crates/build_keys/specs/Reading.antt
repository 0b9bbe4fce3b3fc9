-- Reading from the front of bytes: a thing whose spelling comes first, and the bytes that follow it.
use Rattle.std.specs.Prelude.{◌≡◌, ℕ, zero, suc, ◌^◌, ◌&&◌, Bool, true, false, List, [], ◌∷◌, ◌++◌, length, take, drop, nat_lt, nat_le, Option}
use Rattle.std.specs.Prelude.{Some, None, bytes_eq}
use Rattle.std.specs.Int.{w32, from_be_bytes}
use Rattle.spelling.specs.Spelling.{count_bytes}

-- what reads such a thing: the thing and what follows, or None
abbrev pub Reader : Type 0 → Type 0
Reader A = List ℕ → Option (A × List ℕ)

-- the bytes are the spelling of the thing and then the rest, and the thing has a spelling
pub record IsRead {A : Type 0} (spelled : A → List ℕ) (is : A → Type 0) (bytes : List ℕ) (thing : A) (rest : List ℕ) : Type 0 where
  pub whole : bytes ≡ spelled thing ++ rest
  pub has_one : is thing

-- the reader reads the spellings and nothing else: a thing that is spelled is read again, whatever follows, and what is
-- read was spelled
pub record Reads {A : Type 0} (spelled : A → List ℕ) (is : A → Type 0) (read : Reader A) : Type 0 where
  pub back : (thing : A) (rest : List ℕ) → is thing → read (spelled thing ++ rest) ≡ Some (thing, rest)
  pub only : (bytes : List ℕ) (thing : A) (rest : List ℕ) → read bytes ≡ Some (thing, rest) → IsRead spelled is bytes thing rest

-- what is read next, where something was read
infixl 10 ◌>>=◌
abbrev pub ◌>>=◌ : {A B : Type 0} → Option A → (A → Option B) → Option B
None >>= next = None
(Some found) >>= next = next found

-- what was found, where the test holds
abbrev pub when : {A : Type 0} → Bool → A → Option A
when true found = Some found
when false found = None

-- whether four bytes are the spelling of this count
abbrev pub is_count : ℕ → List ℕ → Bool
is_count n four = nat_lt n (2 ^ 32) && bytes_eq (count_bytes n) four

-- the count that four bytes spell
abbrev pub count_in : List ℕ → List ℕ → Option (ℕ × List ℕ)
count_in four rest = when (is_count (from_be_bytes w32 four) four) (from_be_bytes w32 four, rest)

-- a count in four bytes
unfoldable pub count_at : Reader ℕ
count_at [] = None
count_at (a ∷ []) = None
count_at (a ∷ b ∷ []) = None
count_at (a ∷ b ∷ c ∷ []) = None
count_at (a ∷ b ∷ c ∷ d ∷ rest) = count_in (a ∷ b ∷ c ∷ d ∷ []) rest

-- a text after the count of its bytes
unfoldable pub text_at : Reader (List ℕ)
text_at bytes = do
  n ← count_at bytes
  when (nat_le n.0 (length n.1)) (take n.0 n.1, drop n.0 n.1)

-- a text that passes the test
unfoldable pub passing_at : (List ℕ → Bool) → Reader (List ℕ)
passing_at test bytes = do
  text ← text_at bytes
  when (test text.0) (text.0, text.1)

-- so many items after those that were found
abbrev pub items_from : {A : Type 0} → Reader A → ℕ → List A → Reader (List A)
items_from read zero found bytes = Some (found, bytes)
items_from read (suc n) found bytes = do
  item ← read bytes
  items_from read n (found ++ item.0 ∷ []) item.1

-- items after their count
unfoldable pub list_at : {A : Type 0} → Reader A → Reader (List A)
list_at read bytes = do
  n ← count_at bytes
  items_from read n.0 [] n.1

-- a thing of one part
abbrev pub one_in : {A B : Type 0} → (A → B) → Reader A → Reader B
one_in made read bytes = do
  part ← read bytes
  Some (made part.0, part.1)

-- a thing of two parts, one after the other
abbrev pub two_in : {A B C : Type 0} → (A → B → C) → Reader A → Reader B → Reader C
two_in made first second bytes = do
  part ← first bytes
  other ← second part.1
  Some (made part.0 other.0, other.1)
