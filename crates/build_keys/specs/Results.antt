-- What a function that reads returned.
use Rattle.std.specs.Prelude.{◌≡◌, Option, Some, None, Result, Ok, Err}
use Rattle.build_keys.specs.declared.unread.Unread.{Unread}
use Rattle.build_keys.specs.declared.unread.Unread.TheVariants as unread

-- the error is want of memory, or there is nothing to be read
abbrev pub Refuses : {B : Type 0} → Unread → Option B → Type 0
Refuses unread.NoMemory expected = Unit {0}
Refuses unread.NoSpelling expected = expected ≡ None

-- what was returned, seen by the view, is what is expected, unless memory ran out
abbrev pub Gives : {A B : Type 0} → (A → B) → Result A Unread → Option B → Type 0
Gives view (Ok found) expected = expected ≡ Some (view found)
Gives view (Err error) expected = Refuses error expected
