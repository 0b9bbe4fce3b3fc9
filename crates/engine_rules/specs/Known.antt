-- What is known of keys, paths and orders, by look-ups in lists.
use Rattle.std.specs.Prelude.{◌==◌, ◌||◌, ℕ, Bool, false, if◌then◌else◌, List, [], ◌∷◌, Option, Some, None}
use Rattle.file_info.specs.Content.{same_list}
use Rattle.file_info.specs.declared.info.Info.{Info}
use Rattle.build_keys.specs.declared.key.Key.{Key}
use Rattle.build_keys.specs.SameKey.{is_key}
use Rattle.outside.specs.declared.order.Order.{Order}
use Rattle.engine_rules.specs.declared.row.Row.{Row}
use Rattle.engine_rules.specs.declared.row.Settled.{Settled}
use Rattle.engine_rules.specs.declared.row.Stored.{Stored}
use Rattle.engine_rules.specs.declared.needs.Outcome.{Outcome}
use Rattle.engine_rules.specs.declared.known.PathInfo.{PathInfo}
use Rattle.engine_rules.specs.declared.known.Listing.{Listing}
use Rattle.engine_rules.specs.declared.known.AskedPath.{AskedPath}
use Rattle.engine_rules.specs.declared.known.Started.{Started}
use Rattle.engine_rules.specs.declared.known.Ended.{Ended}

-- the row that a key was settled with, in a list with the newest first
abbrev pub row_in : List Settled → Key → Option Row
row_in [] k = None
row_in (e ∷ es) k = if is_key e.key k then Some e.row else row_in es k

-- the row that a table has for a key
abbrev pub row_of : List Stored → Key → Option Row
row_of [] k = None
row_of (e ∷ es) k = if is_key e.key k then Some e.row else row_of es k

-- the file information that was given of a path
abbrev pub info_in : List PathInfo → List ℕ → Option Info
info_in [] p = None
info_in (s ∷ ss) p = if same_list s.path p then Some s.info else info_in ss p

-- the names that were given of a directory
abbrev pub names_in : List Listing → List ℕ → Option (List (List ℕ))
names_in [] p = None
names_in (s ∷ ss) p = if same_list s.path p then Some s.names else names_in ss p

-- whether the path was asked about
abbrev pub is_asked : List AskedPath → List ℕ → Bool
is_asked [] p = false
is_asked (a ∷ as') p = same_list a.path p || is_asked as' p

-- the order that was started for a key
abbrev pub order_in : List Started → Key → Option Order
order_in [] k = None
order_in (s ∷ ss) k = if is_key s.key k then Some s.order else order_in ss k

-- the order with a ticket
abbrev pub order_with : List Started → ℕ → Option Order
order_with [] n = None
order_with (s ∷ ss) n = if s.order.ticket == n then Some s.order else order_with ss n

-- how the order with a ticket ended
abbrev pub outcome_in : List Ended → ℕ → Option Outcome
outcome_in [] n = None
outcome_in (e ∷ es) n = if e.ticket == n then Some e.outcome else outcome_in es n
