-- Rings of keys that wait for each other.
use Rattle.std.specs.Prelude.{◌≡◌, ◌⊎◌, ℕ, ◌+◌, ◌<◌, ◌≤◌, true, if◌then◌else◌, List, [], ◌∷◌, length, map, Option, Some, None, slice_get, slice_index_or}
use Rattle.std.specs.Option.{option_and_then}
use Rattle.std.specs.Ordering.{is_le}
use Rattle.build_keys.specs.declared.key.Key.{Key}
use Rattle.build_keys.specs.KeyOrder.{key_cmp}
use Rattle.build_keys.specs.Keys.{Each}
use Rattle.build_keys.specs.SameKey.{is_key}
use Rattle.dependency_scan.specs.declared.waits.Wait.{Wait}

-- the keys that wait, in order
abbrev pub waiting : List Wait → List Key
waiting ws = map (λ (w : Wait). w.key) ws

-- the key that a waiting key waits for first
abbrev pub next_in : List Wait → Key → Option Key
next_in [] k = None
next_in (w ∷ ws) k = if is_key w.key k then slice_get w.waits_for 0 else next_in ws k

-- the first that the key at a place waits for
abbrev pub next_at : List Wait → ℕ → Option Key
next_at ws place = option_and_then (λ (w : Wait). slice_get w.waits_for 0) (slice_get ws place)

-- the places of the waits tell what each key waits for first
abbrev pub TellNexts : List Wait → (Key → Option ℕ) → Type 0
TellNexts ws place_of = (k : Key) → option_and_then (next_at ws) (place_of k) ≡ next_in ws k

-- a key waits for the other first
abbrev pub Leads : List Wait → Key → Key → Type 0
Leads ws a b = next_in ws a ≡ Some b

-- a walk of any number of steps
pub data Reaches (ws : List Wait) (from : Key) : Key → Type 0 where
  here : Reaches ws from from
  further : {b c : Key} → Reaches ws from b → Leads ws b c → Reaches ws from c

-- how often a key stands in a list
abbrev pub count_key : Key → List Key → ℕ
count_key k [] = 0
count_key k (x ∷ xs) = (if is_key k x then 1 else 0) + count_key k xs

-- no key stands there twice
abbrev pub AreDistinct : List Key → Type 0
AreDistinct ks = (k : Key) → count_key k ks ≤ 1

-- the first of keys, or this one where there is none
abbrev pub head_or : Key → List Key → Key
head_or z [] = z
head_or z (x ∷ xs) = x

-- each leads to the next, and the last to z
abbrev pub IsPathTo : List Wait → List Key → Key → Type 0
IsPathTo ws [] z = Unit {0}
IsPathTo ws (x ∷ xs) z = Leads ws x (head_or z xs) × IsPathTo ws xs z

-- not empty, each leads to the next and the last to the first, and none stands there twice
pub record IsRing (ws : List Wait) (ring : List Key) : Type 0 where
  pub first : Key
  pub rest : List Key
  pub is : ring ≡ first ∷ rest
  pub leads : IsPathTo ws ring first
  pub distinct : AreDistinct ring

-- a key does not come after another in the order of keys
abbrev pub IsUpTo : Key → Key → Type 0
IsUpTo a b = is_le (key_cmp a b) ≡ true

-- a waiting key, and none comes before it
pub record IsLeast (ws : List Wait) (k : Key) : Type 0 where
  pub waits : count_key k (waiting ws) ≡ 0 → ⊥
  pub least : Each (IsUpTo k) (waiting ws)

-- the ring that the walk from the least waiting key reaches, from its least key on
pub record IsRingOf (ws : List Wait) (ring : List Key) : Type 0 where
  pub is_ring : IsRing ws ring
  pub least : (d : Key) → Each (IsUpTo (head_or d ring)) ring
  pub start : Key
  pub start_is : IsLeast ws start
  pub reached : Each (Reaches ws start) ring

-- the walk from a key ends
pub record Ends (ws : List Wait) (from : Key) : Type 0 where
  pub last : Key
  pub reached : Reaches ws from last
  pub ends : next_in ws last ≡ None

-- the walk from the least waiting key ends
pub record EndsFirst (ws : List Wait) : Type 0 where
  pub start : Key
  pub start_is : IsLeast ws start
  pub walk : Ends ws start

-- what stands for the waits: no ring exactly where nothing waits or the walk from the least key ends, and else the ring
abbrev pub IsRingAnswer : List Wait → Option (List Key) → Type 0
IsRingAnswer ws None = (ws ≡ []) ⊎ EndsFirst ws
IsRingAnswer ws (Some ring) = IsRingOf ws ring

-- the ring that the walk from a key reaches
pub record IsRingFrom (ws : List Wait) (from : Key) (ring : List Key) : Type 0 where
  pub is_ring : IsRing ws ring
  pub reached : Each (Reaches ws from) ring

-- where the walk from a key comes to
abbrev pub IsWalked : List Wait → Key → Option (List Key) → Type 0
IsWalked ws from None = Ends ws from
IsWalked ws from (Some ring) = IsRingFrom ws from ring

-- no key below the end comes before the one at this place
pub record IsLeastPlace (keys : List Key) (end : ℕ) (best : ℕ) : Type 0 where
  pub within : best < length keys
  pub least : (place : ℕ) (d : Key) → place < end → IsUpTo (slice_index_or keys best d) (slice_index_or keys place d)
