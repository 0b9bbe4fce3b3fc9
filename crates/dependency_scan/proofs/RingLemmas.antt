-- Walks from key to key, and rings.
use Rattle.std.proofs.Common.{◌≡◌, ℕ, zero, suc, ◌+◌, ◌<◌, ◌≤◌, List, [], ◌∷◌, ◌++◌, length, get_or, take, drop, Option, Some, None, Bool, true, false}
use Rattle.std.proofs.Common.{if◌then◌else◌, refl, ap, sym, ◌∙◌, subst, arith}
use Rattle.std.specs.Prelude.{◌||◌, not, slice_get, cond}
use Rattle.indexmap.specs.IndexSet.{insert_key}
use Rattle.std.specs.List.{list_any}
use Rattle.std.specs.Option.{option_and_then}
use Rattle.std.proofs.lemmas.List.{take_more, get_or_default}
use Rattle.file_info.proofs.Lists.{get-read}
use Rattle.build_keys.specs.declared.key.Key.{Key}
use Rattle.build_keys.specs.Keys.{Each, HasPatterns}
use Rattle.build_keys.specs.SameKey.{is_key}
use Rattle.build_keys.specs.SameKeyLemmas.{key-true, key-refl}
use Rattle.dependency_scan.proofs.ListLemmas.{drop-get, drop-step}
use Rattle.dependency_scan.specs.declared.waits.Wait.{Wait}
use Rattle.dependency_scan.specs.Ring.{next_in, waiting, head_or, IsPathTo, IsRing, IsRingFrom, IsRingOf, IsLeast, IsLeastPlace, IsUpTo}
use Rattle.dependency_scan.specs.Ring.{Leads, Reaches, count_key, AreDistinct, Ends, EndsFirst, IsWalked, next_at}

pub count-append : (k : Key) (xs ys : List Key) → count_key k (xs ++ ys) ≡ count_key k xs + count_key k ys
count-append k [] ys = omega arith
count-append k (x ∷ xs) ys = let h = count-append k xs ys in omega arith

-- counts
abbrev pub one_if : Bool → ℕ
one_if b = if b then 1 else 0

pub count-split : (k : Key) (n : ℕ) (xs : List Key) → count_key k xs ≡ count_key k (take n xs) + count_key k (drop n xs)
count-split k zero xs = omega arith
count-split k (suc n) [] = refl
count-split k (suc n) (x ∷ xs) = let h = count-split k n xs in omega arith

pub distinct-push : (xs : List Key) (k : Key) → AreDistinct xs → count_key k xs ≡ 0 → AreDistinct (xs ++ k ∷ [])
distinct-push xs k h n j = go (is_key j k) refl
  where
    go : (b : Bool) → is_key j k ≡ b → count_key j (xs ++ k ∷ []) ≤ 1
    go true e =
        let same : k ≡ j = sym (key-true j k e) in
        let n' : count_key j xs ≡ 0 = subst (λ (z : Key). count_key z xs ≡ 0) same n in
        let c : count_key j (xs ++ k ∷ []) ≡ count_key j xs + (one_if (is_key j k) + 0) = count-append j xs (k ∷ []) in
        let o : one_if (is_key j k) ≡ 1 = ap one_if e in
        omega arith
    go false e =
        let c : count_key j (xs ++ k ∷ []) ≡ count_key j xs + (one_if (is_key j k) + 0) = count-append j xs (k ∷ []) in
        let o : one_if (is_key j k) ≡ 0 = ap one_if e in
        let l = h j in
        omega arith

pub distinct-drop : (n : ℕ) (xs : List Key) → AreDistinct xs → AreDistinct (drop n xs)
distinct-drop n xs h k = let l = h k in let s = count-split k n xs in omega arith

pub distinct-turned : (n : ℕ) (xs : List Key) → AreDistinct xs → AreDistinct (drop n xs ++ take n xs)
distinct-turned n xs h k = let l = h k in let s = count-split k n xs in let c = count-append k (drop n xs) (take n xs) in omega arith

-- each
pub each-append : (P : Key → Type 0) (xs ys : List Key) → Each P xs → Each P ys → Each P (xs ++ ys)
each-append P [] ys a b = b
each-append P (x ∷ xs) ys a b = (a.0, each-append P xs ys a.1 b)

pub each-drop : (P : Key → Type 0) (n : ℕ) (xs : List Key) → Each P xs → Each P (drop n xs)
each-drop P zero xs h = h
each-drop P (suc n) [] h = tt
each-drop P (suc n) (x ∷ xs) h = each-drop P n xs h.1

pub each-take : (P : Key → Type 0) (n : ℕ) (xs : List Key) → Each P xs → Each P (take n xs)
each-take P zero xs h = tt
each-take P (suc n) [] h = tt
each-take P (suc n) (x ∷ xs) h = (h.0, each-take P n xs h.1)

pub each-index : (P : Key → Type 0) (xs : List Key) → ((j : ℕ) (d : Key) → j < length xs → P (get_or xs j d)) → Each P xs
each-index P [] h = tt
each-index P (x ∷ xs) h = (h 0 x (omega arith), each-index P xs (λ j d l. h (suc j) d (omega (arith, l))))

stands : (xs : List Key) (i : ℕ) (d : Key) → i < length xs → count_key (get_or xs i d) xs ≡ 0 → ⊥
stands [] i d l e = omega (arith, l)
stands (x ∷ xs) zero d l e =
    let o : one_if (is_key x x) ≡ 1 = ap one_if (key-refl x) in
    omega (arith, o, e)
stands (x ∷ xs) (suc i) d l e = stands xs i d (omega (arith, l)) (omega (arith, e))

-- paths
pub path-push : (ws : List Wait) (xs : List Key) (c d : Key) → IsPathTo ws xs c → Leads ws c d → IsPathTo ws (xs ++ c ∷ []) d
path-push ws [] c d h e = (e, tt)
path-push ws (x ∷ []) c d h e = (h.0, (e, tt))
path-push ws (x ∷ (y ∷ xs)) c d h e = (h.0, path-push ws (y ∷ xs) c d h.1 e)

pub path-drop : (ws : List Wait) (n : ℕ) (xs : List Key) (z : Key) → IsPathTo ws xs z → IsPathTo ws (drop n xs) z
path-drop ws zero xs z h = h
path-drop ws (suc n) [] z h = tt
path-drop ws (suc n) (x ∷ xs) z h = path-drop ws n xs z h.1

pub path-append : (ws : List Wait) (xs ys : List Key) (z : Key) → IsPathTo ws xs (head_or z ys) → IsPathTo ws ys z → IsPathTo ws (xs ++ ys) z
path-append ws [] ys z a b = b
path-append ws (x ∷ []) ys z a b = (a.0, b)
path-append ws (x ∷ (y ∷ xs)) ys z a b = (a.0, path-append ws (y ∷ xs) ys z a.1 b)

pub path-take : (ws : List Wait) (n : ℕ) (xs : List Key) (z : Key) → IsPathTo ws xs z → IsPathTo ws (take n xs) (head_or z (drop n xs))
path-take ws zero xs z h = tt
path-take ws (suc n) [] z h = tt
path-take ws (suc zero) (x ∷ xs) z h = (h.0, tt)
path-take ws (suc (suc n)) (x ∷ []) z h = (h.0, tt)
path-take ws (suc (suc n)) (x ∷ (y ∷ xs)) z h = (h.0, path-take ws (suc n) (y ∷ xs) z h.1)

-- the ring at the end of a walk
pub ring-from : (ws : List Wait) (from key : Key) (path ring : List Key) (place : ℕ) → IsPathTo ws path key → AreDistinct path
    → Each (Reaches ws from) path → slice_get path place ≡ Some key → ring ≡ drop place path → IsRingFrom ws from ring
ring-from ws from key path ring place h d r at is = record {
  is_ring = record {
    first = key;
    rest = drop (place + 1) path;
    is = is ∙ drop-get path place key at;
    leads = subst (λ (z : List Key). IsPathTo ws z key) (sym is) (path-drop ws place path key h);
    distinct = subst AreDistinct (sym is) (distinct-drop place path d);
  };
  reached = subst (Each (Reaches ws from)) (sym is) (each-drop (Reaches ws from) place path r);
}

pub turn-path : (ws : List Wait) (first : Key) (rest : List Key) (n : ℕ) (z : Key) (more : List Key) → drop n (first ∷ rest) ≡ z ∷ more → IsPathTo ws (first ∷ rest) first → IsPathTo ws (drop n (first ∷ rest) ++ take n (first ∷ rest)) z
turn-path ws first rest zero z more e h =
    let same : first ≡ z = cc e in
    let P : List Key → Type 0 = λ w. IsPathTo ws w z in
    subst P (no_more (first ∷ rest)) (subst (λ (w : Key). IsPathTo ws (first ∷ rest) w) same h)
  where
    no_more : (xs : List Key) → xs ≡ xs ++ []
    no_more [] = refl
    no_more (x ∷ xs) = ap (λ w. x ∷ w) (no_more xs)
turn-path ws first rest (suc n) z more e h =
    path-append ws (drop (suc n) (first ∷ rest)) (take (suc n) (first ∷ rest)) z
    (path-drop ws (suc n) (first ∷ rest) first h)
    (subst (λ (w : Key). IsPathTo ws (take (suc n) (first ∷ rest)) w) (ap (head_or first) e) (path-take ws (suc n) (first ∷ rest) first h))

pub turned-is : (ws : List Wait) (ring : List Key) (n : ℕ) (d : Key) → IsRing ws ring → n < length ring → IsRing ws (drop n ring ++ take n ring)
turned-is ws ring n d r l = record {
  first = get_or ring n d;
  rest = drop (n + 1) ring ++ take n ring;
  is = ap (λ w. w ++ take n ring) split;
  leads = leads;
  distinct = distinct-turned n ring r.distinct;
}
  where
    split : drop n ring ≡ get_or ring n d ∷ drop (n + 1) ring
    split = drop-step ring n (get_or ring n d) l (get_or_default ring n d (get_or ring n d) l)

    leads : IsPathTo ws (drop n ring ++ take n ring) (get_or ring n d)
    leads =
        let split' : drop n (r.first ∷ r.rest) ≡ get_or ring n d ∷ drop (n + 1) ring = ap (drop n) (sym r.is) ∙ split in
        let path : IsPathTo ws (r.first ∷ r.rest) r.first = subst (λ (w : List Key). IsPathTo ws w r.first) r.is r.leads in
        let P : List Key → Type 0 = λ w. IsPathTo ws (drop n w ++ take n w) (get_or ring n d) in
        subst P (sym r.is) (turn-path ws r.first r.rest n (get_or ring n d) (drop (n + 1) ring) split' path)

-- the ring that was found, from its least key on
pub ring-of : (ws : List Wait) (start : Key) (found ring : List Key) (n : ℕ) → IsLeast ws start → IsRingFrom ws start found
    → IsLeastPlace found (length found) n → ring ≡ drop n found ++ take n found → IsRingOf ws ring
ring-of ws start found ring n s f p is = subst (IsRingOf ws) (sym is) (record {
  is_ring = turned-is ws found n start f.is_ring p.within;
  least = λ d. least_of d;
  start = start;
  start_is = s;
  reached = each-append (Reaches ws start) (drop n found) (take n found) (each-drop (Reaches ws start) n found f.reached)
      (each-take (Reaches ws start) n found f.reached);
})
  where
    least_of : (d : Key) → Each (IsUpTo (head_or d (drop n found ++ take n found))) (drop n found ++ take n found)
    least_of d =
        let split : drop n found ≡ get_or found n d ∷ drop (n + 1) found =
        drop-step found n (get_or found n d) p.within (get_or_default found n d (get_or found n d) p.within) in
        let head : head_or d (drop n found ++ take n found) ≡ get_or found n d = ap (λ w. head_or d (w ++ take n found)) split in
        let P : Key → Type 0 = λ w. Each (IsUpTo w) (drop n found ++ take n found) in
        let all : Each (IsUpTo (get_or found n d)) found = each-index (IsUpTo (get_or found n d)) found (λ j e l. least_at d j e l) in
        subst P (sym head) (each-append (IsUpTo (get_or found n d)) (drop n found) (take n found)
        (each-drop (IsUpTo (get_or found n d)) n found all) (each-take (IsUpTo (get_or found n d)) n found all))
      where
        least_at : (d : Key) (j : ℕ) (e : Key) → j < length found → IsUpTo (get_or found n d) (get_or found j e)
        least_at d j e l = let P : Key → Type 0 = λ w. IsUpTo w (get_or found j e) in subst P (get_or_default found n e d p.within) (p.least j e l)

pub is-least : (ws : List Wait) (keys : List Key) (place : ℕ) (start : Key) → keys ≡ waiting ws → IsLeastPlace keys (length keys) place
    → start ≡ get_or keys place start → IsLeast ws start
is-least ws keys place start e p is = record {
  waits = λ none. stands keys place start p.within
      (let P : Key → Type 0 = λ w. count_key w keys ≡ 0 in subst P is (ap (count_key start) e ∙ none));
  least = subst (Each (IsUpTo start)) e (each-index (IsUpTo start) keys least_at);
}
  where
    least_at : (j : ℕ) (d : Key) → j < length keys → IsUpTo start (get_or keys j d)
    least_at j d l =
        let P : Key → Type 0 = λ w. IsUpTo w (get_or keys j d) in
        subst P (sym (is ∙ get_or_default keys place start d p.within)) (p.least j d l)

pub no-waits : (ws : List Wait) → waiting ws ≡ [] → ws ≡ []
no-waits [] e = refl
no-waits (w ∷ ws) e = absurd (cc e)

pub some-keys : (ks : List Key) → (ks ≡ [] → ⊥) → 0 < length ks
some-keys [] n = absurd (n refl)
some-keys (k ∷ ks) n = omega arith

pub ring-length : (ws : List Wait) (ring : List Key) → IsRing ws ring → 0 < length ring
ring-length ws ring r = rw r.is (omega arith)

pub ends-of : (ws : List Wait) (start : Key) (o : Option (List Key)) → IsLeast ws start → IsWalked ws start o → o ≡ None → EndsFirst ws
ends-of ws start o l w e =
    let h : Ends ws start = subst (IsWalked ws start) e w in record { start = start; start_is = l; walk = h }

pub found-of : (ws : List Wait) (start : Key) (o : Option (List Key)) (ring : List Key) → IsWalked ws start o → o ≡ Some ring → IsRingFrom ws start ring
found-of ws start o ring w e = subst (IsWalked ws start) e w

abbrev pub is_zero : ℕ → Bool
is_zero zero = true
is_zero (suc n) = false

-- the waiting keys that a path has not come to
abbrev pub unseen : List Wait → List Key → ℕ
unseen [] path = 0
unseen (w ∷ ws) path = one_if (is_zero (count_key w.key path)) + unseen ws path

pub zero-less : (a b : ℕ) → a ≤ b → one_if (is_zero b) ≤ one_if (is_zero a)
zero-less zero zero l = omega arith
zero-less zero (suc b) l = omega arith
zero-less (suc a) zero l = absurd (omega (arith, l))
zero-less (suc a) (suc b) l = omega arith

pub unseen-less : (ws : List Wait) (path : List Key) (k : Key) → unseen ws (path ++ k ∷ []) ≤ unseen ws path
unseen-less [] path k = omega arith
unseen-less (w ∷ ws) path k =
    let h = unseen-less ws path k in
    let c = count-append w.key path (k ∷ []) in
    let z = zero-less (count_key w.key path) (count_key w.key (path ++ k ∷ [])) (omega (arith, c)) in
    omega arith

-- what a key waits for first, of one wait and the rest
pub next-step : (w : Wait) (ws : List Wait) (k : Key) (b : Bool) → is_key w.key k ≡ b
    → next_in (w ∷ ws) k ≡ (if b then slice_get w.waits_for 0 else next_in ws k)
next-step w ws k b e = ap (λ (z : Bool). if z then slice_get w.waits_for 0 else next_in ws k) e

pub unseen-falls : (ws : List Wait) (path : List Key) (k n : Key) → count_key k path ≡ 0 → next_in ws k ≡ Some n
    → unseen ws (path ++ k ∷ []) < unseen ws path
unseen-falls [] path k n e s = absurd (cc s)
unseen-falls (w ∷ ws) path k n e s = go (is_key w.key k) refl (unseen-falls ws path k n e)
  where
    go : (b : Bool) → is_key w.key k ≡ b → (next_in ws k ≡ Some n → unseen ws (path ++ k ∷ []) < unseen ws path)
        → unseen (w ∷ ws) (path ++ k ∷ []) < unseen (w ∷ ws) path
    go false q rest =
        let h = rest (sym (next-step w ws k false q) ∙ s) in
        let c = count-append w.key path (k ∷ []) in
        let z = zero-less (count_key w.key path) (count_key w.key (path ++ k ∷ [])) (omega (arith, c)) in
        omega arith
    go true q rest =
        let same : w.key ≡ k = key-true w.key k q in
        let before : count_key w.key path ≡ 0 = subst (λ (z : Key). count_key z path ≡ 0) (sym same) e in
        let o : one_if (is_key w.key k) ≡ 1 = ap one_if q in
        let c : count_key w.key (path ++ k ∷ []) ≡ count_key w.key path + (one_if (is_key w.key k) + 0) = count-append w.key path (k ∷ []) in
        let now : count_key w.key (path ++ k ∷ []) ≡ 1 = omega arith in
        let a : one_if (is_zero (count_key w.key path)) ≡ 1 = ap (λ z. one_if (is_zero z)) before in
        let b : one_if (is_zero (count_key w.key (path ++ k ∷ []))) ≡ 0 = ap (λ z. one_if (is_zero z)) now in
        let h = unseen-less ws path k in
        omega arith

-- a key with a next one waits, so its patterns have a spelling
pub next-patterns : (ws : List Wait) (k n : Key) → Each HasPatterns (waiting ws) → next_in ws k ≡ Some n → HasPatterns k
next-patterns [] k n all e = cc e
next-patterns (w ∷ ws) k n all e = go (is_key w.key k) refl (next-patterns ws k n all.1)
  where
    go : (b : Bool) → is_key w.key k ≡ b → (next_in ws k ≡ Some n → HasPatterns k) → HasPatterns k
    go true q rest = subst HasPatterns (key-true w.key k q) all.0
    go false q rest = rest (sym (next-step w ws k false q) ∙ e)

-- the place of one more wait tells its key's next
pub told-step : (ws : List Wait) (n left : ℕ) (w : Wait) (old new : Key → Option ℕ) → n ≡ left + 1 → left < length ws → w ≡ get_or ws left w
    → ((q : Key) → new q ≡ cond (is_key w.key q) (Some left) (old q)) → ((q : Key) → option_and_then (next_at ws) (old q) ≡ next_in (drop n ws) q)
    → (q : Key) → option_and_then (next_at ws) (new q) ≡ next_in (drop left ws) q
told-step ws n left w old new one l is noted told q = go (is_key w.key q) refl
  where
    rest : drop left ws ≡ w ∷ drop n ws
    rest = drop-step ws left w l is ∙ ap (λ k. w ∷ drop k ws) (sym one)

    at : slice_get ws left ≡ Some w
    at = get-read ws left w w (sym is) l

    go : (b : Bool) → is_key w.key q ≡ b → option_and_then (next_at ws) (new q) ≡ next_in (drop left ws) q
    go true e =
        ap (option_and_then (next_at ws)) (noted q ∙ ap (λ (b : Bool). cond b (Some left) (old q)) e)
        ∙ ap (option_and_then (λ (v : Wait). slice_get v.waits_for 0)) at
        ∙ sym (ap (λ vs. next_in vs q) rest ∙ next-step w (drop n ws) q true e)
    go false e =
        ap (option_and_then (next_at ws)) (noted q ∙ ap (λ (b : Bool). cond b (Some left) (old q)) e)
        ∙ told q ∙ sym (ap (λ vs. next_in vs q) rest ∙ next-step w (drop n ws) q false e)

waiting-append : (xs ys : List Wait) → waiting (xs ++ ys) ≡ waiting xs ++ waiting ys
waiting-append [] ys = refl
waiting-append (x ∷ xs) ys = ap (λ z. x.key ∷ z) (waiting-append xs ys)

pub waiting-step : (xs : List Wait) (i : ℕ) (e : Wait) → i < length xs → e ≡ get_or xs i e → waiting (take (i + 1) xs) ≡ waiting (take i xs) ++ e.key ∷ []
waiting-step xs i e h is = ap waiting (take_more xs i e h) ∙ waiting-append (take i xs) (get_or xs i e ∷ [])
    ∙ ap (λ (z : Wait). waiting (take i xs) ++ z.key ∷ []) (sym is)

-- a key that a set of keys lacks stands nowhere in it
pub none-count : (k : Key) (xs : List Key) → list_any (is_key k) xs ≡ false → count_key k xs ≡ 0
none-count k [] e = refl
none-count k (x ∷ xs) e = go (is_key k x) refl e (none-count k xs)
  where
    go : (b : Bool) → is_key k x ≡ b → (b || list_any (is_key k) xs) ≡ false → (list_any (is_key k) xs ≡ false → count_key k xs ≡ 0)
        → count_key k (x ∷ xs) ≡ 0
    go true q f ih = cc f
    go false q f ih = let o : one_if (is_key k x) ≡ 0 = ap one_if q in let r = ih f in omega arith

-- what an insertion says of a key that stood there
pub stood : (keys new : List Key) (k : Key) (is_new : Bool) (place : ℕ) → is_new ≡ not (list_any (is_key k) keys) → new ≡ insert_key is_key keys k
    → is_new ≡ false → (other : Key) × (slice_get new place ≡ Some other) × (is_key k other ≡ true) → (new ≡ keys) × (slice_get keys place ≡ Some k)
stood keys new k is_new place told kept old stored = go (list_any (is_key k) keys) refl
  where
    go : (b : Bool) → list_any (is_key k) keys ≡ b → (new ≡ keys) × (slice_get keys place ≡ Some k)
    go false e = (let never : false ≡ true = sym old ∙ told ∙ ap not e in cc never)
    go true e =
        let same : new ≡ keys = kept ∙ ap (λ (b : Bool). if b then keys else keys ++ k ∷ []) e in
        (same, ap (λ ks. slice_get ks place) (sym same) ∙ stored.1 ∙ ap Some (sym (key-true k stored.0 stored.2)))

-- and of one that did not
pub joined : (keys new : List Key) (k : Key) (is_new : Bool) → is_new ≡ not (list_any (is_key k) keys) → new ≡ insert_key is_key keys k → is_new ≡ true
    → (new ≡ keys ++ k ∷ []) × (count_key k keys ≡ 0)
joined keys new k is_new told kept fresh = go (list_any (is_key k) keys) refl
  where
    go : (b : Bool) → list_any (is_key k) keys ≡ b → (new ≡ keys ++ k ∷ []) × (count_key k keys ≡ 0)
    go true e = (let never : true ≡ false = sym fresh ∙ told ∙ ap not e in cc never)
    go false e = (kept ∙ ap (λ (b : Bool). if b then keys else keys ++ k ∷ []) e, none-count k keys e)
