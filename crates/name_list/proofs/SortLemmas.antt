-- Names put at their places in byte order, one by one.
use Rattle.std.proofs.Common.{◌≡◌, ℕ, suc, Bool, true, false, not, ◌||◌, List, [], ◌∷◌, ◌++◌, ◌+◌, ◌≤◌, length, map, Some, None, bytes_eq, refl, sym}
use Rattle.std.proofs.Common.{ap, ◌∙◌, append_assoc, append-nil, length-append, subst, arith}
use Rattle.std.specs.BTreeMap.{is_at}
use Rattle.std.specs.BTreeSet.{insert_key}
use Rattle.std.specs.Cmp.Lexicographic.{slice_cmp, texts_ties}
use Rattle.std.specs.Global.{Vec}
use Rattle.std.specs.List.{All, list_any}
use Rattle.std.specs.List.Sorted.{IsPermutation, IsStrictlySortedBy}
use Rattle.std.specs.Ordering.{nat_cmp, is_eq, is_lt, match_ordering}
use Rattle.std.specs.declared.cmp.Ordering.{Ordering}
use Rattle.std.specs.declared.cmp.Ordering.TheVariants.{Less, Equal, Greater}
use Rattle.std.proofs.lemmas.Bool.{true≢false}
use Rattle.std.proofs.lemmas.List.{length-map}
use Rattle.std.proofs.lemmas.List.Elements.{All-nil, All-head, All-tail, All-push}
use Rattle.std.proofs.lemmas.List.Sorted.{IsPermutation-refl, IsPermutation-sym, IsPermutation-trans, IsPermutation-cons, IsPermutation-middle}
use Rattle.std.proofs.lemmas.List.Sorted.{IsPermutation-to_front, IsPermutation-map, All-permutation, list_any-IsPermutation, length_permutation}
use Rattle.std.proofs.lemmas.Map.Keys.{sorted_head, sorted_tail}
use Rattle.name_list.specs.EntryNames.{is_entry_name, are_entry_names, IsInOrder}
use Rattle.name_list.specs.ListFaults.{is_among, first_fault}
use Rattle.name_list.specs.declared.fault.ListError.TheVariants.{Bad, Repeated}
use Rattle.name_list.proofs.FaultLemmas.{bad_first, repeated_first, passes_first}

-- the order of byte vectors
abbrev pub vec_cmp : Vec ℕ → Vec ℕ → Ordering
vec_cmp a b = slice_cmp nat_cmp a.items b.items

-- the bytes of each vector
abbrev pub texts_of : List (Vec ℕ) → List (List ℕ)
texts_of keys = map (λ v. v.items) keys

not-first : (a b : Bool) → (a || b) ≡ false → a ≡ false
not-first true b e = e
not-first false b e = refl

not-rest : (a b : Bool) → (a || b) ≡ false → b ≡ false
not-rest true b e = absurd (true≢false e)
not-rest false b e = e

-- a key that is absent goes between the others
put_between : {K : Type 0} (cmp : K → K → Ordering) (k : K) (ks : List K) → list_any (is_at (cmp k)) ks ≡ false
    → IsPermutation (k ∷ ks) (insert_key cmp ks k)
put_between cmp k [] e = IsPermutation-refl (k ∷ [])
put_between cmp k (x ∷ xs) e = go (put_between cmp k xs (not-rest (is_eq (cmp k x)) (list_any (is_at (cmp k)) xs) e)) (cmp k x) refl
  where
    go : IsPermutation (k ∷ xs) (insert_key cmp xs k) → (o : Ordering) → cmp k x ≡ o → IsPermutation (k ∷ x ∷ xs) (match_ordering o (k ∷ x ∷ xs) (x ∷ xs) (x ∷ insert_key cmp xs k))
    go further Less is = IsPermutation-refl (k ∷ x ∷ xs)
    go further Equal is = absurd (true≢false (ap is_eq (sym is) ∙ not-first (is_eq (cmp k x)) (list_any (is_at (cmp k)) xs) e))
    go further Greater is =
        IsPermutation-trans _ _ _ (IsPermutation-sym _ _ (IsPermutation-middle (x ∷ []) k xs)) (IsPermutation-cons x (k ∷ xs) (insert_key cmp xs k) further)

-- whether a key is among others, by its bytes
among_keys : (key : Vec ℕ) (keys : List (Vec ℕ)) → list_any (is_at (vec_cmp key)) keys ≡ is_among (texts_of keys) key.items
among_keys key [] = refl
among_keys key (x ∷ xs) =
    ap (λ b. b || list_any (is_at (vec_cmp key)) xs) (sym (texts_ties key.items x.items))
    ∙ ap (λ b. bytes_eq key.items x.items || b) (among_keys key xs)

-- keys in order are names in order
pub in_order_from_keys : (keys : List (Vec ℕ)) → IsStrictlySortedBy vec_cmp keys → All (λ text. is_entry_name text ≡ true) (texts_of keys)
    → are_entry_names (texts_of keys) ≡ true
in_order_from_keys [] s all = refl
in_order_from_keys (k ∷ []) s all =
    let names : is_entry_name k.items ≡ true = All-head (λ text. is_entry_name text ≡ true) k.items [] all in
    rw names refl
in_order_from_keys (k ∷ x ∷ xs) s all =
    let names : is_entry_name k.items ≡ true = All-head (λ text. is_entry_name text ≡ true) k.items (texts_of (x ∷ xs)) all in
    let first : is_lt (vec_cmp k x) ≡ true = ap is_lt (sorted_head vec_cmp k (x ∷ xs) s).0 in
    let others : are_entry_names (texts_of (x ∷ xs)) ≡ true =
    in_order_from_keys (x ∷ xs) (sorted_tail vec_cmp k (x ∷ xs) s) (All-tail (λ text. is_entry_name text ≡ true) k.items (texts_of (x ∷ xs)) all) in
    rw (names, first, others) refl

-- what is known once some texts were taken, in their order, and the keys are theirs
pub record IsTaken (all : List (List ℕ)) (keys : List (Vec ℕ)) (taken rest : List (List ℕ)) : Type 0 where
  pub same : IsPermutation taken (texts_of keys)
  pub each : All (λ text. is_entry_name text ≡ true) taken
  pub whole : taken ++ rest ≡ all
  pub faults : first_fault [] all ≡ first_fault taken rest

-- what a key's text has to be for the answers of a set to tell of it
not-absent : (b : Bool) → false ≡ not b → b ≡ true
not-absent true e = refl
not-absent false e = e

not-there : (b : Bool) → true ≡ not b → b ≡ false
not-there true e = absurd (true≢false e)
not-there false e = refl

-- a text that is taken next, as the key
pub record IsNext (all : List (List ℕ)) (keys : List (Vec ℕ)) (taken more : List (List ℕ)) (key : Vec ℕ) : Type 0 where
  pub so_far : IsTaken all keys taken (key.items ∷ more)
  pub names : is_entry_name key.items ≡ true

-- the key of the next text is taken next
pub next_of : (all : List (List ℕ)) (keys : List (Vec ℕ)) (taken rest more : List (List ℕ)) (text : List ℕ) (key : Vec ℕ)
    → IsTaken all keys taken rest → rest ≡ text ∷ more → true ≡ is_entry_name text → key.items ≡ text → IsNext all keys taken more key
next_of all keys taken rest more text key t first names same = record {
  so_far = subst (λ x. IsTaken all keys taken (x ∷ more)) (sym same) (subst (IsTaken all keys taken) first t);
  names = ap is_entry_name same ∙ sym names;
}

-- nothing is taken at first
pub none_taken : (all : List (List ℕ)) (keys : List (Vec ℕ)) (rest : List (List ℕ)) → keys ≡ [] → rest ≡ all → IsTaken all keys [] rest
none_taken all keys rest none same =
    subst (λ ks. IsTaken all ks [] rest) (sym none) (subst (λ r. IsTaken all [] [] r) (sym same)
    record { same = IsPermutation-refl []; each = All-nil (λ text. is_entry_name text ≡ true); whole = refl; faults = refl })

-- there are as many keys as texts that were taken
pub as_many : (all : List (List ℕ)) (keys : List (Vec ℕ)) (taken rest : List (List ℕ)) → IsTaken all keys taken rest → length keys ≡ length taken
as_many all keys taken rest t = sym (length-map keys (λ v. v.items)) ∙ length_permutation taken (texts_of keys) t.same

-- there are no more keys than texts
pub no_more : (all : List (List ℕ)) (keys : List (Vec ℕ)) (taken rest : List (List ℕ)) → IsTaken all keys taken rest → length keys ≤ length all
no_more all keys taken rest t =
    let many : length keys ≡ length taken = as_many all keys taken rest t in
    let whole : length taken + length rest ≡ length all = sym (length-append taken rest) ∙ ap length t.whole in
    omega (arith, many, whole)

-- the key is among the others as its text is among the texts that were taken
among_taken : (all : List (List ℕ)) (keys : List (Vec ℕ)) (taken rest : List (List ℕ)) (key : Vec ℕ) → IsTaken all keys taken rest
    → list_any (is_at (vec_cmp key)) keys ≡ is_among taken key.items
among_taken all keys taken rest key t = among_keys key keys ∙ sym (list_any-IsPermutation (bytes_eq key.items) taken (texts_of keys) t.same)

-- one more text is taken
pub takes : (all : List (List ℕ)) (keys : List (Vec ℕ)) (taken more : List (List ℕ)) (key : Vec ℕ) → IsNext all keys taken more key
    → true ≡ not (list_any (is_at (vec_cmp key)) keys) → IsTaken all (insert_key vec_cmp keys key) (taken ++ key.items ∷ []) more
takes all keys taken more key n added =
    let absent : list_any (is_at (vec_cmp key)) keys ≡ false = not-there _ added in
    let t : IsTaken all keys taken (key.items ∷ more) = n.so_far in
    record {
      same = IsPermutation-trans _ _ _ (IsPermutation-to_front taken key.items)
          (IsPermutation-trans _ _ _ (IsPermutation-cons key.items taken (texts_of keys) t.same)
          (IsPermutation-map (λ v. v.items) (key ∷ keys) (insert_key vec_cmp keys key) (put_between vec_cmp key keys absent)));
      each = All-push (λ text. is_entry_name text ≡ true) taken key.items t.each n.names;
      whole = append_assoc taken (key.items ∷ []) more ∙ t.whole;
      faults = t.faults ∙ passes_first taken key.items more n.names (sym (among_taken _ _ _ _ key t) ∙ absent);
    }

-- the same, by the text and by the keys that the set has then
pub takes_as : (all : List (List ℕ)) (keys after : List (Vec ℕ)) (taken more : List (List ℕ)) (text : List ℕ) (key : Vec ℕ)
    → IsNext all keys taken more key → key.items ≡ text → true ≡ not (list_any (is_at (vec_cmp key)) keys)
    → after ≡ insert_key vec_cmp keys key → IsTaken all after (taken ++ text ∷ []) more
takes_as all keys after taken more text key n same added is =
    subst (λ x. IsTaken all after (taken ++ x ∷ []) more) same
    (subst (λ ks. IsTaken all ks (taken ++ key.items ∷ []) more) (sym is) (takes all keys taken more key n added))

-- the text cannot name an entry
pub bad_next : (all : List (List ℕ)) (keys : List (Vec ℕ)) (taken rest more : List (List ℕ)) (text : List ℕ)
    → IsTaken all keys taken rest → rest ≡ text ∷ more → false ≡ is_entry_name text → first_fault [] all ≡ Some (Bad (length keys))
bad_next all keys taken rest more text t first e =
    let now : IsTaken all keys taken (text ∷ more) = subst (IsTaken all keys taken) first t in
    now.faults ∙ bad_first taken text more (sym e) ∙ ap (λ n. Some (Bad n)) (sym (as_many _ _ _ _ now))

-- the text was taken before
pub repeated_next : (all : List (List ℕ)) (keys : List (Vec ℕ)) (taken more : List (List ℕ)) (key : Vec ℕ) → IsNext all keys taken more key
    → false ≡ not (list_any (is_at (vec_cmp key)) keys) → first_fault [] all ≡ Some (Repeated (length keys))
repeated_next all keys taken more key n kept =
    let there : list_any (is_at (vec_cmp key)) keys ≡ true = not-absent _ kept in
    let t : IsTaken all keys taken (key.items ∷ more) = n.so_far in
    t.faults ∙ repeated_first taken key.items more n.names (sym (among_taken _ _ _ _ key t) ∙ there) ∙ ap (λ n. Some (Repeated n)) (sym (as_many _ _ _ _ t))

-- all texts are taken
pub all_taken : (all : List (List ℕ)) (keys : List (Vec ℕ)) (taken : List (List ℕ)) → IsTaken all keys taken [] → IsStrictlySortedBy vec_cmp keys
    → IsInOrder all (texts_of keys) × (first_fault [] all ≡ None)
all_taken all keys taken t s =
    let whole : taken ≡ all = sym (append-nil taken) ∙ t.whole in (
      record {
        same = subst (λ l. IsPermutation l (texts_of keys)) whole t.same;
        in_order = in_order_from_keys keys s (All-permutation (λ text. is_entry_name text ≡ true) taken (texts_of keys) t.same t.each);
      },
      t.faults,
    )

-- a queue is as long as its items, once its first one was taken
pub left_alike : (items more : List (List ℕ)) (text : List ℕ) (len next : ℕ)
    → length items ≡ len → items ≡ text ∷ more → next + 1 ≡ len → length more ≡ next
left_alike items more text len next many first fewer =
    let count : length items ≡ suc (length more) = ap length first in
    omega (arith, count, many, fewer)
