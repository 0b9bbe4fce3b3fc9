-- The index beside the log.
use Rattle.std.proofs.Common.{◌≡◌, ◌+◌, ℕ, Bool, true, false, cond, List, [], ◌∷◌, ◌++◌, length, refl, ap, sym, ◌∙◌, subst, arith}
use Rattle.std.specs.Prelude.{Option, Some, None, Result, Ok, Err, OnOk, slice_get}
use Rattle.std.specs.Str.{bytes_eq}
use Rattle.std.specs.Prelude.{String}
use Rattle.std.specs.String.{string_bytes, string_eq}
use Rattle.std.specs.HashMap.{HashMap, get, get_by_text}
use Rattle.std.proofs.lemmas.Map.Entries.{place_from_lookup}
use Rattle.std.specs.Map.{update}
use Rattle.std.specs.Borrow.{Bor}
use Rattle.std.specs.Slice.{IsItemAt}
use Rattle.std.specs.Option.{option_copied}
use Rattle.std.proofs.lemmas.Option.{slice_get_past, slice_get_read}
use borrow.Author.Tests.{ltb-true, ltb-false}
use Rattle.std.proofs.lemmas.Slice.Eq.{bytes_eq-Decides}
use Rattle.memory_files.specs.declared.write.What.{What}
use Rattle.memory_files.specs.declared.write.Write.{Write}
use Rattle.memory_files.specs.Log.{last_of, put, IsPlaceOf, IsIndexed}
use Rattle.file_info.proofs.Lists.{get-append, get-last}
use Rattle.memory_files.proofs.LogLemmas.{last-nil, last-put, last-put_apart}
use Rattle.memory_files.proofs.NumberLemmas.{numbered-append}

pub none-at : (ws : List Write) (p : List ℕ) (o : Option ℕ) → IsPlaceOf ws p o → o ≡ None → last_of ws p ≡ None
none-at ws p o h e = subst (IsPlaceOf ws p) e h

pub some-at : (ws : List Write) (p : List ℕ) (o : Option ℕ) (k : ℕ) → IsPlaceOf ws p o → o ≡ Some k → slice_get ws k ≡ last_of ws p
some-at ws p o k h e = let found = subst (IsPlaceOf ws p) e h in found.1 ∙ sym found.2

-- no writes, and no places
pub none-yet : (place_at : List ℕ → Option ℕ) → ((p : List ℕ) → place_at p ≡ None) → IsIndexed [] place_at
none-yet place_at h = record { numbered = refl; placed = λ p. subst (IsPlaceOf [] p) (sym (h p)) (last-nil p) }

kept : (ws : List Write) (w : Write) (p : List ℕ) → (w.path ≡ p → ⊥) → (o : Option ℕ) → IsPlaceOf ws p o → IsPlaceOf (ws ++ w ∷ []) p o
kept ws w p h None i = last-put_apart ws w p h ∙ i
kept ws w p h (Some k) i = (i.0, get-append ws (w ∷ []) k i.0 i.1, last-put_apart ws w p h ∙ i.2)

placed-put : (ws : List Write) (w : Write) (p q : List ℕ) (old : Option ℕ) → w.path ≡ p → IsPlaceOf ws q old
    → (b : Bool) → bytes_eq p q ≡ b → IsPlaceOf (ws ++ w ∷ []) q (cond b (Some (length ws)) old)
placed-put ws w p q old h i true e =
    subst (λ (z : List ℕ). IsPlaceOf (ws ++ w ∷ []) z (Some (length ws))) (h ∙ (bytes_eq-Decides p q).0 e) (w, get-last ws w, last-put ws w)
placed-put ws w p q old h i false e = kept ws w q (λ same. let equal : p ≡ q = sym h ∙ same in cc (e, (bytes_eq-Decides p q).1 equal)) old i

-- one write more
pub indexed-put : (ws : List Write) (p : List ℕ) (x : What) (old new : List ℕ → Option ℕ) → ((q : List ℕ) → new q ≡ update bytes_eq old p (Some (length ws)) q)
    → IsIndexed ws old → IsIndexed (put ws p x) new
indexed-put ws p x old new h i =
    let item : Write = record { path = p; number = length ws + 1; what = x } in
    record {
      numbered = numbered-append 1 ws item i.numbered (omega arith);
      placed = λ q. subst (IsPlaceOf (put ws p x) q) (sym (h q)) (placed-put ws item p q (old q) refl (i.placed q) (bytes_eq p q) refl);
    }

-- what a look-up in a slice answers
pub item-got : (ws : List Write) (k : ℕ) (r : Option (Bor Write)) → IsItemAt ws k r → option_copied r ≡ slice_get ws k
item-got ws k None h = sym (slice_get_past ws k (omega (arith, ltb-false k (length ws) (sym h.0))))
item-got ws k (Some w) h = sym (slice_get_read ws (length ws) k w.now refl (ltb-true k (length ws) (sym h.0)) h.1)

-- the same writes, and the same places
pub indexed-same : (ws new : List Write) (old now : List ℕ → Option ℕ) → new ≡ ws → ((p : List ℕ) → now p ≡ old p) → IsIndexed ws old → IsIndexed new now
indexed-same ws new old now same kept i =
    subst (λ (z : List Write). IsIndexed z now) (sym same) (record { numbered = i.numbered; placed = λ p. subst (IsPlaceOf ws p) (sym (kept p)) (i.placed p) })

text-at : {X Y S : Type 0} (m n : HashMap (String Y) X S) → ((k : String Y) → get string_eq n k ≡ get string_eq m k) → (bs : List ℕ) (k : String Y)
    → bytes_eq bs (string_bytes k) ≡ true → get_by_text n bs ≡ get_by_text m bs
text-at m n same bs k h =
    let is : bs ≡ string_bytes k = (bytes_eq-Decides bs (string_bytes k)).0 h in
    ap (get_by_text n) is ∙ same k ∙ ap (get_by_text m) (sym is)

-- a map with the same values at its keys has the same values at all texts
pub text-kept : {X Y S : Type 0} (m n : HashMap (String Y) X S) → ((k : String Y) → get string_eq n k ≡ get string_eq m k) → (bs : List ℕ) → get_by_text n bs ≡ get_by_text m bs
text-kept {X} {Y} m n same bs = go (get_by_text n bs) (get_by_text m bs) refl refl
  where
    go : (a b : Option X) → get_by_text n bs ≡ a → get_by_text m bs ≡ b → get_by_text n bs ≡ get_by_text m bs
    go (Some v) b e f = let (i, k, found, h) = place_from_lookup (λ (k : String Y). bytes_eq bs (string_bytes k)) n.entries v e in text-at m n same bs k h
    go None (Some v) e f = let (i, k, found, h) = place_from_lookup (λ (k : String Y). bytes_eq bs (string_bytes k)) m.entries v f in text-at m n same bs k h
    go None None e f = e ∙ sym f

-- what holds of each success holds of this one
pub of-ok : {A E P : Type 0} (r : Result A E) (x : A) → r ≡ Ok x → OnOk r P → P
of-ok (Ok y) x e h = h
of-ok (Err y) x e h = cc e
