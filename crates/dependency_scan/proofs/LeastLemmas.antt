-- The order of keys, and the least of a list.
use Rattle.std.proofs.Common.{◌≡◌, ◌⊎◌, ℕ, zero, suc, ◌+◌, ◌<◌, true, false, List, [], ◌∷◌, length, get_or, refl, ap, sym, ◌∙◌, inl, inr, subst, arith}
use Rattle.std.specs.declared.cmp.Ordering.{Ordering}
use Rattle.std.specs.declared.cmp.Ordering.TheVariants.{Less, Equal, Greater}
use Rattle.std.specs.Ordering.{is_le, is_lt, ordering_reverse}
use Rattle.std.specs.Cmp.{IsTotalOrder}
use Rattle.std.proofs.lemmas.List.{get_or_default}
use Rattle.std.proofs.lemmas.Cmp.{on_total, nat_list_cmp_total, tied_itself, alike_right}
use Rattle.build_keys.specs.declared.key.Key.{Key}
use Rattle.build_keys.specs.KeyOrder.{key_cmp}
use Rattle.build_keys.specs.Keys.{Each, key_bytes}
use Rattle.dependency_scan.specs.Ring.{IsUpTo, IsLeastPlace}

keys-total : IsTotalOrder key_cmp
keys-total = on_total key_bytes nat_list_cmp_total

pub upto-itself : (a : Key) → IsUpTo a a
upto-itself a = ap is_le (tied_itself keys-total a)

pub before-upto : (a b : Key) (o : Ordering) → o ≡ key_cmp a b → is_lt o ≡ true → IsUpTo a b
before-upto a b Less e h = ap is_le (sym e)
before-upto a b Equal e h = cc h
before-upto a b Greater e h = cc h

pub else-upto : (a b : Key) (o : Ordering) → o ≡ key_cmp a b → is_lt o ≡ false → IsUpTo b a
else-upto a b Less e h = cc h
else-upto a b Equal e h = ap is_le (keys-total.antisymm b a ∙ ap ordering_reverse (sym e))
else-upto a b Greater e h = ap is_le (keys-total.antisymm b a ∙ ap ordering_reverse (sym e))

pub upto-chain : (a b c : Key) → IsUpTo a b → IsUpTo b c → IsUpTo a c
upto-chain a b c h k = go (key_cmp a b) refl h (key_cmp b c) refl k
  where
    go : (o : Ordering) → key_cmp a b ≡ o → is_le o ≡ true → (p : Ordering) → key_cmp b c ≡ p → is_le p ≡ true → IsUpTo a c
    go Greater e f p g i = cc f
    go Equal e f p g i = ap is_le (keys-total.congr a b c e ∙ g) ∙ i
    go Less e f Less g i = ap is_le (keys-total.trans a b c e g)
    go Less e f Equal g i = ap is_le (sym (alike_right keys-total b c a g) ∙ e)
    go Less e f Greater g i = cc i

below-or : (a b : ℕ) → a < b + 1 → (a < b) ⊎ (a ≡ b)
below-or zero zero h = inr refl
below-or zero (suc b) h = inl (omega arith)
below-or (suc a) zero h = absurd (omega (arith, h))
below-or (suc a) (suc b) h = elim (below-or a b (omega (arith, h))) [ inl l ↦ inl (omega (arith, l)) | inr e ↦ inr (ap (λ n. suc n) e) ]

-- the first place is the least of one
pub least-first : (keys : List Key) → 0 < length keys → IsLeastPlace keys 1 0
least-first keys h = record {
  within = h;
  least = λ place d l. (let first : place ≡ 0 = omega (arith, l) in rw first (upto-itself (get_or keys 0 d)));
}

-- of one more, where the key there comes before the least so far
pub least-new : (keys : List Key) (place best : ℕ) (k b : Key) (o : Ordering) → IsLeastPlace keys place best → place < length keys → k ≡ get_or keys place k
    → b ≡ get_or keys best b → o ≡ key_cmp k b → is_lt o ≡ true → IsLeastPlace keys (place + 1) place
least-new keys place best k b o least l is was e h = record {
  within = l;
  least = λ other d below. go other d (below-or other place below);
}
  where
    go : (other : ℕ) (d : Key) → (other < place) ⊎ (other ≡ place) → IsUpTo (get_or keys place d) (get_or keys other d)
    go other d (inr same) = rw same (upto-itself (get_or keys place d))
    go other d (inl below) =
        let new : get_or keys place d ≡ k = get_or_default keys place d k l ∙ sym is in
        let old : get_or keys best d ≡ b = get_or_default keys best d b least.within ∙ sym was in
        let rest : IsUpTo b (get_or keys other d) = subst (λ z. IsUpTo z (get_or keys other d)) old (least.least other d below) in
        subst (λ z. IsUpTo z (get_or keys other d)) (sym new) (upto-chain k b (get_or keys other d) (before-upto k b o e h) rest)

-- of one more, where it does not
pub least-old : (keys : List Key) (place best : ℕ) (k b : Key) (o : Ordering) → IsLeastPlace keys place best → place < length keys → k ≡ get_or keys place k
    → b ≡ get_or keys best b → o ≡ key_cmp k b → is_lt o ≡ false → IsLeastPlace keys (place + 1) best
least-old keys place best k b o least l is was e h = record {
  within = least.within;
  least = λ other d below. go other d (below-or other place below);
}
  where
    go : (other : ℕ) (d : Key) → (other < place) ⊎ (other ≡ place) → IsUpTo (get_or keys best d) (get_or keys other d)
    go other d (inl below) = least.least other d below
    go other d (inr same) =
        let new : get_or keys place d ≡ k = get_or_default keys place d k l ∙ sym is in
        let old : get_or keys best d ≡ b = get_or_default keys best d b least.within ∙ sym was in
        let step : IsUpTo b k = else-upto k b o e h in
        let there : get_or keys other d ≡ k = ap (λ z. get_or keys z d) same ∙ new in
        subst (λ z. IsUpTo z (get_or keys other d)) (sym old) (subst (IsUpTo b) (sym there) step)

-- each key at a place is one of the list
pub each-at : (P : Key → Type 0) (keys : List Key) (place : ℕ) (k : Key) → Each P keys → place < length keys → k ≡ get_or keys place k → P k
each-at P [] place k all l is = absurd (omega (arith, l))
each-at P (x ∷ xs) zero k all l is = subst P (sym is) all.0
each-at P (x ∷ xs) (suc place) k all l is = each-at P xs place k all.1 (omega (arith, l)) is
