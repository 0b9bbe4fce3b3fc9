-- What is known of names, item by item.
use Rattle.std.proofs.Common.{◌≡◌, ℕ, ◌+◌, Bool, true, false, not, cond, if◌then◌else◌, ◌&&◌, ◌||◌, List, [], ◌∷◌, ◌++◌, length, Option, Some, None, refl, sym, ap, ◌∙◌, append_assoc, append-nil, arith, rules}
use Rattle.std.specs.Prelude.{bytes_eq}
use Rattle.std.specs.Bool.{MatchBool}
use Rattle.std.specs.List.{list_any}
use Rattle.std.specs.List.Sorted.{IsPermutation}
use Rattle.std.specs.Option.{option_or}
use Rattle.std.specs.Global.{Vec}
use Rattle.std.proofs.lemmas.List.Folds.{list_any-append}
use Rattle.std.proofs.lemmas.List.Sorted.{list_any-IsPermutation}
use Rattle.std.proofs.lemmas.Slice.Eq.{bytes_eq-Decides}
use Rattle.manifest_values.specs.declared.known.Entry.{Entry}
use Rattle.file_info.specs.Path.{normal_form}
use Rattle.yaml_profile.specs.Tree.{name_of, value_of}
use Rattle.yaml_profile.specs.declared.yaml.Pair.{Pair}
use Rattle.manifest_values.specs.Known.{AreTexts, same_flag, is_entry_of, entry_place, is_virtual_in, path_entry, entry_at, pairs_or_none}
use Rattle.manifest_values.specs.Texts.{path_in, is_path_text}
use Rattle.manifest_values.proofs.PlaceLemmas.{position_push}

last_first : (a b : Bool) → (a || (b || false)) ≡ (b || a)
last_first true true = refl
last_first true false = refl
last_first false true = refl
last_first false false = refl

-- whether an item passes, where the last one comes first
any_last : {A : Type 0} (p : A → Bool) (x : A) (xs : List A) → list_any p (xs ++ x ∷ []) ≡ (p x || list_any p xs)
any_last p x xs = list_any-append p xs (x ∷ []) ∙ last_first (list_any p xs) (p x)

-- a text that is there already adds nothing
there : (q text : List ℕ) (ts : List (List ℕ)) → list_any (bytes_eq text) ts ≡ true
    → list_any (bytes_eq q) ts ≡ (bytes_eq q text || list_any (bytes_eq q) ts)
there q text ts h = go (bytes_eq q text) refl
  where
    go : (b : Bool) → bytes_eq q text ≡ b → list_any (bytes_eq q) ts ≡ (b || list_any (bytes_eq q) ts)
    go true e = ap (λ (n : List ℕ). list_any (bytes_eq n) ts) ((bytes_eq-Decides q text).0 e) ∙ h
    go false e = refl

not_true : (b : Bool) → false ≡ not b → b ≡ true
not_true true e = refl
not_true false e = e

pub one_more : (copy : Vec ℕ) (text : List ℕ) (added : Bool) (old new : List (Vec ℕ)) (ts : List (List ℕ)) → copy.items ≡ text
    → added ≡ not (list_any (λ k. bytes_eq copy.items k.items) old) → MatchBool added (IsPermutation (copy ∷ old) new) (new ≡ old)
    → AreTexts old ts → AreTexts new (ts ++ text ∷ [])
one_more copy text true old new ts copied is keys texts = record {
  same = λ q.
      let finds : Vec ℕ → Bool = λ k. bytes_eq q k.items in
      sym (list_any-IsPermutation finds (copy ∷ old) new keys) ∙ ap (λ (b : Bool). b || list_any finds old) (ap (bytes_eq q) copied)
      ∙ ap (λ (b : Bool). bytes_eq q text || b) (texts.same q) ∙ sym (any_last (bytes_eq q) text ts);
}
one_more copy text false old new ts copied is keys texts = record {
  same = λ q.
      let found : list_any (bytes_eq text) ts ≡ true =
      ap (λ (n : List ℕ). list_any (bytes_eq n) ts) (sym copied) ∙ sym (texts.same copy.items) ∙ not_true _ is in
      ap (λ (l : List (Vec ℕ)). list_any (λ k. bytes_eq q k.items) l) keys ∙ texts.same q ∙ there q text ts found
      ∙ sym (any_last (bytes_eq q) text ts);
}

-- what was there and what is to come make the whole
pub record Joins {A : Type 0} (whole out left : List A) (count : ℕ) : Type 0 where
  pub goes_on : out ++ left ≡ whole
  pub counted : count ≡ length left

pub joins_first : {A : Type 0} (out left : List A) (count : ℕ) → count ≡ length left → Joins (out ++ left) out left count
joins_first out left count counted = record { goes_on = refl; counted = counted }

pub joins_next : {A : Type 0} (whole out new left rest : List A) (count less : ℕ) (x : A)
    → Joins whole out left count → left ≡ x ∷ rest → less + 1 ≡ count → new ≡ out ++ x ∷ [] → Joins whole new rest less
joins_next {A} whole out new left rest count less x joins first fewer pushed = record {
  goes_on =
      ap (λ (o : List A). o ++ rest) pushed ∙ append_assoc out (x ∷ []) rest ∙ ap (λ (l : List A). out ++ l) (sym first) ∙ joins.goes_on;
  counted =
      let was = joins.counted in
      let longer = ap length first in
      omega arith;
}

nothing_left : {A : Type 0} (l : List A) → length l ≡ 0 → l ≡ []
nothing_left [] h = refl
nothing_left (x ∷ xs) h = absurd (omega arith)

pub joins_last : {A : Type 0} (whole out left : List A) (count : ℕ) → Joins whole out left count → count ≡ 0 → out ≡ whole
joins_last {A} whole out left count joins none =
    sym (append-nil out) ∙ ap (λ (l : List A). out ++ l) (sym (nothing_left left (sym joins.counted ∙ none))) ∙ joins.goes_on

or_nothing : (o : Option ℕ) → option_or o None ≡ o
or_nothing None = refl
or_nothing (Some x) = refl

and_true : (b : Bool) → (b && true) ≡ b
and_true true = refl
and_true false = refl

and_false : (b : Bool) → (b && false) ≡ false
and_false true = refl
and_false false = refl

flag_same : (b : Bool) → same_flag b b ≡ true
flag_same true = refl
flag_same false = refl

-- the place of an entry of the same kind is noted
pub place_noted : (entries : List Entry) (entry : Entry) (slash : Bool) (old new : List ℕ → Option ℕ) → entry.slash ≡ slash
    → ((q : List ℕ) → old q ≡ entry_place entries q slash)
    → ((q : List ℕ) → new q ≡ option_or (old q) (cond (bytes_eq q entry.path) (Some (length entries)) None))
    → (q : List ℕ) → new q ≡ entry_place (entries ++ entry ∷ []) q slash
place_noted entries entry slash old new is placed noted q =
    noted q ∙ ap (λ (o : Option ℕ). option_or o (cond (bytes_eq q entry.path) (Some (length entries)) None)) (placed q)
    ∙ ap (λ (b : Bool). option_or (entry_place entries q slash) (cond b (Some (length entries)) None))
    (sym (and_true (bytes_eq q entry.path)) ∙ ap (λ (b : Bool). bytes_eq q entry.path && b) (sym (ap (same_flag slash) is ∙ flag_same slash)))
    ∙ sym (position_push (is_entry_of q slash) entries entry)

-- an entry of the other kind has no place
pub place_kept : (entries : List Entry) (entry : Entry) (slash : Bool) (old : List ℕ → Option ℕ) → same_flag slash entry.slash ≡ false
    → ((q : List ℕ) → old q ≡ entry_place entries q slash)
    → (q : List ℕ) → old q ≡ entry_place (entries ++ entry ∷ []) q slash
place_kept entries entry slash old other placed q =
    placed q ∙ sym (or_nothing (entry_place entries q slash))
    ∙ ap (λ (b : Bool). option_or (entry_place entries q slash) (cond b (Some (length entries)) None))
    (sym (ap (λ (b : Bool). bytes_eq q entry.path && b) other ∙ and_false (bytes_eq q entry.path)))
    ∙ sym (position_push (is_entry_of q slash) entries entry)

-- the same place of the same text
pub noted_at : (old new : List ℕ → Option ℕ) (text path : List ℕ) (place len : ℕ) → text ≡ path → place ≡ len
    → ((q : List ℕ) → new q ≡ option_or (old q) (cond (bytes_eq q text) (Some place) None))
    → (q : List ℕ) → new q ≡ option_or (old q) (cond (bytes_eq q path) (Some len) None)
noted_at old new text path place len is at noted q =
    noted q ∙ ap (λ (t : List ℕ). option_or (old q) (cond (bytes_eq q t) (Some place) None)) is
    ∙ ap (λ (n : ℕ). option_or (old q) (cond (bytes_eq q path) (Some n) None)) at

path_by : (t : List ℕ) → path_in t ≡ (if is_path_text t then Some (normal_form t) else None)
unfolding path_in
path_by t = refl

entry_by : (of : List ℕ → Entry) (path normal : List ℕ) (v b : Bool) → v ≡ false → Some path ≡ (if b then Some normal else None)
    → (if not v && b then of normal ∷ [] else []) ≡ of path ∷ []
entry_by of path normal true b e h = absurd (search rules)
entry_by of path normal false true e h =
    let same : normal ≡ path = cc h in
    ap (λ (n : List ℕ). of n ∷ []) same
entry_by of path normal false false e h = absurd (search rules)

-- the entry of a path
pub entry_found : (virtuals : List (List ℕ)) (p : Pair) (path : List ℕ) → is_virtual_in virtuals (name_of p) ≡ false → Some path ≡ path_in (name_of p)
    → path_entry virtuals p ≡ entry_at path (name_of p) (pairs_or_none (Some (value_of p))) ∷ []
entry_found virtuals p path off found =
    entry_by (λ n. entry_at n (name_of p) (pairs_or_none (Some (value_of p)))) path (normal_form (name_of p)) (is_virtual_in virtuals (name_of p))
    (is_path_text (name_of p)) off (found ∙ path_by (name_of p))

none_by : (es : List Entry) (normal : List ℕ) (v b : Bool) → None ≡ (if b then Some normal else None) → (if not v && b then es else []) ≡ []
none_by es normal v true h = absurd (search rules)
none_by es normal true false h = refl
none_by es normal false false h = refl

-- no path, no entry
pub entry_none : (virtuals : List (List ℕ)) (p : Pair) → None ≡ path_in (name_of p) → path_entry virtuals p ≡ []
entry_none virtuals p missing =
    none_by (entry_at (normal_form (name_of p)) (name_of p) (pairs_or_none (Some (value_of p))) ∷ []) (normal_form (name_of p))
    (is_virtual_in virtuals (name_of p)) (is_path_text (name_of p)) (missing ∙ path_by (name_of p))
