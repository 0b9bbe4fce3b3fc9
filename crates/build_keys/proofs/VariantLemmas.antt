-- A thing of a tag and one part or two: what is read is what was spelled, and nothing else.
use Rattle.std.proofs.Common.{◌≡◌, ℕ, List, [], ◌∷◌, ◌++◌, Some, sym, ◌∙◌, ap, subst, append_assoc}
use Rattle.build_keys.specs.Reading.{Reader, IsRead, Reads, one_in, two_in}
use Rattle.build_keys.proofs.OptionLemmas.{found, step, first-same, second-same}

-- what a reader reads after a tag of this number was spelled, tag and all, and has a spelling
abbrev pub OnlyAfter : {B : Type 0} → ℕ → (B → List ℕ) → (B → Type 0) → Reader B → Type 0
OnlyAfter {B} number spelled is read =
    (tag : ℕ) (bytes : List ℕ) (thing : B) (rest : List ℕ) → tag ≡ number → read bytes ≡ Some (thing, rest) → IsRead spelled is (tag ∷ bytes) thing rest

-- how a variant of one part is spelled, and that it has a spelling where the part has one
pub record IsOne {A B : Type 0} (tag : ℕ) (made : A → B) (part_spelled : A → List ℕ) (part_is : A → Type 0) (spelled : B → List ℕ) (is : B → Type 0) : Type 0 where
  pub bytes : (part : A) → spelled (made part) ≡ tag ∷ part_spelled part
  pub has_one : (part : A) → part_is part → is (made part)

pub one-back : {A B : Type 0} (made : A → B) (part_spelled : A → List ℕ) (part_is : A → Type 0) (read : Reader A) → Reads part_spelled part_is read
    → (part : A) (rest : List ℕ) → part_is part → one_in made read (part_spelled part ++ rest) ≡ Some (made part, rest)
one-back made part_spelled part_is read r part rest h = step (read (part_spelled part ++ rest)) _ (part, rest) (r.back part rest h)

pub one-only : {A B : Type 0} (number : ℕ) (made : A → B) (part_spelled : A → List ℕ) (part_is : A → Type 0) (read : Reader A) (spelled : B → List ℕ) (is : B → Type 0)
    → Reads part_spelled part_is read → IsOne number made part_spelled part_is spelled is
    → OnlyAfter number spelled is (one_in made read)
one-only number made part_spelled part_is read spelled is r v tag bytes thing rest t e =
    let got = found (read bytes) _ (thing, rest) e in
    let part = got.middle.0 in
    let behind = got.middle.1 in
    let one = r.only bytes part behind got.first_is in
    let same = first-same (made part) thing behind rest got.next_is in
    let left = second-same (made part) thing behind rest got.next_is in
    record {
      whole = ap (λ z. z ∷ bytes) t ∙ ap (λ z. number ∷ z) one.whole ∙ ap (λ z. z ++ behind) (sym (v.bytes part))
          ∙ ap (λ z. spelled z ++ behind) same ∙ ap (λ z. spelled thing ++ z) left;
      has_one = let P : _ → Type 0 = is in subst P same (v.has_one part one.has_one);
    }

-- the same for two parts
pub record IsTwo {A B C : Type 0} (tag : ℕ) (made : A → B → C) (one_spelled : A → List ℕ) (one_is : A → Type 0) (two_spelled : B → List ℕ) (two_is : B → Type 0)
    (spelled : C → List ℕ) (is : C → Type 0) : Type 0 where
  pub bytes : (one : A) (two : B) → spelled (made one two) ≡ tag ∷ one_spelled one ++ two_spelled two
  pub has_one : (one : A) (two : B) → one_is one → two_is two → is (made one two)

pub two-back : {A B C : Type 0} (made : A → B → C) (one_spelled : A → List ℕ) (one_is : A → Type 0) (read_one : Reader A) (two_spelled : B → List ℕ) (two_is : B → Type 0)
    (read_two : Reader B) → Reads one_spelled one_is read_one → Reads two_spelled two_is read_two → (one : A) (two : B) (rest : List ℕ) → one_is one → two_is two
    → two_in made read_one read_two ((one_spelled one ++ two_spelled two) ++ rest) ≡ Some (made one two, rest)
two-back made one_spelled one_is read_one two_spelled two_is read_two r q one two rest h k =
    let behind = two_spelled two ++ rest in
    ap (two_in made read_one read_two) (append_assoc (one_spelled one) (two_spelled two) rest)
    ∙ step (read_one (one_spelled one ++ behind)) _ (one, behind) (r.back one behind h) ∙ step (read_two behind) _ (two, rest) (q.back two rest k)

-- what was read as two parts
pub record IsReadTwo {A B C : Type 0} (made : A → B → C) (one_spelled : A → List ℕ) (one_is : A → Type 0) (two_spelled : B → List ℕ) (two_is : B → Type 0)
    (bytes : List ℕ) (thing : C) (rest : List ℕ) : Type 0 where
  pub one : A
  pub two : B
  pub same : made one two ≡ thing
  pub whole : bytes ≡ (one_spelled one ++ two_spelled two) ++ rest
  pub has_one : one_is one
  pub has_two : two_is two

pub two-parts : {A B C : Type 0} (made : A → B → C) (one_spelled : A → List ℕ) (one_is : A → Type 0) (read_one : Reader A)
    (two_spelled : B → List ℕ) (two_is : B → Type 0) (read_two : Reader B) → Reads one_spelled one_is read_one → Reads two_spelled two_is read_two
    → (bytes : List ℕ) (thing : C) (rest : List ℕ) → two_in made read_one read_two bytes ≡ Some (thing, rest)
    → IsReadTwo made one_spelled one_is two_spelled two_is bytes thing rest
two-parts made one_spelled one_is read_one two_spelled two_is read_two r q bytes thing rest e =
    let got = found (read_one bytes) _ (thing, rest) e in
    let one = got.middle.0 in
    let first = r.only bytes one got.middle.1 got.first_is in
    let more = found (read_two got.middle.1) _ (thing, rest) got.next_is in
    let two = more.middle.0 in
    let behind = more.middle.1 in
    let second = q.only got.middle.1 two behind more.first_is in
    let left = second-same (made one two) thing behind rest more.next_is in
    record {
      one = one;
      two = two;
      same = first-same (made one two) thing behind rest more.next_is;
      whole = first.whole ∙ ap (λ z. one_spelled one ++ z) second.whole ∙ sym (append_assoc (one_spelled one) (two_spelled two) behind)
          ∙ ap (λ z. (one_spelled one ++ two_spelled two) ++ z) left;
      has_one = first.has_one;
      has_two = second.has_one;
    }

pub two-only : {A B C : Type 0} (number : ℕ) (made : A → B → C) (one_spelled : A → List ℕ) (one_is : A → Type 0) (read_one : Reader A)
    (two_spelled : B → List ℕ) (two_is : B → Type 0) (read_two : Reader B) (spelled : C → List ℕ) (is : C → Type 0)
    → Reads one_spelled one_is read_one → Reads two_spelled two_is read_two → IsTwo number made one_spelled one_is two_spelled two_is spelled is
    → OnlyAfter number spelled is (two_in made read_one read_two)
two-only number made one_spelled one_is read_one two_spelled two_is read_two spelled is r q v tag bytes thing rest t e =
    let read = two-parts made one_spelled one_is read_one two_spelled two_is read_two r q bytes thing rest e in
    record {
      whole = ap (λ z. z ∷ bytes) t ∙ ap (λ z. number ∷ z) read.whole ∙ ap (λ z. z ++ rest) (sym (v.bytes read.one read.two)) ∙ ap (λ z. spelled z ++ rest) read.same;
      has_one = let P : _ → Type 0 = is in subst P read.same (v.has_one read.one read.two read.has_one read.has_two);
    }

-- a variant without parts
pub bare-only : {B : Type 0} (number : ℕ) (made : B) (spelled : B → List ℕ) (is : B → Type 0) → spelled made ≡ number ∷ [] → is made
    → OnlyAfter number spelled is (λ bytes. Some (made, bytes))
bare-only number made spelled is b h tag bytes thing rest t e =
    let same = first-same made thing bytes rest e in
    let left = second-same made thing bytes rest e in
    record {
      whole = ap (λ z. z ∷ bytes) t ∙ ap (λ z. z ++ bytes) (sym b) ∙ ap (λ z. spelled z ++ bytes) same ∙ ap (λ z. spelled thing ++ z) left;
      has_one = let P : _ → Type 0 = is in subst P same h;
    }
