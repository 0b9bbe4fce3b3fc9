-- A set of names beside the pairs that they belong to.
use Rattle.std.proofs.Common.{◌≡◌, ℕ, Bool, true, false, not, ◌||◌, List, [], ◌∷◌, ◌++◌, refl, sym, ap, ◌∙◌}
use Rattle.std.specs.Prelude.{bytes_eq}
use Rattle.std.specs.Bool.{MatchBool}
use Rattle.std.specs.List.{list_any}
use Rattle.std.specs.List.Sorted.{IsPermutation}
use Rattle.std.specs.Global.{Vec}
use Rattle.std.proofs.lemmas.List.Sorted.{list_any-IsPermutation}
use Rattle.std.proofs.lemmas.Slice.Eq.{bytes_eq-Decides}
use Rattle.yaml_profile.specs.declared.yaml.Yaml.{Yaml}
use Rattle.yaml_profile.specs.declared.yaml.Pair.{Pair}
use Rattle.yaml_profile.specs.Mapping.{pair, has_name, AreNames}

pub none_named : (names : List (Vec ℕ)) (pairs : List Pair) → names ≡ [] → pairs ≡ [] → AreNames names pairs
unfolding has_name
none_named names pairs none empty =
    record { same = λ q. ap (λ (l : List (Vec ℕ)). list_any (λ k. bytes_eq q k.items) l) none ∙ sym (ap (has_name q) empty) }

or_swap : (a b c : Bool) → (a || (b || c)) ≡ (b || (a || c))
or_swap true true c = refl
or_swap true false c = refl
or_swap false true c = refl
or_swap false false c = refl

pub has_name-append : (q name : List ℕ) (value : Yaml) (ps : List Pair) → has_name q (ps ++ pair name value ∷ []) ≡ (bytes_eq q name || has_name q ps)
unfolding has_name
has_name-append q name value [] = refl
has_name-append q name value (p ∷ ps) =
    ap (λ (b : Bool). bytes_eq q p.name || b) (has_name-append q name value ps) ∙ or_swap (bytes_eq q p.name) (bytes_eq q name) (has_name q ps)

-- a name that is there already adds nothing
known : (q name : List ℕ) (ps : List Pair) → has_name name ps ≡ true → has_name q ps ≡ (bytes_eq q name || has_name q ps)
known q name ps h = go (bytes_eq q name) refl
  where
    go : (b : Bool) → bytes_eq q name ≡ b → has_name q ps ≡ (b || has_name q ps)
    go true e = ap (λ (n : List ℕ). has_name n ps) ((bytes_eq-Decides q name).0 e) ∙ h
    go false e = refl

not_true : (b : Bool) → false ≡ not b → b ≡ true
not_true true e = refl
not_true false e = e

pub one_more : (copy : Vec ℕ) (name : List ℕ) (value : Yaml) (added : Bool) (old new : List (Vec ℕ)) (ps : List Pair) → copy.items ≡ name
    → added ≡ not (list_any (λ k. bytes_eq copy.items k.items) old) → MatchBool added (IsPermutation (copy ∷ old) new) (new ≡ old)
    → AreNames old ps → AreNames new (ps ++ pair name value ∷ [])
one_more copy name value true old new ps copied is keys names = record {
  same = λ q.
      let finds : Vec ℕ → Bool = λ k. bytes_eq q k.items in
      sym (list_any-IsPermutation finds (copy ∷ old) new keys) ∙ ap (λ (b : Bool). b || list_any finds old) (ap (bytes_eq q) copied)
      ∙ ap (λ (b : Bool). bytes_eq q name || b) (names.same q) ∙ sym (has_name-append q name value ps);
}
one_more copy name value false old new ps copied is keys names = record {
  same = λ q.
      let there : has_name name ps ≡ true = ap (λ (n : List ℕ). has_name n ps) (sym copied) ∙ sym (names.same copy.items) ∙ not_true _ is in
      ap (λ (l : List (Vec ℕ)). list_any (λ k. bytes_eq q k.items) l) keys ∙ names.same q ∙ known q name ps there ∙ sym (has_name-append q name value ps);
}
