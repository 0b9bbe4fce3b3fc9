-- The maker of a node, by its place.
use Rattle.std.proofs.Common.{◌≡◌, ℕ, suc, Bool, true, false, cond, List, [], ◌∷◌, position, refl, sym, ap, ◌∙◌, subst, inl, inr}
use Rattle.std.specs.Prelude.{slice_get, Option, Some, None}
use Rattle.std.specs.Option.{option_map}
use Rattle.file_info.specs.Lists.{In}
use Rattle.file_info.specs.declared.node.NodeName.{NodeName}
use Rattle.file_info.proofs.Lists.{In-get, any-in, any-some, get-map}
use Rattle.build_manifest.specs.declared.command.Command.{Command}
use Rattle.build_manifest.specs.Places.{is_node, makes, maker_of}
use Rattle.build_manifest.specs.Manifest.{IsManifest, ManifestLists}
use Rattle.build_manifest.proofs.SameLemmas.{same_node}
use Rattle.build_manifest.proofs.StepLemmas.{position_cons}
use Rattle.build_meaning.proofs.OrderlyLemmas.{node_itself, one_place, same_maker, outputs_once, orderly}

-- an item and its place
abbrev Placed : {X : Type 0} → (X → Bool) → List X → ℕ → Type 0
Placed {X} p xs k = (x : X) × (slice_get xs k ≡ Some x) × (p x ≡ true)

-- what stands at the place that is found passes
placed : {X : Type 0} (p : X → Bool) (xs : List X) (k : ℕ) → position p xs ≡ Some k → Placed p xs k
placed p [] k e = cc e
placed {X} p (y ∷ xs) k e = first (p y) refl (sym (position_cons p y xs) ∙ e) (placed p xs)
  where
    next : (o : Option ℕ) → o ≡ position p xs → option_map suc o ≡ Some k → ((j : ℕ) → position p xs ≡ Some j → Placed p xs j) → Placed p (y ∷ xs) k
    next None q f more = cc f
    next (Some j) q f more =
        let (x, at, passes) = more j (sym q) in
        let same : suc j ≡ k = cc f in
        (x, subst (λ n. slice_get (y ∷ xs) n ≡ Some x) same at, passes)

    first : (b : Bool) → p y ≡ b → cond b (Some 0) (option_map suc (position p xs)) ≡ Some k → ((j : ℕ) → position p xs ≡ Some j → Placed p xs j) → Placed p (y ∷ xs) k
    first true same f more = let zero_is : 0 ≡ k = cc f in (y, subst (λ n. slice_get (y ∷ xs) n ≡ Some y) zero_is refl, same)
    first false same f more = next (position p xs) refl f more

-- an item that passes has a place
found : {X : Type 0} (p : X → Bool) (xs : List X) (x : X) → In x xs → p x ≡ true → (k : ℕ) × (position p xs ≡ Some k)
found p [] x i e = absurd i
found p (y ∷ xs) x (inl same) e =
    (0, position_cons p y xs ∙ ap (λ (b : Bool). cond b (Some 0) (option_map suc (position p xs))) (ap p (sym same) ∙ e))
found {X} p (y ∷ xs) x (inr i) e = go (p y) refl (found p xs x i e)
  where
    go : (b : Bool) → p y ≡ b → (k : ℕ) × (position p xs ≡ Some k) → (k : ℕ) × (position p (y ∷ xs) ≡ Some k)
    go true same more = (0, position_cons p y xs ∙ ap (λ (b : Bool). cond b (Some 0) (option_map suc (position p xs))) same)
    go false same (k, at) =
        (suc k, position_cons p y xs ∙ ap (λ (b : Bool). cond b (Some 0) (option_map suc (position p xs))) same ∙ ap (option_map suc) at)

-- the command at a maker's place makes the node
pub maker_makes : (cs : List Command) (n : NodeName) (k : ℕ) → maker_of cs n ≡ Some k → (c : Command) × (slice_get cs k ≡ Some c) × In n c.outputs
maker_makes cs n k e =
    let (c, at, makes_it) = placed (makes n) cs k e in
    let (o, i, same) = any-some (is_node n) c.outputs makes_it in
    (c, at, subst (λ z. In z c.outputs) (sym (same_node n o same)) i)

-- a command is the maker of each of its outputs
pub maker_at : (m : ManifestLists) → IsManifest m → (n : NodeName) (k : ℕ) (c : Command) → slice_get m.commands k ≡ Some c → In n c.outputs → maker_of m.commands n ≡ Some k
maker_at m h n k c at o =
    let i : In c m.commands = In-get m.commands k c at in
    let (j, is) = found (makes n) m.commands c i (any-in (is_node n) c.outputs n o (node_itself n)) in
    let (e, at', o') = maker_makes m.commands n j is in
    let same : e ≡ c = same_maker m.commands e c n (outputs_once m h) (In-get m.commands j e at') i o' o in
    let name = λ (z : Command). z.name in
    let there : slice_get m.commands j ≡ Some c = at' ∙ ap Some same in
    let places : j ≡ k = one_place _ j k c.name (orderly m h).names (get-map name m.commands j c there) (get-map name m.commands k c at) in
    is ∙ ap Some places
