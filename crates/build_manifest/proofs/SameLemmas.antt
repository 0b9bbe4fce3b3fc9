-- Texts and nodes that are compared.
use Rattle.std.proofs.Common.{◌≡◌, ℕ, Bool, true, false, ◌||◌, List, [], ◌∷◌, refl, sym, ap, ◌∙◌, rules}
use Rattle.std.specs.Prelude.{bytes_eq}
use Rattle.std.specs.List.{list_any}
use Rattle.std.proofs.lemmas.Slice.Eq.{bytes_eq-Decides}
use Rattle.std.proofs.lemmas.List.Folds.{list_any-append}
use Rattle.file_info.specs.declared.node.NodeName.{NodeName}
use Rattle.file_info.specs.declared.node.NodeName.TheVariants.{Path, Virtual}
use Rattle.build_manifest.specs.declared.command.Command.{Command}
use Rattle.build_manifest.specs.Places.{is_node, makes}
use Rattle.build_manifest.specs.Places.{all_outputs, all_deps}

pub same_bytes : (p q : List ℕ) → bytes_eq p q ≡ true → p ≡ q
same_bytes p q e = (bytes_eq-Decides p q).0 e

pub bytes_same : (p : List ℕ) → bytes_eq p p ≡ true
bytes_same p = (bytes_eq-Decides p p).1 refl

pub bytes_swap : (p q : List ℕ) → bytes_eq p q ≡ bytes_eq q p
bytes_swap p q = go (bytes_eq p q) (bytes_eq q p) refl refl
  where
    go : (b c : Bool) → bytes_eq p q ≡ b → bytes_eq q p ≡ c → bytes_eq p q ≡ bytes_eq q p
    go true c e f = e ∙ sym ((bytes_eq-Decides q p).1 (sym (same_bytes p q e)))
    go false true e f = (bytes_eq-Decides p q).1 (sym (same_bytes q p f)) ∙ sym f
    go false false e f = e ∙ sym f

pub node_swap : (p q : NodeName) → is_node p q ≡ is_node q p
node_swap (Path p) (Path q) = bytes_swap p q
node_swap (Path p) (Virtual o) = refl
node_swap (Virtual n) (Path q) = refl
node_swap (Virtual n) (Virtual o) = bytes_swap n o

pub same_node : (p q : NodeName) → is_node p q ≡ true → p ≡ q
same_node (Path p) (Path q) e = ap Path (same_bytes p q e)
same_node (Path p) (Virtual o) e = absurd (search (rules))
same_node (Virtual n) (Path q) e = absurd (search (rules))
same_node (Virtual n) (Virtual o) e = ap Virtual (same_bytes n o e)

-- a node is an output of one of the commands where one of them makes it
pub is_output : (n : NodeName) (cs : List Command) → list_any (is_node n) (all_outputs cs) ≡ list_any (makes n) cs
is_output n [] = refl
is_output n (c ∷ cs) = list_any-append (is_node n) c.outputs (all_outputs cs) ∙ ap (λ (b : Bool). makes n c || b) (is_output n cs)

-- a path is a dependency file of one of the commands where one of them names it
pub is_named : (p : List ℕ) (cs : List Command) → list_any (bytes_eq p) (all_deps cs) ≡ list_any (λ (c : Command). list_any (bytes_eq p) c.deps) cs
is_named p [] = refl
is_named p (c ∷ cs) =
    list_any-append (bytes_eq p) c.deps (all_deps cs) ∙ ap (λ (b : Bool). list_any (bytes_eq p) c.deps || b) (is_named p cs)
