-- The rules over the commands of a manifest, as facts.
use Rattle.std.proofs.Common.{◌≡◌, ℕ, zero, suc, Bool, true, false, not, ◌&&◌, List, [], ◌∷◌, ◌++◌, refl, sym, ap, ◌∙◌, subst, inl, inr, rules}
use Rattle.std.specs.Prelude.{slice_get, Some, bytes_eq}
use Rattle.std.specs.List.{list_any}
use Rattle.std.proofs.lemmas.Slice.Eq.{bytes_eq-Decides}
use Rattle.file_info.specs.Lists.{In, IsDistinct}
use Rattle.file_info.specs.declared.node.NodeName.{NodeName}
use Rattle.file_info.specs.declared.node.NodeName.TheVariants.{Path, Virtual}
use Rattle.outside.specs.OrderForm.{paths_of}
use Rattle.file_info.proofs.Lists.{In-get, In-left, In-right, any-in}
use Rattle.build_manifest.specs.declared.command.Command.{Command}
use Rattle.build_manifest.specs.Distinct.{differ}
use Rattle.build_manifest.specs.Manifest.{IsManifest, ManifestLists}
use Rattle.build_manifest.specs.Places.{is_node, all_outputs, command_names}
use Rattle.build_meaning.specs.Unique.{HasOneMaker}
use Rattle.build_meaning.specs.Orderly.{AreOrderly}

both : (a b : Bool) → (a && b) ≡ true → (a ≡ true) × (b ≡ true)
both true b e = (refl, e)
both false b e = absurd (search (rules))

not_both : (b : Bool) → not b ≡ true → b ≡ true → ⊥
not_both true n e = search (rules)
not_both false n e = search (rules)

-- two equal nodes are one
pub node_itself : (n : NodeName) → is_node n n ≡ true
node_itself (Path p) = (bytes_eq-Decides p p).1 refl
node_itself (Virtual p) = (bytes_eq-Decides p p).1 refl

distinct_of : {A : Type 0} (same : A → A → Bool) → ((x : A) → same x x ≡ true) → (xs : List A) → differ same xs ≡ true → IsDistinct xs
distinct_of same alike [] h = tt
distinct_of same alike (x ∷ xs) h =
    let parts = both (not (list_any (same x) xs)) (differ same xs) h in
    (λ i. not_both (list_any (same x) xs) parts.0 (any-in (same x) xs x i (alike x)), distinct_of same alike xs parts.1)

distinct_left : {A : Type 0} (xs ys : List A) → IsDistinct (xs ++ ys) → IsDistinct xs
distinct_left [] ys d = tt
distinct_left (x ∷ xs) ys d = (λ i. d.0 (In-left x xs ys i), distinct_left xs ys d.1)

distinct_right : {A : Type 0} (xs ys : List A) → IsDistinct (xs ++ ys) → IsDistinct ys
distinct_right [] ys d = d
distinct_right (x ∷ xs) ys d = distinct_right xs ys d.1

distinct_apart : {A : Type 0} (xs ys : List A) (x : A) → IsDistinct (xs ++ ys) → In x xs → In x ys → ⊥
distinct_apart [] ys x d i j = i
distinct_apart (y ∷ xs) ys x d (inl e) j = d.0 (In-right y xs ys (subst (λ z. In z ys) e j))
distinct_apart (y ∷ xs) ys x d (inr i) j = distinct_apart xs ys x d.1 i j

-- an item of different ones has one place
pub one_place : {A : Type 0} (xs : List A) (k j : ℕ) (x : A) → IsDistinct xs → slice_get xs k ≡ Some x → slice_get xs j ≡ Some x → k ≡ j
one_place [] k j x d e f = cc e
one_place (y ∷ xs) zero zero x d e f = refl
one_place (y ∷ xs) zero (suc j) x d e f = let same : x ≡ y = cc e in absurd (d.0 (subst (λ z. In z xs) same (In-get xs j x f)))
one_place (y ∷ xs) (suc k) zero x d e f = let same : x ≡ y = cc f in absurd (d.0 (subst (λ z. In z xs) same (In-get xs k x e)))
one_place (y ∷ xs) (suc k) (suc j) x d e f = ap suc (one_place xs k j x d.1 e f)

path_in : (ns : List NodeName) (p : List ℕ) → In p (paths_of ns) → In (Path p) ns
path_in [] p i = i
path_in (Path q ∷ ns) p (inl e) = inl (ap Path e)
path_in (Path q ∷ ns) p (inr i) = inr (path_in ns p i)
path_in (Virtual q ∷ ns) p i = inr (path_in ns p i)

in_path : (ns : List NodeName) (p : List ℕ) → In (Path p) ns → In p (paths_of ns)
in_path [] p i = i
in_path (Path q ∷ ns) p (inl e) = let same : p ≡ q = cc e in inl same
in_path (Path q ∷ ns) p (inr i) = inr (in_path ns p i)
in_path (Virtual q ∷ ns) p (inl e) = cc e
in_path (Virtual q ∷ ns) p (inr i) = in_path ns p i

-- a path among the outputs is an output
pub made_path : (c : Command) (p : List ℕ) → In p (paths_of c.outputs) → In (Path p) c.outputs
made_path c p i = path_in c.outputs p i

-- an output that is a path is among the paths
pub path_made : (c : Command) (p : List ℕ) → In (Path p) c.outputs → In p (paths_of c.outputs)
path_made c p i = in_path c.outputs p i

distinct_paths : (ns : List NodeName) → IsDistinct ns → IsDistinct (paths_of ns)
distinct_paths [] d = tt
distinct_paths (Path p ∷ ns) d = (λ i. d.0 (path_in ns p i), distinct_paths ns d.1)
distinct_paths (Virtual p ∷ ns) d = distinct_paths ns d.1

output_in : (cs : List Command) (c : Command) (n : NodeName) → In c cs → In n c.outputs → In n (all_outputs cs)
output_in [] c n i o = absurd i
output_in (d ∷ cs) c n (inl e) o = In-left n d.outputs (all_outputs cs) (subst (λ (z : Command). In n z.outputs) e o)
output_in (d ∷ cs) c n (inr i) o = In-right n d.outputs (all_outputs cs) (output_in cs c n i o)

distinct_outputs : (cs : List Command) (c : Command) → IsDistinct (all_outputs cs) → In c cs → IsDistinct c.outputs
distinct_outputs [] c d i = absurd i
distinct_outputs (b ∷ cs) c d (inl e) = subst (λ (z : Command). IsDistinct z.outputs) (sym e) (distinct_left b.outputs (all_outputs cs) d)
distinct_outputs (b ∷ cs) c d (inr i) = distinct_outputs cs c (distinct_right b.outputs (all_outputs cs) d) i

-- two makers of a node are one command
pub same_maker : (cs : List Command) (c e : Command) (n : NodeName) → IsDistinct (all_outputs cs) → In c cs → In e cs → In n c.outputs → In n e.outputs → c ≡ e
same_maker [] c e n d i j o q = absurd i
same_maker (b ∷ cs) c e n d (inl f) (inl g) o q = f ∙ sym g
same_maker (b ∷ cs) c e n d (inl f) (inr j) o q =
    absurd (distinct_apart b.outputs (all_outputs cs) n d (subst (λ (z : Command). In n z.outputs) f o) (output_in cs e n j q))
same_maker (b ∷ cs) c e n d (inr i) (inl g) o q =
    absurd (distinct_apart b.outputs (all_outputs cs) n d (subst (λ (z : Command). In n z.outputs) g q) (output_in cs c n i o))
same_maker (b ∷ cs) c e n d (inr i) (inr j) o q = same_maker cs c e n (distinct_right b.outputs (all_outputs cs) d) i j o q

one_maker : (cs : List Command) → IsDistinct (all_outputs cs) → HasOneMaker cs
one_maker cs d c e k j p i f at at' =
    let o : In (Path p) c.outputs = made_path c p (In-get (paths_of c.outputs) k p at) in
    let q : In (Path p) e.outputs = made_path e p (In-get (paths_of e.outputs) j p at') in
    let same : c ≡ e = same_maker cs c e (Path p) d i f o q in
    (same, one_place (paths_of e.outputs) k j p (distinct_paths e.outputs (distinct_outputs cs e d f)) (ap (λ (z : Command). slice_get (paths_of z.outputs) k) (sym same) ∙ at) at')

-- no node is an output twice
pub outputs_once : (m : ManifestLists) → IsManifest m → IsDistinct (all_outputs m.commands)
outputs_once m h = distinct_of is_node node_itself (all_outputs m.commands) h.one_maker

-- the commands of a manifest are orderly
pub orderly : (m : ManifestLists) → IsManifest m → AreOrderly m.commands
orderly m h =
    let once = outputs_once m h in
    record {
      names = distinct_of bytes_eq (λ n. (bytes_eq-Decides n n).1 refl) (command_names m.commands) h.parts.command_names;
      makers = one_maker m.commands once;
      outputs = λ c i. distinct_paths c.outputs (distinct_outputs m.commands c once i);
    }
