-- Whether keys are one: exactly where they are equal.
use Rattle.std.proofs.Common.{◌≡◌, ◌↔◌, ℕ, Bool, true, false, IsTrue, List, [], ◌∷◌, refl, ap, sym, ◌∙◌}
use Rattle.std.specs.Prelude.{◌&&◌, ◌++◌}
use Rattle.std.specs.Bool.{Decides}
use Rattle.std.specs.Hash as fed
use Rattle.file_info.specs.Content.{same_list}
use Rattle.file_info.specs.declared.node.NodeName.{NodeName}
use Rattle.file_info.specs.declared.node.NodeName.TheVariants.{Path, Virtual}
use Rattle.file_info.proofs.Lists.{same_list-refl, same_list-true}
use Rattle.build_keys.specs.declared.key.Key.{Key}
use Rattle.build_keys.specs.declared.key.Key.TheVariants.{Target, Command, Node, Contents, Tree, Structure}
use Rattle.build_keys.specs.Keys.{tag_of}
use Rattle.build_keys.specs.SameKey.{same_texts, is_node, is_key, key_text}

texts-refl : (xs : List (List ℕ)) → same_texts xs xs ≡ true
texts-refl [] = refl
texts-refl (x ∷ xs) = rw (same_list-refl x) (texts-refl xs)

texts-true : (xs ys : List (List ℕ)) → same_texts xs ys ≡ true → xs ≡ ys
texts-true [] [] e = refl
texts-true [] (y ∷ ys) e = cc e
texts-true (x ∷ xs) [] e = cc e
texts-true (x ∷ xs) (y ∷ ys) e = go (same_list x y) refl e (texts-true xs ys)
  where
    go : (b : Bool) → same_list x y ≡ b → (b && same_texts xs ys) ≡ true → (same_texts xs ys ≡ true → xs ≡ ys) → x ∷ xs ≡ y ∷ ys
    go true h f ih = (let first : x ≡ y = same_list-true x y h in let rest : xs ≡ ys = ih f in cc)
    go false h f ih = cc f

node-refl : (n : NodeName) → is_node n n ≡ true
node-refl (Path p) = same_list-refl p
node-refl (Virtual n) = same_list-refl n

node-true : (m n : NodeName) → is_node m n ≡ true → m ≡ n
node-true (Path p) (Path q) e = ap Path (same_list-true p q e)
node-true (Virtual m) (Virtual n) e = ap Virtual (same_list-true m n e)
node-true (Path p) (Virtual n) e = cc e
node-true (Virtual m) (Path q) e = cc e

listed-refl : (p : List ℕ) (ps : List (List ℕ)) → (same_list p p && same_texts ps ps) ≡ true
listed-refl p ps = rw (same_list-refl p) (texts-refl ps)

listed-true : (made : List ℕ → List (List ℕ) → Key) (p q : List ℕ) (ps qs : List (List ℕ)) → (same_list p q && same_texts ps qs) ≡ true
    → made p ps ≡ made q qs
listed-true made p q ps qs e = go (same_list p q) refl e
  where
    go : (b : Bool) → same_list p q ≡ b → (b && same_texts ps qs) ≡ true → made p ps ≡ made q qs
    go true h f = (let first : p ≡ q = same_list-true p q h in let rest : ps ≡ qs = texts-true ps qs f in cc)
    go false h f = cc f

pub key-refl : (k : Key) → is_key k k ≡ true
key-refl (Target n) = same_list-refl n
key-refl (Command n) = same_list-refl n
key-refl (Node n) = node-refl n
key-refl (Contents p) = same_list-refl p
key-refl (Tree p ps) = listed-refl p ps
key-refl (Structure p ps) = listed-refl p ps

pub key-true : (a b : Key) → is_key a b ≡ true → a ≡ b
key-true (Target m) (Target n) e = ap Target (same_list-true m n e)
key-true (Command m) (Command n) e = ap Command (same_list-true m n e)
key-true (Node m) (Node n) e = ap Node (node-true m n e)
key-true (Contents p) (Contents q) e = ap Contents (same_list-true p q e)
key-true (Tree p ps) (Tree q qs) e = listed-true Tree p q ps qs e
key-true (Structure p ps) (Structure q qs) e = listed-true Structure p q ps qs e
key-true _ _ e = cc e

-- keys that are not equal are told apart
pub key-false : (a b : Key) → (a ≡ b → ⊥) → is_key a b ≡ false
key-false a b apart = go (is_key a b) refl
  where
    go : (c : Bool) → is_key a b ≡ c → is_key a b ≡ false
    go true e = absurd (apart (key-true a b e))
    go false e = e

pub key-Decides : (a b : Key) → Decides (is_key a b) (a ≡ b)
key-Decides a b = (key-true a b, λ e. ap (is_key a) (sym e) ∙ key-refl a)

-- equal keys are hashed alike
pub same-hash : (a b : Key) → IsTrue (is_key a b) → fed.u8 (tag_of a) ++ fed.str (key_text a) ≡ fed.u8 (tag_of b) ++ fed.str (key_text b)
same-hash a b e = ap (λ k. fed.u8 (tag_of k) ++ fed.str (key_text k)) (key-true a b e)

-- a test of equality tells whether keys are one
pub key-decides : (a b : Key) (test : Bool) → IsTrue test ↔ (a ≡ b) → test ≡ is_key a b
key-decides a b true h = sym (ap (λ z. is_key a z) (sym (h.0 refl)) ∙ key-refl a)
key-decides a b false h = sym (key-false a b (λ e. (let f : false ≡ true = h.1 e in cc f)))
