-- Nodes and keys: what is read is what was spelled, and nothing else.
use Rattle.std.proofs.Common.{◌≡◌, ℕ, ◌-◌, List, [], ◌∷◌, ◌++◌, drop, length, Some, None, eqb, refl, sym, ◌∙◌, ap, arith, length-append, append-nil}
use Rattle.std.specs.Str.{is_utf8}
use Rattle.std.proofs.lemmas.Bool.{eqb-true}
use Rattle.std.proofs.Math.Seq.{drop-append_seam}
use Rattle.file_info.specs.declared.node.NodeName.{NodeName}
use Rattle.file_info.specs.declared.node.NodeName.TheVariants.{Path, Virtual}
use Rattle.spelling.specs.Spelling.{text_bytes, list_bytes, node_bytes}
use Rattle.build_keys.specs.Keys.{IsShort, ArePatterns, IsNode, IsKey, HasPatterns, is_name, is_path, key_bytes}
use Rattle.build_keys.specs.Reading.{IsRead, Reads, passing_at, one_in, two_in}
use Rattle.build_keys.specs.KeyReading.{BeginsWith, patterns_at, node_at, key_at}
use Rattle.build_keys.specs.declared.key.Key.{Key}
use Rattle.build_keys.specs.declared.key.Key.TheVariants.{Target, Command, Node, Contents, Tree, Structure}
use Rattle.build_keys.proofs.OptionLemmas.{either, first-same, second-same}
use Rattle.build_keys.proofs.TextLemmas.{passing-reads}
use Rattle.build_keys.proofs.ItemLemmas.{list-reads}
use Rattle.build_keys.proofs.VariantLemmas.{OnlyAfter, one-back, one-only, two-back, two-only}

name-reads : Reads text_bytes (IsShort is_name) (passing_at is_name)
name-reads = passing-reads is_name

pub path-reads : Reads text_bytes (IsShort is_path) (passing_at is_path)
path-reads = passing-reads is_path

pub patterns-read : Reads (list_bytes text_bytes) ArePatterns patterns_at
patterns-read = list-reads text_bytes (IsShort is_utf8) (passing_at is_utf8) (passing-reads is_utf8)

node-back : (node : NodeName) (rest : List ℕ) → IsNode node → node_at (node_bytes node ++ rest) ≡ Some (node, rest)
unfolding node_at
node-back (Path path) rest h = one-back Path text_bytes (IsShort is_path) (passing_at is_path) path-reads path rest h
node-back (Virtual name) rest h = one-back Virtual text_bytes (IsShort is_name) (passing_at is_name) name-reads name rest h

node-only : (bytes : List ℕ) (node : NodeName) (rest : List ℕ) → node_at bytes ≡ Some (node, rest) → IsRead node_bytes IsNode bytes node rest
unfolding node_at
node-only [] node rest e = cc e
node-only (tag ∷ bytes) node rest e =
    either (eqb tag 0) _ _ (node, rest)
    (λ t. one-only 0 Path text_bytes (IsShort is_path) (passing_at is_path) node_bytes IsNode path-reads (record { bytes = λ _. refl; has_one = λ _ h. h })
    tag bytes node rest (eqb-true tag 0 t))
    (either (eqb tag 1) _ _ (node, rest)
    (λ t. one-only 1 Virtual text_bytes (IsShort is_name) (passing_at is_name) node_bytes IsNode name-reads (record { bytes = λ _. refl; has_one = λ _ h. h })
    tag bytes node rest (eqb-true tag 1 t))
    (λ f. cc f)) e

node-reads : Reads node_bytes IsNode node_at
node-reads = record { back = node-back; only = node-only }

key-back : (key : Key) (rest : List ℕ) → IsKey key → key_at (key_bytes key ++ rest) ≡ Some (key, rest)
unfolding key_at
key-back (Target name) rest h = one-back Target text_bytes (IsShort is_name) (passing_at is_name) name-reads name rest h
key-back (Command name) rest h = one-back Command text_bytes (IsShort is_name) (passing_at is_name) name-reads name rest h
key-back (Node node) rest h = one-back Node node_bytes IsNode node_at node-reads node rest h
key-back (Contents path) rest h = one-back Contents text_bytes (IsShort is_path) (passing_at is_path) path-reads path rest h
key-back (Tree path patterns) rest h =
    two-back Tree text_bytes (IsShort is_path) (passing_at is_path) (list_bytes text_bytes) ArePatterns patterns_at path-reads patterns-read path patterns rest h.0 h.1
key-back (Structure path patterns) rest h =
    two-back Structure text_bytes (IsShort is_path) (passing_at is_path) (list_bytes text_bytes) ArePatterns patterns_at path-reads patterns-read path patterns rest h.0 h.1

-- what was read as a key of a name, of a path, and of a path and patterns
named-only : (number : ℕ) (made : List ℕ → Key) → ((text : List ℕ) → key_bytes (made text) ≡ number ∷ text_bytes text)
    → ((text : List ℕ) → IsShort is_name text → IsKey (made text))
    → OnlyAfter number key_bytes IsKey (one_in made (passing_at is_name))
named-only number made b h =
    one-only number made text_bytes (IsShort is_name) (passing_at is_name) key_bytes IsKey name-reads (record { bytes = b; has_one = h })

listed-only : (number : ℕ) (made : List ℕ → List (List ℕ) → Key)
    → ((path : List ℕ) (patterns : List (List ℕ)) → key_bytes (made path patterns) ≡ number ∷ text_bytes path ++ list_bytes text_bytes patterns)
    → ((path : List ℕ) (patterns : List (List ℕ)) → IsShort is_path path → ArePatterns patterns → IsKey (made path patterns))
    → OnlyAfter number key_bytes IsKey (two_in made (passing_at is_path) patterns_at)
listed-only number made b h =
    two-only number made text_bytes (IsShort is_path) (passing_at is_path) (list_bytes text_bytes) ArePatterns patterns_at key_bytes IsKey path-reads patterns-read
    (record { bytes = b; has_one = h })

key-only : (bytes : List ℕ) (key : Key) (rest : List ℕ) → key_at bytes ≡ Some (key, rest) → IsRead key_bytes IsKey bytes key rest
unfolding key_at
key-only [] key rest e = cc e
key-only (tag ∷ bytes) key rest e =
    either (eqb tag 1) _ _ (key, rest) (λ t. named-only 1 Target (λ _. refl) (λ _ h. h) tag bytes key rest (eqb-true tag 1 t))
    (either (eqb tag 2) _ _ (key, rest) (λ t. named-only 2 Command (λ _. refl) (λ _ h. h) tag bytes key rest (eqb-true tag 2 t))
    (either (eqb tag 3) _ _ (key, rest)
    (λ t. one-only 3 Node node_bytes IsNode node_at key_bytes IsKey node-reads (record { bytes = λ _. refl; has_one = λ _ h. h }) tag bytes key rest (eqb-true tag 3 t))
    (either (eqb tag 4) _ _ (key, rest)
    (λ t. one-only 4 Contents text_bytes (IsShort is_path) (passing_at is_path) key_bytes IsKey path-reads (record { bytes = λ _. refl; has_one = λ _ h. h })
    tag bytes key rest (eqb-true tag 4 t))
    (either (eqb tag 5) _ _ (key, rest) (λ t. listed-only 5 Tree (λ _ _. refl) (λ _ _ h k. (h, k)) tag bytes key rest (eqb-true tag 5 t))
    (either (eqb tag 6) _ _ (key, rest) (λ t. listed-only 6 Structure (λ _ _. refl) (λ _ _ h k. (h, k)) tag bytes key rest (eqb-true tag 6 t))
    (λ f. cc f)))))) e

pub key-reads : Reads key_bytes IsKey key_at
key-reads = record { back = key-back; only = key-only }

-- the key that was read, and its length
pub key-begins : (bytes : List ℕ) (key : Key) (rest : List ℕ) → key_at bytes ≡ Some (key, rest) → BeginsWith bytes key (length bytes - length rest)
key-begins bytes key rest e =
    let read = key-only bytes key rest e in
    let long : length bytes - length rest ≡ length (key_bytes key) = omega (arith, ap length read.whole, length-append (key_bytes key) rest) in
    let left : drop (length bytes - length rest) bytes ≡ rest =
    ap (λ n. drop n bytes) long ∙ ap (drop (length (key_bytes key))) read.whole ∙ drop-append_seam (key_bytes key) rest in
    record { is = read.has_one; spelled = read.whole ∙ ap (λ z. key_bytes key ++ z) (sym left); length_is = long }

-- bytes of which no key was read begin with no spelling
pub key-none : (bytes : List ℕ) → key_at bytes ≡ None → (key : Key) (rest : List ℕ) → IsKey key → bytes ≡ key_bytes key ++ rest → ⊥
key-none bytes e key rest h s = let both = sym e ∙ ap key_at s ∙ key-back key rest h in cc both

-- the same bytes begin with the spellings of two keys
pub key-once : (a b : Key) (r s : List ℕ) → IsKey a → IsKey b → key_bytes a ++ r ≡ key_bytes b ++ s → (a ≡ b) × (r ≡ s)
key-once a b r s h k e =
    let both = sym (key-back a r h) ∙ ap key_at e ∙ key-back b s k in
    (first-same a b r s both, second-same a b r s both)

pub key-alone : (a b : Key) → IsKey a → IsKey b → key_bytes a ≡ key_bytes b → a ≡ b
key-alone a b h k e = (key-once a b [] [] h k (ap (λ z. z ++ []) e)).0

pub key-no-prefix : (a b : Key) (r : List ℕ) → IsKey a → IsKey b → key_bytes a ++ r ≡ key_bytes b → r ≡ []
key-no-prefix a b r h k e = (key-once a b r [] h k (e ∙ sym (append-nil (key_bytes b)))).1

pub key-patterns : (key : Key) → IsKey key → HasPatterns key
key-patterns (Target name) h = tt
key-patterns (Command name) h = tt
key-patterns (Node node) h = tt
key-patterns (Contents path) h = tt
key-patterns (Tree path patterns) h = h.1
key-patterns (Structure path patterns) h = h.1
