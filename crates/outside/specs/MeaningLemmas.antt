-- Equal signatures below 2^32 bytes have equal meanings.
use Rattle.std.specs.Prelude.{◌≡◌, ◌<◌, ◌≤◌, ◌^◌, ℕ, Bool, List, [], ◌∷◌, ◌++◌, length}
use Rattle.std.proofs.Common.{sym, ◌∙◌, ap, subst, refl, arith, append_assoc, length-append}
use Rattle.file_info.specs.declared.node.NodeName.{NodeName}
use Rattle.outside.specs.declared.order.EnvText.{EnvText}
use Rattle.spelling.specs.Spelling.{flag_bytes, text_bytes, list_bytes, node_bytes}
use Rattle.spelling.specs.Splits.{Same, Splits}
use Rattle.spelling.proofs.SplitLemmas.{text-splits, texts-split, list-splits, node-splits, flag-splits, both-split, left-of, last-of}
use Rattle.outside.specs.Meaning.{InputKey, NodeKey, TreeKey, StructureKey, Meaning, key_bytes, env_bytes, group_of, tool_bytes, signature_of}
use Rattle.outside.specs.Meaning.{ToolMeaning, Phony, ShellWords, ShellLine, ShellSigned, MakesDirectory, MakesLink, Archives, RemovesStale}

key-splits : Splits key_bytes
key-splits = record { some = some-key; once = once-key }
  where
    some-key : (x : InputKey) → 1 ≤ length (key_bytes x)
    some-key (NodeKey n) = omega arith
    some-key (TreeKey p ps) = omega arith
    some-key (StructureKey p ps) = omega arith

    once-key : (x y : InputKey) (r s : List ℕ) → length (key_bytes x) < 2 ^ 32 → length (key_bytes y) < 2 ^ 32
        → key_bytes x ++ r ≡ key_bytes y ++ s → Same x y r s
    once-key (NodeKey m) (NodeKey n) r s h k e =
        let rest : node_bytes m ++ r ≡ node_bytes n ++ s = cc e in
        let same = node-splits.once m n r s (omega arith) (omega arith) rest in
        record { first = ap NodeKey same.first; rest = same.rest }
    once-key (TreeKey p ps) (TreeKey q qs) r s h k e =
        let rest : (text_bytes p ++ list_bytes text_bytes ps) ++ r ≡ (text_bytes q ++ list_bytes text_bytes qs) ++ s = cc e in
        let both = both-split text_bytes (list_bytes text_bytes) text-splits texts-split p q ps qs r s (omega arith) (omega arith) rest in
        let one : p ≡ q = both.0.first in
        let two : ps ≡ qs = both.1.first in
        record { first = cc (one, two); rest = both.1.rest }
    once-key (StructureKey p ps) (StructureKey q qs) r s h k e =
        let rest : (text_bytes p ++ list_bytes text_bytes ps) ++ r ≡ (text_bytes q ++ list_bytes text_bytes qs) ++ s = cc e in
        let both = both-split text_bytes (list_bytes text_bytes) text-splits texts-split p q ps qs r s (omega arith) (omega arith) rest in
        let one : p ≡ q = both.0.first in
        let two : ps ≡ qs = both.1.first in
        record { first = cc (one, two); rest = both.1.rest }
    once-key (NodeKey m) (TreeKey q qs) r s h k e = cc e
    once-key (NodeKey m) (StructureKey q qs) r s h k e = cc e
    once-key (TreeKey p ps) (NodeKey n) r s h k e = cc e
    once-key (TreeKey p ps) (StructureKey q qs) r s h k e = cc e
    once-key (StructureKey p ps) (NodeKey n) r s h k e = cc e
    once-key (StructureKey p ps) (TreeKey q qs) r s h k e = cc e

env-splits : Splits env_bytes
env-splits = record {
  some = λ x. omega (arith, text-splits.some x.name, length-append (text_bytes x.name) (text_bytes x.text));
  once = λ x y r s h k e.
      let both = both-split text_bytes text_bytes text-splits text-splits x.name y.name x.text y.text r s h k e in
      let one : x.name ≡ y.name = both.0.first in
      let two : x.text ≡ y.text = both.1.first in
      let made : List ℕ → List ℕ → EnvText = λ name text. record { name = name; text = text } in
      record { first = ap (λ name. made name x.text) one ∙ ap (made y.name) two; rest = both.1.rest };
}

envs-split : Splits (list_bytes env_bytes)
envs-split = list-splits env_bytes env-splits

abbrev Short : List ℕ → Type 0
Short text = length text < 2 ^ 32

three-right : (a b c : List ℕ) → a ++ b ++ c ≡ a ++ (b ++ c)
three-right a b c = append_assoc a b c

four-right : (a b c d : List ℕ) → a ++ b ++ c ++ d ≡ a ++ (b ++ (c ++ d))
four-right a b c d = simp append_assoc

six-right : (a b c d e f : List ℕ) → a ++ b ++ c ++ d ++ e ++ f ≡ a ++ (b ++ (c ++ (d ++ (e ++ f))))
six-right a b c d e f = simp append_assoc

-- the ends of two signatures of one group
flag-texts-same : (i j : Bool) (d e : List (List ℕ)) → length (flag_bytes i ++ list_bytes text_bytes d) < 2 ^ 32
    → flag_bytes i ++ list_bytes text_bytes d ≡ flag_bytes j ++ list_bytes text_bytes e → (i ≡ j) × (d ≡ e)
flag-texts-same i j d e h f =
    let flag = left-of flag_bytes flag-splits i j (list_bytes text_bytes d) (list_bytes text_bytes e) h f in
    (flag.first, last-of (list_bytes text_bytes) texts-split d e flag.short flag.rest)

words-same : (v w : List (List ℕ)) (x y : List EnvText) (i j : Bool) (d e : List (List ℕ))
    → length (list_bytes text_bytes v ++ list_bytes env_bytes x ++ flag_bytes i ++ list_bytes text_bytes d) < 2 ^ 32
    → list_bytes text_bytes v ++ list_bytes env_bytes x ++ flag_bytes i ++ list_bytes text_bytes d
    ≡ list_bytes text_bytes w ++ list_bytes env_bytes y ++ flag_bytes j ++ list_bytes text_bytes e
    → (v ≡ w) × (x ≡ y) × (i ≡ j) × (d ≡ e)
words-same v w x y i j d e h f =
    let right = four-right (list_bytes text_bytes v) (list_bytes env_bytes x) (flag_bytes i) (list_bytes text_bytes d) in
    let right' = four-right (list_bytes text_bytes w) (list_bytes env_bytes y) (flag_bytes j) (list_bytes text_bytes e) in
    let words = left-of (list_bytes text_bytes) texts-split v w _ _ (subst Short right h) (sym right ∙ f ∙ right') in
    let env = left-of (list_bytes env_bytes) envs-split x y _ _ words.short words.rest in
    let ends = flag-texts-same i j d e env.short env.rest in
    (words.first, env.first, ends.0, ends.1)

tools-same : (t u : ToolMeaning) → group_of t ≡ group_of u → length (tool_bytes t) < 2 ^ 32 → tool_bytes t ≡ tool_bytes u → t ≡ u
tools-same Phony Phony g h e = refl
tools-same (ShellWords v x i d) (ShellWords w y j q) g h e =
    let same = words-same v w x y i j d q (omega arith) (cc e) in
    cc (same.0, same.1, same.2, same.3)
tools-same (ShellLine v x i d) (ShellLine w y j q) g h e =
    let same = words-same (v ∷ []) (w ∷ []) x y i j d q (omega arith) (cc e) in
    let line : v ≡ w = cc same.0 in
    cc (line, same.1, same.2, same.3)
tools-same (ShellSigned v i d) (ShellSigned w j q) g h e =
    let tail : text_bytes v ++ flag_bytes i ++ list_bytes text_bytes d ≡ text_bytes w ++ flag_bytes j ++ list_bytes text_bytes q = cc e in
    let short : length (text_bytes v ++ flag_bytes i ++ list_bytes text_bytes d) < 2 ^ 32 = omega arith in
    let right = three-right (text_bytes v) (flag_bytes i) (list_bytes text_bytes d) in
    let right' = three-right (text_bytes w) (flag_bytes j) (list_bytes text_bytes q) in
    let text = left-of text_bytes text-splits v w _ _ (subst Short right short) (sym right ∙ tail ∙ right') in
    let ends = flag-texts-same i j d q text.short text.rest in
    cc (text.first, ends.0, ends.1)
tools-same (ShellWords v x i d) (ShellLine w y j q) g h e = cc e
tools-same (ShellWords v x i d) (ShellSigned w j q) g h e = cc e
tools-same (ShellLine v x i d) (ShellWords w y j q) g h e = cc e
tools-same (ShellLine v x i d) (ShellSigned w j q) g h e = cc e
tools-same (ShellSigned v i d) (ShellWords w y j q) g h e = cc e
tools-same (ShellSigned v i d) (ShellLine w y j q) g h e = cc e
tools-same MakesDirectory MakesDirectory g h e = refl
tools-same (MakesLink v) (MakesLink w) g h e = ap MakesLink (last-of text_bytes text-splits v w h e)
tools-same Archives Archives g h e = refl
tools-same (RemovesStale v x) (RemovesStale w y) g h e =
    let one = left-of (list_bytes text_bytes) texts-split v w (list_bytes text_bytes x) (list_bytes text_bytes y) h e in
    let two = last-of (list_bytes text_bytes) texts-split x y one.short one.rest in
    cc (one.first, two)
tools-same t u g h e = absurd (omega arith)

abbrev meaning_of : List InputKey → List InputKey → List NodeName → Bool → Bool → ToolMeaning → Meaning
meaning_of inputs follow outputs missing always tool =
    record { inputs = inputs; follow = follow; outputs = outputs; allow_missing = missing; always = always; tool = tool }

-- the right-hand parts of a signature
tail_bytes : Meaning → List ℕ
tail_bytes c =
    list_bytes key_bytes c.inputs ++ (list_bytes key_bytes c.follow ++ (list_bytes node_bytes c.outputs
    ++ (flag_bytes c.allow_missing ++ (flag_bytes c.always ++ tool_bytes c.tool))))

signature-tail : (c : Meaning) → signature_of c ≡ group_of c.tool ∷ tail_bytes c
unfolding signature_of tail_bytes
signature-tail c =
    ap (λ z. group_of c.tool ∷ z)
    (six-right (list_bytes key_bytes c.inputs) (list_bytes key_bytes c.follow) (list_bytes node_bytes c.outputs)
    (flag_bytes c.allow_missing) (flag_bytes c.always) (tool_bytes c.tool))

-- equal parts make equal wholes
joined : {A B C D E F G : Type 0} (f : A → B → C → D → E → F → G) {a a' : A} {b b' : B} {c c' : C} {d d' : D} {e e' : E} {g g' : F}
    → a ≡ a' → b ≡ b' → c ≡ c' → d ≡ d' → e ≡ e' → g ≡ g' → f a b c d e g ≡ f a' b' c' d' e' g'
joined f h i j k l m = cc

-- equal signatures below 2^32 bytes have equal meanings
pub signature-once : (a b : Meaning) → signature_of a ≡ signature_of b → length (signature_of a) < 2 ^ 32 → a ≡ b
unfolding tail_bytes
signature-once a b e h =
    let whole = sym (signature-tail a) ∙ e ∙ signature-tail b in
    let size = ap length (signature-tail a) in
    let group : group_of a.tool ≡ group_of b.tool = cc whole in
    let tail : tail_bytes a ≡ tail_bytes b = cc whole in
    let short : length (tail_bytes a) < 2 ^ 32 = omega arith in
    let inputs = left-of (list_bytes key_bytes) (list-splits key_bytes key-splits) a.inputs b.inputs _ _ short tail in
    let follow = left-of (list_bytes key_bytes) (list-splits key_bytes key-splits) a.follow b.follow _ _ inputs.short inputs.rest in
    let outputs = left-of (list_bytes node_bytes) (list-splits node_bytes node-splits) a.outputs b.outputs _ _ follow.short follow.rest in
    let missing = left-of flag_bytes flag-splits a.allow_missing b.allow_missing _ _ outputs.short outputs.rest in
    let always = left-of flag_bytes flag-splits a.always b.always _ _ missing.short missing.rest in
    let tool = tools-same a.tool b.tool group always.short always.rest in
    joined meaning_of inputs.first follow.first outputs.first missing.first always.first tool
