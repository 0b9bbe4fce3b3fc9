-- Each text that spells a tree is read as it.
use Rattle.std.proofs.Common.{◌≡◌, ◌⊎◌, inl, inr, ℕ, Bool, true, false, ◌&&◌, ◌==◌, [], ◌∷◌, ◌++◌, length, ◌≤◌, drop, Option, Some, None, Result, Ok, Err, refl, sym, ap, subst, ◌∙◌}
use Rattle.std.specs.Prelude.{IsUtf8}
use Rattle.yaml_profile.specs.declared.fault.Refusal.{Refusal}
use Rattle.yaml_profile.specs.declared.fault.Fault.TheVariants.{LeftOut, Syntax}
use Rattle.yaml_profile.specs.declared.error.Feature.TheVariants.{Directive}
use Rattle.yaml_profile.specs.declared.yaml.Yaml.{Yaml}
use Rattle.yaml_profile.specs.Text.{Text, ◌>>=◌, refuse, sees, is_gap, past_white}
use Rattle.yaml_profile.specs.Block.{Line, line_from, is_three, is_marker, without_marker, next_line, ends_node, block, root, behind_marker, begun, ended, document}
use Rattle.yaml_profile.specs.Read.{yaml_of, placed}
use Rattle.yaml_profile.specs.Space.{IsPassed, IsIndent, ToLine, ToEnd}
use Rattle.yaml_profile.specs.Spells.{IsMarked, IsStart, IsEmpty, Spells, node, empty}
use Rattle.yaml_profile.proofs.ReadLemmas.{placed_text}
use Rattle.yaml_profile.proofs.FineLemmas.{first_of_both}
use Rattle.yaml_profile.proofs.SpellsPartLemmas.{Cuts, append_nil}
use Rattle.yaml_profile.proofs.SpellsScalarLemmas.{left_true, both_true}
use Rattle.yaml_profile.proofs.SpellsKeyLemmas.{refuted}
use Rattle.yaml_profile.proofs.SpellsBlockLemmas.{node_gap}
use Rattle.yaml_profile.proofs.SpellsBackSpaceLemmas.{when_true, when_false, when_ok, split, IsStop, indent_over, blank_end, Led, line_led, end_led}
use Rattle.yaml_profile.proofs.SpellsBackBlockLemmas.{IsStart as IsLineStart}
use Rattle.yaml_profile.proofs.SpellsBackNodeLemmas.{block_starts, block_back}

all_cut : {P : Text → Type 0} (t : Text) → P t → Cuts P t []
all_cut t p = record { part = t; whole = append_nil t; holds = p }

abbrev First : Type 0
First = Result (Option Line) Refusal

-- the first line, after `---` or not
abbrev first_of : Text → First
first_of t = line_from (Some 0) t >>= begun

-- ---- without `---`

no_three : (column : ℕ) (t : Text) → is_marker (column, t) ≡ false → (column == 0 && is_three 45 t) ≡ false
no_three column t m =
    refuted (column == 0 && is_three 45 t) (is_marker (column, t))
    (λ e. both_true (column == 0) _ (first_of_both (column == 0) (is_three 45 t) e) (left_true (is_three 45 t) _ (behind (column == 0) e))) m
  where
    behind : (c : Bool) → (c && is_three 45 t) ≡ true → is_three 45 t ≡ true
    behind true e = e
    behind false e = absurd cc

plain_start : (column : ℕ) (t u : Text) → Cuts (IsIndent column) t u → IsLineStart column u → first_of t ≡ Ok (Some (column, u))
plain_start column t u c s =
    when_ok (line_from (Some 0) t) (Some (column, u)) begun (indent_over column t u c s.stop)
    ∙ when_false (column == 0 && is_three 45 u) (behind_marker (drop 3 u)) (without_marker (Some (column, u))) (no_three column u s.no_marker)
    ∙ when_false (is_marker (column, u)) _ (Ok (Some (column, u))) s.no_marker

-- ---- with it

abbrev Three : Text → Type 0
Three s = s ≡ 45 ∷ 45 ∷ 45 ∷ []

three_stop : (t : Text) → IsStop (45 ∷ t)
three_stop t = record { no_gap = refl; no_hash = refl }

passed_indent : (t u : Text) → Cuts IsPassed t u → Cuts (IsIndent 0) t u
passed_indent t u c = record { part = c.part; whole = c.whole; holds = record { first = c.part; second = []; parts = append_nil c.part; is_first = c.holds; is_second = refl } }

marked_start : (t u w : Text) (next : Option Line) → Cuts IsPassed t u → Cuts Three u w → Led w next → first_of t ≡ Ok next
marked_start t u w next p c l =
    let three : u ≡ 45 ∷ 45 ∷ 45 ∷ w = c.whole ∙ ap (λ (x : Text). x ++ w) c.holds in
    let P : Text → Type 0 = λ x. Cuts IsPassed t x in
    when_ok (line_from (Some 0) t) (Some (0, 45 ∷ 45 ∷ 45 ∷ w)) begun
    (indent_over 0 t (45 ∷ 45 ∷ 45 ∷ w) (passed_indent t (45 ∷ 45 ∷ 45 ∷ w) (subst P three p)) (three_stop (45 ∷ 45 ∷ w)))
    ∙ when_true (is_gap w) (behind_marker w) (without_marker (Some (0, 45 ∷ 45 ∷ 45 ∷ w))) (node_gap w l.ends)
    ∙ when_true (ends_node w) (next_line w) (refuse Syntax (past_white w)) l.ends ∙ l.line

-- ---- the outermost node

node_start : (column : ℕ) (t u : Text) → Cuts (IsStart column) t u → IsLineStart column u → first_of t ≡ Ok (Some (column, u))
node_start column t u c s = go c.part c.whole c.holds
  where
    go : (x : Text) → t ≡ x ++ u → IsIndent column x ⊎ IsMarked (ToLine column) x → first_of t ≡ Ok (Some (column, u))
    go x e (inl h) = plain_start column t u (record { part = x; whole = e; holds = h }) s
    go x e (inr h) =
        let k = split (record { part = x; whole = e; holds = h }) in
        let l = split k.back in
        marked_start t k.middle l.middle (Some (column, u)) k.front l.front (line_led column l.middle u l.back s.stop s.no_marker)

empty_start : (t : Text) → IsEmpty t → first_of t ≡ Ok None
empty_start t (inl h) = when_ok (line_from (Some 0) t) None begun (blank_end t h)
empty_start t (inr h) =
    let P : Text → Type 0 = λ x. IsMarked ToEnd x in
    let k = split (all_cut {P = P} t h) in
    let l = split k.back in
    let Q : Text → Type 0 = λ x. ToEnd x in
    marked_start t k.middle l.middle None k.front l.front
    (end_led l.middle (subst Q (sym (l.back.whole ∙ sym (append_nil l.back.part))) l.back.holds))

read_by : (t : Text) (next : Option Line) (tree : Yaml) → first_of t ≡ Ok next → (root next >>= ended) ≡ Ok tree → document t ≡ Ok tree
unfolding document
read_by t next tree e f = go (line_from (Some 0) t) refl
  where
    rest : Option Line → Result Yaml Refusal
    rest line = root line >>= ended

    go : (o : First) → line_from (Some 0) t ≡ o → (line_from (Some 0) t >>= λ first. begun first >>= λ line. root line >>= ended) ≡ Ok tree
    go (Ok first) k =
        ap (λ (r : First). r >>= λ x. begun x >>= λ line. root line >>= ended) k
        ∙ ap (λ (r : First). r >>= λ line. root line >>= ended) (ap (λ (r : First). r >>= begun) (sym k) ∙ e) ∙ f
    go (Err refusal) k = absurd (no (ap (λ (r : First). r >>= begun) (sym k) ∙ e))
      where
        no : {x : Refusal} {y : Option Line} → Err x ≡ Ok y → ⊥
        no g = cc

pub spelled_document : (t : Text) (tree : Yaml) → Spells tree t → document t ≡ Ok tree
spelled_document t tree (node column h) =
    let k = split (all_cut t h) in
    let l = split k.back in
    let Q : Text → Type 0 = λ x. ToEnd x in
    let led : Led l.middle None = end_led l.middle (subst Q (sym (l.back.whole ∙ sym (append_nil l.back.part))) l.back.holds) in
    let start = block_starts 64 column tree k.middle l.middle l.front led.ends in
    let text = k.middle in
    let percent : (column == 0 && sees 37 text) ≡ false = refuted (column == 0 && sees 37 text) (sees 37 text) (behind (column == 0)) start.percent in
    read_by t (Some (column, text)) tree (node_start column t text k.front start)
    (ap (λ (r : Result (Yaml × Option Line) Refusal). r >>= ended)
    (when_false (column == 0 && sees 37 text) (refuse (LeftOut Directive) text) (block 64 false (column, text)) percent
    ∙ block_back 64 false column tree text l.middle None l.front led tt (λ e. absurd cc)))
  where
    behind : {x : Bool} (c : Bool) → (c && x) ≡ true → x ≡ true
    behind true e = e
    behind false e = absurd cc
spelled_document t tree (empty e h) = read_by t None tree (empty_start t h) (ap (λ (x : Yaml). Ok x) (sym e))

pub spelled_read : (t : Text) (tree : Yaml) → length t ≤ 67108864 → IsUtf8 t → Spells tree t → yaml_of t ≡ Ok tree
spelled_read t tree fits u h = placed_text t fits u ∙ ap (placed t) (spelled_document t tree h)
