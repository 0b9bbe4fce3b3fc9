-- Each text that is read spells its tree.
use Rattle.std.proofs.Common.{◌≡◌, inl, inr, ℕ, Bool, true, false, ◌&&◌, ◌==◌, cond, nat_lt, [], ◌∷◌, ◌++◌, length, drop, Option, Some, None, Result, Ok, Err, refl, sym, ap, subst, ◌∙◌}
use Rattle.std.specs.Prelude.{IfOk}
use Rattle.std.specs.Str.{is_utf8}
use Rattle.std.proofs.lemmas.Bool.{eqb-true}
use Rattle.yaml_profile.specs.declared.fault.Refusal.{Refusal}
use Rattle.yaml_profile.specs.declared.error.YamlError.{YamlError}
use Rattle.yaml_profile.specs.declared.yaml.Yaml.{Yaml}
use Rattle.yaml_profile.specs.Text.{Text, sees}
use Rattle.yaml_profile.specs.Block.{Line, line_from, is_three, is_marker, next_line, ends_node, block, root, begun, ended, document}
use Rattle.yaml_profile.specs.Read.{yaml_of, placed}
use Rattle.yaml_profile.specs.Space.{◌and_then◌, IsPassed, IsIndent, ToEnd}
use Rattle.yaml_profile.specs.Spells.{IsBlock, IsMarked, IsStart, IsEmpty, Spells, node, empty}
use Rattle.yaml_profile.proofs.FineLemmas.{bind, choose, first_of_both, second_of_both}
use Rattle.yaml_profile.proofs.SpellsPartLemmas.{Cuts, chain, widen, append_nil, mapped}
use Rattle.yaml_profile.proofs.SpellsLineLemmas.{Begun, Leads, first_line, next_read}
use Rattle.yaml_profile.proofs.SpellsBlockLemmas.{NodeEnds, Dashed, block_read}

-- a part to the end of the text, and back
to_end : {P : Text → Type 0} (t : Text) → P t → Cuts P t []
to_end t p = record { part = t; whole = append_nil t; holds = p }

all_of : (P : Text → Type 0) (t : Text) → Cuts P t [] → P t
all_of P t c = subst P (sym (c.whole ∙ sym (append_nil c.part))) c.holds

-- ---- the first line

-- what stands before the first node
abbrev Started : Text → Option Line → Type 0
Started t None = IsEmpty t
Started t (Some l) = Cuts (IsStart l.0) t l.1 × (is_marker l ≡ false)

abbrev Three : Text → Type 0
Three s = s ≡ 45 ∷ 45 ∷ 45 ∷ []

three_cut : (t : Text) → is_three 45 t ≡ true → Cuts Three t (drop 3 t)
three_cut [] e = absurd cc
three_cut (a ∷ []) e = absurd (none (second_of_both (a == 45) false
    (first_of_both ((a == 45) && false) false (first_of_both (((a == 45) && false) && false) true e))))
  where
    none : false ≡ true → ⊥
    none f = cc
three_cut (a ∷ b ∷ []) e = absurd (none (second_of_both ((a == 45) && (b == 45)) false (first_of_both (((a == 45) && (b == 45)) && false) true e)))
  where
    none : false ≡ true → ⊥
    none f = cc
three_cut (a ∷ b ∷ c ∷ t) e =
    let front = first_of_both ((((a == 45) && (b == 45)) && (c == 45))) _ e in
    let two = first_of_both ((a == 45) && (b == 45)) (c == 45) front in
    let is_a = eqb-true a 45 (first_of_both (a == 45) (b == 45) two) in
    let is_b = eqb-true b 45 (second_of_both (a == 45) (b == 45) two) in
    let is_c = eqb-true c 45 (second_of_both ((a == 45) && (b == 45)) (c == 45) front) in
    record {
      part = a ∷ b ∷ c ∷ [];
      whole = refl;
      holds = ap (λ (x : ℕ). x ∷ b ∷ c ∷ []) is_a ∙ ap (λ (x : ℕ). 45 ∷ x ∷ c ∷ []) is_b ∙ ap (λ (x : ℕ). 45 ∷ 45 ∷ x ∷ []) is_c;
    }

passed_cut : (t : Text) (l : Line) → l.0 ≡ 0 → Cuts (IsIndent l.0) t l.1 → Cuts IsPassed t l.1
passed_cut t l e c = let P : ℕ → Type 0 = λ k. Cuts (IsIndent k) t l.1 in widen only (subst P e c)
  where
    only : (s : Text) → IsIndent 0 s → IsPassed s
    only s h = let P : Text → Type 0 = λ x. IsPassed x in subst P
        (sym (h.parts ∙ ap (λ (x : Text). h.first ++ x) h.is_second ∙ sym (append_nil h.first))) h.is_first

after_marker : (t : Text) (l : Line) (next : Option Line) → Cuts IsPassed t l.1 → Cuts Three l.1 (drop 3 l.1) → Leads (drop 3 l.1) next
    → Started t next
after_marker t l None p c h = let Q : Text → Type 0 = λ s. ToEnd s in inr
    (all_of (IsMarked ToEnd) t (chain p (chain c (to_end {P = Q} (drop 3 l.1) h))))
after_marker t l (Some m) p c h = (widen (λ s k. inr k) (chain p (chain c h.0)), h.1)

begun_read : (t : Text) (next : Option Line) → Begun t next → IfOk (begun next) (Started t)
begun_read t None h = inl h
begun_read t (Some l) h =
    choose (Started t) (l.0 == 0 && is_three 45 l.1) _ _
    (λ e. choose (Started t) (ends_node (drop 3 l.1)) _ _
    (λ f. mapped (Leads (drop 3 l.1)) (Started t) (next_line (drop 3 l.1))
    (λ next k. after_marker t l next (passed_cut t l (eqb-true l.0 0 (first_of_both (l.0 == 0) (is_three 45 l.1) e)) h)
    (three_cut l.1 (second_of_both (l.0 == 0) (is_three 45 l.1) e)) k)
    (next_read (drop 3 l.1) f)) (λ _. tt))
    (λ _. choose (Started t) (is_marker l) _ _ (λ _. tt) (λ f. (widen (λ s k. inl k) h, f)))

-- ---- the outermost node

abbrev Rooted : Text → Yaml × Option Line → Type 0
Rooted t (tree, None) = Spells tree t
Rooted t (tree, Some l) = Unit {0}

node_spells : (t : Text) (l : Line) (x : Yaml × Option Line) → Cuts (IsStart l.0) t l.1 → NodeEnds (Dashed (IsBlock 64) l) l.1 x → Rooted t x
node_spells t l (tree, None) s h =
    let P : Text → Type 0 = IsBlock 64 l.0 tree in
    let Q : Text → Type 0 = λ e. ToEnd e in
    let text : Cuts P l.1 h.after = widen (λ s k. k.0) h.node in
    node l.0 (all_of (IsStart l.0 and_then P and_then Q) t (chain s (chain text (to_end {P = Q} h.after h.leads))))
node_spells t l (tree, Some m) s h = tt

root_read : (t : Text) (next : Option Line) → Started t next → IfOk (root next) (Rooted t)
root_read t None h = empty refl h
root_read t (Some l) h =
    choose (Rooted t) (l.0 == 0 && sees 37 l.1) _ _ (λ _. tt)
    (λ _. mapped (NodeEnds (Dashed (IsBlock 64) l) l.1) (Rooted t) (block 64 false l) (λ x k. node_spells t l x h.0 k) (block_read 64 false l h.1))

abbrev Spelled : Text → Yaml → Type 0
Spelled t tree = Spells tree t

ended_read : (t : Text) (x : Yaml × Option Line) → Rooted t x → IfOk (ended x) (Spelled t)
ended_read t (tree, None) h = h
ended_read t (tree, Some l) h = tt

document_read : (t : Text) → IfOk (document t) (Spelled t)
unfolding document
document_read t =
    bind (Begun t) (Spelled t) (line_from (Some 0) t) _ (first_line t)
    (λ first h. bind (Started t) (Spelled t) (begun first) _ (begun_read t first h)
    (λ next k. bind (Rooted t) (Spelled t) (root next) ended (root_read t next k) (ended_read t)))

pub document_spells : (t : Text) (tree : Yaml) → document t ≡ Ok tree → Spells tree t
document_spells t tree e = let P : Result Yaml Refusal → Type 0 = λ o. IfOk o (Spelled t) in subst P e (document_read t)

-- ---- a text

placed_read : (t : Text) (o : Result Yaml Refusal) → IfOk o (Spelled t) → IfOk (placed t o) (Spelled t)
placed_read t (Ok tree) h = h
placed_read t (Err refusal) h = tt

answered : (t : Text) (c : Bool) (x y : Result Yaml YamlError) → IfOk x (Spelled t) → IfOk y (Spelled t) → IfOk (cond c x y) (Spelled t)
answered t true x y p q = p
answered t false x y p q = q

text_read : (t : Text) → IfOk (yaml_of t) (Spelled t)
unfolding yaml_of
text_read t =
    answered t (nat_lt 67108864 (length t)) (Err _) (cond (is_utf8 t) (placed t (document t)) (Err _)) tt
    (answered t (is_utf8 t) (placed t (document t)) (Err _) (placed_read t (document t) (document_read t)) tt)

pub read_spells : (t : Text) (tree : Yaml) → yaml_of t ≡ Ok tree → Spells tree t
read_spells t tree e = let P : Result Yaml YamlError → Type 0 = λ o. IfOk o (Spelled t) in subst P e (text_read t)
