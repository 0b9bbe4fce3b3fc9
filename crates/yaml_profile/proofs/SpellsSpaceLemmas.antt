-- White, comments and breaks that are read are such texts.
use Rattle.std.proofs.Common.{◌≡◌, ◌⊎◌, inl, inr, ℕ, Bool, true, false, ◌&&◌, ◌||◌, ◌==◌, cond, [], ◌∷◌, ◌++◌, drop, Option, Some, None, refl, sym, ap, subst, ◌∙◌, append_assoc}
use Rattle.std.proofs.lemmas.Bool.{eqb-true}
use Rattle.yaml_profile.specs.declared.text.Between.{Between}
use Rattle.yaml_profile.specs.declared.text.Between.TheVariants.{AfterByte, AfterWhite, InComment}
use Rattle.yaml_profile.specs.Text.{Text, sees, is_white, ends_line, is_gap, past_white, past_space, spaced}
use Rattle.yaml_profile.specs.Tree.{Each}
use Rattle.yaml_profile.specs.Space.{◌and_then◌, Many, none, more, Is, IsWhite, IsSomeWhite, IsBreak, IsComment, IsGap, IsGapOrComment, IsSpace}
use Rattle.yaml_profile.proofs.FineLemmas.{pick, either, first_of_both, second_of_both}
use Rattle.yaml_profile.proofs.SpellsPartLemmas.{Cuts, both_parts, chain, widen, no_part, seen_byte, many_append, IsFull}

-- ---- white

pub white_more : (b : ℕ) (t u : Text) → is_white b ≡ true → Cuts IsWhite t u → Cuts IsWhite (b ∷ t) u
white_more b t u e p = record { part = b ∷ p.part; whole = ap (λ (s : Text). b ∷ s) p.whole; holds = (e, p.holds) }

pub white_cut : (t : Text) → Cuts IsWhite t (past_white t)
unfolding past_white
white_cut [] = no_part [] tt
white_cut (b ∷ t) =
    let P : Text → Type 0 = λ s. Cuts IsWhite (b ∷ t) s in
    pick P (is_white b) (past_white t) (b ∷ t) (λ h. white_more b t (past_white t) h (white_cut t)) (λ _. no_part (b ∷ t) tt)

-- ---- between the items of a flow collection

abbrev NoBreak : Text → Type 0
NoBreak s = Each (λ c. (c == 10) ≡ false) s

-- the rest of a comment with its break, and what follows
abbrev CommentRest : Text → Type 0
CommentRest s = (NoBreak and_then Is 10 and_then Many IsGapOrComment) s

abbrev Held : Between → Text → Text → Type 0
Held InComment t u = Cuts CommentRest t u
Held AfterWhite t u = Cuts (Many IsGapOrComment) t u
Held AfterByte t u = ((t ≡ u) × (is_gap t ≡ false)) ⊎ Cuts (IsGap and_then Many IsGapOrComment) t u

comment_more : (b : ℕ) (t u : Text) → (b == 10) ≡ false → Cuts CommentRest t u → Cuts CommentRest (b ∷ t) u
comment_more b t u e p = record {
  part = b ∷ p.part;
  whole = ap (λ (s : Text). b ∷ s) p.whole;
  holds = record {
    first = b ∷ p.holds.first;
    second = p.holds.second;
    parts = ap (λ (s : Text). b ∷ s) p.holds.parts;
    is_first = (e, p.holds.is_first);
    is_second = p.holds.is_second;
  };
}

comment_end : (b : ℕ) (t u : Text) → (b == 10) ≡ true → Cuts (Many IsGapOrComment) t u → Cuts CommentRest (b ∷ t) u
comment_end b t u e p = chain (no_part (b ∷ t) tt) (chain (seen_byte 10 (b ∷ t) e) p)

-- a comment from its first byte
comment_begin : (b : ℕ) (t u : Text) → (b == 35) ≡ true → Cuts CommentRest t u → Cuts (Many IsGapOrComment) (b ∷ t) u
comment_begin b t u e p =
    let h = p.holds in record {
      part = b ∷ p.part;
      whole = ap (λ (s : Text). b ∷ s) p.whole;
      holds = more ((b ∷ h.first) ++ h.is_second.first) h.is_second.second
          (inr (both_parts {P = IsComment} {Q = IsBreak} (b ∷ h.first) h.is_second.first (eqb-true b 35 e, h.is_first)
          (inl h.is_second.is_first))) h.is_second.is_second
          (ap (λ (s : Text). b ∷ s) (h.parts ∙ ap (λ (s : Text). h.first ++ s) h.is_second.parts
          ∙ sym (append_assoc h.first h.is_second.first h.is_second.second)));
    }

white_gap : (b : ℕ) (t : Text) → is_white b ≡ true → Cuts IsGap (b ∷ t) t
white_gap b t e = record { part = b ∷ []; whole = refl; holds = inl (e, tt) }

break_gap : (b : ℕ) (t : Text) → (b == 10) ≡ true → Cuts IsGap (b ∷ t) t
break_gap b t e = widen (λ s h. inr (inl h)) (seen_byte 10 (b ∷ t) e)

two_gap : (b : ℕ) (t : Text) → (b == 13) ≡ true → sees 10 t ≡ true → Cuts IsGap (b ∷ t) (drop 1 t)
two_gap b t e f = widen (λ s h. inr (inr h)) (chain (seen_byte 13 (b ∷ t) e) (seen_byte 10 t f))

after_break : (t : Text) → sees 10 t ≡ true → past_space AfterWhite t ≡ past_space AfterWhite (drop 1 t)
unfolding past_space
after_break [] e = absurd cc
after_break (b ∷ t) e = let P : ℕ → Type 0 = λ c. past_space AfterWhite (c ∷ t) ≡ past_space AfterWhite t in subst P (sym (eqb-true b 10 e)) refl

-- a gap, and what follows it
gap_first : (b : ℕ) (t : Text) → is_gap (b ∷ t) ≡ true → (IsFull (past_space AfterWhite t) → Held AfterWhite t (past_space AfterWhite t))
    → (IsFull (past_space AfterWhite (drop 1 t)) → Held AfterWhite (drop 1 t) (past_space AfterWhite (drop 1 t))) → IsFull (past_space AfterWhite t)
    → Cuts (IsGap and_then Many IsGapOrComment) (b ∷ t) (past_space AfterWhite t)
gap_first b t e p q full =
    either (is_white b) (ends_line (b ∷ t)) (λ f. chain (white_gap b t f) (p full))
    (λ f. either (b == 10) (b == 13 && sees 10 t) (λ g. chain (break_gap b t g) (p full))
    (λ g.
    let two = second_of_both (b == 13) (sees 10 t) g in
    let P : Text → Type 0 = λ s. (IsFull s → Cuts (IsGap and_then Many IsGapOrComment) (b ∷ t) s) in
    subst P (sym (after_break t two)) (λ k. chain (two_gap b t (first_of_both (b == 13) (sees 10 t) g) two) (q k)) full) f) e

many_gap : (t u : Text) → Cuts (IsGap and_then Many IsGapOrComment) t u → Cuts (Many IsGapOrComment) t u
many_gap t u p = record {
  part = p.part;
  whole = p.whole;
  holds = more p.holds.first p.holds.second
      (inl p.holds.is_first) p.holds.is_second p.holds.parts;
}

-- what holds of the state that a byte leads to leads to what holds here
abbrev Goes : Between → Text → Type 0
Goes now t = IsFull (past_space now t) → Held now t (past_space now t)

abbrev Stops : Between → Text → Text → Type 0
Stops now t u = IsFull u → Held now t u

space_step : (now : Between) (b : ℕ) (t : Text) → ((next : Between) → Goes next t) → Goes AfterWhite (drop 1 t) → Goes now (b ∷ t)
unfolding past_space
space_step InComment b t p q =
    let P : Between → Type 0 = λ next. Stops InComment (b ∷ t) (past_space next t) in
    pick P (b == 10) AfterWhite InComment (λ e full. comment_end b t (past_space AfterWhite t) e (p AfterWhite full))
    (λ e full. comment_more b t (past_space InComment t) e (p InComment full))
space_step AfterWhite b t p q =
    let P : Option Between → Type 0 = λ o. Stops AfterWhite (b ∷ t) (elim o [ None ↦ b ∷ t | Some next ↦ past_space next t ]) in
    pick P (is_gap (b ∷ t)) (Some AfterWhite) (cond (b == 35) (Some InComment) None)
    (λ e full. many_gap (b ∷ t) (past_space AfterWhite t) (gap_first b t e (p AfterWhite) q full))
    (λ _. pick P (b == 35) (Some InComment) None (λ e full. comment_begin b t (past_space InComment t) e (p InComment full))
    (λ _ _. no_part (b ∷ t) none))
space_step AfterByte b t p q =
    let P : Option Between → Type 0 = λ o. Stops AfterByte (b ∷ t) (elim o [ None ↦ b ∷ t | Some next ↦ past_space next t ]) in
    pick P (is_gap (b ∷ t)) (Some AfterWhite) None (λ e full. inr (gap_first b t e (p AfterWhite) q full)) (λ e _. inl (refl, e))

empty_goes : (now : Between) → Goes now []
unfolding past_space
empty_goes now full = absurd (full refl)

space_goes : (t : Text) → ((now : Between) → Goes now t) × Goes AfterWhite (drop 1 t)
space_goes [] = (empty_goes, empty_goes AfterWhite)
space_goes (b ∷ t) = let more = space_goes t in (λ now. space_step now b t more.0 more.1, more.0 AfterWhite)

-- the space before a text that is not empty: none, and no gap stands there, or a gap and more
pub space_cases : (t : Text) → IsFull (spaced t) → ((t ≡ spaced t) × (is_gap t ≡ false)) ⊎ Cuts (IsGap and_then Many IsGapOrComment) t (spaced t)
space_cases t full = (space_goes t).0 AfterByte full

as_space : (t u : Text) → ((t ≡ u) × (is_gap t ≡ false)) ⊎ Cuts (IsGap and_then Many IsGapOrComment) t u → Cuts IsSpace t u
as_space t u (inl h) = record { part = []; whole = h.0; holds = inl refl }
as_space t u (inr p) = widen (λ s h. inr h) p

pub space_cut : (t : Text) → IsFull (spaced t) → Cuts IsSpace t (spaced t)
space_cut t full = as_space t (spaced t) (space_cases t full)

many_space : (s : Text) → IsSpace s → Many IsGapOrComment s
many_space s (inl e) = let P : Text → Type 0 = λ x. Many IsGapOrComment x in subst P (sym e) none
many_space s (inr h) = more h.first h.second (inl h.is_first) h.is_second h.parts

pub space_append : (s t : Text) → IsSpace s → IsSpace t → IsSpace (s ++ t)
space_append s t (inl e) k = let P : Text → Type 0 = λ x. IsSpace (x ++ t) in subst P (sym e) k
space_append s t (inr h) k = inr (record {
  first = h.first;
  second = h.second ++ t;
  parts = ap (λ (x : Text). x ++ t) h.parts ∙ append_assoc h.first h.second t;
  is_first = h.is_first;
  is_second = many_append h.is_second (many_space t k);
})

-- ---- gaps

pub white_begins : (s next : Text) → IsSomeWhite s → is_gap (s ++ next) ≡ true
white_begins [] next h = absurd h
white_begins (b ∷ s) next h = ap (λ (x : Bool). x || ends_line (b ∷ (s ++ next))) h.0

pub break_begins : (s next : Text) → IsBreak s → is_gap (s ++ next) ≡ true
break_begins s next (inl e) = ap (λ (x : Text). is_gap (x ++ next)) e
break_begins s next (inr h) =
    ap (λ (x : Text). is_gap (x ++ next)) (h.parts ∙ ap (λ (x : Text). x ++ h.second) h.is_first ∙ ap (λ (x : Text). 13 ∷ x) h.is_second)

pub gap_begins : (s next : Text) → IsGap s → is_gap (s ++ next) ≡ true
gap_begins s next (inl h) = white_begins s next h
gap_begins s next (inr h) = break_begins s next h
