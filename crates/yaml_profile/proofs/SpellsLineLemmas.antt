-- Lines that are passed over are such texts.
use Rattle.std.proofs.Common.{◌≡◌, ◌⊎◌, inl, inr, ℕ, zero, suc, ◌+◌, ◌<◌, Bool, true, false, ◌&&◌, ◌||◌, ◌==◌, cond, [], ◌∷◌, ◌++◌, length, replicate, Option, Some, None, Result, Ok, refl, sym, ap, subst, ◌∙◌, append_assoc, arith}
use Rattle.std.specs.Prelude.{IfOk}
use Rattle.std.proofs.lemmas.Bool.{eqb-true}
use Rattle.std.proofs.lemmas.Grind.{common_steps}
use Rattle.yaml_profile.specs.declared.fault.Refusal.{Refusal}
use Rattle.yaml_profile.specs.Text.{Text, ◌>>=◌, sees, is_white, ends_line, past_white}
use Rattle.yaml_profile.specs.Block.{Line, is_blank, line_from, is_marker, without_marker, next_line, ends_node}
use Rattle.yaml_profile.specs.Tree.{Each}
use Rattle.yaml_profile.specs.Space.{◌and_then◌, none, more, IsWhite, IsSomeWhite, IsBreak, IsComment, IsLineRest, IsBlankLine, IsIndent, ToLine, IsBlankEnd, ToEnd}
use Rattle.yaml_profile.proofs.FineLemmas.{bind, choose, pick, either, first_of_both, second_of_both}
use Rattle.yaml_profile.proofs.SpellsPartLemmas.{Cuts, both_parts, chain, widen, no_part, seen_byte, mapped}

abbrev Lines : Type 0
Lines = Result (Option Line) Refusal

-- ---- the end of a line

-- a line that is so and its break, and the next line
record Passes (P : Text → Type 0) (t : Text) : Type 0 where
  rest : Text
  over : Cuts (P and_then IsBreak) t rest
  goes_on : line_from None t ≡ line_from (Some 0) rest
  shorter : length rest < length t

-- the line is so, whether the text ends with it or goes on
abbrev Ends : (Text → Type 0) → Text → Type 0
Ends P t = (P t × (line_from None t ≡ Ok None)) ⊎ Passes P t

-- one byte more at the line's start
longer : (P Q : Text → Type 0) (b : ℕ) (t : Text) → (b == 10) ≡ false → ((s : Text) → P s → Q (b ∷ s)) → Ends P t → Ends Q (b ∷ t)
unfolding line_from
longer P Q b t e f (inl h) =
    let R : Option ℕ → Type 0 = λ o. line_from o t ≡ Ok None in
    inl (f t h.0, pick R (b == 10) (Some 0) None (λ k. absurd (differ k e)) (λ _. h.1))
  where
    differ : {c : Bool} → c ≡ true → c ≡ false → ⊥
    differ x y = cc
longer P Q b t e f (inr h) =
    let R : Option ℕ → Type 0 = λ o. line_from o t ≡ line_from (Some 0) h.rest in
    inr (record {
      rest = h.rest;
      over = record {
        part = b ∷ h.over.part;
        whole = ap (λ (s : Text). b ∷ s) h.over.whole;
        holds = record {
          first = b ∷ h.over.holds.first;
          second = h.over.holds.second;
          parts = ap (λ (s : Text). b ∷ s) h.over.holds.parts;
          is_first = f h.over.holds.first h.over.holds.is_first;
          is_second = h.over.holds.is_second;
        };
      };
      goes_on = pick R (b == 10) (Some 0) None (λ k. absurd (differ k e)) (λ _. h.goes_on);
      shorter = let less = h.shorter in omega arith;
    })
  where
    differ : {c : Bool} → c ≡ true → c ≡ false → ⊥
    differ x y = cc

at_feed : (P : Text → Type 0) (b : ℕ) (t : Text) → P [] → (b == 10) ≡ true → Passes P (b ∷ t)
unfolding line_from
at_feed P b t p e = record {
  rest = t;
  over = chain (no_part (b ∷ t) p) (widen (λ s h. inl h) (seen_byte 10 (b ∷ t) e));
  goes_on = let R : Bool → Type 0 = λ c. line_from (cond c (Some 0) None) t ≡ line_from (Some 0) t in subst R (sym e) refl;
  shorter = omega arith;
}

at_return : (P : Text → Type 0) (b : ℕ) (t : Text) → P [] → (b == 13) ≡ true → sees 10 t ≡ true → Passes P (b ∷ t)
unfolding line_from
at_return P b [] p e f = absurd cc
at_return P b (c ∷ t) p e f =
    let R : ℕ → Type 0 = λ d. line_from None (d ∷ c ∷ t) ≡ line_from (Some 0) t in
    let R' : ℕ → Type 0 = λ d. line_from None (13 ∷ d ∷ t) ≡ line_from (Some 0) t in
    record {
      rest = t;
      over = chain (no_part (b ∷ c ∷ t) p) (widen (λ s h. inr h) (chain (seen_byte 13 (b ∷ c ∷ t) e) (seen_byte 10 (c ∷ t) f)));
      goes_on = subst R (sym (eqb-true b 13 e)) (subst R' (sym (eqb-true c 10 f)) refl);
      shorter = omega arith;
    }

-- at a line's end
at_end : (P : Text → Type 0) (t : Text) → P [] → ends_line t ≡ true → Ends P t
unfolding line_from
at_end P [] p e = inl (p, refl)
at_end P (b ∷ t) p e =
    inr (either (b == 10) (b == 13 && sees 10 t) (at_feed P b t p)
    (λ f. at_return P b t p (first_of_both (b == 13) (sees 10 t) f) (second_of_both (b == 13) (sees 10 t) f)) e)

abbrev NoBreak : Text → Type 0
NoBreak s = Each (λ c. (c == 10) ≡ false) s

comment_ends : (t : Text) → Ends NoBreak t
unfolding line_from
comment_ends [] = inl (tt, refl)
comment_ends (b ∷ t) =
    let P : Text → Type 0 = λ s. Ends NoBreak s in
    go (b == 10) refl (comment_ends t)
  where
    go : (c : Bool) → (b == 10) ≡ c → Ends NoBreak t → Ends NoBreak (b ∷ t)
    go true e h = inr (at_feed NoBreak b t tt e)
    go false e h = longer NoBreak NoBreak b t e (λ s k. (e, k)) h

not_feed : (b c : ℕ) → (b == c) ≡ true → (c == 10) ≡ false → (b == 10) ≡ false
not_feed b c e f = ap (λ (x : ℕ). x == 10) (eqb-true b c e) ∙ f

white_not_feed : (b : ℕ) → is_white b ≡ true → (b == 10) ≡ false
white_not_feed b h = either (b == 32) (b == 9) (λ e. not_feed b 32 e refl) (λ e. not_feed b 9 e refl) h

-- a byte of white space before a line with no node in it
white_more : (First : Text → Type 0) (b : ℕ) (s : Text) → is_white b ≡ true → ((t : Text) → IsWhite t → First (b ∷ t)) → IsBlankLine s
    → IsWhite (b ∷ s) ⊎ (First and_then IsComment) (b ∷ s)
white_more First b s e before (inl h) = inl (e, h)
white_more First b s e before (inr h) =
    inr (record {
      first = b ∷ h.first;
      second = h.second;
      parts = ap (λ (x : Text). b ∷ x) h.parts;
      is_first = before h.first h.is_first;
      is_second = h.is_second;
    })

white_blank : (b : ℕ) (s : Text) → is_white b ≡ true → IsBlankLine s → IsBlankLine (b ∷ s)
white_blank b s e h = white_more IsWhite b s e (λ t w. (e, w)) h

white_rest : (b : ℕ) (s : Text) → is_white b ≡ true → IsBlankLine s → IsLineRest (b ∷ s)
white_rest b s e h = white_more IsSomeWhite b s e (λ t w. (e, w)) h

comment_blank : (b : ℕ) (s : Text) → b ≡ 35 → NoBreak s → IsBlankLine (b ∷ s)
comment_blank b s e h = inr (record { first = []; second = b ∷ s; parts = refl; is_first = tt; is_second = (e, h) })

blank_ends : (t : Text) → is_blank t ≡ true → Ends IsBlankLine t
unfolding past_white
blank_ends [] e = at_end IsBlankLine [] (inl tt) refl
blank_ends (b ∷ t) e = go (is_white b) refl e (blank_ends t)
  where
    go : (c : Bool) → is_white b ≡ c → (ends_line (cond c (past_white t) (b ∷ t)) || sees 35 (cond c (past_white t) (b ∷ t))) ≡ true
        → (is_blank t ≡ true → Ends IsBlankLine t) → Ends IsBlankLine (b ∷ t)
    go true w k h = longer IsBlankLine IsBlankLine b t (white_not_feed b w) (λ s. white_blank b s w) (h k)
    go false w k h =
        either (ends_line (b ∷ t)) (b == 35) (at_end IsBlankLine (b ∷ t) (inl tt))
        (λ f. longer NoBreak IsBlankLine b t (not_feed b 35 f refl) (λ s. comment_blank b s (eqb-true b 35 f)) (comment_ends t)) k

node_ends : (t : Text) → ends_node t ≡ true → Ends IsLineRest t
unfolding past_white
node_ends [] e = at_end IsLineRest [] (inl tt) refl
node_ends (b ∷ t) e = go (is_white b) refl e
  where
    go : (c : Bool) → is_white b ≡ c → (ends_line (cond c (past_white t) (b ∷ t)) || (c && sees 35 (cond c (past_white t) (b ∷ t)))) ≡ true
        → Ends IsLineRest (b ∷ t)
    go true w k = longer IsBlankLine IsLineRest b t (white_not_feed b w) (λ s. white_rest b s w) (blank_ends t k)
    go false w k = at_end IsLineRest (b ∷ t) (inl tt) (either (ends_line (b ∷ t)) false (λ f. f) (λ f. absurd cc) k)

-- ---- lines

-- what stands before the next line, or before the text's end, from the start of a line
abbrev pub Begun : Text → Option Line → Type 0
Begun t None = IsBlankEnd t
Begun t (Some l) = Cuts (IsIndent l.0) t l.1

-- and from the end of a node
abbrev pub Leads : Text → Option Line → Type 0
Leads t None = ToEnd t
Leads t (Some l) = Cuts (ToLine l.0) t l.1 × (is_marker l ≡ false)

more_end : (s t : Text) → (IsBlankLine and_then IsBreak) s → IsBlankEnd t → IsBlankEnd (s ++ t)
more_end s t p h = record {
  first = s ++ h.first;
  second = h.second;
  parts = ap (λ (x : Text). s ++ x) h.parts ∙ sym (append_assoc s h.first h.second);
  is_first = more s h.first p h.is_first refl;
  is_second = h.is_second;
}

more_lines : (s t : Text) (next : Option Line) → (IsBlankLine and_then IsBreak) s → Begun t next → Begun (s ++ t) next
more_lines s t None p h = more_end s t p h
more_lines s t (Some l) p h = record {
  part = s ++ h.part;
  whole = ap (λ (x : Text). s ++ x) h.whole ∙ sym (append_assoc s h.part l.1);
  holds = record {
    first = s ++ h.holds.first;
    second = h.holds.second;
    parts = ap (λ (x : Text). s ++ x) h.holds.parts ∙ sym (append_assoc s h.holds.first h.holds.second);
    is_first = more s h.holds.first p h.holds.is_first refl;
    is_second = h.holds.is_second;
  };
}

-- so many spaces
abbrev spaces : ℕ → Text
spaces k = replicate k 32

spaces_more : (k : ℕ) (t : Text) → spaces (k + 1) ++ t ≡ spaces k ++ 32 ∷ t
spaces_more k t = grind (arith, common_steps)

spaces_white : (k : ℕ) (s : Text) → IsBlankLine s → IsBlankLine (spaces k ++ s)
spaces_white zero s h = h
spaces_white (suc k) s h = white_blank 32 (spaces k ++ s) refl (spaces_white k s h)

spaces_line : (k : ℕ) (s : Text) → (IsBlankLine and_then IsBreak) s → (IsBlankLine and_then IsBreak) (spaces k ++ s)
spaces_line k s h = record {
  first = spaces k ++ h.first;
  second = h.second;
  parts = ap (λ (x : Text). spaces k ++ x) h.parts ∙ sym (append_assoc (spaces k) h.first h.second);
  is_first = spaces_white k h.first h.is_first;
  is_second = h.is_second;
}

abbrev LinesRead : Text → Lines → Type 0
LinesRead t o = IfOk o (Begun t)

only_blank : (t : Text) → IsBlankLine t → IsBlankEnd t
only_blank t h = record { first = []; second = t; parts = refl; is_first = none; is_second = h }

line_over : (k : ℕ) (t : Text) → Ends IsBlankLine t → ((rest : Text) → length rest < length t → LinesRead rest (line_from (Some 0) rest))
    → LinesRead (spaces k ++ t) (line_from None t)
line_over k t (inl h) go_on =
    let P : Lines → Type 0 = λ o. LinesRead (spaces k ++ t) o in subst P (sym h.1) (only_blank (spaces k ++ t) (spaces_white k t h.0))
line_over k t (inr h) go_on =
    let P : Lines → Type 0 = λ o. LinesRead (spaces k ++ t) o in
    let R : Option Line → Text → Type 0 = λ next s. Begun s next in
    let same : (spaces k ++ h.over.part) ++ h.rest ≡ spaces k ++ t = append_assoc (spaces k) h.over.part h.rest
    ∙ ap (λ (x : Text). spaces k ++ x) (sym h.over.whole) in
    subst P (sym h.goes_on) (mapped (Begun h.rest) (Begun (spaces k ++ t)) (line_from (Some 0) h.rest)
    (λ next p. subst (R next) same (more_lines (spaces k ++ h.over.part) h.rest next (spaces_line k h.over.part h.over.holds) p))
    (go_on h.rest h.shorter))

lines_read : (n k : ℕ) (t : Text) → length t < n → LinesRead (spaces k ++ t) (line_from (Some k) t)
unfolding line_from
lines_read zero k t less = absurd (omega arith)
lines_read (suc n) k [] less = only_blank (spaces k ++ []) (spaces_white k [] (inl tt))
lines_read (suc n) k (b ∷ t) less =
    let full : Text = spaces k ++ b ∷ t in
    choose (Begun full) (b == 32) _ _
    (λ e.
    let P : Text → Type 0 = λ s. LinesRead s (line_from (Some (k + 1)) t) in
    subst P (spaces_more k t ∙ ap (λ (c : ℕ). spaces k ++ c ∷ t) (sym (eqb-true b 32 e))) (lines_read n (k + 1) t (omega arith)))
    (λ _. choose (Begun full) (is_blank (b ∷ t)) _ _
    (λ e. line_over k (b ∷ t) (blank_ends (b ∷ t) e) (λ rest shorter. lines_read n 0 rest (omega arith)))
    (λ _. choose (Begun full) (b == 9) _ _ (λ _. tt)
    (λ _. record { part = spaces k; whole = refl; holds = record { first = []; second = spaces k; parts = refl; is_first = none; is_second = refl } })))

-- the first line of a text
pub first_line : (t : Text) → IfOk (line_from (Some 0) t) (Begun t)
first_line t = lines_read (suc (length t)) 0 t (omega arith)

-- ---- the line after a node

end_after : (s t : Text) → (IsLineRest and_then IsBreak) s → IsBlankEnd t → ToEnd (s ++ t)
end_after s t p h = inr (record {
  first = p.first;
  second = p.second ++ t;
  parts = ap (λ (x : Text). x ++ t) p.parts ∙ append_assoc p.first p.second t;
  is_first = p.is_first;
  is_second = both_parts p.second t p.is_second h;
})

line_after : (s t : Text) (next : Option Line) → (IsLineRest and_then IsBreak) s → Begun t next → IfOk (without_marker next) (Leads (s ++ t))
line_after s t None p h = end_after s t p h
line_after s t (Some l) p h =
    choose (Leads (s ++ t)) (is_marker l) _ _ (λ _. tt)
    (λ e. (
      record {
        part = s ++ h.part;
        whole = ap (λ (x : Text). s ++ x) h.whole ∙ sym (append_assoc s h.part l.1);
        holds = record {
          first = p.first;
          second = p.second ++ h.part;
          parts = ap (λ (x : Text). x ++ h.part) p.parts ∙ append_assoc p.first p.second h.part;
          is_first = p.is_first;
          is_second = both_parts p.second h.part p.is_second h.holds;
        };
      },
      e,
    ))

next_over : (t : Text) → Ends IsLineRest t → IfOk (next_line t) (Leads t)
unfolding next_line
next_over t (inl h) = let P : Lines → Type 0 = λ o. IfOk (o >>= without_marker) (Leads t) in subst P (sym h.1) (inl h.0)
next_over t (inr h) =
    let P : Lines → Type 0 = λ o. IfOk (o >>= without_marker) (Leads t) in
    let R : Text → Type 0 = λ s. IfOk (line_from (Some 0) h.rest >>= without_marker) (Leads s) in
    subst P (sym h.goes_on) (subst R (sym h.over.whole)
    (bind (Begun h.rest) (Leads (h.over.part ++ h.rest)) (line_from (Some 0) h.rest) without_marker (first_line h.rest)
    (λ next p. line_after h.over.part h.rest next h.over.holds p)))

pub next_read : (t : Text) → ends_node t ≡ true → IfOk (next_line t) (Leads t)
next_read t e = next_over t (node_ends t e)
