-- White, comments and breaks are passed where they are read.
use Rattle.std.proofs.Common.{◌≡◌, inl, inr, ℕ, zero, suc, ◌+◌, Bool, true, false, ◌&&◌, ◌||◌, ◌==◌, cond, [], ◌∷◌, ◌++◌, drop, replicate, Option, Some, None, Result, Ok, refl, sym, ap, subst, ◌∙◌, append_assoc, arith}
use Rattle.std.proofs.lemmas.Bool.{eqb-true}
use Rattle.yaml_profile.specs.declared.fault.Refusal.{Refusal}
use Rattle.yaml_profile.specs.declared.text.Between.{Between}
use Rattle.yaml_profile.specs.declared.text.Between.TheVariants.{AfterByte, AfterWhite, InComment}
use Rattle.yaml_profile.specs.Text.{Text, ◌>>=◌, sees, is_white, ends_line, is_gap, past_white, past_space, spaced}
use Rattle.yaml_profile.specs.Block.{Line, is_blank, passed, line_from, is_marker, without_marker, next_line, begins_white, ends_node}
use Rattle.yaml_profile.specs.Tree.{Each}
use Rattle.yaml_profile.specs.Space.{◌and_then◌, Many, none, more, Is, IsWhite, IsSomeWhite, IsBreak, IsComment, IsGap, IsGapOrComment, IsSpace, IsLineRest, IsBlankLine, IsPassed, IsIndent, ToLine, IsBlankEnd, ToEnd}
use Rattle.yaml_profile.proofs.FineLemmas.{either}
use Rattle.yaml_profile.proofs.SpellsPartLemmas.{Cuts, append_nil}
use Rattle.yaml_profile.proofs.SpellsScalarLemmas.{left_true, right_true, both_true, left_false, differ}

-- ---- choices

pub when_true : {A : Type 0} (c : Bool) (x y : A) → c ≡ true → cond c x y ≡ x
when_true c x y e = ap (λ (b : Bool). cond b x y) e

pub when_false : {A : Type 0} (c : Bool) (x y : A) → c ≡ false → cond c x y ≡ y
when_false c x y e = ap (λ (b : Bool). cond b x y) e

pub when_ok : {A B : Type 0} (o : Result A Refusal) (x : A) (f : A → Result B Refusal) → o ≡ Ok x → (o >>= f) ≡ f x
when_ok o x f e = ap (λ (r : Result _ Refusal). r >>= f) e

pub false_or : (x y : Bool) → x ≡ false → y ≡ false → (x || y) ≡ false
false_or x y e f = ap (λ (b : Bool). b || y) e ∙ f

pub right_false : (x y : Bool) → (x || y) ≡ false → y ≡ false
right_false true y e = absurd cc
right_false false y e = e

-- ---- parts

pub record Splits (P Q : Text → Type 0) (t rest : Text) : Type 0 where
  pub middle : Text
  pub front : Cuts P t middle
  pub back : Cuts Q middle rest

pub split : {P Q : Text → Type 0} {t rest : Text} → Cuts (P and_then Q) t rest → Splits P Q t rest
split {rest = rest} c = let h = c.holds in record {
  middle = h.second ++ rest;
  front = record { part = h.first; whole = c.whole ∙ ap (λ (s : Text). s ++ rest) h.parts ∙ append_assoc h.first h.second rest; holds = h.is_first };
  back = record { part = h.second; whole = refl; holds = h.is_second };
}

pub one_cut : {c : ℕ} {t rest : Text} → Cuts (Is c) t rest → t ≡ c ∷ rest
one_cut {rest = rest} k = k.whole ∙ ap (λ (s : Text). s ++ rest) k.holds

-- ---- white

pub white_over : (w t : Text) → IsWhite w → past_white (w ++ t) ≡ past_white t
unfolding past_white
white_over [] t h = refl
white_over (b ∷ w) t h = when_true (is_white b) (past_white (w ++ t)) (b ∷ (w ++ t)) h.0 ∙ white_over w t h.1

pub no_white : (t : Text) → begins_white t ≡ false → past_white t ≡ t
unfolding past_white
no_white [] e = refl
no_white (b ∷ t) e = when_false (is_white b) (past_white t) (b ∷ t) e

pub gapless : (t : Text) → is_gap t ≡ false → begins_white t ≡ false
gapless [] e = refl
gapless (b ∷ t) e = left_false (is_white b) _ e

-- what a node or a mark begins with
pub record IsStop (t : Text) : Type 0 where
  pub no_gap : is_gap t ≡ false
  pub no_hash : sees 35 t ≡ false

-- ---- between the items of a flow collection

stays : (t : Text) → IsStop t → past_space AfterWhite t ≡ t
unfolding past_space
stays [] s = refl
stays (b ∷ t) s =
    let go : Option Between → Text = λ o. elim o [ None ↦ b ∷ t | Some next ↦ past_space next t ] in
    ap go (when_false (is_gap (b ∷ t)) (Some AfterWhite) (cond (b == 35) (Some InComment) None) s.no_gap
    ∙ when_false (b == 35) (Some InComment) None s.no_hash)

byte_stays : (t : Text) → is_gap t ≡ false → past_space AfterByte t ≡ t
unfolding past_space
byte_stays [] e = refl
byte_stays (b ∷ t) e = let go : Option Between → Text = λ o. elim o [ None ↦ b ∷ t | Some next ↦ past_space next t ] in ap go
    (when_false (is_gap (b ∷ t)) (Some AfterWhite) None e)

space_white : (w t : Text) → IsWhite w → past_space AfterWhite (w ++ t) ≡ past_space AfterWhite t
unfolding past_space
space_white [] t h = refl
space_white (b ∷ w) t h =
    let go : Option Between → Text = λ o. elim o [ None ↦ b ∷ (w ++ t) | Some next ↦ past_space next (w ++ t) ] in
    ap go (when_true (is_gap (b ∷ (w ++ t))) (Some AfterWhite) (cond (b == 35) (Some InComment) None) (left_true (is_white b) _ h.0))
    ∙ space_white w t h.1

space_byte : (b : ℕ) (t : Text) → is_gap (b ∷ t) ≡ true → past_space AfterByte (b ∷ t) ≡ past_space AfterWhite t
unfolding past_space
space_byte b t e = let go : Option Between → Text = λ o. elim o [ None ↦ b ∷ t | Some next ↦ past_space next t ] in ap go
    (when_true (is_gap (b ∷ t)) (Some AfterWhite) None e)

space_break : (s t : Text) → IsBreak s → past_space AfterWhite (s ++ t) ≡ past_space AfterWhite t
unfolding past_space
space_break s t (inl e) = ap (λ (x : Text). past_space AfterWhite (x ++ t)) e
space_break s t (inr h) =
    ap (λ (x : Text). past_space AfterWhite (x ++ t)) (h.parts ∙ ap (λ (x : Text). x ++ h.second) h.is_first ∙ ap (λ (x : Text). 13 ∷ x) h.is_second)

byte_break : (s t : Text) → IsBreak s → past_space AfterByte (s ++ t) ≡ past_space AfterWhite t
unfolding past_space
byte_break s t (inl e) = ap (λ (x : Text). past_space AfterByte (x ++ t)) e
byte_break s t (inr h) =
    ap (λ (x : Text). past_space AfterByte (x ++ t)) (h.parts ∙ ap (λ (x : Text). x ++ h.second) h.is_first ∙ ap (λ (x : Text). 13 ∷ x) h.is_second)

comment_break : (s t : Text) → IsBreak s → past_space InComment (s ++ t) ≡ past_space AfterWhite t
unfolding past_space
comment_break s t (inl e) = ap (λ (x : Text). past_space InComment (x ++ t)) e
comment_break s t (inr h) =
    ap (λ (x : Text). past_space InComment (x ++ t)) (h.parts ∙ ap (λ (x : Text). x ++ h.second) h.is_first ∙ ap (λ (x : Text). 13 ∷ x) h.is_second)

abbrev NoBreak : Text → Type 0
NoBreak s = Each (λ c. (c == 10) ≡ false) s

in_comment : (s t : Text) → NoBreak s → past_space InComment (s ++ t) ≡ past_space InComment t
unfolding past_space
in_comment [] t h = refl
in_comment (b ∷ s) t h = ap (λ (c : Bool). past_space (cond c AfterWhite InComment) (s ++ t)) h.0 ∙ in_comment s t h.1

space_comment : (s t : Text) → IsComment s → past_space AfterWhite (s ++ t) ≡ past_space InComment t
unfolding past_space
space_comment [] t h = absurd h
space_comment (b ∷ s) t h = ap (λ (c : ℕ). past_space AfterWhite (c ∷ (s ++ t))) h.0 ∙ in_comment s t h.1

some_white : (s t : Text) → IsSomeWhite s → past_space AfterWhite (s ++ t) ≡ past_space AfterWhite t
some_white [] t h = absurd h
some_white (b ∷ s) t h = space_white (b ∷ s) t h

byte_white : (s t : Text) → IsSomeWhite s → past_space AfterByte (s ++ t) ≡ past_space AfterWhite t
byte_white [] t h = absurd h
byte_white (b ∷ s) t h = space_byte b (s ++ t) (left_true (is_white b) _ h.0) ∙ space_white s t h.1

gap_over : (s t : Text) → IsGap s → past_space AfterWhite (s ++ t) ≡ past_space AfterWhite t
gap_over s t (inl h) = some_white s t h
gap_over s t (inr h) = space_break s t h

byte_gap : (s t : Text) → IsGap s → past_space AfterByte (s ++ t) ≡ past_space AfterWhite t
byte_gap s t (inl h) = byte_white s t h
byte_gap s t (inr h) = byte_break s t h

piece_over : (s t : Text) → IsGapOrComment s → past_space AfterWhite (s ++ t) ≡ past_space AfterWhite t
piece_over s t (inl h) = gap_over s t h
piece_over s t (inr h) =
    ap (past_space AfterWhite) (ap (λ (x : Text). x ++ t) h.parts ∙ append_assoc h.first h.second t)
    ∙ space_comment h.first (h.second ++ t) h.is_first ∙ comment_break h.second t h.is_second

many_over : (s t : Text) → Many IsGapOrComment s → past_space AfterWhite (s ++ t) ≡ past_space AfterWhite t
many_over s t none = refl
many_over s t (more first rest p h e) =
    ap (past_space AfterWhite) (ap (λ (x : Text). x ++ t) e ∙ append_assoc first rest t) ∙ piece_over first (rest ++ t) p ∙ many_over rest t h

space_over : (s t : Text) → IsSpace s → IsStop t → spaced (s ++ t) ≡ t
space_over s t (inl e) stop = ap (λ (x : Text). spaced (x ++ t)) e ∙ byte_stays t stop.no_gap
space_over s t (inr h) stop =
    ap spaced (ap (λ (x : Text). x ++ t) h.parts ∙ append_assoc h.first h.second t) ∙ byte_gap h.first (h.second ++ t) h.is_first
    ∙ many_over h.second t h.is_second ∙ stays t stop

pub space_passed : (t u : Text) → Cuts IsSpace t u → IsStop u → spaced t ≡ u
space_passed t u c stop = ap spaced c.whole ∙ space_over c.part u c.holds stop

-- ---- lines

none_over : (s t : Text) → NoBreak s → line_from None (s ++ t) ≡ line_from None t
unfolding line_from
none_over [] t h = refl
none_over (b ∷ s) t h = ap (λ (c : Bool). line_from (cond c (Some 0) None) (s ++ t)) h.0 ∙ none_over s t h.1

none_break : (s t : Text) → IsBreak s → line_from None (s ++ t) ≡ line_from (Some 0) t
unfolding line_from
none_break s t (inl e) = ap (λ (x : Text). line_from None (x ++ t)) e
none_break s t (inr h) =
    ap (λ (x : Text). line_from None (x ++ t)) (h.parts ∙ ap (λ (x : Text). x ++ h.second) h.is_first ∙ ap (λ (x : Text). 13 ∷ x) h.is_second)

none_end : (s : Text) → NoBreak s → line_from None s ≡ Ok None
unfolding line_from
none_end [] h = refl
none_end (b ∷ s) h = ap (λ (c : Bool). line_from (cond c (Some 0) None) s) h.0 ∙ none_end s h.1

not_feed : (b c : ℕ) → (b == c) ≡ true → (c == 10) ≡ false → (b == 10) ≡ false
not_feed b c e f = ap (λ (x : ℕ). x == 10) (eqb-true b c e) ∙ f

white_plain : (s : Text) → IsWhite s → NoBreak s
white_plain [] h = tt
white_plain (b ∷ s) h = (either (b == 32) (b == 9) (λ e. not_feed b 32 e refl) (λ e. not_feed b 9 e refl) h.0, white_plain s h.1)

comment_plain : (s : Text) → IsComment s → NoBreak s
comment_plain [] h = absurd h
comment_plain (b ∷ s) h = (ap (λ (c : ℕ). c == 10) h.0, h.1)

both_plain : (s t : Text) → NoBreak s → NoBreak t → NoBreak (s ++ t)
both_plain [] t h k = k
both_plain (b ∷ s) t h k = (h.0, both_plain s t h.1 k)

some_plain : (s : Text) → IsSomeWhite s → IsWhite s
some_plain [] h = absurd h
some_plain (b ∷ s) h = h

blank_plain : (s : Text) → IsBlankLine s → NoBreak s
blank_plain s (inl h) = white_plain s h
blank_plain s (inr h) = let P : Text → Type 0 = λ x. NoBreak x in subst P (sym h.parts)
    (both_plain h.first h.second (white_plain h.first h.is_first) (comment_plain h.second h.is_second))

rest_blank : (s : Text) → IsLineRest s → IsBlankLine s
rest_blank s (inl h) = inl h
rest_blank s (inr h) = inr (record { first = h.first; second = h.second; parts = h.parts; is_first = some_plain h.first h.is_first; is_second = h.is_second })

pub break_ends : (s t : Text) → IsBreak s → ends_line (s ++ t) ≡ true
break_ends s t (inl e) = ap (λ (x : Text). ends_line (x ++ t)) e
break_ends s t (inr h) =
    ap (λ (x : Text). ends_line (x ++ t)) (h.parts ∙ ap (λ (x : Text). x ++ h.second) h.is_first ∙ ap (λ (x : Text). 13 ∷ x) h.is_second)

break_black : (s t : Text) → IsBreak s → begins_white (s ++ t) ≡ false
break_black s t (inl e) = ap (λ (x : Text). begins_white (x ++ t)) e
break_black s t (inr h) =
    ap (λ (x : Text). begins_white (x ++ t)) (h.parts ∙ ap (λ (x : Text). x ++ h.second) h.is_first ∙ ap (λ (x : Text). 13 ∷ x) h.is_second)

-- what ends a line: a break, or the end of the text
abbrev LineEnd : Text → Type 0
LineEnd t = (ends_line t ≡ true) × (begins_white t ≡ false)

break_end : (s t : Text) → IsBreak s → LineEnd (s ++ t)
break_end s t h = (break_ends s t h, break_black s t h)

comment_seen : (s t : Text) → IsComment s → (sees 35 (s ++ t) ≡ true) × (begins_white (s ++ t) ≡ false)
comment_seen [] t h = absurd h
comment_seen (b ∷ s) t h = (ap (λ (c : ℕ). c == 35) h.0, ap is_white h.0)

blank_seen : (s t : Text) → IsBlankLine s → LineEnd t → is_blank (s ++ t) ≡ true
blank_seen s t (inl h) e = ap (λ (x : Text). ends_line x || sees 35 x) (white_over s t h ∙ no_white t e.1) ∙ left_true (ends_line t) _ e.0
blank_seen s t (inr h) e =
    let seen = comment_seen h.second t h.is_second in
    let same = ap past_white (ap (λ (x : Text). x ++ t) h.parts ∙ append_assoc h.first h.second t) ∙ white_over h.first (h.second ++ t) h.is_first
    ∙ no_white (h.second ++ t) seen.1 in
    ap (λ (x : Text). ends_line x || sees 35 x) same ∙ right_true (ends_line (h.second ++ t)) _ seen.0

white_begins : (s t : Text) → IsSomeWhite s → begins_white (s ++ t) ≡ true
white_begins [] t h = absurd h
white_begins (b ∷ s) t h = h.0

pub rest_seen : (s t : Text) → IsLineRest s → LineEnd t → ends_node (s ++ t) ≡ true
rest_seen s t (inl h) e =
    ap (λ (x : Text). ends_line x || (begins_white (s ++ t) && sees 35 x)) (white_over s t h ∙ no_white t e.1) ∙ left_true (ends_line t) _ e.0
rest_seen s t (inr h) e =
    let seen = comment_seen h.second t h.is_second in
    let parts = ap (λ (x : Text). x ++ t) h.parts ∙ append_assoc h.first h.second t in
    let same = ap past_white parts ∙ white_over h.first (h.second ++ t) (some_plain h.first h.is_first) ∙ no_white (h.second ++ t) seen.1 in
    let white = ap begins_white parts ∙ white_begins h.first (h.second ++ t) h.is_first in
    ap (λ (x : Text). ends_line x || (begins_white (s ++ t) && sees 35 x)) same
    ∙ right_true (ends_line (h.second ++ t)) _ (both_true (begins_white (s ++ t)) _ white seen.0)

hash_no_space : (b : ℕ) (s : Text) → (b == 32) ≡ true → IsComment (b ∷ s) → ⊥
hash_no_space b s e h = differ e (ap (λ (c : ℕ). c == 32) h.0)

blank_by : (b : ℕ) (s w c : Text) → (b == 32) ≡ true → b ∷ s ≡ w ++ c → IsWhite w → IsComment c → IsBlankLine s
blank_by b s [] c e same h k = let P : Text → Type 0 = λ x. IsComment x in absurd (hash_no_space b s e (subst P (sym same) k))
blank_by b s (d ∷ w) c e same h k = inr (record { first = w; second = c; parts = ap (drop 1) same; is_first = h.1; is_second = k })

blank_less : (b : ℕ) (s : Text) → (b == 32) ≡ true → IsBlankLine (b ∷ s) → IsBlankLine s
blank_less b s e (inl h) = inl h.1
blank_less b s e (inr h) = blank_by b s h.first h.second e h.parts h.is_first h.is_second

-- where a blank line leads, if its end leads there
blank_over : (k : ℕ) (s t : Text) (o : Result (Option Line) Refusal) → IsBlankLine s → LineEnd t → line_from None t ≡ o
    → ((n : ℕ) → line_from (Some n) t ≡ o)
    → line_from (Some k) (s ++ t) ≡ o
unfolding line_from
blank_over k [] t o h e over here = here k
blank_over k (b ∷ s) t o h e over here = go (b == 32) refl (λ l. blank_over (k + 1) s t o l e over here)
  where
    go : (c : Bool) → (b == 32) ≡ c → (IsBlankLine s → line_from (Some (k + 1)) (s ++ t) ≡ o) → line_from (Some k) (b ∷ (s ++ t)) ≡ o
    go true f next = when_true (b == 32) (line_from (Some (k + 1)) (s ++ t)) _ f ∙ next (blank_less b s f h)
    go false f next =
        when_false (b == 32) (line_from (Some (k + 1)) (s ++ t)) _ f
        ∙ when_true (is_blank (b ∷ (s ++ t))) (line_from (passed b) (s ++ t)) _ (blank_seen (b ∷ s) t h e)
        ∙ ap (λ (c : Bool). line_from (cond c (Some 0) None) (s ++ t)) (blank_plain (b ∷ s) h).0 ∙ none_over s t (blank_plain (b ∷ s) h).1 ∙ over

any_break : (k : ℕ) (s t : Text) → IsBreak s → line_from (Some k) (s ++ t) ≡ line_from (Some 0) t
unfolding line_from past_white
any_break k s t (inl e) = ap (λ (x : Text). line_from (Some k) (x ++ t)) e
any_break k s t (inr h) =
    ap (λ (x : Text). line_from (Some k) (x ++ t)) (h.parts ∙ ap (λ (x : Text). x ++ h.second) h.is_first ∙ ap (λ (x : Text). 13 ∷ x) h.is_second)

any_end : (k : ℕ) → line_from (Some k) [] ≡ Ok None
unfolding line_from
any_end k = refl

line_over : (s t : Text) → (IsBlankLine and_then IsBreak) s → line_from (Some 0) (s ++ t) ≡ line_from (Some 0) t
line_over s t h =
    ap (line_from (Some 0)) (ap (λ (x : Text). x ++ t) h.parts ∙ append_assoc h.first h.second t)
    ∙ blank_over 0 h.first (h.second ++ t) (line_from (Some 0) t) h.is_first (break_end h.second t h.is_second) (none_break h.second t h.is_second)
    (λ n. any_break n h.second t h.is_second)

passed_over : (s t : Text) → IsPassed s → line_from (Some 0) (s ++ t) ≡ line_from (Some 0) t
passed_over s t none = refl
passed_over s t (more first rest p h e) =
    ap (line_from (Some 0)) (ap (λ (x : Text). x ++ t) e ∙ append_assoc first rest t) ∙ line_over first (rest ++ t) p ∙ passed_over rest t h

end_over : (s : Text) → IsBlankEnd s → line_from (Some 0) s ≡ Ok None
end_over s h =
    ap (line_from (Some 0)) h.parts ∙ passed_over h.first h.second h.is_first ∙ ap (line_from (Some 0)) (append_nil h.second)
    ∙ blank_over 0 h.second [] (Ok None) h.is_second (refl, refl) (none_end [] tt) any_end

-- the line that a node begins at
stop_line : (k : ℕ) (t : Text) → IsStop t → line_from (Some k) t ≡ Ok (Some (k, t))
unfolding line_from
stop_line k [] s = absurd (differ refl s.no_gap)
stop_line k (b ∷ t) s =
    let white = left_false (is_white b) (ends_line (b ∷ t)) s.no_gap in
    let line = right_false (is_white b) (ends_line (b ∷ t)) s.no_gap in
    let blank : is_blank (b ∷ t) ≡ false = ap (λ (x : Text). ends_line x || sees 35 x) (no_white (b ∷ t) white)
    ∙ false_or (ends_line (b ∷ t)) _ line s.no_hash in
    when_false (b == 32) (line_from (Some (k + 1)) t) _ (left_false (b == 32) _ white)
    ∙ when_false (is_blank (b ∷ t)) (line_from (passed b) t) _ blank
    ∙ when_false (b == 9) _ (Ok (Some (k, b ∷ t))) (right_false (b == 32) _ white)

spaces_over : (c k : ℕ) (t : Text) → IsStop t → line_from (Some k) (replicate c 32 ++ t) ≡ Ok (Some (k + c, t))
unfolding line_from
spaces_over zero k t s = stop_line k t s ∙ ap (λ (n : ℕ). Ok (Some (n, t))) (omega arith)
spaces_over (suc c) k t s = spaces_over c (k + 1) t s ∙ ap (λ (n : ℕ). Ok (Some (n, t))) (omega arith)

pub indent_over : (c : ℕ) (t u : Text) → Cuts (IsIndent c) t u → IsStop u → line_from (Some 0) t ≡ Ok (Some (c, u))
indent_over c t u i s =
    let h = i.holds in
    ap (line_from (Some 0)) (i.whole ∙ ap (λ (x : Text). x ++ u) h.parts ∙ append_assoc h.first h.second u)
    ∙ passed_over h.first (h.second ++ u) h.is_first
    ∙ ap (λ (x : Text). line_from (Some 0) (x ++ u)) h.is_second ∙ spaces_over c 0 u s ∙ ap (λ (n : ℕ). Ok (Some (n, u))) (omega arith)

pub blank_end : (t : Text) → IsBlankEnd t → line_from (Some 0) t ≡ Ok None
blank_end t h = end_over t h

-- ---- from the end of a node

-- the line ends here, and this is the next one
pub record Led (t : Text) (next : Option Line) : Type 0 where
  pub ends : ends_node t ≡ true
  pub line : next_line t ≡ Ok next

rest_line : (s t : Text) → (IsLineRest and_then IsBreak) s → (ends_node (s ++ t) ≡ true) × (line_from None (s ++ t) ≡ line_from (Some 0) t)
rest_line s t h =
    let same = ap (λ (x : Text). x ++ t) h.parts ∙ append_assoc h.first h.second t in (
      ap ends_node same ∙ rest_seen h.first (h.second ++ t) h.is_first (break_end h.second t h.is_second),
      ap (line_from None) same ∙ none_over h.first (h.second ++ t) (blank_plain h.first (rest_blank h.first h.is_first))
          ∙ none_break h.second t h.is_second,
    )

to_line_led : (c : ℕ) (s u : Text) → ToLine c s → IsStop u → is_marker (c, u) ≡ false → Led (s ++ u) (Some (c, u))
unfolding next_line
to_line_led c s u h stop m =
    let k = h.is_second in
    let same = ap (λ (x : Text). x ++ u) (h.parts ∙ ap (λ (x : Text). h.first ++ x) k.parts ∙ sym (append_assoc h.first k.first k.second))
    ∙ append_assoc (h.first ++ k.first) k.second u in
    let over = rest_line (h.first ++ k.first) (k.second ++ u)
    (record { first = h.first; second = k.first; parts = refl; is_first = h.is_first; is_second = k.is_first }) in
    let indent : Cuts (IsIndent c) (k.second ++ u) u = record { part = k.second; whole = refl; holds = k.is_second } in
    record {
      ends = ap ends_node same ∙ over.0;
      line = when_ok (line_from None (s ++ u)) (Some (c, u)) without_marker
          (ap (line_from None) same ∙ over.1 ∙ indent_over c (k.second ++ u) u indent stop)
          ∙ when_false (is_marker (c, u)) _ (Ok (Some (c, u))) m;
    }

pub line_led : (c : ℕ) (t u : Text) → Cuts (ToLine c) t u → IsStop u → is_marker (c, u) ≡ false → Led t (Some (c, u))
line_led c t u k stop m = let P : Text → Type 0 = λ x. Led x (Some (c, u)) in subst P (sym k.whole) (to_line_led c k.part u k.holds stop m)

pub end_led : (t : Text) → ToEnd t → Led t None
unfolding next_line
end_led t (inl h) = record {
  ends = ap ends_node (append_nil t) ∙ rest_seen t [] h (refl, refl);
  line = when_ok (line_from None t) None without_marker (none_end t (blank_plain t (rest_blank t h)));
}
end_led t (inr h) =
    let k = h.is_second in
    let same = h.parts ∙ ap (λ (x : Text). h.first ++ x) k.parts ∙ sym (append_assoc h.first k.first k.second) in
    let over = rest_line (h.first ++ k.first) k.second
    (record { first = h.first; second = k.first; parts = refl; is_first = h.is_first; is_second = k.is_first }) in
    record {
      ends = ap ends_node same ∙ over.0;
      line = when_ok (line_from None t) None without_marker
          (ap (line_from None) same ∙ over.1 ∙ end_over k.second k.is_second);
    }
