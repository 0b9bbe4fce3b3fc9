-- What follows white, comments and line ends is UTF-8.
use Rattle.std.proofs.Common.{◌≡◌, ℕ, ◌+◌, ◌<◌, true, ◌==◌, cond, [], ◌∷◌, Option, Some, None, arith}
use Rattle.std.specs.Prelude.{IsUtf8, IfOk, IfSome, MatchOption}
use Rattle.std.proofs.lemmas.Str.{IsUtf8-nil}
use Rattle.yaml_profile.specs.declared.text.Between.{Between}
use Rattle.yaml_profile.specs.declared.text.Between.TheVariants.{AfterByte, AfterWhite, InComment}
use Rattle.yaml_profile.specs.Text.{Text, is_white, ends_line, is_gap, past_white, next_between, past_space, spaced}
use Rattle.yaml_profile.specs.Block.{Line, is_blank, passed, line_from, is_marker, without_marker, next_line}
use Rattle.yaml_profile.proofs.CutLemmas.{small_by, behind_ascii, IsTail, tail_of, tail_behind, tail_cut}
use Rattle.yaml_profile.proofs.FineLemmas.{bind, choose, pick, either}
use Rattle.yaml_profile.proofs.ScalarLemmas.{line_small, white_small}

gap_small : (b : ℕ) (t : Text) → is_gap (b ∷ t) ≡ true → b < 128
gap_small b t h = either (is_white b) (ends_line (b ∷ t)) (white_small b) (line_small b t) h

pub past_white_utf8 : (t : Text) → IsUtf8 t → IsUtf8 (past_white t)
unfolding past_white
past_white_utf8 [] u = u
past_white_utf8 (b ∷ t) u =
    let P : Text → Type 0 = λ s. IsUtf8 s in
    pick P (is_white b) (past_white t) (b ∷ t) (λ h. past_white_utf8 t (behind_ascii b t (white_small b h) u)) (λ _. u)

-- in a comment a text may begin within a character
abbrev Held : Between → Text → Type 0
Held InComment t = IsTail t
Held AfterWhite t = IsUtf8 t
Held AfterByte t = IsUtf8 t

next_held : (now : Between) (b : ℕ) (t : Text) → Held now (b ∷ t) → MatchOption (next_between now (b ∷ t)) (IsUtf8 (b ∷ t)) (λ next. Held next t)
next_held InComment b t h =
    let P : Between → Type 0 = λ next. Held next t in
    pick P (b == 10) AfterWhite InComment (λ e. tail_cut b t (small_by b 10 e (omega arith)) h) (λ _. tail_behind b t h)
next_held AfterWhite b t h =
    let P : Option Between → Type 0 = λ o. MatchOption o (IsUtf8 (b ∷ t)) (λ next. Held next t) in
    pick P (is_gap (b ∷ t)) (Some AfterWhite) (cond (b == 35) (Some InComment) None) (λ e. behind_ascii b t (gap_small b t e) h)
    (λ _. pick P (b == 35) (Some InComment) None (λ e. tail_of t (behind_ascii b t (small_by b 35 e (omega arith)) h)) (λ _. h))
next_held AfterByte b t h =
    let P : Option Between → Type 0 = λ o. MatchOption o (IsUtf8 (b ∷ t)) (λ next. Held next t) in
    pick P (is_gap (b ∷ t)) (Some AfterWhite) None (λ e. behind_ascii b t (gap_small b t e) h) (λ _. h)

held_end : (now : Between) → Held now [] → IsUtf8 []
held_end InComment h = IsUtf8-nil
held_end AfterWhite h = h
held_end AfterByte h = h

past_space_utf8 : (now : Between) (t : Text) → Held now t → IsUtf8 (past_space now t)
unfolding past_space
past_space_utf8 now [] h = held_end now h
past_space_utf8 now (b ∷ t) h = go (λ next. past_space_utf8 next t) (next_between now (b ∷ t)) (next_held now b t h)
  where
    go : ((next : Between) → Held next t → IsUtf8 (past_space next t)) → (o : Option Between) → MatchOption o (IsUtf8 (b ∷ t)) (λ next. Held next t)
        → IsUtf8 (elim o [ None ↦ b ∷ t | Some next ↦ past_space next t ])
    go more None k = k
    go more (Some next) k = more next k

pub spaced_utf8 : (t : Text) → IsUtf8 t → IsUtf8 (spaced t)
spaced_utf8 t u = past_space_utf8 AfterByte t u

-- ---- lines

abbrev pub LineFine : Option Line → Type 0
LineFine next = IfSome next (λ l. IsUtf8 l.1)

-- after the start of a line, or somewhere in one
abbrev Begun : Option ℕ → Text → Type 0
Begun None t = IsTail t
Begun (Some column) t = IsUtf8 t

passed_fine : (b : ℕ) (t : Text) → IsTail (b ∷ t) → Begun (passed b) t
passed_fine b t h =
    let P : Option ℕ → Type 0 = λ o. Begun o t in
    pick P (b == 10) (Some 0) None (λ e. tail_cut b t (small_by b 10 e (omega arith)) h) (λ _. tail_behind b t h)

pub line_from_fine : (spaces : Option ℕ) (t : Text) → Begun spaces t → IfOk (line_from spaces t) LineFine
unfolding line_from
line_from_fine None [] h = tt
line_from_fine (Some column) [] h = tt
line_from_fine None (b ∷ t) h = line_from_fine (passed b) t (passed_fine b t h)
line_from_fine (Some column) (b ∷ t) u =
    choose LineFine (b == 32) _ _ (λ e. line_from_fine (Some (column + 1)) t (behind_ascii b t (small_by b 32 e (omega arith)) u))
    (λ _. choose LineFine (is_blank (b ∷ t)) _ _ (λ _. line_from_fine (passed b) t (passed_fine b t (tail_of (b ∷ t) u)))
    (λ _. choose LineFine (b == 9) _ _ (λ _. tt) (λ _. u)))

pub without_marker_fine : (next : Option Line) → LineFine next → IfOk (without_marker next) LineFine
without_marker_fine None h = tt
without_marker_fine (Some l) h = choose LineFine (is_marker l) _ _ (λ _. tt) (λ _. h)

pub next_line_fine : (t : Text) → IsTail t → IfOk (next_line t) LineFine
unfolding next_line
next_line_fine t h = bind LineFine LineFine (line_from None t) without_marker (line_from_fine None t h) without_marker_fine
