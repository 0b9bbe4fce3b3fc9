-- White, line breaks and comments, and what stands between nodes: each is a text by itself.
-- Bytes by their codes: 10 LF, 13 CR, 32 space, 35 #.
use Rattle.std.specs.Prelude.{◌≡◌, ◌⊎◌, ℕ, true, false, ◌==◌, [], ◌∷◌, ◌++◌, replicate}
use Rattle.yaml_profile.specs.Text.{Text, is_white}
use Rattle.yaml_profile.specs.Tree.{Each}

-- a text of two parts, the first of the one kind and the second of the other
infixr 30 ◌and_then◌
pub record ◌and_then◌ (P Q : Text → Type 0) (t : Text) : Type 0 where
  pub first : Text
  pub second : Text
  pub parts : t ≡ first ++ second
  pub is_first : P first
  pub is_second : Q second

-- any number of parts of one kind, or none
pub data Many (P : Text → Type 0) : Text → Type 0 where
  none : Many P []
  more : {t : Text} (first rest : Text) → P first → Many P rest → t ≡ first ++ rest → Many P t

-- this one byte
abbrev pub Is : ℕ → Text → Type 0
Is byte s = s ≡ byte ∷ []

-- white, or nothing
abbrev pub IsWhite : Text → Type 0
IsWhite w = Each (λ b. is_white b ≡ true) w

-- white, and not nothing
abbrev pub IsSomeWhite : Text → Type 0
IsSomeWhite [] = ⊥
IsSomeWhite (b ∷ w) = IsWhite (b ∷ w)

-- a line break: LF or CR LF
abbrev pub IsBreak : Text → Type 0
IsBreak s = Is 10 s ⊎ (Is 13 and_then Is 10) s

-- a comment: `#` and bytes that are not LF
abbrev pub IsComment : Text → Type 0
IsComment [] = ⊥
IsComment (b ∷ t) = (b ≡ 35) × Each (λ c. (c == 10) ≡ false) t

-- ---- lines

-- what may follow a node on its line: white, with a comment after it or without one
abbrev pub IsLineRest : Text → Type 0
IsLineRest s = IsWhite s ⊎ (IsSomeWhite and_then IsComment) s

-- a line with no node in it: white or a comment, or white and a comment
abbrev pub IsBlankLine : Text → Type 0
IsBlankLine s = IsWhite s ⊎ (IsWhite and_then IsComment) s

-- lines with no node in them, each with its break
abbrev pub IsPassed : Text → Type 0
IsPassed s = Many (IsBlankLine and_then IsBreak) s

-- from the start of a line to this column of the same line or a later one
abbrev pub IsIndent : ℕ → Text → Type 0
IsIndent column s = (IsPassed and_then (λ spaces. spaces ≡ replicate column 32)) s

-- from the end of a node to this column of a later line
abbrev pub ToLine : ℕ → Text → Type 0
ToLine column s = (IsLineRest and_then IsBreak and_then IsIndent column) s

-- from the start of a line to the end of the text, with no node
abbrev pub IsBlankEnd : Text → Type 0
IsBlankEnd s = (IsPassed and_then IsBlankLine) s

-- from the end of the last node to the end of the text
abbrev pub ToEnd : Text → Type 0
ToEnd s = IsLineRest s ⊎ (IsLineRest and_then IsBreak and_then IsBlankEnd) s

-- ---- flow collections

-- white or a line break
abbrev pub IsGap : Text → Type 0
IsGap s = IsSomeWhite s ⊎ IsBreak s

-- white, a line break, or a comment with the break after it
abbrev pub IsGapOrComment : Text → Type 0
IsGapOrComment s = IsGap s ⊎ (IsComment and_then IsBreak) s

-- what may stand between the items of a flow collection: nothing, or white, breaks and comments, of which the first is no
-- comment
abbrev pub IsSpace : Text → Type 0
IsSpace s = (s ≡ []) ⊎ (IsGap and_then Many IsGapOrComment) s
