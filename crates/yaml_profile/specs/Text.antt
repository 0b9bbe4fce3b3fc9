-- Bytes, lines and white, and what reading gives.
-- Bytes by their codes: 9 tab, 10 LF, 13 CR, 32 space, 35 #, 44 comma, 91 and 93 [ and ], 123 and 125 { and }.
use Rattle.std.specs.Prelude.{◌≡◌, ℕ, Bool, true, false, ◌&&◌, ◌||◌, ◌==◌, if◌then◌else◌, List, [], ◌∷◌, length, drop, ◌<◌, Option, Some, None, Result, Ok, Err}
use Rattle.yaml_profile.specs.declared.fault.Fault.{Fault}
use Rattle.yaml_profile.specs.declared.fault.Refusal.{Refusal}
use Rattle.yaml_profile.specs.declared.fault.Stop.{Stop}
use Rattle.yaml_profile.specs.declared.fault.Stop.TheVariants as stop
use Rattle.yaml_profile.specs.declared.text.Between.{Between}
use Rattle.yaml_profile.specs.declared.text.Between.TheVariants.{AfterByte, AfterWhite, InComment}

-- a text is the list of its bytes
abbrev pub Text : Type 0
Text = List ℕ

-- what reading gives: a value and the text after it, or the first refusal
abbrev pub Outcome : Type 0 → Type 0
Outcome A = Result (A × Text) Refusal

-- the refusal of what stands at the start of this text, which is kept by the number of bytes that are left
abbrev pub refuse : {A : Type 0} → Fault → Text → Result A Refusal
refuse fault t = Err (record { fault = fault; left = length t })

-- what comes of reading on with the value, or the refusal that came first
infixl 10 ◌>>=◌
abbrev pub ◌>>=◌ : {A B : Type 0} → Result A Refusal → (A → Result B Refusal) → Result B Refusal
(Ok x) >>= f = f x
(Err e) >>= f = Err e

-- what a function refuses is what reading refuses, unless memory ran out
abbrev pub Fails : {Y : Type 0} → Stop → Result Y Refusal → Type 0
Fails stop.Memory reading = Unit {0}
Fails (stop.Refused refusal) reading = reading ≡ Err refusal

-- what a function returned, seen by `view`, is what reading gives, unless memory ran out
abbrev pub Gives : {X Y : Type 0} → (X → Y) → Result X Stop → Result Y Refusal → Type 0
Gives view (Ok x) reading = reading ≡ Ok (view x)
Gives view (Err e) reading = Fails e reading

-- whether the text begins with this byte
abbrev pub sees : ℕ → Text → Bool
sees c [] = false
sees c (b ∷ t) = b == c

-- the text begins with this byte, and the rest is what stands after it
pub record IsBehind (byte : ℕ) (t rest : Text) : Type 0 where
  pub seen : sees byte t ≡ true
  pub rest_is : rest ≡ drop 1 t
  pub shorter : length rest < length t

-- whether the byte is a space or a tab
abbrev pub is_white : ℕ → Bool
is_white b = b == 32 || b == 9

-- whether a line ends here: at LF, at CR LF, or at the end of the text
abbrev pub ends_line : Text → Bool
ends_line [] = true
ends_line (b ∷ t) = b == 10 || (b == 13 && sees 10 t)

-- whether a gap stands here: white or a line's end
abbrev pub is_gap : Text → Bool
is_gap [] = true
is_gap (b ∷ t) = is_white b || ends_line (b ∷ t)

-- whether the byte is one of the marks that a flow collection is written with: `,`, `[`, `]`, `{` and `}`
abbrev pub is_flow_mark : ℕ → Bool
is_flow_mark b = b == 44 || b == 91 || b == 93 || b == 123 || b == 125

-- the text after the white that it begins with
unfoldable pub past_white : Text → Text
past_white [] = []
past_white (b ∷ t) = if is_white b then past_white t else b ∷ t

-- how reading goes on between the items of a flow collection, where white, comments and line ends stand, or that it is over.
-- A comment begins at a line's start or after white, and runs to its line's end
abbrev pub next_between : Between → Text → Option Between
next_between InComment t = Some (if sees 10 t then AfterWhite else InComment)
next_between AfterWhite t = if is_gap t then Some AfterWhite else (if sees 35 t then Some InComment else None)
next_between AfterByte t = if is_gap t then Some AfterWhite else None

-- the text after all that stands between two items, where reading is so far
unfoldable pub past_space : Between → Text → Text
past_space now [] = []
past_space now (b ∷ t) = elim (next_between now (b ∷ t)) [ None ↦ b ∷ t | Some next ↦ past_space next t ]

-- the text after the white, the comments and the line ends that it begins with
abbrev pub spaced : Text → Text
spaced t = past_space AfterByte t
