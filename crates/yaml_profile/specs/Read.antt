-- What reading a text answers.
use Rattle.std.specs.Prelude.{ℕ, ◌-◌, nat_lt, if◌then◌else◌, length, Result, Ok, Err}
use Rattle.std.specs.Str.{is_utf8}
use Rattle.std.specs.Str.Lossy.{utf8_valid_len}
use Rattle.yaml_profile.specs.declared.fault.Fault.{Fault}
use Rattle.yaml_profile.specs.declared.fault.Fault.TheVariants as fault
use Rattle.yaml_profile.specs.declared.fault.Refusal.{Refusal}
use Rattle.yaml_profile.specs.declared.error.YamlError.{YamlError}
use Rattle.yaml_profile.specs.declared.error.YamlError.TheVariants.{TooLong, NotUtf8, LeftOut, Indent, TooDeep, RepeatedKey, Syntax}
use Rattle.yaml_profile.specs.declared.yaml.Yaml.{Yaml}
use Rattle.yaml_profile.specs.Text.{Text}
use Rattle.yaml_profile.specs.Block.{document}

-- the error of a fault at this place
abbrev pub error_at : Fault → ℕ → YamlError
error_at (fault.LeftOut feature) at = LeftOut feature at
error_at fault.Indent at = Indent at
error_at fault.TooDeep at = TooDeep at
error_at fault.RepeatedKey at = RepeatedKey at
error_at fault.Syntax at = Syntax at

-- a refusal by its place, counted from the text's start
abbrev pub placed : Text → Result Yaml Refusal → Result Yaml YamlError
placed t (Ok tree) = Ok tree
placed t (Err refusal) = Err (error_at refusal.fault (length t - refusal.left))

-- the tree of a text, or its first refusal: a text that is too long comes first, then one that is not UTF-8
unfoldable pub yaml_of : Text → Result Yaml YamlError
yaml_of t =
    if nat_lt 67108864 (length t) then Err TooLong
    else (if is_utf8 t then placed t (document t) else Err (NotUtf8 (utf8_valid_len t)))
