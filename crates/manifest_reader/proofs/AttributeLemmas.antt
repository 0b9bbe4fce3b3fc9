-- The table of attributes, tool by tool.
use Rattle.std.proofs.Common.{◌≡◌, ℕ, Bool, true, false, List, Option, None, Some, refl, ap, sym, ◌∙◌}
use Rattle.std.specs.Prelude.{if◌then◌else◌}
use Rattle.std.specs.Option.{option_and_then}
use Rattle.build_manifest.specs.declared.command.Tool.{Tool}
use Rattle.build_manifest.specs.declared.command.Tool.TheVariants as tools
use Rattle.manifest_reader.specs.declared.attributes.Attribute.{Attribute}
use Rattle.manifest_reader.specs.Rows.{attribute_at, attribute_of, code_in, group_of, rows}

then_if : {A B : Type 0} (f : A → Option B) (b : Bool) (x : A) (o : Option A)
    → option_and_then f (if b then Some x else o) ≡ (if b then f x else option_and_then f o)
then_if f true x o = refl
then_if f false x o = refl

-- the attribute of a tool is that of its code in the rows
pub by_code : (tool : Tool) (name : List ℕ) → attribute_of tool name ≡ option_and_then attribute_at (code_in rows (group_of tool) name)
unfolding attribute_of
by_code tools.Phony name = simp then_if
by_code tools.Shell name = simp then_if
by_code tools.Mkdir name = simp then_if
by_code tools.Symlink name = simp then_if
by_code tools.Archive name = simp then_if
by_code tools.StaleFileRemoval name = simp then_if

-- a name that the tool has no row of
pub no_code : (tool : Tool) (name : List ℕ) → code_in rows (group_of tool) name ≡ None → attribute_of tool name ≡ None
no_code tool name none = by_code tool name ∙ ap (option_and_then attribute_at) none

-- a name that the tool has a row of
pub one_code : (tool : Tool) (name : List ℕ) (code : ℕ) → code_in rows (group_of tool) name ≡ Some code → attribute_of tool name ≡ attribute_at code
one_code tool name code is = by_code tool name ∙ ap (option_and_then attribute_at) is
