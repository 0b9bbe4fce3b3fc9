-- What the table of attributes says: which tools have an attribute, and which names the names of tools and sections are.
use Rattle.std.proofs.Common.{◌≡◌, ℕ, Bool, true, false, not, ◌&&◌, ◌||◌, List, [], ◌∷◌, cond, None, Some, inl, inr, refl, sym, ap, ◌∙◌}
use Rattle.std.specs.Prelude.{bytes_eq, codes, ◌==◌}
use Rattle.std.specs.List.{list_all}
use Rattle.std.proofs.lemmas.Bool.{and_parts, eqb-true}
use Rattle.std.proofs.lemmas.Slice.Eq.{bytes_eq-Decides}
use Rattle.file_info.specs.Lists.{In}
use Rattle.build_manifest.specs.declared.command.Tool.{Tool}
use Rattle.build_manifest.specs.declared.command.Tool.TheVariants.{Phony, Shell, Mkdir, Symlink, Archive, StaleFileRemoval}
use Rattle.manifest_reader.specs.declared.attributes.Attribute.{Attribute}
use Rattle.manifest_reader.specs.declared.attributes.Attribute.TheVariants as attribute
use Rattle.manifest_reader.specs.declared.sections.Section.TheVariants as section
use Rattle.manifest_reader.specs.Commands.{asks_nothing}
use Rattle.manifest_reader.specs.Rows.{Row, rows, group_of, found_in, attribute_of, tool_named}
use Rattle.manifest_reader.specs.Sections.{section_named}

-- ---- tools

-- whether the tool runs a program
abbrev pub is_shell : Tool → Bool
is_shell Phony = false
is_shell Shell = true
is_shell Mkdir = false
is_shell Symlink = false
is_shell Archive = false
is_shell StaleFileRemoval = false

-- whether the tool makes a symbolic link
abbrev pub is_symlink : Tool → Bool
is_symlink Phony = false
is_symlink Shell = false
is_symlink Mkdir = false
is_symlink Symlink = true
is_symlink Archive = false
is_symlink StaleFileRemoval = false

-- whether the tool makes no file
abbrev pub makes_nothing : Tool → Bool
makes_nothing Phony = true
makes_nothing Shell = false
makes_nothing Mkdir = false
makes_nothing Symlink = false
makes_nothing Archive = false
makes_nothing StaleFileRemoval = true

-- whether the tool may have the attribute
abbrev pub has : Attribute → Tool → Bool
has attribute.Tool t = true
has attribute.Inputs t = true
has attribute.Outputs t = true
has attribute.Description t = true
has attribute.MustFollow t = not (asks_nothing t)
has attribute.AllowMissingInputs t = not (asks_nothing t)
has attribute.AlwaysOutOfDate t = not (asks_nothing t)
has attribute.Args t = is_shell t
has attribute.Env t = is_shell t
has attribute.Deps t = is_shell t
has attribute.DepsStyle t = is_shell t
has attribute.InheritEnv t = is_shell t
has attribute.Signature t = is_shell t
has attribute.Contents t = is_symlink t
has attribute.ExpectedOutputs t = asks_nothing t
has attribute.Roots t = asks_nothing t

-- whether the attribute is `outputs`
abbrev is_outputs : Attribute → Bool
is_outputs attribute.Tool = false
is_outputs attribute.Inputs = false
is_outputs attribute.Outputs = true
is_outputs attribute.Description = false
is_outputs attribute.MustFollow = false
is_outputs attribute.AllowMissingInputs = false
is_outputs attribute.AlwaysOutOfDate = false
is_outputs attribute.Args = false
is_outputs attribute.Env = false
is_outputs attribute.Deps = false
is_outputs attribute.DepsStyle = false
is_outputs attribute.InheritEnv = false
is_outputs attribute.Signature = false
is_outputs attribute.Contents = false
is_outputs attribute.ExpectedOutputs = false
is_outputs attribute.Roots = false

tool_at : ℕ → Tool
tool_at n =
    cond (n == 0) Phony (cond (n == 1) Shell (cond (n == 2) Mkdir (cond (n == 3) Symlink (cond (n == 4) Archive StaleFileRemoval))))

tool_back : (t : Tool) → tool_at (group_of t) ≡ t
unfolding tool_at
tool_back Phony = refl
tool_back Shell = refl
tool_back Mkdir = refl
tool_back Symlink = refl
tool_back Archive = refl
tool_back StaleFileRemoval = refl

same_tool : (s t : Tool) → (group_of s == group_of t) ≡ true → s ≡ t
same_tool s t e = sym (tool_back s) ∙ (ap tool_at (eqb-true (group_of s) (group_of t) e) ∙ tool_back t)

-- ---- rows

-- a row of the tool and the name
record FoundRow (rs : List Row) (tool : Tool) (name : List ℕ) (a : Attribute) : Type 0 where
  row : Row
  there : In row rs
  of_tool : row.tool ≡ tool
  named : name ≡ row.name
  is : row.attribute ≡ a

found_row : (rs : List Row) (tool : Tool) (name : List ℕ) (a : Attribute) → found_in rs tool name ≡ Some a → FoundRow rs tool name a
found_row [] tool name a e = cc e
found_row (r ∷ rs) tool name a e = go (group_of r.tool == group_of tool && bytes_eq r.name name) refl e (found_row rs tool name a)
  where
    go : (b : Bool) → (group_of r.tool == group_of tool && bytes_eq r.name name) ≡ b → cond b (Some r.attribute) (found_in rs tool name) ≡ Some a
        → (found_in rs tool name ≡ Some a → FoundRow rs tool name a) → FoundRow (r ∷ rs) tool name a
    go true h f later =
        let (t, n) = and_parts (group_of r.tool == group_of tool) (bytes_eq r.name name) h in
        record { row = r; there = inl refl; of_tool = same_tool r.tool tool t; named = sym ((bytes_eq-Decides r.name name).0 n); is = cc f }
    go false h f later =
        let found = later f in
        record { row = found.row; there = inr found.there; of_tool = found.of_tool; named = found.named; is = found.is }

all_rows : (test : Row → Bool) (rs : List Row) → list_all test rs ≡ true → (r : Row) → In r rs → test r ≡ true
all_rows test [] e r i = absurd i
all_rows test (s ∷ rs) e r (inl same) = ap test same ∙ (and_parts (test s) (list_all test rs) e).0
all_rows test (s ∷ rs) e r (inr i) = all_rows test rs (and_parts (test s) (list_all test rs) e).1 r i

-- an attribute that is found is one that the tool may have
pub attribute_has : (tool : Tool) (name : List ℕ) (a : Attribute) → attribute_of tool name ≡ Some a → has a tool ≡ true
unfolding attribute_of
attribute_has tool name a e =
    let found = found_row rows tool name a e in
    let row : has found.row.attribute found.row.tool ≡ true = all_rows (λ (r : Row). has r.attribute r.tool) rows refl found.row found.there in
    ap (λ t. has a t) (sym found.of_tool) ∙ (ap (λ b. has b found.row.tool) (sym found.is) ∙ row)

or-right : (b c : Bool) → b ≡ true → (not b || c) ≡ true → c ≡ true
or-right true c e f = f
or-right false c e f = cc e

-- the attribute `outputs` has its name
pub outputs_named : (tool : Tool) (name : List ℕ) → attribute_of tool name ≡ Some attribute.Outputs → name ≡ codes "outputs"
unfolding attribute_of
outputs_named tool name e =
    let found = found_row rows tool name attribute.Outputs e in
    let row : (not (is_outputs found.row.attribute) || bytes_eq found.row.name (codes "outputs")) ≡ true =
    all_rows (λ (r : Row). not (is_outputs r.attribute) || bytes_eq r.name (codes "outputs")) rows refl found.row found.there in
    found.named ∙ (bytes_eq-Decides found.row.name (codes "outputs")).0 (or-right _ _ (ap is_outputs found.is) row)

-- ---- names

-- the tool `phony` has its name
pub phony_named : (name : List ℕ) → tool_named name ≡ Some Phony → name ≡ codes "phony"
unfolding tool_named
phony_named name e = (bytes_eq-Decides name (codes "phony")).0 (go _ _ _ _ _ _ e)
  where
    go : (a b c d f g : Bool)
        → cond a (Some Phony) (cond b (Some Shell) (cond c (Some Mkdir)
        (cond d (Some Symlink) (cond f (Some Archive) (cond g (Some StaleFileRemoval) None))))) ≡ Some Phony
        → a ≡ true
    go true b c d f g h = refl
    go false true c d f g h = cc h
    go false false true d f g h = cc h
    go false false false true f g h = cc h
    go false false false false true g h = cc h
    go false false false false false true h = cc h
    go false false false false false false h = cc h

-- the tool `stale-file-removal` has its name
pub removal_named : (name : List ℕ) → tool_named name ≡ Some StaleFileRemoval → name ≡ codes "stale-file-removal"
unfolding tool_named
removal_named name e = (bytes_eq-Decides name (codes "stale-file-removal")).0 (go _ _ _ _ _ _ e)
  where
    go : (a b c d f g : Bool)
        → cond a (Some Phony) (cond b (Some Shell) (cond c (Some Mkdir)
        (cond d (Some Symlink) (cond f (Some Archive) (cond g (Some StaleFileRemoval) None))))) ≡ Some StaleFileRemoval
        → g ≡ true
    go true b c d f g h = cc h
    go false true c d f g h = cc h
    go false false true d f g h = cc h
    go false false false true f g h = cc h
    go false false false false true g h = cc h
    go false false false false false true h = refl
    go false false false false false false h = cc h

-- the section `nodes` is found by its name
pub nodes_section : section_named (codes "nodes") ≡ Some section.Nodes
unfolding section_named
nodes_section = refl

-- the section `commands` has its name
pub commands_named : (name : List ℕ) → section_named name ≡ Some section.Commands → name ≡ codes "commands"
unfolding section_named
commands_named name e = (bytes_eq-Decides name (codes "commands")).0 (go _ _ _ _ _ _ e)
  where
    go : (a b c d f g : Bool)
        → cond a (Some section.Client) (cond b (Some section.Tools) (cond c (Some section.Targets)
        (cond d (Some section.Default) (cond f (Some section.Nodes) (cond g (Some section.Commands) None)))))
        ≡ Some section.Commands
        → g ≡ true
    go true b c d f g h = cc h
    go false true c d f g h = cc h
    go false false true d f g h = cc h
    go false false false true f g h = cc h
    go false false false false true g h = cc h
    go false false false false false true h = refl
    go false false false false false false h = cc h
