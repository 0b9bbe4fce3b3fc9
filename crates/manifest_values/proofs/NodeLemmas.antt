-- The nodes of texts, step by step.
use Rattle.std.proofs.Common.{◌≡◌, ℕ, Bool, true, false, if◌then◌else◌, List, Some, None, Ok, Err, refl, sym, ap, ◌∙◌, rules}
use Rattle.file_info.specs.declared.node.NodeName.TheVariants.{Path}
use Rattle.file_info.specs.Path.{normal_form}
use Rattle.build_manifest.specs.declared.command.Input.{Input}
use Rattle.manifest_values.specs.declared.refusal.Refusal.{Refusal}
use Rattle.manifest_values.specs.declared.refusal.Refusal.TheVariants.{BadPath}
use Rattle.manifest_values.specs.declared.refusal.Stop.{Stop}
use Rattle.manifest_values.specs.declared.refusal.Stop.TheVariants as stop
use Rattle.manifest_values.specs.Known.{Facts, is_virtual_text}
use Rattle.manifest_values.specs.Nodes.{form_in, path_input, path_node, virtual_input, input_of, path_of}
use Rattle.manifest_values.specs.Refusal.{given_if, given_or, Fails, Stops}
use Rattle.manifest_values.specs.Texts.{is_name, is_path_text, has_slash, path_in}

tested : {A : Type 0} (b : Bool) (x : A) (r : Refusal) → given_if b r (Ok x) ≡ given_or r (if b then Some x else None)
tested true x r = refl
tested false x r = refl

path_by : (owner text : List ℕ) → path_of owner text ≡ given_or (BadPath owner text) (path_in text)
unfolding path_of path_in
path_by owner text = tested (is_path_text text) (normal_form text) (BadPath owner text)

-- the text is a path
pub path_found : (owner text path : List ℕ) → Some path ≡ path_in text → path_of owner text ≡ Ok path
path_found owner text path found = path_by owner text ∙ ap (given_or (BadPath owner text)) (sym found)

-- the text is no path
pub path_refused : (found : Stop) (owner text : List ℕ) → Stops found (BadPath owner text) → None ≡ path_in text → Fails found (path_of owner text)
path_refused stop.Memory owner text is missing = tt
path_refused (stop.Refused r) owner text is missing =
    path_by owner text ∙ ap (given_or (BadPath owner text)) (sym missing) ∙ ap Err (sym is)

-- the node of a text that is this path
abbrev pub input_at : Facts → List ℕ → List ℕ → Input
input_at facts text path = record { written = text; node = Path path; form = form_in facts path (has_slash text) }

node_found : (facts : Facts) (text path : List ℕ) (b : Bool) (r : Refusal) → given_if b r (Ok (normal_form text)) ≡ Ok path
    → given_if b r (Ok (path_input facts text)) ≡ Ok (input_at facts text path)
node_found facts text path true r h =
    let same : normal_form text ≡ path = cc h in
    ap (λ (p : List ℕ). Ok (input_at facts text p)) same
node_found facts text path false r h = absurd (search rules)

-- the node of a path
pub node_given : (facts : Facts) (owner text path : List ℕ) → path_of owner text ≡ Ok path
    → path_node facts owner text ≡ Ok (input_at facts text path)
unfolding path_of
node_given facts owner text path h = node_found facts text path (is_path_text text) (BadPath owner text) h

node_stops : {A B : Type 0} (b : Bool) (x : A) (y : B) (r e : Refusal) → given_if b r (Ok x) ≡ Err e → given_if b r (Ok y) ≡ Err e
node_stops true x y r e h = absurd (search rules)
node_stops false x y r e h =
    let same : r ≡ e = cc h in
    ap Err same

-- no path, no node
pub node_refused : (found : Stop) (facts : Facts) (owner text : List ℕ) → Fails found (path_of owner text) → Fails found (path_node facts owner text)
unfolding path_of
node_refused stop.Memory facts owner text h = tt
node_refused (stop.Refused e) facts owner text h = node_stops (is_path_text text) (normal_form text) (path_input facts text) (BadPath owner text) e h

-- a text that is no name
pub input_refused : (found : Stop) (facts : Facts) (owner text : List ℕ) → Fails found (given_if (is_name text) (BadPath owner text) (Ok text))
    → Fails found (input_of facts owner text)
unfolding input_of
input_refused stop.Memory facts owner text h = tt
input_refused (stop.Refused e) facts owner text h = go (is_name text) h
  where
    go : (b : Bool) → given_if b (BadPath owner text) (Ok text) ≡ Err e
        → given_if b (BadPath owner text) (if is_virtual_text facts text then Ok (virtual_input text) else path_node facts owner text) ≡ Err e
    go true h = absurd (search rules)
    go false h =
        let same : BadPath owner text ≡ e = cc h in
        ap Err same

-- a name that names no virtual node, and one that does
pub input_named : (facts : Facts) (owner text name : List ℕ) → given_if (is_name text) (BadPath owner text) (Ok text) ≡ Ok name
    → input_of facts owner text ≡ (if is_virtual_text facts text then Ok (virtual_input name) else path_node facts owner name)
unfolding input_of
input_named facts owner text name h = go (is_name text) h
  where
    go : (b : Bool) → given_if b (BadPath owner text) (Ok text) ≡ Ok name
        → given_if b (BadPath owner text) (if is_virtual_text facts text then Ok (virtual_input text) else path_node facts owner text)
        ≡ (if is_virtual_text facts text then Ok (virtual_input name) else path_node facts owner name)
    go true h =
        let same : text ≡ name = cc h in
        ap (λ (n : List ℕ). if is_virtual_text facts text then Ok (virtual_input n) else path_node facts owner n) same
    go false h = absurd (search rules)
