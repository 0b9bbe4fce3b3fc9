-- Nodes that are counted in turn.
use Rattle.std.proofs.Common.{◌≡◌, ℕ, ◌+◌, ◌<◌, ◌≤◌, Bool, true, false, List, ◌∷◌, length, drop, get_or, sym, ap, ◌∙◌, arith}
use Rattle.std.specs.Prelude.{◌==◌}
use Rattle.std.proofs.lemmas.Bool.Decides.{nat_tests}
use Rattle.std.proofs.lemmas.List.{at_drop_more, drop_all}
use Rattle.file_info.specs.declared.node.NodeName.{NodeName}
use Rattle.file_info.specs.declared.node.NodeName.TheVariants as node
use Rattle.build_manifest.specs.Command.{files_in}
use Rattle.manifest_reader.specs.Commands.{has_one_file}

-- 1 where a file was found, and otherwise 0
abbrev pub found_count : Bool → ℕ
found_count true = 1
found_count false = 0

-- how many of the nodes are files: one where one was found, and those that are left
pub record Counts (nodes : List NodeName) (found : Bool) (place : ℕ) : Type 0 where
  pub goes_on : files_in nodes ≡ found_count found + files_in (drop place nodes)

one_more : (nodes : List NodeName) (place : ℕ) (n : NodeName) → place < length nodes → n ≡ get_or nodes place n
    → files_in (drop place nodes) ≡ files_in (n ∷ drop (place + 1) nodes)
one_more nodes place n h e = at_drop_more files_in nodes place n h ∙ ap (λ (m : NodeName). files_in (m ∷ drop (place + 1) nodes)) (sym e)

pub count_begins : (nodes : List NodeName) → Counts nodes false 0
count_begins nodes = record { goes_on = omega arith }

one_file : (nodes : List NodeName) (place : ℕ) (n : NodeName) (path : List ℕ) → place < length nodes → n ≡ get_or nodes place n
    → n ≡ node.Path path → files_in (drop place nodes) ≡ 1 + files_in (drop (place + 1) nodes)
one_file nodes place n path h e is = one_more nodes place n h e ∙ ap (λ (m : NodeName). files_in (m ∷ drop (place + 1) nodes)) is

one_other : (nodes : List NodeName) (place : ℕ) (n : NodeName) (name : List ℕ) → place < length nodes → n ≡ get_or nodes place n
    → n ≡ node.Virtual name → files_in (drop place nodes) ≡ files_in (drop (place + 1) nodes)
one_other nodes place n name h e is = one_more nodes place n h e ∙ ap (λ (m : NodeName). files_in (m ∷ drop (place + 1) nodes)) is

-- a file is found, and none was before
pub count_file : (nodes : List NodeName) (place : ℕ) (n : NodeName) (path : List ℕ) (found : Bool) → place < length nodes → n ≡ get_or nodes place n
    → n ≡ node.Path path → found ≡ false → Counts nodes found place → Counts nodes true (place + 1)
count_file nodes place n path found h e is new counts =
    let was : files_in nodes ≡ found_count false + files_in (drop place nodes)
    = counts.goes_on ∙ ap (λ (b : Bool). found_count b + files_in (drop place nodes)) new in
    let step = one_file nodes place n path h e is in record { goes_on = omega arith }

-- the node is no file
pub count_other : (nodes : List NodeName) (place : ℕ) (n : NodeName) (name : List ℕ) (found : Bool) → place < length nodes → n ≡ get_or nodes place n
    → n ≡ node.Virtual name → Counts nodes found place → Counts nodes found (place + 1)
count_other nodes place n name found h e is counts = record {
  goes_on = counts.goes_on ∙ ap (λ (m : ℕ). found_count found + m) (one_other nodes place n name h e is);
}

not_one : (count more : ℕ) → count ≡ 1 + (1 + more) → false ≡ (count == 1)
not_one count more e = grind (arith, nat_tests)

-- a second file is found
pub count_two : (nodes : List NodeName) (place : ℕ) (n : NodeName) (path : List ℕ) (found : Bool) → place < length nodes → n ≡ get_or nodes place n
    → n ≡ node.Path path → found ≡ true → Counts nodes found place → false ≡ has_one_file nodes
count_two nodes place n path found h e is twice counts =
    let was : files_in nodes ≡ found_count true + files_in (drop place nodes)
    = counts.goes_on ∙ ap (λ (b : Bool). found_count b + files_in (drop place nodes)) twice in
    let step = one_file nodes place n path h e is in
    not_one (files_in nodes) (files_in (drop (place + 1) nodes)) (omega arith)

is_one : (found : Bool) (count : ℕ) → count ≡ found_count found → found ≡ (count == 1)
is_one true count e = grind (arith, nat_tests)
is_one false count e = grind (arith, nat_tests)

-- no node is left
pub count_ends : (nodes : List NodeName) (place : ℕ) (found : Bool) → length nodes ≤ place → Counts nodes found place → found ≡ has_one_file nodes
count_ends nodes place found h counts =
    let none : files_in (drop place nodes) ≡ 0 = ap files_in (drop_all place nodes h) in
    let was = counts.goes_on in
    is_one found (files_in nodes) (omega arith)
