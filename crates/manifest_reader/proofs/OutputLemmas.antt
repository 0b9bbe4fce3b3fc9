-- Outputs that are taken apart in turn.
use Rattle.std.proofs.Common.{◌≡◌, ℕ, ◌+◌, suc, List, [], ◌∷◌, ◌++◌, length, map, Option, Some, None, refl, sym, ap, ◌∙◌, append_assoc, append-nil, length-append, arith}
use Rattle.std.specs.Option.{option_or}
use Rattle.file_info.specs.declared.node.NodeName.{NodeName}
use Rattle.build_manifest.specs.declared.command.Input.{Input}
use Rattle.build_manifest.specs.declared.draft.DirectoryOutput.{DirectoryOutput}
use Rattle.manifest_reader.specs.Commands.{directory_at, directory_from}

-- what is made of all outputs is what was made and then what is made of those that are left
pub record Splits (all : List Input) (nodes : List NodeName) (found : Option DirectoryOutput) (left : List Input) (count : ℕ) : Type 0 where
  pub goes_on : map (λ (o : Input). o.node) all ≡ nodes ++ map (λ (o : Input). o.node) left
  pub first : directory_from 0 all ≡ option_or found (directory_from (length nodes) left)
  pub counted : count ≡ length left

or_assoc : {A : Type 0} (o p q : Option A) → option_or o (option_or p q) ≡ option_or (option_or o p) q
or_assoc None p q = refl
or_assoc (Some x) p q = refl

pub split_begins : (all : List Input) (nodes : List NodeName) (found : Option DirectoryOutput) (count : ℕ)
    → nodes ≡ [] → found ≡ None → count ≡ length all → Splits all nodes found all count
split_begins all nodes found count none nothing counted = record {
  goes_on = ap (λ (l : List NodeName). l ++ map (λ (o : Input). o.node) all) (sym none);
  first =
      ap (λ (n : ℕ). directory_from n all) (ap length (sym none))
      ∙ ap (λ (d : Option DirectoryOutput). option_or d (directory_from (length nodes) all)) (sym nothing);
  counted = counted;
}

pub split_next : (all : List Input) (nodes new : List NodeName) (found next : Option DirectoryOutput) (left rest : List Input)
    (count less : ℕ) (x : Input)
    → Splits all nodes found left count → left ≡ x ∷ rest → less + 1 ≡ count
    → next ≡ option_or found (directory_at (length nodes) x.written x.form) → new ≡ nodes ++ x.node ∷ [] → Splits all new next rest less
split_next all nodes new found next left rest count less x splits begun fewer seen pushed =
    let longer : length new ≡ suc (length nodes) = ap length pushed ∙ length-append nodes (x.node ∷ []) ∙ (omega arith) in record {
      goes_on =
          splits.goes_on ∙ ap (λ (l : List Input). nodes ++ map (λ (o : Input). o.node) l) begun
          ∙ sym (append_assoc nodes (x.node ∷ []) (map (λ (o : Input). o.node) rest))
          ∙ ap (λ (l : List NodeName). l ++ map (λ (o : Input). o.node) rest) (sym pushed);
      first =
          splits.first ∙ ap (λ (l : List Input). option_or found (directory_from (length nodes) l)) begun
          ∙ or_assoc found (directory_at (length nodes) x.written x.form) (directory_from (suc (length nodes)) rest)
          ∙ ap (λ (d : Option DirectoryOutput). option_or d (directory_from (suc (length nodes)) rest)) (sym seen)
          ∙ ap (λ (n : ℕ). option_or next (directory_from n rest)) (sym longer);
      counted =
          let was = splits.counted in
          let more = ap length begun in
          omega arith;
    }

nothing_left : {A : Type 0} (l : List A) → length l ≡ 0 → l ≡ []
nothing_left [] h = refl
nothing_left (x ∷ xs) h = absurd (omega arith)

or_nothing : {A : Type 0} (o : Option A) → option_or o None ≡ o
or_nothing None = refl
or_nothing (Some x) = refl

pub split_nodes : (all xs : List Input) (nodes : List NodeName) (found : Option DirectoryOutput) (left : List Input) (count : ℕ)
    → all ≡ xs → Splits all nodes found left count → count ≡ 0 → nodes ≡ map (λ (o : Input). o.node) xs
split_nodes all xs nodes found left count same splits none =
    sym (append-nil nodes) ∙ ap (λ (l : List Input). nodes ++ map (λ (o : Input). o.node) l) (sym (nothing_left left (sym splits.counted ∙ none)))
    ∙ sym splits.goes_on ∙ ap (map (λ (o : Input). o.node)) same

pub split_first : (all xs : List Input) (nodes : List NodeName) (found : Option DirectoryOutput) (left : List Input) (count : ℕ)
    → all ≡ xs → Splits all nodes found left count → count ≡ 0 → found ≡ directory_from 0 xs
split_first all xs nodes found left count same splits none =
    sym (or_nothing found) ∙ ap (λ (l : List Input). option_or found (directory_from (length nodes) l))
    (sym (nothing_left left (sym splits.counted ∙ none)))
    ∙ sym splits.first ∙ ap (directory_from 0) same
