-- What a step of a script leaves.
use Rattle.std.proofs.Common.{◌≡◌, ◌+◌, ℕ, false, List, [], ◌∷◌, ◌++◌, length, refl, ap, ◌∙◌}
use Rattle.std.specs.Prelude.{Option}
use Rattle.file_info.specs.Content.{Text}
use Rattle.file_info.specs.declared.info.Form.{Form}
use Rattle.file_info.specs.declared.info.Form.TheVariants.{Link}
use Rattle.memory_files.specs.declared.write.What.TheVariants.{Bytes}
use Rattle.memory_files.specs.declared.write.Write.{Write}
use Rattle.memory_files.specs.Log.{last_of, info_of, is_directory, content_of, standing}
use Rattle.memory_files.specs.Edits.{with_directories, above, leads_through, after_set}
use Rattle.memory_files.proofs.LogLemmas.{last-put}

-- a file that is set stands
pub set-stands : (ws : List Write) (p text : List ℕ) (f : Form) → leads_through ws (above p) ≡ false → is_directory (info_of (last_of ws p) Link) ≡ false
    → standing (after_set ws p text) p f ≡ Text text
set-stands ws p text f free none =
    let before = with_directories ws (above p) in
    let item : Write = record { path = p; number = length before + 1; what = Bytes text } in
    let set : after_set ws p text ≡ before ++ item ∷ [] = rw (free, none) refl in
    ap (λ (z : List Write). standing z p f) set ∙ ap (λ (o : Option Write). content_of o f) (last-put before item)
