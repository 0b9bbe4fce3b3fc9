use Rattle.std.proofs.Common.{◌≡◌, ◌++◌, [], ◌∷◌, ℕ, List, Some, None, cond, length, true, false, sym, ap, subst}
use Rattle.std.specs.Prelude.{bytes_eq}
use Rattle.std.specs.HashMap.{get_by_text}
use Rattle.std.specs.Option.{option_or}
use Rattle.manifest_values.specs.declared.known.Entry.{Entry}
use Rattle.manifest_values.specs.Known.{ArePlaced, same_flag}
use Rattle.manifest_values.proofs.KnownLemmas.{noted_at, place_noted, place_kept}
use Rattle.manifest_values.proofs.entries.Entries.with_file.Goals as goal

pub invariant_of-result : goal.invariant_of-result
invariant_of-result c =
    let grown : c.push.new.self ≡ c.self.inside.entries ++ c.args.entry ∷ [] = c.in_ok-push.ensures.ok in
    let noted : (q : List ℕ) → get_by_text c.note.new.places q
    ≡ option_or (get_by_text c.self.inside.files q) (cond (bytes_eq q c.args.entry.path) (Some (length c.self.inside.entries)) None)
    = noted_at (get_by_text c.self.inside.files) (get_by_text c.note.new.places) _ _ _ _ c.text.ensures.value c.len.ensures c.in_ok-note.ensures in
    let placed : ArePlaced (c.self.inside.entries ++ c.args.entry ∷ []) c.note.new.places c.self.inside.folders
    = record {
      files_placed = place_noted c.self.inside.entries c.args.entry false _ _ c.requires c.self.invariant.files_placed noted;
      folders_placed = place_kept c.self.inside.entries c.args.entry true _ (ap (same_flag true) c.requires) c.self.invariant.folders_placed;
    } in
    subst (λ (es : List Entry). ArePlaced es c.note.new.places c.self.inside.folders) (sym grown) placed
