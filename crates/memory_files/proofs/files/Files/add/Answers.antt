use Rattle.std.proofs.Common.{rules, ◌≡◌, List, ℕ, Some, length, ◌∙◌, sym, subst, ap, string_bytes}
use Rattle.std.specs.HashMap.{get_by_text}
use Rattle.std.specs.Map.{update}
use Rattle.std.specs.Str.{bytes_eq}
use Rattle.std.proofs.lemmas.Map.Text.{hash_map_updates_text}
use Rattle.memory_files.specs.declared.write.Write.{Write}
use Rattle.memory_files.specs.Log.{IsIndexed, put}
use Rattle.memory_files.proofs.PlaceLemmas.{indexed-put, of-ok}
use Rattle.memory_files.proofs.files.Files.add.Goals as goal

pub invariant_of-self : goal.invariant_of-self
invariant_of-self c =
    let ws = c.self.inside.writes.items in
    let pushed : c.push.new.self.items ≡ put ws c.args.draft c.args.what = search rules in
    let key : string_bytes c.draft.inside.key ≡ c.args.draft = search rules in
    let place : length c.as_slice-place.result.now ≡ length ws = search rules in
    let old = λ (p : List ℕ). get_by_text c.self.inside.places p in
    subst (λ (z : List Write). IsIndexed z (λ p. get_by_text c.insert-placed.new.self p)) (sym pushed)
    (indexed-put ws c.args.draft c.args.what old (λ p. get_by_text c.insert-placed.new.self p)
    (λ q. hash_map_updates_text (string_bytes c.draft.inside.key) c.self.inside.places c.insert-placed.new.self (Some (length c.as_slice-place.result.now))
    (of-ok c.insert-placed.result c.unwrap.result c.unwrap.ensures c.insert-placed.ensures.updates) q
    ∙ ap (λ (b : List ℕ). update bytes_eq old b (Some (length c.as_slice-place.result.now)) q) key
    ∙ ap (λ (n : ℕ). update bytes_eq old c.args.draft (Some n) q) place)
    c.self.invariant)
