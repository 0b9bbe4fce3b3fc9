-- The exit of an order, on writes and on what is seen of them.
use Rattle.std.proofs.Common.{◌≡◌, ◌⊎◌, ℕ, Bool, true, false, List, [], ◌∷◌, refl, inl, inr, ap, sym, ◌∙◌}
use Rattle.std.specs.Prelude.{◌||◌, ◌&&◌, not, if◌then◌else◌}
use Rattle.std.specs.List.{list_any}
use Rattle.file_info.specs.Content.{Content, Absent, Folder, LinkTo, Text, FileVersion, content, node_text}
use Rattle.file_info.specs.declared.info.Info.{Info}
use Rattle.file_info.specs.declared.info.Info.TheVariants as infos
use Rattle.file_info.specs.declared.info.Form.{Form}
use Rattle.file_info.specs.declared.info.Form.TheVariants.{Link}
use Rattle.file_info.specs.declared.node.Reading.{Reading}
use Rattle.file_info.specs.declared.node.Reading.TheVariants as readings
use Rattle.file_info.specs.declared.node.Read.{Read}
use Rattle.outside.specs.declared.order.Order.{Order}
use Rattle.outside.specs.declared.order.Act.{Act}
use Rattle.outside.specs.declared.order.Act.TheVariants.{Spawn, MakeDir, MakeLink}
use Rattle.outside.specs.declared.order.Exit.{Exit}
use Rattle.outside.specs.declared.order.Exit.TheVariants.{Code}
use Rattle.outside.specs.Outcome.{form_of}
use Rattle.memory_files.specs.declared.write.Write.{Write}
use Rattle.memory_files.specs.Log.{info_at, is_directory, standing, Tells}
use Rattle.memory_world.specs.Memory.{Memory, view_of}
use Rattle.memory_world.specs.Toy.{content_fails, has_fail, reading_fails}
use Rattle.memory_world.specs.Performance.{reading_at, is_read, is_file_or_link, is_blocked, has_failing, fails_on, is_served, exit_of}
use Rattle.memory_world.specs.Exit.{exit_on, IsToyExit, IsBlocked, HasBlocked, IsProgram, HasFailing}
use Rattle.file_info.proofs.Lists.{any-some}
use Rattle.memory_files.proofs.LogLemmas.{standing-told}

reading-same : (h k : List ℕ → Form → Content) → ((p : List ℕ) (f : Form) → h p f ≡ k p f) → (links : List (List ℕ)) (path : List ℕ) (reading : Reading)
    → reading_fails (reading_at h links path reading) ≡ reading_fails (reading_at k links path reading)
reading-same h k e links path readings.Nothing = refl
reading-same h k e links path (readings.File info) = ap content_fails (e path (form_of links path info))
reading-same h k e links path (readings.Tree entries) = refl
reading-same h k e links path (readings.Structure entries) = refl

failing-same : (h k : List ℕ → Form → Content) → ((p : List ℕ) (f : Form) → h p f ≡ k p f) → (links : List (List ℕ)) (reads : List Read)
    → list_any (λ (r : Read). reading_fails (reading_at h links (node_text r.node) r.reading)) reads
    ≡ list_any (λ (r : Read). reading_fails (reading_at k links (node_text r.node) r.reading)) reads
failing-same h k e links [] = refl
failing-same h k e links (r ∷ reads) = rw (reading-same h k e links (node_text r.node) r.reading, failing-same h k e links reads) refl

-- where a map tells all writes, the exit on what is seen is the exit on the writes
pub exit-told : (ws : List Write) (m : List FileVersion) (order : Order) → Tells ws m → exit_on m (info_at ws) order ≡ exit_of ws order
exit-told ws m order t =
    ap (λ (b : Bool). if is_served order && not (list_any (is_blocked (info_at ws) order.reads order.act) order.outputs) && not (fails_on order.act b) then Code 0 else Code 1)
    (failing-same (λ p f. content m p (info_at ws p f)) (standing ws) (standing-told ws m t) order.links order.reads)

-- the exit on the writes is the one that is told
pub toy-exit : (was : Memory) (ws : List Write) (order : Order) (exit : Exit) → ws ≡ was.writes → exit ≡ exit_of ws order → IsToyExit (view_of was) order exit
toy-exit was ws order exit same e m t = e ∙ ap (λ (z : List Write). exit_of z order) same ∙ sym (exit-told was.writes m order t)

or-either : (a b : Bool) → (a || b) ≡ true → (a ≡ true) ⊎ (b ≡ true)
or-either true b e = inl refl
or-either false b e = inr e

directory-is : (i : Info) → is_directory i ≡ true → i ≡ infos.Directory
directory-is infos.Missing e = cc e
directory-is infos.Directory e = refl
directory-is (infos.File size stamp) e = cc e
directory-is (infos.Link text) e = cc e

content-text : (c : Content) → content_fails c ≡ true → (text : List ℕ) × (c ≡ Text text) × (has_fail text ≡ true)
content-text Absent e = cc e
content-text Folder e = cc e
content-text (LinkTo text) e = cc e
content-text (Text text) e = (text, refl, e)

file-read : (held : List ℕ → Form → Content) (links : List (List ℕ)) (path : List ℕ) (reading : Reading) → reading_fails (reading_at held links path reading) ≡ true
    → (i : Info) × (reading ≡ readings.File i) × (content_fails (held path (form_of links path i)) ≡ true)
file-read held links path readings.Nothing e = cc e
file-read held links path (readings.File info) e = (info, refl, e)
file-read held links path (readings.Tree entries) e = cc e
file-read held links path (readings.Structure entries) e = cc e

file-or-link : (i : Info) → is_file_or_link i ≡ true → (i ≡ infos.Missing → ⊥) × (i ≡ infos.Directory → ⊥)
file-or-link infos.Missing e = cc e
file-or-link infos.Directory e = cc e
file-or-link (infos.File size stamp) e = (λ z. cc z, λ z. cc z)
file-or-link (infos.Link text) e = (λ z. cc z, λ z. cc z)

blocked-is : (at : List ℕ → Form → Info) (reads : List Read) (act : Act) (p : List ℕ) → is_blocked at reads act p ≡ true → IsBlocked at reads act p
blocked-is at reads (Spawn words env inherit clear) p b =
    elim (or-either (is_directory (at p Link)) (list_any (λ (r : Read). is_read (node_text r.node) r.reading p) reads) b) [
      | inl d ↦ inl (directory-is (at p Link) d)
      | inr r ↦ inr (any-some (λ (r : Read). is_read (node_text r.node) r.reading p) reads r)
    ]
blocked-is at reads MakeDir p b = file-or-link (at p Link) b
blocked-is at reads (MakeLink text) p b = directory-is (at p Link) b

blocked-some : (at : List ℕ → Form → Info) (order : Order) → list_any (is_blocked at order.reads order.act) order.outputs ≡ true → HasBlocked at order
blocked-some at order e =
    let (p, i, b) = any-some (is_blocked at order.reads order.act) order.outputs e in
    (p, i, blocked-is at order.reads order.act p b)

program-fails : (act : Act) (failing : Bool) → fails_on act failing ≡ true → IsProgram act × (failing ≡ true)
program-fails (Spawn words env inherit clear) failing e = (tt, e)
program-fails MakeDir failing e = cc e
program-fails (MakeLink text) failing e = cc e

failing-some : (m : List FileVersion) (at : List ℕ → Form → Info) (order : Order) → fails_on order.act (has_failing (λ p f. content m p (at p f)) order) ≡ true
    → HasFailing m at order
failing-some m at order e =
    let held = λ (p : List ℕ) (f : Form). content m p (at p f) in
    let (program, failing) = program-fails order.act (has_failing held order) e in
    let (r, i, b) = any-some (λ (r : Read). reading_fails (reading_at held order.links (node_text r.node) r.reading)) order.reads failing in
    let (info, is, fails) = file-read held order.links (node_text r.node) r.reading b in
    (program, (r, i, (info, is, content-text (held (node_text r.node) (form_of order.links (node_text r.node) info)) fails)))

-- why an order fails
pub why-failed : (m : List FileVersion) (at : List ℕ → Form → Info) (order : Order) → (exit_on m at order ≡ Code 0 → ⊥)
    → (exit_on m at order ≡ Code 1) × ((is_served order ≡ false) ⊎ (HasBlocked at order ⊎ HasFailing m at order))
why-failed m at order failed =
    go (is_served order) (list_any (is_blocked at order.reads order.act) order.outputs) (fails_on order.act (has_failing (λ p f. content m p (at p f)) order)) refl refl refl
  where
    go : (a b c : Bool) → is_served order ≡ a → list_any (is_blocked at order.reads order.act) order.outputs ≡ b
        → fails_on order.act (has_failing (λ p f. content m p (at p f)) order) ≡ c
        → (exit_on m at order ≡ Code 1) × ((is_served order ≡ false) ⊎ (HasBlocked at order ⊎ HasFailing m at order))
    go false b c d e f = (rw d refl, inl d)
    go true true c d e f = (rw (d, e) refl, inr (inl (blocked-some at order e)))
    go true false true d e f = (rw (d, e, f) refl, inr (inr (failing-some m at order f)))
    go true false false d e f = absurd (failed (rw (d, e, f) refl))
