-- A toy command that succeeded did what its law says.
use Rattle.std.proofs.Common.{◌≡◌, ◌⊎◌, ◌+◌, ℕ, suc, Bool, true, false, List, [], ◌∷◌, map, length, refl, inl, inr, ap, sym, ◌∙◌, subst}
use Rattle.std.specs.Prelude.{◌||◌, ◌&&◌, not, if◌then◌else◌, codes}
use Rattle.std.specs.List.{list_any}
use Rattle.file_info.specs.Content.{Content, FileVersion, content, Text, ReadContent, One, Entries, same_list, node_text, reading_content, read_contents}
use Rattle.file_info.specs.Lists.{In, IsDistinct}
use Rattle.file_info.specs.declared.info.Info.{Info}
use Rattle.file_info.specs.declared.info.Form.{Form}
use Rattle.file_info.specs.declared.info.Form.TheVariants.{Link}
use Rattle.file_info.specs.declared.node.NodeName.{NodeName}
use Rattle.file_info.specs.declared.node.TreeEntry.{TreeEntry}
use Rattle.file_info.specs.declared.node.Reading.{Reading}
use Rattle.file_info.specs.declared.node.Reading.TheVariants as readings
use Rattle.file_info.specs.declared.node.Read.{Read}
use Rattle.outside.specs.declared.order.Order.{Order}
use Rattle.outside.specs.declared.order.Act.{Act}
use Rattle.outside.specs.declared.order.Act.TheVariants.{Spawn, MakeDir, MakeLink}
use Rattle.outside.specs.declared.order.Exit.TheVariants.{Code}
use Rattle.memory_files.specs.declared.write.What.{What}
use Rattle.memory_files.specs.declared.write.Write.{Write}
use Rattle.outside.specs.declared.order.EnvText.{EnvText}
use Rattle.outside.specs.Meaning.{Meaning}
use Rattle.outside.specs.Meaning.{ToolMeaning, Phony, ShellWords, ShellLine, ShellSigned, MakesDirectory, MakesLink, Archives, RemovesStale}
use Rattle.outside.specs.OrderForm.{IsToolAct, IsFormed, archive_words}
use Rattle.outside.specs.Outcome.{Unchanged, StandsAs, asked_as, form_of, makes_link, output_form, contents_at, IsFound, found_contents}
use Rattle.memory_files.specs.Log.{put, last_of, info_of, info_at as at, is_directory, content_of, what_content, standing, Tells}
use Rattle.memory_world.specs.Toy.{ToyDoes, message_of, digest_of, made_of, contents_from, runs_program, fails, reading_fails}
use Rattle.memory_world.specs.Performance.{entry_at, reading_at, read_at, reads_at, is_read, is_kept, is_blocked, has_failing, fails_on, is_served, succeeds, hashed, made_by, put_outputs, performed, exit_of}
use Rattle.file_info.proofs.Lists.{any-in, map-same, same_list-refl}
use Rattle.memory_files.proofs.LogLemmas.{last-put, last-put_apart, standing-told}
use Rattle.memory_world.proofs.OutputLemmas.{or-false, any-none}

-- other paths stay as they are
outputs-apart : (ws : List Write) (made : ℕ → What) (k : ℕ) (ps : List (List ℕ)) (p : List ℕ) → (In p ps → ⊥) → last_of (put_outputs ws made k ps) p ≡ last_of ws p
outputs-apart ws made k [] p h = refl
outputs-apart ws made k (q ∷ ps) p h =
    outputs-apart (put ws q (made k)) made (suc k) ps p (λ i. h (inr i))
    ∙ last-put_apart ws (record { path = q; number = length ws + 1; what = made k }) p (λ e. h (inl (sym e)))

-- the outputs hold what was made of them
outputs-standing : (g : List ℕ → Form) (made : ℕ → What) (held : ℕ → Content) → ((p : List ℕ) (n : ℕ) → what_content (made n) (g p) ≡ held n)
    → (ws : List Write) (k : ℕ) (ps : List (List ℕ)) → IsDistinct ps → map (λ p. standing (put_outputs ws made k ps) p (g p)) ps ≡ contents_from held k (length ps)
outputs-standing g made held same ws k [] d = refl
outputs-standing g made held same ws k (p ∷ ps) d =
    let next = put ws p (made k) in
    let last = outputs-apart next made (suc k) ps p d.0 ∙ last-put ws (record { path = p; number = length ws + 1; what = made k }) in
    let one : standing (put_outputs next made (suc k) ps) p (g p) ≡ held k = ap (λ o. content_of o (g p)) last ∙ same p k in
    ap (λ (c : Content). c ∷ map (λ q. standing (put_outputs next made (suc k) ps) q (g q)) ps) one
    ∙ ap (λ (cs : List Content). held k ∷ cs) (outputs-standing g made held same next (suc k) ps d.1)

and-true : (a b : Bool) → (a && b) ≡ true → (a ≡ true) × (b ≡ true)
and-true true b e = (refl, e)
and-true false b e = cc e

not-true : (a : Bool) → not a ≡ true → a ≡ false
not-true true e = cc e
not-true false e = refl

-- why an order succeeded
record Succeeded (ws : List Write) (order : Order) : Type 0 where
  served : is_served order ≡ true
  free : list_any (is_blocked (at ws) order.reads order.act) order.outputs ≡ false
  well : fails_on order.act (has_failing (standing ws) order) ≡ false

succeeded : (ws : List Write) (order : Order) → succeeds ws order ≡ true → Succeeded ws order
succeeded ws order e =
    let blocked = list_any (is_blocked (at ws) order.reads order.act) order.outputs in
    let failing = fails_on order.act (has_failing (standing ws) order) in
    let outer = and-true (is_served order && not blocked) (not failing) e in
    let inner = and-true (is_served order) (not blocked) outer.0 in
    record { served = inner.0; free = not-true blocked inner.1; well = not-true failing outer.1 }

code-zero : (ws : List Write) (order : Order) → exit_of ws order ≡ Code 0 → succeeds ws order ≡ true
code-zero ws order e = go (succeeds ws order) e
  where
    go : (b : Bool) → (if b then Code 0 else Code 1) ≡ Code 0 → b ≡ true
    go true h = refl
    go false h = cc h

no-deps : (order : Order) → is_served order ≡ true → order.deps ≡ []
no-deps order e = go order.deps e
  where
    go : (deps : List (List ℕ)) → is_served (record order { deps = deps }) ≡ true → deps ≡ []
    go [] h = refl
    go (dep ∷ deps) h = cc h

-- no output of a program was read
not-output : (ws : List Write) (order : Order) (words : List (List ℕ)) (env : List EnvText) (inherit clear : Bool) → order.act ≡ Spawn words env inherit clear
    → Succeeded ws order → (r : Read) → In r order.reads → (p : List ℕ) → is_read (node_text r.node) r.reading p ≡ true → In p order.outputs → ⊥
not-output ws order words env inherit clear act s r i p e o =
    let free : list_any (is_blocked (at ws) order.reads (Spawn words env inherit clear)) order.outputs ≡ false
    = subst (λ (a : Act). list_any (is_blocked (at ws) order.reads a) order.outputs ≡ false) act s.free in
    let kept : is_kept (at ws) order.reads p ≡ false = any-none (is_blocked (at ws) order.reads (Spawn words env inherit clear)) order.outputs free p o in
    let unread = any-none (λ (z : Read). is_read (node_text z.node) z.reading p) order.reads (or-false (is_directory (info_of (last_of ws p) Link)) _ kept).1 r i in
    cc (e, unread)

or-right : (a b : Bool) → b ≡ true → (a || b) ≡ true
or-right true b e = refl
or-right false b e = e

-- the contents that were read are those that stood before
reading-stood : (old new : List Write) (m : List FileVersion) (links : List (List ℕ)) (path : List ℕ) (reading : Reading) → Tells new m
    → ((p : List ℕ) → is_read path reading p ≡ true → last_of new p ≡ last_of old p)
    → StandsAs (at new) links path reading → reading_content m path reading ≡ reading_at (standing old) links path reading
reading-stood old new m links path readings.Nothing t kept stands = refl
reading-stood old new m links path (readings.File info) t kept stands =
    ap One (ap (content m path) (sym stands) ∙ standing-told new m t path (form_of links path info)
    ∙ ap (λ o. content_of o (form_of links path info)) (kept path (same_list-refl path)))
reading-stood old new m links path (readings.Tree entries) t kept stands =
    ap Entries (map-same {B = List ℕ × Content} (λ (e : TreeEntry). (e.path, content m e.path e.info)) (entry_at (standing old) links) entries (λ e i.
    let form = form_of links e.path e.info in
    let here : is_read path (readings.Tree entries) e.path ≡ true =
    or-right (same_list path e.path) _ (any-in (λ z. same_list z.path e.path) entries e i (same_list-refl e.path)) in
    ap (λ (c : Content). (e.path, c)) (ap (content m e.path) (sym (stands e i)) ∙ standing-told new m t e.path form ∙ ap (λ o. content_of o form) (kept e.path here))))
reading-stood old new m links path (readings.Structure entries) t kept stands = refl

any-map : (ws : List Write) (links : List (List ℕ)) (reads : List Read)
    → fails (map (read_at (standing ws) links) reads) ≡ list_any (λ (r : Read). reading_fails (reading_at (standing ws) links (node_text r.node) r.reading)) reads
any-map ws links [] = refl
any-map ws links (r ∷ reads) = ap (λ (b : Bool). reading_fails (reading_at (standing ws) links (node_text r.node) r.reading) || b) (any-map ws links reads)

nothing-found : (m : List FileVersion) (at : List ℕ → Form → Info) (order : Order) (found : List (List ℕ)) → order.deps ≡ [] → IsFound m at order.deps found → found ≡ []
nothing-found m at order found e f = subst (λ (deps : List (List ℕ)). IsFound m at deps found) e f

-- the tool runs a program, and so does the act: each output is a digest
record Program (tool : ToolMeaning) (act : Act) : Type 0 where
  words : List (List ℕ)
  env : List EnvText
  inherit : Bool
  clear : Bool
  act_is : act ≡ Spawn words env inherit clear
  digests : (hashed : List ℕ) (n : ℕ) → made_of tool hashed n ≡ Text (digest_of hashed n)

-- the tool makes a directory or a link, whatever is read
record Other (tool : ToolMeaning) (act : Act) : Type 0 where
  quiet : runs_program tool ≡ false
  made : (links : List (List ℕ)) (message hashed : List ℕ) (p : List ℕ) (n : ℕ) → what_content (made_by act hashed n) (asked_as links (makes_link act) p) ≡ made_of tool message n

acts : (archive : List (List ℕ)) (tool : ToolMeaning) (act : Act) → IsToolAct archive tool act → Program tool act ⊎ Other tool act
acts archive Phony act is = absurd is
acts archive (ShellWords words env inherit deps) act is = inl (record { words = words; env = env; inherit = inherit; clear = false; act_is = is; digests = λ m n. refl })
acts archive (ShellLine line env inherit deps) act is =
    inl (record { words = codes "/bin/sh" ∷ codes "-c" ∷ line ∷ []; env = env; inherit = inherit; clear = false; act_is = is; digests = λ m n. refl })
acts archive (ShellSigned signature inherit deps) act (words, (env, is)) =
    inl (record { words = words; env = env; inherit = inherit; clear = false; act_is = is; digests = λ m n. refl })
acts archive MakesDirectory act is =
    inr (subst (Other MakesDirectory) (sym is) (record { quiet = refl; made = λ links message hashed p n. refl }))
acts archive (MakesLink contents) act is =
    inr (subst (Other (MakesLink contents)) (sym is) (record { quiet = refl; made = λ links message hashed p n. refl }))
acts archive Archives act is = inl (record { words = archive; env = []; inherit = true; clear = true; act_is = is; digests = λ m n. refl })
acts archive (RemovesStale expected roots) act is = absurd is

-- what holds of an order that succeeded, and of the files before and after it
record Case (old : List Write) (order : Order) (m : List FileVersion) (meaning : Meaning) : Type 0 where
  well : (runs_program meaning.tool && fails (read_contents m order.reads)) ≡ false
  made : (p : List ℕ) (n : ℕ) → what_content (made_by order.act (hashed old order) n) (output_form order p)
      ≡ made_of meaning.tool (message_of order.signature (read_contents m order.reads) []) n

program-case : (old : List Write) (order : Order) (m : List FileVersion) (meaning : Meaning) → Tells (performed old order) m → succeeds old order ≡ true
    → Unchanged (at (performed old order)) order → Program meaning.tool order.act → Case old order m meaning
program-case old order m meaning t good unchanged p =
    let s = succeeded old order good in
    let new = performed old order in
    let made = made_by order.act (hashed old order) in
    let is : new ≡ put_outputs old made 0 order.outputs = ap (λ (b : Bool). if b then put_outputs old made 0 order.outputs else old) good in
    let kept : (q : List ℕ) → (In q order.outputs → ⊥) → last_of new q ≡ last_of old q =
    λ q h. ap (λ (ws : List Write). last_of ws q) is ∙ outputs-apart old made 0 order.outputs q h in
    let reads : read_contents m order.reads ≡ reads_at old order =
    map-same {B = NodeName × ReadContent} (λ (r : Read). (r.node, reading_content m (node_text r.node) r.reading)) (read_at (standing old) order.links) order.reads
    (λ r i. ap (λ (c : ReadContent). (r.node, c)) (reading-stood old new m order.links (node_text r.node) r.reading t
    (λ q e. kept q (not-output old order p.words p.env p.inherit p.clear p.act_is s r i q e)) (unchanged r i))) in
    let none : has_failing (standing old) order ≡ false = subst (λ (a : Act). fails_on a (has_failing (standing old) order) ≡ false) p.act_is s.well in
    let well : fails (read_contents m order.reads) ≡ false = ap fails reads ∙ any-map old order.links order.reads ∙ none in
    let message : hashed old order ≡ message_of order.signature (read_contents m order.reads) [] =
    hashed-is old order p.words p.env p.inherit p.clear p.act_is ∙ ap (λ (d : List (NodeName × ReadContent)). message_of order.signature d []) (sym reads) in
    record {
      well = and-right (runs_program meaning.tool) (fails (read_contents m order.reads)) well;
      made = λ q n.
          ap (λ (a : Act). what_content (made_by a (hashed old order) n) (output_form order q)) p.act_is
          ∙ ap (λ (z : List ℕ). Text (digest_of z n)) message ∙ sym (p.digests (message_of order.signature (read_contents m order.reads) []) n);
    }
  where
    hashed-is : (ws : List Write) (o : Order) (words : List (List ℕ)) (env : List EnvText) (inherit clear : Bool) → o.act ≡ Spawn words env inherit clear
        → hashed ws o ≡ message_of o.signature (reads_at ws o) []
    hashed-is ws o words env inherit clear e = go o.act e
      where
        go : (a : Act) → a ≡ Spawn words env inherit clear → hashed ws (record o { act = a }) ≡ message_of o.signature (reads_at ws o) []
        go (Spawn v x i k) h = refl
        go MakeDir h = cc h
        go (MakeLink text) h = cc h

    and-right : (a b : Bool) → b ≡ false → (a && b) ≡ false
    and-right true b e = e
    and-right false b e = refl

other-case : (old : List Write) (order : Order) (m : List FileVersion) (meaning : Meaning) → Other meaning.tool order.act → Case old order m meaning
other-case old order m meaning o = record {
  well = ap (λ (b : Bool). b && fails (read_contents m order.reads)) o.quiet;
  made = λ p n. o.made order.links (message_of order.signature (read_contents m order.reads) []) (hashed old order) p n;
}

pub toy-does : (old : List Write) (order : Order) (m : List FileVersion) (found : List (List ℕ)) → Tells (performed old order) m → exit_of old order ≡ Code 0 → IsFormed order
    → Unchanged (at (performed old order)) order → IsFound m (at (performed old order)) order.deps found
    → ToyDoes order.signature (read_contents m order.reads) (found_contents m (at (performed old order)) order found) (contents_at m (at (performed old order)) order)
toy-does old order m found t exit formed unchanged is-found =
    let good = code-zero old order exit in
    let s = succeeded old order good in
    let new = performed old order in
    let made = made_by order.act (hashed old order) in
    let held = made_of formed.meaning.tool (message_of order.signature (read_contents m order.reads) []) in
    let is : new ≡ put_outputs old made 0 order.outputs = ap (λ (b : Bool). if b then put_outputs old made 0 order.outputs else old) good in
    let case : Case old order m formed.meaning = elim (acts (archive_words formed.meaning) formed.meaning.tool order.act formed.is.act) [
      | inl p ↦ program-case old order m formed.meaning t good unchanged p
      | inr o ↦ other-case old order m formed.meaning o
    ] in
    let found-none = nothing-found m (at new) order found (no-deps order s.served) is-found in
    let outputs : contents_at m (at new) order ≡ contents_from held 0 (length order.outputs) =
    map-same (λ p. content m p (at new p (output_form order p))) (λ p. standing new p (output_form order p)) order.outputs (λ p i. standing-told new m t p (output_form order p))
    ∙ ap (λ (ws : List Write). map (λ p. standing ws p (output_form order p)) order.outputs) is
    ∙ outputs-standing (output_form order) made held case.made old 0 order.outputs formed.is.distinct in
    record {
      meaning = formed.meaning;
      is = formed.is.signature;
      short = formed.is.short;
      finds = ap (λ (ps : List (List ℕ)). found_contents m (at new) order ps) found-none;
      well = case.well;
      gives = outputs ∙ ap (λ (ps : List (List ℕ)). contents_from held 0 (length ps)) formed.is.outputs;
    }

-- the same of files that are those after the order
pub toy-does-after : (old new : List Write) (order : Order) (m : List FileVersion) (found : List (List ℕ)) → new ≡ performed old order → exit_of old order ≡ Code 0
    → Tells new m → IsFormed order → Unchanged (at new) order → IsFound m (at new) order.deps found
    → ToyDoes order.signature (read_contents m order.reads) (found_contents m (at new) order found) (contents_at m (at new) order)
toy-does-after old new order m found same exit =
    subst (λ (ws : List Write). Tells ws m → IsFormed order → Unchanged (at ws) order → IsFound m (at ws) order.deps found
    → ToyDoes order.signature (read_contents m order.reads) (found_contents m (at ws) order found) (contents_at m (at ws) order))
    (sym same) (λ t formed unchanged is. toy-does old order m found t exit formed unchanged is)
