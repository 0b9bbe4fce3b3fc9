-- A path has one fresh content at most, and what is fresh stays so as more is seen.
use Rattle.std.proofs.Common.{◌≡◌, ℕ, List, [], ◌∷◌, map, refl, sym, ◌∙◌, ap, inl, inr}
use Rattle.std.specs.Prelude.{slice_get}
use Rattle.file_info.specs.Content.{Content, ReadContent, FileVersion, content}
use Rattle.file_info.specs.Lists.{In}
use Rattle.file_info.proofs.Lists.{In-get}
use Rattle.file_info.specs.declared.info.Info.{Info}
use Rattle.file_info.specs.declared.node.NodeName.{NodeName}
use Rattle.file_info.specs.declared.node.NodeName.TheVariants.{Path}
use Rattle.outside.specs.OrderForm.{paths_of}
use Rattle.outside.specs.Meaning.{signature_of}
use Rattle.build_manifest.specs.declared.command.Command.{Command}
use Rattle.build_meaning.specs.Commands.{meaning_of}
use Rattle.build_meaning.specs.Fresh.{Does, Sights, Fresh, source, made, nodes_read, as_read}
use Rattle.build_meaning.specs.Unique.{HasOneMaker, SawOnce}

-- more is seen
abbrev pub SeesMore : Sights → Sights → Type 0
SeesMore old new = (s : List ℕ × Info) → In s old → In s new

pub Fresh-more : {does : Does} {m : List FileVersion} {cs : List Command} {old new : Sights} {p : List ℕ} {x : Content}
    → SeesMore old new → Fresh does m cs old p x → Fresh does m cs new p x
Fresh-more more (source {p} i free seen e) = source i free (more (p, i) seen) e
Fresh-more more (made c d o k ic names there fresh done at is) =
    made c d o k ic names there (λ q y h. Fresh-more more (fresh q y h)) done at is

-- outputs are determined where nothing is found
abbrev pub IsDetermined : Does → Type 0
IsDetermined does = (s : List ℕ) (d : List (NodeName × ReadContent)) (o q : List Content) → does s d [] o → does s d [] q → o ≡ q

-- files of the same paths with the same contents are the same
same_files : (d e : List (List ℕ × Content)) → map (λ (f : List ℕ × Content). Path f.0) d ≡ map (λ (f : List ℕ × Content). Path f.0) e
    → ((q : List ℕ) (y z : Content) → In (q, y) d → In (q, z) e → y ≡ z) → d ≡ e
same_files [] [] n h = refl
same_files [] (b ∷ e) n h = cc n
same_files (a ∷ d) [] n h = cc n
same_files (a ∷ d) (b ∷ e) n h =
    let first : a.0 ≡ b.0 = cc n in
    let second : a.1 ≡ b.1 = h a.0 a.1 b.1 (inl refl) (inl (ap (λ q. (q, b.1)) first)) in
    let rest : d ≡ e = same_files d e (cc n) (λ q y z i j. h q y z (inr i) (inr j)) in
    let one : a ≡ b = ap (λ q. (q, a.1)) first ∙ ap (λ y. (b.0, y)) second in
    cc (one, rest)

pub Fresh-unique : {does : Does} {m : List FileVersion} {cs : List Command} {seen : Sights} {p : List ℕ} {x : Content}
    → IsDetermined does → HasOneMaker cs → SawOnce seen → Fresh does m cs seen p x → (y : Content) → Fresh does m cs seen p y → x ≡ y
Fresh-unique {m} {p} law one info (source i free seen e) y (source j free' seen' e') = e ∙ ap (content m p) (info p i j seen seen') ∙ sym e'
Fresh-unique law one info (source i free seen e) y (made c d o k ic names there fresh done at is) =
    absurd (free (record { by = c; named = ic; output = In-get (paths_of c.outputs) k _ at }))
Fresh-unique law one info (made c d o k ic names there fresh done at is) y (source i free seen e) =
    absurd (free (record { by = c; named = ic; output = In-get (paths_of c.outputs) k _ at }))
Fresh-unique law one info (made c d o k ic names there fresh done at is) y (made c' d' o' k' ic' names' there' fresh' done' at' is') =
    let same = one c c' k k' _ ic ic' at at' in
    let reads : d ≡ d' = same_files d d' (sym names ∙ ap (λ (b : Command). nodes_read b.inputs) same.0 ∙ names') (λ q y z i j. Fresh-unique law one info (fresh q y i) z (fresh' q z j)) in
    let outs : o ≡ o' = law (signature_of (meaning_of c)) (as_read d) o o' done (rw (same.0, reads) done') in
    let here : slice_get o k ≡ slice_get o' k' = ap (slice_get o) same.1 ∙ ap (λ (b : List Content). slice_get b k') outs in
    cc (here, is, is')
