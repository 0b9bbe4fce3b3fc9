-- What is read of inputs, as what was seen grows.
use Rattle.std.proofs.Common.{◌≡◌, ◌≤◌, arith, ℕ, List, [], ◌∷◌, ◌++◌, map, refl, sym, ◌∙◌, ap, inl, inr, subst}
use Rattle.file_info.proofs.Lists.{In-map-back}
use Rattle.file_info.specs.Content.{Content, FileVersion, content, Absent, node_text, ReadContent, One, read_contents}
use Rattle.file_info.specs.Lists.{In}
use Rattle.file_info.specs.declared.info.Info.{Info}
use Rattle.file_info.specs.declared.info.Info.TheVariants.{Missing, Directory, File as FileInfo, Link}
use Rattle.file_info.specs.declared.node.NodeName.{NodeName}
use Rattle.file_info.specs.declared.node.NodeName.TheVariants.{Path}
use Rattle.file_info.specs.declared.node.Read.{Read}
use Rattle.file_info.specs.declared.node.Reading.{Reading}
use Rattle.file_info.specs.declared.node.Reading.TheVariants as readings
use Rattle.build_manifest.specs.declared.command.Input.{Input}
use Rattle.build_manifest.specs.declared.command.InputForm.{InputForm}
use Rattle.build_manifest.specs.declared.command.InputForm.TheVariants.{File}
use Rattle.outside.specs.OrderForm.{IsReadOf, AreReadsOf}
use Rattle.outside.specs.Meaning.{NodeKey}
use Rattle.build_meaning.specs.Commands.{key_of, key_in}
use Rattle.build_meaning.specs.Fresh.{nodes_read, as_read}
use Rattle.build_plan.specs.Built.{IsFileInput}
use Rattle.llbuild_cli.specs.declared.stop.Stop.{Stop}
use Rattle.llbuild_cli.specs.declared.stop.Stop.TheVariants.{CommandFailed, MissingInput, DiskFault, SinkFault, NoMemory}
use Rattle.llbuild_cli.specs.Input.{SeenAs, IsRead, AreRead}
use Rattle.llbuild_cli.specs.Stop.{IsDiskStop, IsReadStop, IsInputStop}

-- what is seen goes over into another way to see
abbrev pub SeesAll : (List ℕ → Info → Type 0) → (List ℕ → Info → Type 0) → Type 0
SeesAll old new = (p : List ℕ) (i : Info) → old p i → new p i

pub seen_on : {old new : List ℕ → Info → Type 0} {input : Input} {info : Info} → SeesAll old new → SeenAs old input info → SeenAs new input info
seen_on {info} more s = record { path = s.path; node = s.node; was = more s.path info s.was }

pub read_on : {old new : List ℕ → Info → Type 0} {input : Input} {read : Read} → SeesAll old new → IsRead old input read → IsRead new input read
read_on more r = record { info = r.info; saw = seen_on more r.saw; there = r.there; node = r.node; reading = r.reading }

pub all_read_on : {old new : List ℕ → Info → Type 0} → SeesAll old new → (inputs : List Input) (reads : List Read) → AreRead old inputs reads → AreRead new inputs reads
all_read_on more [] [] h = tt
all_read_on more [] (r ∷ rs) h = absurd h
all_read_on more (i ∷ is) [] h = absurd h
all_read_on more (i ∷ is) (r ∷ rs) h = (read_on more h.0, all_read_on more is rs h.1)

pub read_more : {seen : List ℕ → Info → Type 0} {input : Input} {read : Read} (inputs : List Input) (reads : List Read)
    → AreRead seen inputs reads → IsRead seen input read → AreRead seen (inputs ++ input ∷ []) (reads ++ read ∷ [])
read_more [] [] h one = (one, tt)
read_more [] (r ∷ rs) h one = absurd h
read_more (i ∷ is) [] h one = absurd h
read_more (i ∷ is) (r ∷ rs) h one = (h.0, read_more is rs h.1 one)

-- the input of a read
pub input_of : {seen : List ℕ → Info → Type 0} (inputs : List Input) (reads : List Read) → AreRead seen inputs reads → (r : Read) → In r reads
    → (i : Input) × (In i inputs × IsRead seen i r)
input_of [] [] h r in_it = absurd in_it
input_of [] (x ∷ xs) h r in_it = absurd h
input_of (i ∷ is) [] h r in_it = absurd in_it
input_of {seen} (i ∷ is) (x ∷ xs) h r (inl e) = (i, (inl refl, subst (λ (y : Read). IsRead seen i y) (sym e) h.0))
input_of (i ∷ is) (x ∷ xs) h r (inr k) = let (j, rest) = input_of is xs h.1 r k in (j, (inr rest.0, rest.1))

-- the read of an input
pub read_of : {seen : List ℕ → Info → Type 0} (inputs : List Input) (reads : List Read) → AreRead seen inputs reads → (i : Input) → In i inputs
    → (r : Read) × (In r reads × IsRead seen i r)
read_of [] reads h i in_it = absurd in_it
read_of (j ∷ js) [] h i in_it = absurd h
read_of {seen} (j ∷ js) (x ∷ xs) h i (inl e) = (x, (inl refl, subst (λ (y : Input). IsRead seen y x) (sym e) h.0))
read_of (j ∷ js) (x ∷ xs) h i (inr k) = let (r, rest) = read_of js xs h.1 i k in (r, (inr rest.0, rest.1))

-- a read file is what can be read of its input
key_read : (node : NodeName) (form : InputForm) (p : List ℕ) (info : Info) (r : Read) → form ≡ File → node ≡ Path p → r.node ≡ node → r.reading ≡ readings.File info
    → IsReadOf (key_in node form) r
key_read node form p info r is_file is_path same reading =
    subst (λ (f : InputForm). IsReadOf (key_in node f) r) (sym is_file)
    (subst (λ (n : NodeName). IsReadOf (NodeKey n) r) (sym is_path) (same ∙ is_path, (info, reading)))

pub reads_fit : (seen : List ℕ → Info → Type 0) (inputs : List Input) (reads : List Read) → ((i : Input) → In i inputs → IsFileInput i) → AreRead seen inputs reads
    → AreReadsOf (map key_of inputs) reads
reads_fit seen [] [] files h = tt
reads_fit seen [] (r ∷ rs) files h = absurd h
reads_fit seen (i ∷ is) [] files h = absurd h
reads_fit seen (i ∷ is) (r ∷ rs) files h =
    (key_read i.node i.form h.0.saw.path h.0.info r (files i (inl refl)).form h.0.saw.node h.0.node h.0.reading, reads_fit seen is rs (λ j k. files j (inr k)) h.1)

-- the content of a file that was read
abbrev pub content_read : List FileVersion → List ℕ → Reading → Content
content_read m p readings.Nothing = Absent
content_read m p (readings.File i) = content m p i
content_read m p (readings.Tree entries) = Absent
content_read m p (readings.Structure entries) = Absent

-- a read file with its content
abbrev pub file_read : List FileVersion → Read → List ℕ × Content
file_read m r = (node_text r.node, content_read m (node_text r.node) r.reading)

-- the read files with their contents
abbrev pub files_read : List FileVersion → List Read → List (List ℕ × Content)
files_read m reads = map (file_read m) reads

-- a node with the content of what was read of it
abbrev pub pair_read : List FileVersion → NodeName → Reading → NodeName × ReadContent
pair_read m node reading = (node, Rattle.file_info.specs.Content.reading_content m (node_text node) reading)

-- the same, of a file
abbrev pub pair_of_file : List FileVersion → NodeName → Reading → NodeName × ReadContent
pair_of_file m node reading = (Path (node_text node), One (content_read m (node_text node) reading))

one_file : (m : List FileVersion) (node : NodeName) (reading : Reading) (p : List ℕ) (i : Info) → node ≡ Path p → reading ≡ readings.File i
    → pair_read m node reading ≡ pair_of_file m node reading
one_file m node reading p i e f = rw (e, f) refl

pub read_files : (seen : List ℕ → Info → Type 0) (m : List FileVersion) (inputs : List Input) (reads : List Read) → AreRead seen inputs reads
    → read_contents m reads ≡ as_read (files_read m reads)
read_files seen m [] [] h = refl
read_files seen m [] (r ∷ rs) h = absurd h
read_files seen m (i ∷ is) [] h = absurd h
read_files seen m (i ∷ is) (r ∷ rs) h =
    let rest = read_files seen m is rs h.1 in
    let here = one_file m r.node r.reading h.0.saw.path h.0.info (h.0.node ∙ h.0.saw.node) h.0.reading in
    cc (here, rest)

pub read_nodes : (seen : List ℕ → Info → Type 0) (m : List FileVersion) (inputs : List Input) (reads : List Read) → AreRead seen inputs reads
    → nodes_read inputs ≡ map (λ (f : List ℕ × Content). Path f.0) (files_read m reads)
read_nodes seen m [] [] h = refl
read_nodes seen m [] (r ∷ rs) h = absurd h
read_nodes seen m (i ∷ is) [] h = absurd h
read_nodes seen m (i ∷ is) (r ∷ rs) h =
    let rest = read_nodes seen m is rs h.1 in
    let path : r.node ≡ Path h.0.saw.path = h.0.node ∙ h.0.saw.node in
    let text : node_text r.node ≡ h.0.saw.path = ap node_text path in
    let here : i.node ≡ Path (node_text r.node) = h.0.saw.node ∙ ap Path (sym text) in
    cc (here, rest)

-- only what is missing has no content
pub is_missing : (m : List FileVersion) (p : List ℕ) (i : Info) → content m p i ≡ Absent → i ≡ Missing
unfolding content
is_missing m p Missing e = refl
is_missing m p Directory e = cc e
is_missing m p (FileInfo s t) e = cc e
is_missing m p (Link a) e = cc e

-- the file of a read, with what was seen of it
pub record FileRead (seen : List ℕ → Info → Type 0) (m : List FileVersion) (inputs : List Input) (p : List ℕ) (x : Content) : Type 0 where
  pub input : Input
  pub named : In input inputs
  pub node : input.node ≡ Path p
  pub info : Info
  pub was : seen p info
  pub there : info ≡ Missing → ⊥
  pub is : x ≡ content m p info

same_file : (m : List FileVersion) (node : NodeName) (reading : Reading) (p : List ℕ) (i : Info) (f : List ℕ × Content) → node ≡ Path p → reading ≡ readings.File i
    → f ≡ (node_text node, content_read m (node_text node) reading) → (f.0 ≡ p) × (f.1 ≡ content m f.0 i)
same_file m node reading p i f e g same =
    let first : f.0 ≡ p = ap (λ (z : List ℕ × Content). z.0) same ∙ ap node_text e in
    let second : f.1 ≡ content_read m (node_text node) reading = ap (λ (z : List ℕ × Content). z.1) same in
    let third : content_read m (node_text node) reading ≡ content m p i = rw (e, g) refl in
    (first, second ∙ third ∙ ap (λ (z : List ℕ). content m z i) (sym first))

-- a file among those that were read is that of an input, as it was seen
pub file_seen : {seen : List ℕ → Info → Type 0} (m : List FileVersion) (inputs : List Input) (reads : List Read) → AreRead seen inputs reads
    → (q : List ℕ) (y : Content) → In (q, y) (files_read m reads) → FileRead seen m inputs q y
file_seen {seen} m inputs reads h q y in_it =
    let (r, r_in, same) = In-map-back (file_read m) (q, y) reads in_it in
    let (i, both) = input_of inputs reads h r r_in in
    let read = both.1 in
    let equal = same_file m r.node r.reading read.saw.path read.info (q, y) (read.node ∙ read.saw.node) read.reading same in
    record {
      input = i;
      named = both.0;
      node = read.saw.node ∙ ap Path (sym equal.0);
      info = read.info;
      was = subst (λ (z : List ℕ). seen z read.info) (sym equal.0) read.saw.was;
      there = read.there;
      is = equal.1;
    }

-- the disk stops the reading of an input of which nothing is known
pub disk_read : (stop : Stop) (before now : ℕ) (asker : List ℕ) (seen : List ℕ → Info → Type 0) (input : Input) (path : List ℕ) → input.node ≡ Path path
    → IsDiskStop before now stop → (stop ≡ DiskFault → (info : Info) → seen path info → ⊥) → IsReadStop before now asker seen input stop
disk_read (CommandFailed command exit) before now asker seen input path node why unseen = why
disk_read (MissingInput by name) before now asker seen input path node why unseen = absurd why
disk_read DiskFault before now asker seen input path node why unseen = (why, record { path = path; node = node; unseen = unseen refl })
disk_read SinkFault before now asker seen input path node why unseen = why
disk_read NoMemory before now asker seen input path node why unseen = tt

-- one of the inputs stops the reading of all
pub read_stop : (stop : Stop) (first before now : ℕ) (asker : List ℕ) (old new : List ℕ → Info → Type 0) (passed : List Input) (input : Input) (rest inputs : List Input)
    → inputs ≡ passed ++ input ∷ rest → (reads : List Read) → AreRead old passed reads → first ≤ before → SeesAll old new
    → IsReadStop before now asker new input stop → IsInputStop first now asker new inputs stop
read_stop (CommandFailed command exit) first before now asker old new passed input rest inputs parts reads read later more why = why
read_stop (MissingInput by node) first before now asker old new passed input rest inputs parts reads read later more why = (
  why.0,
  record {
    before = passed;
    input = input;
    after = rest;
    inputs_are = parts;
    reads = reads;
    there = all_read_on more passed reads read;
    missing = why.2;
    written_is = sym why.1;
  },
)
read_stop DiskFault first before now asker old new passed input rest inputs parts reads read later more why = (
  (let rose = why.0 in omega arith),
  record {
    before = passed;
    input = input;
    after = rest;
    inputs_are = parts;
    reads = reads;
    there = all_read_on more passed reads read;
    unseen = why.1;
  },
)
read_stop SinkFault first before now asker old new passed input rest inputs parts reads read later more why = why
read_stop NoMemory first before now asker old new passed input rest inputs parts reads read later more why = tt
