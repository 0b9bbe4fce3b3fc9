-- What one order does.
use Rattle.std.proofs.Common.{◌≡◌, ℕ, List, [], ◌∷◌, ◌++◌, map, refl, sym, ◌∙◌, ap, inl, inr, subst}
use Rattle.std.specs.Prelude.{Bool, false, true, Option}
use Rattle.file_info.proofs.Lists.{In-one, map-same}
use Rattle.file_info.specs.Content.{Content, FileVersion, content, node_text, read_contents}
use Rattle.file_info.specs.Lists.{In}
use Rattle.file_info.specs.declared.info.Info.{Info}
use Rattle.file_info.specs.declared.info.Info.TheVariants as infos
use Rattle.file_info.specs.declared.info.Form.{Form}
use Rattle.file_info.specs.declared.info.Form.TheVariants.{Follow}
use Rattle.file_info.specs.declared.node.NodeName.{NodeName}
use Rattle.file_info.specs.declared.node.NodeName.TheVariants.{Path}
use Rattle.file_info.specs.declared.node.Read.{Read}
use Rattle.file_info.specs.declared.node.Reading.{Reading}
use Rattle.file_info.specs.declared.node.Reading.TheVariants.{File}
use Rattle.build_manifest.specs.declared.command.Command.{Command}
use Rattle.build_manifest.specs.declared.command.Input.{Input}
use Rattle.build_manifest.specs.declared.command.InputForm.{InputForm}
use Rattle.build_manifest.specs.declared.command.InputForm.TheVariants.{File as AsFile}
use Rattle.build_manifest.specs.declared.command.Args.{Args}
use Rattle.build_manifest.specs.declared.command.Args.TheVariants.{Absent, Words, Line}
use Rattle.build_manifest.specs.declared.command.Tool.{Tool}
use Rattle.outside.specs.declared.order.EnvText.{EnvText}
use Rattle.outside.specs.declared.order.Order.{Order}
use Rattle.outside.specs.declared.order.Act.{Act}
use Rattle.outside.specs.declared.order.Act.TheVariants.{Spawn}
use Rattle.outside.specs.OrderForm.{IsReadOf, AreReadsOf, IsToolAct, IsActOf, IsFormed, archive_words, deps_of, paths_of}
use Rattle.outside.specs.Meaning.{NodeKey}
use Rattle.outside.specs.Outcome.{IsWritten, StandsAs, Unchanged, IsFound, found_contents, contents_at, output_form, form_of}
use Rattle.build_meaning.specs.Commands.{key_in, key_of, meaning_of, program_of, shell_of, tool_in, variable_of}
use Rattle.build_meaning.specs.Fresh.{Does}
use Rattle.build_plan.specs.Built.{IsFileInput, IsPlain}
use Rattle.tool_commands.specs.Program.{words_of}
use Rattle.llbuild_cli.specs.CommandRun.{IsInput, IsOutput, IsOrderFor, ReadsStand, DidLaw, contents_made}

-- the one that was taken out is the one that was there
pub taken_one : (e o : Order) (before after : List Order) → before ++ e ∷ after ≡ o ∷ [] → (e ≡ o) × (before ++ after ≡ [])
taken_one e o [] after h = (cc h, cc h)
taken_one e o (b ∷ []) after h = cc h
taken_one e o (b ∷ (d ∷ before)) after h = cc h

pub written_one : (orders : List Order) (order : Order) (c : Command) (p : List ℕ) → orders ≡ order ∷ [] → order.outputs ≡ paths_of c.outputs → order.deps ≡ []
    → IsWritten orders p → IsOutput c p
written_one orders order c p one outputs deps w =
    let same : w.0 ≡ order = In-one (subst (λ (os : List Order). In w.0 os) one w.1) in
    elim w.2 [
      | inl o ↦ subst (In p) (ap (λ (z : Order). z.outputs) same ∙ outputs) o
      | inr d ↦ absurd (subst (In p) (ap (λ (z : Order). z.deps) same ∙ deps) d)
    ]

-- what a plain command hands its tool
tool_is : (c : Command) → IsPlain c → (meaning_of c).tool ≡ program_of c.args [] true []
tool_is c plain =
    ap (λ (t : Tool). tool_in t c) plain.tool
    ∙ ap (λ (s : Option (List ℕ)). shell_of s c.args (map variable_of c.env) c.inherit_env c.deps) plain.signature
    ∙ rw (plain.env, plain.inherit_env, plain.deps) refl

program_deps : (args : Args) (env : List EnvText) (inherit : Bool) (deps : List (List ℕ)) → deps_of (program_of args env inherit deps) ≡ deps
program_deps Absent env inherit deps = refl
program_deps (Words words) env inherit deps = refl
program_deps (Line line) env inherit deps = refl

program_spawns : (archive : List (List ℕ)) (args : Args) (env : List EnvText) (inherit : Bool) (deps : List (List ℕ)) (act : Act)
    → IsToolAct archive (program_of args env inherit deps) act → act ≡ Spawn (words_of args) env inherit false
program_spawns archive Absent env inherit deps act is = is
program_spawns archive (Words words) env inherit deps act is = is
program_spawns archive (Line line) env inherit deps act is = is

pub no_deps : (c : Command) → IsPlain c → deps_of (meaning_of c).tool ≡ []
no_deps c plain = ap deps_of (tool_is c plain) ∙ program_deps c.args [] true []

spawns : (c : Command) (act : Act) → IsPlain c → IsActOf (meaning_of c) act → act ≡ Spawn (words_of c.args) [] true false
spawns c act plain is =
    let archive = archive_words (meaning_of c) in
    program_spawns archive c.args [] true [] act (subst (λ t. IsToolAct archive t act) (tool_is c plain) is)

followed : (order : Order) (p : List ℕ) (words : List (List ℕ)) → order.act ≡ Spawn words [] true false → order.links ≡ [] → output_form order p ≡ Follow
followed order p words act links = rw (act, links) refl

-- what the law gives for the order, it gives for the command
pub did_step : (does : Does) (m : List FileVersion) (after : List ℕ → Form → Info) (c : Command) (ticket : ℕ) (reads : List Read) (order : Order)
    → IsPlain c → IsOrderFor c ticket reads order
    → (IsFormed order → Unchanged after order → (w : List (List ℕ)) → IsFound m after order.deps w
    → does order.signature (read_contents m order.reads) (found_contents m after order w) (contents_at m after order))
    → Unchanged after order → DidLaw does m after c reads
did_step does m after c ticket reads order plain is law unchanged =
    let deps : order.deps ≡ [] = is.is.formed.deps ∙ no_deps c plain in
    let found : IsFound m after order.deps [] = subst (λ (d : List (List ℕ)). IsFound m after d []) (sym deps) refl in
    let did = law (record { meaning = meaning_of c; is = is.is.formed }) unchanged [] found in
    let form = λ (p : List ℕ). followed order p (words_of c.args) (spawns c order.act plain is.is.formed.act) is.is.links in
    let outs : contents_at m after order ≡ contents_made m after c =
    map-same (λ (p : List ℕ). content m p (after p (output_form order p))) (λ (p : List ℕ). content m p (after p Follow)) order.outputs
    (λ p i. ap (λ (f : Form). content m p (after p f)) (form p))
    ∙ ap (map (λ (p : List ℕ). content m p (after p Follow))) is.outputs_are in
    subst (λ (s : List ℕ). does s (read_contents m reads) [] (contents_made m after c)) is.is.formed.signature
    (subst (λ (rs : List Read). does order.signature (read_contents m rs) [] (contents_made m after c)) is.reads_are
    (subst (λ (o : List Content). does order.signature (read_contents m order.reads) [] o) outs did))

-- the file of an input that was read
pub record FileOf (inputs : List Input) (read : Read) : Type 0 where
  pub path : List ℕ
  pub info : Info
  pub node : read.node ≡ Path path
  pub reading : read.reading ≡ File info
  pub input : IsInput inputs path

read_fits : (node : NodeName) (form : InputForm) (p : List ℕ) (r : Read) → form ≡ AsFile → node ≡ Path p → IsReadOf (key_in node form) r
    → (r.node ≡ Path p) × ((info : Info) × (r.reading ≡ File info))
read_fits node form p r is_file is_path is =
    subst (λ (n : NodeName). IsReadOf (NodeKey n) r) is_path (subst (λ (f : InputForm). IsReadOf (key_in node f) r) is_file is)

pub file_of : (inputs : List Input) (reads : List Read) → ((i : Input) → In i inputs → IsFileInput i) → AreReadsOf (map key_of inputs) reads
    → (r : Read) → In r reads → FileOf inputs r
file_of [] [] files h r i = absurd i
file_of [] (x ∷ xs) files h r i = absurd h
file_of (j ∷ js) [] files h r i = absurd i
file_of (j ∷ js) (x ∷ xs) files h r (inl e) =
    let file = files j (inl refl) in
    let fit = read_fits j.node j.form file.node.path x file.form file.node.is h.0 in
    record {
      path = file.node.path;
      info = fit.1.0;
      node = ap (λ (z : Read). z.node) e ∙ fit.0;
      reading = ap (λ (z : Read). z.reading) e ∙ fit.1.1;
      input = (j, (inl refl, sym (ap node_text file.node.is)));
    }
file_of (j ∷ js) (x ∷ xs) files h r (inr k) =
    let f = file_of js xs (λ i l. files i (inr l)) h.1 r k in
    record { path = f.path; info = f.info; node = f.node; reading = f.reading; input = (f.input.0, (inr f.input.1.0, f.input.1.1)) }

stands_followed : (after : List ℕ → Form → Info) (p : List ℕ) (i : Info) → ((t : List ℕ) → i ≡ infos.Link t → ⊥) → after p Follow ≡ i → after p (form_of [] p i) ≡ i
stands_followed after p infos.Missing free e = e
stands_followed after p infos.Directory free e = e
stands_followed after p (infos.File size stamp) free e = e
stands_followed after p (infos.Link t) free e = absurd (free t refl)

-- files that stand are unchanged
pub unchanged : (after : List ℕ → Form → Info) (inputs : List Input) (reads : List Read) (order : Order)
    → ((p t : List ℕ) → after p Follow ≡ infos.Link t → ⊥) → order.reads ≡ reads → order.links ≡ []
    → ((r : Read) → In r reads → FileOf inputs r) → ReadsStand after reads → Unchanged after order
unchanged after inputs reads order no_link same links files stand r i =
    let i_in = subst (λ (rs : List Read). In r rs) same i in
    let f = files r i_in in
    let here : after f.path Follow ≡ f.info = stand r f.path f.info i_in f.node f.reading in
    let there : StandsAs after [] (node_text (Path f.path)) (File f.info) = stands_followed after f.path f.info (λ t e. no_link f.path t (here ∙ e)) here in
    subst (λ (l : List (List ℕ)). StandsAs after l (node_text r.node) r.reading) (sym links)
    (subst (λ (n : NodeName). StandsAs after [] (node_text n) r.reading) (sym f.node)
    (subst (λ (g : Reading). StandsAs after [] (node_text (Path f.path)) g) (sym f.reading) there))

-- what stood still stands where no input is written
pub reads_on : (before after : List ℕ → Form → Info) (c : Command) (reads : List Read)
    → ((p : List ℕ) → IsInput c.inputs p → IsOutput c p → ⊥) → ((p : List ℕ) (f : Form) → (IsOutput c p → ⊥) → after p f ≡ before p f)
    → ((r : Read) → In r reads → FileOf c.inputs r) → ReadsStand before reads → ReadsStand after reads
reads_on before after c reads apart same files stand r p i i_in node reading =
    let f = files r i_in in
    let path : p ≡ f.path = ap node_text (sym node ∙ f.node) in
    let input : IsInput c.inputs p = subst (λ (q : List ℕ). IsInput c.inputs q) (sym path) f.input in
    same p Follow (apart p input) ∙ stand r p i i_in node reading
