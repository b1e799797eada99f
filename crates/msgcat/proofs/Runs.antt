-- A run of msgcat, by the way in which it ends.
use Rattle.msgcat.proofs.Prelude.{All, All-head, All-right, All-tail, AreReadAs, Bor, CannotOpen, Err, HasNulName, HaveNoRun, IfErr, IfOk, IsFirstWithNul, IsMsgcatRun, IsRunOf, IsUnread, IsUnreadBeforeNul, Lacks, List, MergeOptions, Named, NamedFile, None, Ok, Option, OutOfMemory, ProgramFault, Result, RunView, Some, [], ap, append_assoc, arith, drop, drop-cons, eqb-true, false, false≢true, first_name, get_or, get_or_default, inl, inr, length, length-map, map-append, name_of_first, named_file, named_files, option_map, program_text, refl, run_view, subst, suc, sym, take, take-append-drop, take-map, true, ℕ, ◌++◌, ◌<◌, ◌∙◌, ◌∷◌, ◌≡◌, ◌≢◌, ◌⊎◌}
use Rattle.std.proofs.Math.ListN.{get_or-map}
use Rattle.std.specs.Option.{is_some}
use Rattle.po_syntax.proofs.Searches.{none_found}
use Rattle.memchr.specs.Find.{IsFirstByte, is_byte}
use Rattle.runs.specs.declared.run.Run.{Run}
use Rattle.msgcat.specs.Inputs as merge

abbrev pub Files : Type 0
Files = List (Bor (List ℕ) × Bor (List ℕ))

abbrev pub no_file : Bor (List ℕ) × Bor (List ℕ)
no_file = (record { ref_ptr = (0, 0); now = [] }, record { ref_ptr = (0, 0); now = [] })

pub file_at : (files : Files) (i : ℕ) (e : Bor (List ℕ) × Bor (List ℕ)) → i < length files
    → named_file (get_or files i e) ≡ get_or (named_files files) i (named_file (get_or files i e))
file_at files i e l = ap named_file (get_or_default files i e (get_or files i e) l)
    ∙ sym (get_or-map named_file files i (get_or files i e))

pub name_lacks : (files : Files) (i : ℕ) (e : Bor (List ℕ) × Bor (List ℕ)) → i < length files
    → All (λ file. Lacks 0 file.name) (named_files files) → Lacks 0 (get_or files i e).0.now
name_lacks files i e l h =
    let inside : i < length (named_files files) = omega (arith, l, length-map files named_file) in
    subst (λ (f : NamedFile). Lacks 0 f.name) (sym (file_at files i e l)) (h i (named_file (get_or files i e)) inside)

-- the first input has the name of the first file
pub first_named : (files : List NamedFile) (inputs : List Named) → AreReadAs files inputs
    → name_of_first inputs ≡ first_name files
first_named [] [] are = refl
first_named [] (input ∷ inputs) are = absurd are
first_named (file ∷ files) [] are = absurd are
first_named (file ∷ files) (input ∷ inputs) are = are.0.name

-- whether a NUL is found in a name
pub holds : (name : List ℕ) (nul : Option ℕ) → IsFirstByte (is_byte 0) name nul → is_some nul ≡ true
    → Lacks 0 name → ⊥
holds name (Some index) first is lacks =
    lacks index 0 first.0.high (eqb-true (get_or name index 0) 0 first.1)
holds name None nowhere is lacks = absurd (false≢true is)

pub lacks : (name : List ℕ) (nul : Option ℕ) → IsFirstByte (is_byte 0) name nul → is_some nul ≡ false → Lacks 0 name
lacks name (Some index) first is = cc
lacks name None nowhere is = none_found 0 name nowhere

-- a file whose name holds NUL, before which no name does
pub first_nul : (files : Files) (i : ℕ) (none : Bor (List ℕ) × Bor (List ℕ)) → i < length files
    → All (λ file. Lacks 0 file.name) (named_files (take i files)) → (Lacks 0 (get_or files i none).0.now → ⊥)
    → IsFirstWithNul (named_files files) i (get_or files i none).0.now
first_nul files i none inside names nul = record {
  bytes = (get_or files i none).1.now;
  after = named_files (drop (suc i) files);
  inside = omega (arith, inside, length-map files named_file);
  order = ap named_files (sym (take-append-drop i files) ∙ ap (λ l. take i files ++ l) (drop-cons files i none inside))
      ∙ map-append named_file (take i files) (get_or files i none ∷ drop (suc i) files)
      ∙ ap (λ l. l ++ named_file (get_or files i none) ∷ named_files (drop (suc i) files))
      (sym (take-map named_file i files));
  names = subst (All (λ file. Lacks 0 file.name)) (sym (take-map named_file i files)) names;
  nul = nul;
}

pub planned : (inputs : List NamedFile) (o : MergeOptions) (run : RunView) (next : Option ProgramFault)
    → (next ≡ None → IsMsgcatRun inputs o run) → (next ≢ None → IsUnread inputs run) → IsUnreadBeforeNul inputs run
    → IsRunOf o inputs (option_map program_text next) run
planned inputs o run None whole refused names = (whole refl, names)
planned inputs o run (Some fault) whole refused names = (refused (λ same. cc), names)

-- why inputs have no run, by what planning them answers
pub no_run : {inputs : List NamedFile} (next : Option ProgramFault) (reported : ProgramFault)
    → (reported ≡ OutOfMemory) ⊎ HasNulName inputs (program_text reported)
    ⊎ ((next ≡ Some reported) × All (λ file. Lacks 0 file.name) inputs
    × ((read : List merge.Named) × AreReadAs inputs read))
    → (reported ≡ OutOfMemory) ⊎ HaveNoRun inputs (option_map program_text next) (program_text reported)
no_run next reported (inl memory) = inl memory
no_run next reported (inr (inl nul)) = inr (inl nul)
no_run next reported (inr (inr (same, names, accepted))) =
    inr (inr (ap (option_map program_text) same, names, accepted))

-- Refusals of the files before one whose name holds NUL.

-- what refuses files refuses them with more files after them
pub unread_longer : (files more : List NamedFile) (run : RunView) → IsUnread files run → IsUnread (files ++ more) run
unread_longer files more run unread = record {
  name = unread.name;
  error = unread.error;
  fault = record {
    before = unread.fault.before;
    file = unread.fault.file;
    after = unread.fault.after ++ more;
    order = ap (λ l. l ++ more) unread.fault.order ∙ append_assoc unread.fault.before _ more;
    inputs = unread.fault.inputs;
    read = unread.fault.read;
    name_is = unread.fault.name_is;
    fault = unread.fault.fault;
  };
  not_memory = unread.not_memory;
  run_is = unread.run_is;
}

-- the files before one whose name holds NUL begin with those before the first such one
begins : (first : List NamedFile) (one : NamedFile) (others before : List NamedFile) (file : NamedFile)
    (after : List NamedFile) → first ++ one ∷ others ≡ before ++ file ∷ after
    → All (λ file. Lacks 0 file.name) first → (Lacks 0 file.name → ⊥)
    → (more : List NamedFile) × (before ≡ first ++ more)
begins [] one others before file after same names nul = (before, refl)
begins (f ∷ first) one others [] file after same names nul =
    absurd (nul (subst (λ (g : NamedFile). Lacks 0 g.name) (ap (λ l. get_or l 0 f) same)
    (All-head (λ (g : NamedFile). Lacks 0 g.name) f first names)))
begins (f ∷ first) one others (b ∷ before) file after same names nul =
    let next = begins first one others before file after (ap (drop 1) same)
    (All-tail (λ (g : NamedFile). Lacks 0 g.name) f first names) nul in
    (next.0, ap (λ (g : NamedFile). g ∷ before) (sym (ap (λ l. get_or l 0 f) same)) ∙ ap (λ l. f ∷ l) next.1)

pub unread_before_nul : (first : List NamedFile) (one : NamedFile) (others files : List NamedFile) (run : RunView)
    → files ≡ first ++ one ∷ others → All (λ file. Lacks 0 file.name) first → IsUnread first run
    → IsUnreadBeforeNul files run
unread_before_nul first one others files run order names unread before file after same nul =
    let more = begins first one others before file after (sym order ∙ same) names nul in
    subst (λ l. IsUnread l run) (sym more.1) (unread_longer first more.0 run unread)

-- no name holds NUL
pub no_nul : (files : List NamedFile) (run : RunView) → All (λ file. Lacks 0 file.name) files
    → IsUnreadBeforeNul files run
no_nul files run names before file after same nul =
    absurd (nul (All-head (λ (g : NamedFile). Lacks 0 g.name) file after
    (All-right (λ (g : NamedFile). Lacks 0 g.name) before (file ∷ after)
    (subst (All (λ file. Lacks 0 file.name)) same names))))

pub none_before : (r : Result Run ProgramFault) (files : List NamedFile) → All (λ file. Lacks 0 file.name) files
    → IfOk r (λ run. IsUnreadBeforeNul files (run_view run))
none_before (Ok run) files names = no_nul files (run_view run) names
none_before (Err reported) files names = tt

-- What the files before the first whose name holds NUL come to, for all files: by the texts as they were when that one
-- was looked for, and as they are where the files before it are read.
module _ (files : List NamedFile) (texts asked shown : Files) (named : named_files texts ≡ files)
    (asked_is : asked ≡ texts) (shown_is : shown ≡ texts) (place : ℕ) (name : Bor (List ℕ))
    (found : IsFirstWithNul (named_files asked) place name.now) where
  first : IsFirstWithNul files place name.now
  first = subst (λ l. IsFirstWithNul l place name.now) (ap named_files asked_is ∙ named) found

  before_is : named_files (take place shown) ≡ take place files
  before_is = ap (λ l. named_files (take place l)) shown_is ∙ sym (take-map named_file place texts)
      ∙ ap (take place) named

  pub some_file : files ≢ []
  some_file none = omega (arith, first.inside, ap length none)

  pub names_before : All (λ file. Lacks 0 file.name) (named_files (take place shown))
  names_before = subst (All (λ file. Lacks 0 file.name)) (sym before_is) first.names

  pub refused_before : (r : Result Run ProgramFault)
      → IfOk r (λ run. IsUnread (named_files (take place shown)) (run_view run))
      → IfOk r (λ run. IsUnreadBeforeNul files (run_view run))
  refused_before (Ok run) unread =
      unread_before_nul (take place files) _ first.after files (run_view run) first.order first.names
      (subst (λ l. IsUnread l (run_view run)) before_is unread)
  refused_before (Err reported) unread = tt

  pub refused_whole : (r : Result Run ProgramFault)
      → IfOk r (λ run. IsUnread (named_files (take place shown)) (run_view run))
      → IfOk r (λ run. IsUnread files (run_view run))
  refused_whole (Ok run) unread =
      subst (λ l. IsUnread l (run_view run)) (sym first.order)
      (unread_longer (take place files) _ (run_view run) (subst (λ l. IsUnread l (run_view run)) before_is unread))
  refused_whole (Err reported) unread = tt

  pub name_told : (r : Result Run ProgramFault) (A : ProgramFault → Type 0)
      → IfErr r (λ reported. (reported ≡ OutOfMemory) ⊎ ((reported ≡ CannotOpen name)
      × ((read : List merge.Named) × AreReadAs (named_files (take place shown)) read)))
      → IfErr r (λ reported. (reported ≡ OutOfMemory) ⊎ (HasNulName files (program_text reported) ⊎ A reported))
  name_told (Ok run) A told = tt
  name_told (Err reported) A (inl memory) = inl memory
  name_told (Err reported) A (inr (same, read)) = inr (inl (record {
    before = take place files;
    file = record { name = name.now; bytes = first.bytes };
    after = first.after;
    order = first.order;
    names = first.names;
    nul = first.nul;
    inputs = read.0;
    read = subst (λ l. AreReadAs l read.0) before_is read.1;
    text_is = ap program_text same;
  }))
