-- The catalogues of the paths of a look-up, and the run that they answer.
use Rattle.gettext.proofs.Prelude.{AreCatalogues, Asked, AsksAt, AsksPaths, Bool, Bor, IsCatalogueAt, IsLookUpRun, List, NamedFile, None, Opens, Option, Reading, Request, RunView, Some, Stays, Vec, [], ap, append-nil, append_assoc, arith, catalogue_files, catalogue_limit, drop, drop_more, drop_of_length-le, false, fault_line, get_or, inl, inr, join_with_byte, length, length-map, list_any, map, mo_text, named_file, named_files, opened, or-false, refused, subst, sym, take, ℕ, ◌++◌, ◌+◌, ◌<◌, ◌||◌, ◌∙◌, ◌∷◌, ◌≡◌, ◌≤◌}
use Rattle.gettext.specs.Catalogues.{done, found as asks_found, next as asks_next, none as no_path, skipped}
use Rattle.std.proofs.Common.{flat_map}
use Rattle.mo_file.specs.declared.byte_order.Order.{Order}
use Rattle.mo_file.specs.declared.fault.MoError.{MoError}
use Rattle.mo_file.specs.Prelude.{IsFirstFault, IsMoFile}
use Rattle.mo_lookup.specs.Prelude.{CatalogView, IsCatalogView}
use Rattle.gettext.specs.Plan.{none}
use Rattle.gettext.specs.declared.catalogues.CatalogueFile.{CatalogueFile}

abbrev pub path_texts : List (Vec ℕ) → List (List ℕ)
path_texts paths = map (λ path. path.items) paths

next-path : (paths : List (Vec ℕ)) (i : ℕ) (d : Vec ℕ) → i < length paths
    → path_texts (drop i paths) ≡ (get_or paths i d).items ∷ path_texts (drop (i + 1) paths)
next-path paths i d below = ap path_texts (drop_more paths i d below)

-- whatever is asked for at the paths from i on completes what was asked for at the paths before
pub record AskedPaths (paths : List (Vec ℕ)) (i : ℕ) (before now : Option (List Asked)) : Type 0 where
  pub completes : (after : Option (List Asked)) → AsksPaths now (path_texts (drop i paths)) after
      → AsksPaths before (path_texts paths) after

pub asked-none : (paths : List (Vec ℕ)) (before : Option (List Asked)) → AskedPaths paths 0 before before
asked-none paths before = record { completes = λ after asks. asks }

pub asked-more : (paths : List (Vec ℕ)) (i : ℕ) (d : Vec ℕ) (a b c : Option (List Asked)) → i < length paths
    → AsksAt b c (get_or paths i d).items → AskedPaths paths i a b → AskedPaths paths (i + 1) a c
asked-more paths i d a b c below at before = record {
  completes = λ after asks. before.completes after (rw (next-path paths i d below) (asks_next at asks));
}

pub asked-all : (paths : List (Vec ℕ)) (i : ℕ) (a b : Option (List Asked)) → length paths ≤ i → AskedPaths paths i a b
    → AsksPaths a (path_texts paths) b
asked-all paths i a b past before = before.completes b (rw (drop_of_length-le paths past) no_path)

module _ (file : List ℕ → Reading → Type 0) where
  -- whatever the paths from i on add completes what the paths before made
  pub record CompletesPaths (paths : List (Vec ℕ)) (i : ℕ) (catalogues : List NamedFile) : Type 0 where
    pub completes : (more : List NamedFile) → AreCatalogues file (path_texts (drop i paths)) more
        → AreCatalogues file (path_texts paths) (catalogues ++ more)

  pub completes-none : (paths : List (Vec ℕ)) → CompletesPaths paths 0 []
  completes-none paths = record { completes = λ more are. are }

  pub completes-found : (paths : List (Vec ℕ)) (i : ℕ) (d : Vec ℕ) (catalogues now : List NamedFile)
      (catalogue : NamedFile) → i < length paths
      → IsCatalogueAt file (get_or paths i d).items (Some catalogue) → now ≡ catalogues ++ catalogue ∷ []
      → CompletesPaths paths i catalogues
      → CompletesPaths paths (i + 1) now
  completes-found paths i d catalogues now catalogue below is pushed before = record {
    completes = λ more are.
        rw (pushed, append_assoc)
        (before.completes (catalogue ∷ more) (rw (next-path paths i d below) (asks_found is are)));
  }

  pub completes-skipped : (paths : List (Vec ℕ)) (i : ℕ) (d : Vec ℕ) (catalogues : List NamedFile) → i < length paths
      → IsCatalogueAt file (get_or paths i d).items None → CompletesPaths paths i catalogues
      → CompletesPaths paths (i + 1) catalogues
  completes-skipped paths i d catalogues below is before = record {
    completes = λ more are. before.completes more (rw (next-path paths i d below) (skipped is are));
  }

  pub completes-all : (paths : List (Vec ℕ)) (i : ℕ) (catalogues : List NamedFile) → length paths ≤ i
      → CompletesPaths paths i catalogues
      → AreCatalogues file (path_texts paths) catalogues
  completes-all paths i catalogues past before =
      subst (AreCatalogues file (path_texts paths)) (append-nil catalogues)
      (before.completes [] (rw (drop_of_length-le paths past) done))

-- what stands at a path stands there as before
pub catalogue_as_before : {f f' : List ℕ → Reading → Type 0} {s s' : Reading → Type 0} → Stays f f' s s'
    → (path : List ℕ) (catalogue : Option NamedFile) → IsCatalogueAt f' path catalogue → IsCatalogueAt f path catalogue
catalogue_as_before stays path None (inl unread) = inl unread
catalogue_as_before stays path None (inr is) = inr (is.0, is.1, stays.of_file path _ is.2)
catalogue_as_before stays path (Some catalogue) is = (is.0, stays.of_file path _ is.1)

-- The files that are left to open, how many catalogues a chain has, and the answers to the arguments.

-- whatever the files from i on add completes what the files before made
abbrev pub Completes : List ℕ → List (Bor (List ℕ) × Bor (List ℕ)) → ℕ → List CatalogView → List ℕ → Type 0
Completes tool files i catalogs lines =
    (chain : List CatalogView) (reported : List ℕ) → Opens tool (named_files (drop i files)) chain reported
    → Opens tool (named_files files) (catalogs ++ chain) (lines ++ reported)

-- the next file stands before those that are left
next-file : (files : List (Bor (List ℕ) × Bor (List ℕ))) (i : ℕ) (d : Bor (List ℕ) × Bor (List ℕ)) → i < length files
    → named_files (drop i files) ≡ named_file (get_or files i d) ∷ named_files (drop (i + 1) files)
next-file files i d below = ap named_files (drop_more files i d below)

-- one more file is a catalogue
pub Completes-opened : (tool : List ℕ) (files : List (Bor (List ℕ) × Bor (List ℕ))) (i : ℕ)
    (d : Bor (List ℕ) × Bor (List ℕ)) (old new : List CatalogView) (lines : List ℕ) (catalog : CatalogView)
    (order : Order) → i < length files → new ≡ old ++ catalog ∷ []
    → IsMoFile order (get_or files i d).1.now catalog.messages → IsCatalogView catalog.messages catalog.rule
    → Completes tool files i old lines → Completes tool files (i + 1) new lines
Completes-opened tool files i d old new lines catalog order below joined is_file is_catalog so_far chain reported o =
    rw (joined, append_assoc old (catalog ∷ []) chain)
    (so_far (catalog ∷ chain) reported (rw (next-file files i d below) (opened order is_file is_catalog o)))

-- one more file is refused
pub Completes-refused : (tool : List ℕ) (files : List (Bor (List ℕ) × Bor (List ℕ))) (i : ℕ)
    (d : Bor (List ℕ) × Bor (List ℕ)) (catalogs : List CatalogView) (old new : List ℕ) (fault : MoError)
    → i < length files → new ≡ old ++ fault_line tool (get_or files i d).0.now 0 (mo_text fault)
    → IsFirstFault (get_or files i d).1.now fault
    → Completes tool files i catalogs old → Completes tool files (i + 1) catalogs new
Completes-refused tool files i d catalogs old new fault below reports is so_far chain reported o =
    let line = fault_line tool (get_or files i d).0.now 0 (mo_text fault) in
    rw (reports, append_assoc old line reported)
    (so_far chain (line ++ reported) (rw (next-file files i d below) (refused is o)))

-- where no file is left, all are opened
pub Completes-all : (tool : List ℕ) (files : List (Bor (List ℕ) × Bor (List ℕ))) (i : ℕ)
    (catalogs : List CatalogView) (lines : List ℕ) → length files ≤ i → Completes tool files i catalogs lines
    → Opens tool (named_files files) catalogs lines
Completes-all tool files i catalogs lines past completes =
    let all : Opens tool (named_files files) (catalogs ++ []) (lines ++ []) =
    completes [] [] (rw (drop_of_length-le files past) none) in
    rw (append-nil catalogs, append-nil lines) at all

-- each catalogue of a chain is a file
chain-few : {tool : List ℕ} {files : List NamedFile} {chain : List CatalogView} {reported : List ℕ}
    → Opens tool files chain reported → length chain ≤ length files
chain-few none = omega arith
chain-few (opened order is_mo_file is_view others) = let few = chain-few others in omega arith
chain-few (refused fault others) = let few = chain-few others in omega arith

-- a chain has no more catalogues than there are files
pub catalogs-few : (tool : List ℕ) (files : List (Bor (List ℕ) × Bor (List ℕ))) {catalogs : List CatalogView}
    {lines : List ℕ} → Opens tool (named_files files) catalogs lines → length catalogs ≤ length files
catalogs-few tool files {catalogs} opens =
    let few : length catalogs ≤ length (named_files files) = chain-few opens in
    rw (length-map files named_file) at few

-- after the first text each one stands after the byte
join-first : (byte : ℕ) (first : List ℕ) (others : List (List ℕ))
    → join_with_byte byte (first ∷ others) ≡ first ++ flat_map (λ text. byte ∷ text) others
join-first byte first [] = sym (append-nil first)
join-first byte first (next ∷ others) = ap (λ l. first ++ byte ∷ l) (join-first byte next others)

-- what stands after the answer to the first argument: the answers to others, each after a space
abbrev pub further : (List ℕ → List ℕ) → List (Bor (List ℕ)) → List ℕ
further answer arguments = flat_map (λ text. 32 ∷ text) (map answer (map (λ argument. argument.now) arguments))

-- the answers to the first argument and to the others are those to all
pub answers-reported : (answer : List ℕ → List ℕ) (arguments others : List (Bor (List ℕ))) (first : Bor (List ℕ))
    (old begun out : List ℕ) (i : ℕ)
    → arguments ≡ first ∷ others → length others ≤ i → begun ≡ old ++ answer first.now
    → out ++ further answer (drop i others) ≡ begun ++ further answer others
    → out ≡ old ++ join_with_byte 32 (map answer (map (λ argument. argument.now) arguments))
answers-reported answer arguments others first old begun out i are past begins left =
    let all : out ++ [] ≡ begun ++ further answer others = rw (drop_of_length-le others past) at left in
    sym (append-nil out) ∙ all ∙ ap (λ l. l ++ further answer others) begins
    ∙ append_assoc old (answer first.now) (further answer others)
    ∙ ap (λ l. old ++ l) (sym (join-first 32 (answer first.now) (map answer (map (λ argument. argument.now) others))))
    ∙ ap (λ ws. old ++ join_with_byte 32 (map answer (map (λ argument. argument.now) ws))) (sym are)

-- an argument acts as `-n` where the first or one of the others does
pub omitted-reported : (p : List ℕ → Bool) (arguments others : List (Bor (List ℕ))) (first : Bor (List ℕ))
    (begun omitted : Bool) (i : ℕ)
    → arguments ≡ first ∷ others → length others ≤ i → begun ≡ p first.now
    → (omitted || list_any p (map (λ argument. argument.now) (drop i others)))
    ≡ (begun || list_any p (map (λ argument. argument.now) others))
    → omitted ≡ list_any p (map (λ argument. argument.now) arguments)
omitted-reported p arguments others first begun omitted i are past begins left =
    let all : (omitted || false) ≡ (begun || list_any p (map (λ argument. argument.now) others)) =
    rw (drop_of_length-le others past) at left in
    sym (or-false omitted) ∙ all ∙ ap (λ b. b || list_any p (map (λ argument. argument.now) others)) begins
    ∙ ap (λ ws. list_any p (map (λ argument. argument.now) ws)) (sym are)

pub of_found : (request : Request) (run : RunView) (given borrowed : List (Bor (List ℕ) × Bor (List ℕ)))
    (read found : List CatalogueFile) → given ≡ borrowed
    → named_files borrowed ≡ take catalogue_limit (catalogue_files read) → read ≡ found
    → IsLookUpRun (named_files given) request run
    → IsLookUpRun (take catalogue_limit (catalogue_files found)) request run
of_found request run given borrowed read found same named all is =
    let files = ap named_files same ∙ named ∙ ap (λ list. take catalogue_limit (catalogue_files list)) all in
    subst (λ list. IsLookUpRun list request run) files is
