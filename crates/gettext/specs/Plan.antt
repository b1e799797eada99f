-- What gettext and ngettext write (manual, "Invoking the gettext program" and "Invoking the ngettext program").
use Rattle.std.specs.Prelude.{◌≡◌, refl, ℕ, Bool, true, false, not, ◌&&◌, List, [], ◌∷◌, ◌++◌, map, Option, None, Some, codes, if◌then◌else◌}
use Rattle.std.specs.List.{join_with_byte, list_any}
use Rattle.mo_file.specs.declared.byte_order.Order.{Order}
use Rattle.mo_file.specs.declared.fault.MoError.{MoError}
use Rattle.mo_file.specs.Prelude.{IsMoFile, IsFirstFault}
use Rattle.mo_lookup.specs.Prelude.{chain_answered, CatalogView, IsCatalogView}
use Rattle.gettext.specs.Count.{count_in}
use Rattle.gettext.specs.Escape.{expansion, has_no_newline, escape_after, given_bytes_after, letter_escape}
use Rattle.runs.specs.Prelude.{fault_line, mo_text, NamedFile, RunView}
use Rattle.std.specs.Option.{option_copied}
use Rattle.gettext.specs.declared.plan.GettextOptions.{GettextOptions}
use Rattle.gettext.specs.declared.plan.LookUp.{LookUp}
use Rattle.gettext.specs.declared.plan.LookUp.TheVariants.{Messages, PluralForm}
use Rattle.gettext.specs.declared.plan.NgettextOptions.{NgettextOptions}

-- The files that are catalogues make the chain, in order; each other one is reported by a line, in order.
pub data Opens (tool : List ℕ) : List NamedFile → List CatalogView → List ℕ → Type 0 where
  none : Opens tool [] [] []
  opened : {file : NamedFile} {files : List NamedFile} {catalog : CatalogView} {chain : List CatalogView}
      {reported : List ℕ} (order : Order)
      → IsMoFile order file.bytes catalog.messages → IsCatalogView catalog.messages catalog.rule
      → Opens tool files chain reported
      → Opens tool (file ∷ files) (catalog ∷ chain) reported
  refused : {file : NamedFile} {files : List NamedFile} {fault : MoError} {chain : List CatalogView} {reported : List ℕ}
      → IsFirstFault file.bytes fault → Opens tool files chain reported
      → Opens tool (file ∷ files) chain (fault_line tool file.name 0 (mo_text fault) ++ reported)

-- what gettext is asked for, besides the catalogues
pub record GettextRequest : Type 0 where
  pub arguments : List (List ℕ)
  pub context : Option (List ℕ)
  pub expand : Bool
  pub no_newline : Bool
  pub shell : Bool

-- an argument, with its escapes expanded where `-e` is given
abbrev pub argument_text : Bool → List ℕ → List ℕ
argument_text expand argument = if expand then expansion argument else argument

-- the answer to one MSGID
abbrev pub argument_answer : List CatalogView → GettextRequest → List ℕ → List ℕ
argument_answer chain o argument =
    (chain_answered chain (record { context = o.context; id = argument_text o.expand argument; plural = None })).text

-- the answers, with a space between two
abbrev pub answers : List CatalogView → GettextRequest → List ℕ
answers chain o = join_with_byte 32 (map (argument_answer chain o) o.arguments)

-- with `-e` a `\c` in an argument acts as `-n`
abbrev pub omits_newline : GettextRequest → List ℕ → Bool
omits_newline o argument = o.expand && has_no_newline argument

-- with `-s` a newline ends the output, unless `-n` is given or an argument acts as that
abbrev pub ends_line : GettextRequest → Bool
ends_line o = o.shell && (not o.no_newline && not (list_any (omits_newline o) o.arguments))

-- the answers, and the newline where one ends the output
abbrev pub gettext_output : List CatalogView → GettextRequest → List ℕ
gettext_output chain o = answers chain o ++ (if ends_line o then 10 ∷ [] else [])

-- what ngettext is asked for, besides the catalogues
pub record NgettextRequest : Type 0 where
  pub context : Option (List ℕ)
  pub expand : Bool
  pub id : List ℕ
  pub plural : List ℕ
  pub count : List ℕ

-- the answer to MSGID and MSGID-PLURAL at COUNT
abbrev pub ngettext_output : List CatalogView → NgettextRequest → List ℕ
ngettext_output chain o =
    (chain_answered chain (record {
      context = o.context;
      id = argument_text o.expand o.id;
      plural = Some (argument_text o.expand o.plural, count_in o.count);
    })).text

-- this output, and these lines about catalogues that were refused, which don't count as a failure
abbrev pub output_run : List ℕ → List ℕ → RunView
output_run output reported = record { output = output; create = false; messages = reported; status = 0 }

-- what is looked up: the messages of gettext, or the plural form of ngettext for a count
pub data Request : Type 0 where
  for_messages : GettextRequest → Request
  for_count : NgettextRequest → Request

-- the tool that looks it up
abbrev pub tool_of : Request → List ℕ
tool_of (for_messages o) = codes "gettext"
tool_of (for_count o) = codes "ngettext"

-- what that tool writes
abbrev pub output_of : List CatalogView → Request → List ℕ
output_of chain (for_messages o) = gettext_output chain o
output_of chain (for_count o) = ngettext_output chain o

-- what a run of gettext or ngettext comes to
pub record IsLookUpRun (files : List NamedFile) (request : Request) (run : RunView) : Type 0 where
  pub chain : List CatalogView
  pub reported : List ℕ
  pub opens : Opens (tool_of request) files chain reported
  pub run_is : run ≡ output_run (output_of chain request) reported

-- a request for these MSGIDs, without a context
abbrev pub request_of : List (List ℕ) → Bool → Bool → Bool → GettextRequest
request_of texts expand no_newline shell =
    record { arguments = texts; context = None; expand = expand; no_newline = no_newline; shell = shell }

-- Without a catalogue a text stands for itself. As the manual says, `-s` acts as `echo` does, `-n`
-- omits the newline, `\c` does so too where `-e` is given, and MSGID is for one.
pub one_text : gettext_output [] (request_of (codes "a\\n" ∷ []) false false false) ≡ codes "a\\n"
one_text = refl

pub two_texts : gettext_output [] (request_of (codes "a" ∷ codes "b" ∷ []) false false true) ≡ codes "a b\n"
two_texts = refl

pub without_newline : gettext_output [] (request_of (codes "a" ∷ codes "b" ∷ []) false true true) ≡ codes "a b"
without_newline = refl

pub c_without_newline : gettext_output [] (request_of (codes "a\\n" ∷ codes "b\\c" ∷ []) true false true)
    ≡ codes "a\n b"
unfolding given_bytes_after escape_after letter_escape
c_without_newline = refl

abbrev pub request_at : List ℕ → NgettextRequest
request_at count =
    record { context = None; expand = false; id = codes "file"; plural = codes "files"; count = count }

pub one_file : ngettext_output [] (request_at (codes "1")) ≡ codes "file"
unfolding count_in
one_file = refl

pub no_files : ngettext_output [] (request_at (codes "0")) ≡ codes "files"
unfolding count_in
no_files = refl

pub many_files : ngettext_output [] (request_at (codes "many")) ≡ codes "files"
unfolding count_in
many_files = refl

-- each tool by its name
pub tools_are : (o : GettextRequest) (p : NgettextRequest)
    → (tool_of (for_messages o) ≡ codes "gettext") × (tool_of (for_count p) ≡ codes "ngettext")
tools_are o p = (refl, refl)

-- a catalogue that is refused doesn't count as a failure
pub status_is : (output reported : List ℕ) → (output_run output reported).status ≡ 0
status_is output reported = refl

-- a catalogue is asked in the context that `-c` gives, with `-e` for the texts as they are expanded
pub msgid_asked : (chain : List CatalogView)
    → gettext_output chain
    (record {
      arguments = codes "a\\tb" ∷ [];
      context = Some (codes "menu");
      expand = true;
      no_newline = false;
      shell = false;
    })
    ≡ (chain_answered chain (record { context = Some (codes "menu"); id = codes "a\tb"; plural = None })).text ++ []
unfolding given_bytes_after escape_after letter_escape
msgid_asked chain = refl

pub plural_asked : (chain : List CatalogView)
    → ngettext_output chain
    (record {
      context = Some (codes "menu");
      expand = true;
      id = codes "a\\tb";
      plural = codes "c\\td";
      count = codes "3";
    })
    ≡ (chain_answered chain
    (record { context = Some (codes "menu"); id = codes "a\tb"; plural = Some (codes "c\td", 3) })).text
unfolding given_bytes_after escape_after letter_escape count_in
plural_asked chain = refl

abbrev pub gettext_view : GettextOptions → GettextRequest
gettext_view o = record {
  arguments = map (λ argument. argument.now) o.messages.now;
  context = option_copied o.context;
  expand = o.expand;
  no_newline = o.no_newline;
  shell = o.shell;
}

abbrev pub ngettext_view : NgettextOptions → NgettextRequest
ngettext_view o = record {
  context = option_copied o.context;
  expand = o.expand;
  id = o.id.now;
  plural = o.plural.now;
  count = o.count.now;
}

abbrev pub request_view : LookUp → Request
request_view (Messages o) = for_messages (gettext_view o)
request_view (PluralForm o) = for_count (ngettext_view o)
