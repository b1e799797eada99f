-- What a command line of gettext or ngettext asks for, and its arguments after the options ("Invoking
-- the gettext program" and "Invoking the ngettext program" of the GNU gettext manual).
use Rattle.std.specs.Prelude.{◌≡◌, refl, ℕ, Bool, true, false, List, [], ◌∷◌, Option, Some, None, codes, map, Result, Ok, Err}
use Rattle.std.specs.Borrow.{Bor}
use Rattle.std.specs.Option.{option_copied}
use Rattle.gettext.specs.Catalogues.{GivenDomain, given_domain}
use Rattle.gettext.specs.Plan.{GettextRequest, NgettextRequest, Request, for_count, for_messages, request_view}
use Rattle.gettext.specs.declared.arguments.LookUpCommand.{LookUpCommand}
use Rattle.runs.specs.declared.program_fault.ProgramFault.{ProgramFault}
use Rattle.runs.specs.declared.program_fault.ProgramFault.TheVariants.{WrongArguments}

-- what gettext is given: a text domain or none, and messages
pub record GettextUsage : Type 0 where
  pub domain : Option (List ℕ)
  pub messages : List (List ℕ)

-- [TEXTDOMAIN] MSGID, or with `-s` MSGID..
abbrev pub gettext_usage : Bool → List (List ℕ) → Option GettextUsage
gettext_usage true arguments = Some (record { domain = None; messages = arguments })
gettext_usage false (id ∷ []) = Some (record { domain = None; messages = id ∷ [] })
gettext_usage false (domain ∷ id ∷ []) = Some (record { domain = Some domain; messages = id ∷ [] })
gettext_usage false arguments = None

-- what ngettext is given: a text domain or none, a message and a count
pub record NgettextUsage : Type 0 where
  pub domain : Option (List ℕ)
  pub id : List ℕ
  pub plural : List ℕ
  pub count : List ℕ

-- [TEXTDOMAIN] MSGID MSGID-PLURAL COUNT
abbrev pub ngettext_usage : List (List ℕ) → Option NgettextUsage
ngettext_usage (id ∷ plural ∷ count ∷ []) = Some (record { domain = None; id = id; plural = plural; count = count })
ngettext_usage (domain ∷ id ∷ plural ∷ count ∷ []) =
    Some (record { domain = Some domain; id = id; plural = plural; count = count })
ngettext_usage arguments = None

-- by the manual's forms `gettext [TEXTDOMAIN] MSGID` and `gettext -s MSGID..`
pub one_msgid : gettext_usage false (codes "msgid" ∷ [])
    ≡ Some (record { domain = None; messages = codes "msgid" ∷ [] })
one_msgid = refl

pub domain_and_msgid : gettext_usage false (codes "textdomain" ∷ codes "msgid" ∷ [])
    ≡ Some (record { domain = Some (codes "textdomain"); messages = codes "msgid" ∷ [] })
domain_and_msgid = refl

pub two_msgids : gettext_usage true (codes "first" ∷ codes "second" ∷ [])
    ≡ Some (record { domain = None; messages = codes "first" ∷ codes "second" ∷ [] })
two_msgids = refl

pub no_msgid : gettext_usage false [] ≡ None
no_msgid = refl

pub three_arguments : (a b c : List ℕ) → gettext_usage false (a ∷ b ∷ c ∷ []) ≡ None
three_arguments a b c = refl

-- by the manual's form `ngettext [TEXTDOMAIN] MSGID MSGID-PLURAL COUNT`
pub msgid_plural_count : ngettext_usage (codes "msgid" ∷ codes "msgid-plural" ∷ codes "count" ∷ [])
    ≡ Some (record { domain = None; id = codes "msgid"; plural = codes "msgid-plural"; count = codes "count" })
msgid_plural_count = refl

pub domain_first : ngettext_usage (codes "textdomain" ∷ codes "msgid" ∷ codes "msgid-plural" ∷ codes "count" ∷ [])
    ≡ Some (record {
      domain = Some (codes "textdomain");
      id = codes "msgid";
      plural = codes "msgid-plural";
      count = codes "count";
    })
domain_first = refl

pub two_arguments : (a b : List ℕ) → ngettext_usage (a ∷ b ∷ []) ≡ None
two_arguments a b = refl

pub five_arguments : (a b c d e : List ℕ) → ngettext_usage (a ∷ b ∷ c ∷ d ∷ e ∷ []) ≡ None
five_arguments a b c d e = refl

abbrev pub messages_given : Option (Bor (List ℕ)) × Bor (List (Bor (List ℕ))) → GettextUsage
messages_given given =
    record { domain = option_copied given.0; messages = map (λ argument. argument.now) given.1.now }

abbrev pub plural_form_given : Option (Bor (List ℕ)) × Bor (List ℕ) × Bor (List ℕ) × Bor (List ℕ) → NgettextUsage
plural_form_given given =
    record { domain = option_copied given.0; id = given.1.now; plural = given.2.now; count = given.3.now }

-- what gettext is asked for: its messages, and its options
pub record IsGettextRequest (flag : List ℕ → Bool → Type 0) (text : List ℕ → Option (List ℕ) → Type 0)
    (form : GettextUsage) (o : GettextRequest) : Type 0 where
  pub messages : o.arguments ≡ form.messages
  pub context : text (codes "context") o.context
  pub expand : flag (codes "expand") o.expand
  pub no_newline : flag (codes "no-newline") o.no_newline
  pub shell : flag (codes "shell") o.shell

-- what ngettext is asked for: its arguments, and its options
pub record IsNgettextRequest (flag : List ℕ → Bool → Type 0) (text : List ℕ → Option (List ℕ) → Type 0)
    (form : NgettextUsage) (o : NgettextRequest) : Type 0 where
  pub context : text (codes "context") o.context
  pub expand : flag (codes "expand") o.expand
  pub id : o.id ≡ form.id
  pub plural : o.plural ≡ form.plural
  pub count : o.count ≡ form.count

-- what a command line asks for, and the text domain that it gives
pub record CommandView : Type 0 where
  pub domain : GivenDomain
  pub request : Request

-- what a command line of gettext asks for; none where its arguments fit no usage
pub data AsksGettext (flag : List ℕ → Bool → Type 0) (text : List ℕ → Option (List ℕ) → Type 0)
    (texts : List ℕ → List (List ℕ) → Type 0) : Option CommandView → Type 0 where
  asks_messages : {arguments : List (List ℕ)} {option : Option (List ℕ)} {usage : GettextUsage} {o : GettextRequest}
      → texts (codes "MSGID") arguments → gettext_usage o.shell arguments ≡ Some usage
      → text (codes "domain") option → IsGettextRequest flag text usage o
      → AsksGettext flag text texts
      (Some (record { domain = given_domain usage.domain option; request = for_messages o }))
  fits_no_gettext : {shell : Bool} {arguments : List (List ℕ)} → flag (codes "shell") shell
      → texts (codes "MSGID") arguments → gettext_usage shell arguments ≡ None → AsksGettext flag text texts None

-- the same of ngettext
pub data AsksNgettext (flag : List ℕ → Bool → Type 0) (text : List ℕ → Option (List ℕ) → Type 0)
    (texts : List ℕ → List (List ℕ) → Type 0) : Option CommandView → Type 0 where
  asks_plural_form : {arguments : List (List ℕ)} {option : Option (List ℕ)} {usage : NgettextUsage}
      {o : NgettextRequest}
      → texts (codes "MSGID") arguments → ngettext_usage arguments ≡ Some usage
      → text (codes "domain") option → IsNgettextRequest flag text usage o
      → AsksNgettext flag text texts
      (Some (record { domain = given_domain usage.domain option; request = for_count o }))
  fits_no_ngettext : {arguments : List (List ℕ)} → texts (codes "MSGID") arguments → ngettext_usage arguments ≡ None
      → AsksNgettext flag text texts None

-- the options' names, as the manual has them
pub gettext_named : {flag : List ℕ → Bool → Type 0} {text : List ℕ → Option (List ℕ) → Type 0} {form : GettextUsage}
    (o : GettextRequest) → IsGettextRequest flag text form o
    → text (codes "context") o.context × flag (codes "expand") o.expand × flag (codes "no-newline") o.no_newline
gettext_named o is = (is.context, is.expand, is.no_newline)

pub ngettext_named : {flag : List ℕ → Bool → Type 0} {text : List ℕ → Option (List ℕ) → Type 0} {form : NgettextUsage}
    (o : NgettextRequest) → IsNgettextRequest flag text form o
    → text (codes "context") o.context × flag (codes "expand") o.expand
ngettext_named o is = (is.context, is.expand)

-- the text domain's option and the arguments by their names
pub gettext_domain_named : {flag : List ℕ → Bool → Type 0} {text : List ℕ → Option (List ℕ) → Type 0}
    {texts : List ℕ → List (List ℕ) → Type 0} {command : CommandView}
    → AsksGettext flag text texts (Some command)
    → text (codes "domain") command.domain.option × (arguments : List (List ℕ)) × texts (codes "MSGID") arguments
gettext_domain_named (asks_messages {arguments} are fits option is) = (option, arguments, are)

pub ngettext_domain_named : {flag : List ℕ → Bool → Type 0} {text : List ℕ → Option (List ℕ) → Type 0}
    {texts : List ℕ → List (List ℕ) → Type 0} {command : CommandView}
    → AsksNgettext flag text texts (Some command)
    → text (codes "domain") command.domain.option × (arguments : List (List ℕ)) × texts (codes "MSGID") arguments
ngettext_domain_named (asks_plural_form {arguments} are fits option is) = (option, arguments, are)

abbrev pub command_view : LookUpCommand → CommandView
command_view command = record {
  domain = given_domain (option_copied command.argument) (option_copied command.option);
  request = request_view command.look_up;
}

-- a command is taken as the command line asks for it, or its arguments fit no usage of the tool
abbrev pub IsTakenAs : (Option CommandView → Type 0) → Result LookUpCommand ProgramFault → Type 0
IsTakenAs Asks (Ok command) = Asks (Some (command_view command))
IsTakenAs Asks (Err fault) = Asks None × (fault ≡ WrongArguments)
