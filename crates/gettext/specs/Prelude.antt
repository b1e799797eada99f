-- What contracts and proofs cite of the crates below and of this one. Declares nothing.
pub use Rattle.runs.specs.Prelude.{Stays, named_files, run_view}
pub use Rattle.gettext.specs.Count.{GivesCount, SpellsAfter, SpellsNumber, are_digits, is_count}
unfoldable pub use Rattle.gettext.specs.Count.{count_in}
pub use Rattle.gettext.specs.Escape.{Expands, IsNoEscape, NoOctalFirst, SpellsByte, expansion, given_bytes, has_no_newline, is_octal, letter, octal_prefix, octal_value, with_octal}
unfoldable pub use Rattle.gettext.specs.Escape.{escape_after, given_bytes_after, letter_escape}
pub use Rattle.gettext.specs.Environment.{EnvironmentView, HasNoText, HasText, IsEnvironment, environment_view, owned_environment_view}
pub use Rattle.gettext.specs.Candidates.{AreCandidates, AreLanguages, CanStandInPath, Count, FirstPlaces, HasFive, HaveFive, IsCLocale, IsEmptyOrBegins, IsLocale, Lists, candidates_of, distinct, locale_of, non_empty}
unfoldable pub use Rattle.gettext.specs.Candidates.{with_name}
pub use Rattle.gettext.specs.Paths.{IsDomain, IsFolder, domain_of, folder_of, path_of, paths_of}
pub use Rattle.gettext.specs.Catalogues.{AreCatalogues, AreFound, AsksAt, AsksPaths, GivenDomain, IsCatalogueAt, Searching, catalogue_file, catalogue_files, given_domain, searching}
pub use Rattle.gettext.specs.Plan.{GettextRequest, IsLookUpRun, NgettextRequest, Opens, Request, argument_answer, gettext_output, gettext_view, ngettext_output, ngettext_view, omits_newline, output_of, output_run, request_of, request_view, tool_of}
pub use Rattle.gettext.specs.Arguments.{AsksGettext, AsksNgettext, CommandView, GettextUsage, IsGettextRequest, IsNgettextRequest, IsTakenAs, NgettextUsage, command_view, gettext_usage, messages_given, ngettext_usage, plural_form_given}
pub use Rattle.gettext.specs.WholeRun.{RunsLookUp, catalogue_limit}
