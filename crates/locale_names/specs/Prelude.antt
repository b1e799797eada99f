-- What contracts and proofs cite of the definitions of this crate. Declares nothing.
pub use Rattle.locale_names.specs.Names.{candidates, is_path_part, is_untranslated, languages}
unfoldable pub use Rattle.locale_names.specs.Names.{before, candidates_of_name, from_first, is_c_locale, language_parts}
pub use Rattle.locale_names.specs.Candidate.{text_of}
unfoldable pub use Rattle.locale_names.specs.Candidate.{names_from, names_left}
