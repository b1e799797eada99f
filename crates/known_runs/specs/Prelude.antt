-- What contracts and proofs cite of the crates below and of this one. Declares nothing.
pub use Rattle.known_system.specs.Prelude.{entry_texts, links_by_path, texts_by_name}
pub use Rattle.mo_lookup.specs.Prelude.{Query}
pub use Rattle.msgattrib.specs.Prelude.{IsMsgattribRun}
pub use Rattle.msgcat.specs.Prelude.{IsMsgcatRun}
pub use Rattle.msgunfmt.specs.Prelude.{IsMsgunfmtRunOf}
pub use Rattle.known_runs.specs.Words.{RunsInMemory, answers_in, line_in, operands_of, system_after, system_before, text_of}
pub use Rattle.known_runs.specs.Ends.{End, EndsInFile, HasStatus, OneEnd, end, end_of}
pub use Rattle.known_runs.specs.Msgfmt.{EndsMsgfmt, EndsThroughLinks, IsCompiledFrom, plain}
pub use Rattle.known_runs.specs.Plain.{all_as_they_are, all_messages, named, two_files}
pub use Rattle.known_runs.specs.LookUps.{EndsLookUp, counted, hello_mo, message, status_or_memory}
pub use Rattle.known_runs.specs.Substitutions.{EndsSubstituted, IsStatusOrInputFault, values_by}
