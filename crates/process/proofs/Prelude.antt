-- What the proofs of this crate cite of std, of the crates below and of its own definitions. Declares nothing.
pub use Rattle.process.specs.OutputCalls.{above, all_open, appended, counted, enough, errors, given, group_given, had, held, input, no_errors, no_input, no_output, not_there, output, random, there, told, unmade, untold, unwritten}
pub use Rattle.process.specs.Prelude.{AreValues, CallLog, Does, HasNoText, Holds, Puts, ReadsFile, Reports, RunsProgram, SystemCall, called, is_for_writing}
pub use Rattle.process.specs.Program.{explains, helps, lacks_memory, lacks_text, lacks_words, names_none, runs, words}
pub use Rattle.process.specs.Reading.{unopened, unread}
pub use Rattle.runs.specs.Prelude.{AppendsPrefix, Takes, WriterView, input_limit, writer}
pub use Rattle.std.proofs.Common.{Bool, Err, IfSome, List, MatchResult, None, Ok, OnErr, OnOk, Option, Result, Some, [], ap, append-nil, append_assoc, arith, codes, false, inl, inr, length, length-append, map, refl, rules, string_bytes, subst, suc, sym, take, true, ℕ, ◌&&◌, ◌++◌, ◌+◌, ◌-◌, ◌<◌, ◌==◌, ◌^◌, ◌∙◌, ◌∷◌, ◌≡◌, ◌≢◌, ◌⊎◌}
