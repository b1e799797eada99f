-- What the proofs of this crate cite of std, of the crates below and of its own definitions. Declares nothing.
pub use Rattle.known_system.specs.Contents.{filed, kept, left, printed, there, whole}
pub use Rattle.known_system.specs.Prelude.{Contents, Folder, Holds, IsFileFault, Leads, Leaves, Left, Links, Place, bytes_at, bytes_of, contents, entry_texts, folder, is_at, is_free, is_link, linked, links_by_path, noted, nothing, questioned, replay, step, stored, telling, tellings, texts_by_name, unless_at}
pub use Rattle.runs.specs.OutputFiles.{makes, numbers, reads_link, renames}
pub use Rattle.runs.specs.Prelude.{Course, FileCall, Fills, Finishes, MakesFile, OutputIs, Replaces, RunView, SystemView, Takes, WriterView, Writes, WritesFile, WritesRun, calls_of, fault_of, first_mode, link_limit, link_target, logged, output_fault_text, output_file, program_text, writer}
pub use Rattle.runs.specs.declared.output_files.OutputFault.{OutputFault}
pub use Rattle.std.proofs.Common.{Bool, Err, List, None, Ok, Option, Result, Some, [], ap, append-nil, append_assoc, arith, drop, false, if◌then◌else◌, inl, inr, is_some, map, not, option_and_then, refl, subst, suc, sym, take, true, ℕ, ◌&&◌, ◌++◌, ◌+◌, ◌||◌, ◌∙◌, ◌∷◌, ◌≡◌}
pub use Rattle.std.proofs.lemmas.Slice.Eq.{bytes_eq-Decides}
