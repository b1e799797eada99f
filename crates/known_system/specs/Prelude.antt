-- What contracts and proofs cite of the crates below and of this one. Declares nothing.
pub use Rattle.runs.specs.Prelude.{Asked, Course, FileCall, RunView, SystemView, Writes, WritesFile, calls_of, counted_inner, fault_of}
pub use Rattle.known_system.specs.CallCode.{calls_code}
pub use Rattle.known_system.specs.Noted.{noted}
pub use Rattle.known_system.specs.Source.{bytes_of, entry_texts, reading_of, texts_by_name}
pub use Rattle.known_system.specs.Stored.{links_by_path, stored, tellings}
pub use Rattle.known_system.specs.Replay.{Folder, Links, Place, bytes_at, folder, is_at, is_free, is_link, is_linked, linked, nothing, replay, step, telling, unless_at, with_bytes, with_path}
pub use Rattle.known_system.specs.Contents.{Contents, Holds, IsFileFault, Leads, Leaves, Left, contents}
pub use Rattle.known_system.specs.AskedCode.{asked_code}
pub use Rattle.known_system.specs.Questioned.{questioned}
