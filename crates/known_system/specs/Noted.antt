-- The call that a note is of.
use Rattle.std.specs.Prelude.{[], Some, None}
use Rattle.runs.specs.Prelude.{FileCall, counted_failures, counted_inner}
use Rattle.runs.specs.OutputFiles.{asks, reads_link, fails_to_read_link, numbers, makes, fails_to_make, sets_owner, sets_mode, fails_to_open, lacks_stream, closes, renames, removes}
use Rattle.known_system.specs.declared.history.Note.{Note}
use Rattle.known_system.specs.declared.history.Note.TheVariants as note

abbrev pub noted : Note → FileCall
noted (note.Asks path kind) = asks path.now kind
noted (note.Link path text) = reads_link path.now (Some text.now)
noted (note.NoLink path) = reads_link path.now None
noted (note.FailsToReadLink path why) = fails_to_read_link path.now why
noted (note.Numbers n) = numbers n
noted (note.Makes path mode) = makes path.now mode (Some [])
noted (note.FailsToMake path mode why) = fails_to_make path.now mode why
noted (note.SetsOwner wanted owner) = sets_owner wanted owner
noted (note.SetsMode mode done) = sets_mode mode done
noted (note.FailsToOpen path) = fails_to_open path.now
noted (note.LacksStream n) = lacks_stream n
noted (note.Closes file done) = closes (Some (counted_inner file.now).items) (counted_failures file.now) done
noted (note.Renames from to done) = renames from.now to.now done
noted (note.Removes path) = removes path.now
