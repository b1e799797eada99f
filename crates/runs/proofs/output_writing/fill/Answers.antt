use Rattle.runs.proofs.Prelude.{FileLog, Finishes, List, Option, OutputFault, Runs, replaced, replaces_none, unmoved, unwritten, without_rights, ℕ}
use Rattle.runs.proofs.OutputsInPlace.{after-call, after-rights, done-for, is-done, is-fault}
use Rattle.runs.proofs.output_writing.fill.Goals as goal
use Rattle.runs.proofs.output_writing.fill.Goals.{in-Some+else-not-set_mode, in_default}

-- how a new file ends
finishing : (output new path : List ℕ) (made : Option (List ℕ)) {before end : FileLog} {fault : Option OutputFault}
    → Runs before end fault (Finishes output (record { path = new; target = path; made = made }))
    → Runs before end fault (Finishes output (record { path = new; target = path; made = made }))
finishing output new path made end = end

pub returns-then-not-set_mode : goal.returns-then-not-set_mode
returns-then-not-set_mode g c =
    rw c.in-Some.is
    (after-call _ c.set_owner-owner.ensures
    (after-call _ (rw c.kept_mode.ensures at c.if-not-set_mode.ensures)
    (after-call _ c.remove.ensures (is-fault without_rights))))

pub returns-then-not-put_and_close : goal.returns-then-not-put_and_close
returns-then-not-put_and_close g c =
    let closed = c.if-not-put_and_close.ensures in
    let end = finishing c.args.output.now c.args.new.now c.args.path.now (g.T.File.Write.contents c.args.file)
    (after-call closed.call closed.log
    (after-call _ c.remove-then-not-put_and_close.ensures (is-fault (unwritten closed.is)))) in
    elim c.match-old.branch [
      | in-Some+else-not-set_mode w ↦ rw w.in-Some.is
          (after-rights _ w.set_owner-owner.ensures w.kept_mode.ensures w.if-not-set_mode.ensures
          (rw w.files-is at end))
      | in_default w ↦ rw w.in_default.is (done-for (λ course are. replaces_none are) (rw w.files-is at end))
    ]

pub returns-then-not-rename : goal.returns-then-not-rename
returns-then-not-rename g c =
    let closed = c.if-not-put_and_close.ensures in
    let end = finishing c.args.output.now c.args.new.now c.args.path.now (g.T.File.Write.contents c.args.file)
    (after-call closed.call closed.log
    (after-call _ c.if-not-rename.ensures
    (after-call _ c.remove-then-not-rename.ensures (is-fault (unmoved closed.is))))) in
    elim c.match-old.branch [
      | in-Some+else-not-set_mode w ↦ rw w.in-Some.is
          (after-rights _ w.set_owner-owner.ensures w.kept_mode.ensures w.if-not-set_mode.ensures
          (rw w.files-is at end))
      | in_default w ↦ rw w.in_default.is (done-for (λ course are. replaces_none are) (rw w.files-is at end))
    ]

pub returns : goal.returns
returns g c =
    let closed = c.if-not-put_and_close.ensures in
    let end = finishing c.args.output.now c.args.new.now c.args.path.now (g.T.File.Write.contents c.args.file)
    (after-call closed.call closed.log (after-call _ c.if-not-rename.ensures (is-done (replaced closed.is)))) in
    elim c.match-old.branch [
      | in-Some+else-not-set_mode w ↦ rw w.in-Some.is
          (after-rights _ w.set_owner-owner.ensures w.kept_mode.ensures w.if-not-set_mode.ensures
          (rw w.files-is at end))
      | in_default w ↦ rw w.in_default.is (done-for (λ course are. replaces_none are) (rw w.files-is at end))
    ]
