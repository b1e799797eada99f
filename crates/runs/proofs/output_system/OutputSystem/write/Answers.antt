use Rattle.runs.proofs.Prelude.{WriteFault, delivered, refl, to_file, unmade, unreported, written}
use Rattle.runs.specs.OutputSystem.{cut, made}
use Rattle.runs.specs.declared.output_files.OutputFault.TheVariants.{CannotCreate, OutOfMemory}
use Rattle.runs.specs.ToolRuns.{unwritten}
use Rattle.runs.proofs.output_system.OutputSystem.write.Goals as goal
use Rattle.runs.proofs.output_system.OutputSystem.write.Goals.{in-Err, in-Err-put_all, in-Ok, in-Ok-put_all}

pub returns-in_default : goal.returns-in_default
returns-in_default g c = elim c.match-deliver.branch [
  | in-Ok w ↦
      let all = w.in-Ok.ensures in
      rw (← c.self.view_is, w.result-is)
      (written (rw (← c.output_file.ensures, c.in_default.is)
      (delivered refl (record { all = all.output; no_failure = all.out_failures })
      (record { all = all.messages; no_failure = all.err_failures }))))
  | in-Err w ↦
      rw (← c.self.view_is, w.result-is)
      (unwritten (record {
        why = WriteFault;
        writes = rw (← c.output_file.ensures, c.in_default.is)
            (cut refl (record { prefix = w.in-Err.ensures.prefix; failure = w.in-Err.ensures.cause }));
        text_is = refl;
      }))
]

pub returns-after-put_all : goal.returns-after-put_all
returns-after-put_all g c =
    let file = rw c.deref.ensures.value at c.in-Ok-write_file.ensures in
    elim c.match-put_all.branch [
      | in-Ok-put_all w ↦
          let put = w.in-Ok-put_all.ensures in
          rw (← c.self.view_is, w.result-is)
          (written (rw (← c.output_file.ensures, c.in-Some.is)
          (to_file refl (made file (record {
            all = rw c.deref-in-Ok-write_file.ensures.value at put.ok;
            no_failure = put.no_failure;
          })))))
      | in-Err-put_all w ↦
          let put = w.in-Err-put_all.ensures in
          rw (← c.self.view_is, w.result-is)
          (unwritten (record {
            why = WriteFault;
            writes = rw (← c.output_file.ensures, c.in-Some.is)
                (to_file refl (unreported file (record {
                  prefix = rw c.deref-in-Ok-write_file.ensures.value at put.prefix;
                  failure = put.cause;
                })));
            text_is = refl;
          }))
    ]

pub returns-in-Err-CannotCreate : goal.returns-in-Err-CannotCreate
returns-in-Err-CannotCreate g c =
    let file =
    rw (c.deref.ensures.value, c.in-Err-CannotCreate.is, c.in-Err-CannotCreate.field-0-is) at c.write_file.ensures in
    rw (← c.self.view_is)
    (unwritten (record {
      why = CannotCreate;
      writes = rw (← c.output_file.ensures, c.in-Some.is) (to_file refl (unmade file refl));
      text_is = refl;
    }))

pub returns-in-Err-WriteFault : goal.returns-in-Err-WriteFault
returns-in-Err-WriteFault g c =
    let file =
    rw (c.deref.ensures.value, c.in-Err-WriteFault.is, c.in-Err-WriteFault.field-0-is) at c.write_file.ensures in
    rw (← c.self.view_is)
    (unwritten (record {
      why = WriteFault;
      writes = rw (← c.output_file.ensures, c.in-Some.is) (to_file refl (unmade file refl));
      text_is = refl;
    }))

pub returns-in-Err-OutOfMemory : goal.returns-in-Err-OutOfMemory
returns-in-Err-OutOfMemory g c =
    let file =
    rw (c.deref.ensures.value, c.in-Err-OutOfMemory.is, c.in-Err-OutOfMemory.field-0-is) at c.write_file.ensures in
    rw (← c.self.view_is)
    (unwritten (record {
      why = OutOfMemory;
      writes = rw (← c.output_file.ensures, c.in-Some.is) (to_file refl (unmade file refl));
      text_is = refl;
    }))
