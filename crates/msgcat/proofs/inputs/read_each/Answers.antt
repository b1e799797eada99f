use Rattle.msgcat.proofs.Prelude.{Named, NamedEntry, NamedFile, ReadsText, [], all_entries, ap, arith, drop, drop-cons, get_or, length, length-append, length-map, named_file, named_files, refl, rules, subst, suc, sym, take, take-append-drop, ◌++◌, ◌-◌, ◌<◌, ◌∙◌, ◌∷◌, ◌≡◌, ◌≢◌}
use Rattle.po_syntax.specs.declared.fault.PoFault.TheVariants.{OutOfMemory}
use Rattle.msgcat.proofs.InputEntries.{entries_more, inputs_more, text_more}
use Rattle.msgcat.proofs.Runs.{file_at, name_lacks, no_file}
use Rattle.msgcat.proofs.inputs.read_each.Goals as goal

pub returns-in-Err-clause-read : goal.returns-in-Err-clause-read
returns-in-Err-clause-read c =
    let so_far = c.loop-name.invariant in
    let i = c.loop-name.name-index in
    let files = c.args.inputs.now in
    let file = get_or files i no_file in
    let at = file_at files i no_file c.loop-name-test.true in
    let inside : i < length (named_files files) = omega (arith, c.loop-name-test.true, length-map files named_file) in
    let other : c.in-Err.error.kind ≢ OutOfMemory = search rules in
    let part = c.in-Err.ensures.part in
    record {
      before = take i (named_files files);
      rest = drop i (named_files files);
      order = sym (take-append-drop i (named_files files));
      inputs = so_far.inputs;
      texts = so_far.texts;
      part = part.0;
      holds = part.1 ∙ ap (λ l. l ++ part.0) so_far.holds;
      known = so_far.known;
      end = record {
        file = named_file file;
        after = drop (suc i) (named_files files);
        first = drop-cons (named_files files) i (named_file file) inside
            ∙ ap (λ f. f ∷ drop (suc i) (named_files files)) (sym at);
        name = refl;
        fault_is = c.in-Err.ensures.fault.fault other;
      };
    }

pub loop-name-preserved : goal.loop-name-preserved
loop-name-preserved c =
    let so_far = c.loop-name.invariant in
    let i = c.loop-name.name-index in
    let files = c.args.inputs.now in
    let file = get_or files i no_file in
    let at = file_at files i no_file c.loop-name-test.true in
    let inside : i < length (named_files files) = omega (arith, c.loop-name-test.true, length-map files named_file) in
    let read = (rw c.in_default.is at c.read_into.ensures.found) in
    let input : Named = record { name = file.0.now; entries = read.0 } in
    let count : c.len.result - c.len-before.result ≡ length read.0 =
    omega (arith, c.len.ensures, c.len-before.ensures, ap length read.2, length-append c.loop-name.store read.0) in
    record {
      inputs = so_far.inputs ++ input ∷ [];
      texts = text_more (named_files files) i (named_file file) so_far.inputs file.0.now read.0 inside so_far.texts
          (ap (λ (f : NamedFile). f.name) (sym at)) (subst (λ (f : NamedFile). ReadsText f.bytes read.0) at read.1);
      holds = read.2 ∙ ap (λ l. l ++ read.0) so_far.holds ∙ entries_more so_far.inputs file.0.now read.0;
      known =
          inputs_more so_far.inputs c.loop-name.read.items c.push.new.self.items input c.of.result so_far.known
          (c.of.ensures.known input refl (name_lacks files i no_file c.loop-name-test.true c.requires) count)
          (c.of.ensures.start ∙ c.len-before.ensures ∙ ap length so_far.holds
          ∙ length-map (all_entries so_far.inputs) (λ (e : NamedEntry). e.entry))
          c.in_ok-push.ensures.items;
    }
