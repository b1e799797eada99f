use Rattle.msgcat.proofs.Prelude.{All, AreLinked, IsCatalogueEntry, List, all_entries, ap, arith, count_messages, entry_messages, get_or, get_or_default_zero, group_numbers, indexes_by, length, named_messages, numbers_below, refl, same_message_laws, set, subst, suc, sym, ℕ, ◌+◌, ◌-◌, ◌<◌, ◌∙◌, ◌≡◌}
use Rattle.po_entry.specs.Prelude.{Message, first_ones, same_message}
use Rattle.msgcat.specs.declared.merge_inputs.Links.{Links}
use Rattle.msgcat.proofs.GroupsByIndex.{messages_of}
use Rattle.msgcat.proofs.InputEntries.{all_can}
use Rattle.msgcat.proofs.MessageLinks.{AreLinkedFrom, all_linked, linked_more}
use Rattle.msgcat.proofs.merge_inputs.MergeInputs.of.Goals as goal

-- the numbers are below the count
all_below : (messages : List Message) {numbers : List ℕ} {count : ℕ} → numbers ≡ group_numbers same_message messages
    → count ≡ length (first_ones same_message messages) → All (λ number. number < count) numbers
all_below messages is many = rw (is, many) (numbers_below same_message same_message_laws messages)

pub index-requires : goal.index-requires
index-requires c =
    let numbers = c.args.numbers.now in
    let i = length numbers - 1 - c.loop-done.done in
    let inside : i < length numbers = omega (arith, c.loop-done-test.true) in
    omega (arith, all_below _ c.requires.numbers c.requires.count i 0 inside, c.loop-done.invariant.many)

pub index_mut-requires-in-loop-done : goal.index_mut-requires-in-loop-done
index_mut-requires-in-loop-done c =
    let numbers = c.args.numbers.now in
    let i = length numbers - 1 - c.loop-done.done in
    let inside : i < length numbers = omega (arith, c.loop-done-test.true) in
    omega (arith, all_below _ c.requires.numbers c.requires.count i 0 inside, c.loop-done.invariant.many)

pub loop-done-preserved : goal.loop-done-preserved
loop-done-preserved c =
    let numbers = c.args.numbers.now in
    let count = c.args.count in
    let done = c.loop-done.done in
    let i = length numbers - 1 - done in
    let number = get_or numbers i 0 in
    let firsts = c.loop-done.firsts.items in
    let next = c.loop-done.next.items in
    let so_far = c.loop-done.invariant in
    let inside : i < length numbers = omega (arith, c.loop-done-test.true) in
    let above : length numbers - done ≡ suc i = omega (arith, c.loop-done-test.true) in
    let below = all_below _ c.requires.numbers c.requires.count i 0 inside in
    let within : number < length firsts = omega (arith, below, so_far.many) in
    let value : c.index.result.now ≡ get_or firsts number 0 =
    c.index.ensures ∙ get_or_default_zero firsts number c.index.result.now within in
    let same : i ≡ length numbers - (done + 1) = omega arith in
    subst (λ k. AreLinkedFrom numbers count k (set firsts number i) (set next i c.index.result.now)) same
    (subst (λ v. AreLinkedFrom numbers count i (set firsts number i) (set next i v)) (sym value)
    (linked_more numbers count i (length numbers - done) firsts next number above inside refl below so_far))

pub returns : goal.returns
returns c = λ read known are.
    let all = all_entries read in
    let numbers = c.args.numbers.now in
    let links : Links = record { firsts = c.loop-done.firsts; next = c.loop-done.next } in
    let done : length numbers - c.loop-done.done ≡ 0 = omega (arith, c.loop-done-test.false) in
    let linked = all_linked numbers c.args.count links
    (subst (λ k. AreLinkedFrom numbers c.args.count k links.firsts.items links.next.items) done
    c.loop-done.invariant) in
    let same : entry_messages c.args.store ≡ named_messages all = ap entry_messages are ∙ messages_of all in
    record {
      store = are;
      known = known;
      can = all_can read c.args.inputs.items known.known
          (subst (All IsCatalogueEntry) (c.store.view_is ∙ are) c.store.invariant.valid);
      links = subst (λ n. AreLinked (indexes_by (count_messages all) n) links)
          (c.requires.numbers ∙ ap (group_numbers same_message) same)
          (subst (λ n. AreLinked (indexes_by n numbers) links)
          (c.requires.count ∙ ap (λ l. length (first_ones same_message l)) same) linked);
    }
