use Rattle.mo_expand.proofs.Prelude.{HaveDistinctKeys, HaveTooLargeFile, IsFileOfSorted, arith, length, length-messages_of, length-take, messages_of_borrowed, refl, rules, ◌<◌, ◌≡◌}
use Rattle.mo_expand.proofs.ExpandedFiles.{has_header, not_distinct, shown, sorted-messages}
use Rattle.mo_expand.proofs.sorted_file.sort_file.Goals as goal

pub word-count-requires : goal.word-count-requires
word-count-requires c = omega (arith, has_header _ _ _ c.in-Some.ensures)

pub returns-then-list-count-clause-file : goal.returns-then-list-count-clause-file
returns-then-list-count-clause-file c =
    shown c.args.bytes.now c.in-Some.order
    (λ o ms. (length c.args.list.now < length ms) × (c.args.file.now ≡ c.args.file.now)) c.in-Some.ensures.shows (
      omega (arith, c.if-list-count.true, c.word-count.ensures, length-messages_of c.in-Some.order c.args.bytes.now),
      refl,
    )

pub list_all-requires-clause-room : goal.list_all-requires-clause-room
list_all-requires-clause-room c =
    omega (
      arith,
      c.if-list-count.false,
      c.word-count.ensures,
      length-messages_of c.in-Some.order c.args.bytes.now,
      length-take c.word-count.result c.args.list.now,
    )

pub returns-then-not-are_rising-clause-file : goal.returns-then-not-are_rising-clause-file
returns-then-not-are_rising-clause-file c =
    shown c.args.bytes.now c.in-Some.order
    (λ o ms. (¬ HaveDistinctKeys ms) × (c.args.file.now ≡ c.args.file.now)) c.in-Some.ensures.shows (
      not_distinct _ c.sort.new.list (sorted-messages _ _ _ c.list_all.ensures c.sort.ensures.permutation)
          c.sort.ensures.sorted (λ rising.
          let risen = c.are_rising.ensures.1 rising in let isnt = c.if-not-are_rising.true in cc (risen, isnt)),
      refl,
    )

pub returns-in_default-file_len-clause-file : goal.returns-in_default-file_len-clause-file
returns-in_default-file_len-clause-file c =
    shown c.args.bytes.now c.in-Some.order
    (λ o ms. HaveTooLargeFile o ms × (c.args.file.now ≡ c.args.file.now)) c.in-Some.ensures.shows (
      (
        messages_of_borrowed c.sort.new.list,
        record {
          all = sorted-messages _ _ _ c.list_all.ensures c.sort.ensures.permutation;
          rising = c.are_rising.ensures.0 c.if-not-are_rising.false;
        },
        c.in_default-file_len.ensures.fault.1 _,
      ),
      refl,
    )

pub returns-then-len-file-clause-file : goal.returns-then-len-file-clause-file
returns-then-len-file-clause-file c =
    shown c.args.bytes.now c.in-Some.order
    (λ o ms. IsFileOfSorted o ms c.args.file.now c.lay_out.new.file c.in-Ok.len) c.in-Some.ensures.shows
    (record {
      sorted = messages_of_borrowed c.sort.new.list;
      in_order = record {
        all = sorted-messages _ _ _ c.list_all.ensures c.sort.ensures.permutation;
        rising = c.are_rising.ensures.0 c.if-not-are_rising.false;
      };
      len_is = c.in-Ok.ensures.len _;
      fits = search rules;
      written = (
        λ fits. c.lay_out.ensures.text,
        λ small. absurd (omega (arith, small, c.if-len-file.true, c.in-Ok.ensures.len c.in-Some.order)),
      );
    })

pub returns-else-len-file-clause-file : goal.returns-else-len-file-clause-file
returns-else-len-file-clause-file c =
    shown c.args.bytes.now c.in-Some.order
    (λ o ms. IsFileOfSorted o ms c.args.file.now c.args.file.now c.in-Ok.len) c.in-Some.ensures.shows
    (record {
      sorted = messages_of_borrowed c.sort.new.list;
      in_order = record {
        all = sorted-messages _ _ _ c.list_all.ensures c.sort.ensures.permutation;
        rising = c.are_rising.ensures.0 c.if-not-are_rising.false;
      };
      len_is = c.in-Ok.ensures.len _;
      fits = search rules;
      written = (
        λ fits. absurd (omega (arith, fits, c.if-len-file.false, c.in-Ok.ensures.len c.in-Some.order)),
        λ small. refl,
      );
    })
