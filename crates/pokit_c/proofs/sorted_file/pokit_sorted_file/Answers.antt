use Rattle.std.proofs.Common.{◌≡◌, ◌≤◌, ℕ, List, [], None, length, take, find, inr, sym, ap, ◌∙◌, subst, arith, if◌then◌else◌}
use Rattle.std.specs.Option.{option_map, option_map_or}
use Rattle.std.specs.Str.{bytes_eq}
use Rattle.mo_file.specs.Prelude.{key_of, query_key, layout, Message, IsMoFile, forms}
use Rattle.mo_lookup.specs.Prelude.{form_at, can_be_key}
use Rattle.pokit_c.specs.Prelude.{AnswersAlike}
use Rattle.pokit_c.proofs.sorted_file.pokit_sorted_file.Goals as goal

answers-alike : (messages sorted : List Message)
    → ((key : List ℕ) → find (λ m. bytes_eq (key_of m.original) key) sorted
    ≡ find (λ m. bytes_eq (key_of m.original) key) messages) → AnswersAlike messages sorted
answers-alike messages sorted same = record {
  forms = λ query. ap
      (λ found. if can_be_key query.context query.id
      then option_map forms (option_map (λ (m : Message). m.translation) found) else None)
      (same (query_key query.context query.id));
  header = ap
      (λ found. option_map_or (λ translation. form_at (forms translation) 0)
      (option_map (λ (m : Message). m.translation) found) [])
      (same []);
}

pub returns-in-Len-clause-valid : goal.returns-in-Len-clause-valid
returns-in-Len-clause-valid c order messages file some fits =
    let made = c.in-Len.ensures.file order messages file in
    let small : length (layout order made.sorted) ≤ length c.args.file.now = omega (arith, made.len_is, fits) in
    let text : take c.in-Len.len c.sort_file.new.file ≡ layout order made.sorted =
    ap (λ n. take n c.sort_file.new.file) made.len_is ∙ made.written.0 small in (
      made.sorted,
      made.in_order,
      subst (λ bytes. IsMoFile order bytes made.sorted) (sym text)
          (c.sorted_file_is_mo_file.ensures order messages made.sorted made.in_order
          (omega (arith, made.len_is, made.fits))),
      answers-alike messages made.sorted
          (λ key. c.same_message_under_key.ensures messages made.sorted key made.in_order),
    )

pub returns-in-TooLarge-clause-none : goal.returns-in-TooLarge-clause-none
returns-in-TooLarge-clause-none c order messages file none =
    let told = c.in-TooLarge.ensures.file order messages file in (inr (inr told.0), told.1)
