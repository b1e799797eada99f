use Rattle.po_entry.proofs.Prelude.{DifferUpTo, EntryPlace, List, MatchOption, None, RepeatsAt, TextEntry, [], ap, ap₂, arith, false, get_or, get_or_default, is_looked_at, length, map, plain_entry, refl, subst, ◌<◌, ◌∷◌, ◌≡◌}
use Rattle.po_entry.proofs.MessageNumbers.{as_many, first_twice, none_twice, place_at}
use Rattle.po_entry.proofs.repeats.repeated_lines.Goals as goal

abbrev none : EntryPlace
none = record { line = 0; is_live = false }

no_entry : TextEntry
no_entry = plain_entry None [] None []

each : (entries : List TextEntry) → entries ≡ map (λ e. e) entries
each [] = refl
each (e ∷ entries) = ap (λ l. e ∷ l) (each entries)

pub returns-in-Some-clause-found : goal.returns-in-Some-clause-found
returns-in-Some-clause-found c = λ all entries is_there are placed.
    let numbers = c.args.numbers.now in
    let places = c.args.places.now in
    let found = subst (λ o. MatchOption o (DifferUpTo is_looked_at numbers places (length places))
    (λ at. RepeatsAt is_looked_at numbers places at.0 at.1)) c.in-Some.is c.in_ok-first.ensures.found in
    let entry : TextEntry → TextEntry = λ e. e in
    let i = c.in-Some.first in
    let j = c.in-Some.later in
    let inside : j < length entries =
    omega (arith, found.within, as_many entry entries entries (each entries) all is_there numbers places are placed) in
    let within : i < length entries = omega (arith, found.earlier, inside) in
    let a = get_or entries i no_entry in
    let b = get_or entries j no_entry in
    let place = place_at entry entries entries (each entries) all is_there numbers places are placed in (
      a,
      b,
      first_twice entry entries entries (each entries) all is_there numbers places are placed i j a b inside
          (get_or_default entries i no_entry a within) (get_or_default entries j no_entry b inside) found,
      ap₂ (λ (x y : EntryPlace). (x.line, y.line)) (place i none no_entry within) (place j none no_entry inside),
    )

pub returns-in-None-clause-found : goal.returns-in-None-clause-found
returns-in-None-clause-found c = λ all entries is_there are placed.
    let numbers = c.args.numbers.now in
    let places = c.args.places.now in
    let found = subst (λ o. MatchOption o (DifferUpTo is_looked_at numbers places (length places))
    (λ at. RepeatsAt is_looked_at numbers places at.0 at.1)) c.in-None.is c.in_ok-first.ensures.found in
    let entry : TextEntry → TextEntry = λ e. e in
    none_twice entry entries entries (each entries) all is_there numbers places are placed found
