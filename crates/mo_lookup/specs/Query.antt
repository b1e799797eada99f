-- What is asked of a catalogue (GNU gettext manual, "Contexts" and "Plural forms").
use Rattle.std.specs.Prelude.{ℕ, Bool, not, ◌==◌, ◌||◌, ◌&&◌, List, [], Option, option_map}
use Rattle.std.specs.Borrow.{Bor}
use Rattle.std.specs.List.{list_any}
use Rattle.std.specs.Option.{option_copied, unwrap_or}

-- A context, or none; a msgid; and where a plural form is asked for, the plural and the count. The
-- plural is no part of the key. Calls pass a count below 2^64.
pub record Query : Type 0 where
  pub context : Option (List ℕ)
  pub id : List ℕ
  pub plural : Option (List ℕ × ℕ)

-- the plural and the count that the argument of a call gives
abbrev pub given : Option (Bor (List ℕ) × ℕ) → Option (List ℕ × ℕ)
given plural = option_map (λ p. (p.0.now, p.1)) plural

-- the query that the arguments of a call make
abbrev pub query : Option (Bor (List ℕ)) → List ℕ → Option (Bor (List ℕ) × ℕ) → Query
query context id plural = record { context = option_copied context; id = id; plural = given plural }

-- a byte that ends a string of a file, NUL, or a context, EOT (4)
abbrev pub is_separator : ℕ → Bool
is_separator byte = byte == 0 || byte == 4

-- whether a text contains no separator
abbrev pub has_no_separator : List ℕ → Bool
has_no_separator text = not (list_any is_separator text)

-- whether neither a context nor a msgid contains a separator; where one does, the query has no
-- translation
abbrev pub can_be_key : Option (List ℕ) → List ℕ → Bool
can_be_key context id = has_no_separator (unwrap_or context []) && has_no_separator id
