-- Which bytes are held back, and what the next byte makes of them.
use Rattle.std.specs.Prelude.{ℕ, Bool, true, ◌&&◌, ◌==◌, if◌then◌else◌, List, [], ◌∷◌}
use Rattle.std.specs.List.{list_all}
use Rattle.envsubst.specs.Reference.{is_name_byte, is_name}

-- no byte yet, or a name that may go on
abbrev pub is_begun_name : List ℕ → Bool
is_begun_name [] = true
is_begun_name (b ∷ bs) = is_name (b ∷ bs) && list_all is_name_byte (b ∷ bs)

-- what may follow a `$` that is held
abbrev pub is_undecided_after : List ℕ → Bool
is_undecided_after [] = true
is_undecided_after (b ∷ bs) = if b == 123 then is_begun_name bs else is_begun_name (b ∷ bs)

-- nothing, or a `$` whose reference the bytes so far don't decide
unfoldable pub is_undecided : List ℕ → Bool
is_undecided [] = true
is_undecided (b ∷ bs) = b == 36 && is_undecided_after bs
