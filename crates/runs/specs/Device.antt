-- What readers and writers count, and what a writer has taken after a fault.
use Rattle.std.specs.Prelude.{◌≡◌, ℕ, List, [], ◌∷◌, ◌++◌, length, take, nat_eq, not, ◌&&◌, if◌then◌else◌, Option, Some, None, Result, Ok, Err, suc, zero}
use Rattle.std.specs.Io.KnownBytes.{Appends}
use Rattle.runs.specs.declared.device.Counted.{Counted}
use Rattle.runs.specs.declared.failing.Failing.{Failing}

-- how many failures a call of a reader is: an `Err` is one
abbrev pub failure_of_read : {T E : Type 0} → Result T E → ℕ
failure_of_read (Ok _) = 0
failure_of_read (Err _) = 1

-- how many failures a call of a writer is: an `Err` is one, and so is an `Ok` that took no byte of
-- a piece that isn't empty
abbrev pub failure_of_write : {E : Type 0} → Result ℕ E → List ℕ → ℕ
failure_of_write (Ok n) piece = if nat_eq n 0 && not (nat_eq (length piece) 0) then 1 else 0
failure_of_write (Err _) piece = 1

-- known bytes grew by the first bytes of bs, or by all of them
abbrev pub AppendsPrefix : Option (List ℕ) → Option (List ℕ) → List ℕ → Type 0
AppendsPrefix old new bs = (n : ℕ) × Appends old new (take n bs)

-- a call was given this piece, after those that calls were given before, where these are known
abbrev pub Gives : Option (List (List ℕ)) → Option (List (List ℕ)) → List ℕ → Type 0
Gives None after piece = Unit {0}
Gives (Some before) None piece = ⊥
Gives (Some before) (Some after) piece = after ≡ before ++ piece ∷ []

-- calls were given pieces, the first of them this one, where they are known
abbrev pub GivesFirst : Option (List (List ℕ)) → Option (List (List ℕ)) → List ℕ → Type 0
GivesFirst None after piece = Unit {0}
GivesFirst (Some before) None piece = ⊥
GivesFirst (Some before) (Some after) piece = (rest : List (List ℕ)) × (after ≡ before ++ piece ∷ rest)

-- What clauses see of a `Counted`: the reader or writer below, and its two counts.

abbrev pub counted_inner : {D : Type 0} → Counted D → D
counted_inner c = c.inner

abbrev pub counted_calls : {D : Type 0} → Counted D → ℕ
counted_calls c = c.calls

abbrev pub counted_failures : {D : Type 0} → Counted D → ℕ
counted_failures c = c.failures

-- What clauses see of a `Failing`: the device below, how many calls come before the one that fails,
-- if one is still to fail, and how many bytes a call moves at most.

abbrev pub failing_inner : {D : Type 0} → Failing D → D
failing_inner f = f.inner

abbrev pub failing_calls_before : {D : Type 0} → Failing D → Option ℕ
failing_calls_before f = f.calls_before

abbrev pub failing_most_bytes : {D : Type 0} → Failing D → ℕ
failing_most_bytes f = f.most_bytes

-- how many calls come before the one that fails, after one more call: the call that fails is the
-- last that counts
abbrev pub calls_after : Option ℕ → Option ℕ
calls_after None = None
calls_after (Some zero) = None
calls_after (Some (suc calls)) = Some calls
