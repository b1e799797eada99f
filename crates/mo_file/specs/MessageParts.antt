-- The parts of originals and translations (manual, "The Format of GNU MO Files").
use Rattle.std.specs.Prelude.{ℕ, ◌==◌, Bool, List, Option, None, Some, slice_get, if◌then◌else◌, ◌≡◌, ◌≢◌, ◌∷◌, ◌++◌, All, MatchOption}
use Rattle.std.specs.List.{list_any, before_first, after_first, slice_split}
use Rattle.mo_file.specs.Key.{is_nul}
use Rattle.std.specs.Borrow.{Bor}

abbrev pub is_eot : ℕ → Bool
is_eot byte = byte == 4

-- the context of a key stands before its first EOT, where it has one
abbrev pub context_of : List ℕ → Option (List ℕ)
context_of key = if list_any is_eot key then Some (before_first is_eot key) else None

-- the msgid is the rest of the key, or all of a key without EOT
abbrev pub id_of : List ℕ → List ℕ
id_of key = if list_any is_eot key then after_first is_eot key else key

-- the forms of a translation: the parts between its NULs, one at least, which may be empty
abbrev pub forms : List ℕ → List (List ℕ)
forms translation = slice_split is_nul translation

-- the plural of an original stands between its first NUL and the next, or the end
abbrev pub plural_of : List ℕ → Option (List ℕ)
plural_of original = slice_get (slice_split is_nul original) 1

-- the text is without this byte
abbrev pub Lacks : ℕ → List ℕ → Type 0
Lacks byte text = All (λ b. b ≢ byte) text

-- what stands before the first such byte and what after it; nothing is cut off where there is none
abbrev pub IsCut : ℕ → List ℕ → Option (Bor (List ℕ) × Bor (List ℕ)) → Type 0
IsCut byte text parts =
    MatchOption parts (Lacks byte text)
    (λ cut. (text ≡ cut.0.now ++ byte ∷ cut.1.now) × Lacks byte cut.0.now)
