-- The text of a usage fault, from clap's text of it, and the command `help`, as the option that it
-- stands for.
use Rattle.std.specs.Prelude.{ℕ, Bool, ◌&&◌, ◌||◌, if◌then◌else◌, List, [], ◌∷◌, Option, Some, None, nat_eq, codes}
use Rattle.std.specs.List.{flat_map, starts_with, zip}
use Rattle.std.specs.Str.{bytes_eq}
use Rattle.po_syntax.specs.Facts.LinesWithEnds.{lines_with_ends}
use Rattle.runs.specs.declared.tool.Tool.{Tool}
use Rattle.command_line.specs.Tips.{own_tip, takes_files}

-- clap's tip to pass an unknown option as a file, at a tool whose arguments are files
abbrev pub is_file_tip : Option Tool → List ℕ → Bool
is_file_tip tool line = takes_files tool && starts_with nat_eq line (codes "  tip: to pass '")

-- a tip of clap's, or a further line of its usage
abbrev pub is_left_out : List ℕ → Bool
is_left_out line = starts_with nat_eq line (codes "  tip: ") || starts_with nat_eq line (codes "       pokit ")

-- What becomes of a line of clap's: if there is an own tip, it takes the place of the usage, and
-- clap's tips are left out; else only its tip to pass an option as a file is.
abbrev pub reworded_line : Option Tool → Option (List ℕ) → List ℕ → List ℕ
reworded_line tool (Some tip) line =
    if starts_with nat_eq line (codes "Usage: ") then tip else if is_left_out line then [] else line
reworded_line tool None line = if is_file_tip tool line then [] else line

-- an empty line, with its end
abbrev pub is_empty_line : List ℕ → Bool
is_empty_line line = bytes_eq line (10 ∷ [])

-- what becomes of a line after another: nothing, if both are blank
abbrev pub spaced_line : List ℕ × List ℕ → List ℕ
spaced_line (before, line) = if is_empty_line before && is_empty_line line then [] else line

-- the text, with one of the blank lines that follow each other
abbrev pub single_spaced : List ℕ → List ℕ
single_spaced text = flat_map spaced_line (zip ([] ∷ lines_with_ends text) (lines_with_ends text))

-- the text of a usage fault, from clap's text of it
abbrev pub reworded : Option Tool → List ℕ → List ℕ
reworded tool text = single_spaced (flat_map (reworded_line tool (own_tip tool text)) (lines_with_ends text))

-- `help` is `--help`, and `help TOOL` with anything after it is `TOOL --help`; the first word is the
-- program's name
abbrev pub spelled_out : List (List ℕ) → List (List ℕ)
spelled_out (program ∷ word ∷ []) = program ∷ (if bytes_eq word (codes "help") then codes "--help" else word) ∷ []
spelled_out (program ∷ word ∷ tool ∷ more) =
    if bytes_eq word (codes "help") then program ∷ tool ∷ codes "--help" ∷ [] else program ∷ word ∷ tool ∷ more
spelled_out words = words
