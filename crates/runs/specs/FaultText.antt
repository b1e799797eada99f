-- The texts of faults, and the one line on standard error that reports a fault: this project's own
-- words, since the manual leaves them open.
use Rattle.std.specs.Prelude.{◌≡◌, refl, ℕ, List, [], ◌∷◌, ◌++◌, codes, decimal, ◌==◌, if◌then◌else◌}
use Rattle.std.specs.Fmt.{digits}
use Rattle.mo_file.specs.declared.fault.MoError.{MoError}
use Rattle.mo_file.specs.declared.fault.MoError.TheVariants.{TooShort, BadMagic, BadRevision, TableOutside}
use Rattle.mo_file.specs.declared.fault.MoError.TheVariants.{StringOutside, NoTerminator, NotSorted}
use Rattle.po_syntax.specs.declared.fault.PoError.{PoError}
use Rattle.po_syntax.specs.declared.fault.PoFault.{PoFault}
use Rattle.po_syntax.specs.declared.fault.PoFault.TheVariants.{NotUtf8, BadToken, UnterminatedString, BadEscape}
use Rattle.po_syntax.specs.declared.fault.PoFault.TheVariants.{ForbiddenByte, BadOrder, BadPluralIndex, MixedObsolete}
use Rattle.po_syntax.specs.declared.fault.PoFault.TheVariants.{Duplicate, ForeignCharset, TooLarge, OutOfMemory}

-- what is wrong with a PO text, or with the file that texts are compiled to
abbrev pub po_text : PoFault → List ℕ
po_text NotUtf8 = codes "not UTF-8"
po_text BadToken = codes "unexpected byte or word"
po_text UnterminatedString = codes "string not closed"
po_text BadEscape = codes "bad escape"
po_text ForbiddenByte = codes "forbidden byte"
po_text BadOrder = codes "keyword or text out of order"
po_text BadPluralIndex = codes "wrong plural index"
po_text MixedObsolete = codes "live and obsolete lines mixed"
po_text (Duplicate line) = codes "duplicate of the message at line " ++ decimal line
po_text ForeignCharset = codes "charset is not UTF-8"
po_text TooLarge = codes "too large"
po_text OutOfMemory = codes "out of memory"

-- what is wrong with an MO file
abbrev pub mo_text : MoError → List ℕ
mo_text TooShort = codes "file too short"
mo_text BadMagic = codes "bad magic number"
mo_text BadRevision = codes "unknown revision"
mo_text TableOutside = codes "table outside the file"
mo_text (StringOutside i) = codes "string " ++ decimal i ++ codes " outside the file"
mo_text (NoTerminator i) = codes "string " ++ decimal i ++ codes " without a final NUL"
mo_text (NotSorted i) = codes "string " ++ decimal i ++ codes " out of order"

-- a duplicate of a message of an earlier file
abbrev pub duplicate_text : List ℕ → ℕ → List ℕ
duplicate_text file line = codes "duplicate of the message at " ++ file ++ 58 ∷ decimal line

-- the line of a fault after its file and `:` (58), where it has one; line 0 is none
abbrev pub line_part : ℕ → List ℕ
line_part line = if line == 0 then [] else 58 ∷ decimal line

-- `pokit TOOL: FILE:LINE: `, without `:LINE` where there is none
abbrev pub location : List ℕ → List ℕ → ℕ → List ℕ
location tool file line = codes "pokit " ++ tool ++ codes ": " ++ file ++ line_part line ++ codes ": "

-- the line of a fault on standard error, with its LF
abbrev pub fault_line : List ℕ → List ℕ → ℕ → List ℕ → List ℕ
fault_line tool file line text = location tool file line ++ text ++ 10 ∷ []

-- the line of a fault of a PO text
abbrev pub text_line : List ℕ → List ℕ → PoError → List ℕ
text_line tool file error = fault_line tool file error.line (po_text error.kind)

pub fault_lines_are : (text_line (codes "msgfmt") (codes "a.po") (record { kind = Duplicate 2; line = 13 })
    ≡ codes "pokit msgfmt: a.po:13: duplicate of the message at line 2\n")
    × (fault_line (codes "msgunfmt") (codes "a.mo") 0 (mo_text (NotSorted 7))
    ≡ codes "pokit msgunfmt: a.mo: string 7 out of order\n")
    × (duplicate_text (codes "a.po") 5 ≡ codes "duplicate of the message at a.po:5")
unfolding digits
fault_lines_are = (refl, refl, refl)
