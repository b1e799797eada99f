-- The reader's step from one item to the next, and what items come to.
use Rattle.std.specs.Prelude.{◌≡◌, ℕ, ◌+◌, ◌==◌, nat_lt, Bool, true, false, not, ◌&&◌, ◌||◌, List, [], ◌∷◌, ◌++◌, fold, if◌then◌else◌}
use Rattle.std.specs.Bool.{beq}
use Rattle.po_syntax.specs.declared.fault.PoFault.{PoFault}
use Rattle.po_syntax.specs.declared.fault.PoFault.TheVariants.{BadOrder, BadPluralIndex, MixedObsolete}
use Rattle.po_syntax.specs.declared.item.Keyword.{Keyword}
use Rattle.po_syntax.specs.declared.item.Keyword.TheVariants.{MsgCtxt, MsgId, MsgIdPlural, MsgStr, MsgStrAt}
use Rattle.po_syntax.specs.declared.item.Marks.{Marks}
use Rattle.po_syntax.specs.Prelude.{TextItem, line_of}
use Rattle.po_syntax.specs.Item.{Comment, Word, Str}
use Rattle.po_entry.specs.Prelude.{TextEntry, rank}
use Rattle.po_entry.specs.Spelling.{own_marks}
use Rattle.po_reader.specs.Internal.Stage.{SoFar, Wanted, Id, Translation, Form, Gap, InHead, Before, AfterForm, Stage, Between, In, Stop, Outcome, Entries, Fault, no_lines, with_entry, with_own, with_comment, with_previous_text, with_text}

abbrev pub same_marks : Marks → Marks → Bool
same_marks a b = beq a.obsolete b.obsolete && beq a.previous b.previous

-- The fault of a string under other marks: if both are on own lines, which then differ in their
-- obsolete mark alone, the lines are mixed; else the string is out of order.
abbrev pub stray_string : Marks → Marks → PoFault
stray_string wanted found = if wanted.previous || found.previous then BadOrder else MixedObsolete

abbrev pub is_wanted : Wanted → Keyword → Bool
is_wanted Id MsgId = true
is_wanted Translation MsgIdPlural = true
is_wanted Translation MsgStr = true
is_wanted (Form wanted) (MsgStrAt index) = index == wanted
is_wanted _ _ = false

-- a plural form is wanted, and the keyword is one
abbrev pub is_wrong_form : Wanted → Keyword → Bool
is_wrong_form (Form wanted) (MsgStrAt index) = true
is_wrong_form _ _ = false

-- an entry's own lines may begin with this keyword
abbrev pub begins_body : Keyword → Bool
begins_body MsgCtxt = true
begins_body MsgId = true
begins_body _ = false

-- the first item is a keyword with which own lines begin
abbrev pub begins_own : List TextItem → Bool
begins_own (Word keyword marks line ∷ rest) = not marks.previous && begins_body keyword
begins_own _ = false

-- a head may end before these items, after a previous text of this rank: they are none, or an
-- entry's own lines begin
abbrev pub EndsHead : ℕ → List TextItem → Type 0
EndsHead above [] = above ≡ 0
EndsHead above (item ∷ items) = begins_own (item ∷ items) ≡ true

-- a `msgstr[i]`, and not one of a previous text
abbrev pub is_form : TextItem → Bool
is_form (Word (MsgStrAt index) marks line) = not marks.previous
is_form item = false

abbrev pub begins_form : List TextItem → Bool
begins_form (item ∷ rest) = is_form item
begins_form [] = false

abbrev pub begins_string : List TextItem → Bool
begins_string (Str bytes marks line ∷ rest) = true
begins_string _ = false

abbrev pub begins_word : List TextItem → Bool
begins_word (Word keyword marks line ∷ rest) = true
begins_word _ = false

-- the own lines after this keyword, of which `msgid` gives an entry its line
abbrev pub with_keyword : Keyword → ℕ → TextEntry → TextEntry
with_keyword MsgId line own = record own { line = line }
with_keyword keyword line own = own

-- after a keyword of these own lines
abbrev pub opened : SoFar → TextEntry → Keyword → ℕ → Stage
opened read own keyword line =
    In (with_own read (with_keyword keyword line own)) keyword (own_marks own.obsolete) false []

-- what may follow the text of a keyword of the own lines
abbrev pub after_text : Keyword → SoFar → Gap
after_text MsgCtxt read = Before read Id
after_text MsgId read = Before read Translation
after_text MsgIdPlural read = Before read (Form 0)
after_text MsgStr read = InHead (with_entry read) 0
after_text (MsgStrAt index) read = AfterForm read (index + 1)

-- what may follow the text of a keyword under these marks
abbrev pub closed : SoFar → Keyword → Marks → List ℕ → Gap
closed read keyword marks text =
    if marks.previous then InHead (with_previous_text read (record { keyword = keyword; text = text })) (rank keyword)
    else after_text keyword (with_own read (with_text keyword text read.own))

-- what may follow a keyword of the own lines with its text
abbrev pub and_text : SoFar → Keyword → ℕ → List ℕ → Gap
and_text read keyword line text =
    after_text keyword (with_own read (with_text keyword text (with_keyword keyword line read.own)))

-- in a head: a comment; a previous text, of a higher rank; or the first keyword of own lines, whose
-- obsolete mark is the entry's
abbrev pub turn_head : SoFar → ℕ → TextItem → Stage
turn_head read above (Comment kind text line) =
    Between (InHead (with_comment read (record { kind = kind; text = text })) above)
turn_head read above (Str bytes marks line) = Stop BadOrder line
turn_head read above (Word keyword marks line) =
    if marks.previous
    then (if nat_lt above (rank keyword) then In read keyword marks false [] else Stop BadOrder line)
    else if begins_body keyword then opened read (no_lines marks.obsolete) keyword line
    else Stop BadOrder line

-- the fault of a keyword that isn't wanted: of its index, if it is a form, or of its order
abbrev pub unwanted : Wanted → Keyword → PoFault
unwanted wanted keyword = if is_wrong_form wanted keyword then BadPluralIndex else BadOrder

-- Among own lines: a wanted keyword, under the entry's obsolete mark. A form of another index is
-- reported first, then a keyword out of order, then mixed lines.
abbrev pub turn_own : SoFar → Wanted → TextItem → Stage
turn_own read wanted (Word keyword marks line) =
    if marks.previous then Stop BadOrder line
    else if is_wanted wanted keyword
    then (if beq read.own.obsolete marks.obsolete then opened read read.own keyword line else Stop MixedObsolete line)
    else Stop (unwanted wanted keyword) line
turn_own read wanted item = Stop BadOrder (line_of item)

abbrev pub turn_gap : Gap → TextItem → Stage
turn_gap (InHead read above) item = turn_head read above item
turn_gap (Before read wanted) item = turn_own read wanted item
turn_gap (AfterForm read index) item =
    if is_form item then turn_own read (Form index) item else turn_head (with_entry read) 0 item

-- One item: a text goes on with the strings under its marks, and what else stands there follows it,
-- if it has a string.
abbrev pub turn : Stage → TextItem → Stage
turn (Between gap) item = turn_gap gap item
turn (In read keyword marks some text) (Str bytes found line) =
    if same_marks marks found then In read keyword marks true (text ++ bytes) else Stop (stray_string marks found) line
turn (In read keyword marks true text) item = turn_gap (closed read keyword marks text) item
turn (In read keyword marks false text) item = Stop BadOrder (line_of item)
turn (Stop fault line) item = Stop fault line

-- neither a string nor a plural form stands first
abbrev pub IsApart : List TextItem → Type 0
IsApart items = (begins_string items ≡ false) × (begins_form items ≡ false)

-- a gap after which no plural form follows
abbrev pub settled_gap : Gap → Gap
settled_gap (AfterForm read index) = InHead (with_entry read) 0
settled_gap gap = gap

-- a place after which neither a string nor a plural form follows
abbrev pub settled : Stage → Stage
settled (Between gap) = Between (settled_gap gap)
settled (In read keyword marks true text) = Between (settled_gap (closed read keyword marks text))
settled stage = stage

-- what it comes to where the items end here, with the line that is reported then
abbrev pub ended : ℕ → Gap → Outcome
ended end (InHead read above) = if above == 0 then Entries read.entries else Fault BadOrder end
ended end (Before read wanted) = Fault BadOrder end
ended end (AfterForm read index) = Entries (with_entry read).entries

abbrev pub outcome : ℕ → Stage → Outcome
outcome end (Between gap) = ended end gap
outcome end (In read keyword marks true text) = ended end (closed read keyword marks text)
outcome end (In read keyword marks false text) = Fault BadOrder end
outcome end (Stop fault line) = Fault fault line

-- where items lead, if neither a string nor a plural form follows them, and the line that is reported
-- where they end
pub record Reached : Type 0 where
  pub end : ℕ
  pub stage : Stage

abbrev pub reached : ℕ → Stage → List TextItem → Reached
reached end stage items = record { end = end; stage = settled (fold turn stage items) }

-- what it comes to where the items end there
abbrev pub outcome_of : Reached → Outcome
outcome_of there = outcome there.end there.stage

-- from this place on, the items come to this
abbrev pub comes_to : ℕ → Stage → List TextItem → Outcome
comes_to end stage items = outcome_of (reached end stage items)
