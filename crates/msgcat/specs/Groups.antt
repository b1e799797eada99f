-- Entries grouped by their messages (manual, "Invoking the msgcat Program").
pub use Rattle.po_entry.specs.Message.{with_new, first_ones}
use Rattle.std.specs.Prelude.{Bool, ℕ, ◌==◌, List, [], ◌∷◌, map, filter, if◌then◌else◌, ◌≡◌, ◌<◌, ◌≤◌, get_or, length, All, IsUtf8}
use Rattle.std.specs.List.{list_any, range_with_len}
use Rattle.po_entry.specs.Prelude.{is_live, entry_message, same_message as one_message, group_numbers, Message, Lacks, IsEntry}
use Rattle.msgcat.specs.Inputs.{NamedEntry}
use Rattle.msgcat.specs.declared.merge_inputs.Links.{Links}

-- entries of one message have the same context, or both none, and the same msgid
abbrev pub same_message : NamedEntry → NamedEntry → Bool
same_message a b = one_message (entry_message a.entry) (entry_message b.entry)

-- the entries of each message, in the order in which the messages first appear
abbrev pub groups : List NamedEntry → List (List NamedEntry)
groups entries = map (λ first. filter (λ e. same_message e first) entries) (first_ones same_message entries)

-- of things that have numbers those with this number, in order
abbrev pub with_number : {X : Type 0} → ℕ → List ℕ → List X → List X
with_number n [] things = []
with_number n (number ∷ numbers) [] = []
with_number n (number ∷ numbers) (thing ∷ things) =
    if number == n then thing ∷ with_number n numbers things else with_number n numbers things

-- the things of each number from 0 on, below a count
abbrev pub by_number : {X : Type 0} → ℕ → List ℕ → List X → List (List X)
by_number count numbers things = map (λ n. with_number n numbers things) (range_with_len 0 count)

-- What defines the message of a group: its live members, or all where none is live.
abbrev pub definitions_by : {X : Type 0} → (X → Bool) → List X → List X
definitions_by live group = if list_any live group then filter live group else group

abbrev pub definitions : List NamedEntry → List NamedEntry
definitions group = definitions_by (λ d. is_live d.entry) group

-- Which entries are of one message, by links between their indexes.

-- the indexes of the entries of each message, by the numbers of their messages
abbrev pub indexes_by : ℕ → List ℕ → List (List ℕ)
indexes_by count numbers = by_number count numbers (range_with_len 0 (length numbers))

-- the indexes are reached from the first one, link by link, and after the last there is none
abbrev pub IsChain : List ℕ → ℕ → List ℕ → Type 0
IsChain next at [] = length next ≤ at
IsChain next at (index ∷ indexes) =
    (at ≡ index) × (at < length next) × (at < get_or next at 0) × IsChain next (get_or next at 0) indexes

-- each group of indexes is linked
pub record AreLinked (groups : List (List ℕ)) (links : Links) : Type 0 where
  pub many : length links.firsts.items ≡ length groups
  pub chains : (n : ℕ) → n < length groups
      → IsChain links.next.items (get_or links.firsts.items n 0) (get_or groups n [])

-- an entry that can be merged with others of its message
pub record IsDefinition (definition : NamedEntry) : Type 0 where
  pub valid : IsEntry definition.entry
  pub utf8 : IsUtf8 definition.name
  pub no_nul : Lacks 0 definition.name

-- a group has an entry, and its entries are valid
pub record IsGroup (group : List NamedEntry) : Type 0 where
  pub some : 0 < length group
  pub valid : All IsDefinition group

-- the messages of entries
abbrev pub named_messages : List NamedEntry → List Message
named_messages entries = map (λ e. entry_message e.entry) entries

-- the number of the message of each entry
abbrev pub message_numbers : List NamedEntry → List ℕ
message_numbers entries = group_numbers one_message (named_messages entries)
