-- What contracts see of a head while it is read, of the entry that is laid out with it, and of what is wanted next.
use Rattle.std.specs.Prelude.{◌≡◌, ℕ, Bool, List, [], ◌∷◌, ◌++◌, Option, None, Some}
use Rattle.po_reader.specs.declared.head.Head.{Head}
use Rattle.po_entry.specs.declared.drafts.Drafts.{Drafts}
use Rattle.po_entry.specs.Prelude.{Adds, TextEntry, slice_texts, CommentText, PreviousText, flags_of, fuzzy_of, previous_of, references_of, texts_of}
use Rattle.po_reader.specs.PieceRead.{kept_texts}
use Rattle.po_syntax.specs.declared.item.CommentKind.TheVariants.{Translator, Extracted, Flags}
use Rattle.po_reader.specs.declared.body.Wanted.{Wanted}
use Rattle.po_reader.specs.declared.body.Wanted.TheVariants as code
use Rattle.po_reader.specs.Internal.Stage as spec

-- the head holds these comments, or of them just whether one has `fuzzy`
pub record HoldsComments (all : Bool) (head : Head) (comment_texts : List CommentText) : Type 0 where
  pub comments : head.comments ≡ kept_texts all (texts_of Translator comment_texts)
  pub extracted : head.extracted ≡ kept_texts all (texts_of Extracted comment_texts)
  pub references : head.references ≡ kept_texts all (references_of comment_texts)
  pub flags : slice_texts head.flags.items ≡ kept_texts all (texts_of Flags comment_texts)
  pub fuzzy : head.fuzzy ≡ fuzzy_of comment_texts

-- the head holds these comments, or none of them, and these previous texts
pub record HoldsHead (all : Bool) (head : Head) (comment_texts : List CommentText)
    (previous : List PreviousText) : Type 0 where
  pub head_comments : HoldsComments all head comment_texts
  pub texts : head.previous ≡ previous_of previous

-- the own lines with this head, of which the comments, references and flags are kept or not
abbrev pub with_kept_head : Bool → List CommentText → List PreviousText → TextEntry → TextEntry
with_kept_head all comment_texts previous own = record own {
  comments = kept_texts all (texts_of Translator comment_texts);
  extracted = kept_texts all (texts_of Extracted comment_texts);
  references = kept_texts all (references_of comment_texts);
  fuzzy = fuzzy_of comment_texts;
  flags = kept_texts all (flags_of comment_texts);
  previous = previous_of previous;
}

-- a context with the EOT after it; nothing where there is none
abbrev pub context_bytes : Option (List ℕ) → List ℕ
context_bytes None = []
context_bytes (Some context) = context ++ 4 ∷ []

-- the entry with this head and these own lines is laid out after the others, with its comments or without
abbrev pub AddsEntry : Head → TextEntry → Drafts → Drafts → Type 0
AddsEntry head own old new =
    (all : Bool) (comment_texts : List CommentText) (previous : List PreviousText)
    → HoldsHead all head comment_texts previous → Adds (with_kept_head all comment_texts previous own) old new

abbrev pub wanted_view : Wanted → spec.Wanted
wanted_view code.Id = spec.Id
wanted_view code.Translation = spec.Translation
wanted_view (code.Form index) = spec.Form index
