-- The own texts of an entry, joined of strings and laid out one after the other.
use Rattle.po_reader.proofs.Prelude.{All, All-append, All-cons, All-head, All-left, All-nil, All-right, All-tail, Bool, CommentText, Keyword, List, Marks, MsgCtxt, MsgId, None, OfString, Option, PreviousText, Some, TextEntry, TextItem, TextPrevious, [], after_nul, ap, append-nil, append_assoc, arith, common_steps, context_bytes, context_length, flat_map, further_texts, key_bytes, length, no_previous, option_to_list, own_bytes, quoted_texts, refl, sym, with_head, with_previous, ℕ, ◌++◌, ◌-◌, ◌∙◌, ◌∷◌, ◌≡◌}
use Rattle.std.proofs.Common.{length-append}
use Rattle.std.specs.Prelude.{fold}
use Rattle.po_entry.specs.Spelling as spell

-- a text after a NUL
one_more : (old pushed new text : List ℕ) → pushed ≡ old ++ 0 ∷ [] → new ≡ pushed ++ text → new ≡ old ++ 0 ∷ text
one_more old pushed new text nul is =
    is ∙ ap (λ (l : List ℕ). l ++ text) nul ∙ append_assoc old (0 ∷ []) text

-- one more form
pub form_laid : (before old pushed new text : List ℕ) (forms : List (List ℕ))
    → old ≡ before ++ flat_map after_nul forms → pushed ≡ old ++ 0 ∷ [] → new ≡ pushed ++ text
    → new ≡ before ++ flat_map after_nul (forms ++ text ∷ [])
form_laid before old pushed new text forms so_far nul is =
    grind (arith, common_steps, one_more, append_assoc, append-nil)

-- a form alone
pub only_form_laid : (old pushed new text : List ℕ) → pushed ≡ old ++ 0 ∷ [] → new ≡ pushed ++ text
    → new ≡ old ++ flat_map after_nul (text ∷ [])
only_form_laid old pushed new text nul is =
    form_laid old old pushed new text [] (sym (append-nil old)) nul is

-- a plural, and forms after it
pub plural_laid : (old pushed mid new text : List ℕ) (forms : List (List ℕ)) → pushed ≡ old ++ 0 ∷ []
    → mid ≡ pushed ++ text → new ≡ mid ++ flat_map after_nul forms
    → new ≡ old ++ flat_map after_nul (text ∷ forms)
plural_laid old pushed mid new text forms nul is more = grind (arith, common_steps, one_more, append_assoc)

-- a key is the context, with its EOT, and the msgid
key_is : (context : Option (List ℕ)) (id : List ℕ) → key_bytes context id ≡ context_bytes context ++ id
key_is None id = refl
key_is (Some context) id = sym (append_assoc context (4 ∷ []) id)

pub key_laid : (before mid new : List ℕ) (context : Option (List ℕ)) (id : List ℕ)
    → mid ≡ before ++ context_bytes context → new ≡ mid ++ id → new ≡ before ++ key_bytes context id
key_laid before mid new context id first is = grind (arith, common_steps, append_assoc, key_is)

pub own_laid : (before key new : List ℕ) (own : TextEntry) → key ≡ before ++ key_bytes own.context own.id
    → new ≡ key ++ flat_map after_nul (further_texts own) → new ≡ before ++ own_bytes own
own_laid before key new own first is = grind (arith, common_steps, append_assoc)

-- how long a part is that stands after others
pub part_len : (before new part : List ℕ) → new ≡ before ++ part → length new - length before ≡ length part
part_len before new part is = omega (arith, ap length is, length-append before part)

pub context_len : (context : Option (List ℕ)) → length (context_bytes context) ≡ context_length context
context_len None = refl
context_len (Some context) = omega (arith, length-append context (4 ∷ []))

-- What holds of strings, and of any two that are joined, holds of the texts of the entries that they spell.

module _ (P : List ℕ → Type 0) (join : (xs ys : List ℕ) → P xs → P ys → P (xs ++ ys)) where
  strings : {marks : Marks} {items : List TextItem} {text : List ℕ} → spell.SpellsStrings marks items text
      → All (OfString P) items → P text
  strings (spell.last) h = All-head (OfString P) _ [] h
  strings (spell.more {bytes = bytes} {others = others} {strings = rest} s) h =
      join bytes others (All-head (OfString P) _ rest h) (strings s (All-tail (OfString P) _ rest h))

  keyword : {word : Keyword} {marks : Marks} {line : ℕ} {items : List TextItem} {text : List ℕ}
      → spell.SpellsKeywordText word marks line items text → All (OfString P) items → P text
  keyword (spell.keyword_text s) h = strings s (All-tail (OfString P) _ _ h)

  context : {obsolete : Bool} {items : List TextItem} {text : Option (List ℕ)} → spell.SpellsContext obsolete items text
      → All (OfString P) items → All P (option_to_list text)
  context spell.no_context h = All-nil P
  context (spell.context s) h = All-cons P _ [] (keyword s h) (All-nil P)

  forms : {obsolete : Bool} {index : ℕ} {items : List TextItem} {texts : List (List ℕ)}
      → spell.SpellsForms obsolete index items texts → All (OfString P) items → All P texts
  forms spell.no_form h = All-nil P
  forms (spell.more_forms {own = own} {items = items} s more) h =
      All-cons P _ _ (keyword s (All-left (OfString P) own items h)) (forms more (All-right (OfString P) own items h))

  translation : {obsolete : Bool} {items : List TextItem} {plural : Option (List ℕ)} {texts : List (List ℕ)}
      → spell.SpellsTranslation obsolete items plural texts → All (OfString P) items
      → All P (option_to_list plural) × All P texts
  translation (spell.single s) h = (All-nil P, All-cons P _ [] (keyword s h) (All-nil P))
  translation (spell.plural {own = own} {items = items} s more) h = (
    All-cons P _ [] (keyword s (All-left (OfString P) own items h)) (All-nil P),
    forms more (All-right (OfString P) own items h),
  )

  -- the previous texts of a head
  previous : {items : List TextItem} {comment_texts : List CommentText} {texts : List PreviousText}
      → spell.SpellsHead items comment_texts texts → All (OfString P) items
      → All (λ (p : PreviousText). P p.text) texts
  previous spell.nothing h = All-nil (λ (p : PreviousText). P p.text)
  previous (spell.head_comment more) h = previous more (All-tail (OfString P) _ _ h)
  previous (spell.previous_text {own = own} {items = items} s more) h =
      All-cons (λ (p : PreviousText). P p.text) _ _ (keyword s (All-left (OfString P) own items h))
      (previous more (All-right (OfString P) own items h))

  abbrev PreviousHold : TextPrevious → Type 0
  PreviousHold fields =
      All P (option_to_list fields.context) × All P (option_to_list fields.id)
      × All P (option_to_list fields.plural)

  one : (text : List ℕ) → P text → All P (text ∷ [])
  one text h = All-cons P text [] h (All-nil P)

  set : (word : Keyword) (text : List ℕ) (fields : TextPrevious) → P text → PreviousHold fields
      → PreviousHold (with_previous word text fields)
  set MsgCtxt text fields holds h = (one text holds, h.1, h.2)
  set MsgId text fields holds h = (h.0, one text holds, h.2)
  set word text fields holds h = (h.0, h.1, one text holds)

  all_set : (texts : List PreviousText) (fields : TextPrevious) → All (λ (p : PreviousText). P p.text) texts
      → PreviousHold fields
      → PreviousHold (fold (λ fields (p : PreviousText). with_previous p.keyword p.text fields) fields texts)
  all_set [] fields h so_far = so_far
  all_set (p ∷ texts) fields h so_far =
      all_set texts (with_previous p.keyword p.text fields)
      (All-tail (λ (p : PreviousText). P p.text) p texts h)
      (set p.keyword p.text fields (All-head (λ (p : PreviousText). P p.text) p texts h) so_far)

  -- all texts of an entry
  pub entry_texts : {head own : List TextItem} {comment_texts : List CommentText} {texts : List PreviousText}
      {body : TextEntry} → spell.SpellsHead head comment_texts texts → spell.SpellsBody own body → All (OfString P) head
      → All (OfString P) own → All P (quoted_texts (with_head comment_texts texts body))
  entry_texts {texts = texts} above
      (spell.own_lines {entry = body} {first = first} {own = own} {last = last} c w t) h k =
      let begin = All-left (OfString P) (first ++ own) last k in
      let fields = all_set texts no_previous (previous above h)
      (All-nil P, All-nil P, All-nil P) in
      let translated = translation t (All-right (OfString P) (first ++ own) last k) in
      All-append P _ body.forms
      (All-append P _ (option_to_list body.plural)
      (All-append P _ (body.id ∷ [])
      (All-append P _ (option_to_list body.context)
      (All-append P _ _ (All-append P _ _ fields.0 fields.1) fields.2)
      (context c (All-left (OfString P) first own begin)))
      (one body.id (keyword w (All-right (OfString P) first own begin)))) translated.0) translated.1

  -- all texts of the entries
  pub entries_texts : {items : List TextItem} {entries : List TextEntry} → spell.SpellsEntries items entries
      → All (OfString P) items → All (λ (entry : TextEntry). All P (quoted_texts entry)) entries
  entries_texts (spell.comments only) h = All-nil (λ (entry : TextEntry). All P (quoted_texts entry))
  entries_texts (spell.entries {items = rest} (spell.entry {head = head} {own = own} above order lines) more) h =
      let entry = All-left (OfString P) (head ++ own) rest h in
      All-cons (λ (entry : TextEntry). All P (quoted_texts entry)) _ _
      (entry_texts above lines (All-left (OfString P) head own entry) (All-right (OfString P) head own entry))
      (entries_texts more (All-right (OfString P) (head ++ own) rest h))
