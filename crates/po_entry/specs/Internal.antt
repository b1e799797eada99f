-- What a hash of a text that was seen is made of. Private functions, proofs and laws cite it; no clause of a
-- public function does.
use Rattle.std.specs.Prelude.{◌≡◌, true, ℕ, List, [], ◌∷◌}
use Rattle.std.specs.Hash.{HashWrites}
use Rattle.std.specs.Str.{bytes_eq}
use Rattle.std.proofs.Common.{ap}
use Rattle.std.proofs.lemmas.Slice.Eq.{bytes_eq-Decides}
use Rattle.po_entry.specs.declared.seen_texts.SeenText.{SeenText}

abbrev pub text_writes : SeenText → HashWrites
text_writes text = text.bytes.now ∷ []

-- equal texts write the same
pub equal_texts_write_alike : (a b : SeenText) → bytes_eq a.bytes.now b.bytes.now ≡ true → text_writes a ≡ text_writes b
equal_texts_write_alike a b same = ap (λ (text : List ℕ). text ∷ []) ((bytes_eq-Decides a.bytes.now b.bytes.now).0 same)
