use Rattle.msgcat.proofs.Prelude.{HasTranslations, form_lists, map, named_entries, named_forms, take, translations, ◌≡◌}
use Rattle.msgcat.proofs.joined_translations.translations.Given as goal

-- the distinct translations so far are found, and the set has them
abbrev pub invariant-loop-definition : goal.invariant-loop-definition
invariant-loop-definition l = record {
  are_found : form_lists l.found.items
      ≡ map named_forms (translations (named_entries (take l.definition-index l.definitions)));
  met : HasTranslations l.seen (translations (named_entries (take l.definition-index l.definitions)));
}
