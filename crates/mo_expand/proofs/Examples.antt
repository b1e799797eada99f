-- The example of the laws, computed.
use Rattle.mo_expand.proofs.Prelude.{ExampleIsCompleted, ExampleNeedsItsText, joined, refl, word_at}
use Rattle.mo_file.specs.declared.byte_order.Order.TheVariants.{Little, Big}

pub example_is_completed : ExampleIsCompleted
unfolding joined word_at
example_is_completed Little t name text = rw name (rw text (refl, refl))
example_is_completed Big t name text = rw name (rw text (refl, refl))

pub example_needs_its_text : ExampleNeedsItsText
unfolding joined word_at
example_needs_its_text Little = refl
example_needs_its_text Big = refl
