-- What a question asks for.
use Rattle.runs.specs.Prelude.{Asked}
use Rattle.runs.specs.Inputs.{standard_input, file_of}
use Rattle.known_system.specs.declared.questions.Question.{Question}
use Rattle.known_system.specs.declared.questions.Question.TheVariants as question

abbrev pub questioned : Question → Asked
questioned (question.File name) = file_of name.now
questioned question.Standard = standard_input
