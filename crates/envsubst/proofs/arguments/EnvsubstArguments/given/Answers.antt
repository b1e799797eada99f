use Rattle.envsubst.proofs.Prelude.{envsubst_arguments, map}
use Rattle.runs.proofs.AskedInputs.{taken_of}
use Rattle.envsubst.proofs.arguments.EnvsubstArguments.given.Goals as goal

pub returns : goal.returns
returns g c = record {
  variables = c.is_given-variables.result;
  arguments = map (λ argument. argument.now) c.texts_of.result.now;
  variables_is = c.is_given-variables.ensures;
  arguments_are = c.texts_of.ensures;
  taken = taken_of envsubst_arguments c.of.result _ c.ok_or.result c.ok_or.ensures.value c.of.ensures;
}
