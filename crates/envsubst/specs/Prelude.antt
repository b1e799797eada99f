-- What contracts and proofs cite of the definitions of this crate. Declares nothing.
pub use Rattle.envsubst.specs.Reference.{Reference, begins_with, name_prefix}
unfoldable pub use Rattle.envsubst.specs.Reference.{bare_reference, braced_reference, is_letter, is_name, is_name_byte, names_in, reference_after}
pub use Rattle.envsubst.specs.Replacements.{Values, names_given, pairs_in, values_of_slices}
unfoldable pub use Rattle.envsubst.specs.Replacements.{is_replaced, value_of, values_of}
pub use Rattle.envsubst.specs.Substituter.{Advances, Replacement, Stops, SubstituterView, substituted, substitution, values_of_substituter}
unfoldable pub use Rattle.envsubst.specs.Substituter.{replacement_of, substitution_after}
pub use Rattle.envsubst.specs.Holding.{is_begun_name, is_undecided_after}
unfoldable pub use Rattle.envsubst.specs.Holding.{is_undecided}
pub use Rattle.envsubst.specs.WholeInput.{EndsAs, HasGoneOut, ReadsFail, StopsAtEnd, StopsWithin, Substitutes, write_failures}
pub use Rattle.envsubst.specs.Variable.{variable_of, variables_of}
pub use Rattle.envsubst.specs.Arguments.{AreEnvsubstArguments, EnvsubstUsage, envsubst_arguments, envsubst_usage}
pub use Rattle.envsubst.specs.ByArguments.{RunsEnvsubst, WritesNames}
pub use Rattle.envsubst.specs.Laws.{AreFeedCalls, BeginsNoReplaced, FeedCall, FeedCallsAgree, HasValue, HoldsNames, IsInName, IsName, IsReplaced, NoNameGoesOn, Replaces, SpellsReference, Took, TookAll, TookAllRead, TookBeginning, TookBeginningOfRead, held_after, pieces_of, written_in}
