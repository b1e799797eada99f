use Rattle.known_runs.proofs.Prelude.{entry_texts, option_copied, text_of}
use Rattle.known_runs.proofs.Envsubst.{envsubst_ends}
use Rattle.known_runs.proofs.substitutions.envsubst_in_memory.Goals as goal

pub returns : goal.returns
returns c =
    let ran = c.run_in_memory-reached.ensures in
    envsubst_ends (option_copied c.args.format) (entry_texts c.args.entries.now) c.args.text.now ran.left _ _
    (text_of c.words_of-words.result) _ c.words_of-words.ensures _ _ _ _ _ ran.calls ran.failures _ _ ran.runs
    c.status_or_input_fault.ensures
