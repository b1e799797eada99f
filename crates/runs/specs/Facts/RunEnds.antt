-- What a tool does, by the way in which it ends.
use Rattle.std.proofs.Common.{◌≡◌, ◌≢◌, ◌⊎◌, ℕ, List, [], ◌∷◌, None, Some, Option, Result, Err, IfSome, option_map, refl, inl, inr, ap, drop, length, suc}
use Rattle.runs.specs.declared.inputs.Input.{Input}
use Rattle.runs.specs.declared.inputs.Inputs.{Inputs}
use Rattle.runs.specs.declared.program_fault.ProgramFault.{ProgramFault}
use Rattle.runs.specs.declared.program_fault.ProgramFault.TheVariants.{OutOfMemory}
use Rattle.runs.specs.Inputs.{IsInputFault, inputs_in, named_inputs, NamedFile}
use Rattle.runs.specs.OutputSystem.{SystemView}
use Rattle.runs.specs.ProgramFault.{program_text}
use Rattle.runs.specs.Run.{RunView}
use Rattle.runs.specs.ToolRuns.{Asking, Planning, ReadsInputs, RunsInput, RunsInputs, has_none, no_memory_to_plan, out_of_memory, unread}

-- the only input can't be read, or there is no memory
pub input_ended : {source : Asking} {IsRun : NamedFile → RunView → Type 0} {argument output : List ℕ}
    {system : SystemView} (reported : ProgramFault)
    → (reported ≡ OutOfMemory) ⊎ IsInputFault source.file source.standard argument (program_text reported)
    → (reported ≡ OutOfMemory → source.refused → ⊥)
    → RunsInput source IsRun argument output system system (Err reported)
input_ended reported (inl memory) is_read = rw memory (out_of_memory (is_read memory) refl)
input_ended reported (inr fault) is_read = unread fault refl

-- inputs have no run, or there is no memory to plan one
pub inputs_ended : {source : Asking} {plan : Planning} {arguments : List (List ℕ)} {output : List ℕ}
    {system : SystemView} {inputs : List NamedFile} {unread : Option (List ℕ)} (reported : ProgramFault)
    → ReadsInputs source arguments inputs unread → (reported ≡ OutOfMemory → inputs ≡ [] → unread ≡ None)
    → (reported ≡ OutOfMemory) ⊎ plan.has_no_run inputs unread (program_text reported)
    → RunsInputs source plan arguments output system system (Err reported)
inputs_ended reported reads read (inl memory) = rw memory (no_memory_to_plan reads (read memory) refl)
inputs_ended reported reads read (inr none) = has_none reads none refl

no_input_in : (bytes : List ℕ) (inputs : List Input) → inputs_in bytes inputs ≡ [] → inputs ≡ []
no_input_in bytes [] none = refl
no_input_in bytes (input ∷ inputs) none = cc

-- nothing was read where nothing that was read has a name
pub none_read : (inputs : Inputs) → named_inputs inputs ≡ [] → inputs.texts.items ≡ []
none_read inputs none = no_input_in inputs.bytes.items inputs.texts.items none

inputs_in_count : (bytes : List ℕ) (inputs : List Input) → length (inputs_in bytes inputs) ≡ length inputs
inputs_in_count bytes [] = refl
inputs_in_count bytes (input ∷ inputs) = ap suc (inputs_in_count (drop input.len bytes) inputs)

-- each input that was read has a name
pub named_count : (inputs : Inputs) → length (named_inputs inputs) ≡ length inputs.texts.items
named_count inputs = inputs_in_count inputs.bytes.items inputs.texts.items

told_is : {T : Type 0} (reported fault : ProgramFault) → ◌≡◌ {A = Result T ProgramFault} (Err reported) (Err fault)
    → reported ≡ OutOfMemory → Some fault ≡ Some OutOfMemory
told_is reported fault told memory = cc

-- where nothing was read before an input that can't be, that is told
pub none_unread : (T : Type 0) {inputs : List NamedFile} (next : Option ProgramFault) (reported : ProgramFault)
    → next ≢ Some OutOfMemory
    → (inputs ≡ [] → IfSome next (λ fault. ◌≡◌ {A = Result T ProgramFault} (Err reported) (Err fault)))
    → reported ≡ OutOfMemory → inputs ≡ [] → option_map program_text next ≡ None
none_unread T None reported other told memory none = refl
none_unread T (Some fault) reported other told memory none = absurd (other (told_is reported fault (told none) memory))
