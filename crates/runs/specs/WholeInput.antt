-- How much is read of an input at most (this project's own), and what a tool delivers that reads one
-- input; `IsRun` says which run an input has.
use Rattle.std.specs.Prelude.{◌^◌, ℕ, ◌≡◌, List, Option, IfSome, take}
use Rattle.std.specs.Io.KnownBytes.{Appends}
use Rattle.runs.specs.Run.{RunView, DeliversPrefix}

-- the bytes that are read of an input
abbrev pub input_limit : ℕ
input_limit = 2 ^ 31

-- the calls of a reader by which it is read
abbrev pub call_limit : ℕ
call_limit = 2 ^ 32

-- the run of the input that is read, or of its first 2,147,483,648 bytes
pub record IsRunOf (IsRun : List ℕ → RunView → Type 0) (remaining : Option (List ℕ)) (run : RunView) : Type 0 where
  pub input : List ℕ
  pub is_read : IfSome remaining (λ bytes. input ≡ take input_limit bytes)
  pub is_run : IsRun input run

-- all of the run has gone out, and this is its status
pub record IsDelivered (IsRun : List ℕ → RunView → Type 0) (remaining : Option (List ℕ))
    (out out' err err' : Option (List ℕ)) (status : ℕ) : Type 0 where
  pub run : RunView
  pub is_run : IsRunOf IsRun remaining run
  pub output : Appends out out' run.output
  pub messages : Appends err err' run.messages
  pub status_is : status ≡ run.status

-- a prefix of the run has gone out
pub record IsCut (IsRun : List ℕ → RunView → Type 0) (remaining : Option (List ℕ))
    (out out' err err' : Option (List ℕ)) : Type 0 where
  pub run : RunView
  pub is_run : IsRunOf IsRun remaining run
  pub prefix : DeliversPrefix out out' err err' run
