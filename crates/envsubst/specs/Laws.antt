-- What spells a reference, and a text with its references replaced, with a case each, and what a run of
-- envsubst has written by that ("Invoking the envsubst program" of the GNU gettext manual).
use Rattle.std.specs.Prelude.{◌≡◌, ℕ, ◌≤◌, List, [], ◌∷◌, ◌++◌, length, All, Option, Some, ◌≢◌, None, Contains, IsTrue}
use Rattle.envsubst.specs.Reference.{is_letter, is_name_byte}
use Rattle.envsubst.specs.Replacements.{Values}
use Rattle.std.specs.List.{flat_map}
use Rattle.envsubst.specs.Substituter.{substitution}

-- what a name begins with: an ASCII letter or `_`
abbrev pub BeginsName : ℕ → Type 0
BeginsName b = IsTrue (is_letter b)

-- what a name goes on with: also a digit
abbrev pub IsInName : ℕ → Type 0
IsInName b = IsTrue (is_name_byte b)

-- a name has at most 255 bytes
abbrev pub IsName : List ℕ → Type 0
IsName [] = ⊥
IsName (b ∷ bytes) = BeginsName b × All IsInName bytes × (length (b ∷ bytes) ≤ 255)

-- no name goes on with the first byte
abbrev pub NoNameGoesOn : List ℕ → Type 0
NoNameGoesOn [] = Unit {0}
NoNameGoesOn (b ∷ bytes) = IsInName b → ⊥

-- the text begins with a reference to this name, `$NAME` or `${NAME}`, and the rest stands after it
pub data SpellsReference : List ℕ → List ℕ → List ℕ → Type 0 where
  bare : {name rest : List ℕ} → IsName name → NoNameGoesOn rest → SpellsReference (36 ∷ (name ++ rest)) name rest
  braced : {name rest : List ℕ} → IsName name → SpellsReference (36 ∷ 123 ∷ (name ++ 125 ∷ rest)) name rest

-- the text begins with no reference to a name that is replaced
abbrev pub BeginsNoReplaced : Values → List ℕ → Type 0
BeginsNoReplaced values text =
    (name value rest : List ℕ) → SpellsReference text name rest → values name ≡ Some value → ⊥

-- the text with its references replaced: each byte stands for itself, but for those of a reference
-- to a name that is replaced
pub data Replaces (values : Values) : List ℕ → List ℕ → Type 0 where
  nothing : Replaces values [] []
  copied : {b : ℕ} {text result : List ℕ} → BeginsNoReplaced values (b ∷ text) → Replaces values text result
      → Replaces values (b ∷ text) (b ∷ result)
  replaced : {text name value rest result : List ℕ} → SpellsReference text name rest → values name ≡ Some value
      → Replaces values rest result → Replaces values text (value ++ result)

-- the names of the references in a text, in order
pub data HoldsNames : List ℕ → List (List ℕ) → Type 0 where
  no_text : HoldsNames [] []
  no_reference : {b : ℕ} {text : List ℕ} {names : List (List ℕ)}
      → ((name rest : List ℕ) → SpellsReference (b ∷ text) name rest → ⊥) → HoldsNames text names
      → HoldsNames (b ∷ text) names
  reference : {b : ℕ} {text name rest : List ℕ} {names : List (List ℕ)} → SpellsReference (b ∷ text) name rest
      → HoldsNames text names → HoldsNames (b ∷ text) (name ∷ names)

-- among variables the value of a name: that of the first of this name, and nothing where there is
-- none
pub data HasValue (name : List ℕ) : List (List ℕ × List ℕ) → List ℕ → Type 0 where
  unset : {vars : List (List ℕ × List ℕ)} → All (λ v. v.0 ≢ name) vars → HasValue name vars []
  set : {vars : List (List ℕ × List ℕ)} {value : List ℕ} (before after : List (List ℕ × List ℕ))
      → vars ≡ before ++ (name, value) ∷ after → All (λ v. v.0 ≢ name) before → HasValue name vars value

-- with a SHELL-FORMAT only the names in it are replaced
abbrev pub IsReplaced : Option (List (List ℕ)) → List ℕ → Type 0
IsReplaced None name = Unit {0}
IsReplaced (Some names) name = Contains names name

-- What a run has written, by its text alone; and what calls write, however a text is cut.

-- after what the writer took before, it took these bytes
abbrev pub Took : List ℕ → Option (List ℕ) → Option (List ℕ) → Type 0
Took written old new = (before : List ℕ) → old ≡ Some before → new ≡ Some (before ++ written)

-- the writer took the text with its references replaced
pub record TookAll (values : Values) (text : List ℕ) (old new : Option (List ℕ)) : Type 0 where
  pub result : List ℕ
  pub replaced : Replaces values text result
  pub took : Took result old new

-- the writer took a beginning of the text with its references replaced
pub record TookBeginning (values : Values) (text : List ℕ) (old new : Option (List ℕ)) : Type 0 where
  pub written : List ℕ
  pub rest : List ℕ
  pub replaced : Replaces values text (written ++ rest)
  pub took : Took written old new

-- Of an input that is this text, a beginning was read. The writer took all of what it becomes,
-- whatever follows it, but for what the last 257 bytes at most and what follows them become.
pub record TookAllRead (values : Values) (text : List ℕ) (left old new : Option (List ℕ)) : Type 0 where
  pub read : List ℕ
  pub reads : (rest : List ℕ) → left ≡ Some rest → text ≡ read ++ rest
  pub held : List ℕ
  pub few : length held ≤ 257
  pub written : List ℕ
  pub took : Took written old new
  pub replaced : (other result : List ℕ) → Replaces values (held ++ other) result
      → Replaces values (read ++ other) (written ++ result)

-- of an input that is this text, a beginning was read; and the writer took a beginning of what it
-- becomes, whatever follows what was read
pub record TookBeginningOfRead (values : Values) (text : List ℕ) (left old new : Option (List ℕ)) : Type 0 where
  pub read : List ℕ
  pub reads : (rest : List ℕ) → left ≡ Some rest → text ≡ read ++ rest
  pub took : (other : List ℕ) → TookBeginning values (read ++ other) old new

-- one call: what it held before, its piece, what it wrote, and what it held after
pub record FeedCall : Type 0 where
  pub before : List ℕ
  pub piece : List ℕ
  pub written : List ℕ
  pub after : List ℕ

-- each call holds before what the one before it held after, and writes what its bytes become but
-- for what it holds
abbrev pub AreFeedCalls : Values → List ℕ → List FeedCall → Type 0
AreFeedCalls values held [] = Unit {0}
AreFeedCalls values held (c ∷ calls) =
    (c.before ≡ held)
    × ((rest : List ℕ)
    → substitution values ((c.before ++ c.piece) ++ rest) ≡ c.written ++ substitution values (c.after ++ rest))
    × AreFeedCalls values c.after calls

-- the pieces of the calls, joined
abbrev pub pieces_of : List FeedCall → List ℕ
pieces_of calls = flat_map (λ c. c.piece) calls

-- what the calls wrote, joined
abbrev pub written_in : List FeedCall → List ℕ
written_in calls = flat_map (λ c. c.written) calls

-- what is held after the last call
abbrev pub held_after : List ℕ → List FeedCall → List ℕ
held_after held [] = held
held_after held (c ∷ calls) = held_after c.after calls

-- however a text is cut, what all calls wrote and what is still held make what the whole text
-- becomes
abbrev pub FeedCallsAgree : Type 0
FeedCallsAgree = (values : Values) (calls : List FeedCall) → AreFeedCalls values [] calls → (rest : List ℕ)
    → written_in calls ++ substitution values (held_after [] calls ++ rest)
    ≡ substitution values (pieces_of calls ++ rest)
