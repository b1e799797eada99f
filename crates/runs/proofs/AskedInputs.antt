-- The inputs that arguments ask for, one list of them, and those that are left to read.
use Rattle.runs.proofs.Prelude.{AreInputs, AreInputsAfter, AreInputsInTurn, Asked, Asks, AsksAll, AsksFirst, AsksInTurn, Bool, Bor, HasOneReading, HaveFiles, InputFault, IsTaken, List, NamedFile, None, Option, ProgramFault, Reading, ReadsAs, Result, Some, Stays, [], a_file, another_file, ap, append-nil, append_assoc, ap₂, arith, asked_arguments, asked_for, asks_file, asks_nothing, asks_standard, bytes_eq-Decides, cases_Bool, codes, cond-false, done, drop, drop-append-le, drop_more, drop_of_length-le, empty_text, false, false_from_ne_true, file_of, from_standard_input, get_or, gives, inl, input_fault_text, inputs_in, inr, is_standard, length, length-drop, map, map-append, named, no_argument, no_file, no_files, no_standard_input, not_from_Decides, ok_or, one_more_file, option_map, read, refl, refuses, shown_name, standard_again, subst, sum_by, sum_by-append, sym, take, take-append-drop, take-append-le, take-length, take-map, take_more, true, unread, unread_file, ℕ, ◌++◌, ◌+◌, ◌-◌, ◌<◌, ◌||◌, ◌↔◌, ◌∙◌, ◌∷◌, ◌≡◌, ◌≢◌, ◌≤◌}
use Rattle.runs.specs.declared.program_fault.ProgramFault.TheVariants.{WrongArguments}
use Rattle.runs.specs.Inputs.{nothing}
use Rattle.runs.specs.declared.inputs.Input.{Input}

pub is_dash : (argument : List ℕ) → is_standard argument ≡ true → argument ≡ codes "-"
is_dash argument is = (bytes_eq-Decides argument (codes "-")).0 is

pub no_dash : (argument : List ℕ) → is_standard argument ≡ false → argument ≢ codes "-"
no_dash argument is = not_from_Decides (is_standard argument) (bytes_eq-Decides argument (codes "-")) is

pub other : (argument : List ℕ) → argument ≢ codes "-" → is_standard argument ≡ false
other argument is = false_from_ne_true (is_standard argument) (λ e. is (is_dash argument e))

-- what arguments ask for, in their order, before which `-` was seen or not
abbrev pub asked_by : Bool → List (List ℕ) → List Asked
asked_by seen [] = []
asked_by seen (argument ∷ arguments) =
    asked_for argument (is_standard argument) seen ++ asked_by (seen || is_standard argument) arguments

-- what the arguments after the first `-` ask for
record AsksFiles (arguments : List (List ℕ)) : Type 0 where
  files : List (List ℕ)
  have : HaveFiles arguments files
  asked : asked_by true arguments ≡ map file_of files

asks_files : (arguments : List (List ℕ)) → AsksFiles arguments
asks_files [] = record { files = []; have = no_files; asked = refl }
asks_files (argument ∷ arguments) =
    let rest = asks_files arguments in
    elim (cases_Bool (is_standard argument)) [
      | inl e ↦ record {
        files = rest.files;
        have = rw (is_dash argument e) (standard_again rest.have);
        asked = rw e rest.asked;
      }
      | inr e ↦ record {
        files = argument ∷ rest.files;
        have = one_more_file (no_dash argument e) rest.have;
        asked = rw e (ap (λ l. file_of argument ∷ l) rest.asked);
      }
    ]

pub in_turn : (arguments : List (List ℕ)) → AsksInTurn arguments (asked_by false arguments)
in_turn [] = asks_nothing
in_turn (argument ∷ arguments) = elim (cases_Bool (is_standard argument)) [
  | inl e ↦ let rest = asks_files arguments in rw (is_dash argument e, rest.asked) (asks_standard rest.have)
  | inr e ↦ rw e (asks_file (no_dash argument e) (in_turn arguments))
]

pub taken_of : {T U : Type 0} (view : T → U) (given : Option T) (usage : Option U) (result : Result T ProgramFault)
    → result ≡ ok_or given WrongArguments → option_map view given ≡ usage → IsTaken view usage result
taken_of view None usage result is same = subst (IsTaken view usage) (sym is) (sym same, refl)
taken_of view (Some given) usage result is same = subst (IsTaken view usage) (sym is) (sym same)

pub one_bytes : {a b : List ℕ} → gives a ≡ gives b → a ≡ b
one_bytes e = cc

one_fault : {a b : InputFault} → refuses a ≡ refuses b → a ≡ b
one_fault e = cc

module _ (file : List ℕ → Reading → Type 0) (standard : Reading → Type 0) (one : HasOneReading file standard) where
  one_reading : (argument : List ℕ) (is seen : Bool) (a b : Reading) → ReadsAs file standard argument is seen a
      → ReadsAs file standard argument is seen b → a ≡ b
  one_reading argument false seen a b first second = one.of_file argument a b first second
  one_reading argument true false a b first second = one.of_standard a b first second
  one_reading argument true true a b first second = first ∙ sym second

  pub one_list : (seen : Bool) (arguments : List (List ℕ)) (inputs others : List NamedFile)
      (fault other : Option (List ℕ)) → AreInputs file standard seen arguments inputs fault
      → AreInputs file standard seen arguments others other → (inputs ≡ others) × (fault ≡ other)
  one_list seen [] inputs others fault other done done = (refl, refl)
  one_list seen (argument ∷ arguments) inputs others fault other (read first rest) (read second rest') =
      let same = one_bytes (one_reading argument (is_standard argument) seen _ _ first second) in
      let tail = one_list (seen || is_standard argument) arguments _ _ _ _ rest rest' in
      (ap₂ (λ bytes list. record { name = shown_name argument; bytes = bytes } ∷ list) same tail.0, tail.1)
  one_list seen (argument ∷ arguments) inputs others fault other (read first rest) (unread why second) =
      let same = one_reading argument (is_standard argument) seen _ _ first second in absurd cc
  one_list seen (argument ∷ arguments) inputs others fault other (unread why first) (read second rest) =
      let same = one_reading argument (is_standard argument) seen _ _ first second in absurd cc
  one_list seen (argument ∷ arguments) inputs others fault other (unread why first) (unread why' second) =
      let same = one_fault (one_reading argument (is_standard argument) seen _ _ first second) in
      (refl, ap (λ w. Some (input_fault_text (shown_name argument) w)) same)

-- The inputs of arguments, by the cases of a relation.

shown_file : (argument : List ℕ) → is_standard argument ≡ false → shown_name argument ≡ argument
shown_file argument is = cond-false (is_standard argument) (codes "<stdin>") argument is

not_refused : {X : Type 0} {why : InputFault} {bytes : List ℕ} → refuses why ≡ gives bytes → X
not_refused e = absurd cc

module _ (file : List ℕ → Reading → Type 0) (standard : Reading → Type 0) where
  inputs_after : {arguments : List (List ℕ)} {inputs : List NamedFile} {fault : Option (List ℕ)}
      → AreInputs file standard true arguments inputs fault → AreInputsAfter file arguments inputs fault
  inputs_after done = no_argument
  inputs_after (read {argument} {bytes} reads rest) = elim (cases_Bool (is_standard argument)) [
    | inl e ↦ let none : bytes ≡ [] =
        one_bytes (rw e at reads) in rw (is_dash argument e, none) (empty_text (inputs_after rest))
    | inr e ↦ rw e (another_file (no_dash argument e) (rw e at reads) (inputs_after rest))
  ]
  inputs_after (unread {argument} why reads) = elim (cases_Bool (is_standard argument)) [
    | inl e ↦ not_refused (rw e at reads)
    | inr e ↦ rw e (unread_file why (no_dash argument e) (rw e at reads))
  ]

  asked_in_turn : {seen : Bool} {arguments : List (List ℕ)} {inputs : List NamedFile} {fault : Option (List ℕ)}
      → seen ≡ false
      → AreInputs file standard seen arguments inputs fault → AreInputsInTurn file standard arguments inputs fault
  asked_in_turn unseen done = nothing
  asked_in_turn unseen (read {argument} reads rest) = elim (cases_Bool (is_standard argument)) [
    | inl e ↦ rw (is_dash argument e) (from_standard_input (rw (unseen, e) at reads)
        (inputs_after (rw (unseen, e) at rest)))
    | inr e ↦ rw e (a_file (no_dash argument e) (rw (unseen, e) at reads)
        (asked_in_turn (ap₂ (λ a b. a || b) unseen e) rest))
  ]
  asked_in_turn unseen (unread {argument} why reads) = elim (cases_Bool (is_standard argument)) [
    | inl e ↦ rw (is_dash argument e) (no_standard_input why (rw (unseen, e) at reads))
    | inr e ↦ rw e (no_file why (no_dash argument e) (rw (unseen, e) at reads))
  ]

  after_read : {arguments : List (List ℕ)} {inputs : List NamedFile} {fault : Option (List ℕ)}
      → AreInputsAfter file arguments inputs fault → AreInputs file standard true arguments inputs fault
  after_read no_argument = done
  after_read (another_file {argument} {bytes} {arguments} {inputs} {fault} differs reads rest) =
      let e = other argument differs in
      subst (λ n. AreInputs file standard true (argument ∷ arguments) (named n bytes ∷ inputs) fault)
      (shown_file argument e)
      (read (rw e reads) (after_read rest))
  after_read (unread_file {argument} {arguments} why differs reads) =
      let e = other argument differs in
      subst (λ n. AreInputs file standard true (argument ∷ arguments) [] (Some (input_fault_text n why)))
      (shown_file argument e)
      (unread why (rw e reads))
  after_read (empty_text rest) = read refl (after_read rest)

  turn_read : {arguments : List (List ℕ)} {inputs : List NamedFile} {fault : Option (List ℕ)}
      → AreInputsInTurn file standard arguments inputs fault → AreInputs file standard false arguments inputs fault
  turn_read nothing = done
  turn_read (a_file {argument} {bytes} {arguments} {inputs} {fault} differs reads rest) =
      let e = other argument differs in
      subst (λ n. AreInputs file standard false (argument ∷ arguments) (named n bytes ∷ inputs) fault)
      (shown_file argument e)
      (read (rw e reads) (rw e (turn_read rest)))
  turn_read (no_file {argument} {arguments} why differs reads) =
      let e = other argument differs in
      subst (λ n. AreInputs file standard false (argument ∷ arguments) [] (Some (input_fault_text n why)))
      (shown_file argument e)
      (unread why (rw e reads))
  turn_read (from_standard_input reads rest) = read reads (after_read rest)
  turn_read (no_standard_input why reads) = unread why reads

pub inputs_in_turn : (file : List ℕ → Reading → Type 0) (standard : Reading → Type 0) (arguments : List (List ℕ))
    (inputs : List NamedFile)
    (fault : Option (List ℕ))
    → AreInputs file standard false arguments inputs fault ↔ AreInputsInTurn file standard arguments inputs fault
inputs_in_turn file standard arguments inputs fault = (asked_in_turn file standard refl, turn_read file standard)

-- The arguments that are left to read, and what they add to the inputs before.

abbrev pub arguments_now : List (Bor (List ℕ)) → List (List ℕ)
arguments_now arguments = map (λ argument. argument.now) arguments

-- more inputs stand after those before, with their bytes after those of these
pub inputs-append : (bytes more : List ℕ) (texts next : List Input)
    → sum_by (λ input. input.len) texts ≡ length bytes
    → inputs_in (bytes ++ more) (texts ++ next) ≡ inputs_in bytes texts ++ inputs_in more next
inputs-append [] more [] next all = refl
inputs-append (b ∷ bytes) more [] next all = absurd (omega (arith, all))
inputs-append bytes more (text ∷ texts) next all =
    let sum = sum_by-append (λ input. input.len) (text ∷ []) texts in
    let fits : text.len ≤ length bytes = omega (arith, all, sum) in
    rw (take-append-le text.len bytes more fits, drop-append-le text.len bytes more fits)
    (ap (λ list. record { name = text.name.now; bytes = take text.len bytes } ∷ list)
    (inputs-append (drop text.len bytes) more texts next (omega (arith, all, sum, length-drop text.len bytes))))

-- one more input stands after those before: what was read after the first n bytes
pub inputs-more : (n : ℕ) (before after : List ℕ) (texts : List Input) (input : Input) (name : List ℕ)
    → n ≡ length before → take n after ≡ before → sum_by (λ input. input.len) texts ≡ n
    → input.name.now ≡ name → input.len ≡ length after - n
    → inputs_in after (texts ++ input ∷ []) ≡ inputs_in before texts ++ record { name = name; bytes = drop n after }
    ∷ []
inputs-more n before after texts input name count kept all is len =
    let read = drop n after in
    let after_is : after ≡ before ++ read = sym (take-append-drop n after) ∙ ap (λ l. l ++ read) kept in
    ap (λ l. inputs_in l (texts ++ input ∷ [])) after_is
    ∙ inputs-append before read texts (input ∷ []) (all ∙ count)
    ∙ ap (λ bytes. inputs_in before texts ++ record { name = input.name.now; bytes = bytes } ∷ [])
    (ap (λ m. take m read) (len ∙ sym (length-drop n after)) ∙ take-length read)
    ∙ ap (λ name. inputs_in before texts ++ record { name = name; bytes = read } ∷ []) is

-- the inputs before one that can't be read are what they were
pub inputs-before : (n : ℕ) (before after : List ℕ) (texts : List Input) → n ≡ length before → take n after ≡ before
    → sum_by (λ input. input.len) texts ≡ n → inputs_in after texts ≡ inputs_in before texts
inputs-before n before after texts count kept all =
    ap (inputs_in after) (sym (append-nil texts))
    ∙ ap (λ l. inputs_in l (texts ++ [])) (sym (take-append-drop n after) ∙ ap (λ l. l ++ drop n after) kept)
    ∙ inputs-append before (drop n after) texts [] (all ∙ count)
    ∙ append-nil (inputs_in before texts)

-- the next argument stands before those that are left
pub next-argument : (arguments : List (Bor (List ℕ))) (i : ℕ) (d : Bor (List ℕ)) → i < length arguments
    → arguments_now (drop i arguments) ≡ (get_or arguments i d).now ∷ arguments_now (drop (i + 1) arguments)
next-argument arguments i d below = ap arguments_now (drop_more arguments i d below)

pub Asks-none : (before : Option (List Asked)) → Asks before before []
Asks-none None = tt
Asks-none (Some asked) = sym (append-nil asked)

pub Asks-trans : (a b c : Option (List Asked)) (first next : List Asked) → Asks a b first → Asks b c next
    → Asks a c (first ++ next)
Asks-trans None b c first next p q = tt
Asks-trans (Some xs) None c first next p q = absurd p
Asks-trans (Some xs) (Some ys) None first next p q = absurd q
Asks-trans (Some xs) (Some ys) (Some zs) first next p q = q ∙ ap (λ l. l ++ next) p ∙ append_assoc xs first next

-- the first i arguments, and the next
take-next : (arguments : List (Bor (List ℕ))) (i : ℕ) (d : Bor (List ℕ)) → i < length arguments
    → take (i + 1) (arguments_now arguments) ≡ take i (arguments_now arguments) ++ (get_or arguments i d).now ∷ []
take-next arguments i d below =
    rw (
      take-map (λ argument. argument.now) (i + 1) arguments,
      take_more arguments i d below,
      take-map (λ argument. argument.now) i arguments,
      map-append (λ argument. argument.now) (take i arguments),
    )

-- what the arguments before i ask for was asked for, and those that follow ask for the rest
pub record AsksBefore (before after : Option (List Asked)) (arguments : List (Bor (List ℕ))) (i : ℕ)
    (seen : Bool) : Type 0 where
  pub asks : Asks before after (asked_by false (take i (arguments_now arguments)))
  pub goes_on : (more : List (List ℕ))
      → asked_by false (take i (arguments_now arguments) ++ more) ≡ asked_by false (take i (arguments_now arguments))
      ++ asked_by seen more

pub AsksBefore-none : (before : Option (List Asked)) (arguments : List (Bor (List ℕ)))
    → AsksBefore before before arguments 0 false
AsksBefore-none before arguments = record { asks = Asks-none before; goes_on = λ more. refl }

pub AsksBefore-more : (a b c : Option (List Asked)) (arguments : List (Bor (List ℕ))) (i : ℕ) (d : Bor (List ℕ))
    (seen : Bool) → i < length arguments → AsksBefore a b arguments i seen
    → Asks b c (asked_for (get_or arguments i d).now (is_standard (get_or arguments i d).now) seen)
    → AsksBefore a c arguments (i + 1) (seen || is_standard (get_or arguments i d).now)
AsksBefore-more a b c arguments i d seen below p q =
    let argument = (get_or arguments i d).now in
    let asked = asked_for argument (is_standard argument) seen in
    let so_far = take i (arguments_now arguments) in
    let next : take (i + 1) (arguments_now arguments) ≡ so_far ++ argument ∷ [] = take-next arguments i d below in
    let more_asked : asked_by false (take (i + 1) (arguments_now arguments)) ≡ asked_by false so_far ++ asked =
    ap (asked_by false) next ∙ p.goes_on (argument ∷ []) ∙ ap (λ l. asked_by false so_far ++ l) (append-nil asked) in
    record {
      asks = subst (Asks a c) (sym more_asked) (Asks-trans a b c _ _ p.asks q);
      goes_on = λ more.
          ap (λ l. asked_by false (l ++ more)) next ∙ ap (asked_by false) (append_assoc so_far (argument ∷ []) more)
          ∙ p.goes_on (argument ∷ more)
          ∙ sym (append_assoc (asked_by false so_far) asked _)
          ∙ ap (λ l. l ++ asked_by (seen || is_standard argument) more) (sym more_asked);
    }

pub AsksBefore-first : (a b : Option (List Asked)) (arguments : List (Bor (List ℕ))) (i : ℕ) (seen : Bool)
    → AsksBefore a b arguments i seen → AsksFirst a b (arguments_now arguments)
AsksBefore-first a b arguments i seen p = record {
  all = asked_by false (arguments_now arguments);
  in_turn = in_turn (arguments_now arguments);
  asked = asked_by false (take i (arguments_now arguments));
  rest = asked_by seen (drop i (arguments_now arguments));
  asks = p.asks;
  first = sym (p.goes_on (drop i (arguments_now arguments)))
      ∙ ap (asked_by false) (take-append-drop i (arguments_now arguments));
}

asks_all : {a b : Option (List Asked)} {arguments : List (List ℕ)} → Asks a b (asked_by false arguments)
    → AsksAll a b arguments
asks_all {arguments} asks = record { asked = asked_by false arguments; in_turn = in_turn arguments; asks = asks }

-- where as many inputs were read, all before i were
pub AsksBefore-read : (a b : Option (List Asked)) (arguments : List (Bor (List ℕ))) (i : ℕ) (seen : Bool)
    (inputs : List NamedFile) (fault : Option (List ℕ)) → fault ≡ None
    → length inputs ≡ i → AsksBefore a b arguments i seen
    → AsksAll a b (asked_arguments (arguments_now arguments) inputs fault)
AsksBefore-read a b arguments i seen inputs None none count p =
    subst (λ n. AsksAll a b (take n (arguments_now arguments))) (sym count) (asks_all p.asks)
AsksBefore-read a b arguments i seen inputs (Some fault) none count p = absurd (grind (arith, none))

-- and where the next can't be read, it was asked for too
pub AsksBefore-unread : (a b : Option (List Asked)) (arguments : List (Bor (List ℕ))) (i : ℕ) (seen : Bool)
    (inputs : List NamedFile) (fault : Option (List ℕ)) (text : List ℕ)
    → fault ≡ Some text → length inputs ≡ i → AsksBefore a b arguments (i + 1) seen
    → AsksAll a b (asked_arguments (arguments_now arguments) inputs fault)
AsksBefore-unread a b arguments i seen inputs None text some count p = absurd (grind (arith, some))
AsksBefore-unread a b arguments i seen inputs (Some fault) text some count p =
    subst (λ n. AsksAll a b (take (n + 1) (arguments_now arguments))) (sym count) (asks_all p.asks)

module _ (file : List ℕ → Reading → Type 0) (standard : Reading → Type 0) where
  -- whatever the arguments from i on add completes what the arguments before made
  pub record Completes (arguments : List (Bor (List ℕ))) (i : ℕ) (seen : Bool) (inputs : List NamedFile) : Type 0 where
    pub completes : (more : List NamedFile) (fault : Option (List ℕ))
        → AreInputs file standard seen (arguments_now (drop i arguments)) more fault
        → AreInputs file standard false (arguments_now arguments) (inputs ++ more) fault

  pub Completes-none : (arguments : List (Bor (List ℕ))) → Completes arguments 0 false []
  Completes-none arguments = record { completes = λ more fault are. are }

  pub Completes-read : (arguments : List (Bor (List ℕ))) (i : ℕ) (d : Bor (List ℕ)) (seen : Bool)
      (inputs : List NamedFile) (bytes : List ℕ) → i < length arguments
      → ReadsAs file standard (get_or arguments i d).now (is_standard (get_or arguments i d).now) seen (gives bytes)
      → Completes arguments i seen inputs
      → Completes arguments (i + 1) (seen || is_standard (get_or arguments i d).now)
      (inputs ++ record { name = shown_name (get_or arguments i d).now; bytes = bytes } ∷ [])
  Completes-read arguments i d seen inputs bytes below reads before = record {
    completes = λ more fault are.
        rw append_assoc (before.completes
        (record { name = shown_name (get_or arguments i d).now; bytes = bytes } ∷ more) fault
        (rw (next-argument arguments i d below) (read reads are)));
  }

  pub Completes-unread : (arguments : List (Bor (List ℕ))) (i : ℕ) (d : Bor (List ℕ)) (seen : Bool)
      (inputs : List NamedFile) (why : InputFault) → i < length arguments
      → ReadsAs file standard (get_or arguments i d).now (is_standard (get_or arguments i d).now) seen (refuses why)
      → Completes arguments i seen inputs
      → AreInputs file standard false (arguments_now arguments) inputs
      (Some (input_fault_text (shown_name (get_or arguments i d).now) why))
  Completes-unread arguments i d seen inputs why below reads before =
      let Are : List NamedFile
      → Type 0 = λ list. AreInputs file standard false (arguments_now arguments) list
      (Some (input_fault_text (shown_name (get_or arguments i d).now) why)) in
      subst Are (append-nil inputs)
      (before.completes [] (Some (input_fault_text (shown_name (get_or arguments i d).now) why))
      (rw (next-argument arguments i d below) (unread why reads)))

  pub Completes-all : (arguments : List (Bor (List ℕ))) (i : ℕ) (seen : Bool) (inputs : List NamedFile)
      → length arguments ≤ i → Completes arguments i seen inputs
      → AreInputs file standard false (arguments_now arguments) inputs None
  Completes-all arguments i seen inputs past before =
      let Are : List NamedFile → Type 0 = λ list. AreInputs file standard false (arguments_now arguments) list None in
      subst Are (append-nil inputs) (before.completes [] None (rw (drop_of_length-le arguments past) done))

-- what may be read stays
pub stays_itself : (file : List ℕ → Reading → Type 0) (standard : Reading → Type 0) → Stays file file standard standard
stays_itself file standard = record { of_file = λ name reading is. is; of_standard = λ reading is. is }

pub stays_on : {f f' f'' : List ℕ → Reading → Type 0} {s s' s'' : Reading → Type 0} → Stays f f' s s'
    → Stays f' f'' s' s'' → Stays f f'' s s''
stays_on first then =
    record {
      of_file = λ name reading is. first.of_file name reading (then.of_file name reading is);
      of_standard = λ reading is. first.of_standard reading (then.of_standard reading is);
    }

pub reads_as_before : {f f' : List ℕ → Reading → Type 0} {s s' : Reading → Type 0}
    → Stays f f' s s' → (argument : List ℕ) (standard seen : Bool) (reading : Reading)
    → ReadsAs f' s' argument standard seen reading → ReadsAs f s argument standard seen reading
reads_as_before stays argument false seen reading is = stays.of_file argument reading is
reads_as_before stays argument true false reading is = stays.of_standard reading is
reads_as_before stays argument true true reading is = is
