-- The path of a new file, and paths that name an open stream.
use Rattle.runs.proofs.Prelude.{All, AllDigits, Bool, List, MatchOption, NamesNoStream, NamesStream, None, Option, Some, [], and_right, ap, ap₂, arith, beside, bytes_eq, bytes_eq-Decides, cases_lt, codes, cond, cond-false, cond-true, cond_both, cur_dir, decimal, decimal_is_IsNumeral, digits_value, drop, eq-eqb, eqb-false, false, false_from_ne_true, false≢true, filter, first_piece, get_or, get_or-drop, inl, inr, is_dot_at, is_name, is_some, later_pieces, length, length-append, length-decimal-le, length_push, list_any_at, ltb-true, nat_lt, ne_eqb, new_name, normal_name, not, of_device, of_process, option_flatten, own_name, parent_and_last, path_components, path_file_name, path_join, path_names, path_parent, path_with_file_name, refl, rfind_below, rsplit_once, same_from_push, slash, split_last_component, standard_error, standard_output, subst, suc, sym, take, trim_trailing, true, unwrap_or, without_file_name, zero, ℕ, ◌++◌, ◌+◌, ◌<◌, ◌==◌, ◌^◌, ◌||◌, ◌↔◌, ◌∙◌, ◌∷◌, ◌≡◌, ◌≢◌, ◌≤◌, ◌⊎◌}
use Rattle.std.proofs.Common.{length-drop}
use Rattle.std.specs.Option.{IfSome, option_map}
use Rattle.std.proofs.lemmas.List.Elements.{All-append, All-cons, All-from_get_or, All-head, All-nil, All-tail}
use Rattle.std.proofs.lemmas.Paths.{path_components_file_name, path_components_join, path_join_relative}
use Rattle.std.proofs.lemmas.Str.Parse.{digit_from_value}
use Rattle.std.specs.Str.Pattern.{FindsTextPrefix, StripsPrefix}

-- no byte is a slash
abbrev LacksSlash : List ℕ → Type 0
LacksSlash name = All (λ b. b ≢ slash) name

digits_lack_slash : (digits : List ℕ) → AllDigits 10 digits → LacksSlash digits
digits_lack_slash [] h = All-nil (λ b. b ≢ slash)
digits_lack_slash (d ∷ digits) h =
    All-cons (λ b. b ≢ slash) d digits (λ e. omega (arith, e, digit_from_value d h.0)) (digits_lack_slash digits h.1)

-- the last component of a path has no slash
lacks_after : (text : List ℕ) (n : ℕ) (last : Option ℕ) → rfind_below slash text n ≡ last → (k : ℕ) → k < n
    → IfSome last (λ i. i < k) → get_or text k 0 ≢ slash
lacks_after text zero last e k below after = absurd (omega (arith, below))
lacks_after text (suc n) last e k below after =
    found (get_or text n 0 == slash) refl e (λ now lower. lacks_after text n last now k lower after) where
      found : (test : Bool) → (get_or text n 0 == slash) ≡ test → cond test (Some n) (rfind_below slash text n) ≡ last
          → (rfind_below slash text n ≡ last → k < n → get_or text k 0 ≢ slash) → get_or text k 0 ≢ slash
      found true is now more = absurd (omega (arith, below, subst (λ i. IfSome i (λ m. m < k)) (sym now) after))
      found false is now more = elim (cases_lt k n) [
        | inl lower ↦ more now lower
        | inr other ↦ subst (λ m. get_or text m 0 ≢ slash) (omega (arith, below, other)) (eqb-false _ _ is)
      ]

last_lacks_slash : (text : List ℕ) (last : Option ℕ) → rfind_below slash text (length text) ≡ last
    → LacksSlash (parent_and_last text (option_map (λ i. (take i text, drop (i + 1) text)) last)).1
last_lacks_slash text None e =
    All-from_get_or (λ b. b ≢ slash) text 0 (λ k inside. lacks_after text (length text) None e k inside tt)
last_lacks_slash text (Some i) e = All-from_get_or (λ b. b ≢ slash) (drop (i + 1) text) 0 (λ k inside.
    let within : i + 1 + k < length text = omega (arith, inside, length-drop (i + 1) text) in
    subst (λ b. b ≢ slash) (sym (get_or-drop (i + 1) text k 0))
    (lacks_after text (length text) (Some i) e (i + 1 + k) within (omega arith)))

normal_lacks_slash : (last : List ℕ) → LacksSlash last → IfSome (normal_name last) LacksSlash
normal_lacks_slash last lacks = cond_both _ None (Some last) (λ name. IfSome name LacksSlash) (λ _. tt) (λ _. lacks)

file_name_lacks_slash : (path name : List ℕ) → path_file_name path ≡ Some name → LacksSlash name
unfolding path_file_name split_last_component rsplit_once
file_name_lacks_slash path name e =
    let text = trim_trailing path in
    let split = parent_and_last text (rsplit_once slash text) in
    subst (λ file. IfSome file LacksSlash) e
    (cond_both _ None (Some split) (λ last. IfSome (option_flatten (option_map (λ s. normal_name s.1) last)) LacksSlash)
    (λ _. tt) (λ _. normal_lacks_slash split.1 (last_lacks_slash text _ refl)))

-- a name without a slash is one component
first_piece_whole : (name : List ℕ) → LacksSlash name → first_piece name ≡ name
first_piece_whole [] lacks = refl
first_piece_whole (b ∷ name) lacks =
    cond-false _ _ _ (ne_eqb b slash (All-head (λ c. c ≢ slash) b name lacks))
    ∙ ap (λ l. b ∷ l) (first_piece_whole name (All-tail (λ c. c ≢ slash) b name lacks))

later_pieces_none : (name : List ℕ) → LacksSlash name → later_pieces name ≡ []
later_pieces_none [] lacks = refl
later_pieces_none (b ∷ name) lacks =
    cond-false _ _ _ (ne_eqb b slash (All-head (λ c. c ≢ slash) b name lacks))
    ∙ later_pieces_none name (All-tail (λ c. c ≢ slash) b name lacks)

no_components : path_components [] ≡ []
unfolding path_components path_names
no_components = refl

module _ (name : List ℕ) (lacks : LacksSlash name) (long : 2 ≤ length name) where
  is_one_name : is_name name ≡ true
  is_one_name =
      ap₂ (λ (s t : Bool). not (s || t)) (ne_eqb (length name) 0 (λ e. omega (arith, e, long)))
      (false_from_ne_true (bytes_eq name cur_dir)
      (λ e. omega (arith, long, ap length ((bytes_eq-Decides name cur_dir).0 e))))

  names_of_name : path_names name ≡ name ∷ []
  unfolding path_names
  names_of_name =
      ap₂ (λ (x : List ℕ) (xs : List (List ℕ)). filter is_name (x ∷ xs)) (first_piece_whole name lacks)
      (later_pieces_none name lacks)
      ∙ cond-true (is_name name) (name ∷ []) [] is_one_name

  no_slash_first : get_or name 0 0 ≢ slash
  no_slash_first = lacks 0 0 (omega (arith, long))

  components_of_name : path_components name ≡ name ∷ []
  unfolding path_components
  components_of_name =
      let no_dot : is_dot_at name 0 ≡ false =
      and_right _ _ (ne_eqb (get_or name 1 slash) slash (lacks 1 slash (omega (arith, long)))) in
      ap₂ ◌++◌ (cond-false _ _ _ (ne_eqb (get_or name 0 0) slash no_slash_first) ∙ cond-false _ _ _ no_dot)
      names_of_name

  components_of_joined : (dir : List ℕ) → path_components (path_join dir name) ≡ path_components dir ++ name ∷ []
  components_of_joined [] = ap path_components (path_join_relative [] name no_slash_first) ∙ components_of_name
      ∙ ap (λ l. l ++ name ∷ []) (sym no_components)
  components_of_joined (b ∷ dir) =
      path_components_join (b ∷ dir) name (omega arith) no_slash_first
      ∙ ap (λ l. path_components (b ∷ dir) ++ l) names_of_name

  components_of_other : (path : List ℕ)
      → path_components (path_with_file_name path name) ≡ path_components (without_file_name path) ++ name ∷ []
  unfolding path_with_file_name
  components_of_other path = components_of_joined (without_file_name path)

output_lacks_slash : LacksSlash (codes "output")
output_lacks_slash = λ i d inside same.
    false≢true (list_any_at (λ b. b == slash) (codes "output") i d inside (eq-eqb _ slash same))

-- the name of a new file, of the name that it is made from
module _ (number : ℕ) (few : number < 2 ^ 32) where
  digits_are_few : length (decimal number) ≤ 10
  digits_are_few = length-decimal-le 10 number (omega arith) (omega (arith, few)) (omega (arith, few))

  name_lacks_slash : (own : List ℕ) → LacksSlash own → LacksSlash (46 ∷ own ++ 46 ∷ decimal number)
  name_lacks_slash own lacks =
      let digits = digits_lack_slash (decimal number) (decimal_is_IsNumeral number (omega (arith, few))).0.1 in
      let lacking : ℕ → Type 0 = λ b. b ≢ slash in
      All-cons lacking 46 _ (λ e. omega (arith, e))
      (All-append lacking own _ lacks (All-cons lacking 46 _ (λ e. omega (arith, e)) digits))

  name_length : (own : List ℕ) → length (46 ∷ own ++ 46 ∷ decimal number) ≡ 2 + length own + length (decimal number)
  name_length own = omega (arith, length-append own (46 ∷ decimal number))

  own_lacks_slash : (name : Option (List ℕ)) → IfSome name LacksSlash → LacksSlash (own_name name)
  own_lacks_slash None h = output_lacks_slash
  own_lacks_slash (Some name) h = cond_both _ (codes "output") name LacksSlash (λ _. output_lacks_slash) (λ _. h)

  other_length : (name : List ℕ) → length (new_name (Some name) number) ≢ length name
  other_length name = cond_both _ (codes "output") name (λ own. length (46 ∷ own ++ 46 ∷ decimal number) ≢ length name)
      (λ (long : nat_lt 200 (length name) ≡ true) e.
      omega (arith, e, ltb-true 200 (length name) long, name_length (codes "output"), digits_are_few))
      (λ short e. omega (arith, e, name_length name))

  pub beside_is_another : (path : List ℕ) → beside path number ≢ path
  beside_is_another path same = by_name (path_file_name path) refl same where
    by_name : (file : Option (List ℕ)) → path_file_name path ≡ file
        → path_with_file_name path (new_name file number) ≢ path
    by_name None e same =
        let named = components_of_other (new_name None number) (name_lacks_slash (codes "output") output_lacks_slash)
        (omega (arith, name_length (codes "output"))) path in
        let dir : without_file_name path ≡ path =
        ap (λ (file : Option (List ℕ)). cond (is_some file) (unwrap_or (path_parent path) path) path) e in
        omega (
          arith,
          ap length (sym (ap path_components same) ∙ named
              ∙ ap (λ p. path_components p ++ new_name None number ∷ []) dir),
          length_push (path_components path) (new_name None number),
        )
    by_name (Some base) e same =
        let lacks = own_lacks_slash (Some base) (file_name_lacks_slash path base e) in
        let name = new_name (Some base) number in
        let named = components_of_other name (name_lacks_slash (own_name (Some base)) lacks)
        (omega (arith, name_length (own_name (Some base)))) path in
        let ends = path_components_file_name path base e in
        other_length base (ap length
        (same_from_push _ ends.0 name base (sym named ∙ ap path_components same ∙ ends.1)).1)

-- Which paths name an open stream.

-- what a text begins with
begins : (prefix path rest : List ℕ) → StripsPrefix (FindsTextPrefix prefix) path rest → path ≡ prefix ++ rest
begins prefix path rest (n, found, is, _) = found.1 ∙ ap (λ r. prefix ++ r) (sym is)

-- two lists that differ at a place
apart : {X : Type 0} (a b : List ℕ) (k : ℕ) → get_or a k 0 ≢ get_or b k 0 → a ≡ b → X
apart a b k other same = absurd (other (ap (λ l. get_or l k 0) same))

same_device : (a b : List ℕ) → codes "/dev/fd/" ++ a ≡ codes "/dev/fd/" ++ b → a ≡ b
same_device a b e = cc

same_process : (a b : List ℕ) → codes "/proc/self/fd/" ++ a ≡ codes "/proc/self/fd/" ++ b → a ≡ b
same_process a b e = cc

pub no_stream : {path : List ℕ} → path ≢ codes "/dev/stdout" → path ≢ codes "/dev/stderr"
    → FindsTextPrefix (codes "/dev/fd/") path None
    → FindsTextPrefix (codes "/proc/self/fd/") path None → NamesNoStream path
no_stream a b c d number standard_output = a refl
no_stream a b c d number standard_error = b refl
no_stream a b c d number (of_device few) = c (decimal number) refl
no_stream a b c d number (of_process few) = d (decimal number) refl

not_numbered_device : {path : List ℕ} (digits : List ℕ) → path ≡ codes "/dev/fd/" ++ digits
    → ((n : ℕ) → n < 2 ^ 32 → digits ≢ decimal n) → NamesNoStream path
not_numbered_device digits is none number standard_output =
    apart (codes "/dev/stdout") (codes "/dev/fd/" ++ digits) 5 (λ e. omega (arith, e)) is
not_numbered_device digits is none number standard_error =
    apart (codes "/dev/stderr") (codes "/dev/fd/" ++ digits) 5 (λ e. omega (arith, e)) is
not_numbered_device digits is none number (of_device few) =
    none number few (same_device digits (decimal number) (sym is))
not_numbered_device digits is none number (of_process few) =
    apart (codes "/proc/self/fd/" ++ decimal number) (codes "/dev/fd/" ++ digits) 1 (λ e. omega (arith, e)) is

not_numbered_process : {path : List ℕ} (digits : List ℕ) → path ≡ codes "/proc/self/fd/" ++ digits
    → ((n : ℕ) → n < 2 ^ 32 → digits ≢ decimal n) → NamesNoStream path
not_numbered_process digits is none number standard_output =
    apart (codes "/dev/stdout") (codes "/proc/self/fd/" ++ digits) 1 (λ e. omega (arith, e)) is
not_numbered_process digits is none number standard_error =
    apart (codes "/dev/stderr") (codes "/proc/self/fd/" ++ digits) 1 (λ e. omega (arith, e)) is
not_numbered_process digits is none number (of_device few) =
    apart (codes "/dev/fd/" ++ decimal number) (codes "/proc/self/fd/" ++ digits) 1 (λ e. omega (arith, e)) is
not_numbered_process digits is none number (of_process few) =
    none number few (same_process digits (decimal number) (sym is))

pub device_number : {path digits : List ℕ} (result : Option ℕ)
    → StripsPrefix (FindsTextPrefix (codes "/dev/fd/")) path digits
    → MatchOption result ((n : ℕ) → n < 2 ^ 32 → digits ≢ decimal n)
    (λ number. (number < 2 ^ 32) × (digits ≡ decimal number))
    → MatchOption result (NamesNoStream path) (λ number. NamesStream path number)
device_number {path} {digits} None strips none =
    not_numbered_device digits (begins (codes "/dev/fd/") path digits strips) none
device_number {path} {digits} (Some number) strips is =
    subst (λ p. NamesStream p number)
    (sym (begins (codes "/dev/fd/") path digits strips ∙ ap (λ d. codes "/dev/fd/" ++ d) is.1)) (of_device is.0)

pub process_number : {path digits : List ℕ} (result : Option ℕ)
    → StripsPrefix (FindsTextPrefix (codes "/proc/self/fd/")) path digits
    → MatchOption result ((n : ℕ) → n < 2 ^ 32 → digits ≢ decimal n)
    (λ number. (number < 2 ^ 32) × (digits ≡ decimal number))
    → MatchOption result (NamesNoStream path) (λ number. NamesStream path number)
process_number {path} {digits} None strips none =
    not_numbered_process digits (begins (codes "/proc/self/fd/") path digits strips) none
process_number {path} {digits} (Some number) strips is =
    subst (λ p. NamesStream p number)
    (sym (begins (codes "/proc/self/fd/") path digits strips ∙ ap (λ d. codes "/proc/self/fd/" ++ d) is.1))
    (of_process is.0)

-- a path is one of these names
pub names : (path : List ℕ) (number : ℕ) → NamesStream path number ↔
    (((path ≡ codes "/dev/stdout") × (number ≡ 1))
    ⊎ ((path ≡ codes "/dev/stderr") × (number ≡ 2))
    ⊎ ((number < 2 ^ 32) × (path ≡ codes "/dev/fd/" ++ decimal number))
    ⊎ ((number < 2 ^ 32) × (path ≡ codes "/proc/self/fd/" ++ decimal number)))
names path number = (is, by) where
  is : {p : List ℕ} {n : ℕ} → NamesStream p n
      → ((p ≡ codes "/dev/stdout") × (n ≡ 1)) ⊎ ((p ≡ codes "/dev/stderr") × (n ≡ 2))
      ⊎ ((n < 2 ^ 32) × (p ≡ codes "/dev/fd/" ++ decimal n))
      ⊎ ((n < 2 ^ 32) × (p ≡ codes "/proc/self/fd/" ++ decimal n))
  is standard_output = inl (refl, refl)
  is standard_error = inr (inl (refl, refl))
  is (of_device few) = inr (inr (inl (few, refl)))
  is (of_process few) = inr (inr (inr (few, refl)))

  by : ((path ≡ codes "/dev/stdout") × (number ≡ 1)) ⊎ ((path ≡ codes "/dev/stderr") × (number ≡ 2))
      ⊎ ((number < 2 ^ 32) × (path ≡ codes "/dev/fd/" ++ decimal number))
      ⊎ ((number < 2 ^ 32) × (path ≡ codes "/proc/self/fd/" ++ decimal number))
      → NamesStream path number
  by (inl it) = subst (λ p. NamesStream p number) (sym it.0)
      (subst (NamesStream (codes "/dev/stdout")) (sym it.1) standard_output)
  by (inr (inl it)) = subst (λ p. NamesStream p number) (sym it.0)
      (subst (NamesStream (codes "/dev/stderr")) (sym it.1) standard_error)
  by (inr (inr (inl it))) = subst (λ p. NamesStream p number) (sym it.1) (of_device it.0)
  by (inr (inr (inr it))) = subst (λ p. NamesStream p number) (sym it.1) (of_process it.0)

same_decimal : (m n : ℕ) → m < 2 ^ 32 → n < 2 ^ 32 → decimal m ≡ decimal n → m ≡ n
same_decimal m n few less e =
    sym (decimal_is_IsNumeral m (omega (arith, few))).1 ∙ ap (digits_value 10) e
    ∙ (decimal_is_IsNumeral n (omega (arith, less))).1

same_stream : {p q : List ℕ} {m n : ℕ} → NamesStream p m → NamesStream q n → p ≡ q → m ≡ n
same_stream standard_output standard_output e = refl
same_stream standard_output standard_error e =
    apart (codes "/dev/stdout") (codes "/dev/stderr") 8 (λ d. omega (arith, d)) e
same_stream standard_output (of_device {number} few) e =
    apart (codes "/dev/stdout") (codes "/dev/fd/" ++ decimal number) 5 (λ d. omega (arith, d)) e
same_stream standard_output (of_process {number} few) e =
    apart (codes "/dev/stdout") (codes "/proc/self/fd/" ++ decimal number) 1 (λ d. omega (arith, d)) e
same_stream standard_error standard_output e =
    apart (codes "/dev/stderr") (codes "/dev/stdout") 8 (λ d. omega (arith, d)) e
same_stream standard_error standard_error e = refl
same_stream standard_error (of_device {number} few) e =
    apart (codes "/dev/stderr") (codes "/dev/fd/" ++ decimal number) 5 (λ d. omega (arith, d)) e
same_stream standard_error (of_process {number} few) e =
    apart (codes "/dev/stderr") (codes "/proc/self/fd/" ++ decimal number) 1 (λ d. omega (arith, d)) e
same_stream (of_device {number} few) standard_output e =
    apart (codes "/dev/fd/" ++ decimal number) (codes "/dev/stdout") 5 (λ d. omega (arith, d)) e
same_stream (of_device {number} few) standard_error e =
    apart (codes "/dev/fd/" ++ decimal number) (codes "/dev/stderr") 5 (λ d. omega (arith, d)) e
same_stream (of_device {number = m} few) (of_device {number = n} less) e =
    same_decimal m n few less (same_device (decimal m) (decimal n) e)
same_stream (of_device {number = m} few) (of_process {number = n} less) e =
    apart (codes "/dev/fd/" ++ decimal m) (codes "/proc/self/fd/" ++ decimal n) 1 (λ d. omega (arith, d)) e
same_stream (of_process {number} few) standard_output e =
    apart (codes "/proc/self/fd/" ++ decimal number) (codes "/dev/stdout") 1 (λ d. omega (arith, d)) e
same_stream (of_process {number} few) standard_error e =
    apart (codes "/proc/self/fd/" ++ decimal number) (codes "/dev/stderr") 1 (λ d. omega (arith, d)) e
same_stream (of_process {number = m} few) (of_device {number = n} less) e =
    apart (codes "/proc/self/fd/" ++ decimal m) (codes "/dev/fd/" ++ decimal n) 1 (λ d. omega (arith, d)) e
same_stream (of_process {number = m} few) (of_process {number = n} less) e =
    same_decimal m n few less (same_process (decimal m) (decimal n) e)

pub one_stream : (path : List ℕ) (m n : ℕ) → NamesStream path m → NamesStream path n → m ≡ n
one_stream path m n first second = same_stream first second refl
