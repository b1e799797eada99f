-- Every byte string is a valid file or has a first fault.
use Rattle.mo_file.proofs.Prelude.{AreRisingBelow, BadMagic, BadRevision, Big, Equal, FileHeader, Greater, HasFault, HasFaultIn, HasMagicOf, HasStrings, IsChecked, IsFirstFault, IsHeader, IsMoFile, IsNotRising, IsOutside, IsUnterminated, Less, List, Little, MatchOption, Message, MoError, NoTerminator, None, NotSorted, Option, Order, Ordering, Some, StringOutside, TableOutside, TooShort, [], ap, arith, cases_lt, cond, end_at, index, inl, inr, key_cmp, key_of, kind, length, magic, message_count, messages_of, original_at, originals_table, refl, revision, subst, suc, sym, take, translations_table, unwrap_or, zero, ℕ, ⊎_elim, ◌*◌, ◌+◌, ◌-◌, ◌/◌, ◌<◌, ◌==◌, ◌∙◌, ◌∷◌, ◌≡◌, ◌≢◌, ◌≤◌, ◌⊎◌}
use Rattle.std.proofs.Common.{slice_get}

pub not_below : (a b : ℕ) → ¬ (a < b) → b ≤ a
not_below a b not = elim (cases_lt a b) [ inl below ↦ absurd (not below) | inr at ↦ omega (arith, at) ]

-- a file shows one byte order
pub HasMagicOf-unique : (bytes : List ℕ) (order order' : Order) → HasMagicOf order bytes → HasMagicOf order' bytes →
    order' ≡ order
HasMagicOf-unique bytes Little Little shows shows' = refl
HasMagicOf-unique bytes Big Big shows shows' = refl
HasMagicOf-unique bytes Little Big shows shows' = cc
HasMagicOf-unique bytes Big Little shows shows' = cc

-- faults after the magic number are those in the order that it shows
pub HasFaultIn-shown : (bytes : List ℕ) (order : Order) (f : MoError) → HasMagicOf order bytes →
    ((order' : Order) × HasMagicOf order' bytes × HasFaultIn order' bytes f) → HasFaultIn order bytes f
HasFaultIn-shown bytes order f shows fault =
    let P : Order → Type 0 = λ o. HasFaultIn o bytes f in
    subst P (HasMagicOf-unique bytes order fault.0 shows fault.1) fault.2

module _ (header : FileHeader) (bytes : List ℕ) (read : IsHeader header bytes)
    (strings : HasStrings header.order bytes) where
  of_shown : (f : MoError) → ((order' : Order) × HasMagicOf order' bytes × HasFaultIn order' bytes f) →
      HasFaultIn header.order bytes f
  of_shown f fault = HasFaultIn-shown bytes header.order f read.shows fault

  -- only keys are left to be faulty
  only_keys : (f : MoError) → HasFault bytes f →
      (i : ℕ) × (f ≡ NotSorted (i + 1)) × (i + 1 < header.count) × IsNotRising header.order bytes i
  only_keys TooShort has = absurd (omega (arith, read.long))
  only_keys BadMagic has = absurd (has header.order read.shows)
  only_keys BadRevision has = let fault = of_shown BadRevision has in absurd (omega (arith, read.known))
  only_keys TableOutside has =
      let fault = of_shown TableOutside has in
      absurd (grind (
        arith,
        read.count,
        read.originals,
        read.translations,
        read.originals_inside,
        read.translations_inside,
      ))
  only_keys (StringOutside k) has = let fault =
      of_shown (StringOutside k) has in absurd (strings.inside k fault.0 fault.1)
  only_keys (NoTerminator k) has = let fault =
      of_shown (NoTerminator k) has in absurd (strings.terminated k fault.0 fault.1)
  only_keys (NotSorted k) has =
      let fault = of_shown (NotSorted k) has in
      let inside : fault.0 + 1 < header.count = omega (arith, fault.1, fault.2, read.count) in
      (fault.0, ap NotSorted fault.1, inside, fault.3)

  -- the first key that isn't above the one before it is reported
  pub first_unsorted : (i : ℕ) → AreRisingBelow header.order bytes (i + 1) → i + 1 < header.count →
      IsNotRising header.order bytes i → IsFirstFault bytes (NotSorted (i + 1))
  first_unsorted i sorted inside unsorted = record {
    holds = (header.order, read.shows, (i, refl, omega (arith, read.count), unsorted));
    first = λ f before has.
        let fault = only_keys f has in
        let earlier = rw fault.1 at before in
        sorted fault.0 (elim earlier
        [ inl other_kind ↦ absurd (omega arith) | inr same_kind ↦ omega (arith, same_kind.1) ]) fault.3;
  }

  -- a file that has been checked has no fault
  pub faultless : AreRisingBelow header.order bytes header.count → (f : MoError) → ¬ HasFault bytes f
  faultless sorted f has = let fault = only_keys f has in sorted fault.0 fault.2 fault.3

-- a header that was read from a valid file is that of a file that has been checked
pub checked : (header : FileHeader) (bytes : List ℕ) (messages : List Message) → IsMoFile header.order bytes messages →
    header.count ≡ message_count header.order bytes → header.originals ≡ originals_table header.order bytes →
    header.translations ≡ translations_table header.order bytes → IsChecked header bytes
checked header bytes messages valid count originals translations =
    let none = valid.faultless in
    let shows = valid.shows in
    record {
      read = record {
        long = not_below _ _ (none TooShort);
        shows = shows;
        known = not_below _ _ (λ new. none BadRevision (header.order, shows, new));
        count = count;
        originals = originals;
        translations = translations;
        originals_inside =
            rw (count, originals) (not_below _ _ (λ outside. none TableOutside (header.order, shows, inl outside)));
        translations_inside =
            rw (count, translations) (not_below _ _ (λ outside. none TableOutside (header.order, shows, inr outside)));
      };
      strings = record {
        inside = λ i below outside. none (StringOutside i) (header.order, shows, (below, outside));
        terminated = λ i below unterminated. none (NoTerminator i) (header.order, shows, (below, unterminated));
      };
      sorted = λ i below unsorted.
          none (NotSorted (i + 1)) (header.order, shows, (i, refl, rw count at below, unsorted));
    }

-- the words at the beginning of a valid file, read in the byte order that is found, are those of a checked file
pub of-valid : (header : FileHeader) (bytes : List ℕ) (found : Option Order) →
    MatchOption found ((order : Order) → ¬ HasMagicOf order bytes) (λ order. HasMagicOf order bytes) →
    header.order ≡ unwrap_or found Big → header.count ≡ message_count header.order bytes →
    header.originals ≡ originals_table header.order bytes →
    header.translations ≡ translations_table header.order bytes → (order : Order) (messages : List Message) →
    IsMoFile order bytes messages → (header.order ≡ order) × IsChecked header bytes
of-valid header bytes None none same count originals translations order messages valid =
    absurd (none order valid.shows)
of-valid header bytes (Some o) shows same count originals translations order messages valid =
    let is = same ∙ HasMagicOf-unique bytes order o valid.shows shows in (
      is,
      checked header bytes messages
          (subst (λ o. IsMoFile o bytes messages) (sym is) valid) count originals translations,
    )

-- Every byte string is a valid file or has a first fault.

-- a fact holds or it doesn't
abbrev Settled : Type 0 → Type 0
Settled P = P ⊎ (P → ⊥)

either : {P Q : Type 0} → Settled P → Settled Q → Settled (P ⊎ Q)
either (inl p) q = inl (inl p)
either (inr p) (inl q) = inl (inr q)
either (inr p) (inr q) = inr (λ both. ⊎_elim p q both)

below_settled : (a b : ℕ) → Settled (a < b)
below_settled a b = elim (cases_lt a b) [ inl less ↦ inl less | inr more ↦ inr (λ less. absurd (omega arith)) ]

same_settled : (xs ys : List ℕ) → Settled (xs ≡ ys)
same_settled [] [] = inl refl
same_settled [] (y ∷ ys) = inr (λ e. cc)
same_settled (x ∷ xs) [] = inr (λ e. cc)
same_settled (x ∷ xs) (y ∷ ys) = elim (cases_lt x y) [
  | inl less ↦ inr (λ e. let same : x ≡ y = cc in absurd (omega arith))
  | inr more ↦ elim (cases_lt y x) [
    | inl less ↦ inr (λ e. let same : x ≡ y = cc in absurd (omega arith))
    | inr least ↦
        let head : x ≡ y = omega arith in
        elim (same_settled xs ys) [
          | inl tail ↦ inl cc
          | inr tail ↦ inr (λ e. let rest : xs ≡ ys = cc in tail rest)
        ]
  ]
]

zero_settled : (byte : Option ℕ) → Settled (byte ≢ Some 0)
zero_settled None = inl (λ e. cc)
zero_settled (Some b) = elim (cases_lt 0 b) [
  | inl more ↦ inl (λ e. let zero : b ≡ 0 = cc in absurd (omega arith))
  | inr none ↦ inr (λ other. other (ap (λ (n : ℕ). Some n) (let zero : b ≡ 0 = omega arith in zero)))
]

less_settled : (o : Ordering) → Settled (o ≢ Less)
less_settled Less = inr (λ other. other refl)
less_settled Equal = inl (λ e. cc)
less_settled Greater = inl (λ e. cc)

-- the first index below n at which P holds, or none
abbrev FirstBelow : (ℕ → Type 0) → ℕ → Type 0
FirstBelow P n = ((k : ℕ) → k < n → P k → ⊥) ⊎ ((i : ℕ) × (i < n) × P i × ((k : ℕ) → k < i → P k → ⊥))

first_below : (P : ℕ → Type 0) → ((k : ℕ) → Settled (P k)) → (n : ℕ) → FirstBelow P n
first_below P each zero = inl (λ k inside. absurd (omega arith))
first_below P each (suc n) = elim (first_below P each n) [
  | inr first ↦ inr (first.0, omega (arith, first.1), first.2, first.3)
  | inl none ↦ elim (each n) [
    | inl here ↦ inr (n, omega arith, here, none)
    | inr not_here ↦
        inl (λ k inside p. elim (cases_lt k n) [
          | inl less ↦ none k less p
          | inr last ↦ let same : k ≡ n = omega arith in not_here (subst P same p)
        ])
  ]
]

-- the fault of a kind at an index
abbrev fault_of : ℕ → ℕ → MoError
fault_of k i =
    cond (k == 1) TooShort (cond (k == 2) BadMagic (cond (k == 3) BadRevision (cond (k == 4) TableOutside
    (cond (k == 5) (StringOutside i) (cond (k == 6) (NoTerminator i) (NotSorted i))))))

named : (f : MoError) → fault_of (kind f) (index f) ≡ f
named TooShort = refl
named BadMagic = refl
named BadRevision = refl
named TableOutside = refl
named (StringOutside i) = refl
named (NoTerminator i) = refl
named (NotSorted i) = refl

kind_within : (f : MoError) → (0 < kind f) × (kind f < 8)
kind_within TooShort = (omega arith, omega arith)
kind_within BadMagic = (omega arith, omega arith)
kind_within BadRevision = (omega arith, omega arith)
kind_within TableOutside = (omega arith, omega arith)
kind_within (StringOutside i) = (omega arith, omega arith)
kind_within (NoTerminator i) = (omega arith, omega arith)
kind_within (NotSorted i) = (omega arith, omega arith)

-- bytes have no fault of a kind below this one
record Clear (bytes : List ℕ) (k : ℕ) : Type 0 where
  none : (f : MoError) → kind f < k → ¬ HasFault bytes f

same_kind : (bytes : List ℕ) (f : MoError) (k : ℕ) → kind f ≡ k → HasFault bytes f
    → HasFault bytes (fault_of k (index f))
same_kind bytes f k e has =
    let Has : MoError → Type 0 = λ f. HasFault bytes f in
    subst Has (sym (named f) ∙ ap (λ j. fault_of j (index f)) e) has

clear_one : (bytes : List ℕ) → Clear bytes 1
clear_one bytes = record { none = λ f less has. absurd (omega (arith, (kind_within f).0)) }

clear_more : (bytes : List ℕ) (k : ℕ) → Clear bytes k → ((i : ℕ) → ¬ HasFault bytes (fault_of k i))
    → Clear bytes (k + 1)
clear_more bytes k clear none = record {
  none = λ f less has. elim (cases_lt (kind f) k) [
    | inl before ↦ clear.none f before has
    | inr other ↦ none (index f) (same_kind bytes f k (omega arith) has)
  ];
}

is_first : (bytes : List ℕ) (e : MoError) → Clear bytes (kind e)
    → ((i : ℕ) → i < index e → ¬ HasFault bytes (fault_of (kind e) i)) → HasFault bytes e
    → IsFirstFault bytes e
is_first bytes e clear least holds = record {
  holds = holds;
  first = λ f before has. elim before [
    | inl less ↦ clear.none f less has
    | inr same ↦ least (index f) same.1 (same_kind bytes f (kind e) same.0 has)
  ];
}

-- a valid file, or a first fault
abbrev MoFileOrFaultOf : List ℕ → Type 0
MoFileOrFaultOf bytes = ((order : Order) × (messages : List Message) × IsMoFile order bytes messages)
    ⊎ ((fault : MoError) × IsFirstFault bytes fault)

module _ (bytes : List ℕ) (order : Order) (shows : HasMagicOf order bytes) where
  shown : (f : MoError) → ((order' : Order) × HasMagicOf order' bytes × HasFaultIn order' bytes f)
      → HasFaultIn order bytes f
  shown f has = HasFaultIn-shown bytes order f shows has

  outside_settled : (i : ℕ) → Settled (IsOutside order bytes i)
  outside_settled i =
      either (below_settled (length bytes) (end_at order bytes (originals_table order bytes) i))
      (below_settled (length bytes) (end_at order bytes (translations_table order bytes) i))

  unterminated_settled : (i : ℕ) → Settled (IsUnterminated order bytes i)
  unterminated_settled i =
      either (zero_settled (slice_get bytes (end_at order bytes (originals_table order bytes) i)))
      (zero_settled (slice_get bytes (end_at order bytes (translations_table order bytes) i)))

  unsorted_settled : (i : ℕ) → Settled (IsNotRising order bytes i)
  unsorted_settled i = less_settled
      (key_cmp (key_of (original_at order bytes i)) (key_of (original_at order bytes (i + 1))))

  valid : Clear bytes 8 → MoFileOrFaultOf bytes
  valid clear = inl (
    order,
    messages_of order bytes,
    record { shows = shows; faultless = λ f. clear.none f (kind_within f).1; lists = refl },
  )

  sorted : Clear bytes 7 → MoFileOrFaultOf bytes
  sorted clear = elim (first_below (λ i. IsNotRising order bytes i) unsorted_settled (message_count order bytes - 1)) [
    | inl none ↦
        valid (clear_more bytes 7 clear
        (λ i has. let fault = shown (NotSorted i) has in none fault.0 (omega (arith, fault.1, fault.2)) fault.3))
    | inr first ↦
        inr (
          NotSorted (first.0 + 1),
          is_first bytes (NotSorted (first.0 + 1)) clear
              (λ j less has. let fault = shown (NotSorted j) has in
              first.3 fault.0 (omega (arith, fault.1, less)) fault.3)
              (order, shows, (first.0, refl, omega (arith, first.1), first.2)),
        )
  ]

  terminated : Clear bytes 6 → MoFileOrFaultOf bytes
  terminated clear = elim (first_below (λ i. IsUnterminated order bytes i) unterminated_settled
      (message_count order bytes)) [
        | inl none ↦ sorted (clear_more bytes 6 clear
            (λ i has. let fault = shown (NoTerminator i) has in none i fault.0 fault.1))
        | inr first ↦
            inr (
              NoTerminator first.0,
              is_first bytes (NoTerminator first.0) clear (λ j less has. first.3 j less (shown (NoTerminator j) has).1)
                  (order, shows, (first.1, first.2)),
            )
      ]

  inside : Clear bytes 5 → MoFileOrFaultOf bytes
  inside clear = elim (first_below (λ i. IsOutside order bytes i) outside_settled (message_count order bytes)) [
    | inl none ↦ terminated (clear_more bytes 5 clear
        (λ i has. let fault = shown (StringOutside i) has in none i fault.0 fault.1))
    | inr first ↦
        inr (
          StringOutside first.0,
          is_first bytes (StringOutside first.0) clear (λ j less has. first.3 j less (shown (StringOutside j) has).1)
              (order, shows, (first.1, first.2)),
        )
  ]

  tables : Clear bytes 4 → MoFileOrFaultOf bytes
  tables clear = elim (
      either (below_settled (length bytes) (originals_table order bytes + 8 * message_count order bytes))
      (below_settled (length bytes) (translations_table order bytes + 8 * message_count order bytes))
      ) [
        | inl fault ↦ inr (
          TableOutside,
          is_first bytes TableOutside clear (λ j less has. absurd (omega arith)) (order, shows, fault),
        )
        | inr none ↦ inside (clear_more bytes 4 clear (λ i has. none (shown TableOutside has)))
      ]

  known : Clear bytes 3 → MoFileOrFaultOf bytes
  known clear = elim (below_settled 1 (revision order bytes / 65536)) [
    | inl fault ↦ inr (
      BadRevision,
      is_first bytes BadRevision clear (λ j less has. absurd (omega arith)) (order, shows, fault),
    )
    | inr none ↦ tables (clear_more bytes 3 clear (λ i has. none (shown BadRevision has)))
  ]

no_magic : (bytes : List ℕ) → (HasMagicOf Little bytes → ⊥) → (HasMagicOf Big bytes → ⊥) → HasFault bytes BadMagic
no_magic bytes little big Little = little
no_magic bytes little big Big = big

magical : (bytes : List ℕ) → Clear bytes 2 → MoFileOrFaultOf bytes
magical bytes clear = elim (same_settled (take 4 bytes) (magic Little)) [
  | inl little ↦ known bytes Little little (clear_more bytes 2 clear (λ i has. has Little little))
  | inr not_little ↦ elim (same_settled (take 4 bytes) (magic Big)) [
    | inl big ↦ known bytes Big big (clear_more bytes 2 clear (λ i has. has Big big))
    | inr not_big ↦
        inr (
          BadMagic,
          is_first bytes BadMagic clear (λ j less has. absurd (omega arith))
              (no_magic bytes not_little not_big),
        )
  ]
]

pub mo_file_or_fault : (bytes : List ℕ) → MoFileOrFaultOf bytes
mo_file_or_fault bytes = elim (below_settled (length bytes) 28) [
  | inl short ↦ inr (TooShort, is_first bytes TooShort (clear_one bytes) (λ j less has. absurd (omega arith)) short)
  | inr long ↦ magical bytes (clear_more bytes 1 (clear_one bytes) (λ i has. long has))
]
