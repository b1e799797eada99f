-- What a user may do with a file ("File Mode Bits" of the GNU coreutils manual), and what it means
-- that new rights give nobody more than old ones.
use Rattle.std.specs.Prelude.{◌≡◌, ◌≢◌, ◌^◌, ◌<◌, ◌%◌, ◌==◌, ℕ, Bool, Option, Some, None, if◌then◌else◌, ⊤}
use Rattle.std.specs.Int.{bit_at}
use Rattle.runs.specs.declared.output_files.Owner.{Owner}
use Rattle.runs.specs.declared.output_files.Rights.{Rights}

-- what is done with a file
pub data Deed : Type 0 where
  reads : Deed
  writes : Deed
  runs : Deed

-- for whom a mode says what may be done
pub data Class : Type 0 where
  its_owner : Class
  its_group : Class
  others : Class

-- the bit of a mode by which a class may do it
abbrev pub bit_for : Class → Deed → ℕ
bit_for its_owner reads = 8
bit_for its_owner writes = 7
bit_for its_owner runs = 6
bit_for its_group reads = 5
bit_for its_group writes = 4
bit_for its_group runs = 3
bit_for others reads = 2
bit_for others writes = 1
bit_for others runs = 0

-- a user of the system
pub record User : Type 0 where
  pub number : ℕ
  pub is_in : ℕ → Bool

-- the class of a user, by whose the file is
abbrev pub class_of : User → Owner → Class
class_of user owner =
    if user.number == owner.user then its_owner else (if user.is_in owner.group then its_group else others)

-- the user may do it with a file that has these rights
abbrev pub May : User → Rights → Deed → Type 0
May user rights deed = bit_at rights.mode (bit_for (class_of user rights.owner) deed) ≡ 1

-- the file is this one's, as far as it is known whose it is
abbrev pub IsWhose : Option Owner → Owner → Type 0
IsWhose None owner = ⊤
IsWhose (Some known) owner = owner ≡ known

-- the new rights give nobody more than the old ones but the two owners: a file isn't run as another,
-- and where it is another's, others may not write it
pub record GivesNobodyMore (old new : Rights) : Type 0 where
  pub users : (user : User) (deed : Deed) → user.number ≢ old.owner.user → user.number ≢ new.owner.user
      → May user new deed → May user old deed
  pub set_ids : new.mode < 2 ^ 9
  pub others : new.owner ≢ old.owner → bit_at new.mode (bit_for others writes) ≡ 0

-- the mode of a new file keeps what it may: its owner's bits; where its group is the same, the group's,
-- and but for writing those of others; and where it is another, what both might, but for writing
pub record KeepsRights (old : Rights) (owner : Owner) (mode : ℕ) : Type 0 where
  pub of_owner : (deed : Deed) → bit_at mode (bit_for its_owner deed) ≡ bit_at old.mode (bit_for its_owner deed)
  pub of_group : owner.group ≡ old.owner.group
      → (deed : Deed) → bit_at mode (bit_for its_group deed) ≡ bit_at old.mode (bit_for its_group deed)
  pub of_others : owner.group ≡ old.owner.group → (deed : Deed) → deed ≢ writes
      → bit_at mode (bit_for others deed) ≡ bit_at old.mode (bit_for others deed)
  pub of_both : (class : Class) (deed : Deed) → class ≢ its_owner → deed ≢ writes
      → bit_at old.mode (bit_for its_group deed) ≡ 1 → bit_at old.mode (bit_for others deed) ≡ 1
      → bit_at mode (bit_for class deed) ≡ 1
  -- where it is all the old owner's, all nine bits
  pub of_all : owner ≡ old.owner → mode ≡ old.mode % 2 ^ 9
