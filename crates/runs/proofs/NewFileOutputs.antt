-- An output that a new file takes is there whole, or as it was, and gives nobody more than before.
use Rattle.runs.proofs.Prelude.{Among, CannotCreate, Course, Destination, Each, Exists, Failed, FileCall, Files, Fills, Finishes, FitsKind, Forbidden, GivesAll, GivesNoMore, GivesNobodyMore, GivesNothingAway, HasRights, IsAllowed, IsBeside, IsNoLink, IsReplaceable, IsWholeOrAsItWas, IsWholeOrAsItWasThroughout, IsWhose, IsWrittenInPlace, KeepsMode, Leads, List, None, Option, OutOfMemory, OutputFault, Owner, PathState, Puts, Regular, Replaces, Rights, Some, Special, Unknown, WriteFault, WritesFile, WritesInPlace, WritesStream, [], after, all_taken, along, ap, asks, beside, closes, cut, failed, fails, fails_to_make, fails_to_read_link, false, fault_of, file, file_at, first_mode, follows, forbidden, in_place, inl, inr, kept_mode, lacking, late, link, made as makes_file, makes, no_memory, nothing, numbers, opened as opens_file, put, reads_link, refl, removes, renames, replaced, replaces, replaces_none, rules, sets_mode, sets_owner, special, stops, stream, stream_of, subst, sym, taken, to_stream, too_long, true, unknown, unmoved, unnamed, unopened, unput, unwritten, whole, with_bytes, with_mode, with_owner, with_rights, without_rights, ℕ, ◌∙◌, ◌≡◌, ◌≢◌, ◌⊎◌, ◌▸◌}
use Rattle.runs.specs.OutputFiles.{done}
use Rattle.runs.proofs.OutputsInPlace.{Ends, as_it_was, idle, next, no_fault, nothing_given, put_elsewhere, put_there, same_or_other, same_path, stop, stopped, taken_all, writes_in_place, writes_stream}
use Rattle.runs.proofs.KeptRights.{nobody_gets_more, private_gives_nobody_more}
use Rattle.runs.specs.OutputWriting.{put as all_put, taken as stream_taken, unread}
use Rattle.runs.specs.Laws.{forbidden as is_forbidden, special as is_special}
use Rattle.runs.specs.FilesAfterCalls.{to_file}
use Rattle.runs.proofs.Paths.{beside_is_another}

-- a file has no other rights than its own
modest_of : (old : PathState) {state : PathState} {bytes : Option (List ℕ)} {mode m : ℕ} {owner o : Option Owner}
    → HasRights state m o
    → state ≡ file bytes mode owner → GivesNoMore old mode owner → GivesNoMore old m o
modest_of old {bytes} {mode} {m} {owner} {o} has there modest =
    let e : file has.0 m o ≡ file bytes mode owner = sym has.1 ∙ there in
    let same_mode : m ≡ mode = cc in
    let same_owner : o ≡ owner = cc in
    rw (same_mode, same_owner) modest

-- a new file is filled, beside the target
module _ {new target : List ℕ} (files : Files) (none : files.at new ≡ nothing) (other_name : new ≢ target) where
  -- while it is open only its path has changed
  filling : (List ℕ → PathState) → Files
  filling at = record { at = at; streams = files.streams; opened = file_at new }

  record IsFilling (at : List ℕ → PathState) (bytes : Option (List ℕ)) (mode : ℕ) (owner : Option Owner) : Type 0 where
    elsewhere : (path : List ℕ) → path ≢ new → at path ≡ files.at path
    there : at new ≡ file bytes mode owner
    modest : GivesNoMore (files.at target) mode owner

  module _ {at : List ℕ → PathState} {bytes : Option (List ℕ)} {mode : ℕ} {owner : Option Owner}
      (it : IsFilling at bytes mode owner) where
    only_new : {output : List ℕ} → IsWholeOrAsItWas output (file_at target) files (filling at)
    unfolding filling
    only_new path = elim (same_or_other path new) [
      | inl is ↦ inr (inr ((λ same. other_name (sym is ∙ sym (same_path same))), ap files.at is ∙ none))
      | inr other ↦ inl (it.elsewhere path other)
    ]

    little_given : GivesNothingAway (file_at target) files (filling at)
    unfolding filling
    little_given path m o has = elim (same_or_other path new) [
      | inl is ↦ inr (target, refl, modest_of (files.at target) has (ap at is ∙ it.there) it.modest)
      | inr other ↦ inl (subst (λ s. HasRights s m o) (it.elsewhere path other) has)
    ]

    -- the new file is changed
    changed : (change : PathState → PathState) {bytes' : Option (List ℕ)} {mode' : ℕ} {owner' : Option Owner}
        → change (file bytes mode owner) ≡ file bytes' mode' owner' → GivesNoMore (files.at target) mode' owner'
        → IsFilling (put new (change (at new)) at) bytes' mode' owner'
    changed change is modest = record {
      elsewhere = λ path other. put_elsewhere new (change (at new)) at other ∙ it.elsewhere path other;
      there = put_there new (change (at new)) at refl ∙ ap change it.there ∙ is;
      modest = modest;
    }

    gone : (path : List ℕ) → put new nothing at path ≡ files.at path
    gone path = elim (same_or_other path new) [
      | inl is ↦ put_there new nothing at is ∙ sym (ap files.at is ∙ none)
      | inr other ↦ put_elsewhere new nothing at other ∙ it.elsewhere path other
    ]

    -- it is removed
    removed : {output : List ℕ} (why : OutputFault)
        → Ends output (file_at target) files (removes new ▸ fails why) (filling at)
    unfolding filling
    removed why = next (removes new) only_new little_given (stopped why gone (λ number. refl))

  -- it gets the path of the target
  module _ {output : List ℕ} {at : List ℕ → PathState} {mode : ℕ} {owner : Option Owner}
      (it : IsFilling at (Some output) mode owner)
      (kept : KeepsMode (files.at target) (file (Some output) mode owner)) where
    renamed_at : List ℕ → PathState
    renamed_at = put target (at new) (put new nothing at)

    renamed_there : {path : List ℕ} → path ≡ target → renamed_at path ≡ file (Some output) mode owner
    unfolding renamed_at
    renamed_there is = put_there target (at new) (put new nothing at) is ∙ it.there

    renamed_elsewhere : (path : List ℕ) → path ≢ target → renamed_at path ≡ files.at path
    unfolding renamed_at
    renamed_elsewhere path other = put_elsewhere target (at new) (put new nothing at) other ∙ gone it path

    renamed : Ends output (file_at target) files (renames new target true ▸ done) (filling at)
    unfolding filling renamed_at
    renamed = next (renames new target true) (only_new it) (little_given it) (record {
      whole_or_as_it_was = λ no path. elim (same_or_other path target) [
        | inl is ↦ inr (inl (ap file_at (sym is), (mode, owner, renamed_there is)))
        | inr other ↦ inl (renamed_elsewhere path other)
      ];
      nothing_given_away = λ path m o has. elim (same_or_other path target) [
        | inl is ↦ inr (target, refl, modest_of (files.at target) has (renamed_there is) it.modest)
        | inr other ↦ inl (subst (λ s. HasRights s m o) (renamed_elsewhere path other) has)
      ];
      success = λ fine. (mode, owner, renamed_there refl);
      mode = λ path is fine no.
          subst (λ q. KeepsMode (files.at q) (renamed_at q)) (same_path is)
          (subst (KeepsMode (files.at target)) (sym (renamed_there refl)) kept);
      fault = λ no bad. absurd (bad refl);
      other_paths = λ path other. renamed_elsewhere path (λ same. other (ap file_at (sym same)));
      other_streams = λ number other. refl;
    })

  -- it gets all of the output, and then the path
  finishes : {output : List ℕ} {at : List ℕ → PathState} {bytes : Option (List ℕ)} {mode : ℕ} {owner : Option Owner}
      {before : Option (List ℕ)} {rest : Course}
      → IsFilling at bytes mode owner → KeepsMode (files.at target) (file (Some output) mode owner) → before ≡ Some []
      → Finishes output (record { path = new; target = target; made = before }) rest
      → Ends output (file_at target) files rest (filling at)
  unfolding filling
  finishes {at} {mode} {owner} it kept empty (replaced (whole {after = its} all)) =
      let full = changed it (with_bytes its) (ap (λ b. file b mode owner) (taken_all its all empty)) it.modest in
      next (closes its 0 true) (only_new it) (little_given it) (renamed full kept)
  finishes {at} {mode} {owner} it kept empty (unmoved (whole {after = its} all)) =
      let full = changed it (with_bytes its) (ap (λ b. file b mode owner) (taken_all its all empty)) it.modest in
      next (closes its 0 true) (only_new it) (little_given it)
      (next (renames new target false) (only_new full) (little_given full) (removed full CannotCreate))
  finishes it kept empty (unwritten (cut {after = its} {closed} all)) =
      next (closes its 1 closed) (only_new it) (little_given it)
      (removed (changed it (with_bytes None) refl it.modest) WriteFault)
  finishes it kept empty (unwritten (late {after = its} all)) =
      next (closes its 0 false) (only_new it) (little_given it)
      (removed (changed it (with_bytes None) refl it.modest) WriteFault)

  just_made : (mode : ℕ) → GivesNoMore (files.at target) mode None
      → IsFilling (put new (file None mode None) files.at) None mode None
  just_made mode modest = record {
    elsewhere = λ path other. put_elsewhere new (file None mode None) files.at other;
    there = put_there new (file None mode None) files.at refl;
    modest = modest;
  }

-- the target, as it was asked for
abbrev pub IsAsked : Option Rights → PathState → Type 0
IsAsked None state = state ≡ nothing
IsAsked (Some old) state = HasRights state old.mode (Some old.owner)

pub is_asked : (old : Option Rights) (state : PathState) → FitsKind (Regular old) state → IsNoLink state
    → IsAsked old state
is_asked None nothing fits plain = fits
is_asked None (link text) fits plain = absurd plain
is_asked None (file bytes mode owner) fits plain = fits
is_asked (Some old) nothing fits plain = fits
is_asked (Some old) (link text) fits plain = absurd plain
is_asked (Some old) (file bytes mode owner) fits plain = fits

-- what new rights are, by what was there
modest_after : {old : Rights} (mode : ℕ) (owner : Option Owner) {state : PathState} → IsAsked (Some old) state
    → ((whose : Owner) → IsWhose owner whose → GivesNobodyMore old (record { mode = mode; owner = whose }))
    → GivesNoMore state mode owner
modest_after mode owner asked nobody = subst (λ s. GivesNoMore s mode owner) (sym asked.1) nobody

kept_after : {old : Rights} (bytes : Option (List ℕ)) (owner : Option Owner) {state : PathState}
    → IsAsked (Some old) state
    → KeepsMode state (file bytes (kept_mode old owner) owner)
kept_after {old} bytes owner asked =
    subst (λ s. KeepsMode s (file bytes (kept_mode old owner) owner)) (sym asked.1) refl

pub fills : {output new target : List ℕ} {before : Option (List ℕ)} {old : Option Rights} {rest : Course}
    (files : Files)
    → files.at new ≡ nothing → new ≢ target → IsAsked old (files.at target) → before ≡ Some []
    → Fills output (record { path = new; target = target; made = before }) old rest
    → Ends output (file_at target) files (makes new (first_mode old) before ▸ rest) files
unfolding filling
fills {output} {new} {target} {before} files none other asked empty (replaces_none finishing) =
    let made : IsFilling files none other (put new (file None 0o666 None) files.at) None 0o666 None =
    just_made files none other 0o666 (subst (λ s. GivesNoMore s 0o666 None) (sym asked) refl) in
    next (makes new 0o666 before) (as_it_was files files (λ path. refl)) (nothing_given files files (λ path. refl))
    (finishes files none other made
    (subst (λ s. KeepsMode s (file (Some output) 0o666 None)) (sym asked) refl) empty finishing)
fills {output} {new} {target} {before} files none other asked empty (with_rights {old} {owner} finishing) =
    let made = just_made files none other 0o600
    (modest_after 0o600 None asked (λ whose is. private_gives_nobody_more old whose)) in
    let owned = changed files none other made (with_owner owner) refl
    (modest_after 0o600 owner asked (λ whose is. private_gives_nobody_more old whose)) in
    let kept = changed files none other owned (with_mode (kept_mode old owner)) refl
    (modest_after (kept_mode old owner) owner asked (nobody_gets_more old owner)) in
    next (makes new 0o600 before) (as_it_was files files (λ path. refl)) (nothing_given files files (λ path. refl))
    (next (sets_owner old.owner owner) (only_new files none other made) (little_given files none other made)
    (next (sets_mode (kept_mode old owner) true) (only_new files none other owned) (little_given files none other owned)
    (finishes files none other kept (kept_after (Some output) owner asked) empty finishing)))
fills {new} {target} {before} files none other asked empty (without_rights {old} {owner}) =
    let made = just_made files none other 0o600
    (modest_after 0o600 None asked (λ whose is. private_gives_nobody_more old whose)) in
    let owned = changed files none other made (with_owner owner) refl
    (modest_after 0o600 owner asked (λ whose is. private_gives_nobody_more old whose)) in
    next (makes new 0o600 before) (as_it_was files files (λ path. refl)) (nothing_given files files (λ path. refl))
    (next (sets_owner old.owner owner) (only_new files none other made) (little_given files none other made)
    (next (sets_mode (kept_mode old owner) false) (only_new files none other owned)
    (little_given files none other owned)
    (removed files none other owned CannotCreate)))

-- An output file is there whole, or as it was, and gives nobody more than before.

-- the target is replaced, or written in place where no file may be made beside it
replaces_target : {output target : List ℕ} {old : Option Rights} {tries : ℕ} {course : Course} (files : Files)
    → IsAsked old (files.at target) → GivesAll course files → Replaces output target old tries course
    → Ends output (file_at target) files course files
replaces_target files asked gives (unnamed {number}) = idle (numbers number) refl (stop OutOfMemory)
replaces_target {target} files asked gives (makes_file {number} few filled) =
    idle (numbers number) refl
    (fills files gives.1.0.0 (beside_is_another number few target) asked gives.1.0.1 filled)
replaces_target {target} {old} files asked gives (taken {number} rest) =
    idle (numbers number) refl
    (idle (fails_to_make (beside target number) (first_mode old) Exists) refl
    (replaces_target files asked gives.1.1 rest))
replaces_target {target} {old} files asked gives (all_taken {number}) =
    idle (numbers number) refl
    (idle (fails_to_make (beside target number) (first_mode old) Exists) refl (stop CannotCreate))
replaces_target {target} files asked gives (in_place {old} {number} writes) =
    idle (numbers number) refl
    (idle (fails_to_make (beside target number) (first_mode (Some old)) Forbidden) refl
    (writes_in_place files gives.1.1 writes))
replaces_target {target} files asked gives (forbidden {number}) =
    idle (numbers number) refl
    (idle (fails_to_make (beside target number) (first_mode None) Forbidden) refl (stop CannotCreate))
replaces_target {target} {old} files asked gives (failed {number}) =
    idle (numbers number) refl
    (idle (fails_to_make (beside target number) (first_mode old) Failed) refl (stop CannotCreate))

-- what each call may do
module _ (to : Destination) (around : Course) where
  puts_allowed : {output : List ℕ} {before : Option (List ℕ)} {rest : Course} → Puts output before rest
      → Each (IsAllowed to around) rest
  puts_allowed (all_put (whole all)) = (tt, tt)
  puts_allowed (unput (cut all)) = (tt, tt)
  puts_allowed (unput (late all)) = (tt, tt)

  in_place_allowed : {output path : List ℕ} {rest : Course} → to ≡ file_at path → IsWrittenInPlace path around
      → WritesInPlace output path rest → Each (IsAllowed to around) rest
  in_place_allowed is may unopened = (tt, tt)
  in_place_allowed is may (opens_file puts) = ((is, may), puts_allowed puts)

  stream_allowed : {output : List ℕ} {number : ℕ} {rest : Course} → to ≡ stream_of number
      → WritesStream output number rest
      → Each (IsAllowed to around) rest
  stream_allowed is lacking = (tt, tt)
  stream_allowed is (stream_taken puts) = (is, puts_allowed puts)

  module _ {output new target : List ℕ} {before : Option (List ℕ)} (is : to ≡ file_at target)
      (beside_it : IsBeside new target)
      (replaceable : IsReplaceable target around) where
    finish_allowed : {rest : Course} → Finishes output (record { path = new; target = target; made = before }) rest
        → Each (IsAllowed to around) rest
    finish_allowed (replaced (whole all)) = (tt, ((is, beside_it, replaceable), tt))
    finish_allowed (unmoved (whole all)) = (tt, ((is, beside_it, replaceable), ((target, is, beside_it), tt)))
    finish_allowed (unwritten (cut all)) = (tt, ((target, is, beside_it), tt))
    finish_allowed (unwritten (late all)) = (tt, ((target, is, beside_it), tt))

    fill_allowed : {old : Option Rights} {rest : Course}
        → Fills output (record { path = new; target = target; made = before }) old rest
        → Each (IsAllowed to around) rest
    fill_allowed (replaces_none finishing) = finish_allowed finishing
    fill_allowed (with_rights finishing) = (tt, (tt, finish_allowed finishing))
    fill_allowed without_rights = (tt, (tt, ((target, is, beside_it), tt)))

  replaces_allowed : {output target : List ℕ} {old : Option Rights} {tries : ℕ} {course : Course} → to ≡ file_at target
      → IsReplaceable target around → Among around (asks target (Regular old))
      → ((call : FileCall) → Among course call → Among around call) → Replaces output target old tries course
      → Each (IsAllowed to around) course
  replaces_allowed is replaceable asked inside unnamed = (tt, tt)
  replaces_allowed {target} is replaceable asked inside (makes_file few filled) =
      (tt, ((target, is, (_, refl)), fill_allowed is (_, refl) replaceable filled))
  replaces_allowed is replaceable asked inside (taken rest) =
      (tt, (tt, replaces_allowed is replaceable asked (λ call among. inside call (inr (inr among))) rest))
  replaces_allowed is replaceable asked inside all_taken = (tt, (tt, tt))
  replaces_allowed is replaceable asked inside (in_place {old} writes) =
      (tt, (tt, in_place_allowed is (is_forbidden old _ _ asked (_, refl) (inside _ (inr (inl refl)))) writes))
  replaces_allowed is replaceable asked inside forbidden = (tt, (tt, tt))
  replaces_allowed is replaceable asked inside failed = (tt, (tt, tt))

no_link_there : {state : PathState} {mode : ℕ} {owner : Option Owner} → HasRights state mode owner → IsNoLink state
no_link_there has = subst IsNoLink (sym has.1) tt

record Follows (output path : List ℕ) (around course : Course) : Type 0 where
  to : Destination
  leads : (files : Files) → GivesAll course files
      → Leads files path to ⊎ ((fault_of course ≢ None) × (after course files ≡ files))
  allowed : Each (IsAllowed to around) course
  ends : (files : Files) → GivesAll course files → Ends output to files course files

-- where the path leads isn't found
halts : {output path : List ℕ} {around course : Course} → fault_of course ≢ None
    → ((files : Files) → after course files ≡ files)
    → Each (IsAllowed (file_at path) around) course → ((files : Files) → Ends output (file_at path) files course files)
    → Follows output path around course
halts {path} bad same allowed ends =
    record {
      to = file_at path;
      leads = λ files gives. inr (bad, same files);
      allowed = allowed;
      ends =
          λ files gives. ends files;
    }

follows_links : {output path : List ℕ} {links : ℕ} {around course : Course}
    → ((call : FileCall) → Among course call → Among around call)
    → WritesFile output links path course → Follows output path around course
follows_links {around} inside (stream {number} names writes) = record {
  to = stream_of number;
  leads = λ files gives. inl (to_stream names);
  allowed = stream_allowed (stream_of number) around refl writes;
  ends = λ files gives. writes_stream files gives writes;
}
follows_links {path} inside (stops none unknown) =
    halts (λ e. no_fault e) (λ files. refl) (tt, tt) (λ files. idle (asks path Unknown) refl (stop CannotCreate))
follows_links {path} inside (stops none (unread {old} {why})) =
    halts (λ e. no_fault e) (λ files. refl) (tt, (tt, tt))
    (λ files. idle (asks path (Regular old)) refl (idle (fails_to_read_link path why) refl (stop why)))
follows_links {path} inside (stops none (no_memory {old} {text})) =
    halts (λ e. no_fault e) (λ files. refl) (tt, (tt, tt))
    (λ files. idle (asks path (Regular old)) refl (idle (reads_link path (Some text)) refl (stop OutOfMemory)))
follows_links {path} inside (stops none (too_long {old} {text} last)) =
    halts (λ e. no_fault e) (λ files. refl) (tt, (tt, tt))
    (λ files. idle (asks path (Regular old)) refl (idle (reads_link path (Some text)) refl (stop CannotCreate)))
follows_links {path} {around} inside (special none writes) = record {
  to = file_at path;
  leads = λ files gives. inl (to_file none (no_link_there gives.0.2));
  allowed = (tt, in_place_allowed (file_at path) around refl (is_special (inside _ (inl refl))) writes);
  ends = λ files gives. idle (asks path Special) refl (writes_in_place files gives.1 writes);
}
follows_links {path} {around} inside (replaces {old} none rest) =
    let asked = inside (asks path (Regular old)) (inl refl) in
    let replaceable : IsReplaceable path around =
    record { old = old; asked = asked; no_link = inside (reads_link path None) (inr (inl refl)); no_stream = none } in
    record {
      to = file_at path;
      leads = λ files gives. inl (to_file none gives.1.0);
      allowed = (
        tt,
        (
          tt,
          replaces_allowed (file_at path) around refl replaceable asked
              (λ call among. inside call (inr (inr among))) rest,
        ),
      );
      ends = λ files gives.
          idle (asks path (Regular old)) refl
          (idle (reads_link path None) refl
          (replaces_target files (is_asked old (files.at path) gives.0 gives.1.0) gives.1.1 rest));
    }
follows_links {path} inside (follows {text} {old} none rest) =
    let it = follows_links (λ call among. inside call (inr (inr among))) rest in
    record {
      to = it.to;
      leads = λ files gives. elim (it.leads files gives.1.1) [
        | inl leads ↦ inl (along none gives.1.0 leads)
        | inr fault ↦ inr fault
      ];
      allowed = (tt, (tt, it.allowed));
      ends = λ files gives.
          idle (asks path (Regular old)) refl (idle (reads_link path (Some text)) refl (it.ends files gives.1.1));
    }

pub whole_outputs : (output path : List ℕ) (links : ℕ) (course : Course)
    → WritesFile output links path course → IsWholeOrAsItWasThroughout output path course
whole_outputs output path links course writes =
    let it = follows_links (λ call among. among) writes in
    record {
      to = it.to;
      leads = it.leads;
      allowed = it.allowed;
      comes = λ files gives. let its = it.ends files gives in search rules;
    }
