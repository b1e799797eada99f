-- What calls leave in a known system.
use Rattle.known_system.proofs.Prelude.{Bool, Course, FileCall, Fills, Finishes, Folder, Leads, Left, Links, List, None, Option, OutputFault, Place, Replaces, Some, WritesFile, [], ap, append-nil, append_assoc, arith, bytes_at, bytes_eq-Decides, bytes_of, calls_of, false, fault_of, first_mode, folder, if◌then◌else◌, is_at, is_free, is_link, is_some, kept, link_target, linked, links_by_path, makes, not, nothing, numbers, option_and_then, reads_link, refl, renames, replay, step, subst, suc, sym, telling, tellings, there, true, unless_at, whole, ℕ, ◌&&◌, ◌++◌, ◌+◌, ◌||◌, ◌∙◌, ◌∷◌, ◌≡◌}
use Rattle.runs.specs.declared.output_files.Rights.{Rights}
use Rattle.runs.specs.OutputWriting.{all_taken, cut, failed, follows, forbidden, in_place, lacking, late, made as made_new, no_memory, opened, replaced, replaces, replaces_none, special, stops, stream, taken, taken as stream_taken, too_long, unknown, unmoved, unnamed, unopened, unread, unwritten, whole as all_taken_in, with_rights, without_rights}
use Rattle.known_system.specs.Contents.{follows as leads_on}
use Rattle.known_system.specs.declared.stored.Link.{Link}

pub ends : (o : Option Folder) → option_and_then (replay []) o ≡ o
ends None = refl
ends (Some s) = refl

goes_on : (calls more : List FileCall)
    → ((s : Folder) → replay (calls ++ more) s ≡ option_and_then (replay more) (replay calls s))
    → (o : Option Folder)
    → option_and_then (replay (calls ++ more)) o ≡ option_and_then (replay more) (option_and_then (replay calls) o)
goes_on calls more later None = refl
goes_on calls more later (Some s) = later s

pub replay_all : (calls more : List FileCall) (s : Folder)
    → replay (calls ++ more) s ≡ option_and_then (replay more) (replay calls s)
replay_all [] more s = refl
replay_all (first ∷ calls) more s = goes_on calls more (replay_all calls more) (step first s)

one_call : (call : FileCall) (o : Option Folder)
    → option_and_then (replay (call ∷ [])) o ≡ option_and_then (step call) o
one_call call None = refl
one_call call (Some s) = ends (step call s)

pub replay_append : (calls : List FileCall) (call : FileCall) (s : Folder)
    → replay (calls ++ call ∷ []) s ≡ option_and_then (step call) (replay calls s)
replay_append calls call s = replay_all calls (call ∷ []) s ∙ one_call call (replay calls s)

pub replay_more : (calls : List FileCall) (call : FileCall) (s t : Folder) (u : Folder)
    → replay calls s ≡ Some t → step call t ≡ Some u → replay (calls ++ call ∷ []) s ≡ Some u
replay_more calls call s t u is more = replay_append calls call s ∙ rw is more

-- What the calls leave by which an output is made.

same : (s t : Folder) → Some s ≡ Some t → s ≡ t
same s t is = cc

pub at_its_path : (path bytes : List ℕ) → bytes_at path (Some (path, bytes)) ≡ Some bytes
at_its_path path bytes = rw ((bytes_eq-Decides path path).1 refl) refl

not_at : (path : List ℕ) (place : Place) → is_at place path ≡ false → unless_at path place ≡ place
not_at path None other = refl
not_at path (Some file) other = rw other refl

neither : (a b c : Bool) → ((a || b) || c) ≡ false → b ≡ false
neither true b c is = cc
neither false true c is = cc
neither false false c is = refl

module _ {output : List ℕ} {limit : ℕ} {at : List ℕ} {links : Links} {held : Place} where
  -- nothing has changed
  stays : {why : OutputFault} (fresh : Place) (new : Folder) → Some (folder links held fresh) ≡ Some new
      → Left output limit at links held new (Some why)
  stays fresh new is =
      let e = sym (same _ new is) in kept (ap (λ (f : Folder). f.held) e) (ap (λ (f : Folder). f.links) e)

  -- the new file is removed
  removed : {why : OutputFault} (path bytes : List ℕ) (new : Folder) → is_at held path ≡ false
      → Some (folder links (unless_at path held) (unless_at path (Some (path, bytes)))) ≡ Some new
      → Left output limit at links held new (Some why)
  removed path bytes new other is =
      let e = sym (same _ new is) in
      kept (ap (λ (f : Folder). f.held) e ∙ not_at path held other) (ap (λ (f : Folder). f.links) e)

  -- the new file gets the path to which it leads
  moves : (bytes target : List ℕ) (new : Folder) (a b c : Bool) → is_free held target ≡ b
      → (if (a && b) && c then Some (folder links (Some (target, bytes)) None) else None) ≡ Some new
      → Leads links limit at target → bytes ≡ output → Left output limit at links held new None
  moves bytes target new true true true free is leads all =
      let e = same _ new is in
      whole leads free
      (subst (λ (f : Folder). bytes_at target f.held ≡ Some output) e (at_its_path target bytes ∙ ap Some all))
      (ap (λ (f : Folder). f.links) (sym e))
  moves bytes target new false b c free is leads all = cc
  moves bytes target new true false c free is leads all = cc
  moves bytes target new true true false free is leads all = cc

  module _ {path target : List ℕ} (new : Folder) (other : is_at held path ≡ false) (leads : Leads links limit at target)
    where
      finishes_left : {rest : Course} → Finishes output (record { path = path; target = target; made = Some [] }) rest
          → replay (calls_of rest) (folder links held (Some (path, []))) ≡ Some new
          → Left output limit at links held new (fault_of rest)
      finishes_left (replaced (all_taken_in {after = None} all)) is = absurd all
      finishes_left (replaced (all_taken_in {after = Some bytes} all)) is =
          moves bytes target new (is_at (Some (path, bytes)) path) (is_free held target)
          (not (is_some (bytes_of links target))) refl
          (sym (ends (step (renames path target true) (folder links held (Some (path, bytes))))) ∙ is) leads all
      finishes_left (unmoved (all_taken_in {after = None} all)) is = absurd all
      finishes_left (unmoved (all_taken_in {after = Some bytes} all)) is = removed path bytes new other is
      finishes_left (unwritten (cut {after = None} all)) is = cc
      finishes_left (unwritten (cut {after = Some bytes} all)) is = removed path bytes new other is
      finishes_left (unwritten (late {after = None} all)) is = absurd all
      finishes_left (unwritten (late {after = Some bytes} all)) is = removed path bytes new other is

      fills_left : {old : Option Rights} {rest : Course}
          → Fills output (record { path = path; target = target; made = Some [] }) old rest
          → replay (calls_of rest) (folder links held (Some (path, []))) ≡ Some new
          → Left output limit at links held new (fault_of rest)
      fills_left (replaces_none finishing) is = finishes_left finishing is
      fills_left (with_rights finishing) is = finishes_left finishing is
      fills_left without_rights is = removed path [] new other is

  module _ {target : List ℕ} (leads : Leads links limit at target) where
    -- a new file is made, where none is there
    made_left : {path : List ℕ} {old : Option Rights} {rest : Course} (a c : Bool) (new : Folder) (b : Bool)
        → ((a || is_at held path) || c) ≡ b
        → Fills output (record { path = path; target = target; made = Some [] }) old rest
        → option_and_then (replay (calls_of rest)) (if b then None else Some (folder links held (Some (path, []))))
        ≡ Some new
        → Left output limit at links held new (fault_of rest)
    made_left a c new true free fills is = cc
    made_left {path} a c new false free fills is =
        fills_left new (neither a (is_at held path) c free) leads fills is

    new_left : {path : List ℕ} {old : Option Rights} {rest : Course} (mode : ℕ) (before : Option (List ℕ))
        (fresh : Place) (new : Folder)
        → Fills output (record { path = path; target = target; made = before }) old rest
        → option_and_then (replay (calls_of rest)) (step (makes path mode before) (folder links held fresh)) ≡ Some new
        → Left output limit at links held new (fault_of rest)
    new_left mode None fresh new fills is = cc
    new_left mode (Some (b ∷ bs)) fresh new fills is = cc
    new_left {path} mode (Some []) fresh new fills is =
        made_left (is_some fresh) (is_some (bytes_of links path)) new _ refl fills is

    replaces_left : {old : Option Rights} {tries : ℕ} {course : Course} (fresh : Place) (new : Folder)
        → Replaces output target old tries course → replay (calls_of course) (folder links held fresh) ≡ Some new
        → Left output limit at links held new (fault_of course)
    replaces_left fresh new unnamed is = stays fresh new is
    replaces_left {old} fresh new (made_new {before} few fills) is =
        new_left (first_mode old) before fresh new fills is
    replaces_left fresh new (taken rest) is = replaces_left fresh new rest is
    replaces_left fresh new all_taken is = stays fresh new is
    replaces_left fresh new (in_place unopened) is = stays fresh new is
    replaces_left fresh new (in_place (opened puts)) is = cc
    replaces_left fresh new forbidden is = stays fresh new is
    replaces_left fresh new failed is = stays fresh new is

-- where the link at the path is as it was answered
answered : (links : Links) (now new : Folder) (path text : List ℕ) (o : Option (List ℕ)) (b : Bool)
    → bytes_of links path ≡ o → is_link o text ≡ b → (more : Folder → Option Folder)
    → option_and_then more (if b then Some now else None) ≡ Some new
    → (bytes_of links path ≡ Some text) × (more now ≡ Some new)
answered links now new path text None true at so more is = cc
answered links now new path text (Some link) true at so more is =
    let e : link ≡ text = (bytes_eq-Decides link text).0 so in (at ∙ ap Some e, is)
answered links now new path text o false at so more is = cc

by_answer : (links : Links) (now new : Folder) (path text : List ℕ) (more : Folder → Option Folder)
    → option_and_then more (if is_link (bytes_of links path) text then Some now else None) ≡ Some new
    → (bytes_of links path ≡ Some text) × (more now ≡ Some new)
by_answer links now new path text = answered links now new path text (bytes_of links path) _ refl refl

module _ {output : List ℕ} {links : Links} {held : Place} (fresh : Place) (new : Folder) where
  -- no link is at the path
  unlinked_left : {limit : ℕ} {path : List ℕ} {old : Option Rights} {tries : ℕ} {rest : Course} (o : Option (List ℕ))
      → bytes_of links path ≡ o → Replaces output path old tries rest
      → option_and_then (replay (calls_of rest)) (if is_some o then None else Some (folder links held fresh)) ≡ Some new
      → Left output limit path links held new (fault_of rest)
  unlinked_left None at rest is = replaces_left (there at) fresh new rest is
  unlinked_left (Some text) at rest is = cc

  on : {limit : ℕ} {path text : List ℕ} {why : Option OutputFault} → bytes_of links path ≡ Some text
      → Left output limit (link_target path text) links held new why → Left output (suc limit) path links held new why
  on at (whole leads free bytes links_stay) = whole (leads_on at leads) free bytes links_stay
  on at (kept same links_stay) = kept same links_stay

  pub left_by : {limit : ℕ} {path : List ℕ} {course : Course} → WritesFile output limit path course
      → replay (calls_of course) (folder links held fresh) ≡ Some new
      → Left output limit path links held new (fault_of course)
  left_by (stream names lacking) is = stays fresh new is
  left_by (stream names (stream_taken puts)) is = cc
  left_by (stops other unknown) is = cc
  left_by (stops other unread) is = stays fresh new is
  left_by {path} (stops other (no_memory {text})) is =
      stays fresh new (by_answer links (folder links held fresh) new path text (replay []) is).1
  left_by {path} (stops other (too_long {text} none)) is =
      stays fresh new (by_answer links (folder links held fresh) new path text (replay []) is).1
  left_by (special other writes) is = cc
  left_by {path} (replaces other rest) is = unlinked_left (bytes_of links path) refl rest is
  left_by {path} (follows {links = n} {text} {rest} other writes) is =
      let on_its_way = by_answer links (folder links held fresh) new path text (replay (calls_of rest)) is in
      let one_more : suc n ≡ n + 1 = omega arith in
      subst (λ limit. Left output limit path links held new (fault_of rest)) one_more
      (on on_its_way.0 (left_by writes on_its_way.1))

tells : (links : List Link) (told : Links) (held : Place)
    → replay (tellings links) (telling told held) ≡ Some (telling (told ++ links_by_path links) held)
tells [] told held = ap (λ l. Some (telling l held)) (sym (append-nil told))
tells (link ∷ links) told held =
    tells links (told ++ (link.path.now, link.to.now) ∷ []) held
    ∙ ap (λ l. Some (telling l held)) (append_assoc told ((link.path.now, link.to.now) ∷ []) (links_by_path links))

-- after the last link that is told the folder stays as it is told
pub told_all : (calls : List FileCall) (links : List Link) (held : Place) (n : ℕ)
    → replay calls nothing ≡ Some (telling [] held)
    → replay ((calls ++ tellings links) ++ numbers n ∷ []) nothing ≡ Some (folder (links_by_path links) held None)
told_all calls links held n is =
    replay_all (calls ++ tellings links) (numbers n ∷ []) nothing
    ∙ ap (option_and_then (replay (numbers n ∷ [])))
    (replay_all calls (tellings links) nothing ∙ ap (option_and_then (replay (tellings links))) is
    ∙ tells links [] held)

is_answered : (links : Links) (held fresh : Place) (path text : List ℕ) → bytes_of links path ≡ Some text
    → linked path text (folder links held fresh) ≡ Some (folder links held fresh)
is_answered links held fresh path text at = rw (at, (bytes_eq-Decides text text).1 refl) refl

-- a link that is answered leaves the folder as it is
pub answers_link : (calls : List FileCall) (links : Links) (held fresh : Place) (path text : List ℕ)
    → replay calls nothing ≡ Some (folder links held fresh) → bytes_of links path ≡ Some text
    → replay (calls ++ reads_link path (Some text) ∷ []) nothing ≡ Some (folder links held fresh)
answers_link calls links held fresh path text is at =
    replay_more calls (reads_link path (Some text)) nothing (folder links held fresh) (folder links held fresh) is
    (is_answered links held fresh path text at)
