-- How the logic stores the calls of a system.
use Rattle.std.specs.Prelude.{◌≡◌, ℕ, List, [], true, false, cond, ◌==◌, Option, Some, None, refl}
use Rattle.std.specs.Coded.{Coded, code_by, coded×, coded_ℕ, coded_list, coded_option}
use Rattle.runs.specs.Prelude.{FileCall}
use Rattle.runs.specs.OutputFiles.{asks, reads_link, fails_to_read_link, numbers, makes, fails_to_make, sets_owner, sets_mode, opens, fails_to_open, takes_stream, lacks_stream, closes, renames, removes}
use Rattle.runs.specs.declared.output_files.FileKind.TheVariants.{Regular, Special, Unknown}
use Rattle.runs.specs.declared.output_files.MakeFault.TheVariants.{Exists, Forbidden, Failed}
use Rattle.runs.specs.declared.output_files.OutputFault.TheVariants.{CannotCreate, WriteFault, OutOfMemory}

-- a tag, two paths, bytes that may be unknown, and four numbers
abbrev pub Parts : Type 0
Parts = ℕ × (List ℕ × (List ℕ × (Option (List ℕ) × (ℕ × (ℕ × (ℕ × ℕ))))))

abbrev pub at_path : ℕ → List ℕ → Parts
at_path tag path = (tag, (path, ([], (None, (0, (0, (0, 0)))))))

abbrev pub to_parts : FileCall → Parts
to_parts (asks p (Regular None)) = at_path 0 p
to_parts (asks p (Regular (Some r))) = (1, (p, ([], (None, (r.mode, (r.owner.user, (r.owner.group, 0)))))))
to_parts (asks p Special) = at_path 2 p
to_parts (asks p Unknown) = at_path 3 p
to_parts (reads_link p text) = (4, (p, ([], (text, (0, (0, (0, 0)))))))
to_parts (fails_to_read_link p CannotCreate) = at_path 5 p
to_parts (fails_to_read_link p WriteFault) = at_path 6 p
to_parts (fails_to_read_link p OutOfMemory) = at_path 7 p
to_parts (numbers n) = (8, ([], ([], (None, (n, (0, (0, 0)))))))
to_parts (makes p mode bytes) = (9, (p, ([], (bytes, (mode, (0, (0, 0)))))))
to_parts (fails_to_make p mode Exists) = (10, (p, ([], (None, (mode, (0, (0, 0)))))))
to_parts (fails_to_make p mode Forbidden) = (11, (p, ([], (None, (mode, (0, (0, 0)))))))
to_parts (fails_to_make p mode Failed) = (12, (p, ([], (None, (mode, (0, (0, 0)))))))
to_parts (sets_owner o None) = (13, ([], ([], (None, (o.user, (o.group, (0, 0)))))))
to_parts (sets_owner o (Some w)) = (14, ([], ([], (None, (o.user, (o.group, (w.user, w.group)))))))
to_parts (sets_mode mode true) = (15, ([], ([], (None, (mode, (0, (0, 0)))))))
to_parts (sets_mode mode false) = (16, ([], ([], (None, (mode, (0, (0, 0)))))))
to_parts (opens p bytes) = (17, (p, ([], (bytes, (0, (0, (0, 0)))))))
to_parts (fails_to_open p) = at_path 18 p
to_parts (takes_stream n bytes) = (19, ([], ([], (bytes, (n, (0, (0, 0)))))))
to_parts (lacks_stream n) = (20, ([], ([], (None, (n, (0, (0, 0)))))))
to_parts (closes bytes failures true) = (21, ([], ([], (bytes, (failures, (0, (0, 0)))))))
to_parts (closes bytes failures false) = (22, ([], ([], (bytes, (failures, (0, (0, 0)))))))
to_parts (renames p q true) = (23, (p, (q, (None, (0, (0, (0, 0)))))))
to_parts (renames p q false) = (24, (p, (q, (None, (0, (0, (0, 0)))))))
to_parts (removes p) = at_path 25 p

abbrev pub from_parts : Parts → FileCall
from_parts p =
    let a = p.1.0 in
    let b = p.1.1.0 in
    let bytes = p.1.1.1.0 in
    let n = p.1.1.1.1.0 in
    let m = p.1.1.1.1.1.0 in
    let k = p.1.1.1.1.1.1.0 in
    let j = p.1.1.1.1.1.1.1 in
    cond (p.0 == 0) (asks a (Regular None))
    (cond (p.0 == 1) (asks a (Regular (Some (record { mode = n; owner = record { user = m; group = k } }))))
    (cond (p.0 == 2) (asks a Special) (cond (p.0 == 3) (asks a Unknown) (cond (p.0 == 4) (reads_link a bytes)
    (cond (p.0 == 5) (fails_to_read_link a CannotCreate) (cond (p.0 == 6) (fails_to_read_link a WriteFault)
    (cond (p.0 == 7) (fails_to_read_link a OutOfMemory) (cond (p.0 == 8) (numbers n) (cond (p.0 == 9) (makes a n bytes)
    (cond (p.0 == 10) (fails_to_make a n Exists) (cond (p.0 == 11) (fails_to_make a n Forbidden)
    (cond (p.0 == 12) (fails_to_make a n Failed) (cond (p.0 == 13) (sets_owner (record { user = n; group = m }) None)
    (cond (p.0 == 14) (sets_owner (record { user = n; group = m }) (Some (record { user = k; group = j })))
    (cond (p.0 == 15) (sets_mode n true) (cond (p.0 == 16) (sets_mode n false) (cond (p.0 == 17) (opens a bytes)
    (cond (p.0 == 18) (fails_to_open a) (cond (p.0 == 19) (takes_stream n bytes) (cond (p.0 == 20) (lacks_stream n)
    (cond (p.0 == 21) (closes bytes n true)
    (cond (p.0 == 22) (closes bytes n false) (cond (p.0 == 23) (renames a b true)
    (cond (p.0 == 24) (renames a b false) (removes a)))))))))))))))))))))))))

pub from_parts-to_parts : (call : FileCall) → from_parts (to_parts call) ≡ call
from_parts-to_parts (asks p (Regular None)) = refl
from_parts-to_parts (asks p (Regular (Some r))) = refl
from_parts-to_parts (asks p Special) = refl
from_parts-to_parts (asks p Unknown) = refl
from_parts-to_parts (reads_link p text) = refl
from_parts-to_parts (fails_to_read_link p CannotCreate) = refl
from_parts-to_parts (fails_to_read_link p WriteFault) = refl
from_parts-to_parts (fails_to_read_link p OutOfMemory) = refl
from_parts-to_parts (numbers n) = refl
from_parts-to_parts (makes p mode bytes) = refl
from_parts-to_parts (fails_to_make p mode Exists) = refl
from_parts-to_parts (fails_to_make p mode Forbidden) = refl
from_parts-to_parts (fails_to_make p mode Failed) = refl
from_parts-to_parts (sets_owner o None) = refl
from_parts-to_parts (sets_owner o (Some w)) = refl
from_parts-to_parts (sets_mode mode true) = refl
from_parts-to_parts (sets_mode mode false) = refl
from_parts-to_parts (opens p bytes) = refl
from_parts-to_parts (fails_to_open p) = refl
from_parts-to_parts (takes_stream n bytes) = refl
from_parts-to_parts (lacks_stream n) = refl
from_parts-to_parts (closes bytes failures true) = refl
from_parts-to_parts (closes bytes failures false) = refl
from_parts-to_parts (renames p q true) = refl
from_parts-to_parts (renames p q false) = refl
from_parts-to_parts (removes p) = refl

abbrev pub calls_code : Coded (List FileCall)
calls_code =
    coded_list (code_by Parts
    (coded× coded_ℕ (coded× (coded_list coded_ℕ)
    (coded× (coded_list coded_ℕ) (coded× (coded_option (coded_list coded_ℕ))
    (coded× coded_ℕ (coded× coded_ℕ (coded× coded_ℕ coded_ℕ))))))) to_parts from_parts from_parts-to_parts)
