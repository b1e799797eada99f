-- Faults of a text: none is out of memory, and what an error is that is one of them.
use Rattle.po_syntax.proofs.Prelude.{IfErr, IfOk, IsFaultOf, LinesStop, List, OutOfMemory, PoError, PoFault, TextFault, [], inl, inr, stops, subst, sym, ℕ, ◌+◌, ◌∷◌, ◌≡◌, ◌≢◌}
use Rattle.std.specs.Prelude.{Err, Ok, Result}
use Rattle.std.specs.Result.{IsErrAnd}
use Rattle.po_syntax.specs.LineFaults as fault

pub ok_both : {T E : Type 0} {P Q R : T → Type 0} (r : Result T E) → ((y : T) → P y → Q y → R y) → IfOk r P → IfOk r Q
    → IfOk r R
ok_both (Ok y) f p q = f y p q
ok_both (Err e) f p q = tt

-- of an error that a `?` passes on
pub passed_on : {T E : Type 0} {e : E} (r : Result T E) (P : E → Type 0) → IsErrAnd r (λ y. y ≡ e) → P e → IfErr r P
passed_on (Ok y) P is h = tt
passed_on (Err y) P is h = subst P (sym is) h

-- No fault of a text is out of memory, and errors that are such faults.

abbrev IsReported : PoFault → Type 0
IsReported kind = kind ≢ OutOfMemory

number_reported : {number : ℕ} {kind : PoFault} → fault.NumberFault number kind → IsReported kind
number_reported fault.nul = λ e. cc
number_reported (fault.large h) = λ e. cc

escape_reported : {text : List ℕ} {kind : PoFault} → fault.EscapeFault text kind → IsReported kind
escape_reported (fault.octal digits rest all few ends h) = number_reported h
escape_reported (fault.hexadecimal_digits digits rest all ends h) = number_reported h
escape_reported _ = λ e. cc

string_reported : {text : List ℕ} {kind : PoFault} → fault.StringFault text kind → IsReported kind
string_reported fault.not_closed = λ e. cc
string_reported (fault.in_escape h) = escape_reported h
string_reported (fault.after_plain p q h) = string_reported h
string_reported (fault.after_escape s h) = string_reported h

index_reported : {text : List ℕ} {kind : PoFault} → fault.IndexFault text kind → IsReported kind
index_reported (fault.no_index p q) = λ e. cc
index_reported _ = λ e. cc

keyword_reported : {text : List ℕ} {kind : PoFault} → fault.KeywordFault text kind → IsReported kind
keyword_reported (fault.no_keyword b word rest all ends none) = λ e. cc
keyword_reported (fault.in_index before inside index p q h) = index_reported h

tokens_reported : {text : List ℕ} {kind : PoFault} → fault.TokensFault text kind → IsReported kind
tokens_reported (fault.no_token p q r) = λ e. cc
tokens_reported (fault.blank b h) = tokens_reported h
tokens_reported (fault.in_keyword h) = keyword_reported h
tokens_reported (fault.in_string h) = string_reported h
tokens_reported (fault.after_keyword s h) = tokens_reported h
tokens_reported (fault.after_string s h) = tokens_reported h

line_reported : {text : List ℕ} {kind : PoFault} → fault.LineFault text kind → IsReported kind
line_reported (fault.indented b h) = line_reported h
line_reported (fault.live b h) = tokens_reported h
line_reported (fault.previous h) = tokens_reported h
line_reported (fault.obsolete blanks all b n h) = tokens_reported h
line_reported (fault.obsolete_previous h) = tokens_reported h
line_reported _ = λ e. cc

lines_reported : (number : ℕ) (lines : List (List ℕ)) (kind : PoFault) (at : ℕ) → LinesStop number lines kind at
    → IsReported kind
lines_reported number [] kind at s = absurd s
lines_reported number (line ∷ lines) kind at (inl first) = line_reported first.0
lines_reported number (line ∷ lines) kind at (inr after) = lines_reported (number + 1) lines kind at after.2

pub text_reported : (text : List ℕ) (kind : PoFault) (line : ℕ) → TextFault text kind line → kind ≢ OutOfMemory
text_reported text kind line (stops small utf8 no_nul s) = lines_reported 1 _ kind line s
text_reported text kind line _ = λ e. cc

-- an error that is the text's fault
pub is_text_fault : {text : List ℕ} {error : PoError} → TextFault text error.kind error.line
    → IsFaultOf (TextFault text) error
is_text_fault h = record { fault = λ other. h; memory = λ memory. absurd (text_reported _ _ _ h memory) }

-- an error that is such a fault, where each of these is one of those
pub IsFaultOf-weaker : {Has More : PoFault → ℕ → Type 0} {error : PoError}
    → ((fault : PoFault) (line : ℕ) → Has fault line → More fault line) → IsFaultOf Has error
    → IsFaultOf More error
IsFaultOf-weaker more h = record { fault = λ other. more _ _ (h.fault other); memory = h.memory }
