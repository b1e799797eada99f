-- Entries that are compiled can be asked for, and files are below 4 GiB.
use Rattle.po_compile.proofs.Prelude.{All-filter, All-head, All-tail, All-weaker, AreAccepted, Bool, CompiledCanBeKeys, IsCatalogueEntry, IsTooLarge, JoinedEntriesCanStand, Lacks, LayoutsAreLimited, List, None, Option, Some, TextEntry, [], ap₂, arith, can_be_key, cases_lt, has_no_separator, inl, inr, is_compiled, is_separator, joined_entries, layout, length, list_any, ne_eqb, not, refl, too_large, true, unwrap_or, ℕ, ◌&&◌, ◌<◌, ◌||◌, ◌∙◌, ◌∷◌, ◌≡◌, ◌≢◌, ◌≤◌}
use Rattle.po_compile.proofs.OneOutcome.{compile_once, not_both}
use Rattle.std.specs.Prelude.{IfSome}
use Rattle.po_compile.proofs.Meaning.{entry_lacks_separators}

no_separator : (text : List ℕ) → Lacks 0 text → Lacks 4 text → has_no_separator text ≡ true
no_separator [] nul eot = refl
no_separator (b ∷ text) nul eot =
    ap₂ (λ (x y : Bool). not ((x || y) || list_any is_separator text))
    (ne_eqb b 0 (All-head (λ c. c ≢ 0) b text nul)) (ne_eqb b 4 (All-head (λ c. c ≢ 4) b text eot))
    ∙ no_separator text (All-tail (λ c. c ≢ 0) b text nul) (All-tail (λ c. c ≢ 4) b text eot)

none_in_context : (context : Option (List ℕ)) → IfSome context (Lacks 0) → IfSome context (Lacks 4)
    → has_no_separator (unwrap_or context []) ≡ true
none_in_context None nul eot = refl
none_in_context (Some context) nul eot = no_separator context nul eot

entry_can_be_key : (e : TextEntry) → IsCatalogueEntry e → can_be_key e.context e.id ≡ true
entry_can_be_key e stands =
    let lacks = entry_lacks_separators e stands.valid in
    ap₂ (λ (x y : Bool). x && y) (none_in_context e.context lacks.context_nul lacks.context_eot)
    (no_separator e.id lacks.id_nul lacks.id_eot)

pub compiled_can_be_keys : JoinedEntriesCanStand → CompiledCanBeKeys
compiled_can_be_keys can_stand use_fuzzy texts catalogues read =
    let entries = joined_entries catalogues in
    All-filter (is_compiled use_fuzzy) (λ e. can_be_key e.context e.id ≡ true) entries
    (All-weaker IsCatalogueEntry (λ e. can_be_key e.context e.id ≡ true) entry_can_be_key entries
    (can_stand texts catalogues read))

pub layouts_are_limited : LayoutsAreLimited
layouts_are_limited o texts catalogues messages read are =
    let size = length (layout o.order messages) in
    let accepted : size ≤ 4294967295 → AreAccepted o texts catalogues =
    λ small. record {
      read = read;
      layout = record {
        messages = messages;
        are_messages = are;
        small = let less : size < 4294967296 = omega (arith, small) in less;
      };
    } in
    let refused : 4294967295 < size → IsTooLarge o texts too_large =
    λ large. record {
      catalogues = catalogues;
      read = read;
      large = record {
        messages = messages;
        are_messages = are;
        large = let more : 4294967296 ≤ size = omega (arith, large) in more;
      };
      error_is = refl;
    } in
    record {
      accepted = (
        λ h. elim (cases_lt 4294967295 size)
            [ inl large ↦ absurd (not_both (compile_once o texts) h (inr (refused large))) | inr small ↦ small ],
        accepted,
      );
      refused = (
        λ h. elim (cases_lt 4294967295 size)
            [ inl large ↦ large | inr small ↦ absurd (not_both (compile_once o texts) (accepted small) (inr h)) ],
        refused,
      );
      no_other = λ error h. h.error_is;
    }
