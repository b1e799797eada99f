-- What msgfmt wrote comes back by msgunfmt and msgfmt.
use Rattle.po_tools.proofs.Prelude.{AnswerView, CatalogView, CompilesTo, IsDone, IsMoFile, IsMsgfmtRun, IsMsgunfmtRun, IsSmall, IsUnformatFault, IsUnformatted, JoinError, List, LongerChainAnswersAlike, Message, MsgfmtOptions, NamedFile, NoFaultWhereAccepted, NoFaultWhereUnformatted, None, OneMessageList, OneText, Option, Query, RunView, Some, ThereAndBack, UnformatThenCompile, [], answered, ap, compile_options, cond, false, false≢true, find, inl, input_texts, inr, length, nat_lt, option_map_or, option_or, refl, subst, sym, translates, true, untranslated, ℕ, ◌∙◌, ◌∷◌, ◌≡◌}
use Rattle.std.proofs.lemmas.List.Folds.{find-append}
use Rattle.mo_file.specs.declared.byte_order.Order.{Order}

-- what is answered by the catalogue that is found
abbrev by_found : Query → Option CatalogView → AnswerView
by_found query found = option_map_or (λ (c : CatalogView). answered c query) found (untranslated query)

pub longer : LongerChainAnswersAlike
longer chain further query found =
    ap (by_found query) (find-append (translates query) chain further) ∙ by (find (translates query) chain) found where
      by : (o : Option CatalogView) → (by_found query o).found ≡ true
          → by_found query (option_or o (find (translates query) further)) ≡ by_found query o
      by None h = absurd (false≢true h)
      by (Some c) h = refl

-- What msgfmt wrote comes back by msgunfmt and msgfmt.

done : (inputs : List NamedFile) (o : MsgfmtOptions) (run : RunView) → IsMsgfmtRun inputs o run → run.create ≡ true
    → IsDone inputs o run
done inputs o run (inl r) made = absurd (false≢true (sym (ap (λ (x : RunView). x.create) r.run_is) ∙ made))
done inputs o run (inr (inl f)) made = absurd (false≢true (sym (ap (λ (x : RunView). x.create) f.run_is) ∙ made))
done inputs o run (inr (inr d)) made = d

module _ (law : UnformatThenCompile) (no_fault : NoFaultWhereUnformatted) (one_text : OneText)
    (accepted : NoFaultWhereAccepted) (one_list : OneMessageList) where
  text_is : (file : NamedFile) (bytes found : List ℕ) (text : RunView) → file.bytes ≡ bytes
      → IsUnformatted bytes found → IsMsgunfmtRun file text → text.output ≡ found
  text_is file bytes found text same is (inl h) =
      absurd (h.not_memory (no_fault bytes found h.error is (subst (λ b. IsUnformatFault b h.error) same h.fault)))
  text_is file bytes found text same is (inr h) =
      ap (λ (x : RunView). x.output) h.run_is
      ∙ one_text bytes h.text found (subst (λ b. IsUnformatted b h.text) same h.unformatted) is

  again_is : (inputs : List NamedFile) (o again : MsgfmtOptions) (first last : RunView) (file : NamedFile)
      → (d : IsDone inputs o first) → first.create ≡ true
      → CompilesTo (compile_options again) file.bytes d.compiled.bytes.items → again.profile_check ≡ false
      → IsMsgfmtRun (file ∷ []) again last
      → (last.output ≡ first.output) × (last.create ≡ true) × (last.status ≡ 0)
  again_is inputs o again first last file d made c unchecked (inl r) =
      absurd (r.not_memory (ap (λ (e : JoinError). e.error.kind)
      (accepted (compile_options again) (file.bytes ∷ []) c.catalogues r.error c.accepted r.fault)))
  again_is inputs o again first last file d made c unchecked (inr (inl f)) =
      absurd (false≢true (sym unchecked ∙ f.asked))
  again_is inputs o again first last file d made c unchecked (inr (inr e)) =
      let number : nat_lt 0 d.compiled.n ≡ true = sym (ap (λ (x : RunView). x.create) d.run_is) ∙ made in
      let bytes : first.output ≡ d.compiled.bytes.items =
      ap (λ (x : RunView). x.output) d.run_is ∙ ap (λ b. cond b d.compiled.bytes.items []) number in
      let same : e.compiled.bytes.items ≡ d.compiled.bytes.items =
      c.same_bytes e.compiled (record { catalogues = e.catalogues; read = e.read; is_compiled = e.is_compiled }) in
      let lists = one_list d.compiled.bytes.items again.order o.order e.is_compiled.laid_out.messages
      d.is_compiled.laid_out.messages
      (subst (λ b. IsMoFile again.order b e.is_compiled.laid_out.messages) same e.is_compiled.valid)
      d.is_compiled.valid in
      let count : e.compiled.n ≡ d.compiled.n =
      e.is_compiled.count ∙ ap (λ (l : List Message). length l) lists.1 ∙ sym d.is_compiled.count in
      let some : nat_lt 0 e.compiled.n ≡ true = ap (λ n. nat_lt 0 n) count ∙ number in (
        ap (λ (x : RunView). x.output) e.run_is ∙ ap (λ b. cond b e.compiled.bytes.items []) some ∙ same ∙ sym bytes,
        ap (λ (x : RunView). x.create) e.run_is ∙ some,
        ap (λ (x : RunView). x.status) e.run_is,
      )

  pub there_and_back : ThereAndBack
  there_and_back inputs o again name other first text last is made un small order unchecked is_last =
      let d = done inputs o first is made in
      let found = law (compile_options o) (input_texts inputs) d.compiled
      (record { catalogues = d.catalogues; read = d.read; is_compiled = d.is_compiled }) in
      let bytes : first.output ≡ d.compiled.bytes.items =
      ap (λ (x : RunView). x.output) d.run_is
      ∙ ap (λ b. cond b d.compiled.bytes.items []) (sym (ap (λ (x : RunView). x.create) d.run_is) ∙ made) in
      let same = text_is (record { name = name; bytes = first.output }) d.compiled.bytes.items found.0 text bytes
      found.1 un in
      let compiles = found.2 (subst IsSmall same small) again.use_fuzzy in
      let here : CompilesTo (record { use_fuzzy = again.use_fuzzy; order = again.order }) text.output
      d.compiled.bytes.items =
      subst (λ (x : Order). CompilesTo (record { use_fuzzy = again.use_fuzzy; order = x }) text.output
      d.compiled.bytes.items) (sym order)
      (subst (λ t. CompilesTo (record { use_fuzzy = again.use_fuzzy; order = o.order }) t d.compiled.bytes.items)
      (sym same) compiles) in
      again_is inputs o again first last (record { name = other; bytes = text.output }) d made here unchecked is_last
