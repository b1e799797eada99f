-- The names that the proofs by hand share.
pub use Rattle.std.proofs.Common.{◌≡◌, ℕ, List, [], ◌∷◌, ◌++◌, refl}
pub use Rattle.std.proofs.raw_atomic.Walks.{proved}
pub use base.Fml.{ftrue, feq, fsep, Fml}
pub use types.Logic.{sem}
pub use mir.Syntax.{named}
pub use mir.Val.{Val, vstruct, of_list}
pub use types.Kit.{‵, raw, ◌⊛◌, ◌$◌, ◌∵◌, !, qed, done, move, keep, drop, split, join, fjoin, fpack, feq_i, suffices, frame}
pub use types.Run.{enter, no_more, returns}
pub use types.ByLocal.{alloc_all, pass_all, free_all, look_at, sets}
pub use types.Part.{agg}
pub use denote.Ref.{shr_vals, shr_Tells}
pub use denote.Builtin.{RefOf}
pub use denote.Signature.{Slot, plain, named_lft, types_at}
pub use denote.Exit.{yes}
pub use denote.RattleType.{owns}
pub use denote.Steps.{nothing}
pub use denote.Triple.Entry.{on_entry, alive}
pub use denote.Triple.Walked.{Stays, walk_of, says, stay_dropped, Goes-dropped, ends_at}

-- the machine value of a struct without data, and what one owns whose ghost field is free
abbrev pub bare : List Val
bare = vstruct (of_list []) ∷ []

abbrev pub is_bare : Unit {0} → Fml
is_bare _ = fsep (feq (List Val) bare bare) ftrue
