-- The names of the logic that the walks of exports cite.
pub use Rattle.std.proofs.Common.{◌≡◌, ℕ, [], ◌∷◌, ◌++◌, refl, ap, w32, w64, MutBor, length}
pub use Rattle.std.proofs.raw_atomic.Walks.{proved}
pub use Rattle.std.proofs.alloc.Calls.{Goes-blank}
pub use base.Fraction.{full_share}
pub use base.Logic.{id⊢}
pub use base.Fml.{fat, ftrue, flft, flent, fex, fsep}
pub use borrow.Table.OneValue.{part_in, part_out}
pub use mir.Syntax.{named}
pub use mir.Val.{Val, vunit, vptr}
pub use contract.BorrowLft.{⊑_static}
pub use contract.Monad.{fact}
pub use contract.Running.{tables}
pub use prog.Wp.{WpFn}
pub use types.Kit.{‵, raw, ◌⊛◌, some, later, prop, ◌$◌, ◌∵◌, !, qed, done, move, keep, drop, use1, use2, use3, split, join, fsplit, fjoin, fpack, feq_i, feq_l, pick, await, regoal, suffices, frame, group}
pub use types.Run.{enter, assigns, of_opd, unit_lit, load, look, init, addr, from, fld, hop, stop, no_more, and_then, returns}
pub use types.Part.{whole, sub, agg}
pub use types.ByLocal.{alloc_all, pass_all, free_all, look_at, look_in_at, get, get_in, through, sets, lands_as}
pub use types.SemTy.{Body}
pub use types.Tokens.{lft_new, lft_end, lent_back}
pub use denote.Builtin.{u8, u32, u64, usize, unit, SliceRefOf, RefOf}
pub use denote.Exit.{yes}
pub use denote.Laws.{Is, shows}
pub use denote.Lend.{lends_ref, ref_back, lends_shr}
pub use denote.Memory.{mem, lone}
pub use denote.Plain.{uint_vals, uint_Tells, uint_Makes, uint_Lawful}
pub use denote.RawPtr.{Ptr, RawPtr, block_ptr, lies_at, room_at, in_a_block, rawptr_vals, rawptr_Tells}
pub use denote.Ref.{Bor, MutRef, ShrRef, mut_vals, shr_vals, mut_Tells, shr_Tells}
pub use denote.Signature.{Slot, plain}
pub use denote.Slice.{ShrSlice, MutSlice, shr_slice_vals, shr_slice_Tells, shr_slice_Lawful, mut_slice_vals, mut_slice_Tells, mut_slice_Lawful}
pub use denote.Steps.{nothing, owned, heard, peeks, only}
pub use denote.Triple.Call.{calls_at}
pub use denote.Triple.Clauses.{Lasts, lasts}
pub use denote.Triple.Entry.{on_entry}
pub use denote.Triple.Spec.{triple_of}
pub use denote.Triple.Table.{framed}
pub use denote.Triple.Walked.{Stays, walk_of, says, stay_dropped, gave_slice, gave_ref, Goes-dropped, Goes-gave_slice, Goes-gave_ref, ends_at}
