-- The names of the logic that the walks of this crate cite.
pub use Rattle.std.proofs.Common.{◌≡◌, ℕ, ◌+◌, true, false, List, [], ◌∷◌, Ok, Err, refl, w64, Bor}
pub use Rattle.std.proofs.alloc.Calls.{Al, α, seen, token, Takes, at_takes, Takes-goes, Takes-gives, Answered, Answer}
pub use Rattle.std.proofs.alloc.Calls.{answer_val, Answer-typed, Answer-Ok, Answer-err, answers, Gives, at_gives}
pub use Rattle.std.proofs.alloc.Calls.{Gives-goes, Gives-Gives}
pub use Rattle.std.proofs.alloc.Shapes.{after}
pub use Rattle.std.proofs.raw_atomic.Walks.{proved}
pub use Rattle.std.specs.Allocator.{block_if_ok}
pub use base.Fml.{Lft, Share, Fml, ftrue, fsep, flft}
pub use base.Logic.{id⊢, ent, sep, SProp, ex, guard, never, fst∗}
pub use contract.BorrowLft.{◌⊑◌, ⊑_trans}
pub use contract.Monad.{fact, Fun}
pub use contract.Running.{tables}
pub use denote.Builtin.{usize, RawPtr, RefOf, bool}
pub use denote.Exit.{yes}
pub use denote.Memory.{hidden_shr}
pub use denote.Opens.{unhide}
pub use denote.Param.{bounded, param}
pub use denote.Plain.{uint_vals, uint_Tells}
pub use denote.RattleType.{owns}
pub use denote.RawPtr.{Ptr, block_ptr, null_ptr, ptr_val, rawptr_vals, rawptr_Tells, in_a_block, room_for}
pub use denote.Ref.{shr_vals}
pub use denote.Signature.{Slot, plain, types_at}
pub use denote.Steps.{heard, nothing, only}
pub use denote.Triple.Call.{calls_at}
pub use denote.Triple.Clauses.{Ended}
pub use denote.Triple.Spec.{triple_of}
pub use denote.Triple.Statement.{Contract}
pub use denote.Triple.Table.{framed}
pub use denote.Triple.Walked.{Stays, stay_dropped, Goes-dropped, walk_of, ends_at}
pub use mathlib.Core.Bool.{Bool}
pub use mathlib.Core.Path.{ap}
pub use mir.MapTy.{inst_fn}
pub use mir.Syntax.{Args, Fn, a_type, dnil, dcons}
pub use mir.Val.{Val, vunit, vint, vptr, vbool}
pub use prog.Memory.{size, align, capped, up, Memory}
pub use prog.Routine.{Routine}
pub use prog.Wp.{WpFn}
pub use seplogic.Ra.Ura.{Ura}
pub use types.ByLocal.{alloc_all, pass_all, free_all, look_at, get, through, sets, lands_as, env}
pub use types.Kit.{‵, raw, ◌⊛◌, later, given, some, prop, regoal, Sq, ◌$◌, ◌∵◌, !, qed, done, move, keep, drop, use0}
pub use types.Kit.{use1, use2, split, join, fsplit, fjoin, feq_i, feq_l, await, learn, suffices, group, pick, show}
pub use types.Kit.{check, updating, at_ret}
pub use types.Logic.{Logic, sem}
pub use types.Part.{agg}
pub use types.Run.{enter, of_opd, addr, fld, stop, unit_lit, no_more, and_then, returns, lit, first, branches, skips}
pub use types.Run.{exec, returns_within}
