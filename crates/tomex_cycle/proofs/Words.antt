-- The names that the lemmas cite most, passed on from one place, in the order of the crates. Declares nothing.
pub use Rattle.std.proofs.lemmas.Bool.{and_from, and_parts, and_right, both_ways, cases_Bool, cases_order, eq-eqb}
pub use Rattle.std.proofs.lemmas.Bool.{eqb-false, eqb-true, le-leb, le-ltb, leb-false, leb-true, lt-leb, lt-ltb}
pub use Rattle.std.proofs.lemmas.Bool.{ltb-false, ltb-true, ne_eqb, or_left, or_right, MatchBool-at_false}
pub use Rattle.std.proofs.lemmas.Bool.Decides.{nat_tests}
pub use Rattle.std.proofs.lemmas.List.{get_or-replicate, get_or-set_other, get_or-set_same, get_or_past, length-append}
pub use Rattle.std.proofs.lemmas.List.{length-set, reverse-reverse, ext_get_or, take-append-le, take_all}
pub use Rattle.std.proofs.lemmas.List.Sums.{sum_by-cons}
pub use Rattle.std.proofs.lemmas.Nat.Bits.{bit_at-trailing_zeros}
pub use Rattle.std.proofs.lemmas.Option.{IfSome_then}
pub use Rattle.std.specs.Bool.{MatchBool}
pub use Rattle.std.specs.Int.{w128, trailing_zeros}
pub use Rattle.std.specs.List.{AllByRecursion, filter_map, list_all, range_with_len}
pub use Rattle.std.specs.Prelude.{Err, IfSome, IsSome, MatchOption, Ok, Result, count_by, if◌then◌else◌, is_none}
pub use Rattle.std.specs.Prelude.{is_some, map, nat_le, nat_lt, not, option_map, slice_index, ⊤, ◌&&◌, ◌==◌, ◌||◌, ◌≢◌}
pub use Rattle.std.specs.Prelude.{◌⊎◌, Decides, All, IsTrue}
pub use Rattle.tomex_rvdec.specs.Instruction.{Instruction}
pub use Rattle.tomex_rvdec.specs.Meaning.{form_of}
pub use Rattle.tomex_rvdec.specs.Operands.{dest_of, pool_of, sources_at, sources_of, unit_at, unit_of}
pub use Rattle.tomex_rvdec.specs.Places.{place_of_pool, place_of_unit}
pub use Rattle.tomex_rvdec.specs.declared.op.Form.{Form}
pub use Rattle.tomex_rvdec.specs.declared.op.Op.{Op}
pub use Rattle.tomex_rvdec.specs.declared.pool.PoolId.{PoolId}
pub use Rattle.tomex_rvdec.specs.declared.pool.UnitId.{UnitId}
pub use Rattle.tomex_image.specs.Image.{Loaded, IsLoaded}
pub use Rattle.tomex_rvexec.proofs.Fields.{dest_needs_pool, unit_with_pool, bytes_of_op, bytes_of_memory}
pub use Rattle.tomex_rvexec.specs.Access.{IsInside, HasStored}
pub use Rattle.tomex_rvexec.specs.Memory.{Bytes}
pub use Rattle.tomex_rvexec.specs.Results.{byte_in, covers, next_pc_of, overwrites, result_of, stored_byte}
pub use Rattle.tomex_rvexec.specs.Steps.{address_of, bytes_of, is_branch, is_in, is_number, is_store, j_of, k_of}
pub use Rattle.tomex_rvexec.specs.Steps.{operand, step_dest, step_pool, step_unit, bytes_at, shares_byte}
pub use Rattle.tomex_rvexec.specs.declared.step.ByteRange.{ByteRange}
pub use Rattle.tomex_rvexec.specs.declared.step.Operand.{Operand}
pub use Rattle.tomex_rvexec.specs.declared.step.Step.{Step}
pub use Rattle.tomex_rvexec.proofs.FlowEnds.{step_ends_it, step_follows, step_goes_on, step_joins, step_comes}
pub use Rattle.tomex_rvexec.proofs.FlowEnds.{steps_to_end, end_is}
pub use Rattle.tomex_rvexec.proofs.FlowHistories.{unread_j, unread_k, same_registers, same_memory}
pub use Rattle.tomex_rvexec.specs.Fetch.{instruction_at}
pub use Rattle.tomex_rvexec.specs.Flow.{IsAllowed, end_of, end_at, IsState}
pub use Rattle.tomex_rvexec.specs.History.{byte_after, register_after, step_after, pc_after, Leaves}
pub use Rattle.tomex_rvexec.specs.Run.{EndsWithin, start_of, IsEnd}
pub use Rattle.tomex_rvexec.specs.declared.outcome.EndKind.{EndKind}
pub use Rattle.tomex_rvexec.specs.declared.outcome.Fault.{Fault}
pub use Rattle.tomex_config.specs.Configuration.{Configuration, IsWithinLimits, option_of, stations_of}
pub use Rattle.tomex_timing.proofs.Bound.{timed_by, InReach, in_reach}
pub use Rattle.tomex_timing.proofs.Least.{least_same, least_test}
pub use Rattle.tomex_timing.proofs.Limits.{stations_high, units_low, width_low, buses_low}
pub use Rattle.tomex_timing.proofs.Search.{issue_station, times_are, timed_is}
pub use Rattle.tomex_timing.proofs.Stations.{number_is, lower, split_count}
pub use Rattle.tomex_timing.proofs.Width.{issue_from, none_later}
pub use Rattle.tomex_timing.specs.History.{cycle_of, greatest_end, is_memory, is_of, last_address, last_issue}
pub use Rattle.tomex_timing.specs.History.{source_end, writer_end}
pub use Rattle.tomex_timing.specs.Recurrence.{AreTimed, IsLeast, IsTimed, are_branches_finished, are_conflicts_finished}
pub use Rattle.tomex_timing.specs.Recurrence.{can_address, can_end, can_issue, can_issue_another, can_start, conflicts}
pub use Rattle.tomex_timing.specs.Recurrence.{has_operands, has_unit}
pub use Rattle.tomex_timing.specs.Search.{least, times_of, timed_of, history}
pub use Rattle.tomex_timing.specs.Station.{has_station, is_free, is_held}
pub use Rattle.tomex_timing.specs.Tables.{Tables, all_tags, field_from, field_of, producer, qi_of}
pub use Rattle.tomex_timing.specs.Tables.{station_fields, tables_of}
pub use Rattle.tomex_timing.specs.Tables.{tag_at, tag_of, unsent_tag, busy_of, is_under_way}
pub use Rattle.tomex_timing.specs.declared.tables.Busy.{Busy}
pub use Rattle.tomex_timing.specs.declared.tables.Field.{Field}
pub use Rattle.tomex_timing.specs.declared.tables.Field.TheVariants.{Unread, Value}
pub use Rattle.tomex_timing.specs.declared.tables.Tag.{Tag}
pub use Rattle.tomex_timing.specs.declared.times.Done.{Done}
pub use Rattle.tomex_timing.specs.declared.times.Times.{Times}
pub use Rattle.tomex_bus.proofs.Bits.{has_one, none_in, agreed, member_some}
pub use Rattle.tomex_bus.proofs.Members.{AreFrom, all_left, inside_left, least_from, least_in, left_from, none_after}
pub use Rattle.tomex_bus.proofs.Members.{none_between, skip_to, none_rest}
pub use Rattle.tomex_bus.specs.Sets.{IsWithout, has, IsWith}
pub use Rattle.tomex_bus.proofs.Picking.{none_picked, single_picked, first_picked}
pub use Rattle.tomex_bus.specs.Picks.{IsInIssueOrder, IsPicked, Rises, is_listed}
pub use Rattle.tomex_bus.specs.Wheel.{is_due, AreDue, HasPut, IsEmpty, Lacks, HasPassed, IsClearTo, IsNext}
pub use Rattle.tomex_tags.specs.Contents.{bytes_in, hears, is_memory_op, is_waiting, lacks_address, new_station}
pub use Rattle.tomex_tags.specs.Contents.{step_in, slot, with_address, with_start, bytes_from, is_ready, a_from}
pub use Rattle.tomex_tags.specs.Contents.{busy_from}
pub use Rattle.tomex_tags.specs.Operands.{field_after, is_there, only, value_in, value_or_tag}
pub use Rattle.tomex_tags.specs.Places.{is_served, place_at, place_of_tag, pool_at, tag_at_place}
pub use Rattle.tomex_tags.specs.Pools.{AreBusy, Pools, is_open}
pub use Rattle.tomex_tags.specs.Registers.{operand_in, station_from, tags_with, names, registers_after}
pub use Rattle.tomex_tags.specs.WaitSets.{IsSetOf, has_address, waits, writes, holds_store}
pub use Rattle.tomex_tags.specs.declared.register_status.RegStatus.{RegStatus}
pub use Rattle.tomex_tags.specs.declared.station.Station.{Station}
pub use Rattle.tomex_membuf.proofs.Older.{no_option, lets_no_address, lets_none, share_none, clear_there}
pub use Rattle.tomex_membuf.specs.Addresses.{has_base, is_value, IsNextAddress, IsOldestLacking}
pub use Rattle.tomex_membuf.specs.Order.{is_finished_before, lets_pass, HasAtMostOneAccess, IsClear}
pub use Rattle.tomex_cycle.specs.CycleOutcome.{progress_of}
pub use Rattle.tomex_cycle.specs.Ends.{AreDone, AreEnding, AreNamed, EndsIn, HaveReceived, Receives, IsDoneBranch}
pub use Rattle.tomex_cycle.specs.Ends.{after_ends, can_send, ends_alone, finishes, is_finished_by, sends_of, sent_below}
pub use Rattle.tomex_cycle.specs.Ends.{after_branch, target_in, AreEnded}
pub use Rattle.tomex_cycle.specs.Events.{GoesOn, SkipsTo, events_in, events_of, IsCounted, eventful_by, events_by}
pub use Rattle.tomex_cycle.specs.Finishes.{AreResults, HaveTurned, IsFree, IsSkipped, IsTimetableOf, LeavesTimetable}
pub use Rattle.tomex_cycle.specs.Finishes.{has_stayed, AreTurned, CanSkip, FinishesNext}
pub use Rattle.tomex_cycle.specs.Inner.{IsAt, MakesCycle, core_of, IsFresh}
pub use Rattle.tomex_cycle.specs.Issue.{IsIssuing, IssuesNext, IssuesOn, HaveIssued, IssuesMore, count_after, issued_in}
pub use Rattle.tomex_cycle.specs.Phases.{IsIssuedTo, IsSnapshot, IsYetToIssue, MakesAddress, MakesEnds, MakesIssue}
pub use Rattle.tomex_cycle.specs.Phases.{MakesStarts, is_done, AddressHappens, EndsHappen, StartsHappen}
pub use Rattle.tomex_cycle.specs.Run.{AreIssuedBy, ArePast, EndsWithinLimit, IsNextCycle, IsUpTo, RunEndsAfter, byte_at}
pub use Rattle.tomex_cycle.specs.Run.{steps_in}
pub use Rattle.tomex_timing.specs.Run.{total}
unfoldable pub use Rattle.tomex_cycle.specs.Run.{first_timed}
unfoldable pub use Rattle.tomex_timing.specs.Run.{run_of}
pub use Rattle.tomex_cycle.specs.Seen.{Seen, seen, seen_after, is_end, Machine}
pub use Rattle.tomex_cycle.specs.Settled.{AllSettled, IsSettled}
pub use Rattle.tomex_cycle.specs.Sound.{IsSound}
pub use Rattle.tomex_cycle.specs.Starts.{AllCanBegin, AllInside, AreLow, AreStartable, CanBegin, HaveBegun, HaveStored}
pub use Rattle.tomex_cycle.specs.Starts.{IsStarting, NoneWaits, station_after_start, station_after_start_if}
pub use Rattle.tomex_cycle.specs.Starts.{is_clear, kind_if}
pub use Rattle.tomex_cycle.specs.Starts.{kind_of, stored_at}
pub use Rattle.tomex_cycle.specs.Starts.{unit_needed, written_by, AreStartableFor, IsWanted}
pub use Rattle.tomex_cycle.specs.Views.{Clocks, Core, Front, ShowsFront, ShowsMemory, ShowsRegisters, ShowsStations}
pub use Rattle.tomex_cycle.specs.Views.{clocks, fetch_after, fetch_of, holds_place, issue_number_at, onto_end, order_of}
pub use Rattle.tomex_cycle.specs.Views.{place_of, sent_at, core, front, station_at, station_of, stop_of}
pub use Rattle.tomex_cycle.specs.declared.fetch.Fetch.{Fetch}
pub use Rattle.tomex_cycle.specs.declared.fetch.Fetch.TheVariants.{At, Stopped}
pub use Rattle.tomex_cycle.specs.declared.finishes.Finishes.{Finishes}
pub use Rattle.tomex_cycle.specs.declared.inner.Inner.{Inner}
pub use Rattle.tomex_cycle.specs.declared.progress.CycleOutcome.{CycleOutcome}
pub use Rattle.tomex_cycle.specs.declared.progress.Progress.{Progress}
pub use Rattle.tomex_cycle.specs.declared.progress.Progress.TheVariants.{Ended, Running}
pub use Rattle.std.proofs.Common.{ℕ, ◌+◌, ◌<◌, ◌≤◌, ◌≡◌, ◌∙◌, true, arith, refl, List, [], ◌∷◌, ◌++◌, Option, Some}
pub use Rattle.std.proofs.Common.{None, inl, inr, length, append_assoc, ◌-◌, false, ap, sym, Bool, zero, suc, subst}
pub use Rattle.std.proofs.Common.{◌*◌, ◌/◌, ◌%◌, slice_index_or, slice_set, ◌^◌, append-nil, replicate, max, min, take}
pub use Rattle.std.proofs.Common.{filter, rules}
pub use Rattle.tomex_rvexec.proofs.FlowRuns.{same_result, run_state}
pub use Rattle.tomex_tags.proofs.Entering.{is_busy_there, of_busy}
pub use Rattle.tomex_timing.proofs.Tests.{can_start_is, can_address_from, can_address_is, can_end_from, can_end_is}
pub use Rattle.tomex_timing.proofs.Tests.{can_issue_from, can_issue_is, can_start_from}
pub use Rattle.tomex_timing.specs.Tests.{CanStart}
pub use Rattle.tomex_bus.proofs.Listings.{in_head, in_tail}
pub use Rattle.std.proofs.lemmas.List.FromFn.{get_or-map-range_with_len, length-map-range_with_len}
pub use Rattle.tomex_tags.proofs.Serving.{pool_place}
pub use Rattle.tomex_timing.proofs.AfterEnd.{count_none, AllBy}
pub use Rattle.std.proofs.lemmas.List.Elements.{All-from_recursion, recursion_from_All, filter-append}
pub use Rattle.tomex_cycle.specs.declared.activity.Activity.{Activity}
pub use Rattle.tomex_cycle.specs.declared.activity.Activity.TheVariants.{Nothing, Starts, More}
pub use Rattle.tomex_rvexec.specs.declared.outcome.FaultKind.{FaultKind}
pub use Rattle.std.specs.Result.{result_unwrap_or}
pub use Rattle.tomex_rvexec.specs.Machine.{State}
pub use Rattle.tomex_rvexec.proofs.FlowStates.{end_writes_no_register, end_writes_no_byte}
pub use Rattle.std.proofs.Math.Numerals.{suc-eq-add-one}
pub use Rattle.std.proofs.lemmas.Grind.{common_steps}
