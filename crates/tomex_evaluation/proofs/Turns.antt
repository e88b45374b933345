-- One block more: from the table, or evaluated.
use Rattle.std.proofs.Common.{ℕ, ◌+◌, ◌<◌, ◌≤◌, ◌≡◌, ◌^◌, arith, refl, sym, List, Option}
use Rattle.std.proofs.Common.{Some, None, Bool, inl, inr, subst}
use Rattle.std.proofs.Common.{IfSome}
use Rattle.std.proofs.lemmas.Bool.{cases_Bool}
use Rattle.std.proofs.Common.{drop, get_or, length, slice_get}
use Rattle.std.specs.List.{Contains}
use Rattle.std.specs.Prelude.{slice_index}
use Rattle.std.proofs.lemmas.List.Elements.{Contains-get_or}
use Rattle.std.proofs.lemmas.Option.{get_or_from_slice_get, slice_get_within}
use Rattle.tomex_rvexec.specs.declared.step.Step.{Step}
use Rattle.tomex_config.specs.Configuration.{Configuration}
use Rattle.tomex_alike.specs.Laws.{first_issue_at, history_to}
use Rattle.tomex_alike.proofs.Runs.{no_less}
use Rattle.tomex_repeats.specs.Blocks.{Blocks}
use Rattle.tomex_repeats.specs.declared.blocks.Block.{Block}
use Rattle.tomex_repeats.proofs.SameBlocks.{row_within}
use Rattle.tomex_states.specs.States.{ShowsState}
use Rattle.tomex_states.specs.declared.state.State.{State}
use Rattle.tomex_evaluation.specs.Kept.{HasEntry, HasEntryIf, IsNoted, IsNumbered, entry_of, entry_place, fits_in_entry}
use Rattle.tomex_evaluation.specs.Known.{AreKnown, IsAt, IsBefore, IsEntry, IsInKept, StandsAt, kept_of}
use Rattle.tomex_evaluation.specs.Places.{IsCut}
use Rattle.tomex_evaluation.specs.declared.evaluation.Evaluation.{Evaluation}
use Rattle.tomex_evaluation.specs.declared.evaluation.Standing.{Standing}
use Rattle.tomex_evaluation.specs.declared.evaluation.Standing.TheVariants.{Evaluated, Kept}
use Rattle.tomex_evaluation.specs.declared.known.Known.{Known}
use Rattle.tomex_evaluation.specs.declared.known.Next.{Next}
use Rattle.tomex_evaluation.proofs.Again.{IsAgain, block_again}
use Rattle.tomex_evaluation.proofs.Keeping.{entry_there, known_noted, known_on}
use Rattle.tomex_evaluation.proofs.Numbered.{IsKnownAs, known_as}
use Rattle.tomex_evaluation.proofs.Row.{block_is, end_at_most, first_at_most, row_next}

-- the k-th block of the row is one of its blocks
pub block_there : (run : Blocks) (k : ℕ) (b : Block) → slice_get run.blocks k ≡ Some b → Contains run.blocks b
block_there run k b get =
    rw (get_or_from_slice_get run.blocks k b b get) at
    (Contains-get_or run.blocks k b (slice_get_within run.blocks k b get))

-- after a block the next step issues no earlier
pub passes : (config : Configuration) (steps : List Step) (run : Blocks) (b : Block) → IsCut config steps run
    → Contains run.blocks b → first_issue_at config steps b.first ≤ first_issue_at config steps b.end
passes config steps run b cut there =
    let block = block_is config steps run cut b there in
    (no_less config steps cut.limits b.first b.end (omega (arith, block.some)) block.within).first

module _ {A : Type 0} (config : Configuration) (steps : List Step) (run : Blocks) where
  -- the place of a block of the row is within the run
  pub place_within : (k : ℕ) (e : Evaluation A) (before : IsBefore config steps run k e) → before.place ≤ length steps
  place_within k e before = (row_within before.place (drop k run.blocks) (length steps) before.row).0

  pub time_small : (k : ℕ) (e : Evaluation A) → IsBefore config steps run k e → e.time < 2 ^ 63
  time_small k e before =
      let l = place_within k e before in
      let first = first_at_most config steps run before.cut before.place l in
      let end = end_at_most config steps run before.cut before.place l in
      omega (arith, before.at.time, first, end)

  -- the entry for a kept state and a block is in the table
  pub entry_is_there : (k v : ℕ) (e : Evaluation A) (b : Block) → IsBefore config steps run k e → e.standing ≡ Kept v
      → slice_get run.blocks k ≡ Some b
      → entry_place e.known.different v b.number < length e.known.next.items
  entry_is_there k v e b before stands get =
      let at = before.at in
      let there = block_there run k b get in
      let in_kept : IsInKept config steps at.places before.place v = rw stands at at.stands in
      let number = (block_is config steps run before.cut b there).number in
      let in_row = entry_there e.known.different v b.number (length at.places) in_kept.number
      (omega (arith, number, at.known.different)) in
      omega (arith, in_row, at.known.rows)

  -- One block from the table.
  pub followed : (k v : ℕ) (e : Evaluation A) (b : Block) (next : Next) → IsBefore config steps run k e
      → e.standing ≡ Kept v → slice_get run.blocks k ≡ Some b → entry_of e.known v b.number ≡ Some next
      → IsBefore config steps run (k + 1) (record e { standing = Kept next.state; time = e.time + next.passed })
  followed k v e b next before stands get entry =
      let i = before.place in
      let is = get_or_from_slice_get run.blocks k b b get in
      let l = slice_get_within run.blocks k b get in
      let row = rw is at (row_next i (length steps) k run.blocks b l before.row) in
      let there = block_there run k b get in
      let block = block_is config steps run before.cut b there in
      let at = before.at in
      let in_kept : IsInKept config steps at.places i v = rw stands at at.stands in
      let number : b.number < e.known.different = omega (arith, block.number, at.known.different) in
      let so = at.known.entries v b.number next in_kept.number number entry in
      let first : b.first ≡ i = row.0 in
      let again : IsAgain config steps (slice_index at.places next.state) i b.end next.passed =
      rw first at (block_again config steps run before.cut b (slice_index at.places v)
      (slice_index at.places next.state) next.passed there (rw first so.went)
      (rw first in_kept.back)) in
      record {
        cut = before.cut;
        within = omega arith;
        place = b.end;
        row = row.1;
        at = record {
          places = at.places;
          known = known_on config steps run i b.end at.places e.known (omega (arith, first, block.some)) at.known;
          stands = record { number = so.state; back = again.after };
          time = rw at.time (sym again.later);
          noted = again.noted e.demands at.noted;
        };
      }

  -- One entry more, of a block that was evaluated.
  noted_entry : (b : Block) (old : List ℕ) (from to passed : ℕ) (known after : Known A) → IsCut config steps run
      → Contains run.blocks b → (is_known : IsKnownAs config steps run b.end old known (Some to))
      → IsInKept config steps old b.first from
      → first_issue_at config steps b.end ≡ first_issue_at config steps b.first + passed
      → HasEntry known after from b.number (record { state = to; passed = passed })
      → AreKnown config steps run b.end is_known.places after
  noted_entry b old from to passed known after cut there is_known in_kept later noted =
      let block = block_is config steps run cut b there in
      let l : from < length is_known.places = omega (arith, in_kept.number, is_known.more) in
      let next : Next = record { state = to; passed = passed } in
      let entry : IsEntry config steps run b.end is_known.places from b.number next = record {
        state = is_known.number.number;
        went = record {
          block = b;
          there = there;
          numbered = refl;
          ended = omega arith;
          before = rw (is_known.same from in_kept.number) in_kept.back;
          after = is_known.number.back;
          later = later;
        };
      } in
      known_noted config steps run b.end is_known.places known after from b.number next is_known.known l
      (omega (arith, block.number, is_known.known.different)) entry noted.states noted.different noted.next

  -- the kept state that the run is in, if there is one
  pub kept_in : (places : List ℕ) (i v : ℕ) (state : State A) (standing : Standing)
      → StandsAt config steps places i state standing → kept_of standing ≡ Some v → IsInKept config steps places i v
  kept_in places i v state (Evaluated kept) stands is = rw is at stands.1
  kept_in places i v state (Kept w) stands is = let e : w ≡ v = cc in rw e at stands

  -- what is known after a block was evaluated, and the state after it was given a number
  pub known_after : (b : Block) (e : Evaluation A) (state : State A) (after : Known A) (number : Option ℕ)
      → (cut : IsCut config steps run) → Contains run.blocks b → (at : IsAt config steps run b.first e)
      → ShowsState config (history_to config steps b.end) state → IsNumbered config state e.known after number
      → IsKnownAs config steps run b.end at.places after number
  known_after b e state after number cut there at shows numbered =
      let block = block_is config steps run cut b there in
      let so = known_on config steps run b.first b.end at.places e.known (omega (arith, block.some)) at.known in
      known_as config steps run cut b.end at.places state e.known after shows so number numbered

  -- and after what follows was noted
  pub known_then : (b : Block) (e : Evaluation A) (known after : Known A) (from to : Option ℕ) (passed : ℕ)
      → IsCut config steps run → Contains run.blocks b → (at : IsAt config steps run b.first e)
      → (is_known : IsKnownAs config steps run b.end at.places known to) → kept_of e.standing ≡ from
      → first_issue_at config steps b.end ≡ first_issue_at config steps b.first + passed
      → IsNoted known after from b.number to passed → AreKnown config steps run b.end is_known.places after
  known_then b e known after (Some v) (Some w) passed cut there at is_known is later noted =
      elim (cases_Bool (fits_in_entry (record { state = w; passed = passed }))) [
        | inl fits ↦
            noted_entry b at.places v w passed known after cut there is_known
            (kept_in at.places b.first v e.state e.standing at.stands is) later
            (subst (λ (x : Bool). HasEntryIf x known after v b.number (record { state = w; passed = passed })) fits
            noted)
        | inr not ↦
            let same : after ≡ known =
            subst (λ (x : Bool). HasEntryIf x known after v b.number (record { state = w; passed = passed })) not noted
            in
            rw same is_known.known
      ]
  known_then b e known after (Some v) None passed cut there at is_known is later noted = rw noted is_known.known
  known_then b e known after None to passed cut there at is_known is later noted = rw noted is_known.known

  -- what follows can be noted
  pub can_note : (b : Block) (e : Evaluation A) (known : Known A) (from to : Option ℕ) → IsCut config steps run
      → Contains run.blocks b → (at : IsAt config steps run b.first e)
      → (is_known : IsKnownAs config steps run b.end at.places known to) → kept_of e.standing ≡ from
      → IfSome from (λ v. IfSome to
      (λ w. entry_place known.different v b.number < length known.next.items))
  can_note b e known (Some v) (Some w) cut there at is_known is =
      let block = block_is config steps run cut b there in
      let in_kept = kept_in at.places b.first v e.state e.standing at.stands is in
      let in_row = entry_there known.different v b.number (length is_known.places)
      (omega (arith, in_kept.number, is_known.more)) (omega (arith, block.number, is_known.known.different)) in
      omega (arith, in_row, is_known.known.rows)
  can_note b e known (Some v) None cut there at is_known is = tt
  can_note b e known None to cut there at is_known is = tt

  -- The evaluation after the k-th block is before the next one.
  pub before_next : (k : ℕ) (z : Block) (e after : Evaluation A) → IsBefore config steps run k e
      → k < length run.blocks → IsAt config steps run (get_or run.blocks k z).end after
      → IsBefore config steps run (k + 1) after
  before_next k z e after before l at = record {
    cut = before.cut;
    within = omega arith;
    place = (get_or run.blocks k z).end;
    row = (row_next before.place (length steps) k run.blocks z l before.row).1;
    at = at;
  }
