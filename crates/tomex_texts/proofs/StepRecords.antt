-- The record of a step: its number, the instruction at its address, and its times, with commas between them.
use Rattle.std.proofs.Common.{◌≡◌, ◌∙◌, ℕ, ◌^◌, ◌<◌, List, [], ◌∷◌, ◌++◌, All, ap, append_assoc, refl, sym}
use Rattle.std.proofs.Common.{◌+◌, ◌-◌, Option, Some, None, false, ap₂, arith, length, subst, take}
use Rattle.std.specs.List.{flat_map}
use Rattle.std.specs.Fmt.{decimal}
use Rattle.std.specs.Option.{ForSome}
use Rattle.std.proofs.Math.ListN.{set}
use Rattle.std.specs.Prelude.{unwrap_or}
use Rattle.std.proofs.Math.Seq.{take-append_seam}
use Rattle.std.proofs.lemmas.List.{append-nil, length-append, length-set}
use Rattle.std.proofs.lemmas.List.Elements.{All-set}
use Rattle.std.proofs.lemmas.List.Folds.{list_any_none}
use Rattle.csv.specs.Quoting.{needs_byte}
use Rattle.csv.specs.Writing.{default_writer, field_text, fields_text, is_blank}
use Rattle.tomex_rvdec.specs.Instruction.{Instruction}
use Rattle.tomex_rvdec.specs.Places.{name_of_pool}
use Rattle.tomex_rvdec.specs.Text.{hex8, instr_text}
use Rattle.tomex_rvdec.specs.declared.pool.PoolId.{PoolId}
use Rattle.tomex_rvdec.specs.declared.pool.PoolId.TheVariants as pools
use Rattle.tomex_rvexec.specs.Steps.{step_pool}
use Rattle.tomex_rvexec.specs.declared.step.Step.{Step}
use Rattle.tomex_timing.specs.declared.times.Times.{Times}
use Rattle.tomex_layout.specs.Csv.{record_text}
use Rattle.tomex_layout.proofs.PlainRecords.{decimal_is_plain, digits_are_plain}
use Rattle.tomex_texts.specs.Places.{AreKept, AreSmall, IsPlace, after, place_text, time_fields}
use Rattle.tomex_texts.specs.declared.places.Place.{Place}
use Rattle.tomex_texts.specs.TimesReport.{cycle_text, fields_of_step, station_text}

cycle_is_plain : (cycle : Option ℕ) → ForSome cycle (λ n. n < 2 ^ 64)
    → field_text default_writer (cycle_text cycle) ≡ cycle_text cycle
cycle_is_plain None small = refl
cycle_is_plain (Some n) small = decimal_is_plain n (small n refl)

-- the name of a pool, and digits
named_is_plain : (pool : PoolId) (digits : List ℕ) → All (λ b. needs_byte default_writer b ≡ false) digits
    → field_text default_writer (name_of_pool pool ++ digits) ≡ name_of_pool pool ++ digits
named_is_plain pools.Alu digits plain = rw (list_any_none (needs_byte default_writer) digits plain) refl
named_is_plain pools.Mul digits plain = rw (list_any_none (needs_byte default_writer) digits plain) refl
named_is_plain pools.Div digits plain = rw (list_any_none (needs_byte default_writer) digits plain) refl
named_is_plain pools.Load digits plain = rw (list_any_none (needs_byte default_writer) digits plain) refl
named_is_plain pools.Store digits plain = rw (list_any_none (needs_byte default_writer) digits plain) refl
named_is_plain pools.Bru digits plain = rw (list_any_none (needs_byte default_writer) digits plain) refl

station_is_plain : (pool : Option PoolId) (station : Option ℕ) → ForSome station (λ n. n < 2 ^ 64)
    → field_text default_writer (station_text pool station) ≡ station_text pool station
station_is_plain (Some pool) (Some n) small = named_is_plain pool (decimal n) (digits_are_plain n (small n refl))
station_is_plain (Some pool) None small = refl
station_is_plain None (Some n) small = refl
station_is_plain None None small = refl

times_are_plain : (step : Step) (at : Times) → AreSmall at
    → fields_text default_writer (time_fields step at) ≡ flat_map after (time_fields step at)
unfolding fields_text
times_are_plain step at small =
    rw (
      decimal_is_plain at.issue small.issue,
      cycle_is_plain at.address small.address,
      decimal_is_plain at.start small.start,
      decimal_is_plain at.finish small.finish,
      decimal_is_plain at.end small.end,
      station_is_plain (step_pool step) at.station small.station,
    )
    refl

-- two fields, what follows them, and an end
moved : (a b rest end : List ℕ)
    → (44 ∷ (a ++ (44 ∷ (b ++ rest)))) ++ end ≡ (44 ∷ (a ++ (44 ∷ (b ++ [])))) ++ (rest ++ end)
moved a b rest end =
    ap (λ (z : List ℕ). 44 ∷ z)
    (append_assoc a (44 ∷ (b ++ rest)) end
    ∙ (ap (λ (z : List ℕ). a ++ 44 ∷ z) (append_assoc b rest end)
    ∙ (sym (append_assoc a (44 ∷ b) (rest ++ end))
    ∙ ap (λ (z : List ℕ). (a ++ 44 ∷ z) ++ (rest ++ end)) (sym (append-nil b)))))

-- the record
pub record_of_step : (number : ℕ) (step : Step) (at : Times) → number < 2 ^ 64 → AreSmall at
    → record_text (fields_of_step number step at)
    ≡ decimal number ++ (place_text step.pc step.instr ++ (flat_map after (time_fields step at) ++ 10 ∷ []))
unfolding fields_text is_blank
record_of_step number step at few small =
    let pc = field_text default_writer (hex8 step.pc) in
    let instr = field_text default_writer (instr_text step.instr) in
    let rest = fields_text default_writer (time_fields step at) in
    ap (λ (t : List ℕ). (t ++ (44 ∷ (pc ++ (44 ∷ (instr ++ rest))))) ++ 10 ∷ []) (decimal_is_plain number few)
    ∙ (append_assoc (decimal number) (44 ∷ (pc ++ (44 ∷ (instr ++ rest)))) (10 ∷ [])
    ∙ ap (λ (t : List ℕ). decimal number ++ t)
    (moved pc instr rest (10 ∷ [])
    ∙ ap (λ (t : List ℕ). (44 ∷ (pc ++ (44 ∷ (instr ++ [])))) ++ (t ++ 10 ∷ [])) (times_are_plain step at small)))

-- a text that grew by the three pieces
pub step_added : (before first next after_all : List ℕ) (number : ℕ) (step : Step) (at : Times) → number < 2 ^ 64
    → AreSmall at → first ≡ before ++ decimal number → next ≡ first ++ place_text step.pc step.instr
    → after_all ≡ next ++ (flat_map after (time_fields step at) ++ 10 ∷ [])
    → after_all ≡ before ++ record_text (fields_of_step number step at)
step_added before first next after_all number step at few small a b c =
    let place = place_text step.pc step.instr in
    let times = flat_map after (time_fields step at) ++ 10 ∷ [] in
    c ∙ (ap (λ (t : List ℕ). t ++ times) (b ∙ ap (λ (t : List ℕ). t ++ place) a)
    ∙ (append_assoc (before ++ decimal number) place times
    ∙ (append_assoc before (decimal number) (place ++ times)
    ∙ ap (λ (t : List ℕ). before ++ t) (sym (record_of_step number step at few small)))))

-- the text of a record whose first field is empty, without its end
pub after_nothing : (pc : ℕ) (i : Instruction) (text shorter : List ℕ) (count : ℕ)
    → text ≡ record_text ([] ∷ hex8 pc ∷ instr_text i ∷ []) → count ≡ length text → shorter ≡ take (count - 1) text
    → shorter ≡ place_text pc i
unfolding is_blank
after_nothing pc i text shorter count is many less =
    let place = place_text pc i in
    let long : length (place ++ 10 ∷ []) ≡ length place + 1 = length-append place (10 ∷ []) in
    let same : length text ≡ length (place ++ 10 ∷ []) = ap length is in
    let cut : count - 1 ≡ length place = omega (arith, many, same, long) in
    less ∙ (ap₂ (λ (n : ℕ) (t : List ℕ). take n t) cut is ∙ take-append_seam place (10 ∷ []))

-- what is kept, with another place in a slot
pub kept_in : (places : List (Option Place)) (slot : ℕ) (place : Place) → AreKept places → IsPlace place
    → AreKept (set places slot (Some place))
kept_in places slot place kept is = record {
  count = length-set places slot (Some place) ∙ kept.count;
  are = All-set (λ p. ForSome p IsPlace) places slot (Some place)
      (λ other same. subst IsPlace (ap (λ (o : Option Place). unwrap_or o place) same) is) kept.are;
}
