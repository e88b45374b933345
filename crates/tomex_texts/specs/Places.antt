-- The code's own words: the fields of a step's record after its number, and what is kept of them.
use Rattle.std.specs.Prelude.{◌≡◌, ◌<◌, ◌^◌, ℕ, List, [], ◌∷◌, length, All, Option}
use Rattle.std.specs.Fmt.{decimal}
use Rattle.std.specs.Option.{ForSome}
use Rattle.csv.specs.Writing.{default_writer, fields_text}
use Rattle.tomex_rvdec.specs.Instruction.{Instruction}
use Rattle.tomex_rvdec.specs.Text.{hex8, instr_text}
use Rattle.tomex_rvexec.specs.Steps.{step_pool}
use Rattle.tomex_rvexec.specs.declared.step.Step.{Step}
use Rattle.tomex_timing.specs.declared.times.Times.{Times}
use Rattle.tomex_texts.specs.TimesReport.{cycle_text, station_text}
use Rattle.tomex_texts.specs.declared.places.Place.{Place}

abbrev pub place_text : ℕ → Instruction → List ℕ
place_text pc i = fields_text default_writer (hex8 pc ∷ instr_text i ∷ [])

abbrev pub IsPlace : Place → Type 0
IsPlace place = place.text.items ≡ place_text place.pc place.instr

pub record AreKept (places : List (Option Place)) : Type 0 where
  pub count : length places ≡ 1024
  pub are : All (λ place. ForSome place IsPlace) places

-- a field after a comma
abbrev pub after : List ℕ → List ℕ
after field = 44 ∷ field

-- the fields of a step's times
abbrev pub time_fields : Step → Times → List (List ℕ)
time_fields step at =
    decimal at.issue ∷ cycle_text at.address ∷ decimal at.start ∷ decimal at.finish ∷ decimal at.end
    ∷ station_text (step_pool step) at.station ∷ []

-- all numbers of a step's times are of 64 bits
pub record AreSmall (at : Times) : Type 0 where
  pub issue : at.issue < 2 ^ 64
  pub address : ForSome at.address (λ n. n < 2 ^ 64)
  pub start : at.start < 2 ^ 64
  pub finish : at.finish < 2 ^ 64
  pub end : at.end < 2 ^ 64
  pub station : ForSome at.station (λ n. n < 2 ^ 64)
