-- A run's critical path, as the views of its cycles show it: whose a cycle is, and after which step it could go on.
use Rattle.std.specs.Prelude.{ℕ, ◌-◌, ◌==◌, ◌<◌, ◌≤◌, nat_le, Bool, true, false, if◌then◌else◌, List, [], ◌∷◌, ◌++◌}
use Rattle.std.specs.Prelude.{codes, Option, Some, None, slice_get}
use Rattle.std.specs.List.{find}
use Rattle.std.specs.Option.{option_map}
use Rattle.std.specs.Fmt.{decimal}
use Rattle.tomex_rvdec.specs.Text.{instr_text}
use Rattle.tomex_rvexec.specs.declared.step.Step.{Step}
use Rattle.tomex_config.specs.declared.part.Part.TheVariants.{Stations, Units, Buses, Width}
use Rattle.tomex_path.specs.declared.link.Link.{Link}
use Rattle.tomex_path.specs.declared.reason.Reason.{Reason}
use Rattle.tomex_path.specs.declared.reason.Reason.TheVariants as reasons
use Rattle.tomex_frames.specs.Cells.{cause_text}
use Rattle.tomex_frames.specs.declared.doing.Cause.{Cause}
use Rattle.tomex_frames.specs.declared.doing.Cause.TheVariants as causes
use Rattle.tomex_frames.specs.declared.on_path.OnPath.{OnPath}

-- each link, with the one before it
abbrev pub with_before : Option Link → List Link → List OnPath
with_before before [] = []
with_before before (l ∷ ls) = record { before = before; link = l } ∷ with_before (Some l) ls

-- the link with a cycle: the first that ends no earlier
abbrev pub at_cycle : ℕ → List Link → Option OnPath
at_cycle t path = find (λ place. nat_le t place.link.to) (with_before None path)

-- the step whose row has a frame
abbrev pub framed_step : Option OnPath → Option ℕ
framed_step place = option_map (λ place. place.link.step) place

-- what a row says while its step waits for a reason; one that is in its turn waits for nothing
abbrev pub cause_of : Reason → Option Cause
cause_of (reasons.For (Stations pool)) = Some causes.Station
cause_of (reasons.For (Units unit)) = Some causes.Unit
cause_of (reasons.For Buses) = Some causes.Bus
cause_of (reasons.For Width) = Some causes.Width
cause_of reasons.Branch = Some causes.Branch
cause_of reasons.Operand = Some causes.Operand
cause_of reasons.Address = Some causes.Address
cause_of reasons.Memory = Some causes.Memory
cause_of reasons.Order = None

abbrev pub cause_or_turn : Option Cause → List ℕ
cause_or_turn None = codes "order"
cause_or_turn (Some cause) = cause_text cause

abbrev pub reason_word : Reason → List ℕ
reason_word reason = cause_or_turn (cause_of reason)

-- a link's cycles
abbrev pub span_text : Link → List ℕ
span_text l =
    if l.from == l.to then codes "cycle " ++ decimal l.from
    else codes "cycles " ++ (decimal l.from ++ (codes "&#8211;" ++ decimal l.to))

abbrev pub step_text : Option Step → List ℕ
step_text None = []
step_text (Some step) = instr_text step.instr

-- after which step a link begins, and what its own step had waited for
abbrev pub held_after : List Step → Reason → Option Link → List ℕ
held_after steps reason None = codes "the first"
held_after steps reason (Some before) =
    codes "after " ++ (decimal before.step ++ (codes " " ++ (step_text (slice_get steps (before.step - 1))
    ++ (codes " (" ++ (reason_word reason ++ codes ")")))))

unfoldable pub path_words : List Step → OnPath → List ℕ
path_words steps place =
    (codes "On the path: " ++ (decimal place.link.step ++ (codes " in " ++ (span_text place.link ++ codes ", "))))
    ++ held_after steps place.link.reason place.before

-- a link is new in its first cycle
abbrev pub begins : ℕ → OnPath → Bool
begins t place = place.link.from == t

abbrev pub line_start : Bool → List ℕ
line_start true = codes "<p><span class=\"n\">"
line_start false = codes "<p><span>"

unfoldable pub place_line : List Step → ℕ → OnPath → List ℕ
place_line steps t place = line_start (begins t place) ++ (path_words steps place ++ codes "</span></p>\n")

-- the path's line in the view of a cycle
abbrev pub path_line : List Step → ℕ → Option OnPath → List ℕ
path_line steps t None = []
path_line steps t (Some place) = place_line steps t place

-- each link's step is one of a run's steps
abbrev pub IsOfRun : ℕ → Link → Type 0
IsOfRun count l = (0 < l.step) × (l.step ≤ count)
