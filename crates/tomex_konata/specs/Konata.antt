-- Steps of a run as a log of the Konata viewer: lines of fields with a tab between, cycle by cycle, and by step in a
-- cycle.
-- Source: the log format of Konata and of the simulator Onikiri2, version 4.
use Rattle.std.specs.Prelude.{◌≡◌, ℕ, zero, suc, ◌+◌, ◌-◌, ◌≤◌, ◌==◌, nat_le, nat_lt, Bool, false, ◌&&◌}
use Rattle.std.specs.Prelude.{if◌then◌else◌, List, [], ◌∷◌, ◌++◌, codes, count_by, length, Option, Some, None}
use Rattle.std.specs.List.{flat_map}
use Rattle.std.specs.Fmt.{decimal}
use Rattle.tomex_rvdec.specs.Places.{name_of_pool}
use Rattle.tomex_rvdec.specs.Text.{hex8, instr_text}
use Rattle.tomex_rvdec.specs.declared.pool.PoolId.{PoolId}
use Rattle.tomex_rvexec.specs.Steps.{is_number, j_of, k_of, step_dest, step_pool}
use Rattle.tomex_rvexec.specs.declared.step.Operand.{Operand}
use Rattle.tomex_rvexec.specs.declared.step.Step.{Step}
use Rattle.tomex_config.specs.Configuration.{Configuration}
use Rattle.tomex_timing.specs.Search.{times_in, total_of}
use Rattle.tomex_timing.specs.declared.times.Done.{Done}
use Rattle.tomex_timing.specs.declared.times.Times.{Times}
use Rattle.tomex_run_views.specs.Chart.{first_issue, stage_in}
use Rattle.tomex_run_views.specs.Excerpt.{excerpt}
use Rattle.tomex_run_views.specs.declared.stage.Stage.{Stage}
use Rattle.tomex_run_views.specs.declared.stage.Stage.TheVariants.{Issue, Address, Execute, Write, BusWait, Wait}
use Rattle.tomex_konata.specs.declared.entries.Entry.{Entry}
use Rattle.tomex_konata.specs.declared.entries.Producer.{Producer}

-- an operand's producer among some older steps: the youngest that writes it
abbrev pub producer : List Done → Option Operand → Option Producer
producer [] o = None
producer (d ∷ older) None = None
producer (d ∷ older) (Some o) =
    if is_number (step_dest d.step) o.register then Some (record { id = length older; end = d.at.end })
    else producer older (Some o)

-- a step, after older ones
abbrev pub entry_of : List Done → Done → Entry
entry_of older d = record {
  id = length older;
  step = d.step;
  at = d.at;
  j = producer older (j_of d.step);
  k = producer older (k_of d.step);
}

-- and the following steps
abbrev pub entries_from : List Done → List Step → List Times → List Entry
entries_from older (step ∷ steps) (at ∷ times) =
    entry_of older (record { step = step; at = at })
    ∷ entries_from (record { step = step; at = at } ∷ older) steps times
entries_from older _ _ = []

abbrev pub name_of_stage : Stage → List ℕ
name_of_stage Issue = codes "Is"
name_of_stage Address = codes "Ad"
name_of_stage Execute = codes "X"
name_of_stage Write = codes "Wr"
name_of_stage BusWait = codes "Bs"
name_of_stage Wait = codes "Wt"

-- its place in the list of stages, by which two of them are compared
abbrev pub place_of_stage : Stage → ℕ
place_of_stage Issue = 0
place_of_stage Address = 1
place_of_stage Execute = 2
place_of_stage Write = 3
place_of_stage BusWait = 4
place_of_stage Wait = 5

-- a line of fields
abbrev pub fields_line : List (List ℕ) → List ℕ
fields_line [] = codes "\n"
fields_line (field ∷ []) = field ++ codes "\n"
fields_line (field ∷ fields) = field ++ (codes "\t" ++ fields_line fields)

-- `I`: a step comes in; `L`: its text, and its station
abbrev pub station_line : ℕ → Option PoolId → Option ℕ → List ℕ
station_line id (Some pool) (Some station) =
    fields_line (codes "L" ∷ decimal id ∷ codes "1" ∷ (name_of_pool pool ++ decimal station) ∷ [])
station_line id _ _ = []

abbrev pub text_of : Step → List ℕ
text_of step = hex8 step.pc ++ (codes ": " ++ instr_text step.instr)

abbrev pub issue_lines : ℕ → Entry → List ℕ
issue_lines number e =
    fields_line (codes "I" ∷ decimal e.id ∷ decimal number ∷ codes "0" ∷ [])
    ++ (fields_line (codes "L" ∷ decimal e.id ∷ codes "0" ∷ text_of e.step ∷ [])
    ++ station_line e.id (step_pool e.step) e.at.station)

-- `S`: a stage begins; `E`: it ends
abbrev pub begin_line : ℕ → Stage → List ℕ
begin_line id stage = fields_line (codes "S" ∷ decimal id ∷ codes "0" ∷ name_of_stage stage ∷ [])

abbrev pub end_line : ℕ → Stage → List ℕ
end_line id stage = fields_line (codes "E" ∷ decimal id ∷ codes "0" ∷ name_of_stage stage ∷ [])

-- from the stage of a cycle to that of the next
abbrev pub turn_lines : ℕ → Option Stage → Option Stage → List ℕ
turn_lines id None (Some new) = begin_line id new
turn_lines id (Some old) (Some new) =
    if place_of_stage old == place_of_stage new then [] else end_line id old ++ begin_line id new
turn_lines id _ None = []

-- `W`: a step gets a value in the cycle in which its producer ends, unless that is before its issue
abbrev pub wake_line : ℕ → Times → ℕ → Option Producer → List ℕ
wake_line id at t None = []
wake_line id at t (Some p) =
    if p.end == t && nat_le at.issue t
    then fields_line (codes "W" ∷ decimal id ∷ decimal p.id ∷ codes "0" ∷ [])
    else []

abbrev pub is_shared : Option Producer → Option Producer → Bool
is_shared (Some j) (Some k) = j.id == k.id
is_shared _ _ = false

-- of both operands, and only once if they have the same producer
abbrev pub wake_lines : ℕ → Entry → List ℕ
wake_lines t e = wake_line e.id e.at t e.j ++ (if is_shared e.j e.k then [] else wake_line e.id e.at t e.k)

-- the lines of a step in a cycle; `number` is that of the first step shown
unfoldable pub step_lines : ℕ → ℕ → Entry → List ℕ
step_lines number t e =
    (if t == e.at.issue then issue_lines (number + e.id) e else [])
    ++ (turn_lines e.id (stage_in e.at (t - 1)) (stage_in e.at t) ++ wake_lines t e)

-- `R`: a step goes out in the cycle after its end, after `gone` others
abbrev pub leave_lines : ℕ → ℕ → Option Stage → List ℕ
leave_lines gone id None = []
leave_lines gone id (Some stage) =
    end_line id stage ++ fields_line (codes "R" ∷ decimal id ∷ decimal gone ∷ codes "0" ∷ [])

unfoldable pub out_lines : ℕ → Entry → List ℕ
out_lines gone e = leave_lines gone e.id (stage_in e.at e.at.end)

abbrev pub goes_out : ℕ → Entry → Bool
goes_out t e = e.at.end + 1 == t

-- the lines of the steps that go out in a cycle, after `gone` others
abbrev pub outs_in : ℕ → ℕ → List Entry → List ℕ
outs_in t gone [] = []
outs_in t gone (e ∷ es) = if goes_out t e then out_lines gone e ++ outs_in t (gone + 1) es else outs_in t gone es

-- the number of steps that went out before a cycle
abbrev pub gone_before : ℕ → List Entry → ℕ
gone_before t es = count_by (λ e. nat_lt (e.at.end + 1) t) es

-- the lines of a cycle
abbrev pub lines_in : ℕ → ℕ → List Entry → List ℕ
lines_in number t es = flat_map (step_lines number t) es ++ outs_in t (gone_before t es) es

-- `C`: the number of cycles since the last one with lines
abbrev pub cycles_line : ℕ → List ℕ
cycles_line zero = []
cycles_line (suc n) = fields_line (codes "C" ∷ decimal (suc n) ∷ [])

-- a cycle's lines, after the n cycles since the last one with lines; none if nothing happens
abbrev pub with_cycle : ℕ → List ℕ → List ℕ
with_cycle n [] = []
with_cycle n (x ∷ lines) = cycles_line n ++ (x ∷ lines)

-- and then the last one with lines
abbrev pub next_since : ℕ → ℕ → List ℕ → ℕ
next_since since t [] = since
next_since since t (x ∷ lines) = t

-- the log of n cycles from t on; the last one with lines was `since`
abbrev pub cycles_of : ℕ → List Entry → ℕ → ℕ → ℕ → List ℕ
cycles_of number es since t zero = []
cycles_of number es since t (suc n) =
    with_cycle (t - since) (lines_in number t es)
    ++ cycles_of number es (next_since since t (lines_in number t es)) (t + 1) n

-- the head of a log: its format, and the cycle from which it counts
abbrev pub head_of : ℕ → List ℕ
head_of first = fields_line (codes "Kanata" ∷ codes "0004" ∷ []) ++ fields_line (codes "C=" ∷ decimal first ∷ [])

-- the log of steps with these times, the first of which has this number, up to the cycle in which the last one goes
-- out. Nothing happens before the first one's issue.
abbrev pub log_of : ℕ → List Step → List Times → List ℕ
log_of number steps times =
    head_of (first_issue times)
    ++ cycles_of number (entries_from [] steps times) (first_issue times) 0 (total_of times + 2)

-- the text is the log of the requested steps
pub record IsLogOf (config : Configuration) (steps : List Step) (number count : ℕ) (text : List ℕ) : Type 0 where
  pub there : number ≤ length steps
  pub is : text ≡ log_of number (excerpt number count steps) (excerpt number count (times_in config steps))
