-- In as many cycles as a step waits by a cause its row says so.
use Rattle.std.proofs.Common.{ℕ, ◌+◌, ◌-◌, ◌<◌, ◌≤◌, ◌≡◌, ◌∙◌, ap, Bool, true, false, cond, arith, refl, inl, inr}
use Rattle.std.proofs.Common.{Option, Some, None, List}
use Rattle.std.specs.Prelude.{◌⊎◌, codes, nat_le, nat_lt, count_by}
use Rattle.std.specs.List.{range_with_len}
use Rattle.std.specs.Str.{bytes_eq}
use Rattle.std.proofs.lemmas.Bool.{and_right, cases_Bool, cases_lt, eq-eqb, le-leb, le-ltb, lt-leb, lt-ltb, ne_eqb}
use Rattle.tomex_rvexec.specs.Steps.{is_number}
use Rattle.tomex_timing.specs.Ahead.{one}
use Rattle.tomex_timing.specs.Needs.{cycles_that}
use Rattle.tomex_snapshots.specs.declared.entries.Entry.{Entry}
use Rattle.tomex_frames.specs.Cells.{doing_in, doing_text, issue_cause, start_cause}
use Rattle.tomex_frames.specs.Laws.{ShowsWaits, cycles_with}
use Rattle.tomex_frames.specs.declared.doing.Cause.{Cause}
use Rattle.tomex_frames.specs.declared.doing.Cause.TheVariants as causes
use Rattle.tomex_frames.specs.declared.doing.Doing.{Doing}
use Rattle.tomex_frames.specs.declared.doing.Doing.TheVariants.{Issues, Computes, Executes, Writes, Waits as WaitsFor}
use Rattle.tomex_timing.proofs.Bands.{four_ways}
use Rattle.tomex_frames.proofs.Counts.{cut, same}

-- how the times and the waits of a step are related
pub record IsPlaced (last : ℕ) (e : Entry) : Type 0 where
  pub low : 0 < e.from
  pub order : e.from ≤ e.at.issue
  pub issue : e.waits.branch + e.waits.width + e.waits.station ≡ e.at.issue - e.from
  pub begun : e.at.issue ≤ e.at.start
  pub start : e.waits.operand + e.waits.address + e.waits.memory + e.waits.unit ≡ e.at.start - (e.at.issue + 1)
  pub finish : e.at.start ≤ e.at.finish
  pub end : e.at.finish ≤ e.at.end
  pub bus : e.waits.bus ≡ e.at.end - (e.at.finish + 1)
  pub within : e.at.end ≤ last
  pub address : (a : ℕ) → e.at.address ≡ Some a
      → (e.at.issue < a) × (a < e.at.start) × (a ≤ e.at.issue + e.waits.operand + e.waits.address)

abbrev pub waits_for : Cause → Option Doing
waits_for cause = Some (WaitsFor cause)

-- no cycle but that of the address is its cycle
not_address : (address : Option ℕ) (t : ℕ) → ((a : ℕ) → address ≡ Some a → a ≡ t → ⊥) → is_number address t ≡ false
not_address None t other = refl
not_address (Some a) t other = ne_eqb a t (other a refl)

module _ (last : ℕ) (e : Entry) (placed : IsPlaced last e) where
  -- before the issue

  pub before : (t : ℕ) → t < e.from → doing_in t e ≡ None
  unfolding doing_in
  before t l = rw (lt-ltb t e.at.issue (omega (arith, placed.order)), lt-leb e.from t l) refl

  to_issue : (t : ℕ) → e.from ≤ t → t < e.at.issue → doing_in t e ≡ Some (WaitsFor (issue_cause e.waits (t - e.from)))
  unfolding doing_in
  to_issue t l m = rw (lt-ltb t e.at.issue m, le-leb e.from t l, lt-ltb t e.at.issue m) refl

  pub for_branch : (t : ℕ) → e.from ≤ t → t < e.from + e.waits.branch → doing_in t e ≡ waits_for causes.Branch
  for_branch t l m = to_issue t l (omega (arith, placed.issue, placed.order))
      ∙ rw (lt-ltb (t - e.from) e.waits.branch (omega arith)) refl

  pub for_width : (t : ℕ) → e.from + e.waits.branch ≤ t → t < e.from + e.waits.branch + e.waits.width
      → doing_in t e ≡ waits_for causes.Width
  for_width t l m = to_issue t (omega arith) (omega (arith, placed.issue, placed.order))
      ∙ rw (
        le-ltb (t - e.from) e.waits.branch (omega arith),
        lt-ltb (t - e.from - e.waits.branch) e.waits.width (omega arith),
      ) refl

  pub for_station : (t : ℕ) → e.from + e.waits.branch + e.waits.width ≤ t → t < e.at.issue
      → doing_in t e ≡ waits_for causes.Station
  for_station t l m = to_issue t (omega arith) m
      ∙ rw (
        le-ltb (t - e.from) e.waits.branch (omega arith),
        le-ltb (t - e.from - e.waits.branch) e.waits.width (omega arith),
      ) refl

  pub at_issue : (t : ℕ) → e.at.issue ≤ t → t < e.at.issue + 1 → doing_in t e ≡ Some Issues
  unfolding doing_in
  at_issue t l m = rw (
    le-ltb t e.at.issue l,
    le-ltb e.at.end t (omega (arith, placed.begun, placed.finish, placed.end)),
    eq-eqb t e.at.issue (omega arith),
  ) refl

  -- before the start

  pub computes : (t : ℕ) → e.at.issue < t → t < e.at.start → is_number e.at.address t ≡ true
      → doing_in t e ≡ Some Computes
  unfolding doing_in
  computes t l m here = rw (
    le-ltb t e.at.issue (omega arith),
    le-ltb e.at.end t (omega (arith, placed.finish, placed.end)),
    ne_eqb t e.at.issue (λ (x : t ≡ e.at.issue). absurd (omega arith)),
    here,
  ) refl

  pub to_start : (t : ℕ) → e.at.issue < t → t < e.at.start → is_number e.at.address t ≡ false
      → doing_in t e ≡ Some (WaitsFor (start_cause e.waits (t - (e.at.issue + 1))))
  unfolding doing_in
  to_start t l m other = rw (
    le-ltb t e.at.issue (omega arith),
    le-ltb e.at.end t (omega (arith, placed.finish, placed.end)),
    ne_eqb t e.at.issue (λ (x : t ≡ e.at.issue). absurd (omega arith)),
    other,
    lt-leb e.at.start t m,
    ne_eqb t e.at.end (λ (x : t ≡ e.at.end). absurd (omega (arith, placed.finish, placed.end))),
    le-ltb e.at.finish t (omega (arith, placed.finish)),
  ) refl

  -- the cycle from which on the operands are there, and the address
  abbrev ready : ℕ
  ready = e.at.issue + 1 + (e.waits.operand + e.waits.address)

  for_operands : (t : ℕ) → e.at.issue + 1 ≤ t → t < ready
      → (doing_in t e ≡ waits_for causes.Operand)
      ⊎ ((doing_in t e ≡ waits_for causes.Address) ⊎ (doing_in t e ≡ Some Computes))
  for_operands t l m = elim (cases_Bool (is_number e.at.address t)) [
    | inl here ↦ inr (inr (computes t (omega arith) (omega (arith, placed.start)) here))
    | inr other ↦
        let waits = to_start t (omega arith) (omega (arith, placed.start)) other in
        elim (cases_lt (t - (e.at.issue + 1)) e.waits.operand) [
          | inl k ↦ inl (waits ∙ rw (lt-ltb (t - (e.at.issue + 1)) e.waits.operand k) refl)
          | inr k ↦ inr (inl (waits ∙ rw (
            le-ltb (t - (e.at.issue + 1)) e.waits.operand k,
            lt-ltb (t - (e.at.issue + 1) - e.waits.operand) e.waits.address (omega arith),
          ) refl))
        ]
  ]

  past_address : (t : ℕ) → ready ≤ t → is_number e.at.address t ≡ false
  past_address t l = not_address e.at.address t
      (λ a is here. let bound = placed.address a is in absurd (omega (arith, bound)))

  pub for_memory : (t : ℕ) → ready ≤ t → t < ready + e.waits.memory → doing_in t e ≡ waits_for causes.Memory
  for_memory t l m = to_start t (omega arith) (omega (arith, placed.start)) (past_address t l)
      ∙ rw (
        le-ltb (t - (e.at.issue + 1)) e.waits.operand (omega arith),
        le-ltb (t - (e.at.issue + 1) - e.waits.operand) e.waits.address (omega arith),
        lt-ltb (t - (e.at.issue + 1) - e.waits.operand - e.waits.address) e.waits.memory (omega arith),
      ) refl

  pub for_unit : (t : ℕ) → ready + e.waits.memory ≤ t → t < ready + e.waits.memory + e.waits.unit
      → doing_in t e ≡ waits_for causes.Unit
  for_unit t l m = to_start t (omega arith) (omega (arith, placed.start)) (past_address t (omega arith))
      ∙ rw (
        le-ltb (t - (e.at.issue + 1)) e.waits.operand (omega arith),
        le-ltb (t - (e.at.issue + 1) - e.waits.operand) e.waits.address (omega arith),
        le-ltb (t - (e.at.issue + 1) - e.waits.operand - e.waits.address) e.waits.memory (omega arith),
      ) refl

  -- from the start on

  started : (t : ℕ) → e.at.start ≤ t → is_number e.at.address t ≡ false
  started t l = not_address e.at.address t
      (λ a is here. let bound = placed.address a is in absurd (omega (arith, bound)))

  pub executes : (t : ℕ) → ready + e.waits.memory + e.waits.unit ≤ t → t < e.at.finish + 1
      → doing_in t e ≡ Some Executes
  unfolding doing_in
  executes t l m = rw (
    le-ltb t e.at.issue (omega arith),
    le-ltb e.at.end t (omega (arith, placed.end)),
    ne_eqb t e.at.issue (λ (x : t ≡ e.at.issue). absurd (omega arith)),
    started t (omega (arith, placed.start)),
    le-leb e.at.start t (omega (arith, placed.start)),
    le-leb t e.at.finish (omega arith),
  ) refl

  pub for_bus : (t : ℕ) → e.at.finish + 1 ≤ t → t < e.at.finish + 1 + e.waits.bus → doing_in t e ≡ waits_for causes.Bus
  unfolding doing_in
  for_bus t l m = rw (
    le-ltb t e.at.issue (omega (arith, placed.begun, placed.finish)),
    le-ltb e.at.end t (omega (arith, placed.bus)),
    ne_eqb t e.at.issue (λ (x : t ≡ e.at.issue). absurd (omega (arith, placed.begun, placed.finish))),
    started t (omega (arith, placed.finish)),
    le-leb e.at.start t (omega (arith, placed.finish)),
    lt-leb t e.at.finish (omega arith),
    ne_eqb t e.at.end (λ (x : t ≡ e.at.end). absurd (omega (arith, placed.bus))),
    lt-ltb e.at.finish t (omega arith),
  ) refl

  pub writes : (t : ℕ) → e.at.finish + 1 + e.waits.bus ≤ t → t < e.at.end + 1 → doing_in t e ≡ Some Writes
  unfolding doing_in
  writes t l m = rw (
    le-ltb t e.at.issue (omega (arith, placed.begun, placed.finish)),
    le-ltb e.at.end t (omega arith),
    ne_eqb t e.at.issue (λ (x : t ≡ e.at.issue). absurd (omega (arith, placed.begun, placed.finish))),
    started t (omega (arith, placed.finish)),
    le-leb e.at.start t (omega (arith, placed.finish)),
    lt-leb t e.at.finish (omega arith),
    eq-eqb t e.at.end (omega (arith, placed.bus)),
  ) refl

  pub after : (t : ℕ) → e.at.end + 1 ≤ t → doing_in t e ≡ None
  unfolding doing_in
  after t l =
      let late : e.at.issue ≤ t = omega (arith, placed.begun, placed.finish, placed.end) in
      rw (
        le-ltb t e.at.issue late,
        lt-ltb e.at.end t (omega arith),
        and_right (nat_le e.from t) (nat_lt t e.at.issue) (le-ltb t e.at.issue late),
      ) refl

  -- the cycles of a stretch in which the step does the same
  stretch : (p : Option Doing → Bool) (doing : Option Doing) (n from to : ℕ) → to - from ≡ n
      → ((t : ℕ) → from ≤ t → t < to → doing_in t e ≡ doing)
      → cycles_that (λ t. p (doing_in t e)) from to ≡ cond (p doing) n 0
  stretch p doing n from to long each =
      same (λ t. p (doing_in t e)) (p doing) from to (λ t l m. ap p (each t l m)) ∙ ap (λ k. cond (p doing) k 0) long

  abbrev in_stretch : (Option Doing → Bool) → Option Doing → ℕ → ℕ
  in_stretch p doing n = cond (p doing) n 0

  -- the cycles up to the issue that pass a test of what the step does in them, and those from then on
  up_to_issue : (p : Option Doing → Bool) → cycles_that (λ t. p (doing_in t e)) 1 (e.at.issue + 1)
      ≡ in_stretch p None (e.from - 1) + in_stretch p (waits_for causes.Branch) e.waits.branch
      + in_stretch p (waits_for causes.Width) e.waits.width + in_stretch p (waits_for causes.Station) e.waits.station
      + in_stretch p (Some Issues) 1
  up_to_issue p =
      let q : ℕ → Bool = λ t. p (doing_in t e) in
      let branch : ℕ = e.from + e.waits.branch in
      let width : ℕ = branch + e.waits.width in
      let x1 = cut q 1 e.from (e.at.issue + 1) (omega (arith, placed.low)) (omega (arith, placed.order)) in
      let x2 = cut q e.from branch (e.at.issue + 1) (omega arith) (omega (arith, placed.issue, placed.order)) in
      let x3 = cut q branch width (e.at.issue + 1) (omega arith) (omega (arith, placed.issue, placed.order)) in
      let x4 = cut q width e.at.issue (e.at.issue + 1) (omega (arith, placed.issue, placed.order)) (omega arith) in
      let y1 = stretch p None (e.from - 1) 1 e.from refl (λ t l m. before t m) in
      let y2 = stretch p (waits_for causes.Branch) e.waits.branch e.from branch (omega arith) for_branch in
      let y3 = stretch p (waits_for causes.Width) e.waits.width branch width (omega arith) for_width in
      let y4 = stretch p (waits_for causes.Station) e.waits.station width e.at.issue
      (omega (arith, placed.issue, placed.order)) for_station in
      let y5 = stretch p (Some Issues) 1 e.at.issue (e.at.issue + 1) (omega arith) at_issue in
      omega arith

  from_ready : (p : Option Doing → Bool) → cycles_that (λ t. p (doing_in t e)) ready (last + 1)
      ≡ in_stretch p (waits_for causes.Memory) e.waits.memory + in_stretch p (waits_for causes.Unit) e.waits.unit
      + in_stretch p (Some Executes) (e.at.finish + 1 - (ready + e.waits.memory + e.waits.unit))
      + in_stretch p (waits_for causes.Bus) e.waits.bus
      + in_stretch p (Some Writes) (e.at.end - (e.at.finish + e.waits.bus)) + in_stretch p None (last - e.at.end)
  from_ready p =
      let q : ℕ → Bool = λ t. p (doing_in t e) in
      let memory : ℕ = ready + e.waits.memory in
      let unit : ℕ = memory + e.waits.unit in
      let bus : ℕ = e.at.finish + 1 + e.waits.bus in
      let x1 = cut q ready memory (last + 1) (omega arith) (omega (arith, placed.start, placed.begun, placed.finish)) in
      let x2 = cut q memory unit (last + 1) (omega arith) (omega (arith, placed.start, placed.begun, placed.finish)) in
      let x3 = cut q unit (e.at.finish + 1) (last + 1) (omega (arith, placed.start)) (omega arith) in
      let x4 = cut q (e.at.finish + 1) bus (last + 1) (omega arith) (omega (arith, placed.bus)) in
      let x5 = cut q bus (e.at.end + 1) (last + 1) (omega (arith, placed.bus)) (omega arith) in
      let y1 = stretch p (waits_for causes.Memory) e.waits.memory ready memory (omega arith) for_memory in
      let y2 = stretch p (waits_for causes.Unit) e.waits.unit memory unit (omega arith) for_unit in
      let y3 = stretch p (Some Executes) (e.at.finish + 1 - unit) unit (e.at.finish + 1) refl executes in
      let y4 = stretch p (waits_for causes.Bus) e.waits.bus (e.at.finish + 1) bus (omega arith) for_bus in
      let y5 = stretch p (Some Writes) (e.at.end - (e.at.finish + e.waits.bus)) bus (e.at.end + 1)
      (omega arith) writes in
      let y6 = stretch p None (last - e.at.end) (e.at.end + 1) (last + 1) (omega arith) (λ t l m. after t l) in
      omega arith

  -- one stretch after the other
  counted : (p : Option Doing → Bool) → count_by (λ t. p (doing_in t e)) (range_with_len 1 last)
      ≡ cycles_that (λ t. p (doing_in t e)) 1 (e.at.issue + 1)
      + cycles_that (λ t. p (doing_in t e)) (e.at.issue + 1) ready
      + cycles_that (λ t. p (doing_in t e)) ready (last + 1)
  counted p =
      let q : ℕ → Bool = λ t. p (doing_in t e) in
      let whole : last ≡ last + 1 - 1 = omega arith in
      let all : count_by q (range_with_len 1 last) ≡ cycles_that q 1 (last + 1) =
      ap (λ k. count_by q (range_with_len 1 k)) whole in
      let x1 = cut q 1 (e.at.issue + 1) (last + 1) (omega arith) (omega (arith, placed.begun, placed.finish)) in
      let x2 = cut q (e.at.issue + 1) ready (last + 1) (omega arith)
      (omega (arith, placed.start, placed.begun, placed.finish)) in
      omega arith

  -- a word that is none of the cycles in between is in none of them
  none_between : (p : Option Doing → Bool) → p (waits_for causes.Operand) ≡ false
      → p (waits_for causes.Address) ≡ false → p (Some Computes) ≡ false
      → cycles_that (λ t. p (doing_in t e)) (e.at.issue + 1) ready ≡ 0
  none_between p operand address computing = same (λ t. p (doing_in t e)) false (e.at.issue + 1) ready
      (λ t l m. elim (for_operands t l m) [
        | inl x ↦ ap p x ∙ operand
        | inr (inl x) ↦ ap p x ∙ address
        | inr (inr x) ↦ ap p x ∙ computing
      ])

  -- and in each of them is one of three words
  one_between : (p q r : Option Doing → Bool)
      → one (p (waits_for causes.Operand)) + one (q (waits_for causes.Operand)) + one (r (waits_for causes.Operand)) ≡ 1
      → one (p (waits_for causes.Address)) + one (q (waits_for causes.Address)) + one (r (waits_for causes.Address)) ≡ 1
      → one (p (Some Computes)) + one (q (Some Computes)) + one (r (Some Computes)) ≡ 1
      → cycles_that (λ t. p (doing_in t e)) (e.at.issue + 1) ready
      + cycles_that (λ t. q (doing_in t e)) (e.at.issue + 1) ready
      + cycles_that (λ t. r (doing_in t e)) (e.at.issue + 1) ready ≡ e.waits.operand + e.waits.address
  one_between p q r operand address computing =
      let none : cycles_that (λ t. false) (e.at.issue + 1) ready ≡ 0 =
      same (λ t. false) false (e.at.issue + 1) ready (λ t l m. refl) in
      let all = four_ways (λ t. p (doing_in t e)) (λ t. q (doing_in t e)) (λ t. r (doing_in t e)) (λ t. false)
      (e.at.issue + 1) ready
      (λ t l m. elim (for_operands t l m) [
        | inl x ↦ rw x (omega arith)
        | inr (inl x) ↦ rw x (omega arith)
        | inr (inr x) ↦ rw x (omega arith)
      ]) in
      omega arith

  -- the number of cycles with a word that is none of these three
  elsewhere : (p : Option Doing → Bool) → p (waits_for causes.Operand) ≡ false → p (waits_for causes.Address) ≡ false
      → p (Some Computes) ≡ false → count_by (λ t. p (doing_in t e)) (range_with_len 1 last)
      ≡ in_stretch p None (e.from - 1) + in_stretch p (waits_for causes.Branch) e.waits.branch
      + in_stretch p (waits_for causes.Width) e.waits.width + in_stretch p (waits_for causes.Station) e.waits.station
      + in_stretch p (Some Issues) 1
      + in_stretch p (waits_for causes.Memory) e.waits.memory + in_stretch p (waits_for causes.Unit) e.waits.unit
      + in_stretch p (Some Executes) (e.at.finish + 1 - (ready + e.waits.memory + e.waits.unit))
      + in_stretch p (waits_for causes.Bus) e.waits.bus
      + in_stretch p (Some Writes) (e.at.end - (e.at.finish + e.waits.bus)) + in_stretch p None (last - e.at.end)
  elsewhere p operand address computing =
      let all = counted p in
      let none = none_between p operand address computing in
      let early = up_to_issue p in
      let late = from_ready p in
      omega arith

  abbrev is_word : List ℕ → Option Doing → Bool
  is_word words doing = bytes_eq words (doing_text doing)

  operands_shown : cycles_with (codes "waits: operand") last e + cycles_with (codes "waits: address") last e
      + cycles_with (codes "address") last e ≡ e.waits.operand + e.waits.address
  operands_shown =
      let between = one_between (is_word (codes "waits: operand")) (is_word (codes "waits: address"))
      (is_word (codes "address")) refl refl refl in
      let operand = counted (is_word (codes "waits: operand")) in
      let operand_early = up_to_issue (is_word (codes "waits: operand")) in
      let operand_late = from_ready (is_word (codes "waits: operand")) in
      let address = counted (is_word (codes "waits: address")) in
      let address_early = up_to_issue (is_word (codes "waits: address")) in
      let address_late = from_ready (is_word (codes "waits: address")) in
      let computing = counted (is_word (codes "address")) in
      let computing_early = up_to_issue (is_word (codes "address")) in
      let computing_late = from_ready (is_word (codes "address")) in
      omega arith

  branch_shown : cycles_with (codes "waits: branch") last e ≡ e.waits.branch
  branch_shown = elsewhere (is_word (codes "waits: branch")) refl refl refl ∙ (omega arith)

  width_shown : cycles_with (codes "waits: width") last e ≡ e.waits.width
  width_shown = elsewhere (is_word (codes "waits: width")) refl refl refl ∙ (omega arith)

  station_shown : cycles_with (codes "waits: station") last e ≡ e.waits.station
  station_shown = elsewhere (is_word (codes "waits: station")) refl refl refl ∙ (omega arith)

  memory_shown : cycles_with (codes "waits: memory") last e ≡ e.waits.memory
  memory_shown = elsewhere (is_word (codes "waits: memory")) refl refl refl ∙ (omega arith)

  unit_shown : cycles_with (codes "waits: unit") last e ≡ e.waits.unit
  unit_shown = elsewhere (is_word (codes "waits: unit")) refl refl refl ∙ (omega arith)

  bus_shown : cycles_with (codes "waits: bus") last e ≡ e.waits.bus
  bus_shown = elsewhere (is_word (codes "waits: bus")) refl refl refl ∙ (omega arith)

  pub shown_waits : ShowsWaits last e
  shown_waits = record {
    branch = branch_shown;
    width = width_shown;
    station = station_shown;
    operands = operands_shown;
    memory = memory_shown;
    unit = unit_shown;
    bus = bus_shown;
  }
