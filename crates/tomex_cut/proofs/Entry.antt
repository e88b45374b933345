-- The prologue of a cut's image: its 64 steps lead to the part's first pc, with the registers before the part.
use Rattle.std.proofs.Common.{◌≡◌, ℕ, zero, suc, ◌+◌, ◌-◌, ◌*◌, ◌%◌, ◌^◌, ◌<◌, ◌≤◌, List, length, Bool, true, false}
use Rattle.std.proofs.Common.{Some, None, Ok, refl, sym, ◌∙◌, ap, subst, arith, inl, inr}
use Rattle.std.proofs.Common.{eq-eqb}
use Rattle.std.specs.Prelude.{if◌then◌else◌, nat_eq, nat_le, nat_lt, option_map, slice_index, slice_set}
use Rattle.std.proofs.lemmas.Bool.{and_from, cases_eq, le-leb, ne_eqb}
use Rattle.std.proofs.lemmas.Grind.{get_or-set_at}
use Rattle.std.proofs.lemmas.List.{ext_get_or, get_or-set_other, set-set}
use Rattle.std.proofs.Math.ListN.{length-set}
use Rattle.tomex_cut.specs.After.{after, and_a_step}
use Rattle.tomex_cut.specs.Cut.{IsCut}
use Rattle.tomex_cut.specs.Laws.{EntersAt}
use Rattle.tomex_cut.specs.Prologue.{HasHook, HasPair, HasPlace, branch, jump, low_half, lower, upper}
use Rattle.tomex_image.specs.Image.{IsLoaded, Loaded}
use Rattle.tomex_image.specs.Window.{IsWindow, Span}
use Rattle.tomex_rvdec.specs.Instruction.{Instruction}
use Rattle.tomex_rvdec.specs.Meaning.{Means, meaning}
use Rattle.tomex_rvexec.specs.declared.outcome.FaultKind.TheVariants.{MisalignedTarget}
use Rattle.tomex_rvexec.specs.Fetch.{word_at}
use Rattle.tomex_rvexec.specs.Flow.{HasWords}
use Rattle.tomex_rvexec.specs.Machine.{Goes, Faults, State, base_of, coming_of, branches, executes, jumps, step_at}
use Rattle.tomex_rvexec.specs.Machine.{step_of}
use Rattle.tomex_rvexec.specs.Machine.{with_register, writes}
use Rattle.tomex_rvexec.specs.Memory.{Bytes, is_inside}
use Rattle.tomex_rvexec.specs.Run.{start_of}
use Rattle.tomex_rvexec.specs.Words.{difference, sum}
use Rattle.tomex_rvexec.proofs.FlowStates.{start_state}
use Rattle.tomex_rvexec.proofs.FlowWidths.{run_words, words_kept}
use Rattle.tomex_rvdec.proofs.Meaning.{means_meaning}
use Rattle.tomex_cut.proofs.Alike.{step_executes}
use Rattle.tomex_cut.proofs.First.{ends_first}
use Rattle.tomex_cut.proofs.Fitting.{fits}
use Rattle.tomex_cut.proofs.Walks.{after_keeps, after_more, came_from}

-- a state of the image's run before it stores
abbrev pub state_at : Loaded → ℕ → List ℕ → State
state_at j pc regs = record { image = j; pc = pc; regs = regs; memory = j.memory }

-- steps after others
pub after_joined : (n m : ℕ) (s t : State) → after s m ≡ Ok t → after s (m + n) ≡ after t n
after_joined zero m s t h = let e : m + zero ≡ m = omega arith in rw (e) h
after_joined (suc n) m s t h =
    let e : m + suc n ≡ suc (m + n) = omega arith in
    ap (after s) e ∙ ap and_a_step (after_joined n m s t h)

-- sums that wrap
back_to : (a b : ℕ) → a < 2 ^ 32 → b < 2 ^ 32 → sum (difference a b) b ≡ a
back_to a b h k = omega arith

forth_to : (a b : ℕ) → a < 2 ^ 32 → b < 2 ^ 32 → sum b (difference a b) ≡ a
forth_to a b h k = omega arith

low_small : (v : ℕ) → low_half v < 2 ^ 32
low_small v = at (nat_lt (v % 4096) 2048)
  where
    at : (b : Bool) → (if b then v % 4096 else v % 4096 + (2 ^ 32 - 4096)) < 2 ^ 32
    at true = omega arith
    at false = omega arith

-- the instruction at an address of the window
pub record Fetched (j : Loaded) (a : ℕ) (x : Instruction) : Type 0 where
  pub held : is_inside j.window.base j.window.size a 4 ≡ true
  pub means : meaning (word_at j a) ≡ Some x

pub comes_there : (j : Loaded) (a : ℕ) (regs : List ℕ) (x : Instruction) → Fetched j a x
    → coming_of (state_at j a regs) ≡ Some (step_at (state_at j a regs) x)
comes_there j a regs x f =
    let v = state_at j a regs in
    ap (λ (c : Bool). if c then option_map (step_at v) (meaning (word_at j a)) else None) f.held
    ∙ ap (option_map (step_at v)) f.means

pub does : (j : Loaded) (a : ℕ) (regs : List ℕ) (x : Instruction) → Fetched j a x
    → step_of (state_at j a regs) ≡ executes x.op (step_at (state_at j a regs) x) (state_at j a regs)
does j a regs x f =
    sym (step_executes (state_at j a regs) (step_at (state_at j a regs) x) (comes_there j a regs x f))

pub writes_to : (j : Loaded) (a r v : ℕ) (regs : List ℕ) → 1 ≤ r → a + 4 < 2 ^ 32
    → writes (state_at j a regs) r v ≡ Goes (state_at j (a + 4) (slice_set regs r v))
writes_to j a r v regs some small =
    let pc : sum a 4 ≡ a + 4 = omega arith in
    let not_zero : nat_eq r 0 ≡ false = ne_eqb r 0 (λ e. omega arith) in
    ap (λ (n : ℕ). Goes (state_at j n (with_register regs r v))) pc
    ∙ ap (λ (b : Bool). Goes (state_at j (a + 4) (if b then regs else slice_set regs r v))) not_zero

-- a pair loads its register
pair_loads : (j : Loaded) (a r v : ℕ) (regs : List ℕ) → 1 ≤ r → r < length regs → v < 2 ^ 32 → a + 8 < 2 ^ 32
    → Fetched j a (upper r v) → Fetched j (a + 4) (lower r v)
    → after (state_at j a regs) 2 ≡ Ok (state_at j (a + 8) (slice_set regs r v))
pair_loads j a r v regs some within small room f g =
    let up = difference v (low_half v) in
    let first = slice_set regs r up in
    let one : step_of (state_at j a regs) ≡ Goes (state_at j (a + 4) first) =
    does j a regs (upper r v) f ∙ writes_to j a r up regs some (omega arith) in
    let value : sum (slice_index first r) (low_half v) ≡ v =
    ap (λ (n : ℕ). sum n (low_half v)) (get_or-set_at regs r r up 0 refl within)
    ∙ back_to v (low_half v) small (low_small v) in
    let next : a + 4 + 4 ≡ a + 8 = omega arith in
    let two : step_of (state_at j (a + 4) first) ≡ Goes (state_at j (a + 8) (slice_set regs r v)) =
    does j (a + 4) first (lower r v) g
    ∙ (writes_to j (a + 4) r (sum (slice_index first r) (low_half v)) first some (omega arith)
    ∙ (ap (λ (n : ℕ). Goes (state_at j (a + 4 + 4) (slice_set first r n))) value
    ∙ (ap (λ (n : ℕ). Goes (state_at j n (slice_set first r v))) next
    ∙ ap (λ (g : List ℕ). Goes (state_at j (a + 8) g)) (set-set regs r up v)))) in
    after_more (state_at j a regs) _ _ 1 (after_more (state_at j a regs) _ _ 0 refl one) two

-- the first registers from x1 on are loaded
with_first : ℕ → List ℕ → List ℕ → List ℕ
with_first zero wanted regs = regs
with_first (suc n) wanted regs = slice_set (with_first n wanted regs) (suc n) (slice_index wanted (suc n))

length_first : (n : ℕ) (wanted regs : List ℕ) → length (with_first n wanted regs) ≡ length regs
unfolding with_first
length_first zero wanted regs = refl
length_first (suc n) wanted regs =
    length-set (with_first n wanted regs) (suc n) (slice_index wanted (suc n)) ∙ length_first n wanted regs

loaded_first : (n k : ℕ) (wanted regs : List ℕ) → n < length regs → 1 ≤ k → k ≤ n
    → slice_index (with_first n wanted regs) k ≡ slice_index wanted k
unfolding with_first
loaded_first zero k wanted regs h some few = absurd (omega arith)
loaded_first (suc n) k wanted regs h some few =
    let last = with_first n wanted regs in
    let within : suc n < length last = omega (arith, length_first n wanted regs) in
    elim (cases_eq k (suc n)) [
      | inl e ↦
          get_or-set_at last (suc n) k (slice_index wanted (suc n)) 0 e within
          ∙ ap (slice_index wanted) (sym e)
      | inr other ↦
          get_or-set_other last (suc n) k (slice_index wanted (suc n)) 0 other
          ∙ loaded_first n k wanted regs (omega arith) some (omega arith)
    ]

zero_first : (n : ℕ) (wanted regs : List ℕ) → slice_index (with_first n wanted regs) 0 ≡ slice_index regs 0
unfolding with_first
zero_first zero wanted regs = refl
zero_first (suc n) wanted regs =
    get_or-set_other (with_first n wanted regs) (suc n) 0 (slice_index wanted (suc n)) 0 (λ e. cc)
    ∙ zero_first n wanted regs

all_first : (wanted regs : List ℕ) → length wanted ≡ 32 → length regs ≡ 32
    → slice_index wanted 0 ≡ slice_index regs 0 → with_first 31 wanted regs ≡ wanted
all_first wanted regs e f zero_is =
    let count : length (with_first 31 wanted regs) ≡ 32 = length_first 31 wanted regs ∙ f in
    ext_get_or 0 (with_first 31 wanted regs) wanted (count ∙ sym e) (λ k h. elim (cases_eq k 0) [
      | inl at ↦
          ap (slice_index (with_first 31 wanted regs)) at
          ∙ (zero_first 31 wanted regs ∙ (sym zero_is ∙ ap (slice_index wanted) (sym at)))
      | inr other ↦ loaded_first 31 k wanted regs (omega (arith, f)) (omega (arith, other)) (omega (arith, count))
    ])

-- an image with a prologue
pub record Prepared (j : Loaded) (hook place pc : ℕ) (regs : List ℕ) : Type 0 where
  pub on_place : HasPlace (record { base = j.window.base; bytes = j.memory }) place hook regs
  pub on_hook : HasHook (record { base = j.window.base; bytes = j.memory }) hook pc regs
  pub top : j.window.base + j.window.size ≤ 2 ^ 32
  pub place_low : j.window.base ≤ place
  pub place_high : place + 244 ≤ j.window.base + j.window.size
  pub hook_low : j.window.base ≤ hook
  pub hook_high : hook + 12 ≤ j.window.base + j.window.size
  pub hook_word : hook % 4 ≡ 0
  pub pc_word : pc % 4 ≡ 0
  pub pc_small : pc < 2 ^ 32
  pub words : (r : ℕ) → slice_index regs r < 2 ^ 32

pub fetched : (j : Loaded) (a : ℕ) (x : Instruction) → j.window.base ≤ a → a + 4 ≤ j.window.base + j.window.size
    → Means (word_at j a) x → Fetched j a x
fetched j a x low high m = record {
  held = and_from (nat_le j.window.base a) (nat_le (a + 4) (j.window.base + j.window.size))
      (le-leb j.window.base a low) (le-leb (a + 4) (j.window.base + j.window.size) high);
  means = means_meaning (word_at j a) x m;
}

pairs_load : (n : ℕ) (j : Loaded) (hook place pc : ℕ) (regs first : List ℕ) → Prepared j hook place pc regs
    → length first ≡ 32 → n ≤ 30
    → after (state_at j place first) (2 * n) ≡ Ok (state_at j (place + 8 * n) (with_first n regs first))
unfolding with_first
pairs_load zero j hook place pc regs first p count few =
    let e : place + 8 * zero ≡ place = omega arith in rw (e) refl
pairs_load (suc n) j hook place pc regs first p count few =
    let before = pairs_load n j hook place pc regs first p count (omega arith) in
    let at : place + 8 * (suc n - 1) ≡ place + 8 * n = omega arith in
    let pair : HasPair (record { base = j.window.base; bytes = j.memory }) (place + 8 * n) (suc n)
    (slice_index regs (suc n)) = rw (at) at (p.on_place.pairs (suc n) (omega arith) few) in
    let loads = pair_loads j (place + 8 * n) (suc n) (slice_index regs (suc n)) (with_first n regs first) (omega arith)
    (omega (arith, length_first n regs first, count)) (p.words (suc n)) (omega (arith, p.top, p.place_high))
    (fetched j (place + 8 * n) (upper (suc n) (slice_index regs (suc n))) (omega (arith, p.place_low))
    (omega (arith, p.place_high)) pair.first)
    (fetched j (place + 8 * n + 4) (lower (suc n) (slice_index regs (suc n))) (omega (arith, p.place_low))
    (omega (arith, p.place_high)) pair.second) in
    let steps : 2 * suc n ≡ 2 * n + 2 = omega arith in
    let next : place + 8 * n + 8 ≡ place + 8 * suc n = omega arith in
    ap (after (state_at j place first)) steps
    ∙ (after_joined 2 (2 * n) (state_at j place first) (state_at j (place + 8 * n) (with_first n regs first)) before
    ∙ (loads ∙ ap (λ (a : ℕ). Ok (state_at j a (with_first (suc n) regs first))) next))

pub jump_goes : (j : Loaded) (a target : ℕ) (regs : List ℕ) → a < 2 ^ 32 → target < 2 ^ 32 → target % 4 ≡ 0
    → Fetched j a (jump a target) → step_of (state_at j a regs) ≡ Goes (state_at j target regs)
jump_goes j a target regs small near word f =
    let v = state_at j a regs in
    does j a regs (jump a target) f
    ∙ (ap (λ (t : ℕ). jumps v 0 t) (forth_to target a near small)
    ∙ ap (λ (b : Bool). if b then Goes (state_at j target regs) else Faults MisalignedTarget)
    (eq-eqb (target % 4) 0 word))

pub branch_goes : (j : Loaded) (a target : ℕ) (regs : List ℕ) → a < 2 ^ 32 → target < 2 ^ 32 → target % 4 ≡ 0
    → Fetched j a (branch a target) → step_of (state_at j a regs) ≡ Goes (state_at j target regs)
branch_goes j a target regs small near word f =
    let v = state_at j a regs in
    does j a regs (branch a target) f
    ∙ (ap (λ (b : Bool). branches v b (sum a (difference target a)))
    (eq-eqb (slice_index regs 31) (slice_index regs 31) refl)
    ∙ (ap (λ (t : ℕ). branches v true t) (forth_to target a near small)
    ∙ ap (λ (b : Bool). if b then Goes (state_at j target regs) else Faults MisalignedTarget)
    (eq-eqb (target % 4) 0 word)))

-- all of it
prologue_runs : (j : Loaded) (hook place pc : ℕ) (regs first : List ℕ) → Prepared j hook place pc regs
    → length regs ≡ 32 → length first ≡ 32 → slice_index regs 0 ≡ slice_index first 0
    → after (state_at j place first) 64 ≡ Ok (state_at j pc regs)
unfolding with_first
prologue_runs j hook place pc regs first p count_regs count zero_is =
    let s = state_at j place first in
    let loaded = with_first 30 regs first in
    let pairs : after s 60 ≡ Ok (state_at j (place + 240) loaded) =
    pairs_load 30 j hook place pc regs first p count (omega arith) in
    let jumped : after s 61 ≡ Ok (state_at j hook loaded) =
    after_more s (state_at j (place + 240) loaded) (state_at j hook loaded) 60 pairs
    (jump_goes j (place + 240) hook loaded (omega (arith, p.top, p.place_high)) (omega (arith, p.top, p.hook_high))
    p.hook_word (fetched j (place + 240) (jump (place + 240) hook) (omega (arith, p.place_low))
    (omega (arith, p.place_high)) p.on_place.last)) in
    let pair = p.on_hook.pair in
    let last = pair_loads j hook 31 (slice_index regs 31) loaded (omega arith)
    (omega (arith, length_first 30 regs first, count)) (p.words 31) (omega (arith, p.top, p.hook_high))
    (fetched j hook (upper 31 (slice_index regs 31)) p.hook_low (omega (arith, p.hook_high)) pair.first)
    (fetched j (hook + 4) (lower 31 (slice_index regs 31)) (omega (arith, p.hook_low)) (omega (arith, p.hook_high))
    pair.second) in
    let all : with_first 31 regs first ≡ regs = all_first regs first count_regs count zero_is in
    let full : after s 63 ≡ Ok (state_at j (hook + 8) regs) =
    after_joined 2 61 s (state_at j hook loaded) jumped
    ∙ (last ∙ ap (λ (g : List ℕ). Ok (state_at j (hook + 8) g)) all) in
    after_more s (state_at j (hook + 8) regs) (state_at j pc regs) 63 full
    (branch_goes j (hook + 8) pc regs (omega (arith, p.top, p.hook_high)) p.pc_small p.pc_word
    (fetched j (hook + 8) (branch (hook + 8) pc) (omega (arith, p.hook_low)) (omega (arith, p.hook_high))
    p.on_hook.last))

after_words : (n : ℕ) (s t : State) → HasWords s → after s n ≡ Ok t → HasWords t
after_words zero s t h e = let same : s ≡ t = cc in subst HasWords same h
after_words (suc n) s t h e =
    let f = came_from s n t e in words_kept f.before t (after_words n s f.before h f.reached) f.goes

-- the image of a cut is
pub prepared : (i : Loaded) (from least : ℕ) (file : List ℕ) → IsWindow i.window.base i.window.size
    → IsLoaded i.window i.memory i.entry → ((k : ℕ) → slice_index i.memory k < 256) → (c : IsCut i from least file)
    → Prepared (record { window = i.window; memory = c.memory.bytes; entry = c.place }) c.hook c.place c.part.start.pc
    c.part.start.regs
prepared i from least file limits loaded bytes c =
    let p = c.part in
    let first = ends_first i from least p c.is_part in
    let keeps = after_keeps (from - 1) (start_of i) p.start (start_state i loaded) first.reached in
    let words = after_words (from - 1) (start_of i) p.start
    (run_words 0 i (start_of i) limits loaded bytes refl) first.reached in
    let window : i.window ≡ p.start.image.window = ap (λ (k : Loaded). k.window) (sym keeps.image) in
    let limits_there : IsWindow p.start.image.window.base p.start.image.window.size =
    subst (λ (w : Span). IsWindow w.base w.size) window limits in
    let fit = fits p c.hook c.place keeps.state limits_there c.is_hook c.is_place in
    let there : base_of p.start ≡ i.window.base = ap (λ (w : Span). w.base) (sym window) in
    let count : length p.start.memory ≡ i.window.size =
    keeps.state.filled ∙ ap (λ (w : Span). w.size) (sym window) in
    let base : c.memory.base ≡ i.window.base = c.is_memory.base ∙ there in
    let same : c.memory ≡ record { base = i.window.base; bytes = c.memory.bytes } =
    ap (λ (b : ℕ). record { base = b; bytes = c.memory.bytes }) base in
    record {
      on_place = subst (λ (m : Bytes). HasPlace m c.place c.hook p.start.regs) same c.is_memory.on_place;
      on_hook = subst (λ (m : Bytes). HasHook m c.hook p.start.pc p.start.regs) same c.is_memory.on_hook;
      top = limits.within;
      place_low = omega (arith, there, fit.on_place.above);
      place_high = omega (arith, there, count, fit.on_place.below);
      hook_low = omega (arith, there, fit.on_hook.above);
      hook_high = omega (arith, there, count, fit.on_hook.below);
      hook_word = fit.on_hook.word;
      pc_word = keeps.state.aligned;
      pc_small = words.pc;
      words = words.registers;
    }

pub enters : (i : Loaded) (from least : ℕ) (file : List ℕ) → IsWindow i.window.base i.window.size
    → IsLoaded i.window i.memory i.entry → ((k : ℕ) → slice_index i.memory k < 256) → (c : IsCut i from least file)
    → EntersAt c.part (record { window = i.window; memory = c.memory.bytes; entry = c.place })
enters i from least file limits loaded bytes c =
    let p = c.part in
    let j : Loaded = record { window = i.window; memory = c.memory.bytes; entry = c.place } in
    let first = ends_first i from least p c.is_part in
    let keeps = after_keeps (from - 1) (start_of i) p.start (start_state i loaded) first.reached in
    prologue_runs j c.hook c.place p.start.pc p.start.regs (start_of j).regs
    (prepared i from least file limits loaded bytes c) keeps.state.registers refl keeps.state.zero
