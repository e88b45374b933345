-- The part that the code finds, and its free words.
use Rattle.std.proofs.Common.{◌≡◌, ℕ, zero, suc, ◌+◌, ◌-◌, ◌*◌, ◌/◌, ◌%◌, ◌<◌, List, length, Bool, true, false}
use Rattle.std.proofs.Common.{Option, Some, None}
use Rattle.std.proofs.Common.{Result, Ok, Err, replicate, refl, sym, ◌∙◌, ap, subst, arith}
use Rattle.std.specs.Prelude.{IfSome, IsTrue, not, ◌&&◌, ◌||◌, nat_eq, nat_le, if◌then◌else◌}
use Rattle.std.proofs.lemmas.List.{length-replicate}
use Rattle.std.proofs.lemmas.Bool.{and_from, le-leb}
use Rattle.tomex_cut.specs.declared.error.CutError.{CutError}
use Rattle.tomex_cut.specs.declared.error.CutError.TheVariants as errors
use Rattle.tomex_cut.specs.After.{after, and_a_step, left_by}
use Rattle.tomex_cut.specs.Finding.{IsPartFound}
use Rattle.tomex_cut.specs.Marks.{AreMarkedFor, AreWordsOf, HaveMarks, ShowFree}
use Rattle.tomex_cut.specs.Part.{Ends, Fails, GoesOn, Verdict, is_used, most_part, part_at, part_by, part_from, part_of}
use Rattle.tomex_cut.specs.Part.{verdict, verdict_at, verdict_on, word_bytes}
use Rattle.tomex_cut.specs.Cut.{IsRefused}
use Rattle.tomex_cut.specs.Prologue.{HasPrologue}
use Rattle.tomex_cut.specs.Walking.{IsFound}
use Rattle.tomex_image.specs.Image.{IsLoaded, Loaded}
use Rattle.tomex_image.specs.Window.{IsWindow, Span}
use Rattle.tomex_rvexec.specs.declared.outcome.FaultKind.TheVariants as faults
use Rattle.tomex_rvexec.specs.declared.step.Step.{Step}
use Rattle.tomex_rvexec.specs.Flow.{memory_of}
use Rattle.tomex_rvexec.specs.Machine.{Faults, Goes, Outcome, State, base_of, holds, step_of}
use Rattle.tomex_rvexec.specs.Machine.{Ends as EndsRun}
use Rattle.tomex_rvexec.specs.Memory.{Bytes}
use Rattle.tomex_rvexec.specs.Results.{is_among}
use Rattle.tomex_rvexec.specs.Run.{start_of}
use Rattle.tomex_rvexec.specs.Trace.{steps_from}
use Rattle.tomex_rvexec.proofs.FlowStates.{start_state}
use Rattle.tomex_cut.proofs.Walks.{Keeps, after_keeps}

-- the state that a run of an image has reached
pub reached_keeps : (i : Loaded) (n : ℕ) (s t : State) → IsLoaded i.window i.memory i.entry → s ≡ start_of i
    → after s n ≡ Ok t → Keeps (start_of i) t
reached_keeps i n s t loaded is here =
    after_keeps n (start_of i) t (start_state i loaded) (subst (λ (u : State). after u n ≡ Ok t) is here)

-- an address that is a multiple of 4 lies in the word at another one only if it is that one
among_is : (a e : ℕ) → a % 4 ≡ 0 → e % 4 ≡ 0 → is_among (word_bytes a) e ≡ nat_eq e a
among_is a e whole_a whole_e = grind arith

all_marked : (u : Bool) → u ≡ not ((true && not u) && not false)
all_marked true = refl
all_marked false = refl

or_marked : (u n : Bool) → (u || n) ≡ not ((true && not u) && not n)
or_marked true n = refl
or_marked false true = refl
or_marked false false = refl

holds_word : (s : State) (base k : ℕ) (marks : List Bool) → AreWordsOf s base marks → k < length marks
    → holds s (base + 4 * k) 4 ≡ true
holds_word s base k marks w h =
    and_from (nat_le (base_of s) (base + 4 * k)) (nat_le (base + 4 * k + 4) (base_of s + s.image.window.size))
    (le-leb (base_of s) (base + 4 * k) (omega (arith, w.from)))
    (le-leb (base + 4 * k + 4) (base_of s + s.image.window.size) (omega (arith, w.from, w.count)))

-- the marks of the steps' words and of the end's show which words are free
shows : (end : Option ℕ) (s : State) (steps : List Step) (base : ℕ) (old new : List Bool) → AreWordsOf s base old
    → base % 4 ≡ 0 → IfSome end (λ e. (e % 4 ≡ 0) × IsTrue (holds s e 4)) → HaveMarks base old steps
    → AreMarkedFor end base old new → ShowFree (record { start = s; steps = steps; end = end }) base new
shows None s steps base old new w whole word have is =
    subst (λ (m : List Bool). ShowFree (record { start = s; steps = steps; end = None }) base m) (sym is)
    (record {
      words = w;
      aligned = whole;
      each = λ k h. have.each k h ∙ (all_marked (is_used steps (base + 4 * k))
          ∙ ap (λ b. not ((b && not (is_used steps (base + 4 * k))) && not false)) (sym (holds_word s base k old w h)));
    })
shows (Some e) s steps base old new w whole word have is = record {
  words = record { from = w.from; count = ap (λ n. 4 * n) is.count ∙ w.count };
  aligned = whole;
  each = λ k h.
      let h' : k < length old = omega (arith, is.count) in
      let at : (base + 4 * k) % 4 ≡ 0 = omega arith in
      is.each k h'
      ∙ (ap (λ b. b || is_among (word_bytes (base + 4 * k)) e) (have.each k h')
      ∙ (ap (λ b. is_used steps (base + 4 * k) || b) (among_is (base + 4 * k) e at word.0)
      ∙ (or_marked (is_used steps (base + 4 * k)) (nat_eq e (base + 4 * k))
      ∙ ap (λ b. not ((b && not (is_used steps (base + 4 * k))) && not (nat_eq e (base + 4 * k))))
      (sym (holds_word s base k old w h')))));
}

pub part_found : (i : Loaded) (from least pc : ℕ) (regs : List ℕ) (memory : Bytes) (end : Option ℕ) (overwritten : Bool)
    (base : ℕ) (old new : List Bool) (s : State) → after (start_of i) (from - 1) ≡ Ok s → Keeps (start_of i) s
    → IsWindow i.window.base i.window.size → pc ≡ s.pc → regs ≡ s.regs → memory ≡ memory_of s
    → IsFound s least end overwritten old → AreWordsOf s base old → AreMarkedFor end base old new
    → IsPartFound i from least pc regs memory end overwritten base new
part_found i from least pc regs memory end overwritten base old new s here keeps window at registers before f w is =
    let p = f.part in
    let aligned : base % 4 ≡ 0 = rw (w.from, keeps.image) window.base_aligned in
    let marked : AreMarkedFor p.end base old new = rw (← f.ends) is in
    let have : HaveMarks base old p.steps = rw (w.from) f.used in
    let show : ShowFree (record { start = s; steps = p.steps; end = p.end }) base new =
    shows p.end s p.steps base old new w aligned f.end_word have marked in
    record {
      part = p;
      is_part = ap (λ r. part_at r least) here ∙ f.is_part;
      image = rw (f.start) keeps.image;
      window = window;
      state = rw (f.start) keeps.state;
      at = rw (f.start) at;
      registers = rw (f.start) registers;
      before = rw (f.start) before;
      ends = f.ends;
      end_word = rw (f.start) f.end_word;
      changed = f.changed;
      free = subst (λ (t : State). ShowFree (record { start = t; steps = p.steps; end = p.end }) base new) (sym f.start)
          show;
    }

-- the errors of a run
abbrev pub IsOfRun : CutError → Type 0
IsOfRun errors.Overwritten = ⊥
IsOfRun errors.NoRoom = ⊥
IsOfRun errors.Memory = ⊥
IsOfRun e = Unit {0}

left_errors : (o : Outcome) (s : State) (e : CutError) → left_by o s ≡ Err e → IsOfRun e
left_errors (Goes t) s e h = cc
left_errors (EndsRun kind) s e h = let is : errors.NoSuchStep ≡ e = cc in subst IsOfRun is tt
left_errors (Faults kind) s e h =
    let is : errors.Fault (record { kind = kind; pc = s.pc }) ≡ e = cc in subst IsOfRun is tt

after_errors : (n : ℕ) (s : State) (e : CutError) → after s n ≡ Err e → IsOfRun e
after_errors zero s e h = cc
after_errors (suc n) s e h = at (λ x. after_errors n s x) (after s n) refl h
  where
    at : ((x : CutError) → after s n ≡ Err x → IsOfRun x) → (r : Result State CutError) → after s n ≡ r
        → and_a_step r ≡ Err e → IsOfRun e
    at before (Ok t) here h = left_errors (step_of t) t e h
    at before (Err x) here h = let is : x ≡ e = cc in subst IsOfRun is (before x here)

at_errors : (t : State) (steps : List Step) (e : CutError) → verdict_at t steps ≡ Fails e → IsOfRun e
at_errors t steps e h = at (holds t t.pc 4) (is_used steps t.pc) h
  where
    at : (b u : Bool) → (if b then (if u then GoesOn else Ends (Some t.pc))
        else Fails (errors.Fault (record { kind = faults.Fetch; pc = t.pc }))) ≡ Fails e → IsOfRun e
    at true true h = cc
    at true false h = cc
    at false u h =
        let is : errors.Fault (record { kind = faults.Fetch; pc = t.pc }) ≡ e = cc in subst IsOfRun is tt

verdict_errors : (s : State) (n : ℕ) (e : CutError) → verdict s n ≡ Fails e → IsOfRun e
verdict_errors s n e h = at (after s n) refl h
  where
    by : (x : CutError) → after s n ≡ Err x → verdict_on (Err x) (steps_from n s) ≡ Fails e → IsOfRun e
    by errors.NoSuchStep here h = cc
    by x here h = let is : x ≡ e = cc in subst IsOfRun is (after_errors n s x here)

    at : (r : Result State CutError) → after s n ≡ r → verdict_on r (steps_from n s) ≡ Fails e → IsOfRun e
    at (Ok t) here h = at_errors t (steps_from n s) e h
    at (Err x) here h = by x here h

part_errors : (more : ℕ) (s : State) (n : ℕ) (e : CutError) → part_from s more n ≡ Err e → IsOfRun e
part_errors zero s n e h = let is : errors.NoEnd ≡ e = cc in subst IsOfRun is tt
part_errors (suc more) s n e h = at (part_errors more s (n + 1) e) (verdict s n) refl h
  where
    at : (part_from s more (n + 1) ≡ Err e → IsOfRun e) → (v : Verdict) → verdict s n ≡ v
        → part_by v s n (part_from s more) ≡ Err e → IsOfRun e
    at next GoesOn is h = next h
    at next (Ends end) is h = cc
    at next (Fails x) is h = let same : x ≡ e = cc in subst IsOfRun same (verdict_errors s n x is)

of_run : (i : Loaded) (from least : ℕ) (e : CutError) → part_of i from least ≡ Err e → IsOfRun e
of_run i from least e h = at (after (start_of i) (from - 1)) refl h
  where
    at : (r : Result State CutError) → after (start_of i) (from - 1) ≡ r → part_at r least ≡ Err e → IsOfRun e
    at (Ok s) here h = part_errors (most_part + 1 - least) s least e h
    at (Err x) here h = let is : x ≡ e = cc in subst IsOfRun is (after_errors (from - 1) (start_of i) x here)

-- why there is no part is why there is no file
pub refused_by_part : (i : Loaded) (from least : ℕ) (e : CutError)
    → ((e ≡ errors.Memory → ⊥) → part_of i from least ≡ Err e) → IsRefused i from least e
refused_by_part i from least errors.Memory h = tt
refused_by_part i from least errors.Overwritten h = absurd (of_run i from least errors.Overwritten (h (λ x. cc)))
refused_by_part i from least errors.NoRoom h = absurd (of_run i from least errors.NoRoom (h (λ x. cc)))
refused_by_part i from least errors.NoEnd h = h (λ x. cc)
refused_by_part i from least errors.NoSuchStep h = h (λ x. cc)
refused_by_part i from least (errors.Fault f) h = h (λ x. cc)

-- a prologue in the memory before the part
pub prologue_is : (a b m : Bytes) (pc at : ℕ) (regs registers : List ℕ) (end other : Option ℕ) (hook place : ℕ) → a ≡ b
    → pc ≡ at → regs ≡ registers → end ≡ other → HasPrologue a pc regs end hook place m
    → HasPrologue b at registers other hook place m
prologue_is a b m pc at regs registers end other hook place e f g h has =
    subst (λ (x : Bytes). HasPrologue x at registers other hook place m) e
    (subst (λ (x : ℕ). HasPrologue a x registers other hook place m) f
    (subst (λ (x : List ℕ). HasPrologue a pc x other hook place m) g
    (subst (λ (x : Option ℕ). HasPrologue a pc regs x hook place m) h has)))

-- a copy of the memory before the part
pub memory_is : (i : Loaded) (s : State) (window : Span) (bytes : List ℕ) (m : Bytes)
    → m ≡ record { base = window.base; bytes = bytes } → window ≡ i.window → s.image ≡ i → bytes ≡ s.memory
    → m ≡ memory_of s
memory_is i s window bytes m e f g h =
    let at : window.base ≡ base_of s =
    ap (λ (w : Span). w.base) f ∙ ap (λ (j : Loaded). j.window.base) (sym g) in
    e ∙ (ap (λ (b : ℕ). record { base = b; bytes = bytes }) at
    ∙ ap (λ (bs : List ℕ). record { base = base_of s; bytes = bs }) h)

-- the marks of the window after the walk
pub words_after : (i : Loaded) (s : State) (window : Span) (first base : ℕ) (old new : List Bool) → window ≡ i.window
    → s.image ≡ i → IsWindow window.base window.size → first ≡ window.base
    → old ≡ replicate (window.size / 4) false → base ≡ first → length new ≡ length old → AreWordsOf s base new
words_after i s window first base old new f g limits e h same count =
    let at : window.base ≡ base_of s =
    ap (λ (w : Span). w.base) f ∙ ap (λ (j : Loaded). j.window.base) (sym g) in
    let size : window.size ≡ s.image.window.size =
    ap (λ (w : Span). w.size) f ∙ ap (λ (j : Loaded). j.window.size) (sym g) in
    let words : length new ≡ window.size / 4 = count ∙ (ap length h ∙ length-replicate (window.size / 4) false) in
    record { from = same ∙ (e ∙ at); count = omega (arith, words, size, limits.size_aligned) }
