-- What is known stays known as the run goes on, and one more state or entry becomes known.
use Rattle.std.proofs.Common.{ℕ, ◌+◌, ◌*◌, ◌-◌, ◌^◌, ◌<◌, ◌≤◌, ◌≡◌, ◌⊎◌, ◌∙◌, arith, refl, sym, ap, inl, inr, List, []}
use Rattle.std.proofs.Common.{◌∷◌, ◌++◌}
use Rattle.std.proofs.Common.{Some, None, get_or, length, replicate, set, take}
use Rattle.std.proofs.Math.Nat.{mul_comm}
use Rattle.std.proofs.lemmas.Bool.{cases_eq, cases_lt}
use Rattle.std.proofs.lemmas.List.{get_or-append_right, get_or-replicate, get_or-set_other, get_or-set_same}
use Rattle.std.proofs.lemmas.List.{get_or_append_left, get_or_past, get_or_push, length-append, length-replicate}
use Rattle.std.proofs.lemmas.List.{length-set, length_push, take_all}
use Rattle.std.proofs.lemmas.Nat.{mul-add-lt, same_from_place}
use Rattle.tomex_rvexec.specs.declared.step.Step.{Step}
use Rattle.tomex_config.specs.Configuration.{Configuration}
use Rattle.tomex_alike.specs.Laws.{history_to}
use Rattle.tomex_repeats.specs.Blocks.{Blocks}
use Rattle.tomex_states.specs.Reuse.{CanBeKept, IsCopy}
use Rattle.tomex_states.specs.States.{ShowsState}
use Rattle.tomex_states.specs.declared.state.State.{State}
use Rattle.tomex_evaluation.specs.Kept.{HasOneMore, entry_of, entry_place, next_of}
use Rattle.tomex_evaluation.specs.Known.{AreKnown, IsEntry}
use Rattle.tomex_evaluation.specs.Places.{WentThrough}
use Rattle.tomex_evaluation.specs.declared.known.Entry.TheVariants.{Leads, Unknown}
use Rattle.tomex_evaluation.specs.declared.known.Known.{Known}
use Rattle.tomex_evaluation.specs.declared.known.Next.{Next}

-- a place in the table, of a state and a number that it has
pub entry_there : (different v number count : ℕ) → v < count → number < different
    → entry_place different v number < count * different
entry_there different v number count l m =
    let e = mul_comm different count in
    omega (arith, mul-add-lt v different number count l m, e)

all_one : {X : Type 0} (n i : ℕ) (x : X) → get_or (replicate n x) i x ≡ x
all_one n i x = elim (cases_lt i n) [
  | inl l ↦ get_or-replicate n i x x l
  | inr l ↦ get_or_past (replicate n x) i x (omega (arith, length-replicate n x))
]

-- a row of entries after the others
pub row_more : {X : Type 0} (xs ys : List X) (n m d : ℕ) (x : X) → m ≡ length xs → n ≡ m
    → ys ≡ take (n + d) xs ++ replicate (n + d - m) x → ys ≡ xs ++ replicate d x
row_more xs ys n m d x long e is =
    let rest : n + d - m ≡ d = omega arith in
    is ∙ rw (rest, take_all (n + d) xs (omega arith)) refl

-- a copy of a state that can be kept can be kept
pub can_copy : {A : Type 0} (config : Configuration) (a b : State A) → IsCopy a b → CanBeKept config a
    → CanBeKept config b
can_copy config a b is can = record {
  older = rw (is.window, is.latest) can.older;
  near = rw is.latest can.near;
}

module _ (config : Configuration) (steps : List Step) (run : Blocks) where
  went_on : (i j p number q passed : ℕ) → i ≤ j → WentThrough config steps run i p number q passed
      → WentThrough config steps run j p number q passed
  went_on i j p number q passed l went = record {
    block = went.block;
    there = went.there;
    numbered = went.numbered;
    ended = omega (arith, went.ended);
    before = went.before;
    after = went.after;
    later = went.later;
  }

  entry_kept : (i : ℕ) (places more : List ℕ) (v number : ℕ) (next : Next) → v < length places
      → IsEntry config steps run i places v number next → IsEntry config steps run i (places ++ more) v number next
  entry_kept i places more v number next l entry =
      let long = length-append places more in
      record {
        state = omega (arith, entry.state, long);
        went = rw (get_or_append_left places more 0 v l, get_or_append_left places more 0 next.state entry.state)
            entry.went;
      }

module _ {A : Type 0} (config : Configuration) (steps : List Step) (run : Blocks) where
  pub known_on : (i j : ℕ) (places : List ℕ) (known : Known A) → i ≤ j → AreKnown config steps run i places known
      → AreKnown config steps run j places known
  known_on i j places known l so = record {
    different = so.different;
    few = so.few;
    count = so.count;
    bound = so.bound;
    rows = so.rows;
    passed = λ v k. omega (arith, so.passed v k);
    shown = so.shown;
    kept = so.kept;
    entries = λ v number next k m e.
        let entry = so.entries v number next k m e in
        record { state = entry.state; went = went_on config steps run i j _ _ _ _ l entry.went };
  }

  -- nothing is known
  pub known_none : (i : ℕ) (known : Known A) → known.states.items ≡ [] → known.next.items ≡ []
      → known.different ≡ run.different → known.different < 2 ^ 32
      → AreKnown config steps run i [] known
  known_none i known states next different few = record {
    different = different;
    few = few;
    count = rw states refl;
    bound = rw states (omega arith);
    rows = rw next (omega arith);
    passed = λ v k. absurd (omega arith);
    shown = λ v z k. absurd (omega arith);
    kept = λ v z k. absurd (omega arith);
    entries = λ v number next k m e. absurd (omega arith);
  }

  module _ (i : ℕ) (places : List ℕ) (state : State A) (before after : Known A) (more : HasOneMore state before after)
      (room : length before.states.items < 32) (can : CanBeKept config state)
      (shows : ShowsState config (history_to config steps i) state)
      (so : AreKnown config steps run i places before) where
    there : (v : ℕ) → v < length (places ++ (i ∷ [])) → (v < length places ⊎ (v ≡ length places))
    there v l =
        let long = length_push places i in
        elim (cases_lt v (length places)) [
          | inl m ↦ inl m
          | inr m ↦ inr (omega arith)
        ]

    state_at : (v : ℕ) (z : State A) → v < length places
        → get_or after.states.items v z ≡ get_or before.states.items v z
    state_at v z l = rw more.states (get_or_append_left before.states.items _ z v (omega (arith, so.count)))

    state_last : (v : ℕ) (z : State A) → v ≡ length places → get_or after.states.items v z ≡ more.copy
    state_last v z e = rw more.states (get_or_push before.states.items more.copy z v (omega (arith, so.count)))

    entries : (v number : ℕ) (next : Next) → v < length (places ++ (i ∷ [])) → number < after.different
        → entry_of after v number ≡ Some next → IsEntry config steps run i (places ++ (i ∷ [])) v number next
    entries v number next l m e =
        let d = more.different in
        let there_is : entry_of after v number
        ≡ next_of (get_or (before.next.items ++ replicate before.different Unknown)
        (entry_place before.different v number) Unknown) = rw (more.next, d) refl in
        elim (there v l) [
          | inl k ↦
              let in_row = entry_there before.different v number (length places) k (omega arith) in
              let old : entry_of before v number ≡ Some next =
              ap next_of (sym (get_or_append_left before.next.items (replicate before.different Unknown) Unknown
              (entry_place before.different v number) (omega (arith, in_row, so.rows)))) ∙ sym there_is ∙ e in
              let entry = so.entries v number next k (omega arith) old in
              entry_kept config steps run i places (i ∷ []) v number next k entry
          | inr k ↦
              let past : length before.next.items ≤ entry_place before.different v number =
              rw k (omega (arith, so.rows)) in
              let none : entry_of after v number ≡ None = there_is
              ∙ ap next_of (get_or-append_right before.next.items (replicate before.different Unknown)
              (length before.next.items) (entry_place before.different v number) Unknown refl past
              ∙ all_one before.different (entry_place before.different v number - length before.next.items) Unknown) in
              absurd (cc (none, e))
        ]

    -- one more state is kept, of this place
    pub known_more : AreKnown config steps run i (places ++ (i ∷ [])) after
    known_more = record {
      different = more.different ∙ so.different;
      few = rw more.different so.few;
      count =
          ap length more.states ∙ length_push before.states.items more.copy ∙ ap (λ n. n + 1) so.count
          ∙ sym (length_push places i);
      bound =
          let long = length_push before.states.items more.copy in
          rw more.states (omega (arith, long, room));
      rows =
          let long : length after.next.items ≡ length before.next.items + before.different =
          ap length more.next ∙ length-append before.next.items (replicate before.different Unknown)
          ∙ ap (λ n. length before.next.items + n) (length-replicate before.different Unknown) in
          rw (length_push places i, more.different) (omega (arith, long, so.rows));
      passed = λ v k. elim (there v k) [
        | inl l ↦ rw (get_or_append_left places (i ∷ []) 0 v l) (so.passed v l)
        | inr e ↦ rw (get_or_push places i 0 v (sym e)) (omega arith)
      ];
      shown = λ v z k. elim (there v k) [
        | inl l ↦ rw (get_or_append_left places (i ∷ []) 0 v l, state_at v z l) (so.shown v z l)
        | inr e ↦ rw (get_or_push places i 0 v (sym e), state_last v z e) (more.shows config _ shows)
      ];
      kept = λ v z k. elim (there v k) [
        | inl l ↦ rw (state_at v z l) (so.kept v z l)
        | inr e ↦ rw (state_last v z e) (can_copy config state more.copy more.is can)
      ];
      entries = entries;
    }

  -- one more entry
  pub known_noted : (i : ℕ) (places : List ℕ) (before after : Known A) (v number : ℕ) (next : Next)
      → AreKnown config steps run i places before → v < length places → number < before.different
      → IsEntry config steps run i places v number next → after.states ≡ before.states
      → after.different ≡ before.different
      → after.next.items ≡ set before.next.items (entry_place before.different v number) (Leads next.state next.passed)
      → AreKnown config steps run i places after
  known_noted i places before after v number next so l m entry states different noted = record {
    different = different ∙ so.different;
    few = rw different so.few;
    count = rw states so.count;
    bound = rw states so.bound;
    rows = rw (noted, different) (length-set before.next.items _ _ ∙ so.rows);
    passed = so.passed;
    shown = rw states so.shown;
    kept = rw states so.kept;
    entries = entries;
  }
    where
      at : ℕ
      at = entry_place before.different v number

      entries : (w other : ℕ) (then : Next) → w < length places → other < after.different
          → entry_of after w other ≡ Some then → IsEntry config steps run i places w other then
      entries w other then k o e =
          let p = entry_place before.different w other in
          let is : entry_of after w other
          ≡ next_of (get_or (set before.next.items at (Leads next.state next.passed)) p Unknown) =
          rw (noted, different) refl in
          let o' : other < before.different = omega (arith, different) in
          let in_row = entry_there before.different v number (length places) l m in
          elim (cases_eq p at) [
            | inl same ↦
                let both = same_from_place w other v number before.different o' m same in
                let put : entry_of after w other ≡ Some next =
                is
                ∙ ap (λ x. next_of (get_or (set before.next.items at (Leads next.state next.passed)) x Unknown)) same
                ∙ ap next_of (get_or-set_same before.next.items at (Leads next.state next.passed) Unknown
                (omega (arith, in_row, so.rows))) in
                let one : next ≡ then = cc (put, e) in
                rw (both.0, both.1, sym one) entry
            | inr apart ↦
                so.entries w other then k o'
                (ap next_of (sym (get_or-set_other before.next.items at p (Leads next.state next.passed) Unknown apart))
                ∙ sym is ∙ e)
          ]
