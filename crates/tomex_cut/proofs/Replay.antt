-- The image of a cut, from the part's first pc on, takes the part's steps.
use Rattle.std.proofs.Common.{◌≡◌, ℕ, zero, suc, ◌+◌, ◌-◌, ◌*◌, ◌/◌, ◌%◌, ◌<◌, ◌≤◌, ◌⊎◌, List, [], ◌∷◌, ◌++◌, length}
use Rattle.std.proofs.Common.{Bool, true, false}
use Rattle.std.proofs.Common.{Option, Some, None, Result, Ok, Err, refl, sym, ◌∙◌, ap, subst, arith, inl, inr}
use Rattle.std.specs.Prelude.{slice_index, IfSome, IsTrue, if◌then◌else◌, nat_le, nat_lt, not, option_map, ◌==◌, ◌&&◌}
use Rattle.std.specs.Prelude.{◌||◌}
use Rattle.std.specs.List.{list_any}
use Rattle.std.proofs.lemmas.Bool.{and_from, eqb-true, le-leb, leb-true, lt-ltb, ltb-true}
use Rattle.std.proofs.lemmas.List.Folds.{list_any-append}
use Rattle.tomex_cut.specs.declared.error.CutError.{CutError}
use Rattle.tomex_cut.specs.declared.error.CutError.TheVariants as errors
use Rattle.tomex_cut.specs.After.{after, and_a_step, left_by}
use Rattle.tomex_cut.specs.Cut.{IsCut}
use Rattle.tomex_cut.specs.Laws.{EndsAs, RunsAs}
use Rattle.tomex_cut.specs.Part.{Ends, Fails, GoesOn, Part, is_changed, is_overwritten, is_used, most_part, uses}
use Rattle.tomex_cut.specs.Part.{verdict}
use Rattle.tomex_cut.specs.Part.{verdict_on, word_bytes}
use Rattle.tomex_cut.specs.Prologue.{ebreak, end_bytes, is_written}
use Rattle.tomex_cut.specs.Room.{AreFree, IsHook, IsPlace, is_free}
use Rattle.tomex_image.specs.Image.{IsLoaded, Loaded}
use Rattle.tomex_rvdec.specs.Meaning.{Means, meaning}
use Rattle.tomex_rvdec.proofs.Meaning.{means_meaning}
use Rattle.tomex_image.specs.Window.{IsWindow, Span}
use Rattle.tomex_rvexec.specs.declared.outcome.EndKind.{EndKind}
use Rattle.tomex_rvexec.specs.declared.outcome.EndKind.TheVariants as ends
use Rattle.tomex_rvexec.specs.declared.outcome.FaultKind.TheVariants as faults
use Rattle.tomex_rvexec.specs.declared.step.ByteRange.{ByteRange}
use Rattle.tomex_rvexec.specs.declared.step.Step.{Step}
use Rattle.tomex_rvexec.specs.Fetch.{word_at}
use Rattle.tomex_rvexec.specs.Flow.{IsState, memory_of}
use Rattle.tomex_rvexec.specs.Machine.{Faults, Goes, Outcome, State, base_of, coming_of, holds, step_at, step_of}
use Rattle.tomex_rvexec.specs.Machine.{Ends as EndsRun}
use Rattle.tomex_rvexec.specs.Memory.{Bytes, is_inside, word_read}
use Rattle.tomex_rvexec.specs.Results.{byte_in, covers, is_among}
use Rattle.tomex_rvexec.specs.Run.{start_of}
use Rattle.tomex_rvexec.specs.Steps.{bytes_of, is_number, shares_byte}
use Rattle.tomex_rvexec.specs.Trace.{onto, steps_after, steps_from}
use Rattle.tomex_rvexec.proofs.Bytes.{word_loaded}
use Rattle.tomex_rvexec.proofs.FlowStates.{by_end, ends_by, ends_by_step, fetch_inside, start_state}
use Rattle.tomex_rvexec.proofs.FlowSteps.{inside}
use Rattle.tomex_cut.proofs.Alike.{Alike, Avoids, coming_same, moved, pc_of_coming, run_alike}
use Rattle.tomex_cut.proofs.First.{ends_first}
use Rattle.tomex_cut.proofs.Prologues.{either}
use Rattle.tomex_cut.proofs.Rooms.{both}
use Rattle.tomex_cut.proofs.Walks.{after_keeps, joined, steps_end}

one_of : (a b : Bool) → (a || b) ≡ true → (a ≡ true) ⊎ (b ≡ true)
one_of true b e = inl refl
one_of false b e = inr e

not_false : (b : Bool) → not b ≡ true → b ≡ false
not_false true e = cc
not_false false e = refl

not_of_false : (b : Bool) → not b ≡ false → b ≡ true
not_of_false true e = refl
not_of_false false e = cc

-- a test that no step of a list passes
no_step : (q : Step → Bool) (before rest : List Step) (x : Step) → list_any q (before ++ x ∷ rest) ≡ false → q x ≡ false
no_step q before rest x e =
    let one = either (list_any q before) (list_any q (x ∷ rest)) (sym (list_any-append q before (x ∷ rest)) ∙ e) in
    (either (q x) (list_any q rest) one.1).0

-- the step that comes after k others of a part is one of its steps
pub its_step : (q : Step → Bool) (s v : State) (x : Step) (k count : ℕ) → k < count → after s k ≡ Ok v
    → coming_of v ≡ Some x → list_any q (steps_from count s) ≡ false → q x ≡ false
its_step q s v x k count h here c none =
    let sum : count ≡ k + suc (count - (k + 1)) = omega arith in
    let rest = steps_after (step_of v) (steps_from (count - (k + 1))) in
    let more : steps_from (suc (count - (k + 1))) v ≡ x ∷ rest = ap (λ (o : Option Step). onto o rest) c in
    let all = ap (λ (n : ℕ). steps_from n s) sum
    ∙ (joined k (suc (count - (k + 1))) s v here ∙ ap (λ (xs : List Step). steps_from k s ++ xs) more) in
    no_step q (steps_from k s) rest x (ap (list_any q) (sym all) ∙ none)

-- a byte that is written is in a word that no step uses
pub record IsUnused (steps : List Step) (b : ℕ) : Type 0 where
  pub at : ℕ
  pub word : at % 4 ≡ 0
  pub low : at ≤ b
  pub high : b < at + 4
  pub unused : is_used steps at ≡ false

free_unused : (p : Part) (a : ℕ) → IsTrue (is_free p a) → is_used p.steps a ≡ false
free_unused p a h =
    let one = both (holds p.start a 4 && not (is_used p.steps a)) (not (is_number p.end a)) h in
    let two = both (holds p.start a 4) (not (is_used p.steps a)) one.0 in
    not_false (is_used p.steps a) two.1

among : (from to b : ℕ) → is_among (Some (record { from = from; to = to })) b ≡ true → (from ≤ b) × (b < to)
among from to b e =
    let two = both (nat_le from b) (nat_lt b to) e in (leb-true from b two.0, ltb-true b to two.1)

in_free : (p : Part) (n a b : ℕ) → AreFree p n a → a ≤ b → b < a + 4 * n → IsUnused p.steps b
in_free p n a b free low high =
    let k = (b - a) / 4 in
    record {
      at = a + 4 * k;
      word = omega (arith, free.word);
      low = omega arith;
      high = omega arith;
      unused = free_unused p (a + 4 * k) (free.each k (omega arith));
    }

pub written_unused : (p : Part) (hook place b : ℕ) → IsHook p hook → IsPlace p hook place
    → IfSome p.end (λ e. (e % 4 ≡ 0) × (is_used p.steps e ≡ false)) → is_written p.end hook place b ≡ true
    → IsUnused p.steps b
written_unused p hook place b h a end w = elim (one_of _ _ w) [
  | inl on_either ↦ elim (one_of _ _ on_either) [
    | inl on ↦ let r = among hook (hook + 12) b on in in_free p 3 hook b h.can.free r.0 (omega (arith, r.1))
    | inr on ↦ let r = among place (place + 244) b on in in_free p 61 place b a.can.free r.0 (omega (arith, r.1))
  ]
  | inr last ↦ at p.end end last
]
  where
    at : (o : Option ℕ) → IfSome o (λ e. (e % 4 ≡ 0) × (is_used p.steps e ≡ false)) → end_bytes o b ≡ true
        → IsUnused p.steps b
    at None end last = cc
    at (Some e) end last =
        let r = among e (e + 4) b last in
        record { at = e; word = end.0; low = r.0; high = r.1; unused = end.1 }

-- a step that uses a word
pc_uses : (a b : ℕ) (x : Step) → a % 4 ≡ 0 → x.pc % 4 ≡ 0 → a ≤ b → b < a + 4 → x.pc ≤ b → b < x.pc + 4
    → uses a x ≡ false → ⊥
pc_uses a b x whole aligned low high under over none =
    let same : a ≤ x.pc = omega arith in
    let yes : is_among (word_bytes a) x.pc ≡ true =
    and_from (nat_le a x.pc) (nat_lt x.pc (a + 4)) (le-leb a x.pc same) (lt-ltb x.pc (a + 4) (omega arith)) in
    let never = (either (is_among (word_bytes a) x.pc) (shares_byte (bytes_of x) (word_bytes a)) none).0 in cc

covered_uses : (a b : ℕ) (x : Step) → a ≤ b → b < a + 4 → covers x b ≡ true → uses a x ≡ false → ⊥
covered_uses a b x low high c none =
    at (bytes_of x) c (either (is_among (word_bytes a) x.pc) (shares_byte (bytes_of x) (word_bytes a)) none).1
  where
    at : (o : Option ByteRange) → is_among o b ≡ true → shares_byte o (word_bytes a) ≡ false → ⊥
    at None c none = cc
    at (Some r) c none =
        let within = both (nat_le r.from b) (nat_lt b r.to) c in
        let from = leb-true r.from b within.0 in
        let to = ltb-true b r.to within.1 in
        let yes : (nat_lt r.from (a + 4) && nat_lt a r.to) ≡ true =
        and_from (nat_lt r.from (a + 4)) (nat_lt a r.to) (lt-ltb r.from (a + 4) (omega (arith, from)))
        (lt-ltb a r.to (omega (arith, to))) in cc

-- what is known of a cut, in the part's own names
record Known (p : Part) (j : Loaded) (hook place : ℕ) : Type 0 where
  state : IsState p.start
  window : j.window ≡ p.start.image.window
  filled : length j.memory ≡ j.window.size
  is_hook : IsHook p hook
  is_place : IsPlace p hook place
  end_word : IfSome p.end (λ e. (e % 4 ≡ 0) × (is_used p.steps e ≡ false))
  kept : is_overwritten p ≡ false
  others : (b : ℕ) → base_of p.start ≤ b → is_written p.end hook place b ≡ false
      → byte_in (memory_of (moved p.start j j.memory)) b ≡ byte_in (memory_of p.start) b

-- the two runs begin alike
begin_alike : (p : Part) (j : Loaded) (hook place : ℕ) → Known p j hook place
    → Alike j (is_written p.end hook place) p.start (moved p.start j j.memory)
begin_alike p j hook place k = record {
  memory = j.memory;
  is = refl;
  window = k.window;
  bytes = k.others;
  state = k.state;
  other = record {
    registers = k.state.registers;
    zero = k.state.zero;
    aligned = k.state.aligned;
    filled = k.filled;
  };
}

same_word : (m n : Bytes) (a : ℕ) → m.base ≡ n.base → n.base ≤ a → byte_in m a ≡ byte_in n a
    → byte_in m (a + 1) ≡ byte_in n (a + 1) → byte_in m (a + 2) ≡ byte_in n (a + 2)
    → byte_in m (a + 3) ≡ byte_in n (a + 3) → word_read m.bytes (a - m.base) ≡ word_read n.bytes (a - n.base)
same_word m n a e low b0 b1 b2 b3 =
    word_loaded m a (omega (arith, e)) ∙ (rw (b0, b1, b2, b3) (sym (word_loaded n a low)))

-- each step of the part avoids the words that are written
avoids : (p : Part) (j : Loaded) (hook place count k : ℕ) (v : State) (x : Step) → Known p j hook place
    → p.steps ≡ steps_from count p.start → k < count → after p.start k ≡ Ok v → coming_of v ≡ Some x
    → Avoids j (is_written p.end hook place) p.start.image x
avoids p j hook place count k v x known steps h here c =
    let differs = is_written p.end hook place in
    let keeps = after_keeps k p.start v known.state here in
    let at = pc_of_coming v x c in
    let aligned : x.pc % 4 ≡ 0 = rw (at) keeps.state.aligned in
    let in_window = inside v v.pc 4 (fetch_inside v x c) in
    let base : base_of v ≡ base_of p.start = ap (λ (i : Loaded). i.window.base) keeps.image in
    let low : base_of p.start ≤ x.pc = omega (arith, at, base, in_window.0) in
    let none : (q : Step → Bool) → list_any q p.steps ≡ false → q x ≡ false = λ q e.
    its_step q p.start v x k count h here c (ap (list_any q) (sym steps) ∙ e) in
    let never : (b : ℕ) → (IsUnused p.steps b → ⊥) → differs b ≡ false = λ b not_there.
    decide b (differs b) refl not_there in
    let code : (b : ℕ) → x.pc ≤ b → b < x.pc + 4 → differs b ≡ false = λ b under over. never b (λ u.
    pc_uses u.at b x u.word aligned u.low u.high under over (none (uses u.at) u.unused)) in
    let other = memory_of (moved p.start j j.memory) in
    let mine = memory_of p.start in
    let base_j : other.base ≡ mine.base = ap (λ (w : Span). w.base) known.window in
    let word : word_read j.memory (x.pc - other.base) ≡ word_read p.start.memory (x.pc - mine.base) =
    same_word other mine x.pc base_j low
    (known.others x.pc low (code x.pc (omega arith) (omega arith)))
    (known.others (x.pc + 1) (omega arith) (code (x.pc + 1) (omega arith) (omega arith)))
    (known.others (x.pc + 2) (omega arith) (code (x.pc + 2) (omega arith) (omega arith)))
    (known.others (x.pc + 3) (omega arith) (code (x.pc + 3) (omega arith) (omega arith))) in
    let loaded : word_read p.start.memory (x.pc - mine.base) ≡ word_at p.start.image x.pc =
    eqb-true _ _ (not_of_false (word_read p.start.memory (x.pc - mine.base) == word_at p.start.image x.pc)
    (none (is_changed p.start) known.kept)) in
    record {
      word = word ∙ loaded;
      bytes = λ a covered. never a (λ u. covered_uses u.at a x u.low u.high covered (none (uses u.at) u.unused));
    }
  where
    decide : (b : ℕ) (d : Bool) → is_written p.end hook place b ≡ d → (IsUnused p.steps b → ⊥)
        → is_written p.end hook place b ≡ false
    decide b false is not_there = is
    decide b true is not_there =
        absurd (not_there (written_unused p hook place b known.is_hook known.is_place known.end_word is))

-- the last step of a run that has ended
pub record HasLast (s : State) (n : ℕ) : Type 0 where
  pub index : ℕ
  pub before : index < n
  pub state : State
  pub kind : EndKind
  pub reached : after s index ≡ Ok state
  pub ends : step_of state ≡ EndsRun kind

last_of : (n : ℕ) (s : State) → after s n ≡ Err errors.NoSuchStep → HasLast s n
last_of zero s e = cc
last_of (suc n) s e = at (λ h. last_of n s h) (after s n) refl e
  where
    by : (u : State) (o : Outcome) → step_of u ≡ o → after s n ≡ Ok u → left_by o u ≡ Err errors.NoSuchStep
        → HasLast s (suc n)
    by u (Goes t) is here e = cc
    by u (EndsRun kind) is here e =
        record { index = n; before = omega arith; state = u; kind = kind; reached = here; ends = is }
    by u (Faults kind) is here e = cc

    at : (after s n ≡ Err errors.NoSuchStep → HasLast s n) → (r : Result State CutError) → after s n ≡ r
        → and_a_step r ≡ Err errors.NoSuchStep → HasLast s (suc n)
    at older (Ok u) here e = by u (step_of u) refl here e
    at older (Err x) here e =
        let same : x ≡ errors.NoSuchStep = cc in
        let l = older (here ∙ ap Err same) in
        record {
          index = l.index;
          before = omega (arith, l.before);
          state = l.state;
          kind = l.kind;
          reached = l.reached;
          ends = l.ends;
        }

-- the run's own last step is the other's, too
ends_itself : (p : Part) (j : Loaded) (hook place count : ℕ) → Known p j hook place
    → p.steps ≡ steps_from count p.start → after p.start count ≡ Err errors.NoSuchStep
    → (steps_from count (moved p.start j j.memory) ≡ p.steps) × EndsAs None (moved p.start j j.memory) count
ends_itself p j hook place count known steps e =
    let t = moved p.start j j.memory in
    let differs = is_written p.end hook place in
    let l = last_of count p.start e in
    let comes = ends_by_step l.state l.kind l.ends in
    let b = run_alike l.index j differs p.start t l.state (begin_alike p j hook place known)
    (λ k v x h here c. avoids p j hook place count k v x known steps (omega (arith, l.before)) here c) l.reached in
    let a = avoids p j hook place count l.index l.state comes.step known steps l.before l.reached comes.is in
    let at = pc_of_coming l.state comes.step comes.is in
    let image = (after_keeps l.index p.start l.state known.state l.reached).image in
    let word : word_at j l.state.pc ≡ word_at l.state.image l.state.pc =
    subst (λ (i : Loaded). word_at j l.state.pc ≡ word_at i l.state.pc) (sym image)
    (subst (λ (pc : ℕ). word_at j pc ≡ word_at p.start.image pc) at a.word) in
    let other_comes : coming_of b.other ≡ Some comes.step =
    subst (λ (u : State). coming_of u ≡ Some comes.step) (sym b.alike.is)
    (coming_same l.state j b.alike.memory b.alike.window word ∙ comes.is) in
    let other_ends = by_end b.other comes.step l.kind other_comes (ends_by l.state comes.step l.kind comes.is l.ends) in
    let mine = steps_end p.start l.state l.kind l.index count comes.step l.reached comes.is l.ends l.before in
    let theirs = steps_end t b.other l.kind l.index count comes.step b.reached other_comes other_ends l.before in (
      theirs ∙ (ap (λ (xs : List Step). xs ++ comes.step ∷ []) b.steps ∙ (sym mine ∙ sym steps)),
      (l.index, b.other, l.kind, l.before, b.reached, other_ends),
    )

-- an EBREAK stands at the end
ends_there : (p : Part) (j : Loaded) (hook place count e : ℕ) (u : State) → Known p j hook place
    → p.steps ≡ steps_from count p.start → after p.start count ≡ Ok u → u.pc ≡ e → holds u u.pc 4 ≡ true
    → Means (word_at j e) ebreak
    → (steps_from count (moved p.start j j.memory) ≡ p.steps) × EndsAs (Some e) (moved p.start j j.memory) count
ends_there p j hook place count e u known steps here at in_memory word =
    let t = moved p.start j j.memory in
    let differs = is_written p.end hook place in
    let b = run_alike count j differs p.start t u (begin_alike p j hook place known)
    (λ k v x h there c. avoids p j hook place count k v x known steps h there c) here in
    let o = moved u j b.alike.memory in
    let means : meaning (word_at j u.pc) ≡ Some ebreak =
    means_meaning (word_at j u.pc) ebreak (subst (λ (pc : ℕ). Means (word_at j pc) ebreak) (sym at) word) in
    let held : holds o u.pc 4 ≡ true =
    ap (λ (w : Span). is_inside w.base w.size u.pc 4) b.alike.window ∙ in_memory in
    let comes : coming_of o ≡ Some (step_at o ebreak) =
    ap (λ (c : Bool). if c then option_map (step_at o) (meaning (word_at j u.pc)) else None) held
    ∙ ap (option_map (step_at o)) means in
    let over = by_end o (step_at o ebreak) ends.Ebreak comes refl in
    let there : step_of b.other ≡ EndsRun ends.Ebreak =
    subst (λ (v : State). step_of v ≡ EndsRun ends.Ebreak) (sym b.alike.is) over in
    let pc : b.other.pc ≡ e = ap (λ (v : State). v.pc) b.alike.is ∙ at in
    (b.steps ∙ sym steps, (b.other, b.reached, pc, there))

-- what there is at a part's end
EndIs : State → ℕ → Option ℕ → Type 0
EndIs s n None = after s n ≡ Err errors.NoSuchStep
EndIs s n (Some e) = (u : State) × (after s n ≡ Ok u) × (u.pc ≡ e) × (holds u u.pc 4 ≡ true)
    × (is_used (steps_from n s) e ≡ false)

end_is : (s : State) (n : ℕ) (end : Option ℕ) → verdict s n ≡ Ends end → EndIs s n end
unfolding EndIs
end_is s n end h = at (after s n) refl h
  where
    here : (t : State) → after s n ≡ Ok t → (b u : Bool) → holds t t.pc 4 ≡ b → is_used (steps_from n s) t.pc ≡ u
        → (if b then (if u then GoesOn else Ends (Some t.pc))
        else Fails (errors.Fault (record { kind = faults.Fetch; pc = t.pc }))) ≡ Ends end → EndIs s n end
    here t there true true held is e = cc
    here t there true false held is e =
        let same : Some t.pc ≡ end = cc in
        subst (λ (o : Option ℕ). EndIs s n o) same (t, there, refl, held, is)
    here t there false u held is e = cc

    over : (x : CutError) → after s n ≡ Err x → verdict_on (Err x) (steps_from n s) ≡ Ends end → EndIs s n end
    over errors.NoSuchStep there e =
        let same : None ≡ end = cc in subst (λ (o : Option ℕ). EndIs s n o) same there
    over x there e = cc

    at : (r : Result State CutError) → after s n ≡ r → verdict_on r (steps_from n s) ≡ Ends end → EndIs s n end
    at (Ok t) there e = here t there (holds t t.pc 4) (is_used (steps_from n s) t.pc) refl refl e
    at (Err x) there e = over x there e

end_words : (s : State) (n : ℕ) (steps : List Step) (end : Option ℕ) → IsState s → steps ≡ steps_from n s
    → EndIs s n end → IfSome end (λ e. (e % 4 ≡ 0) × (is_used steps e ≡ false))
unfolding EndIs
end_words s n steps None h is e = tt
end_words s n steps (Some a) h is e = (
  subst (λ (pc : ℕ). pc % 4 ≡ 0) e.2 (after_keeps n s e.0 h e.1).state.aligned,
  ap (λ (xs : List Step). is_used xs a) is ∙ e.4,
)

-- the end of either kind
runs : (p : Part) (j : Loaded) (hook place count : ℕ) (end : Option ℕ) → p.end ≡ end → Known p j hook place
    → p.steps ≡ steps_from count p.start → count ≤ most_part → EndIs p.start count end
    → IfSome end (λ e. Means (word_at j e) ebreak)
    → RunsAs p j
unfolding EndIs
runs p j hook place count None is known steps few e word =
    let both_run = ends_itself p j hook place count known steps e in
    record {
      count = count;
      few = few;
      steps = both_run.0;
      ends = subst (λ (o : Option ℕ). EndsAs o (moved p.start j j.memory) count) (sym is) both_run.1;
    }
runs p j hook place count (Some a) is known steps few e word =
    let both_run = ends_there p j hook place count a e.0 known steps e.1 e.2 e.3 word in
    record {
      count = count;
      few = few;
      steps = both_run.0;
      ends = subst (λ (o : Option ℕ). EndsAs o (moved p.start j j.memory) count) (sym is) both_run.1;
    }

pub replays : (i : Loaded) (from least : ℕ) (file : List ℕ) → IsWindow i.window.base i.window.size
    → IsLoaded i.window i.memory i.entry → (c : IsCut i from least file)
    → RunsAs c.part (record { window = i.window; memory = c.memory.bytes; entry = c.place })
replays i from least file limits loaded c =
    let p = c.part in
    let j : Loaded = record { window = i.window; memory = c.memory.bytes; entry = c.place } in
    let first = ends_first i from least p c.is_part in
    let keeps = after_keeps (from - 1) (start_of i) p.start (start_state i loaded) first.reached in
    let window : i.window ≡ p.start.image.window = ap (λ (k : Loaded). k.window) (sym keeps.image) in
    let base : c.memory.base ≡ i.window.base = c.is_memory.base ∙ ap (λ (w : Span). w.base) (sym window) in
    let end = end_is p.start first.count p.end first.ends in
    let known : Known p j c.hook c.place = record {
      state = keeps.state;
      window = window;
      filled = c.is_memory.size ∙ (keeps.state.filled ∙ ap (λ (w : Span). w.size) (sym window));
      is_hook = c.is_hook;
      is_place = c.is_place;
      end_word = end_words p.start first.count p.steps p.end keeps.state first.steps end;
      kept = c.kept;
      others = λ b low away.
          ap (λ (n : ℕ). slice_index c.memory.bytes (b - n)) (sym base) ∙ c.is_memory.others b low away;
    } in
    let word : IfSome p.end (λ e. Means (word_at j e) ebreak) =
    subst (λ (n : ℕ). IfSome p.end (λ e. Means (word_read c.memory.bytes (e - n)) ebreak)) base c.is_memory.on_end in
    runs p j c.hook c.place first.count p.end refl known first.steps first.few end word
