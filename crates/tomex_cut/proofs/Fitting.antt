-- A hook and a place of free words fit into the window, beside the end.
use Rattle.std.proofs.Common.{◌≡◌, ℕ, ◌+◌, ◌-◌, ◌*◌, ◌/◌, ◌%◌, ◌<◌, ◌≤◌, ◌⊎◌, true, Option, Some, None}
use Rattle.std.proofs.Common.{eq-eqb, refl, subst, arith, inl, inr}
use Rattle.std.specs.Prelude.{IfSome, IsTrue, not, ◌&&◌, nat_eq}
use Rattle.std.proofs.lemmas.Bool.{cases_lt}
use Rattle.tomex_cut.specs.Part.{Part, is_used}
use Rattle.tomex_cut.specs.Room.{AreFree, IsHook, IsPlace, is_free}
use Rattle.tomex_cut.specs.Writing.{EndFits, FitIn, IsRoomFor}
use Rattle.tomex_image.specs.Window.{IsWindow}
use Rattle.tomex_rvexec.specs.Flow.{IsState, memory_of}
use Rattle.tomex_rvexec.specs.Machine.{holds}
use Rattle.tomex_rvexec.specs.Steps.{is_number}
use Rattle.tomex_rvexec.proofs.FlowSteps.{inside}
use Rattle.tomex_cut.proofs.Rooms.{IsWithin, both, free_within}

-- free words are room in the part's memory
room_of : (p : Part) (n a : ℕ) → IsState p.start → 0 < n → AreFree p n a → IsRoomFor (4 * n) a (memory_of p.start)
room_of p n a state some free =
    let zero_is : a + 4 * 0 ≡ a = omega arith in
    let first : IsWithin p a = rw (zero_is) at (free_within p (a + 4 * 0) (free.each 0 some)) in
    let last = free_within p (a + 4 * (n - 1)) (free.each (n - 1) (omega arith)) in
    record {
      word = free.word;
      above = first.above;
      below = omega (arith, last.below, state.filled);
    }

pub fits : (p : Part) (hook place : ℕ) → IsState p.start
    → IsWindow p.start.image.window.base p.start.image.window.size → IsHook p hook → IsPlace p hook place
    → FitIn (memory_of p.start) p.start.pc hook place
fits p hook place state window h a = record {
  top = omega (arith, state.filled, window.within);
  window = omega (arith, state.filled, window.most);
  on_hook = room_of p 3 hook state (omega arith) h.can.free;
  on_place = room_of p 61 place state (omega arith) a.can.free;
  beside = a.can.beside;
  back = h.can.back;
  forth = h.can.forth;
  pc_word = state.aligned;
}

-- the end is no free word
not_the_end : (p : Part) (a e : ℕ) → p.end ≡ Some e → IsTrue (is_free p a) → e ≡ a → ⊥
not_the_end p a e is free same =
    let last = both (holds p.start a 4 && not (is_used p.steps a)) (not (is_number p.end a)) free in
    let no : not (nat_eq e a) ≡ true = subst (λ (o : Option ℕ). not (is_number o a) ≡ true) is last.1 in
    let yes : nat_eq e a ≡ true = eq-eqb e a same in cc

beside_end : (p : Part) (n a e : ℕ) → p.end ≡ Some e → e % 4 ≡ 0 → AreFree p n a → (e + 4 ≤ a) ⊎ (a + 4 * n ≤ e)
beside_end p n a e is whole free = elim (cases_lt e a) [
  | inl l ↦ inl (omega (arith, free.word))
  | inr g ↦ elim (cases_lt e (a + 4 * n)) [
    | inl l ↦
        let k = (e - a) / 4 in
        let within : k < n = omega arith in
        let same : e ≡ a + 4 * k = omega (arith, free.word) in
        absurd (not_the_end p (a + 4 * k) e is (free.each k within) same)
    | inr h ↦ inr h
  ]
]

pub end_fits : (p : Part) (hook place : ℕ) → IsState p.start → IsHook p hook → IsPlace p hook place
    → IfSome p.end (λ e. (e % 4 ≡ 0) × IsTrue (holds p.start e 4))
    → IfSome p.end (λ e. EndFits (memory_of p.start) hook place e)
end_fits p hook place state h a word = at p.end refl word
  where
    at : (o : Option ℕ) → p.end ≡ o → IfSome o (λ e. (e % 4 ≡ 0) × IsTrue (holds p.start e 4))
        → IfSome o (λ e. EndFits (memory_of p.start) hook place e)
    at None is w = tt
    at (Some e) is w =
        let here = inside p.start e 4 w.1 in
        record {
          room = record { word = w.0; above = here.0; below = omega (arith, here.1, state.filled) };
          by_hook = beside_end p 3 hook e is w.0 h.can.free;
          by_place = beside_end p 61 place e is w.0 a.can.free;
        }
