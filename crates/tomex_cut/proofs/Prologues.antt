-- A prologue and an end in a memory, written one after another.
use Rattle.std.proofs.Common.{◌≡◌, ℕ, ◌+◌, ◌-◌, ◌*◌, ◌<◌, ◌≤◌, ◌⊎◌, List, Bool, true, false, Some, None, refl}
use Rattle.std.proofs.Common.{◌∙◌, ap, arith, inl, inr}
use Rattle.std.specs.Prelude.{slice_index, nat_le, nat_lt, ◌&&◌, ◌||◌}
use Rattle.std.proofs.lemmas.Bool.{and_from, cases_lt, le-leb, lt-ltb}
use Rattle.tomex_cut.specs.Prologue.{HasHook, HasPlace, HasPrologue, HasWord, branch, ebreak, jump}
use Rattle.tomex_cut.specs.Writing.{EndFits, FitIn, Rewrites}
use Rattle.tomex_rvexec.specs.Memory.{Bytes}
use Rattle.tomex_rvexec.specs.Results.{byte_in, is_among}
use Rattle.tomex_cut.proofs.Written.{has_word_stays, pair_stays}

-- bytes beside others
abbrev pub IsBeside : ℕ → ℕ → ℕ → ℕ → Type 0
IsBeside a b from to = (b ≤ from) ⊎ (to ≤ a)

part_beside : (a b c d from to : ℕ) → IsBeside a b from to → a ≤ c → d ≤ b → IsBeside c d from to
part_beside a b c d from to (inl less) e f = inl (omega arith)
part_beside a b c d from to (inr more) e f = inr (omega arith)

-- the hook and the place stay
hook_stays : (from to at pc : ℕ) (old new : Bytes) (regs : List ℕ) → Rewrites from to old new → old.base ≤ at
    → IsBeside at (at + 12) from to → HasHook old at pc regs → HasHook new at pc regs
hook_stays from to at pc old new regs w low beside h = record {
  pair = pair_stays from to at 31 (slice_index regs 31) old new w low
      (part_beside at (at + 12) at (at + 8) from to beside (omega arith) (omega arith)) h.pair;
  last = has_word_stays from to (at + 8) old new (branch (at + 8) pc) w (omega arith)
      (part_beside at (at + 12) (at + 8) (at + 8 + 4) from to beside (omega arith) (omega arith)) h.last;
}

place_stays : (from to at hook : ℕ) (old new : Bytes) (regs : List ℕ) → Rewrites from to old new → old.base ≤ at
    → IsBeside at (at + 244) from to → HasPlace old at hook regs → HasPlace new at hook regs
place_stays from to at hook old new regs w low beside p = record {
  pairs = λ r some few. pair_stays from to (at + 8 * (r - 1)) r (slice_index regs r) old new w (omega arith)
      (part_beside at (at + 244) (at + 8 * (r - 1)) (at + 8 * (r - 1) + 8) from to beside (omega arith) (omega arith))
      (p.pairs r some few);
  last = has_word_stays from to (at + 240) old new (jump (at + 240) hook) w (omega arith)
      (part_beside at (at + 244) (at + 240) (at + 240 + 4) from to beside (omega arith) (omega arith)) p.last;
}

-- a byte that isn't written stays
pub either : (a b : Bool) → (a || b) ≡ false → (a ≡ false) × (b ≡ false)
either true b e = cc
either false b e = (refl, e)

outside : (from to b : ℕ) → is_among (Some (record { from = from; to = to })) b ≡ false → (b < from) ⊎ (to ≤ b)
outside from to b e = elim (cases_lt b from) [
  | inl l ↦ inl l
  | inr g ↦ elim (cases_lt b to) [
    | inl l ↦
        let yes : (nat_le from b && nat_lt b to) ≡ true =
        and_from (nat_le from b) (nat_lt b to) (le-leb from b g) (lt-ltb b to l) in
        let never : (nat_le from b && nat_lt b to) ≡ false = e in absurd (cc)
    | inr h ↦ inr h
  ]
]

byte_stays : (from to b : ℕ) (old new : Bytes) → Rewrites from to old new → old.base ≤ b → (b < from) ⊎ (to ≤ b)
    → byte_in new b ≡ byte_in old b
byte_stays from to b old new w low (inl l) = w.below b low l
byte_stays from to b old new w low (inr g) = w.above b low g

-- after the place and the hook
pub without_end : (old one two : Bytes) (pc hook place : ℕ) (regs : List ℕ) → FitIn old pc hook place
    → HasPlace one place hook regs → Rewrites place (place + 244) old one → HasHook two hook pc regs
    → Rewrites hook (hook + 12) one two → HasPrologue old pc regs None hook place two
without_end old one two pc hook place regs fit on_place r on_hook s = record {
  base = s.base ∙ r.base;
  size = s.size ∙ r.size;
  on_hook = on_hook;
  on_place = place_stays hook (hook + 12) place hook one two regs s (omega (arith, r.base, fit.on_place.above))
      fit.beside on_place;
  on_end = tt;
  others = λ b low e.
      let out = either _ _ e in
      let outs = either _ _ out.0 in
      byte_stays hook (hook + 12) b one two s (omega (arith, r.base)) (outside hook (hook + 12) b outs.0)
      ∙ byte_stays place (place + 244) b old one r low (outside place (place + 244) b outs.1);
}

swapped : (a b c d : ℕ) → IsBeside a b c d → IsBeside c d a b
swapped a b c d (inl l) = inr l
swapped a b c d (inr g) = inl g

-- and after the end
pub with_end : (old one two new : Bytes) (pc hook place e : ℕ) (regs : List ℕ) → FitIn old pc hook place
    → EndFits old hook place e → HasPlace one place hook regs → Rewrites place (place + 244) old one
    → HasHook two hook pc regs → Rewrites hook (hook + 12) one two → HasWord new e ebreak → Rewrites e (e + 4) two new
    → HasPrologue old pc regs (Some e) hook place new
with_end old one two new pc hook place e regs fit end on_place r on_hook s on_end t =
    let before = without_end old one two pc hook place regs fit on_place r on_hook s in
    record {
      base = t.base ∙ before.base;
      size = t.size ∙ before.size;
      on_hook = hook_stays e (e + 4) hook pc two new regs t (omega (arith, before.base, fit.on_hook.above))
          (swapped e (e + 4) hook (hook + 12) end.by_hook) before.on_hook;
      on_place = place_stays e (e + 4) place hook two new regs t (omega (arith, before.base, fit.on_place.above))
          (swapped e (e + 4) place (place + 244) end.by_place) before.on_place;
      on_end = on_end;
      others = λ b low written.
          let out = either _ _ written in
          byte_stays e (e + 4) b two new t (omega (arith, before.base)) (outside e (e + 4) b out.1)
          ∙ before.others b low (ap (λ x. x || false) out.0);
    }
