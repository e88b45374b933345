use Rattle.std.proofs.Common.{◌≡◌, ◌++◌, ◌+◌, ◌∷◌, [], sym, ap, ◌∙◌, refl, List, ℕ}
use Rattle.std.proofs.lemmas.List.{take_rest}
use Rattle.std.proofs.Common.{append_assoc}
use Rattle.tomex_asm_tokens.proofs.Meant.{meant, meant_skips, meant_escape, meant_goes}
use Rattle.tomex_asm_tokens.proofs.strings.push_string.Goals as goal
use Rattle.tomex_asm_tokens.proofs.strings.push_string.Goals.{then-byte-eq92+in_ok-push, else-byte-eq92+in_ok-push-2}

pub loop-place-preserved-then-place-next : goal.loop-place-preserved-then-place-next
loop-place-preserved-then-place-next g c =
    ap (λ (rest : List ℕ). c.loop-place.out.items ++ rest)
    (sym (meant_skips c.loop-place.next c.loop-place.place c.args.inner.now c.loop-place-test.true
    c.if-place-next.true))
    ∙ c.loop-place.invariant

-- a byte goes from the front of the rest to the end of what is pushed
moved : (out new rest all : List ℕ) (b : ℕ) (later : List ℕ) → new ≡ out ++ (b ∷ []) → rest ≡ b ∷ later
    → out ++ rest ≡ all → new ++ later ≡ all
moved out new rest all b later n r h =
    ap (λ (xs : List ℕ). xs ++ later) n ∙ append_assoc out (b ∷ []) later
    ∙ ap (λ (xs : List ℕ). out ++ xs) (sym r) ∙ h

pub loop-place-preserved : goal.loop-place-preserved
loop-place-preserved g c =
    let later = meant c.if-byte-eq92.next (c.loop-place.place + 1) c.args.inner.now in
    elim c.if-byte-eq92.branch [
      | then-byte-eq92+in_ok-push w ↦
          moved c.loop-place.out.items _ _ _ w.escape_value.result later
          (ap (λ v. v.items) w.out-is ∙ w.in_ok-push.ensures.items)
          (meant_escape c.loop-place.next c.if-byte-eq92.next c.loop-place.place _ _ _ c.args.inner.now _
          c.loop-place-test.true c.if-place-next.false refl w.if-byte-eq92.true
          (take_rest c.args.inner.now (c.loop-place.place + 1)) w.escape_length.ensures.value w.escape_value.ensures
          w.next-is) c.loop-place.invariant
      | else-byte-eq92+in_ok-push-2 w ↦
          moved c.loop-place.out.items _ _ _ _ later
          (ap (λ v. v.items) w.out-is ∙ w.in_ok-push-2.ensures.items)
          (meant_goes c.loop-place.next c.if-byte-eq92.next c.loop-place.place _ c.args.inner.now
          c.loop-place-test.true c.if-place-next.false refl w.if-byte-eq92.false w.next-is) c.loop-place.invariant
    ]
