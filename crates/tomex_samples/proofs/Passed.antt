-- A run that has ended, by its stretches.
use Rattle.std.proofs.Common.{◌≡◌, ℕ, ◌+◌, ◌-◌, ◌*◌, ◌/◌, ◌<◌, ◌≤◌, List, [], length, sym, ◌∙◌, ap, arith, subst}
use Rattle.std.proofs.Common.{None, Option}
use Rattle.std.proofs.lemmas.List.FromFn.{fill_by_all, get_or-map-range_with_len, length-map-range_with_len}
use Rattle.std.proofs.Math.Nat.{le_of_mul-le-mul_right}
use Rattle.std.proofs.lemmas.Nat.{div-mul-add}
use Rattle.std.specs.Prelude.{slice_index_or}
use Rattle.tomex_cut.specs.After.{after}
use Rattle.tomex_cut.specs.Part.{most_part, part_at, part_of}
use Rattle.tomex_image.specs.Image.{Loaded}
use Rattle.tomex_samples.specs.declared.counts.Entry.{Entry}
use Rattle.tomex_samples.specs.Stretches.{counts_of, most_stretches, part_length, run_of, stretch}
use Rattle.tomex_samples.specs.Tally.{AreTallied, IsRow, IsShown}
use Rattle.tomex_rvexec.specs.Run.{start_of}

pub shown : (i : Loaded) (steps n current words : ℕ) (counts touched : List ℕ) (rows : List (List Entry))
    (parts new_parts : List (Option ℕ)) → 1 ≤ steps → steps ≤ most_part → n ≤ most_stretches * steps → current < steps
    → AreTallied i steps n current counts touched rows (length parts) → words ≡ length counts
    → length new_parts ≡ length parts
    → ((k : ℕ) → k < length parts
    → slice_index_or new_parts k None ≡ part_length (part_at (after (start_of i) (k * steps)) steps))
    → IsShown steps words rows new_parts (run_of i steps (n / steps))
shown i steps n current words counts touched rows parts new_parts some few less fewer t words_are size known =
    subst (λ (m : ℕ). IsShown steps words rows new_parts (run_of i steps m)) (sym number_is) (record {
      few = few;
      not_many =
          let by : length parts * steps ≤ most_stretches * steps = omega (arith, t.done) in
          omega (arith, size, le_of_mul-le-mul_right {k = steps} by (omega arith));
      parts_are = sym (fill_by_all (λ k. part_length (part_of i (k * steps + 1) steps)) new_parts (length parts) None
          size (λ k h.
          let from : k * steps + 1 - 1 ≡ k * steps = omega arith in
          known k h ∙ ap (λ b. part_length (part_at (after (start_of i) b) steps)) (sym from)));
      number = length-map-range_with_len (λ k. counts_of i.window (stretch i steps k)) 0 (length parts) ∙ sym size;
      rows_number = t.number ∙ sym size;
      rows_are = λ k h.
          let within : k < length parts = omega (arith, size) in
          let zero_and : 0 + k ≡ k = omega arith in
          subst (λ (cs : List ℕ). IsRow steps words (slice_index_or rows k []) cs)
          (sym (get_or-map-range_with_len (λ j. counts_of i.window (stretch i steps j)) 0 (length parts) k k [] within
          zero_and))
          (subst (λ (w : ℕ). IsRow steps w (slice_index_or rows k []) (counts_of i.window (stretch i steps k)))
          (sym (words_are ∙ t.size)) (t.rows_are k within));
    })
  where
    number_is : n / steps ≡ length parts
    number_is = ap (λ m. m / steps) t.done ∙ div-mul-add (length parts) steps current fewer
