-- How far the programs' cycles on two rows are apart, program by program.
use Rattle.std.proofs.Common.{◌≡◌, ◌∙◌, ◌+◌, ◌*◌, ◌<◌, ℕ, ap, refl, sym, get_or, length, take}
use Rattle.std.specs.Prelude.{sum_by, slice_get, Some}
use Rattle.std.specs.Int.{abs_diff}
use Rattle.std.proofs.lemmas.List.Sums.{sum_by_more}
use Rattle.std.proofs.lemmas.Option.{slice_get_read}
use Rattle.tomex_study.specs.Cycles.{total_at}
use Rattle.tomex_study.specs.Program.{Workload}
use Rattle.tomex_study.specs.Study.{DesignSpace}

abbrev pub part : DesignSpace → ℕ → ℕ → Workload → ℕ
part s a b p = p.weight * abs_diff (total_at s p a) (total_at s p b)

-- one more program
pub next_part : (s : DesignSpace) (a b place : ℕ) (p : Workload) {sum one own other weight : ℕ}
    → place < length s.programs → p ≡ get_or s.programs place p → weight ≡ p.weight
    → ((q : Workload) → slice_get s.programs place ≡ Some q → own ≡ total_at s q a)
    → ((q : Workload) → slice_get s.programs place ≡ Some q → other ≡ total_at s q b)
    → one ≡ weight * abs_diff own other → sum ≡ sum_by (part s a b) (take place s.programs)
    → sum + one ≡ sum_by (part s a b) (take (place + 1) s.programs)
next_part s a b place p {sum} {one} {own} {other} {weight} low is weighs first second made so_far =
    let there : slice_get s.programs place ≡ Some p =
    slice_get_read s.programs (length s.programs) place p refl low is in
    let its : one ≡ part s a b p = made ∙ (rw (weighs, first p there, second p there) refl) in
    rw so_far (ap (λ (n : ℕ). sum_by (part s a b) (take place s.programs) + n) (its ∙ ap (part s a b) is)
    ∙ sym (sum_by_more (part s a b) s.programs place p low))
