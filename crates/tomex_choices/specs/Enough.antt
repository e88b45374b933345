-- From which number of a part on nothing changes.
use Rattle.std.specs.Prelude.{ℕ, ◌+◌, ◌-◌, ◌==◌, Bool, List, unwrap_or}
use Rattle.std.specs.List.{find, list_all, range_with_len}
use Rattle.tomex_config.specs.Configuration.{Configuration}
use Rattle.tomex_study.specs.Program.{Workload}
use Rattle.tomex_study.specs.Study.{DesignSpace}
use Rattle.tomex_timing.specs.Run.{total}
use Rattle.tomex_config.specs.declared.part.Part.{Part}
use Rattle.tomex_config.specs.Parts.{most_of}
use Rattle.tomex_config.specs.Parts.{with_count}

-- with each number from n on up to the most, the cycles are those with the most
abbrev pub stays_from : (ℕ → ℕ) → ℕ → ℕ → Bool
stays_from cycles most n = list_all (λ m. cycles m == cycles most) (range_with_len n (most + 1 - n))

-- a program's cycles on a configuration with another number of a part
abbrev pub total_with : Configuration → Part → Workload → ℕ → ℕ
total_with c part p n = total (with_count c part n) p.image

-- from n on no program's cycles change on a configuration
unfoldable pub is_enough_on : List Workload → Part → Configuration → ℕ → Bool
is_enough_on programs part c n = list_all (λ p. stays_from (total_with c part p) (most_of part) n) programs

-- the least number from which on, up to the most, no program's cycles change on any row
unfoldable pub enough : DesignSpace → Part → ℕ
enough s part =
    unwrap_or (find (λ n. list_all (λ c. is_enough_on s.programs part c n) s.rows) (range_with_len 1 (most_of part)))
    (most_of part)
