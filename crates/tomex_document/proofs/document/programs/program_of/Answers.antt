-- The result of a place: the fault of the first key that has one, or the values of its keys.
use Rattle.std.proofs.lemmas.Grind.{common_steps}
use Rattle.std.proofs.Common.{◌≡◌, ◌≤◌, ℕ, true, arith, sym, refl}
use Rattle.std.proofs.lemmas.Result.{err_from_is_err_and}
use Rattle.tomex_document.specs.Program.{program_of}
use Rattle.tomex_values.proofs.Outcomes.{goes_on, stops}
use Rattle.tomex_values.specs.Numbers.{between, is_within}
use Rattle.tomex_document.proofs.document.programs.program_of.Goals as goal

-- a number that was tested is within its limits
within : (low high n : ℕ) → is_within (between low high) n ≡ true → (low ≤ n) × (n ≤ high)
within low high n given = (grind arith, grind arith)

pub returns-in_err-file : goal.returns-in_err-file
unfolding program_of
returns-in_err-file g c =
    let p = err_from_is_err_and c.from_residual-in_err-file.result c.from_residual-in_err-file.ensures.1 in
    let known = sym (rw c.as_slice.ensures at c.in_ok-known_keys.ensures) in
    rw (p.1, p.2) (λ other. goes_on _ _ _ _ known
    (goes_on _ _ _ _ c.in_ok-name.ensures.read (stops _ _ _ (c.in_err-file.ensures.read other))))

pub returns-in_err-window : goal.returns-in_err-window
unfolding program_of
returns-in_err-window g c =
    let p = err_from_is_err_and c.from_residual-in_err-window.result c.from_residual-in_err-window.ensures.1 in
    let known = sym (rw c.as_slice.ensures at c.in_ok-known_keys.ensures) in
    rw (p.1, p.2) (λ other. goes_on _ _ _ _ known
    (goes_on _ _ _ _ c.in_ok-name.ensures.read
    (goes_on _ _ _ _ c.in_ok-file.ensures.read (stops _ _ _ c.in_err-window.ensures))))

pub returns-in_err-limit : goal.returns-in_err-limit
unfolding program_of
returns-in_err-limit g c =
    let p = err_from_is_err_and c.from_residual-in_err-limit.result c.from_residual-in_err-limit.ensures.1 in
    let known = sym (rw c.as_slice.ensures at c.in_ok-known_keys.ensures) in
    rw (p.1, p.2) (λ other. goes_on _ _ _ _ known
    (goes_on _ _ _ _ c.in_ok-name.ensures.read
    (goes_on _ _ _ _ c.in_ok-file.ensures.read
    (goes_on _ _ _ _ c.in_ok-window.ensures
    (stops _ _ _ (sym (rw c.between.ensures at c.in_err-limit.ensures.read)))))))

pub returns-in_err-watch : goal.returns-in_err-watch
unfolding program_of
returns-in_err-watch g c =
    let p = err_from_is_err_and c.from_residual-in_err-watch.result c.from_residual-in_err-watch.ensures.1 in
    let known = sym (rw c.as_slice.ensures at c.in_ok-known_keys.ensures) in
    rw (p.1, p.2) (λ other. goes_on _ _ _ _ known
    (goes_on _ _ _ _ c.in_ok-name.ensures.read
    (goes_on _ _ _ _ c.in_ok-file.ensures.read
    (goes_on _ _ _ _ c.in_ok-window.ensures
    (goes_on _ _ _ _ (sym (rw c.between.ensures at c.in_ok-limit.ensures.read))
    (stops _ _ _ (c.in_err-watch.ensures.read other)))))))

pub returns-in_err-weight : goal.returns-in_err-weight
unfolding program_of
returns-in_err-weight g c =
    let p = err_from_is_err_and c.from_residual-in_err-weight.result c.from_residual-in_err-weight.ensures.1 in
    let known = sym (rw c.as_slice.ensures at c.in_ok-known_keys.ensures) in
    rw (p.1, p.2) (λ other. goes_on _ _ _ _ known
    (goes_on _ _ _ _ c.in_ok-name.ensures.read
    (goes_on _ _ _ _ c.in_ok-file.ensures.read
    (goes_on _ _ _ _ c.in_ok-window.ensures
    (goes_on _ _ _ _ (sym (rw c.between.ensures at c.in_ok-limit.ensures.read))
    (goes_on _ _ _ _ c.in_ok-watch.ensures.read
    (stops _ _ _ (sym (rw c.between-2.ensures at c.in_err-weight.ensures.read)))))))))

pub returns : goal.returns
unfolding program_of
returns g c =
    let known = sym (rw c.as_slice.ensures at c.in_ok-known_keys.ensures) in
    goes_on _ _ _ _ known (goes_on _ _ _ _ c.in_ok-name.ensures.read
    (goes_on _ _ _ _ c.in_ok-file.ensures.read
    (goes_on _ _ _ _ c.in_ok-window.ensures
    (goes_on _ _ _ _ (sym (rw c.between.ensures at c.in_ok-limit.ensures.read))
    (goes_on _ _ _ _ c.in_ok-watch.ensures.read
    (goes_on _ _ _ _ (sym (rw c.between-2.ensures at c.in_ok-weight.ensures.read))
    (rw (c.new.ensures, c.has_key-weighed.ensures) refl)))))))

pub returns-in_err-known_keys : goal.returns-in_err-known_keys
unfolding program_of
returns-in_err-known_keys g c =
    let p = err_from_is_err_and c.from_residual-in_err-known_keys.result c.from_residual-in_err-known_keys.ensures.1 in
    rw (p.1, p.2) (λ other. stops _ _ _ (sym (rw c.as_slice.ensures at c.in_err-known_keys.ensures)))

pub returns-in_err-name : goal.returns-in_err-name
unfolding program_of
returns-in_err-name g c =
    let p = err_from_is_err_and c.from_residual-in_err-name.result c.from_residual-in_err-name.ensures.1 in
    let known = sym (rw c.as_slice.ensures at c.in_ok-known_keys.ensures) in
    rw (p.1, p.2) (λ other. goes_on _ _ _ _ known (stops _ _ _ (c.in_err-name.ensures.read other)))

pub returns-in_err-alloc : goal.returns-in_err-alloc
returns-in_err-alloc g c =
    let p = err_from_is_err_and c.from_residual.result c.from_residual.ensures.1 in
    rw (p.1, p.2) (λ other. absurd (other refl))

pub new-requires : goal.new-requires
new-requires g c =
    let limit = within 1 262144 c.in_ok-limit.limit (rw c.between.ensures at c.in_ok-limit.ensures.within) in
    let weight = within 1 1000 c.in_ok-weight.weight (rw c.between-2.ensures at c.in_ok-weight.ensures.within) in
    record {
      name = c.in_ok-name.ensures.lawful;
      file = c.in_ok-file.ensures.named;
      some_steps = limit.0;
      few_steps = limit.1;
      watch = c.in_ok-watch.ensures.lawful;
      least_weight = weight.0;
      most_weight = weight.1;
    }

pub number_at-requires-2 : goal.number_at-requires-2
number_at-requires-2 = grind (arith, common_steps)

pub number_at-requires : goal.number_at-requires
number_at-requires = grind (arith, common_steps)
