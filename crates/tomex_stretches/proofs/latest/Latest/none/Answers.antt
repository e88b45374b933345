-- Nothing is latest yet.
use Rattle.std.proofs.Common.{ℕ, arith, refl}
use Rattle.std.proofs.lemmas.List.{get_or-replicate}
use Rattle.tomex_stretches.proofs.latest.Latest.none.Goals as goal

pub returns-clause-latest : goal.returns-clause-latest
returns-clause-latest c = record {
  count = refl;
  ends = λ r l. let z = get_or-replicate {A = ℕ} 32 r 0 0 l in omega (arith, z);
  issued = refl;
  issues = λ n l. let z = get_or-replicate {A = ℕ} 4 n 0 0 l in omega (arith, z);
  branch = refl;
  address = refl;
  end = refl;
}

pub returns-clause-by : goal.returns-clause-by
returns-clause-by c = record {
  count = refl;
  ends = λ r l. let z = get_or-replicate {A = ℕ} 32 r 0 0 l in omega (arith, z);
  issued = refl;
  issues = λ n l. let z = get_or-replicate {A = ℕ} 4 n 0 0 l in omega (arith, z);
  branch = omega arith;
  address = omega arith;
  end = omega arith;
  base = omega arith;
}
