-- Nothing is latest yet.
use Rattle.std.proofs.Common.{ℕ, refl}
use Rattle.std.proofs.lemmas.List.{get_or-replicate}
use Rattle.tomex_floor.proofs.latest.Latest.none.Goals as goal

pub returns : goal.returns
returns c = record {
  count = refl;
  ends = λ r l. get_or-replicate {A = ℕ} 32 r 0 0 l;
  issued = refl;
  issues = λ n l. get_or-replicate {A = ℕ} 4 n 0 0 l;
  branch = refl;
  address = refl;
  end = refl;
}
