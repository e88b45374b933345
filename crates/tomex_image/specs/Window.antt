-- A window of memory, and its limits, which are this project's own.
use Rattle.std.specs.Prelude.{◌≡◌, ℕ, ◌+◌, ◌%◌, ◌^◌, ◌≤◌}

-- the bytes base .. base + size
pub record Span : Type 0 where
  pub base : ℕ
  pub size : ℕ

-- the limits of a window
pub record IsWindow (base size : ℕ) : Type 0 where
  pub base_aligned : base % 4 ≡ 0
  pub size_aligned : size % 4 ≡ 0
  pub least : 4 ≤ size
  pub most : size ≤ 1048576
  pub within : base + size ≤ 2 ^ 32
