-- The limits of loops over rows and over lists.
use Rattle.std.proofs.Common.{◌≡◌, ℕ, ◌+◌, ◌^◌, ◌<◌, ◌≤◌, arith}

pub row_within : (row end rows : ℕ) → row < end → end ≤ rows → row < rows
row_within row end rows low within = omega (arith, low, within)

-- the place after one of a list's
pub next_place : (place n len cap : ℕ) → place < n → len ≡ n → len ≤ cap → cap < 2 ^ 63 → place + 1 < 2 ^ 64
next_place place n len cap low is room small = omega (arith, low, is, room, small)

pub last_row : (row end : ℕ) → end ≤ row → row ≤ end → row ≡ end
last_row row end past low = omega (arith, past, low)
