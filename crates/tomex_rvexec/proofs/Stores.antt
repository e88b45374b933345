-- Memory after a store, byte by byte.
use Rattle.std.proofs.Common.{ℕ, ◌+◌, ◌-◌, ◌≡◌, ◌∙◌, List, length, false, refl, ap}
use Rattle.std.specs.Prelude.{slice_index}
use Rattle.std.proofs.lemmas.Bool.{le-leb, both_ways}
use Rattle.tomex_rvexec.specs.Access.{HasWritten, has_bytes}
use Rattle.tomex_rvexec.specs.Results.{byte_in}
use Rattle.tomex_rvexec.specs.Memory.{Bytes}
use Rattle.tomex_rvexec.proofs.Bytes.{bytes_written, length-bytes, bytes_stored}

-- the bytes that are inside are written
pub bytes_made : (n from v place : ℕ) (old new : Bytes) (bytes : List ℕ)
    → new ≡ record { base = old.base; bytes = bytes } → bytes ≡ bytes_written n old.bytes place v
    → place ≡ from - old.base → HasWritten n from v old new
bytes_made n from v place old new bytes e f g = record {
  base = ap (λ (m : Bytes). m.base) e;
  size = ap (λ (m : Bytes). length m.bytes) e ∙ (ap length f ∙ length-bytes n old.bytes place v);
  bytes = λ low high a l.
      ap (λ (m : Bytes). byte_in m a) e
      ∙ (ap (λ (bs : List ℕ). slice_index bs (a - old.base)) (f ∙ ap (λ (k : ℕ). bytes_written n old.bytes k v) g)
      ∙ bytes_stored n old from v a l (λ z. (low, high)));
}

-- and no others
pub none_made : (n from v : ℕ) (old : Bytes) → has_bytes old from n ≡ false → HasWritten n from v old old
none_made n from v old e = record {
  base = refl;
  size = refl;
  bytes = λ low high a l. absurd (both_ways _ e
      (rw (le-leb old.base from low, le-leb (from + n) (old.base + length old.bytes) high) refl));
}
