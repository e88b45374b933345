-- What is neither a load nor a store touches no bytes, so it conflicts with nothing.
use Rattle.std.proofs.Common.{ℕ, ◌≡◌, true, false, refl, List, [], ◌∷◌, Option, Some, None, ◌||◌}
use Rattle.std.specs.List.{list_all}
use Rattle.tomex_rvdec.specs.Operands.{pool_of}
use Rattle.tomex_rvdec.specs.declared.op.Op.{Op}
use Rattle.tomex_rvdec.specs.declared.op.Op.TheVariants.{Lb, Lh, Lw, Lbu, Lhu, Sb, Sh, Sw}
use Rattle.tomex_rvdec.specs.declared.pool.PoolId.TheVariants.{Load, Store}
use Rattle.tomex_rvexec.specs.Steps.{access_size, bytes_of, is_in, shares_byte}
use Rattle.tomex_rvexec.specs.declared.step.ByteRange.{ByteRange}
use Rattle.tomex_rvexec.specs.declared.step.Step.{Step}
use Rattle.tomex_timing.specs.declared.accesses.Access.{Access}
use Rattle.tomex_timing.specs.declared.recent.Facts.{Facts}
use Rattle.tomex_timing.specs.declared.times.Done.{Done}
use Rattle.tomex_timing.specs.Ahead.{is_past}
use Rattle.tomex_timing.specs.History.{is_memory}
use Rattle.tomex_timing.specs.Recurrence.{are_conflicts_finished, conflicts}

no_size : (op : Op) → (is_in Load (pool_of op) || is_in Store (pool_of op)) ≡ false → access_size op ≡ 0
no_size Lb e = absurd (cc)
no_size Lh e = absurd (cc)
no_size Lw e = absurd (cc)
no_size Lbu e = absurd (cc)
no_size Lhu e = absurd (cc)
no_size Sb e = absurd (cc)
no_size Sh e = absurd (cc)
no_size Sw e = absurd (cc)
no_size _ e = refl

pub no_bytes : (s : Step) → is_memory s ≡ false → bytes_of s ≡ None
no_bytes s e = rw (no_size s.instr.op e) refl

shares_none : (x : Option ByteRange) → shares_byte x None ≡ false
shares_none None = refl
shares_none (Some x) = refl

pub older_apart : (a b : Step) → is_memory a ≡ false → conflicts a b ≡ false
older_apart a b e = rw (no_bytes a e) refl

pub later_apart : (a b : Step) → is_memory b ≡ false → conflicts a b ≡ false
later_apart a b e = rw (no_bytes b e, shares_none (bytes_of a)) refl

-- so it waits for none
pub no_access : (h : List Done) (s : Step) (t : ℕ) → is_memory s ≡ false → are_conflicts_finished h s t ≡ true
no_access [] s t e = refl
no_access (d ∷ h) s t e = rw (later_apart d.step s e) (no_access h s t e)

-- and for none of those under way
pub all_past : (f : Facts) (t : ℕ) (accesses : List Access) → f.bytes ≡ None
    → list_all (is_past f t) accesses ≡ true
all_past f t [] e = refl
all_past f t (a ∷ accesses) e = rw (all_past f t accesses e, e) refl
