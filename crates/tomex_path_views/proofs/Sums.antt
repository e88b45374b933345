-- The shares of links, one link more, and their bounds.
use Rattle.std.proofs.Common.{ℕ, ◌^◌, ◌<◌, ◌≤◌, ◌≡◌, Bool, true, false, arith, refl, length}
use Rattle.std.proofs.Common.{List, [], ◌∷◌, ◌++◌, take}
use Rattle.std.specs.Prelude.{All}
use Rattle.std.proofs.lemmas.List.{append-nil, length_push, length-take}
use Rattle.std.proofs.lemmas.List.Elements.{All-filter, All-take, All-weaker, filter-append}
use Rattle.std.proofs.lemmas.List.Sums.{count_by-le-length, length-filter, sum_by-le, sum_by_push}
use Rattle.tomex_path.specs.declared.link.Link.{Link}
use Rattle.tomex_path.specs.declared.reason.Reason.{Reason}
use Rattle.tomex_path.specs.Laws.{cycles_of, is_reason}
use Rattle.tomex_path_views.specs.ByReason.{links_with}
use Rattle.tomex_path_views.specs.Shares.{AreShort, IsShort, share_after, share_of}
use Rattle.tomex_path_views.specs.declared.shares.Share.{Share}

pub share_more : (ls : List Link) (l : Link) → share_of (ls ++ l ∷ []) ≡ share_after (share_of ls) l
share_more ls l = rw (length_push ls l, sum_by_push (λ l. l.waits) ls l, sum_by_push cycles_of ls l) refl

-- of those with a reason, if the next one has it or not
pub with_more : (reason : Reason) (ls : List Link) (l : Link) → is_reason reason l.reason ≡ true
    → share_of (links_with reason (ls ++ l ∷ [])) ≡ share_after (share_of (links_with reason ls)) l
with_more reason ls l e =
    rw (filter-append (λ (l : Link). is_reason reason l.reason) ls (l ∷ []), e) (share_more (links_with reason ls) l)

pub with_same : (reason : Reason) (ls : List Link) (l : Link) → is_reason reason l.reason ≡ false
    → share_of (links_with reason (ls ++ l ∷ [])) ≡ share_of (links_with reason ls)
with_same reason ls l e =
    rw (filter-append (λ (l : Link). is_reason reason l.reason) ls (l ∷ []), e, append-nil (links_with reason ls)) refl

-- there is room for one link more
pub record HasRoom (share : Share) : Type 0 where
  pub links : share.links < 2 ^ 62
  pub waits : share.waits ≤ 2 ^ 62
  pub cycles : share.cycles ≤ 2 ^ 62

cycles_few : (l : Link) → IsShort l → cycles_of l ≤ 2 ^ 36
cycles_few l s = omega (arith, s.to, s.from)

room : (ls : List Link) → length ls ≤ 2 ^ 18 → All IsShort ls → HasRoom (share_of ls)
room ls few all = record {
  links = omega (arith, few);
  waits = omega (
    arith,
    few,
    sum_by-le (λ l. l.waits) (2 ^ 35) ls
        (All-weaker IsShort (λ (l : Link). l.waits ≤ 2 ^ 35) (λ l s. s.waits) ls all),
  );
  cycles = omega (
    arith,
    few,
    sum_by-le cycles_of (2 ^ 36) ls
        (All-weaker IsShort (λ (l : Link). cycles_of l ≤ 2 ^ 36) cycles_few ls all),
  );
}

pub room_so_far : (path : List Link) (i : ℕ) → AreShort path → HasRoom (share_of (take i path))
room_so_far path i s =
    room (take i path) (omega (arith, s.few, length-take i path)) (All-take IsShort i path s.all)

pub room_with : (path : List Link) (i : ℕ) (reason : Reason) → AreShort path
    → HasRoom (share_of (links_with reason (take i path)))
room_with path i reason s =
    let is : Link → Bool = λ l. is_reason reason l.reason in
    room (links_with reason (take i path))
    (omega (
      arith,
      s.few,
      length-take i path,
      length-filter (λ (l : Link). is_reason reason l.reason) (take i path),
      count_by-le-length (λ (l : Link). is_reason reason l.reason) (take i path),
    ))
    (All-filter (λ (l : Link). is_reason reason l.reason) IsShort (take i path) (All-take IsShort i path s.all))
