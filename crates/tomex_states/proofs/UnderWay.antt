-- The accesses under way, from the facts of a run's steps and the finishes of its last accesses.
use Rattle.std.proofs.Common.{ℕ, suc, ◌+◌, ◌-◌, ◌<◌, ◌≤◌, ◌≡◌, ◌∙◌, Bool, true, false, arith, refl, sym}
use Rattle.std.proofs.Common.{inl, inr, All, List, [], ◌∷◌, ◌++◌, Option, Some, None, is_some, length, map}
use Rattle.std.proofs.Common.{drop, get_or, reverse, take}
use Rattle.std.specs.Prelude.{not, nat_le, nat_lt, slice_index, ◌&&◌, ◌||◌}
use Rattle.std.specs.List.{list_all}
use Rattle.std.proofs.lemmas.Bool.{cases_Bool, leb-true, leb-false, lt-leb, lt-ltb, or_right}
use Rattle.std.proofs.lemmas.List.{append-nil, get_or-drop, length-drop, reverse-append, take_more}
use Rattle.std.proofs.lemmas.List.Elements.{All-nil, All-cons, All-append}
use Rattle.tomex_rvexec.proofs.Fields.{bytes_of_memory}
use Rattle.tomex_rvexec.specs.Steps.{bytes_of, is_store, shares_byte}
use Rattle.tomex_rvexec.specs.declared.step.ByteRange.{ByteRange}
use Rattle.tomex_rvexec.specs.declared.step.Step.{Step}
use Rattle.tomex_timing.specs.declared.accesses.Access.{Access}
use Rattle.tomex_timing.specs.declared.recent.Facts.{Facts}
use Rattle.tomex_timing.specs.declared.times.Done.{Done}
use Rattle.tomex_timing.specs.Ahead.{is_past}
use Rattle.tomex_timing.specs.History.{is_memory}
use Rattle.tomex_timing.specs.Recent.{facts_of}
use Rattle.tomex_timing.specs.Recurrence.{are_conflicts_finished, conflicts}
use Rattle.tomex_timing.proofs.Apart.{older_apart}
use Rattle.tomex_alike.proofs.Accesses.{finish_of, skip_access}
use Rattle.tomex_states.specs.Reuse.{access_under_way, accesses_under_way, ahead_of}

-- Among the last accesses these finish then, or are over by the first cycle, and so are all older ones.
pub record AreFinishes (from : ℕ) (h : List Done) (finishes : List ℕ) : Type 0 where
  pub last : (i : ℕ) → i < length finishes → ahead_of from (finish_of h i) ≡ ahead_of from (slice_index finishes i)
  pub older : (i : ℕ) → length finishes ≤ i → ahead_of from (finish_of h i) ≡ 0

later_finishes : (from : ℕ) (d : Done) (h : List Done) (finish : ℕ) (finishes : List ℕ) → is_memory d.step ≡ true
    → AreFinishes from (d ∷ h) (finish ∷ finishes) → AreFinishes from h finishes
later_finishes from d h finish finishes m are = record {
  last = λ i l. rw m at (are.last (suc i) (omega arith));
  older = λ i l. rw m at (are.older (suc i) (omega arith));
}

same_finishes : (from : ℕ) (d : Done) (h : List Done) (finishes : List ℕ) → is_memory d.step ≡ false
    → AreFinishes from (d ∷ h) finishes → AreFinishes from h finishes
same_finishes from d h finishes m are = record {
  last = λ i l. rw (skip_access (λ x. x.at.finish) 0 d h i m) at (are.last i l);
  older = λ i l. rw (skip_access (λ x. x.at.finish) 0 d h i m) at (are.older i l);
}

-- an access that is in the list or over blocks a step as it does in the history
one_past : (f : Facts) (x : Option ByteRange) (is_store : Bool) (from finish real t : ℕ) (rest : List Access)
    → from ≤ t → ahead_of from real ≡ ahead_of from finish
    → list_all (is_past f t) (access_under_way from finish is_store x ++ rest)
    ≡ ((not (shares_byte x f.bytes && (is_store || f.is_store)) || nat_lt real t) && list_all (is_past f t) rest)
one_past f None is_store from finish real t rest l e = refl
one_past f (Some b) is_store from finish real t rest l e = elim (cases_Bool (nat_le from finish)) [
  | inl y ↦
      let k = leb-true from finish y in
      let same : real ≡ finish = omega arith in
      rw (y, same) refl
  | inr y ↦
      let k = leb-false from finish y in
      let over = or_right (not (shares_byte (Some b) f.bytes && (is_store || f.is_store))) (nat_lt real t)
      (lt-ltb real t (omega arith)) in
      rw (y, over) refl
]

-- all are over
all_over : (s : Step) (from t : ℕ) (h : List Done) → from ≤ t → AreFinishes from h []
    → are_conflicts_finished h s t ≡ true
all_over s from t [] l are = refl
all_over s from t (d ∷ h) l are = elim (cases_Bool (is_memory d.step)) [
  | inl m ↦
      let over : ahead_of from d.at.finish ≡ 0 = rw m at (are.older 0 (omega arith)) in
      let one = or_right (not (conflicts d.step s)) (nat_lt d.at.finish t) (lt-ltb d.at.finish t (omega arith)) in
      let rest : AreFinishes from h [] = record {
        last = λ i n. absurd (omega arith);
        older = λ i n. rw m at (are.older (suc i) (omega arith));
      } in
      rw (one, all_over s from t h l rest) refl
  | inr m ↦
      rw (older_apart d.step s m, all_over s from t h l (same_finishes from d h [] m are)) refl
]

-- so the list blocks a step as the history does
pub under_way_are : (s : Step) (from t : ℕ) (finishes : List ℕ) (h : List Done) → from ≤ t
    → AreFinishes from h finishes
    → list_all (is_past (facts_of s) t) (accesses_under_way from finishes (map (λ d. facts_of d.step) h))
    ≡ are_conflicts_finished h s t
under_way_are s from t finishes [] l are = refl
under_way_are s from t [] (d ∷ h) l are = sym (all_over s from t (d ∷ h) l are)
under_way_are s from t (finish ∷ finishes) (d ∷ h) l are = elim (cases_Bool (is_memory d.step)) [
  | inl m ↦
      let touches : is_some (bytes_of d.step) ≡ true = bytes_of_memory d.step ∙ m in
      let last : ahead_of from d.at.finish ≡ ahead_of from finish = rw m at (are.last 0 (omega arith)) in
      let rest = accesses_under_way from finishes (map (λ d. facts_of d.step) h) in
      let one = one_past (facts_of s) (bytes_of d.step) (is_store d.step) from finish d.at.finish t rest l last in
      let older = under_way_are s from t finishes h l (later_finishes from d h finish finishes m are) in
      rw (touches, one, older) refl
  | inr m ↦
      let nothing : is_some (bytes_of d.step) ≡ false = bytes_of_memory d.step ∙ m in
      let older =
      under_way_are s from t (finish ∷ finishes) h l (same_finishes from d h (finish ∷ finishes) m are) in
      rw (nothing, older_apart d.step s m) older
]

one_by : (from finish e : ℕ) (is_store : Bool) (x : Option ByteRange) → (from ≤ finish → finish ≤ e)
    → All (λ a. a.finish ≤ e) (access_under_way from finish is_store x)
one_by from finish e is_store None by = All-nil (λ a. a.finish ≤ e)
one_by from finish e is_store (Some b) by = elim (cases_Bool (nat_le from finish)) [
  | inl y ↦
      rw y (All-cons (λ a. a.finish ≤ e) (record { bytes = b; is_store = is_store; finish = finish }) []
      (by (leb-true from finish y)) (All-nil (λ a. a.finish ≤ e)))
  | inr y ↦ rw y (All-nil (λ a. a.finish ≤ e))
]

-- those in the list finish by a cycle, if those of the finishes do that aren't over
pub under_way_by : (from e : ℕ) (finishes : List ℕ) (facts : List Facts)
    → ((i : ℕ) → i < length finishes → from ≤ slice_index finishes i → slice_index finishes i ≤ e)
    → All (λ a. a.finish ≤ e) (accesses_under_way from finishes facts)
under_way_by from e finishes [] by = All-nil (λ a. a.finish ≤ e)
under_way_by from e [] (f ∷ facts) by = All-nil (λ a. a.finish ≤ e)
under_way_by from e (finish ∷ finishes) (f ∷ facts) by = elim (cases_Bool (is_some f.bytes)) [
  | inl y ↦
      rw y (All-append (λ a. a.finish ≤ e) (access_under_way from finish f.is_store f.bytes)
      (accesses_under_way from finishes facts) (one_by from finish e f.is_store f.bytes (by 0 (omega arith)))
      (under_way_by from e finishes facts (λ i l. by (suc i) (omega arith))))
  | inr y ↦ rw y (under_way_by from e (finish ∷ finishes) facts by)
]

-- none of those that have finished before is in the list
pub none_under_way : (from : ℕ) (finishes : List ℕ) (facts : List Facts)
    → ((i : ℕ) → i < length finishes → slice_index finishes i < from) → accesses_under_way from finishes facts ≡ []
none_under_way from finishes [] past = refl
none_under_way from [] (f ∷ facts) past = refl
none_under_way from (finish ∷ finishes) (f ∷ facts) past = elim (cases_Bool (is_some f.bytes)) [
  | inl y ↦ rw (
    y,
    not_late f.bytes (past 0 (omega arith)),
    none_under_way from finishes facts (λ i l. past (suc i) (omega arith)),
  ) refl
  | inr y ↦ rw (y, none_under_way from (finish ∷ finishes) facts past) refl
]
  where
    not_late : (x : Option ByteRange) → finish < from → access_under_way from finish f.is_store x ≡ []
    not_late None l = refl
    not_late (Some b) l = rw (lt-leb from finish l) refl

-- The steps before a place, back from the youngest.

back : (facts : List Facts) (q : ℕ) (z : Facts) → q < length facts
    → reverse (take (q + 1) facts) ≡ get_or facts q z ∷ reverse (take q facts)
back facts q z l = rw (take_more facts q z l) (reverse-append (take q facts) (get_or facts q z ∷ []))

-- a step that is no access is passed by
pub passed_by : (from : ℕ) (finishes : List ℕ) (facts : List Facts) (p : ℕ) (z : Facts) (accesses all : List Access)
    → 0 < p → p ≤ length facts → (get_or facts (p - 1) z).bytes ≡ None
    → accesses ++ accesses_under_way from finishes (reverse (take p facts)) ≡ all
    → accesses ++ accesses_under_way from finishes (reverse (take (p - 1) facts)) ≡ all
passed_by from finishes facts p z accesses all pos l none so_far =
    let e : (p - 1) + 1 ≡ p = omega arith in
    let last = rw e at (back facts (p - 1) z (omega arith)) in
    let h = rw last at so_far in
    rw (← skip finishes (get_or facts (p - 1) z) (reverse (take (p - 1) facts)) none) h
  where
    skip : (finishes : List ℕ) (f : Facts) (older : List Facts) → f.bytes ≡ None
        → accesses_under_way from finishes (f ∷ older) ≡ accesses_under_way from finishes older
    skip [] f [] none = refl
    skip [] f (x ∷ older) none = refl
    skip (finish ∷ finishes) f older none = rw none refl

-- all are listed if those left have finished
pub all_listed : (from n : ℕ) (finishes : List ℕ) (facts : List Facts) (accesses all : List Access)
    → length finishes ≡ 4 → ((i : ℕ) → n ≤ i → i < 4 → slice_index finishes i < from)
    → accesses ++ accesses_under_way from (drop n finishes) facts ≡ all → accesses ≡ all
all_listed from n finishes facts accesses all size past so_far =
    let long = length-drop n finishes in
    let none : accesses_under_way from (drop n finishes) facts ≡ [] =
    none_under_way from (drop n finishes) facts
    (λ i l. rw (get_or-drop n finishes i 0) (past (n + i) (omega arith) (omega arith))) in
    sym (append-nil accesses) ∙ rw none at so_far
