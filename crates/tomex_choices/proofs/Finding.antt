-- What is found of the lists, row by row and stretch by stretch, and of all rows.
use Rattle.std.proofs.Common.{◌≡◌, ℕ, zero, suc, ◌+◌, ◌<◌, ◌≤◌, arith, ap, sym, refl, subst, ◌∙◌, List, [], ◌∷◌}
use Rattle.std.proofs.Common.{inl, inr, length, get_or, slice_get, Some, All}
use Rattle.std.specs.Prelude.{nat_le, nat_lt, ◌==◌}
use Rattle.std.specs.List.{flat_map}
use Rattle.std.proofs.lemmas.Bool.{cases_Bool}
use Rattle.std.proofs.lemmas.Bool.Decides.{nat_tests}
use Rattle.std.proofs.lemmas.List.Elements.{All-get_or}
use Rattle.std.proofs.lemmas.Option.{get_or_from_slice_get, slice_get-get_or, slice_get_within}
use Rattle.tomex_config.specs.Configuration.{Configuration, IsWithinLimits, plain}
use Rattle.tomex_study.specs.Study.{DesignSpace, IsStudy, config_at}
use Rattle.tomex_config.specs.Parts.{part_at}
use Rattle.tomex_choices.specs.Asking.{AreAsked, AreFound, AreJoined, HasEarlier, HasRow, IsAsked, IsFound, IsJoined}
use Rattle.tomex_choices.specs.Asking.{last_change}
use Rattle.tomex_choices.specs.NewMachines.{brought_by, new_machines}
use Rattle.tomex_choices.specs.Passing.{Has}
use Rattle.tomex_choices.specs.declared.found.ListFound.{ListFound}
use Rattle.tomex_choices.specs.declared.new_machine.NewMachine.{NewMachine}
use Rattle.tomex_choices.proofs.Alike.{same_brought, same_change}
use Rattle.tomex_choices.proofs.Members.{has_either, has_left, has_right}
use Rattle.tomex_choices.proofs.Passes.{has_at}

-- members of what some items give

pub has_flat_map : {X Y : Type 0} (f : X → List Y) (xs : List X) (x : X) (y : Y) → Has xs x → Has (f x) y
    → Has (flat_map f xs) y
has_flat_map f [] x y h i = absurd h
has_flat_map f (z ∷ zs) x y (inl e) i = has_left (f z) (flat_map f zs) y (subst (λ (v : _). Has (f v) y) (sym e) i)
has_flat_map f (z ∷ zs) x y (inr h) i = has_right (f z) (flat_map f zs) y (has_flat_map f zs x y h i)

pub from_flat_map : {X Y : Type 0} (f : X → List Y) (xs : List X) (y : Y) → Has (flat_map f xs) y
    → (x : X) × Has xs x × Has (f x) y
from_flat_map f [] y h = absurd h
from_flat_map f (x ∷ xs) y h = elim (has_either (f x) (flat_map f xs) y h) [
  | inl a ↦ (x, inl refl, a)
  | inr b ↦ let w = from_flat_map f xs y b in (w.0, inr w.1, w.2)
]

-- the place of a member
pub place_in : {X : Type 0} (xs : List X) (x d : X) → Has xs x → (k : ℕ) × (k < length xs) × (get_or xs k d ≡ x)
place_in [] x d h = absurd h
place_in (y ∷ ys) x d (inl e) = (0, omega arith, e)
place_in (y ∷ ys) x d (inr h) =
    let w = place_in ys x d h in
    let l : w.0 < length ys = w.1 in
    (suc w.0, omega arith, w.2)

-- what a row brings is new
brought_is_new : (s : DesignSpace) (place row : ℕ) (x : NewMachine) → row < length s.rows
    → Has (brought_by s (part_at place) (config_at s row)) x → Has (new_machines s (part_at place)) x
unfolding new_machines
brought_is_new s place row x low h =
    has_flat_map (brought_by s (part_at place)) s.rows (config_at s row) x (has_at s.rows row plain low) h

-- one more row of a list

asked_more : {A : Type 0} (s : DesignSpace) (from row place : ℕ) (f g : ListFound A) → row < length s.rows
    → IsFound s from row place f.machines.items f.last_change → IsAsked s (part_at place) (config_at s row) f g
    → IsFound s from (row + 1) place g.machines.items g.last_change
asked_more s from row place f g low found asked = record {
  only = λ x h. elim (asked.only x h) [
    | inl a ↦ found.only x a
    | inr b ↦ brought_is_new s place row x low b
  ];
  reached = elim (cases_Bool (nat_le (last_change s.programs (part_at place) (config_at s row)) f.last_change)) [
    | inl e ↦
        let same : g.last_change ≡ f.last_change = grind (arith, nat_tests, asked.change) in
        elim found.reached [
          | inl none ↦ inl (same ∙ none)
          | inr w ↦ inr (w.0, w.1, w.2 ∙ sym same)
        ]
    | inr e ↦
        let same : last_change s.programs (part_at place) (config_at s row) ≡ g.last_change =
        grind (arith, nat_tests, asked.change) in
        inr (row, low, same)
  ];
  all = λ r l h. elim (cases_Bool (r == row)) [
    | inl e ↦
        let at : row ≡ r = grind (arith, nat_tests) in
        let changed : last_change s.programs (part_at place) (config_at s row) ≤ g.last_change =
        omega (arith, asked.change) in
        inl (subst (λ (n : ℕ). HasRow s place n g.machines.items g.last_change) at (record {
          brought = λ x i. asked.all x (inr i);
          changed = changed;
        }))
    | inr e ↦
        let less : r < row = grind (arith, nat_tests) in
        elim (found.all r l less) [
          | inl has ↦
              let old : last_change s.programs (part_at place) (config_at s r) ≤ f.last_change = has.changed in
              inl (record {
                brought = λ x i. asked.all x (inl (has.brought x i));
                changed = omega (arith, asked.change);
              })
          | inr earlier ↦ inr earlier
        ]
  ];
}

repeated_more : {A : Type 0} (s : DesignSpace) (from row place : ℕ) (f g : ListFound A)
    → IsFound s from row place f.machines.items f.last_change → g ≡ f → HasEarlier s.rows place row
    → IsFound s from (row + 1) place g.machines.items g.last_change
repeated_more s from row place f g found same earlier =
    subst (λ (z : ListFound _). IsFound s from (row + 1) place z.machines.items z.last_change) (sym same) (record {
      only = found.only;
      reached = found.reached;
      all = λ r l h. elim (cases_Bool (r == row)) [
        | inl e ↦
            let at : row ≡ r = grind (arith, nat_tests) in
            inr (subst (λ (n : ℕ). HasEarlier s.rows place n) at earlier)
        | inr e ↦ found.all r l (grind (arith, nat_tests))
      ];
    })

-- the item before a change, at a place of as long a list
there : {X : Type 0} (xs ys : List X) (k : ℕ) (y : X) → length xs ≡ length ys → slice_get ys k ≡ Some y
    → (x : X) × (slice_get xs k ≡ Some x)
there xs ys k y long at =
    let l : k < length ys = slice_get_within ys k y at in
    (get_or xs k y, slice_get-get_or xs k y (omega (arith, long)))

-- of all lists
pub row_more : {A : Type 0} (s : DesignSpace) (from row : ℕ) (old new : List (ListFound A)) → row < length s.rows
    → AreFound s from row old → AreAsked s row old new → AreFound s from (row + 1) new
row_more s from row old new low found asked = record {
  count = asked.count ∙ found.count;
  each = λ place g at.
      let f = there old new place g (sym asked.count) at in
      elim (asked.each place f.0 g f.1 at) [
        | inl is ↦ asked_more s from row place f.0 g low (found.each place f.0 f.1) is
        | inr w ↦ repeated_more s from row place f.0 g (found.each place f.0 f.1) w.0 w.1
      ];
}

-- nothing is found of no rows
pub none_found : {A : Type 0} (s : DesignSpace) (row : ℕ) (lists : List (ListFound A)) → length lists ≡ 13
    → All (λ f. (f.machines.items ≡ []) × (f.last_change ≡ 0)) lists → AreFound s row row lists
none_found s row lists count none = record {
  count = count;
  each = λ place f at.
      let l = slice_get_within lists place f at in
      let e : get_or lists place f ≡ f = get_or_from_slice_get lists place f f at in
      let w = subst (λ (g : ListFound _). (g.machines.items ≡ []) × (g.last_change ≡ 0)) e
      (All-get_or (λ g. (g.machines.items ≡ []) × (g.last_change ≡ 0)) lists place f l none) in
      record {
        only = λ x h. absurd (subst (λ (xs : List NewMachine). Has xs x) w.0 h);
        reached = inl w.1;
        all = λ r low high. absurd (omega arith);
      };
}

-- two stretches

joined_list : {A : Type 0} (s : DesignSpace) (from mid to place : ℕ) (a b z : ListFound A)
    → IsFound s from mid place a.machines.items a.last_change
    → IsFound s mid to place b.machines.items b.last_change → IsJoined a b z
    → IsFound s from to place z.machines.items z.last_change
joined_list s from mid to place a b z first next is = record {
  only = λ x h. elim (has_either a.machines.items b.machines.items x
      (subst (λ (xs : List NewMachine). Has xs x) is.machines h)) [
        | inl i ↦ first.only x i
        | inr j ↦ next.only x j
      ];
  reached = elim (cases_Bool (nat_le b.last_change a.last_change)) [
    | inl e ↦
        let same : z.last_change ≡ a.last_change = grind (arith, nat_tests, is.change) in
        elim first.reached [ inl none ↦ inl (same ∙ none) | inr w ↦ inr (w.0, w.1, w.2 ∙ sym same) ]
    | inr e ↦
        let same : z.last_change ≡ b.last_change = grind (arith, nat_tests, is.change) in
        elim next.reached [ inl none ↦ inl (same ∙ none) | inr w ↦ inr (w.0, w.1, w.2 ∙ sym same) ]
  ];
  all = λ r low high. elim (cases_Bool (nat_lt r mid)) [
    | inl e ↦ elim (first.all r low (grind (arith, nat_tests))) [
      | inl has ↦
          let l : last_change s.programs (part_at place) (config_at s r) ≤ a.last_change = has.changed in
          inl (record {
            brought = λ x i. subst (λ (xs : List NewMachine). Has xs x) (sym is.machines)
                (has_left a.machines.items b.machines.items x (has.brought x i));
            changed = omega (arith, is.change);
          })
      | inr earlier ↦ inr earlier
    ]
    | inr e ↦ elim (next.all r (grind (arith, nat_tests)) high) [
      | inl has ↦
          let l : last_change s.programs (part_at place) (config_at s r) ≤ b.last_change = has.changed in
          inl (record {
            brought = λ x i. subst (λ (xs : List NewMachine). Has xs x) (sym is.machines)
                (has_right a.machines.items b.machines.items x (has.brought x i));
            changed = omega (arith, is.change);
          })
      | inr earlier ↦ inr earlier
    ]
  ];
}

pub joined : {A : Type 0} (s : DesignSpace) (from mid to : ℕ) (a b z : List (ListFound A)) → AreFound s from mid a
    → AreFound s mid to b → AreJoined a b z → AreFound s from to z
joined s from mid to a b z first next are = record {
  count = are.count ∙ first.count;
  each = λ place g at.
      let x = there a z place g (sym are.count) at in
      let y = there b z place g (next.count ∙ sym (are.count ∙ first.count)) at in
      let w = are.each place x.0 y.0 x.1 y.1 in
      let same : Some w.0 ≡ Some g = sym w.1 ∙ at in
      let is : w.0 ≡ g = (cc) in
      joined_list s from mid to place x.0 y.0 g (first.each place x.0 x.1) (next.each place y.0 y.1)
      (subst (IsJoined x.0 y.0) is w.2);
}

-- all rows: one that an earlier one is like has what that one has

like_earlier : (s : DesignSpace) (place row : ℕ) (machines : List NewMachine) (change : ℕ)
    (e : HasEarlier s.rows place row)
    → IsStudy s → place < 13 → HasRow s place e.earlier machines change → HasRow s place row machines change
like_earlier s place row machines change e is low has =
    let one : get_or s.rows e.earlier plain ≡ e.one = get_or_from_slice_get s.rows e.earlier e.one plain e.is_one in
    let own : get_or s.rows row plain ≡ e.own = get_or_from_slice_get s.rows row e.own plain e.is_own in
    let l = slice_get_within s.rows e.earlier e.one e.is_one in
    let m = slice_get_within s.rows row e.own e.is_own in
    let one_within : IsWithinLimits e.one = subst IsWithinLimits one (is.limits e.earlier plain l) in
    let own_within : IsWithinLimits e.own = subst IsWithinLimits own (is.limits row plain m) in
    let brought = same_brought place e.one e.own e.alike low one_within own_within s in
    let changes = same_change place e.one e.own e.alike low one_within own_within s.programs in
    let same : brought_by s (part_at place) (config_at s row) ≡ brought_by s (part_at place) (config_at s e.earlier) =
    ap (brought_by s (part_at place)) own ∙ (sym brought ∙ sym (ap (brought_by s (part_at place)) one)) in
    let same_too : last_change s.programs (part_at place) (config_at s row)
    ≡ last_change s.programs (part_at place) (config_at s e.earlier) =
    ap (last_change s.programs (part_at place)) own
    ∙ (sym changes ∙ sym (ap (last_change s.programs (part_at place)) one)) in
    let l : last_change s.programs (part_at place) (config_at s e.earlier) ≤ change = has.changed in
    record {
      brought = λ x h. has.brought x (subst (λ (xs : List NewMachine). Has xs x) same h);
      changed = omega (arith, same_too);
    }

-- up to a number
rows_up_to : (s : DesignSpace) (n place : ℕ) (machines : List NewMachine) (change : ℕ) → IsStudy s → place < 13
    → n ≤ length s.rows → IsFound s 0 (length s.rows) place machines change
    → (row : ℕ) → row < n → HasRow s place row machines change
rows_up_to s zero place machines change is low few found row less = absurd (omega arith)
rows_up_to s (suc n) place machines change is low few found row less =
    let before = rows_up_to s n place machines change is low (omega arith) found in
    elim (found.all row (omega arith) (omega arith)) [
      | inl has ↦ has
      | inr e ↦
          let b : e.earlier < row = e.before in
          like_earlier s place row machines change e is low (before e.earlier (omega arith))
    ]

pub all_rows_found : (s : DesignSpace) (place : ℕ) (machines : List NewMachine) (change : ℕ) → IsStudy s → place < 13
    → IsFound s 0 (length s.rows) place machines change
    → (row : ℕ) → row < length s.rows → HasRow s place row machines change
all_rows_found s place machines change is low found row less =
    rows_up_to s (length s.rows) place machines change is low (omega arith) found row less

-- so all new machines are found
pub all_machines_found : (s : DesignSpace) (place : ℕ) (machines : List NewMachine) (change : ℕ) → IsStudy s
    → place < 13 → IsFound s 0 (length s.rows) place machines change → (x : NewMachine)
    → Has (new_machines s (part_at place)) x → Has machines x
unfolding new_machines
all_machines_found s place machines change is low found x h =
    let w = from_flat_map (brought_by s (part_at place)) s.rows x h in
    let k = place_in s.rows w.0 plain w.1 in
    let has = all_rows_found s place machines change is low found k.0 k.1 in
    has.brought x (subst (λ (c : Configuration). Has (brought_by s (part_at place) c) x) (sym k.2) w.2)
