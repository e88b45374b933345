-- The report of what was counted is that of the visits.
use Rattle.std.proofs.Common.{◌≡◌, ◌≢◌, ◌≤◌, ◌⊎◌, Ok, Err, Vec, ◌∙◌, ap, ap₂, subst, sym, refl, inl, inr, ℕ, ◌==◌, Bool}
use Rattle.std.proofs.Common.{true}
use Rattle.std.proofs.Common.{false, cond, ◌||◌, List, [], ◌∷◌, ◌++◌, get_or, Option, Some, is_some, arith}
use Rattle.std.specs.Prelude.{All, codes, IfOk, OnOk, Result}
use Rattle.std.specs.BTreeMap.{IsOrdered, is_at, keys}
use Rattle.std.specs.List.{flat_map, list_any}
use Rattle.std.specs.Map.{keys_of, values_of}
use Rattle.std.specs.Option.{option_map_or}
use Rattle.std.specs.Ordering.{nat_cmp}
use Rattle.std.proofs.lemmas.Bool.{eq-eqb, ne_eqb}
use Rattle.std.proofs.lemmas.Bool.Decides.{eqb_tells}
use Rattle.std.proofs.lemmas.Cmp.{nat_cmp_total}
use Rattle.std.proofs.lemmas.List.Elements.{All-head, All-tail}
use Rattle.std.proofs.lemmas.Map.Entries.{btree_map_get_place}
use Rattle.std.proofs.lemmas.Map.Made.{is_some-lookup}
use Rattle.std.proofs.lemmas.Option.{slice_get-get_or}
use Rattle.tomex_rvexec.specs.declared.step.Step.{Step}
use Rattle.tomex_config.specs.Configuration.{Configuration, IsWithinLimits}
use Rattle.tomex_timing.specs.Needs.{drain, waits_in}
use Rattle.tomex_timing.specs.Search.{history}
use Rattle.tomex_timing.specs.Waiting.{AreWithin}
use Rattle.tomex_timing.specs.declared.need.Waits.{Waits}
use Rattle.tomex_layout.specs.Csv.{record_text}
use Rattle.tomex_run_views.specs.ByPlace.{AreKeys, IsReportWith, Visit, dashes, pc_of, place_record, report_at}
use Rattle.tomex_run_views.specs.ByPlace.{sum_columns, visits_in, visits_of}
use Rattle.tomex_run_views.specs.declared.counted.Counted.{Counted}
use Rattle.tomex_run_views.specs.declared.tally.Group.{Group}
use Rattle.tomex_run_views.specs.declared.tally.Sum.{Sum}
use Rattle.tomex_run_views.specs.declared.tally.Tally.{Tally}
use Rattle.tomex_run_views.specs.Tally.{IsCounted, IsTally, fields_of_sum, group_of, only_drain, place_fields}
use Rattle.tomex_run_views.specs.Tally.{report_of_counted, visits_by, with_drain}
use Rattle.tomex_run_views.proofs.Gaps.{visits_are}
use Rattle.tomex_run_views.proofs.Tallies.{same_key}

same_any : {X : Type 0} (f g : X → Bool) → ((x : X) → f x ≡ g x) → (xs : List X) → list_any f xs ≡ list_any g xs
same_any f g same [] = refl
same_any f g same (x ∷ xs) = ap₂ (λ a b. a || b) (same x) (same_any f g same xs)

-- there is a group exactly if there is a visit
is_visited : (key : Step → ℕ) (k : ℕ) (visits : List Visit)
    → is_some (group_of (visits_of key k visits)) ≡ list_any (λ v. key v.step == k) visits
is_visited key k [] = refl
is_visited key k (v ∷ visits) = go (key v.step == k) (is_visited key k visits)
  where
    go : (b : Bool) → is_some (group_of (visits_of key k visits)) ≡ list_any (λ v. key v.step == k) visits
        → is_some (group_of (cond b (v ∷ visits_of key k visits) (visits_of key k visits)))
        ≡ b || list_any (λ v. key v.step == k) visits
    go true rest = refl
    go false rest = rest

-- the test for a key, either way round
flip : (a b : ℕ) → (a == b) ≡ is_at (nat_cmp b) a
flip a b = go (eqb_tells a b) ∙ sym (same_key b a)
  where
    go : ((a == b) ≡ true) × (a ≡ b) ⊎ ((a == b) ≡ false) × (a ≢ b) → (a == b) ≡ (b == a)
    go (inl same) = same.0 ∙ sym (eq-eqb b a (sym same.1))
    go (inr other) = other.0 ∙ sym (ne_eqb b a (λ e. other.1 (sym e)))

-- what the groups of visits show, by what shows each
module _ {A : Type 0} (key : Step → ℕ) (visits : List Visit) (tally : Tally A) (is : IsTally key visits tally)
    (ordered : IsOrdered nat_cmp tally.groups) where
  pub are_keys : AreKeys key visits (keys tally.groups)
  are_keys = record {
    ascending = ordered;
    those = λ k.
        same_any (λ p. p == k) (is_at (nat_cmp k)) (λ p. flip p k) (keys tally.groups)
        ∙ (sym (is_some-lookup (is_at (nat_cmp k)) tally.groups.entries)
        ∙ (ap (λ (o : Option Group). is_some o) (is.groups k) ∙ is_visited key k visits));
  }

  -- an entry has the sums over its key's visits
  abbrev pub IsKept : ℕ × Group → Type 0
  IsKept e = group_of (visits_of key e.0 visits) ≡ Some e.1

  pub entry_is : All IsKept tally.groups.entries
  entry_is k d within =
      let e = get_or tally.groups.entries k d in
      sym (is.groups e.0) ∙ btree_map_get_place nat_cmp_total tally.groups k e.0 e.1 ordered
      (slice_get-get_or tally.groups.entries k d within)

  -- of two ways to show some visits, by what was counted of them and by the visits
  pub shown_are : {X : Type 0} (f : Group → List X) (g : List Visit → List X) (es : List (ℕ × Group)) → All IsKept es
      → ((vs : List Visit) (group : Group) → group_of vs ≡ Some group → f group ≡ g vs)
      → flat_map f (values_of es) ≡ flat_map (λ k. g (visits_of key k visits)) (keys_of es)
  shown_are f g [] all same = refl
  shown_are f g (e ∷ es) all same =
      ap₂ (λ a b. a ++ b) (same (visits_of key e.0 visits) e.1 (All-head IsKept e es all))
      (shown_are f g es (All-tail IsKept e es all) same)

-- the report by place, with more columns
module _ {A : Type 0} (names : List (List ℕ)) (own : Step → List (List ℕ)) (config : Configuration) (steps : List Step)
    (counted : Counted A) (is : IsCounted pc_of config steps counted)
    (ordered : IsOrdered nat_cmp counted.tally.groups) where
  -- a place's record is that of its visits
  record_is : (vs : List Visit) (place : Group) → group_of vs ≡ Some place
      → record_text (place_fields own fields_of_sum place) ≡ place_record own vs
  record_is [] place is = absurd (cc)
  record_is (v ∷ vs) place is =
      ap (λ (o : Option Group). option_map_or (λ p. record_text (place_fields own fields_of_sum p)) o []) (sym is)

  report_is : report_of_counted names own counted
      ≡ report_at names own (keys counted.tally.groups) (drain (history config steps)) (visits_in config steps)
  report_is =
      let places = shown_are pc_of (visits_in config steps) counted.tally is.tally ordered
      (λ place. record_text (place_fields own fields_of_sum place)) (place_record own) counted.tally.groups.entries
      (entry_is pc_of (visits_in config steps) counted.tally is.tally ordered) record_is in
      ap₂ (λ (a b : List ℕ). record_text (codes "pc" ∷ codes "instr" ∷ names ++ sum_columns) ++ (a ++ b)) places
      (ap₂ (λ (n : ℕ) (s : Sum).
      record_text (codes "drain" ∷ codes "-" ∷ dashes names ++ fields_of_sum (only_drain n))
      ++ record_text (codes "total" ∷ codes "-" ∷ dashes names ++ fields_of_sum (with_drain n s))) is.drain
      is.tally.all)

  -- the text of what was counted by address is the report
  pub report_of : (text : List ℕ) → text ≡ report_of_counted names own counted
      → IsReportWith names own config steps text
  report_of text written = (
    keys counted.tally.groups,
    are_keys pc_of (visits_in config steps) counted.tally is.tally ordered,
    written ∙ report_is,
  )

-- so is a text that there may be
pub report_if_made : {A B E : Type 0} (names : List (List ℕ)) (own : Step → List (List ℕ)) (config : Configuration)
    (steps : List Step) (counted : Counted A) → IsCounted pc_of config steps counted → (r : Result (Vec ℕ B) E)
    → IfOk r (λ text. text.items ≡ report_of_counted names own counted)
    → OnOk r (IsOrdered nat_cmp counted.tally.groups) → IfOk r (λ text. IsReportWith names own config steps text.items)
report_if_made names own config steps counted is (Ok text) written ordered =
    report_of names own config steps counted is ordered text.items written
report_if_made names own config steps counted is (Err e) written ordered = tt

-- no wait is longer than a larger number
pub wider : (n m : ℕ) (w : Waits) → n ≤ m → AreWithin n w → AreWithin m w
wider n m w more h =
    let b : w.branch ≤ n = h.branch in
    let i : w.width ≤ n = h.width in
    let s : w.station ≤ n = h.station in
    let o : w.operand ≤ n = h.operand in
    let a : w.address ≤ n = h.address in
    let y : w.memory ≤ n = h.memory in
    let u : w.unit ≤ n = h.unit in
    let e : w.bus ≤ n = h.bus in
    record {
      branch = omega (arith, more);
      width = omega (arith, more);
      station = omega (arith, more);
      operand = omega (arith, more);
      address = omega (arith, more);
      memory = omega (arith, more);
      unit = omega (arith, more);
      bus = omega (arith, more);
    }

-- what was counted by the waits of a run are the sums over its visits
pub counted_is : {A : Type 0} (key : Step → ℕ) (config : Configuration) (steps : List Step) (waits : List Waits)
    (counted : Counted A) → IsWithinLimits config → waits ≡ waits_in config steps
    → IsTally key (visits_by 1 steps waits) counted.tally → counted.drain ≡ drain (history config steps)
    → IsCounted key config steps counted
counted_is key config steps waits counted good are tally drained = record {
  tally = subst (λ (vs : List Visit). IsTally key vs counted.tally)
      (ap (λ (ws : List Waits). visits_by 1 steps ws) are ∙ visits_are config steps good) tally;
  drain = drained;
}
