-- What is known of the finishes ahead once a cycle has ended: what was due is over or waits for a bus.
use Rattle.tomex_cycle.proofs.Words.{nat_le, nat_lt, ◌==◌, ◌≢◌, ◌&&◌, not, is_some, and_parts, and_right, nat_tests}
use Rattle.tomex_cycle.proofs.Words.{both_ways, cases_Bool, eqb-true, eqb-false, le-leb, leb-true, lt-ltb, ltb-true}
use Rattle.tomex_cycle.proofs.Words.{ltb-false, get_or_past, dest_of, is_number, IsPicked, none_picked, has, is_due}
use Rattle.tomex_cycle.proofs.Words.{none_in, hears, is_served, AreBusy, Pools, IsSetOf, writes, Station, AreDone}
use Rattle.tomex_cycle.proofs.Words.{AreEnding, IsDoneBranch, after_ends, can_send, ends_alone, finishes}
use Rattle.tomex_cycle.proofs.Words.{is_finished_by, is_finished_before, IsTimetableOf, HaveTurned, LeavesTimetable}
use Rattle.tomex_cycle.proofs.Words.{has_stayed, Finishes, ◌||◌, slot, AreResults, ℕ, ◌+◌, ◌^◌, ◌<◌, ◌≤◌, ◌≡◌, ◌∙◌}
use Rattle.tomex_cycle.proofs.Words.{Bool, true, false, arith, refl, ap, sym, inl, inr, List, Option, Some, None}
use Rattle.tomex_cycle.proofs.Words.{length, agreed, member_some, of_busy, AreTurned, AreDue}
use Rattle.tomex_cycle.proofs.Cycles.{member_of}
use Rattle.tomex_cycle.proofs.Known.{all_ahead}
use Rattle.tomex_cycle.proofs.Truth.{or_cases}
use Rattle.tomex_cycle.proofs.EndsFetch.{none_over}
use Rattle.tomex_cycle.proofs.Places.{place_or_none}
use Rattle.tomex_rvdec.specs.declared.pool.UnitId.TheVariants as units

pub all_due : {slots : List (Option Station)} {next due : ℕ} {f g : Finishes} → IsTimetableOf slots next f
    → HaveTurned f g due → AreDone slots next due
all_due {slots} {next} known turned x l = turned.due x ∙ elim (place_or_none slots x known.places) [
  | inl k ↦ let now : next + 0 ≡ next = omega arith in
      all_ahead 0 x known k ∙ ap (λ (v : ℕ). finishes v (slot slots x)) now
  | inr past ↦ rw past (grind (arith, nat_tests))
]

alone_test : (next : ℕ) (finish : Option ℕ) (d : Bool) → (not d && is_finished_before finish next) ≡ false
    → (is_number finish next && not (is_number finish next && d)) ≡ (not d && is_finished_by finish next)
alone_test next finish d e = grind (arith, nat_tests)

alone_is : (next : ℕ) (o : Option Station) → has_stayed next o ≡ false
    → (finishes next o && not (finishes next o && writes o)) ≡ (is_some o && ends_alone next o)
alone_is next None e = refl
alone_is next (Some s) e = alone_test next s.finish (is_some (dest_of s.instr)) e

stayed_past : {slots : List (Option Station)} {next : ℕ} (x : ℕ) {f : Finishes} → IsTimetableOf slots next f
    → has_stayed next (slot slots x) ≡ false
stayed_past {slots} x known = elim (place_or_none slots x known.places) [
  | inl k ↦ known.gone x k
  | inr past ↦ rw past refl
]

-- the choice of what ends: results are sent, and what is due and no result ends too
pub record IsChoice (st : Pools) (buses due unsent found sending ending : ℕ) : Type 0 where
  pub silent : ℕ
  pub results : (x : ℕ) → x < 128 → has found x ≡ (has due x && writes (slot st.slots x))
  pub picked : IsPicked unsent st.issue_numbers buses sending
  pub others : (x : ℕ) → x < 128 → has silent x ≡ (has due x && not (has found x))
  pub all : (x : ℕ) → has ending x ≡ (has sending x || has silent x)

-- what is sent isn't unsent any more, and what is found is
pub record HasSent (g : Finishes) (sending found : ℕ) (h : Finishes) : Type 0 where
  pub wheel : h.wheel ≡ g.wheel
  pub unsent : (x : ℕ) → x < 128 → has h.unsent x ≡ (has g.unsent x && not (has sending x) || has found x)

-- the results of what is due
pub with_results : (slots : List (Option Station)) (due writing found : ℕ) → IsSetOf writes slots writing
    → ((x : ℕ) → has found x ≡ (has due x && has writing x)) → (x : ℕ) → x < 128
    → has found x ≡ (has due x && writes (slot slots x))
with_results slots due writing found of both x l = both x ∙ ap (λ b. has due x && b) (of x l)

pub choice_is : (st : Pools) {buses due unsent found sending ending : ℕ} (writing silent : ℕ)
    → IsSetOf writes st.slots writing → ((x : ℕ) → has found x ≡ (has due x && has writing x))
    → IsPicked unsent st.issue_numbers buses sending
    → ((x : ℕ) → x < 128 → has silent x ≡ (has due x && not (has found x)))
    → ((x : ℕ) → has ending x ≡ (has sending x || has silent x))
    → IsChoice st buses due unsent found sending ending
choice_is st {due = due} writing silent of both picked others all = record {
  silent = silent;
  results = λ x l. both x ∙ ap (λ b. has due x && b) (of x l);
  picked = picked;
  others = others;
  all = all;
}

-- what ends of what is due has nothing to send
pub are_ending : (st : Pools) (buses : ℕ) {next due found sending ending : ℕ} {g : Finishes}
    → AreBusy st.slots st.busy st.issue_numbers → AreTurned st.slots next due g
    → IsChoice st buses due g.unsent found sending ending → AreEnding st buses next ending
are_ending st buses {next} {due} {found} {sending} {g = g} filled now choice =
    let same : g.unsent ≡ now.before.unsent = now.turned.unsent in
    let unsent = of_busy (can_send next) st.slots st.busy st.issue_numbers now.before.unsent refl filled
    now.known.unsent in
    record {
      unsent = now.before.unsent;
      sending = sending;
      are_unsent = unsent;
      sent = rw same at choice.picked;
      all = λ x l. choice.all x ∙ ap (λ b. has sending x || b) (choice.others x l
          ∙ rw (choice.results x l, all_due now.known now.turned x l, filled.each x l)
          (alone_is next (slot st.slots x) (stayed_past x now.known)));
    }

-- the content of a place after the end of a cycle passes a test if it did before and hasn't ended
after_test : (test : Option Station → Bool) (sent : ℕ → Option ℕ) (ended : Bool) (o : Option Station)
    → test None ≡ false → ((s : Station) → test (Some (hears sent s)) ≡ test (Some s))
    → test (after_ends ended sent o) ≡ (not ended && test o)
after_test test sent true o none same = none
after_test test sent false None none same = refl
after_test test sent false (Some s) none same = same s

before_next : (next : ℕ) (finish : Option ℕ)
    → is_finished_before finish (next + 1) ≡ (is_finished_before finish next || is_number finish next)
before_next next finish = grind (arith, nat_tests)

unsent_is : (next : ℕ) (o : Option Station) (sending : Bool) → (sending ≡ true → can_send next o ≡ true)
    → ((can_send next o && not sending) || (finishes next o && writes o)) ≡ (not (sending || (finishes next o && not
    (finishes next o && writes o))) && can_send (next + 1) o)
unsent_is next o sending h3 = grind (arith, nat_tests)

gone_test : (r before done sending : Bool) → (not r && before) ≡ false
    → (not (sending || (done && not (done && r))) && (not r && (before || done))) ≡ false
gone_test r before done sending e = grind (arith, nat_tests)

gone_is : (next : ℕ) (o : Option Station) (sending : Bool) → has_stayed next o ≡ false
    → (not (sending || (finishes next o && not (finishes next o && writes o))) && has_stayed (next + 1) o) ≡ false
gone_is next None sending e = and_right (not (sending || false)) false refl
gone_is next (Some s) sending e = rw (before_next next s.finish) (gone_test (is_some (dest_of s.instr))
    (is_finished_before s.finish next) (is_number s.finish next) sending e)

pub leaves_known : (st : Pools) (buses : ℕ) {next due found sending ending : ℕ} {g : Finishes} (h : Finishes)
    → AreBusy st.slots st.busy st.issue_numbers → AreTurned st.slots next due g
    → IsChoice st buses due g.unsent found sending ending → HasSent g sending found h
    → LeavesTimetable st.slots next ending h
leaves_known st buses {next} {due} {found} {sending} {ending} {g} h filled now choice done_so new sent count after =
    let known : IsTimetableOf st.slots next now.before = now.known in
    let on : (a x : ℕ) → is_due h.wheel a x ≡ is_due now.before.wheel (a + 1) x = λ a x. ap (λ (w : List ℕ). is_due w a
    x) done_so.wheel ∙ now.turned.wheel a x in
    let done : AreDone st.slots next due = all_due known now.turned in
    let was : (x : ℕ) → x < 128 → has g.unsent x ≡ can_send next (slot st.slots x) = λ x l. ap (λ z. has z x)
    now.turned.unsent ∙ known.unsent x l in
    let inside : (x : ℕ) → x < 128 → has sending x ≡ true → can_send next (slot st.slots x) ≡ true =
    λ x l e. sym (was x l) ∙ choice.picked.inside x l e in
    let ends : (x : ℕ) → x < 128 → has ending x ≡ (has sending x || (finishes next (slot st.slots x) && not
    (finishes next (slot st.slots x) && writes (slot st.slots x)))) = λ x l. choice.all x ∙ ap (λ b. has sending x || b)
    (choice.others x l ∙ rw (choice.results x l, done x l) refl) in
    let test : (t : Option Station → Bool) (x : ℕ) → x < 96 → t None ≡ false → ((s : Station) → t (Some (hears sent s))
    ≡ t (Some s)) → t (slot new x) ≡ (not (has ending x) && t (slot st.slots x)) = λ t x l none same. ap t (after x l)
    ∙ after_test t sent (has ending x) (slot st.slots x) none same in
    record {
      places = count;
      ahead = λ a x l m. on a x ∙ (all_ahead (a + 1) x known m ∙ sym (test (finishes (next + 1 + a)) x m refl
          (λ s. refl) ∙ same_later a x m (inside x (omega arith)) (ends x (omega arith))));
      near = λ x v l e. let k : v < next + 64 =
          known.near x v l (and_parts (not (has ending x)) _ (sym (test (finishes v) x l refl (λ s. refl)) ∙ e)).1 in
          omega arith;
      low = λ a x e. known.low (a + 1) x (sym (on a x) ∙ e);
      unsent = λ x l. done_so.unsent x l ∙ elim (cases_Bool (nat_lt x 96)) [
        | inl k ↦
            let low : x < 96 = ltb-true x 96 k in
            rw (was x l, choice.results x l, done x l)
            (unsent_is next (slot st.slots x) (has sending x) (inside x l))
            ∙ sym (test (can_send (next + 1)) x low refl (λ s. refl)
            ∙ ap (λ b. not b && can_send (next + 1) (slot st.slots x)) (ends x l))
        | inr k ↦
            let high : 96 ≤ x = ltb-false x 96 k in
            let gone : slot new x ≡ None = get_or_past new x None (omega arith) in
            let past = get_or_past st.slots x None (let c : length st.slots ≡ 96 = filled.places in omega arith) in
            rw (was x l, choice.results x l, done x l, past, gone) refl
      ];
      gone = λ x l. test (has_stayed (next + 1)) x l refl (λ s. refl)
          ∙ (ap (λ b. not b && has_stayed (next + 1) (slot st.slots x)) (ends x (omega arith))
          ∙ gone_is next (slot st.slots x) (has sending x) (known.gone x l));
    }
  where
    same_later : (a x : ℕ) → x < 96 → (has sending x ≡ true → can_send next (slot st.slots x) ≡ true) → has ending x
        ≡ (has sending x || (finishes next (slot st.slots x) && not (finishes next (slot st.slots x) && writes
        (slot st.slots x)))) → (not (has ending x) && finishes (next + 1 + a) (slot st.slots x)) ≡ finishes
        (next + (a + 1)) (slot st.slots x)
    same_later a x e f g = grind (arith, nat_tests)

-- if nothing is over, no result is unsent
pub none_unsent : {st : Pools} {buses due found sending ending : ℕ} {g : Finishes} (h : Finishes)
    → IsChoice st buses due g.unsent found sending ending → HasSent g sending found h
    → (sending < 2 ^ 128) × (h.unsent < 2 ^ 128) → (g.unsent ≢ 0 → sending ≢ 0) → ending ≡ 0 → due ≡ 0 → h.unsent ≡ 0
none_unsent {st} {due = due} {found} {sending} {ending} {g} h choice sent fits some none over = elim
    (cases_Bool (h.unsent == 0)) [
      | inl e ↦ eqb-true h.unsent 0 e
      | inr e ↦
          let x = member_of h.unsent fits.1 (eqb-false h.unsent 0 e) in
          elim (or_cases (has g.unsent x.0 && not (has sending x.0)) _ (sym (sent.unsent x.0 x.1) ∙ x.2)) [
            | inr here ↦ absurd (both_ways (has due x.0) (rw over (none_in x.0))
                (and_parts (has due x.0) _ (sym (choice.results x.0 x.1) ∙ here)).0)
            | inl was ↦
                let there : g.unsent ≢ 0 = member_some g.unsent x.0 (and_parts (has g.unsent x.0) _ was).0 in
                let y = member_of sending fits.0 (some there) in
                absurd (both_ways (has ending y.0) (rw none (none_in y.0)) (choice.all y.0 ∙ rw y.2 refl))
          ]
    ]

-- A branch that is done.

abbrev pub is_branch_place : ℕ → Bool
is_branch_place x = nat_le 80 x && nat_lt x 96

pub branch_places : (x : ℕ) → x < 128 → is_served units.Bru x ≡ is_branch_place x
branch_places x l = agreed (is_served units.Bru) is_branch_place 128 refl x l

pub no_branch : (slots : List (Option Station)) (next due branches served : ℕ) → AreDone slots next due
    → ((x : ℕ) → x < 128 → has served x ≡ is_served units.Bru x)
    → ((x : ℕ) → has branches x ≡ (has due x && has served x)) → branches ≡ 0 → IsDoneBranch next slots None
no_branch slots next due branches served done serves both none x from to =
    sym (done x (omega arith)) ∙ elim (cases_Bool (has due x)) [
      | inr e ↦ e
      | inl e ↦ absurd (both_ways (has branches x) (rw none (none_in x))
          (both x ∙ rw (e, serves x (omega arith), branch_places x (omega arith), le-leb 80 x from, lt-ltb x 96 to)
          refl))
    ]

pub one_branch : (slots : List (Option Station)) (next due branches served x : ℕ) → AreDone slots next due
    → ((x : ℕ) → x < 128 → has served x ≡ is_served units.Bru x)
    → ((x : ℕ) → has branches x ≡ (has due x && has served x)) → x < 128 → has branches x ≡ true
    → IsDoneBranch next slots (Some x)
one_branch slots next due branches served x done serves both l e =
    let two = and_parts (has due x) (has served x) (sym (both x) ∙ e) in
    let place = and_parts (nat_le 80 x) (nat_lt x 96) (sym (branch_places x l) ∙ (sym (serves x l) ∙ two.1)) in
    (leb-true 80 x place.0, ltb-true x 96 place.1, sym (done x l) ∙ two.0)

-- if nothing finishes and nothing is sent, nothing ends
none_chosen : (st : Pools) (buses : ℕ) {due unsent : ℕ} → due ≡ 0 → unsent ≡ 0 → IsChoice st buses due unsent 0 0 0
none_chosen st buses over none = record {
  silent = 0;
  results = λ x l. rw (over, none_in x) refl;
  picked = none_picked _ buses st.issue_numbers none;
  others = λ x l. rw (over, none_in x) refl;
  all = λ x. rw (none_in x) refl;
}

-- and what is unsent stays so
none_sent : (g : Finishes) → HasSent g 0 0 g
none_sent g = record { wheel = refl; unsent = λ x l. rw (none_in x) (stays (has g.unsent x)) }
  where
    stays : (b : Bool) → b ≡ (b && true || false)
    stays b = grind (arith, nat_tests)

-- if nothing finishes and no result waits, nothing ends
pub ending_none : (st : Pools) (buses : ℕ) {next due : ℕ} {g : Finishes} → AreBusy st.slots st.busy st.issue_numbers
    → AreTurned st.slots next due g → due ≡ 0 → g.unsent ≡ 0 → AreEnding st buses next 0
ending_none st buses {next} filled now e none = are_ending st buses filled now (none_chosen st buses e none)

-- and what is known stays right
pub leaves_none : (st : Pools) (buses : ℕ) {next due : ℕ} {g : Finishes} → AreBusy st.slots st.busy st.issue_numbers
    → AreTurned st.slots next due g → due ≡ 0 → g.unsent ≡ 0 → LeavesTimetable st.slots next 0 g
leaves_none st buses {next} {g = g} filled now e none =
    leaves_known st buses g filled now (none_chosen st buses e none) (none_sent g)

-- If only results finish in a cycle, they are unsent after it, and that is all that changes.

-- what is due first, taken apart: results, which no branch has, and the others
pub record IsApart (slots : List (Option Station)) (first results others : ℕ) : Type 0 where
  pub results_are : (x : ℕ) → x < 128 → has results x ≡ (writes (slot slots x) && not (is_served units.Bru x))
  pub others_are : (x : ℕ) → x < 128 → has others x ≡ (has first x && not (has results x))

pub apart_is : {slots : List (Option Station)} {first results others : ℕ} (writing served : ℕ)
    → IsSetOf writes slots writing
    → ((x : ℕ) → x < 128 → has served x ≡ is_served units.Bru x)
    → ((x : ℕ) → x < 128 → has results x ≡ (has writing x && not (has served x)))
    → ((x : ℕ) → x < 128 → has others x ≡ (has first x && not (has results x))) → IsApart slots first results others
apart_is writing served of branches those but = record {
  results_are = λ x l. those x l ∙ rw (of x l, branches x l) refl;
  others_are = but;
}

-- of what is due none is outside the results
pub are_results : {slots : List (Option Station)} {next first results others : ℕ} {f : Finishes}
    → IsTimetableOf slots next f → AreDue f.wheel first → IsApart slots first results others → others ≡ 0
    → AreResults slots next
are_results {slots} {next} {first} {results} known due split none x l e =
    let now : next + 0 ≡ next = omega arith in
    let here = due x ∙ (all_ahead 0 x known l ∙ (ap (λ (v : ℕ). finishes v (slot slots x)) now ∙ e)) in
    let inside = member (has first x) (has results x) here (sym (split.others_are x (omega arith)) ∙ rw none
    (none_in x)) in
    let two = and_parts (writes (slot slots x)) (not (is_served units.Bru x))
    (sym (split.results_are x (omega arith)) ∙ inside) in (
      two.0,
      elim (cases_Bool (nat_lt x 80)) [
        | inl k ↦ ltb-true x 80 k
        | inr k ↦
            let high : 80 ≤ x = ltb-false x 80 k in
            let branch : is_served units.Bru x ≡ true =
            branch_places x (omega arith) ∙ rw (le-leb 80 x high, lt-ltb x 96 l) refl in
            absurd (cc)
      ],
    )
  where
    member : (a b : Bool) → a ≡ true → (a && not b) ≡ false → b ≡ true
    member a b e f = grind (arith, nat_tests)

-- of what is due one is outside the results
pub others_finish : {slots : List (Option Station)} {next first results others : ℕ} {f : Finishes}
    → IsTimetableOf slots next f → AreDue f.wheel first → IsApart slots first results others → others < 2 ^ 128
    → others ≢ 0 → AreResults slots next → ⊥
others_finish {slots} {next} {first} {results} {others} {f} known due split small some are =
    let (x, l, e) = member_of others small some in
    let two = and_parts (has first x) (not (has results x)) (sym (split.others_are x l) ∙ e) in
    let ahead : is_due f.wheel 0 x ≡ true = sym (due x) ∙ two.0 in
    let low : x < 96 = known.low 0 x ahead in
    let now : next + 0 ≡ next = omega arith in
    let over : finishes next (slot slots x) ≡ true = ap (λ (v : ℕ). finishes v (slot slots x)) (sym now)
    ∙ (sym (all_ahead 0 x known low) ∙ ahead) in
    let (sends, near) = are x low over in
    let branch : is_served units.Bru x ≡ false = branch_places x l ∙ rw (not_from x near) refl in
    let result : has results x ≡ true = split.results_are x l ∙ rw (branch, sends) refl in
    cc
  where
    not_from : (x : ℕ) → x < 80 → nat_le 80 x ≡ false
    not_from x e = grind (arith, nat_tests)

-- all that is due writes a register
due_writes : (slots : List (Option Station)) (next due x : ℕ) → length slots ≡ 96 → AreDone slots next due
    → AreResults slots next → x < 128 → has due x ≡ (has due x && writes (slot slots x))
due_writes slots next due x count done results l = elim (cases_Bool (has due x)) [
  | inr e ↦ rw e refl
  | inl e ↦ elim (place_or_none slots x count) [
    | inl k ↦ rw (e, (results x k (sym (done x l) ∙ e)).0) refl
    | inr past ↦ absurd (both_ways (finishes next (slot slots x)) (rw past refl) (sym (done x l) ∙ e))
  ]
]

-- they wait for a bus from here on
pub known_results : (st : Pools) {next due : ℕ} {f g : Finishes} (h : Finishes)
    → AreBusy st.slots st.busy st.issue_numbers → IsTimetableOf st.slots next f → HaveTurned f g due
    → AreResults st.slots next → f.unsent ≡ 0 → h.wheel ≡ g.wheel → h.unsent ≡ due → IsTimetableOf st.slots (next + 1) h
known_results st {next} {due} {f} {g} h filled known turned results none wheel unsent =
    let nothing : g.unsent ≡ 0 = turned.unsent ∙ none in
    let now : AreTurned st.slots next due g = record { before = f; known = known; turned = turned } in
    let choice : IsChoice st 0 due g.unsent due 0 0 = record {
      silent = 0;
      results = λ x l. due_writes st.slots next due x known.places (all_due known turned) results l;
      picked = none_picked g.unsent 0 st.issue_numbers nothing;
      others = λ x l. rw (none_in x) (silent (has due x));
      all = λ x. rw (none_in x) refl;
    } in
    none_over st.slots next 0 h known.places (leaves_known st 0 h filled now choice (record {
      wheel = wheel;
      unsent = λ x l. rw (unsent, nothing, none_in x) refl;
    })) refl
  where
    silent : (b : Bool) → false ≡ (b && not b)
    silent b = grind (arith, nat_tests)
