-- A run in two pieces: the times of the rest, given the history of the beginning.
use Rattle.std.proofs.Common.{ℕ, ◌+◌, ◌≡◌, ◌∙◌, arith, sym, ap, refl, List, [], ◌∷◌, ◌++◌, Option, Some, None, map, max}
use Rattle.std.proofs.Common.{append_assoc}
use Rattle.std.proofs.lemmas.List.{append-nil}
use Rattle.tomex_rvexec.specs.declared.step.Step.{Step}
use Rattle.tomex_config.specs.Configuration.{Configuration, IsWithinLimits}
use Rattle.tomex_timing.specs.Ahead.{one}
use Rattle.tomex_timing.specs.declared.times.Done.{Done}
use Rattle.tomex_timing.specs.declared.times.Times.{Times}
use Rattle.tomex_timing.specs.History.{is_memory}
use Rattle.tomex_timing.specs.Issue.{first_issue}
use Rattle.tomex_timing.specs.Recurrence.{AreTimed, IsTimed}
use Rattle.tomex_timing.specs.Search.{history, times_in, times_of, total_of}
use Rattle.tomex_timing.proofs.Histories.{history_more, times_more}
use Rattle.tomex_timing.proofs.Search.{times_are}
use Rattle.tomex_alike.specs.Alike.{AreAsFar, IsAddressAsFar, IsAsFar, LooksLike}
use Rattle.tomex_alike.specs.Laws.{AreSameSteps, address_later, after, done, later, next}
use Rattle.tomex_alike.proofs.Blocks.{steps_repeat}

pub history_joined : (config : Configuration) (before rest : List Step)
    → history config (before ++ rest) ≡ after config (history config before) rest
history_joined config before [] = ap (history config) (append-nil before)
history_joined config before (x ∷ rest) =
    ap (history config) (sym (append_assoc before (x ∷ []) rest))
    ∙ (history_joined config (before ++ (x ∷ [])) rest
    ∙ ap (λ h. after config h rest) (history_more config before x))

-- the times of steps after a history, in program order
abbrev pub times_after : Configuration → List Done → List Step → List Times
times_after config h [] = []
times_after config h (x ∷ rest) = times_of config h x ∷ times_after config (next config h x) rest

pub times_joined : (config : Configuration) (before rest : List Step)
    → times_in config (before ++ rest) ≡ times_in config before ++ times_after config (history config before) rest
times_joined config before [] = ap (times_in config) (append-nil before) ∙ sym (append-nil (times_in config before))
times_joined config before (x ∷ rest) =
    let h = history config before in
    let t = times_of config h x in
    let longer = before ++ (x ∷ []) in
    let one_more : times_in config longer ≡ times_in config before ++ (t ∷ []) = times_more config before x in
    let there : times_after config (history config longer) rest ≡ times_after config (next config h x) rest =
    ap (λ k. times_after config k rest) (history_more config before x) in
    ap (times_in config) (sym (append_assoc before (x ∷ []) rest))
    ∙ (times_joined config longer rest
    ∙ (ap (λ ts. ts ++ times_after config (history config longer) rest) one_more
    ∙ (ap (λ ts. (times_in config before ++ (t ∷ [])) ++ ts) there
    ∙ append_assoc (times_in config before) (t ∷ []) (times_after config (next config h x) rest))))

-- in a run of the rest, they are the times after nothing
pub times_first : (config : Configuration) (rest : List Step) → times_in config rest ≡ times_after config [] rest
times_first config rest = times_joined config [] rest

-- what is as far after a cycle as after one that is n cycles earlier is the same, n cycles later
cycle_later : (m n a b : ℕ) → IsAsFar m (m + n) a b → b ≡ a + n
cycle_later m n a b far = omega (arith, far.first, far.second, far.far)

address_is_later : (m n : ℕ) (a b : Option ℕ) → IsAddressAsFar m (m + n) a b → b ≡ address_later n a
address_is_later m n None None far = refl
address_is_later m n None (Some b) far = absurd far
address_is_later m n (Some a) None far = absurd far
address_is_later m n (Some a) (Some b) far = ap Some (cycle_later m n a b far)

abbrev times_made : (issue : ℕ) → Option ℕ → (start finish end : ℕ) → Option ℕ → Times
times_made i a s f e n = record { issue = i; address = a; start = s; finish = f; end = e; station = n }

is_later : (m n : ℕ) (a b : Times) → AreAsFar m (m + n) a b → b ≡ later n a
is_later m n a b far =
    let i = cycle_later m n a.issue b.issue far.issue in
    let k = address_is_later m n a.address b.address far.address in
    let s = cycle_later m n a.start b.start far.start in
    let f = cycle_later m n a.finish b.finish far.finish in
    let e = cycle_later m n a.end b.end far.end in
    let all : times_made b.issue b.address b.start b.finish b.end b.station
    ≡ times_made (a.issue + n) (address_later n a.address) (a.start + n) (a.finish + n) (a.end + n) a.station =
    rw (i, k, s, f, e, sym far.station) refl in
    all

-- after histories that look alike the same steps have the same times, as much later
pub rest_later : (config : Configuration) (w n : ℕ) (g h : List Done) (xs ys : List Step) → IsWithinLimits config
    → AreTimed config g → AreTimed config h → LooksLike config w g h → first_issue config h ≡ first_issue config g + n
    → AreSameSteps config w g h xs ys → times_after config h ys ≡ map (later n) (times_after config g xs)
rest_later config w n g h [] [] good in_g in_h like first same = refl
rest_later config w n g h [] (y ∷ ys) good in_g in_h like first same = absurd same
rest_later config w n g h (x ∷ xs) [] good in_g in_h like first same = absurd same
rest_later config w n g h (x ∷ xs) (y ∷ ys) good in_g in_h like first same =
    let a = times_of config g x in
    let b = times_of config h y in
    let p : IsTimed config g x a = times_are config g x good in_g in
    let q : IsTimed config h y b = times_are config h y good in_h in
    let r = steps_repeat config w g h x y a b good in_g in_h like same.0 p q in
    let far : AreAsFar (first_issue config g) (first_issue config g + n) a b = rw first at r.times in
    let f : first_issue config (done y b ∷ h) ≡ first_issue config (done x a ∷ g) + n =
    omega (arith, r.first.first, r.first.second, r.first.far, first) in
    let rest = rest_later config (w + one (is_memory x)) n (next config g x) (next config h y) xs ys good (p, in_g)
    (q, in_h) r.alike f same.1 in
    ap (λ c. c ∷ times_after config (next config h y) ys) (is_later (first_issue config g) n a b far)
    ∙ ap (λ ts. later n a ∷ ts) rest

-- totals
pub total_joined : (xs ys : List Times) → total_of (xs ++ ys) ≡ max (total_of xs) (total_of ys)
total_joined [] ys = omega arith
total_joined (x ∷ xs) ys = let e = total_joined xs ys in omega (arith, e)

pub total_later : (n : ℕ) (ts : List Times) → max n (total_of (map (later n) ts)) ≡ n + total_of ts
total_later n [] = omega arith
total_later n (t ∷ ts) = let e = total_later n ts in omega (arith, e)
