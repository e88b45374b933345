-- The front of judged configurations, and of those that are all finished.
use Rattle.std.proofs.Common.{◌≡◌, ℕ, zero, suc, ◌+◌, ◌<◌, arith, ap, sym, refl, subst, ◌∙◌, List, [], ◌∷◌, ◌++◌}
use Rattle.std.proofs.Common.{length, map, take, true, get_or, Some, None, slice_get}
use Rattle.std.proofs.lemmas.List.{length-map, map-append, map_more}
use Rattle.tomex_config.specs.Configuration.{Configuration}
use Rattle.tomex_study.specs.Study.{DesignSpace, IsStudy}
use Rattle.tomex_study.specs.Program.{Workload}
use Rattle.tomex_study.specs.Cycles.{cycles_on, cycles_of}
use Rattle.tomex_sweep.specs.Finished.{finished_from}
use Rattle.tomex_pareto.specs.Front.{front_of}
use Rattle.tomex_study.specs.StudyFront.{front_of_study}
use Rattle.tomex_sweep.specs.Marks.{AreJudged}
use Rattle.tomex_lanes.specs.Parts.{is_closed}
use Rattle.tomex_pareto.specs.declared.front_row.FrontRow.{FrontRow}
use Rattle.tomex_board.specs.declared.mark.Mark.{Mark}
use Rattle.tomex_board.specs.declared.mark.Mark.TheVariants.{Finished, Dropped}
use Rattle.tomex_sweep.proofs.Judged.{same_front}

-- all configurations finished

mapped : (ys : List ℕ) (i : ℕ) (m : Mark) → slice_get (map Finished ys) i ≡ Some m → m ≡ Finished (get_or ys i 0)
mapped [] i m e = absurd (let f : None ≡ Some m = e in cc)
mapped (y ∷ ys) zero m e = (cc)
mapped (y ∷ ys) (suc i) m e = mapped ys i m e

map_closed : (ys : List ℕ) (k : ℕ) (d : Mark) → k < length (map Finished ys) → is_closed (get_or (map Finished ys) k d)
    ≡ true
map_closed [] k d l = absurd (omega arith)
map_closed (y ∷ ys) zero d l = refl
map_closed (y ∷ ys) (suc k) d l = map_closed ys k d (omega arith)

pub all_judged : (costs cycles : List ℕ) → length costs ≡ length cycles → AreJudged costs cycles (map Finished cycles)
all_judged costs cycles same = record {
  count = length-map _ _ ∙ sym same;
  closed = λ k d l. map_closed cycles k d l;
  lawful = record {
    finished = λ i y e. let f : Finished y ≡ Finished (get_or cycles i 0) = mapped cycles i (Finished y) e in cc;
    dropped = λ i j e. absurd (let f : Dropped j ≡ Finished (get_or cycles i 0) = mapped cycles i (Dropped j) e in cc);
  };
}

-- a study's configurations

pub as_long : (s : DesignSpace) → IsStudy s → length s.costs ≡ length (cycles_of s)
unfolding cycles_of
as_long s is = ap length is.costs ∙ (length-map _ _ ∙ sym (length-map _ _))

pub study_front : (s : DesignSpace) (ms : List Mark) → IsStudy s → AreJudged s.costs (cycles_of s) ms
    → front_of (finished_from 0 s.costs ms) ≡ front_of_study s
unfolding front_of_study
study_front s ms is judged = same_front s.costs (cycles_of s) ms judged (as_long s is)

pub cycles_map : (s : DesignSpace) → map (cycles_on s.programs) s.rows ≡ cycles_of s
unfolding cycles_of
cycles_map s = refl

pub all_finished : (s : DesignSpace) (rows : List Configuration) (ms : List Mark) → rows ≡ s.rows
    → ms ≡ map Finished (map (cycles_on s.programs) rows) → ms ≡ map Finished (cycles_of s)
all_finished s rows ms e is = is ∙ (ap (λ (rs : List Configuration). map Finished (map (cycles_on s.programs) rs)) e
    ∙ ap (λ (ys : List ℕ). map Finished ys) (cycles_map s))

-- one more configuration is finished
pub one_finished : (programs : List Workload) (rows : List Configuration) (i y : ℕ) (config : Configuration)
    (before after : List Mark) → after ≡ before ++ Finished y ∷ [] → i < length rows → config ≡ get_or rows i config
    → y ≡ cycles_on programs config → before ≡ map Finished (map (cycles_on programs) (take i rows))
    → after ≡ map Finished (map (cycles_on programs) (take (i + 1) rows))
one_finished programs rows i y config before after pushed low at ran is =
    pushed ∙ (ap (λ (ms : List Mark). ms ++ Finished y ∷ []) is
    ∙ (ap (λ (n : ℕ). map Finished (map (cycles_on programs) (take i rows)) ++ Finished n ∷ [])
    (ran ∙ ap (cycles_on programs) at)
    ∙ (sym (map-append (λ (n : ℕ). Finished n) (map (cycles_on programs) (take i rows))
    (cycles_on programs (get_or rows i config) ∷ []))
    ∙ ap (map Finished) (sym (map_more (cycles_on programs) rows i config low)))))

pub finished_front : (s : DesignSpace) (ms slice : List Mark) (costs : List ℕ) {front : List FrontRow} → IsStudy s
    → ms ≡ map Finished (cycles_of s) → slice ≡ ms → costs ≡ s.costs → front ≡ front_of (finished_from 0 costs slice)
    → front ≡ front_of_study s
finished_front s ms slice costs {front} is marks e f h =
    let judged : AreJudged s.costs (cycles_of s) ms =
    subst (AreJudged s.costs (cycles_of s)) (sym marks) (all_judged s.costs (cycles_of s) (as_long s is)) in
    h ∙ (ap (λ (xs : List Mark). front_of (finished_from 0 costs xs)) e
    ∙ (ap (λ (cs : List ℕ). front_of (finished_from 0 cs ms)) f ∙ study_front s ms is judged))

-- and there are as many marks as costs
pub as_many_marks : (s : DesignSpace) (ms slice : List Mark) (costs : List ℕ) → IsStudy s
    → ms ≡ map Finished (cycles_of s) → slice ≡ ms → costs ≡ s.costs → length slice ≡ length costs
as_many_marks s ms slice costs is marks same its =
    ap length same ∙ (ap length marks ∙ (length-map _ _ ∙ (sym (as_long s is) ∙ ap length (sym its))))

pub judged_front : (s : DesignSpace) (ms slice : List Mark) (costs : List ℕ) {front : List FrontRow} → IsStudy s
    → AreJudged s.costs (cycles_of s) ms → slice ≡ ms → costs ≡ s.costs → front ≡ front_of (finished_from 0 costs slice)
    → front ≡ front_of_study s
judged_front s ms slice costs {front} is judged e f h =
    h ∙ (ap (λ (xs : List Mark). front_of (finished_from 0 costs xs)) e
    ∙ (ap (λ (cs : List ℕ). front_of (finished_from 0 cs ms)) f ∙ study_front s ms is judged))
