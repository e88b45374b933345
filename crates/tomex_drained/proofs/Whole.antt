-- The image's whole run takes what its prologue takes and what the part does.
use Rattle.std.proofs.Common.{ℕ, ◌+◌, ◌≤◌, ◌≡◌, ◌∙◌, arith, refl, sym, ap, List, [], ◌∷◌, ◌++◌, map, Option}
use Rattle.std.proofs.Common.{Some, None, max}
use Rattle.std.proofs.lemmas.Bool.{le-leb, lt-leb}
use Rattle.std.proofs.lemmas.List.{map-append}
use Rattle.tomex_image.specs.Image.{Loaded}
use Rattle.tomex_rvdec.specs.declared.op.Op.{Op}
use Rattle.tomex_rvdec.specs.declared.op.Op.TheVariants.{Ecall, Ebreak}
use Rattle.tomex_rvexec.specs.declared.outcome.EndKind.TheVariants as ends
use Rattle.tomex_rvexec.specs.declared.step.Step.{Step}
use Rattle.tomex_rvexec.specs.Flow.{end_at, end_of}
use Rattle.tomex_rvexec.specs.Machine.{State}
use Rattle.tomex_rvexec.specs.Run.{most_steps, start_of}
use Rattle.tomex_rvexec.specs.Trace.{steps_from}
use Rattle.tomex_rvexec.proofs.FlowStates.{ends_by, ends_by_step}
use Rattle.tomex_config.specs.Configuration.{Configuration, IsWithinLimits}
use Rattle.tomex_timing.specs.declared.times.Done.{Done}
use Rattle.tomex_timing.specs.declared.times.Times.{Times}
use Rattle.tomex_timing.specs.Issue.{first_issue}
use Rattle.tomex_timing.specs.Recent.{facts_of}
use Rattle.tomex_timing.specs.Recurrence.{AreTimed, can_issue}
use Rattle.tomex_timing.specs.Run.{run_of}
use Rattle.tomex_timing.specs.Search.{history, times_in, times_of, total_of}
use Rattle.tomex_timing.proofs.Least.{least_same}
use Rattle.tomex_timing.proofs.Histories.{are_timed, times_more, total_is}
use Rattle.tomex_timing.proofs.Search.{times_are}
use Rattle.tomex_timing.proofs.Tests.{at_once}
use Rattle.tomex_alike.proofs.Issue.{issue_test}
use Rattle.tomex_alike.proofs.Totals.{first_by_end}
use Rattle.tomex_cut.specs.Laws.{EndsAs, moved}
use Rattle.tomex_cut.specs.Part.{most_part, prologue_steps}
use Rattle.tomex_cut.specs.Prologue.{ebreak}
use Rattle.tomex_cut.proofs.Entry.{enters, prepared}
use Rattle.tomex_cut.proofs.Replay.{replays}
use Rattle.tomex_cut.proofs.Walks.{joined, steps_end}
use Rattle.tomex_drained.specs.Drained.{cycles}
use Rattle.tomex_drained.specs.Parts.{EndAddsOneAtMost, ImageTakesBoth, IsCutOf, PartAddsItsCycles, PrologueHasItsTimes}
use Rattle.tomex_drained.specs.Parts.{and_its_end, blank, image_of, prologue, prologue_of}
use Rattle.tomex_drained.proofs.Drained.{cycles_add_up}
use Rattle.tomex_drained.proofs.Facts.{facts_decide}
use Rattle.tomex_drained.proofs.Joined.{total_joined}
use Rattle.tomex_drained.proofs.Prologue.{prologue_is_drained}
use Rattle.tomex_drained.proofs.Walked.{prologue_facts}

same_prologue : (i : Loaded) (from least : ℕ) (file : List ℕ) (c : IsCutOf i from least file)
    → map facts_of (prologue_of c) ≡ map facts_of prologue
same_prologue i from least file c =
    prologue_facts (image_of c) c.cut.hook c.cut.place c.cut.part.start.pc c.cut.part.start.regs
    (prepared i from least file c.window c.loaded c.bytes c.cut) refl

pub prologue_has_its_times : PrologueHasItsTimes
prologue_has_its_times config i from least file good c =
    facts_decide config (prologue_of c) prologue good (same_prologue i from least file c)

-- steps of the prologue's facts, and then others
both_facts : (before xs ys : List Step) → map facts_of before ≡ map facts_of prologue
    → map facts_of xs ≡ map facts_of ys → map facts_of (before ++ xs) ≡ map facts_of (prologue ++ ys)
both_facts before xs ys e f =
    map-append facts_of before xs
    ∙ (ap (λ fs. fs ++ map facts_of xs) e
    ∙ (ap (λ fs. map facts_of prologue ++ fs) f ∙ sym (map-append facts_of prologue ys)))

both_take : (config : Configuration) (before xs ys : List Step) → IsWithinLimits config
    → map facts_of before ≡ map facts_of prologue → map facts_of xs ≡ map facts_of ys
    → cycles config (before ++ xs) ≡ cycles config prologue + cycles config ys
both_take config before xs ys good e f =
    ap total_of (facts_decide config (before ++ xs) (prologue ++ ys) good (both_facts before xs ys e f))
    ∙ cycles_add_up config prologue ys good (prologue_is_drained config good)

pub part_adds_its_cycles : PartAddsItsCycles
part_adds_its_cycles config i from least file good c =
    both_take config (prologue_of c) c.cut.part.steps c.cut.part.steps good (same_prologue i from least file c) refl

-- an EBREAK has the facts of any other
ebreak_facts : (x : Step) (e : ℕ) → end_of x ≡ Some ends.Ebreak → facts_of x ≡ facts_of (blank e ebreak)
ebreak_facts x e is = at x.instr.op x.instr.rd x.instr.rs1 x.instr.rs2 x.instr.imm x.pc x.vj x.vk is
  where
    at : (op : Op) (rd rs1 rs2 imm pc vj vk : ℕ) → end_at op ≡ Some ends.Ebreak
        → facts_of (record {
          pc = pc;
          instr = record { op = op; rd = rd; rs1 = rs1; rs2 = rs2; imm = imm };
          vj = vj;
          vk = vk;
        }) ≡ facts_of (blank e ebreak)
    at Ebreak rd rs1 rs2 imm pc vj vk is = refl
    at Ecall rd rs1 rs2 imm pc vj vk is = cc
    at op rd rs1 rs2 imm pc vj vk is = cc

-- the steps from the part's first pc on are the part's, and no more than an EBREAK
rest_facts : (t : State) (end : Option ℕ) (steps : List Step) (count : ℕ) → steps_from count t ≡ steps
    → count ≤ most_part → EndsAs end t count
    → map facts_of (steps_from (most_part + 1) t) ≡ map facts_of (and_its_end end steps)
rest_facts t None steps count are few e =
    let x = ends_by_step e.1 e.2 e.5 in
    let short = steps_end t e.1 e.2 e.0 count x.step e.4 x.is e.5 e.3 in
    let long = steps_end t e.1 e.2 e.0 (most_part + 1) x.step e.4 x.is e.5 (omega (arith, e.3)) in
    ap (map facts_of) (long ∙ (sym short ∙ are))
rest_facts t (Some a) steps count are few e =
    let x = ends_by_step e.0 ends.Ebreak e.3 in
    let long = steps_end t e.0 ends.Ebreak count (most_part + 1) x.step e.1 x.is e.3 (omega arith) in
    let last : facts_of x.step ≡ facts_of (blank a ebreak) =
    ebreak_facts x.step a (ends_by e.0 x.step ends.Ebreak x.is e.3) in
    ap (map facts_of) (long ∙ ap (λ xs. xs ++ (x.step ∷ [])) are)
    ∙ (map-append facts_of steps (x.step ∷ [])
    ∙ (ap (λ f. map facts_of steps ++ (f ∷ [])) last ∙ sym (map-append facts_of steps (blank a ebreak ∷ []))))

pub image_takes_both : ImageTakesBoth
unfolding run_of
image_takes_both config i from least file good c =
    let j = image_of c in
    let t = moved c.cut.part.start j in
    let r = replays i from least file c.window c.loaded c.cut in
    let entered = enters i from least file c.window c.loaded c.bytes c.cut in
    let all : most_steps ≡ prologue_steps + (most_part + 1) = refl in
    let run : steps_from most_steps (start_of j) ≡ prologue_of c ++ steps_from (most_part + 1) t =
    ap (λ n. steps_from n (start_of j)) all ∙ joined 64 (most_part + 1) (start_of j) t entered in
    total_is config (steps_from most_steps (start_of j))
    ∙ (ap (cycles config) run
    ∙ both_take config (prologue_of c) (steps_from (most_part + 1) t) (and_its_end c.cut.part.end c.cut.part.steps) good
    (same_prologue i from least file c) (rest_facts t c.cut.part.end c.cut.part.steps r.count r.steps r.few r.ends))

-- an EBREAK waits for no station, and ends as it issues
ebreak_ends : (config : Configuration) (h : List Done) (e : ℕ) → IsWithinLimits config → AreTimed config h
    → (times_of config h (blank e ebreak)).end ≡ first_issue config h
ebreak_ends config h e good in_h =
    let x = blank e ebreak in
    let first = first_issue config h in
    let timed = times_are config h x good in_h in
    let issue = least_same (can_issue config h x) (times_of config h x).issue first timed.issue (
      rw (issue_test config h x first good in_h, le-leb first first (omega arith)) refl,
      λ t l. rw (issue_test config h x t good in_h, lt-leb first t l) refl,
    ) in
    (at_once refl timed).end ∙ issue

pub end_adds_one : EndAddsOneAtMost
end_adds_one config e steps good =
    let x = blank e ebreak in
    let h = history config steps in
    let in_h = are_timed config steps good in
    let at : Times = times_of config h x in
    let last : at.end ≡ first_issue config h = ebreak_ends config h e good in_h in
    let sum = total_is config steps in
    let soon = first_by_end config h good in_h in
    let longer : cycles config (steps ++ (x ∷ [])) ≡ max (cycles config steps) (total_of (at ∷ [])) =
    ap total_of (times_more config steps x) ∙ total_joined (times_in config steps) (at ∷ []) in
    rw longer (omega (arith, last), omega (arith, last, soon, sum))
