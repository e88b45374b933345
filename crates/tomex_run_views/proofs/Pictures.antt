-- The text of a picture's loops after one more turn; and the steps shown end no later than the whole run.
use Rattle.std.proofs.Common.{◌≡◌, ◌∙◌, ap, ap₂, sym, subst, refl, arith, ℕ, zero, suc, ◌+◌, ◌-◌, ◌<◌, ◌≤◌}
use Rattle.std.proofs.Common.{List, [], ◌∷◌, ◌++◌, append_assoc, drop, get_or, length}
use Rattle.std.specs.Prelude.{codes}
use Rattle.std.specs.Fmt.{decimal}
use Rattle.std.specs.List.{flat_map, range_with_len}
use Rattle.std.proofs.lemmas.List.{append-nil, drop_all}
use Rattle.tomex_rvexec.specs.declared.step.Step.{Step}
use Rattle.tomex_config.specs.Configuration.{Configuration}
use Rattle.tomex_timing.specs.Search.{total_of}
use Rattle.tomex_timing.specs.declared.times.Times.{Times}
use Rattle.tomex_run_views.specs.Chart.{IsPictureOf, chart, first_issue, frame_of, line_of, lines_of, most_signs}
use Rattle.tomex_run_views.specs.Chart.{picture_of, sign_in, signs_of}
use Rattle.tomex_run_views.specs.Excerpt.{IsExcerptOf, TimedSteps}
use Rattle.tomex_run_views.specs.declared.lines.Frame.{Frame}

-- the sign of the next cycle
next_sign : (at : Times) (t : ℕ) → t ≤ at.end → chart at t ≡ sign_in at t ++ chart at (t + 1)
next_sign at t within =
    let e : at.end + 1 - t ≡ suc (at.end + 1 - (t + 1)) = omega arith in
    ap (λ (n : ℕ). flat_map (sign_in at) (range_with_len t n)) e

pub sign_more : (at : Times) (t : ℕ) (before after whole : List ℕ) → t ≤ at.end → after ≡ before ++ sign_in at t
    → before ++ chart at t ≡ whole → after ++ chart at (t + 1) ≡ whole
sign_more at t before after whole within grown so_far =
    ap (λ (z : List ℕ). z ++ chart at (t + 1)) grown
    ∙ (append_assoc before (sign_in at t) (chart at (t + 1))
    ∙ (ap (λ (z : List ℕ). before ++ z) (sym (next_sign at t within)) ∙ so_far))

-- the line of the next step
next_line : (frame : Frame) (number index : ℕ) (steps : List Step) (times : List Times) (step first : Step)
    (at none : Times)
    → index < length steps → length times ≡ length steps → step ≡ get_or steps index first
    → at ≡ get_or times index none
    → lines_of frame number (drop index steps) (drop index times)
    ≡ line_of frame number step at ++ lines_of frame (number + 1) (drop (suc index) steps) (drop (suc index) times)
next_line frame number index [] times step first at none within pairs step_is at_is = absurd (omega (arith, within))
next_line frame number index (s ∷ ss) [] step first at none within pairs step_is at_is = absurd (omega (arith, pairs))
next_line frame number zero (s ∷ ss) (t ∷ ts) step first at none within pairs step_is at_is = rw (step_is, at_is) refl
next_line frame number (suc index) (s ∷ ss) (t ∷ ts) step first at none within pairs step_is at_is =
    next_line frame number index ss ts step first at none (omega (arith, within)) (omega (arith, pairs)) step_is at_is

pub line_more : (frame : Frame) (number index : ℕ) (steps : List Step) (times : List Times) {step : Step} (first : Step)
    {at : Times} (none : Times) (before : List ℕ) {after whole : List ℕ} → index < length steps
    → length times ≡ length steps → step ≡ get_or steps index first → at ≡ get_or times index none
    → after ≡ before ++ line_of frame (number + index) step at
    → before ++ lines_of frame (number + index) (drop index steps) (drop index times) ≡ whole
    → after ++ lines_of frame (number + (index + 1)) (drop (index + 1) steps) (drop (index + 1) times) ≡ whole
line_more frame number index steps times {step} first {at} none before {after} within pairs step_is at_is grown so_far =
    let next : number + (index + 1) ≡ number + index + 1 = omega arith in
    let more : index + 1 ≡ suc index = omega arith in
    let line = line_of frame (number + index) step at in
    let rest = lines_of frame (number + index + 1) (drop (suc index) steps) (drop (suc index) times) in
    let at_index = next_line frame (number + index) index steps times step first at none within pairs step_is at_is in
    ap₂ (λ (n i : ℕ). after ++ lines_of frame n (drop i steps) (drop i times)) next more
    ∙ (ap (λ (z : List ℕ). z ++ rest) grown
    ∙ (append_assoc before line rest
    ∙ (ap (λ (z : List ℕ). before ++ z) (sym at_index) ∙ so_far)))

-- after the last step
pub no_line : (frame : Frame) (number index : ℕ) (steps : List Step) (times : List Times) (text whole : List ℕ)
    → length steps ≤ index → text ++ lines_of frame number (drop index steps) (drop index times) ≡ whole
    → text ≡ whole
no_line frame number index steps times text whole past so_far =
    sym (append-nil text)
    ∙ (ap (λ (ss : List Step). text ++ lines_of frame number ss (drop index times)) (sym (drop_all index steps past))
    ∙ so_far)

-- the text after five pieces
line_after : (a b c d e rest : List ℕ) → (a ++ (b ++ (c ++ (d ++ e)))) ++ rest ≡ a ++ (b ++ (c ++ (d ++ (e ++ rest))))
line_after a b c d e rest =
    append_assoc a (b ++ (c ++ (d ++ e))) rest
    ∙ ap (λ (z : List ℕ). a ++ z) (append_assoc b (c ++ (d ++ e)) rest
    ∙ ap (λ (z : List ℕ). b ++ z) (append_assoc c (d ++ e) rest
    ∙ ap (λ (z : List ℕ). c ++ z) (append_assoc d e rest)))

-- the line with the cycles, and those of the steps after it
pub drawn_is : (number first last : ℕ) (steps : List Step) (times : List Times) (frame : Frame)
    (before head text : List ℕ)
    → head ≡ before ++ (codes "cycles " ++ (decimal first ++ (codes " to " ++ (decimal last ++ codes "\n"))))
    → text ≡ head ++ lines_of frame number steps times → first ≡ first_issue times
    → last ≡ total_of times → frame ≡ frame_of number steps times → text ≡ before ++ picture_of number steps times
drawn_is number first last steps times frame before head text begun more first_is last_is frame_is =
    let line = codes "cycles " ++ (decimal first ++ (codes " to " ++ (decimal last ++ codes "\n"))) in
    more ∙ (ap (λ (z : List ℕ). z ++ lines_of frame number steps times) begun
    ∙ (append_assoc before line (lines_of frame number steps times)
    ∙ ap (λ (z : List ℕ). before ++ z) (rw (first_is, last_is, frame_is)
    (line_after (codes "cycles ") (decimal (first_issue times)) (codes " to ") (decimal (total_of times)) (codes "\n")
    (lines_of (frame_of number steps times) number steps times)))))

-- the text is the picture that was asked for
pub pictured : (config : Configuration) (run : List Step) (number count : ℕ) (e : TimedSteps) (text : List ℕ)
    → IsExcerptOf config run number count e → signs_of e.times ≤ most_signs
    → text ≡ picture_of e.number e.steps e.times → IsPictureOf config run number count text
pictured config run number count e text asked few is = record {
  there = asked.there;
  drawn = subst (λ (x : TimedSteps). signs_of x.times ≤ most_signs) asked.is few;
  is = is ∙ ap (λ (x : TimedSteps). picture_of x.number x.steps x.times) asked.is;
}
