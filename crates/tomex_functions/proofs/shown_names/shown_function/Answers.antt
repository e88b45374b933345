-- The name is cut, or whole.
use Rattle.std.proofs.Common.{◌∙◌, ◌++◌, List, ℕ, ap, codes, string_bytes}
use Rattle.tomex_functions.proofs.Cut.{cut_long, cut_short}
use Rattle.tomex_functions.proofs.shown_names.shown_function.Goals as goal
use Rattle.tomex_functions.proofs.shown_names.shown_function.Goals.{then-name-gt-MOST_SHOWN+in_ok-push_str}
use Rattle.tomex_functions.proofs.shown_names.shown_function.Goals.{else-name-gt-MOST_SHOWN}

pub returns : goal.returns
returns c = elim c.if-name-gt-MOST_SHOWN.branch [
  | then-name-gt-MOST_SHOWN+in_ok-push_str w ↦ ap string_bytes w.text-is
      ∙ (w.in_ok-push_str.ensures.bytes
      ∙ (ap (λ (text : List ℕ). text ++ codes "..") c.in_ok-text.ensures
      ∙ cut_long 256 _ _ _ c.name_of-name.ensures c.min.ensures w.if-name-gt-MOST_SHOWN.true))
  | else-name-gt-MOST_SHOWN w ↦ ap string_bytes w.text-is
      ∙ (c.in_ok-text.ensures ∙ cut_short 256 _ _ _ c.name_of-name.ensures c.min.ensures w.if-name-gt-MOST_SHOWN.false)
]
