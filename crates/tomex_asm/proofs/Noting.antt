-- One remark more in the index.
use Rattle.std.proofs.Common.{◌≡◌, Bool, true, false, cond, Option, Some, refl, sym, ap, ◌∙◌}
use Rattle.std.specs.Option.{unwrap_or}
use Rattle.tomex_asm_words.specs.declared.output.Said.{Said}
use Rattle.tomex_asm.specs.declared.attributes.Attributes.{Attributes}
use Rattle.tomex_asm.specs.File.{nothing_said, noted}

pub one_noted : (b : Bool) (old new at_name : Option Attributes) (before after : Attributes) (said : Said)
    → before ≡ unwrap_or at_name nothing_said → after ≡ noted before said → new ≡ cond b (Some after) old
    → (b ≡ true → old ≡ at_name)
    → unwrap_or new nothing_said
    ≡ cond b (noted (unwrap_or old nothing_said) said) (unwrap_or old nothing_said)
one_noted true old new at_name before after said e f h j =
    ap (λ o. unwrap_or o nothing_said) h ∙ f
    ∙ ap (λ a. noted a said) (e ∙ ap (λ o. unwrap_or o nothing_said) (sym (j refl)))
one_noted false old new at_name before after said e f h j = ap (λ o. unwrap_or o nothing_said) h
