-- The word of CONFIG: it has a `=` or not, and it is the number that it was read as.
use Rattle.std.proofs.Common.{◌≡◌, ◌≤◌, ℕ, Bool, true, false, List, length, get_or, arith, refl, sym, subst}
use Rattle.std.proofs.Common.{inl, inr, Some, None, Result, Ok, ◌==◌, ◌∙◌, ap}
use Rattle.std.specs.Prelude.{codes, unwrap_or}
use Rattle.std.specs.Bool.{MatchBool}
use Rattle.std.specs.List.{list_any}
use Rattle.std.specs.Str.Parse.{ParsesUnsigned}
use Rattle.std.specs.Str.Pattern.{FindsChar}
use Rattle.std.specs.declared.num.ParseIntError.{ParseIntError}
use Rattle.std.proofs.lemmas.Bool.{cases_Bool, eqb-true}
use Rattle.std.proofs.lemmas.List.Elements.{All-from_get_or}
use Rattle.std.proofs.lemmas.List.Folds.{list_any_at, list_any_none}
use Rattle.std.proofs.lemmas.Result.{Ok-from_Ok_iff}
use Rattle.std.proofs.lemmas.Str.Pattern.{contains_char}
use Rattle.clap.specs.Words.{Row}
use Rattle.tomex_arguments.specs.Values.{IsWord}
use Rattle.tomex_command_line.specs.Limits.{last_row}
use Rattle.tomex_command_line.specs.Values.{IsNoConfig}
use Rattle.tomex_command_line.specs.declared.line.config.ConfigName.TheVariants.{Number, Choices}

abbrev has_equals : List ℕ → Bool
has_equals word = list_any (λ b. b == 61) word

-- what `contains` says of a word
abbrev IsSearched : List ℕ → Bool → Type 0
IsSearched word r =
    MatchBool r ((i : ℕ) × (j : ℕ) × FindsChar 61 word (Some (i, j)) × (i ≤ j) × (j ≤ length word))
    (FindsChar 61 word None)

pub with_equals : (word : List ℕ) (r : Bool) → IsSearched word r → r ≡ true → has_equals word ≡ true
with_equals word r searched is =
    let at = (contains_char 61 word r searched (omega arith)).0 is in
    list_any_at (λ b. b == 61) word at.0 0 at.1 (rw at.2 refl)

other : (b : ℕ) → (b ≡ 61 → ⊥) → (b == 61) ≡ false
other b is_not = elim (cases_Bool (b == 61)) [
  | inl e ↦ absurd (is_not (eqb-true b 61 e))
  | inr e ↦ e
]

pub without_equals : (word : List ℕ) (r : Bool) → IsSearched word r → r ≡ false → has_equals word ≡ false
without_equals word r searched is =
    list_any_none (λ b. b == 61) word (All-from_get_or (λ b. (b == 61) ≡ false) word 0 (λ k within.
    other (get_or word k 0) (λ there.
    absurd (cc (is, (contains_char 61 word r searched (omega arith)).1 k within there)))))

one_word : (rows : List Row) (word same : List ℕ) → IsWord rows (codes "CONFIG") word
    → IsWord rows (codes "CONFIG") same
    → same ≡ word
one_word rows word same is is_too = ap (λ o. unwrap_or o word) (sym is_too ∙ is)

-- a word that is neither choices nor a number within bounds names no configuration
pub not_named : (rows : List Row) (word : List ℕ) (r : Result ℕ ParseIntError) → IsWord rows (codes "CONFIG") word
    → has_equals word ≡ false → ParsesUnsigned 32 10 word r → ((n : ℕ) → r ≡ Ok n → n ≤ last_row → ⊥)
    → IsNoConfig rows
not_named rows word r is none parses out (Number n) asked =
    let parsed = subst (λ (w : List ℕ). ParsesUnsigned {E = ParseIntError} 32 10 w (Ok n))
    (one_word rows word asked.word is asked.is_word) asked.parsed in
    out n (Ok-from_Ok_iff r _ _ parses parsed.0 ∙ ap (λ (k : ℕ). Ok k) (sym parsed.1)) asked.within
not_named rows word r is none parses out (Choices other) asked =
    let yes = subst (λ (w : List ℕ). has_equals w ≡ true) (one_word rows word other.now is asked.is_word) asked.choices
    in
    absurd (cc)
