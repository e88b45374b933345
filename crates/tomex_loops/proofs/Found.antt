-- What is found at one more step.
use Rattle.std.proofs.Common.{ℕ, ◌+◌, ◌<◌, ◌≡◌, ◌∙◌, sym, ap, subst, Bool, false, List, Option, None, length, drop}
use Rattle.std.proofs.Common.{get_or}
use Rattle.std.proofs.lemmas.List.{at_drop_more}
use Rattle.tomex_loops.specs.declared.coming.Coming.{Coming}
use Rattle.tomex_loops.specs.declared.finding.Finder.{Finder}
use Rattle.tomex_loops.specs.Calls.{Calls, moved}
use Rattle.tomex_loops.specs.Loops.{Found, found_after, found_at}
use Rattle.tomex_loops.specs.Ways.{ShowsFound, ways_of}

-- after a move
pub shows_moved : {A : Type 0} (f : Found) (s t : Finder A) (c : Coming) → ShowsFound f s
    → ways_of t ≡ moved c.by (ways_of s) → t.heads.items ≡ s.heads.items → t.loops.items ≡ s.loops.items
    → ShowsFound (record f { ways = moved c.by f.ways }) t
shows_moved f s t c shows ways heads loops = record {
  ways = ways ∙ ap (λ (w : Calls ℕ). moved c.by w) shows.ways;
  found = record {
    same_heads = λ x h. ap (λ (xs : List Bool). get_or xs x false) heads ∙ shows.found.same_heads x (subst (λ
        (xs : List Bool). x < length xs) heads h);
    same_loops = λ x h. ap (λ (xs : List (Option ℕ)). get_or xs x None) loops ∙ shows.found.same_loops x (subst (λ
        (xs : List (Option ℕ)). x < length xs) loops h);
  };
}

pub found_more : (f all : Found) (comings : List Coming) (i : ℕ) (z : Coming) → i < length comings
    → found_after f (drop i comings) ≡ all
    → found_after (found_at f (get_or comings i z)) (drop (i + 1) comings) ≡ all
found_more f all comings i z h is =
    let more : found_after f (drop i comings) ≡ found_after (found_at f (get_or comings i z)) (drop (i + 1) comings) =
    at_drop_more (λ (xs : List Coming). found_after f xs) comings i z h in
    sym more ∙ is
