-- The longest word so far, one word later.
use Rattle.std.proofs.Common.{◌≡◌, ◌∙◌, ◌++◌, ◌∷◌, ◌<◌, ◌≤◌, [], List, None, Option, Some, append_assoc, ap}
use Rattle.std.proofs.Common.{arith, length, refl, subst, sym}
use Rattle.std.proofs.Common.{ℕ}
use Rattle.std.specs.Prelude.{option_map}
use Rattle.std.specs.Borrow.{Bor}
use Rattle.std.specs.Char.{is_not_whitespace, is_whitespace}
use Rattle.std.specs.List.{All}
use Rattle.std.specs.Option.{unwrap_or}
use Rattle.std.specs.Str.{NoCharPasses}
use Rattle.std.proofs.lemmas.List.{append-nil}
use Rattle.std.proofs.lemmas.List.Elements.{All-append, All-cons, All-nil, All-push, All-weaker}
use Rattle.tomex_refusals.specs.LongestWords.{AreWords, IsCut, IsInALine, IsLongest}

-- the words seen, and what is left of the text
pub record Seen (text rest : List ℕ) (longest : Option (List ℕ)) : Type 0 where
  pub words : List (List ℕ)
  pub split : (others : List (List ℕ)) → AreWords rest others → AreWords text (words ++ others)
  pub best : IsLongest words longest

pub none_seen : (text rest : List ℕ) → rest ≡ text → Seen text rest None
none_seen text rest whole =
    record {
      words = [];
      split = λ others are. subst (λ (left : List ℕ). AreWords left others) whole are;
      best = All-nil (λ word. IsInALine word → ⊥);
    }

-- a word that no line has
pub best_still : (words : List (List ℕ)) (longest : Option (List ℕ)) (word : List ℕ) → (IsInALine word → ⊥)
    → IsLongest words longest → IsLongest (words ++ word ∷ []) longest
best_still words None word not best = All-push (λ other. IsInALine other → ⊥) words word best not
best_still words (Some longest) word not (before, after, is, fits, shorter, no_longer) = (
  before,
  after ++ word ∷ [],
  ap (λ (ws : List (List ℕ)). ws ++ word ∷ []) is ∙ append_assoc before (longest ∷ after) (word ∷ []),
  fits,
  shorter,
  All-push (λ other. IsInALine other → length other ≤ length longest) after word no_longer (λ has. absurd (not has)),
)

-- a word that is no longer
pub best_again : (words : List (List ℕ)) (longest : Option (List ℕ)) (word : List ℕ) → 0 < length word
    → length word ≤ length (unwrap_or longest []) → IsLongest words longest → IsLongest (words ++ word ∷ []) longest
best_again words None word some no_more best = absurd (omega (arith, some, no_more))
best_again words (Some longest) word some no_more (before, after, is, fits, shorter, no_longer) = (
  before,
  after ++ word ∷ [],
  ap (λ (ws : List (List ℕ)). ws ++ word ∷ []) is ∙ append_assoc before (longest ∷ after) (word ∷ []),
  fits,
  shorter,
  All-push (λ other. IsInALine other → length other ≤ length longest) after word no_longer (λ _. no_more),
)

-- a longer word that a line has
pub best_now : (words : List (List ℕ)) (longest : Option (List ℕ)) (word : List ℕ) → IsInALine word
    → length (unwrap_or longest []) < length word → IsLongest words longest → IsLongest (words ++ word ∷ []) (Some word)
best_now words None word has longer best = (
  words,
  [],
  refl,
  has,
  All-weaker (λ other. IsInALine other → ⊥) (λ other. IsInALine other → length other < length word)
      (λ other not has_it. absurd (not has_it)) words best,
  All-nil (λ other. IsInALine other → length other ≤ length word),
)
best_now words (Some longest) word has longer (before, after, is, fits, shorter, no_longer) = (
  words,
  [],
  refl,
  has,
  subst (All (λ other. IsInALine other → length other < length word)) (sym is) (All-append
      (λ other. IsInALine other → length other < length word) before (longest ∷ after)
      (All-weaker (λ other. IsInALine other → length other < length longest)
      (λ other. IsInALine other → length other < length word)
      (λ other less has_it. let l = less has_it in omega (arith, l, longer)) before shorter)
      (All-cons (λ other. IsInALine other → length other < length word) longest after (λ _. longer)
      (All-weaker (λ other. IsInALine other → length other ≤ length longest)
      (λ other. IsInALine other → length other < length word)
      (λ other less has_it. let l = less has_it in omega (arith, l, longer)) after no_longer))),
  All-nil (λ other. IsInALine other → length other ≤ length word),
)

-- a word and what is left after it
abbrev pub IsNext : List ℕ → List ℕ → List ℕ → Type 0
IsNext was word rest = (gap : List ℕ) × (was ≡ gap ++ (word ++ rest)) × (0 < length word)
    × NoCharPasses is_not_whitespace gap × NoCharPasses is_whitespace word × IsCut rest

pub one_more : (text was rest word : List ℕ) (longest next : Option (List ℕ)) (seen : Seen text was longest)
    → IsNext was word rest → IsLongest (seen.words ++ word ∷ []) next → Seen text rest next
unfolding AreWords
one_more text was rest word longest next seen (gap, is, some, blank, whole, cut) best =
    record {
      words = seen.words ++ word ∷ [];
      split = λ others are. rw (append_assoc seen.words (word ∷ []) others) (seen.split (word ∷ others)
          (gap, rest, is, blank, (some, whole), cut, are));
      best = best;
    }

-- all words are seen
pub all_seen : (text rest : List ℕ) (longest : Option (List ℕ)) (seen : Seen text rest longest)
    → NoCharPasses is_not_whitespace rest → AreWords text seen.words
unfolding AreWords
all_seen text rest longest seen blank =
    subst (AreWords text) (append-nil seen.words) (seen.split [] blank)

-- the bytes of a text or of what stands for none
pub bytes_or : (text : Option (Bor (List ℕ))) (none : Bor (List ℕ))
    → (unwrap_or text none).now ≡ unwrap_or (option_map (λ it. it.now) text) none.now
bytes_or None none = refl
bytes_or (Some it) none = refl
