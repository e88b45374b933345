-- The bytes that were read within the limit are all bytes of the file.
use Rattle.std.proofs.Common.{◌≡◌, ◌≤◌, ◌+◌, ◌∙◌, ap, subst, ℕ, List, [], ◌++◌, length, take, Option, Some, None}
use Rattle.std.proofs.Common.{IfSome, arith, rules}
use Rattle.std.proofs.lemmas.Grind.{common_steps}
use Rattle.std.specs.Option.{option_map}
use Rattle.tomex_streams.proofs.files.bytes_within.Goals as goal

-- fewer bytes than requested are all bytes
all_of_few : (most : ℕ) (held got : List ℕ) → got ≡ take (most + 1) held → length got ≤ most → got ≡ held
all_of_few most held got e few = grind (arith, common_steps)

-- the same for known bytes, if nothing came before
all_that_was : (known : Option (List ℕ)) (most limit : ℕ) (front got : List ℕ) → limit ≡ most + 1 → front ≡ []
    → IfSome (option_map (take limit) known) (λ xs. got ≡ front ++ xs) → length got ≤ most
    → IfSome known (λ held. got ≡ held)
all_that_was None most limit front got l f e few = tt
all_that_was (Some held) most limit front got l f e few =
    all_of_few most held got (e ∙ ap (λ n. front ++ take n held) l ∙ ap (λ xs. xs ++ take (most + 1) held) f) few

pub returns-in-Ok-clause-all : goal.returns-in-Ok-clause-all
returns-in-Ok-clause-all g c =
    let known = g.R.Read.remaining in
    all_that_was (known c.args.reader) c.args.most c.take.result.limit c.new-bytes.result.items
    c.read_to_end.new.buf.items
    (search rules) (search rules)
    (subst (λ (reader : _). IfSome (option_map (take c.take.result.limit) (known reader))
    (λ xs. c.read_to_end.new.buf.items ≡ c.new-bytes.result.items ++ xs)) c.take.ensures.inner
    c.in-Ok.ensures.bytes)
    (search rules)
