-- The number is that of the text in the rows, and it is the only possible one.
use Rattle.std.proofs.Common.{◌≡◌, ◌≤◌, ◌∙◌, ap, sym, subst, refl, arith, ℕ, List, Option, Some, None, Ok, Err}
use Rattle.std.proofs.Common.{Result, rules}
use Rattle.std.specs.Str.Parse.{ParsesUnsigned, ExplainsUnsignedError, HasUnsignedDigitsIfOk}
use Rattle.std.specs.declared.num.ParseIntError.{ParseIntError}
use Rattle.clap.specs.Words.{ReadsOne, Row, found_of, one_text}
use Rattle.clap.specs.Walk.{Text, rows_of}
use Rattle.clap.specs.declared.parser.matches.Found.{Found}
use Rattle.clap.proofs.WalkLemmas.{one_text-rows}
use Rattle.tomex_arguments.proofs.WhyRefused.{refused_if}
use Rattle.tomex_arguments.specs.Values.{IsNumber}
use Rattle.tomex_arguments.proofs.values.long_number_of.Goals.{in_default-via-in-Some+then-bounds-number+else-number-bounds}
use Rattle.tomex_arguments.proofs.values.long_number_of.Goals.{in_default-via-in-Some+else-bounds-number}
use Rattle.tomex_arguments.proofs.values.long_number_of.Goals.{in_default-via-in_default}
use Rattle.tomex_arguments.proofs.values.long_number_of.Goals as goal

-- how the library reads a number of 64 bits
abbrev Gives : List ℕ → Result ℕ ParseIntError → Type 0
Gives bs r = ParsesUnsigned 64 10 bs r × ExplainsUnsignedError 10 bs r × HasUnsignedDigitsIfOk bs r

number_read : (f : Found) (id : Text) (least greatest : ℕ) (read : Option ℕ) (number : ℕ)
    → (one_text f id ≡ None → read ≡ None)
    → ((t : List ℕ) → one_text f id ≡ Some t → ReadsOne Gives t read) → read ≡ Some number
    → least ≤ number → number ≤ greatest → IsNumber (rows_of f) id least greatest number
number_read f id least greatest read number none value is from to = go (one_text f id) refl
  where
    go : (o : Option (List ℕ)) → one_text f id ≡ o → IsNumber (rows_of f) id least greatest number
    go None e = let bad : None ≡ Some number = sym (none e) ∙ is in absurd (cc)
    go (Some t) e = (
      t,
      sym (one_text-rows f id) ∙ e,
      (subst (λ (r : Option ℕ). ReadsOne Gives t r) is (value t e)).0,
      from,
      to,
    )

pub returns-in-Some-clause-number : goal.returns-in-Some-clause-number
returns-in-Some-clause-number c =
    number_read (found_of c.args.matches.now) c.args.name.now c.args.bounds.least c.args.bounds.greatest
    c.get_one.result c.in-Some.number c.get_one.ensures.none
    c.get_one.ensures.value c.in-Some.is (search rules) (search rules)

-- a text is read as at most one number
one_number : (text : List ℕ) (m n : ℕ) → ParsesUnsigned {E = ParseIntError} 64 10 text (Ok m)
    → ParsesUnsigned {E = ParseIntError} 64 10 text (Ok n) → m ≡ n
one_number text m n a b = a.1 ∙ sym b.1

-- if the library doesn't read a text as a number, it isn't one
no_number : (text : List ℕ) (e : ParseIntError) (n : ℕ) → ParsesUnsigned {E = ParseIntError} 64 10 text (Err e)
    → ParsesUnsigned {E = ParseIntError} 64 10 text (Ok n) → ⊥
no_number text e n a b = a b.0

within_bounds : (rows : List Row) (id : Text) (least greatest number : ℕ) → IsNumber rows id least greatest number
    → (least ≤ number) × (number ≤ greatest)
within_bounds rows id least greatest number (t, found, parses, from, to) = (from, to)

some_is : {m n : ℕ} → Some m ≡ Some n → m ≡ n
some_is e = cc

-- the number in the rows is the one that was read
number_is : (f : Found) (id : Text) (least greatest : ℕ) (read : Option ℕ) (number : ℕ)
    → (one_text f id ≡ None → read ≡ None)
    → ((t : List ℕ) → one_text f id ≡ Some t → ReadsOne Gives t read)
    → IsNumber (rows_of f) id least greatest number → read ≡ Some number
number_is f id least greatest None number none value (t, found, parses, from, to) =
    let v = value t (one_text-rows f id ∙ found) in
    absurd (no_number t v.0 number v.1.0 parses)
number_is f id least greatest (Some m) number none value (t, found, parses, from, to) =
    ap Some (one_number t m number (value t (one_text-rows f id ∙ found)).0 parses)

pub returns-in_default-clause-refused : goal.returns-in_default-clause-refused
returns-in_default-clause-refused c =
    refused_if _ c.refusal_of.result c.refusal_of.ensures (λ number is.
    let read = number_is (found_of c.args.matches.now) c.args.name.now c.args.bounds.least c.args.bounds.greatest
    c.get_one.result number c.get_one.ensures.none c.get_one.ensures.value is in
    let out = within_bounds (rows_of (found_of c.args.matches.now)) c.args.name.now c.args.bounds.least
    c.args.bounds.greatest number is in
    elim c.in_default.branch [
      | in_default-via-in-Some+then-bounds-number+else-number-bounds w ↦
          let same : w.in-Some.number ≡ number = some_is (sym w.in-Some.is ∙ read) in
          omega (arith, same, out.0, out.1, w.if-number-bounds.false)
      | in_default-via-in-Some+else-bounds-number w ↦
          let same : w.in-Some.number ≡ number = some_is (sym w.in-Some.is ∙ read) in
          omega (arith, same, out.0, out.1, w.if-bounds-number.false)
      | in_default-via-in_default w ↦ let e = w.in_default.is in let bad = sym e ∙ read in absurd (cc)
    ])
