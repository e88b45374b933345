-- One dash more.
use Rattle.std.proofs.Common.{◌≡◌, ◌∙◌, ap, append_assoc, arith, sym, ℕ, ◌+◌, ◌<◌, List, [], ◌∷◌, ◌++◌, codes, length}
use Rattle.std.proofs.Common.{map, take}
use Rattle.std.proofs.lemmas.List.{map-append, take_more}
use Rattle.csv.specs.Records.{fields_of}
use Rattle.tomex_run_views.specs.ByPlace.{dashes}
use Rattle.tomex_run_views.proofs.places.push_dashes.Goals as goal

-- of one name more
one_dash : {X : Type 0} (f : X → List ℕ) (xs : List X) (i : ℕ) → i < length xs
    → dashes (map f (take (i + 1) xs)) ≡ dashes (map f (take i xs)) ++ codes "-" ∷ []
one_dash f [] i within = absurd (omega (arith, within))
one_dash f (x ∷ xs) i within =
    rw (take_more (x ∷ xs) i x within, map-append f (take i (x ∷ xs)))
    (map-append (λ name. codes "-") (map f (take i (x ∷ xs))) _)

pub loop-name-preserved : goal.loop-name-preserved
loop-name-preserved c =
    let start : List (List ℕ) = fields_of c.args.fields.now in
    let one : List (List ℕ) = codes "-" ∷ [] in
    let added : fields_of c.push_field.new.self ≡ fields_of c.loop-name.fields ++ one =
    rw c.loop-name.invariant.whole at c.in_ok-push_field.ensures.fields in
    record {
      fields = added ∙ (ap (λ (fs : List (List ℕ)). fs ++ one) c.loop-name.invariant.fields
          ∙ (append_assoc start _ one ∙ ap (λ (fs : List (List ℕ)). start ++ fs)
          (sym (one_dash (λ n. n.now) c.args.names.now c.loop-name._name-index c.loop-name-test.true))));
      whole = c.in_ok-push_field.ensures.partial;
    }
