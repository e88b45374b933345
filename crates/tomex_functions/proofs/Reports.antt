-- The text of what was kept is the report.
use Rattle.std.proofs.Common.{◌≡◌, ◌∙◌, refl, subst, ap, ap₂, ℕ, List, [], ◌∷◌, ◌++◌, Option, Some, None, codes}
use Rattle.std.proofs.Common.{map, Ok, Err, Vec}
use Rattle.std.specs.Prelude.{All, IfOk, IsPermutation, Result, string_bytes}
use Rattle.std.specs.BTreeMap.{IsOrdered}
use Rattle.std.specs.List.{flat_map}
use Rattle.std.specs.String.{string_cmp}
use Rattle.std.proofs.lemmas.List.Elements.{All-head, All-tail}
use Rattle.tomex_config.specs.Configuration.{Configuration}
use Rattle.tomex_timing.specs.Needs.{drain}
use Rattle.tomex_symbols.specs.Symbols.{symbols_of}
use Rattle.tomex_layout.specs.Csv.{record_text}
use Rattle.tomex_run_views.specs.declared.tally.Sum.{Sum}
use Rattle.tomex_functions.specs.Kept.{IsListing}
use Rattle.tomex_functions.specs.declared.rows.Listing.{Listing}
use Rattle.tomex_functions.specs.declared.named.Named.{Named}
use Rattle.tomex_functions.specs.declared.named.NamedChange.{NamedChange}
use Rattle.tomex_functions.specs.declared.shares.Change.{Change}
use Rattle.tomex_functions.specs.declared.shares.Share.{Share}
use Rattle.tomex_functions.specs.Changes.{Build, IsFunctionChanges, IsReport, both_of, change_fields}
use Rattle.tomex_functions.specs.Changes.{cycles_share}
use Rattle.tomex_functions.specs.Changes.{drain_share, header, nameless_record, total_share}
use Rattle.tomex_functions.specs.ChangesKept.{AreInOrder, IsNamed, listing_share, named_change, report_of}
use Rattle.tomex_functions.specs.Shares.{Both, change_named}
use Rattle.tomex_functions.proofs.Names.{are_names, changes_are, shown}

-- the records of what was kept are those of the names
records_are : (both : Both) (changes : List NamedChange)
    → All (λ c. c.change ≡ change_named both (Some (string_bytes c.name))) changes
    → flat_map (λ c. record_text (change_fields (string_bytes c.name) c.change)) changes
    ≡ flat_map (λ name. record_text (change_fields name (change_named both (Some name)))) (map shown changes)
records_are both [] all = refl
records_are both (c ∷ changes) all =
    let P : NamedChange → Type 0 = λ c. c.change ≡ change_named both (Some (string_bytes c.name)) in
    ap₂ (λ (a b : List ℕ). a ++ b)
    (ap (λ (x : Change). record_text (change_fields (string_bytes c.name) x)) (All-head P c changes all))
    (records_are both changes (All-tail P c changes all))

pub report_is : (both : Both) (named : Named) (changes : List NamedChange) (drain total : Change) (text : List ℕ)
    → IsOrdered string_cmp named.by_name → IsPermutation (map named_change named.by_name.entries) changes
    → AreInOrder changes → text ≡ report_of changes named.nameless drain total → IsNamed both named
    → IsReport both drain total text
report_is both named changes drain total text ordered moved order written is =
    let records = records_are both changes (changes_are both named is ordered changes moved) in (
      map shown changes,
      are_names both named is ordered changes moved order,
      written
          ∙ ap₂ (λ (a : List ℕ) (o : Option Change). record_text header ++ (a ++ (nameless_record o
          ++ (record_text (change_fields (codes "drain") drain) ++ record_text (change_fields (codes "total") total)))))
          records (is.changes None),
    )

-- the sums of a listing are the run's
drain_is : {A : Type 0} (config : Configuration) (b : Build) (listing : Listing A)
    → IsListing (symbols_of b.file) config b.steps listing
    → cycles_share listing.drain.cycles ≡ drain_share config b
drain_is config b listing is = ap (λ (sum : Sum). cycles_share sum.cycles) is.last

total_is : {A : Type 0} (config : Configuration) (b : Build) (listing : Listing A)
    → IsListing (symbols_of b.file) config b.steps listing
    → listing_share listing ≡ total_share config b
total_is config b listing is =
    ap₂ (λ (n : ℕ) (sum : Sum). record { calls = n; steps = sum.steps; cycles = sum.cycles }) is.calls is.all

abbrev pub change_of : Share → Share → Change
change_of old new = record { old = old; new = new }

pub function_changes_are : {A B : Type 0} (config : Configuration) (old new : Build) (first : Listing A)
    (second : Listing B) (drain total : Change) (text : List ℕ) → IsListing (symbols_of old.file) config old.steps first
    → IsListing (symbols_of new.file) config new.steps second
    → drain ≡ record { old = cycles_share first.drain.cycles; new = cycles_share second.drain.cycles }
    → total ≡ record { old = listing_share first; new = listing_share second }
    → IsReport (both_of old.file first.rows.items new.file second.rows.items) drain total text
    → IsFunctionChanges config old new text
function_changes_are config old new first second drain total text is_first is_second drained all report = record {
  old_rows = first.rows.items;
  new_rows = second.rows.items;
  of_old = is_first.rows;
  of_new = is_second.rows;
  report =
      subst (λ (t : Change). IsReport (both_of old.file first.rows.items new.file second.rows.items)
      (record { old = drain_share config old; new = drain_share config new }) t text)
      (all ∙ ap₂ change_of (total_is config old first is_first) (total_is config new second is_second))
      (subst (λ (d : Change). IsReport (both_of old.file first.rows.items new.file second.rows.items) d total text)
      (drained ∙ ap₂ change_of (drain_is config old first is_first) (drain_is config new second is_second)) report);
}

-- so is a text that there may be
pub report_if_made : {A E : Type 0} (named : Named) (held changes : List NamedChange) (drain total : Change)
    (r : Result (Vec ℕ A) E) → IsOrdered string_cmp named.by_name
    → IsPermutation (map named_change named.by_name.entries) changes → AreInOrder changes → held ≡ changes
    → IfOk r (λ text. text.items ≡ report_of held named.nameless drain total)
    → IfOk r (λ text. (both : Both) → IsNamed both named → IsReport both drain total text.items)
report_if_made named held changes drain total (Ok text) ordered moved order same written =
    λ both is. report_is both named changes drain total text.items ordered moved order
    (written ∙ ap (λ (cs : List NamedChange). report_of cs named.nameless drain total) same) is
report_if_made named held changes drain total (Err e) ordered moved order same written = tt
