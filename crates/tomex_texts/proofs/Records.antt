-- The front report's records, from the fields that are pushed.
use Rattle.std.proofs.Common.{◌≡◌, ℕ, Bool, zero, suc, ◌+◌, ◌<◌, List, [], ◌∷◌, ◌++◌, length, get_or, take, Some, refl}
use Rattle.std.proofs.Common.{sym, ap, ◌∙◌, subst, arith}
use Rattle.std.specs.Prelude.{slice_get, slice_index_or}
use Rattle.std.specs.List.{AllZip, flat_map}
use Rattle.std.specs.Fmt.{decimal}
use Rattle.std.proofs.lemmas.Option.{get_or_from_slice_get, slice_get_within}
use Rattle.std.proofs.lemmas.List.{take_more}
use Rattle.std.proofs.lemmas.Slice.Zip.{all_zipped_more}
use Rattle.tomex_image.specs.Image.{IsLoaded}
use Rattle.tomex_rvexec.proofs.FlowEnds.{ends_within_more}
use Rattle.tomex_config.specs.Configuration.{Configuration, plain}
use Rattle.tomex_study.specs.Program.{IsProgram, Workload}
use Rattle.tomex_study.specs.Study.{DesignSpace}
use Rattle.tomex_study.specs.Watch.{watched_bytes}
use Rattle.tomex_pareto.specs.declared.front_row.FrontRow.{FrontRow}
use Rattle.tomex_layout.proofs.Pieces.{IsGrown}
use Rattle.tomex_texts.specs.declared.ends.ProgramEnd.{ProgramEnd}
use Rattle.tomex_texts.specs.Ends.{IsProgramEnd, last_state}
use Rattle.tomex_texts.specs.FrontReport.{end_fields, if_wide, program_fields, program_record, records_of, row_fields}
use Rattle.tomex_texts.specs.FrontReport.{watch_texts}
use Rattle.tomex_texts.proofs.Ended.{filled}
use Rattle.tomex_texts.proofs.Watched.{bytes_long, texts_are}

-- the watched bytes of an end
pub watched_long : {A : Type 0} (config : Configuration) (p : Workload) (e : ProgramEnd A) → IsProgram p
    → IsLoaded p.image.window p.image.memory p.image.entry → IsProgramEnd config p e
    → length e.watched.items ≡ watched_bytes p.watch
watched_long config p e program loaded is =
    let fills = filled p.image loaded (ends_within_more p.image p.limit 262144 program.few_steps program.ends) in
    ap (λ (bytes : List ℕ). length bytes) is.watched ∙ bytes_long p.image.window (last_state p.image).memory p.watch
    fills program.watch.inside

fields_are : {A : Type 0} (wide : Bool) (config : Configuration) (p : Workload) (e : ProgramEnd A) → IsProgram p
    → IsLoaded p.image.window p.image.memory p.image.entry → IsProgramEnd config p e
    → p.name ∷ (if_wide wide (decimal p.weight) ++ end_fields p.watch e) ≡ program_fields wide config p
unfolding program_fields
fields_are wide config p e program loaded is =
    let fills = filled p.image loaded (ends_within_more p.image p.limit 262144 program.few_steps program.ends) in
    let texts = ap (λ (bytes : List ℕ). watch_texts p.watch bytes) is.watched
    ∙ texts_are p.image.window (last_state p.image).memory p.watch fills program.watch.inside in
    rw (is.steps, is.total, is.kind, is.regs, texts) refl

-- the fields of a row, and then those of a program and its end
pub record_is : {A : Type 0} (wide : Bool) {config : Configuration} {p : Workload} {e : ProgramEnd A} (r : FrontRow)
    {none all : List (List ℕ)} → IsProgram p → IsLoaded p.image.window p.image.memory p.image.entry
    → IsProgramEnd config p e → none ≡ []
    → IsGrown none (row_fields wide r config)
    ((p.name ∷ []) ∷ if_wide wide (decimal p.weight) ∷ end_fields p.watch e ∷ []) all
    → all ≡ row_fields wide r config ++ program_fields wide config p
record_is wide {config = config} {p = p} {e = e} r program loaded is empty grown =
    grown.is
    ∙ (ap (λ (x : List (List ℕ)). x ++ (row_fields wide r config
    ++ (p.name ∷ (if_wide wide (decimal p.weight) ++ end_fields p.watch e)))) empty
    ∙ ap (λ (x : List (List ℕ)). row_fields wide r config ++ x) (fields_are wide config p e program loaded is))

-- a fact that holds place by place holds for the items that are read at a place
pub at_read : {A B : Type 0} (Q : A → B → Type 0) (xs : List A) (ys : List B) (k : ℕ) (d : A) (y : B) → AllZip Q xs ys
    → k < length xs → y ≡ get_or ys k y → Q (get_or xs k d) y
at_read Q [] ys k d y h less f = absurd (omega (arith, less))
at_read Q (a ∷ xs) [] k d y h less f = absurd h
at_read Q (a ∷ xs) (b ∷ ys) zero d y h less f = subst (λ z. Q a z) (sym f) h.0
at_read Q (a ∷ xs) (b ∷ ys) (suc k) d y h less f = at_read Q xs ys k d y h.1 (omega (arith, less)) f

-- a fact that holds place by place for the first ones, and for one more
pub one_more : {A B : Type 0} (Q : A → B → Type 0) (xs : List A) (ys zs : List B) (k : ℕ) (x : A) (y : B)
    → AllZip Q (take k xs) ys → k < length xs → x ≡ get_or xs k x → Q x y → zs ≡ ys ++ y ∷ []
    → AllZip Q (take (k + 1) xs) zs
one_more Q xs ys zs k x y h less e q f =
    let t : take (k + 1) xs ≡ take k xs ++ x ∷ [] = take_more xs k x less ∙ ap (λ z. take k xs ++ z ∷ []) (sym e) in
    rw (t, f) (all_zipped_more Q (take k xs) ys x y h q)

pub same_config : (rows mine : List Configuration) (k : ℕ) (config got : Configuration) → slice_get rows k ≡ Some config
    → mine ≡ rows → got ≡ get_or mine k got → got ≡ config
same_config rows mine k config got at e read =
    read ∙ (ap (λ (rs : List Configuration). get_or rs k got) e ∙ get_or_from_slice_get rows k config got at)

pub config_within : (rows mine : List Configuration) (k : ℕ) (config : Configuration) → slice_get rows k ≡ Some config
    → mine ≡ rows → k < length mine
config_within rows mine k config at e = rw e (slice_get_within rows k config at)

pub records_are : (s : DesignSpace) (r : FrontRow) (config got : Configuration) (programs : List Workload)
    → slice_get s.rows r.row ≡ Some config → got ≡ config → programs ≡ s.programs
    → flat_map (program_record s.wide r got) programs ≡ records_of s r
records_are s r config got programs at same e =
    let there : slice_index_or s.rows r.row plain ≡ config = get_or_from_slice_get s.rows r.row config plain at in
    rw (same, e, there) refl
