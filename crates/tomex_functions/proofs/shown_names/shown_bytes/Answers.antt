-- UTF-8 is shown by characters, all else by bytes.
use Rattle.std.proofs.Common.{◌≡◌, ⊎_elim, sym, subst, Bool, true, false, cond, List, ℕ, IfOk, string_bytes}
use Rattle.std.specs.List.{flat_map}
use Rattle.std.specs.Str.{is_utf8}
use Rattle.std.proofs.lemmas.Bool.{cases_Bool}
use Rattle.std.proofs.lemmas.Str.{IsUtf8-from_is_utf8, is_utf8-from_IsUtf8}
use Rattle.tomex_layout.specs.Names.{shown_name}
use Rattle.tomex_functions.specs.ShownNames.{shown_byte}
use Rattle.tomex_functions.proofs.shown_names.shown_bytes.Goals as goal

pub returns-in-Ok : goal.returns-in-Ok
returns-in-Ok c =
    let bytes = c.args.bytes.now in
    subst
    (λ (b : Bool). IfOk c.shown_name.result (λ text. string_bytes text
    ≡ cond b (shown_name bytes) (flat_map shown_byte bytes)))
    (sym (is_utf8-from_IsUtf8 bytes c.in-Ok.ensures.cases.1))
    (subst (λ (name : List ℕ). IfOk c.shown_name.result (λ text. string_bytes text ≡ shown_name name))
    c.in-Ok.ensures.cases.0 c.shown_name.ensures)

pub returns-in-Err : goal.returns-in-Err
returns-in-Err c =
    let bytes = c.args.bytes.now in
    subst
    (λ (b : Bool). IfOk c.escape.result (λ text. string_bytes text
    ≡ cond b (shown_name bytes) (flat_map shown_byte bytes)))
    (sym (⊎_elim
    (λ (e : is_utf8 bytes ≡ true). absurd (c.in-Err.ensures.cases.0 (IsUtf8-from_is_utf8 bytes e)))
    (λ (e : is_utf8 bytes ≡ false). e) (cases_Bool (is_utf8 bytes))))
    c.escape.ensures
