-- The configuration was asked with this number.
use Rattle.std.proofs.Common.{◌≡◌, ◌∙◌, ◌++◌, ◌∷◌, [], ap, cond, length, sym, Bool, List, None, Option, Some}
use Rattle.std.specs.Prelude.{max}
use Rattle.std.proofs.lemmas.List.{append-nil}
use Rattle.tomex_config.specs.Configuration.{Configuration}
use Rattle.tomex_config.specs.declared.part.Part.{Part}
use Rattle.tomex_config.specs.Parts.{part_at}
use Rattle.tomex_config.proofs.Within.{count_within}
use Rattle.tomex_choices.specs.NewMachines.{grown, machine_if, machine_of}
use Rattle.tomex_choices.specs.declared.new_machine.NewMachine.{NewMachine}
use Rattle.tomex_choices.proofs.Asked.{change_asked, grown_totals, many_totals, none_of}
use Rattle.tomex_choices.proofs.asking.ask_number.Goals as goal

pub differ-changes-requires : goal.differ-changes-requires
differ-changes-requires g c =
    ap length c.requires.totals ∙ many_totals c.args.study.now.programs _
    ∙ sym (ap length c.requires.most ∙ many_totals c.args.study.now.programs _)

pub new_machine-requires : goal.new_machine-requires
new_machine-requires g c =
    let programs = c.args.study.now.programs in
    let part = part_at c.args.entries.now.place in
    let config = c.args.config.now in
    c.requires.totals
    ∙ sym (grown_totals c.args.entries.now.rows programs part config c.in-Some.grown c.args.number
    c.keeps_limits.ensures.kinds (count_within config part c.args.number c.keeps_limits.ensures c.requires.number)
    c.keeps_limits-in-Some.ensures (sym c.grown.ensures ∙ c.in-Some.is))

pub returns-in_ok-push : goal.returns-in_ok-push
returns-in_ok-push g c =
    let s = c.args.study.now in
    let part = part_at c.args.entries.now.place in
    let config = c.args.config.now in
    let number = c.args.number in
    let old = c.args.found.now in
    let is : grown s.rows part config number ≡ Some c.in-Some.grown =
    ap (λ (rs : List Configuration). grown rs part config number) (sym c.requires.rows)
    ∙ (sym c.grown.ensures ∙ c.in-Some.is) in
    record {
      asked = record {
        machines = c.in_ok-push.ensures.items
            ∙ (ap (λ (x : NewMachine). old.machines.items ++ x ∷ [])
            (c.new_machine.ensures ∙ ap (λ (p : Part). machine_of s p number c.in-Some.grown) c.part-part.ensures)
            ∙ ap (λ (o : Option Configuration). old.machines.items ++ machine_if s part number o) (sym is));
        change = c.last_change-found.ensures
            ∙ ap (λ (b : Bool). cond b (max old.last_change number) old.last_change)
            (c.differ-changes.ensures
            ∙ change_asked s.programs part config number c.args.totals.now c.args.most.now c.requires.totals
            c.requires.most);
      };
    }

pub returns-in_default : goal.returns-in_default
returns-in_default g c =
    let s = c.args.study.now in
    let part = part_at c.args.entries.now.place in
    let config = c.args.config.now in
    let number = c.args.number in
    let old = c.args.found.now in
    let is : grown s.rows part config number ≡ None =
    ap (λ (rs : List Configuration). grown rs part config number) (sym c.requires.rows)
    ∙ (sym c.grown.ensures ∙ none_of c.grown.result c.in_default.not-Some) in
    record {
      asked = record {
        machines = sym (append-nil old.machines.items)
            ∙ ap (λ (o : Option Configuration). old.machines.items ++ machine_if s part number o) (sym is);
        change = c.last_change-found.ensures
            ∙ ap (λ (b : Bool). cond b (max old.last_change number) old.last_change)
            (c.differ-changes.ensures
            ∙ change_asked s.programs part config number c.args.totals.now c.args.most.now c.requires.totals
            c.requires.most);
      };
    }
