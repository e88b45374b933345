-- The two walks are over all parts and all kinds of units.
use Rattle.std.proofs.Common.{rules, ◌≡◌, refl, tests}
use Rattle.std.specs.List.{list_all}
use Rattle.std.proofs.lemmas.Iterator.{YieldsList-from_slice}
use Rattle.std.proofs.lemmas.Iterator.Search.{all_from_yields_List}
use Rattle.tomex_timing.specs.Needs.{allows, allows_latency}
use Rattle.tomex_config.specs.Parts.{all_parts}
use Rattle.tomex_config.specs.Cost.{all_units}
use Rattle.tomex_timing.proofs.needs.Needs.suffice.Goals as goal

pub returns-then-all : goal.returns-then-all
returns-then-all c =
    let parts : c.all.result ≡ list_all (allows c.args.self.now c.args.own.now c.args.other.now) all_parts =
    all_from_yields_List (allows c.args.self.now c.args.own.now c.args.other.now) _ _ c.all.result c.all.ensures.ran
    (YieldsList-from_slice all_parts cc) (λ x b q k. search (rules, tests)) in
    let units : c.all-then-all.result ≡ list_all (allows_latency c.args.self.now c.args.own.now c.args.other.now)
    all_units = all_from_yields_List (allows_latency c.args.self.now c.args.own.now c.args.other.now) _ _
    c.all-then-all.result c.all-then-all.ensures.ran (YieldsList-from_slice all_units cc)
    (λ x b q k. search (rules, tests)) in
    rw (← parts, c.if-all.true) units

pub returns-else-all : goal.returns-else-all
returns-else-all c =
    let parts : c.all.result ≡ list_all (allows c.args.self.now c.args.own.now c.args.other.now) all_parts =
    all_from_yields_List (allows c.args.self.now c.args.own.now c.args.other.now) _ _ c.all.result c.all.ensures.ran
    (YieldsList-from_slice all_parts cc) (λ x b q k. search (rules, tests)) in
    rw (← parts, c.if-all.false) refl
