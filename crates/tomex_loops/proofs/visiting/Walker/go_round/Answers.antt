-- The innermost visit goes on with its next iteration.
use Rattle.std.proofs.lemmas.Grind.{common_steps}
use Rattle.std.proofs.Common.{◌≡◌, ◌+◌, ◌-◌, arith, length, refl}
use Rattle.tomex_loops.proofs.WalkSteps.{go_round_shows}
use Rattle.tomex_loops.proofs.visiting.Walker.go_round.Goals as goal

pub returns-clause-shows : goal.returns-clause-shows
returns-clause-shows g c = λ w v around is_now here shows.
    let n : c.len-last.result - 1 + 1 ≡ length c.args.self.now.under_way.items = omega (arith, c.requires.some) in
    go_round_shows w c.args.self.now _ v c.index-innermost.result.now around c.args.now (c.len-last.result - 1)
    c.requires.state shows is_now here c.requires.some n c.index-innermost.ensures refl refl refl refl refl
    c.in_ok-push.ensures.items

pub returns-clause-state : goal.returns-clause-state
returns-clause-state = grind (arith, common_steps)
