-- What `retain` keeps is what passes.
use Rattle.std.proofs.Common.{rules, ◌≡◌, nat_le}
use Rattle.std.specs.List.{filter}
use Rattle.std.proofs.lemmas.Fn.{filter_same}
use Rattle.tomex_timing.proofs.recent.keep_access.Goals as goal

pub returns-in_ok-push : goal.returns-in_ok-push
returns-in_ok-push g c =
    let kept : c.retain.new.self.items ≡ filter (λ a. nat_le c.args.at.now.issue a.finish) c.args.accesses.now.items =
    filter_same _ _ _ (λ x b f' k. search rules) _ _ c.retain.ensures.filtered in
    rw (c.in-Some.is, c.in_ok-push.ensures.items, kept)
