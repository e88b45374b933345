-- All parts are compared, and the histories look alike.
use Rattle.std.proofs.Common.{◌≡◌, ◌∙◌, Bool, true, false, sym, true≢false}
use Rattle.tomex_states.proofs.Alike.{alike_by, states_alike}
use Rattle.tomex_states.proofs.state.State.looks_like.Goals as goal
use Rattle.tomex_states.proofs.state.State.looks_like.Goals.{else-are_alike, else-are_latest_alike}
use Rattle.tomex_states.proofs.state.State.looks_like.Goals.{else-are_stations_alike, then-are_alike}
use Rattle.tomex_states.proofs.state.State.looks_like.Goals.{then-are_latest_alike, then-are_stations_alike}

not_both : (b : Bool) → b ≡ true → b ≡ false → ⊥
not_both b is is_not = true≢false (sym is ∙ is_not)

pub returns-then-looks_like-clause-exact : goal.returns-then-looks_like-clause-exact
returns-then-looks_like-clause-exact g c =
    let a = c.args.self.now in
    let b = c.args.other.now in
    let here = c.issue_from-here.ensures.from in
    let there = c.issue_from-there.ensures.from in
    let p = c.access_from.ensures in
    let q = c.access_from-then-looks_like.ensures in
    let registers = c.requires.shows.2.held.latest.count in
    let four = c.requires.shows.2.window.count in
    elim c.if-are_stations_alike.branch [
      | then-are_stations_alike w ↦ elim c.if-are_alike.branch [
        | then-are_alike v ↦ elim c.if-are_latest_alike.branch [
          | then-are_latest_alike u ↦ (
            λ e. alike_by c.args.config.now a b c.issue_from-here.result c.issue_from-there.result
                c.ahead_of-ahead.result c.access_from.result c.access_from-then-looks_like.result here there
                c.ahead_of-ahead.ensures p q registers four
                (c.are_latest_alike.ensures.0 u.if-are_latest_alike.true)
                (u.are_alike.ensures.0 (sym u.value-is ∙ v.if-are_alike.true))
                (v.are_stations_alike.ensures.0 (sym v.value-is ∙ w.if-are_stations_alike.true))
                (w.looks_like.ensures.0 (sym w.value-is ∙ c.if-looks_like.true))
                (c.are_alike-then-looks_like.ensures.0 e),
            λ alike. c.are_alike-then-looks_like.ensures.1 (rw (p, q, four) alike.finishes),
          )
          | else-are_latest_alike u ↦ absurd (not_both _ v.if-are_alike.true (u.value-is ∙ u.if-are_latest_alike.false))
        ]
        | else-are_alike v ↦ absurd (not_both _ w.if-are_stations_alike.true (v.value-is ∙ v.if-are_alike.false))
      ]
      | else-are_stations_alike w ↦ absurd (not_both _ c.if-looks_like.true (w.value-is ∙ w.if-are_stations_alike.false))
    ]

pub returns-then-looks_like-clause-alike : goal.returns-then-looks_like-clause-alike
returns-then-looks_like-clause-alike g c = λ e kept other_kept earlier later of_earlier of_later shows other_shows.
    states_alike c.args.config.now c.args.self.now c.args.other.now c.keeps_limits.ensures
    ((returns-then-looks_like-clause-exact g c).0 e) earlier later of_earlier of_later shows other_shows kept other_kept

pub returns-else-looks_like-clause-exact : goal.returns-else-looks_like-clause-exact
returns-else-looks_like-clause-exact g c =
    let here = c.issue_from-here.ensures.from in
    let there = c.issue_from-there.ensures.from in
    let registers = c.requires.shows.2.held.latest.count in (
      λ e. absurd (not_both _ e c.if-looks_like.false),
      λ alike. elim c.if-are_stations_alike.branch [
        | then-are_stations_alike w ↦
            let yes = w.looks_like.ensures.1 (rw (c.ahead_of-ahead.ensures, here, there) alike.table) in
            absurd (not_both _ yes (sym w.value-is ∙ c.if-looks_like.false))
        | else-are_stations_alike w ↦ elim c.if-are_alike.branch [
          | then-are_alike v ↦
              let yes = v.are_stations_alike.ensures.1 (rw (here, there) alike.stations) in
              absurd (not_both _ yes (sym v.value-is ∙ w.if-are_stations_alike.false))
          | else-are_alike v ↦ elim c.if-are_latest_alike.branch [
            | then-are_latest_alike u ↦
                let yes = u.are_alike.ensures.1 (rw (here, there, registers) alike.ends) in
                absurd (not_both _ yes (sym u.value-is ∙ v.if-are_alike.false))
            | else-are_latest_alike u ↦
                let yes = c.are_latest_alike.ensures.1 (rw (here, there) alike.latest) in
                absurd (not_both _ yes u.if-are_latest_alike.false)
          ]
        ]
      ],
    )
