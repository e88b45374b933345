-- What is said of rows that a list has, said of those at its places.
use Rattle.tomex_pareto.specs.Front.{front_of}
use Rattle.tomex_pareto.specs.Pareto.{ComesBefore}
use Rattle.tomex_pareto.proofs.Pareto.{among, apart, front_is, has_contains, only_front, pairs_rise, rises_pairs}
use Rattle.tomex_pareto.proofs.laws.front_is_the_undominated_rows.Goals as goal

pub returns-clause-is : goal.returns-clause-is
returns-clause-is c rows numbered =
    let it = front_is rows (apart rows numbered) in
    record {
      order = rises_pairs ComesBefore (front_of rows) it.rises;
      only = λ r c. let w = it.only r (among (front_of rows) r c) in
          record { one = has_contains rows r w.0; free = λ q h b. w.1 q (among rows q h) b };
      all = λ r u. has_contains (front_of rows) r
          (it.all r (among rows r u.one) (λ q h b. u.free q (has_contains rows q h) b));
    }

pub returns-clause-only : goal.returns-clause-only
returns-clause-only c rows front numbered is =
    only_front rows front (apart rows numbered) (record {
      rises = pairs_rise ComesBefore front is.order;
      only = λ r h. let w = is.only r (has_contains front r h) in
          (among rows r w.one, λ q i b. w.free q (has_contains rows q i) b);
      all = λ r h f. among front r (is.all r
          (record { one = has_contains rows r h; free = λ q c b. f q (among rows q c) b }));
    })
