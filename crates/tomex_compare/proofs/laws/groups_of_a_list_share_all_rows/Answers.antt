-- Each row shows one entry of a list.
use Rattle.tomex_compare.proofs.Ends.{counts_are_all}
use Rattle.tomex_compare.proofs.Sharing.{best_is_met, counts_add_up, worst_is_met}
use Rattle.tomex_compare.proofs.laws.groups_of_a_list_share_all_rows.Goals as goal

pub returns-clause-once : goal.returns-clause-once
returns-clause-once c = counts_are_all

pub returns-clause-counts : goal.returns-clause-counts
returns-clause-counts c = counts_add_up

pub returns-clause-best : goal.returns-clause-best
returns-clause-best c = best_is_met

pub returns-clause-worst : goal.returns-clause-worst
returns-clause-worst c = worst_is_met
