-- The same pairs, each turned.
use Rattle.tomex_compare.proofs.Chosen.{itself_is_the_same, turned_counts_change, turned_ratios_are_inverse}
use Rattle.tomex_compare.proofs.Medians.{turned_medians_are_inverse}
use Rattle.tomex_compare.proofs.laws.turned_around_gains_are_losses.Goals as goal

pub returns-clause-counts : goal.returns-clause-counts
returns-clause-counts c = turned_counts_change

pub returns-clause-ratios : goal.returns-clause-ratios
returns-clause-ratios c = turned_ratios_are_inverse

pub returns-clause-medians : goal.returns-clause-medians
returns-clause-medians c = turned_medians_are_inverse

pub returns-clause-same : goal.returns-clause-same
returns-clause-same c = itself_is_the_same
