-- A header's first and last characters.
use Rattle.std.proofs.lemmas.Bool.Decides.{Decides-eqb}
use Rattle.std.proofs.lemmas.Slice.Eq.{strip_prefix_is, strip_suffix_is}
use Rattle.std.proofs.Common.{Some, codes}
use Rattle.tomex_archives.proofs.Joins.{line-joins}
use Rattle.tomex_archives.proofs.archive.header_name.Goals as goal

pub returns-else-is_empty : goal.returns-else-is_empty
returns-else-is_empty c =
    let line = c.args.line.now in
    let rest = c.in_ok-rest.rest in
    let name = c.in_ok-name.name in
    line-joins line rest.now name.now (codes "-- ") (codes " --\n")
    (strip_prefix_is Decides-eqb line (codes "-- ") (Some rest) c.in_ok-rest.ensures.cases)
    (strip_suffix_is Decides-eqb rest.now (codes " --\n") (Some name) c.in_ok-name.ensures.cases)
