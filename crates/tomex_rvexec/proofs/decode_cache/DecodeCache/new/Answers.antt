-- Each line of a new cache is empty.
use Rattle.std.proofs.Common.{None}
use Rattle.std.proofs.lemmas.List.Elements.{All-replicate}
use Rattle.tomex_rvexec.specs.Fetch.{IsLine}
use Rattle.tomex_rvexec.proofs.decode_cache.DecodeCache.new.Goals as goal

pub returns : goal.returns
returns c i = All-replicate (IsLine i) 1024 None tt
