use Rattle.tomex_rvexec.specs.Memory.{half_written}
use Rattle.tomex_rvexec.proofs.Bytes.{half_is}
use Rattle.tomex_rvexec.proofs.Stores.{bytes_made, none_made}
use Rattle.tomex_rvexec.proofs.memory.Memory.store_half.Goals as goal

pub returns-in-Some-clause-bytes : goal.returns-in-Some-clause-bytes
returns-in-Some-clause-bytes g c =
    let place = rw c.in-Some.is at c.place.ensures.some in
    bytes_made 2 c.args.address c.args.value c.in-Some.place c.args.self.now c.set_half.new.self
    (half_written c.args.self.now.bytes c.in-Some.place c.args.value) c.set_half.ensures
    (half_is c.args.self.now.bytes c.in-Some.place c.args.value) place.1

pub returns-in-None-clause-bytes : goal.returns-in-None-clause-bytes
returns-in-None-clause-bytes g c =
    none_made 2 c.args.address c.args.value c.args.self.now (rw c.in-None.is at c.place.ensures.none)
