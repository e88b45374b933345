use Rattle.std.proofs.Common.{refl}
use Rattle.tomex_rvdec.specs.declared.pool.UnitId.TheVariants as units
use Rattle.tomex_tags.proofs.Serving.{are_served}
use Rattle.tomex_tags.proofs.places.places_served_by.Goals as goal

pub returns-in-Alu : goal.returns-in-Alu
returns-in-Alu c = rw c.in-Alu.is (are_served 65535 units.Alu refl)

pub returns-in-Mul : goal.returns-in-Mul
returns-in-Mul c = rw c.in-Mul.is (are_served 4294901760 units.Mul refl)

pub returns-in-Div : goal.returns-in-Div
returns-in-Div c = rw c.in-Div.is (are_served 281470681743360 units.Div refl)

pub returns-in-Mem : goal.returns-in-Mem
returns-in-Mem c = rw c.in-Mem.is (are_served 1208925819333154197995520 units.Mem refl)

pub returns-in-Bru : goal.returns-in-Bru
returns-in-Bru c = rw c.in-Bru.is (are_served 79226953588444722964369244160 units.Bru refl)
