-- Closed at once: searching by rules first takes long.
use Rattle.std.proofs.Common.{arith}
use Rattle.tomex_symbols.proofs.sections.has_section_headers.Goals as goal

pub returns-else-from-eq-SECTION_HEADER_SIZE : goal.returns-else-from-eq-SECTION_HEADER_SIZE
returns-else-from-eq-SECTION_HEADER_SIZE = grind arith
