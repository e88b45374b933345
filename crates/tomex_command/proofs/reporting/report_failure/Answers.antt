-- The line is the failure's; if there was no memory for it, out of memory is reported.
use Rattle.std.proofs.Common.{◌≡◌, ℕ, codes, string_bytes, IfOk, inl, inr, Result, Ok, Err}
use Rattle.std.specs.Prelude.{OnErr, String}
use Rattle.std.specs.Global.{Global}
use Rattle.std.specs.declared.alloc.AllocError.{AllocError}
use Rattle.tomex_streams.specs.Sinks.{IsWritten, Seen}
use Rattle.tomex_command.specs.Statuses.{status_of_failure}
use Rattle.tomex_command.specs.Reporting.{IsFailureReported, IsLineOf, line_of}
use Rattle.tomex_command.specs.declared.failure.Failure.{Failure}
use Rattle.tomex_command.proofs.reporting.report_failure.Goals as goal

reported : (failure : Failure) (line : Result (String Global) AllocError) (status : ℕ) (old new : Seen)
    → IfOk line (λ l. IsLineOf failure (string_bytes l))
    → IfOk line (λ l. (status ≡ status_of_failure failure) × IsWritten (string_bytes l) old new)
    → OnErr line ((status ≡ 3) × IsWritten (line_of (codes "out of memory")) old new)
    → IsFailureReported failure status old new
reported failure (Ok line) status old new is_line written unmade =
    inl (written.0, (string_bytes line, is_line, written.1))
reported failure (Err _) status old new is_line written unmade = inr unmade

pub returns : goal.returns
returns g c = reported c.args.failure.now c.line_of.result c.report_line.result _ _ c.line_of.ensures
    c.report_line.ensures.line c.report_line.ensures.no_line
