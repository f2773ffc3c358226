-- The exit code of each status.
use Rattle.std.specs.Prelude.{ℕ}
use Rattle.sync_types.specs.declared.status.Status.{Status}
use Rattle.sync_types.specs.declared.status.Status.TheVariants as status

abbrev pub code_of : Status → ℕ
code_of status.Ok = 0
code_of (status.PlanRefused line premise) = 1
code_of status.Usage = 2
code_of (status.PartRefused part line rule) = 3
code_of (status.CertRefused line) = 4
code_of (status.TableRefused line cause) = 4
code_of (status.CertFalse row) = 5
code_of status.ReadFault = 6
code_of status.WriteFault = 7
code_of status.TooLong = 8
code_of (status.Cut packet sender) = 9
code_of status.NoMemory = 10
