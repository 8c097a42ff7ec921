-- The exit status of each way in which a run ends.
use Rattle.std.specs.Prelude.{ℕ}
use Rattle.qp_answers.specs.declared.status.Status.{Status}
use Rattle.qp_answers.specs.declared.status.Status.TheVariants as status

abbrev pub code_of : Status → ℕ
code_of status.Done = 0
code_of status.FileRefused = 1
code_of status.Usage = 2
code_of status.Withheld = 3
code_of status.ReadFault = 4
code_of status.WriteFault = 5
code_of status.Memory = 6
code_of status.Rejected = 7
