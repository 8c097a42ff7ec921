-- How a run ends, and what it writes.
use Rattle.std.specs.Prelude.{ℕ, List, ⊤}
use Rattle.qp_answers.specs.declared.status.Status.{Status}
use Rattle.qp_answers.specs.declared.status.Status.TheVariants as status

pub record Said : Type 0 where
  pub status : Status
  pub text : List ℕ

abbrev pub said : Status → List ℕ → Said
said s text = record { status = s; text = text }

-- a status that comes with a text of its own
abbrev pub HasText : Status → Type 0
HasText status.ReadFault = ⊥
HasText status.WriteFault = ⊥
HasText status.Memory = ⊥
HasText status.Done = ⊤
HasText status.FileRefused = ⊤
HasText status.Usage = ⊤
HasText status.Withheld = ⊤
HasText status.Rejected = ⊤
