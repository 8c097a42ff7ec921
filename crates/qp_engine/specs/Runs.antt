-- What a run did, as against what was due.
use Rattle.std.specs.Prelude.{◌≡◌, ◌≢◌, ◌⊎◌, ℕ, List, Option, IsSomeAnd, Ok, IsOkAnd, ⊤, drop, map, string_bytes, String}
use Rattle.std.specs.Io.KnownBytes.{Appends, Keeps}
use Rattle.program_law.specs.Program.{Program}
use Rattle.program_law.specs.Verdict.{IsTrueOf}
use Rattle.certificate_law.specs.declared.Certificate.{Certificate}
use Rattle.certificate_law.specs.Good.{IsGood, verdict_of}
use Rattle.mps_grammar.specs.Reading.{Spot, read_of, rest_of}
use Rattle.cert_grammar.specs.Text.{certificate_text}
use Rattle.cert_text_law.specs.Reading as reading
use Rattle.qp_streams.specs.Streams.{TakesFront}
use Rattle.qp_answers.specs.Said.{Said}
use Rattle.qp_engine.specs.Sampling.{HasSampled}
use Rattle.qp_words.specs.Orders.{order_of}
use Rattle.qp_words.specs.declared.order.Order.{Order}
use Rattle.qp_words.specs.declared.order.Task.{Task}
use Rattle.qp_words.specs.declared.order.Task.TheVariants.{Check, Write, Solve, Sample}
use Rattle.qp_answers.specs.declared.status.Status.{Status}
use Rattle.qp_answers.specs.declared.status.Status.TheVariants as status

-- ---- words

-- what the words order, where they are taken
abbrev pub ordered_by : {A : Type 0} → List (String A) → Option Order
ordered_by words = order_of (map string_bytes words)

-- a task that reads the source
abbrev pub IsReading : Order → Type 0
IsReading order = order.task ≢ Sample

-- ---- output

-- the status of a verdict, or of one that is withheld
abbrev pub IsVerdict : Status → Type 0
IsVerdict s = (s ≡ status.Done) ⊎ (s ≡ status.Withheld)

-- The run ended with the status that was due, and the sink took exactly the text. Or the reading failed, and nothing was
-- taken. Or the writing failed or memory ran out, and the sink took a front of the text.
abbrev pub Meets : Said → Status → Option (List ℕ) → Option (List ℕ) → Type 0
Meets due status.ReadFault old new = Keeps old new
Meets due status.WriteFault old new = TakesFront old new due.text
Meets due status.Memory old new = TakesFront old new due.text
Meets due status.Done old new = (due.status ≡ status.Done) × Appends old new due.text
Meets due status.FileRefused old new = (due.status ≡ status.FileRefused) × Appends old new due.text
Meets due status.Usage old new = (due.status ≡ status.Usage) × Appends old new due.text
Meets due status.Withheld old new = (due.status ≡ status.Withheld) × Appends old new due.text
Meets due status.Rejected old new = (due.status ≡ status.Rejected) × Appends old new due.text

-- a status that may come before the first byte is written
abbrev pub IsBeforeText : Status → Type 0
IsBeforeText s = (s ≡ status.Memory) ⊎ (s ≡ status.ReadFault)

-- The run stopped before its first byte, and nothing was taken; or it met an answer that is due.
abbrev pub MeetsDue : (Said → Type 0) → Status → Option (List ℕ) → Option (List ℕ) → Type 0
MeetsDue IsDue s old new = (IsBeforeText s × Keeps old new) ⊎ ((due : Said) × IsDue due × Meets due s old new)

-- ---- what a verdict that was printed says

-- Behind a program, from this place on, stands a certificate whose verdict is true of all points of the program.
pub record IsVerified (p : Program) (input : List ℕ) (from : Spot) : Type 0 where
  pub certificate : Certificate
  pub reads : reading.read_of p from.1 (drop from.0 input) ≡ Ok certificate
  pub good : IsGood p certificate
  pub holds : IsTrueOf p (verdict_of certificate)

abbrev pub HasVerified : Program → List ℕ → Option Spot → Type 0
HasVerified p input from = IsSomeAnd from (IsVerified p input)

-- The text is that of a certificate whose verdict is true of all points of the program.
pub record HasSolved (p : Program) (text : List ℕ) : Type 0 where
  pub certificate : Certificate
  pub prints : text ≡ certificate_text p certificate
  pub good : IsGood p certificate
  pub holds : IsTrueOf p (verdict_of certificate)

abbrev pub SettlesProgram : Task → List ℕ → List ℕ → Program → Spot → Type 0
SettlesProgram Check input text p behind = HasVerified p input (rest_of input behind)
SettlesProgram Write input text p behind = ⊤
SettlesProgram Solve input text p behind = HasSolved p text
SettlesProgram Sample input text p behind = ⊥

-- What Done says of an input and of the text that was written: the input is a program, and for `check` a certificate follows whose verdict is
-- true of it; for `solve` the text is that of such a certificate.
abbrev pub Settles : Task → List ℕ → List ℕ → Type 0
Settles task input text = IsOkAnd (read_of input) (λ r. SettlesProgram task input text r.0 r.1)

-- what was written settles the input
abbrev pub HasSettled : Task → List ℕ → Option (List ℕ) → Option (List ℕ) → Type 0
HasSettled task input old new = (text : List ℕ) × Appends old new text × Settles task input text

-- what was written tells the least value of the sample
abbrev pub HasShown : Order → Option (List ℕ) → Option (List ℕ) → Type 0
HasShown order old new = (text : List ℕ) × Appends old new text × HasSampled order text
