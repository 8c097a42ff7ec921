-- Counts of faults, and what an answer owes to them.
use Rattle.std.specs.Prelude.{◌≡◌, ℕ, ◌+◌, ◌-◌, ◌^◌, ◌≤◌, ◌<◌, min, List, length, Result, IfOk, OnOk, OnErr, IsErrOf}
use Rattle.qp_io.specs.declared.fault.SinkStop.{SinkStop}
use Rattle.qp_io.specs.declared.fault.SinkStop.TheVariants as stops

-- The count is greater than before, or it stands at the largest number that is counted.
abbrev pub Rose : ℕ → ℕ → Type 0
Rose before now = min (before + 1) (2 ^ 64 - 1) ≤ now

-- The count never falls, an error comes only where it rose, and every other answer leaves it as it stood.
pub record HasCause {T E : Type 0} (before now : ℕ) (result : Result T E) : Type 0 where
  pub later : before ≤ now
  pub failed : OnErr result (Rose before now)
  pub kept : OnOk result (now ≡ before)

-- The count never falls, `Failed` comes only where it rose, and every other answer leaves it as it stood.
pub record HasSinkCause {T : Type 0} (before now : ℕ) (result : Result T SinkStop) : Type 0 where
  pub later : before ≤ now
  pub failed : IsErrOf result stops.Failed → Rose before now
  pub kept : OnOk result (now ≡ before)
  pub kept_memory : IsErrOf result stops.Memory → now ≡ before

-- On `Ok(n)`, n is from 1 to the length of the piece.
abbrev pub WritesSome : {E : Type 0} → Result ℕ E → List ℕ → Type 0
WritesSome r piece = IfOk r (λ n. (0 < n) × (n ≤ length piece))
