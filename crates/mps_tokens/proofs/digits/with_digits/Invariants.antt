use Rattle.std.proofs.Common.{◌≡◌, ℕ, ◌+◌, ◌≤◌, true, take}
use Rattle.std.specs.List.{list_all}
use Rattle.std.specs.Char.{is_ascii_digit}
use Rattle.std.specs.Str.Parse.{digits_value_after}
use Rattle.mps_tokens.specs.Running.{AreDigitsOf}
use Rattle.mps_tokens.proofs.digits.with_digits.Given as goal

abbrev pub invariant-loop-b : goal.invariant-loop-b
invariant-loop-b l =
    (list_all is_ascii_digit (take l.b-index l.bytes) ≡ true)
    × (l.digits.zeros ≤ l.fn.digits.zeros + l.b-index)
    × ((v : ℕ) → AreDigitsOf v l.fn.digits → AreDigitsOf (digits_value_after 10 v (take l.b-index l.bytes)) l.digits)
