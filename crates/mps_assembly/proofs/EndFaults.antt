-- What it says that there is no end fault.
use Rattle.std.proofs.Common.{◌≡◌, ℕ, Bool, true, false, Option, Some, None, refl, if◌then◌else◌}
use Rattle.mps_grammar.specs.declared.kinds.FaultKind.{FaultKind}
use Rattle.mps_grammar.specs.declared.kinds.FaultKind.TheVariants as kinds
use Rattle.mps_grammar.specs.Told.{Told}
use Rattle.mps_grammar.specs.Programs.{first_line, is_lopsided, gives_pairs_once, fault_at, range_fault, pair_fault, end_fault}
use Rattle.mps_assembly.proofs.Pairs.{IsLevel, or_other-none}

no_line : (kind : FaultKind) (o : Option ℕ) → fault_at kind o ≡ None → o ≡ None
no_line kind None e = refl
no_line kind (Some line) e = absurd cc

pub level_pairs : (told : Told) → end_fault told ≡ None → IsLevel told
level_pairs told e both = by_kind (gives_pairs_once told) both (or_other-none (range_fault told) (pair_fault told) e).1
  where
    by_kind : (b : Bool) → b ≡ false → (if b then None else fault_at kinds.NotSymmetric (first_line (is_lopsided told.pairs) told.pairs)) ≡ None → first_line (is_lopsided told.pairs) told.pairs ≡ None
    by_kind true both e = absurd cc
    by_kind false both e = no_line kinds.NotSymmetric (first_line (is_lopsided told.pairs) told.pairs) e
