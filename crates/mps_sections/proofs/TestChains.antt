-- Tests one after the other.
use Rattle.std.proofs.Common.{◌≡◌, Bool, true, false, cond, [], ◌∷◌, ◌++◌, Some, None, refl}
use Rattle.mps_grammar.specs.declared.kinds.FaultKind.{FaultKind}
use Rattle.mps_grammar.specs.Faults.{Tests, first_of}

-- a fault of the first tests is that of all
pub first_front : (front rest : Tests) (kind : FaultKind) → first_of front ≡ Some kind → first_of (front ++ rest) ≡ Some kind
first_front [] rest kind e = absurd cc
first_front (t ∷ ts) rest kind e = by_test t.0 e (first_front ts rest kind)
  where
    by_test : (b : Bool) → cond b (Some t.1) (first_of ts) ≡ Some kind → (first_of ts ≡ Some kind → first_of (ts ++ rest) ≡ Some kind) → cond b (Some t.1) (first_of (ts ++ rest)) ≡ Some kind
    by_test true e again = e
    by_test false e again = again e

-- where none of the first tests holds, the others decide
pub first_rest : (front rest : Tests) → first_of front ≡ None → first_of (front ++ rest) ≡ first_of rest
first_rest [] rest e = refl
first_rest (t ∷ ts) rest e = by_test t.0 e (first_rest ts rest)
  where
    by_test : (b : Bool) → cond b (Some t.1) (first_of ts) ≡ None → (first_of ts ≡ None → first_of (ts ++ rest) ≡ first_of rest) → cond b (Some t.1) (first_of (ts ++ rest)) ≡ first_of rest
    by_test true e again = absurd cc
    by_test false e again = again e
