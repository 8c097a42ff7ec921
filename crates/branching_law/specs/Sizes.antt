-- What a certificate asks of the nodes of its tree.
use Rattle.std.specs.Prelude.{◌≢◌, ◌<◌, ◌^◌, ℤ, pos, neg_ℤ, length}
use Rattle.program_law.specs.Program.{Program}
use Rattle.certificate_law.specs.declared.Node.{Node}
use Rattle.certificate_law.specs.declared.Node.TheVariants.{Branch, Bound, Farkas, Cross}
use Rattle.certificate_law.specs.Fits.{IsRowVector, IsColumnVector}

-- a node's columns are the program's, and its vectors have its lengths
abbrev pub HasNodeSizes : Program → Node → Type 0
HasNodeSizes p (Branch j k) = j < length p.columns
HasNodeSizes p (Bound w y) = IsColumnVector p w × IsRowVector p y
HasNodeSizes p (Farkas y) = IsRowVector p y
HasNodeSizes p (Cross j) = j < length p.columns

-- the number of a branch isn't -2^127
abbrev pub IsBranchNumber : ℤ → Type 0
IsBranchNumber k = k ≢ neg_ℤ (pos (2 ^ 127))

abbrev pub HasNumber : Node → Type 0
HasNumber (Branch j k) = IsBranchNumber k
HasNumber (Bound w y) = Unit {0}
HasNumber (Farkas y) = Unit {0}
HasNumber (Cross j) = Unit {0}
