-- Texts that are read and written again, and texts with a fault.
use Rattle.std.proofs.Common.{◌≡◌, ℕ, List, [], ◌∷◌, ◌++◌, None, Result, Ok, Err, refl, codes}
use Rattle.std.specs.Prelude.{pos, negsuc, false}
use Rattle.rational.specs.Rational.{ℚ, whole, zero_ℚ, ratio}
use Rattle.rational.specs.Divisors.{gcd_of}
use Rattle.program_law.specs.declared.Row.{Row}
use Rattle.program_law.specs.declared.Column.{Column}
use Rattle.program_law.specs.Program.{Program}
use Rattle.certificate_law.specs.declared.Node.TheVariants as nodes
use Rattle.certificate_law.specs.declared.Certificate.{Certificate}
use Rattle.certificate_law.specs.declared.Certificate.TheVariants.{Optimal}
use Rattle.cert_grammar.specs.declared.kinds.CertKind.{CertKind}
use Rattle.cert_grammar.specs.declared.kinds.CertKind.TheVariants as kinds
use Rattle.std.specs.Fmt.{digits}
use Rattle.cert_grammar.specs.Text.{certificate_text}
use Rattle.cert_text_law.specs.Reading.{Answer, read_of}
use Rattle.cert_grammar.specs.Faults.{line_fault}
use Rattle.cert_fields.specs.Numbers.{number_of, lowest_number}
use Rattle.cert_grammar.specs.Items.{item_of}
use Rattle.cert_grammar.specs.Items.{claim_in}

-- a program by the names of its rows and columns
row : List ℕ → List ℕ × Row
row name = (name, record { low = None; high = None })

column : List ℕ → List ℕ × Column
column name = (name, record { low = None; high = None; whole = false })

abbrev named_program : List (List ℕ × Row) → List (List ℕ × Column) → Program
named_program rows columns =
    record {
      objective = codes "obj";
      rows = rows;
      columns = columns;
      entries = [];
      costs = [];
      constant = zero_ℚ;
      pairs = [];
    }

abbrev first : Program
first = named_program ((codes "c1", record { low = None; high = None }) ∷ (codes "c2", record { low = None; high = None }) ∷ [])
    ((codes "x", record { low = None; high = None; whole = false }) ∷ (codes "y", record { low = None; high = None; whole = false }) ∷ [])

abbrev n : ℕ → ℚ
n k = whole (pos k)

abbrev first_certificate : Certificate
first_certificate = Optimal (n 2 ∷ n 3 ∷ []) (n 8)
    ((record { weight = n 2; coef = n 1 ∷ n 0 ∷ [] }) ∷ (record { weight = n 8; coef = n 0 ∷ n 1 ∷ [] }) ∷ [])
    (nodes.Bound (n 2 ∷ n 3 ∷ []) (n 0 ∷ whole (negsuc 3) ∷ []) ∷ [])

abbrev first_text : List ℕ
first_text = codes "OPTIMAL\nVALUE 8\nPOINT x 2\nPOINT y 3\nSQUARE 2\nCOEF x 1\nSQUARE 8\nCOEF y 1\nBOUND\nW x 2\nW y 3\nY c2 -4\nEND\n"

written : certificate_text first first_certificate ≡ first_text
unfolding whole ratio gcd_of digits certificate_text
written = refl

-- what is read, written again
abbrev written_again : Program → Answer → Result (List ℕ) (ℕ × CertKind)
written_again p (Ok c) = Ok (certificate_text p c)
written_again p (Err fault) = Err fault

abbrev again : Program → ℕ → List ℕ → Result (List ℕ) (ℕ × CertKind)
again p line text = written_again p (read_of p line text)

read_first : again first 19 first_text ≡ Ok first_text
unfolding whole ratio gcd_of digits certificate_text line_fault item_of claim_in number_of lowest_number
read_first = refl

-- a second POINT line for a column, and no END
twice : again first 19 (codes "OPTIMAL\nVALUE 8\nPOINT x 2\nPOINT x 2\nPOINT y 3\nSQUARE 2\n") ≡ Err (22, kinds.CertOrder)
unfolding whole ratio gcd_of digits certificate_text line_fault item_of claim_in number_of lowest_number
twice = refl

unended : again first 19 (codes "OPTIMAL\nVALUE 8\nPOINT x 2\nPOINT y 3\nSQUARE 2\nCOEF x 1\nSQUARE 8\nCOEF y 1\nBOUND\nW x 2\nW y 3\nY c2 -4\n") ≡ Err (31, kinds.CertEnd)
unfolding whole ratio gcd_of digits certificate_text line_fault item_of claim_in number_of lowest_number
unended = refl

-- ---- a refutation

abbrev second : Program
second = named_program ((codes "r1", record { low = None; high = None }) ∷ (codes "r2", record { low = None; high = None }) ∷ [])
    ((codes "x", record { low = None; high = None; whole = false }) ∷ [])

abbrev farkas : List ℕ → List ℕ
farkas multipliers = codes "INFEASIBLE\nFARKAS\n" ++ multipliers

refutations : (again second 10 (farkas (codes "Y r1 -1\nY r2 1\nEND\n")) ≡ Ok (farkas (codes "Y r1 -1\nY r2 1\nEND\n")))
    × (again second 10 (farkas (codes "Y r1 -1\nEND\n")) ≡ Ok (farkas (codes "Y r1 -1\nEND\n")))
    × (again second 10 (farkas (codes "Y r1 1\nEND\n")) ≡ Ok (farkas (codes "Y r1 1\nEND\n")))
    × (again second 10 (farkas (codes "Y r2 2/4\nEND\n")) ≡ Err (12, kinds.CertNumber))
unfolding whole ratio gcd_of digits certificate_text line_fault item_of claim_in number_of lowest_number
refutations = (refl, refl, refl, refl)

-- ---- a vector, and the kinds of faults

abbrev third : Program
third = named_program [] ((codes "x", record { low = None; high = None; whole = false }) ∷ (codes "y", record { low = None; high = None; whole = false }) ∷ [])

vector : again third 9 (codes "NOTCONVEX\nVECTOR x 1\nVECTOR y -1\nEND\n") ≡ Ok (codes "NOTCONVEX\nVECTOR x 1\nVECTOR y -1\nEND\n")
unfolding whole ratio gcd_of digits certificate_text line_fault item_of claim_in number_of lowest_number
vector = refl

kinds_of_faults : (again third 1 [] ≡ Err (1, kinds.CertEnd))
    × (again third 1 (codes "NOTCONVEX") ≡ Err (1, kinds.CertEnd))
    × (again third 1 (codes "NOTCONVEX\nEND\n\n") ≡ Err (3, kinds.CertAfter))
    × (again third 1 (codes "NOTCONVEX\nPOINT x 1\n") ≡ Err (2, kinds.CertLine))
    × (again third 1 (codes "NOTCONVEX\nVECTOR x  1\n") ≡ Err (2, kinds.CertLine))
    × (again third 1 (codes "NOTCONVEX\nVECTOR  1\n") ≡ Err (2, kinds.CertLine))
    × (again third 1 (codes "OPTIMAL\nVALUE \n") ≡ Err (2, kinds.CertLine))
    × (again third 1 (codes "NOTCONVEX\nVECTOR z 1\n") ≡ Err (2, kinds.CertName))
    × (again third 1 (codes "NOTCONVEX\nVECTOR x 170141183460469231731687303715884105728/2\n") ≡ Err (2, kinds.CertPast))
    × (again third 1 (codes "NOTCONVEX\nVECTOR x 170141183460469231731687303715884105728/1\n") ≡ Err (2, kinds.CertNumber))
    × (again third 1 (codes "NOTCONVEX\nVECTOR x 0\n") ≡ Err (2, kinds.CertNumber))
    × (again third 1 (codes "NOTCONVEX\nVECTOR y 1/2\nVECTOR x 1\n") ≡ Err (3, kinds.CertOrder))
    × (again third 1 (codes "INFEASIBLE\nBRANCH x 1/2\n") ≡ Err (2, kinds.CertNumber))
    × (again third 1 (codes "INFEASIBLE\nBRANCH x -1\nCROSS x\nEND\n") ≡ Err (4, kinds.CertLine))
unfolding whole ratio gcd_of digits certificate_text line_fault item_of claim_in number_of lowest_number
kinds_of_faults = (refl, refl, refl, refl, refl, refl, refl, refl, refl, refl, refl, refl, refl, refl)
