-- Files with the programs that they stand for, and files with faults.
use Rattle.std.proofs.Common.{◌≡◌, ℕ, Bool, true, false, List, [], ◌∷◌, ◌++◌, map, Option, Some, None, Result, Ok, Err, refl, codes}
use Rattle.std.specs.Prelude.{ℤ, pos, negsuc}
use Rattle.std.specs.Option.{option_map}
use Rattle.rational.specs.Rational.{ℚ, ◌+ℚ◌, ◌*ℚ◌, neg_ℚ, whole, ratio, reciprocal}
use Rattle.rational.specs.Divisors.{gcd_of}
use Rattle.mps_tokens.specs.Numbers.{shortened, decimal_value, fraction_value}
use Rattle.program_law.specs.Program.{Program}
use Rattle.program_law.specs.declared.Row.{Row}
use Rattle.program_law.specs.declared.Column.{Column}
use Rattle.mps_grammar.specs.declared.kinds.FaultKind.TheVariants as kinds
use Rattle.mps_grammar.specs.Verdict.{Fault}
use Rattle.mps_grammar.specs.Reading.{Spot, read_of, rest_of}

-- ---- programs with each number as its two parts

abbrev Parts : Type 0
Parts = ℤ × ℕ

abbrev parts_of : ℚ → Parts
parts_of q = (q.num, q.den)

abbrev int : ℕ → Parts
int n = (pos n, 1)

abbrev minus_one : Parts
minus_one = (negsuc 0, 1)

record Shown : Type 0 where
  objective : List ℕ
  rows : List (List ℕ × Option Parts × Option Parts)
  columns : List (List ℕ × Option Parts × Option Parts × Bool)
  entries : List (List Parts)
  costs : List Parts
  constant : Parts
  pairs : List (List Parts)

abbrev shown_row : List ℕ × Row → List ℕ × Option Parts × Option Parts
shown_row r = (r.0, option_map parts_of r.1.low, option_map parts_of r.1.high)

abbrev shown_column : List ℕ × Column → List ℕ × Option Parts × Option Parts × Bool
shown_column c = (c.0, option_map parts_of c.1.low, option_map parts_of c.1.high, c.1.whole)

abbrev shown : Program → Shown
shown p =
    record {
      objective = p.objective;
      rows = map shown_row p.rows;
      columns = map shown_column p.columns;
      entries = map (map parts_of) p.entries;
      costs = map parts_of p.costs;
      constant = parts_of p.constant;
      pairs = map (map parts_of) p.pairs;
    }

abbrev shown_answer : Result (Program × Spot) Fault → Result (Shown × Spot) Fault
shown_answer (Ok p) = Ok (shown p.0, p.1)
shown_answer (Err fault) = Err fault

abbrev answer : List ℕ → Result (Shown × Spot) Fault
answer text = shown_answer (read_of text)

-- ---- one program in three ways

abbrev front : List ℕ
front = codes "ROWS\n N obj\n E e1\nCOLUMNS\n x obj 1 e1 1\n y e1 1\nRHS\n S e1 5\nRANGES\n S e1 -2\nBOUNDS\n UP S y -1\n"

-- x^2 + xy + y^2 + x with 3 ≤ x + y ≤ 5, x ≥ 0 and y ≤ -1
abbrev program : Shown
program =
    record {
      objective = codes "obj";
      rows = (codes "e1", Some (int 3), Some (int 5)) ∷ [];
      columns = (codes "x", Some (int 0), None, false) ∷ (codes "y", None, Some minus_one, false) ∷ [];
      entries = (int 1 ∷ int 1 ∷ []) ∷ [];
      costs = int 1 ∷ int 0 ∷ [];
      constant = int 0;
      pairs = (int 2 ∷ int 1 ∷ []) ∷ (int 1 ∷ int 2 ∷ []) ∷ [];
    }

by_pairs : answer (front ++ codes "QUADOBJ\n x x 2\n y x 1\n y y 2\nENDATA\n") ≡ Ok (program, (130, 18))
unfolding ◌+ℚ◌ ◌*ℚ◌ neg_ℚ ratio gcd_of whole reciprocal shortened decimal_value fraction_value
by_pairs = refl

by_matrix : answer (front ++ codes "QMATRIX\n x x 2\n x y 1\n y x 1\n y y 2\nENDATA\n") ≡ Ok (program, (137, 19))
unfolding ◌+ℚ◌ ◌*ℚ◌ neg_ℚ ratio gcd_of whole reciprocal shortened decimal_value fraction_value
by_matrix = refl

by_half : answer (front ++ codes "DMATRIX\n x x 1\n x y 1/2\n y x .5\n y y 1.0\nENDATA\n") ≡ Ok (program, (142, 19))
unfolding ◌+ℚ◌ ◌*ℚ◌ neg_ℚ ratio gcd_of whole reciprocal shortened decimal_value fraction_value
by_half = refl

-- ---- a file as tools write it: a comment, lines that end in a carriage return, a stretch, a further N row

abbrev plan : List ℕ
plan =
    codes "* plan of one week\r\nNAME          PLANT\r\nROWS\r\n N  COST\r\n G  NEED\r\n N  INFO\r\nCOLUMNS\r\n"
    ++ codes "    MARK0001  'MARKER'                 'INTORG'\r\n    X         COST               3.5   NEED               1.0\r\n    X         INFO                 7\r\n"
    ++ codes "    MARK0002  'MARKER'                 'INTEND'\r\n    Y         COST              2e+0   NEED              1.00\r\n"
    ++ codes "RHS\r\n    RHS       NEED               4.5\r\nBOUNDS\r\n UP BOUND     Y                  2.0\r\nENDATA\r\n"

abbrev plan_program : Shown
plan_program =
    record {
      objective = codes "COST";
      rows = (codes "NEED", Some (pos 9, 2), None) ∷ [];
      columns = (codes "X", Some (int 0), None, true) ∷ (codes "Y", Some (int 0), Some (int 2), false) ∷ [];
      entries = (int 1 ∷ int 1 ∷ []) ∷ [];
      costs = (pos 7, 2) ∷ int 2 ∷ [];
      constant = int 0;
      pairs = (int 0 ∷ int 0 ∷ []) ∷ (int 0 ∷ int 0 ∷ []) ∷ [];
    }

by_tools : answer plan ≡ Ok (plan_program, (445, 18))
unfolding ◌+ℚ◌ ◌*ℚ◌ neg_ℚ ratio gcd_of whole reciprocal shortened decimal_value fraction_value
by_tools = refl

-- ---- files with faults

no_end : read_of [] ≡ Err (1, kinds.NoEnd)
no_end = refl

no_end_after_rows : read_of (codes "ROWS\n N obj\n") ≡ Err (3, kinds.NoEnd)
unfolding ◌+ℚ◌ ◌*ℚ◌ neg_ℚ ratio gcd_of whole reciprocal shortened decimal_value fraction_value
no_end_after_rows = refl

past : read_of (codes "ROWS\n N obj\nCOLUMNS\n x obj 170141183460469231731687303715884105728/1\nENDATA\n") ≡ Err (4, kinds.NumberPast)
unfolding ◌+ℚ◌ ◌*ℚ◌ neg_ℚ ratio gcd_of whole reciprocal shortened decimal_value fraction_value
past = refl

entry_twice : read_of (codes "ROWS\n N obj\nCOLUMNS\n x obj 1 obj 2\nENDATA\n") ≡ Err (4, kinds.EntryTwice)
unfolding ◌+ℚ◌ ◌*ℚ◌ neg_ℚ ratio gcd_of whole reciprocal shortened decimal_value fraction_value
entry_twice = refl

no_objective : read_of (codes "ROWS\n L c\nCOLUMNS\n") ≡ Err (3, kinds.NoObjective)
unfolding ◌+ℚ◌ ◌*ℚ◌ neg_ℚ ratio gcd_of whole reciprocal shortened decimal_value fraction_value
no_objective = refl

unknown_section : read_of (codes "ROWS\n N obj\nCOLUMNS\n x obj 1\n y obj 1\nQSECTION\n") ≡ Err (6, kinds.UnknownSection)
unfolding ◌+ℚ◌ ◌*ℚ◌ neg_ℚ ratio gcd_of whole reciprocal shortened decimal_value fraction_value
unknown_section = refl

sense : read_of (codes "ROWS\n N obj\nCOLUMNS\n x obj 1\n y obj 1\nOBJSENSE\n") ≡ Err (6, kinds.MaxSense)
unfolding ◌+ℚ◌ ◌*ℚ◌ neg_ℚ ratio gcd_of whole reciprocal shortened decimal_value fraction_value
sense = refl

rows_twice : read_of (codes "ROWS\n N obj\nCOLUMNS\n x obj 1\n y obj 1\nROWS\n") ≡ Err (6, kinds.SectionOrder)
unfolding ◌+ℚ◌ ◌*ℚ◌ neg_ℚ ratio gcd_of whole reciprocal shortened decimal_value fraction_value
rows_twice = refl

semicontinuous : read_of (codes "ROWS\n N obj\nCOLUMNS\n x obj 1\n y obj 1\nBOUNDS\n SC B x 4\n") ≡ Err (7, kinds.BoundKind)
unfolding ◌+ℚ◌ ◌*ℚ◌ neg_ℚ ratio gcd_of whole reciprocal shortened decimal_value fraction_value
semicontinuous = refl

lopsided : read_of (codes "ROWS\n N obj\nCOLUMNS\n x obj 1\n y obj 1\nQMATRIX\n x y 1\nENDATA\n") ≡ Err (7, kinds.NotSymmetric)
unfolding ◌+ℚ◌ ◌*ℚ◌ neg_ℚ ratio gcd_of whole reciprocal shortened decimal_value fraction_value
lopsided = refl

unknown : read_of (codes "ROWS\n N obj\nCOLUMNS\n x obj 1\n y obj 1\nRHS\n RHS z 1\n") ≡ Err (7, kinds.NameUnknown)
unfolding ◌+ℚ◌ ◌*ℚ◌ neg_ℚ ratio gcd_of whole reciprocal shortened decimal_value fraction_value
unknown = refl

no_number : read_of (codes "ROWS\n N obj\nCOLUMNS\n x obj 1\n y obj 1\nRHS\n RHS obj 1.2.3\n") ≡ Err (7, kinds.NumberText)
unfolding ◌+ℚ◌ ◌*ℚ◌ neg_ℚ ratio gcd_of whole reciprocal shortened decimal_value fraction_value
no_number = refl

one_field : read_of (codes "ROWS\n N obj\nCOLUMNS\n x obj 1\n y obj 1\nRHS\n RHS\n") ≡ Err (7, kinds.Fields)
unfolding ◌+ℚ◌ ◌*ℚ◌ neg_ℚ ratio gcd_of whole reciprocal shortened decimal_value fraction_value
one_field = refl

range_past : read_of (codes "ROWS\n N obj\n L c\nCOLUMNS\n x c 1\nRHS\n R c -170141183460469231731687303715884105727/1\nRANGES\n R c 1\nENDATA\n") ≡ Err (9, kinds.RangePast)
unfolding ◌+ℚ◌ ◌*ℚ◌ neg_ℚ ratio gcd_of whole reciprocal shortened decimal_value fraction_value
range_past = refl

pair_twice : read_of (codes "ROWS\n N obj\nCOLUMNS\n x obj 1\n y obj 1\nQUADOBJ\n x y 1\n y x 1\nENDATA\n") ≡ Err (8, kinds.EntryTwice)
unfolding ◌+ℚ◌ ◌*ℚ◌ neg_ℚ ratio gcd_of whole reciprocal shortened decimal_value fraction_value
pair_twice = refl

row_twice : read_of (codes "ROWS\n N obj\n L obj\n") ≡ Err (3, kinds.NameTwice)
unfolding ◌+ℚ◌ ◌*ℚ◌ neg_ℚ ratio gcd_of whole reciprocal shortened decimal_value fraction_value
row_twice = refl

row_kind : read_of (codes "ROWS\n F obj\n") ≡ Err (2, kinds.RowKind)
unfolding ◌+ℚ◌ ◌*ℚ◌ neg_ℚ ratio gcd_of whole reciprocal shortened decimal_value fraction_value
row_kind = refl

stretch_twice : read_of (codes "ROWS\n N obj\nCOLUMNS\n M 'MARKER' 'INTORG'\n M 'MARKER' 'INTORG'\n") ≡ Err (5, kinds.Marker)
unfolding ◌+ℚ◌ ◌*ℚ◌ neg_ℚ ratio gcd_of whole reciprocal shortened decimal_value fraction_value
stretch_twice = refl

row_named_marker : read_of (codes "ROWS\n N obj\n L 'MARKER'\n") ≡ Err (3, kinds.Marker)
unfolding ◌+ℚ◌ ◌*ℚ◌ neg_ℚ ratio gcd_of whole reciprocal shortened decimal_value fraction_value
row_named_marker = refl

end_after_rows : read_of (codes "ROWS\n N obj\nENDATA\n") ≡ Err (3, kinds.SectionOrder)
unfolding ◌+ℚ◌ ◌*ℚ◌ neg_ℚ ratio gcd_of whole reciprocal shortened decimal_value fraction_value
end_after_rows = refl

data_first : read_of (codes " N obj\n") ≡ Err (1, kinds.SectionOrder)
unfolding ◌+ℚ◌ ◌*ℚ◌ neg_ℚ ratio gcd_of whole reciprocal shortened decimal_value fraction_value
data_first = refl

return_within : read_of (codes "ROWS\n N o\rbj\n") ≡ Err (2, kinds.NotAscii)
return_within = refl

-- the first fault of the first line that has one: a name that isn't known before a number that isn't one
first_fault : read_of (codes "ROWS\n N obj\nCOLUMNS\n x obj 1\n y obj 1\nRHS\n RHS z one\n RHS z z z z z\n") ≡ Err (7, kinds.NameUnknown)
unfolding ◌+ℚ◌ ◌*ℚ◌ neg_ℚ ratio gcd_of whole reciprocal shortened decimal_value fraction_value
first_fault = refl

-- ---- what isn't used, and bounds

abbrev used : Shown
used =
    record {
      objective = codes "obj";
      rows = (codes "e", Some (int 2), None) ∷ [];
      columns = (codes "x", Some (negsuc 2, 1), Some (negsuc 0, 2), true) ∷ [];
      entries = (int 1 ∷ []) ∷ [];
      costs = int 0 ∷ [];
      constant = int 0;
      pairs = (int 0 ∷ []) ∷ [];
    }

unused : answer (codes "ROWS\n N obj\n N info\n G e\nCOLUMNS\n x info 5 info 6\n x e 1\nRHS\n A e 2 info 3\n B e 7 e 8\nRANGES\n A obj 4 info 9\nBOUNDS\n UP A x -1\n UP B x 4\n LI A x -3\n UP A x -1/2\nENDATA\n") ≡ Ok (used, (168, 19))
unfolding ◌+ℚ◌ ◌*ℚ◌ neg_ℚ ratio gcd_of whole reciprocal shortened decimal_value fraction_value
unused = refl

-- ---- what comes after a program

after_end : answer (codes "ROWS\n N obj\nCOLUMNS\nENDATA\n more\n") ≡ Ok (record { objective = codes "obj"; rows = []; columns = []; entries = []; costs = []; constant = int 0; pairs = [] }, (27, 5))
unfolding ◌+ℚ◌ ◌*ℚ◌ neg_ℚ ratio gcd_of whole reciprocal shortened decimal_value fraction_value
after_end = refl

passed_over : rest_of (codes "ENDATA\n* comment\n \t\r\n\nEND") (7, 2) ≡ Some (22, 5)
passed_over = refl

nothing_more : rest_of (codes "ENDATA\n* comment\n") (7, 2) ≡ None
nothing_more = refl
