-- The text of a verdict that is withheld.
use Rattle.std.specs.Prelude.{ℕ, suc, ◌+◌, List, [], ◌∷◌, ◌++◌, codes, if◌then◌else◌}
use Rattle.std.specs.List.{flat_map}
use Rattle.std.specs.Fmt.{decimal, signed_decimal}
use Rattle.rational.specs.Rational.{ℚ, zero_ℚ}
use Rattle.rational.specs.Order.{same_fields}
use Rattle.frac_core.specs.Text.{text_of}
use Rattle.frac_core.specs.declared.fractions.Op.{Op}
use Rattle.frac_core.specs.declared.fractions.Op.TheVariants as op
use Rattle.frac_core.specs.declared.fractions.Refused.{Refused}
use Rattle.program_law.specs.Program.{Program}
use Rattle.named_things.specs.Named.{names_of}
use Rattle.cert_grammar.specs.Text.{name_at}
use Rattle.branching_law.specs.declared.Cut.{Cut}
use Rattle.branching_law.specs.declared.Cut.TheVariants.{Below, Above}
use Rattle.branching_law.specs.declared.Turn.{Turn}
use Rattle.quad_solve.specs.declared.sites.Task.{Task}
use Rattle.quad_solve.specs.declared.sites.Task.TheVariants.{Feasible, Ray, Price}
use Rattle.quad_solve.specs.declared.sites.Site.{Site}
use Rattle.quad_solve.specs.declared.sites.Site.TheVariants.{Squares, Form, Chain, Face, Check}

abbrev pub op_word : Op → List ℕ
op_word op.Add = codes "ADD"
op_word op.Sub = codes "SUB"
op_word op.Mul = codes "MUL"
op_word op.Div = codes "DIV"

abbrev pub chain_word : Task → List ℕ
chain_word Feasible = codes "FEASIBLE"
chain_word Ray = codes "RAY"
chain_word Price = codes "PRICE"

-- the line of a basic column. Columns are counted from 1 here.
abbrev pub basic_line : ℕ → List ℕ
basic_line j = codes "BASIC " ++ (decimal (j + 1) ++ codes "\n")

-- a line for each column of a basis
abbrev pub basic_lines : List ℕ → List ℕ
basic_lines [] = []
basic_lines (j ∷ js) = basic_line j ++ basic_lines js

-- a line for column n of a point, where its value isn't 0
abbrev pub at_line : ℕ → ℚ → List ℕ
at_line n x = if same_fields x zero_ℚ then [] else codes "AT " ++ (decimal n ++ (codes " " ++ (text_of x ++ codes "\n")))

-- the lines of a point, from column n on
abbrev pub at_lines : ℕ → List ℚ → List ℕ
at_lines n [] = []
at_lines n (x ∷ xs) = at_line n x ++ at_lines (suc n) xs

abbrev pub chain_line : Task → List ℕ
chain_line task = codes "SITE CHAIN " ++ (chain_word task ++ codes "\n")

abbrev pub site_lines : Site → List ℕ
site_lines Squares = codes "SITE SQUARES\n"
site_lines Form = codes "SITE FORM\n"
site_lines (Chain task at basis) = chain_line task ++ (at_lines 1 at ++ basic_lines basis)
site_lines (Face at) = codes "SITE FACE\n" ++ at_lines 1 at
site_lines Check = codes "SITE CHECK\n"

-- ---- the path

abbrev pub cut_word : Cut → List ℕ
cut_word Below = codes "BELOW "
cut_word Above = codes "ABOVE "

-- the line of a turn: its side, the name of its column, and the branch's number
abbrev pub turn_line : Program → Turn → List ℕ
turn_line p t = cut_word t.cut ++ (name_at (names_of p.columns) t.column ++ (codes " " ++ (signed_decimal t.k ++ codes "\n")))

-- a line for each turn of a path, from the program's bounds on
abbrev pub path_lines : Program → List Turn → List ℕ
path_lines p path = flat_map (turn_line p) path

-- ---- the texts

-- an operation whose result doesn't fit, at a site of the region to which the lines of a path lead
abbrev pub past_text : List ℕ → Site → Refused → List ℕ
past_text path site r =
    codes "WITHHELD PAST\n" ++ (path ++ (site_lines site ++ (codes "OP " ++ (op_word r.op ++ (codes " " ++ (text_of r.left ++ (codes " " ++ (text_of r.right ++ codes "\nEND\n"))))))))

-- an operation of a check whose result doesn't fit
abbrev pub check_text : Refused → List ℕ
check_text r = past_text [] Check r

-- a budget of strict steps that is used up at a site of the region to which the lines of a path lead
abbrev pub bases_line : ℕ → List ℕ
bases_line n = codes "WITHHELD BASES " ++ (decimal n ++ codes "\n")

abbrev pub bases_text : ℕ → List ℕ → Site → List ℕ
bases_text n path site = bases_line n ++ (path ++ (site_lines site ++ codes "END\n"))

-- a budget of branches that is used up
abbrev pub boxes_text : ℕ → List ℕ
boxes_text n = codes "WITHHELD BOXES " ++ (decimal n ++ codes "\nEND\n")
