-- The check of a certificate line by line: what the lines so far leave of it.
use Rattle.std.specs.Prelude.{ℕ, suc, List, [], ◌∷◌, length, Option, Some, None, Result, Ok}
use Rattle.rational.specs.Rational.{ℚ}
use Rattle.program_law.specs.Program.{Program, bounds}
use Rattle.program_law.specs.Region.{Region}
use Rattle.program_law.specs.Changes.{zeros}
use Rattle.certificate_law.specs.declared.Node.{Node}
use Rattle.certificate_law.specs.declared.Node.TheVariants.{Branch, Bound, Farkas, Cross}
use Rattle.cert_check_law.specs.declared.Event.{Event}
use Rattle.cert_check_law.specs.Chain.{◌>>=◌}
use Rattle.cert_check_law.specs.Heads.{best_test, unbounded_test, vector_test}
use Rattle.cert_check_law.specs.Tree.{node_step}
use Rattle.cert_grammar.specs.declared.items.Item.{Item}
use Rattle.cert_grammar.specs.declared.items.Item.TheVariants as items
use Rattle.cert_grammar.specs.declared.items.Claim.{Claim}
use Rattle.cert_grammar.specs.declared.items.Claim.TheVariants.{Optimal, Infeasible, Unbounded, NotConvex}
use Rattle.cert_text_law.specs.Told.{Told, blank, with_claim, with_item, with_w, with_y}

-- what is open: what stands before the tree, a node of it, or nothing
pub data Stage : Type 0 where
  Head : Stage
  At : Node → Stage
  Closed : Stage

-- What the lines so far leave of a check: what they tell of the certificate but for its nodes, what is open, how many nodes have begun,
-- and the regions that wait, or the first event. What is open isn't tested yet.
pub record Progress : Type 0 where
  pub claim : Claim
  pub told : Told
  pub stage : Stage
  pub node : ℕ
  pub waiting : Result (List Region) Event

-- before the first line
abbrev pub start : Program → Progress
start p = record { claim = Infeasible; told = blank (length p.columns); stage = Head; node = 0; waiting = Ok (bounds p ∷ []) }

-- ---- what is open is tested

-- the tests of what stands before the tree
abbrev pub head_test : Program → Claim → Told → Result (Unit {0}) Event
head_test p Optimal d = best_test p d.point d.value d.squares
head_test p Infeasible d = Ok tt
head_test p Unbounded d = unbounded_test p d.point d.ray d.squares
head_test p NotConvex d = vector_test p d.direction

-- the value to which a tree is held
abbrev pub value_for : Claim → ℚ → Option ℚ
value_for Optimal v = Some v
value_for Infeasible v = None
value_for Unbounded v = None
value_for NotConvex v = None

-- a step on the region that waits first; where none waits nothing is left to do
abbrev pub on_first : (Region → List Region → Result (List Region) Event) → List Region → Result (List Region) Event
on_first step [] = Ok []
on_first step (region ∷ waiting) = step region waiting

-- a node with its number is tested on the region that waits first
abbrev pub node_test : Program → Option ℚ → ℕ → Node → Result (List Region) Event → Result (List Region) Event
node_test p v number n waiting = waiting >>= on_first (λ region others. node_step p v number region n others)

-- the regions that wait behind what is open
abbrev pub waiting_behind : Program → Stage → Progress → Result (List Region) Event
waiting_behind p Head g = head_test p g.claim g.told >>= λ _. g.waiting
waiting_behind p (At n) g = node_test p (value_for g.claim g.told.value) g.node n g.waiting
waiting_behind p Closed g = g.waiting

-- what is open is tested, and nothing is open any more
abbrev pub closed : Program → Progress → Progress
closed p g = record g { stage = Closed; waiting = waiting_behind p g.stage g }

-- ---- one line more

-- a node begins
abbrev pub begun : Node → Progress → Progress
begun n g = record g { stage = At n; node = suc g.node }

-- the node that is open changes
abbrev pub in_node : (Node → Node) → Stage → Stage
in_node f (At n) = At (f n)
in_node f Head = Head
in_node f Closed = Closed

-- a line of a node closes what was open, or changes the node; each other line tells something of what stands before the tree
abbrev pub after : Program → Progress → Item → Progress
after p g (items.Branch j k) = begun (Branch j k) (closed p g)
after p g items.Bound = begun (Bound (zeros (length p.columns)) (zeros (length p.rows))) (closed p g)
after p g items.Farkas = begun (Farkas (zeros (length p.rows))) (closed p g)
after p g (items.Cross j) = begun (Cross j) (closed p g)
after p g (items.W j v) = record g { stage = in_node (with_w j v) g.stage }
after p g (items.Y i v) = record g { stage = in_node (with_y i v) g.stage }
after p g items.End = closed p g
after p g item = record g { claim = with_claim item g.claim; told = with_item (length p.columns) (length p.rows) item g.told }

-- these lines more, in their order
abbrev pub after_all : Program → Progress → List Item → Progress
after_all p g [] = g
after_all p g (item ∷ later) = after_all p (after p g item) later

-- what is found once all lines are read
abbrev pub found : Progress → Result (Unit {0}) Event
found g = g.waiting >>= λ _. Ok tt
