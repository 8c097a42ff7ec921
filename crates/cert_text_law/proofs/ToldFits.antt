-- The numbers of a certificate that is told fit.
use Rattle.std.proofs.Common.{ℕ, zero, suc, ◌≤◌, List, [], ◌∷◌, length, set, sym, ap, subst, arith, pos}
use Rattle.std.specs.Prelude.{unsigned_abs}
use Rattle.std.specs.List.{AllByRecursion}
use Rattle.rational.specs.Rational.{ℚ, Fits, zero_ℚ}
use Rattle.rational.proofs.Wholes.{num-whole, den-whole}
use Rattle.frac_core.specs.Parts.{max_part}
use Rattle.program_law.specs.Program.{Program}
use Rattle.program_law.specs.Changes.{zeros}
use Rattle.program_law.specs.declared.Square.{Square}
use Rattle.certificate_law.specs.declared.Node.{Node}
use Rattle.certificate_law.specs.declared.Node.TheVariants as nodes
use Rattle.cert_grammar.specs.declared.items.Item.{Item}
use Rattle.cert_grammar.specs.declared.items.Item.TheVariants as items
use Rattle.cert_grammar.specs.declared.items.Claim.{Claim}
use Rattle.cert_grammar.specs.declared.items.Claim.TheVariants.{Optimal, Infeasible, Unbounded, NotConvex}
use Rattle.cert_grammar.specs.declared.places.Place.{Place}
use Rattle.cert_text_law.specs.Told.{Told, blank, with_item, with_coef, with_w, with_y, certificate_told}
use Rattle.cert_grammar.specs.Writable.{AllFit, SquareFits, NodeFits, NumbersFit}
use Rattle.cert_grammar.proofs.Lands.{lands}
use Rattle.cert_grammar.proofs.ItemFields.{Accepted}
use Rattle.cert_text_law.proofs.TextsRead.{Runs, tell_all}
use Rattle.cert_text_law.proofs.Accepts.{all_push, all_last}

record HasFitting (d : Told) : Type 0 where
  point : AllFit d.point
  ray : AllFit d.ray
  direction : AllFit d.direction
  value : Fits max_part d.value
  squares : AllByRecursion SquareFits d.squares
  nodes_are : AllByRecursion NodeFits d.nodes

pub zero_fits : Fits max_part zero_ℚ
zero_fits = (subst (λ (n : ℕ). n ≤ max_part) (sym (ap unsigned_abs (num-whole (pos 0)))) (omega arith), subst (λ (n : ℕ). n ≤ max_part) (sym (den-whole (pos 0))) (omega arith))

zeros_fit : (n : ℕ) → AllFit (zeros n)
zeros_fit zero = tt
zeros_fit (suc n) = (zero_fits, zeros_fit n)

set_fits : (vs : List ℚ) (j : ℕ) (v : ℚ) → Fits max_part v → AllFit vs → AllFit (set vs j v)
set_fits [] j v f h = h
set_fits (x ∷ xs) zero v f h = (f, h.1)
set_fits (x ∷ xs) (suc j) v f h = (h.0, set_fits xs j v f h.1)

w_fits : (j : ℕ) (v : ℚ) → Fits max_part v → (n : Node) → NodeFits n → NodeFits (with_w j v n)
w_fits j v f (nodes.Bound w y) h = (set_fits w j v f h.0, h.1)
w_fits j v f n h = h

y_fits : (j : ℕ) (v : ℚ) → Fits max_part v → (n : Node) → NodeFits n → NodeFits (with_y j v n)
y_fits j v f (nodes.Bound w y) h = (h.0, set_fits y j v f h.1)
y_fits j v f (nodes.Farkas y) h = set_fits y j v f h
y_fits j v f n h = h

squares_fit : (d : Told) (qs : List Square) → HasFitting d → AllByRecursion SquareFits qs → HasFitting (record d { squares = qs })
squares_fit d qs h f = record { point = h.point; ray = h.ray; direction = h.direction; value = h.value; squares = f; nodes_are = h.nodes_are }

nodes_fit : (d : Told) (ns : List Node) → HasFitting d → AllByRecursion NodeFits ns → HasFitting (record d { nodes = ns })
nodes_fit d ns h f = record { point = h.point; ray = h.ray; direction = h.direction; value = h.value; squares = h.squares; nodes_are = f }

fits_more : (p : Program) (s : Place) (d : Told) (item : Item) → Accepted p s item → HasFitting d → HasFitting (with_item (length p.columns) (length p.rows) item d)
fits_more p s d (items.Value v) a h = record { point = h.point; ray = h.ray; direction = h.direction; value = a.1; squares = h.squares; nodes_are = h.nodes_are }
fits_more p s d (items.Point j v) a h = record { point = set_fits d.point j v a.fits h.point; ray = h.ray; direction = h.direction; value = h.value; squares = h.squares; nodes_are = h.nodes_are }
fits_more p s d (items.Ray j v) a h = record { point = h.point; ray = set_fits d.ray j v a.fits h.ray; direction = h.direction; value = h.value; squares = h.squares; nodes_are = h.nodes_are }
fits_more p s d (items.Direction j v) a h = record { point = h.point; ray = h.ray; direction = set_fits d.direction j v a.fits h.direction; value = h.value; squares = h.squares; nodes_are = h.nodes_are }
fits_more p s d (items.Square v) a h = squares_fit d _ h (all_push SquareFits d.squares (record { weight = v; coef = zeros (length p.columns) }) h.squares (a.1, zeros_fit (length p.columns)))
fits_more p s d (items.Coef j v) a h = squares_fit d _ h (all_last SquareFits (with_coef j v) (λ q f. (f.0, set_fits q.coef j v a.fits f.1)) d.squares h.squares)
fits_more p s d (items.Branch j k) a h = nodes_fit d _ h (all_push NodeFits d.nodes (nodes.Branch j k) h.nodes_are a.2)
fits_more p s d items.Bound a h = nodes_fit d _ h (all_push NodeFits d.nodes (nodes.Bound (zeros (length p.columns)) (zeros (length p.rows))) h.nodes_are (zeros_fit (length p.columns), zeros_fit (length p.rows)))
fits_more p s d items.Farkas a h = nodes_fit d _ h (all_push NodeFits d.nodes (nodes.Farkas (zeros (length p.rows))) h.nodes_are (zeros_fit (length p.rows)))
fits_more p s d (items.Cross j) a h = nodes_fit d _ h (all_push NodeFits d.nodes (nodes.Cross j) h.nodes_are tt)
fits_more p s d (items.W j v) a h = nodes_fit d _ h (all_last NodeFits (with_w j v) (w_fits j v a.fits) d.nodes h.nodes_are)
fits_more p s d (items.Y i v) a h = nodes_fit d _ h (all_last NodeFits (with_y i v) (y_fits i v a.fits) d.nodes h.nodes_are)
fits_more p s d item a h = h

fits_all : (p : Program) (s : Place) (d : Told) (later : List Item) → Runs p s later → HasFitting d → HasFitting (tell_all p d later)
fits_all p s d [] r h = h
fits_all p s d (item ∷ later) r h = fits_all p (lands s item) (with_item (length p.columns) (length p.rows) item d) later r.2 (fits_more p s d item r.1 h)

fits_blank : (n : ℕ) → HasFitting (blank n)
fits_blank n = record { point = zeros_fit n; ray = zeros_fit n; direction = zeros_fit n; value = zero_fits; squares = tt; nodes_are = tt }

fits_told : (claim : Claim) (d : Told) → HasFitting d → NumbersFit (certificate_told claim d)
fits_told Optimal d h = (h.point, h.value, h.squares, h.nodes_are)
fits_told Infeasible d h = h.nodes_are
fits_told Unbounded d h = (h.point, h.ray, h.squares)
fits_told NotConvex d h = h.direction

-- the numbers of what items that are accepted tell
pub told_fits : (p : Program) (claim : Claim) (s : Place) (later : List Item) → Runs p s later → NumbersFit (certificate_told claim (tell_all p (blank (length p.columns)) later))
told_fits p claim s later r = fits_told claim (tell_all p (blank (length p.columns)) later) (fits_all p s (blank (length p.columns)) later r (fits_blank (length p.columns)))
