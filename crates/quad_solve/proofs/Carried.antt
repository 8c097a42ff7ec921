-- What the chains of a form give, over the columns and rows of the file.
use Rattle.std.proofs.Common.{◌≡◌, refl, sym, ap, subst, ◌∙◌, ℕ, List, ◌∷◌, ◌++◌, length, map, Some, suc, drop, add-one, ◌+◌, [], take, slice_get, get_or}
use Rattle.std.proofs.Math.Seq.{take-suc}
use Rattle.std.proofs.lemmas.List.{map-append, length-map}
use Rattle.std.proofs.lemmas.Option.{slice_get_within, get_or_from_slice_get}
use Rattle.rational.specs.Rational.{ℚ, neg_ℚ, zero_ℚ}
use Rattle.rational.proofs.Vectors.{length-add_each}
use Rattle.frac_core.specs.Parts.{max_part}
use Rattle.frac_core.specs.declared.fractions.Refused.{Refused}
use Rattle.frac_core.specs.declared.fractions.Tried.TheVariants.{Is, Past}
use Rattle.frac_core.specs.declared.fractions.Tried.{Tried}
use Rattle.frac_core.proofs.Operations.{contained}
use Rattle.exact_matrix.specs.Stops.{IsStopIn}
use Rattle.exact_matrix.specs.declared.systems.Stop.TheVariants as stops
use Rattle.program_law.specs.Columns.{AllWithin, IsRelaxedPoint, value}
use Rattle.program_law.specs.Program.{Program, sides}
use Rattle.program_law.specs.Region.{Region}
use Rattle.program_law.specs.declared.Row.{Row}
use Rattle.program_law.proofs.Bridge as points
use Rattle.cert_check_law.specs.Chain.{answered}
use Rattle.cert_check_law.specs.Value.{value_of}
use Rattle.cert_check_law.specs.declared.Event.TheVariants as events
use Rattle.program_model.specs.Tested.{IsValueIfTold}
use Rattle.equational_law.specs.Equations.{count_by}
use Rattle.equational_law.specs.Form.{equations, multipliers_of, point_of, firsts, unsigned}
use Rattle.equational_law.specs.Standing.{shift, change}
use Rattle.equational_law.proofs.Adjoint.{length-change, length-shift}
use Rattle.quad_solve_law.specs.Answer.{IsEmpty, IsFound}
use Rattle.quad_solve_law.specs.Operations.{value_ops}
use Rattle.quad_solve_law.specs.Problems.{feasible_problem}
use Rattle.quad_solve_law.specs.Walk.{IsSolvedWithin, IsRefutedWithin}
use Rattle.quad_solve_law.proofs.RegionAnswers.{found_is_point}
use Rattle.quad_solve_law.proofs.ValueOps.{first_refusal}
use Rattle.quad_solve_law.proofs.WalkSteps.{start_solves}
use Rattle.equational.specs.Formed.{Formed}
use Rattle.linear_simplex.specs.Decided.{IsPointOf, IsFarkasOf}
use Rattle.face_descent.specs.Shrunk.{columns}
use Rattle.form_problems.specs.Chains.{IsFormOf}
use Rattle.quad_solve.proofs.Stops.{at_region, is_form}
use Rattle.quad_solve.proofs.Walking.{solved_of, refuted_of}

-- ---- changed signs, one more

pub negated_more : (y v w : List ℚ) (i : ℕ) (x n : ℚ) → v ≡ map neg_ℚ (take i y) → slice_get y i ≡ Some x → n ≡ neg_ℚ x → w ≡ v ++ n ∷ [] → w ≡ map neg_ℚ (take (i + 1) y)
negated_more y v w i x n e at is done =
    done ∙ rw (add-one, take-suc y i zero_ℚ (slice_get_within y i x at), map-append neg_ℚ (take i y) (get_or y i zero_ℚ ∷ []), get_or_from_slice_get y i x zero_ℚ at)
    (rw (e, is) refl)

-- ---- the value of a point

pub point_long : (region : Region) (z : List ℚ) → length (point_of region z) ≡ length region
point_long region z = length-add_each (shift region) (change region z) (length-shift region ∙ sym (length-change region z)) ∙ length-shift region

pub value_told : (p : Program) (x : List ℚ) (tried : Tried) (v : ℚ) → IsValueIfTold p x tried → tried ≡ Is v → v ≡ value p x
value_told p x tried v h e =
    let at : IsValueIfTold p x (Is v) = subst (IsValueIfTold p x) e h in
    sym (at (points.point_of x) (points.columns_point x)) ∙ points.value_is p (points.point_of x) ∙ ap (value p) (points.columns_point x)

event_past : (a b : Refused) → events.Past a ≡ events.Past b → a ≡ b
event_past a b e = cc

pub value_refused : (p : Program) (x : List ℚ) (tried : Tried) (r : Refused) → answered tried ≡ value_of p x → tried ≡ Past r → IsStopIn (value_ops p x) (stops.Past r)
value_refused p x tried r h e =
    let s = first_refusal p x (events.Past r) (sym h ∙ ap answered e) in
    subst (λ (q : Refused). IsStopIn (value_ops p x) (stops.Past q)) (sym (event_past r s.0 s.1)) (contained max_part (value_ops p x) s.0 s.2, s.2.past)

-- ---- the feasible chain

module _ (kept : Formed) (p : Program) (h : IsFormOf kept p) (budget : ℕ) where
  pub found : (z x : List ℚ) (basic : List ℕ) → IsPointOf (feasible_problem kept.form) budget z basic → x ≡ point_of kept.region z → IsFound p kept.region budget x
  found z x basic s e = record {
    solution = z;
    solved = at_region kept p h (λ n f. IsSolvedWithin (feasible_problem f) budget z) (solved_of (feasible_problem kept.form) budget z basic s);
    point = e;
  }

  pub some_point : (z : List ℚ) (basic : List ℕ) → IsPointOf (feasible_problem kept.form) budget z basic → (x : List ℚ) × IsRelaxedPoint p kept.region x
  some_point z basic s = (point_of kept.region z, found_is_point p kept.region h.program h.wide budget (point_of kept.region z) (found z (point_of kept.region z) basic s refl))

  pub empty : (w y : List ℚ) (basic : List ℕ) → IsFarkasOf (feasible_problem kept.form) budget w basic → y ≡ multipliers_of p kept.region (map neg_ℚ w) → IsEmpty p kept.region budget y
  empty w y basic s e = record {
    farkas = w;
    refuted = at_region kept p h (λ n f. IsRefutedWithin (feasible_problem f) budget w) (refuted_of (feasible_problem kept.form) budget w basic s);
    multipliers = e;
  }

  pub solution_size : (z : List ℚ) (basic : List ℕ) → IsPointOf (feasible_problem kept.form) budget z basic → length z ≡ length kept.form.cost
  solution_size z basic s = (start_solves (columns kept.form) kept.form z (is_form kept p h) (budget, solved_of (feasible_problem kept.form) budget z basic s)).width

-- ---- sizes

length-firsts : (ss : List Row) (ys : List ℚ) → length (firsts ss ys) ≡ length ss
length-firsts [] ys = refl
length-firsts (s ∷ ss) ys = ap suc (length-firsts ss (drop (count_by s.low s.high).0 ys))

pub multipliers_size : (p : Program) (region : Region) (ys : List ℚ) → length (multipliers_of p region ys) ≡ length p.rows
multipliers_size p region ys = length-firsts (sides p) (unsigned (equations p region) ys) ∙ length-map p.rows (λ (r : List ℕ × Row). r.1)

within_size : (region : Region) (x : List ℚ) → AllWithin region x → length x ≡ length region
within_size [] [] h = refl
within_size [] (x ∷ xs) h = absurd h
within_size (b ∷ bs) [] h = absurd h
within_size (b ∷ bs) (x ∷ xs) h = ap suc (within_size bs xs h.1)

pub point_size : (p : Program) (region : Region) (x : List ℚ) → length region ≡ length p.columns → IsRelaxedPoint p region x → length x ≡ length p.columns
point_size p region x wide h = within_size region x h.columns ∙ wide
