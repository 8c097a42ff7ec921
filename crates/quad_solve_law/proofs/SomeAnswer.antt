-- Each region has an answer, and a larger budget keeps it.
use Rattle.std.proofs.Common.{◌≡◌, refl, ℕ, ◌+◌, ◌≤◌, inl, inr, ⊎_elim, List, [], ◌∷◌, length, map, arith, suc}
use Rattle.std.specs.Prelude.{All, ◌^◌}
use Rattle.std.proofs.Math.Nat.{pow-le-pow_right}
use Rattle.std.proofs.lemmas.List.Elements.{All-nil, All-cons, All-weaker}
use Rattle.rational.specs.Rational.{ℚ, neg_ℚ}
use Rattle.rational.specs.Vectors.{IsSemidefinite}
use Rattle.program_law.specs.Region.{Region}
use Rattle.program_law.specs.Program.{Program, IsProgram}
use Rattle.program_law.specs.Columns.{value}
use Rattle.linear_basis_law.specs.Problem as linear
use Rattle.linear_basis_law.specs.Basis.{Tableau}
use Rattle.linear_simplex_law.specs.Chain.{IsChain}
use Rattle.equational_law.specs.Form.{Form, width, form_of, point_of, direction_of, multipliers_of}
use Rattle.equational_law.specs.Solutions.{IsForm, IsSolution}
use Rattle.equational_law.proofs.Shapes.{shape, semidefinite}
use Rattle.face_descent_law.specs.Small.{IsStationary}
use Rattle.quad_solve_law.specs.Problems.{feasible_problem, ray_problem, price_problem, price_multipliers}
use Rattle.quad_solve_law.specs.Walk.{IsSolvedWithin, IsRefutedWithin, IsDecidedWithin, Visit, IsWalkFrom, HasPricesWithin, price_steps}
use Rattle.quad_solve_law.specs.Answer.{Answer, Empty, Ray, Best, IsFound, IsAnswer, IsBest}
use Rattle.quad_solve_law.proofs.Decided.{some_end, refuted_is_farkas}
use Rattle.quad_solve_law.proofs.Descents.{prices_form_a_problem}
use Rattle.quad_solve_law.proofs.Directions.{feasible_is_a_problem, rays_form_a_problem, refuted_has_none}
use Rattle.quad_solve_law.proofs.Counts.{feasible_short, ray_short, price_short}
use Rattle.quad_solve_law.proofs.WalkSteps.{start_solves, newest_solves, all_solve}
use Rattle.quad_solve_law.proofs.WalkLengths.{some_walk, few_prices}

-- ---- larger budgets

up_to : (a b c : ℕ) → a ≤ b → b ≤ c → a ≤ c
up_to a b c h k = omega (arith, h, k)

pub more_solved : (p : linear.Problem) (b c : ℕ) (x : List ℚ) → b ≤ c → IsSolvedWithin p b x → IsSolvedWithin p c x
more_solved p b c x l h =
    record { basis = h.basis; ends = record { earlier = h.ends.earlier; chain = h.ends.chain; count = up_to _ b c h.ends.count l }; zero_cost = h.zero_cost; solution = h.solution }

pub more_refuted : (p : linear.Problem) (b c : ℕ) (y : List ℚ) → b ≤ c → IsRefutedWithin p b y → IsRefutedWithin p c y
more_refuted p b c y l h =
    record { basis = h.basis; ends = record { earlier = h.ends.earlier; chain = h.ends.chain; count = up_to _ b c h.ends.count l }; final = h.final; farkas = h.farkas }

more_decided : (p : linear.Problem) (b c : ℕ) → b ≤ c → IsDecidedWithin p b → IsDecidedWithin p c
more_decided p b c l h = ⊎_elim (λ s. inl (s.0, more_solved p b c s.0 l s.1)) (λ r. inr (r.0, more_refuted p b c r.0 l r.1)) h

more_prices : (f : Form) (b c : ℕ) (walk : List Visit) → b ≤ c → HasPricesWithin f b walk → HasPricesWithin f c walk
more_prices f b c walk l h =
    All-weaker (λ v. IsStationary f v.point → IsDecidedWithin (price_problem f v.point) b) (λ v. IsStationary f v.point → IsDecidedWithin (price_problem f v.point) c)
    (λ v d st. more_decided (price_problem f v.point) b c l (d st)) walk h

more_found : (p : Program) (region : Region) (b c : ℕ) (x : List ℚ) → b ≤ c → IsFound p region b x → IsFound p region c x
more_found p region b c x l h = record { solution = h.solution; solved = more_solved (feasible_problem (form_of p region)) b c h.solution l h.solved; point = h.point }

pub more_answers : (p : Program) (region : Region) (b c : ℕ) (answer : Answer) → b ≤ c → IsAnswer p region b answer → IsAnswer p region c answer
more_answers p region b c (Empty y) l h = record { farkas = h.farkas; refuted = more_refuted (feasible_problem (form_of p region)) b c h.farkas l h.refuted; multipliers = h.multipliers }
more_answers p region b c (Ray x d) l h =
    record { found = more_found p region b c x l h.found; ray = h.ray; solved = more_solved (ray_problem (form_of p region)) b c h.ray l h.solved; direction = h.direction }
more_answers p region b c (Best x least y) l h = record {
  start = h.start;
  solved = more_solved (feasible_problem (form_of p region)) b c h.start l h.solved;
  no_ray = (h.no_ray.0, more_refuted (ray_problem (form_of p region)) b c h.no_ray.0 l h.no_ray.1);
  newest = h.newest;
  earlier = h.earlier;
  walk = h.walk;
  stationary = h.stationary;
  farkas = h.farkas;
  refuted = more_refuted (price_problem (form_of p region) h.newest.point) b c h.farkas l h.refuted;
  prices = more_prices (form_of p region) b c (h.newest ∷ h.earlier) l h.prices;
  count = up_to _ b c h.count l;
  point = h.point;
  value = h.value;
  multipliers = h.multipliers;
}

-- ---- some answer

some_prices : (n : ℕ) (f : Form) → IsForm n f → (walk : List Visit) → (budget : ℕ) × HasPricesWithin f budget walk
some_prices n f form [] = (0, All-nil (λ v. IsStationary f v.point → IsDecidedWithin (price_problem f v.point) 0))
some_prices n f form (v ∷ walk) =
    let e = some_end (price_problem f v.point) (prices_form_a_problem n f v.point form) in
    let r = some_prices n f form walk in (
      e.0 + r.0,
      All-cons (λ v. IsStationary f v.point → IsDecidedWithin (price_problem f v.point) (e.0 + r.0)) v walk (λ st. more_decided (price_problem f v.point) e.0 (e.0 + r.0) (omega arith) e.1)
          (more_prices f r.0 (e.0 + r.0) walk (omega arith) r.1),
    )

module _ (p : Program) (region : Region) (is : IsProgram p) (wide : length region ≡ length p.columns) (semi : IsSemidefinite (length p.columns) p.pairs) where
  abbrev f : Form
  f = form_of p region

  fits : IsForm (width p region) f
  fits = shape p region is wide

  abbrev pub Told : Type 0
  Told = (budget : ℕ) × (answer : Answer) × IsAnswer p region budget answer

  best : (b c e : ℕ) (start w farkas : List ℚ) (newest : Visit) (earlier : List Visit) → IsSolvedWithin (feasible_problem f) b start → IsRefutedWithin (ray_problem f) c w
      → IsWalkFrom (width p region) f start (newest ∷ earlier) → IsStationary f newest.point → IsRefutedWithin (price_problem f newest.point) e farkas → Told
  best b c e start w farkas newest earlier solved no_ray walk still refuted =
      let r = some_prices (width p region) f fits (newest ∷ earlier) in
      let k = price_steps (newest ∷ earlier) in (
        b + c + e + r.0 + k,
        Best (point_of region newest.point) (value p (point_of region newest.point)) (multipliers_of p region (price_multipliers f farkas)),
        record {
          start = start;
          solved = more_solved (feasible_problem f) b (b + c + e + r.0 + k) start (omega arith) solved;
          no_ray = (w, more_refuted (ray_problem f) c (b + c + e + r.0 + k) w (omega arith) no_ray);
          newest = newest;
          earlier = earlier;
          walk = walk;
          stationary = still;
          farkas = farkas;
          refuted = more_refuted (price_problem f newest.point) e (b + c + e + r.0 + k) farkas (omega arith) refuted;
          prices = more_prices f r.0 (b + c + e + r.0 + k) (newest ∷ earlier) (omega arith) r.1;
          count = omega arith;
          point = refl;
          value = refl;
          multipliers = refl;
        },
      )

  walked : (b c : ℕ) (start w : List ℚ) → IsSolvedWithin (feasible_problem f) b start → IsRefutedWithin (ray_problem f) c w → Told
  walked b c start w solved no_ray =
      let t = some_walk (width p region) f fits (semidefinite p region is wide semi) start (start_solves (width p region) f start fits (b, solved))
      (λ r. refuted_has_none (width p region) f r w fits (refuted_is_farkas (ray_problem f) (rays_form_a_problem (width p region) f fits) c w no_ray)) in
      best b c t.refuted.0 start w t.farkas t.newest t.earlier solved no_ray t.walk t.stationary t.refuted.1

  rays : (b : ℕ) (start : List ℚ) → IsSolvedWithin (feasible_problem f) b start → (budget : ℕ) × IsDecidedWithin (ray_problem f) budget → Told
  rays b start solved e = ⊎_elim
      (λ s. (
        b + e.0,
        Ray (point_of region start) (direction_of region s.0),
        record {
          found = record { solution = start; solved = more_solved (feasible_problem f) b (b + e.0) start (omega arith) solved; point = refl };
          ray = s.0;
          solved = more_solved (ray_problem f) e.0 (b + e.0) s.0 (omega arith) s.1;
          direction = refl;
        },
      ))
      (λ r. walked b e.0 start r.0 solved r.1) e.1

  pub some_answer : Told
  some_answer = by (some_end (feasible_problem f) (feasible_is_a_problem (width p region) f fits))
    where
      by : (budget : ℕ) × IsDecidedWithin (feasible_problem f) budget → Told
      by e = ⊎_elim (λ s. rays e.0 s.0 s.1 (some_end (ray_problem f) (rays_form_a_problem (width p region) f fits)))
          (λ r. (e.0, Empty (multipliers_of p region (map neg_ℚ r.0)), record { farkas = r.0; refuted = r.1; multipliers = refl })) e.1

-- ---- a budget that is always enough

abbrev pub enough : Program → Region → ℕ
enough p region = 2 ^ (width p region + width p region + length (form_of p region).matrix + 1)

AreShort : linear.Problem → ℕ → Type 0
AreShort p room = (chain : List Tableau) → IsChain p chain → length chain ≤ room

near_solved : (p : linear.Problem) (b room : ℕ) (x : List ℚ) → AreShort p room → IsSolvedWithin p b x → IsSolvedWithin p room x
unfolding AreShort
near_solved p b room x short h =
    let l = short (h.basis ∷ h.ends.earlier) h.ends.chain in
    record { basis = h.basis; ends = record { earlier = h.ends.earlier; chain = h.ends.chain; count = omega arith }; zero_cost = h.zero_cost; solution = h.solution }

near_refuted : (p : linear.Problem) (b room : ℕ) (y : List ℚ) → AreShort p room → IsRefutedWithin p b y → IsRefutedWithin p room y
unfolding AreShort
near_refuted p b room y short h =
    let l = short (h.basis ∷ h.ends.earlier) h.ends.chain in
    record { basis = h.basis; ends = record { earlier = h.ends.earlier; chain = h.ends.chain; count = omega arith }; final = h.final; farkas = h.farkas }

near_decided : (p : linear.Problem) (b room : ℕ) → AreShort p room → IsDecidedWithin p b → IsDecidedWithin p room
near_decided p b room short h = ⊎_elim (λ s. inl (s.0, near_solved p b room s.0 short s.1)) (λ r. inr (r.0, near_refuted p b room r.0 short r.1)) h

module _ (p : Program) (region : Region) (is : IsProgram p) (wide : length region ≡ length p.columns) (semi : IsSemidefinite (length p.columns) p.pairs) where
  abbrev g : Form
  g = form_of p region

  abbrev room : ℕ
  room = enough p region

  fit : IsForm (width p region) g
  fit = shape p region is wide

  convex : IsSemidefinite (width p region) g.quadratic
  convex = semidefinite p region is wide semi

  feasible_near : AreShort (feasible_problem g) room
  unfolding AreShort
  feasible_near chain h = feasible_short (width p region) g chain fit h

  rays_near : AreShort (ray_problem g) room
  unfolding AreShort
  rays_near chain h = ray_short (width p region) g chain fit h

  prices_near : (z : List ℚ) → IsSolution g z → AreShort (price_problem g z) room
  unfolding AreShort
  prices_near z sol chain h = price_short (width p region) g z chain fit sol h

  near_prices : (b : ℕ) (walk : List Visit) → All (λ v. IsSolution g v.point) walk → HasPricesWithin g b walk → HasPricesWithin g room walk
  near_prices b walk sols h i d l st = near_decided (price_problem g _) b room (prices_near _ (sols i d l)) (h i d l st)

  few : (k n m : ℕ) → suc k ≤ 2 ^ n → k ≤ 2 ^ (n + n + m + 1)
  few k n m h = let w : 2 ^ n ≤ 2 ^ (n + n + m + 1) = pow-le-pow_right {n = 2} (omega arith) (omega arith) in omega (arith, h, w)

  near_best : (b : ℕ) (x : List ℚ) (least : ℚ) (y : List ℚ) → IsBest p region b x least y → IsBest p region room x least y
  near_best b x least y h =
      let start = start_solves (width p region) g h.start fit (b, h.solved) in
      let sols = all_solve (width p region) g fit convex h.start start (h.newest ∷ h.earlier) h.walk in
      record {
        start = h.start;
        solved = near_solved (feasible_problem g) b room h.start feasible_near h.solved;
        no_ray = (h.no_ray.0, near_refuted (ray_problem g) b room h.no_ray.0 rays_near h.no_ray.1);
        newest = h.newest;
        earlier = h.earlier;
        walk = h.walk;
        stationary = h.stationary;
        farkas = h.farkas;
        refuted = near_refuted (price_problem g h.newest.point) b room h.farkas
            (prices_near h.newest.point (newest_solves (width p region) g fit convex h.start start h.newest h.earlier h.walk)) h.refuted;
        prices = near_prices b (h.newest ∷ h.earlier) sols h.prices;
        count = few (price_steps (h.newest ∷ h.earlier)) (width p region) (length g.matrix) (few_prices (width p region) g fit convex h.start start (h.newest ∷ h.earlier) h.walk);
        point = h.point;
        value = h.value;
        multipliers = h.multipliers;
      }

  pub near_answer : (b : ℕ) (answer : Answer) → IsAnswer p region b answer → IsAnswer p region room answer
  near_answer b (Empty y) h = record { farkas = h.farkas; refuted = near_refuted (feasible_problem g) b room h.farkas feasible_near h.refuted; multipliers = h.multipliers }
  near_answer b (Ray x d) h = record {
    found = record { solution = h.found.solution; solved = near_solved (feasible_problem g) b room h.found.solution feasible_near h.found.solved; point = h.found.point };
    ray = h.ray;
    solved = near_solved (ray_problem g) b room h.ray rays_near h.solved;
    direction = h.direction;
  }
  near_answer b (Best x least y) h = near_best b x least y h

  pub answer_within : (answer : Answer) × IsAnswer p region room answer
  answer_within = let t = some_answer p region is wide semi in (t.1, near_answer t.0 t.1 t.2)
