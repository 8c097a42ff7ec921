-- A shrink step from a point z of a form, over n columns: within z's support, along the direction that the small system gives.
use Rattle.std.specs.Prelude.{Bool, false, if◌then◌else◌, ◌==◌, ◌+◌, ◌*◌, ◌≡◌, ◌⊎◌, ℕ, List, [], ◌∷◌, length, take}
use Rattle.rational.specs.Rational.{ℚ, zero_ℚ, one_ℚ, neg_ℚ, ◌/ℚ◌}
use Rattle.rational.specs.Order.{◌<ℚ◌, ◌≤ℚ◌}
use Rattle.rational.specs.Sums.{entry}
use Rattle.rational.specs.Vectors.{add_each, scale, zeros, put_at}
use Rattle.elimination_law.specs.Answers.{Answer, Solution, Refutation}
use Rattle.equational_law.specs.Form.{Form}
use Rattle.face_descent_law.specs.Small.{support, small_answer}

-- what the unknowns at the places of z's support are as a direction: 0 off the support
abbrev pub on_support : ℕ → List ℚ → List ℚ → List ℚ
on_support n z x = put_at n (support z) (take (length (support z)) x)

-- how far z can go along d until its entry at j is 0, where d falls there
abbrev pub distance : List ℚ → List ℚ → ℕ → ℚ
distance z d j = entry z j /ℚ neg_ℚ (entry d j)

-- s goes past no zero
abbrev pub IsWithin : List ℚ → List ℚ → ℚ → Type 0
IsWithin z d s = (j : ℕ) → entry d j <ℚ zero_ℚ → s ≤ℚ distance z d j

-- s goes to the nearest zero, which place has
pub record IsNearest (z d : List ℚ) (s : ℚ) : Type 0 where
  pub place : ℕ
  pub falls : entry d place <ℚ zero_ℚ
  pub there : s ≡ distance z d place
  pub within : IsWithin z d s

-- s is the smaller of 1 and the nearest zero
abbrev pub IsCapped : List ℚ → List ℚ → ℚ → Type 0
IsCapped z d s = ((s ≡ one_ℚ) × IsWithin z d s) ⊎ (IsNearest z d s × (s ≤ℚ one_ℚ))

-- from z along d as far as s
abbrev pub moved : List ℚ → List ℚ → ℚ → List ℚ
moved z d s = add_each z (scale s d)

-- the step where the small system has a solution whose e is not 0
pub record IsSolvedStep (n : ℕ) (f : Form) (z next : List ℚ) : Type 0 where
  pub unknowns : List ℚ
  pub solved : small_answer f z ≡ Solution unknowns
  pub moving : ¬ (take (length (support z)) unknowns ≡ zeros (length (support z)))
  pub step : ℚ
  pub capped : IsCapped z (on_support n z unknowns) step
  pub end : next ≡ moved z (on_support n z unknowns) step

-- the direction of a refutation whose number is v: as it is where v is above 0, and with changed signs elsewhere
pub record IsTurned (v : ℚ) (part d : List ℚ) : Type 0 where
  pub as_it_is : zero_ℚ <ℚ v → d ≡ part
  pub changed : ¬ (zero_ℚ <ℚ v) → d ≡ scale (neg_ℚ one_ℚ) part

-- the step where the small system is refuted: to the nearest zero
pub record IsRefutedStep (n : ℕ) (f : Form) (z next : List ℚ) : Type 0 where
  pub multipliers : List ℚ
  pub number : ℚ
  pub refuted : small_answer f z ≡ Refutation multipliers number
  pub direction : List ℚ
  pub turned : IsTurned number (on_support n z multipliers) direction
  pub step : ℚ
  pub nearest : IsNearest z direction step
  pub end : next ≡ moved z direction step

-- a shrink step
abbrev pub IsShrinkStep : ℕ → Form → List ℚ → List ℚ → Type 0
IsShrinkStep n f z next = IsSolvedStep n f z next ⊎ IsRefutedStep n f z next

-- the newest of the points that were reached from z, the newest first, and z where there is none
abbrev pub newest_point : List ℚ → List (List ℚ) → List ℚ
newest_point z [] = z
newest_point z (next ∷ earlier) = next

-- the points that a list of shrink steps from z reaches, the newest first: each is a step from the one before it, the first from z
abbrev pub AreShrinkSteps : ℕ → Form → List ℚ → List (List ℚ) → Type 0
AreShrinkSteps n f z [] = Unit {0}
AreShrinkSteps n f z (next ∷ earlier) = IsShrinkStep n f (newest_point z earlier) next × AreShrinkSteps n f z earlier

-- whether an answer is a solution whose first k entries are 0
abbrev pub is_still : ℕ → Answer → Bool
is_still k (Solution x) = length (support (take k x)) == 0
is_still k (Refutation w v) = false

-- what each shrink step makes smaller: twice the places of the support, and one more unless z is stationary
abbrev pub measure : Form → List ℚ → ℕ
measure f z = 2 * length (support z) + (if is_still (length (support z)) (small_answer f z) then 0 else 1)
