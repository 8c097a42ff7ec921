-- Rounding is determined, and short.
use Rattle.std.specs.Prelude.{◌≡◌, ℕ, zero, suc, ◌+◌, ◌≤◌, ℤ, pos, ◌+ℤ◌, List, [], ◌∷◌, ◌++◌, length, Option, Some, None, Bool, true, false, nat_eq}
use Rattle.std.proofs.Common.{refl, sym, ◌∙◌, ap, subst, cond, arith, inl, inr}
use Rattle.std.proofs.lemmas.Bool.{cases_order}
use Rattle.std.proofs.lemmas.Bool.Decides.{nat_tests}
use Rattle.std.proofs.lemmas.List.{length-map}
use Rattle.rational.specs.Rational.{ℚ, whole}
use Rattle.rational.specs.Rounding.{IsFloor}
use Rattle.rational.proofs.Floors.{lt-floor}
use Rattle.rational.proofs.Order.{lt_le}
use Rattle.rational.proofs.Rounding.{IsFloor-unique}
use Rattle.rational.proofs.Wholes.{den-whole}
use Rattle.program_law.proofs.Numbers.{le_test, lt_test}
use Rattle.program_law.specs.declared.Row.{Row}
use Rattle.program_law.specs.Region.{Region, smaller, larger, bounds_at}
use Rattle.program_law.specs.Program.{Program, bounds, marks, is_marked}
use Rattle.program_law.specs.Columns.{IsWhole}
use Rattle.branching_law.specs.declared.Cut.{Cut}
use Rattle.branching_law.specs.declared.Cut.TheVariants.{Below, Above}
use Rattle.branching_law.specs.declared.Turn.{Turn}
use Rattle.branching_law.specs.Paths.{half_of, behind, region_behind, IsFirst}
use Rattle.branching_law.specs.Rounding.{IsFractional, HasFractionalBound, IsBroken, Rounds, IsRoundingTurn, AreRoundingTurns, IsRounded, IsRounding}
use Rattle.branching_law.proofs.Floors.{above_floor}
use Rattle.branching_law.proofs.RoundedTrees.{no_bound}

pub last_turn : (p : Program) (region : Region) (turns : List Turn) (t : Turn) → AreRoundingTurns p region turns → IsRoundingTurn p (region_behind region turns) t → AreRoundingTurns p region (turns ++ t ∷ [])
last_turn p region [] t due next = (next, tt)
last_turn p region (u ∷ turns) t due next = (due.0, last_turn p (behind region u) turns t due.1 next)

-- ---- determined

pub first_is_one : (P : ℕ → Type 0) (i j : ℕ) → IsFirst P i → IsFirst P j → i ≡ j
first_is_one P i j h k =
    elim (cases_order i j) [
      | inl same ↦ same
      | inr rest ↦ elim rest [ inl less ↦ absurd (k.not_before i less h.holds) | inr more ↦ absurd (h.not_before j more k.holds) ]
    ]

same_some : (a b : ℚ) → Some a ≡ Some b → a ≡ b
same_some a b e = cc

broken_is_one : (o : Option ℚ) (i k : ℤ) → IsBroken o i → IsBroken o k → i ≡ k
broken_is_one o i k h l =
    IsFloor-unique i k l.value (subst (IsFloor i) (same_some h.value l.value (sym h.there ∙ l.there)) h.floor) l.floor

pub broken_is_fractional : (o : Option ℚ) (k : ℤ) → IsBroken o k → IsFractional o
broken_is_fractional o k h = subst IsFractional (sym h.there) h.fractional

abbrev turn_of : Cut → ℕ → ℤ → Turn
turn_of c j k = record { cut = c; column = j; k = k }

same_turn : (c d : Cut) (i j : ℕ) (k l : ℤ) → c ≡ d → i ≡ j → k ≡ l → turn_of c i k ≡ turn_of d j l
same_turn c d i j k l e f g = ap (λ c. turn_of c i k) e ∙ ap (λ i. turn_of d i k) f ∙ ap (λ k. turn_of d j k) g

rounds_once : (c d : Cut) (i k : ℤ) (b : Row) → Rounds c i b → Rounds d k b → (c ≡ d) × (i ≡ k)
rounds_once Above Above i k b r s = (refl, broken_is_one b.low i k r s)
rounds_once Above Below i k b r s = absurd (s.0 (broken_is_fractional b.low i r))
rounds_once Below Above i k b r s = absurd (r.0 (broken_is_fractional b.low k s))
rounds_once Below Below i k b r s = (refl, broken_is_one b.high i k r.1 s.1)

turn_is_one : (p : Program) (region : Region) (t u : Turn) → IsRoundingTurn p region t → IsRoundingTurn p region u → t ≡ u
turn_is_one p region t u h l =
    let e = first_is_one (HasFractionalBound p region) t.column u.column h.first l.first in
    let s = rounds_once t.cut u.cut t.k u.k (bounds_at region u.column) (subst (λ (j : ℕ). Rounds t.cut t.k (bounds_at region j)) e h.rounds) l.rounds in
    same_turn t.cut u.cut t.column u.column t.k u.k s.0 e s.1

not_due : (p : Program) (region : Region) (t : Turn) → IsRounded p region → IsRoundingTurn p region t → ⊥
not_due p region t rounded due = elim rounded [ inl c ↦ due.uncrossed c | inr none ↦ none t.column due.first.holds ]

turns_are_one : (p : Program) (region : Region) (turns others : List Turn) → AreRoundingTurns p region turns → AreRoundingTurns p region others
    → IsRounded p (region_behind region turns) → IsRounded p (region_behind region others) → turns ≡ others
turns_are_one p region [] [] h l e f = refl
turns_are_one p region [] (u ∷ others) h l e f = absurd (not_due p region u e l.0)
turns_are_one p region (t ∷ turns) [] h l e f = absurd (not_due p region t f h.0)
turns_are_one p region (t ∷ turns) (u ∷ others) h l e f =
    let same = turn_is_one p region t u h.0 l.0 in
    let rest = turns_are_one p (behind region u) turns others (subst (λ (v : Turn). AreRoundingTurns p (behind region v) turns) same h.1) l.1
    (subst (λ (v : Turn). IsRounded p (region_behind (behind region v) turns)) same e) f in
    ap (λ v. v ∷ turns) same ∙ ap (λ vs. u ∷ vs) rest

pub rounding_is_one : (p : Program) (turns others : List Turn) → IsRounding p turns → IsRounding p others → turns ≡ others
rounding_is_one p turns others h l = turns_are_one p (bounds p) turns others h.turns_due l.turns_due h.ends l.ends

-- ---- short

abbrev none_if : Bool → ℕ
none_if true = 0
none_if false = 1

broken : Option ℚ → ℕ
broken None = 0
broken (Some q) = none_if (nat_eq q.den 1)

abbrev rough : Bool → Row → ℕ
rough true b = broken b.low + broken b.high
rough false b = 0

abbrev all_rough : List Bool → Region → ℕ
all_rough [] bs = 0
all_rough (m ∷ ms) [] = 0
all_rough (m ∷ ms) (b ∷ bs) = rough m b + all_rough ms bs

broken_small : (o : Option ℚ) → broken o ≤ 1
unfolding broken
broken_small None = omega arith
broken_small (Some q) = by (nat_eq q.den 1)
  where
    by : (b : Bool) → none_if b ≤ 1
    by true = omega arith
    by false = omega arith

broken_whole : (k : ℤ) → broken (Some (whole k)) ≡ 0
unfolding broken
broken_whole k = ap (λ d. none_if (nat_eq d 1)) (den-whole k)

broken_one : (q : ℚ) → ¬ (IsWhole q) → broken (Some q) ≡ 1
unfolding broken
broken_one q n = by (nat_eq q.den 1) refl
  where
    by : (b : Bool) → nat_eq q.den 1 ≡ b → none_if b ≡ 1
    by true e = absurd (n (equal q.den e))
      where
        equal : (d : ℕ) → nat_eq d 1 ≡ true → d ≡ 1
        equal d e = grind (arith, nat_tests)
    by false e = refl

all_rough_small : (ms : List Bool) (bs : Region) → all_rough ms bs ≤ length bs + length bs
all_rough_small [] bs = omega arith
all_rough_small (m ∷ ms) [] = omega arith
all_rough_small (true ∷ ms) (b ∷ bs) =
    let a = broken_small b.low in let c = broken_small b.high in let d = all_rough_small ms bs in omega (arith, a, c, d)
all_rough_small (false ∷ ms) (b ∷ bs) = let d = all_rough_small ms bs in omega (arith, d)

raised : (o : Option ℚ) (k : ℤ) → IsBroken o k → broken (larger o (whole (k +ℤ pos 1))) + 1 ≡ broken o
raised o k h =
    let e : larger o (whole (k +ℤ pos 1)) ≡ Some (whole (k +ℤ pos 1)) =
    ap (λ u. larger u (whole (k +ℤ pos 1))) h.there
    ∙ ap (λ b. Some (cond b (whole (k +ℤ pos 1)) h.value)) (le_test h.value (whole (k +ℤ pos 1)) (lt_le h.value (whole (k +ℤ pos 1)) (lt-floor k h.value h.floor))) in
    let f = ap broken e ∙ broken_whole (k +ℤ pos 1) in
    let g = ap broken h.there ∙ broken_one h.value h.fractional in
    omega (arith, f, g)

lowered : (o : Option ℚ) (k : ℤ) → IsBroken o k → broken (smaller o (whole k)) + 1 ≡ broken o
lowered o k h =
    let e : smaller o (whole k) ≡ Some (whole k) =
    ap (λ u. smaller u (whole k)) h.there
    ∙ ap (λ b. Some (cond b h.value (whole k))) (lt_test h.value (whole k) (above_floor k h.value h.floor h.fractional)) in
    let f = ap broken e ∙ broken_whole k in
    let g = ap broken h.there ∙ broken_one h.value h.fractional in
    omega (arith, f, g)

not_marked : {P : Type 0} → false ≡ true → P
not_marked e = absurd (bad e)
  where
    bad : false ≡ true → ⊥
    bad e = cc

broken_there : {P : Type 0} (c : Cut) (k : ℤ) → Rounds c k (record { low = None; high = None }) → P
broken_there Above k r = no_bound r.value r.there
broken_there Below k r = no_bound r.1.value r.1.there

one_less : (c : Cut) (ms : List Bool) (bs : Region) (j : ℕ) (k : ℤ) → is_marked ms j ≡ true → Rounds c k (bounds_at bs j) → all_rough ms (half_of c bs j k) + 1 ≡ all_rough ms bs
one_less c [] bs j k m r = not_marked m
one_less c (b ∷ ms) [] j k m r = broken_there c k r
one_less Above (true ∷ ms) (b ∷ bs) zero k m r = let e = raised b.low k r in omega (arith, e)
one_less Below (true ∷ ms) (b ∷ bs) zero k m r = let e = lowered b.high k r.1 in omega (arith, e)
one_less Above (false ∷ ms) (b ∷ bs) zero k m r = not_marked m
one_less Below (false ∷ ms) (b ∷ bs) zero k m r = not_marked m
one_less Above (a ∷ ms) (b ∷ bs) (suc j) k m r = let e = one_less Above ms bs j k m r in omega (arith, e)
one_less Below (a ∷ ms) (b ∷ bs) (suc j) k m r = let e = one_less Below ms bs j k m r in omega (arith, e)

turns_few : (p : Program) (region : Region) (turns : List Turn) → AreRoundingTurns p region turns → length turns + all_rough (marks p) (region_behind region turns) ≤ all_rough (marks p) region
turns_few p region [] h = omega arith
turns_few p region (t ∷ turns) h =
    let e = one_less t.cut (marks p) region t.column t.k h.0.first.holds.marked h.0.rounds in
    let i = turns_few p (behind region t) turns h.1 in
    omega (arith, e, i)

pub rounding_is_short : (p : Program) (turns : List Turn) → AreRoundingTurns p (bounds p) turns → length turns ≤ length p.columns + length p.columns
rounding_is_short p turns h =
    let a = turns_few p (bounds p) turns h in
    let b = all_rough_small (marks p) (bounds p) in
    let c : length (bounds p) ≡ length p.columns = length-map p.columns _ in
    omega (arith, a, b, c)
