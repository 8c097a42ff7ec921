-- One turn of rounding's loop over the columns.
use Rattle.std.specs.Prelude.{◌≡◌, ◌⊎◌, ℕ, zero, suc, ◌+◌, ◌<◌, ◌≤◌, ℤ, pos, ◌+ℤ◌, List, [], ◌∷◌, ◌++◌, length, Some, Bool, true, false}
use Rattle.std.proofs.Common.{refl, sym, ◌∙◌, ap, subst, cond, arith, inl, inr}
use Rattle.std.proofs.lemmas.Bool.{cases_lt}
use Rattle.std.proofs.lemmas.List.{length-map}
use Rattle.rational.specs.Rational.{whole}
use Rattle.rational.proofs.Floors.{lt-floor}
use Rattle.rational.proofs.Order.{lt_le}
use Rattle.rational.proofs.Wholes.{den-whole}
use Rattle.program_law.proofs.Numbers.{le_test, lt_test}
use Rattle.program_law.specs.declared.Row.{Row}
use Rattle.program_law.specs.Region.{Region, smaller, larger, left_of, right_of, IsCrossedRegion, bounds_at}
use Rattle.program_law.specs.Program.{Program, bounds, marks, is_marked}
use Rattle.branching_law.specs.declared.Cut.{Cut}
use Rattle.branching_law.specs.declared.Cut.TheVariants.{Below, Above}
use Rattle.branching_law.specs.declared.Turn.{Turn}
use Rattle.branching_law.specs.Paths.{half_of, region_of, below, above, IsFirst}
use Rattle.branching_law.specs.Rounding.{IsMarkedAt, IsFractional, HasFractionalBound, IsBroken, Rounds, AreRoundingTurns, IsRounding, IsRoundingTo}
use Rattle.branching_law.proofs.PathRegions.{behind_last}
use Rattle.branching_law.proofs.Floors.{above_floor}
use Rattle.branching_law.proofs.RoundedTrees.{no_bound}
use Rattle.branching_law.proofs.RoundingTurns.{last_turn, broken_is_fractional}

-- ---- bounds behind a turn

no_less : (i : ℕ) → i < 0 → ⊥
no_less i h = omega arith

less_by_one : (i j : ℕ) → suc i < suc j → i < j
less_by_one i j h = omega arith

other_bounds : (c : Cut) (bs : Region) (j : ℕ) (k : ℤ) (i : ℕ) → i < j → bounds_at (half_of c bs j k) i ≡ bounds_at bs i
other_bounds Below [] j k i h = refl
other_bounds Above [] j k i h = refl
other_bounds c (b ∷ bs) zero k i h = absurd (no_less i h)
other_bounds Below (b ∷ bs) (suc j) k zero h = refl
other_bounds Above (b ∷ bs) (suc j) k zero h = refl
other_bounds Below (b ∷ bs) (suc j) k (suc i) h = other_bounds Below bs j k i (less_by_one i j h)
other_bounds Above (b ∷ bs) (suc j) k (suc i) h = other_bounds Above bs j k i (less_by_one i j h)

raised_low : (bs : Region) (j : ℕ) (k : ℤ) → IsBroken (bounds_at bs j).low k → (bounds_at (right_of bs j k) j).low ≡ Some (whole (k +ℤ pos 1))
raised_low [] j k h = no_bound h.value h.there
raised_low (b ∷ bs) zero k h =
    ap (λ o. larger o (whole (k +ℤ pos 1))) h.there
    ∙ ap (λ t. Some (cond t (whole (k +ℤ pos 1)) h.value)) (le_test h.value (whole (k +ℤ pos 1)) (lt_le h.value (whole (k +ℤ pos 1)) (lt-floor k h.value h.floor)))
raised_low (b ∷ bs) (suc j) k h = raised_low bs j k h

lowered_high : (bs : Region) (j : ℕ) (k : ℤ) → IsBroken (bounds_at bs j).high k → (bounds_at (left_of bs j k) j).high ≡ Some (whole k)
lowered_high [] j k h = no_bound h.value h.there
lowered_high (b ∷ bs) zero k h =
    ap (λ o. smaller o (whole k)) h.there
    ∙ ap (λ t. Some (cond t h.value (whole k))) (lt_test h.value (whole k) (above_floor k h.value h.floor h.fractional))
lowered_high (b ∷ bs) (suc j) k h = lowered_high bs j k h

same_low : (bs : Region) (j : ℕ) (k : ℤ) → (bounds_at (left_of bs j k) j).low ≡ (bounds_at bs j).low
same_low [] j k = refl
same_low (b ∷ bs) zero k = refl
same_low (b ∷ bs) (suc j) k = same_low bs j k

not_fractional : (k : ℤ) → ¬ (IsFractional (Some (whole k)))
not_fractional k f = f (den-whole k)

-- ---- the loop

pub starts : (p : Program) → IsRoundingTo p [] 0
starts p = record { turns_due = tt; whole_before = λ i h. absurd (no_less i h) }

kept_before : (p : Program) (turns : List Turn) (j : ℕ) (t : Turn) → t.column ≡ j → IsRoundingTo p turns j
    → (i : ℕ) → i < j → ¬ (HasFractionalBound p (region_of p (turns ++ t ∷ [])) i)
kept_before p turns j t e h i l f =
    let same : bounds_at (region_of p (turns ++ t ∷ [])) i ≡ bounds_at (region_of p turns) i =
    ap (λ r. bounds_at r i) (behind_last (bounds p) turns t) ∙ other_bounds t.cut (region_of p turns) t.column t.k i (subst (λ (n : ℕ). i < n) (sym e) l) in
    h.whole_before i l (record { marked = f.marked; fractional = subst (λ (b : Row). IsFractional b.low ⊎ IsFractional b.high) same f.fractional })

due : (p : Program) (turns : List Turn) (j : ℕ) (t : Turn) → t.column ≡ j → IsRoundingTo p turns j → IsMarkedAt p j → (IsCrossedRegion (region_of p turns) → ⊥)
    → IsFractional (bounds_at (region_of p turns) j).low ⊎ IsFractional (bounds_at (region_of p turns) j).high → Rounds t.cut t.k (bounds_at (region_of p turns) j)
    → AreRoundingTurns p (bounds p) (turns ++ t ∷ [])
due p turns j t e h m uncrossed f r =
    last_turn p (bounds p) turns t h.turns_due (record {
      uncrossed = uncrossed;
      first = subst (IsFirst (HasFractionalBound p (region_of p turns))) (sym e) (record { holds = record { marked = m; fractional = f }; not_before = h.whole_before });
      rounds = subst (λ (n : ℕ). Rounds t.cut t.k (bounds_at (region_of p turns) n)) (sym e) r;
    })

pub raise_low : (p : Program) (turns : List Turn) (j : ℕ) (k : ℤ) → IsRoundingTo p turns j → IsMarkedAt p j → (IsCrossedRegion (region_of p turns) → ⊥) → IsBroken (bounds_at (region_of p turns) j).low k
    → IsRoundingTo p (turns ++ above j k ∷ []) j × (¬ (IsFractional (bounds_at (region_of p (turns ++ above j k ∷ [])) j).low))
raise_low p turns j k h m uncrossed broken =
    let low : (bounds_at (region_of p (turns ++ above j k ∷ [])) j).low ≡ Some (whole (k +ℤ pos 1)) =
    ap (λ r. (bounds_at r j).low) (behind_last (bounds p) turns (above j k)) ∙ raised_low (region_of p turns) j k broken in (
      record {
        turns_due = due p turns j (above j k) refl h m uncrossed (inl (broken_is_fractional (bounds_at (region_of p turns) j).low k broken)) broken;
        whole_before = kept_before p turns j (above j k) refl h;
      },
      λ f. not_fractional (k +ℤ pos 1) (subst IsFractional low f),
    )

before_next : (P : ℕ → Type 0) (j : ℕ) → ((i : ℕ) → i < j → P i) → P j → (i : ℕ) → i < j + 1 → P i
before_next P j h last i l =
    elim (cases_lt i j) [
      | inl less ↦ h i less
      | inr more ↦ let e : j ≡ i = omega (arith, l, more) in subst P e last
    ]

pub next_column : (p : Program) (turns : List Turn) (j : ℕ) → IsRoundingTo p turns j → ¬ (HasFractionalBound p (region_of p turns) j) → IsRoundingTo p turns (j + 1)
next_column p turns j h none = record {
  turns_due = h.turns_due;
  whole_before = before_next (λ i. ¬ (HasFractionalBound p (region_of p turns) i)) j h.whole_before none;
}

pub lower_high : (p : Program) (turns : List Turn) (j : ℕ) (k : ℤ) → IsRoundingTo p turns j → IsMarkedAt p j → (IsCrossedRegion (region_of p turns) → ⊥)
    → ¬ (IsFractional (bounds_at (region_of p turns) j).low) → IsBroken (bounds_at (region_of p turns) j).high k → IsRoundingTo p (turns ++ below j k ∷ []) (j + 1)
lower_high p turns j k h m uncrossed whole_low broken =
    let high : (bounds_at (region_of p (turns ++ below j k ∷ [])) j).high ≡ Some (whole k) =
    ap (λ r. (bounds_at r j).high) (behind_last (bounds p) turns (below j k)) ∙ lowered_high (region_of p turns) j k broken in
    let low : (bounds_at (region_of p (turns ++ below j k ∷ [])) j).low ≡ (bounds_at (region_of p turns) j).low =
    ap (λ r. (bounds_at r j).low) (behind_last (bounds p) turns (below j k)) ∙ same_low (region_of p turns) j k in
    next_column p (turns ++ below j k ∷ []) j
    (record {
      turns_due = due p turns j (below j k) refl h m uncrossed (inr (broken_is_fractional (bounds_at (region_of p turns) j).high k broken)) (whole_low, broken);
      whole_before = kept_before p turns j (below j k) refl h;
    })
    (λ f. elim f.fractional [ inl a ↦ whole_low (subst IsFractional low a) | inr b ↦ not_fractional k (subst IsFractional high b) ])

past_the_marks : (ms : List Bool) (j : ℕ) → length ms ≤ j → is_marked ms j ≡ true → ⊥
past_the_marks [] j h e = bad e
  where
    bad : false ≡ true → ⊥
    bad e = cc
past_the_marks (m ∷ ms) zero h e = more (length ms) h
  where
    more : (n : ℕ) → suc n ≤ 0 → ⊥
    more n h = omega arith
past_the_marks (m ∷ ms) (suc j) h e = past_the_marks ms j (less (length ms) j h) e
  where
    less : (n j : ℕ) → suc n ≤ suc j → n ≤ j
    less n j h = omega arith

pub all_columns : (p : Program) (turns : List Turn) → IsRoundingTo p turns (length p.columns) → IsRounding p turns
all_columns p turns h = record {
  turns_due = h.turns_due;
  ends = inr (λ j f. elim (cases_lt j (length p.columns)) [
    | inl less ↦ h.whole_before j less f
    | inr more ↦ past_the_marks (marks p) j (let e : length (marks p) ≡ length p.columns = length-map p.columns _ in omega (arith, e, more)) f.marked
  ]);
}
