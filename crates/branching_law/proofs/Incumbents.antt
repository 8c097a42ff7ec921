-- The incumbent of a list of points, and what one point more makes of it.
use Rattle.std.specs.Prelude.{◌≡◌, ◌⊎◌, ℕ, ◌<◌, List, [], ◌∷◌, ◌++◌, Contains, Option, Some, None}
use Rattle.std.proofs.Common.{refl, sym, ◌∙◌, ap, subst, inl, inr, append_assoc, arith}
use Rattle.std.proofs.lemmas.List.Elements.{Contains-append_right, Contains-append_cases, Contains-push_cases}
use Rattle.rational.specs.Rational.{ℚ}
use Rattle.rational.specs.Order.{◌≤ℚ◌, ◌<ℚ◌}
use Rattle.rational.proofs.Order.{lt_le, le_refl}
use Rattle.rational.proofs.OrderLaws.{le_trans, lt-le_trans}
use Rattle.program_law.specs.Program.{Program, marks}
use Rattle.program_law.specs.Columns.{AreWholeOn, value}
use Rattle.branching_law.specs.Nodes.{IsKept, IsBelowKept, IsNotBelowKept}
use Rattle.branching_law.specs.Found.{IsFirstLeast, IsIncumbent}
use Rattle.branching_law.proofs.Trees.{first_of}

not_below_zero : (k : ℕ) → k < 0 → ⊥
not_below_zero k h = omega arith

pub nothing_in : {P : Type 0} {A : Type 0} (x : A) → Contains [] x → P
nothing_in x c = absurd (not_below_zero c.0 c.1)

-- the first, or a later one
pub head_or : {A : Type 0} (x : A) (xs : List A) (y : A) → Contains (x ∷ xs) y → (x ≡ y) ⊎ Contains xs y
head_or x xs y c =
    elim (Contains-append_cases (x ∷ []) xs y c) [
      | inl h ↦ elim (Contains-push_cases [] x y h) [ inl k ↦ nothing_in y k | inr k ↦ inl k ]
      | inr h ↦ inr h
    ]

module _ (p : Program) (points : List (List ℚ)) where
  pub first_is_kept : (x : List ℚ) → IsFirstLeast p points x → IsKept p points x
  first_is_kept x h = record {
    among = subst (λ (xs : List (List ℚ)). Contains xs x) (sym h.among) (Contains-append_right h.before (x ∷ h.later) x (first_of x h.later));
    whole = h.whole;
  }

  pub first_is_least : (x : List ℚ) → IsFirstLeast p points x → (w : List ℚ) → IsKept p points w → value p x ≤ℚ value p w
  first_is_least x h w k =
      elim (Contains-append_cases h.before (x ∷ h.later) w (subst (λ (xs : List (List ℚ)). Contains xs w) h.among k.among)) [
        | inl a ↦ lt_le (value p x) (value p w) (h.below_before w (record { among = a; whole = k.whole }))
        | inr b ↦ elim (head_or x h.later w b) [
          | inl e ↦ subst (λ (u : List ℚ). value p x ≤ℚ value p u) e (le_refl (value p x))
          | inr c ↦ h.not_above_later w (record { among = c; whole = k.whole })
        ]
      ]

  pub better : (x : List ℚ) → AreWholeOn (marks p) x → IsBelowKept p points (value p x) → IsIncumbent p (points ++ x ∷ []) (Some x)
  better x w below = record {
    before = points;
    later = [];
    among = refl;
    whole = w;
    below_before = below;
    not_above_later = λ u k. nothing_in u k.among;
  }

  pub stays : (o : Option (List ℚ)) (x : List ℚ) → IsIncumbent p points o → (¬ (AreWholeOn (marks p) x)) ⊎ IsNotBelowKept p points (value p x) → IsIncumbent p (points ++ x ∷ []) o
  stays None x h n =
      λ w k. elim (Contains-push_cases points x w k.among) [
        | inl a ↦ h w (record { among = a; whole = k.whole })
        | inr e ↦ elim n [
          | inl not_whole ↦ not_whole (subst (AreWholeOn (marks p)) (sym e) k.whole)
          | inr other ↦ h other.0 other.1
        ]
      ]
  stays (Some b) x h n = record {
    before = h.before;
    later = h.later ++ x ∷ [];
    among = ap (λ (t : List (List ℚ)). t ++ x ∷ []) h.among ∙ append_assoc h.before (b ∷ h.later) (x ∷ []);
    whole = h.whole;
    below_before = h.below_before;
    not_above_later = λ w k. elim (Contains-push_cases h.later x w k.among) [
      | inl a ↦ h.not_above_later w (record { among = a; whole = k.whole })
      | inr e ↦ elim n [
        | inl not_whole ↦ absurd (not_whole (subst (AreWholeOn (marks p)) (sym e) k.whole))
        | inr other ↦ subst (λ (u : List ℚ). value p b ≤ℚ value p u) e (le_trans (first_is_least b h other.0 other.1) other.2)
      ]
    ];
  }

  pub not_below : (b : List ℚ) (v : ℚ) → IsIncumbent p points (Some b) → value p b ≤ℚ v → IsNotBelowKept p points v
  not_below b v h l = (b, first_is_kept b h, l)

  pub below_all : (o : Option (List ℚ)) (v : ℚ) → IsIncumbent p points o → ((b : List ℚ) → o ≡ Some b → v <ℚ value p b) → IsBelowKept p points v
  below_all None v h l = λ x k. absurd (h x k)
  below_all (Some b) v h l = λ x k. lt-le_trans (l b refl) (first_is_least b h x k)

pub no_incumbent : (p : Program) → IsIncumbent p [] None
no_incumbent p = λ x k. nothing_in x k.among
