-- Bounds that are cut, and the first crossed column.
use Rattle.std.specs.Prelude.{◌≡◌, ℕ, zero, suc, ◌+◌, ◌<◌, List, [], ◌∷◌, length, Option, Some, None, Bool, true, false, not, position}
use Rattle.std.proofs.Common.{refl, arith, get_or, set, ap, sym, ◌∙◌, cond, true≢false, subst, inl, inr}
use Rattle.std.proofs.lemmas.Bool.{cases_lt}
use Rattle.std.specs.Option.{option_map}
use Rattle.rational.specs.Rational.{ℚ}
use Rattle.program_law.proofs.Numbers.{lt_tested, lt_test}
use Rattle.rational.specs.Tests.{is_le}
use Rattle.program_law.specs.declared.Row.{Row}
use Rattle.program_law.specs.Region.{Region, smaller, larger, cut_high, cut_low, IsCrossed, IsCrossedAt, is_above}
use Rattle.program_regions.specs.Regions.{is_crossed, first_crossed}
use Rattle.named_things.proofs.NamedLemmas.{position-cons}

pub high_is : (bs : Region) (j : ℕ) (k : ℚ) (x : Row) → j < length bs → x ≡ get_or bs j x → set bs j (record { low = x.low; high = smaller x.high k }) ≡ cut_high bs j k
high_is [] j k x h e = absurd (omega (arith, h))
high_is (b ∷ bs) zero k x h e = ap (λ (r : Row). record { low = r.low; high = smaller r.high k } ∷ bs) e
high_is (b ∷ bs) (suc j) k x h e = ap (λ (rs : Region). b ∷ rs) (high_is bs j k x (omega (arith, h)) e)

pub low_is : (bs : Region) (j : ℕ) (k : ℚ) (x : Row) → j < length bs → x ≡ get_or bs j x → set bs j (record { low = larger x.low k; high = x.high }) ≡ cut_low bs j k
low_is [] j k x h e = absurd (omega (arith, h))
low_is (b ∷ bs) zero k x h e = ap (λ (r : Row). record { low = larger r.low k; high = r.high } ∷ bs) e
low_is (b ∷ bs) (suc j) k x h e = ap (λ (rs : Region). b ∷ rs) (low_is bs j k x (omega (arith, h)) e)

-- ---- crossed bounds

crossed_if : (b : Row) → is_crossed b ≡ true → IsCrossed b
crossed_if b e = by b.low b.high refl refl e
  where
    turned : (t : Bool) → not t ≡ true → t ≡ false
    turned true e = sym e
    turned false e = refl

    by : (l h : Option ℚ) → b.low ≡ l → b.high ≡ h → is_above l h ≡ true → IsCrossed b
    by None h p q e = absurd (true≢false (sym e))
    by (Some l) None p q e = absurd (true≢false (sym e))
    by (Some l) (Some h) p q e = record { low = l; high = h; has_low = p; has_high = q; above = lt_tested l h (turned (is_le l h) e) }

if_crossed : (b : Row) → IsCrossed b → is_crossed b ≡ true
if_crossed b c = ap (λ (o : Option ℚ). is_above o b.high) c.has_low ∙ ap (is_above (Some c.low)) c.has_high ∙ ap not (lt_test c.low c.high c.above)

-- the first place by recursion
abbrev place_from : Bool → Option ℕ → Option ℕ
place_from here rest = cond here (Some 0) (option_map suc rest)

pub position_there : {A : Type 0} (p : A → Bool) (xs : List A) (i : ℕ) (d : A) → i < length xs → p (get_or xs i d) ≡ true → ((k : ℕ) (d : A) → k < i → p (get_or xs k d) ≡ false) → position p xs ≡ Some i
position_there p [] i d h here before = absurd (omega (arith, h))
position_there p (x ∷ xs) zero d h here before = position-cons p x xs ∙ ap (λ (b : Bool). place_from b (position p xs)) here
position_there p (x ∷ xs) (suc i) d h here before =
    let rest = position_there p xs i d (omega (arith, h)) here (λ k d lt. before (suc k) d (omega (arith, lt))) in
    position-cons p x xs ∙ ap (λ (b : Bool). place_from b (position p xs)) (before 0 d (omega arith)) ∙ ap (λ (o : Option ℕ). option_map suc o) rest

pub position_nowhere : {A : Type 0} (p : A → Bool) (xs : List A) → ((k : ℕ) (d : A) → k < length xs → p (get_or xs k d) ≡ false) → position p xs ≡ None
position_nowhere p [] before = refl
position_nowhere p (x ∷ xs) before =
    position-cons p x xs ∙ ap (λ (b : Bool). place_from b (position p xs)) (before 0 x (omega arith)) ∙ ap (λ (o : Option ℕ). option_map suc o) (position_nowhere p xs (λ k d lt. before (suc k) d (omega (arith, lt))))

pub crossed_there : (bs : Region) (j : ℕ) → first_crossed bs ≡ Some j → IsCrossedAt bs j
crossed_there [] j e = absurd (cc)
crossed_there (b ∷ bs) j e = by (is_crossed b) (first_crossed bs) refl j (sym (position-cons is_crossed b bs) ∙ e) (crossed_there bs)
  where
    by : (here : Bool) (rest : Option ℕ) → is_crossed b ≡ here → (j : ℕ) → place_from here rest ≡ Some j → ((i : ℕ) → rest ≡ Some i → IsCrossedAt bs i) → IsCrossedAt (b ∷ bs) j
    by true rest e zero p below = crossed_if b e
    by true rest e (suc j) p below = absurd (cc)
    by false None e j p below = absurd (cc)
    by false (Some i) e zero p below = absurd (cc)
    by false (Some i) e (suc j) p below = below j (cc)

pub crossed_nowhere : (bs : Region) (j : ℕ) → first_crossed bs ≡ None → IsCrossedAt bs j → ⊥
crossed_nowhere [] j e c = c
crossed_nowhere (b ∷ bs) j e c = by (is_crossed b) (first_crossed bs) refl (sym (position-cons is_crossed b bs) ∙ e) (crossed_nowhere bs) j c
  where
    by : (here : Bool) (rest : Option ℕ) → is_crossed b ≡ here → place_from here rest ≡ None → ((i : ℕ) → rest ≡ None → IsCrossedAt bs i → ⊥) → (j : ℕ) → IsCrossedAt (b ∷ bs) j → ⊥
    by true rest e p below j c = absurd (cc)
    by false None e p below zero c = true≢false (sym (if_crossed b c) ∙ e)
    by false None e p below (suc j) c = below j refl c
    by false (Some i) e p below j c = absurd (cc)

-- one more column that isn't crossed
pub none_more : (bs : Region) (j : ℕ) → ((k : ℕ) (d : Row) → k < j → is_crossed (get_or bs k d) ≡ false) → ((d : Row) → is_crossed (get_or bs j d) ≡ false) → (k : ℕ) (d : Row) → k < j + 1 → is_crossed (get_or bs k d) ≡ false
none_more bs j before here k d h =
    elim (cases_lt k j) [
      | inl lt ↦ before k d lt
      | inr le ↦ let e : k ≡ j = omega (arith, le, h) in subst (λ (i : ℕ). is_crossed (get_or bs i d) ≡ false) (sym e) (here d)
    ]
