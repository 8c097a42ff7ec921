-- The row of a unit column, number by number.
use Rattle.std.proofs.Common.{◌≡◌, ◌≢◌, refl, sym, subst, ◌∙◌, ap, ℕ, suc, ◌+◌, ◌<◌, ℤ, pos, List, [], ◌∷◌, ◌++◌, length, arith, inl, inr}
use Rattle.std.specs.Prelude.{◌⊎◌}
use Rattle.std.proofs.lemmas.List.{length_push, get_or_push, get_or_append_left}
use Rattle.row_arithmetic.specs.Rows.{Row, IsUnitRow, number}
use Rattle.row_arithmetic.proofs.Places.{last_or_before}

-- the value, and the first i entries of the unit vector at k
pub record UnitSoFar (k : ℕ) (value : ℤ) (i : ℕ) (items : List ℤ) : Type 0 where
  pub size : length items ≡ i + 1
  pub value_first : number items 0 ≡ value
  pub one : k < i → number items (suc k) ≡ pos 1
  pub zero : (e : ℕ) → e < i → e ≢ k → number items (suc e) ≡ pos 0

pub unit_first : (k : ℕ) (value : ℤ) (items : List ℤ) → items ≡ [] ++ value ∷ [] → UnitSoFar k value 0 items
unit_first k value items e = subst (UnitSoFar k value 0) (sym e) (record {
  size = omega arith;
  value_first = refl;
  one = λ h. absurd (omega (arith, h));
  zero = λ e h n. absurd (omega (arith, h));
})

pub unit_more : (k i : ℕ) (value x : ℤ) (was now : List ℤ) → UnitSoFar k value i was → (i ≡ k → x ≡ pos 1) → (i ≢ k → x ≡ pos 0) → now ≡ was ++ x ∷ [] → UnitSoFar k value (i + 1) now
unit_more k i value x was now h first other e = subst (UnitSoFar k value (i + 1)) (sym e) (record {
  size = length_push was x ∙ ap (λ n. n + 1) h.size;
  value_first = get_or_append_left was (x ∷ []) (pos 0) 0 (let s = h.size in omega (arith, s)) ∙ h.value_first;
  one = λ l. at_one (last_or_before k i l);
  zero = λ e l n. at_zero e n (last_or_before e i l);
})
  where
    before : (e : ℕ) → e < i → number (was ++ x ∷ []) (suc e) ≡ number was (suc e)
    before e l = get_or_append_left was (x ∷ []) (pos 0) (suc e) (let s = h.size in omega (arith, l, s))

    here : (e : ℕ) → e ≡ i → number (was ++ x ∷ []) (suc e) ≡ x
    here e l = get_or_push was x (pos 0) (suc e) (let s = h.size in omega (arith, l, s))

    at_one : (k < i) ⊎ (k ≡ i) → number (was ++ x ∷ []) (suc k) ≡ pos 1
    at_one (inl l) = before k l ∙ h.one l
    at_one (inr e) = here k e ∙ first (sym e)

    at_zero : (e : ℕ) → e ≢ k → (e < i) ⊎ (e ≡ i) → number (was ++ x ∷ []) (suc e) ≡ pos 0
    at_zero e n (inl l) = before e l ∙ h.zero e l n
    at_zero e n (inr f) = here e f ∙ other (λ g. n (f ∙ g))

pub unit_made : (m k i : ℕ) (value scale : ℤ) (row : Row) → i ≡ m → UnitSoFar k value i row.numbers → row.bottom ≡ scale → IsUnitRow m k value scale row
unit_made m k i value scale row e h b = record {
  size = h.size ∙ omega (arith, e);
  bottom = b;
  value_first = h.value_first;
  one = λ l. h.one (omega (arith, l, e));
  zero = λ j l n. h.zero j (omega (arith, l, e)) n;
}
