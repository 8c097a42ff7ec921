-- A row divided by a number: one place after another.
use Rattle.std.proofs.Common.{◌≡◌, ℕ, true, false, zero, suc, ◌+◌, ◌≤◌, ◌<◌, Some, List, [], ◌∷◌, ◌++◌, length, take, drop, slice_get, sym, ap, ◌∙◌, refl, add-one, append_assoc}
use Rattle.std.proofs.Math.ListN.{set, drop_of_length-le}
use Rattle.std.proofs.lemmas.List.{take_more_set, take_all, append-nil}
use Rattle.rational.specs.Rational.{ℚ, zero_ℚ}
use Rattle.rational.specs.Order.{same_fields}
use Rattle.frac_core.specs.declared.fractions.Op.TheVariants.{Div}
use Rattle.frac_core.specs.declared.fractions.Refused.{Refused}
use Rattle.frac_core.specs.declared.fractions.Tried.TheVariants.{Is, Past}
use Rattle.frac_core.specs.Calculated.{tried_in}
use Rattle.frac_core.specs.Row.{Row, Entries, Refusal, entry_then}
use Rattle.frac_core.proofs.RowLemmas.{append_row}
use Rattle.elimination_law.specs.Calculation.{divide_step, divided_in}

pub divide_zero : (top : ℕ) (q x : ℚ) → same_fields x zero_ℚ ≡ true → divide_step top q x ≡ Is x
unfolding divide_step
divide_zero top q x h = rw h

pub divide_more : (top : ℕ) (q x : ℚ) → same_fields x zero_ℚ ≡ false → divide_step top q x ≡ tried_in top Div x q
unfolding divide_step
divide_more top q x h = rw h

append_entry : (xs : List ℚ) (q : ℚ) (r : Row) → append_row (xs ++ q ∷ []) r ≡ append_row xs (entry_then (Is q) r)
append_entry xs q (Entries ys) = ap Entries (append_assoc xs (q ∷ []) ys)
append_entry xs q (Refusal r) = refl

pub drop_after_set : {A : Type 0} (xs : List A) (i : ℕ) (q : A) → drop (suc i) (set xs i q) ≡ drop (suc i) xs
drop_after_set [] i q = refl
drop_after_set (x ∷ xs) zero q = refl
drop_after_set (x ∷ xs) (suc i) q = drop_after_set xs i q

divided_next : (top : ℕ) (q : ℚ) (xs : List ℚ) (i : ℕ) (x : ℚ) → slice_get xs i ≡ Some x →
    divided_in top q (drop i xs) ≡ entry_then (divide_step top q x) (divided_in top q (drop (suc i) xs))
unfolding divided_in
divided_next top q [] i x h = absurd cc
divided_next top q (x' ∷ xs) zero x h = let e : x' ≡ x = cc in rw e
divided_next top q (x' ∷ xs) (suc i) x h = divided_next top q xs i x h

-- the row with its entry at i written stands for the same division
pub divided_more : (top : ℕ) (q : ℚ) (xs : List ℚ) (i : ℕ) (x y : ℚ) → i < length xs → slice_get xs i ≡ Some x → divide_step top q x ≡ Is y →
    append_row (take (i + 1) (set xs i y)) (divided_in top q (drop (i + 1) (set xs i y))) ≡ append_row (take i xs) (divided_in top q (drop i xs))
divided_more top q xs i x y within h e =
    rw (take_more_set xs i y within, add-one, drop_after_set xs i y)
    (append_entry (take i xs) y (divided_in top q (drop (suc i) xs))
    ∙ ap (λ t. append_row (take i xs) (entry_then t (divided_in top q (drop (suc i) xs)))) (sym e)
    ∙ ap (append_row (take i xs)) (sym (divided_next top q xs i x h)))

pub divided_past : (top : ℕ) (q : ℚ) (xs : List ℚ) (i : ℕ) (x : ℚ) (r : Refused) → slice_get xs i ≡ Some x → divide_step top q x ≡ Past r →
    append_row (take i xs) (divided_in top q (drop i xs)) ≡ Refusal r
divided_past top q xs i x r h e = ap (append_row (take i xs)) (divided_next top q xs i x h ∙ ap (λ t. entry_then t (divided_in top q (drop (suc i) xs))) e)

pub divided_end : (top : ℕ) (q : ℚ) (xs : List ℚ) (i : ℕ) → length xs ≤ i → append_row (take i xs) (divided_in top q (drop i xs)) ≡ Entries xs
unfolding divided_in
divided_end top q xs i h = rw (drop_of_length-le xs h) (ap Entries (append-nil (take i xs) ∙ take_all i xs h))
