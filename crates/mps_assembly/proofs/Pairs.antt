-- The pairs of a program, by the last one told.
use Rattle.std.proofs.Common.{◌≡◌, ℕ, Bool, true, false, ◌&&◌, ◌||◌, ◌⊎◌, List, [], ◌∷◌, Option, Some, None, refl, sym, ap, ◌∙◌, inl, inr, if◌then◌else◌}
use Rattle.std.specs.Prelude.{not, unwrap_or}
use Rattle.std.specs.Str.{bytes_eq}
use Rattle.rational.specs.Rational.{ℚ, zero_ℚ}
use Rattle.rational.specs.Order.{same_fields, same_fields_lem}
use Rattle.rational.specs.Tests.{is_zero}
use Rattle.program_law.proofs.Numbers.{zero_is}
use Rattle.mps_grammar.specs.Told.{Told, Telling, is_at, is_told}
use Rattle.mps_grammar.specs.Programs.{or_other, value_at, value_told, pair_value, gives_pairs_once, is_lopsided, first_line}
use Rattle.mps_assembly.specs.Assembled.{last_value}
use Rattle.mps_assembly.specs.Sound.{AreToldOnce}
use Rattle.named_things.proofs.NameLemmas.{eq_from}

-- ---- pairs that are told once

untold : (ts : List Telling) (x y : List ℕ) → is_told ts x y ≡ false → value_at ts x y ≡ None
untold [] x y e = refl
untold (t ∷ ts) x y e = untold_at (is_at x y t) (is_told ts x y) e (untold ts x y)
  where
    untold_at : (a b : Bool) → (a || b) ≡ false → (b ≡ false → value_at ts x y ≡ None) → (if a then Some t.value else value_at ts x y) ≡ None
    untold_at true b e again = absurd cc
    untold_at false b e again = again e

pub last-once : (ts : List Telling) → AreToldOnce ts → (x y : List ℕ) → last_value ts x y ≡ unwrap_or (or_other (value_at ts x y) (value_at ts y x)) zero_ℚ
last-once [] once x y = refl
last-once (t ∷ ts) once x y = step (bytes_eq x t.row) (bytes_eq y t.column) (bytes_eq x t.column) (bytes_eq y t.row) refl refl refl refl (last-once ts once.2 x y)
  where
    step : (a b c d : Bool) → bytes_eq x t.row ≡ a → bytes_eq y t.column ≡ b → bytes_eq x t.column ≡ c → bytes_eq y t.row ≡ d → last_value ts x y ≡ unwrap_or (or_other (value_at ts x y) (value_at ts y x)) zero_ℚ
        → (if a && b then t.value else (if c && d then t.value else last_value ts x y)) ≡ unwrap_or (or_other (if c && d then Some t.value else value_at ts x y) (if b && a then Some t.value else value_at ts y x)) zero_ℚ
    step true true true true p q r s again = refl
    step true true true false p q r s again =
        let gone : value_at ts x y ≡ None = rw (eq_from x t.row p, eq_from y t.column q) (untold ts t.row t.column once.1) in
        rw gone refl
    step true true false d p q r s again =
        let gone : value_at ts x y ≡ None = rw (eq_from x t.row p, eq_from y t.column q) (untold ts t.row t.column once.1) in
        rw gone refl
    step true false true true p q r s again = refl
    step true false true false p q r s again = again
    step true false false d p q r s again = again
    step false true true true p q r s again = refl
    step false true true false p q r s again = again
    step false true false d p q r s again = again
    step false false true true p q r s again = refl
    step false false true false p q r s again = again
    step false false false d p q r s again = again

-- ---- pairs that are told in both orders

-- the last one told is the last of one of the orders
last-either : (ts : List Telling) (x y : List ℕ) → (last_value ts x y ≡ value_told ts x y) ⊎ (last_value ts x y ≡ value_told ts y x)
last-either [] x y = inl refl
last-either (t ∷ ts) x y = step (bytes_eq x t.row) (bytes_eq y t.column) (bytes_eq x t.column) (bytes_eq y t.row) (last-either ts x y)
  where
    step : (a b c d : Bool) → (last_value ts x y ≡ value_told ts x y) ⊎ (last_value ts x y ≡ value_told ts y x)
        → ((if a && b then t.value else (if c && d then t.value else last_value ts x y)) ≡ unwrap_or (if c && d then Some t.value else value_at ts x y) zero_ℚ)
        ⊎ ((if a && b then t.value else (if c && d then t.value else last_value ts x y)) ≡ unwrap_or (if b && a then Some t.value else value_at ts y x) zero_ℚ)
    step true true c d again = inr refl
    step true false true true again = inl refl
    step true false true false again = again
    step true false false d again = again
    step false true true true again = inl refl
    step false true true false again = again
    step false true false d again = again
    step false false true true again = inl refl
    step false false true false again = again
    step false false false d again = again

pub or_other-none : {A : Type 0} (a b : Option A) → or_other a b ≡ None → (a ≡ None) × (b ≡ None)
or_other-none None b e = (refl, e)
or_other-none (Some x) b e = absurd cc

-- a number that isn't lopsided is 0 or the one across the diagonal
level : (zero same : Bool) → (not zero && not same) ≡ false → (zero ≡ true) ⊎ (same ≡ true)
level true same e = inl refl
level false true e = inr refl
level false false e = absurd cc

pub even : (all ts : List Telling) → first_line (is_lopsided all) ts ≡ None → (x y : List ℕ) (v : ℚ) → value_at ts x y ≡ Some v → (v ≡ zero_ℚ) ⊎ (value_told all y x ≡ v)
even all [] none x y v e = absurd cc
even all (t ∷ ts) none x y v e =
    let parts = or_other-none (first_line (is_lopsided all) ts) (if is_lopsided all t then Some t.line else None) none in
    step (bytes_eq x t.column) (bytes_eq y t.row) (is_lopsided all t) refl refl refl parts.1 e (even all ts parts.0 x y v)
  where
    step : (a b c : Bool) → bytes_eq x t.column ≡ a → bytes_eq y t.row ≡ b → is_lopsided all t ≡ c → (if c then Some t.line else None) ≡ None → (if a && b then Some t.value else value_at ts x y) ≡ Some v
        → (value_at ts x y ≡ Some v → (v ≡ zero_ℚ) ⊎ (value_told all y x ≡ v)) → (v ≡ zero_ℚ) ⊎ (value_told all y x ≡ v)
    step a b true p q r f e again = absurd cc
    step true true false p q r f e again =
        let is : t.value ≡ v = cc in
        elim (level (is_zero t.value) (same_fields (value_told all t.row t.column) t.value) r) [
          | inl z ↦ inl (sym is ∙ zero_is t.value z)
          | inr s ↦ inr (rw (eq_from x t.column p, eq_from y t.row q) (same_fields_lem (value_told all t.row t.column) t.value s ∙ is))
        ]
    step true false false p q r f e again = again e
    step false b false p q r f e again = again e

told_is : (ts : List Telling) (x y : List ℕ) (v : ℚ) → value_at ts x y ≡ Some v → value_told ts x y ≡ v
told_is ts x y v e = rw e refl

pub symmetric : (ts : List Telling) → first_line (is_lopsided ts) ts ≡ None → (x y : List ℕ) → value_told ts x y ≡ value_told ts y x
symmetric ts none x y = by_values (value_at ts x y) (value_at ts y x) refl refl
  where
    by_values : (o p : Option ℚ) → value_at ts x y ≡ o → value_at ts y x ≡ p → unwrap_or o zero_ℚ ≡ unwrap_or p zero_ℚ
    by_values None None e f = refl
    by_values None (Some w) e f = elim (even ts ts none y x w f) [
      | inl z ↦ sym z
      | inr s ↦ sym (ap (λ (o : Option ℚ). unwrap_or o zero_ℚ) e) ∙ s
    ]
    by_values (Some v) None e f = elim (even ts ts none x y v e) [
      | inl z ↦ z
      | inr s ↦ sym s ∙ ap (λ (o : Option ℚ). unwrap_or o zero_ℚ) f
    ]
    by_values (Some v) (Some w) e f = elim (even ts ts none x y v e) [
      | inl z ↦ elim (even ts ts none y x w f) [
        | inl y ↦ z ∙ sym y
        | inr s ↦ sym (told_is ts x y v e) ∙ s
      ]
      | inr s ↦ sym s ∙ told_is ts y x w f
    ]

pub last-even : (ts : List Telling) → first_line (is_lopsided ts) ts ≡ None → (x y : List ℕ) → last_value ts x y ≡ value_told ts x y
last-even ts none x y = elim (last-either ts x y) [ inl e ↦ e | inr e ↦ e ∙ symmetric ts none y x ]

-- ---- both kinds of sections

-- whether no pair faults: those of both triangles are even
abbrev pub IsLevel : Told → Type 0
IsLevel told = gives_pairs_once told ≡ false → first_line (is_lopsided told.pairs) told.pairs ≡ None

pub last-pair : (told : Told) → (gives_pairs_once told ≡ true → AreToldOnce told.pairs) → IsLevel told → (x y : List ℕ) → last_value told.pairs x y ≡ pair_value told x y
last-pair told once level x y = by_kind (gives_pairs_once told) refl
  where
    by_kind : (b : Bool) → gives_pairs_once told ≡ b → last_value told.pairs x y ≡ (if b then unwrap_or (or_other (value_at told.pairs x y) (value_at told.pairs y x)) zero_ℚ else value_told told.pairs x y)
    by_kind true e = last-once told.pairs (once e) x y
    by_kind false e = last-even told.pairs (level e) x y
