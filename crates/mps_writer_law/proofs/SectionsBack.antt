-- Sections that are left out where they have no line.
use Rattle.std.specs.Prelude.{◌≡◌, ℕ, zero, suc, Bool, true, false, List, [], ◌∷◌, ◌++◌, if◌then◌else◌}
use Rattle.std.proofs.Common.{refl}
use Rattle.rational.specs.Rational.{ℚ}
use Rattle.rational.specs.Tests.{is_zero}
use Rattle.mps_grammar.specs.Told.{Told}
use Rattle.mps_writer_law.specs.Lines.{section, each, has_lines, unless_zero, number_line}
use Rattle.mps_writer_law.proofs.Lookups.{each_back, telling, telling_unless_zero}
use Rattle.mps_writer_law.proofs.Runs.{Lead, lead_on, lead_to}

-- a section's lines behind its word, or nothing
pub section_read : (word : List ℕ) (lines : List (List ℕ)) (start opened closed final : Told) → Lead start (word ∷ []) opened → Lead opened lines closed
    → (lines ≡ [] → start ≡ final) → (has_lines lines ≡ true → closed ≡ final) → Lead start (section word lines) final
section_read word [] start opened closed final header body none some = none refl
section_read word (line ∷ lines) start opened closed final header body none some = lead_on start opened final (word ∷ []) (line ∷ lines) header (lead_to opened closed final (line ∷ lines) (some refl) body)

no_parts : {A : Type 0} (xs ys : List A) → xs ++ ys ≡ [] → (xs ≡ []) × (ys ≡ [])
no_parts [] ys e = (refl, e)
no_parts (x ∷ xs) ys e = absurd cc

pub first_part : {A : Type 0} (xs ys : List A) → xs ++ ys ≡ [] → xs ≡ []
first_part xs ys e = (no_parts xs ys e).0

pub second_part : {A : Type 0} (xs ys : List A) → xs ++ ys ≡ [] → ys ≡ []
second_part xs ys e = (no_parts xs ys e).1

-- no lines, nothing told
pub nothing_each : {A B : Type 0} (n : ℕ) (f : ℕ → List A) (g : ℕ → List B) → ((i : ℕ) → f i ≡ [] → g i ≡ []) → each n f ≡ [] → each_back n g ≡ []
nothing_each zero f g h e = refl
nothing_each (suc n) f g h e =
    let parts = no_parts (each n f) (f n) e in
    rw (h n parts.1, nothing_each n f g h parts.0) refl

pub nothing_of_zero : (fields : List (List ℕ)) (column row : List ℕ) (v : ℚ) → unless_zero fields v ≡ [] → telling_unless_zero column row v ≡ []
nothing_of_zero fields column row v = by (is_zero v)
  where
    by : (b : Bool) → (if b then [] else number_line fields v ∷ []) ≡ [] → (if b then [] else telling column row v ∷ []) ≡ []
    by true e = refl
    by false e = absurd cc
