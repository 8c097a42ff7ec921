-- Rows of numbers kept as vectors.
use Rattle.std.specs.Prelude.{◌≡◌, ℕ, zero, suc, ◌<◌, List, [], ◌∷◌, length, map}
use Rattle.std.specs.declared.vec.Vec.{Vec}
use Rattle.std.specs.declared.alloc.Global.{Global}
use Rattle.std.proofs.Common.{refl, arith, get_or, set, sym, ap, ◌∙◌}
use Rattle.std.proofs.lemmas.List.{map-set}
use Rattle.rational.specs.Rational.{ℚ}
use Rattle.rational.specs.Vectors.{row_at}
use Rattle.program_law.specs.Changes.{with_place}

abbrev pub rows_of : List (Vec ℚ Global) → List (List ℚ)
rows_of rows = map (λ row. row.items) rows

pub row_found : (rows : List (Vec ℚ Global)) (i : ℕ) (d : Vec ℚ Global) → i < length rows → row_at (rows_of rows) i ≡ (get_or rows i d).items
row_found [] i d h = absurd (omega (arith, h))
row_found (row ∷ rows) zero d h = refl
row_found (row ∷ rows) (suc i) d h = row_found rows i d (omega (arith, h))

-- a number is put at a place
pub place_set : (rows : List (Vec ℚ Global)) (i j : ℕ) (value : ℚ) (row new : Vec ℚ Global) → i < length rows → row ≡ get_or rows i row → new.items ≡ set row.items j value → rows_of (set rows i new) ≡ with_place (rows_of rows) i j value
place_set rows i j value row new h at_i is =
    let found : row_at (rows_of rows) i ≡ row.items = row_found rows i row h ∙ ap (λ (r : Vec ℚ Global). r.items) (sym at_i) in
    map-set (λ (r : Vec ℚ Global). r.items) rows i new ∙ ap (λ (r : List ℚ). set (rows_of rows) i r) (is ∙ ap (λ (r : List ℚ). set r j value) (sym found))
