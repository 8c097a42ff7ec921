-- The objective's calculation, place by place.
use Rattle.std.specs.Prelude.{◌≡◌, ◌<◌, ◌≤◌, ℕ, ◌+◌, List, [], ◌∷◌, drop, get_or, length, Ok}
use Rattle.std.proofs.Common.{refl, sym, ap, ◌∙◌, arith}
use Rattle.std.proofs.lemmas.List.{drop_more, drop_all}
use Rattle.rational.specs.Rational.{ℚ}
use Rattle.frac_core.specs.declared.fractions.Op.TheVariants.{Add}
use Rattle.frac_core.specs.Dot.{dot_of}
use Rattle.frac_core.specs.Calculated.{◌>>=◌, answered, operated}
use Rattle.equational_law.specs.Calculation.{products_in, sums_in}
use Rattle.equational_rows.proofs.Places.{at_place}

products_by : (top : ℕ) (row : List ℚ) (rows : List (List ℚ)) (h : List ℚ) → products_in top (row ∷ rows) h ≡ (answered (dot_of top row h) >>= λ q. products_in top rows h >>= λ qs. Ok (q ∷ qs))
unfolding products_in
products_by top row rows h = refl

pub products_next : (top : ℕ) (rows : List (List ℚ)) (h : List ℚ) (i : ℕ) (row : List ℚ) → i < length rows → row ≡ get_or rows i []
    → products_in top (drop i rows) h ≡ (answered (dot_of top row h) >>= λ q. products_in top (drop (i + 1) rows) h >>= λ qs. Ok (q ∷ qs))
products_next top rows h i row l e =
    ap (λ (m : List (List ℚ)). products_in top m h) (drop_more rows i [] l ∙ ap (λ (r : List ℚ). r ∷ drop (i + 1) rows) (sym e)) ∙ products_by top row (drop (i + 1) rows) h

no_products : (top : ℕ) (h : List ℚ) → products_in top [] h ≡ Ok []
unfolding products_in
no_products top h = refl

pub products_end : (top : ℕ) (rows : List (List ℚ)) (h : List ℚ) (i : ℕ) → length rows ≤ i → products_in top (drop i rows) h ≡ Ok []
products_end top rows h i l = ap (λ (m : List (List ℚ)). products_in top m h) (drop_all i rows l) ∙ no_products top h

sums_by : (top : ℕ) (c q : ℚ) (cs qs : List ℚ) → sums_in top (c ∷ cs) (q ∷ qs) ≡ (operated top Add c q >>= λ s. sums_in top cs qs >>= λ ss. Ok (s ∷ ss))
unfolding sums_in
sums_by top c q cs qs = refl

pub sums_next : (top : ℕ) (cs qs : List ℚ) (i : ℕ) (c q : ℚ) → length cs ≤ length qs → i < length cs → c ≡ get_or cs i c → q ≡ get_or qs i q
    → sums_in top (drop i cs) (drop i qs) ≡ (operated top Add c q >>= λ s. sums_in top (drop (i + 1) cs) (drop (i + 1) qs) >>= λ ss. Ok (s ∷ ss))
sums_next top cs qs i c q l h e f =
    ap (λ (us : List ℚ). sums_in top us (drop i qs)) (at_place cs i c h e) ∙ ap (λ (vs : List ℚ). sums_in top (c ∷ drop (i + 1) cs) vs) (at_place qs i q (omega arith) f)
    ∙ sums_by top c q (drop (i + 1) cs) (drop (i + 1) qs)

no_sums : (top : ℕ) (qs : List ℚ) → sums_in top [] qs ≡ Ok []
unfolding sums_in
no_sums top qs = refl

pub sums_end : (top : ℕ) (cs qs : List ℚ) (i : ℕ) → length cs ≤ i → sums_in top (drop i cs) qs ≡ Ok []
sums_end top cs qs i l = ap (λ (us : List ℚ). sums_in top us qs) (drop_all i cs l) ∙ no_sums top qs
