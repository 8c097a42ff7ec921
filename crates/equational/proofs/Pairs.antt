-- The rows of Q and the costs on the form's columns.
use Rattle.std.specs.Prelude.{◌≡◌, ◌<◌, ◌≤◌, ℕ, zero, suc, ◌+◌, ◌*◌, List, [], ◌∷◌, ◌++◌, map, drop, length, replicate, get_or, Bool, true, false, Some, None}
use Rattle.std.proofs.Common.{refl, sym, ap, ◌∙◌, arith, append_assoc, append-nil}
use Rattle.std.proofs.lemmas.List.{map-append, drop_more, drop_all, drop-map}
use Rattle.rational.specs.Rational.{ℚ, neg_ℚ}
use Rattle.rational.specs.Vectors.{zeros}
use Rattle.exact_matrix.specs.Systems.{joined}
use Rattle.program_law.specs.declared.Row.{Row}
use Rattle.program_law.specs.Region.{Region}
use Rattle.equational_law.specs.Standing.{Standing, Below, Free, standing, parts, spread, spread_rows_at, spread_rows}
use Rattle.equational_law.specs.Form.{padded}
use Rattle.equational_rows.specs.Built.{Laid, all_slacks, signed}
use Rattle.equational.specs.Made.{quadratic_rows}
use Rattle.equational_rows.proofs.Appended.{signed-append, signed-zeros, joined-append}
use Rattle.equational_rows.proofs.Columns.{zeros-add}
use Rattle.equational_rows.proofs.Places.{at_place}

pub padded_pushed : (was middle now : List ℚ) (b : Bool) (row : List ℚ) (n m : ℕ) → middle ≡ was ++ signed b row → now ≡ middle ++ zeros m → m ≡ n → now ≡ was ++ signed b (padded n row)
padded_pushed was middle now b row n m e f g =
    f ∙ ap (λ (m : ℕ). middle ++ zeros m) g ∙ ap (λ (l : List ℚ). l ++ zeros n) e ∙ append_assoc was (signed b row) (zeros n)
    ∙ ap (λ (l : List ℚ). was ++ (signed b row ++ l)) (sym (signed-zeros b n)) ∙ ap (λ (l : List ℚ). was ++ l) (sym (signed-append b row (zeros n)))

-- ---- one column of the file

negated_padded : (n : ℕ) (row : List ℚ) → padded n (map neg_ℚ row) ≡ signed true (padded n row)
negated_padded n row = ap (λ (l : List ℚ). map neg_ℚ row ++ l) (sym (signed-zeros true n)) ∙ sym (signed-append true row (zeros n))

pub below_pairs : (was now : List ℚ) (n : ℕ) (b : Row) (row : List ℚ) (u : ℚ) → b.low ≡ None → b.high ≡ Some u → now ≡ was ++ signed true (padded n row) → now ≡ was ++ joined (map (padded n) (spread_rows_at (standing b) row))
below_pairs was now n b row u e f h =
    let s : standing b ≡ Below u = rw (e, f) refl in
    h ∙ ap (λ (l : List ℚ). was ++ l) (sym (negated_padded n row) ∙ sym (append-nil (padded n (map neg_ℚ row)))) ∙ ap (λ (s : Standing). was ++ joined (map (padded n) (spread_rows_at s row))) (sym s)

pub free_pairs : (was middle now : List ℚ) (n : ℕ) (b : Row) (row : List ℚ) → b.low ≡ None → b.high ≡ None → middle ≡ was ++ signed false (padded n row) → now ≡ middle ++ signed true (padded n row)
    → now ≡ was ++ joined (map (padded n) (spread_rows_at (standing b) row))
free_pairs was middle now n b row e f h k =
    let s : standing b ≡ Free = rw (e, f) refl in
    k ∙ ap (λ (l : List ℚ). l ++ signed true (padded n row)) h ∙ append_assoc was (padded n row) (signed true (padded n row))
    ∙ ap (λ (l : List ℚ). was ++ (padded n row ++ l)) (sym (negated_padded n row) ∙ sym (append-nil (padded n (map neg_ℚ row)))) ∙ ap (λ (s : Standing). was ++ joined (map (padded n) (spread_rows_at s row))) (sym s)

-- ---- all of them

pairs_on : (n : ℕ) (b : Row) (bs : Region) (row : List ℚ) (rows : List (List ℚ)) → joined (map (padded n) (spread_rows (b ∷ bs) (row ∷ rows))) ≡ joined (map (padded n) (spread_rows_at (standing b) row)) ++ joined (map (padded n) (spread_rows bs rows))
pairs_on n b bs row rows =
    ap joined (map-append (padded n) (spread_rows_at (standing b) row) (spread_rows bs rows)) ∙ joined-append (map (padded n) (spread_rows_at (standing b) row)) (map (padded n) (spread_rows bs rows))

pub pairs_more : (n : ℕ) (region : Region) (pairs : List (List ℚ)) (j : ℕ) (b : Row) (row was now whole : List ℚ) → j < length region → b ≡ get_or region j b → j < length pairs → row ≡ get_or pairs j []
    → now ≡ was ++ joined (map (padded n) (spread_rows_at (standing b) (spread region row))) → was ++ joined (map (padded n) (spread_rows (drop j region) (drop j (map (spread region) pairs)))) ≡ whole
    → now ++ joined (map (padded n) (spread_rows (drop (j + 1) region) (drop (j + 1) (map (spread region) pairs)))) ≡ whole
pairs_more n region pairs j b row was now whole h e l f p w =
    let rest = drop (j + 1) (map (spread region) pairs) in
    let here : drop j (map (spread region) pairs) ≡ spread region row ∷ rest =
    drop-map (spread region) j pairs ∙ ap (map (spread region)) (drop_more pairs j [] l ∙ ap (λ (r : List ℚ). r ∷ drop (j + 1) pairs) (sym f)) ∙ ap (λ (m : List (List ℚ)). spread region row ∷ m) (sym (drop-map (spread region) (j + 1) pairs)) in
    ap (λ (l : List ℚ). l ++ joined (map (padded n) (spread_rows (drop (j + 1) region) rest))) p
    ∙ append_assoc was (joined (map (padded n) (spread_rows_at (standing b) (spread region row)))) (joined (map (padded n) (spread_rows (drop (j + 1) region) rest)))
    ∙ ap (λ (l : List ℚ). was ++ l) (sym (pairs_on n b (drop (j + 1) region) (spread region row) rest))
    ∙ ap (λ (m : List (List ℚ)). was ++ joined (map (padded n) (spread_rows (b ∷ drop (j + 1) region) m))) (sym here)
    ∙ ap (λ (bs : Region). was ++ joined (map (padded n) (spread_rows bs (drop j (map (spread region) pairs))))) (sym (at_place region j b h e))
    ∙ w

no_pairs : (rows : List (List ℚ)) → spread_rows [] rows ≡ []
no_pairs [] = refl
no_pairs (row ∷ rows) = refl

joined-zeros : (n w : ℕ) → joined (replicate n (zeros w)) ≡ zeros (n * w)
joined-zeros zero w = let o : 0 * w ≡ 0 = omega arith in rw o refl
joined-zeros (suc n) w = let o : suc n * w ≡ w + n * w = omega arith in ap (λ (l : List ℚ). zeros w ++ l) (joined-zeros n w) ∙ zeros-add w (n * w) ∙ ap zeros (sym o)

pub pairs_end : (l : Laid) (pairs : List (List ℚ)) (j s w : ℕ) (was now : List ℚ) → length l.region ≤ j → s ≡ all_slacks l → w ≡ parts l.region + all_slacks l
    → was ++ joined (map (padded (all_slacks l)) (spread_rows (drop j l.region) (drop j (map (spread l.region) pairs)))) ≡ joined (map (padded (all_slacks l)) (spread_rows l.region (map (spread l.region) pairs)))
    → now ≡ was ++ zeros (s * w) → now ≡ joined (quadratic_rows l pairs)
pairs_end l pairs j s w was now h e f k p =
    let n = all_slacks l in
    let columns = spread_rows l.region (map (spread l.region) pairs) in
    let rest = drop j (map (spread l.region) pairs) in
    let done : was ≡ joined (map (padded n) columns) =
    sym (append-nil was) ∙ ap (λ (m : List (List ℚ)). was ++ joined (map (padded n) m)) (sym (no_pairs rest)) ∙ ap (λ (bs : Region). was ++ joined (map (padded n) (spread_rows bs rest))) (sym (drop_all j l.region h)) ∙ k in
    p ∙ ap (λ (u : List ℚ). u ++ zeros (s * w)) done
    ∙ ap (λ (s : ℕ). joined (map (padded n) columns) ++ zeros (s * w)) e ∙ ap (λ (w : ℕ). joined (map (padded n) columns) ++ zeros (n * w)) f
    ∙ ap (λ (u : List ℚ). joined (map (padded n) columns) ++ u) (sym (joined-zeros n (parts l.region + n)))
    ∙ sym (joined-append (map (padded n) columns) (replicate n (zeros (parts l.region + n))))
