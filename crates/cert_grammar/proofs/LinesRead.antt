-- The line of an item that is accepted is read as that item.
use Rattle.std.proofs.Common.{◌≡◌, ◌≢◌, ℕ, zero, suc, ◌<◌, ◌≤◌, Bool, true, false, cond, List, [], ◌∷◌, ◌++◌, length, get_or, Some, None, Ok, refl, sym, ap, ◌∙◌, arith, lit<, ℤ, pos, negsuc, ◌^◌}
use Rattle.std.specs.Prelude.{◌==◌, not, nat_lt, unsigned_abs, AllPairs}
use Rattle.std.specs.Option.{option_map}
use Rattle.std.specs.Fmt.{decimal, signed_decimal}
use Rattle.std.proofs.lemmas.Fmt.{decimal_digit}
use Rattle.std.proofs.lemmas.Bool.{ne_eqb}
use Rattle.cert_fields.proofs.NumberTexts.{decimal_plain}
use Rattle.std.specs.Str.{bytes_eq}
use Rattle.std.proofs.lemmas.Bool.Decides.{nat_tests}
use Rattle.std.proofs.lemmas.Slice.Eq.{bytes_eq-Decides}
use Rattle.rational.specs.Rational.{ℚ, whole, Fits}
use Rattle.rational.proofs.Wholes.{num-whole, den-whole}
use Rattle.frac_core.specs.Parts.{max_part}
use Rattle.frac_core.specs.Text.{text_of}
use Rattle.program_law.specs.Program.{Program}
use Rattle.program_law.specs.Places.{place_of}
use Rattle.rational.specs.Tests.{is_zero}
use Rattle.mps_tokens.specs.declared.words.CertificateWord.{CertificateWord}
use Rattle.mps_tokens.specs.declared.words.CertificateWord.TheVariants as words
use Rattle.cert_fields.specs.declared.names.Axis.{Axis}
use Rattle.cert_fields.specs.declared.names.Axis.TheVariants.{Columns, Rows}
use Rattle.cert_grammar.specs.declared.grammar.Allowed.{Allowed}
use Rattle.cert_grammar.specs.declared.grammar.Allowed.TheVariants.{Any, NotZero, Positive, Whole}
use Rattle.cert_grammar.specs.declared.items.Item.{Item}
use Rattle.cert_grammar.specs.declared.items.Item.TheVariants as items
use Rattle.cert_grammar.specs.declared.places.Place.{Place}
use Rattle.cert_fields.specs.Numbers.{number_of}
use Rattle.cert_fields.specs.Fields.{is_filled}
use Rattle.cert_fields.specs.Names.{names_on, count_on, name_at}
use Rattle.cert_grammar.specs.Places.{may_stand, least, is_one_too_many}
use Rattle.cert_grammar.specs.Faults.{first_of, number_tests, name_tests, entry_tests, allows, line_fault}
use Rattle.cert_grammar.specs.Items.{item_of, place, number}
use Rattle.cert_fields.proofs.NameLemmas.{count_names}
use Rattle.cert_fields.proofs.NumbersRead.{number_read, whole_read, small}
use Rattle.cert_grammar.proofs.ItemFields.{fields_of, IsEntry, Accepted, HasNames}

-- ---- a name is found at its place

name_test : (a b : List ℕ) → a ≢ b → bytes_eq a b ≡ false
name_test a b h = go (bytes_eq a b) refl
  where
    go : (t : Bool) → bytes_eq a b ≡ t → t ≡ false
    go true e = absurd (h ((bytes_eq-Decides a b).0 e))
    go false e = refl

pub place_at : (names : List (List ℕ)) (k : ℕ) → AllPairs (λ a b. a ≢ b) names → k < length names → place_of names (get_or names k []) ≡ Some k
place_at [] k h lt = absurd (omega (arith, lt))
place_at (n ∷ ns) zero h lt = rw ((bytes_eq-Decides n n).1 refl) refl
place_at (n ∷ ns) (suc k) h lt =
    let inside : k < length ns = omega (arith, lt) in
    let other : get_or ns k [] ≢ n = λ e. h 0 (suc k) [] (omega arith) lt (sym e) in
    let later : AllPairs (λ a b. a ≢ b) ns = λ i j d p q. h (suc i) (suc j) d (omega (arith, p)) (omega (arith, q)) in
    rw (name_test (get_or ns k []) n other) (ap (option_map (λ (i : ℕ). suc i)) (place_at ns k later inside))

pub found : (p : Program) (axis : Axis) (j : ℕ) → HasNames p → j < count_on p axis → place_of (names_on p axis) (name_at (names_on p axis) j) ≡ Some j
found p Columns j h lt = place_at (names_on p Columns) j (h.distinct Columns) (omega (arith, lt, count_names p.columns))
found p Rows j h lt = place_at (names_on p Rows) j (h.distinct Rows) (omega (arith, lt, count_names p.rows))

-- ---- texts of numbers aren't empty

longer : (a b : List ℕ) → is_filled a ≡ true → is_filled (a ++ b) ≡ true
longer [] b e = absurd cc
longer (x ∷ a) b e = ap not (ne_eqb (length (x ∷ (a ++ b))) 0 (λ n. absurd (omega (arith, n))))

decimal_filled : (n : ℕ) → n < 10 ^ 64 → is_filled (decimal n) ≡ true
decimal_filled zero h = ap is_filled (decimal_digit 0 (lit< tt))
decimal_filled (suc n) h = let some = (decimal_plain (suc n) (omega arith) h).some in ap not (ne_eqb (length (decimal (suc n))) 0 (λ e. absurd (omega (arith, some, e))))

signed_filled : (k : ℤ) → unsigned_abs k ≤ max_part → is_filled (signed_decimal k) ≡ true
signed_filled (pos n) h = decimal_filled n (small n h)
signed_filled (negsuc n) h = ap not (ne_eqb (length (45 ∷ decimal (suc n))) 0 (λ e. absurd (omega (arith, e))))

text_filled : (v : ℚ) → Fits max_part v → is_filled (text_of v) ≡ true
text_filled v h = go (v.den == 1)
  where
    go : (t : Bool) → is_filled (cond t (signed_decimal v.num) (signed_decimal v.num ++ 47 ∷ decimal v.den)) ≡ true
    go true = signed_filled v.num h.0
    go false = longer (signed_decimal v.num) (47 ∷ decimal v.den) (signed_filled v.num h.0)

-- ---- lines without a fault

not_early : (j least : ℕ) → least ≤ j → nat_lt j least ≡ false
not_early j l h = grind (arith, nat_tests)

entry_clear : (s : Place) (word : CertificateWord) (names : List (List ℕ)) (allowed : Allowed) (name bytes : List ℕ) (j : ℕ) (v : ℚ) → is_filled name ≡ true → is_filled bytes ≡ true → may_stand s word ≡ true → place_of names name ≡ Some j → number_of bytes ≡ Ok v → allows allowed v ≡ true
    → nat_lt j (least s word) ≡ false → is_one_too_many s word ≡ false → first_of (entry_tests s word names allowed (name ∷ bytes ∷ [])) ≡ None
entry_clear s word names allowed name bytes j v m n a b c d e f = rw (a, m, n, b, c, d, e, f) refl

number_clear : (s : Place) (word : CertificateWord) (allowed : Allowed) (bytes : List ℕ) (v : ℚ) → is_filled bytes ≡ true → may_stand s word ≡ true → number_of bytes ≡ Ok v → allows allowed v ≡ true → is_one_too_many s word ≡ false
    → first_of (number_tests s word allowed (bytes ∷ [])) ≡ None
number_clear s word allowed bytes v n a c d f = rw (a, n, c, d, f) refl

name_clear : (s : Place) (word : CertificateWord) (names : List (List ℕ)) (name : List ℕ) (j : ℕ) → is_filled name ≡ true → may_stand s word ≡ true → place_of names name ≡ Some j → first_of (name_tests s word names (name ∷ [])) ≡ None
name_clear s word names name j m a b = rw (a, m, b) refl

place_told : (names : List (List ℕ)) (name : List ℕ) (j : ℕ) → place_of names name ≡ Some j → place names name ≡ j
place_told names name j e = rw e refl

number_told : (bytes : List ℕ) (v : ℚ) → number_of bytes ≡ Ok v → number bytes ≡ v
number_told bytes v e = rw e refl

not_zero : (v : ℚ) → is_zero v ≡ false → allows NotZero v ≡ true
not_zero v e = rw e refl

-- what reading the fields of an item gives
pub record IsRead (p : Program) (s : Place) (item : Item) : Type 0 where
  pub clear : line_fault p s (fields_of p item) ≡ None
  pub told : item_of p (fields_of p item) ≡ item

entry_none : (p : Program) (axis : Axis) (s : Place) (word : CertificateWord) (j : ℕ) (v : ℚ) → HasNames p → IsEntry p axis s word j v → is_one_too_many s word ≡ false
    → first_of (entry_tests s word (names_on p axis) NotZero (name_at (names_on p axis) j ∷ text_of v ∷ [])) ≡ None
entry_none p axis s word j v names h few =
    entry_clear s word (names_on p axis) NotZero (name_at (names_on p axis) j) (text_of v) j v (names.filled axis j h.inside) (text_filled v h.fits) h.stands (found p axis j names h.inside) (number_read v h.fits) (not_zero v h.some) (not_early j (least s word) h.late) few

entry_told : (p : Program) (axis : Axis) (s : Place) (word : CertificateWord) (j : ℕ) (v : ℚ) (make : ℕ → ℚ → Item) → HasNames p → IsEntry p axis s word j v
    → make (place (names_on p axis) (name_at (names_on p axis) j)) (number (text_of v)) ≡ make j v
entry_told p axis s word j v make names h =
    ap (λ i. make i (number (text_of v))) (place_told (names_on p axis) (name_at (names_on p axis) j) j (found p axis j names h.inside)) ∙ ap (make j) (number_told (text_of v) v (number_read v h.fits))

pub fields_read : (p : Program) (s : Place) (item : Item) → HasNames p → Accepted p s item → IsRead p s item
unfolding line_fault item_of
fields_read p s items.Optimal names h = absurd h
fields_read p s items.Infeasible names h = absurd h
fields_read p s items.Unbounded names h = absurd h
fields_read p s items.NotConvex names h = absurd h
fields_read p s (items.Value v) names h = record { clear = number_clear s words.Value Any (text_of v) v (text_filled v h.1) h.0 (number_read v h.1) refl refl; told = ap items.Value (number_told (text_of v) v (number_read v h.1)) }
fields_read p s (items.Point j v) names h = record { clear = entry_none p Columns s words.Point j v names h refl; told = entry_told p Columns s words.Point j v items.Point names h }
fields_read p s (items.Ray j v) names h = record { clear = entry_none p Columns s words.Ray j v names h refl; told = entry_told p Columns s words.Ray j v items.Ray names h }
fields_read p s (items.Direction j v) names h = record { clear = entry_none p Columns s words.Vector j v names h refl; told = entry_told p Columns s words.Vector j v items.Direction names h }
fields_read p s (items.Square v) names h = record { clear = number_clear s words.Square Positive (text_of v) v (text_filled v h.1) h.0 (number_read v h.1) h.2 h.3; told = ap items.Square (number_told (text_of v) v (number_read v h.1)) }
fields_read p s (items.Coef j v) names h = record { clear = entry_none p Columns s words.Coef j v names h refl; told = entry_told p Columns s words.Coef j v items.Coef names h }
fields_read p s (items.Branch j k) names h =
    let there = found p Columns j names h.1 in
    let name = name_at (names_on p Columns) j in
    record {
      clear = entry_clear s words.Branch (names_on p Columns) Whole name (signed_decimal k) j (whole k) (names.filled Columns j h.1) (signed_filled k h.2) h.0 there (whole_read k h.2) (is_whole k) (not_early j 0 (omega arith)) h.3;
      told = ap (λ i. items.Branch i (number (signed_decimal k)).num) (place_told (names_on p Columns) name j there)
          ∙ ap (λ (v : ℚ). items.Branch j v.num) (number_told (signed_decimal k) (whole k) (whole_read k h.2)) ∙ ap (items.Branch j) (num-whole k);
    }
  where
    is_whole : (k : ℤ) → ((whole k).den == 1) ≡ true
    is_whole k = ap (λ n. n == 1) (den-whole k)
fields_read p s items.Bound names h = record { clear = rw h refl; told = refl }
fields_read p s items.Farkas names h = record { clear = rw h refl; told = refl }
fields_read p s (items.Cross j) names h =
    let there = found p Columns j names h.1 in
    let name = name_at (names_on p Columns) j in
    record { clear = name_clear s words.Cross (names_on p Columns) name j (names.filled Columns j h.1) h.0 there; told = ap items.Cross (place_told (names_on p Columns) name j there) }
fields_read p s (items.W j v) names h = record { clear = entry_none p Columns s words.W j v names h refl; told = entry_told p Columns s words.W j v items.W names h }
fields_read p s (items.Y i v) names h = record { clear = entry_none p Rows s words.Y i v names h refl; told = entry_told p Rows s words.Y i v items.Y names h }
fields_read p s items.End names h = record { clear = rw h refl; told = refl }
