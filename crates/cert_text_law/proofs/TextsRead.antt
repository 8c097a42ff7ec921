-- The text of items that are accepted one after another is read as what they tell.
use Rattle.std.proofs.Common.{◌≡◌, ◌≢◌, ℕ, zero, suc, ◌+◌, ◌^◌, ◌<◌, ◌≤◌, Bool, true, false, cond, List, [], ◌∷◌, ◌++◌, length, Ok, refl, sym, ap, ◌∙◌, subst, arith, lit<, codes, ℤ, append_assoc}
use Rattle.std.specs.Prelude.{◌&&◌, ◌==◌, not, unsigned_abs, All, AllPairs}
use Rattle.std.specs.List.{list_all, slice_split, onto_first, flat_map, join_with_byte, AllByRecursion}
use Rattle.std.specs.Char.{is_ascii_digit}
use Rattle.std.specs.Fmt.{decimal, signed_decimal}
use Rattle.std.proofs.lemmas.Bool.{eq-eqb, ne_eqb}
use Rattle.std.proofs.lemmas.Bool.Decides.{nat_tests}
use Rattle.std.proofs.lemmas.List.Folds.{list_all-append}
use Rattle.std.proofs.lemmas.List.Splits.{slice_split-cons_no}
use Rattle.std.proofs.lemmas.Fmt.{decimal_digit}
use Rattle.rational.specs.Rational.{ℚ, Fits}
use Rattle.frac_core.specs.Parts.{max_part}
use Rattle.frac_core.specs.Text.{text_of}
use Rattle.program_law.specs.Program.{Program, IsProgram, IsName}
use Rattle.cert_fields.specs.declared.names.Axis.{Axis}
use Rattle.cert_fields.specs.declared.names.Axis.TheVariants.{Columns, Rows}
use Rattle.cert_grammar.specs.declared.items.Item.{Item}
use Rattle.cert_grammar.specs.declared.items.Item.TheVariants as items
use Rattle.cert_grammar.specs.declared.items.Claim.{Claim}
use Rattle.cert_grammar.specs.declared.places.Place.{Place}
use Rattle.cert_fields.specs.Parts.{is_byte, pieces_of, parts_of}
use Rattle.cert_fields.specs.Fields.{is_filled}
use Rattle.cert_fields.specs.Names.{names_on, count_on, name_at}
use Rattle.cert_fields.specs.Lines.{line_text}
use Rattle.cert_grammar.specs.Places.{place_after, is_ended}
use Rattle.cert_grammar.specs.Faults.{line_fault}
use Rattle.cert_grammar.specs.Items.{item_of}
use Rattle.cert_text_law.specs.Told.{Told, with_item, told_by, certificate_told}
use Rattle.cert_text_law.specs.Reading.{fault_or, read_on}
use Rattle.cert_fields.proofs.NameLemmas.{count_names}
use Rattle.cert_fields.proofs.NumberTexts.{decimal_plain}
use Rattle.cert_fields.proofs.NumbersRead.{spelled, is_below, signed_text, small}
use Rattle.cert_grammar.proofs.Lands.{first_true, second_true, lands, after_is}
use Rattle.cert_grammar.proofs.ItemFields.{fields_of, Accepted, accepted_stands, HasNames}
use Rattle.cert_grammar.proofs.LinesRead.{fields_read}
use Rattle.cert_text_law.proofs.Readings.{step}

-- ---- fields without blanks and line feeds

abbrev pub is_clear : ℕ → Bool
is_clear b = not (b == 10) && not (b == 32)

-- no byte is a blank or a line feed
pub record IsClear (bs : List ℕ) : Type 0 where
  pub bytes : list_all is_clear bs ≡ true

all_more : (p q : ℕ → Bool) → ((b : ℕ) → p b ≡ true → q b ≡ true) → (bs : List ℕ) → list_all p bs ≡ true → list_all q bs ≡ true
all_more p q h [] e = refl
all_more p q h (b ∷ bs) e = rw (h b (first_true (p b) (list_all p bs) e)) (all_more p q h bs (second_true (p b) (list_all p bs) e))

digit_clear : (b : ℕ) → is_ascii_digit b ≡ true → is_clear b ≡ true
digit_clear b e = grind (arith, nat_tests)

digits_clear : (ds : List ℕ) → list_all is_ascii_digit ds ≡ true → IsClear ds
digits_clear ds e = record { bytes = all_more is_ascii_digit is_clear digit_clear ds e }

clear-append : (a b : List ℕ) → IsClear a → IsClear b → IsClear (a ++ b)
clear-append a b h k = record { bytes = list_all-append is_clear a b ∙ rw (h.bytes, k.bytes) refl }

decimal_clear : (n : ℕ) → n < 10 ^ 64 → IsClear (decimal n)
decimal_clear zero h = subst IsClear (sym (decimal_digit 0 (lit< tt))) (record { bytes = refl })
decimal_clear (suc n) h = digits_clear (decimal (suc n)) (decimal_plain (suc n) (omega arith) h).digits

spelled_clear : (b : Bool) (ds : List ℕ) → IsClear ds → IsClear (spelled b ds)
spelled_clear true ds h = record { bytes = h.bytes }
spelled_clear false ds h = h

pub signed_clear : (z : ℤ) → unsigned_abs z ≤ max_part → IsClear (signed_decimal z)
signed_clear z h = subst IsClear (sym (signed_text z)) (spelled_clear (is_below z) (decimal (unsigned_abs z)) (decimal_clear (unsigned_abs z) (small (unsigned_abs z) h)))

slashed_clear : (ds : List ℕ) → IsClear ds → IsClear (47 ∷ ds)
slashed_clear ds h = record { bytes = h.bytes }

pub text_clear : (v : ℚ) → Fits max_part v → IsClear (text_of v)
text_clear v h = go (v.den == 1)
  where
    go : (t : Bool) → IsClear (cond t (signed_decimal v.num) (signed_decimal v.num ++ 47 ∷ decimal v.den))
    go true = signed_clear v.num h.0
    go false = clear-append (signed_decimal v.num) (47 ∷ decimal v.den) (signed_clear v.num h.0) (slashed_clear (decimal v.den) (decimal_clear v.den (small v.den h.1)))

printable_clear : (b : ℕ) → (33 ≤ b) × (b ≤ 126) → is_clear b ≡ true
printable_clear b h = rw (ne_eqb b 10 (λ e. absurd (omega (arith, h.0, e))), ne_eqb b 32 (λ e. absurd (omega (arith, h.0, e)))) refl

name_bytes : (bs : List ℕ) → All (λ b. (33 ≤ b) × (b ≤ 126)) bs → list_all is_clear bs ≡ true
name_bytes [] h = refl
name_bytes (b ∷ bs) h = rw (printable_clear b (h 0 0 (omega arith))) (name_bytes bs (λ k d lt. h (suc k) d (omega (arith, lt))))

named_at : (p : Program) → IsProgram p → (axis : Axis) (j : ℕ) → j < count_on p axis → IsName (name_at (names_on p axis) j)
named_at p h Columns j lt = h.named_columns j [] (omega (arith, lt, count_names p.columns))
named_at p h Rows j lt = h.named_rows (suc j) [] (omega (arith, lt, count_names p.rows))

name_filled : (bs : List ℕ) → IsName bs → is_filled bs ≡ true
name_filled bs h = let some = h.some in ap not (ne_eqb (length bs) 0 (λ e. absurd (omega (arith, some, e))))

distinct_names : (p : Program) → IsProgram p → (axis : Axis) → AllPairs (λ a b. a ≢ b) (names_on p axis)
distinct_names p h Columns = h.columns_differ
distinct_names p h Rows = λ i j d lt len. h.rows_differ (suc i) (suc j) d (omega (arith, lt)) (omega (arith, len))

pub has_names : (p : Program) → IsProgram p → HasNames p
has_names p h = record { distinct = distinct_names p h; filled = λ axis j lt. name_filled (name_at (names_on p axis) j) (named_at p h axis j lt) }

pub name_clear : (p : Program) → IsProgram p → (axis : Axis) (j : ℕ) → j < count_on p axis → IsClear (name_at (names_on p axis) j)
name_clear p h axis j lt = record { bytes = name_bytes (name_at (names_on p axis) j) (named_at p h axis j lt).printable }

entry_clear : (p : Program) (axis : Axis) (j : ℕ) (v : ℚ) (word : List ℕ) → IsProgram p → IsClear word → j < count_on p axis → Fits max_part v → AllByRecursion IsClear (word ∷ name_at (names_on p axis) j ∷ text_of v ∷ [])
entry_clear p axis j v word h w lt fits = (w, (name_clear p h axis j lt, (text_clear v fits, tt)))

word_clear : (word : List ℕ) → list_all is_clear word ≡ true → IsClear word
word_clear word e = record { bytes = e }

pub fields_clear : (p : Program) (s : Place) (item : Item) → IsProgram p → Accepted p s item → AllByRecursion IsClear (fields_of p item)
fields_clear p s items.Optimal h a = absurd a
fields_clear p s items.Infeasible h a = absurd a
fields_clear p s items.Unbounded h a = absurd a
fields_clear p s items.NotConvex h a = absurd a
fields_clear p s (items.Value v) h a = (word_clear (codes "VALUE") refl, (text_clear v a.1, tt))
fields_clear p s (items.Point j v) h a = entry_clear p Columns j v (codes "POINT") h (word_clear (codes "POINT") refl) a.inside a.fits
fields_clear p s (items.Ray j v) h a = entry_clear p Columns j v (codes "RAY") h (word_clear (codes "RAY") refl) a.inside a.fits
fields_clear p s (items.Direction j v) h a = entry_clear p Columns j v (codes "VECTOR") h (word_clear (codes "VECTOR") refl) a.inside a.fits
fields_clear p s (items.Square v) h a = (word_clear (codes "SQUARE") refl, (text_clear v a.1, tt))
fields_clear p s (items.Coef j v) h a = entry_clear p Columns j v (codes "COEF") h (word_clear (codes "COEF") refl) a.inside a.fits
fields_clear p s (items.Branch j k) h a = (word_clear (codes "BRANCH") refl, (name_clear p h Columns j a.1, (signed_clear k a.2, tt)))
fields_clear p s items.Bound h a = (word_clear (codes "BOUND") refl, tt)
fields_clear p s items.Farkas h a = (word_clear (codes "FARKAS") refl, tt)
fields_clear p s (items.Cross j) h a = (word_clear (codes "CROSS") refl, (name_clear p h Columns j a.1, tt))
fields_clear p s (items.W j v) h a = entry_clear p Columns j v (codes "W") h (word_clear (codes "W") refl) a.inside a.fits
fields_clear p s (items.Y i v) h a = entry_clear p Rows i v (codes "Y") h (word_clear (codes "Y") refl) a.inside a.fits
fields_clear p s items.End h a = (word_clear (codes "END") refl, tt)

-- ---- what is joined is split again

abbrev pub without : ℕ → ℕ → Bool
without byte b = not (is_byte byte b)

is_other : (byte b : ℕ) → without byte b ≡ true → is_byte byte b ≡ false
is_other byte b e = go (is_byte byte b) e
  where
    go : (t : Bool) → not t ≡ true → t ≡ false
    go true e = absurd cc
    go false e = refl

pub split_behind : (byte : ℕ) (bs rest : List ℕ) → list_all (without byte) bs ≡ true → slice_split (is_byte byte) (bs ++ byte ∷ rest) ≡ bs ∷ slice_split (is_byte byte) rest
split_behind byte [] rest e = rw (eq-eqb byte byte refl) refl
split_behind byte (b ∷ bs) rest e =
    let other = is_other byte b (first_true (without byte b) (list_all (without byte) bs) e) in
    slice_split-cons_no (is_byte byte) b (bs ++ byte ∷ rest) other ∙ ap (onto_first b) (split_behind byte bs rest (second_true (without byte b) (list_all (without byte) bs) e))

split_alone : (byte : ℕ) (bs : List ℕ) → list_all (without byte) bs ≡ true → slice_split (is_byte byte) bs ≡ bs ∷ []
split_alone byte [] e = refl
split_alone byte (b ∷ bs) e =
    let other = is_other byte b (first_true (without byte b) (list_all (without byte) bs) e) in
    slice_split-cons_no (is_byte byte) b bs other ∙ ap (onto_first b) (split_alone byte bs (second_true (without byte b) (list_all (without byte) bs) e))

no_blank : (bs : List ℕ) → IsClear bs → list_all (without 32) bs ≡ true
no_blank bs h = all_more is_clear (without 32) (λ b e. second_true (not (b == 10)) (not (b == 32)) e) bs h.bytes

no_feed : (bs : List ℕ) → IsClear bs → list_all (without 10) bs ≡ true
no_feed bs h = all_more is_clear (without 10) (λ b e. first_true (not (b == 10)) (not (b == 32)) e) bs h.bytes

pub parts_joined : (f : List ℕ) (fs : List (List ℕ)) → AllByRecursion IsClear (f ∷ fs) → parts_of (join_with_byte 32 (f ∷ fs)) ≡ f ∷ fs
parts_joined f [] h = split_alone 32 f (no_blank f h.0)
parts_joined f (g ∷ fs) h = split_behind 32 f (join_with_byte 32 (g ∷ fs)) (no_blank f h.0) ∙ ap (λ (ps : List (List ℕ)). f ∷ ps) (parts_joined g fs h.1)

joined_no_feed : (fs : List (List ℕ)) → AllByRecursion IsClear fs → list_all (without 10) (join_with_byte 32 fs) ≡ true
joined_no_feed [] h = refl
joined_no_feed (f ∷ []) h = no_feed f h.0
joined_no_feed (f ∷ g ∷ fs) h = list_all-append (without 10) f (32 ∷ join_with_byte 32 (g ∷ fs)) ∙ rw (no_feed f h.0) (joined_no_feed (g ∷ fs) h.1)

pub line_pieces : (fs : List (List ℕ)) (rest : List ℕ) → AllByRecursion IsClear fs → pieces_of (line_text fs ++ rest) ≡ join_with_byte 32 fs ∷ pieces_of rest
line_pieces fs rest h = ap pieces_of (append_assoc (join_with_byte 32 fs) (10 ∷ []) rest) ∙ split_behind 10 (join_with_byte 32 fs) rest (joined_no_feed fs h)

filled_parts : (p : Program) (item : Item) → AllByRecursion IsClear (fields_of p item) → parts_of (join_with_byte 32 (fields_of p item)) ≡ fields_of p item
filled_parts p item h = go (fields_of p item) (some p item) h
  where
    go : (fs : List (List ℕ)) → 0 < length fs → AllByRecursion IsClear fs → parts_of (join_with_byte 32 fs) ≡ fs
    go [] lt h = absurd (omega (arith, lt))
    go (f ∷ fs) lt h = parts_joined f fs h

    some : (p : Program) (item : Item) → 0 < length (fields_of p item)
    some p item = grind arith

-- ---- items one after another

abbrev pub item_text : Program → Item → List ℕ
item_text p item = line_text (fields_of p item)

-- each item is accepted behind those before it
abbrev pub Runs : Program → Place → List Item → Type 0
Runs p s [] = Unit {0}
Runs p s (item ∷ later) = (is_ended s.part ≡ false) × Accepted p s item × Runs p (lands s item) later

abbrev pub after_all : Place → List Item → Place
after_all s [] = s
after_all s (item ∷ later) = after_all (lands s item) later

abbrev pub tell_all : Program → Told → List Item → Told
tell_all p d [] = d
tell_all p d (item ∷ later) = tell_all p (with_item (length p.columns) (length p.rows) item d) later

pub run_read : (p : Program) (claim : Claim) (n : ℕ) (earlier later : List Item) → IsProgram p → Runs p (place_after claim earlier) later → is_ended (after_all (place_after claim earlier) later).part ≡ true
    → read_on p claim n earlier (pieces_of (flat_map (item_text p) later)) ≡ Ok (certificate_told claim (tell_all p (told_by p earlier) later))
run_read p claim n earlier [] h r e = rw e refl
run_read p claim n earlier (item ∷ later) h r e =
    let s = place_after claim earlier in
    let clear = fields_clear p s item h r.1 in
    let line = join_with_byte 32 (fields_of p item) in
    let rest = flat_map (item_text p) later in
    let parts : parts_of line ≡ fields_of p item = filled_parts p item clear in
    let read = fields_read p s item (has_names p h) r.1 in
    let there = sym (after_is s item (accepted_stands p s item r.1)) in
    step p claim n earlier line (item_text p item ++ rest) rest (line_pieces (fields_of p item) rest clear) r.0
    ∙ ap (λ ps. fault_or (line_fault p s ps) n (read_on p claim (n + 1) (item_of p ps ∷ earlier) (pieces_of rest))) parts
    ∙ ap (λ f. fault_or f n (read_on p claim (n + 1) (item_of p (fields_of p item) ∷ earlier) (pieces_of rest))) read.clear
    ∙ ap (λ i. read_on p claim (n + 1) (i ∷ earlier) (pieces_of rest)) read.told
    ∙ run_read p claim (n + 1) (item ∷ earlier) later h (subst (λ t. Runs p t later) there r.2) (subst (λ t. is_ended (after_all t later).part ≡ true) there e)
