-- A line that has no fault is the line of its item, which is accepted.
use Rattle.std.proofs.Common.{◌≡◌, ℕ, zero, suc, ◌<◌, ◌≤◌, Bool, true, false, cond, List, [], ◌∷◌, length, Option, Some, None, Result, Ok, Err, refl, sym, ap, ◌∙◌, subst, arith, codes}
use Rattle.std.specs.Prelude.{◌&&◌, ◌==◌, not, is_none, unwrap_or}
use Rattle.std.specs.Option.{option_map}
use Rattle.std.specs.List.{list_all}
use Rattle.std.specs.Str.{bytes_eq}
use Rattle.std.specs.Fmt.{signed_decimal}
use Rattle.std.proofs.lemmas.Bool.{eqb-true}
use Rattle.std.proofs.lemmas.Bool.Decides.{nat_tests}
use Rattle.std.proofs.lemmas.Slice.Eq.{bytes_eq-Decides}
use Rattle.rational.specs.Rational.{ℚ}
use Rattle.frac_core.specs.Text.{text_of}
use Rattle.program_law.specs.Program.{Program}
use Rattle.program_law.specs.Places.{place_of}
use Rattle.rational.specs.Tests.{is_zero}
use Rattle.mps_tokens.specs.declared.fault.NumberFault.{NumberFault}
use Rattle.mps_tokens.specs.declared.words.CertificateWord.{CertificateWord}
use Rattle.mps_tokens.specs.declared.words.CertificateWord.TheVariants as words
use Rattle.mps_tokens.specs.Words.{certificate_word_names}
use Rattle.mps_tokens.specs.Cases.{named}
use Rattle.cert_fields.specs.declared.names.Axis.{Axis}
use Rattle.cert_fields.specs.declared.names.Axis.TheVariants.{Columns, Rows}
use Rattle.cert_grammar.specs.declared.grammar.Allowed.{Allowed}
use Rattle.cert_grammar.specs.declared.grammar.Allowed.TheVariants.{Any, NotZero, Positive, Whole}
use Rattle.cert_grammar.specs.declared.items.Item.{Item}
use Rattle.cert_grammar.specs.declared.places.Place.{Place}
use Rattle.cert_fields.specs.Numbers.{number_of}
use Rattle.cert_fields.specs.Fields.{field, has_fields, is_filled}
use Rattle.cert_fields.specs.Names.{names_on, count_on, name_at}
use Rattle.cert_grammar.specs.Places.{may_stand, least, is_one_too_many}
use Rattle.cert_grammar.specs.Faults.{Tests, first_of, allows, is_allowed, is_early, bare_tests, number_tests, name_tests, entry_tests, tests, fault_of_word, line_fault}
use Rattle.cert_grammar.specs.Items.{item_of, item_with, place, number}
use Rattle.cert_fields.proofs.NameLemmas.{count_names}
use Rattle.cert_fields.proofs.NumbersBack.{IsTextOf, number_back}
use Rattle.cert_grammar.proofs.Lands.{is_claim_word, never_claims}
use Rattle.cert_grammar.proofs.ItemFields.{fields_of, IsEntry, Accepted}

-- ---- no test holds

abbrev test_at : Tests → ℕ → Bool
test_at [] k = false
test_at (t ∷ ts) zero = t.0
test_at (t ∷ ts) (suc k) = test_at ts k

none_holds : (ts : Tests) (k : ℕ) → first_of ts ≡ None → test_at ts k ≡ false
none_holds [] k e = refl
none_holds ((true, kind) ∷ ts) k e = absurd cc
none_holds ((false, kind) ∷ ts) zero e = refl
none_holds ((false, kind) ∷ ts) (suc k) e = none_holds ts k e

both_hold : (a b : Bool) → not (a && b) ≡ false → (a ≡ true) × (b ≡ true)
both_hold true true e = (refl, refl)
both_hold true false e = absurd cc
both_hold false b e = absurd cc

holds : (t : Bool) → not t ≡ false → t ≡ true
holds true e = refl
holds false e = absurd cc

-- ---- fields

count_of : (n : ℕ) (fs : List (List ℕ)) → has_fields n fs ≡ true → (length fs == n) ≡ true
count_of n fs e = go (length fs == n) e
  where
    go : (t : Bool) → (t && list_all is_filled fs) ≡ true → t ≡ true
    go true e = refl
    go false e = absurd cc

no_fields : (fs : List (List ℕ)) → (length fs == 0) ≡ true → fs ≡ []
no_fields [] e = refl
no_fields (f ∷ fs) e = absurd (let n = eqb-true (length (f ∷ fs)) 0 e in omega (arith, n))

one_field : (fs : List (List ℕ)) → (length fs == 1) ≡ true → fs ≡ field fs 0 ∷ []
one_field [] e = absurd (let n = eqb-true 0 1 e in omega (arith, n))
one_field (f ∷ []) e = refl
one_field (f ∷ g ∷ fs) e = absurd (let n = eqb-true (length (f ∷ g ∷ fs)) 1 e in omega (arith, n))

two_fields : (fs : List (List ℕ)) → (length fs == 2) ≡ true → fs ≡ field fs 0 ∷ field fs 1 ∷ []
two_fields [] e = absurd (let n = eqb-true 0 2 e in omega (arith, n))
two_fields (f ∷ []) e = absurd (let n = eqb-true 1 2 e in omega (arith, n))
two_fields (f ∷ g ∷ []) e = refl
two_fields (f ∷ g ∷ h ∷ fs) e = absurd (let n = eqb-true (length (f ∷ g ∷ h ∷ fs)) 2 e in omega (arith, n))

-- ---- names and numbers that are found

-- the place of a name
pub record IsNamed (names : List (List ℕ)) (name : List ℕ) : Type 0 where
  pub inside : place names name < length names
  pub same : name_at names (place names name) ≡ name

named_back : (names : List (List ℕ)) (name : List ℕ) → is_none (place_of names name) ≡ false → IsNamed names name
named_back [] name e = absurd cc
named_back (n ∷ ns) name e = go (bytes_eq name n) (place_of ns name) refl (λ f. named_back ns name f) refl e
  where
    some : ℕ → Option ℕ
    some k = Some k

    go : (t : Bool) (o : Option ℕ) → bytes_eq name n ≡ t → (is_none (place_of ns name) ≡ false → IsNamed ns name) → place_of ns name ≡ o → is_none (cond t (Some 0) (option_map suc o)) ≡ false → IsNamed (n ∷ ns) name
    go true o f rest p e =
        let here : place (n ∷ ns) name ≡ 0 = rw f refl in
        record { inside = omega (arith, here); same = ap (name_at (n ∷ ns)) here ∙ sym ((bytes_eq-Decides name n).0 f) }
    go false None f rest p e = absurd cc
    go false (Some k) f rest p e =
        let later = rest (ap (λ (o : Option ℕ). is_none o) p) in
        let old : place ns name ≡ k = rw p refl in
        let new : place (n ∷ ns) name ≡ suc k = rw (f, p) refl in
        record { inside = omega (arith, later.inside, old, new); same = ap (name_at (n ∷ ns)) new ∙ ap (name_at ns) (sym old) ∙ later.same }

axis_count : (p : Program) (axis : Axis) → length (names_on p axis) ≡ count_on p axis
axis_count p Columns = count_names p.columns
axis_count p Rows = count_names p.rows

-- the number that bytes spell
pub record IsSpelt (allowed : Allowed) (bytes : List ℕ) : Type 0 where
  pub text : IsTextOf bytes (number bytes)
  pub allowed_is : allows allowed (number bytes) ≡ true

spelt_back : (allowed : Allowed) (bytes : List ℕ) → is_allowed allowed (number_of bytes) ≡ true → IsSpelt allowed bytes
spelt_back allowed bytes e = go (number_of bytes) refl e
  where
    go : (r : Result ℚ NumberFault) → number_of bytes ≡ r → is_allowed allowed r ≡ true → IsSpelt allowed bytes
    go (Ok v) f e = let same : number bytes ≡ v = rw f refl in record { text = subst (IsTextOf bytes) (sym same) (number_back bytes v f); allowed_is = ap (allows allowed) same ∙ e }
    go (Err k) f e = absurd cc

-- ---- the four forms

pub record IsBare (s : Place) (word : CertificateWord) (fs : List (List ℕ)) : Type 0 where
  pub stands : may_stand s word ≡ true
  pub none : fs ≡ []

bare_back : (s : Place) (word : CertificateWord) (fs : List (List ℕ)) → first_of (bare_tests s word fs) ≡ None → IsBare s word fs
bare_back s word fs e =
    let b = both_hold (may_stand s word) (has_fields 0 fs) (none_holds (bare_tests s word fs) 0 e) in
    record { stands = b.0; none = no_fields fs (count_of 0 fs b.1) }

pub record IsNumbered (s : Place) (word : CertificateWord) (allowed : Allowed) (fs : List (List ℕ)) : Type 0 where
  pub stands : may_stand s word ≡ true
  pub one : fs ≡ field fs 0 ∷ []
  pub spelt : IsSpelt allowed (field fs 0)
  pub few : is_one_too_many s word ≡ false

number_tests_back : (s : Place) (word : CertificateWord) (allowed : Allowed) (fs : List (List ℕ)) → first_of (number_tests s word allowed fs) ≡ None → IsNumbered s word allowed fs
number_tests_back s word allowed fs e =
    let ts = number_tests s word allowed fs in
    let b = both_hold (may_stand s word) (has_fields 1 fs) (none_holds ts 0 e) in
    record { stands = b.0; one = one_field fs (count_of 1 fs b.1); spelt = spelt_back allowed (field fs 0) (holds (is_allowed allowed (number_of (field fs 0))) (none_holds ts 2 e)); few = none_holds ts 3 e }

pub record IsNameLine (s : Place) (word : CertificateWord) (names : List (List ℕ)) (fs : List (List ℕ)) : Type 0 where
  pub stands : may_stand s word ≡ true
  pub one : fs ≡ field fs 0 ∷ []
  pub named_is : IsNamed names (field fs 0)

name_tests_back : (s : Place) (word : CertificateWord) (names : List (List ℕ)) (fs : List (List ℕ)) → first_of (name_tests s word names fs) ≡ None → IsNameLine s word names fs
name_tests_back s word names fs e =
    let ts = name_tests s word names fs in
    let b = both_hold (may_stand s word) (has_fields 1 fs) (none_holds ts 0 e) in
    record { stands = b.0; one = one_field fs (count_of 1 fs b.1); named_is = named_back names (field fs 0) (none_holds ts 1 e) }

pub record IsEntryLine (s : Place) (word : CertificateWord) (names : List (List ℕ)) (allowed : Allowed) (fs : List (List ℕ)) : Type 0 where
  pub stands : may_stand s word ≡ true
  pub two : fs ≡ field fs 0 ∷ field fs 1 ∷ []
  pub named_is : IsNamed names (field fs 0)
  pub spelt : IsSpelt allowed (field fs 1)
  pub late : least s word ≤ place names (field fs 0)
  pub few : is_one_too_many s word ≡ false

late_from : (least : ℕ) (o : Option ℕ) → is_none o ≡ false → is_early least o ≡ false → least ≤ unwrap_or o 0
late_from least None e f = absurd cc
late_from least (Some k) e f = grind (arith, nat_tests)

entry_tests_back : (s : Place) (word : CertificateWord) (names : List (List ℕ)) (allowed : Allowed) (fs : List (List ℕ)) → first_of (entry_tests s word names allowed fs) ≡ None → IsEntryLine s word names allowed fs
entry_tests_back s word names allowed fs e =
    let ts = entry_tests s word names allowed fs in
    let b = both_hold (may_stand s word) (has_fields 2 fs) (none_holds ts 0 e) in
    record {
      stands = b.0;
      two = two_fields fs (count_of 2 fs b.1);
      named_is = named_back names (field fs 0) (none_holds ts 1 e);
      spelt = spelt_back allowed (field fs 1) (holds (is_allowed allowed (number_of (field fs 1))) (none_holds ts 3 e));
      late = late_from (least s word) (place_of names (field fs 0)) (none_holds ts 1 e) (none_holds ts 4 e);
      few = none_holds ts 5 e;
    }

-- ---- the word

abbrev word_text : CertificateWord → List ℕ
word_text words.Optimal = codes "OPTIMAL"
word_text words.Infeasible = codes "INFEASIBLE"
word_text words.Unbounded = codes "UNBOUNDED"
word_text words.NotConvex = codes "NOTCONVEX"
word_text words.Value = codes "VALUE"
word_text words.Point = codes "POINT"
word_text words.Ray = codes "RAY"
word_text words.Vector = codes "VECTOR"
word_text words.Square = codes "SQUARE"
word_text words.Coef = codes "COEF"
word_text words.Branch = codes "BRANCH"
word_text words.Bound = codes "BOUND"
word_text words.Farkas = codes "FARKAS"
word_text words.Cross = codes "CROSS"
word_text words.W = codes "W"
word_text words.Y = codes "Y"
word_text words.End = codes "END"

-- each word of a table has its own text
abbrev IsTable : List (List ℕ × CertificateWord) → Type 0
IsTable [] = Unit {0}
IsTable (e ∷ es) = (e.0 ≡ word_text e.1) × IsTable es

word_in : (table : List (List ℕ × CertificateWord)) (word : List ℕ) (w : CertificateWord) → IsTable table → named table word ≡ Some w → word ≡ word_text w
word_in [] word w h e = absurd cc
word_in (t ∷ ts) word w h e = go (bytes_eq t.0 word) refl (λ f. word_in ts word w h.1 f) e
  where
    same : Some t.1 ≡ Some w → t.1 ≡ w
    same e = cc

    go : (b : Bool) → bytes_eq t.0 word ≡ b → (named ts word ≡ Some w → word ≡ word_text w) → cond b (Some t.1) (named ts word) ≡ Some w → word ≡ word_text w
    go true f rest e = sym ((bytes_eq-Decides t.0 word).0 f) ∙ h.0 ∙ ap word_text (same e)
    go false f rest e = rest e

pub word_back : (word : List ℕ) (w : CertificateWord) → named certificate_word_names word ≡ Some w → word ≡ word_text w
word_back word w e = word_in certificate_word_names word w (refl, (refl, (refl, (refl, (refl, (refl, (refl, (refl, (refl, (refl, (refl, (refl, (refl, (refl, (refl, (refl, (refl, tt))))))))))))))))) e

-- ---- the line

pub record IsBack (p : Program) (s : Place) (item : Item) (parts : List (List ℕ)) : Type 0 where
  pub accepted : Accepted p s item
  pub fields_are : fields_of p item ≡ parts

not_zero_from : (v : ℚ) → allows NotZero v ≡ true → is_zero v ≡ false
not_zero_from v e = go (is_zero v) e
  where
    go : (t : Bool) → not t ≡ true → t ≡ false
    go true e = absurd cc
    go false e = refl

entry_is : (p : Program) (axis : Axis) (s : Place) (word : CertificateWord) (fs : List (List ℕ)) → IsEntryLine s word (names_on p axis) NotZero fs → IsEntry p axis s word (place (names_on p axis) (field fs 0)) (number (field fs 1))
entry_is p axis s word fs h = record {
  stands = h.stands;
  inside = omega (arith, h.named_is.inside, axis_count p axis);
  fits = h.spelt.text.fits;
  some = not_zero_from (number (field fs 1)) h.spelt.allowed_is;
  late = h.late;
}

-- a word, a name and a number
three : (word : List ℕ) (names : List (List ℕ)) (fs : List (List ℕ)) (text : List ℕ) → IsNamed names (field fs 0) → text ≡ field fs 1 → fs ≡ field fs 0 ∷ field fs 1 ∷ [] → word ∷ name_at names (place names (field fs 0)) ∷ text ∷ [] ≡ word ∷ fs
three word names fs text n t two = ap (λ (name : List ℕ). word ∷ name ∷ text ∷ []) n.same ∙ ap (λ (t : List ℕ). word ∷ field fs 0 ∷ t ∷ []) t ∙ ap (λ (l : List (List ℕ)). word ∷ l) (sym two)

entry_back : (p : Program) (axis : Axis) (s : Place) (word : CertificateWord) (fs : List (List ℕ)) (text : List ℕ) → first_of (entry_tests s word (names_on p axis) NotZero fs) ≡ None
    → IsEntry p axis s word (place (names_on p axis) (field fs 0)) (number (field fs 1)) × (text ∷ name_at (names_on p axis) (place (names_on p axis) (field fs 0)) ∷ text_of (number (field fs 1)) ∷ [] ≡ text ∷ fs)
entry_back p axis s word fs text e =
    let h = entry_tests_back s word (names_on p axis) NotZero fs e in
    (entry_is p axis s word fs h, three text (names_on p axis) fs (text_of (number (field fs 1))) h.named_is h.spelt.text.text h.two)

whole_text : (v : ℚ) → (v.den == 1) ≡ true → text_of v ≡ signed_decimal v.num
whole_text v e = rw e refl

no_claim : (s : Place) (w : CertificateWord) (fs : List (List ℕ)) → is_claim_word w ≡ true → first_of (bare_tests s w fs) ≡ None → ⊥
no_claim s w fs c e = never_claims s w c (bare_back s w fs e).stands

with_word : (p : Program) (s : Place) (w : CertificateWord) (fs : List (List ℕ)) → first_of (tests p s w fs) ≡ None → IsBack p s (item_with p (Some w) fs) (word_text w ∷ fs)
with_word p s words.Optimal fs e = absurd (no_claim s words.Optimal fs refl e)
with_word p s words.Infeasible fs e = absurd (no_claim s words.Infeasible fs refl e)
with_word p s words.Unbounded fs e = absurd (no_claim s words.Unbounded fs refl e)
with_word p s words.NotConvex fs e = absurd (no_claim s words.NotConvex fs refl e)
with_word p s words.Value fs e =
    let h = number_tests_back s words.Value Any fs e in
    record { accepted = (h.stands, h.spelt.text.fits); fields_are = ap (λ (t : List ℕ). codes "VALUE" ∷ t ∷ []) h.spelt.text.text ∙ ap (λ (l : List (List ℕ)). codes "VALUE" ∷ l) (sym h.one) }
with_word p s words.Point fs e = let h = entry_back p Columns s words.Point fs (codes "POINT") e in record { accepted = h.0; fields_are = h.1 }
with_word p s words.Ray fs e = let h = entry_back p Columns s words.Ray fs (codes "RAY") e in record { accepted = h.0; fields_are = h.1 }
with_word p s words.Vector fs e = let h = entry_back p Columns s words.Vector fs (codes "VECTOR") e in record { accepted = h.0; fields_are = h.1 }
with_word p s words.Square fs e =
    let h = number_tests_back s words.Square Positive fs e in
    record {
      accepted = (h.stands, h.spelt.text.fits, h.spelt.allowed_is, h.few);
      fields_are = ap (λ (t : List ℕ). codes "SQUARE" ∷ t ∷ []) h.spelt.text.text ∙ ap (λ (l : List (List ℕ)). codes "SQUARE" ∷ l) (sym h.one);
    }
with_word p s words.Coef fs e = let h = entry_back p Columns s words.Coef fs (codes "COEF") e in record { accepted = h.0; fields_are = h.1 }
with_word p s words.Branch fs e =
    let h = entry_tests_back s words.Branch (names_on p Columns) Whole fs e in
    let v = number (field fs 1) in
    let text : signed_decimal v.num ≡ field fs 1 = sym (whole_text v h.spelt.allowed_is) ∙ h.spelt.text.text in
    record {
      accepted = (h.stands, omega (arith, h.named_is.inside, count_names p.columns), h.spelt.text.fits.0, h.few);
      fields_are = three (codes "BRANCH") (names_on p Columns) fs (signed_decimal v.num) h.named_is text h.two;
    }
with_word p s words.Bound fs e = let h = bare_back s words.Bound fs e in record { accepted = h.stands; fields_are = ap (λ (l : List (List ℕ)). codes "BOUND" ∷ l) (sym h.none) }
with_word p s words.Farkas fs e = let h = bare_back s words.Farkas fs e in record { accepted = h.stands; fields_are = ap (λ (l : List (List ℕ)). codes "FARKAS" ∷ l) (sym h.none) }
with_word p s words.Cross fs e =
    let h = name_tests_back s words.Cross (names_on p Columns) fs e in
    record {
      accepted = (h.stands, omega (arith, h.named_is.inside, count_names p.columns));
      fields_are = ap (λ (n : List ℕ). codes "CROSS" ∷ n ∷ []) h.named_is.same ∙ ap (λ (l : List (List ℕ)). codes "CROSS" ∷ l) (sym h.one);
    }
with_word p s words.W fs e = let h = entry_back p Columns s words.W fs (codes "W") e in record { accepted = h.0; fields_are = h.1 }
with_word p s words.Y fs e = let h = entry_back p Rows s words.Y fs (codes "Y") e in record { accepted = h.0; fields_are = h.1 }
with_word p s words.End fs e = let h = bare_back s words.End fs e in record { accepted = h.stands; fields_are = ap (λ (l : List (List ℕ)). codes "END" ∷ l) (sym h.none) }

pub line_back : (p : Program) (s : Place) (parts : List (List ℕ)) → line_fault p s parts ≡ None → IsBack p s (item_of p parts) parts
unfolding line_fault item_of
line_back p s [] e = absurd cc
line_back p s (word ∷ fs) e = go (named certificate_word_names word) refl e
  where
    go : (o : Option CertificateWord) → named certificate_word_names word ≡ o → fault_of_word p s o fs ≡ None → IsBack p s (item_with p o fs) (word ∷ fs)
    go None f e = absurd cc
    go (Some w) f e = let h = with_word p s w fs e in record { accepted = h.accepted; fields_are = h.fields_are ∙ ap (λ (t : List ℕ). t ∷ fs) (sym (word_back word w f)) }
