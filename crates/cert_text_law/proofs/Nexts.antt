-- What stands behind so many items of a text: the next one, the text's end, or its fault.
use Rattle.std.proofs.Common.{◌≡◌, ℕ, zero, suc, ◌+◌, ◌≤◌, Bool, true, false, List, [], ◌∷◌, length, drop, slice_get, Some, None, Ok, Err, refl, sym, ap, ◌∙◌, subst, arith}
use Rattle.std.specs.Prelude.{◌==◌}
use Rattle.program_law.specs.Program.{Program}
use Rattle.certificate_law.specs.declared.Certificate.{Certificate}
use Rattle.cert_grammar.specs.declared.items.Item.{Item}
use Rattle.cert_grammar.specs.declared.items.Item.TheVariants as items
use Rattle.cert_grammar.specs.declared.items.Claim.{Claim}
use Rattle.cert_grammar.specs.declared.kinds.CertKind.{CertKind}
use Rattle.cert_grammar.specs.declared.kinds.CertKind.TheVariants as kinds
use Rattle.cert_grammar.specs.declared.places.Place.{Place}
use Rattle.cert_fields.specs.Parts.{pieces_of, parts_of}
use Rattle.cert_grammar.specs.Grammar.{item_of_claim}
use Rattle.cert_grammar.specs.Places.{start, after, place_after, is_ended, IsCounted}
use Rattle.cert_grammar.specs.Faults.{line_fault}
use Rattle.cert_grammar.specs.Items.{claim_in, item_of, IsWithin}
use Rattle.cert_text_law.specs.Told.{told_by, certificate_told}
use Rattle.cert_text_law.specs.Reading.{fault_or, read_on, read_of}
use Rattle.cert_text_law.specs.Items.{unless, items_on, items_claimed, text_items}
use Rattle.cert_text_law.specs.History.{IsBehind}
use Rattle.cert_grammar.proofs.ItemFields.{Accepted}
use Rattle.cert_grammar.proofs.LinesBack.{line_back}
use Rattle.cert_grammar.proofs.Counts.{counts, start_counted}
use Rattle.cert_fields.proofs.Pieces.{split_has_first}
use Rattle.cert_text_law.proofs.Accepts.{in_range}
use Rattle.cert_text_law.proofs.Readings.{step, not_last, read_ended, claimed, unclaimed, unbegun, is_nothing, listed_step, listed_end, listed_cut, listed_first}

-- ---- lists behind a place

here : {A : Type 0} (n : ℕ) (xs : List A) (x : A) (ys : List A) → drop n xs ≡ x ∷ ys → slice_get xs n ≡ Some x
here zero [] x ys e = absurd cc
here zero (a ∷ xs) x ys e = cc
here (suc n) [] x ys e = absurd cc
here (suc n) (a ∷ xs) x ys e = here n xs x ys e

behind : {A : Type 0} (n : ℕ) (xs : List A) (x : A) (ys : List A) → drop n xs ≡ x ∷ ys → drop (suc n) xs ≡ ys
behind zero [] x ys e = absurd cc
behind zero (a ∷ xs) x ys e = cc
behind (suc n) [] x ys e = absurd cc
behind (suc n) (a ∷ xs) x ys e = behind n xs x ys e

inside : {A : Type 0} (n : ℕ) (xs : List A) (x : A) (ys : List A) → drop n xs ≡ x ∷ ys → suc n ≤ length xs
inside zero [] x ys e = absurd cc
inside zero (a ∷ xs) x ys e = omega arith
inside (suc n) [] x ys e = absurd cc
inside (suc n) (a ∷ xs) x ys e = let h = inside n xs x ys e in omega (arith, h)

all_of : {A : Type 0} (n : ℕ) (xs : List A) → n ≤ length xs → drop n xs ≡ [] → n ≡ length xs
all_of zero [] h e = refl
all_of zero (a ∷ xs) h e = absurd cc
all_of (suc n) [] h e = absurd (omega (arith, h))
all_of (suc n) (a ∷ xs) h e = let f = all_of n xs (omega (arith, h)) e in omega (arith, f)

-- ---- no line more

pub none_left : (p : Program) (text : List ℕ) (line given : ℕ) (rest : List ℕ) (s : Place) → (h : IsBehind p text line given rest s) → items_on p h.claim h.earlier (pieces_of rest) ≡ [] → given ≡ length (text_items p text)
none_left p text line given rest s h none = all_of given (text_items p text) h.within (h.later ∙ none)

ended : (p : Program) (text : List ℕ) (line given : ℕ) (rest : List ℕ) (s : Place) (b : Bool) → (h : IsBehind p text line given rest s) → b ≡ is_ended s.part → is_ended (place_after h.claim h.earlier).part ≡ b
ended p text line given rest s b h e = ap (λ (s : Place). is_ended s.part) (sym h.place) ∙ sym e

pub at_end : (p : Program) (text : List ℕ) (line given : ℕ) (rest : List ℕ) (s : Place) → IsBehind p text line given rest s → true ≡ is_ended s.part → true ≡ (length rest == 0)
    → (given ≡ length (text_items p text)) × (c : Certificate) × (read_of p line text ≡ Ok c)
at_end p text line given rest s h e none =
    let f = ended p text line given rest s true h e in
    let told = certificate_told h.claim (told_by p h.earlier) in
    let all : read_on p h.claim (line + given) h.earlier (pieces_of []) ≡ Ok told = rw f refl in (
      none_left p text line given rest s h (listed_end p h.claim h.earlier (pieces_of rest) f),
      told,
      h.answer ∙ ap (λ (t : List ℕ). read_on p h.claim (line + given) h.earlier (pieces_of t)) (is_nothing rest none) ∙ all,
    )

pub goes_past : (p : Program) (text : List ℕ) (line given : ℕ) (rest : List ℕ) (s : Place) → IsBehind p text line given rest s → true ≡ is_ended s.part → false ≡ (length rest == 0)
    → (given ≡ length (text_items p text)) × (read_of p line text ≡ Err (line + given, kinds.CertAfter))
goes_past p text line given rest s h e some =
    let f = ended p text line given rest s true h e in
    (none_left p text line given rest s h (listed_end p h.claim h.earlier (pieces_of rest) f), h.answer ∙ go rest some f)
  where
    go : (rest : List ℕ) → false ≡ (length rest == 0) → is_ended (place_after h.claim h.earlier).part ≡ true → read_on p h.claim (line + given) h.earlier (pieces_of rest) ≡ Err (line + given, kinds.CertAfter)
    go [] some f = absurd cc
    go (b ∷ bs) some f = read_ended p h.claim (line + given) h.earlier (pieces_of (b ∷ bs)) f (split_has_first 10 (b ∷ bs)) (not_last b bs)

pub cut_off : (p : Program) (text : List ℕ) (line given : ℕ) (rest : List ℕ) (s : Place) → IsBehind p text line given rest s → false ≡ is_ended s.part → pieces_of rest ≡ rest ∷ []
    → (given ≡ length (text_items p text)) × (read_of p line text ≡ Err (line + given, kinds.CertEnd))
cut_off p text line given rest s h e pieces =
    let f = ended p text line given rest s false h e in
    let now : read_on p h.claim (line + given) h.earlier (rest ∷ []) ≡ Err (line + given, kinds.CertEnd) = rw f refl in (
      none_left p text line given rest s h (ap (items_on p h.claim h.earlier) pieces ∙ listed_cut p h.claim h.earlier rest),
      h.answer ∙ ap (read_on p h.claim (line + given) h.earlier) pieces ∙ now,
    )

-- ---- a line more

-- the items of the rest, by its first line
listed : (p : Program) (claim : Claim) (earlier : List Item) (first rest others : List ℕ) → pieces_of rest ≡ first ∷ pieces_of others → is_ended (place_after claim earlier).part ≡ false
    → items_on p claim earlier (pieces_of rest)
    ≡ unless (line_fault p (place_after claim earlier) (parts_of first)) (item_of p (parts_of first) ∷ items_on p claim (item_of p (parts_of first) ∷ earlier) (pieces_of others))
listed p claim earlier first rest others pieces e =
    let f = split_has_first 10 others in
    let P : List (List ℕ) → Type 0 = λ more. items_on p claim earlier (first ∷ more) ≡ unless (line_fault p (place_after claim earlier) (parts_of first)) (item_of p (parts_of first) ∷ items_on p claim (item_of p (parts_of first) ∷ earlier) more) in
    ap (items_on p claim earlier) pieces ∙ subst P (sym f.parts_are) (listed_step p claim earlier first f.first f.others e)

pub leaves : (p : Program) (text : List ℕ) (line given : ℕ) (first rest others : List ℕ) (s : Place) (kind : CertKind) → IsBehind p text line given rest s → false ≡ is_ended s.part → pieces_of rest ≡ first ∷ pieces_of others
    → line_fault p s (parts_of first) ≡ Some kind → (given ≡ length (text_items p text)) × (read_of p line text ≡ Err (line + given, kind))
leaves p text line given first rest others s kind h e pieces some =
    let f = ended p text line given rest s false h e in
    let now : line_fault p (place_after h.claim h.earlier) (parts_of first) ≡ Some kind = ap (λ s. line_fault p s (parts_of first)) (sym h.place) ∙ some in
    let item = item_of p (parts_of first) in (
      none_left p text line given rest s h (listed p h.claim h.earlier first rest others pieces f ∙ ap (λ o. unless o (item ∷ items_on p h.claim (item ∷ h.earlier) (pieces_of others))) now),
      h.answer ∙ step p h.claim (line + given) h.earlier first rest others pieces f ∙ ap (λ o. fault_or o (line + given) (read_on p h.claim (line + given + 1) (item ∷ h.earlier) (pieces_of others))) now,
    )

accepted_within : (p : Program) (s : Place) (item : Item) → Accepted p s item → IsWithin p item
accepted_within p s (items.Point j v) a = a.inside
accepted_within p s (items.Ray j v) a = a.inside
accepted_within p s (items.Direction j v) a = a.inside
accepted_within p s (items.Coef j v) a = a.inside
accepted_within p s (items.Branch j k) a = (a.1, in_range k a.2)
accepted_within p s (items.Cross j) a = a.1
accepted_within p s (items.W j v) a = a.inside
accepted_within p s (items.Y i v) a = a.inside
accepted_within p s item a = tt

-- the line is the next item of the text
pub record IsNextItem (p : Program) (text : List ℕ) (line given : ℕ) (item : Item) (rest : List ℕ) (s : Place) : Type 0 where
  pub there : slice_get (text_items p text) given ≡ Some item
  pub within : IsWithin p item
  pub behind_it : IsBehind p text line (given + 1) rest s

pub goes_on : (p : Program) (text : List ℕ) (line given : ℕ) (first rest others : List ℕ) (s t : Place) (item : Item) → IsBehind p text line given rest s → false ≡ is_ended s.part → pieces_of rest ≡ first ∷ pieces_of others
    → line_fault p s (parts_of first) ≡ None → item_of p (parts_of first) ≡ item → t ≡ after s item → IsNextItem p text line given item others t
goes_on p text line given first rest others s t item h e pieces none is place =
    let f = ended p text line given rest s false h e in
    let now : line_fault p (place_after h.claim h.earlier) (parts_of first) ≡ None = ap (λ s. line_fault p s (parts_of first)) (sym h.place) ∙ none in
    let it = item_of p (parts_of first) in
    let more = items_on p h.claim (it ∷ h.earlier) (pieces_of others) in
    let all : drop given (text_items p text) ≡ it ∷ more = h.later ∙ listed p h.claim h.earlier first rest others pieces f ∙ ap (λ o. unless o (it ∷ more)) now in
    let there : t ≡ after s it = place ∙ ap (after s) (sym is) in
    let next : suc given ≡ given + 1 = omega arith in
    let number : line + given + 1 ≡ line + (given + 1) = omega arith in
    let within : suc given ≤ length (text_items p text) = inside given (text_items p text) it more all in
    let P : Place → Type 0 = λ s. IsCounted (suc (length h.earlier)) s in
    record {
      there = here given (text_items p text) it more all ∙ ap (λ i. Some i) is;
      within = accepted_within p s item (subst (Accepted p s) is (line_back p s (parts_of first) none).accepted);
      behind_it = record {
        claim = h.claim;
        earlier = it ∷ h.earlier;
        place = there ∙ ap (λ s. after s it) h.place;
        counted = subst P (sym there) (counts (length h.earlier) s it h.counted);
        count = omega (arith, h.count);
        answer = h.answer ∙ step p h.claim (line + given) h.earlier first rest others pieces f
            ∙ ap (λ o. fault_or o (line + given) (read_on p h.claim (line + given + 1) (it ∷ h.earlier) (pieces_of others))) now
            ∙ ap (λ n. read_on p h.claim n (it ∷ h.earlier) (pieces_of others)) number;
        within = omega (arith, within);
        later = ap (λ n. drop n (text_items p text)) (sym next) ∙ behind given (text_items p text) it more all;
      };
    }

-- ---- the first line

pub begins : (p : Program) (line : ℕ) (first text rest : List ℕ) (claim : Claim) (item : Item) (s : Place) → pieces_of text ≡ first ∷ pieces_of rest → claim_in first ≡ Some claim → item ≡ item_of_claim claim → s ≡ start claim
    → IsNextItem p text line 0 item rest s
begins p line first text rest claim item s pieces some is place =
    let more = items_on p claim [] (pieces_of rest) in
    let all : text_items p text ≡ item_of_claim claim ∷ more = listed_first p first text rest pieces ∙ ap (λ o. items_claimed p o (pieces_of rest)) some in
    let P : Place → Type 0 = λ s. IsCounted 0 s in
    let size : length (text_items p text) ≡ suc (length more) = ap (λ (l : List Item). length l) all in
    record {
      there = here 0 (text_items p text) (item_of_claim claim) more all ∙ ap (λ i. Some i) (sym is);
      within = subst (IsWithin p) (sym is) (claim_within p claim);
      behind_it = record {
        claim = claim;
        earlier = [];
        place = place;
        counted = subst P (sym place) (start_counted claim);
        count = refl;
        answer = claimed p line first text rest claim pieces some;
        within = omega (arith, size);
        later = behind 0 (text_items p text) (item_of_claim claim) more all;
      };
    }
  where
    claim_within : (p : Program) (claim : Claim) → IsWithin p (item_of_claim claim)
    claim_within p claim = grind arith

pub unclaimed_first : (p : Program) (line : ℕ) (first text rest : List ℕ) → pieces_of text ≡ first ∷ pieces_of rest → claim_in first ≡ None → (0 ≡ length (text_items p text)) × (read_of p line text ≡ Err (line + 0, kinds.CertLine))
unclaimed_first p line first text rest pieces none =
    let all : text_items p text ≡ [] = listed_first p first text rest pieces ∙ ap (λ o. items_claimed p o (pieces_of rest)) none in
    let same : line ≡ line + 0 = omega arith in
    (sym (ap (λ (l : List Item). length l) all), unclaimed p line first text rest pieces none ∙ ap (λ n. Err (n, kinds.CertLine)) same)

pub no_first : (p : Program) (line : ℕ) (text : List ℕ) → pieces_of text ≡ text ∷ [] → (0 ≡ length (text_items p text)) × (read_of p line text ≡ Err (line + 0, kinds.CertEnd))
no_first p line text pieces =
    let all : text_items p text ≡ [] = rw pieces refl in
    let same : line ≡ line + 0 = omega arith in
    (sym (ap (λ (l : List Item). length l) all), unbegun p line text pieces ∙ ap (λ n. Err (n, kinds.CertEnd)) same)
