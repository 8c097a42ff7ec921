-- A text that is read is that of items which are accepted one after another, and tell a certificate that can be written.
use Rattle.std.proofs.Common.{◌≡◌, ◌≢◌, ℕ, zero, suc, ◌+◌, ◌*◌, ◌^◌, ◌<◌, ◌≤◌, Bool, true, false, List, [], ◌∷◌, ◌++◌, length, Option, Some, None, Ok, refl, sym, ap, ◌∙◌, subst, arith, lit<, append_assoc, ℤ, pos}
use Rattle.std.specs.Prelude.{◌==◌, nat_le, unsigned_abs, neg_ℤ}
use Rattle.std.specs.List.{flat_map, join_with_byte, AllByRecursion}
use Rattle.std.proofs.lemmas.Bool.{eqb-true}
use Rattle.std.proofs.lemmas.Bool.Decides.{nat_tests}
use Rattle.std.proofs.lemmas.List.{length-set, length_push}
use Rattle.std.proofs.lemmas.List.Splits.{join_with_byte-slice_split}
use Rattle.std.proofs.Math.Nat.{lt_of_le_of_lt}
use Rattle.rational.specs.Rational.{ℚ}
use Rattle.frac_core.specs.Parts.{max_part}
use Rattle.program_law.specs.Program.{Program}
use Rattle.program_law.specs.Changes.{zeros}
use Rattle.program_law.specs.declared.Square.{Square}
use Rattle.program_law.proofs.Numbers.{positive_above}
use Rattle.certificate_law.specs.declared.Node.{Node}
use Rattle.certificate_law.specs.declared.Node.TheVariants as nodes
use Rattle.certificate_law.specs.declared.Certificate.{Certificate}
use Rattle.certificate_law.specs.Nodes.{AreTrees}
use Rattle.program_law.specs.Squares.{ArePositive}
use Rattle.certificate_law.specs.Fits.{FitsNode, HasNoBound, IsColumnVector}
use Rattle.mps_tokens.specs.declared.words.CertificateWord.TheVariants as words
use Rattle.cert_grammar.specs.declared.items.Item.{Item}
use Rattle.cert_grammar.specs.declared.items.Item.TheVariants as items
use Rattle.cert_grammar.specs.declared.items.Claim.{Claim}
use Rattle.cert_grammar.specs.declared.items.Claim.TheVariants.{Optimal, Infeasible, Unbounded, NotConvex}
use Rattle.cert_grammar.specs.declared.kinds.CertKind.{CertKind}
use Rattle.cert_grammar.specs.declared.places.Place.{Place}
use Rattle.cert_fields.specs.Parts.{parts_of, pieces_of}
use Rattle.cert_grammar.specs.Places.{start, place_after, is_ended}
use Rattle.cert_grammar.specs.Faults.{line_fault}
use Rattle.cert_grammar.specs.Items.{item_of}
use Rattle.cert_text_law.specs.Told.{Told, blank, with_item, with_coef, with_w, with_y, on_last, told_by, certificate_told}
use Rattle.cert_grammar.specs.Items.{claim_in}
use Rattle.cert_text_law.specs.Reading.{Answer, read_on, read_of, read_claimed, read_pieces}
use Rattle.cert_text_law.specs.Items.{unless, items_on}
use Rattle.cert_text_law.specs.History.{Tracks}
use Rattle.cert_grammar.specs.Writable.{IsWritable, branch_count}
use Rattle.cert_text_law.proofs.Histories.{tracks, is_tree, start_tracked}
use Rattle.cert_grammar.proofs.Lands.{is_optimal, can_stand, bound_claim, lands, after_is}
use Rattle.cert_grammar.proofs.ItemFields.{fields_of, Accepted, accepted_stands}
use Rattle.cert_text_law.proofs.ItemRuns.{MayBound}
use Rattle.cert_grammar.proofs.LinesBack.{line_back}
use Rattle.cert_text_law.proofs.Readings.{listed_step}
use Rattle.cert_text_law.proofs.TextsRead.{Runs, after_all, tell_all, item_text}

pub record IsAccepted (p : Program) (claim : Claim) (earlier : List Item) (pieces : List (List ℕ)) (c : Certificate) : Type 0 where
  pub later : List Item
  pub runs : Runs p (place_after claim earlier) later
  pub ends : is_ended (after_all (place_after claim earlier) later).part ≡ true
  pub told : c ≡ certificate_told claim (tell_all p (told_by p earlier) later)
  pub text : join_with_byte 10 pieces ≡ flat_map (item_text p) later
  pub listed : items_on p claim earlier pieces ≡ later

last_piece : (p : Program) (claim : Claim) (n : ℕ) (earlier : List Item) (piece : List ℕ) (c : Certificate) → read_on p claim n earlier (piece ∷ []) ≡ Ok c → IsAccepted p claim earlier (piece ∷ []) c
last_piece p claim n earlier piece c e = go (is_ended (place_after claim earlier).part) (length piece == 0) refl refl e
  where
    told : Certificate
    told = certificate_told claim (told_by p earlier)

    same : (a b : Certificate) (r : Answer) → r ≡ Ok a → r ≡ Ok b → a ≡ b
    same a b r e f = cc

    none : (piece : List ℕ) → (length piece == 0) ≡ true → piece ≡ []
    none [] e = refl
    none (b ∷ bs) e = absurd (let n = eqb-true (length (b ∷ bs)) 0 e in omega (arith, n))

    go : (b t : Bool) → is_ended (place_after claim earlier).part ≡ b → (length piece == 0) ≡ t → read_on p claim n earlier (piece ∷ []) ≡ Ok c → IsAccepted p claim earlier (piece ∷ []) c
    go true true f g e =
        let here : read_on p claim n earlier (piece ∷ []) ≡ Ok (certificate_told claim (told_by p earlier)) = rw (f, g) refl in
        record { later = []; runs = tt; ends = f; told = same c (certificate_told claim (told_by p earlier)) (read_on p claim n earlier (piece ∷ [])) e here; text = none piece g; listed = rw f refl }
    go true false f g e = absurd (let bad = rw (f, g) at e in cc)
    go false t f g e = absurd (let bad = rw f at e in cc)

one_more : (p : Program) (claim : Claim) (n : ℕ) (earlier : List Item) (piece next : List ℕ) (pieces : List (List ℕ)) (c : Certificate)
    → (read_on p claim (n + 1) (item_of p (parts_of piece) ∷ earlier) (next ∷ pieces) ≡ Ok c → IsAccepted p claim (item_of p (parts_of piece) ∷ earlier) (next ∷ pieces) c)
    → read_on p claim n earlier (piece ∷ next ∷ pieces) ≡ Ok c → IsAccepted p claim earlier (piece ∷ next ∷ pieces) c
one_more p claim n earlier piece next pieces c rest e = go (is_ended (place_after claim earlier).part) (line_fault p (place_after claim earlier) (parts_of piece)) refl refl e
  where
    go : (b : Bool) (o : Option CertKind) → is_ended (place_after claim earlier).part ≡ b → line_fault p (place_after claim earlier) (parts_of piece) ≡ o → read_on p claim n earlier (piece ∷ next ∷ pieces) ≡ Ok c → IsAccepted p claim earlier (piece ∷ next ∷ pieces) c
    go true o f g e = absurd (let bad = rw f at e in cc)
    go false (Some kind) f g e = absurd (let bad = rw (f, g) at e in cc)
    go false None f g e =
        let item = item_of p (parts_of piece) in
        let more = rest (rw (f, g) at e) in
        let back = line_back p (place_after claim earlier) (parts_of piece) g in
        let there = after_is (place_after claim earlier) item (accepted_stands p (place_after claim earlier) item back.accepted) in
        let line : piece ≡ join_with_byte 32 (fields_of p item) = sym (join_with_byte-slice_split 32 piece) ∙ ap (join_with_byte 32) (sym back.fields_are) in
        record {
          later = item ∷ more.later;
          runs = (f, back.accepted, subst (λ t. Runs p t more.later) there more.runs);
          ends = subst (λ t. is_ended (after_all t more.later).part ≡ true) there more.ends;
          told = more.told;
          text = ap (λ (l : List ℕ). l ++ 10 ∷ join_with_byte 10 (next ∷ pieces)) line
              ∙ ap (λ (l : List ℕ). join_with_byte 32 (fields_of p item) ++ 10 ∷ l) more.text
              ∙ sym (append_assoc (join_with_byte 32 (fields_of p item)) (10 ∷ []) (flat_map (item_text p) more.later));
          listed = listed_step p claim earlier piece next pieces f
              ∙ ap (λ o. unless o (item ∷ items_on p claim (item ∷ earlier) (next ∷ pieces))) g
              ∙ ap (λ (l : List Item). item ∷ l) more.listed;
        }

pub accepts : (p : Program) (claim : Claim) (n : ℕ) (earlier : List Item) (pieces : List (List ℕ)) (c : Certificate) → read_on p claim n earlier pieces ≡ Ok c → IsAccepted p claim earlier pieces c
accepts p claim n earlier [] c e = absurd cc
accepts p claim n earlier (piece ∷ []) c e = last_piece p claim n earlier piece c e
accepts p claim n earlier (piece ∷ next ∷ pieces) c e = one_more p claim n earlier piece next pieces c (λ f. accepts p claim (n + 1) (item_of p (parts_of piece) ∷ earlier) (next ∷ pieces) c f) e

-- ---- what is told can be written

pub all_push : {A : Type 0} (P : A → Type 0) (xs : List A) (x : A) → AllByRecursion P xs → P x → AllByRecursion P (xs ++ x ∷ [])
all_push P [] x h k = (k, tt)
all_push P (y ∷ ys) x h k = (h.0, all_push P ys x h.1 k)

pub all_last : {A : Type 0} (P : A → Type 0) (f : A → A) → ((x : A) → P x → P (f x)) → (xs : List A) → AllByRecursion P xs → AllByRecursion P (on_last f xs)
all_last P f g [] h = h
all_last P f g (x ∷ []) h = (g x h.0, tt)
all_last P f g (x ∷ y ∷ ys) h = (h.0, all_last P f g (y ∷ ys) h.1)

count_last : {A : Type 0} (f : A → A) (xs : List A) → length (on_last f xs) ≡ length xs
count_last f [] = refl
count_last f (x ∷ []) = refl
count_last f (x ∷ y ∷ ys) = ap (λ (n : ℕ). suc n) (count_last f (y ∷ ys))

pub record AreVectors (p : Program) (d : Told) : Type 0 where
  pub point : length d.point ≡ length p.columns
  pub ray : length d.ray ≡ length p.columns
  pub direction : length d.direction ≡ length p.columns

vectors_more : (p : Program) (c r : ℕ) (d : Told) (item : Item) → AreVectors p d → AreVectors p (with_item c r item d)
vectors_more p c r d (items.Point j v) h = record { point = length-set d.point j v ∙ h.point; ray = h.ray; direction = h.direction }
vectors_more p c r d (items.Ray j v) h = record { point = h.point; ray = length-set d.ray j v ∙ h.ray; direction = h.direction }
vectors_more p c r d (items.Direction j v) h = record { point = h.point; ray = h.ray; direction = length-set d.direction j v ∙ h.direction }
vectors_more p c r d item h = record { point = h.point; ray = h.ray; direction = h.direction }

-- squares, so many as are counted
pub record AreSquares (p : Program) (count : ℕ) (qs : List Square) : Type 0 where
  pub positive : ArePositive qs
  pub widths : AllByRecursion (λ q. IsColumnVector p q.coef) qs
  pub counted : length qs ≡ count
  pub few : count ≤ 128

positive_push : (qs : List Square) (q : Square) → ArePositive qs → ArePositive (q ∷ []) → ArePositive (qs ++ q ∷ [])
positive_push [] q h k = k
positive_push (r ∷ qs) q h k = (h.0, positive_push qs q h.1 k)

positive_last : (j : ℕ) (v : ℚ) (qs : List Square) → ArePositive qs → ArePositive (on_last (with_coef j v) qs)
positive_last j v [] h = h
positive_last j v (q ∷ []) h = h
positive_last j v (q ∷ r ∷ qs) h = (h.0, positive_last j v (r ∷ qs) h.1)

below : (most n : ℕ) → nat_le most n ≡ false → n < most
below most n e = grind (arith, nat_tests)

zeros_count : (n : ℕ) → length (zeros n) ≡ n
zeros_count zero = refl
zeros_count (suc n) = ap (λ (n : ℕ). suc n) (zeros_count n)

squares_more : (p : Program) (s : Place) (d : Told) (item : Item) → Accepted p s item → AreSquares p s.squares d.squares → AreSquares p (lands s item).squares (with_item (length p.columns) (length p.rows) item d).squares
squares_more p s d (items.Square v) a h =
    let q : Square = record { weight = v; coef = zeros (length p.columns) } in
    let room = below 128 s.squares a.3 in
    record {
      positive = positive_push d.squares q h.positive (positive_above v a.2, tt);
      widths = all_push (λ q. IsColumnVector p q.coef) d.squares q h.widths (zeros_count (length p.columns));
      counted = length_push d.squares q ∙ ap (λ n. n + 1) h.counted;
      few = omega (arith, room);
    }
squares_more p s d (items.Coef j v) a h = record {
  positive = positive_last j v d.squares h.positive;
  widths = all_last (λ q. IsColumnVector p q.coef) (with_coef j v) (λ q e. length-set q.coef j v ∙ e) d.squares h.widths;
  counted = count_last (with_coef j v) d.squares ∙ h.counted;
  few = h.few;
}
squares_more p s d item a h = h

-- nodes, with as many branches as are counted
pub record AreNodes (p : Program) (claim : Claim) (count : ℕ) (ns : List Node) : Type 0 where
  pub nodes_fit : AllByRecursion (FitsNode p) ns
  pub counted : branch_count ns ≡ count
  pub few : count ≤ 20256
  pub bound : MayBound (is_optimal claim) ns

branches_push : (ns : List Node) (n : Node) → branch_count (ns ++ n ∷ []) ≡ branch_count ns + branch_count (n ∷ [])
branches_push [] n = omega arith
branches_push (nodes.Branch j k ∷ ns) n = let e = branches_push ns n in omega (arith, e)
branches_push (m ∷ ns) n = branches_push ns n

no_bound_push : (ns : List Node) (n : Node) → HasNoBound ns → HasNoBound (n ∷ []) → HasNoBound (ns ++ n ∷ [])
no_bound_push [] n h k = k
no_bound_push (nodes.Bound w y ∷ ns) n h k = absurd h
no_bound_push (m ∷ ns) n h k = no_bound_push ns n h k

bound_push : (b : Bool) (ns : List Node) (n : Node) → MayBound b ns → MayBound b (n ∷ []) → MayBound b (ns ++ n ∷ [])
bound_push true ns n h k = tt
bound_push false ns n h k = no_bound_push ns n h k

node_push : (p : Program) (claim : Claim) (count more : ℕ) (ns : List Node) (n : Node) → AreNodes p claim count ns → FitsNode p n → branch_count (n ∷ []) ≡ more → count + more ≤ 20256 → MayBound (is_optimal claim) (n ∷ []) → AreNodes p claim (count + more) (ns ++ n ∷ [])
node_push p claim count more ns n h fits e few b = record {
  nodes_fit = all_push (FitsNode p) ns n h.nodes_fit fits;
  counted = let f = branches_push ns n in omega (arith, f, h.counted, e);
  few = few;
  bound = bound_push (is_optimal claim) ns n h.bound b;
}

-- a change of the last node that keeps its kind
record IsKind (p : Program) (f : Node → Node) : Type 0 where
  fits : (n : Node) → FitsNode p n → FitsNode p (f n)
  branches : (n : Node) (ns : List Node) → branch_count (f n ∷ ns) ≡ branch_count (n ∷ ns)
  bound : (n : Node) → HasNoBound (n ∷ []) → HasNoBound (f n ∷ [])

branches_last : (p : Program) (f : Node → Node) → IsKind p f → (ns : List Node) → branch_count (on_last f ns) ≡ branch_count ns
branches_last p f k [] = refl
branches_last p f k (n ∷ []) = k.branches n []
branches_last p f k (nodes.Branch j i ∷ m ∷ ns) = ap (λ n. n + 1) (branches_last p f k (m ∷ ns))
branches_last p f k (n ∷ m ∷ ns) = branches_last p f k (m ∷ ns)

no_bound_last : (p : Program) (f : Node → Node) → IsKind p f → (ns : List Node) → HasNoBound ns → HasNoBound (on_last f ns)
no_bound_last p f k [] h = h
no_bound_last p f k (n ∷ []) h = k.bound n h
no_bound_last p f k (nodes.Bound w y ∷ m ∷ ns) h = absurd h
no_bound_last p f k (n ∷ m ∷ ns) h = no_bound_last p f k (m ∷ ns) h

bound_last : (p : Program) (f : Node → Node) → IsKind p f → (b : Bool) (ns : List Node) → MayBound b ns → MayBound b (on_last f ns)
bound_last p f k true ns h = tt
bound_last p f k false ns h = no_bound_last p f k ns h

node_last : (p : Program) (claim : Claim) (count : ℕ) (f : Node → Node) → IsKind p f → (ns : List Node) → AreNodes p claim count ns → AreNodes p claim count (on_last f ns)
node_last p claim count f k ns h = record {
  nodes_fit = all_last (FitsNode p) f k.fits ns h.nodes_fit;
  counted = branches_last p f k ns ∙ h.counted;
  few = h.few;
  bound = bound_last p f k (is_optimal claim) ns h.bound;
}

w_kind : (p : Program) (j : ℕ) (v : ℚ) → IsKind p (with_w j v)
w_kind p j v = record { fits = fits; branches = branches; bound = bound }
  where
    fits : (n : Node) → FitsNode p n → FitsNode p (with_w j v n)
    fits (nodes.Bound w y) h = (length-set w j v ∙ h.0, h.1)
    fits n h = h

    branches : (n : Node) (ns : List Node) → branch_count (with_w j v n ∷ ns) ≡ branch_count (n ∷ ns)
    branches (nodes.Branch i k) ns = refl
    branches n ns = refl

    bound : (n : Node) → HasNoBound (n ∷ []) → HasNoBound (with_w j v n ∷ [])
    bound (nodes.Branch i k) h = h
    bound n h = h

y_kind : (p : Program) (j : ℕ) (v : ℚ) → IsKind p (with_y j v)
y_kind p j v = record { fits = fits; branches = branches; bound = bound }
  where
    fits : (n : Node) → FitsNode p n → FitsNode p (with_y j v n)
    fits (nodes.Bound w y) h = (h.0, length-set y j v ∙ h.1)
    fits (nodes.Farkas y) h = length-set y j v ∙ h
    fits n h = h

    branches : (n : Node) (ns : List Node) → branch_count (with_y j v n ∷ ns) ≡ branch_count (n ∷ ns)
    branches (nodes.Branch i k) ns = refl
    branches n ns = refl

    bound : (n : Node) → HasNoBound (n ∷ []) → HasNoBound (with_y j v n ∷ [])
    bound (nodes.Branch i k) h = h
    bound n h = h

-- no branch number is -2^127
pub in_range : (k : ℤ) → unsigned_abs k ≤ max_part → k ≢ neg_ℤ (pos (2 ^ 127))
in_range k h e = too_large (subst (λ (k : ℤ). unsigned_abs k ≤ max_part) e h)
  where
    too_large : unsigned_abs (neg_ℤ (pos (2 ^ 127))) ≤ max_part → ⊥
    too_large h = absurd (omega (arith, h))

leaf_allowed : (b : Bool) (n : Node) → HasNoBound (n ∷ []) → MayBound b (n ∷ [])
leaf_allowed true n h = tt
leaf_allowed false n h = h

bound_allowed : (b : Bool) (n : Node) → b ≡ true → MayBound b (n ∷ [])
bound_allowed true n e = tt
bound_allowed false n e = absurd cc

add_none : (n : ℕ) → n + 0 ≡ n
add_none n = omega arith

leaf_push : (p : Program) (claim : Claim) (count : ℕ) (ns : List Node) (n : Node) → AreNodes p claim count ns → FitsNode p n → branch_count (n ∷ []) ≡ 0 → MayBound (is_optimal claim) (n ∷ []) → AreNodes p claim count (ns ++ n ∷ [])
leaf_push p claim count ns n h fits e b =
    let few : count + 0 ≤ 20256 = omega (arith, h.few) in
    subst (λ c. AreNodes p claim c (ns ++ n ∷ [])) (add_none count) (node_push p claim count 0 ns n h fits e few b)

nodes_more : (p : Program) (claim : Claim) (s : Place) (d : Told) (item : Item) → s.claim ≡ claim → Accepted p s item → AreNodes p claim s.branches d.nodes
    → AreNodes p claim (lands s item).branches (with_item (length p.columns) (length p.rows) item d).nodes
nodes_more p claim s d (items.Branch j k) c a h =
    let room = below 20256 s.branches a.3 in
    node_push p claim s.branches 1 d.nodes (nodes.Branch j k) h (a.1, in_range k a.2) refl (omega (arith, room)) (leaf_allowed (is_optimal claim) (nodes.Branch j k) tt)
nodes_more p claim s d items.Bound c a h =
    leaf_push p claim s.branches d.nodes (nodes.Bound (zeros (length p.columns)) (zeros (length p.rows))) h (zeros_count (length p.columns), zeros_count (length p.rows)) refl
    (bound_allowed (is_optimal claim) (nodes.Bound (zeros (length p.columns)) (zeros (length p.rows))) (ap is_optimal (sym c) ∙ bound_claim s.claim s.part (can_stand s words.Bound a)))
nodes_more p claim s d items.Farkas c a h =
    leaf_push p claim s.branches d.nodes (nodes.Farkas (zeros (length p.rows))) h (zeros_count (length p.rows)) refl (leaf_allowed (is_optimal claim) (nodes.Farkas (zeros (length p.rows))) tt)
nodes_more p claim s d (items.Cross j) c a h = leaf_push p claim s.branches d.nodes (nodes.Cross j) h a.1 refl (leaf_allowed (is_optimal claim) (nodes.Cross j) tt)
nodes_more p claim s d (items.W j v) c a h = node_last p claim s.branches (with_w j v) (w_kind p j v) d.nodes h
nodes_more p claim s d (items.Y i v) c a h = node_last p claim s.branches (with_y i v) (y_kind p i v) d.nodes h
nodes_more p claim s d item c a h = h

-- ---- all of it, item by item

pub record IsGood (p : Program) (claim : Claim) (s : Place) (d : Told) : Type 0 where
  pub claim_is : s.claim ≡ claim
  pub vectors : AreVectors p d
  pub squares : AreSquares p s.squares d.squares
  pub nodes_are : AreNodes p claim s.branches d.nodes
  pub tracked : Tracks claim s d.nodes

claim_stays : (s : Place) (item : Item) → (lands s item).claim ≡ s.claim
claim_stays s (items.Value v) = refl
claim_stays s item = refl

pub good_more : (p : Program) (claim : Claim) (s : Place) (d : Told) (item : Item) → Accepted p s item → IsGood p claim s d → IsGood p claim (lands s item) (with_item (length p.columns) (length p.rows) item d)
good_more p claim s d item a h = record {
  claim_is = claim_stays s item ∙ h.claim_is;
  vectors = vectors_more p (length p.columns) (length p.rows) d item h.vectors;
  squares = squares_more p s d item a h.squares;
  nodes_are = nodes_more p claim s d item h.claim_is a h.nodes_are;
  tracked = tracks claim (length p.columns) (length p.rows) s d item (accepted_stands p s item a) h.tracked;
}

pub good_all : (p : Program) (claim : Claim) (s : Place) (d : Told) (later : List Item) → Runs p s later → IsGood p claim s d → IsGood p claim (after_all s later) (tell_all p d later)
good_all p claim s d [] r h = h
good_all p claim s d (item ∷ later) r h = good_all p claim (lands s item) (with_item (length p.columns) (length p.rows) item d) later r.2 (good_more p claim s d item r.1 h)

pub good_start : (p : Program) (claim : Claim) → IsGood p claim (start claim) (blank (length p.columns))
good_start p claim = record {
  claim_is = refl;
  vectors = record { point = zeros_count (length p.columns); ray = zeros_count (length p.columns); direction = zeros_count (length p.columns) };
  squares = record { positive = tt; widths = tt; counted = refl; few = omega arith };
  nodes_are = record { nodes_fit = tt; counted = refl; few = omega arith; bound = leafless (is_optimal claim) };
  tracked = start_tracked claim;
}
  where
    leafless : (b : Bool) → MayBound b []
    leafless true = tt
    leafless false = tt

-- ---- the certificate

tree_size : (w : ℕ) (ns : List Node) → AreTrees w ns → length ns ≡ 2 * branch_count ns + w
tree_size zero [] t = refl
tree_size (suc w) [] t = absurd t
tree_size zero (n ∷ ns) t = absurd t
tree_size (suc w) (nodes.Branch j k ∷ ns) t = let e = tree_size (suc (suc w)) ns t in omega (arith, e)
tree_size (suc w) (nodes.Bound x y ∷ ns) t = let e = tree_size w ns t in omega (arith, e)
tree_size (suc w) (n ∷ ns) t = let e = tree_size w ns t in omega (arith, e)

few_nodes : (ns : List Node) (count : ℕ) → AreTrees 1 ns → branch_count ns ≡ count → count ≤ 20256 → length ns < 2 ^ 32
few_nodes ns count t e few = let size = tree_size 1 ns t in small (length ns) (omega (arith, size, e, few))
  where
    small : (n : ℕ) → n ≤ 40513 → n < 2 ^ 32
    small n h = lt_of_le_of_lt h (lit< tt)

few_branches_of : (p : Program) (claim : Claim) (count : ℕ) (ns : List Node) → AreNodes p claim count ns → branch_count ns ≤ 20256
few_branches_of p claim count ns h = omega (arith, h.counted, h.few)

few_squares_of : (p : Program) (count : ℕ) (qs : List Square) → AreSquares p count qs → length qs ≤ 128
few_squares_of p count qs h = omega (arith, h.counted, h.few)

pub writable : (p : Program) (claim : Claim) (s : Place) (d : Told) → IsGood p claim s d → is_ended s.part ≡ true → IsWritable p (certificate_told claim d)
writable p Optimal s d h e =
    let tree = is_tree Optimal s d.nodes h.tracked e in
    record {
      fitting = (
        h.vectors.point,
        record { positive = h.squares.positive; widths = h.squares.widths },
        record { tree = tree; count = few_nodes d.nodes s.branches tree h.nodes_are.counted h.nodes_are.few; nodes_fit = h.nodes_are.nodes_fit },
      );
      few_squares = few_squares_of p s.squares d.squares h.squares;
      few_branches = few_branches_of p Optimal s.branches d.nodes h.nodes_are;
    }
writable p Infeasible s d h e =
    let tree = is_tree Infeasible s d.nodes h.tracked e in
    record {
      fitting = (record { tree = tree; count = few_nodes d.nodes s.branches tree h.nodes_are.counted h.nodes_are.few; nodes_fit = h.nodes_are.nodes_fit }, h.nodes_are.bound);
      few_squares = omega arith;
      few_branches = few_branches_of p Infeasible s.branches d.nodes h.nodes_are;
    }
writable p Unbounded s d h e = record {
  fitting = (h.vectors.point, h.vectors.ray, record { positive = h.squares.positive; widths = h.squares.widths });
  few_squares = few_squares_of p s.squares d.squares h.squares;
  few_branches = omega arith;
}
writable p NotConvex s d h e = record { fitting = h.vectors.direction; few_squares = omega arith; few_branches = omega arith }

claimed_writable : (p : Program) (claim : Claim) (n : ℕ) (pieces : List (List ℕ)) (c : Certificate) → read_on p claim n [] pieces ≡ Ok c → IsWritable p c
claimed_writable p claim n pieces c e =
    let a = accepts p claim n [] pieces c e in
    subst (IsWritable p) (sym a.told) (writable p claim (after_all (start claim) a.later) (tell_all p (blank (length p.columns)) a.later) (good_all p claim (start claim) (blank (length p.columns)) a.later a.runs (good_start p claim)) a.ends)

-- a text that is read has a line that claims, and behind it those that tell the certificate
pub record IsReadAs (p : Program) (n : ℕ) (text : List ℕ) (c : Certificate) : Type 0 where
  pub claim : Claim
  pub first : List ℕ
  pub next : List ℕ
  pub others : List (List ℕ)
  pub pieces_are : pieces_of text ≡ first ∷ next ∷ others
  pub claims : claim_in first ≡ Some claim
  pub tells : read_on p claim (n + 1) [] (next ∷ others) ≡ Ok c

pub read_as : (p : Program) (n : ℕ) (text : List ℕ) (c : Certificate) → read_of p n text ≡ Ok c → IsReadAs p n text c
read_as p n text c e = by_pieces (pieces_of text) refl e
  where
    by_claim : (o : Option Claim) (first next : List ℕ) (others : List (List ℕ)) → pieces_of text ≡ first ∷ next ∷ others → claim_in first ≡ o → read_claimed p n o (next ∷ others) ≡ Ok c → IsReadAs p n text c
    by_claim None first next others pieces claims e = absurd cc
    by_claim (Some claim) first next others pieces claims e = record { claim = claim; first = first; next = next; others = others; pieces_are = pieces; claims = claims; tells = e }

    by_pieces : (pieces : List (List ℕ)) → pieces_of text ≡ pieces → read_pieces p n pieces ≡ Ok c → IsReadAs p n text c
    by_pieces [] pieces e = absurd cc
    by_pieces (first ∷ []) pieces e = absurd cc
    by_pieces (first ∷ next ∷ others) pieces e = by_claim (claim_in first) first next others pieces refl e

-- a certificate that is read can be written
pub read_writable : (p : Program) (n : ℕ) (text : List ℕ) (c : Certificate) → read_of p n text ≡ Ok c → IsWritable p c
read_writable p n text c e = let r = read_as p n text c e in claimed_writable p r.claim (n + 1) (r.next ∷ r.others) c r.tells
