-- The items that are accepted one after another are those of the certificate that they tell.
use Rattle.std.proofs.Common.{◌≡◌, ℕ, suc, ◌+◌, ◌<◌, ◌≤◌, Bool, true, false, List, [], ◌∷◌, ◌++◌, length, set, refl, sym, ap, ◌∙◌, subst, arith, append_assoc, append-nil}
use Rattle.std.specs.List.{flat_map}
use Rattle.rational.specs.Rational.{ℚ}
use Rattle.program_law.specs.Program.{Program}
use Rattle.program_law.specs.Changes.{zeros}
use Rattle.program_law.specs.declared.Square.{Square}
use Rattle.certificate_law.specs.declared.Node.{Node}
use Rattle.certificate_law.specs.declared.Node.TheVariants as nodes
use Rattle.cert_grammar.specs.declared.items.Item.{Item}
use Rattle.cert_grammar.specs.declared.items.Item.TheVariants as items
use Rattle.cert_grammar.specs.declared.items.Claim.{Claim}
use Rattle.cert_grammar.specs.declared.items.Claim.TheVariants.{Optimal, Infeasible, Unbounded, NotConvex}
use Rattle.cert_grammar.specs.declared.grammar.Part.{Part}
use Rattle.cert_grammar.specs.declared.grammar.Part.TheVariants as parts
use Rattle.cert_grammar.specs.declared.places.Place.{Place}
use Rattle.cert_grammar.specs.Grammar.{item_word}
use Rattle.cert_grammar.specs.Places.{start, may_stand, least, least_in, is_ended}
use Rattle.cert_text_law.specs.Told.{Told, blank, with_item, with_coef, with_w, with_y, on_last, certificate_told}
use Rattle.mps_tokens.specs.declared.words.CertificateWord.{CertificateWord}
use Rattle.mps_tokens.specs.declared.words.CertificateWord.TheVariants as words
use Rattle.cert_grammar.proofs.Lands.{is_optimal, is_unbounded, can, can_stand, is_wanted, lands, is_amid, is_value_word, is_node_word, part_of, is_ray_part, is_square_part, is_leaf_part, amid_part, value_part, point_part, ray_part, vector_part, square_part, coef_part, w_part, leaf_part}
use Rattle.cert_grammar.proofs.ItemFields.{Accepted, accepted_stands}
use Rattle.cert_text_law.proofs.TextsRead.{Runs, after_all, tell_all}
use Rattle.cert_text_law.specs.CertificateItems.{entries, square_items, node_items, items_of}
use Rattle.cert_text_law.proofs.Accepts.{IsGood, good_more, good_start}
use Rattle.cert_text_law.proofs.Shown.{AllZero, ZeroFrom, zeros_zero, none_entries, put_first, put_zero, LastCoef, coef_pushed, square_pushed, coef_zero, coef_put, LastW, LastY, w_put, y_put, w_next, y_next, w_to_y, bound_begun, farkas_begun, bound_pushed, farkas_pushed, node_pushed}

-- ---- what the items so far are

-- without VALUE and END
abbrev body : Told → List Item
body d = entries items.Point 0 d.point ++ (entries items.Ray 0 d.ray ++ (entries items.Direction 0 d.direction ++ (flat_map square_items d.squares ++ flat_map node_items d.nodes)))

abbrev first : Bool → Told → List Item
first true d = items.Value d.value ∷ []
first false d = []

abbrev shown : Claim → Part → Told → List Item
shown claim parts.Value d = []
shown claim parts.Ended d = first (is_optimal claim) d ++ (body d ++ items.End ∷ [])
shown claim part d = first (is_optimal claim) d ++ body d

-- nothing stands behind what the next line adds to
record HasNone (d : Told) : Type 0 where
  squares : d.squares ≡ []
  nodes_are : d.nodes ≡ []

record IsEmpty (d : Told) : Type 0 where
  point : AllZero d.point
  ray : AllZero d.ray
  direction : AllZero d.direction
  none : HasNone d

record AtPoints (n : ℕ) (d : Told) : Type 0 where
  point : ZeroFrom n d.point
  ray : AllZero d.ray
  direction : AllZero d.direction
  none : HasNone d

record AtRays (n : ℕ) (d : Told) : Type 0 where
  ray : ZeroFrom n d.ray
  direction : AllZero d.direction
  none : HasNone d

record AtDirections (n : ℕ) (d : Told) : Type 0 where
  direction : ZeroFrom n d.direction
  none : HasNone d

record AtSquares (n : ℕ) (d : Told) : Type 0 where
  last : LastCoef n d.squares
  nodes_are : d.nodes ≡ []

abbrev Opens : Part → ℕ → Told → Type 0
Opens parts.Value n d = IsEmpty d
Opens parts.Points n d = AtPoints n d
Opens parts.Rays n d = AtRays n d
Opens parts.Directions n d = AtDirections n d
Opens parts.Squares n d = AtSquares n d
Opens parts.Nodes n d = Unit {0}
Opens parts.LeafPoint n d = LastW n d.nodes
Opens parts.Multipliers n d = LastY n d.nodes
Opens parts.Ended n d = Unit {0}

-- ---- which lists a claim has

abbrev has_points : Claim → Bool
has_points Optimal = true
has_points Infeasible = false
has_points Unbounded = true
has_points NotConvex = false

abbrev has_nodes : Claim → Bool
has_nodes Optimal = true
has_nodes Infeasible = true
has_nodes Unbounded = false
has_nodes NotConvex = false

abbrev has_directions : Claim → Bool
has_directions NotConvex = true
has_directions claim = false

abbrev has_part : Claim → Part → Bool
has_part claim parts.Value = is_optimal claim
has_part claim parts.Points = has_points claim
has_part claim parts.Rays = is_unbounded claim
has_part claim parts.Directions = has_directions claim
has_part claim parts.Squares = has_points claim
has_part claim parts.Nodes = has_nodes claim
has_part claim parts.LeafPoint = has_nodes claim
has_part claim parts.Multipliers = has_nodes claim
has_part claim parts.Ended = true

-- the lists that the claim doesn't have are empty
record AreUnused (claim : Claim) (d : Told) : Type 0 where
  point : has_points claim ≡ false → AllZero d.point
  ray : is_unbounded claim ≡ false → AllZero d.ray
  direction : has_directions claim ≡ false → AllZero d.direction
  squares : has_points claim ≡ false → d.squares ≡ []
  nodes_are : has_nodes claim ≡ false → d.nodes ≡ []

-- the words and what the next one may add to
record IsTold (claim : Claim) (s : Place) (d : Told) (done : List Item) : Type 0 where
  text : done ≡ shown claim s.part d
  opens : Opens s.part s.next d

record IsShown (p : Program) (claim : Claim) (s : Place) (d : Told) (done : List Item) : Type 0 where
  good : IsGood p claim s d
  told : IsTold claim s d done
  has : has_part claim s.part ≡ true
  idle : has_nodes claim ≡ false → s.wanted ≡ 0
  unused : AreUnused claim d

-- ---- what holds where a line may stand

by_claim : (claim : Claim) (s : Place) (word : CertificateWord) → s.claim ≡ claim → may_stand s word ≡ true → can claim s.part word ≡ true
by_claim claim s word e m = subst (λ c. can c s.part word ≡ true) e (can_stand s word m)

-- in the middle of a certificate
record IsAmid (claim : Claim) (part : Part) (d : Told) : Type 0 where
  text : shown claim part d ≡ first (is_optimal claim) d ++ body d

amid_where : (claim : Claim) (part : Part) (d : Told) → is_amid part ≡ true → IsAmid claim part d
amid_where claim parts.Value d e = absurd cc
amid_where claim parts.Ended d e = absurd cc
amid_where claim part d e = record { text = refl }

amid : (claim : Claim) (part : Part) (word : CertificateWord) (d : Told) → is_value_word word ≡ false → can claim part word ≡ true → IsAmid claim part d
amid claim part word d w e = amid_where claim part d (amid_part claim part word w e)

record BeforeRay (part : Part) (n : ℕ) (d : Told) : Type 0 where
  ray : ZeroFrom (least_in words.Ray part n) d.ray
  direction : AllZero d.direction
  none : HasNone d

before_ray : (part : Part) (n : ℕ) (d : Told) → is_ray_part part ≡ true → Opens part n d → BeforeRay part n d
before_ray parts.Points n d e h = record { ray = h.ray; direction = h.direction; none = h.none }
before_ray parts.Rays n d e h = record { ray = h.ray; direction = h.direction; none = h.none }
before_ray part n d e h = absurd cc

no_nodes : (part : Part) (n : ℕ) (d : Told) → is_square_part part ≡ true → Opens part n d → d.nodes ≡ []
no_nodes parts.Points n d e h = h.none.nodes_are
no_nodes parts.Rays n d e h = h.none.nodes_are
no_nodes parts.Squares n d e h = h.nodes_are
no_nodes part n d e h = absurd cc

before_y : (part : Part) (n : ℕ) (d : Told) → is_leaf_part part ≡ true → Opens part n d → LastY (least_in words.Y part n) d.nodes
before_y parts.LeafPoint n d e h = w_to_y n d.nodes h
before_y parts.Multipliers n d e h = h
before_y part n d e h = absurd cc

wanted_has : (claim : Claim) (w : ℕ) → 0 < w → (has_nodes claim ≡ false → w ≡ 0) → has_nodes claim ≡ true
wanted_has claim w p idle = go (has_nodes claim) refl
  where
    go : (b : Bool) → has_nodes claim ≡ b → b ≡ true
    go true e = refl
    go false e = absurd (let none = idle e in omega (arith, p, none))

-- ---- one item more at the end

-- an item behind a list whose later lists are empty
behind_one : (a b c : List Item) (i : Item) → a ≡ b ++ i ∷ [] → c ≡ [] → a ++ c ≡ (b ++ c) ++ i ∷ []
behind_one a b c i e f =
    ap (λ (l : List Item). a ++ l) f ∙ append-nil a ∙ e ∙ ap (λ (l : List Item). l ++ i ∷ []) (sym (append-nil b) ∙ ap (λ (l : List Item). b ++ l) (sym f))

-- an item behind a list, all behind another list
within_one : (pre a b : List Item) (i : Item) → a ≡ b ++ i ∷ [] → pre ++ a ≡ (pre ++ b) ++ i ∷ []
within_one pre a b i e = ap (λ (l : List Item). pre ++ l) e ∙ sym (append_assoc pre b (i ∷ []))

none_behind : (d : Told) → HasNone d → flat_map square_items d.squares ++ flat_map node_items d.nodes ≡ []
none_behind d h = ap (λ (qs : List Square). flat_map square_items qs ++ flat_map node_items d.nodes) h.squares ∙ ap (λ (ns : List Node). flat_map node_items ns) h.nodes_are

rays_none : (d : Told) → AllZero d.direction → HasNone d → entries items.Direction 0 d.direction ++ (flat_map square_items d.squares ++ flat_map node_items d.nodes) ≡ []
rays_none d a h = ap (λ (l : List Item). l ++ (flat_map square_items d.squares ++ flat_map node_items d.nodes)) (none_entries items.Direction 0 d.direction a) ∙ none_behind d h

points_none : (d : Told) → AllZero d.ray → AllZero d.direction → HasNone d → entries items.Ray 0 d.ray ++ (entries items.Direction 0 d.direction ++ (flat_map square_items d.squares ++ flat_map node_items d.nodes)) ≡ []
points_none d r a h = ap (λ (l : List Item). l ++ (entries items.Direction 0 d.direction ++ (flat_map square_items d.squares ++ flat_map node_items d.nodes))) (none_entries items.Ray 0 d.ray r) ∙ rays_none d a h

body_none : (d : Told) → IsEmpty d → body d ≡ []
body_none d h = ap (λ (l : List Item). l ++ (entries items.Ray 0 d.ray ++ (entries items.Direction 0 d.direction ++ (flat_map square_items d.squares ++ flat_map node_items d.nodes)))) (none_entries items.Point 0 d.point h.point) ∙ points_none d h.ray h.direction h.none

-- what is done, with one item more
one_item : (claim : Claim) (part : Part) (d e : Told) (done : List Item) (i : Item) → done ≡ shown claim part d → IsAmid claim part d → first (is_optimal claim) e ≡ first (is_optimal claim) d → body e ≡ body d ++ i ∷ [] → done ++ i ∷ [] ≡ first (is_optimal claim) e ++ body e
one_item claim part d e done i text amid f b =
    ap (λ (l : List Item). l ++ i ∷ []) (text ∙ amid.text) ∙ sym (within_one (first (is_optimal claim) d) (body e) (body d) i b) ∙ ap (λ (l : List Item). l ++ body e) (sym f)

nodes_body : (d : Told) (ns : List Node) (i : Item) → flat_map node_items ns ≡ flat_map node_items d.nodes ++ i ∷ [] → body (record d { nodes = ns }) ≡ body d ++ i ∷ []
nodes_body d ns i e =
    within_one (entries items.Point 0 d.point) _ _ i (within_one (entries items.Ray 0 d.ray) _ _ i (within_one (entries items.Direction 0 d.direction) _ _ i (within_one (flat_map square_items d.squares) (flat_map node_items ns) (flat_map node_items d.nodes) i e)))

squares_body : (d : Told) (qs : List Square) (i : Item) → flat_map square_items qs ≡ flat_map square_items d.squares ++ i ∷ [] → d.nodes ≡ [] → body (record d { squares = qs }) ≡ body d ++ i ∷ []
squares_body d qs i e f =
    within_one (entries items.Point 0 d.point) _ _ i (within_one (entries items.Ray 0 d.ray) _ _ i (within_one (entries items.Direction 0 d.direction) _ _ i
    (behind_one (flat_map square_items qs) (flat_map square_items d.squares) (flat_map node_items d.nodes) i e (ap (λ (ns : List Node). flat_map node_items ns) f))))

directions_body : (d : Told) (vs : List ℚ) (i : Item) → entries items.Direction 0 vs ≡ entries items.Direction 0 d.direction ++ i ∷ [] → HasNone d → body (record d { direction = vs }) ≡ body d ++ i ∷ []
directions_body d vs i e h =
    within_one (entries items.Point 0 d.point) _ _ i (within_one (entries items.Ray 0 d.ray) _ _ i
    (behind_one (entries items.Direction 0 vs) (entries items.Direction 0 d.direction) (flat_map square_items d.squares ++ flat_map node_items d.nodes) i e (none_behind d h)))

rays_body : (d : Told) (vs : List ℚ) (i : Item) → entries items.Ray 0 vs ≡ entries items.Ray 0 d.ray ++ i ∷ [] → AllZero d.direction → HasNone d → body (record d { ray = vs }) ≡ body d ++ i ∷ []
rays_body d vs i e a h =
    within_one (entries items.Point 0 d.point) _ _ i
    (behind_one (entries items.Ray 0 vs) (entries items.Ray 0 d.ray) (entries items.Direction 0 d.direction ++ (flat_map square_items d.squares ++ flat_map node_items d.nodes)) i e (rays_none d a h))

points_body : (d : Told) (vs : List ℚ) (i : Item) → entries items.Point 0 vs ≡ entries items.Point 0 d.point ++ i ∷ [] → AllZero d.ray → AllZero d.direction → HasNone d → body (record d { point = vs }) ≡ body d ++ i ∷ []
points_body d vs i e r a h =
    behind_one (entries items.Point 0 vs) (entries items.Point 0 d.point) (entries items.Ray 0 d.ray ++ (entries items.Direction 0 d.direction ++ (flat_map square_items d.squares ++ flat_map node_items d.nodes))) i e (points_none d r a h)

-- ---- one item more

same_first : (b : Bool) (d e : Told) → e.value ≡ d.value → first b e ≡ first b d
same_first true d e h = ap (λ v. items.Value v ∷ []) h
same_first false d e h = refl

clash : {A : Type 0} (b : Bool) → b ≡ true → b ≡ false → A
clash b e f = absurd cc

zero_next : (n j : ℕ) (v : ℚ) (vs : List ℚ) → ZeroFrom n vs → n ≤ j → ZeroFrom (j + 1) (set vs j v)
zero_next n j v vs z le = let e : suc j ≡ j + 1 = omega arith in subst (λ k. ZeroFrom k (set vs j v)) e (put_zero n j v vs z le)

coef_next : (n j : ℕ) (v : ℚ) (qs : List Square) → LastCoef n qs → n ≤ j → LastCoef (j + 1) (on_last (with_coef j v) qs)
coef_next n j v qs z le = let e : suc j ≡ j + 1 = omega arith in subst (λ k. LastCoef k (on_last (with_coef j v) qs)) e (coef_zero n j v qs z le)

w_then : (n j : ℕ) (v : ℚ) (ns : List Node) → LastW n ns → n ≤ j → LastW (j + 1) (on_last (with_w j v) ns)
w_then n j v ns z le = let e : suc j ≡ j + 1 = omega arith in subst (λ k. LastW k (on_last (with_w j v) ns)) e (w_next n j v ns le z)

y_then : (n j : ℕ) (v : ℚ) (ns : List Node) → LastY n ns → n ≤ j → LastY (j + 1) (on_last (with_y j v) ns)
y_then n j v ns z le = let e : suc j ≡ j + 1 = omega arith in subst (λ k. LastY k (on_last (with_y j v) ns)) e (y_next n j v ns le z)

value_text : (claim : Claim) (d e : Told) (v : ℚ) (done : List Item) → done ≡ [] → is_optimal claim ≡ true → e.value ≡ v → body e ≡ [] → done ++ items.Value v ∷ [] ≡ first (is_optimal claim) e ++ body e
value_text claim d e v done none optimal value empty =
    ap (λ (l : List Item). l ++ items.Value v ∷ []) none ∙ sym (ap (λ b. first b e ++ body e) optimal ∙ ap (λ (l : List Item). items.Value e.value ∷ l) empty ∙ ap (λ v. items.Value v ∷ []) value)

told_more : (p : Program) (claim : Claim) (s : Place) (d : Told) (done : List Item) (item : Item) → Accepted p s item → IsShown p claim s d done
    → IsTold claim (lands s item) (with_item (length p.columns) (length p.rows) item d) (done ++ item ∷ [])
told_more p claim s d done items.Optimal a h = absurd a
told_more p claim s d done items.Infeasible a h = absurd a
told_more p claim s d done items.Unbounded a h = absurd a
told_more p claim s d done items.NotConvex a h = absurd a
told_more p claim s d done (items.Value v) a h =
    let e = value_part claim s.part (by_claim claim s words.Value h.good.claim_is a.0) in
    let empty : IsEmpty d = subst (λ part. Opens part s.next d) e h.told.opens in
    let optimal : is_optimal claim ≡ true = subst (λ part. has_part claim part ≡ true) e h.has in
    let none : done ≡ [] = subst (λ part. done ≡ shown claim part d) e h.told.text in
    let new = record d { value = v } in
    record {
      text = value_text claim d new v done none optimal refl (body_none d empty);
      opens = record { point = empty.point; ray = empty.ray; direction = empty.direction; none = record { squares = empty.none.squares; nodes_are = empty.none.nodes_are } };
    }
told_more p claim s d done (items.Point j v) a h =
    let may = by_claim claim s words.Point h.good.claim_is a.stands in
    let e = point_part claim s.part may in
    let o : AtPoints s.next d = subst (λ part. Opens part s.next d) e h.told.opens in
    let new = record d { point = set d.point j v } in
    let inside : j < length d.point = omega (arith, a.inside, h.good.vectors.point) in
    record {
      text = one_item claim s.part d new done (items.Point j v) h.told.text (amid claim s.part words.Point d refl may) (same_first (is_optimal claim) d new refl)
          (points_body d (set d.point j v) (items.Point j v) (put_first items.Point s.next j v d.point o.point a.late inside a.some) o.ray o.direction o.none);
      opens = record { point = zero_next s.next j v d.point o.point a.late; ray = o.ray; direction = o.direction; none = record { squares = o.none.squares; nodes_are = o.none.nodes_are } };
    }
told_more p claim s d done (items.Ray j v) a h =
    let may = by_claim claim s words.Ray h.good.claim_is a.stands in
    let b = before_ray s.part s.next d (ray_part claim s.part may) h.told.opens in
    let new = record d { ray = set d.ray j v } in
    let low = least s words.Ray in
    let inside : j < length d.ray = omega (arith, a.inside, h.good.vectors.ray) in
    record {
      text = one_item claim s.part d new done (items.Ray j v) h.told.text (amid claim s.part words.Ray d refl may) (same_first (is_optimal claim) d new refl)
          (rays_body d (set d.ray j v) (items.Ray j v) (put_first items.Ray low j v d.ray b.ray a.late inside a.some) b.direction b.none);
      opens = record { ray = zero_next low j v d.ray b.ray a.late; direction = b.direction; none = record { squares = b.none.squares; nodes_are = b.none.nodes_are } };
    }
told_more p claim s d done (items.Direction j v) a h =
    let may = by_claim claim s words.Vector h.good.claim_is a.stands in
    let e = vector_part claim s.part may in
    let o : AtDirections s.next d = subst (λ part. Opens part s.next d) e h.told.opens in
    let new = record d { direction = set d.direction j v } in
    let inside : j < length d.direction = omega (arith, a.inside, h.good.vectors.direction) in
    record {
      text = one_item claim s.part d new done (items.Direction j v) h.told.text (amid claim s.part words.Vector d refl may) (same_first (is_optimal claim) d new refl)
          (directions_body d (set d.direction j v) (items.Direction j v) (put_first items.Direction s.next j v d.direction o.direction a.late inside a.some) o.none);
      opens = record { direction = zero_next s.next j v d.direction o.direction a.late; none = record { squares = o.none.squares; nodes_are = o.none.nodes_are } };
    }
told_more p claim s d done (items.Square v) a h =
    let may = by_claim claim s words.Square h.good.claim_is a.0 in
    let part = square_part claim s.part may in
    let none = no_nodes s.part s.next d part h.told.opens in
    let q : Square = record { weight = v; coef = zeros (length p.columns) } in
    let new = record d { squares = d.squares ++ q ∷ [] } in
    record {
      text = one_item claim s.part d new done (items.Square v) h.told.text (amid claim s.part words.Square d refl may) (same_first (is_optimal claim) d new refl)
          (squares_body d (d.squares ++ q ∷ []) (items.Square v) (square_pushed d.squares q (zeros_zero (length p.columns))) none);
      opens = record { last = coef_pushed d.squares q (zeros_zero (length p.columns)); nodes_are = none };
    }
told_more p claim s d done (items.Coef j v) a h =
    let may = by_claim claim s words.Coef h.good.claim_is a.stands in
    let e = coef_part claim s.part may in
    let o : AtSquares s.next d = subst (λ part. Opens part s.next d) e h.told.opens in
    let qs = on_last (with_coef j v) d.squares in
    let new = record d { squares = qs } in
    record {
      text = one_item claim s.part d new done (items.Coef j v) h.told.text (amid claim s.part words.Coef d refl may) (same_first (is_optimal claim) d new refl)
          (squares_body d qs (items.Coef j v) (coef_put s.next j (length p.columns) v d.squares o.last a.late h.good.squares.widths a.inside a.some) o.nodes_are);
      opens = record { last = coef_next s.next j v d.squares o.last a.late; nodes_are = o.nodes_are };
    }
told_more p claim s d done (items.Branch j k) a h =
    let n = nodes.Branch j k in
    let new = record d { nodes = d.nodes ++ n ∷ [] } in
    record {
      text = one_item claim s.part d new done (items.Branch j k) h.told.text (amid claim s.part words.Branch d refl (by_claim claim s words.Branch h.good.claim_is a.0)) (same_first (is_optimal claim) d new refl)
          (nodes_body d (d.nodes ++ n ∷ []) (items.Branch j k) (node_pushed d.nodes n (items.Branch j k) refl));
      opens = tt;
    }
told_more p claim s d done items.Bound a h =
    let x = zeros (length p.columns) in
    let y = zeros (length p.rows) in
    let new = record d { nodes = d.nodes ++ nodes.Bound x y ∷ [] } in
    record {
      text = one_item claim s.part d new done items.Bound h.told.text (amid claim s.part words.Bound d refl (by_claim claim s words.Bound h.good.claim_is a)) (same_first (is_optimal claim) d new refl)
          (nodes_body d (d.nodes ++ nodes.Bound x y ∷ []) items.Bound (bound_pushed d.nodes x y (zeros_zero (length p.columns)) (zeros_zero (length p.rows))));
      opens = bound_begun d.nodes x y (zeros_zero (length p.columns)) (zeros_zero (length p.rows));
    }
told_more p claim s d done items.Farkas a h =
    let y = zeros (length p.rows) in
    let new = record d { nodes = d.nodes ++ nodes.Farkas y ∷ [] } in
    record {
      text = one_item claim s.part d new done items.Farkas h.told.text (amid claim s.part words.Farkas d refl (by_claim claim s words.Farkas h.good.claim_is a)) (same_first (is_optimal claim) d new refl)
          (nodes_body d (d.nodes ++ nodes.Farkas y ∷ []) items.Farkas (farkas_pushed d.nodes y (zeros_zero (length p.rows))));
      opens = farkas_begun d.nodes y (zeros_zero (length p.rows));
    }
told_more p claim s d done (items.Cross j) a h =
    let n = nodes.Cross j in
    let new = record d { nodes = d.nodes ++ n ∷ [] } in
    record {
      text = one_item claim s.part d new done (items.Cross j) h.told.text (amid claim s.part words.Cross d refl (by_claim claim s words.Cross h.good.claim_is a.0)) (same_first (is_optimal claim) d new refl)
          (nodes_body d (d.nodes ++ n ∷ []) (items.Cross j) (node_pushed d.nodes n (items.Cross j) refl));
      opens = tt;
    }
told_more p claim s d done (items.W j v) a h =
    let may = by_claim claim s words.W h.good.claim_is a.stands in
    let e = w_part claim s.part may in
    let o : LastW s.next d.nodes = subst (λ part. Opens part s.next d) e h.told.opens in
    let ns = on_last (with_w j v) d.nodes in
    let new = record d { nodes = ns } in
    record {
      text = one_item claim s.part d new done (items.W j v) h.told.text (amid claim s.part words.W d refl may) (same_first (is_optimal claim) d new refl)
          (nodes_body d ns (items.W j v) (w_put p s.next j v d.nodes o a.late h.good.nodes_are.nodes_fit a.inside a.some));
      opens = w_then s.next j v d.nodes o a.late;
    }
told_more p claim s d done (items.Y j v) a h =
    let may = by_claim claim s words.Y h.good.claim_is a.stands in
    let part = leaf_part claim s.part may in
    let last = before_y s.part s.next d part h.told.opens in
    let low = least s words.Y in
    let ns = on_last (with_y j v) d.nodes in
    let new = record d { nodes = ns } in
    record {
      text = one_item claim s.part d new done (items.Y j v) h.told.text (amid claim s.part words.Y d refl may) (same_first (is_optimal claim) d new refl)
          (nodes_body d ns (items.Y j v) (y_put p low j v d.nodes last a.late h.good.nodes_are.nodes_fit a.inside a.some));
      opens = y_then low j v d.nodes last a.late;
    }
told_more p claim s d done items.End a h =
    let there = amid claim s.part words.End d refl (by_claim claim s words.End h.good.claim_is a) in
    record {
      text = ap (λ (l : List Item). l ++ items.End ∷ []) (h.told.text ∙ there.text) ∙ append_assoc (first (is_optimal claim) d) (body d) (items.End ∷ []);
      opens = tt;
    }

-- a node is told where the claim has a tree
node_has : (claim : Claim) (s : Place) (word : CertificateWord) → is_node_word word ≡ true → may_stand s word ≡ true → (has_nodes claim ≡ false → s.wanted ≡ 0) → has_nodes claim ≡ true
node_has claim s words.Branch n m idle = wanted_has claim s.wanted (is_wanted s words.Branch refl m) idle
node_has claim s words.Bound n m idle = wanted_has claim s.wanted (is_wanted s words.Bound refl m) idle
node_has claim s words.Farkas n m idle = wanted_has claim s.wanted (is_wanted s words.Farkas refl m) idle
node_has claim s words.Cross n m idle = wanted_has claim s.wanted (is_wanted s words.Cross refl m) idle
node_has claim s word n m idle = absurd cc

has_tree : (claim : Claim) (word : CertificateWord) → is_node_word word ≡ true → has_nodes claim ≡ true → has_part claim (part_of word) ≡ true
has_tree claim word n h = grind arith

has_next : (claim : Claim) (part : Part) (word : CertificateWord) → is_node_word word ≡ false → can claim part word ≡ true → has_part claim part ≡ true → has_part claim (part_of word) ≡ true
has_next claim part word n e h = grind arith

has_more : (claim : Claim) (s : Place) (word : CertificateWord) → s.claim ≡ claim → may_stand s word ≡ true → (has_nodes claim ≡ false → s.wanted ≡ 0) → has_part claim s.part ≡ true → has_part claim (part_of word) ≡ true
has_more claim s word c m idle h = go (is_node_word word) refl
  where
    go : (b : Bool) → is_node_word word ≡ b → has_part claim (part_of word) ≡ true
    go true n = has_tree claim word n (node_has claim s word n m idle)
    go false n = has_next claim s.part word n (by_claim claim s word c m) h

idle_more : (claim : Claim) (s : Place) (item : Item) → has_part claim (part_of (item_word item)) ≡ true → (has_nodes claim ≡ false → s.wanted ≡ 0) → has_nodes claim ≡ false → (lands s item).wanted ≡ 0
idle_more claim s (items.Branch j k) has h f = clash (has_nodes claim) has f
idle_more claim s items.Bound has h f = clash (has_nodes claim) has f
idle_more claim s items.Farkas has h f = clash (has_nodes claim) has f
idle_more claim s (items.Cross j) has h f = clash (has_nodes claim) has f
idle_more claim s item has h f = h f

unused_more : (claim : Claim) (c r : ℕ) (d : Told) (item : Item) → has_part claim (part_of (item_word item)) ≡ true → AreUnused claim d → AreUnused claim (with_item c r item d)
unused_more claim c r d (items.Value v) has h = record { point = h.point; ray = h.ray; direction = h.direction; squares = h.squares; nodes_are = h.nodes_are }
unused_more claim c r d (items.Point j v) has h = record { point = λ f. clash (has_points claim) has f; ray = h.ray; direction = h.direction; squares = h.squares; nodes_are = h.nodes_are }
unused_more claim c r d (items.Ray j v) has h = record { point = h.point; ray = λ f. clash (is_unbounded claim) has f; direction = h.direction; squares = h.squares; nodes_are = h.nodes_are }
unused_more claim c r d (items.Direction j v) has h = record { point = h.point; ray = h.ray; direction = λ f. clash (has_directions claim) has f; squares = h.squares; nodes_are = h.nodes_are }
unused_more claim c r d (items.Square v) has h = record { point = h.point; ray = h.ray; direction = h.direction; squares = λ f. clash (has_points claim) has f; nodes_are = h.nodes_are }
unused_more claim c r d (items.Coef j v) has h = record { point = h.point; ray = h.ray; direction = h.direction; squares = λ f. clash (has_points claim) has f; nodes_are = h.nodes_are }
unused_more claim c r d items.Optimal has h = h
unused_more claim c r d items.Infeasible has h = h
unused_more claim c r d items.Unbounded has h = h
unused_more claim c r d items.NotConvex has h = h
unused_more claim c r d items.End has h = h
unused_more claim c r d item has h = record { point = h.point; ray = h.ray; direction = h.direction; squares = h.squares; nodes_are = λ f. clash (has_nodes claim) has f }

shown_more : (p : Program) (claim : Claim) (s : Place) (d : Told) (done : List Item) (item : Item) → Accepted p s item → IsShown p claim s d done
    → IsShown p claim (lands s item) (with_item (length p.columns) (length p.rows) item d) (done ++ item ∷ [])
shown_more p claim s d done item a h =
    let has = has_more claim s (item_word item) h.good.claim_is (accepted_stands p s item a) h.idle h.has in
    record {
      good = good_more p claim s d item a h.good;
      told = told_more p claim s d done item a h;
      has = has;
      idle = idle_more claim s item has h.idle;
      unused = unused_more claim (length p.columns) (length p.rows) d item has h.unused;
    }

shown_all : (p : Program) (claim : Claim) (s : Place) (d : Told) (done later : List Item) → Runs p s later → IsShown p claim s d done → IsShown p claim (after_all s later) (tell_all p d later) (done ++ later)
shown_all p claim s d done [] r h = subst (λ (l : List Item). IsShown p claim s d l) (sym (append-nil done)) h
shown_all p claim s d done (item ∷ later) r h =
    let new = with_item (length p.columns) (length p.rows) item d in
    let more = shown_all p claim (lands s item) new (done ++ item ∷ []) later r.2 (shown_more p claim s d done item r.1 h) in
    subst (λ (l : List Item). IsShown p claim (after_all (lands s item) later) (tell_all p new later) l) (append_assoc done (item ∷ []) later) more

-- ---- the beginning and the end

empty_blank : (n : ℕ) → IsEmpty (blank n)
empty_blank n = record { point = zeros_zero n; ray = zeros_zero n; direction = zeros_zero n; none = record { squares = refl; nodes_are = refl } }

unused_blank : (claim : Claim) (n : ℕ) → AreUnused claim (blank n)
unused_blank claim n = record { point = λ f. zeros_zero n; ray = λ f. zeros_zero n; direction = λ f. zeros_zero n; squares = λ f. refl; nodes_are = λ f. refl }

told_start : (claim : Claim) (n : ℕ) → IsTold claim (start claim) (blank n) []
told_start Optimal n = record { text = refl; opens = empty_blank n }
told_start Infeasible n = record { text = sym (body_none (blank n) (empty_blank n)); opens = tt }
told_start Unbounded n = record {
  text = sym (body_none (blank n) (empty_blank n));
  opens = record { point = zeros_zero n; ray = zeros_zero n; direction = zeros_zero n; none = record { squares = refl; nodes_are = refl } };
}
told_start NotConvex n = record { text = sym (body_none (blank n) (empty_blank n)); opens = record { direction = zeros_zero n; none = record { squares = refl; nodes_are = refl } } }

has_start : (claim : Claim) → has_part claim (start claim).part ≡ true
has_start claim = grind arith

idle_start : (claim : Claim) → has_nodes claim ≡ false → (start claim).wanted ≡ 0
idle_start claim e = grind arith

shown_start : (p : Program) (claim : Claim) → IsShown p claim (start claim) (blank (length p.columns)) []
shown_start p claim = record { good = good_start p claim; told = told_start claim (length p.columns); has = has_start claim; idle = idle_start claim; unused = unused_blank claim (length p.columns) }

ended_shown : (claim : Claim) (part : Part) (d : Told) → is_ended part ≡ true → shown claim part d ≡ first (is_optimal claim) d ++ (body d ++ items.End ∷ [])
ended_shown claim parts.Ended d e = refl
ended_shown claim part d e = absurd cc

all_items : (claim : Claim) (d : Told) → AreUnused claim d → first (is_optimal claim) d ++ (body d ++ items.End ∷ []) ≡ items_of (certificate_told claim d)
all_items Optimal d h =
    let pts = entries items.Point 0 d.point in
    let sqs = flat_map square_items d.squares in
    let ns = flat_map node_items d.nodes in
    let b : body d ≡ pts ++ (sqs ++ ns) = rw (none_entries items.Ray 0 d.ray (h.ray refl), none_entries items.Direction 0 d.direction (h.direction refl)) refl in
    ap (λ (l : List Item). items.Value d.value ∷ (l ++ items.End ∷ [])) b
    ∙ ap (λ (l : List Item). items.Value d.value ∷ l) (append_assoc pts (sqs ++ ns) (items.End ∷ []) ∙ ap (λ (l : List Item). pts ++ l) (append_assoc sqs ns (items.End ∷ [])))
all_items Infeasible d h =
    let ns = flat_map node_items d.nodes in
    let b : body d ≡ ns = rw (none_entries items.Point 0 d.point (h.point refl), none_entries items.Ray 0 d.ray (h.ray refl), none_entries items.Direction 0 d.direction (h.direction refl), h.squares refl) refl in
    ap (λ (l : List Item). l ++ items.End ∷ []) b
all_items Unbounded d h =
    let pts = entries items.Point 0 d.point in
    let rays = entries items.Ray 0 d.ray in
    let sqs = flat_map square_items d.squares in
    let b : body d ≡ pts ++ (rays ++ (sqs ++ [])) = rw (none_entries items.Direction 0 d.direction (h.direction refl), h.nodes_are refl) refl in
    ap (λ (l : List Item). l ++ items.End ∷ []) (b ∙ ap (λ (l : List Item). pts ++ (rays ++ l)) (append-nil sqs))
    ∙ append_assoc pts (rays ++ sqs) (items.End ∷ []) ∙ ap (λ (l : List Item). pts ++ l) (append_assoc rays sqs (items.End ∷ []))
all_items NotConvex d h =
    let dirs = entries items.Direction 0 d.direction in
    let b : body d ≡ dirs ++ [] = rw (none_entries items.Point 0 d.point (h.point refl), none_entries items.Ray 0 d.ray (h.ray refl), h.squares refl, h.nodes_are refl) refl in
    ap (λ (l : List Item). l ++ items.End ∷ []) (b ∙ append-nil dirs)

pub later_is : (p : Program) (claim : Claim) (later : List Item) → Runs p (start claim) later → is_ended (after_all (start claim) later).part ≡ true → later ≡ items_of (certificate_told claim (tell_all p (blank (length p.columns)) later))
later_is p claim later r e =
    let h = shown_all p claim (start claim) (blank (length p.columns)) [] later r (shown_start p claim) in
    let d = tell_all p (blank (length p.columns)) later in
    h.told.text ∙ ended_shown claim (after_all (start claim) later).part d e ∙ all_items claim d h.unused
