-- The items of a writable certificate are accepted one after another.
use Rattle.std.proofs.Common.{◌≡◌, ℕ, zero, suc, ◌+◌, ◌-◌, ◌<◌, ◌≤◌, Bool, true, false, List, [], ◌∷◌, ◌++◌, length, refl, sym, ◌∙◌, subst, arith}
use Rattle.std.specs.Prelude.{nat_lt, nat_le, if◌then◌else◌}
use Rattle.std.specs.List.{flat_map, AllByRecursion}
use Rattle.std.proofs.lemmas.Bool.Decides.{nat_tests}
use Rattle.std.proofs.Math.Nat.{le_refl}
use Rattle.rational.specs.Rational.{ℚ, Fits}
use Rattle.frac_core.specs.Parts.{max_part}
use Rattle.program_law.specs.Program.{Program}
use Rattle.rational.specs.Tests.{is_zero, is_positive}
use Rattle.program_law.specs.declared.Square.{Square}
use Rattle.certificate_law.specs.declared.Node.{Node}
use Rattle.certificate_law.specs.declared.Node.TheVariants as nodes
use Rattle.certificate_law.specs.Nodes.{AreTrees}
use Rattle.certificate_law.specs.Fits.{FitsNode, HasNoBound}
use Rattle.mps_tokens.specs.declared.words.CertificateWord.{CertificateWord}
use Rattle.mps_tokens.specs.declared.words.CertificateWord.TheVariants as words
use Rattle.cert_fields.specs.declared.names.Axis.{Axis}
use Rattle.cert_fields.specs.declared.names.Axis.TheVariants.{Columns, Rows}
use Rattle.cert_grammar.specs.declared.items.Item.{Item}
use Rattle.cert_grammar.specs.declared.items.Item.TheVariants as items
use Rattle.cert_grammar.specs.declared.places.Place.{Place}
use Rattle.cert_fields.specs.Names.{count_on}
use Rattle.cert_grammar.specs.declared.items.Claim.{Claim}
use Rattle.cert_grammar.specs.Grammar.{is_due}
use Rattle.cert_grammar.specs.Places.{at, may_stand, least, least_in, is_ended}
use Rattle.cert_grammar.specs.Writable.{branch_count, NodeFits}
use Rattle.cert_grammar.proofs.Lands.{is_optimal, can, part_of, lands, unended, end_node, end_bound, nodes_end, coef_square, w_y, ends_too, y_least}
use Rattle.cert_grammar.proofs.ItemFields.{IsEntry, Accepted}
use Rattle.cert_text_law.specs.CertificateItems.{entries, square_items, node_items}
use Rattle.cert_text_law.proofs.TextsRead.{Runs, after_all}

-- ---- one run behind another

pub after_append : (s : Place) (xs ys : List Item) → after_all s (xs ++ ys) ≡ after_all (after_all s xs) ys
after_append s [] ys = refl
after_append s (x ∷ xs) ys = after_append (lands s x) xs ys

pub runs_append : (p : Program) (s : Place) (xs ys : List Item) → Runs p s xs → Runs p (after_all s xs) ys → Runs p s (xs ++ ys)
runs_append p s [] ys a b = b
runs_append p s (x ∷ xs) ys a b = (a.0, a.1, runs_append p (lands s x) xs ys a.2 b)

-- ---- a list of entries

-- the claim and the counts of a place, where a word may stand
pub record IsAt (base : Place) (word : CertificateWord) (s : Place) : Type 0 where
  pub claim : s.claim ≡ base.claim
  pub wanted : s.wanted ≡ base.wanted
  pub squares : s.squares ≡ base.squares
  pub branches : s.branches ≡ base.branches
  pub stands : can s.claim s.part word ≡ true

pub itself : (s : Place) (word : CertificateWord) → can s.claim s.part word ≡ true → IsAt s word s
itself s word e = record { claim = refl; wanted = refl; squares = refl; branches = refl; stands = e }

-- the lines of a list, each with a word
pub record Lists (p : Program) (word : CertificateWord) (axis : Axis) (make : ℕ → ℚ → Item) : Type 0 where
  pub due : (n : ℕ) → is_due word n ≡ true
  pub accepted : (s : Place) (j : ℕ) (v : ℚ) → IsEntry p axis s word j v → Accepted p s (make j v)
  pub lands_at : (s : Place) (j : ℕ) (v : ℚ) → lands s (make j v) ≡ at (part_of word) (j + 1) s
  pub again : (claim : Claim) → can claim (part_of word) word ≡ true
  pub next : (n : ℕ) → least_in word (part_of word) n ≡ n

pub entries_run : (p : Program) (base : Place) (word : CertificateWord) (axis : Axis) (make : ℕ → ℚ → Item) → Lists p word axis make → (s : Place) (j : ℕ) (vs : List ℚ) → IsAt base word s → least s word ≤ j
    → j + length vs ≤ count_on p axis → AllByRecursion (Fits max_part) vs → Runs p s (entries make j vs) × IsAt base word (after_all s (entries make j vs))
entries_run p base word axis make l s j [] h low len fit = (tt, h)
entries_run p base word axis make l s j (v ∷ vs) h low len fit =
    go (λ t at least. entries_run p base word axis make l t (suc j) vs at least (omega arith) fit.1) (is_zero v) refl
  where
    go : ((t : Place) → IsAt base word t → least t word ≤ suc j → Runs p t (entries make (suc j) vs) × IsAt base word (after_all t (entries make (suc j) vs)))
        → (t : Bool) → is_zero v ≡ t → Runs p s ((if t then [] else make j v ∷ []) ++ entries make (suc j) vs) × IsAt base word (after_all s ((if t then [] else make j v ∷ []) ++ entries make (suc j) vs))
    go rest true e = rest s h (omega arith)
    go rest false e =
        let inside : j < count_on p axis = omega arith in
        let stands : may_stand s word ≡ true = rw (h.stands, l.due s.wanted) refl in
        let one : IsEntry p axis s word j v = record { stands = stands; inside = inside; fits = fit.0; some = e; late = low } in
        let t = at (part_of word) (j + 1) s in
        let there = sym (l.lands_at s j v) in
        let next : least t word ≤ suc j = omega (arith, l.next (j + 1)) in
        let more = rest t (record { claim = h.claim; wanted = h.wanted; squares = h.squares; branches = h.branches; stands = l.again s.claim }) next in (
          (unended s.claim s.part word h.stands, l.accepted s j v one, subst (λ t. Runs p t (entries make (suc j) vs)) there more.0),
          subst (λ t. IsAt base word (after_all t (entries make (suc j) vs))) there more.1,
        )

-- ---- the six lists

pub point_lists : (p : Program) → Lists p words.Point Columns items.Point
point_lists p = record { due = λ n. refl; accepted = λ s j v h. h; lands_at = λ s j v. refl; again = λ c. refl; next = λ n. refl }

pub ray_lists : (p : Program) → Lists p words.Ray Columns items.Ray
ray_lists p = record { due = λ n. refl; accepted = λ s j v h. h; lands_at = λ s j v. refl; again = λ c. refl; next = λ n. refl }

pub direction_lists : (p : Program) → Lists p words.Vector Columns items.Direction
direction_lists p = record { due = λ n. refl; accepted = λ s j v h. h; lands_at = λ s j v. refl; again = λ c. refl; next = λ n. refl }

coef_lists : (p : Program) → Lists p words.Coef Columns items.Coef
coef_lists p = record { due = λ n. refl; accepted = λ s j v h. h; lands_at = λ s j v. refl; again = λ c. refl; next = λ n. refl }

w_lists : (p : Program) → Lists p words.W Columns items.W
w_lists p = record { due = λ n. refl; accepted = λ s j v h. h; lands_at = λ s j v. refl; again = λ c. refl; next = λ n. refl }

y_lists : (p : Program) → Lists p words.Y Rows items.Y
y_lists p = record { due = λ n. refl; accepted = λ s j v h. h; lands_at = λ s j v. refl; again = λ c. refl; next = λ n. refl }

-- ---- squares

-- what is asked of a square
pub record IsGoodSquare (p : Program) (s : Square) : Type 0 where
  pub weight : Fits max_part s.weight
  pub positive : is_positive s.weight ≡ true
  pub width : length s.coef ≡ length p.columns
  pub entries_fit : AllByRecursion (Fits max_part) s.coef

not_full : (most n : ℕ) → n < most → nat_le most n ≡ false
not_full most n h = grind (arith, nat_tests)

square_run : (p : Program) (s : Place) (q : Square) → can s.claim s.part words.Square ≡ true → s.squares < 128 → IsGoodSquare p q
    → Runs p s (square_items q) × IsAt (lands s (items.Square q.weight)) words.Coef (after_all s (square_items q))
square_run p s q stands few good =
    let t = lands s (items.Square q.weight) in
    let coefs = entries_run p t words.Coef Columns items.Coef (coef_lists p) t 0 q.coef (itself t words.Coef refl) (le_refl 0) (omega (arith, good.width)) good.entries_fit in
    ((unended s.claim s.part words.Square stands, (rw stands refl, good.weight, good.positive, not_full 128 s.squares few), coefs.0), coefs.1)

-- behind squares: the claim, the wanted subtrees and the branches stay
pub record IsPast (a b : Place) : Type 0 where
  pub claim : b.claim ≡ a.claim
  pub wanted : b.wanted ≡ a.wanted
  pub branches : b.branches ≡ a.branches
  pub stands : can b.claim b.part words.Square ≡ true

pub squares_run : (p : Program) (s : Place) (qs : List Square) → can s.claim s.part words.Square ≡ true → s.squares + length qs ≤ 128 → AllByRecursion (IsGoodSquare p) qs
    → Runs p s (flat_map square_items qs) × IsPast s (after_all s (flat_map square_items qs))
squares_run p s [] stands few good = (tt, record { claim = refl; wanted = refl; branches = refl; stands = stands })
squares_run p s (q ∷ qs) stands few good =
    let one = square_run p s q stands (omega arith) good.0 in
    let t = after_all s (square_items q) in
    let count : t.squares ≡ s.squares + 1 = one.1.squares in
    let more = squares_run p t qs (coef_square t.claim t.part one.1.stands) (omega (arith, count)) good.1 in
    let here = after_append s (square_items q) (flat_map square_items qs) in (
      runs_append p s (square_items q) (flat_map square_items qs) one.0 more.0,
      subst (IsPast s) (sym here) (record { claim = more.1.claim ∙ one.1.claim; wanted = more.1.wanted ∙ one.1.wanted; branches = more.1.branches ∙ one.1.branches; stands = more.1.stands }),
    )

-- ---- nodes

-- BOUND leaves stand in optimal certificates alone
abbrev pub MayBound : Bool → List Node → Type 0
MayBound true ns = Unit {0}
MayBound false ns = HasNoBound ns

-- behind nodes
pub record IsDone (s t : Place) : Type 0 where
  pub claim : t.claim ≡ s.claim
  pub wanted : t.wanted ≡ 0
  pub ends : can t.claim t.part words.End ≡ true

-- what one node does to a place
pub record IsNode (s t : Place) (wanted branches : ℕ) : Type 0 where
  pub claim : t.claim ≡ s.claim
  pub wanted_is : t.wanted ≡ wanted
  pub branches_is : t.branches ≡ branches
  pub ends : can t.claim t.part words.End ≡ true

pub some_wanted : (n : ℕ) → 0 < n → nat_lt 0 n ≡ true
some_wanted n p = grind (arith, nat_tests)

-- END may stand there, if nothing is wanted
open_end : (s : Place) → can s.claim s.part words.End ≡ true → is_ended s.part ≡ false
open_end s h = unended s.claim s.part words.End h

farkas_run : (p : Program) (s : Place) (y : List ℚ) → can s.claim s.part words.End ≡ true → 0 < s.wanted → length y ≡ length p.rows → AllByRecursion (Fits max_part) y
    → Runs p s (node_items (nodes.Farkas y)) × IsNode s (after_all s (node_items (nodes.Farkas y))) (s.wanted - 1) s.branches
farkas_run p s y h some width fits =
    let t = lands s items.Farkas in
    let ys = entries_run p t words.Y Rows items.Y (y_lists p) t 0 y (itself t words.Y refl) (le_refl 0) (omega (arith, width)) fits in
    let u = after_all t (entries items.Y 0 y) in (
      (open_end s h, rw ((end_node s.claim s.part h).1, some_wanted s.wanted some) refl, ys.0),
      record { claim = ys.1.claim; wanted_is = ys.1.wanted; branches_is = ys.1.branches; ends = ends_too u.claim u.part words.Y refl ys.1.stands },
    )

bound_run : (p : Program) (s : Place) (w y : List ℚ) → can s.claim s.part words.End ≡ true → 0 < s.wanted → is_optimal s.claim ≡ true → length w ≡ length p.columns → length y ≡ length p.rows → AllByRecursion (Fits max_part) w → AllByRecursion (Fits max_part) y
    → Runs p s (node_items (nodes.Bound w y)) × IsNode s (after_all s (node_items (nodes.Bound w y))) (s.wanted - 1) s.branches
bound_run p s w y h some optimal wide width fits fit =
    let t = lands s items.Bound in
    let ws = entries_run p t words.W Columns items.W (w_lists p) t 0 w (itself t words.W refl) (le_refl 0) (omega (arith, wide)) fits in
    let u = after_all t (entries items.W 0 w) in
    let low : least u words.Y ≤ 0 = subst (λ (n : ℕ). n ≤ 0) (sym (y_least u.claim u.part u.next ws.1.stands)) (le_refl 0) in
    let ys = entries_run p u words.Y Rows items.Y (y_lists p) u 0 y (itself u words.Y (w_y u.claim u.part ws.1.stands)) low (omega (arith, width)) fit in
    let v = after_all u (entries items.Y 0 y) in
    let here = after_append t (entries items.W 0 w) (entries items.Y 0 y) in
    let stands : may_stand s words.Bound ≡ true = rw (end_bound s.claim s.part h optimal, some_wanted s.wanted some) refl in
    let P : Place → Type 0 = λ v. IsNode s v (s.wanted - 1) s.branches in (
      (open_end s h, stands, runs_append p t (entries items.W 0 w) (entries items.Y 0 y) ws.0 ys.0),
      subst P (sym here) (record { claim = ys.1.claim ∙ ws.1.claim; wanted_is = ys.1.wanted ∙ ws.1.wanted; branches_is = ys.1.branches ∙ ws.1.branches; ends = ends_too v.claim v.part words.Y refl ys.1.stands }),
    )

-- the rest behind one node
then_rest : (p : Program) (s : Place) (n : Node) (ns : List Node) (wanted branches : ℕ) → Runs p s (node_items n) → IsNode s (after_all s (node_items n)) wanted branches
    → Runs p (after_all s (node_items n)) (flat_map node_items ns) × IsDone (after_all s (node_items n)) (after_all (after_all s (node_items n)) (flat_map node_items ns))
    → Runs p s (flat_map node_items (n ∷ ns)) × IsDone s (after_all s (flat_map node_items (n ∷ ns)))
then_rest p s n ns wanted branches one node more =
    let here = after_append s (node_items n) (flat_map node_items ns) in (
      runs_append p s (node_items n) (flat_map node_items ns) one more.0,
      subst (IsDone s) (sym here) (record { claim = more.1.claim ∙ node.claim; wanted = more.1.wanted; ends = more.1.ends }),
    )

no_bound : (b : Bool) (n : Node) (ns : List Node) → MayBound b (n ∷ ns) → MayBound b ns
no_bound true n ns h = tt
no_bound false (nodes.Bound w y) ns h = absurd h
no_bound false n ns h = h

is_bounded : (b : Bool) (w y : List ℚ) (ns : List Node) → MayBound b (nodes.Bound w y ∷ ns) → b ≡ true
is_bounded true w y ns h = refl
is_bounded false w y ns h = absurd h

pub nodes_run : (p : Program) (s : Place) (ns : List Node) (w : ℕ) → s.wanted ≡ w → AreTrees w ns → can s.claim s.part words.End ≡ true → s.branches + branch_count ns ≤ 20256 → AllByRecursion (FitsNode p) ns → AllByRecursion NodeFits ns → MayBound (is_optimal s.claim) ns
    → Runs p s (flat_map node_items ns) × IsDone s (after_all s (flat_map node_items ns))
nodes_run p s [] zero e t h few fit good b = (tt, record { claim = refl; wanted = e; ends = h })
nodes_run p s [] (suc w) e t h few fit good b = absurd t
nodes_run p s (n ∷ ns) zero e t h few fit good b = absurd t
nodes_run p s (nodes.Branch j k ∷ ns) (suc w) e t h few fit good b =
    let some : 0 < s.wanted = omega arith in
    let u = lands s (items.Branch j k) in
    let more = nodes_run p u ns (suc (suc w)) (omega arith) t (nodes_end s.claim) (omega (arith, few)) fit.1 good.1 (no_bound (is_optimal s.claim) (nodes.Branch j k) ns b) in
    then_rest p s (nodes.Branch j k) ns (s.wanted + 1) (s.branches + 1) (open_end s h, (rw ((end_node s.claim s.part h).0, some_wanted s.wanted some) refl, fit.0.0, good.0, not_full 20256 s.branches (omega (arith, few))), tt)
    (record { claim = refl; wanted_is = refl; branches_is = refl; ends = nodes_end s.claim }) more
nodes_run p s (nodes.Bound x y ∷ ns) (suc w) e t h few fit good b =
    let some : 0 < s.wanted = omega arith in
    let one = bound_run p s x y h some (is_bounded (is_optimal s.claim) x y ns b) fit.0.0 fit.0.1 good.0.0 good.0.1 in
    let u = after_all s (node_items (nodes.Bound x y)) in
    let b' = subst (λ c. MayBound (is_optimal c) ns) (sym one.1.claim) (no_bound (is_optimal s.claim) (nodes.Bound x y) ns b) in
    let more = nodes_run p u ns w (omega (arith, one.1.wanted_is)) t one.1.ends (omega (arith, few, one.1.branches_is)) fit.1 good.1 b' in
    then_rest p s (nodes.Bound x y) ns (s.wanted - 1) s.branches one.0 one.1 more
nodes_run p s (nodes.Farkas y ∷ ns) (suc w) e t h few fit good b =
    let some : 0 < s.wanted = omega arith in
    let one = farkas_run p s y h some fit.0 good.0 in
    let u = after_all s (node_items (nodes.Farkas y)) in
    let b' = subst (λ c. MayBound (is_optimal c) ns) (sym one.1.claim) (no_bound (is_optimal s.claim) (nodes.Farkas y) ns b) in
    let more = nodes_run p u ns w (omega (arith, one.1.wanted_is)) t one.1.ends (omega (arith, few, one.1.branches_is)) fit.1 good.1 b' in
    then_rest p s (nodes.Farkas y) ns (s.wanted - 1) s.branches one.0 one.1 more
nodes_run p s (nodes.Cross j ∷ ns) (suc w) e t h few fit good b =
    let some : 0 < s.wanted = omega arith in
    let u = lands s (items.Cross j) in
    let more = nodes_run p u ns w (omega arith) t (nodes_end s.claim) (omega (arith, few)) fit.1 good.1 (no_bound (is_optimal s.claim) (nodes.Cross j) ns b) in
    then_rest p s (nodes.Cross j) ns (s.wanted - 1) s.branches (open_end s h, (rw ((end_node s.claim s.part h).2, some_wanted s.wanted some) refl, fit.0), tt)
    (record { claim = refl; wanted_is = refl; branches_is = refl; ends = nodes_end s.claim }) more
