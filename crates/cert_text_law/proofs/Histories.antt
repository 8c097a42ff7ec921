-- The tree, one line more.
use Rattle.std.proofs.Common.{◌≡◌, ℕ, zero, suc, ◌+◌, ◌-◌, ◌<◌, true, false, List, [], ◌∷◌, ◌++◌, Option, Some, None, refl, sym, ap, ◌∙◌, arith, ℤ}
use Rattle.rational.specs.Rational.{ℚ}
use Rattle.program_law.specs.Changes.{zeros}
use Rattle.std.specs.Prelude.{◌==◌}
use Rattle.std.proofs.lemmas.Bool.{eqb-true}
use Rattle.certificate_law.specs.declared.Node.{Node}
use Rattle.certificate_law.specs.declared.Node.TheVariants as nodes
use Rattle.certificate_law.specs.Wanted.{with_node, wanted_after}
use Rattle.certificate_law.proofs.Wanted.{after_last, whole}
use Rattle.mps_tokens.specs.declared.words.CertificateWord.TheVariants as words
use Rattle.cert_grammar.specs.declared.items.Item.{Item}
use Rattle.cert_grammar.specs.declared.items.Item.TheVariants as items
use Rattle.cert_grammar.specs.declared.items.Claim.{Claim}
use Rattle.cert_grammar.specs.declared.items.Claim.TheVariants.{Optimal, Infeasible, Unbounded, NotConvex}
use Rattle.cert_grammar.specs.declared.places.Place.{Place}
use Rattle.cert_grammar.specs.Grammar.{item_word}
use Rattle.cert_grammar.specs.Places.{may_stand, is_ended, start}
use Rattle.cert_text_law.specs.Told.{Told, with_item, with_w, with_y, on_last, IsTreeDue}
use Rattle.cert_text_law.specs.History.{IsTracked, Tracks}
use Rattle.cert_grammar.proofs.Lands.{second_true, can, is_wanted, lands, never_claims}

-- ---- the tree

branch_more : (j : ℕ) (k : ℤ) (w : ℕ) → 0 < w → with_node (nodes.Branch j k) (Some w) ≡ Some (w + 1)
branch_more j k zero h = absurd (omega arith)
branch_more j k (suc w) h = let e : suc (suc w) ≡ suc w + 1 = omega arith in ap (λ n. Some n) e

bound_less : (x y : List ℚ) (w : ℕ) → 0 < w → with_node (nodes.Bound x y) (Some w) ≡ Some (w - 1)
bound_less x y zero h = absurd (omega arith)
bound_less x y (suc w) h = let e : w ≡ suc w - 1 = omega arith in ap (λ n. Some n) e

farkas_less : (y : List ℚ) (w : ℕ) → 0 < w → with_node (nodes.Farkas y) (Some w) ≡ Some (w - 1)
farkas_less y zero h = absurd (omega arith)
farkas_less y (suc w) h = let e : w ≡ suc w - 1 = omega arith in ap (λ n. Some n) e

cross_less : (j w : ℕ) → 0 < w → with_node (nodes.Cross j) (Some w) ≡ Some (w - 1)
cross_less j zero h = absurd (omega arith)
cross_less j (suc w) h = let e : w ≡ suc w - 1 = omega arith in ap (λ n. Some n) e

one_node : (ns : List Node) (n : Node) (w v : ℕ) → wanted_after (Some 1) ns ≡ Some w → with_node n (Some w) ≡ Some v → wanted_after (Some 1) (ns ++ n ∷ []) ≡ Some v
one_node ns n w v e f = after_last (Some 1) ns n ∙ ap (with_node n) e ∙ f

kept : (f : Node → Node) → ((n : Node) (o : Option ℕ) → with_node (f n) o ≡ with_node n o) → (o : Option ℕ) (ns : List Node) → wanted_after o (on_last f ns) ≡ wanted_after o ns
kept f same o [] = refl
kept f same o (n ∷ []) = same n o
kept f same o (n ∷ m ∷ ns) = kept f same (with_node n o) (m ∷ ns)

same_w : (j : ℕ) (v : ℚ) (n : Node) (o : Option ℕ) → with_node (with_w j v n) o ≡ with_node n o
same_w j v (nodes.Bound x y) None = refl
same_w j v (nodes.Bound x y) (Some zero) = refl
same_w j v (nodes.Bound x y) (Some (suc w)) = refl
same_w j v n o = refl

same_y : (j : ℕ) (v : ℚ) (n : Node) (o : Option ℕ) → with_node (with_y j v n) o ≡ with_node n o
same_y j v (nodes.Bound x y) None = refl
same_y j v (nodes.Bound x y) (Some zero) = refl
same_y j v (nodes.Bound x y) (Some (suc w)) = refl
same_y j v (nodes.Farkas y) None = refl
same_y j v (nodes.Farkas y) (Some zero) = refl
same_y j v (nodes.Farkas y) (Some (suc w)) = refl
same_y j v n o = refl

not_ended : (w : ℕ) → false ≡ true → w ≡ 0
not_ended w e = absurd cc

-- one node more, where one subtree was wanted
node_track : (s t : Place) (ns : List Node) (n : Node) (w : ℕ) → t.wanted ≡ w → is_ended t.part ≡ false → with_node n (Some s.wanted) ≡ Some w → IsTracked s ns → IsTracked t (ns ++ n ∷ [])
node_track s t ns n w e f more h = record { wanted = one_node ns n s.wanted w h.wanted more ∙ ap (λ n. Some n) (sym e); done = λ g. absurd (cc (f, g)) }

track : (columns rows : ℕ) (s : Place) (d : Told) (item : Item) → may_stand s (item_word item) ≡ true → IsTracked s d.nodes → IsTracked (lands s item) (with_item columns rows item d).nodes
track c r s d items.Optimal m t = absurd (never_claims s words.Optimal refl m)
track c r s d items.Infeasible m t = absurd (never_claims s words.Infeasible refl m)
track c r s d items.Unbounded m t = absurd (never_claims s words.Unbounded refl m)
track c r s d items.NotConvex m t = absurd (never_claims s words.NotConvex refl m)
track c r s d (items.Branch j k) m t = node_track s (lands s (items.Branch j k)) d.nodes (nodes.Branch j k) (s.wanted + 1) refl refl (branch_more j k s.wanted (is_wanted s words.Branch refl m)) t
track c r s d items.Bound m t = node_track s (lands s items.Bound) d.nodes (nodes.Bound (zeros c) (zeros r)) (s.wanted - 1) refl refl (bound_less (zeros c) (zeros r) s.wanted (is_wanted s words.Bound refl m)) t
track c r s d items.Farkas m t = node_track s (lands s items.Farkas) d.nodes (nodes.Farkas (zeros r)) (s.wanted - 1) refl refl (farkas_less (zeros r) s.wanted (is_wanted s words.Farkas refl m)) t
track c r s d (items.Cross j) m t = node_track s (lands s (items.Cross j)) d.nodes (nodes.Cross j) (s.wanted - 1) refl refl (cross_less j s.wanted (is_wanted s words.Cross refl m)) t
track c r s d (items.W j v) m t = record { wanted = kept (with_w j v) (same_w j v) (Some 1) d.nodes ∙ t.wanted; done = not_ended s.wanted }
track c r s d (items.Y i v) m t = record { wanted = kept (with_y i v) (same_y i v) (Some 1) d.nodes ∙ t.wanted; done = not_ended s.wanted }
track c r s d items.End m t = record { wanted = t.wanted; done = λ e. eqb-true s.wanted 0 (second_true (can s.claim s.part words.End) (s.wanted == 0) m) }
track c r s d item m t = record { wanted = t.wanted; done = not_ended s.wanted }

pub tracks : (claim : Claim) (columns rows : ℕ) (s : Place) (d : Told) (item : Item) → may_stand s (item_word item) ≡ true → Tracks claim s d.nodes → Tracks claim (lands s item) (with_item columns rows item d).nodes
tracks Optimal c r s d item m t = track c r s d item m t
tracks Infeasible c r s d item m t = track c r s d item m t
tracks Unbounded c r s d item m t = tt
tracks NotConvex c r s d item m t = tt

pub is_tree : (claim : Claim) (s : Place) (ns : List Node) → Tracks claim s ns → is_ended s.part ≡ true → IsTreeDue claim ns
is_tree Optimal s ns t e = whole ns (t.wanted ∙ ap (λ n. Some n) (t.done e))
is_tree Infeasible s ns t e = whole ns (t.wanted ∙ ap (λ n. Some n) (t.done e))
is_tree Unbounded s ns t e = tt
is_tree NotConvex s ns t e = tt

-- ---- before the first item

pub start_tracked : (claim : Claim) → Tracks claim (start claim) []
start_tracked Optimal = record { wanted = refl; done = λ e. absurd cc }
start_tracked Infeasible = record { wanted = refl; done = λ e. absurd cc }
start_tracked Unbounded = tt
start_tracked NotConvex = tt
