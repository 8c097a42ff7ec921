-- What the items of a text tell together is its certificate.
use Rattle.std.proofs.Common.{◌≡◌, ℕ, zero, suc, ◌+◌, List, [], ◌∷◌, ◌++◌, length, take, slice_get, Some, Ok, refl, sym, ap, ◌∙◌, subst, arith}
use Rattle.program_law.specs.Program.{Program}
use Rattle.certificate_law.specs.declared.Certificate.{Certificate}
use Rattle.cert_grammar.specs.declared.items.Item.{Item}
use Rattle.cert_grammar.specs.declared.items.Item.TheVariants as items
use Rattle.cert_grammar.specs.declared.items.Claim.{Claim}
use Rattle.cert_grammar.specs.declared.items.Claim.TheVariants.{Optimal, Infeasible, Unbounded, NotConvex}
use Rattle.cert_grammar.specs.declared.places.Place.{Place}
use Rattle.cert_grammar.specs.Grammar.{item_of_claim}
use Rattle.cert_grammar.specs.Places.{start}
use Rattle.cert_text_law.specs.Told.{Told, blank, with_item, with_claim, certificate_told, IsTreeDue}
use Rattle.cert_text_law.specs.Reading.{read_of}
use Rattle.cert_text_law.specs.Items.{text_items}
use Rattle.cert_grammar.proofs.Lands.{lands}
use Rattle.cert_grammar.proofs.ItemFields.{Accepted}
use Rattle.cert_text_law.proofs.Histories.{is_tree}
use Rattle.cert_text_law.proofs.TextsRead.{Runs, after_all, tell_all}
use Rattle.cert_text_law.proofs.ItemTells.{tell_append}
use Rattle.cert_text_law.proofs.Accepts.{accepts, good_all, good_start, read_as}
use Rattle.cert_text_law.proofs.TextBack.{read_items}

-- the claim behind items
abbrev pub claim_behind : Claim → List Item → Claim
claim_behind claim [] = claim
claim_behind claim (item ∷ later) = claim_behind (with_claim item claim) later

claim_append : (claim : Claim) (xs ys : List Item) → claim_behind claim (xs ++ ys) ≡ claim_behind (claim_behind claim xs) ys
claim_append claim [] ys = refl
claim_append claim (x ∷ xs) ys = claim_append (with_claim x claim) xs ys

-- ---- one item more

take_next : (n : ℕ) (xs : List Item) (x : Item) → slice_get xs n ≡ Some x → take (n + 1) xs ≡ take n xs ++ x ∷ []
take_next n xs x e = ap (λ k. take k xs) (let same : n + 1 ≡ suc n = omega arith in same) ∙ go n xs x e
  where
    go : (n : ℕ) (xs : List Item) (x : Item) → slice_get xs n ≡ Some x → take (suc n) xs ≡ take n xs ++ x ∷ []
    go n [] x e = absurd cc
    go zero (y ∷ ys) x e = cc
    go (suc n) (y ∷ ys) x e = ap (λ (l : List Item). y ∷ l) (go n ys x e)

pub told_next : (p : Program) (d e f : Told) (n : ℕ) (xs : List Item) (x : Item) → slice_get xs n ≡ Some x → e ≡ tell_all p d (take n xs) → f ≡ with_item (length p.columns) (length p.rows) x e → f ≡ tell_all p d (take (n + 1) xs)
told_next p d e f n xs x there before more =
    more ∙ ap (λ d. with_item (length p.columns) (length p.rows) x d) before ∙ sym (tell_append p d (take n xs) (x ∷ [])) ∙ ap (tell_all p d) (sym (take_next n xs x there))

pub claim_next : (first before after : Claim) (n : ℕ) (xs : List Item) (x : Item) → slice_get xs n ≡ Some x → before ≡ claim_behind first (take n xs) → after ≡ with_claim x before → after ≡ claim_behind first (take (n + 1) xs)
claim_next first before after n xs x there is more = more ∙ ap (with_claim x) is ∙ sym (claim_append first (take n xs) (x ∷ [])) ∙ ap (claim_behind first) (sym (take_next n xs x there))

-- ---- all items

-- behind the first line no item claims
no_claim : (p : Program) (s : Place) (claim : Claim) (item : Item) → Accepted p s item → with_claim item claim ≡ claim
no_claim p s claim items.Optimal a = absurd a
no_claim p s claim items.Infeasible a = absurd a
no_claim p s claim items.Unbounded a = absurd a
no_claim p s claim items.NotConvex a = absurd a
no_claim p s claim item a = refl

none_claims : (p : Program) (s : Place) (claim : Claim) (later : List Item) → Runs p s later → claim_behind claim later ≡ claim
none_claims p s claim [] r = refl
none_claims p s claim (item ∷ later) r = ap (λ k. claim_behind k later) (no_claim p s claim item r.1) ∙ none_claims p (lands s item) claim later r.2

first_claims : (claim before : Claim) → with_claim (item_of_claim claim) before ≡ claim
first_claims Optimal before = refl
first_claims Infeasible before = refl
first_claims Unbounded before = refl
first_claims NotConvex before = refl

first_tells : (c r : ℕ) (claim : Claim) (d : Told) → with_item c r (item_of_claim claim) d ≡ d
first_tells c r Optimal d = refl
first_tells c r Infeasible d = refl
first_tells c r Unbounded d = refl
first_tells c r NotConvex d = refl

-- the claim and the draft are what all items of a text tell: together they are its certificate
pub record IsWhole (claim : Claim) (d : Told) (c : Certificate) : Type 0 where
  pub told : certificate_told claim d ≡ c
  pub tree : IsTreeDue claim d.nodes

pub collected : (p : Program) (n : ℕ) (text : List ℕ) (c : Certificate) (before : Claim) → read_of p n text ≡ Ok c → IsWhole (claim_behind before (text_items p text)) (tell_all p (blank (length p.columns)) (text_items p text)) c
collected p n text c before e =
    let r = read_as p n text c e in
    let b = blank (length p.columns) in
    let a = accepts p r.claim (n + 1) [] (r.next ∷ r.others) c r.tells in
    let all : text_items p text ≡ item_of_claim r.claim ∷ a.later = read_items p n text c r ∙ ap (λ (l : List Item). item_of_claim r.claim ∷ l) a.listed in
    let claim : claim_behind before (text_items p text) ≡ r.claim = ap (claim_behind before) all ∙ ap (λ k. claim_behind k a.later) (first_claims r.claim before) ∙ none_claims p (start r.claim) r.claim a.later a.runs in
    let told : tell_all p b (text_items p text) ≡ tell_all p b a.later = ap (tell_all p b) all ∙ ap (λ d. tell_all p d a.later) (first_tells (length p.columns) (length p.rows) r.claim b) in
    let good = good_all p r.claim (start r.claim) b a.later a.runs (good_start p r.claim) in
    let whole : IsWhole r.claim (tell_all p b a.later) c = record { told = sym a.told; tree = is_tree r.claim (after_all (start r.claim) a.later) (tell_all p b a.later).nodes good.tracked a.ends } in
    subst (λ k. IsWhole k (tell_all p b (text_items p text)) c) (sym claim) (subst (λ d. IsWhole r.claim d c) (sym told) whole)
