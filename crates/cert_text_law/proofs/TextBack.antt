-- A text that is read is the text of its certificate.
use Rattle.std.proofs.Common.{◌≡◌, ℕ, ◌+◌, List, [], ◌∷◌, ◌++◌, length, Option, Some, None, Ok, refl, sym, ap, ◌∙◌, append_assoc}
use Rattle.std.specs.List.{flat_map, join_with_byte}
use Rattle.std.proofs.lemmas.List.Splits.{join_with_byte-slice_split}
use Rattle.program_law.specs.Program.{Program}
use Rattle.certificate_law.specs.declared.Certificate.{Certificate}
use Rattle.mps_tokens.specs.declared.words.CertificateWord.{CertificateWord}
use Rattle.mps_tokens.specs.declared.words.CertificateWord.TheVariants as words
use Rattle.mps_tokens.specs.Words.{certificate_word_names}
use Rattle.mps_tokens.specs.Cases.{named}
use Rattle.cert_grammar.specs.declared.items.Item.{Item}
use Rattle.cert_grammar.specs.declared.items.Claim.{Claim}
use Rattle.cert_grammar.specs.declared.items.Claim.TheVariants.{Optimal, Infeasible, Unbounded, NotConvex}
use Rattle.cert_grammar.specs.Text.{line_text, lines_text, certificate_text}
use Rattle.cert_text_law.specs.Told.{Told, blank, certificate_told}
use Rattle.cert_grammar.specs.Items.{claim_with, claim_in}
use Rattle.cert_text_law.specs.Reading.{read_on, read_of}
use Rattle.cert_grammar.specs.Writable.{IsWritable}
use Rattle.cert_grammar.proofs.LinesBack.{word_back}
use Rattle.cert_text_law.proofs.TextsRead.{item_text, tell_all}
use Rattle.cert_text_law.proofs.ReadBack.{claim_word, all_fields, lines_of_items}
use Rattle.cert_text_law.specs.CertificateItems.{items_of, claim_of, certificate_items}
use Rattle.cert_text_law.specs.Items.{items_on, items_claimed, items_in, text_items}
use Rattle.cert_grammar.specs.Grammar.{item_of_claim}
use Rattle.cert_text_law.proofs.Accepts.{IsReadAs, accepts, read_as, read_writable}
use Rattle.cert_text_law.proofs.ShownRuns.{later_is}

pub claim_back : (line : List ℕ) (claim : Claim) → claim_in line ≡ Some claim → line ≡ claim_word claim
unfolding claim_in
claim_back line claim e = go (named certificate_word_names line) refl e
  where
    same : (a b : Claim) → Some a ≡ Some b → a ≡ b
    same a b e = cc

    go : (o : Option CertificateWord) → named certificate_word_names line ≡ o → claim_with o ≡ Some claim → line ≡ claim_word claim
    go None f e = absurd cc
    go (Some words.Optimal) f e = word_back line words.Optimal f ∙ ap claim_word (same Optimal claim e)
    go (Some words.Infeasible) f e = word_back line words.Infeasible f ∙ ap claim_word (same Infeasible claim e)
    go (Some words.Unbounded) f e = word_back line words.Unbounded f ∙ ap claim_word (same Unbounded claim e)
    go (Some words.NotConvex) f e = word_back line words.NotConvex f ∙ ap claim_word (same NotConvex claim e)
    go (Some word) f e = absurd cc

pub claim_told : (claim : Claim) (d : Told) → claim_of (certificate_told claim d) ≡ claim
claim_told Optimal d = refl
claim_told Infeasible d = refl
claim_told Unbounded d = refl
claim_told NotConvex d = refl

pub text_of_items : (p : Program) (c : Certificate) → IsWritable p c → certificate_text p c ≡ line_text (claim_word (claim_of c) ∷ []) ++ flat_map (item_text p) (items_of c)
unfolding certificate_text
text_of_items p c h = ap lines_text (all_fields p c h) ∙ ap (λ (t : List ℕ). line_text (claim_word (claim_of c) ∷ []) ++ t) (lines_of_items p (items_of c))

claimed_text : (p : Program) (claim : Claim) (n : ℕ) (first : List ℕ) (pieces : List (List ℕ)) (c : Certificate) → IsWritable p c → claim_in first ≡ Some claim → read_on p claim n [] pieces ≡ Ok c
    → certificate_text p c ≡ first ++ 10 ∷ join_with_byte 10 pieces
claimed_text p claim n first pieces c writable named_is e =
    let a = accepts p claim n [] pieces c e in
    let d = tell_all p (blank (length p.columns)) a.later in
    let is : a.later ≡ items_of c = later_is p claim a.later a.runs a.ends ∙ ap items_of (sym a.told) in
    let same : claim_of c ≡ claim = ap claim_of a.told ∙ claim_told claim d in
    text_of_items p c writable
    ∙ ap (λ k. line_text (claim_word k ∷ []) ++ flat_map (item_text p) (items_of c)) same
    ∙ ap (λ (is : List Item). line_text (claim_word claim ∷ []) ++ flat_map (item_text p) is) (sym is)
    ∙ ap (λ (t : List ℕ). line_text (claim_word claim ∷ []) ++ t) (sym a.text)
    ∙ append_assoc (claim_word claim) (10 ∷ []) (join_with_byte 10 pieces)
    ∙ ap (λ (w : List ℕ). w ++ 10 ∷ join_with_byte 10 pieces) (sym (claim_back first claim named_is))

pub text_back : (p : Program) (n : ℕ) (text : List ℕ) (c : Certificate) → read_of p n text ≡ Ok c → certificate_text p c ≡ text
text_back p n text c e =
    let r = read_as p n text c e in
    claimed_text p r.claim (n + 1) r.first (r.next ∷ r.others) c (read_writable p n text c e) r.claims r.tells ∙ ap (join_with_byte 10) (sym r.pieces_are) ∙ join_with_byte-slice_split 10 text

-- ---- the items of a text that is read are those of its certificate

claimed_items : (p : Program) (claim : Claim) (n : ℕ) (pieces : List (List ℕ)) (c : Certificate) → read_on p claim n [] pieces ≡ Ok c → item_of_claim claim ∷ items_on p claim [] pieces ≡ certificate_items c
claimed_items p claim n pieces c e =
    let a = accepts p claim n [] pieces c e in
    let d = tell_all p (blank (length p.columns)) a.later in
    let is : a.later ≡ items_of c = later_is p claim a.later a.runs a.ends ∙ ap items_of (sym a.told) in
    let same : claim_of c ≡ claim = ap claim_of a.told ∙ claim_told claim d in
    ap (λ (l : List Item). item_of_claim claim ∷ l) (a.listed ∙ is) ∙ ap (λ k. item_of_claim k ∷ items_of c) (sym same)

-- the items of a text that is read: its claim, and those that are accepted behind it
pub read_items : (p : Program) (n : ℕ) (text : List ℕ) (c : Certificate) → (r : IsReadAs p n text c) → text_items p text ≡ item_of_claim r.claim ∷ items_on p r.claim [] (r.next ∷ r.others)
read_items p n text c r = ap (items_in p) r.pieces_are ∙ ap (λ o. items_claimed p o (r.next ∷ r.others)) r.claims

pub items_back : (p : Program) (n : ℕ) (text : List ℕ) (c : Certificate) → read_of p n text ≡ Ok c → text_items p text ≡ certificate_items c
items_back p n text c e = let r = read_as p n text c e in read_items p n text c r ∙ claimed_items p r.claim (n + 1) (r.next ∷ r.others) c r.tells
