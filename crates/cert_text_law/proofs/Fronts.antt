-- The line at which a text leaves the grammar is the first that no certificate's text begins with.
use Rattle.std.proofs.Common.{◌≡◌, ◌≢◌, ℕ, zero, suc, ◌+◌, ◌-◌, ◌≤◌, Bool, true, false, List, [], ◌∷◌, ◌++◌, length, Option, Some, None, Ok, Err, refl, sym, ap, ◌∙◌, subst, arith, append_assoc}
use Rattle.std.specs.Prelude.{◌==◌, if◌then◌else◌}
use Rattle.std.specs.List.{flat_map, join_with_byte, list_all, onto_first, AllByRecursion}
use Rattle.std.proofs.lemmas.List.Splits.{join_with_byte-slice_split}
use Rattle.std.proofs.lemmas.List.Concat.{flat_map-append}
use Rattle.rational.specs.Rational.{zero_ℚ}
use Rattle.program_law.specs.Program.{Program, IsProgram}
use Rattle.certificate_law.specs.declared.Certificate.{Certificate}
use Rattle.mps_tokens.specs.declared.words.CertificateWord.{CertificateWord}
use Rattle.mps_tokens.specs.declared.words.CertificateWord.TheVariants as words
use Rattle.cert_fields.specs.Parts.{is_byte, pieces_of, parts_of}
use Rattle.cert_fields.specs.Lines.{line_text}
use Rattle.cert_grammar.specs.declared.items.Item.{Item}
use Rattle.cert_grammar.specs.declared.items.Item.TheVariants as items
use Rattle.cert_grammar.specs.declared.items.Claim.{Claim}
use Rattle.cert_grammar.specs.declared.items.Claim.TheVariants.{NotConvex}
use Rattle.cert_grammar.specs.declared.kinds.CertKind.{CertKind}
use Rattle.cert_grammar.specs.declared.kinds.CertKind.TheVariants as kinds
use Rattle.cert_grammar.specs.declared.grammar.Part.{Part}
use Rattle.cert_grammar.specs.declared.grammar.Part.TheVariants as parts
use Rattle.cert_grammar.specs.declared.places.Place.{Place}
use Rattle.cert_grammar.specs.Text.{certificate_text}
use Rattle.cert_grammar.specs.Places.{start, place_after, is_ended}
use Rattle.cert_grammar.specs.declared.grammar.Shape.{Shape}
use Rattle.cert_grammar.specs.declared.grammar.Shape.TheVariants.{Bare, Number, Name, Entry}
use Rattle.cert_fields.specs.Fields.{behind}
use Rattle.cert_grammar.specs.Grammar.{shape_of}
use Rattle.cert_grammar.specs.Faults.{Tests, first_of, shape_tests, tests, fault_of_word, line_fault, word_of}
use Rattle.cert_grammar.specs.Items.{item_of}
use Rattle.cert_text_law.specs.Told.{blank, certificate_told}
use Rattle.cert_grammar.specs.Items.{claim_in}
use Rattle.cert_text_law.specs.Reading.{Answer, fault_or, read_claimed, read_on, read_of, read_pieces}
use Rattle.cert_grammar.specs.Writable.{IsWritable, NumbersFit}
use Rattle.cert_text_law.specs.Fronts.{first_pieces, first_lines, Begins, IsFront}
use Rattle.cert_grammar.proofs.Lands.{can, is_amid, lands, after_is, unended, amid_end, end_node}
use Rattle.cert_grammar.proofs.ItemFields.{fields_of, accepted_stands}
use Rattle.cert_text_law.proofs.TextsRead.{Runs, after_all, tell_all, item_text, without, split_behind}
use Rattle.cert_text_law.proofs.ItemRuns.{after_append, runs_append, some_wanted}
use Rattle.cert_grammar.proofs.LinesBack.{line_back}
use Rattle.cert_text_law.proofs.Accepts.{good_all, good_start, writable}
use Rattle.cert_text_law.proofs.ReadBack.{Finishes, claim_word, read_back}
use Rattle.cert_text_law.specs.CertificateItems.{items_of}
use Rattle.cert_text_law.proofs.ToldFits.{zero_fits, told_fits}
use Rattle.cert_text_law.proofs.Readings.{step, claimed, unclaimed, not_last, read_ended}
use Rattle.cert_text_law.proofs.ShownRuns.{later_is}
use Rattle.cert_text_law.proofs.TextBack.{claim_back, claim_told, text_of_items}
use Rattle.cert_fields.proofs.Pieces.{split_has_first}

-- ---- pieces have no line feed

pieces_clear : (text : List ℕ) → AllByRecursion (λ bs. list_all (without 10) bs ≡ true) (pieces_of text)
pieces_clear [] = (refl, tt)
pieces_clear (b ∷ bs) = go (pieces_clear bs) (is_byte 10 b) refl
  where
    onto : (ps : List (List ℕ)) → is_byte 10 b ≡ false → AllByRecursion (λ bs. list_all (without 10) bs ≡ true) ps → AllByRecursion (λ bs. list_all (without 10) bs ≡ true) (onto_first b ps)
    onto [] e h = (rw e refl, tt)
    onto (p ∷ ps) e h = (rw e h.0, h.1)

    go : AllByRecursion (λ bs. list_all (without 10) bs ≡ true) (pieces_of bs) → (t : Bool) → is_byte 10 b ≡ t → AllByRecursion (λ bs. list_all (without 10) bs ≡ true) (if t then [] ∷ pieces_of bs else onto_first b (pieces_of bs))
    go rest true e = (refl, rest)
    go rest false e = onto (pieces_of bs) e rest

-- ---- an answer that is a fault

abbrev IsRefused : Answer → Type 0
IsRefused (Ok c) = ⊥
IsRefused (Err f) = Unit {0}

refused : (a : Answer) (n : ℕ) (kind : CertKind) → a ≡ Err (n, kind) → IsRefused a
refused (Ok c) n kind e = absurd cc
refused (Err f) n kind e = tt

fault_is : (a : Answer) (f g : ℕ × CertKind) → a ≡ Err f → a ≡ Err g → g ≡ f
fault_is a f g d e = cc

line_is : (a : Answer) (n m : ℕ) (k j : CertKind) → a ≡ Err (n, k) → a ≡ Err (m, j) → m ≡ n
line_is a n m k j e f = ap (λ (x : ℕ × CertKind). x.0) (fault_is a (n, k) (m, j) e f)

kind_is : (a : Answer) (n m : ℕ) (k j : CertKind) → a ≡ Err (n, k) → a ≡ Err (m, j) → j ≡ k
kind_is a n m k j e f = ap (λ (x : ℕ × CertKind). x.1) (fault_is a (n, k) (m, j) e f)

-- no line's fault is that there is no line
abbrev is_end : CertKind → Bool
is_end kinds.CertEnd = true
is_end kind = false

no_end : (ts : Tests) (k : CertKind) → AllByRecursion (λ t. is_end t.1 ≡ false) ts → first_of ts ≡ Some k → is_end k ≡ false
no_end [] k h e = absurd cc
no_end ((true, j) ∷ ts) k h e = ap is_end (sym (same j k e)) ∙ h.0
  where
    same : (j k : CertKind) → Some j ≡ Some k → j ≡ k
    same j k e = cc
no_end ((false, j) ∷ ts) k h e = no_end ts k h.1 e

shape_kinds : (p : Program) (s : Place) (word : CertificateWord) (shape : Shape) (fields : List (List ℕ)) → AllByRecursion (λ t. is_end t.1 ≡ false) (shape_tests p s word shape fields)
shape_kinds p s word Bare fields = (refl, tt)
shape_kinds p s word (Number allowed) fields = (refl, (refl, (refl, (refl, tt))))
shape_kinds p s word (Name axis) fields = (refl, (refl, tt))
shape_kinds p s word (Entry axis allowed) fields = (refl, (refl, (refl, (refl, (refl, (refl, tt))))))

fault_kind : (p : Program) (s : Place) (parts : List (List ℕ)) (k : CertKind) → line_fault p s parts ≡ Some k → is_end k ≡ false
unfolding line_fault
fault_kind p s parts k e = go (word_of parts) e
  where
    go : (o : Option CertificateWord) → fault_of_word p s o (behind parts) ≡ Some k → is_end k ≡ false
    go None e = no_end ((true, kinds.CertLine) ∷ []) k (refl, tt) e
    go (Some word) e = no_end (tests p s word (behind parts)) k (shape_kinds p s word (shape_of word) (behind parts)) e

never_end : {A : Type 0} (k : CertKind) → is_end k ≡ false → k ≡ kinds.CertEnd → A
never_end k e f = absurd (cc (e, f))

-- behind END nothing may stand
past_end : (p : Program) (claim : Claim) (n : ℕ) (earlier : List Item) (text : List ℕ) → is_ended (place_after claim earlier).part ≡ true → text ≢ [] → IsRefused (read_on p claim n earlier (pieces_of text))
past_end p claim n earlier [] e some = absurd (some refl)
past_end p claim n earlier (b ∷ bs) e some =
    refused (read_on p claim n earlier (pieces_of (b ∷ bs))) n kinds.CertAfter (read_ended p claim n earlier (pieces_of (b ∷ bs)) e (split_has_first 10 (b ∷ bs)) (not_last b bs))

-- ---- the lines before a fault, behind the first line

-- so many lines are those of items that are accepted, and with the next one no text is read as a certificate
record IsFaulted (p : Program) (claim : Claim) (m : ℕ) (earlier : List Item) (pieces : List (List ℕ)) (at : ℕ) (kind : CertKind) : Type 0 where
  count : ℕ
  at_is : at ≡ m + count
  later : List Item
  runs : Runs p (place_after claim earlier) later
  text : first_pieces count pieces ≡ flat_map (item_text p) later
  end : kind ≡ kinds.CertEnd → length pieces ≤ suc count
  next : kind ≢ kinds.CertEnd → (rest : List ℕ) → IsRefused (read_on p claim m earlier (pieces_of (first_pieces (suc count) pieces ++ rest)))

here : (p : Program) (claim : Claim) (m : ℕ) (earlier : List Item) (pieces : List (List ℕ)) (at : ℕ) (kind : CertKind) → at ≡ m → (kind ≡ kinds.CertEnd → length pieces ≤ 1)
    → (kind ≢ kinds.CertEnd → (rest : List ℕ) → IsRefused (read_on p claim m earlier (pieces_of (first_pieces 1 pieces ++ rest)))) → IsFaulted p claim m earlier pieces at kind
here p claim m earlier pieces at kind e end next = record { count = 0; at_is = omega (arith, e); later = []; runs = tt; text = refl; end = end; next = next }

last_piece : (p : Program) (claim : Claim) (m : ℕ) (earlier : List Item) (piece : List ℕ) (at : ℕ) (kind : CertKind) → read_on p claim m earlier (piece ∷ []) ≡ Err (at, kind) → IsFaulted p claim m earlier (piece ∷ []) at kind
last_piece p claim m earlier piece at kind e = go (is_ended (place_after claim earlier).part) (length piece == 0) refl refl
  where
    a : Answer
    a = read_on p claim m earlier (piece ∷ [])

    some : (piece rest : List ℕ) → (length piece == 0) ≡ false → piece ++ rest ≢ []
    some [] rest f = absurd cc
    some (b ∷ bs) rest f = λ e. cc

    go : (b t : Bool) → is_ended (place_after claim earlier).part ≡ b → (length piece == 0) ≡ t → IsFaulted p claim m earlier (piece ∷ []) at kind
    go true true f g = absurd (let bad = rw (f, g) at e in cc)
    go true false f g =
        let now : a ≡ Err (m, kinds.CertAfter) = rw (f, g) refl in
        here p claim m earlier (piece ∷ []) at kind (line_is a m at kinds.CertAfter kind now e) (λ k. omega arith) (λ n rest. past_end p claim m earlier (piece ++ rest) f (some piece rest g))
    go false t f g =
        let now : a ≡ Err (m, kinds.CertEnd) = rw f refl in
        here p claim m earlier (piece ∷ []) at kind (line_is a m at kinds.CertEnd kind now e) (λ k. omega arith) (λ n rest. absurd (n (kind_is a m at kinds.CertEnd kind now e)))

one_more : (p : Program) (claim : Claim) (m : ℕ) (earlier : List Item) (piece next : List ℕ) (pieces : List (List ℕ)) (at : ℕ) (kind : CertKind) → list_all (without 10) piece ≡ true
    → (read_on p claim (m + 1) (item_of p (parts_of piece) ∷ earlier) (next ∷ pieces) ≡ Err (at, kind) → IsFaulted p claim (m + 1) (item_of p (parts_of piece) ∷ earlier) (next ∷ pieces) at kind)
    → read_on p claim m earlier (piece ∷ next ∷ pieces) ≡ Err (at, kind) → IsFaulted p claim m earlier (piece ∷ next ∷ pieces) at kind
one_more p claim m earlier piece next pieces at kind clear rest e = go (is_ended (place_after claim earlier).part) (line_fault p (place_after claim earlier) (parts_of piece)) refl refl
  where
    a : Answer
    a = read_on p claim m earlier (piece ∷ next ∷ pieces)

    s : Place
    s = place_after claim earlier

    some : (piece rest : List ℕ) → (piece ++ 10 ∷ []) ++ rest ≢ []
    some [] rest = λ e. cc
    some (b ∷ bs) rest = λ e. cc

    split : (x : List ℕ) → pieces_of (piece ++ 10 ∷ x) ≡ piece ∷ pieces_of x
    split x = split_behind 10 piece x clear

    go : (b : Bool) (o : Option CertKind) → is_ended s.part ≡ b → line_fault p s (parts_of piece) ≡ o → IsFaulted p claim m earlier (piece ∷ next ∷ pieces) at kind
    go true o f g =
        let now : a ≡ Err (m, kinds.CertAfter) = rw f refl in
        here p claim m earlier (piece ∷ next ∷ pieces) at kind (line_is a m at kinds.CertAfter kind now e) (never_end kind (ap is_end (kind_is a m at kinds.CertAfter kind now e))) (λ n rest. past_end p claim m earlier ((piece ++ 10 ∷ []) ++ rest) f (some piece rest))
    go false (Some k) f g =
        let now : a ≡ Err (m, k) = rw (f, g) refl in
        here p claim m earlier (piece ∷ next ∷ pieces) at kind (line_is a m at k kind now e) (never_end kind (ap is_end (kind_is a m at k kind now e) ∙ fault_kind p s (parts_of piece) k g))
        (λ n rest.
        let text = piece ++ 10 ∷ rest in
        let whole : read_on p claim m earlier (pieces_of text) ≡ Err (m, k) = step p claim m earlier piece text rest (split rest) f ∙ ap (λ o. fault_or o m (read_on p claim (m + 1) (item_of p (parts_of piece) ∷ earlier) (pieces_of rest))) g in
        subst (λ (t : List ℕ). IsRefused (read_on p claim m earlier (pieces_of t))) (sym (append_assoc piece (10 ∷ []) rest)) (refused (read_on p claim m earlier (pieces_of text)) m k whole))
    go false None f g =
        let item = item_of p (parts_of piece) in
        let more = rest (rw (f, g) at e) in
        let back = line_back p s (parts_of piece) g in
        let there = after_is s item (accepted_stands p s item back.accepted) in
        let line : piece ≡ join_with_byte 32 (fields_of p item) = sym (join_with_byte-slice_split 32 piece) ∙ ap (join_with_byte 32) (sym back.fields_are) in
        let tail = first_pieces more.count (next ∷ pieces) in
        record {
          count = suc more.count;
          at_is = omega (arith, more.at_is);
          later = item ∷ more.later;
          runs = (f, back.accepted, subst (λ t. Runs p t more.later) there more.runs);
          text = ap (λ (l : List ℕ). l ++ 10 ∷ tail) line ∙ ap (λ (l : List ℕ). join_with_byte 32 (fields_of p item) ++ 10 ∷ l) more.text
              ∙ sym (append_assoc (join_with_byte 32 (fields_of p item)) (10 ∷ []) (flat_map (item_text p) more.later));
          end = λ k. let within = more.end k in omega (arith, within);
          next = λ n rest.
              let x = first_pieces (suc more.count) (next ∷ pieces) ++ rest in
              let text = piece ++ 10 ∷ x in
              let whole : read_on p claim m earlier (pieces_of text) ≡ read_on p claim (m + 1) (item ∷ earlier) (pieces_of x) = step p claim m earlier piece text x (split x) f ∙ ap (λ o. fault_or o m (read_on p claim (m + 1) (item ∷ earlier) (pieces_of x))) g in
              subst (λ (t : List ℕ). IsRefused (read_on p claim m earlier (pieces_of t))) (sym (append_assoc piece (10 ∷ first_pieces (suc more.count) (next ∷ pieces)) rest)) (subst IsRefused (sym whole) (more.next n rest));
        }

faulted : (p : Program) (claim : Claim) (m : ℕ) (earlier : List Item) (pieces : List (List ℕ)) (at : ℕ) (kind : CertKind) → AllByRecursion (λ bs. list_all (without 10) bs ≡ true) pieces → read_on p claim m earlier pieces ≡ Err (at, kind) → IsFaulted p claim m earlier pieces at kind
faulted p claim m earlier [] at kind c e =
    let same = kind_is (read_on p claim m earlier []) m at kinds.CertEnd kind refl e in
    here p claim m earlier [] at kind (line_is (read_on p claim m earlier []) m at kinds.CertEnd kind refl e) (λ k. omega arith) (λ n rest. absurd (n same))
faulted p claim m earlier (piece ∷ []) at kind c e = last_piece p claim m earlier piece at kind e
faulted p claim m earlier (piece ∷ next ∷ pieces) at kind c e =
    one_more p claim m earlier piece next pieces at kind c.0 (λ f. faulted p claim (m + 1) (item_of p (parts_of piece) ∷ earlier) (next ∷ pieces) at kind c.1 f) e

-- ---- what is begun can be ended

leaves : ℕ → List Item
leaves zero = items.End ∷ []
leaves (suc w) = items.Farkas ∷ leaves w

leaves_finish : (p : Program) (s : Place) (w : ℕ) → s.wanted ≡ w → can s.claim s.part words.End ≡ true → Finishes p s (leaves w)
unfolding leaves
leaves_finish p s zero e h = record { runs = (unended s.claim s.part words.End h, rw (h, e) refl, tt); ends = refl }
leaves_finish p s (suc w) e h =
    let more = leaves_finish p (lands s items.Farkas) w (omega arith) (leaf_end s.claim) in
    record { runs = (unended s.claim s.part words.End h, rw ((end_node s.claim s.part h).1, some_wanted s.wanted (omega arith)) refl, more.runs); ends = more.ends }
  where
    leaf_end : (claim : Claim) → can claim parts.Multipliers words.End ≡ true
    leaf_end claim = grind arith

record IsEndable (p : Program) (s : Place) : Type 0 where
  rest : List Item
  finishes : Finishes p s rest

endable : (p : Program) (s : Place) → IsEndable p s
endable p s = go s.part refl
  where
    go : (part : Part) → s.part ≡ part → IsEndable p s
    go parts.Ended e = record { rest = []; finishes = record { runs = tt; ends = ap is_ended e } }
    go parts.Value e =
        let more = leaves_finish p (lands s (items.Value zero_ℚ)) s.wanted refl (point_end s.claim) in
        record { rest = items.Value zero_ℚ ∷ leaves s.wanted; finishes = record { runs = (ap is_ended e, (rw (e, value_stands s.claim) refl, zero_fits), more.runs); ends = more.ends } }
      where
        point_end : (claim : Claim) → can claim parts.Points words.End ≡ true
        point_end claim = grind arith

        value_stands : (claim : Claim) → can claim parts.Value words.Value ≡ true
        value_stands claim = grind arith
    go part e = record { rest = leaves s.wanted; finishes = leaves_finish p s s.wanted refl (amid_end s.claim s.part (ap is_amid e)) }

-- ---- the whole text

front_of : (p : Program) (claim : Claim) (later : List Item) → Runs p (start claim) later → IsFront p (claim_word claim ++ 10 ∷ flat_map (item_text p) later)
front_of p claim later r =
    let more = endable p (after_all (start claim) later) in
    let all = later ++ more.rest in
    let runs = runs_append p (start claim) later more.rest r more.finishes.runs in
    let ends : is_ended (after_all (start claim) all).part ≡ true = ap (λ (s : Place). is_ended s.part) (after_append (start claim) later more.rest) ∙ more.finishes.ends in
    let d = tell_all p (blank (length p.columns)) all in
    let c = certificate_told claim d in
    let w : IsWritable p c = writable p claim (after_all (start claim) all) d (good_all p claim (start claim) (blank (length p.columns)) all runs (good_start p claim)) ends in
    let is : all ≡ items_of c = later_is p claim all runs ends in
    let word = claim_word claim in
    let told = flat_map (item_text p) later in
    let behind = flat_map (item_text p) more.rest in
    record {
      certificate = c;
      writable = w;
      numbers = told_fits p claim (start claim) all runs;
      begins = record {
        rest = behind;
        is = text_of_items p c w
            ∙ ap (λ k. line_text (claim_word k ∷ []) ++ flat_map (item_text p) (items_of c)) (claim_told claim d)
            ∙ ap (λ (is : List Item). line_text (word ∷ []) ++ flat_map (item_text p) is) (sym is)
            ∙ ap (λ (t : List ℕ). line_text (word ∷ []) ++ t) (flat_map-append (item_text p) later more.rest)
            ∙ append_assoc word (10 ∷ []) (told ++ behind)
            ∙ sym (append_assoc word (10 ∷ told) behind);
      };
    }

none_front : (p : Program) → IsFront p []
none_front p =
    let h = front_of p NotConvex [] tt in
    record { certificate = h.certificate; writable = h.writable; numbers = h.numbers; begins = record { rest = certificate_text p h.certificate; is = refl } }

-- so many lines are the front of a certificate's text, and with the next one no text is read as a certificate
record HasFault (p : Program) (n : ℕ) (pieces : List (List ℕ)) (at : ℕ) (kind : CertKind) : Type 0 where
  count : ℕ
  at_is : at ≡ n + count
  front : IsFront p (first_pieces count pieces)
  end : kind ≡ kinds.CertEnd → length pieces ≤ suc count
  next : kind ≢ kinds.CertEnd → (rest : List ℕ) → IsRefused (read_of p n (first_pieces (suc count) pieces ++ rest))

first_faulted : (p : Program) (n : ℕ) (first next : List ℕ) (pieces : List (List ℕ)) (at : ℕ) (kind : CertKind) (o : Option Claim) → claim_in first ≡ o → AllByRecursion (λ bs. list_all (without 10) bs ≡ true) (first ∷ next ∷ pieces)
    → read_claimed p n o (next ∷ pieces) ≡ Err (at, kind) → HasFault p n (first ∷ next ∷ pieces) at kind
first_faulted p n first next pieces at kind None f c e = record {
  count = 0;
  at_is = let same = line_is (read_claimed p n None (next ∷ pieces)) n at kinds.CertLine kind refl e in omega (arith, same);
  front = none_front p;
  end = never_end kind (ap is_end (kind_is (read_claimed p n None (next ∷ pieces)) n at kinds.CertLine kind refl e));
  next = λ k rest.
      let text = first ++ 10 ∷ rest in
      subst (λ (t : List ℕ). IsRefused (read_of p n t)) (sym (append_assoc first (10 ∷ []) rest)) (refused (read_of p n text) n kinds.CertLine (unclaimed p n first text rest (split_behind 10 first rest c.0) f));
}
first_faulted p n first next pieces at kind (Some claim) f c e =
    let h = faulted p claim (n + 1) [] (next ∷ pieces) at kind c.1 e in
    let front = front_of p claim h.later h.runs in
    let same : claim_word claim ++ 10 ∷ flat_map (item_text p) h.later ≡ first ++ 10 ∷ first_pieces h.count (next ∷ pieces) =
    ap (λ (t : List ℕ). claim_word claim ++ 10 ∷ t) (sym h.text) ∙ ap (λ (w : List ℕ). w ++ 10 ∷ first_pieces h.count (next ∷ pieces)) (sym (claim_back first claim f)) in
    record {
      count = suc h.count;
      at_is = omega (arith, h.at_is);
      front = subst (IsFront p) same front;
      end = λ k. let within = h.end k in omega (arith, within);
      next = λ k rest.
          let tail = first_pieces (suc h.count) (next ∷ pieces) in
          let x = tail ++ rest in
          let text = first ++ 10 ∷ x in
          subst (λ (t : List ℕ). IsRefused (read_of p n t)) (sym (append_assoc first (10 ∷ tail) rest)) (subst IsRefused (sym (claimed p n first text x claim (split_behind 10 first x c.0) f)) (h.next k rest));
    }

unbegun_fault : (p : Program) (n : ℕ) (pieces : List (List ℕ)) (at : ℕ) (kind : CertKind) → length pieces ≤ 1 → read_pieces p n pieces ≡ Err (n, kinds.CertEnd) → read_pieces p n pieces ≡ Err (at, kind) → HasFault p n pieces at kind
unbegun_fault p n pieces at kind few now e = record {
  count = 0;
  at_is = let same = line_is (read_pieces p n pieces) n at kinds.CertEnd kind now e in omega (arith, same);
  front = none_front p;
  end = λ k. few;
  next = λ k rest. absurd (k (kind_is (read_pieces p n pieces) n at kinds.CertEnd kind now e));
}

has_fault : (p : Program) (n : ℕ) (pieces : List (List ℕ)) (at : ℕ) (kind : CertKind) → AllByRecursion (λ bs. list_all (without 10) bs ≡ true) pieces → read_pieces p n pieces ≡ Err (at, kind) → HasFault p n pieces at kind
has_fault p n [] at kind c e = unbegun_fault p n [] at kind (omega arith) refl e
has_fault p n (first ∷ []) at kind c e = unbegun_fault p n (first ∷ []) at kind (omega arith) refl e
has_fault p n (first ∷ next ∷ pieces) at kind c e = first_faulted p n first next pieces at kind (claim_in first) refl c e

count_is : (n at count : ℕ) → at ≡ n + count → count ≡ at - n
count_is n at count e = omega (arith, e)

more_is : (n at count : ℕ) → at ≡ n + count → suc count ≡ at - n + 1
more_is n at count e = omega (arith, e)

pub not_before : (p : Program) (n : ℕ) (text : List ℕ) (at : ℕ) (kind : CertKind) → read_of p n text ≡ Err (at, kind) → n ≤ at
not_before p n text at kind e = let h = has_fault p n (pieces_of text) at kind (pieces_clear text) e in omega (arith, h.at_is)

pub no_line_left : (p : Program) (n : ℕ) (text : List ℕ) (at : ℕ) → read_of p n text ≡ Err (at, kinds.CertEnd) → length (pieces_of text) ≤ at - n + 1
no_line_left p n text at e =
    let h = has_fault p n (pieces_of text) at kinds.CertEnd (pieces_clear text) e in
    let within = h.end refl in
    omega (arith, within, h.at_is)

pub front_before : (p : Program) (n : ℕ) (text : List ℕ) (at : ℕ) (kind : CertKind) → read_of p n text ≡ Err (at, kind) → IsFront p (first_lines (at - n) text)
front_before p n text at kind e =
    let h = has_fault p n (pieces_of text) at kind (pieces_clear text) e in
    subst (λ k. IsFront p (first_pieces k (pieces_of text))) (count_is n at h.count h.at_is) h.front

pub none_with : (p : Program) (n : ℕ) (text : List ℕ) (at : ℕ) (kind : CertKind) (c : Certificate) → IsProgram p → read_of p n text ≡ Err (at, kind) → kind ≢ kinds.CertEnd → IsWritable p c → NumbersFit c → Begins p c (first_lines (at - n + 1) text) → ⊥
none_with p n text at kind c good e k w fit b =
    let h = has_fault p n (pieces_of text) at kind (pieces_clear text) e in
    let no : IsRefused (read_of p n (first_lines (at - n + 1) text ++ b.rest)) = subst (λ (m : ℕ). IsRefused (read_of p n (first_pieces m (pieces_of text) ++ b.rest))) (more_is n at h.count h.at_is) (h.next k b.rest) in
    subst IsRefused (ap (read_of p n) (sym b.is) ∙ read_back p c n good w fit) no
