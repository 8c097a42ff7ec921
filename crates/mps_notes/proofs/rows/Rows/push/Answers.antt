use Rattle.std.proofs.Common.{◌≡◌, None, sym, ◌∙◌}
use Rattle.program_law.specs.Places.{place_of}
use Rattle.named_things.specs.Named.{names_of}
use Rattle.mps_notes.specs.Rows.{kinds_of}
use Rattle.mps_notes.proofs.RowLemmas.{names_kinds}
use Rattle.mps_notes.proofs.RowsPushed.{bound_done, free_done}
use Rattle.mps_notes.proofs.rows.Rows.push.Goals as goal

pub push-requires : goal.push-requires
push-requires c = rw (c.in_ok-name.ensures.items, ← names_kinds c.self.inside.named, c.self.view_is) c.requires.absent

pub invariant_of-self-then-binds : goal.invariant_of-self-then-binds
invariant_of-self-then-binds c =
    let absent : place_of (names_of (kinds_of c.self.inside.named)) c.args.name.now ≡ None = rw c.self.view_is c.requires.absent in
    bound_done c.self.inside c.self.invariant c.args.name.now _ c.args.kind _ _ _ absent c.requires.name c.requires.marker c.in_ok-name.ensures.items c.is_bound-binds.ensures c.next_place-place.ensures c.in_ok-push.ensures.ok c.if-binds.true (rw c.self.view_is (c.requires.room (sym c.is_bound-binds.ensures ∙ c.if-binds.true)))

pub invariant_of-self-else-binds : goal.invariant_of-self-else-binds
invariant_of-self-else-binds c =
    let absent : place_of (names_of (kinds_of c.self.inside.named)) c.args.name.now ≡ None = rw c.self.view_is c.requires.absent in
    free_done c.self.inside c.self.invariant c.args.name.now _ c.args.kind _ _ _ absent c.requires.name c.requires.marker c.in_ok-name.ensures.items c.is_bound-binds.ensures c.next_place-place.ensures c.in_ok-push.ensures.ok c.if-binds.false
