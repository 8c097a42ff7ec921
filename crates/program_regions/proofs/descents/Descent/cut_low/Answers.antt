use Rattle.std.specs.Prelude.{length, reverse}
use Rattle.std.proofs.Common.{ap, sym, ◌∙◌, true≢false}
use Rattle.program_law.specs.Region.{Region}
use Rattle.program_regions.specs.Descents.{Descended}
use Rattle.program_regions.proofs.DescentLemmas.{back_low, length_low, has_room, within_more, before_more}
use Rattle.program_regions.proofs.descents.Descent.cut_low.Goals as goal

pub returns-in_err-keep-clause-room : goal.returns-in_err-keep-clause-room
returns-in_err-keep-clause-room g c = λ h. absurd (true≢false (sym (c.in_err-keep.ensures.room (has_room c.args.self.now c.self.inside.region c.self.inside.cuts.items _ c.self.view_is h))))

pub invariant_of-self-2 : goal.invariant_of-self-2
invariant_of-self-2 g c =
    within_more (length c.self.inside.region) (length c.cut_low.new.self) _ (reverse c.self.inside.cuts.items) (reverse c.keep.new.cuts.items) c.in_ok-keep.ensures.ok
    (ap (λ (r : Region). length r) c.cut_low.ensures ∙ length_low c.self.inside.region c.args.j c.args.k) (rw (← c.self.view_is) at c.requires) c.self.invariant

pub returns-clause-before : goal.returns-clause-before
returns-clause-before g c =
    rw (← c.self.view_is) (before_more c.self.inside.region c.cut_low.new.self _ (reverse c.self.inside.cuts.items) (reverse c.keep.new.cuts.items) c.in_ok-keep.ensures.ok
    (rw c.cut_low.ensures (back_low c.self.inside.region c.args.j c.args.k (rw (← c.self.view_is) at c.requires))))

pub returns-clause-width : goal.returns-clause-width
returns-clause-width g c =
    ap (λ (r : Region). length r) c.cut_low.ensures ∙ length_low c.self.inside.region c.args.j c.args.k ∙ ap (λ (d : Descended _). length d.region) c.self.view_is
