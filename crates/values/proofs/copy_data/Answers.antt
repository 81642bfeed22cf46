use Rattle.std.proofs.Common.{◌≡◌, true, rules, ◌∙◌}
use Rattle.values.proofs.LawsData.{is_one, one-room, copy-one, db-room, segments-lie, segments-bytes}
use Rattle.values.proofs.copy_data.Goals as goal

pub copy_part-requires : goal.copy_part-requires
copy_part-requires c =
    let t : is_one c.args.x ≡ true = search rules in
    let h = one-room _ _ t c.requires.lies _ c.requires.x_in_bounds _ c.part_of.ensures in
    record { len_in_bounds = h.0; len_in_bounds_2 = h.1 }

pub segments_at-requires : goal.segments_at-requires
segments_at-requires c = db-room _ _ _ (rw c.in-Segments.is at c.requires.lies)

pub copy_segments-requires-clause-segments_lie : goal.copy_segments-requires-clause-segments_lie
copy_segments-requires-clause-segments_lie c =
    segments-lie _ _ _ (rw c.in-Segments.is at c.requires.lies) _ c.segments_at.ensures

pub returns-in-Inline : goal.returns-in-Inline
returns-in-Inline c =
    let t : is_one c.args.x ≡ true = search rules in c.copy_part.ensures ∙ copy-one _ _ _ t c.requires.lies _ c.part_of.ensures

pub returns-in-Segments : goal.returns-in-Segments
returns-in-Segments c =
    rw (c.in-Segments.is, ← segments-bytes _ _ _ (rw c.in-Segments.is at c.requires.lies) _ c.segments_at.ensures)
    c.copy_segments.ensures
