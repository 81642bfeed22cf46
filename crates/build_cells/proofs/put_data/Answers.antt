use Rattle.build_frames.proofs.Sizes.{data-one as size-one}
use Rattle.build_cells.proofs.Segments.{size-many, data-none, data-one, data-many}
use lib.ListN.{length}
use mathlib.Core.Path.{◌∙◌}
use native.Mathlib.Omega.{arith}
use Rattle.build_cells.proofs.put_data.Goals as goal

pub returns-then-n-le4 : goal.returns-then-n-le4
returns-then-n-le4 c =
    data-none c.args.body.now c.args.out.now c.args.at
    c.args.offset c.if-n-le4.true

pub put_bytes-requires : goal.put_bytes-requires
put_bytes-requires c = (
  omega arith,
  omega (
    arith,
    size-one (length c.args.body.now) c.if-n-le4.false c.if-n-le16344.true,
    c.requires.body_in_bounds,
  ),
)

pub put_segmented-requires : goal.put_segmented-requires
put_segmented-requires c = record {
  body_len_bound = c.requires.body_len_bound;
  body_in_bounds = omega (
    arith,
    size-many (length c.args.body.now) c.if-n-le16344.false,
    c.requires.body_in_bounds,
  );
}

pub returns-then-n-le16344 : goal.returns-then-n-le16344
returns-then-n-le16344 c =
    c.put_bytes.ensures
    ∙ data-one c.args.body.now c.args.out.now c.args.at c.args.offset c.if-n-le4.false
    c.if-n-le16344.true

pub returns-else-n-le16344 : goal.returns-else-n-le16344
returns-else-n-le16344 c =
    c.put_segmented.ensures
    ∙ data-many c.args.body.now c.args.out.now c.args.at c.args.offset c.if-n-le16344.false
