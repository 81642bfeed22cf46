-- What the examination of the security items asks, of a hive whose tree was walked.
use Rattle.std.proofs.Common.{◌≡◌, ℕ, List, arith}
use Rattle.fields.specs.declared.Offset.{Offset}
use Rattle.base.specs.Block.{sector, root_of, bins_data}
use Rattle.security_check.specs.Terms.{Asked}
use Rattle.tree.specs.declared.Arrival.TheVariants.{Start}
use Rattle.tree.specs.Tree.{levels, hive_of, root_child}
use Rattle.tree.specs.Terms.{KeysChecked}
use Rattle.tree.proofs.Accepted.{root_stands}
use Rattle.tree.proofs.Counted.{few-keys}
use Rattle.tree.proofs.Legible.{legible}
use Rattle.tree.proofs.Roots.{bins-small}

module _ (h m : List ℕ) {bins : List ℕ} {root : Offset} (b : bins ≡ bins_data h) (o : root ≡ root_of (sector h)) where
  pub asked : (keys : ℕ) → KeysChecked h m keys → Asked bins m root keys
  asked keys w =
      let d = bins_data h in
      let r = w.ready in
      let s = root_stands d m (hive_of h) r.tiles r.mapped w.clear in
      let few = few-keys d (hive_of h) r.tiles levels s in
      let small = bins-small h m r in
      let n = w.counted in
      rw (b, o) (record {
        legible = legible d m (hive_of h) r.tiles r.mapped levels (root_child (hive_of h)) Start w.clear;
        room = w.room;
        complete = w.complete;
        total = n;
        few = omega arith;
      })
