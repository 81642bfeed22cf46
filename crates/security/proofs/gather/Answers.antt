use borrow.Author.Rules.{rules}
use Prim.Native.Nat.{◌<◌, ◌≤◌}
use native.Mathlib.Omega.{arith}
use mathlib.Core.Path.{◌≡◌, sym, ◌∙◌}
use mathlib.Core.Bool.{true}
use lib.ListN.{length}
use Rattle.security.specs.Items.{is_joined}
use Rattle.security.proofs.Items.{item-facts}
use Rattle.security.proofs.Gathers.{closes_by, goes_by, going_start, going-full, going-broken, going-closed, going-holds, going_on}
use Rattle.security.proofs.gather.Goals as goal

pub loop-n-init : goal.loop-n-init
loop-n-init c = let p = c.requires in going_start _ _ _ _ _ _ _ p.from_value p.empty

pub item_at-item-requires : goal.item_at-item-requires
item_at-item-requires c =
    (item-facts _ _ _ c.loop-n.invariant.item).fits

pub is_joined-requires : goal.is_joined-requires
is_joined-requires c =
    record { o_value = c.loop-n.invariant.item; item_value = c.item_at-item.ensures }

pub shape_of-keys-then-not-is_joined : goal.shape_of-keys-then-not-is_joined
shape_of-keys-then-not-is_joined c =
    c.loop-n.invariant.keys-same

pub shape_of-older-then-not-is_joined : goal.shape_of-older-then-not-is_joined
shape_of-older-then-not-is_joined c =
    c.loop-n.invariant.older-same

pub shape_of-heads-then-not-is_joined : goal.shape_of-heads-then-not-is_joined
shape_of-heads-then-not-is_joined c =
    c.loop-n.invariant.heads-same

pub insert-requires : goal.insert-requires
insert-requires c =
    let o = c.loop-n in
    let g = o.invariant in
    let p = c.requires.empty in
    let l = c.loop-n-test.true in
    record {
      chained = g.table;
      n_in_bounds = (omega (arith, l, g.keys-same), omega (arith, l, g.keys-same, g.older-same, p.links), omega (arith, l, g.keys-same, p.few));
    }

pub shape_of-keys : goal.shape_of-keys
shape_of-keys c =
    c.loop-n.invariant.keys-same

pub shape_of-older : goal.shape_of-older
shape_of-older c =
    c.loop-n.invariant.older-same

pub shape_of-heads : goal.shape_of-heads
shape_of-heads c =
    c.loop-n.invariant.heads-same

pub returns-then-not-is_joined : goal.returns-then-not-is_joined
returns-then-not-is_joined c =
    let o = c.loop-n in
    let g = o.invariant in
    let l : o.n < length c.args.keys.now = omega (arith, c.loop-n-test.true, g.keys-same) in
    record {
      value = going-broken _ _ _ _ _ _ _ _ _ _ _ _ g l (sym c.is_joined.ensures ∙ c.if-not-is_joined.true);
      holds_from = g.holds;
      chained = g.table;
    }

pub returns-then-item-first : goal.returns-then-item-first
returns-then-item-first c =
    let o = c.loop-n in
    let g = o.invariant in
    let below : o.n < length c.args.keys.now = omega (arith, c.loop-n-test.true, g.keys-same) in
    let joined : is_joined c.args.bins.now c.args.map.now o.at ≡ true = sym c.is_joined.ensures ∙ c.if-not-is_joined.false in
    let i = c.insert.ensures in
    let e = closes_by _ _ _ c.item_at-item.ensures c.if-item-first.true in
    record {
      value = going-closed _ _ _ _ _ _ _ _ _ _ _ _ g below joined e;
      holds_from = rw i.keys_after (going-holds _ _ _ _ _ _ _ _ _ _ _ _ g below joined);
      chained = i.chained_2;
    }

pub loop-n-preserved : goal.loop-n-preserved
loop-n-preserved c =
    let o = c.loop-n in
    let g = o.invariant in
    let below : o.n < length c.args.keys.now = omega (arith, c.loop-n-test.true, g.keys-same) in
    let joined : is_joined c.args.bins.now c.args.map.now o.at ≡ true = sym c.is_joined.ensures ∙ c.if-not-is_joined.false in
    let i = c.insert.ensures in
    let r = c.item_at-item.ensures in
    rw r
    (going_on _ _ _ _ _ _ _ _ _ _ _ _ g below joined _ _ _ i.keys_after i.chained_2 (search rules) (search rules) (search rules)
    (goes_by _ _ _ r c.if-item-first.false))

pub returns : goal.returns
returns c =
    let o = c.loop-n in
    let g = o.invariant in
    let l : length c.args.keys.now ≤ o.n = omega (arith, c.loop-n-test.false) in
    let z : length o.keys ≡ o.n = omega (arith, g.keys-same, g.inside) in
    record { value = rw z (going-full _ _ _ _ _ _ _ _ _ _ _ _ g l); holds_from = rw z g.holds; chained = rw z g.table }
