use Prim.Native.Nat.{ℕ, ◌+◌, ◌≤◌}
use native.Mathlib.Omega.{arith}
use mathlib.Core.Path.{◌≡◌, sym, ap, ◌∙◌}
use mathlib.Core.List.{List}
use lib.ListN.{length}
use Rattle.sectors.specs.Sector.{sector_at, stored, page_place}
use Rattle.sectors.proofs.Stored.{sector-length, stored-length}
use Rattle.log_versions.specs.declared.Version.{Version}
use Rattle.log_versions.specs.Terms.{rest}
use Rattle.new_log.specs.Terms.{put_each}
use Rattle.new_log.proofs.Put.{each_all, each_on}
use Rattle.new_log.proofs.put_all.Goals as goal

pub loop-c-preserved : goal.loop-c-preserved
loop-c-preserved c =
    let k = c in
    let s = k in
    let l = s.args.log.now in
    let v = k.loop-c.c in
    let some = c.loop-c-test.true in
    let stands = k.loop-c.invariant.2 in
    let room : page_place v.page + 512 ≤ length k.loop-c.hive = omega (arith, k.loop-c.invariant.0, stands.below some, s.requires.log_in_bounds) in
    let put : c.store.new.hive ≡ stored k.loop-c.hive (page_place v.page) (sector_at l v.place) =
    c.store.ensures
    ∙ ap (λ (n : ℕ). stored k.loop-c.hive n (sector_at l v.place)) c.page_place.ensures in (
      ap length put
          ∙ stored-length k.loop-c.hive (page_place v.page) (sector_at l v.place) (sector-length l v.place (stands.fits some)) room
          ∙ k.loop-c.invariant.0,
      ap (put_each l (rest l c.next-c.result)) put ∙ sym (each_on l v c.next-c.result c.next-c.ensures k.loop-c.hive) ∙ k.loop-c.invariant.1,
      c.next-c.ensures.stands,
    )

pub returns : goal.returns
unfolding put_each
returns c =
    let k = c in
    let s = k in
    let l = s.args.log.now in
    sym (ap (λ (vs : List Version). put_each l vs k.loop-c.hive) (k.loop-c.invariant.2.over (omega (arith, c.loop-c-test.false))))
    ∙ k.loop-c.invariant.1 ∙ each_all l s.args.hive.now s.requires.log_in_bounds
