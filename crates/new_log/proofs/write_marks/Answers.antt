use Rattle.bitmap.specs.Bits.{is_marked, zeros, map_of}
use Rattle.log_entries.specs.declared.Chain.{Chain}
use Rattle.log_versions.specs.Versions.{is_logged}
use Rattle.new_log.specs.Layout.{page_count}
use Rattle.new_log.proofs.Counts.{no_bits, bits-only, front_bytes, zeros-length}
use lib.ListN.{length, take, drop, replicate, length-replicate}
use lib.Seq.{take_at, drop_at}
use native.Mathlib.Omega.{arith}
use Prim.Native.Nat.{ℕ, ◌-◌, ◌/◌, ◌≤◌}
use mathlib.Core.List.{List, ◌++◌}
use mathlib.Core.Path.{◌≡◌, refl, ap, ap₂, ◌∙◌}
use Rattle.new_log.proofs.write_marks.Goals as goal

pub clear-requires : goal.clear-requires
clear-requires c = let s = c in omega (arith, s.requires.log_in_bounds, ap (λ (k : Chain). k.largest / 512 / 8) s.requires.chain_value)

pub slice_bounds-mark_window-end : goal.slice_bounds-mark_window-end
slice_bounds-mark_window-end c =
    let s = c in
    let n = s.args.chain.largest / 512 / 8 in
    let fits : n ≤ length s.args.map.now = omega (arith, s.requires.log_in_bounds, ap (λ (k : Chain). k.largest / 512 / 8) s.requires.chain_value) in
    omega (arith, fits, ap length c.clear.ensures, zeros-length n s.args.map.now fits)

pub mark_window-requires : goal.mark_window-requires
mark_window-requires c =
    let earlier = c in
    earlier.requires.chain_value

pub returns : goal.returns
unfolding zeros
returns c =
    let s = c in
    let l = s.args.log.now in
    let m = s.args.map.now in
    let n = s.args.chain.largest / 512 / 8 in
    let e : n ≡ page_count l / 8 = ap (λ (k : Chain). k.largest / 512 / 8) s.requires.chain_value in
    let cleared = c.clear.ensures in
    let z : n - 0 ≡ n = omega arith in
    let cut : take (n - 0) c.clear.new.map ≡ replicate n 0 =
    ap (λ (k : ℕ). take k c.clear.new.map) z
    ∙ ap (take n) cleared
    ∙ take_at (replicate n 0) (drop n m) n (length-replicate {A = ℕ} n 0) in
    let rest : drop (n - 0) c.clear.new.map ≡ drop n m =
    ap (λ (k : ℕ). drop k c.clear.new.map) z
    ∙ ap (drop n) cleared
    ∙ drop_at (replicate n 0) (drop n m) n (length-replicate {A = ℕ} n 0) in
    let made =
    bits-only l 0 n c.mark_window.ensures (ap length cut ∙ length-replicate {A = ℕ} n 0)
    (λ k. ap (λ (x : List ℕ). is_marked x k) cut ∙ no_bits n k) refl
    (front_bytes c.mark_window.new.map (drop (n - 0) c.clear.new.map)
    (λ i. (c.type_inv.map i).fits)) in
    ap₂ ◌++◌ (made ∙ ap (map_of (is_logged l)) e) (rest ∙ ap (λ (k : ℕ). drop k m) e)
