-- The hash: one turn of its loop, that names which are the same have the same hash, and that it fits in 32 bits.
use Prim.Native.Nat.{ℕ, ◌+◌, ◌*◌, ◌%◌, ◌<◌, ◌≤◌}
use native.Mathlib.Numerals.{add-one}
use native.Mathlib.Omega.{arith}
use mathlib.Core.Path.{◌≡◌, ap}
use mathlib.Core.List.{List, [], ◌∷◌}
use lib.ListN.{length, get_or, drop, drop_of_length-le}
use lib.Seq.{drop-cons}
use Rattle.names.specs.Upper_case.{upper, uppers}
use Rattle.names.specs.Comparison.{compare}
use Rattle.names.specs.Hashing.{mixed, mixed_all, hash_of}
use Rattle.names.proofs.LawsOrder.{same-uppers}
use Rattle.std.specs.declared.cmp.Ordering.TheVariants.{Equal}

pub mixed-turn : (cs : List ℕ) (h i : ℕ) → i < length cs
    → mixed_all h (uppers (drop i cs)) ≡ mixed_all (mixed h (upper (get_or cs i 0))) (uppers (drop (i + 1) cs))
unfolding mixed_all uppers
mixed-turn cs h i lt = rw (add-one, drop-cons cs i 0 lt)

pub mixed-ended : (cs : List ℕ) (h i : ℕ) → length cs ≤ i → mixed_all h (uppers (drop i cs)) ≡ h
unfolding mixed_all uppers
mixed-ended cs h i le = rw (drop_of_length-le cs le)

pub same-hash : (xs ys : List ℕ) → compare xs ys ≡ Equal → hash_of xs ≡ hash_of ys
unfolding hash_of
same-hash xs ys s = ap (mixed_all 0) (same-uppers xs ys s)

-- "wrapping at 32 bits"
mixed-fits : (h : ℕ) (cs : List ℕ) → h < 4294967296 → mixed_all h cs < 4294967296
unfolding mixed_all mixed
mixed-fits h [] p = p
mixed-fits h (c ∷ cs) p = mixed-fits ((37 * h + c) % 4294967296) cs (omega arith)

pub hash-fits : (x : List ℕ) → hash_of x < 4294967296
unfolding hash_of
hash-fits x = mixed-fits 0 (uppers x) (omega arith)

-- what the loop of `hash` needs
pub ruleset turns = (mixed-turn, mixed-ended)
