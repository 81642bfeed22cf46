-- What a block keeps while it is gone through, frame by frame.
use Prim.Native.Nat.{ℕ, ◌+◌, ◌<◌, ◌≤◌}
use native.Mathlib.Omega.{arith}
use mathlib.Core.Path.{◌≡◌, refl, sym, ap, ◌∙◌}
use mathlib.Core.Bool.{Bool, false}
use mathlib.Core.List.{List}
use lib.ListN.{length}
use Rattle.names.specs.Comparison.{same_name}
use Rattle.names.specs.Hashing.{hash_of}
use Rattle.chains.specs.Chains.{Chained}
use Rattle.namesake_laws.specs.Repeats.{met_in, later}
use Rattle.namesake_laws.specs.Tables.{Empty, Taken}
use Rattle.namesake_laws.proofs.Searches.{met-same}
use Rattle.namesake_laws.proofs.Scans.{Kept, kept_on, Scanning, scan-start, scan-tells, scan-on}
use Rattle.build_frames.specs.declared.Text.{Text}
use Rattle.build_frames.specs.Terms.{name_in, TextLies}
use Rattle.build_namesakes.specs.Rows.{start_of, Row, name_at, called}
use Rattle.build_namesakes.specs.Terms.{starts_called, Ready}
use Rattle.build_namesakes.proofs.Rows.{start-here, row-held}

module _ (s : List ℕ) (at : ℕ) where
  -- at value j, whose frame starts at p, with k values in the table, which keeps where the frame of each starts
  pub record Going (keys₀ older₀ heads₀ starts₀ keys older heads starts : List ℕ) (p j k : ℕ) : Type 0 where
    pub here : p ≡ start_of s at j
    pub scan : Scanning (called s at) 0 keys₀ older₀ heads₀ keys older heads j k
    pub places : Kept (start_of s at) starts k
    pub starts-same : length starts ≡ length starts₀

  module _ (keys₀ older₀ heads₀ starts₀ : List ℕ) where
    pub go-start : Empty keys₀ older₀ heads₀ → Going keys₀ older₀ heads₀ starts₀ keys₀ older₀ heads₀ starts₀ at 0 0
    go-start e =
        record {
          here = start-here s at refl;
          scan = scan-start (called s at) 0 keys₀ older₀ heads₀ e;
          places = λ i l. absurd (let z = l in omega arith);
          starts-same = refl;
        }

    module _ (keys older heads starts : List ℕ) (p j k : ℕ) (t : Going keys₀ older₀ heads₀ starts₀ keys older heads starts p j k) where
      -- the names that the table stands for
      kept-called : (i : ℕ) → i < k → starts_called s starts i ≡ later (called s at) 0 i
      kept-called i l = let z : i ≡ 0 + i = omega arith in ap (name_at s) (t.places i l ∙ ap (start_of s at) z)

      -- the name that was read, and its hash
      pub go-ready : {n : ℕ} → Row s at n → length keys₀ ≤ length starts₀ → j < n → (x : Text) → TextLies s x → {g : ℕ} → g ≡ hash_of (name_in s x)
          → Ready s k x g keys older heads starts
      go-ready r room l x lies q =
          record {
            held = λ i u. row-held s at r (let z = t.scan.taken in omega arith) (t.places i u);
            room = let a = t.scan.table.linked.room in let b = t.scan.keys-same in let c = t.starts-same in omega arith;
            name = lies;
            table = t.scan.table;
            telling = λ i u f.
                ap (λ (y : List ℕ). same_name y (name_in s x)) (kept-called i u)
                ∙ scan-tells (called s at) 0 keys₀ older₀ heads₀ keys older heads j k t.scan (name_in s x) q i u f;
          }

      pub go-met : (x : Text) → name_in s x ≡ called s at j → {r : Bool} → r ≡ met_in (starts_called s starts) k (name_in s x)
          → met_in (later (called s at) 0) k (called s at j) ≡ r
      go-met x is e =
          sym (e ∙ met-same (starts_called s starts) (name_in s x) (later (called s at) 0) k kept-called ∙ ap (met_in (later (called s at) 0) k) is)

      -- the table takes one more, or is full
      pub go_on : met_in (later (called s at) 0) k (called s at j) ≡ false → length keys₀ ≤ length starts₀ → {g : ℕ} → g ≡ hash_of (called s at j)
          → (keys' older' heads' starts' : List ℕ) {r : ℕ} → Taken (length keys) keys k g keys' r → Taken (length keys) starts k p starts' r
          → Chained keys' older' heads' r → length keys' ≡ length keys → length older' ≡ length older → length heads' ≡ length heads
          → length starts' ≡ length starts → {p' : ℕ} → p' ≡ start_of s at (j + 1)
          → Going keys₀ older₀ heads₀ starts₀ keys' older' heads' starts' p' (j + 1) r
      go_on e room is keys' older' heads' starts' x y c a b d f h =
          let u = t.scan.keys-same in
          let v = t.starts-same in
          record {
            here = h;
            scan = scan-on (called s at) 0 keys₀ older₀ heads₀ keys older heads j k t.scan e is keys' older' heads' x c a b d;
            places = kept_on (start_of s at) (length keys) t.places (omega arith) (λ l. t.here ∙ ap (start_of s at) (same l)) y;
            starts-same = f ∙ v;
          }
        where
          same : k < length keys → j ≡ k
          same l = let u = t.scan.keys-same in let w = t.scan.all (omega arith) in omega arith
