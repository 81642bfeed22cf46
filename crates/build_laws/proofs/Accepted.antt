-- The check accepts a built hive, with one bin, the keys and values of its forest, and the bytes of its cells.
use Prim.Native.Nat.{ℕ, ◌+◌, ◌-◌, ◌/◌, ◌≤◌}
use native.Mathlib.Omega.{arith}
use mathlib.Core.Path.{◌≡◌, refl, sym, ap, ap₂, ◌∙◌, subst}
use mathlib.Core.Bool.{true, false}
use mathlib.Core.List.Memᴰ
use mathlib.Core.List.{List, [], ◌∷◌}
use lib.ListN.{length}
use Rattle.fields.specs.declared.Offset.{Offset}
use Rattle.base.specs.Block.{bins_limit}
use Rattle.cells.specs.declared.Tally.{Tally}
use Rattle.cells.specs.Tiled.{BinsTile}
use Rattle.names.specs.Hashing.{hash_of}
use Rattle.records.specs.Keys.{security_of}
use Rattle.records.specs.Listed.{keys_in, nil, cons}
use Rattle.security.specs.declared.Item.{Item as Security}
use Rattle.security.specs.Items.{item_of}
use Rattle.security.specs.Stands.{ItemStands, closes, SecurityStands}
use Rattle.tree.specs.declared.Hive.{Hive}
use Rattle.tree.specs.declared.Report.{Report}
use Rattle.tree.specs.Tree.{levels, values_in, report_of, check_answer}
use Rattle.tree.specs.WellFormed.{TreeStands, CleanAndWellFormed}
use Rattle.tree.proofs.Exactly.{accepted-as, accepted-exactly}
use Rattle.forest.specs.Forest.{Forest, none, more, count_of, key_count, value_count}
use Rattle.forest.specs.Allowed.{OneRoot}
use Rattle.layout.specs.Layout.{item_at, used_of, bins_for, bins_of, built_hive}
use Rattle.layout.proofs.Sizes.{cell_room, item-length, bins-whole}
use Rattle.layout.proofs.Base.{built-hive, built-clean, built-bins, built-inside, built-data}
use Rattle.layout.proofs.Built.{item-placed, placed-room, bins-tile}
use Rattle.layout.proofs.Surveys.{tally_of, built-survey}
use Rattle.build_laws.specs.Written.{children_at}
use Rattle.build_laws.proofs.Items.{item-signed}
use Rattle.build_laws.proofs.Held.{item_in_lem}
use Rattle.build_laws.proofs.Placed.{placed-holds}
use Rattle.build_laws.specs.Laid.{Laid}
use Rattle.build_laws.proofs.Exports.{item-fits, built-laid}
use Rattle.build_laws.proofs.Stands.{built_as, trees-stand}
use Rattle.build_laws.proofs.Counts.{Counts, root-counted, all_named}
use Rattle.std.specs.Prelude.{Ok, Result}
use Rattle.fields.specs.declared.Flaw.{Flaw}

-- one key alone
root_stands : {d : List ℕ} {S n : ℕ} (f : Forest) {parent : ℕ} → count_of f ≡ 1 → Laid d S n f 32 parent → TreeStands d built_as n (record { 0 = 32 })
unfolding count_of children_at
root_stands none e l = absurd (omega arith)
root_stands (more s x vs b r) e l =
    trees-stand l (omega arith) (record { at = record { 0 = 32 }; hashed = true; hinted = false; beside = hash_of x }) (Memᴰ.head refl)

-- what a hive is in its bins data, with its minor version and its root
record Formed (d : List ℕ) (hive : Hive) : Type 0 where
  tiled : BinsTile d 0
  tree : TreeStands d hive levels hive.root
  security : SecurityStands d hive.root (keys_in d levels hive.root)

moved : {d e : List ℕ} {a b : Hive} → d ≡ e → a ≡ b → Formed e b → Formed d a
moved {e = e} {a = a} p q w = subst (λ (x : List ℕ). Formed x a) (sym p) (subst (λ (y : Hive). Formed e y) (sym q) w)

same-tally : {a b : Tally} → ◌≡◌ {A = Result Tally Flaw} (Ok a) (Ok b) → a ≡ b
same-tally e = cc

-- the report on a built hive, with so many keys and values
abbrev counting : Forest → ℕ → ℕ → ℕ → Report
counting f n k v =
    record {
      bins = 1;
      keys = k;
      values = v;
      used = used_of f n - 32;
      free = bins_for f n - used_of f n;
    }

abbrev pub report_for : Forest → ℕ → Report
report_for f n =
    record {
      bins = 1;
      keys = key_count f;
      values = value_count f;
      used = used_of f n - 32;
      free = bins_for f n - used_of f n;
    }

module _ (f : Forest) (sd : List ℕ) (root : OneRoot f) (fits : bins_for f (length sd) ≤ bins_limit) where
  abbrev d : List ℕ
  d = bins_of f sd

  abbrev S : Offset
  S = record { 0 = item_at f }

  tree : TreeStands d built_as levels (record { 0 = 32 })
  tree = root_stands f root.single (built-laid f sd root fits)

  counted : Counts d (item_at f) (key_count f) (value_count f) (keys_in d levels (record { 0 = 32 }))
  counted = root-counted d f root.single (built-laid f sd root fits)

  -- ---- the security item

  item : item_of d S ≡ record { forward = S; backward = S; count = key_count f; size = length sd }
  item =
      let w = bins-whole f (length sd) in
      let c = cell_room (20 + length sd) in
      item_in_lem d f sd (placed-holds (item-placed f sd fits)) (item-fits f sd root fits) (omega arith)

  module _ (ks : List Offset) (counts : Counts d (item_at f) (key_count f) (value_count f) ks) where
    item-stands : ItemStands d ks S
    item-stands =
        let p = item-placed f sd fits in
        let h = placed-holds p in
        let r = placed-room p in
        let l = item-length f sd in
        let z = ap (λ (i : Security). i.size) item in
        record {
          item = record { in_use = p.used; sk = rw h.1 (item-signed f sd h.0); fields_fit = omega arith };
          room = omega arith;
          count = ap (λ (i : Security). i.count) item ∙ sym (all_named d S ks counts.secured ∙ counts.many);
        }

    secured : security_of d (record { 0 = 32 }) ≡ S → SecurityStands d (record { 0 = 32 }) ks
    secured e =
        record {
          items = S ∷ [];
          others = [];
          begins = ap (λ (o : Offset). o ∷ []) (sym e);
          once = cons (λ i. Memᴰ.not-nil i) nil;
          each = λ o i. subst (λ (p : Offset). ItemStands d ks p) (sym (Memᴰ.eq_of_singleton i)) item-stands;
          ring =
              closes
              (record {
                forward = ap (λ (i : Security). i.forward) item ∙ sym e;
                backward = ap (λ (o : Offset). (item_of d o).backward) e ∙ ap (λ (i : Security). i.backward) item;
              });
          all = λ k i. Memᴰ.head (counts.secured k i);
        }

  root-secured : security_of d (record { 0 = 32 }) ≡ S
  unfolding keys_in
  root-secured = counted.secured (record { 0 = 32 }) (Memᴰ.head refl)

  -- ---- the whole

  formed : CleanAndWellFormed (built_hive f sd)
  formed =
      let e = built-inside f sd fits in
      let all =
      moved (built-data f sd fits) (built-hive f sd)
      (record { tiled = bins-tile f sd fits; tree = tree; security = secured (keys_in d levels (record { 0 = 32 })) counted root-secured }) in
      record {
        is-clean = built-clean f sd fits;
        inside = omega arith;
        formed = record { tiled = all.tiled; tree = all.tree; security = all.security };
      }

  report-is : report_of (built_hive f sd) (tally_of f (length sd)) ≡ report_for f (length sd)
  report-is =
      ap₂
      (λ (e : List ℕ) (hive : Hive).
      counting f (length sd) (length (keys_in e levels hive.root)) (values_in e (keys_in e levels hive.root)))
      (built-data f sd fits) (built-hive f sd)
      ∙ ap₂ (counting f (length sd)) counted.many counted.holding

  -- the theorem
  pub built-accepted : (m : List ℕ) → bins_for f (length sd) / 64 ≤ length m → check_answer (built_hive f sd) m ≡ Ok (report_for f (length sd))
  built-accepted m room =
      let x = (accepted-exactly (built_hive f sd) m (rw (built-bins f sd fits) room)).1 formed in
      let a = accepted-as (built_hive f sd) m x.1 in
      let t : a.tally ≡ tally_of f (length sd) = same-tally (sym a.surveys ∙ built-survey f sd m fits room) in
      x.1 ∙ ap (λ (r : Report). Ok r) (a.report ∙ ap (report_of (built_hive f sd)) t ∙ report-is)
