-- What a legible tree lets a pass read.
use Rattle.std.proofs.Common.{◌≡◌, ℕ, ◌+◌, ◌-◌, ◌<◌, ◌≤◌, List, [], ◌∷◌, length, get_or, sym, refl, ap, ◌∙◌, subst, ⊎_elim, arith}
use mathlib.Core.List.Memᴰ
use mathlib.Core.List.{Memᴰ}
use Rattle.fields.specs.declared.Offset.{Offset}
use Rattle.cells.specs.Rule.{Map}
use Rattle.cells.specs.Named.{data_at}
use Rattle.records.specs.declared.Child.{Child}
use Rattle.records.specs.declared.Key.{Key}
use Rattle.records.specs.declared.Leaf.{Leaf}
use Rattle.records.specs.declared.Leaves.{Leaves}
use Rattle.records.specs.Keys.{key_of}
use Rattle.records.specs.Lists.{leaf_children, children_in, children, lists_fault}
use Rattle.records.specs.Terms.{leaves_at, leaves_named, LeavesLie, leaf_of, child_named, elements_of, ElementsLie, no_child}
use Rattle.records.proofs.LawsPlaces.{leaf-tested, elements_lie, leaves-lie}
use Rattle.records.proofs.LawsElements.{elements-length, element-at, elements-are}
use Rattle.records.proofs.Elements.{at_in, no-children, head-sound, head-room, as-list, each-sound}
use Rattle.security_pass.specs.Counting.{Legible, key, LegibleLeaf}
use Rattle.std.specs.Prelude.{Ok}

-- a key of such a tree, with so many levels below it
pub record Opened (d : List ℕ) (n : ℕ) (at : Offset) : Type 0 where
  pub map : List ℕ
  pub room : 76 ≤ length (data_at d at)
  pub sound : lists_fault Map d map (key_of d at) ≡ Ok tt
  pub below : (c : Child) → Memᴰ c (children d at) → Legible d n c.at

pub opened : {d : List ℕ} {levels : ℕ} {at : Offset} (k : ℕ) → levels ≡ k + 1 → Legible d levels at → Opened d k at
opened {d} k e (key {n} m room lists below) =
    record { map = m; room = room; sound = lists; below = λ c i. subst (λ (l : ℕ). Legible d l c.at) (let z : n ≡ k = omega arith in z) (below c i) }

pub some_level : {d : List ℕ} {levels : ℕ} {at : Offset} → Legible d levels at → levels ≡ 0 → ⊥
some_level (key m room lists below) e = omega arith

pub key-room : {d : List ℕ} {levels : ℕ} {at : Offset} → Legible d levels at → 76 ≤ length (data_at d at)
key-room (key m room lists below) = room

pub level-again : {d : List ℕ} {levels : ℕ} {at : Offset} → Legible d levels at → Legible d (levels - 1 + 1) at
level-again {d} {levels} {at} s = subst (λ (k : ℕ). Legible d k at) (let f = some_level s in let z : levels ≡ levels - 1 + 1 = omega arith in z) s

-- a child of a leaf is one of the leaves' children
in-children : (d : List ℕ) (os : List Offset) {o : Offset} {c : Child} → Memᴰ o os → Memᴰ c (leaf_children (data_at d o)) → Memᴰ c (children_in d os)
unfolding children_in
in-children d [] i j = absurd (Memᴰ.not-nil i)
in-children d (p ∷ os) {o} {c} i j =
    ⊎_elim
    (λ (e : o ≡ p). Memᴰ.append_left (children_in d os) (subst (λ (x : Offset). Memᴰ c (leaf_children (data_at d x))) e j))
    (λ k. Memᴰ.append_right (leaf_children (data_at d p)) (in-children d os k j))
    (Memᴰ.cases_cons i)

-- the list of a key
module _ {d : List ℕ} (n : ℕ) {at : Offset} (g : Legible d (n + 1) at) {k : Key} (q : k ≡ key_of d at) where
  list-sound : lists_fault Map d (opened n refl g).map k ≡ Ok tt
  list-sound = rw q (opened n refl g).sound

  pub list-none : k.subkeys ≡ 0 → children d at ≡ []
  list-none e = rw (← q) (no-children d k e)

  module _ (ne : k.subkeys ≡ 0 → ⊥) where
    pub list-room : 4 ≤ length (data_at d k.list)
    list-room = head-room d (opened n refl g).map k list-sound ne

    module _ {ls : Leaves} (r : ls ≡ leaves_at d k.list) where
      pub list-lies : LeavesLie d ls
      list-lies = rw r (leaves-lie Map d (opened n refl g).map k.list (head-sound d (opened n refl g).map k list-sound ne))

      pub list-is : children d at ≡ children_in d (leaves_named d ls)
      list-is = rw (← q) (as-list d (opened n refl g).map k list-sound ne r)

      pub list-leaf : (o : Offset) → Memᴰ o (leaves_named d ls) → LegibleLeaf d n o
      list-leaf o i =
          record {
            map = (opened n refl g).map;
            sound = each-sound d (opened n refl g).map k list-sound ne r o i;
            below = λ c j. (opened n refl g).below c (subst (λ (cs : List Child). Memᴰ c cs) (sym list-is) (in-children d (leaves_named d ls) i j));
          }

-- a leaf
module _ {d : List ℕ} {n : ℕ} {o : Offset} (g : LegibleLeaf d n o) where
  pub leaf_room : 4 ≤ length (data_at d o)
  leaf_room = let t = leaf-tested Map d g.map o g.sound in omega (arith, t.holds.room)

  module _ {l : Leaf} (q : l ≡ leaf_of d o) where
    pub leaf-lies : ElementsLie d l
    leaf-lies = rw q (elements_lie Map d g.map o g.sound)

    pub leaf-child : (c : Child) → Memᴰ c (elements_of d l) → Legible d n c.at
    leaf-child c i = g.below c (subst (λ (cs : List Child). Memᴰ c cs) (sym (elements-are d o q)) i)

-- an element of a leaf, by the offset that it holds
module _ (d : List ℕ) (l : Leaf) (i : ℕ) (p : i < l.count) where
  pub offset_at : {o : Offset} → o ≡ (child_named d l i).at → o ≡ (get_or (elements_of d l) i no_child).at
  offset_at q = q ∙ ap (λ (c : Child). c.at) (element-at d l i p refl)

  pub offset-legible : {n : ℕ} → ((c : Child) → Memᴰ c (elements_of d l) → Legible d n c.at) → {o : Offset} → o ≡ (child_named d l i).at → Legible d n o
  offset-legible f q = rw (offset_at q) (f _ (at_in (elements_of d l) i no_child (omega (arith, elements-length d l))))

-- a key has room, and levels
pub ruleset level_ways = (some_level, key-room, level-again)

-- what a pass may read of a list
pub ruleset list_ways = (list-room, list-lies)
