-- The listing of a tree that stands gives every key that the tree holds, and the names along a key's way are its own: no other key has them, and the
-- key has no others.
use Prim.Native.Nat.{ℕ, zero, suc, ◌<◌, ◌≤◌}
use native.Mathlib.Omega.{arith}
use mathlib.Core.Path.{◌≡◌, refl, sym, ap, ap₂, ◌∙◌, subst}
use mathlib.Core.Logic.{◌↔◌, ⊎_elim}
use mathlib.Core.List.Memᴰ
use mathlib.Core.List.{List, [], ◌∷◌, ◌++◌, Memᴰ}
use lib.ListN.{length}
use Rattle.fields.specs.declared.Offset.{Offset}
use Rattle.base.specs.Block.{bins_data}
use Rattle.records.specs.declared.Child.{Child}
use Rattle.records.specs.Listed.{joined, keys_in, Once, nil, cons}
use Rattle.records.specs.Lists.{children}
use Rattle.records.proofs.Listed.{joined_in}
use Rattle.tree.specs.declared.Hive.{Hive}
use Rattle.tree.specs.Tree.{name_at, levels, hive_of, keys_of}
use Rattle.tree.specs.WellFormed.{CleanAndWellFormed, TreeStands, key}
use Rattle.tree.proofs.Once.{each-once}
use Rattle.paths.specs.Reach.{Holds, here, below, Named, itself, child}
use Rattle.paths.proofs.Held.{held-few}
use Rattle.paths.proofs.Listed.{listed-named, named-holds, named-found}
use Rattle.std.specs.Prelude.{Ok}

-- ---- every key

-- a tree of n levels holds nothing deeper
held-listed : (d : List ℕ) (hive : Hive) (n : ℕ) {o e : Offset} (xs : List (List ℕ)) → TreeStands d hive n o → Holds d o xs e → Memᴰ e (keys_in d n o)
unfolding keys_in
held-listed d hive zero {o = o} {e = e} xs t _ = elim t [ ]
held-listed d hive (suc n) [] t here = Memᴰ.head refl
held-listed d hive (suc n) {o} (x ∷ xs) (key s a ch tree) (below {c = c} i q r) =
    Memᴰ.tail (joined_in (keys_in d n) (children d o) i (held-listed d hive n xs (tree c i) r))

-- in any tree: a key with fewer names than there are levels is listed
named_in : (d : List ℕ) (n : ℕ) {o k : Offset} {xs : List (List ℕ)} → Named d o xs k → length xs < n → Memᴰ k (keys_in d n o)
unfolding keys_in
named_in d zero r p = absurd (omega arith)
named_in d (suc n) itself p = Memᴰ.head refl
named_in d (suc n) {o} (child {c = c} i r) p = Memᴰ.tail (joined_in (keys_in d n) (children d o) i (named_in d n r (omega arith)))

-- ---- no other names

once-parts : {k : Offset} {ks : List Offset} → Once (k ∷ ks) → (Memᴰ k ks → ⊥) × Once ks
once-parts (cons f o) = (f, o)

-- the parts of a list that holds no key twice
once-right : (xs ys : List Offset) → Once (xs ++ ys) → Once ys
once-right [] ys o = o
once-right (x ∷ xs) ys o = once-right xs ys (once-parts o).1

once-left : (xs ys : List Offset) → Once (xs ++ ys) → Once xs
once-left [] ys o = nil
once-left (x ∷ xs) ys o = let p = once-parts o in cons (λ i. p.0 (Memᴰ.append_left ys i)) (once-left xs ys p.1)

once-apart : (xs ys : List Offset) → Once (xs ++ ys) → (k : Offset) → Memᴰ k xs → Memᴰ k ys → ⊥
once-apart [] ys o k i j = Memᴰ.not-nil i
once-apart (x ∷ xs) ys o k i j =
    let p = once-parts o in
    ⊎_elim (λ (e : k ≡ x). p.0 (Memᴰ.append_right xs (subst (λ (y : Offset). Memᴰ y ys) e j))) (λ l. once-apart xs ys p.1 k l j)
    (Memᴰ.cases_cons i)

module _ (f : Offset → List Offset) where
  once-part : (cs : List Child) → Once (joined f cs) → (c : Child) → Memᴰ c cs → Once (f c.at)
  unfolding joined
  once-part [] o c i = absurd (Memᴰ.not-nil i)
  once-part (b ∷ cs) o c i =
      ⊎_elim (λ (e : c ≡ b). subst (λ (y : Child). Once (f y.at)) (sym e) (once-left (f b.at) (joined f cs) o))
      (λ j. once-part cs (once-right (f b.at) (joined f cs) o) c j)
      (Memᴰ.cases_cons i)

  -- a key of two of the parts is a key of one of them
  once-one : (cs : List Child) → Once (joined f cs) → (c e : Child) (k : Offset) → Memᴰ c cs → Memᴰ e cs → Memᴰ k (f c.at)
      → Memᴰ k (f e.at) → c ≡ e
  unfolding joined
  once-one [] o c e k i j p q = absurd (Memᴰ.not-nil i)
  once-one (b ∷ cs) o c e k i j p q =
      ⊎_elim
      (λ (u : c ≡ b). ⊎_elim (λ (v : e ≡ b). u ∙ sym v)
      (λ j'. absurd (once-apart (f b.at) (joined f cs) o k (subst (λ (y : Child). Memᴰ k (f y.at)) u p) (joined_in f cs j' q)))
      (Memᴰ.cases_cons j))
      (λ i'. ⊎_elim
      (λ (v : e ≡ b). absurd (once-apart (f b.at) (joined f cs) o k (subst (λ (y : Child). Memᴰ k (f y.at)) v q) (joined_in f cs i' p)))
      (λ j'. once-one cs (once-right (f b.at) (joined f cs) o) c e k i' j' p q)
      (Memᴰ.cases_cons j))
      (Memᴰ.cases_cons i)

module _ (d : List ℕ) (hive : Hive) where
  named-listed : (n : ℕ) {o k : Offset} {xs : List (List ℕ)} → TreeStands d hive n o → Named d o xs k → Memᴰ k (keys_in d n o)
  named-listed n {xs = xs} t r = held-listed d hive n xs t (named-holds r)

  -- the names of a key are told by the key
  one-names : (n : ℕ) {o k k' : Offset} {xs ys : List (List ℕ)} → TreeStands d hive n o → Once (keys_in d n o) → Named d o xs k → Named d o ys k' → k ≡ k'
      → xs ≡ ys
  unfolding keys_in
  one-names zero {o = o} {k = k} {k' = k'} {xs = xs} {ys = ys} t u _ _ e = elim t [ ]
  one-names (suc n) t u itself itself e = refl
  one-names (suc n) {o} {k} {k'} (key s a ch tree) u itself (child {c = c} i r) e =
      absurd ((once-parts u).0
      (joined_in (keys_in d n) (children d o) i (subst (λ (x : Offset). Memᴰ x (keys_in d n c.at)) (sym e) (named-listed n (tree c i) r))))
  one-names (suc n) {o} {k} {k'} (key s a ch tree) u (child {c = c} i r) itself e =
      absurd ((once-parts u).0
      (joined_in (keys_in d n) (children d o) i (subst (λ (x : Offset). Memᴰ x (keys_in d n c.at)) e (named-listed n (tree c i) r))))
  one-names (suc n) {o} {k} {k'} (key s a ch tree) u (child {c = c} {xs = xs} i r) (child {c = b} {xs = ys} j r') e =
      let on = (once-parts u).1 in
      let at-k = subst (λ (x : Offset). Memᴰ x (keys_in d n b.at)) (sym e) (named-listed n (tree b j) r') in
      let same = once-one (keys_in d n) (children d o) on c b k i j (named-listed n (tree c i) r) at-k in
      let r'' = subst (λ (x : Child). Named d x.at ys k') (sym same) r' in
      ap₂ (λ (z : List ℕ) (zs : List (List ℕ)). z ∷ zs) (ap (λ (x : Child). name_at d x.at) same)
      (one-names n (tree c i) (once-part (keys_in d n) (children d o) on c i) r r'' e)

-- ---- in an accepted hive

module _ (h : List ℕ) (w : CleanAndWellFormed h) where
  -- the listing gives exactly what the tree holds
  pub every-key : (k : Offset) → Memᴰ k (keys_of h) ↔ ((xs : List (List ℕ)) × Holds (bins_data h) (hive_of h).root xs k)
  every-key k = (
    λ i. let r = listed-named (bins_data h) levels (hive_of h).root k i in (r.0, named-holds r.1),
    λ x. held-listed (bins_data h) (hive_of h) levels x.0 w.formed.tree x.1,
  )

  -- the same names, as stored, are one key's
  pub same_names : (xs : List (List ℕ)) (k k' : Offset) → Named (bins_data h) (hive_of h).root xs k → Named (bins_data h) (hive_of h).root xs k' → k ≡ k'
  same_names xs k k' p q =
      let a = named-found h w k xs p in
      let b = named-found h w k' xs q in
      let e : Ok k ≡ Ok k' = sym a ∙ b in
      cc

  -- and a key's names are one list
  pub same_key : (k : Offset) (xs ys : List (List ℕ)) → Named (bins_data h) (hive_of h).root xs k → Named (bins_data h) (hive_of h).root ys k → xs ≡ ys
  same_key k xs ys p q =
      one-names (bins_data h) (hive_of h) levels w.formed.tree (each-once (bins_data h) (hive_of h) levels w.formed.tree) p q refl

  -- they are its level: the first n levels have the key exactly where its names are fewer
  pub at_level : (k : Offset) (xs : List (List ℕ)) → Named (bins_data h) (hive_of h).root xs k → (n : ℕ)
      → Memᴰ k (keys_in (bins_data h) n (hive_of h).root) ↔ (length xs < n)
  at_level k xs p n = (
    λ i.
        let r = listed-named (bins_data h) n (hive_of h).root k i in
        let e = ap length (same_key k xs r.0 p r.1) in
        let q = r.2 in
        omega arith,
    λ q. named_in (bins_data h) n p q,
  )

  -- and there are at most 512, "The root is level 0"
  pub few-names : (k : Offset) (xs : List (List ℕ)) → Named (bins_data h) (hive_of h).root xs k → length xs ≤ 512
  few-names k xs p = let f = held-few (bins_data h) (hive_of h) w.formed.tiled levels xs w.formed.tree (named-holds p) in omega arith
