-- Records in their cells: what the definitions over the bins data, d, read of them.
use Prim.Native.Nat.{ℕ, ◌*◌, ◌<◌}
use mathlib.Core.Path.{◌≡◌, ap, ap₂, ◌∙◌}
use mathlib.Core.List.{List, ◌++◌, append_assoc}
use lib.ListN.{length, take, drop}
use Rattle.fields.specs.Number.{u16_at, le32, le64}
use Rattle.cells.specs.Named.{data_at, part_in}
use Rattle.names.specs.Codes.{codes}
use Rattle.records.specs.Offsets.{offset_at}
use Rattle.records.specs.Facts.{KeyRecord}
use Rattle.records.specs.Keys.{key_narrow, key_name, key_in, key_of, security_of, codes_of}
use Rattle.records.proofs.LawsKey.{name-codes}
use Rattle.values.specs.declared.Value.{Value}
use Rattle.values.specs.Records.{value_narrow, fields_of, value_of}
use Rattle.values.specs.Segments.{bytes_of}
use Rattle.namesakes.specs.Namesakes.{called_at}
use Rattle.security.specs.Items.{item_in, item_of}
use Rattle.tree.specs.Facts.{ValueRecord}
use Rattle.tree.specs.Tree.{name_at}
use Rattle.stream.specs.Stream.{frame, wide, open_frame, framed_value, value_frame}
use Rattle.forest.specs.Forest.{Item, Forest, key_count, key_frame, item_frame}
use Rattle.forest.specs.Allowed.{KeyName, ItemAllowed}
use Rattle.layout.specs.Layout.{zeros, leaf_at, key_record, value_record, item_at, item_record}
use Rattle.build_laws.specs.Written.{next_at, content_at}
use Rattle.build_laws.proofs.Keys.{key_at, key-stamp, key-item, key-codes, key-record, key-read}
use Rattle.build_laws.proofs.Values.{value_at, value-codes, value-record, value_read}
use Rattle.build_laws.proofs.Items.{item-read}

-- the cell at an offset holds these data, and zeros behind them
abbrev pub Holds : List ℕ → ℕ → List ℕ → Type 0
Holds d o x = (k : ℕ) × (data_at d (record { 0 = o }) ≡ x ++ zeros k)

-- ---- a key

module _ (d : List ℕ) (s : ℕ) (x : List ℕ) (vs : List Item) (b : Forest) (at parent S : ℕ) (h : Holds d at (key_record s x vs b at parent S)) where
  pub stamp-in : part_in d (record { 0 = at }) 4 8 ≡ le64 s
  stamp-in = ap (λ (r : List ℕ). take 8 (drop 4 r)) h.1 ∙ key-stamp s x vs b at parent S h.0

  pub security-in : S < 4294967296 → security_of d (record { 0 = at }) ≡ record { 0 = S }
  unfolding security_of
  security-in p = ap (λ (r : List ℕ). offset_at r 44) h.1 ∙ key-item s x vs b at parent S h.0 p

  module _ (name : KeyName x) where
    pub key-record-in : KeyRecord (data_at d (record { 0 = at }))
    key-record-in = rw h.1 (key-record s x vs b at parent S h.0 name)

    pub key-name-in : name_at d (record { 0 = at }) ≡ x
    key-name-in =
        name-codes d (record { 0 = at })
        ∙ ap (λ (r : List ℕ). codes (key_narrow r) (key_name r)) h.1
        ∙ key-codes s x vs b at parent S h.0 name

    pub key_in_lem : parent < 4294967296 → leaf_at x vs b at < 4294967296 → key_of d (record { 0 = at }) ≡ key_at x vs b at parent (record { 0 = at })
    unfolding key_of
    key_in_lem p q = ap (λ (r : List ℕ). key_in r (record { 0 = at })) h.1 ∙ key-read s x vs b at parent S h.0 name p q (record { 0 = at })

    -- the frame that opens it
    pub open-frame-in : open_frame d (record { 0 = at }) ≡ key_frame s x
    unfolding open_frame key_frame
    open-frame-in = ap₂ (λ (a c : List ℕ). frame 16 (a ++ wide c)) stamp-in key-name-in

-- ---- a value

module _ (d : List ℕ) (v : Item) (at : ℕ) (h : Holds d at (value_record v at)) (allowed : ItemAllowed v) where
  pub value-record-in : ValueRecord (data_at d (record { 0 = at }))
  value-record-in = rw h.1 (value-record v at h.0 allowed)

  pub called-in : called_at d (record { 0 = at }) ≡ v.name
  unfolding called_at codes_of
  called-in = ap called h.1 ∙ value-codes v at h.0 allowed
    where
      called : List ℕ → List ℕ
      called r = codes (value_narrow r) (take (u16_at r 2) (drop 20 r))

  pub value_in_lem : next_at v at < 4294967296 → value_of d 5 (record { 0 = at }) ≡ value_at v at (record { 0 = at })
  unfolding value_of
  value_in_lem p = ap (λ (r : List ℕ). fields_of r 5 (record { 0 = at })) h.1 ∙ value_read v at h.0 allowed p (record { 0 = at })

  pub value-name-in : codes_of d (value_of d 5 (record { 0 = at })).name ≡ v.name
  unfolding value_of fields_of called_at
  value-name-in = called-in

  -- the frame that holds it, where its data are read as they were
  pub value-frame-in : next_at v at < 4294967296 → bytes_of d (content_at v.bytes (next_at v at) (record { 0 = at })) ≡ v.bytes
      → value_frame d 5 (record { 0 = at }) ≡ item_frame v
  unfolding framed_value item_frame
  value-frame-in p e =
      let w = value_in_lem p in
      let kind = ap (λ (y : Value). y.kind) w in
      let content = ap (λ (y : Value). bytes_of d y.content) w ∙ e in
      ap₂ (λ (n : ℕ) (c : List ℕ). frame 17 (((le32 n ++ le32 (2 * length c)) ++ wide c) ++ bytes_of d (value_of d 5 (record { 0 = at })).content)) kind value-name-in
      ∙ ap (λ (y : List ℕ). frame 17 (((le32 v.kind ++ le32 (2 * length v.name)) ++ wide v.name) ++ y)) content
      ∙ ap (frame 17) (regroup (le32 v.kind) (le32 (2 * length v.name)) (wide v.name) v.bytes)
    where
      regroup : (a c e f : List ℕ) → ((a ++ c) ++ e) ++ f ≡ a ++ (c ++ (e ++ f))
      regroup a c e f = simp append_assoc

-- ---- the security item

pub item_in_lem : (d : List ℕ) (f : Forest) (sd : List ℕ) → Holds d (item_at f) (item_record f sd) → item_at f < 4294967296 → length sd < 4294967296
    → item_of d (record { 0 = item_at f })
    ≡ record { forward = record { 0 = item_at f }; backward = record { 0 = item_at f }; count = key_count f; size = length sd }
unfolding item_of
item_in_lem d f sd h p q = ap item_in h.1 ∙ item-read f sd h.0 p q
