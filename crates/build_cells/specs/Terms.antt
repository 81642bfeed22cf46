-- What the code asks of its callers, and what its loops keep.
use Rattle.std.specs.Prelude.{ℕ, zero, suc, ◌+◌, ◌-◌, ◌*◌, ◌%◌, ◌≡◌, Bool, false, cond, List, [], ◌∷◌, ◌++◌, leb, length}
use Rattle.fields.specs.Number.{le16, le32, le64}
use Rattle.base.specs.Block.{stored_checksum}
use Rattle.values.specs.Segments.{segments_for}
use Rattle.names.specs.Codes.{codes}
use Rattle.forest.specs.Forest.{Item, Forest, count_of}
use Rattle.layout.specs.Layout.{cell_size, zeros, is_narrow, if_any, leaf_at, list_at, longest_key, longest_name, longest_data, key_flags, key_fixed}
use Rattle.build_cells.specs.declared.KeyFields.{KeyFields}

-- the zeros at the end of a cell that holds so many bytes
abbrev pub pad : ℕ → List ℕ
pad n = zeros (cell_size n - (4 + n))

-- a name in UTF-16LE, and whether it is stored one byte per character
pub record IsName (name : List ℕ) (narrow : Bool) : Type 0 where
  pub whole : length name % 2 ≡ 0
  pub told : narrow ≡ is_narrow (codes false name)

-- a value, by its type, its name in UTF-16LE and its data
abbrev pub item_of : ℕ → List ℕ → List ℕ → Item
item_of kind name body = record { kind = kind; name = codes false name; bytes = body }

-- what a key's record holds before its name, which takes so many bytes
abbrev pub fixed_of : KeyFields → ℕ → List ℕ
fixed_of k len =
    key_fixed k.flags k.stamp k.parent k.subkeys k.leaf k.values k.list k.item k.longest_key k.longest_name k.longest_data len

-- a key's fields as the layout has them
abbrev pub fields_of : ℕ → List ℕ → List Item → Forest → ℕ → ℕ → ℕ → KeyFields
fields_of s x vs b at parent S =
    record {
      flags = key_flags x parent;
      stamp = s;
      parent = parent;
      subkeys = count_of b;
      leaf = if_any (count_of b) (leaf_at x vs b at);
      values = length vs;
      list = if_any (length vs) (list_at x vs at);
      item = S;
      longest_key = longest_key b;
      longest_name = longest_name vs;
      longest_data = longest_data vs;
    }

-- the record of segmented data
unfoldable pub db_record : ℕ → ℕ → List ℕ
db_record count list = 100 ∷ 98 ∷ (le16 count ++ le32 list)

-- the offsets of so many segments, of which all but the last are full
unfoldable pub offsets_n : ℕ → ℕ → List ℕ
offsets_n zero at = []
offsets_n (suc n) at = le32 at ++ offsets_n n (at + 16352)

-- how many bytes the cells of the segments take
unfoldable pub segments_size : ℕ → ℕ
segments_size n = (segments_for n - 1) * 16352 + cell_size (n - (segments_for n - 1) * 16344)

-- where the segment ends that starts in data of so many bytes
abbrev pub SegmentEnd : ℕ → ℕ → ℕ → Type 0
SegmentEnd start n r = r ≡ cond (leb (n - start) 16344) n (start + 16344)

-- the security item, by its offset and the number of keys
unfoldable pub item_bytes : ℕ → ℕ → List ℕ → List ℕ
item_bytes S keys sd = 115 ∷ 107 ∷ (le16 0 ++ (le32 S ++ (le32 S ++ (le32 keys ++ (le32 (length sd) ++ sd)))))

-- the bin header and the base block, by the root key's stamp and the bins size
unfoldable pub header_bytes : ℕ → ℕ → List ℕ
header_bytes stamp size = 104 ∷ 98 ∷ 105 ∷ 110 ∷ (le32 0 ++ (le32 size ++ (le64 0 ++ (le64 stamp ++ le32 0))))

unfoldable pub front_bytes : ℕ → ℕ → List ℕ
front_bytes stamp size =
    114 ∷ 101 ∷ 103 ∷ 102 ∷ (le32 1 ++ (le32 1 ++ (le64 stamp ++ (le32 1 ++ (le32 5 ++ (le32 0 ++ (le32 1 ++ (le32 32 ++ (le32 size ++ (le32 1
    ++ zeros 460))))))))))

unfoldable pub base_bytes : ℕ → ℕ → List ℕ
base_bytes stamp size = front_bytes stamp size ++ (le32 (stored_checksum (front_bytes stamp size)) ++ zeros 3584)
