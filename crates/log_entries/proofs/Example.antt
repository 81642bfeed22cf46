-- A log of two entries, number 5 without references and number 6 with 512 bytes 0xAA for page 1: computed, hashes and all.
use Prim.Native.Nat.{ℕ}
use mathlib.Core.Path.{◌≡◌, refl, ap}
use mathlib.Core.List.{List, [], ◌∷◌, ◌++◌}
use lib.ListN.{replicate}
use Rattle.fields.specs.Number.{u16_at, u32_at, u64_at}
use Rattle.fields.specs.Bytes.{same_bytes, stands_at}
use Rattle.base.specs.Block.{is_bins_size}
use Rattle.marvin.specs.Hash.{half_round, mixed, after_words, state_of, hash_of}
use Rattle.log_entries.specs.Entries.{ref_bytes, is_hashed, apart_from, are_refs, is_entry, counted_from, counted, grown, no_chain, chain_from, chain_of}

abbrev fifth : List ℕ
fifth = (72 ∷ 118 ∷ 76 ∷ 69 ∷ 0 ∷ 2 ∷ 0 ∷ 0 ∷ 0 ∷ 0 ∷ 0 ∷ 0 ∷ 5 ∷ 0 ∷ 0 ∷ 0 ∷ 0 ∷ 16 ∷ 0 ∷ 0 ∷ 0 ∷ 0 ∷ 0 ∷ 0 ∷ 204 ∷ 154 ∷ 99 ∷ 192 ∷ 208 ∷ 34 ∷ 97 ∷ 177 ∷ 233 ∷ 97 ∷ 125 ∷ 76 ∷ 224 ∷ 146 ∷ 160 ∷ 138 ∷ [])
    ++ replicate 472 0

abbrev sixth : List ℕ
sixth = (72 ∷ 118 ∷ 76 ∷ 69 ∷ 0 ∷ 4 ∷ 0 ∷ 0 ∷ 0 ∷ 0 ∷ 0 ∷ 0 ∷ 6 ∷ 0 ∷ 0 ∷ 0 ∷ 0 ∷ 16 ∷ 0 ∷ 0 ∷ 1 ∷ 0 ∷ 0 ∷ 0 ∷ 149 ∷ 176 ∷ 79 ∷ 90 ∷ 235 ∷ 72 ∷ 241 ∷ 125 ∷ 166 ∷ 242 ∷ 179 ∷ 235 ∷ 20 ∷ 58 ∷ 106 ∷ 238 ∷ [])
    ++ ((0 ∷ 2 ∷ 0 ∷ 0 ∷ 0 ∷ 2 ∷ 0 ∷ 0 ∷ []) ++ (replicate 512 170 ++ replicate 464 0))

abbrev pub log : List ℕ
log = (0 ∷ 0 ∷ 0 ∷ 0 ∷ 5 ∷ []) ++ (replicate 507 0 ++ (fifth ++ sixth))

pub counts : counted log ≡ record { at = 512; number = 5 } ∷ record { at = 1024; number = 6 } ∷ []
unfolding counted counted_from is_entry is_hashed are_refs apart_from ref_bytes is_bins_size stands_at same_bytes hash_of state_of after_words mixed half_round u64_at u32_at u16_at
counts = refl

pub chain : chain_of log ≡ record { entries = 2; end = 2048; last = 6; bins = 4096; largest = 4096 }
unfolding chain_of chain_from grown u32_at u16_at
chain = ap (chain_from log no_chain) counts
