-- Vectors, computed: those published with Marvin32, under their own seed; under the seed of logs nothing, "a" and "HvLE", the head of an entry that
-- Windows wrote, and two whole entries.
use Prim.Native.Nat.{ℕ}
use mathlib.Core.Path.{◌≡◌, refl}
use mathlib.Core.List.{List, [], ◌∷◌, ◌++◌, map}
use lib.ListN.{replicate}
use Rattle.fields.specs.Number.{u16_at, u32_at}
use Rattle.marvin.specs.declared.Marvin.{Marvin}
use Rattle.marvin.specs.Hash.{half_round, mixed, after_words, state_of, number_of, hash_of}

abbrev seed : Marvin
seed = record { low = 0x001b_dbcc; high = 0x004f_b61a }

abbrev under_seed : List ℕ → ℕ
under_seed m = number_of (state_of seed m)

-- of nothing up to seven bytes
pub published : map under_seed
    ([]
    ∷ (175 ∷ [])
    ∷ (231 ∷ 15 ∷ [])
    ∷ (55 ∷ 244 ∷ 149 ∷ [])
    ∷ (134 ∷ 66 ∷ 220 ∷ 89 ∷ [])
    ∷ (21 ∷ 63 ∷ 183 ∷ 152 ∷ 38 ∷ [])
    ∷ (9 ∷ 50 ∷ 230 ∷ 36 ∷ 108 ∷ 71 ∷ [])
    ∷ (171 ∷ 66 ∷ 126 ∷ 168 ∷ 209 ∷ 15 ∷ 199 ∷ [])
    ∷ [])
    ≡ 0x30ed_35c1_00cd_3c7d
    ∷ 0x48e7_3fc7_7d75_ddc1
    ∷ 0xb5f6_e1fc_485d_bff8
    ∷ 0xf0b0_7c78_9b8c_f7e8
    ∷ 0x7008_f2e8_7e9c_f556
    ∷ 0xe6c0_8c6d_a2af_a997
    ∷ 0x6f04_bf1a_5ea2_4060
    ∷ 0xe118_47e4_f067_8c41
    ∷ []
unfolding state_of after_words mixed half_round u32_at u16_at
published = refl

pub short : map hash_of ([] ∷ (97 ∷ []) ∷ (72 ∷ 118 ∷ 76 ∷ 69 ∷ []) ∷ []) ≡ 0xb39e_fca4_0396_6e08 ∷ 0x21a0_13c7_26f2_92f4 ∷ 0x9145_2793_2cf3_36dd ∷ []
unfolding hash_of state_of after_words mixed half_round u32_at u16_at
short = refl

-- the first 32 bytes of the entry in a log of Windows 8.1: its Hash-2 is 64 E2 17 30 E4 C2 1D B4
pub of-windows : hash_of (72 ∷ 118 ∷ 76 ∷ 69 ∷ 0 ∷ 46 ∷ 0 ∷ 0 ∷ 0 ∷ 0 ∷ 0 ∷ 0 ∷ 131 ∷ 0 ∷ 0 ∷ 0 ∷ 0 ∷ 0 ∷ 7 ∷ 0 ∷ 2 ∷ 0 ∷ 0 ∷ 0 ∷ 29 ∷ 217 ∷ 177 ∷ 109 ∷ 184 ∷ 146 ∷ 174 ∷ 158 ∷ []) ≡ 0xb41d_c2e4_3017_e264
unfolding hash_of state_of after_words mixed half_round u32_at u16_at
of-windows = refl

-- an entry of 512 bytes, number 5, bins size 4096, without references: what follows its head, and its first 32 bytes with that hash in them
pub empty-entry : map hash_of
    (replicate 472 0
    ∷ (72 ∷ 118 ∷ 76 ∷ 69 ∷ 0 ∷ 2 ∷ 0 ∷ 0 ∷ 0 ∷ 0 ∷ 0 ∷ 0 ∷ 5 ∷ 0 ∷ 0 ∷ 0 ∷ 0 ∷ 16 ∷ 0 ∷ 0 ∷ 0 ∷ 0 ∷ 0 ∷ 0 ∷ 204 ∷ 154 ∷ 99 ∷ 192 ∷ 208 ∷ 34 ∷ 97 ∷ 177 ∷ [])
    ∷ [])
    ≡ 0xb161_22d0_c063_9acc ∷ 0x8aa0_92e0_4c7d_61e9 ∷ []
unfolding hash_of state_of after_words mixed half_round u32_at u16_at
empty-entry = refl

-- one of 1024 bytes, number 6, with 512 bytes 0xAA for offset 512
pub entry-with-page : map hash_of
    (((0 ∷ 2 ∷ 0 ∷ 0 ∷ 0 ∷ 2 ∷ 0 ∷ 0 ∷ []) ++ (replicate 512 170 ++ replicate 464 0))
    ∷ (72 ∷ 118 ∷ 76 ∷ 69 ∷ 0 ∷ 4 ∷ 0 ∷ 0 ∷ 0 ∷ 0 ∷ 0 ∷ 0 ∷ 6 ∷ 0 ∷ 0 ∷ 0 ∷ 0 ∷ 16 ∷ 0 ∷ 0 ∷ 1 ∷ 0 ∷ 0 ∷ 0 ∷ 149 ∷ 176 ∷ 79 ∷ 90 ∷ 235 ∷ 72 ∷ 241 ∷ 125 ∷ [])
    ∷ [])
    ≡ 0x7df1_48eb_5a4f_b095 ∷ 0xee6a_3a14_ebb3_f2a6 ∷ []
unfolding hash_of state_of after_words mixed half_round u32_at u16_at
entry-with-page = refl
