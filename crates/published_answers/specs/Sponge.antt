-- Published answers: SHAKE256 of the empty message (FIPS 202, example values), and sample 4 of KMAC256 and of KMACXOF256 (SP 800-185, sample values).
-- Assumes nothing.
use Rattle.std.specs.Prelude.{◌≡◌, refl, List, [], ◌∷◌, ◌++◌, ℕ, ◌/◌, length, take}
use Rattle.std.proofs.Common.{ap, ◌∙◌}
use Rattle.calls.specs.Region.{region}
use Rattle.keccak.specs.Lane.{rotl}
use Rattle.keccak.specs.Keccak.{C, D, θ, offsets, ρ, π, χ, round_constants, RC, ι, Rnd, rounds, keccak_f}
use Rattle.maths.specs.Bytes.{little_endian, bytes_of}
use Rattle.sponge.specs.Sponge.{lane_of, mixed, absorbed, lanes, permuted, squeezed, padding, padded, sponge, shake256}
use Rattle.sponge.specs.Kmac.{base256, left_encode, right_encode, encode_string, fill_up_of, bytepad, cshake256, name, kmac_of, kmac256, kmacxof256}

-- the first 32 bytes of SHAKE256 of the empty message
pub shake256_empty : shake256 [] 32 ≡
    0x46 ∷ 0xb9 ∷ 0xdd ∷ 0x2b ∷ 0x0b ∷ 0xa8 ∷ 0x8d ∷ 0x13 ∷ 0x23 ∷ 0x3b ∷ 0x3f ∷ 0xeb ∷ 0x74 ∷ 0x3e ∷ 0xeb ∷ 0x24
    ∷ 0x3f ∷ 0xcd ∷ 0x52 ∷ 0xea ∷ 0x62 ∷ 0xb8 ∷ 0x1b ∷ 0x82 ∷ 0xb5 ∷ 0x0c ∷ 0x27 ∷ 0x64 ∷ 0x6e ∷ 0xd5 ∷ 0x76 ∷ 0x2f
    ∷ []
unfolding rotl C D θ offsets ρ π χ round_constants RC ι Rnd rounds keccak_f region little_endian bytes_of lane_of mixed absorbed lanes permuted squeezed padding
    padded sponge shake256
shake256_empty = refl

-- the key of the samples
abbrev sample_key : List ℕ
sample_key =
    0x40 ∷ 0x41 ∷ 0x42 ∷ 0x43 ∷ 0x44 ∷ 0x45 ∷ 0x46 ∷ 0x47 ∷ 0x48 ∷ 0x49 ∷ 0x4a ∷ 0x4b ∷ 0x4c ∷ 0x4d ∷ 0x4e ∷ 0x4f
    ∷ 0x50 ∷ 0x51 ∷ 0x52 ∷ 0x53 ∷ 0x54 ∷ 0x55 ∷ 0x56 ∷ 0x57 ∷ 0x58 ∷ 0x59 ∷ 0x5a ∷ 0x5b ∷ 0x5c ∷ 0x5d ∷ 0x5e ∷ 0x5f
    ∷ []

-- the customization of the samples, "My Tagged Application"
abbrev sample_customization : List ℕ
sample_customization =
    0x4d ∷ 0x79 ∷ 0x20 ∷ 0x54 ∷ 0x61 ∷ 0x67 ∷ 0x67 ∷ 0x65 ∷ 0x64 ∷ 0x20 ∷ 0x41 ∷ 0x70 ∷ 0x70 ∷ 0x6c ∷ 0x69 ∷ 0x63
    ∷ 0x61 ∷ 0x74 ∷ 0x69 ∷ 0x6f ∷ 0x6e
    ∷ []

-- the input of the samples
abbrev sample_input : List ℕ
sample_input = 0 ∷ 1 ∷ 2 ∷ 3 ∷ []

-- the blocks that a sample absorbs; only the last has what right_encode is given, in which the two samples differ
abbrev blocks : ℕ → List ℕ
blocks bits = padded 0x04 (bytepad (encode_string name ++ encode_string sample_customization) 136 ++ (bytepad (encode_string sample_key) 136 ++ sample_input
    ++ right_encode bits))

-- the state after the first two blocks
abbrev keyed : List (List ℕ)
keyed =
    (0xF0F67D3621712841 ∷ 0xD735678B7BB3726E ∷ 0x477625CBBC67A7D2 ∷ 0x6E10F6EE70CE2CAE ∷ 0xD883C754745E48CC ∷ [])
    ∷ (0x1F8E0901BD5024CD ∷ 0x67B6C206DFFA45A2 ∷ 0x7E5E159D8A8C852D ∷ 0x4D8FB316F9759C50 ∷ 0xB6418BA6E6D7D677 ∷ [])
    ∷ (0x911CFBA6DA78D55D ∷ 0xB0B5045494D96F2B ∷ 0x9597B12B0FD1B532 ∷ 0x5B3D74E8354D50BC ∷ 0x8FDB411CDA6674CC ∷ [])
    ∷ (0xD418DDA87FFC8159 ∷ 0x0E0D455459971EF3 ∷ 0xE00CDD02BFD68562 ∷ 0x2ADD5FF07A945DD1 ∷ 0xFF4446F6D2045625 ∷ [])
    ∷ (0xCDAC81BBA0B1FB9F ∷ 0x477D8227C46B23C2 ∷ 0x4F6A83A81B457AAF ∷ 0x0C476ADF25D7FB6D ∷ 0xD286CDDD3D6DF730 ∷ [])
    ∷ []

absorbed_key : (bits : ℕ) → absorbed (blocks bits) 2 ≡ keyed
unfolding rotl C D θ offsets ρ π χ round_constants RC ι Rnd rounds keccak_f region little_endian lane_of mixed absorbed padded base256 left_encode encode_string
    fill_up_of bytepad name
absorbed_key bits = refl

-- 64 bytes after the last block
abbrev last_block : ℕ → List ℕ
last_block bits = take 64 (squeezed (keccak_f (mixed keyed (region (blocks bits) 272 136))) 1)

-- a sample of three blocks, from that state on
sample : (bits : ℕ) → length (blocks bits) / 136 ≡ 3 → kmac_of sample_key sample_input sample_customization bits 64 ≡ last_block bits
unfolding kmac_of cshake256 sponge absorbed
sample bits three =
    ap (λ (n : ℕ). take 64 (squeezed (absorbed (blocks bits) n) 1)) three
    ∙ ap (λ (s : List (List ℕ)). take 64 (squeezed (keccak_f (mixed s (region (blocks bits) 272 136))) 1)) (absorbed_key bits)

-- sample 4 of KMAC256: 64 bytes
abbrev kmac256_bytes : List ℕ
kmac256_bytes =
    0x20 ∷ 0xc5 ∷ 0x70 ∷ 0xc3 ∷ 0x13 ∷ 0x46 ∷ 0xf7 ∷ 0x03 ∷ 0xc9 ∷ 0xac ∷ 0x36 ∷ 0xc6 ∷ 0x1c ∷ 0x03 ∷ 0xcb ∷ 0x64
    ∷ 0xc3 ∷ 0x97 ∷ 0x0d ∷ 0x0c ∷ 0xfc ∷ 0x78 ∷ 0x7e ∷ 0x9b ∷ 0x79 ∷ 0x59 ∷ 0x9d ∷ 0x27 ∷ 0x3a ∷ 0x68 ∷ 0xd2 ∷ 0xf7
    ∷ 0xf6 ∷ 0x9d ∷ 0x4c ∷ 0xc3 ∷ 0xde ∷ 0x9d ∷ 0x10 ∷ 0x4a ∷ 0x35 ∷ 0x16 ∷ 0x89 ∷ 0xf2 ∷ 0x7c ∷ 0xf6 ∷ 0xf5 ∷ 0x95
    ∷ 0x1f ∷ 0x01 ∷ 0x03 ∷ 0xf3 ∷ 0x3f ∷ 0x4f ∷ 0x24 ∷ 0x87 ∷ 0x10 ∷ 0x24 ∷ 0xd9 ∷ 0xc2 ∷ 0x77 ∷ 0x73 ∷ 0xa8 ∷ 0xdd
    ∷ []

kmac256_blocks : length (blocks 512) / 136 ≡ 3
unfolding padding padded base256 left_encode right_encode encode_string fill_up_of bytepad name
kmac256_blocks = refl

kmac256_last : last_block 512 ≡ kmac256_bytes
unfolding rotl C D θ offsets ρ π χ round_constants RC ι Rnd rounds keccak_f region little_endian bytes_of lane_of mixed lanes permuted squeezed padding
    padded base256 left_encode right_encode encode_string fill_up_of bytepad name
kmac256_last = refl

pub kmac256_sample : kmac256 sample_key sample_input sample_customization 64 ≡ kmac256_bytes
unfolding kmac256
kmac256_sample = sample 512 kmac256_blocks ∙ kmac256_last

-- sample 4 of KMACXOF256: 64 bytes
abbrev kmacxof256_bytes : List ℕ
kmacxof256_bytes =
    0x17 ∷ 0x55 ∷ 0x13 ∷ 0x3f ∷ 0x15 ∷ 0x34 ∷ 0x75 ∷ 0x2a ∷ 0xad ∷ 0x07 ∷ 0x48 ∷ 0xf2 ∷ 0xc7 ∷ 0x06 ∷ 0xfb ∷ 0x5c
    ∷ 0x78 ∷ 0x45 ∷ 0x12 ∷ 0xca ∷ 0xb8 ∷ 0x35 ∷ 0xcd ∷ 0x15 ∷ 0x67 ∷ 0x6b ∷ 0x16 ∷ 0xc0 ∷ 0xc6 ∷ 0x64 ∷ 0x7f ∷ 0xa9
    ∷ 0x6f ∷ 0xaa ∷ 0x7a ∷ 0xf6 ∷ 0x34 ∷ 0xa0 ∷ 0xbf ∷ 0x8f ∷ 0xf6 ∷ 0xdf ∷ 0x39 ∷ 0x37 ∷ 0x4f ∷ 0xa0 ∷ 0x0f ∷ 0xad
    ∷ 0x9a ∷ 0x39 ∷ 0xe3 ∷ 0x22 ∷ 0xa7 ∷ 0xc9 ∷ 0x20 ∷ 0x65 ∷ 0xa6 ∷ 0x4e ∷ 0xb1 ∷ 0xfb ∷ 0x08 ∷ 0x01 ∷ 0xeb ∷ 0x2b
    ∷ []

kmacxof256_blocks : length (blocks 0) / 136 ≡ 3
unfolding padding padded base256 left_encode right_encode encode_string fill_up_of bytepad name
kmacxof256_blocks = refl

kmacxof256_last : last_block 0 ≡ kmacxof256_bytes
unfolding rotl C D θ offsets ρ π χ round_constants RC ι Rnd rounds keccak_f region little_endian bytes_of lane_of mixed lanes permuted squeezed padding
    padded base256 left_encode right_encode encode_string fill_up_of bytepad name
kmacxof256_last = refl

pub kmacxof256_sample : kmacxof256 sample_key sample_input sample_customization 64 ≡ kmacxof256_bytes
unfolding kmacxof256
kmacxof256_sample = sample 0 kmacxof256_blocks ∙ kmacxof256_last
