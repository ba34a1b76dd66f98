-- Published answers of FIPS 197: the key expansion of appendix A.3, and the block of appendix C.3.
-- Assumes nothing.
use Rattle.std.specs.Prelude.{◌≡◌, refl, List, [], ◌∷◌, ℕ, take, drop}
use Rattle.maths.specs.Sum.{sum}
use Rattle.aes_tables.specs.Field.{x_times_of, times, ◌•◌, squares, inverse}
use Rattle.aes_tables.specs.Substitution.{affine, sbox}
use Rattle.aes.specs.Cipher.{sub_bytes, shift_rows, mix_column, mix_columns, add_round_key, round_key_of, rounds, cipher, encrypted}
use Rattle.aes_tables.specs.State.{add_words}
use Rattle.aes.specs.Key.{rot_word, sub_word_of, x_power, rcon, temp, next_word_of, words, key_expansion, aes256}

-- appendix A.3: the key
abbrev cipher_key : List ℕ
cipher_key =
    0x60 ∷ 0x3d ∷ 0xeb ∷ 0x10 ∷ 0x15 ∷ 0xca ∷ 0x71 ∷ 0xbe ∷ 0x2b ∷ 0x73 ∷ 0xae ∷ 0xf0 ∷ 0x85 ∷ 0x7d ∷ 0x77 ∷ 0x81
    ∷ 0x1f ∷ 0x35 ∷ 0x2c ∷ 0x07 ∷ 0x3b ∷ 0x61 ∷ 0x08 ∷ 0xd7 ∷ 0x2d ∷ 0x98 ∷ 0x10 ∷ 0xa3 ∷ 0x09 ∷ 0x14 ∷ 0xdf ∷ 0xf4
    ∷ []

-- the first words that follow the key, and the last
pub first_words : take 3 (drop 8 (key_expansion cipher_key)) ≡
    (0x9b ∷ 0xa3 ∷ 0x54 ∷ 0x11 ∷ []) ∷ (0x8e ∷ 0x69 ∷ 0x25 ∷ 0xaf ∷ []) ∷ (0xa5 ∷ 0x1a ∷ 0x8b ∷ 0x5f ∷ []) ∷ []
unfolding sum x_times_of times ◌•◌ squares inverse affine sbox add_words rot_word sub_word_of x_power rcon temp next_word_of words key_expansion
first_words = refl

pub last_words : drop 57 (key_expansion cipher_key) ≡
    (0xe6 ∷ 0x18 ∷ 0x8d ∷ 0x0b ∷ []) ∷ (0x04 ∷ 0x6d ∷ 0xf3 ∷ 0x44 ∷ []) ∷ (0x70 ∷ 0x6c ∷ 0x63 ∷ 0x1e ∷ []) ∷ []
unfolding sum x_times_of times ◌•◌ squares inverse affine sbox add_words rot_word sub_word_of x_power rcon temp next_word_of words key_expansion
last_words = refl

-- appendix C.3: the key and the plaintext
abbrev example_key : List ℕ
example_key =
    0x00 ∷ 0x01 ∷ 0x02 ∷ 0x03 ∷ 0x04 ∷ 0x05 ∷ 0x06 ∷ 0x07 ∷ 0x08 ∷ 0x09 ∷ 0x0a ∷ 0x0b ∷ 0x0c ∷ 0x0d ∷ 0x0e ∷ 0x0f
    ∷ 0x10 ∷ 0x11 ∷ 0x12 ∷ 0x13 ∷ 0x14 ∷ 0x15 ∷ 0x16 ∷ 0x17 ∷ 0x18 ∷ 0x19 ∷ 0x1a ∷ 0x1b ∷ 0x1c ∷ 0x1d ∷ 0x1e ∷ 0x1f
    ∷ []

abbrev plaintext : List ℕ
plaintext = 0x00 ∷ 0x11 ∷ 0x22 ∷ 0x33 ∷ 0x44 ∷ 0x55 ∷ 0x66 ∷ 0x77 ∷ 0x88 ∷ 0x99 ∷ 0xaa ∷ 0xbb ∷ 0xcc ∷ 0xdd ∷ 0xee ∷ 0xff ∷ []

-- the ciphertext
pub example_encrypted : aes256 example_key plaintext ≡
    0x8e ∷ 0xa2 ∷ 0xb7 ∷ 0xca ∷ 0x51 ∷ 0x67 ∷ 0x45 ∷ 0xbf ∷ 0xea ∷ 0xfc ∷ 0x49 ∷ 0x90 ∷ 0x4b ∷ 0x49 ∷ 0x60 ∷ 0x89 ∷ []
unfolding sum x_times_of times ◌•◌ squares inverse affine sbox sub_bytes shift_rows mix_column mix_columns add_round_key round_key_of rounds cipher encrypted
    add_words rot_word
    sub_word_of x_power rcon temp next_word_of words key_expansion aes256
example_encrypted = refl
