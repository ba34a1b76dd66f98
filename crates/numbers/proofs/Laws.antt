-- Laws of key, sealing and reading on numbers that are part of the promise of this crate: the layers above cite these and the specs,
-- and nothing else of its proofs.
-- Assumes nothing.
pub use Rattle.numbers.proofs.BitLaws.{rounded_bit_bench, rounded_bit_centred}
pub use Rattle.numbers.proofs.KeyLaws.{residues_at, key_length, key_vector_lem, key_part_at, key_below, key_numbers_lem}
pub use Rattle.numbers.proofs.ReadingLaws.{reading_length, reading_at, opened_at, opened_below, three_slices, reading_numbers}
pub use Rattle.numbers.proofs.SealingLaws.{first_part_length, first_part_at, first_part_below, second_part_length, second_part_at, second_part_below}
pub use Rattle.numbers.proofs.SealingLaws.{middles_products, sealing_numbers}
pub use Rattle.numbers.proofs.Size.{entry_kept}
