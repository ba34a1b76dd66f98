-- Laws of products through the transforms that are part of the promise of this crate: the layers above cite these and the specs,
-- and nothing else of its proofs.
-- Assumes nothing.
pub use Rattle.ntt_products.proofs.Front.{front_placed}
pub use Rattle.ntt_products.proofs.Pointwise.{accumulated_length}
pub use Rattle.ntt_products.proofs.Recovered.{recovered_inverse_take, recovered_take}
pub use Rattle.ntt_products.proofs.Room.{table_most}
pub use Rattle.ntt_products.proofs.RowsBack.{rows_256}
pub use Rattle.ntt_products.proofs.Sizes.{rules_odd, sizes, size_rows, least_size, some_modulus, inverse_below, rows_root_inverse}
pub use Rattle.ntt_products.proofs.Sums.{totals_none, totals_more, totals_placed, totals_sent, totals_recovered_inverse}
pub use Rattle.ntt_products.proofs.Correlations.{correlations_below}
pub use Rattle.ntt_products.proofs.Vectors.{Stored, sent_placed, sent_inverse_placed, recovered_inverse_placed, recovered_placed, addends}
pub use Rattle.ntt_products.proofs.Vectors.{recovered_below}
