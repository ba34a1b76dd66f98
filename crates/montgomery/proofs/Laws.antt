-- Laws of scaled numbers that are part of the promise of this crate: the layers above cite these and the specs,
-- and nothing else of its proofs.
-- Assumes nothing.
pub use Rattle.montgomery.proofs.Scaled.{unscale_below, unscale_remainder, unscale_cong, unscale_is, unscale_add, unscale_mul_left}
pub use Rattle.montgomery.proofs.Scaled.{unscale_unique, unscale_power, unscale_scale, unscale_product, unscale_twice, unscale_twice_one}
pub use Rattle.montgomery.proofs.Reduction.{product_below}
pub use Rattle.montgomery.proofs.Lazy.{negated_inverse_is, lazy_congruent, lazy_below, lazy_whole, lazy_largest}
pub use Rattle.montgomery.proofs.Scaled.{back, unscale_back, four_scales, unscale_fourfold}
