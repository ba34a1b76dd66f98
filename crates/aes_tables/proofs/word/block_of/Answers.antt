-- `aes_tables::word::block_of` meets its contract.
-- Assumes nothing.
use native.Mathlib.Nat.{div-div-eq-div-mul}
use Rattle.aes_tables.specs.Words.{byte_of}
use Rattle.aes_tables.proofs.word.block_of.Goals as goal

pub returns : goal.returns
unfolding byte_of
returns c =
    rw (c.to_le_bytes-a.ensures, c.to_le_bytes-b.ensures, c.to_le_bytes-c.ensures, c.to_le_bytes-d.ensures) (simp div-div-eq-div-mul)
