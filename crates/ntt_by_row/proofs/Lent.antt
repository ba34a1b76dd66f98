-- Laws of the tables for rows of 256 numbers and of one number.
-- Assumes nothing.
use mathlib.Core.Path.{◌≡◌, refl, sym, ap, ◌∙◌}
use mathlib.Core.Logic.{inl, inr}
use mathlib.Core.List.{List}
use Prim.Native.Nat.{ℕ, ◌+◌, ◌-◌, ◌*◌, ◌%◌, ◌^◌, ◌≤◌, ◌<◌}
use native.Mathlib.Nat.{mul-one, zero-add}
use native.Mathlib.Omega.{arith}
use lib.ListN.{length, take}
use lib.Seq.{take-take, length-take-le, get_or-take}
use Rattle.maths.specs.Vector.{AllBelow}
use Rattle.maths.specs.Congruence.{Mod}
use Rattle.maths.specs.Transform as transforms
use Rattle.maths.specs.Transform.{send, recover}
use Rattle.maths.proofs.Vector.{tabulate_take}
use Rattle.maths.proofs.Congruence.{mod_refl, mod_eq, mod_trans, mod_mul, mod_remainder}
use Rattle.maths.specs.Root.{power_table}
use Rattle.calls.specs.Region.{region, over}
use Rattle.calls.proofs.Region.{region_part, region_length, region_entry, over_front}
use Rattle.montgomery.specs.Scaled.{Odd}
use Rattle.ntt_tables.specs.Tables.{tables_length, Powers, Ready, Tables}
use Rattle.ntt_plain.specs.Plain.{Plain}
use Rattle.ntt_by_row.specs.Lent.{lent_length, Sizes, Lent, OrderedPowers, TablesFor}

-- a row that has not 256 numbers has one
pub one_number : {q ρ δ : ℕ} → Sizes q ρ δ → (ρ ≡ 256 → ⊥) → ρ ≡ 1
one_number sizes other = elim sizes.row [ inl wide ↦ absurd (other wide) | inr one ↦ one ]

-- the powers that are lent
pub powers : (tables : List ℕ) (rows : ℕ) → take (rows - 0) tables ≡ region tables 0 rows
powers tables rows = region_part tables 0 rows rows (sym (zero-add rows))

-- residues are below 2 · q
pub doubled : {q n : ℕ} {xs : List ℕ} → AllBelow q n xs → AllBelow (2 * q) n xs
doubled below = record { each = λ i h. omega (arith, below.each i h) }

-- the front of a list into which another was copied
pub copied : {buffer : List ℕ} (zeros ys : List ℕ) (n : ℕ) → buffer ≡ over zeros 0 ys → length ys ≡ n → n ≤ length zeros → take n buffer ≡ ys
copied zeros ys n e size fits =
    let end : n ≡ 0 + length ys = omega arith in
    rw (e, end) (over_front zeros 0 ys (omega arith))

-- rows of 256 numbers
module _ {q ρ δ : ℕ} (wide : ρ ≡ 256) where
  -- the powers of a root as their tables take them
  wide_powers : {w : ℕ} {tables : List ℕ} → OrderedPowers q ρ δ w tables → Powers q δ w tables
  wide_powers powers =
      record { table = rw wide at powers.table; whole = rw wide at powers.whole; half = powers.half (δ * 128) (rw wide (omega arith)) }

  -- the tables may be made
  pub wide_ready : {tables : List ℕ} → Sizes q ρ δ → length tables ≡ lent_length ρ δ → AllBelow q (δ * ρ) tables
      → Odd q × (0 < δ) × (δ ≤ 16) × (length tables ≡ tables_length δ) × AllBelow q (δ * 256) tables
  wide_ready sizes size below = (sizes.modulus, sizes.some_rows, sizes.few_rows, rw wide at size, rw wide at below)

  -- and are lent
  pub wide_lent : {tables : List ℕ} → Sizes q ρ δ → Ready q δ tables → Lent q ρ δ tables
  wide_lent sizes ready =
      record {
        sizes = sizes;
        size = rw wide ready.size;
        wide = λ e. ready;
        powers_below = λ one. absurd (omega arith);
      }

  -- they are those of the root whose powers were there
  pub wide_tables : {w : ℕ} {old new : List ℕ} → OrderedPowers q ρ δ w old → (Powers q δ w old → Tables q δ w new) → TablesFor q ρ δ w new
  wide_tables powers made =
      record { wide = λ e. made (wide_powers powers); plain = λ one. absurd (omega arith); whole = powers.whole }

  -- a vector may be sent
  pub wide_forward : {n : ℕ} {tables x : List ℕ} → Lent q ρ δ tables → length x ≡ δ * ρ → n ≤ δ * ρ → AllBelow q n x
      → Ready q δ tables × (length x ≡ δ * 256) × (n ≤ δ * 256) × AllBelow q n x
  wide_forward lent size fits below = (lent.wide wide, rw wide at size, rw wide at fits, below)

  pub wide_sent : {w : ℕ} {tables ys : List ℕ} (xs : List ℕ) → TablesFor q ρ δ w tables → (Tables q δ w tables → ys ≡ send q 256 δ w xs) → ys ≡ send q ρ δ w xs
  wide_sent xs tables made = rw wide (made (tables.wide wide))

  -- a stored vector may be recovered
  pub wide_inverse : {m e : ℕ} {tables x : List ℕ} → Lent q ρ δ tables → length x ≡ δ * ρ → AllBelow q (δ * ρ) x → e < q → m ≤ δ * ρ
      → Ready q δ tables × (length x ≡ δ * 256) × AllBelow q (δ * 256) x × (e < q) × (m ≤ δ * 256)
  wide_inverse lent size below small fits = (lent.wide wide, rw wide at size, rw wide at below, small, rw wide at fits)

  pub wide_recovered : {w : ℕ} {tables ys : List ℕ} (e m : ℕ) (xs : List ℕ) → TablesFor q ρ δ w tables
      → (Tables q δ w tables → ys ≡ recover q 256 δ w e m xs) → ys ≡ recover q ρ δ w e m xs
  wide_recovered e m xs tables made = rw wide (made (tables.wide wide))

-- rows of one number
module _ {q ρ δ : ℕ} (other : ρ ≡ 256 → ⊥) where
  -- the powers are lent as they stand
  pub plain_lent : {tables : List ℕ} → Sizes q ρ δ → length tables ≡ lent_length ρ δ → AllBelow q (δ * ρ) tables → Lent q ρ δ tables
  plain_lent sizes size below =
      record {
        sizes = sizes;
        size = size;
        wide = λ e. absurd (other e);
        powers_below = λ one. record { each = λ i h. below.each i (rw (one, mul-one) h) };
      }

  pub plain_tables : {w : ℕ} {tables : List ℕ} → OrderedPowers q ρ δ w tables → TablesFor q ρ δ w tables
  plain_tables powers =
      record {
        wide = λ e. absurd (other e);
        plain = λ one. rw (one, mul-one) at powers.table;
        whole = powers.whole;
      }

  module _ {tables : List ℕ} (lent : Lent q ρ δ tables) (x : List ℕ) (size : length x ≡ δ * ρ) where
    -- a row has one number
    one : ρ ≡ 1
    one = one_number lent.sizes other

    -- there are as many powers as numbers
    pub powers_length : length (region tables 0 δ) ≡ δ
    powers_length = region_length tables 0 δ (omega (arith, lent.size))

    numbers_length : length x ≡ δ
    numbers_length = size ∙ rw (one, mul-one) refl

    -- the powers
    powers_below : AllBelow q (length (region tables 0 δ)) (region tables 0 δ)
    powers_below =
        record { each = λ i h. rw (region_entry tables 0 δ i 0 (rw powers_length at h), zero-add) ((lent.powers_below one).each i (rw powers_length at h)) }

    -- numbers that may be sent or recovered
    plain_of : (ys : List ℕ) → length ys ≤ δ → AllBelow q (length ys) ys → Plain q 1 (region tables 0 δ) ys
    plain_of ys fits below =
        record {
          modulus = lent.sizes.modulus;
          some_columns = omega arith;
          columns_fit = rw powers_length lent.sizes.some_rows;
          size = rw powers_length fits;
          few = rw powers_length (omega (arith, lent.sizes.few_rows));
          numbers = doubled below;
          factors = powers_below;
        }

    -- a vector may be sent
    pub plain_forward : {n : ℕ} → n ≤ δ * ρ → AllBelow q n x
        → Plain q 1 (region tables 0 δ) (take n x) × (length x ≡ length (region tables 0 δ)) × (length (region tables 0 δ) ≤ 16) × (n ≤ length x)
    plain_forward {n} fits below =
        let within : n ≤ length x = omega arith in
        let front : length (take n x) ≡ n = length-take-le n x within in (
          plain_of (take n x) (omega (arith, numbers_length))
              (rw front (record { each = λ i h. rw (get_or-take n x i 0 h) (below.each i h) })),
          numbers_length ∙ sym powers_length,
          rw powers_length lent.sizes.few_rows,
          within,
        )

    -- a stored vector may be recovered
    pub plain_inverse : {e : ℕ} → AllBelow q (δ * ρ) x → e < q
        → Plain q 1 (region tables 0 δ) x × (length x ≡ length (region tables 0 δ)) × (length (region tables 0 δ) ≤ 16) × (e < q)
    plain_inverse below small = (
      plain_of x (omega (arith, numbers_length)) (rw size below),
      numbers_length ∙ sym powers_length,
      rw powers_length lent.sizes.few_rows,
      small,
    )

    module _ {w : ℕ} (made : TablesFor q ρ δ w tables) where
      -- the powers of w
      table : region tables 0 δ ≡ power_table q w (length (region tables 0 δ))
      table = rw powers_length (made.plain one)

      whole : Mod q (w ^ length (region tables 0 δ)) 1
      whole = rw powers_length (rw (one, mul-one) at made.whole)

      -- what is sent, and what is recovered
      pub plain_sent : {ys : List ℕ} (xs : List ℕ)
          → (region tables 0 δ ≡ power_table q w (length (region tables 0 δ)) → Mod q (w ^ length (region tables 0 δ)) 1
          → ys ≡ send q 1 (length (region tables 0 δ)) w xs) → ys ≡ send q ρ δ w xs
      plain_sent xs sent = rw one (rw powers_length at (sent table whole))

      pub plain_recovered : {ys : List ℕ} (e m : ℕ) → m ≤ δ * ρ
          → (region tables 0 δ ≡ power_table q w (length (region tables 0 δ)) → Mod q (w ^ length (region tables 0 δ)) 1
          → ys ≡ recover q 1 (length (region tables 0 δ)) w e (length (region tables 0 δ)) x) → take m ys ≡ recover q ρ δ w e m x
      unfolding transforms.recover
      plain_recovered e m fits recovered =
          ap (take m) (rw powers_length at (recovered table whole)) ∙ rw one (tabulate_take m δ _ (rw (one, mul-one) at fits))

-- what the scale of an inverse transform is congruent to
pub scale_of : {by : ℕ} (q e : ℕ) → by ≡ e * (2 ^ 64 % q) % q → Mod q by (e * 2 ^ 64)
scale_of q e same = mod_trans (mod_eq same) (mod_trans (mod_remainder q _) (mod_mul (mod_refl e) (mod_remainder q _)))

-- the first m of the numbers that are recovered
pub recover_front_lem : (new old : List ℕ) (q δ w e m n : ℕ) → m ≤ n → take n new ≡ recover q 256 δ w e n old → take m new ≡ recover q 256 δ w e m old
unfolding transforms.recover
recover_front_lem new old q δ w e m n fits same =
    sym (take-take m n new fits) ∙ ap (take m) same ∙ tabulate_take m n _ fits
