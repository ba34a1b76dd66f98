-- Laws of transforms of lists and of the order in which 003 stores them: values at a place, what is sent comes back, products with stored vectors.
-- Assumes nothing.
use mathlib.Core.Path.{◌≡◌, sym, ◌∙◌}
use mathlib.Core.List.{List}
use Prim.Native.Nat.{ℕ, zero, suc, ◌+◌, ◌*◌, ◌/◌, ◌%◌, ◌^◌, ◌≤◌, ◌<◌}
use native.Mathlib.Nat.{zero-add, mul_comm, mul_assoc, mod-lt, mod-eq_of_lt, div-lt_iff_lt-mul, div-add-mod'}
use native.Mathlib.Omega.{arith}
use lib.ListN.{length}
use lib.Arith.{digits_lt, digits_div, digits_mod}
use Rattle.maths.specs.Vector.{at}
use Rattle.maths.specs.Sum.{sum}
use Rattle.maths.specs.Congruence.{Mod}
use Rattle.maths.specs.Root.{Root}
use Rattle.maths.specs.Product.{product, correlation}
use Rattle.maths.specs.Transform.{transform_at, transform, scaled_transform, perm, inv_perm, send, recover}
use Rattle.maths.proofs.Vector.{at_past, tabulate_length, tabulate_at, equal_by_place}
use Rattle.maths.proofs.Sum.{sum_swap, sum_mul_left, sum_mul_right}
use Rattle.maths.proofs.Congruence.{mod_refl, mod_eq, mod_sym, mod_trans, mod_mul, mod_sum, mod_remainder}
use Rattle.maths.proofs.Root.{root_inverse, inversion}
use Rattle.maths.proofs.Convolution.{transform_mod, transform_pad, transform_product, correlation_by_transforms}
use Rattle.maths.proofs.Product.{correlation_mod}
use Rattle.maths.proofs.Split.{rows_columns, columns_rows_pad}

-- value i of a transform
pub transform_at_lem : (q D w : ℕ) (xs : List ℕ) (i : ℕ) → i < D → at (transform q D w xs) i ≡ transform_at D w (at xs) i % q
unfolding transform
transform_at_lem q D w xs i h = tabulate_at D _ i h

-- value i of a scaled transform
pub scaled_transform_at : (q D w e : ℕ) (xs : List ℕ) (i : ℕ) → i < D → at (scaled_transform q D w e xs) i ≡ e * transform_at D w (at xs) i % q
unfolding scaled_transform
scaled_transform_at q D w e xs i h = tabulate_at D _ i h

-- the length of a vector in the order of Perm
pub perm_length : (ρ δ : ℕ) (xs : List ℕ) → length (perm ρ δ xs) ≡ δ * ρ
unfolding perm
perm_length ρ δ xs = tabulate_length (δ * ρ) _

-- place i in the order of Perm
pub perm_at : (ρ δ : ℕ) (xs : List ℕ) (i : ℕ) → i < δ * ρ → at (perm ρ δ xs) i ≡ at xs (i % ρ * δ + i / ρ)
unfolding perm
perm_at ρ δ xs i h = tabulate_at (δ * ρ) _ i h

-- InvPerm is Perm with rows and columns exchanged
inv_perm_exchange : (ρ δ : ℕ) (xs : List ℕ) → inv_perm ρ δ xs ≡ perm δ ρ xs
unfolding perm inv_perm
inv_perm_exchange ρ δ xs = rw (mul_comm δ ρ)

-- the length of a vector in the order of InvPerm
pub inv_perm_length : (ρ δ : ℕ) (xs : List ℕ) → length (inv_perm ρ δ xs) ≡ δ * ρ
unfolding inv_perm
inv_perm_length ρ δ xs = tabulate_length (δ * ρ) _

-- place i in the order of InvPerm
pub inv_perm_at : (ρ δ : ℕ) (xs : List ℕ) (i : ℕ) → i < δ * ρ → at (inv_perm ρ δ xs) i ≡ at xs (i % δ * ρ + i / δ)
unfolding inv_perm
inv_perm_at ρ δ xs i h = tabulate_at (δ * ρ) _ i h

-- row r, column c in the order of Perm
pub perm_row : (ρ δ : ℕ) (xs : List ℕ) (r c : ℕ) → r < δ → c < ρ → at (perm ρ δ xs) (r * ρ + c) ≡ at xs (c * δ + r)
perm_row ρ δ xs r c h k = perm_at ρ δ xs (r * ρ + c) (digits_lt h k) ∙ rw (digits_mod r, digits_div r)

-- where there is a place below δ · ρ, there is a column
some_column : (ρ δ : ℕ) {i : ℕ} → i < δ * ρ → 0 < ρ
some_column zero δ h = omega arith
some_column (suc ρ) δ h = omega arith

-- the row of a place
row_below : (ρ δ : ℕ) {i : ℕ} → i < δ * ρ → i / ρ < δ
row_below ρ δ h = (div-lt_iff_lt-mul (some_column ρ δ h)).1 h

-- the column of a place
column_below : (ρ δ : ℕ) {i : ℕ} → i < δ * ρ → i % ρ < ρ
column_below ρ δ {i} h = mod-lt i (some_column ρ δ h)

-- where value i of a transform is stored
pub inv_perm_below : (ρ δ : ℕ) {i : ℕ} → i < δ * ρ → i % δ * ρ + i / δ < δ * ρ
inv_perm_below ρ δ {i} h = let k : i < ρ * δ = rw (mul_comm ρ δ) h in digits_lt (column_below δ ρ k) (row_below δ ρ k)

-- the two orders undo each other at each place
perm_perm : (ρ δ : ℕ) (xs : List ℕ) (i : ℕ) → i < δ * ρ → at (perm ρ δ (perm δ ρ xs)) i ≡ at xs i
perm_perm ρ δ xs i h = perm_at ρ δ (perm δ ρ xs) i h ∙ (perm_row δ ρ xs (i % ρ) (i / ρ) (column_below ρ δ h) (row_below ρ δ h) ∙ rw div-add-mod')

-- row c, column r in the order of InvPerm
pub inv_perm_row : (ρ δ : ℕ) (xs : List ℕ) (r c : ℕ) → r < δ → c < ρ → at (inv_perm ρ δ xs) (c * δ + r) ≡ at xs (r * ρ + c)
inv_perm_row ρ δ xs r c h k = rw inv_perm_exchange (perm_row δ ρ xs c r k h)

-- Perm undoes InvPerm at each place
pub perm_inv_perm_at : (ρ δ : ℕ) (xs : List ℕ) (i : ℕ) → i < δ * ρ → at (perm ρ δ (inv_perm ρ δ xs)) i ≡ at xs i
perm_inv_perm_at ρ δ xs i h = rw inv_perm_exchange (perm_perm ρ δ xs i h)

-- InvPerm undoes Perm at each place
pub inv_perm_perm_at : (ρ δ : ℕ) (xs : List ℕ) (i : ℕ) → i < δ * ρ → at (inv_perm ρ δ (perm ρ δ xs)) i ≡ at xs i
inv_perm_perm_at ρ δ xs i h = rw inv_perm_exchange (perm_perm δ ρ xs i (rw mul_comm h))

-- Perm undoes InvPerm
pub perm_inv_perm : (ρ δ : ℕ) (xs : List ℕ) → length xs ≡ δ * ρ → perm ρ δ (inv_perm ρ δ xs) ≡ xs
perm_inv_perm ρ δ xs size = equal_by_place (δ * ρ) _ xs (perm_length ρ δ _) size (perm_inv_perm_at ρ δ xs)

-- InvPerm undoes Perm
pub inv_perm_perm : (ρ δ : ℕ) (xs : List ℕ) → length xs ≡ δ * ρ → inv_perm ρ δ (perm ρ δ xs) ≡ xs
inv_perm_perm ρ δ xs size = equal_by_place (δ * ρ) _ xs (inv_perm_length ρ δ _) size (inv_perm_perm_at ρ δ xs)

-- the length of a vector that is sent
pub send_length : (q ρ δ w : ℕ) (xs : List ℕ) → length (send q ρ δ w xs) ≡ δ * ρ
unfolding send
send_length q ρ δ w xs = perm_length ρ δ _

-- row r, column c of a vector that is sent
pub send_row : (q ρ δ w : ℕ) (xs : List ℕ) (r c : ℕ) → r < δ → c < ρ → at (send q ρ δ w xs) (r * ρ + c) ≡ transform_at (δ * ρ) w (at xs) (c * δ + r) % q
unfolding send
send_row q ρ δ w xs r c h k = perm_row ρ δ _ r c h k ∙ transform_at_lem q (δ * ρ) w xs (c * δ + r) (rw (mul_comm δ ρ) (digits_lt k h))

-- place i of a vector that is sent
pub send_at : (q ρ δ w : ℕ) (xs : List ℕ) (i : ℕ) → i < δ * ρ → at (send q ρ δ w xs) i ≡ transform_at (δ * ρ) w (at xs) (i % ρ * δ + i / ρ) % q
send_at q ρ δ w xs i h = rw div-add-mod' at (send_row q ρ δ w xs (i / ρ) (i % ρ) (row_below ρ δ h) (column_below ρ δ h))

-- value i of the transform that is sent
pub send_value : (q ρ δ w : ℕ) (xs : List ℕ) (i : ℕ) → i < δ * ρ → at (inv_perm ρ δ (send q ρ δ w xs)) i ≡ transform_at (δ * ρ) w (at xs) i % q
unfolding send
send_value q ρ δ w xs i h = inv_perm_perm_at ρ δ _ i h ∙ transform_at_lem q (δ * ρ) w xs i h

-- the length of a vector that is recovered
pub recover_length : (q ρ δ w e m : ℕ) (xs : List ℕ) → length (recover q ρ δ w e m xs) ≡ m
unfolding recover
recover_length q ρ δ w e m xs = tabulate_length m _

-- place i of a vector that is recovered
pub recover_at : (q ρ δ w e m : ℕ) (xs : List ℕ) (i : ℕ) → i < m → i < δ * ρ
    → at (recover q ρ δ w e m xs) i ≡ e * transform_at (δ * ρ) w (at (inv_perm ρ δ xs)) i % q
unfolding recover
recover_at q ρ δ w e m xs i h k = tabulate_at m _ i h ∙ scaled_transform_at q (δ * ρ) w e (inv_perm ρ δ xs) i k

-- a vector of at most m · ρ numbers is sent by columns of m numbers, a twist, and rows that are stored one after the other
pub send_columns_rows : (q ρ δ w m : ℕ) (xs : List ℕ) (r c : ℕ) → Mod q (w ^ (δ * ρ)) 1 → m ≤ δ → length xs ≤ m * ρ → r < δ → c < ρ
    → at (send q ρ δ w xs) (r * ρ + c) ≡ transform_at ρ (w ^ δ) (λ n. w ^ (n * r) * transform_at m (w ^ ρ) (λ j. at xs (ρ * j + n)) r) c % q
send_columns_rows q ρ δ w m xs r c whole fits short h k =
    let place : c * δ + r ≡ r + δ * c = omega arith in
    send_row q ρ δ w xs r c h k ∙ rw place (columns_rows_pad m δ ρ w (at xs) r c whole fits (λ j past. at_past xs j (omega arith))).same

-- a stored vector is recovered by its rows, a twist, and columns
pub recover_rows_columns : (q ρ δ w e m : ℕ) (xs : List ℕ) (r c : ℕ) → Mod q (w ^ (δ * ρ)) 1 → r < δ → c < ρ → r * ρ + c < m
    → at (recover q ρ δ w e m xs) (r * ρ + c) ≡ e * transform_at δ (w ^ ρ) (λ n. w ^ (n * c) * transform_at ρ (w ^ δ) (λ j. at xs (n * ρ + j)) c) r % q
recover_rows_columns q ρ δ w e m xs r c whole h k short =
    let place : r * ρ + c ≡ c + ρ * r = omega arith in
    let stored : (n j : ℕ) → n < δ → j < ρ → Mod q (at (inv_perm ρ δ xs) (δ * j + n)) (at xs (n * ρ + j)) =
    λ n j l b. rw (mul_comm δ j) (mod_eq (inv_perm_row ρ δ xs n j l b)) in
    recover_at q ρ δ w e m xs (r * ρ + c) short (digits_lt h k)
    ∙ rw place (mod_mul (mod_refl e)
    (mod_trans (rows_columns δ ρ w (at (inv_perm ρ δ xs)) r c whole)
    (transform_mod δ (w ^ ρ) _ _ r (λ n l. mod_mul (mod_refl (w ^ (n * c))) (transform_mod ρ (w ^ δ) _ _ c (λ j b. stored n j l b)))))).same

-- the transform of c · x
pub transform_scale : (D w c : ℕ) (x : ℕ → ℕ) (i : ℕ) → transform_at D w (λ j. c * x j) i ≡ c * transform_at D w x i
unfolding transform_at
transform_scale D w c x i = simp mul_assoc (sum_mul_left D c _)

-- the transform of a sum of vectors
pub transform_sum : (D w count : ℕ) (x : ℕ → ℕ → ℕ) (i : ℕ) → transform_at D w (λ j. sum count (λ t. x t j)) i ≡ sum count (λ t. transform_at D w (x t) i)
unfolding transform_at
transform_sum D w count x i = simp (← sum_mul_right) (sum_swap D count _)

-- a sum of one term
sum_one : (f : ℕ → ℕ) → sum 1 f ≡ f 0
unfolding sum
sum_one f = zero-add (f 0)

module _ {q w v e : ℕ} (ρ δ : ℕ) (r : Root q (δ * ρ) w v e) where
  -- place i of what was sent with a root and is recovered with its inverse
  pub recover_send_at : (m : ℕ) (xs : List ℕ) (i : ℕ) → i < m → i < δ * ρ → at (recover q ρ δ v e m (send q ρ δ w xs)) i ≡ at xs i % q
  recover_send_at m xs i h k =
      let sent : ℕ → ℕ = at (inv_perm ρ δ (send q ρ δ w xs)) in
      let values : (j : ℕ) → j < δ * ρ → Mod q (sent j) (transform_at (δ * ρ) w (at xs) j) = λ j l. rw (send_value q ρ δ w xs j l) (mod_remainder q _) in
      recover_at q ρ δ v e m (send q ρ δ w xs) i h k
      ∙ (mod_trans (mod_mul (mod_refl e) (transform_mod (δ * ρ) v sent _ i values)) (inversion r (at xs) i k)).same

  -- what was sent with a root comes back with its inverse
  pub recover_send : (m : ℕ) (xs : List ℕ) → length xs ≡ m → m ≤ δ * ρ → ((i : ℕ) → i < m → at xs i < q) → recover q ρ δ v e m (send q ρ δ w xs) ≡ xs
  recover_send m xs size fits below =
      equal_by_place m _ xs (recover_length q ρ δ v e m _) size (λ i h. recover_send_at m xs i h (omega arith) ∙ mod-eq_of_lt (below i h))

module _ {q w v e : ℕ} (ρ δ : ℕ) (r : Root q (δ * ρ) w v e) where
  -- what was sent with the inverse of a root comes back with the root
  pub recover_send_inverse : (m : ℕ) (xs : List ℕ) → length xs ≡ m → m ≤ δ * ρ → ((i : ℕ) → i < m → at xs i < q) → recover q ρ δ w e m (send q ρ δ v xs) ≡ xs
  recover_send_inverse = recover_send ρ δ (root_inverse r)

  -- a stored vector is the transform with the inverse root of all that is recovered from it with the root
  pub transform_recover : (xs : List ℕ) (i : ℕ) → i < δ * ρ → Mod q (transform_at (δ * ρ) v (at (recover q ρ δ w e (δ * ρ) xs)) i) (at (inv_perm ρ δ xs) i)
  transform_recover xs i h =
      let value : ℕ → ℕ = transform_at (δ * ρ) w (at (inv_perm ρ δ xs)) in
      let places : (j : ℕ) → j < δ * ρ → Mod q (at (recover q ρ δ w e (δ * ρ) xs) j) (e * value j) =
      λ j l. rw (recover_at q ρ δ w e (δ * ρ) xs j l l) (mod_remainder q _) in
      mod_trans (transform_mod (δ * ρ) v _ _ i places) (rw (transform_scale (δ * ρ) v e value i) (inversion r _ i h))

  -- the correlation with a recovered vector, from the stored vector
  pub correlation_stored : (n : ℕ) (u : ℕ → ℕ) (m : ℕ) (xs : List ℕ) (i : ℕ) → i + n ≤ m → m ≤ δ * ρ
      → Mod q (e * transform_at (δ * ρ) w (λ k. transform_at n w u k * at (inv_perm ρ δ xs) k) i) (correlation n u (at (recover q ρ δ w e m xs)) i)
  correlation_stored n u m xs i fits room =
      let all : ℕ → ℕ = at (recover q ρ δ w e (δ * ρ) xs) in
      let values : (k : ℕ) → k < δ * ρ → Mod q (transform_at n w u k * at (inv_perm ρ δ xs) k) (transform_at n w u k * transform_at (δ * ρ) v all k) =
      λ k h. mod_mul (mod_refl _) (mod_sym (transform_recover xs k h)) in
      let places : (j : ℕ) → j < n → Mod q (all (i + j)) (at (recover q ρ δ w e m xs) (i + j)) =
      λ j h. mod_eq (recover_at q ρ δ w e (δ * ρ) xs (i + j) (omega arith) (omega arith)
      ∙ sym (recover_at q ρ δ w e m xs (i + j) (omega arith) (omega arith))) in
      mod_trans (mod_mul (mod_refl e) (transform_mod (δ * ρ) w _ _ i values))
      (mod_trans (correlation_by_transforms r n u all i (omega arith)) (correlation_mod n u u all _ i (λ j h. mod_refl (u j)) places))

  -- the product of stored vectors, place by place and added up over count pairs: what is recovered are the correlations added up
  pub recover_products : (count m d : ℕ) (x y : ℕ → List ℕ) (z : List ℕ) (i : ℕ) → i < d → i < δ * ρ → ((t : ℕ) → t < count → i + length (x t) ≤ m) → m ≤ δ * ρ
      → ((k : ℕ) → k < δ * ρ → Mod q (at z k) (sum count (λ t. at (send q ρ δ w (x t)) k * at (y t) k)))
      → at (recover q ρ δ w e d z) i ≡ sum count (λ t. correlation (length (x t)) (at (x t)) (at (recover q ρ δ w e m (y t))) i) % q
  recover_products count m d x y z i h inside fits room same =
      let term : ℕ → ℕ → ℕ = λ t k. transform_at (length (x t)) w (at (x t)) k * at (inv_perm ρ δ (y t)) k in
      let sent : (k : ℕ) → k < δ * ρ → (t : ℕ) → length (x t) ≤ δ * ρ
      → Mod q (at (send q ρ δ w (x t)) (k % δ * ρ + k / δ) * at (y t) (k % δ * ρ + k / δ))
      (term t k) = λ k l t b.
      rw (
        ← inv_perm_at ρ δ (send q ρ δ w (x t)) k l,
        ← inv_perm_at ρ δ (y t) k l,
        send_value q ρ δ w (x t) k l,
        ← transform_pad (length (x t)) (δ * ρ) w
            (at (x t)) k b (λ j past inside. at_past (x t) j past),
      ) (mod_mul (mod_remainder q _) (mod_refl _)) in
      let values : (k : ℕ) → k < δ * ρ → Mod q (at (inv_perm ρ δ z) k) (sum count (λ t. term t k)) =
      λ k l. rw (inv_perm_at ρ δ z k l)
      (mod_trans (same (k % δ * ρ + k / δ) (inv_perm_below ρ δ l)) (mod_sum count _ _ (λ t b. sent k l t (omega (arith, fits t b))))) in
      recover_at q ρ δ w e d z i h inside
      ∙ (mod_trans (mod_mul (mod_refl e) (transform_mod (δ * ρ) w _ _ i values))
      (rw (transform_sum (δ * ρ) w count term i, ← sum_mul_left)
      (mod_sum count _ _ (λ t l. correlation_stored (length (x t)) (at (x t)) m (y t) i (fits t l) room)))).same

  -- the same for one pair
  pub recover_product : (m d : ℕ) (xs ys z : List ℕ) (i : ℕ) → i < d → i < δ * ρ → i + length xs ≤ m → m ≤ δ * ρ
      → ((k : ℕ) → k < δ * ρ → Mod q (at z k) (at (send q ρ δ w xs) k * at ys k))
      → at (recover q ρ δ w e d z) i ≡ correlation (length xs) (at xs) (at (recover q ρ δ w e m ys)) i % q
  recover_product m d xs ys z i h inside fits room same =
      simp sum_one at (recover_products 1 m d (λ t. xs) (λ t. ys) z i h inside (λ t l. fits) room (λ k l. simp sum_one (same k l)))

-- sums of products: the products of sent vectors, place by place and added up over count pairs, are what is sent of the products added up
pub send_products : (q ρ δ w count : ℕ) (x y : ℕ → List ℕ) (z : List ℕ) → ((t : ℕ) → t < count → length (x t) + length (y t) ≤ δ * ρ + 1)
    → ((p : ℕ) → p < δ * ρ → Mod q (at z p) (sum count (λ t. product (x t) (y t) p))) → (k : ℕ) → k < δ * ρ
    → Mod q (sum count (λ t. at (send q ρ δ w (x t)) k * at (send q ρ δ w (y t)) k)) (at (send q ρ δ w z) k)
unfolding product
send_products q ρ δ w count x y z fits same k h =
    let i : ℕ = k % ρ * δ + k / ρ in
    let value : (xs : List ℕ) → Mod q (at (send q ρ δ w xs) k) (transform_at (δ * ρ) w (at xs) i) = λ xs. rw (send_at q ρ δ w xs k h) (mod_remainder q _) in
    let term : (t : ℕ) → t < count → Mod q (at (send q ρ δ w (x t)) k * at (send q ρ δ w (y t)) k) (transform_at (δ * ρ) w (product (x t) (y t)) i) =
    λ t l. mod_trans (mod_mul (value (x t)) (value (y t)))
    (mod_eq (sym (transform_product (δ * ρ) w (length (x t)) (length (y t)) (at (x t)) (at (y t)) i (fits t l) (at_past (x t)) (at_past (y t))))) in
    mod_trans (mod_sum count _ _ term)
    (mod_sym (mod_trans (value z) (mod_trans (transform_mod (δ * ρ) w _ _ i same) (mod_eq (transform_sum (δ * ρ) w count (λ t. product (x t) (y t)) i)))))

-- stored vectors that are congruent place by place recover alike
pub recover_mod : (q ρ δ w e m : ℕ) (xs ys : List ℕ) → m ≤ δ * ρ → ((j : ℕ) → Mod q (at xs j) (at ys j)) → recover q ρ δ w e m xs ≡ recover q ρ δ w e m ys
recover_mod q ρ δ w e m xs ys fits same =
    equal_by_place m _ _ (recover_length q ρ δ w e m xs) (recover_length q ρ δ w e m ys)
    (λ j h.
    recover_at q ρ δ w e m xs j h (omega arith)
    ∙ (mod_mul (mod_refl e) (transform_mod (δ * ρ) w _ _ j (λ l k. rw (inv_perm_at ρ δ xs l k, inv_perm_at ρ δ ys l k) (same _)))).same
    ∙ sym (recover_at q ρ δ w e m ys j h (omega arith)))
