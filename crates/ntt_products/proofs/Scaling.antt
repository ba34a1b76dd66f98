-- A stored vector that lacks a factor 2^32 is recovered with a scale that has it, and numbers in scaled form are sent to numbers in scaled form.
-- Assumes nothing.
use mathlib.Core.Path.{◌≡◌, sym, ◌∙◌}
use mathlib.Core.List.{List, map}
use Prim.Native.Nat.{ℕ, ◌+◌, ◌*◌, ◌/◌, ◌%◌, ◌^◌, ◌≤◌, ◌<◌}
use native.Mathlib.Nat.{mul_comm}
use native.Mathlib.Decide.{dec_lt}
use native.Mathlib.Omega.{arith}
use lib.ListN.{length, length-map}
use Rattle.maths.specs.Vector.{at}
use Rattle.maths.specs.Congruence.{Mod}
use Rattle.maths.specs.Transform.{transform_at, inv_perm, send, recover}
use Rattle.maths.proofs.Vector.{at_past, map_at, equal_by_place}
use Rattle.maths.proofs.Congruence.{mod_refl, mod_eq, mod_sym, mod_trans, mod_mul, mod_remainder}
use Rattle.maths.proofs.Convolution.{transform_mod}
use Rattle.maths.proofs.Transform.{inv_perm_at, inv_perm_below, send_length, send_at, recover_length, recover_at, transform_scale}
use Rattle.montgomery.specs.Scaled.{scale, unscale, Odd}
use Rattle.montgomery.proofs.Laws.{back, unscale_back, unscale_cong, unscale_scale}
use Rattle.ntt_products.specs.Stored.{unscaled}
use Rattle.ntt_products.proofs.Pointwise.{unscaled_length, unscaled_at}

-- a product with a number that is taken for one in scaled form lacks a factor 2^32
pub unscaled_product : (q a b : ℕ) → Mod q (a * unscale q b % q) (back q * (a * b))
unscaled_product q a b =
    let moved : a * (b * back q) ≡ back q * (a * b) = omega arith in
    mod_trans (mod_remainder q (a * unscale q b)) (mod_trans (mod_mul (mod_refl a) (unscale_back q b)) (mod_eq moved))

-- the scaled form of e makes up for it
made_up : {q : ℕ} → Odd q → (e t : ℕ) → Mod q (scale q e * (back q * t)) (e * t)
made_up {q} o e t =
    let moved : scale q e * (back q * t) ≡ scale q e * back q * t = omega arith in
    let once : Mod q (scale q e * back q) e =
    mod_trans (mod_sym (unscale_back q (scale q e))) (mod_trans (mod_eq (unscale_scale o e)) (mod_remainder q e)) in
    mod_trans (mod_eq moved) (mod_mul once (mod_refl t))

-- so what lacks it at every place is recovered with the scaled form of e as the whole is with e
pub recover_scaled : {q : ℕ} → Odd q → (ρ δ w e m : ℕ) (xs ys : List ℕ) → m ≤ δ * ρ → ((j : ℕ) → j < δ * ρ → Mod q (at xs j) (back q * at ys j))
    → recover q ρ δ w (scale q e) m xs ≡ recover q ρ δ w e m ys
recover_scaled {q} o ρ δ w e m xs ys fits lacking =
    let f : ℕ = scale q e in
    equal_by_place m _ _ (recover_length q ρ δ w f m xs) (recover_length q ρ δ w e m ys)
    (λ i h.
    let inside : i < δ * ρ = omega arith in
    let value : ℕ = transform_at (δ * ρ) w (at (inv_perm ρ δ ys)) i in
    let turned : Mod q (transform_at (δ * ρ) w (at (inv_perm ρ δ xs)) i) (back q * value) =
    mod_trans (transform_mod (δ * ρ) w _ (λ j. back q * at (inv_perm ρ δ ys) j) i
    (λ l k. rw (inv_perm_at ρ δ xs l k, inv_perm_at ρ δ ys l k) (lacking _ (inv_perm_below ρ δ k))))
    (mod_eq (transform_scale (δ * ρ) w (back q) (at (inv_perm ρ δ ys)) i)) in
    recover_at q ρ δ w f m xs i h inside ∙ (mod_trans (mod_mul (mod_refl f) turned) (made_up o e value)).same ∙ sym (recover_at q ρ δ w e m ys i h inside))

-- the scaled form of x is a product with 2^32
scale_mod : (q x : ℕ) → Mod q (2 ^ 32 * x) (scale q x)
unfolding scale
scale_mod q x = rw (mul_comm (2 ^ 32)) (mod_sym (mod_remainder q (x * 2 ^ 32)))

-- a vector in scaled form, place by place
scaled_at : (q : ℕ) (xs : List ℕ) (j : ℕ) → Mod q (at (map (scale q) xs) j) (2 ^ 32 * at xs j)
scaled_at q xs j =
    elim (dec_lt j (length xs)) [
      | yes h ↦ rw (map_at (scale q) xs j h) (mod_sym (scale_mod q (at xs j)))
      | no h ↦ mod_eq (at_past (map (scale q) xs) j (omega (arith, length-map xs (scale q))) ∙ rw (at_past xs j (omega arith)))
    ]

-- sending is linear: numbers in scaled form are sent to the scaled forms of what is sent
pub send_scaled : {q : ℕ} → Odd q → (ρ δ w : ℕ) (xs : List ℕ) → unscaled q (send q ρ δ w (map (scale q) xs)) ≡ send q ρ δ w xs
send_scaled {q} o ρ δ w xs =
    let scaled : List ℕ = map (scale q) xs in
    let size = send_length q ρ δ w scaled in
    equal_by_place (δ * ρ) _ _ (unscaled_length q (send q ρ δ w scaled) ∙ size) (send_length q ρ δ w xs)
    (λ k h.
    let i : ℕ = k % ρ * δ + k / ρ in
    let value : ℕ = transform_at (δ * ρ) w (at xs) i in
    let moved : Mod q (at (send q ρ δ w scaled) k) (scale q value) =
    rw (send_at q ρ δ w scaled k h)
    (mod_trans (mod_remainder q _)
    (mod_trans (transform_mod (δ * ρ) w (at scaled) (λ j. 2 ^ 32 * at xs j) i (λ j l. scaled_at q xs j))
    (mod_trans (mod_eq (transform_scale (δ * ρ) w (2 ^ 32) (at xs) i)) (scale_mod q value)))) in
    unscaled_at q (send q ρ δ w scaled) k (omega arith) ∙ unscale_cong moved ∙ unscale_scale o value ∙ sym (send_at q ρ δ w xs k h))
