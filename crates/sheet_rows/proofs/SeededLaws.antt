-- What the three steps leave where no draw of the key is refused, and the rows that follow from it.
-- Assumes nothing.
use mathlib.Core.Path.{◌≡◌, ap, ap₂, ◌∙◌}
use mathlib.Core.List.{List}
use Prim.Native.Nat.{ℕ, ◌<◌, ◌^◌}
use lib.IntN.{ℤ, pos, nat_abs}
use lib.ListN.{get_or}
use Rattle.calls.specs.Outcome.{accepted, leaves}
use Rattle.calls.proofs.Outcome.{leaves_accepted}
use Rattle.sets.specs.declared.Parameters.{Parameters}
use Rattle.packing.specs.Message.{message_bits_of}
use Rattle.draws.specs.Calls.{in_turn}
use Rattle.scheme.specs.Encryption.{secret_seed, public_key, ciphertext, decrypted_message}
use Rattle.scheme.specs.Noise as scheme
use Rattle.scheme.specs.Bits.{message_read}
use Rattle.scheme.specs.Answers.{key_draws, encrypt_draws, secret_draw}
use Rattle.scheme.specs.Conditions.{Conditions}
use Rattle.claim.proofs.Draws.{sealing_drawn, secret_drawn_lem}
use Rattle.sheet_order.proofs.Laws.{sizes_small}
use Rattle.sheet_rows.specs.Rows.{seeded_noise, seeded_sent, seeded_read, SeededRows}

-- sealing and reading accept what the key gives, so that the last step leaves the message read
pub three_steps : {p : Parameters} (c : Conditions p) (seed message sealing : List ℕ) → key_draws p seed ≡ accepted
    → {pk sk ct opened : List ℕ} (pk₀ sk₀ ct₀ opened₀ : List ℕ)
    → pk ≡ leaves (key_draws p seed) (public_key p seed) pk₀ → sk ≡ leaves (key_draws p seed) (secret_seed p seed) sk₀
    → ct ≡ leaves (encrypt_draws p pk) (ciphertext p pk message sealing) ct₀ → opened ≡ leaves (secret_draw p sk) (decrypted_message p sk ct) opened₀
    → (pk ≡ public_key p seed) × (opened ≡ message_read p seed message sealing)
unfolding message_read
three_steps {p} c seed message sealing drawn {pk} {sk} {ct} {opened} pk₀ sk₀ ct₀ opened₀ pk-is sk-is ct-is opened-is =
    let public : pk ≡ public_key p seed = pk-is ∙ leaves_accepted _ _ drawn in
    let secret : sk ≡ secret_seed p seed = sk-is ∙ leaves_accepted _ _ drawn in
    let sealed : encrypt_draws p pk ≡ accepted = rw public (sealing_drawn c seed drawn) in
    let read : secret_draw p sk ≡ accepted = rw secret (secret_drawn_lem c seed drawn) in
    let sent : ct ≡ ciphertext p (public_key p seed) message sealing = ct-is ∙ leaves_accepted _ _ sealed
    ∙ ap (λ (xs : List ℕ). ciphertext p xs message sealing) public in
    (public, opened-is ∙ leaves_accepted _ _ read ∙ ap₂ (decrypted_message p) secret sent)

-- the rows, from what the noise, the bits of the message sent and the bits of the message read are
pub rows_filled : (p : Parameters) (seed message sealing opened sent read : List ℕ) (noise : List ℤ) (n m : ℕ)
    → noise ≡ in_turn (scheme.noise p seed message sealing) 0 p.d
    → ((j : ℕ) → nat_abs (get_or noise j (pos 0)) < 2 ^ 62) → sent ≡ message_bits_of n message → n ≡ p.d → read ≡ message_bits_of m opened → m ≡ p.d
    → opened ≡ message_read p seed message sealing
    → SeededRows p seed message sealing noise sent read
unfolding seeded_noise seeded_sent seeded_read
rows_filled p seed message sealing opened sent read noise n m noises small sents n-is reads m-is opens =
    record {
      noise_is = noises;
      sizes = sizes_small noise (λ j h. small j);
      sent_is = sents ∙ ap (λ (k : ℕ). message_bits_of k message) n-is;
      read_is = reads ∙ ap₂ (λ (k : ℕ) (xs : List ℕ). message_bits_of k xs) m-is opens;
    }
