-- Laws of a text that grows: nothing, one text after another, and the room for them.
-- Assumes nothing.
use mathlib.Core.Path.{◌≡◌, sym, ap, ◌∙◌}
use mathlib.Core.List.{List, [], ◌++◌, append_assoc, append-nil}
use Prim.Native.Nat.{ℕ, ◌+◌, ◌≤◌}
use native.Mathlib.Omega.{arith}
use lib.ListN.{length, length-append}
use Rattle.sheet_text.specs.Written.{Appended}

-- nothing is appended
pub appended_none : (old : List ℕ) → Appended old [] old
appended_none old = record { is = sym (append-nil old) }

-- two texts, appended one after the other, are one
pub appended : {old one middle two new : List ℕ} → Appended old one middle → Appended middle two new → Appended old (one ++ two) new
appended {old} {one} {middle} {two} e f = record { is = f.is ∙ ap (λ (l : List ℕ). l ++ two) e.is ∙ append_assoc old one two }

-- a text by another name
pub appended_as : {old one two new : List ℕ} → one ≡ two → Appended old one new → Appended old two new
appended_as e f = rw (← e) f

-- what is appended to an empty text is the whole text
pub from_empty : {old text new : List ℕ} → old ≡ [] → Appended old text new → new ≡ text
from_empty {text = text} e f = f.is ∙ ap (λ (l : List ℕ). l ++ text) e

-- there is room for the first of two texts
pub room_front : (at : ℕ) {room : ℕ} (one two : List ℕ) → at + length (one ++ two) ≤ room → at + length one ≤ room
room_front at one two h = omega (arith, length-append one two)

-- and after it for the second
pub room_next : {old one middle : List ℕ} {room : ℕ} → Appended old one middle → (two : List ℕ) → length old + length (one ++ two) ≤ room
    → length middle + length two ≤ room
room_next {old} {one} e two h = omega (arith, length-append one two, length-append old one, ap length e.is)
