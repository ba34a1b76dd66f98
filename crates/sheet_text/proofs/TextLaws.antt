-- Laws of the sheet's text: rows one after the other, and that the longest text fits.
-- Assumes nothing.
use mathlib.Core.Path.{◌≡◌, refl, sym, ap, ◌∙◌}
use mathlib.Core.List.{List, [], ◌∷◌, ◌++◌, append_assoc, append-nil}
use Prim.Native.Nat.{ℕ, ◌+◌, ◌*◌, ◌≤◌, ◌<◌, ◌^◌}
use native.Mathlib.Numerals.{add-one}
use native.Mathlib.Omega.{arith}
use lib.IntN.{ℤ, pos}
use lib.ListN.{length, get_or, take, drop, length-append, take-append-drop}
use lib.Seq.{take-suc}
use Rattle.sheet_order.specs.Order as order
use Rattle.sheet_text.specs.Text.{header, row, rows, last_line, ceiling_word, half_word, sheet_text, refused_text, refused_word}
use Rattle.sheet_order.specs.Sorting.{Places}
use Rattle.sheet_order.specs.Order.{shown, Sizes}
use Rattle.sheet_text.proofs.DecimalLaws.{decimal_length, signed_length}
use Rattle.sheet_order.proofs.Laws.{places_rest, places_within, shown_below, shown_length}

module _ (noise : List ℤ) (sent read : List ℕ) where
  -- the row of one place
  abbrev pub row_of : ℕ → List ℕ
  row_of place = row place (get_or noise place (pos 0)) (get_or sent place 0) (get_or read place 0)

  -- the rows of two lists of places
  rows_append : (xs ys : List ℕ) → rows noise sent read (xs ++ ys) ≡ rows noise sent read xs ++ rows noise sent read ys
  unfolding rows
  rows_append [] ys = refl
  rows_append (x ∷ xs) ys = rw (rows_append xs ys) (sym (append_assoc (row_of x) (rows noise sent read xs) (rows noise sent read ys)))

  -- no rows
  pub rows_none : (places : List ℕ) → rows noise sent read (take 0 places) ≡ []
  unfolding rows
  rows_none places = refl

  -- one row more
  pub rows_more : (places : List ℕ) (i : ℕ) → i < length places
      → rows noise sent read (take (i + 1) places) ≡ rows noise sent read (take i places) ++ row_of (get_or places i 0)
  unfolding rows
  rows_more places i h = rw (add-one, take-suc places i 0 h, rows_append (take i places) (get_or places i 0 ∷ []), append-nil (row_of (get_or places i 0)))

  -- the rows of the first places are no longer than all
  pub rows_front : (places : List ℕ) (i : ℕ) → length (rows noise sent read (take i places)) ≤ length (rows noise sent read places)
  rows_front places i =
      let e : length (rows noise sent read (take i places ++ drop i places)) ≡ length (rows noise sent read (take i places)) + length
      (rows noise sent read (drop i places)) =
      ap length (rows_append (take i places) (drop i places)) ∙ length-append (rows noise sent read (take i places)) (rows noise sent read (drop i places)) in
      omega (arith, rw take-append-drop at e)

  -- the longest rows of places below 256, of sizes below 2^62 and bits that a word of 32 bits holds
  module _ (sizes : Sizes noise) (sent-fits : (k : ℕ) → get_or sent k 0 < 2 ^ 32) (read_fits : (k : ℕ) → get_or read k 0 < 2 ^ 32) where
    row_length : (place : ℕ) → place < 256 → length (row_of place) ≤ 47
    unfolding row order.size_at
    row_length place h =
        let a = decimal_length 2 place (omega arith) in
        let b = signed_length 18 (get_or noise place (pos 0)) (omega (arith, sizes.small place)) in
        let c = decimal_length 9 (get_or sent place 0) (omega (arith, sent-fits place)) in
        let d = decimal_length 9 (get_or read place 0) (omega (arith, read_fits place)) in
        simp length-append (omega arith)

    rows_length : (places : List ℕ) → Places places 256 → length (rows noise sent read places) ≤ 47 * length places
    unfolding rows
    rows_length [] p = omega arith
    rows_length (x ∷ xs) p =
        rw length-append (omega (arith, row_length x (p.below 0 (omega arith)), rows_length xs (places_rest p)))

    -- the whole sheet
    pub sheet_length : (ceiling half : ℕ) → length noise ≤ 256 → ceiling < 2 ^ 64 → half < 2 ^ 64 → length (sheet_text noise sent read ceiling half) ≤ 1024
    unfolding sheet_text header last_line ceiling_word half_word
    sheet_length ceiling half few c h =
        let a = rows_length (shown noise) (places_within few (shown_below noise)) in
        let b = shown_length noise in
        let d = decimal_length 19 ceiling (omega arith) in
        let e = decimal_length 19 half (omega arith) in
        simp length-append (omega arith)

-- the longest refusal
pub refused_length : (number place : ℕ) → number < 2 ^ 8 → place < 2 ^ 32 → length (refused_text number place) ≤ 1024
unfolding refused_text refused_word
refused_length number place n p =
    let a = decimal_length 2 number (omega arith) in
    let b = decimal_length 9 place (omega arith) in
    simp length-append (omega arith)
