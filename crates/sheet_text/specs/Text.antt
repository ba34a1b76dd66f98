-- The text of the bench sheet and of a refusal, as bytes (01, The bench sheet; How each call answers).
-- Assumes nothing.
use Rattle.std.specs.Prelude.{◌≡◌, refl, List, [], ◌∷◌, ◌++◌, ℕ, ℤ, pos, negsuc, get_or}
use Rattle.sheet_text.specs.Decimal.{decimal, signed, digits}
use Rattle.sheet_order.specs.Sorting.{inserted_by, insert_by, by_key, higher, lower}
use Rattle.sheet_order.specs.Order.{shown, ordered, before, size_at, negative_at, negative}

-- what ends each number of a line: a space, or after the last one a new line
abbrev pub space : List ℕ
space = 32 ∷ []

abbrev pub newline : List ℕ
newline = 10 ∷ []

-- "place noise sent read" and a new line
unfoldable pub header : List ℕ
header =
    112 ∷ 108 ∷ 97 ∷ 99 ∷ 101 ∷ 32 ∷
    110 ∷ 111 ∷ 105 ∷ 115 ∷ 101 ∷ 32 ∷
    115 ∷ 101 ∷ 110 ∷ 116 ∷ 32 ∷
    114 ∷ 101 ∷ 97 ∷ 100 ∷ 10 ∷ []

-- the row of a place: place, noise, bit sent, bit read
unfoldable pub row : ℕ → ℤ → ℕ → ℕ → List ℕ
row place noise sent read = (decimal place ++ space) ++ (signed noise ++ space) ++ (decimal sent ++ space) ++ (decimal read ++ newline)

-- the rows of these places, one after the other
unfoldable pub rows : List ℤ → List ℕ → List ℕ → List ℕ → List ℕ
rows noise sent read [] = []
rows noise sent read (place ∷ places) =
    row place (get_or noise place (pos 0)) (get_or sent place 0) (get_or read place 0) ++ rows noise sent read places

-- "ceiling "
unfoldable pub ceiling_word : List ℕ
ceiling_word = 99 ∷ 101 ∷ 105 ∷ 108 ∷ 105 ∷ 110 ∷ 103 ∷ 32 ∷ []

-- " half "
unfoldable pub half_word : List ℕ
half_word = 32 ∷ 104 ∷ 97 ∷ 108 ∷ 102 ∷ 32 ∷ []

-- the last line: the ceiling and the half modulus
unfoldable pub last_line : ℕ → ℕ → List ℕ
last_line ceiling half = ceiling_word ++ decimal ceiling ++ half_word ++ (decimal half ++ newline)

-- the whole sheet, of the noise, the bit sent and the bit read of each place, the ceiling and the half modulus
unfoldable pub sheet_text : List ℤ → List ℕ → List ℕ → ℕ → ℕ → List ℕ
sheet_text noise sent read ceiling half = header ++ rows noise sent read (shown noise) ++ last_line ceiling half

-- "refused "
unfoldable pub refused_word : List ℕ
refused_word = 114 ∷ 101 ∷ 102 ∷ 117 ∷ 115 ∷ 101 ∷ 100 ∷ 32 ∷ []

-- a refusal: its number and its place
unfoldable pub refused_text : ℕ → ℕ → List ℕ
refused_text number place = refused_word ++ (decimal number ++ space) ++ (decimal place ++ newline)

-- the sheet of 01, whole, its four lines:
-- place noise sent read
-- 0 -2 1 1
-- 1 -1 0 0
-- ceiling 4 half 8
sheet_text_example :
    sheet_text (negsuc 1 ∷ negsuc 0 ∷ []) (1 ∷ 0 ∷ []) (1 ∷ 0 ∷ []) 4 8 ≡
    112 ∷ 108 ∷ 97 ∷ 99 ∷ 101 ∷ 32 ∷ 110 ∷ 111 ∷ 105 ∷ 115 ∷ 101 ∷ 32 ∷ 115 ∷ 101 ∷ 110 ∷ 116 ∷ 32 ∷ 114 ∷ 101 ∷ 97 ∷ 100 ∷ 10 ∷
    48 ∷ 32 ∷ 45 ∷ 50 ∷ 32 ∷ 49 ∷ 32 ∷ 49 ∷ 10 ∷
    49 ∷ 32 ∷ 45 ∷ 49 ∷ 32 ∷ 48 ∷ 32 ∷ 48 ∷ 10 ∷
    99 ∷ 101 ∷ 105 ∷ 108 ∷ 105 ∷ 110 ∷ 103 ∷ 32 ∷ 52 ∷ 32 ∷ 104 ∷ 97 ∷ 108 ∷ 102 ∷ 32 ∷ 56 ∷ 10 ∷ []
unfolding sheet_text header rows row last_line ceiling_word half_word shown ordered inserted_by insert_by before by_key higher lower size_at
    negative_at negative signed decimal digits
sheet_text_example = refl

-- refused 2 0
refused_text_example : refused_text 2 0 ≡ 114 ∷ 101 ∷ 102 ∷ 117 ∷ 115 ∷ 101 ∷ 100 ∷ 32 ∷ 50 ∷ 32 ∷ 48 ∷ 10 ∷ []
unfolding refused_text refused_word decimal digits
refused_text_example = refl
