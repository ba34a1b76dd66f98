-- The parameter sets: 003, tables 2.1 to 2.5 (sets 1 to 6, Titanium-CPA Toy64, Lite96, Std128, Med160, Hi192, Super256) and 2.6 to 2.10 (sets 7 to 12,
-- Titanium-CCA in that order); set 0 is Bench (01). scheme is 1 for a set of the encryption scheme, 2 for one of the key exchange, 0 for Bench.
-- Assumes nothing.
use Rattle.std.specs.Prelude.{◌≡◌, refl, Bool, List, [], ◌∷◌, ℕ, suc, ◌<◌, ltb, length, get_or}
use Rattle.sets.specs.declared.Parameters.{Parameters}

-- the numbers of one set, in the order of the table's columns
abbrev set_row : (scheme q n k d t cmp width d1 d2 d3 w1 w2 w3 δ2 eta b1 b2 ndec1 bytpcs bytpca zqrej roots : ℕ) → Parameters
set_row scheme q n k d t cmp width d1 d2 d3 w1 w2 w3 δ2 eta b1 b2 ndec1 bytpcs bytpca zqrej roots =
    record {
      scheme = scheme;
      q = q;
      n = n;
      k = k;
      d = d;
      t = t;
      cmp = cmp;
      width = width;
      d1 = d1;
      d2 = d2;
      d3 = d3;
      w1 = w1;
      w2 = w2;
      w3 = w3;
      row = δ2;
      eta = eta;
      b1 = b1;
      b2 = b2;
      ndec1 = ndec1;
      bytpcs = bytpcs;
      bytpca = bytpca;
      zqrej = zqrej;
      roots = roots;
    }

-- what stands past the table's end: no set
unfoldable pub none : Parameters
none = set_row 0 0 0 0 0 0 0 0 0 0 0 0 0 0 0 0 0 0 0 0 0 0 0

-- the table, set 0 first
unfoldable pub table : List Parameters
table =
    -- scheme q n k d t cmp width d1 d2 d3 w1 w2 w3 row eta b1 b2 ndec1 bytpcs bytpca zqrej roots
    -- 0: Bench
    set_row 0 17 2 1 2 1 0 5 4 4 4 4 4 4 1 1 1 1 2 0 0 16777215 0 ∷
    -- 1: Titanium-CPA Toy64
    set_row 1 240641 684 255 256 10 10 18 512 1024 1280 56644 238 35772 256 4 7 8 1488 4044 2205 16604229 1 ∷
    -- 2: Titanium-CPA Lite96
    set_row 1 84481 800 479 256 8 9 17 768 1280 1536 32904 68911 5170 256 4 5 6 1496 4764 2523 16727238 2 ∷
    -- 3: Titanium-CPA Std128
    set_row 1 86017 1024 511 256 9 9 17 768 1536 1792 71157 30077 35007 256 4 5 6 2568 5469 3153 16773315 3 ∷
    -- 4: Titanium-CPA Med160
    set_row 1 301057 1280 511 256 9 11 19 768 1792 2048 146766 168263 174 256 4 7 8 3816 6579 4191 16558135 4 ∷
    -- 5: Titanium-CPA Hi192
    set_row 1 737281 1536 767 256 7 12 20 1024 2304 2560 1691 5454 332395 256 4 8 9 3384 8571 5280 16220182 5 ∷
    -- 6: Titanium-CPA Super256
    set_row 1 1198081 2048 1023 256 7 13 21 1280 3072 3328 1061167 186516 1169874 256 4 8 9 3848 10158 6300 16773134 6 ∷
    -- 7: Titanium-CCA Toy64
    set_row 2 471041 684 255 256 10 11 19 512 1024 1280 69169 263 327393 256 4 7 8 328 4110 2250 16486435 7 ∷
    -- 8: Titanium-CCA Lite96
    set_row 2 115201 800 479 256 9 9 17 768 1280 1536 13192 4959 5516 256 4 5 6 4168 4788 2541 16704145 8 ∷
    -- 9: Titanium-CCA Std128
    set_row 2 118273 1024 511 256 10 9 17 768 1536 1792 4136 75894 9282 256 4 4 5 208 5634 3276 16676493 9 ∷
    -- 10: Titanium-CCA Med160
    set_row 2 430081 1280 511 256 10 11 19 768 1792 2048 15791 235435 92 256 4 6 7 2248 6255 3942 16773159 10 ∷
    -- 11: Titanium-CCA Hi192
    set_row 2 783361 1536 767 256 8 12 20 1024 2304 2560 874 596706 13502 256 4 7 8 4704 8334 5115 16450581 11 ∷
    -- 12: Titanium-CCA Super256
    set_row 2 1198081 2048 1023 256 8 13 21 1280 3072 3328 1061167 186516 1169874 256 4 7 8 5904 10158 6300 16773134 12 ∷
    []

-- the numbers of a set
unfoldable pub set_of : ℕ → Parameters
set_of set = get_or table set none

-- the number of the last set
abbrev pub last_set : ℕ
last_set = 12

-- is a set
abbrev pub IsSet : ℕ → Type 0
IsSet set = set < suc last_set

-- is the record of a set
pub record Listed (p : Parameters) : Type 0 where
  pub set : ℕ
  pub is_set : IsSet set
  pub listed : p ≡ set_of set

-- is none, as a test
abbrev pub no_set : ℕ → Bool
no_set set = ltb last_set set

-- each row of the table is a set
rows_example : length table ≡ suc last_set
unfolding table
rows_example = refl
