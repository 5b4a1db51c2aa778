-- Facts on digits and letters.
use Rattle.range_map_cli.proofs.Words.{◌≡◌, ℕ, ◌+◌, ◌*◌, ◌^◌, ◌<◌, ◌≤◌, List, [], ◌∷◌, length, take, true, IsAscii, arith, add-one, Fits, w64, IsUtf8, pow-le-pow_right, pow-suc, list_all, is_ascii_alphanumeric, is_ascii_digit, digit_value, take_all, nat_tests, IsAscii-cons, IsAscii-nil, IsUtf8-from_ascii, and_parts}

-- one more digit fits
pub room : (v d i : ℕ) → v < 10 ^ i → d < 10 → v * 10 + d < 10 ^ (i + 1)
room v d i small one = rw (add-one, pow-suc 10 i) (omega (arith, small, one))

pub top : (v i : ℕ) → v < 10 ^ i → i ≤ 19 → v < 10 ^ 19
top v i small few = let grown : 10 ^ i ≤ 10 ^ 19 = pow-le-pow_right (omega arith) few in omega (arith, grown, small)

pub take_whole : (n : ℕ) (xs : List ℕ) → length xs ≤ n → take n xs ≡ xs
take_whole n xs h = take_all n xs h

pub digit_is : (c d : ℕ) → 48 ≤ c → (c ≡ d + 48) × (d < 10) → digit_value c ≡ d
digit_is c d low h = grind (arith, nat_tests)

pub fits_19 : (v : ℕ) → v < 10 ^ 19 → Fits w64 v
fits_19 v h = omega arith

-- what the test says of a digit
pub digit_from_test : (c : ℕ) → is_ascii_digit c ≡ true → (48 ≤ c) × (c ≤ 57)
digit_from_test c h = grind (arith, nat_tests)

-- letters and digits are ASCII
alphanumeric_ascii : (b : ℕ) → is_ascii_alphanumeric b ≡ true → b < 128
alphanumeric_ascii b h = grind (arith, nat_tests)

word_ascii : (bs : List ℕ) → list_all is_ascii_alphanumeric bs ≡ true → IsAscii bs
word_ascii [] h = IsAscii-nil
word_ascii (b ∷ bs) h = let parts = and_parts (is_ascii_alphanumeric b) (list_all is_ascii_alphanumeric bs) h in IsAscii-cons b bs (alphanumeric_ascii b parts.0) (word_ascii bs parts.1)

-- letters and digits are text
pub word_utf8 : (bs : List ℕ) → list_all is_ascii_alphanumeric bs ≡ true → IsUtf8 bs
word_utf8 bs h = IsUtf8-from_ascii bs (word_ascii bs h)
