-- `char`. The codes from 0xD800 to 0xDFFF are surrogates, not `char`s. The ranks close that gap: below it the rank of a
-- `char` is its code, and above it the rank is its code less 2048.
use Rattle.std.specs.Prelude.{◌≡◌, ◌↔◌, ◌+◌, ◌-◌, ◌≤◌, ◌==◌, ◌≤ℤ◌, ℕ, ℤ, pos, negsuc, IsTrue, if◌then◌else◌, nat_lt}
use Rattle.std.specs.Ordering.{nat_cmp}
use Rattle.std.proofs.Common.{ap, ◌∙◌, arith}
use Rattle.std.proofs.lemmas.Bool.Decides.{Decides-eqb, nat_tests}
use Rattle.std.proofs.lemmas.Int.{ints}
use Rattle.blaze_int.specs.Ranked.{IsRanked}
use Rattle.blaze_int.specs.Unsigned.{nat_of, nat_cmp-int_cmp}

-- the number of `char`s with a smaller code; a code that is no `char` gets 1112064, past the last index
abbrev pub char_index : ℕ → ℕ
char_index c = if nat_lt c 0xD800 then c else (if nat_lt c 0xE000 then 1112064 else c - 2048)

abbrev pub char_rank : ℕ → ℤ
char_rank c = pos (char_index c)

-- the code of the `char` at an index
abbrev pub char_code : ℕ → ℕ
char_code n = if nat_lt n 0xD800 then n else n + 2048

abbrev pub char_of_rank : ℤ → ℕ
char_of_rank z = char_code (nat_of z)

char_code-char_index : (c : ℕ) → char_index c ≤ 1112063 → char_code (char_index c) ≡ c
char_code-char_index c f = grind (arith, nat_tests)

char_index-char_code : (n : ℕ) → n ≤ 1112063 → char_index (char_code n) ≡ n
char_index-char_code n f = grind (arith, nat_tests)

has_key : (z : ℤ) → pos 0 ≤ℤ z → z ≤ℤ pos 1112063 → char_rank (char_of_rank z) ≡ z
has_key (pos n) l h = ap pos (char_index-char_code n (omega (arith, ints)))
has_key (negsuc n) l h = absurd (omega (arith, ints))

order : (a b : ℕ) → char_index a ≤ 1112063 → char_index b ≤ 1112063 → nat_cmp a b ≡ nat_cmp (char_index a) (char_index b)
order a b f g = grind (arith, nat_tests)

one_code : (a b : ℕ) → char_index a ≤ 1112063 → char_index a ≡ char_index b → a ≡ b
one_code a b f e = grind (arith, nat_tests)

equal : (a b : ℕ) → char_index a ≤ 1112063 → IsTrue (a == b) ↔ (char_rank a ≡ char_rank b)
equal a b f = let d = Decides-eqb a b in ((λ e. ap char_rank (d.0 e)), (λ e. d.1 (one_code a b f (ap nat_of e))))

up_to : (n : ℕ) → pos n ≤ℤ pos 1112063 → n ≤ 1112063
up_to n h = omega (arith, ints)

pub char-ranked : IsRanked char_rank char_of_rank (pos 0) (pos 1112063) nat_cmp (λ x y. x == y)
char-ranked = record {
  some_key = omega (arith, ints);
  one_key = λ c l h. char_code-char_index c (up_to (char_index c) h);
  has_key = has_key;
  order = λ a b _ f _ g. order a b (up_to (char_index a) f) (up_to (char_index b) g) ∙ nat_cmp-int_cmp (char_index a) (char_index b);
  equal = λ a b _ f _ g. equal a b (up_to (char_index a) f);
}
