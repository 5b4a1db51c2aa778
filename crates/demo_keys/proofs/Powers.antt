-- Blocks of numbers, and blocks within blocks.
use Rattle.std.specs.Prelude.{◌≡◌, ◌↔◌, ℕ, ◌+◌, ◌-◌, ◌*◌, ◌/◌, ◌^◌, ◌%◌, ◌<◌, ◌≤◌, ◌==◌, IsTrue, bit_and}
use Rattle.std.proofs.Common.{ap, sym, subst, ◌∙◌, arith, inl, inr}
use Rattle.std.proofs.lemmas.Nat.{pow_pos, pow_below, pow-add, shr_split, mul-le, and_mask}
use Rattle.std.proofs.Math.Nat.{zero-mod}
use Rattle.std.proofs.Math.Pow.{mod-mod-pow}
use Rattle.std.proofs.lemmas.Bool.{cases_lt}
use Rattle.std.proofs.lemmas.Bool.Decides.{Decides-eqb}
use Rattle.demo_keys.specs.Blocks.{BeginsBlock, IsBlockWithin}

-- the mask of the free digits decides whether a block begins
pub masked : (n mask k : ℕ) → mask + 1 ≡ 2 ^ k → IsTrue (bit_and n mask == 0) ↔ BeginsBlock n k
masked n mask k e =
    let is : mask ≡ 2 ^ k - 1 = omega (arith, e) in
    let rest : bit_and n mask ≡ n % 2 ^ k = ap (bit_and n) is ∙ and_mask n k in
    subst (λ r. IsTrue (r == 0) ↔ BeginsBlock n k) (sym rest) (Decides-eqb (n % 2 ^ k) 0)

-- a block that begins below a power of two ends below it
pub ends_below : (n k j : ℕ) → BeginsBlock n k → n < 2 ^ (j + k) → n + 2 ^ k ≤ 2 ^ (j + k)
ends_below n k j begins below =
    let size : 2 ^ (j + k) ≡ 2 ^ j * 2 ^ k = pow-add 2 j k in
    let split : n / 2 ^ k * 2 ^ k + n % 2 ^ k ≡ n = shr_split n k in
    elim (cases_lt (n / 2 ^ k) (2 ^ j)) [
      | inl less ↦
          let most : (n / 2 ^ k + 1) * 2 ^ k ≤ 2 ^ j * 2 ^ k = mul-le (n / 2 ^ k + 1) (2 ^ k) (2 ^ j) (2 ^ k) (omega arith) (omega arith) in
          omega (arith, size, split, most, begins)
      | inr more ↦
          let least : 2 ^ j * 2 ^ k ≤ n / 2 ^ k * 2 ^ k = mul-le (2 ^ j) (2 ^ k) (n / 2 ^ k) (2 ^ k) (omega arith) (omega arith) in
          absurd (omega (arith, size, split, least, begins))
    ]

-- so its last number has as many binary digits
pub last_below : (n k width last : ℕ) → k ≤ width → BeginsBlock n k → n < 2 ^ width → last + 1 ≡ n + 2 ^ k → last < 2 ^ width
last_below n k width last few begins below e =
    let digits : width ≡ (width - k) + k = omega (arith, few) in
    let ends : n + 2 ^ k ≤ 2 ^ ((width - k) + k) = ends_below n k (width - k) begins (subst (λ d. n < 2 ^ d) digits below) in
    let whole : n + 2 ^ k ≤ 2 ^ width = subst (λ d. n + 2 ^ k ≤ 2 ^ d) (sym digits) ends in
    omega (arith, whole, e)

-- a block that ends below a power of two has no more free digits
pub few_free : (first last k width : ℕ) → IsBlockWithin first last k → last < 2 ^ width → k ≤ width
few_free first last k width within below = elim (cases_lt width k) [
  | inl more ↦ let greater : 2 ^ width < 2 ^ k = pow_below width k more in absurd (omega (arith, greater, within.1, below))
  | inr less ↦ omega arith
]

-- if a greater block begins and fits, so does a smaller one
smaller : (first last j k : ℕ) → IsBlockWithin first last (j + k) → IsBlockWithin first last k
smaller first last j k whole =
    let size : 2 ^ (j + k) ≡ 2 ^ j * 2 ^ k = pow-add 2 j k in
    let least : 1 * 2 ^ k ≤ 2 ^ j * 2 ^ k = mul-le 1 (2 ^ k) (2 ^ j) (2 ^ k) (pow_pos j) (omega arith) in
    let begins : first % 2 ^ (j + k) % 2 ^ k ≡ 0 % 2 ^ k = ap (λ r. r % 2 ^ k) whole.0 in
    (sym (mod-mod-pow first j k) ∙ begins ∙ zero-mod (2 ^ k), omega (arith, size, least, whole.1))

pub greatest : (first last free : ℕ) → ¬ IsBlockWithin first last (free + 1) → (k : ℕ) → IsBlockWithin first last k → k ≤ free
greatest first last free none k whole = elim (cases_lt free k) [
  | inl above ↦ absurd (none (smaller first last (k - (free + 1)) (free + 1) (subst (IsBlockWithin first last) (omega arith) whole)))
  | inr below ↦ omega arith
]

-- one number is a block
pub one : (first last : ℕ) → first ≤ last → IsBlockWithin first last 0
one first last h = (omega arith, omega arith)

-- no block of more than 2^128 numbers begins and fits
pub greatest_of_all : (first last free : ℕ) → last < 2 ^ 128 → 128 ≤ free → free ≤ 128 → (k : ℕ) → IsBlockWithin first last k → k ≤ free
greatest_of_all first last free below all most = greatest first last free
    (λ wider. let is : free ≡ 128 = omega (arith, all, most) in
    let fits : first + 2 ^ (128 + 1) ≤ last + 1 = subst (λ k. first + 2 ^ (k + 1) ≤ last + 1) is wider.1 in
    omega (arith, fits, below))
