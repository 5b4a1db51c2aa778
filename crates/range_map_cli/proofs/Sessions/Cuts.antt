-- Where lines end in a text.
use Rattle.range_map_cli.proofs.Words.{◌≡◌, ℕ, ◌+◌, List, [], ◌∷◌, ◌++◌, take, Bool, true, false, cond, eqb, refl, sym, ap, ◌∙◌, zero-add, length, arith, All-cons, All-head, All-tail, sum_by-append, sum_by-cons, onto_first, lines_of, ends_in, Lacks}

-- the first byte is not the one that lacks
pub other_head : (b byte : ℕ) (bs : List ℕ) → Lacks byte (b ∷ bs) → eqb b byte ≡ false
other_head b byte bs h = All-head (λ x. eqb x byte ≡ false) b bs h

pub other_tail : (b byte : ℕ) (bs : List ℕ) → Lacks byte (b ∷ bs) → Lacks byte bs
other_tail b byte bs h = All-tail (λ x. eqb x byte ≡ false) b bs h

-- a line ends at the first LF
pub lines_end : (partial rest : List ℕ) → Lacks 10 partial → lines_of (partial ++ 10 ∷ rest) ≡ partial ∷ lines_of rest
lines_end [] rest h = refl
lines_end (b ∷ bs) rest h = rw (other_head b 10 bs h) (ap (onto_first b) (lines_end bs rest (other_tail b 10 bs h)))

-- a last line without an LF counts
pub lines_last : (b : ℕ) (bs : List ℕ) → Lacks 10 (b ∷ bs) → lines_of (b ∷ bs) ≡ (b ∷ bs) ∷ []
lines_last b [] h = rw (other_head b 10 [] h) refl
lines_last b (d ∷ bs) h = rw (other_head b 10 (d ∷ bs) h) (ap (onto_first b) (lines_last d bs (other_tail b 10 (d ∷ bs) h)))

-- no line ends in bytes that have no LF
pub ends_in-Lacks : (bytes : List ℕ) → Lacks 10 bytes → ends_in bytes ≡ 0
ends_in-Lacks [] h = refl
ends_in-Lacks (b ∷ bs) h = sum_by-cons (λ x. cond (eqb x 10) 1 0) b bs ∙ ap (λ t. cond t 1 0 + ends_in bs) (other_head b 10 bs h) ∙ zero-add (ends_in bs) ∙ ends_in-Lacks bs (other_tail b 10 bs h)

-- and bytes in which no line ends have no LF
pub Lacks-ends_in : (bytes : List ℕ) → ends_in bytes ≡ 0 → Lacks 10 bytes
Lacks-ends_in [] h = λ k d in'. absurd (omega arith)
Lacks-ends_in (b ∷ bs) h =
    let none = neither (eqb b 10) (ends_in bs) (sym (sum_by-cons (λ x. cond (eqb x 10) 1 0) b bs) ∙ h) in
    All-cons (λ x. eqb x 10 ≡ false) b bs none.0 (Lacks-ends_in bs none.1)
  where
    neither : (t : Bool) (n : ℕ) → cond t 1 0 + n ≡ 0 → (t ≡ false) × (n ≡ 0)
    neither true n e = absurd (omega (arith, e))
    neither false n e = (refl, omega (arith, e))

pub ends_in-append : (xs ys : List ℕ) → ends_in (xs ++ ys) ≡ ends_in xs + ends_in ys
ends_in-append xs ys = sum_by-append (λ b. cond (eqb b 10) 1 0) xs ys

pub nothing_kept : (bytes line : List ℕ) → line ≡ take 81 bytes → line ≡ [] → bytes ≡ []
nothing_kept [] line kept e = refl
nothing_kept (b ∷ bs) line kept e = cc

pub empty_list : (xs : List ℕ) → length xs ≡ 0 → xs ≡ []
empty_list [] h = refl
empty_list (x ∷ xs) h = absurd (omega (arith, h))
