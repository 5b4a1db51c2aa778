-- The kept bytes of a line.
use Rattle.range_map_cli.proofs.Words.{◌≡◌, ℕ, zero, suc, ◌+◌, ◌-◌, ◌≤◌, min, List, [], ◌∷◌, ◌++◌, length, take, length-take, refl, sym, ap, ◌∙◌, arith, take_all, take_min, take-append-add}

-- what is not kept of a text is not kept of one that it begins
pub take_again : (n : ℕ) (xs ys : List ℕ) → take n (take n xs ++ ys) ≡ take n (xs ++ ys)
take_again zero xs ys = refl
take_again (suc n) [] ys = refl
take_again (suc n) (x ∷ xs) ys = ap (λ l. x ∷ l) (take_again n xs ys)

-- as many bytes are kept as there is room for
pub keep_room : (line bytes : List ℕ) (count kept : ℕ) → length line ≡ count → count ≤ 81 → kept ≡ min (length bytes) (81 - count) → line ++ take kept bytes ≡ take 81 (line ++ bytes)
keep_room line bytes count kept long small is =
    let room = 81 - count in
    let turned : kept ≡ min room (length bytes) = omega (arith, is) in
    let all : length line + room ≡ 81 = omega (arith, long, small) in
    ap (λ n. line ++ take n bytes) turned ∙ ap (λ l. line ++ l) (take_min room bytes) ∙ sym (take-append-add line bytes room) ∙ ap (λ n. take n (line ++ bytes)) all

-- what is kept of a text is kept again
pub kept_again : (line text : List ℕ) → line ≡ take 81 text → take 81 line ≡ take 81 text
kept_again line text kept = ap (take 81) kept ∙ take_all 81 (take 81 text) (omega (arith, length-take 81 text))
