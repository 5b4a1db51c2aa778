-- The lines of a text.
use Rattle.std.specs.Prelude.{◌≡◌, ℕ, List, [], ◌∷◌, ◌++◌, Option, None, Some, false, if◌then◌else◌, ◌==◌, count_by}
use denote.Ref.{Bor}
use Rattle.std.specs.List.{All, onto_first}

-- each line, without the LF at its end; a last line without one counts
abbrev pub lines_of : List ℕ → List (List ℕ)
lines_of [] = []
lines_of (b ∷ bs) = if b == 10 then [] ∷ lines_of bs else onto_first b (lines_of bs)

-- how many lines end in the bytes
abbrev pub ends_in : List ℕ → ℕ
ends_in bytes = count_by (λ b. b == 10) bytes

-- no byte of the text is this one
abbrev pub Lacks : ℕ → List ℕ → Type 0
Lacks byte text = All (λ b. (b == byte) ≡ false) text

-- the parts of the text before and after the first such byte, or none where it has no such byte
abbrev pub IsLineSplit : ℕ → List ℕ → Option (Bor (List ℕ) × Bor (List ℕ)) → Type 0
IsLineSplit byte text None = Lacks byte text
IsLineSplit byte text (Some parts) = Lacks byte parts.0.now × (text ≡ parts.0.now ++ byte ∷ parts.1.now)
