-- Texts of dates.
use Rattle.std.specs.Prelude.{ℕ, ◌-◌, List, ◌∷◌, ◌++◌, length, replicate, unsigned_abs}
use Rattle.std.specs.Fmt.{decimal, sign_text}
use Rattle.std.specs.Int.{is_negative}
use Rattle.jiff_core.specs.declared.civil.date.Date.{Date}

-- a number in decimal digits, with zeros in front where it has fewer than so many
unfoldable pub zero_padded : ℕ → ℕ → List ℕ
zero_padded width n = replicate (width - length (decimal n)) 48 ++ decimal n

-- `YYYY-MM-DD`, with `-` in front of a year before the year 0
unfoldable pub date_text : Date → List ℕ
date_text d = sign_text (is_negative d.year) ++ (zero_padded 4 (unsigned_abs d.year)
    ++ 45 ∷ (zero_padded 2 d.month ++ 45 ∷ zero_padded 2 d.day))
