use Rattle.std.proofs.Common.{◌≡◌, ℕ, ◌-◌, ◌^◌, false, [], refl, sym, ◌∙◌, arith, rules, to_z, of_z, w16, ℤ, unsigned_abs}
use Rattle.std.proofs.Padding.{padded_integral_zeros}
use Rattle.std.specs.Fmt.{decimal, format_spec, padded_integral, sign_text}
use Rattle.std.specs.Int.{is_negative}
use Rattle.jiff_core.specs.Calendar.{IsYear}
use Rattle.jiff_core.proofs.DateLemmas.{epoch_day_injective}
use Rattle.jiff_core.proofs.SignedLemmas.{back_small, one_part, signed_arith}
use Rattle.demo_keys.specs.Dates.{date_text, zero_padded}
use Rattle.demo_keys.proofs.dates.DayDisplay.fmt.Goals as goal
use Rattle.demo_keys.proofs.dates.DayDisplay.fmt.Goals.{then-year-lt0, else-year-lt0}

-- what `{:04}` and `{:02}` write
zeros : (width n : ℕ) → padded_integral (format_spec 32 0 4 width (2 ^ 64 - 1)) false [] (decimal n) ≡ zero_padded width n
unfolding zero_padded
zeros width n = padded_integral_zeros (format_spec 32 0 4 width (2 ^ 64 - 1)) (decimal n) refl refl

-- a year fits into 16 bits
kept : (year : ℤ) → IsYear year → to_z w16 (of_z w16 year) ≡ year
kept year range = back_small w16 year (omega (arith, signed_arith, one_part year))

pub returns : goal.returns
unfolding date_text
returns g c = record {
  text = λ date e plain ok.
      let same = epoch_day_injective date c.from-year.result (e ∙ sym c.from-year.ensures) in
      let sign : c.if-year-lt0.sign.now ≡ sign_text (is_negative c.from-year.result.year) =
      elim c.if-year-lt0.branch [
        | then-year-lt0 w ↦ search rules
        | else-year-lt0 w ↦ search rules
      ] in
      let year = c.from-year.result.year in
      let abs : c.unsigned_abs-year.result ≡ unsigned_abs year = rw (kept year c.from-year.result.year_in) at c.unsigned_abs-year.ensures.value in
      let styled = rw (c.laid_out.ensures, c.laid_out-2.ensures, c.laid_out-3.ensures) at c.write.ensures.writes plain ok in
      let wrote = rw (zeros 4 c.unsigned_abs-year.result, zeros 2 c.from-year.result.month, zeros 2 c.from-year.result.day, sign, abs) at styled in
      rw (same.0, same.1, same.2) wrote;
}
