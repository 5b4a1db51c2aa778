use Rattle.range_map_cli.proofs.Words.{◌≡◌, ◌+◌, ◌*◌, ◌<◌, ◌≤◌, true, get_or, length, sym, refl, ap, ◌∙◌, arith, rules, list_all, is_ascii_digit, digit_value, digits_value, list_all_more, digits_value_more, nat_tests}
use Rattle.range_map_cli.proofs.Sessions.Texts.{room, top, take_whole, digit_is, digit_from_test, fits_19}
use Rattle.range_map_cli.proofs.request.digits.Goals as goal

pub overflow_mul-value : goal.overflow_mul-value
overflow_mul-value c = let high = top (c.loop-byte.value * 10 + 0) (c.loop-byte.byte-index + 1) (room c.loop-byte.value 0 c.loop-byte.byte-index c.loop-byte.invariant.small (omega arith)) (omega arith) in fits_19 (c.loop-byte.value * 10) (omega (arith, high))

pub overflow_add-value : goal.overflow_add-value
overflow_add-value c =
    let digit : is_ascii_digit (get_or c.args.text.now c.loop-byte.byte-index 0) ≡ true = sym c.is_ascii_digit.ensures.value ∙ search (rules, c.if-not-is_ascii_digit.false) in
    let bounds : (48 ≤ get_or c.args.text.now c.loop-byte.byte-index 0) × (get_or c.args.text.now c.loop-byte.byte-index 0 ≤ 57) = digit_from_test (get_or c.args.text.now c.loop-byte.byte-index 0) digit in
    let one : c.from.result < 10 = omega (arith, bounds) in
    fits_19 (c.loop-byte.value * 10 + c.from.result) (top (c.loop-byte.value * 10 + c.from.result) (c.loop-byte.byte-index + 1) (room c.loop-byte.value c.from.result c.loop-byte.byte-index c.loop-byte.invariant.small one) (omega arith))

pub loop-byte-preserved : goal.loop-byte-preserved
loop-byte-preserved c =
    let i = c.loop-byte.byte-index in
    let text = c.args.text.now in
    let inside : i < length text = omega arith in
    let test : is_ascii_digit (get_or text i 0) ≡ true = sym c.is_ascii_digit.ensures.value ∙ search (rules, c.if-not-is_ascii_digit.false) in
    let bounds : (48 ≤ get_or text i 0) × (get_or text i 0 ≤ 57) = digit_from_test (get_or text i 0) test in
    let one : c.from.result < 10 = omega (arith, bounds) in
    let digit : digit_value (get_or text i 0) ≡ c.from.result = digit_is (get_or text i 0) c.from.result bounds.0 (omega (arith, bounds), one) in
    record {
      digits = list_all_more is_ascii_digit text i 0 inside ∙ rw (c.loop-byte.invariant.digits) test;
      value = rw (digits_value_more 10 text i inside, digit, sym c.loop-byte.invariant.value) refl;
      small = room c.loop-byte.value c.from.result i c.loop-byte.invariant.small one;
    }

pub returns : goal.returns
returns c =
    let text = c.args.text.now in
    let whole = take_whole c.loop-byte.byte-index text (omega arith) in
    let all : list_all is_ascii_digit text ≡ true = ap (list_all is_ascii_digit) (sym whole) ∙ c.loop-byte.invariant.digits in
    (rw all (grind (arith, nat_tests)), c.loop-byte.invariant.value ∙ ap (digits_value 10) whole, top c.loop-byte.value c.loop-byte.byte-index c.loop-byte.invariant.small (omega arith))
