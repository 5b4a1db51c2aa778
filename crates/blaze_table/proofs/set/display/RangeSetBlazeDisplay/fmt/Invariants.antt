use Rattle.blaze_table.proofs.Words.{◌≡◌, ◌++◌, ℕ, List, Some, HasWritten, IsPlainFormatter, Utf8, shadow, ranges_text, set_text}
use Rattle.blaze_table.proofs.set.display.RangeSetBlazeDisplay.fmt.Given as goal

-- if the whole text is known, it is the written text followed by the text of the other ranges
abbrev pub invariant-loop-range : goal.invariant-loop-range
invariant-loop-range g l =
    (goal.iterator-loop-range g).can_next l.range-iterator
    × (goal.iterator-loop-range g).is_finite l.range-iterator
    × shadow (Utf8 l.lead)
    × (IsPlainFormatter l.initial.f → (whole : List ℕ) → set_text g.T.Debug.debug_output g.T.Integer.of_rank l.self ≡ Some whole
    → (text rest : List ℕ) × HasWritten g.W.Write.write_str_gives l.initial.f text l.f
    × (ranges_text g.T.Debug.debug_output g.T.Integer.of_rank l.lead l.range-iterator ≡ Some rest) × (text ++ rest ≡ whole))
