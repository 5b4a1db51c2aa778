use Rattle.range_map_blaze.proofs.Words.{◌≡◌, ◌++◌, ℕ, List, Some, HasWritten, IsPlainFormatter, Utf8, shadow, entries_text, map_text}
use Rattle.range_map_blaze.proofs.display.RangeMapBlazeDisplay.fmt.Given as goal

-- where the whole text is known, what is written and the text of the other entries are the whole
abbrev pub invariant-loop-range : goal.invariant-loop-range
invariant-loop-range g l =
    (goal.iterator-loop-range g).can_next l.range-iterator
    × (goal.iterator-loop-range g).is_finite l.range-iterator
    × shadow (Utf8 l.lead)
    × (IsPlainFormatter l.initial.f → (whole : List ℕ) → map_text g.T.Debug.debug_output g.T.Integer.of_rank g.V.Debug.debug_output l.self.entries ≡ Some whole
    → (text rest : List ℕ) × HasWritten g.W.Write.write_str_gives l.initial.f text l.f
    × (entries_text g.T.Debug.debug_output g.T.Integer.of_rank g.V.Debug.debug_output l.lead l.range-iterator ≡ Some rest) × (text ++ rest ≡ whole))
