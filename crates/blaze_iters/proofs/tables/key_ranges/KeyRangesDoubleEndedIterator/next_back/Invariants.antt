use Rattle.blaze_iters.proofs.Words.{◌≡◌, ◌∷◌, ◌++◌, [], Some, None, length, entry, joined_ranges, bare_entries}
use Rattle.blaze_iters.proofs.tables.key_ranges.KeyRangesDoubleEndedIterator.next_back.Given as goal

-- the remaining entries are followed by a range from `start` to `end`
abbrev pub invariant-loop-previous : goal.invariant-loop-previous
invariant-loop-previous g l =
    let rank = g.T.Integer.rank in
    record {
      first : l.self-inside.open ≡ Some (l.first, l.first_end);
      none : l.self-inside.back ≡ None;
      left : joined_ranges (rank l.first) (rank l.first_end) (bare_entries (g.I.EntryEnds.left l.self-inside.entries) ++ entry (rank l.start) (rank l.end) tt ∷ []) ≡ l.fn.self;
    }

abbrev pub decreases-loop-previous : goal.decreases-loop-previous
decreases-loop-previous g l = length (g.I.EntryEnds.left l.self-inside.entries)
