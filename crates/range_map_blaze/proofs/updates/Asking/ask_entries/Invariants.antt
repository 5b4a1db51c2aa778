use Rattle.range_map_blaze.proofs.Words.{shown_option, rank_or_end, shown_list}
use Rattle.range_map_blaze.proofs.Edits.Pieces.{IsWalked}
use Rattle.range_map_blaze.proofs.updates.Asking.ask_entries.Given as goal

-- the function was called at the pieces before the key `next`, and the entries that are left are those on the keys from there on
abbrev pub invariant-loop-first : goal.invariant-loop-first
invariant-loop-first g l =
    let rank = g.T.Integer.rank in
    (goal.iterator-loop-first g).can_next l.first-iterator
    × (goal.iterator-loop-first g).is_finite l.first-iterator
    × IsWalked (λ a. shown_option (λ v. v.now) a.0) g.F.FnMut g.V.PartialEq.eq g.met.V.Eq.laws (rank l.fn.start) (rank l.fn.end) l.fn.self.f l.fn.table.entries
    (rank_or_end rank g.T.Integer.high l.next) l.first-iterator l.self.f (shown_list rank l.fn.self.edits.items) (shown_list rank l.self.edits.items)
