-- What a key of the range has: what the closure returns for its old value.
use Rattle.std.proofs.Common.{rules, ◌≡◌, sym, ℕ, pos, Some, None, ◌+◌}
use Rattle.range_map_blaze.proofs.Facts.{same_is}
use Rattle.proved_uses.proofs.counts.count_booking.Goals as goal

pub returns-clause-first : goal.returns-clause-first
returns-clause-first c = λ k from to none.
    sym (same_is _ _ ((c.in_ok-ranges_update.ensures.ok c.new.ensures.exhausted).inside (pos k) (search rules) (search rules) (Some 1) (λ a r f' called. search rules)))

pub returns-clause-more : goal.returns-clause-more
returns-clause-more c = λ k n from to some few.
    sym (same_is _ _ ((c.in_ok-ranges_update.ensures.ok c.new.ensures.exhausted).inside (pos k) (search rules) (search rules) (Some (n + 1)) (λ a r f' called. search rules)))
