use Rattle.blaze_streams.proofs.Words.{◌≡◌, ◌∙◌, ◌++◌, ap, nat_eq, sym, subst, append-nil, drop_all, nat_eq_equiv, IsCanonical, entry, from_index, one_per_run, shown_ranges, shown_range, numbered}
use Rattle.blaze_streams.proofs.Numbered.{placed_more, keys_more}
use Rattle.blaze_streams.proofs.segmenting.list_segments.places_of.Goals as goal

pub loop-i-preserved : goal.loop-i-preserved
loop-i-preserved g c =
    let rank = g.T.Integer.rank in
    let all = c.args.ranges.now in
    let i = c.loop-i.i in
    let r = c.index-ranges-i.result in
    let here = from_index all i r c.loop-i-test.true c.index-ranges-i.is in
    let shown : shown_range rank (λ j. j) (c.new.result, i) ≡ entry (rank r.0) (rank r.1) i = ap (λ x. entry (rank x) (rank c.new.result.end) i) c.new.ensures.start ∙ ap (λ x. entry (rank r.0) (rank x) i) c.new.ensures.end in
    record {
      numbered = placed_more rank all i r c.loop-i.found.items c.push.new.self.items (c.new.result, i) c.in_ok-push.ensures.items shown here c.loop-i.invariant.numbered;
      keys = keys_more rank g.T.Integer.low g.T.Integer.high r c.loop-i.found.items c.push.new.self.items (c.new.result, i) i c.in_ok-push.ensures.items shown c.in_hand.ensures.from c.in_hand-in-loop-i.ensures.to c.loop-i.invariant.keys;
    }

pub new-requires-2 : goal.new-requires-2
new-requires-2 g c =
    let rank = g.T.Integer.rank in
    let all = c.args.ranges.now in
    let seen = shown_ranges rank (λ j. j) c.loop-i.found.items in
    let none = ap (numbered rank c.loop-i.i) (drop_all c.loop-i.i all c.loop-i-test.false) in
    let whole : seen ≡ numbered rank 0 all = sym (append-nil seen) ∙ ap (λ es. seen ++ es) (sym none) ∙ c.loop-i.invariant.numbered in
    record { range_map = record { runs = one_per_run nat_eq nat_eq_equiv seen (subst (IsCanonical nat_eq) (sym whole) c.requires); keys = c.loop-i.invariant.keys } }
