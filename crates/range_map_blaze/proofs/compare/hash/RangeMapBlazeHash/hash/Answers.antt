use Rattle.range_map_blaze.proofs.Words.{◌≡◌, ◌∙◌, ap, sym, flat_map, fold, entry_input}
use Rattle.range_map_blaze.proofs.Order.Hashes.{fed_entry}
use Rattle.range_map_blaze.proofs.compare.hash.RangeMapBlazeHash.hash.Goals as goal

pub loop-start-preserved : goal.loop-start-preserved
loop-start-preserved g c =
    let write = g.H.Hasher.write in
    let rank = g.T.Integer.rank in
    let of_rank = g.T.Integer.of_rank in
    let key = g.T.Hash.hash_input in
    let value = g.V.Hash.hash_input in
    let input = entry_input (λ k. g.T.Hash.hash_input (g.T.Integer.of_rank k)) g.V.Hash.hash_input in
    let start_is : of_rank (rank c.in-Some.start) ≡ c.in-Some.start = g.met.T.Integer.ranked.one_key c.in-Some.start c.in_hand.ensures.from c.in_hand.ensures.to in
    let end_is : of_rank (rank c.in-Some.end) ≡ c.in-Some.end = g.met.T.Integer.ranked.one_key c.in-Some.end c.in_hand-in-loop-start.ensures.from c.in_hand-in-loop-start.ensures.to in
    let rest = flat_map input c.next.new.self in (
      tt,
      tt,
      fed_entry write c.loop-start.state c.hash.new.state c.hash-in-loop-start.new.state c.hash-in-loop-start-2.new.state (key (of_rank (rank c.in-Some.start))) (key (of_rank (rank c.in-Some.end))) (value c.in-Some.value.now) rest
          (c.hash.ensures ∙ ap (λ k. fold write c.loop-start.state (key k)) (sym start_is))
          (c.hash-in-loop-start.ensures ∙ ap (λ k. fold write c.hash.new.state (key k)) (sym end_is))
          c.hash-in-loop-start-2.ensures
          ∙ (ap (λ l. fold write c.loop-start.state (flat_map input l)) (sym c.in-Some.ensures.steps) ∙ c.loop-start.invariant.2),
    )
