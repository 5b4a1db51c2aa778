use Rattle.blaze_streams.proofs.Words.{◌≡◌, ◌∙◌, ◌++◌, ◌+◌, [], ◌∷◌, ap, drop, refl, sym, subst, append_assoc, at, from_index, AllReach, row}
use Rattle.blaze_streams.proofs.Rows.{shown_copied}
use Rattle.blaze_streams.proofs.segmenting.cursors.row_at.Goals as goal

pub loop-list-preserved : goal.loop-list-preserved
loop-list-preserved g c =
    let key = g.T.Integer.rank c.args.key in
    let all = c.args.lists.now in
    let i = c.loop-list.list-index in
    let found = c.loop-list.found.items in
    let rest = row (drop (i + 1) all) key in
    let there = from_index all i c.list-item.result c.loop-list-test.true c.list-item.is in
    let same : c.copied.result ≡ at c.list-item.result key = c.copied.ensures ∙ sym (shown_copied c.here.result) ∙ c.here.ensures in
    record {
      found = ap (λ xs. xs ++ rest) c.in_ok-push.ensures.items
          ∙ append_assoc found (c.copied.result ∷ []) rest
          ∙ ap (λ o. found ++ o ∷ rest) same
          ∙ sym (ap (λ l. found ++ row l key) there)
          ∙ c.loop-list.invariant.found;
      reach = (subst (AllReach key) there c.loop-list.invariant.reach).1;
    }

pub loop-list-init : goal.loop-list-init
loop-list-init g c = record { found = rw c.new-found.ensures.items refl; reach = c.requires.reach }

pub here-requires : goal.here-requires
here-requires g c = record {
  reaches =
      (subst (AllReach (g.T.Integer.rank c.args.key)) (from_index c.args.lists.now c.loop-list.list-index c.list-item.result c.loop-list-test.true c.list-item.is) c.loop-list.invariant.reach).0;
}
