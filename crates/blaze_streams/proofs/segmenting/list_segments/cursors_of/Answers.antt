use Rattle.blaze_streams.proofs.Words.{◌≡◌, ◌∙◌, ◌++◌, ◌+◌, [], ◌∷◌, nat_eq, ap, drop, refl, sym, subst, append_assoc, from_index, AllCanonical, all_numbered, numbered}
use Rattle.blaze_streams.proofs.segmenting.list_segments.cursors_of.Goals as goal

pub loop-list-init : goal.loop-list-init
loop-list-init g c = record { numbered = rw c.new-cursors.ensures.items refl; canonical = c.requires }

pub places_of-requires : goal.places_of-requires
places_of-requires g c =
    let there = from_index c.args.lists.now c.loop-list.list-index c.list-item.result c.loop-list-test.true c.list-item.is in
    rw c.deref.ensures.value (subst (λ l. AllCanonical nat_eq (all_numbered g.T.Integer.rank l)) there c.loop-list.invariant.canonical).0

pub loop-list-preserved : goal.loop-list-preserved
loop-list-preserved g c =
    let rank = g.T.Integer.rank in
    let all = c.args.lists.now in
    let i = c.loop-list.list-index in
    let cursors = c.loop-list.cursors.items in
    let rest = all_numbered rank (drop (i + 1) all) in
    let there = from_index all i c.list-item.result c.loop-list-test.true c.list-item.is in
    let same : c.new.result ≡ numbered rank 0 c.list-item.result.items = c.new.ensures ∙ c.in_ok-places_of.ensures ∙ ap (numbered rank 0) c.deref.ensures.value in
    record {
      numbered = ap (λ xs. xs ++ rest) c.in_ok-push.ensures.items
          ∙ append_assoc cursors (c.new.result ∷ []) rest
          ∙ ap (λ o. cursors ++ o ∷ rest) same
          ∙ sym (ap (λ l. cursors ++ all_numbered rank l) there)
          ∙ c.loop-list.invariant.numbered;
      canonical = (subst (λ l. AllCanonical nat_eq (all_numbered rank l)) there c.loop-list.invariant.canonical).1;
    }
