use Rattle.blaze_table.proofs.Words.{◌≡◌, ◌+◌, List, ◌≤ℤ◌, ◌<ℤ◌, length, ap, sym, subst, refl, ◌∙◌, arith, IsSome, option_map, ints, CountedEntries, range_in, last_below, start_at, with_end, without, Entry, IsLastBelow, IsCounted}
use Rattle.blaze_table.proofs.Fills.Joins.{joint_above, entry_before, none_last, none_starts, starts_here, joined, not_joined}
use Rattle.blaze_entries.proofs.EditLists.{length-with_end}
use Rattle.blaze_table.proofs.table.fill.join.join.Goals as goal

pub sub_one-requires : goal.sub_one-requires
sub_one-requires g c = record {
  above = joint_above g.V.PartialEq.eq g.met.V.Eq.laws g.T.Integer.low g.T.Integer.high (g.T.Integer.rank c.args.key) c.args.entries.now.entries c.requires.ordered c.requires.keys c.in_hand.ensures c.requires.joint;
}

pub remove-requires : goal.remove-requires
remove-requires g c = record {
  present =
      let rank = g.T.Integer.rank in
      let es = c.args.entries.now.entries in
      let seen = ap (λ (s : CountedEntries g.row.V.Denot). s.entries) c.in-Some.ensures.looked in
      let seen2 = ap (λ (s : CountedEntries g.row.V.Denot). s.entries) c.in-Some-range_at_or_below.ensures.looked ∙ seen in
      let up : rank c.args.key ≤ℤ rank c.in-Some.here.start = grind (arith, ints, c.is_at_most.ensures, c.if-is_at_most.true) in
      let two : IsLastBelow (rank c.args.key) (rank c.in-Some-range_at_or_below.below.start) (rank c.in-Some-range_at_or_below.below.end) es =
      subst (λ x. IsLastBelow (rank c.args.key) (rank c.in-Some-range_at_or_below.below.start) (rank c.in-Some-range_at_or_below.below.end) x) seen
      (subst (λ k. IsLastBelow k (rank c.in-Some-range_at_or_below.below.start) (rank c.in-Some-range_at_or_below.below.end) c.range_at_or_below.new.self.entries) c.sub_one.ensures c.in-Some-range_at_or_below.ensures.found) in
      let here = starts_here g.V.PartialEq.eq g.met.V.Eq.laws g.T.Integer.low g.T.Integer.high (rank c.args.key) es c.requires.ordered c.requires.keys c.in_hand.ensures c.requires.joint
      (rank c.in-Some.here.start) (rank c.in-Some.here.end) (rank c.in-Some-range_at_or_below.below.start) (rank c.in-Some-range_at_or_below.below.end) c.in-Some.ensures.found up two in
      subst (λ x. IsSome (start_at (rank c.args.key) x)) (sym seen2) (subst IsSome (sym here) refl);
}

pub returns-in-Some-range_at_or_below-clause-joined : goal.returns-in-Some-range_at_or_below-clause-joined
returns-in-Some-range_at_or_below-clause-joined g c =
    let rank = g.T.Integer.rank in
    let es = c.args.entries.now.entries in
    let seen = ap (λ (s : CountedEntries g.row.V.Denot). s.entries) c.in-Some.ensures.looked in
    let seen2 = ap (λ (s : CountedEntries g.row.V.Denot). s.entries) c.in-Some-range_at_or_below.ensures.looked ∙ seen in
    let out = ap (λ (s : CountedEntries g.row.V.Denot). s.entries) c.remove.ensures.entries in
    let moved_count = ap (λ (s : CountedEntries g.row.V.Denot). s.entries) c.set_end.ensures in
    let up : rank c.args.key ≤ℤ rank c.in-Some.here.start = grind (arith, ints, c.is_at_most.ensures, c.if-is_at_most.true) in
    let two : IsLastBelow (rank c.args.key) (rank c.in-Some-range_at_or_below.below.start) (rank c.in-Some-range_at_or_below.below.end) es =
    subst (λ x. IsLastBelow (rank c.args.key) (rank c.in-Some-range_at_or_below.below.start) (rank c.in-Some-range_at_or_below.below.end) x) seen
    (subst (λ k. IsLastBelow k (rank c.in-Some-range_at_or_below.below.start) (rank c.in-Some-range_at_or_below.below.end) c.range_at_or_below.new.self.entries) c.sub_one.ensures c.in-Some-range_at_or_below.ensures.found) in
    joined g.V.PartialEq.eq g.met.V.Eq.laws g.T.Integer.low g.T.Integer.high (rank c.args.key) es c.requires.ordered c.requires.keys c.in_hand.ensures c.requires.joint
    (rank c.in-Some.here.start) (rank c.in-Some.here.end) (rank c.in-Some-range_at_or_below.below.start) (rank c.in-Some-range_at_or_below.below.end) c.in-Some.ensures.found up two c.set_end.new.self.entries
    (moved_count ∙ ap (with_end (rank c.in-Some-range_at_or_below.below.start) (rank c.in-Some.here.end)) (out ∙ ap (without (rank c.args.key)) seen2))

pub returns-in_default-range_at_or_below-clause-joined : goal.returns-in_default-range_at_or_below-clause-joined
returns-in_default-range_at_or_below-clause-joined g c =
    let rank = g.T.Integer.rank in
    let seen = ap (λ (s : CountedEntries g.row.V.Denot). s.entries) c.in-Some.ensures.looked in
    absurd (entry_before g.V.PartialEq.eq g.met.V.Eq.laws g.T.Integer.low g.T.Integer.high (rank c.args.key) c.args.entries.now.entries c.requires.ordered c.requires.keys c.in_hand.ensures c.requires.joint
    (c.in_default-range_at_or_below.ensures.found ∙ ap (λ k. option_map range_in (last_below k c.range_at_or_below.new.self.entries)) c.sub_one.ensures ∙ ap (λ x. option_map range_in (last_below (rank c.args.key) x)) seen))

pub returns-else-is_at_most-clause-joined : goal.returns-else-is_at_most-clause-joined
returns-else-is_at_most-clause-joined g c =
    let rank = g.T.Integer.rank in
    let es = c.args.entries.now.entries in
    let under : rank c.in-Some.here.start <ℤ rank c.args.key = grind (arith, ints, c.is_at_most.ensures, c.if-is_at_most.false) in
    not_joined g.V.PartialEq.eq g.met.V.Eq.laws g.T.Integer.low g.T.Integer.high (rank c.args.key) es c.range_at_or_below.new.self.entries (ap (λ (s : CountedEntries g.row.V.Denot). s.entries) c.in-Some.ensures.looked) c.requires.ordered c.requires.keys
    (none_starts (rank c.args.key) g.T.Integer.low g.T.Integer.high (rank c.in-Some.here.start) (rank c.in-Some.here.end) es c.in_hand.ensures c.requires.ordered c.in-Some.ensures.found under)

pub returns-in_default-clause-joined : goal.returns-in_default-clause-joined
returns-in_default-clause-joined g c =
    let rank = g.T.Integer.rank in
    let es = c.args.entries.now.entries in
    not_joined g.V.PartialEq.eq g.met.V.Eq.laws g.T.Integer.low g.T.Integer.high (rank c.args.key) es c.range_at_or_below.new.self.entries (ap (λ (s : CountedEntries g.row.V.Denot). s.entries) c.in_default.ensures.looked) c.requires.ordered c.requires.keys
    (none_last (rank c.args.key) g.T.Integer.low g.T.Integer.high es c.in_hand.ensures c.in_default.ensures.found)

-- two lookups, a removed entry, and an entry with a new end
counted_joined : {V : Type 0} (old one two out new : CountedEntries V) (es fs : List (Entry V)) → one ≡ record old { looks = old.looks + 1 } → two ≡ record one { looks = one.looks + 1 }
    → out ≡ record two { entries = es; taken_out = two.taken_out + 1 } → length out.entries + 1 ≡ length two.entries → new ≡ record out { entries = fs } → length fs ≡ length out.entries → IsCounted old new
counted_joined {V} old one two out new es fs a b c shorter d same =
    let looks : new.looks ≡ old.looks + 2 = omega (arith, ap (λ (s : CountedEntries V). s.looks) a, ap (λ (s : CountedEntries V). s.looks) b, ap (λ (s : CountedEntries V). s.looks) c, ap (λ (s : CountedEntries V). s.looks) d) in
    let puts : new.put_in ≡ old.put_in = ap (λ (s : CountedEntries V). s.put_in) d ∙ ap (λ (s : CountedEntries V). s.put_in) c ∙ ap (λ (s : CountedEntries V). s.put_in) b ∙ ap (λ (s : CountedEntries V). s.put_in) a in
    let taken : new.taken_out ≡ old.taken_out + 1 = omega (arith, ap (λ (s : CountedEntries V). s.taken_out) a, ap (λ (s : CountedEntries V). s.taken_out) b, ap (λ (s : CountedEntries V). s.taken_out) c, ap (λ (s : CountedEntries V). s.taken_out) d) in
    let long : length new.entries + 1 ≡ length old.entries = omega (arith, ap (λ (s : CountedEntries V). length s.entries) a, ap (λ (s : CountedEntries V). length s.entries) b, ap (λ (s : CountedEntries V). length s.entries) d, shorter, same) in
    record { looks = omega (arith, looks); puts = omega (arith, puts); taken = omega (arith, taken); balance = omega (arith, long, puts, taken) }

pub returns-in-Some-range_at_or_below-clause-counted : goal.returns-in-Some-range_at_or_below-clause-counted
returns-in-Some-range_at_or_below-clause-counted g c =
    counted_joined _ _ _ _ _ _ _ c.in-Some.ensures.looked c.in-Some-range_at_or_below.ensures.looked c.remove.ensures.entries c.remove.ensures.shorter c.set_end.ensures
    (length-with_end (g.T.Integer.rank c.in-Some-range_at_or_below.below.start) (g.T.Integer.rank c.in-Some.here.end) c.remove.new.self.entries)
