use Rattle.blaze_table.proofs.Words.{nat_of, ◌≡◌, ◌<◌, ℤ, refl, sym, ap, subst, pos, ◌+ℤ◌, ◌-ℤ◌, ◌≤ℤ◌, ◌<ℤ◌, arith, ◌∙◌, ints, nat_of-pos, lt_holds, lt_fails, keys_in, KeepsMore, pairs_from, AnswersAtPair, TakesPair, shown_list}
use Rattle.blaze_table.proofs.Pairs.AtPairs.{all_at}
use Rattle.blaze_table.proofs.Pairs.Keeping.{more_none, more_next}
use Rattle.blaze_table.proofs.table.retain.keep_keys.Goals as goal

-- ---- the numbers of a loop over the keys from lo to hi: k is the key, r the next

-- a key of the range is one of its keys, counted from lo
within : (lo hi k : ℤ) → lo ≤ℤ hi → k ≤ℤ hi → k <ℤ (lo +ℤ pos (nat_of (hi -ℤ lo +ℤ pos 1)))
within lo hi k w u = let n = nat_of-pos (hi -ℤ lo +ℤ pos 1) (omega (arith, ints)) in omega (arith, ints)

at_most : (a b : ℤ) → a <ℤ b → a ≤ℤ b
at_most a b u = omega (arith, ints)

met : (a b : ℤ) → a ≤ℤ b → b ≤ℤ a → a ≡ b
met a b p q = omega (arith, ints)

-- the next key is above lo, and at most hi
next_from : (lo k r : ℤ) → r ≡ k +ℤ pos 1 → lo ≤ℤ k → lo ≤ℤ r
next_from lo k r e p = omega (arith, ints)

next_to : (hi k r : ℤ) → r ≡ k +ℤ pos 1 → k <ℤ hi → r ≤ℤ hi
next_to hi k r e p = omega (arith, ints)

next_gone : (lo k r : ℤ) → r ≡ k +ℤ pos 1 → r -ℤ lo ≡ (k -ℤ lo) +ℤ pos 1
next_gone lo k r e = omega (arith, ints)

-- the number of remaining keys, before and after a key
some_left : (hi k left : ℤ) → k ≤ℤ hi → (hi -ℤ k +ℤ pos 1) ≤ℤ left → pos 1 ≤ℤ left
some_left hi k left p q = omega (arith, ints)

next_left : (hi k r left next : ℤ) → r ≡ k +ℤ pos 1 → (hi -ℤ k +ℤ pos 1) ≤ℤ left → left ≤ℤ (next +ℤ pos 1) → (hi -ℤ r +ℤ pos 1) ≤ℤ next
next_left hi k r left next e p q = omega (arith, ints)

-- n keys were counted, and m after one more
next_counted : (left next len old mid new n m : ℤ) → left +ℤ old +ℤ n ≡ len +ℤ mid → next +ℤ mid +ℤ pos 1 ≡ left +ℤ new → m ≡ n +ℤ pos 1 → next +ℤ old +ℤ m ≡ len +ℤ new
next_counted left next len old mid new n m p q e = omega (arith, ints)

none_counted : (len old lo : ℤ) → len +ℤ old +ℤ (lo -ℤ lo) ≡ len +ℤ old
none_counted len old lo = omega (arith, ints)

nearer : (hi k r : ℤ) → r ≡ k +ℤ pos 1 → k <ℤ hi → nat_of (hi -ℤ r) < nat_of (hi -ℤ k)
nearer hi k r e p =
    let old = nat_of-pos (hi -ℤ k) (omega (arith, ints)) in
    let new = nat_of-pos (hi -ℤ r) (omega (arith, ints)) in
    omega (arith, ints)

pub keep_key-requires-clause-callable : goal.keep_key-requires-clause-callable
keep_key-requires-clause-callable g c =
    let rank = g.T.Integer.rank in
    let lo = rank c.args.start in
    let hi = rank c.args.end in
    let i = c.loop-end.invariant in
    let less = lt_holds (rank c.loop-end.key) hi (sym c.is_below.ensures ∙ c.loop-end-test.true) in
    all_at g.T.Integer.of_rank (TakesPair g.F.Fn c.args.f.now) lo _ c.args.value.now (rank c.loop-end.key) c.requires.callable i.from
    (within lo hi (rank c.loop-end.key) c.requires.order (at_most (rank c.loop-end.key) hi less))

pub keep_key-requires-2-clause-callable : goal.keep_key-requires-2-clause-callable
keep_key-requires-2-clause-callable g c =
    let rank = g.T.Integer.rank in
    let lo = rank c.args.start in
    let i = c.loop-end.invariant in
    all_at g.T.Integer.of_rank (TakesPair g.F.Fn c.args.f.now) lo _ c.args.value.now (rank c.loop-end.key) c.requires.callable i.from
    (within lo (rank c.args.end) (rank c.loop-end.key) c.requires.order i.to)

pub loop-end-preserved : goal.loop-end-preserved
loop-end-preserved g c =
    let rank = g.T.Integer.rank in
    let lo = rank c.args.start in
    let hi = rank c.args.end in
    let k = rank c.loop-end.key in
    let r = rank c.add_one-key.result in
    let next = c.add_one-key.ensures in
    let i = c.loop-end.invariant in
    let one = c.in_ok-left.ensures in
    let number = g.T.SafeLen.SafeLength.number in
    let left = pos (number c.loop-end.left) in
    let fewer = pos (number c.in_ok-left.left) in
    let old = keys_in (shown_list rank c.args.out.now.items) in
    let mid = keys_in (shown_list rank c.loop-end.out.items) in
    let new = keys_in (shown_list rank c.keep_key.new.out.items) in
    let less = lt_holds k hi (sym c.is_below.ensures ∙ c.loop-end-test.true) in
    record {
      from = next_from lo k r next i.from;
      to = next_to hi k r next less;
      kept = more_next (AnswersAtPair g.F.Fn) c.args.f.now rank g.V.PartialEq.eq g.T.Integer.low g.T.Integer.high g.T.Integer.of_rank lo k r c.args.value.now _ _ _
          i.from next i.kept one.kept;
      room = next_left hi k r left fewer next i.room one.room;
      counted = next_counted left fewer (pos (number c.args.len)) old mid new (k -ℤ lo) (r -ℤ lo) i.counted one.counted (next_gone lo k r next);
    }

pub returns-clause-kept : goal.returns-clause-kept
returns-clause-kept g c =
    let rank = g.T.Integer.rank in
    let lo = rank c.args.start in
    let hi = rank c.args.end in
    let k = rank c.loop-end.key in
    let i = c.loop-end.invariant in
    let end = met k hi i.to (lt_fails k hi (sym c.is_below.ensures ∙ c.loop-end-test.false)) in
    let all = more_next (AnswersAtPair g.F.Fn) c.args.f.now rank g.V.PartialEq.eq g.T.Integer.low g.T.Integer.high g.T.Integer.of_rank lo k (hi +ℤ pos 1) c.args.value.now _ _ _
    i.from (ap (λ z. z +ℤ pos 1) (sym end)) i.kept c.in_ok-left-2.ensures.kept in
    subst (λ n. KeepsMore (AnswersAtPair g.F.Fn) c.args.f.now rank g.V.PartialEq.eq g.T.Integer.low g.T.Integer.high (pairs_from g.T.Integer.of_rank lo n c.args.value.now) lo (hi +ℤ pos 1) (shown_list rank c.args.out.now.items) (shown_list rank c.keep_key-2.new.out.items)) (ap nat_of (next_gone lo hi (hi +ℤ pos 1) refl)) all

pub returns-clause-counted : goal.returns-clause-counted
returns-clause-counted g c =
    let rank = g.T.Integer.rank in
    let lo = rank c.args.start in
    let hi = rank c.args.end in
    let k = rank c.loop-end.key in
    let i = c.loop-end.invariant in
    let end = met k hi i.to (lt_fails k hi (sym c.is_below.ensures ∙ c.loop-end-test.false)) in
    let number = g.T.SafeLen.SafeLength.number in
    let left = pos (number c.loop-end.left) in
    let fewer = pos (number c.in_ok-left-2.left) in
    let old = keys_in (shown_list rank c.args.out.now.items) in
    let mid = keys_in (shown_list rank c.loop-end.out.items) in
    let new = keys_in (shown_list rank c.keep_key-2.new.out.items) in
    next_counted left fewer (pos (number c.args.len)) old mid new (k -ℤ lo) (hi -ℤ lo +ℤ pos 1) i.counted c.in_ok-left-2.ensures.counted (ap (λ z. (z -ℤ lo) +ℤ pos 1) (sym end))

pub loop-end-init : goal.loop-end-init
loop-end-init g c =
    let rank = g.T.Integer.rank in
    let lo = rank c.args.start in
    record {
      from = same lo;
      to = c.requires.order;
      kept = more_none (AnswersAtPair g.F.Fn) c.args.f.now rank g.V.PartialEq.eq g.T.Integer.low g.T.Integer.high g.T.Integer.of_rank lo c.args.value.now _;
      room = c.requires.counted;
      counted = none_counted (pos (g.T.SafeLen.SafeLength.number c.args.len)) (keys_in (shown_list rank c.args.out.now.items)) lo;
    }
  where
    same : (a : ℤ) → a ≤ℤ a
    same a = omega (arith, ints)

pub keep_key-requires-clause-counted : goal.keep_key-requires-clause-counted
keep_key-requires-clause-counted g c =
    let rank = g.T.Integer.rank in
    let hi = rank c.args.end in
    let k = rank c.loop-end.key in
    let less = lt_holds k hi (sym c.is_below.ensures ∙ c.loop-end-test.true) in
    some_left hi k (pos (g.T.SafeLen.SafeLength.number c.loop-end.left)) (at_most k hi less) c.loop-end.invariant.room

pub add_one-key-requires : goal.add_one-key-requires
add_one-key-requires g c = record {
  below =
      let rank = g.T.Integer.rank in
      let less = lt_holds (rank c.loop-end.key) (rank c.args.end) (sym c.is_below.ensures ∙ c.loop-end-test.true) in
      omega (arith, ints, less, c.in_hand.ensures.to);
}

pub loop-end-smaller : goal.loop-end-smaller
loop-end-smaller g c =
    let rank = g.T.Integer.rank in
    let less = lt_holds (rank c.loop-end.key) (rank c.args.end) (sym c.is_below.ensures ∙ c.loop-end-test.true) in
    nearer (rank c.args.end) (rank c.loop-end.key) (rank c.add_one-key.result) c.add_one-key.ensures less

pub keep_key-requires-2-clause-counted : goal.keep_key-requires-2-clause-counted
keep_key-requires-2-clause-counted g c =
    some_left (g.T.Integer.rank c.args.end) (g.T.Integer.rank c.loop-end.key) (pos (g.T.SafeLen.SafeLength.number c.loop-end.left)) c.loop-end.invariant.to c.loop-end.invariant.room
