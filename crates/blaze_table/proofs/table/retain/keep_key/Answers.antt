use Rattle.blaze_table.proofs.Words.{sym, subst, refl, arith, ints, AnswersAtPair}
use Rattle.blaze_table.proofs.Pairs.Keeping.{keys_added, more_no, more_yes}
use Rattle.blaze_table.proofs.table.retain.keep_key.Goals as goal

pub f-stays-requires : goal.f-stays-requires
f-stays-requires g c = c.requires.callable _ _ (sym (g.met.T.Integer.ranked.one_key c.args.key c.in_hand.ensures.from c.in_hand.ensures.to)) refl

pub returns-then-not-stays-clause-kept : goal.returns-then-not-stays-clause-kept
returns-then-not-stays-clause-kept g c =
    let rank = g.T.Integer.rank in
    let key = g.T.Integer.of_rank (rank c.args.key) in
    let answer : AnswersAtPair g.F.Fn c.args.f.now (key, c.args.value.now) c.f-stays.result c.args.f.now = record {
      key = _;
      value = _;
      asked = sym (g.met.T.Integer.ranked.one_key c.args.key c.in_hand.ensures.from c.in_hand.ensures.to);
      stored = refl;
      says = record { met = c.f-stays.ensures };
      same = refl;
    } in
    more_no (AnswersAtPair g.F.Fn) c.args.f.now rank g.V.PartialEq.eq g.T.Integer.low g.T.Integer.high (key, c.args.value.now) (rank c.args.key) _
    (subst (λ b. AnswersAtPair g.F.Fn c.args.f.now (key, c.args.value.now) b c.args.f.now) c.if-not-stays.true answer)

pub returns-clause-kept : goal.returns-clause-kept
returns-clause-kept g c =
    let rank = g.T.Integer.rank in
    let key = g.T.Integer.of_rank (rank c.args.key) in
    let is = g.met.T.Integer.ranked.one_key c.args.key c.in_hand.ensures.from c.in_hand.ensures.to in
    let answer : AnswersAtPair g.F.Fn c.args.f.now (key, c.args.value.now) c.f-stays.result c.args.f.now = record {
      key = _;
      value = _;
      asked = sym is;
      stored = refl;
      says = record { met = c.f-stays.ensures };
      same = refl;
    } in
    more_yes (AnswersAtPair g.F.Fn) c.args.f.now rank g.V.PartialEq.eq g.T.Integer.low g.T.Integer.high g.met.V.Eq.laws (key, c.args.value.now) (rank c.args.key) _ _
    (λ i. rank (is i)) c.in_hand.ensures.from c.in_hand.ensures.to
    (subst (λ b. AnswersAtPair g.F.Fn c.args.f.now (key, c.args.value.now) b c.args.f.now) c.if-not-stays.false answer) c.in_ok-put_key.ensures

pub returns-clause-counted : goal.returns-clause-counted
returns-clause-counted g c = let more = keys_added g.V.PartialEq.eq (g.T.Integer.rank c.args.key) c.args.value.now _ _ c.in_ok-put_key.ensures in omega (arith, ints, more)
