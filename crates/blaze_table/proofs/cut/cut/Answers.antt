use Rattle.blaze_table.proofs.Words.{if_err, Some, None, ap, sym, subst, IsRangeCloned, CountedEntries, holder_of, same_none, IsKeyCut}
use Rattle.blaze_table.proofs.Cuts.CutEdits.{has_key, some_key, no_key, among_others}
use Rattle.blaze_table.proofs.Cuts.Cutting.{key_absent}
use Rattle.blaze_table.proofs.cut.cut.Goals as goal

pub returns-in_err-found-clause-none : goal.returns-in_err-found-clause-none
returns-in_err-found-clause-none g c = λ n.
    let rank = g.T.Integer.rank in
    let k = rank c.args.key in
    let es = c.args.entries.now.entries in
    absurd (some_key g.V.PartialEq.eq g.met.V.Eq.laws k g.T.Integer.low g.T.Integer.high es c.in_hand.ensures c.requires.table.canonical (has_key g.V.PartialEq.eq g.met.V.Eq.laws k g.T.Integer.low g.T.Integer.high es c.in_hand.ensures c.requires.table.canonical _ c.in_err-found.ensures.refused) n)

pub returns-in_err-found-clause-refused : goal.returns-in_err-found-clause-refused
returns-in_err-found-clause-refused g c =
    let rank = g.T.Integer.rank in
    let k = rank c.args.key in
    let es = c.args.entries.now.entries in
    let h = has_key g.V.PartialEq.eq g.met.V.Eq.laws k g.T.Integer.low g.T.Integer.high es c.in_hand.ensures c.requires.table.canonical _ c.in_err-found.ensures.refused in
    if_err c.from_residual.result (among_others g.V.PartialEq.eq g.met.V.Eq.laws k g.T.Integer.low g.T.Integer.high es c.in_hand.ensures c.requires.table.canonical h.of h.last h.up h.holds)

pub cut_counted_key-requires-clause-held : goal.cut_counted_key-requires-clause-held
cut_counted_key-requires-clause-held g c =
    let rank = g.T.Integer.rank in
    let k = rank c.args.key in
    let es = c.args.entries.now.entries in
    subst (λ xs. IsRangeCloned rank g.V.Clone.is_clone (holder_of k xs) (Some c.in-Some.entry)) (sym (ap (λ (s : CountedEntries g.row.V.Denot). s.entries) c.entry_containing.ensures.looked))
    (subst (IsRangeCloned rank g.V.Clone.is_clone (holder_of k es)) c.in-Some.is c.in_ok-found.ensures.held)

pub returns-in-None-clause-cut : goal.returns-in-None-clause-cut
returns-in-None-clause-cut g c =
    let rank = g.T.Integer.rank in
    let k = rank c.args.key in
    let es = c.args.entries.now.entries in
    let eq = g.V.PartialEq.eq in
    let laws = g.met.V.Eq.laws in
    let low = g.T.Integer.low in
    let high = g.T.Integer.high in
    let none = no_key eq laws k low high es c.in_hand.ensures c.requires.table.canonical (subst (IsRangeCloned rank g.V.Clone.is_clone (holder_of k es)) c.in-None.is c.in_ok-found.ensures.held) in
    subst (λ xs. IsKeyCut eq low high (g.T.SafeLen.SafeLength.number c.args.len) k None es xs) (sym (ap (λ (s : CountedEntries g.row.V.Denot). s.entries) c.entry_containing.ensures.looked))
    (record { table = c.requires.table; content = key_absent eq laws k es c.requires.table.canonical none; value = same_none eq _ none })

pub returns-in_err-value-in-Some-clause-none : goal.returns-in_err-value-in-Some-clause-none
returns-in_err-value-in-Some-clause-none g c = λ n.
    let rank = g.T.Integer.rank in
    let k = rank c.args.key in
    let es = c.args.entries.now.entries in
    absurd (some_key g.V.PartialEq.eq g.met.V.Eq.laws k g.T.Integer.low g.T.Integer.high es c.in_hand.ensures c.requires.table.canonical (has_key g.V.PartialEq.eq g.met.V.Eq.laws k g.T.Integer.low g.T.Integer.high es c.in_hand.ensures c.requires.table.canonical _ (subst (IsRangeCloned rank g.V.Clone.is_clone (holder_of k es)) c.in-Some.is c.in_ok-found.ensures.held)) n)

pub returns-in_ok-value-in-Some-clause-cut : goal.returns-in_ok-value-in-Some-clause-cut
returns-in_ok-value-in-Some-clause-cut g c =
    let number = g.T.SafeLen.SafeLength.number c.in_ok-value-in-Some.new_len in
    subst (λ (s : CountedEntries g.row.V.Denot). IsKeyCut g.V.PartialEq.eq g.T.Integer.low g.T.Integer.high number (g.T.Integer.rank c.args.key) (Some c.in_ok-value-in-Some.value) s.entries c.cut_counted_key.new.entries.entries)
    c.entry_containing.ensures.looked c.in_ok-value-in-Some.ensures.cut
