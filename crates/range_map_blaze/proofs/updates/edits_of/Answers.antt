use Rattle.range_map_blaze.proofs.Words.{canonical, Result, Ok, Err, ◌≡◌, ap, shown_option, rank_or_end, shown_list, TakesValue, KeepsValue}
use Rattle.range_map_blaze.proofs.Edits.Pieces.{all_asked, edits_made, at_last, takes_piece, keeps_piece}
use Rattle.range_map_blaze.proofs.updates.edits_of.Goals as goal

pub ask_up_to-requires : goal.ask_up_to-requires
ask_up_to-requires g c =
    let rank = g.T.Integer.rank in
    record {
      callable = at_last (λ a. shown_option (λ v. v.now) a.0) g.F.FnMut g.V.PartialEq.eq g.met.V.Eq.laws (rank c.args.start) (rank c.args.end) c.args.f c.args.table.now.entries
          (TakesValue (λ a. shown_option (λ v. v.now) a.0) g.F.FnMut) (takes_piece (λ a. shown_option (λ v. v.now) a.0) g.F.FnMut g.V.PartialEq.eq g.met.V.Eq.laws (rank c.args.start) (rank c.args.end) c.args.f c.args.table.now.entries c.requires.callable)
          (rank_or_end rank g.T.Integer.high c.in_ok-next.next) _ _ _ c.in_ok-next.ensures.asked;
    }

pub returns-clause-edits : goal.returns-clause-edits
returns-clause-edits g c =
    let rank = g.T.Integer.rank in
    let eq = g.V.PartialEq.eq in
    let es = c.args.table.now.entries in
    let asked = c.in_ok-next.ensures.asked in
    let all = all_asked (λ a. shown_option (λ v. v.now) a.0) g.F.FnMut eq g.met.V.Eq.laws (rank c.args.start) (rank c.args.end) c.args.f es (rank_or_end rank g.T.Integer.high c.in_ok-next.next) _ _ _ _ _ asked c.in_ok-ask_up_to.ensures.asked in
    edits_made (λ a. shown_option (λ v. v.now) a.0) g.F.FnMut eq g.met.V.Eq.laws (rank c.args.start) (rank c.args.end) c.args.f es
    (canonical eq g.met.V.Eq.laws es c.in_hand.ensures.runs) _ _ _ _ asked.are_pieces (ap (shown_list rank) c.new.ensures.items) all

ok_is_no_err : {A E : Type 0} {r : Result A E} {a : A} {e : E} → r ≡ Ok a → r ≡ Err e → ⊥
ok_is_no_err good bad = cc

-- where each call returns the old value, no call fails
pub returns-in_err-ask_up_to-clause-steady : goal.returns-in_err-ask_up_to-clause-steady
returns-in_err-ask_up_to-clause-steady g c = λ keeps.
    let rank = g.T.Integer.rank in
    let good = c.ask_up_to.ensures.steady (at_last (λ a. shown_option (λ v. v.now) a.0) g.F.FnMut g.V.PartialEq.eq g.met.V.Eq.laws (rank c.args.start) (rank c.args.end) c.args.f c.args.table.now.entries
    (KeepsValue (λ a. shown_option (λ v. v.now) a.0) g.F.FnMut g.V.PartialEq.eq) (keeps_piece (λ a. shown_option (λ v. v.now) a.0) g.F.FnMut g.V.PartialEq.eq g.met.V.Eq.laws (rank c.args.start) (rank c.args.end) c.args.f c.args.table.now.entries keeps)
    (rank_or_end rank g.T.Integer.high c.in_ok-next.next) _ _ _ c.in_ok-next.ensures.asked) in
    absurd (ok_is_no_err good c.in_err-ask_up_to.was)
