use Rattle.range_map_blaze.proofs.Words.{◌≡◌, true, IfOk-weaker, is_joined, each_then, joined_all}
use Rattle.range_map_blaze.proofs.joins.joined.Goals as goal

pub answers_at-requires-clause-have : goal.answers_at-requires-clause-have
answers_at-requires-clause-have g c =
    each_then (λ p. is_joined c.args.kind p.0 p.1 ≡ true) g.C.Asks.has_arguments c.requires.have _
    (joined_all g.V.PartialEq.eq g.V2.PartialEq.eq c.args.kind g.T.Integer.low g.T.Integer.high _ _ _ g.met.V.Eq.laws g.met.V2.Eq.laws c.in_ok-segments.ensures)

pub answers_at-requires-clause-callable : goal.answers_at-requires-clause-callable
answers_at-requires-clause-callable g c = c.requires.callable.at _ c.in_ok-segments.ensures

pub returns : goal.returns
returns g c = IfOk-weaker c.answers_at.result _ _ (λ map made. (record { segments = _; are_segments = c.in_ok-segments.ensures; answered = made.0 }, made.1)) c.answers_at.ensures
