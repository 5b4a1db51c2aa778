-- Closures that may fail.
use Rattle.range_map_blaze.proofs.Words.{ℤ, Bool, List, [], ◌∷◌, ap, Mut, FoldsTo, zip, Result, values, AnswersAtValue, ok_calls, ReturnsInOk, TryIsPlain}

module _ {F G A V W E : Type 0} (shows : A → V) (tries : Mut F A (Result W E)) (plain : Mut G A W) where
  -- the calls of the one that return `Ok` are calls of the other
  in_turn : (state : F → G) → ReturnsInOk tries plain state → (calls : List (V × W)) (f f' : F) → FoldsTo (λ j c k. AnswersAtValue shows (ok_calls tries) j c.0 c.1 k) f calls f' → FoldsTo (λ j c k. AnswersAtValue shows plain j c.0 c.1 k) (state f) calls (state f')
  in_turn state same [] f f' h = ap state h
  in_turn state same (c ∷ cs) f f' h =
      let answer = h.1 in
      let called = same.returns f h.0 answer.arguments c.1 (record { met = answer.called.met }) in
      (state h.0, record { arguments = answer.arguments; shown = answer.shown; called = called }, in_turn state same cs h.0 f' h.2)

  pub try_is_plain : (eq : W → W → Bool) (low high : ℤ) → TryIsPlain shows tries plain eq low high
  try_is_plain eq low high state f entries new same t = record {
    answers = t.answers;
    in_turn = record {
      last = state t.in_turn.last;
      count = t.in_turn.count;
      calls = in_turn state same (zip (values entries) t.answers) f t.in_turn.last t.in_turn.calls;
    };
    range_map = t.range_map;
    content = t.content;
  }
