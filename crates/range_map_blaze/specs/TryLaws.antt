-- The law of closures that may fail.
use Rattle.std.specs.Prelude.{ℤ, Bool, List, Result, Ok}
use Rattle.std.specs.Fn.{Mut, Called}
use Rattle.blaze_entries.specs.Entries.{Entry}
use Rattle.blaze_streams.specs.Answers.{IsTransformed}
use Rattle.blaze_streams.specs.Fallible.{ok_calls}

-- where a call of one closure returns a value in `Ok`, a call of another returns that value; `state` is the other's state for
-- each state of the one
pub record ReturnsInOk {F G A W E : Type 0} (tries : Mut F A (Result W E)) (plain : Mut G A W) (state : F → G) : Type 0 where
  pub returns : (f f' : F) (arguments : A) (w : W) → Called tries f arguments (Ok w) f' → Called plain (state f) arguments w (state f')

-- a map of the results in `Ok` of the one closure at the values of a list is a map of the results of the other there
abbrev pub TryIsPlain : {F G A V W E : Type 0} → (A → V) → Mut F A (Result W E) → Mut G A W → (W → W → Bool) → ℤ → ℤ → Type 0
TryIsPlain {F} {G} {A} {V} {W} shows tries plain eq low high = (state : F → G) (f : F) (entries : List (Entry V)) (new : List (Entry W)) → ReturnsInOk tries plain state → IsTransformed shows (ok_calls tries) eq low high f entries new → IsTransformed shows plain eq low high (state f) entries new
