-- The calls of a closure that may fail.
use Rattle.std.specs.Fn.{Mut}
use Rattle.std.specs.Prelude.{Result, Ok}

-- the calls of a closure that return `Ok`, as calls that return the content; the closure may be called with the same
-- arguments
abbrev pub ok_calls : {F A W E : Type 0} → Mut F A (Result W E) → Mut F A W
ok_calls g = record {
  pre = g.pre;
  post = λ f a w. g.post f a (Ok w);
  steps = λ f a w f'. g.steps f a (Ok w) f';
}
