-- Facts about options and results.
use Rattle.std.proofs.Common.{◌≡◌, Bool, true, false, Option, Some, None, Result, Ok, Err, refl}
use Rattle.std.specs.Prelude.{IsSome, is_some, OnErr}

-- an option is `Some` or `None`, never both
pub none_is_not : {X : Type 0} (o : Option X) → o ≡ None → IsSome o → ⊥
none_is_not None p h = cc
none_is_not (Some x) p h = cc

pub some_is_not : {X : Type 0} (o : Option X) → IsSome o → o ≡ None → ⊥
some_is_not o h p = none_is_not o p h

pub some_none : {X : Type 0} {x : X} → Some x ≡ None → ⊥
some_none p = cc

pub same_value : {X : Type 0} (x y : X) → Some x ≡ Some y → x ≡ y
same_value x y p = cc

pub is_none : {X : Type 0} (o : Option X) → is_some o ≡ false → o ≡ None
is_none None n = refl
is_none (Some x) n = cc

-- a fact that does not depend on the error holds if the result is an error
pub if_err : {A E P : Type 0} (r : Result A E) → P → OnErr r P
if_err (Ok x) p = tt
if_err (Err e) p = p
