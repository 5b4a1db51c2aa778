-- What is made of the items of an iterable.
use Rattle.std.specs.Prelude.{List, Option}
use Rattle.std.specs.Iterator.{Drains}

-- made of all the items, in order, that the iterable's iterator gives
abbrev pub CollectsItems : {U S A B : Type 0} → (U → S → Type 0) → (S → Option A → S → Type 0) → (List A → B → Type 0) → U → B → Type 0
CollectsItems {S = S} {A = A} becomes steps collects iter new = (it : S) × (items : List A) × becomes iter it × Drains steps it items × collects items new
