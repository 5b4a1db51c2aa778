-- Equality of unit values obeys its laws.
use Rattle.blaze_entries.proofs.Words.{refl, IsEquivalence, unit_eq}

pub unit_laws : IsEquivalence unit_eq
unit_laws = record { refl = λ x. refl; symm = λ x y. refl; congr = λ x y z p. refl }
