-- An event of a sweep, and its representation in the logic.
use Rattle.std.proofs.Common.{inl, inr}
use Rattle.std.specs.Prelude.{◌≡◌, ℕ, ℤ, ◌⊎◌, refl}
use Rattle.std.specs.Coded.{Coded, code_by, coded×, coded⊎, coded_ℕ, coded_ℤ}
use Rattle.blaze_entries.specs.Entries.{Entry, entry_code}

-- an event of the input at a position: one of its entries starts, or the entry with this last key ends
pub data Event (V : Type 0) : Type 0 where
  Starts : ℕ → Entry V → Event V
  Ends : ℕ → ℤ → Event V

-- ---- the representation of an event in the logic, which no clause uses

abbrev event_cases : {V : Type 0} → Event V → (ℕ × Entry V) ⊎ (ℕ × ℤ)
event_cases (Starts input e) = inl (input, e)
event_cases (Ends input last) = inr (input, last)

abbrev event_from_cases : {V : Type 0} → (ℕ × Entry V) ⊎ (ℕ × ℤ) → Event V
event_from_cases (inl p) = Starts p.0 p.1
event_from_cases (inr p) = Ends p.0 p.1

pub event_from_cases-event_cases : {V : Type 0} (event : Event V) → event_from_cases (event_cases event) ≡ event
event_from_cases-event_cases (Starts input e) = refl
event_from_cases-event_cases (Ends input last) = refl

abbrev pub event_code : {V : Type 0} → Coded V → Coded (Event V)
event_code {V} v =
    code_by ((ℕ × Entry V) ⊎ (ℕ × ℤ)) (coded⊎ (coded× coded_ℕ (entry_code v)) (coded× coded_ℕ coded_ℤ)) event_cases
    event_from_cases event_from_cases-event_cases
