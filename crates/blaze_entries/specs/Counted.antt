-- Counted entries as contracts see them: the list, and the work on it.
use Rattle.std.specs.Prelude.{ℕ, List, refl}
use Rattle.std.specs.Coded.{Coded, code_by, coded×, coded_ℕ, coded_list}
use Rattle.blaze_entries.specs.Entries.{Entry, entry_code}

-- the ascending entries, and the numbers of lookups, of inserted entries and of removed entries
pub record CountedEntries (V : Type 0) : Type 0 where
  pub entries : List (Entry V)
  pub looks : ℕ
  pub put_in : ℕ
  pub taken_out : ℕ

abbrev pub counted_code : {V : Type 0} → Coded V → Coded (CountedEntries V)
counted_code {V} v =
    code_by (List (Entry V) × (ℕ × (ℕ × ℕ))) (coded× (coded_list (entry_code v)) (coded× coded_ℕ (coded× coded_ℕ coded_ℕ)))
    (λ s. (s.entries, (s.looks, (s.put_in, s.taken_out))))
    (λ p. record { entries = p.0; looks = p.1.0; put_in = p.1.1.0; taken_out = p.1.1.1 }) (λ _. refl)

-- the entries with all counters at 0
abbrev pub uncounted : {V : Type 0} → List (Entry V) → CountedEntries V
uncounted es = record { entries = es; looks = 0; put_in = 0; taken_out = 0 }
