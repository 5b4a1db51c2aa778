-- A sweep over many streams: an event at the start and at the end of each range.
use Rattle.std.specs.Prelude.{ℕ, ◌+◌, ℤ, pos, ◌+ℤ◌, ◌≤ℤ◌, Bool, true, false, List, [], ◌∷◌, ◌++◌, map, Option, IfSome}
use Rattle.std.specs.Iterator.{YieldsFirstBy}
use Rattle.std.specs.List.Sorted.{IsPermutation}
use Rattle.std.specs.Range.{range_inclusive_start}
use Rattle.blaze_entries.specs.Entries.{Entry}
use Rattle.blaze_entries.specs.Whole.{IsWhole}
use Rattle.blaze_streams.specs.Events.{Event, Starts, Ends}
use Rattle.blaze_streams.specs.Ranges.{shown_range}
use Rattle.blaze_streams.specs.declared.events.sweep_event.SweepEvent.{SweepEvent}
use Rattle.blaze_streams.specs.declared.events.sweep_event.SweepEvent.TheVariants.{Start, End}

-- The time of an event. A start has twice the rank of its first key, and an end has twice the rank of its last key plus
-- one. So at one key all starts precede the ends.
abbrev pub time : {V : Type 0} → Event V → ℤ
time (Starts input e) = e.lo +ℤ e.lo
time (Ends input last) = (last +ℤ last) +ℤ pos 1

-- no event is earlier than the previous one
abbrev pub AscendInTime : {V : Type 0} → List (Event V) → Type 0
AscendInTime [] = Unit {0}
AscendInTime (e ∷ []) = Unit {0}
AscendInTime (e ∷ f ∷ fs) = (time e ≤ℤ time f) × AscendInTime (f ∷ fs)

-- the events of the input at a position: a start and an end for each of its entries
abbrev pub events_of : {V : Type 0} → ℕ → List (Entry V) → List (Event V)
events_of input [] = []
events_of input (e ∷ es) = Starts input e ∷ Ends input e.hi ∷ events_of input es

-- the events of many inputs, where the first has the position `input`
abbrev pub all_events : {V : Type 0} → ℕ → List (List (Entry V)) → List (Event V)
all_events input [] = []
all_events input (L ∷ Ls) = events_of input L ++ all_events (input + 1) Ls

-- each event of the lists once, ascending by time; events of the same time are in any order
pub record IsSweep {V : Type 0} (lists : List (List (Entry V))) (events : List (Event V)) : Type 0 where
  pub permutation : IsPermutation (all_events 0 lists) events
  pub ascending : AscendInTime events

-- ---- events as the code has them

-- an event of the code, with its keys given by their ranks
abbrev pub shown_event : {T C V : Type 0} → (T → ℤ) → (C → V) → SweepEvent T C → Event V
shown_event rank shown (Start range input carrier) = Starts input (shown_range rank shown (range, carrier))
shown_event rank shown (End last input) = Ends input (rank last)

abbrev pub shown_events : {T C V : Type 0} → (T → ℤ) → (C → V) → List (SweepEvent T C) → List (Event V)
shown_events rank shown events = map (shown_event rank shown) events

-- the range of a start was not iterated to its end
abbrev pub HasWholeRange : {T C : Type 0} → SweepEvent T C → Type 0
HasWholeRange (Start range input carrier) = IsWhole range
HasWholeRange (End last input) = Unit {0}

-- a call yielded the first remaining event, with its range whole
abbrev pub YieldsEvent : {T C V S : Type 0} → (T → ℤ) → (C → V) → (S → List (Event V)) → S → Option (SweepEvent T C) → S → Type 0
YieldsEvent rank shown rest s r t = YieldsFirstBy (shown_event rank shown) rest s r t × IfSome r HasWholeRange

-- the key of an event, and whether the event is an end
abbrev pub instant : {T C : Type 0} → SweepEvent T C → T × Bool
instant (Start range input carrier) = (range_inclusive_start range, false)
instant (End last input) = (last, true)
