-- The events of a sweep, appended one by one and sorted.
use Rattle.blaze_streams.proofs.Words.{◌≡◌, ℕ, ◌+◌, ℤ, pos, ◌+ℤ◌, ◌≤ℤ◌, Bool, true, false, List, [], ◌∷◌, ◌++◌, All, IsPermutation, refl, ◌∙◌, sym, ap, subst, arith, IsSortedByKey, is_lt, int_cmp, bool_cmp, ordering_then, Ordering, Less, Equal, Greater, RangeInclusive, range_inclusive_start, range_inclusive_end, ints, by_lt_z, map-append, All-nil, All-cons, All-head, All-tail, All-append, IsPermutation-map, All-permutation, IsDisjoint, AreKeys, IsRangeMap, Entry, tail_sorted, not_less, Event, Starts, Ends, shown_range, time, AscendInTime, events_of, all_events, IsSweep, shown_event, shown_events, instant, SweepEvent, Start, End}
use Rattle.std.proofs.Common.{append-nil}
use Rattle.std.proofs.lemmas.List.{append_assoc}

-- the key of an event
abbrev pub key_of : {V : Type 0} → Event V → ℤ
key_of (Starts input e) = e.lo
key_of (Ends input last) = last

-- the event's key is a key of the type
abbrev pub HasKey : {V : Type 0} → ℤ → ℤ → Event V → Type 0
HasKey low high event = (low ≤ℤ key_of event) × (key_of event ≤ℤ high)

keys_of_events : {V : Type 0} (low high : ℤ) (input : ℕ) (es : List (Entry V)) → IsDisjoint es → AreKeys low high es → All (HasKey low high) (events_of input es)
keys_of_events low high input [] d k = All-nil (HasKey low high)
keys_of_events low high input (e ∷ es) d k =
    All-cons (HasKey low high) (Starts input e) (Ends input e.hi ∷ events_of input es) (k.0, omega (arith, ints, d.0, k.1))
    (All-cons (HasKey low high) (Ends input e.hi) (events_of input es) (omega (arith, ints, d.0, k.0), k.1) (keys_of_events low high input es d.2 k.2))

-- ---- events appended one by one

module _ {T C V : Type 0} (rank : T → ℤ) (shown : C → V) where
  -- the two events of one range
  pub put_more : (input : ℕ) (out mid new : List (SweepEvent T C)) (range : RangeInclusive T) (carrier : C) (last : T) (left next : List (Entry V)) (all : List (Event V))
      → last ≡ range_inclusive_end range → mid ≡ out ++ Start range input carrier ∷ [] → new ≡ mid ++ End last input ∷ [] → left ≡ shown_range rank shown (range, carrier) ∷ next
      → shown_events rank shown out ++ events_of input left ≡ all → shown_events rank shown new ++ events_of input next ≡ all
  put_more input out mid new range carrier last left next all e m n l i =
      let two = Start range input carrier ∷ End last input ∷ [] in
      ap (λ xs. shown_events rank shown xs ++ events_of input next) (n ∙ ap (λ xs. xs ++ End last input ∷ []) m ∙ append_assoc out (Start range input carrier ∷ []) (End last input ∷ []))
      ∙ ap (λ es. es ++ events_of input next) (map-append (shown_event rank shown) out two)
      ∙ append_assoc (shown_events rank shown out) (shown_events rank shown two) (events_of input next)
      ∙ ap (λ k. shown_events rank shown out ++ Starts input (shown_range rank shown (range, carrier)) ∷ Ends input (rank k) ∷ events_of input next) e
      ∙ ap (λ es. shown_events rank shown out ++ events_of input es) (sym l) ∙ i

-- the events of one input, which precede all remaining events
pub all_more : {V : Type 0} (input : ℕ) (out new : List (Event V)) (es : List (Entry V)) (lists : List (List (Entry V))) (all : List (Event V))
    → new ≡ out ++ events_of input es → out ++ all_events input (es ∷ lists) ≡ all → new ++ all_events (input + 1) lists ≡ all
all_more input out new es lists all n i = ap (λ xs. xs ++ all_events (input + 1) lists) n ∙ append_assoc out (events_of input es) (all_events (input + 1) lists) ∙ i

-- their keys are keys of the type
pub keys_more : {V : Type 0} (eq : V → V → Bool) (low high : ℤ) (input : ℕ) (out new : List (Event V)) (es : List (Entry V))
    → IsRangeMap eq low high es → new ≡ out ++ events_of input es → All (HasKey low high) out → All (HasKey low high) new
keys_more eq low high input out new es m n keys =
    subst (All (HasKey low high)) (sym n) (All-append (HasKey low high) out (events_of input es) keys (keys_of_events low high input es m.runs.disjoint m.keys))

-- ---- the order of events

is_later : (o p : Ordering) → is_lt (ordering_then o p) ≡ false → (is_lt o ≡ false) × (o ≡ Equal → is_lt p ≡ false)
is_later Less p h = cc
is_later Equal p h = (refl, λ _. h)
is_later Greater p h = (refl, λ e. cc)

equal_keys : (a b : ℤ) → a ≡ b → int_cmp b a ≡ Equal
equal_keys a b h = grind (arith, ints)

module _ {T C V : Type 0} (rank : T → ℤ) (shown : C → V) (low high : ℤ) (cmp : T → T → Ordering)
    (order : (a b : T) → low ≤ℤ rank a → rank a ≤ℤ high → low ≤ℤ rank b → rank b ≤ℤ high → cmp a b ≡ int_cmp (rank a) (rank b)) where
  -- the comparison of events
  abbrev pub compare : T × Bool → T × Bool → Ordering
  compare x y = ordering_then (cmp x.0 y.0) (bool_cmp x.1 y.1)

  by_rank : (a b : T) (p : Ordering) → (low ≤ℤ rank a) × (rank a ≤ℤ high) → (low ≤ℤ rank b) × (rank b ≤ℤ high) → is_lt (ordering_then (cmp b a) p) ≡ false → (rank a ≤ℤ rank b) × (rank a ≡ rank b → is_lt p ≡ false)
  by_rank a b p ka kb h =
      let l = is_later (int_cmp (rank b) (rank a)) p (sym (ap (λ o. is_lt (ordering_then o p)) (order b a kb.0 kb.1 ka.0 ka.1)) ∙ h) in
      (not_less (rank b) (rank a) l.0, λ q. l.1 (equal_keys (rank a) (rank b) q))

  -- an end is before a start only if its key is lower
  end_first : (a b : ℤ) → (a ≤ℤ b) × (a ≡ b → is_lt (bool_cmp false true) ≡ false) → ((a +ℤ a) +ℤ pos 1) ≤ℤ (b +ℤ b)
  end_first a b r = by_lt_z a b (λ l. omega (arith, ints, l)) (λ l. absurd (false_less (r.1 (omega (arith, ints, l, r.0)))))
    where
      false_less : is_lt (bool_cmp false true) ≡ false → ⊥
      false_less h = cc

  in_time : (e f : SweepEvent T C) → HasKey low high (shown_event rank shown e) → HasKey low high (shown_event rank shown f) → is_lt (compare (instant f) (instant e)) ≡ false
      → time (shown_event rank shown e) ≤ℤ time (shown_event rank shown f)
  in_time (Start r i c) (Start s j d) ke kf h = let o = by_rank (range_inclusive_start r) (range_inclusive_start s) (bool_cmp false false) ke kf h in omega (arith, ints, o.0)
  in_time (Start r i c) (End b j) ke kf h = let o = by_rank (range_inclusive_start r) b (bool_cmp true false) ke kf h in omega (arith, ints, o.0)
  in_time (End a i) (Start s j d) ke kf h = end_first (rank a) (rank (range_inclusive_start s)) (by_rank a (range_inclusive_start s) (bool_cmp false true) ke kf h)
  in_time (End a i) (End b j) ke kf h = let o = by_rank a b (bool_cmp true true) ke kf h in omega (arith, ints, o.0)

  -- the list after a sort by the instants
  ascends_in_time : (es : List (SweepEvent T C)) → All (HasKey low high) (shown_events rank shown es) → IsSortedByKey instant compare es → AscendInTime (shown_events rank shown es)
  ascends_in_time [] keys up = tt
  ascends_in_time (e ∷ []) keys up = tt
  ascends_in_time (e ∷ f ∷ es) keys up =
      let rest = All-tail (HasKey low high) (shown_event rank shown e) (shown_events rank shown (f ∷ es)) keys in (
        in_time e f (All-head (HasKey low high) (shown_event rank shown e) (shown_events rank shown (f ∷ es)) keys) (All-head (HasKey low high) (shown_event rank shown f) (shown_events rank shown es) rest) (up 0 e (omega arith) (omega arith)),
        ascends_in_time (f ∷ es) rest (tail_sorted (λ (x y : SweepEvent T C). is_lt (compare (instant x) (instant y))) e (f ∷ es) up),
      )

  -- the events of all inputs, sorted
  pub swept : (lists rest : List (List (Entry V))) (input : ℕ) (events new : List (SweepEvent T C)) → shown_events rank shown events ++ all_events input rest ≡ all_events 0 lists → rest ≡ []
      → All (HasKey low high) (shown_events rank shown events) → IsPermutation events new → IsSortedByKey instant compare new → IsSweep lists (shown_events rank shown new)
  swept lists rest input events new made none keys moved up =
      let seen = shown_events rank shown events in
      let all : seen ≡ all_events 0 lists = sym (append-nil seen) ∙ ap (λ Ls. seen ++ all_events input Ls) (sym none) ∙ made in
      let permuted = IsPermutation-map (shown_event rank shown) events new moved in
      record {
        permutation = subst (λ es. IsPermutation es (shown_events rank shown new)) all permuted;
        ascending = ascends_in_time new (All-permutation (HasKey low high) seen (shown_events rank shown new) permuted keys) up;
      }
