-- The pieces of a range, as a walk over the entries meets them, and the edits that a function's answers at all of them give.
use Rattle.range_map_blaze.proofs.Words.{AllocError, ◌≡◌, ℤ, pos, ◌+ℤ◌, ◌-ℤ◌, ◌≤ℤ◌, ◌<ℤ◌, Bool, true, false, cond, List, [], ◌∷◌, ◌++◌, map, Option, Some, None, Ok, Err, OnOk, Result, refl, ◌∙◌, sym, ap, subst, append_assoc, append-nil, arith, inl, ints, map-append, same_Some, IsEquivalence, options_equiv, Mut, int_lt, int_le, int_max, int_min, option_eq, option_or, IsRangeMap, HasEnd, left_with_right, Entry, entry, at, SameOption, after, above_low, at_in, by_place, canonical, one_per_run, canonical_after, canonical_before, above_after, ending_from, values, TakesValue, none_before, filled_entries, IsFilledWithNone, gap_before, lt_true, lt_holds, lt_fails, le_holds, fill_made, no_gap, AreEdits, AreEndsOf, AreEntriesAsked, ArePiecesAsked, IsPieceAsked, answer_or, updated, IsCallableAtPieces, within, AnswersAtValue, FoldsTo, zip, entries_with_results, SameEntries, length, AreKeys, AreAnswersAtPieces, AreApartFrom, changes, walked_run, KeepsValue, KeepsValues, IsCanonical, SomeCallAtValue}
use Rattle.blaze_int.proofs.Comparisons.{le_fails}
use Rattle.blaze_streams.proofs.GapLists.{gap_there}
use Rattle.range_map_blaze.proofs.GapsWithin.{keys_between}
use Rattle.range_map_blaze.proofs.JoinedKeys.{below_all, above_all}
use Rattle.range_map_blaze.proofs.Paints.Following.{content_within, onward_next, whole_first, within_next, within_over, IsOnward}
use Rattle.range_map_blaze.proofs.Paints.LeftAlone.{has_key}
use Rattle.range_map_blaze.proofs.Edits.Asked.{asked_one, asked_then, some_calls, results, results_count, results_turns, answers_at, no_edit, made, AreBelow, Has}

-- ---- what the result of a test says

pub by_below : (a b : ℤ) (t : Bool) → t ≡ int_lt a b → t ≡ true → a <ℤ b
by_below a b t p q = lt_holds a b (sym p ∙ q)

pub by_not_below : (a b : ℤ) (t : Bool) → t ≡ int_lt a b → t ≡ false → b ≤ℤ a
by_not_below a b t p q = lt_fails a b (sym p ∙ q)

pub by_at_most : (a b : ℤ) (t : Bool) → t ≡ int_le a b → t ≡ true → a ≤ℤ b
by_at_most a b t p q = le_holds a b (sym p ∙ q)

pub by_not_at_most : (a b : ℤ) (t : Bool) → t ≡ int_le a b → t ≡ false → b <ℤ a
by_not_at_most a b t p q = le_fails a b (sym p ∙ q)

-- ---- pieces

-- the pieces of the keys from l to h, by structure
abbrev pub pieces : {V : Type 0} → ℤ → ℤ → List (Entry V) → List (Entry (Option V))
pieces l h es = filled_entries l h (within l h es)

module _ {V : Type 0} (eq : V → V → Bool) (laws : IsEquivalence eq) (low high l h : ℤ) (es : List (Entry V)) (r : IsRangeMap eq low high es) where
  -- they are the pieces
  pub are_pieces : l ≤ℤ h → IsFilledWithNone eq l h es (pieces l h es)
  are_pieces w =
      let c = canonical eq laws es r.runs in
      let d = canonical_after eq (l -ℤ pos 1) es c in
      let window : IsRangeMap eq l h (within l h es) = record {
        runs = one_per_run eq laws (within l h es) (canonical_before eq (h +ℤ pos 1) (after (l -ℤ pos 1) es) d);
        keys = keys_between eq l h (after (l -ℤ pos 1) es) d (above_after (l -ℤ pos 1) es);
      } in
      let nothing : none_before (h +ℤ pos 1) (h +ℤ pos 1) ≡ [] = ap (map (λ e. entry e.lo e.hi None)) (no_gap (h +ℤ pos 1) (h +ℤ pos 1) (omega (arith, ints))) in
      let all = fill_made eq laws l h (within l h es) window (h +ℤ pos 1) (pieces l h es) (pieces l h es) [] (ap (λ xs. pieces l h es ++ xs) nothing ∙ append-nil (pieces l h es)) refl (sym (ap (λ xs. pieces l h es ++ xs) nothing ∙ append-nil (pieces l h es))) in
      record {
        range_map = all.range_map;
        content = λ k u v. all.content k u v ∙ ap Some (content_within eq laws low high l h es k c d ∙ ap (left_with_right (at es k)) (at_in (entry {V = Unit {0}} l h tt) [] k u v));
      }

-- the next piece of a walk over the entries
pub next_piece : {V : Type 0} (eq : V → V → Bool) (l h a b : ℤ) (left rest : List (Entry V)) (e : Entry V) → left ≡ e ∷ rest → IsOnward eq l left → l ≤ℤ h → e.lo ≤ℤ h → a ≡ int_max l e.lo → b ≡ int_min h e.hi → within l h left ≡ entry a b e.value ∷ within l h rest
next_piece eq l h a b left rest e is o w u starts ends =
    ap (within l h) is ∙ within_next eq l h e rest (subst (IsOnward eq l) is o) w u
    ∙ ap (λ z. entry z (int_min h e.hi) e.value ∷ within l h rest) (sym starts) ∙ ap (λ z. entry a z e.value ∷ within l h rest) (sym ends)

module _ {F A V : Type 0} (shows : A → Option V) (g : Mut F A (Result (Option V) AllocError)) (eq : V → V → Bool) where
  -- a call at the keys from a up to b, which are all keys from n to before m, and a gap
  pub gap_asked : {R E : Type 0} (r : Result R E) (n a b m : ℤ) (old : Option V) (f f' : F) (edits new : List (Entry (Option V))) → n ≡ a → a ≤ℤ b → (b +ℤ pos 1) ≡ m → old ≡ None → OnOk r (IsPieceAsked shows g eq (entry a b old) f f' edits new) → OnOk r (ArePiecesAsked shows g eq (none_before n m) f f' edits new)
  gap_asked (Ok x) n a b m old f f' edits new p w q none asked =
      let piece : entry a b old ∷ [] ≡ none_before n m = ap (λ o. entry a b o ∷ []) none ∙ sym (ap (map (λ e. entry e.lo e.hi None)) (ap (λ k. gap_before k m) p ∙ gap_there a m b w (omega (arith, ints)))) in
      subst (λ xs. ArePiecesAsked shows g eq xs f f' edits new) piece (asked_one shows g eq (entry a b old) f f' edits new asked)
  gap_asked (Err e) n a b m old f f' edits new p w q none asked = tt

  -- its facts on the old value in one, as `search` finds them
  pub gap_by_call : {R E : Type 0} (r : Result R E) (n a b m : ℤ) (f f' : F) (edits new : List (Entry (Option V))) → n ≡ a → a ≤ℤ b → (b +ℤ pos 1) ≡ m → (old : Option V) × (old ≡ None) × OnOk r (IsPieceAsked shows g eq (entry a b old) f f' edits new) → OnOk r (ArePiecesAsked shows g eq (none_before n m) f f' edits new)
  gap_by_call r n a b m f f' edits new p w q asked = gap_asked r n a b m asked.0 f f' edits new p w q asked.1 asked.2

  -- no call, where no key is from n to before m
  pub gap_not_asked : (n m : ℤ) (f : F) (edits : List (Entry (Option V))) → m ≤ℤ n → ArePiecesAsked shows g eq (none_before n m) f f edits edits
  gap_not_asked n m f edits w = subst (λ xs. ArePiecesAsked shows g eq xs f f edits edits) (sym (ap (map (λ e. entry e.lo e.hi None)) (no_gap n m w))) (refl, refl)

-- an entry as a piece
abbrev pub piece_of : {V : Type 0} → Entry V → Entry (Option V)
piece_of e = entry e.lo e.hi (Some e.value)

module _ {F A V : Type 0} (shows : A → Option V) (g : Mut F A (Result (Option V) AllocError)) (eq : V → V → Bool) (laws : IsEquivalence eq) (l h : ℤ) (f : F) (old : List (Entry V)) where
  -- what is true of the function's state and the value at each piece, after the calls at the pieces before
  abbrev pub AtEachPiece : (F → Option V → Type 0) → Type 0
  AtEachPiece P = (all done more : List (Entry (Option V))) (next : Entry (Option V)) → IsFilledWithNone eq l h old all → all ≡ done ++ next ∷ more
      → (f' : F) (edits new : List (Entry (Option V))) → ArePiecesAsked shows g eq done f f' edits new → P f' next.value

  -- the function may be called at the next piece
  pub takes_piece : IsCallableAtPieces shows g eq l h f old → AtEachPiece (TakesValue shows g)
  takes_piece may all done more next is parts f' edits new asked =
      (may.at all is).at (values done) (values more) next.value f' (ap values parts ∙ map-append (λ e. e.value) done (next ∷ more)) (some_calls shows g eq done f f' edits new asked)

  -- if the function returns the old value at each key, it does at the next piece
  key_of : (all done more : List (Entry (Option V))) (next : Entry (Option V)) → AreKeys l h (done ++ next ∷ more) → (l ≤ℤ next.lo) × (next.hi ≤ℤ h)
  key_of all [] more next keys = (keys.0, keys.1)
  key_of all (d ∷ done) more next keys = key_of all done more next keys.2

  kept_value : (all done more : List (Entry (Option V))) (next : Entry (Option V)) → IsFilledWithNone eq l h old all → all ≡ done ++ next ∷ more → (P : Option V → Type 0) → ((k : ℤ) → l ≤ℤ k → k ≤ℤ h → P (at old k)) → P next.value
  kept_value all done more next is parts P each =
      let run = walked_run (option_eq eq) (options_equiv laws) l h all is.range_map done more next parts in
      let keys = key_of all done more next (subst (AreKeys l h) parts is.range_map.keys) in
      let below : next.lo ≤ℤ h = omega (arith, ints, run.order, keys.1) in
      let value : next.value ≡ at old next.lo = same_Some next.value (at old next.lo) (sym (run.value next.lo (omega (arith, ints)) run.order) ∙ is.content next.lo keys.0 below) in
      subst P (sym value) (each next.lo keys.0 below)

  pub keeps_piece : KeepsValues shows g eq l h f old → AtEachPiece (KeepsValue shows g eq)
  keeps_piece keeps all done more next is parts f' edits new asked =
      kept_value all done more next is parts (KeepsValue shows g eq f') (λ k from to. keeps k from to (values done) f' (some_calls shows g eq done f f' edits new asked))

  -- then each result equals the old value
  abbrev oks : List (Option V) → List (Result (Option V) AllocError)
  oks rs = map Ok rs

  keeps_next : (f' f'' : F) (v : Option V) → KeepsValues shows g eq l h f' old → SomeCallAtValue shows g f' v f'' → KeepsValues shows g eq l h f'' old
  keeps_next f' f'' v keeps call k from to before last calls = keeps k from to (v ∷ before) last (f'', call, calls)

  steady_turns : (all done more : List (Entry (Option V))) (results : List (Option V)) (f' last : F) → KeepsValues shows g eq l h f' old → IsFilledWithNone eq l h old all → all ≡ done ++ more → length (oks results) ≡ length (values more)
      → FoldsTo (λ j c k. AnswersAtValue shows g j c.0 c.1 k) f' (zip (values more) (oks results)) last → SameEntries (option_eq eq) (entries_with_results more results) more
  steady_turns all done [] results f' last keeps is parts count calls = tt
  steady_turns all done (p ∷ more) [] f' last keeps is parts count calls = absurd (omega (arith, count))
  steady_turns all done (p ∷ more) (x ∷ results) f' last keeps is parts count calls = (
    refl,
    refl,
    kept_value all done more p is parts (KeepsValue shows g eq f') (λ k from to. keeps k from to [] f' refl) calls.0 (Ok x) calls.1,
    steady_turns all (done ++ p ∷ []) more results calls.0 last (keeps_next f' calls.0 p.value keeps (Ok x, calls.1)) is (parts ∙ sym (append_assoc done (p ∷ []) more)) (omega (arith, count)) calls.2,
  )

  pub steady_answers : (answers : List (Entry (Option V))) (a : AreAnswersAtPieces shows g eq l h f old answers) → KeepsValues shows g eq l h f old → SameEntries (option_eq eq) answers a.pieces
  steady_answers answers a keeps =
      subst (λ es. SameEntries (option_eq eq) es a.pieces) (sym a.answers_are) (steady_turns a.pieces [] a.pieces a.results f a.in_turn.last keeps a.are_pieces refl a.in_turn.count a.in_turn.calls)

  -- ---- one entry after another

  -- the function was called at the pieces before the key n; what is left of the entries is known
  pub record IsUnderway (all : List (Entry (Option V))) (n : ℤ) (left : List (Entry V)) (f' : F) (edits new : List (Entry (Option V))) : Type 0 where
    pub done : List (Entry (Option V))
    pub parts : done ++ filled_entries n h left ≡ all
    pub asked : ArePiecesAsked shows g eq done f f' edits new

  module _ (all : List (Entry (Option V))) (n : ℤ) (left others : List (Entry V)) (e : Entry V) (f' : F) (edits new : List (Entry (Option V))) (u : IsUnderway all n left f' edits new) (is : left ≡ e ∷ others) where
    abbrev more : List (Entry (Option V))
    more = piece_of e ∷ filled_entries (e.hi +ℤ pos 1) h others

    all_is : all ≡ u.done ++ (none_before n e.lo ++ more)
    all_is = sym u.parts ∙ ap (λ es. u.done ++ filled_entries n h es) is

    pub at_gap : (P : F → Option V → Type 0) → AtEachPiece P → IsFilledWithNone eq l h old all → n <ℤ e.lo → P f' None
    at_gap P each filled w =
        each all u.done more (entry n (e.lo -ℤ pos 1) None) filled (all_is ∙ ap (λ G. u.done ++ (map (λ d. entry d.lo d.hi None) G ++ more)) (there w)) f' edits new u.asked
      where
        there : n <ℤ e.lo → gap_before n e.lo ≡ entry n (e.lo -ℤ pos 1) tt ∷ []
        there w = ap (λ b. cond b (entry n (e.lo -ℤ pos 1) tt ∷ []) []) (lt_true n e.lo w)

    module _ (f'' : F) (mid : List (Entry (Option V))) (gap : ArePiecesAsked shows g eq (none_before n e.lo) f' f'' new mid) where
      pub at_entry : (P : F → Option V → Type 0) → AtEachPiece P → IsFilledWithNone eq l h old all → P f'' (Some e.value)
      at_entry P each filled =
          each all (u.done ++ none_before n e.lo) (filled_entries (e.hi +ℤ pos 1) h others) (piece_of e) filled (all_is ∙ sym (append_assoc u.done (none_before n e.lo) more)) f'' edits mid
          (asked_then shows g eq u.done (none_before n e.lo) f f' f'' edits new mid u.asked gap)

      pub underway_more : (f''' : F) (next : List (Entry (Option V))) → IsPieceAsked shows g eq (piece_of e) f'' f''' mid next → IsUnderway all (e.hi +ℤ pos 1) others f''' edits next
      underway_more f''' next here = record {
        done = (u.done ++ none_before n e.lo) ++ piece_of e ∷ [];
        parts = append_assoc (u.done ++ none_before n e.lo) (piece_of e ∷ []) (filled_entries (e.hi +ℤ pos 1) h others) ∙ append_assoc u.done (none_before n e.lo) more ∙ sym all_is;
        asked =
            asked_then shows g eq (u.done ++ none_before n e.lo) (piece_of e ∷ []) f f'' f''' edits mid next
            (asked_then shows g eq u.done (none_before n e.lo) f f' f'' edits new mid u.asked gap) (asked_one shows g eq (piece_of e) f'' f''' mid next here);
      }

  pub underway_none : (all : List (Entry (Option V))) (left : List (Entry V)) (edits : List (Entry (Option V))) → filled_entries l h left ≡ all → IsUnderway all l left f edits edits
  underway_none all left edits p = record { done = []; parts = p; asked = (refl, refl) }

  -- all entries
  pub entries_asked : (all : List (Entry (Option V))) (n : ℤ) (left : List (Entry V)) (f' : F) (edits new : List (Entry (Option V))) → IsFilledWithNone eq l h old all → IsUnderway all n left f' edits new → left ≡ [] → AreEntriesAsked shows g eq l h old n f f' edits new
  entries_asked all n left f' edits new filled u none = record {
    pieces = u.done;
    are_pieces = subst (IsFilledWithNone eq l h old) (sym u.parts ∙ ap (λ es. u.done ++ filled_entries n h es) none) filled;
    asked = u.asked;
  }

  -- ---- a walk over the entries

  -- the entries that are left are those on the keys from n on, and the function was called at the pieces before
  pub record IsWalked (n : ℤ) (left : List (Entry V)) (f' : F) (edits new : List (Entry (Option V))) : Type 0 where
    pub onward : IsOnward eq l left
    pub asked : IsUnderway (pieces l h old) n (within l h left) f' edits new

  pub walk_none : (low high : ℤ) (items left : List (Entry V)) (edits : List (Entry (Option V))) → IsRangeMap eq low high old → items ≡ ending_from l old → left ≡ items → IsWalked l left f edits edits
  walk_none low high items left edits r items_are left_is =
      let is = left_is ∙ items_are in
      let whole = whole_first eq l h old (canonical eq laws old r.runs) in
      record {
        onward = subst (IsOnward eq l) (sym is) whole.onward;
        asked = underway_none (pieces l h old) (within l h left) edits (ap (filled_entries l h) (ap (within l h) is ∙ whole.same));
      }

  module _ (low high n : ℤ) (left : List (Entry V)) (f' : F) (edits new : List (Entry (Option V))) (r : IsRangeMap eq low high old) (w : l ≤ℤ h) (walk : IsWalked n left f' edits new) where
    pub walk_ends : left ≡ [] → AreEntriesAsked shows g eq l h old n f f' edits new
    walk_ends none = entries_asked (pieces l h old) n (within l h left) f' edits new (are_pieces eq laws low high l h old r w) walk.asked (ap (within l h) none)

    -- the next entry
    module _ (e : Entry V) (rest : List (Entry V)) (is : left ≡ e ∷ rest) where
      pub walk_passes : h <ℤ e.lo → AreEntriesAsked shows g eq l h old n f f' edits new
      walk_passes over =
          let none = ap (within l h) is ∙ within_over eq l h e rest (subst (IsOnward eq l) is walk.onward) w over in
          entries_asked (pieces l h old) n (within l h left) f' edits new (are_pieces eq laws low high l h old r w) walk.asked none

      -- its keys from l up to h
      module _ (a b : ℤ) (under : e.lo ≤ℤ h) (starts : a ≡ int_max l e.lo) (ends : b ≡ int_min h e.hi) where
        next_is : within l h left ≡ entry a b e.value ∷ within l h rest
        next_is = next_piece eq l h a b left rest e is walk.onward w under starts ends

        pub walk_at_gap : (P : F → Option V → Type 0) → AtEachPiece P → n <ℤ a → P f' None
        walk_at_gap P each = at_gap (pieces l h old) n (within l h left) (within l h rest) (entry a b e.value) f' edits new walk.asked next_is P each (are_pieces eq laws low high l h old r w)

        module _ (f'' : F) (mid : List (Entry (Option V))) (gap : ArePiecesAsked shows g eq (none_before n a) f' f'' new mid) where
          pub walk_at_entry : (P : F → Option V → Type 0) → AtEachPiece P → P f'' (Some e.value)
          walk_at_entry P each = at_entry (pieces l h old) n (within l h left) (within l h rest) (entry a b e.value) f' edits new walk.asked next_is f'' mid gap P each (are_pieces eq laws low high l h old r w)

          pub walk_more : (m : ℤ) (f''' : F) (next : List (Entry (Option V))) → m ≡ b +ℤ pos 1 → IsPieceAsked shows g eq (entry a b (Some e.value)) f'' f''' mid next → IsWalked m rest f''' edits next
          walk_more m f''' next is_next here = record {
            onward = onward_next eq l h e rest (subst (IsOnward eq l) is walk.onward);
            asked =
                subst (λ k. IsUnderway (pieces l h old) k (within l h rest) f''' edits next) (sym is_next)
                (underway_more (pieces l h old) n (within l h left) (within l h rest) (entry a b e.value) f' edits new walk.asked next_is f'' mid gap f''' next here);
          }

  -- the last gap too
  pub all_asked : (n : ℤ) (f' f'' : F) (edits mid new : List (Entry (Option V))) (a : AreEntriesAsked shows g eq l h old n f f' edits mid) → ArePiecesAsked shows g eq (none_before n (h +ℤ pos 1)) f' f'' mid new → ArePiecesAsked shows g eq (a.pieces ++ none_before n (h +ℤ pos 1)) f f'' edits new
  all_asked n f' f'' edits mid new a gap = asked_then shows g eq a.pieces (none_before n (h +ℤ pos 1)) f f' f'' edits mid new a.asked gap

  pub at_last : (P : F → Option V → Type 0) → AtEachPiece P → (n : ℤ) (f' : F) (edits mid : List (Entry (Option V))) → AreEntriesAsked shows g eq l h old n f f' edits mid → n <ℤ (h +ℤ pos 1) → P f' None
  at_last P each n f' edits mid a w =
      each (a.pieces ++ none_before n (h +ℤ pos 1)) a.pieces [] (entry n (h +ℤ pos 1 -ℤ pos 1) None) a.are_pieces (ap (λ G. a.pieces ++ map (λ d. entry d.lo d.hi None) G) (there w)) f' edits mid a.asked
    where
      there : n <ℤ (h +ℤ pos 1) → gap_before n (h +ℤ pos 1) ≡ entry n (h +ℤ pos 1 -ℤ pos 1) tt ∷ []
      there w = ap (λ b. cond b (entry n (h +ℤ pos 1 -ℤ pos 1) tt ∷ []) []) (lt_true n (h +ℤ pos 1) w)

  -- ---- all pieces

  ends_itself : (answers : List (Entry (Option V))) → AreEndsOf answers answers
  ends_itself answers = within_all answers (λ k i. i)
    where
      within_all : (some : List (Entry (Option V))) → ((k : ℤ) → HasEnd some k → HasEnd answers k) → AreEndsOf answers some
      within_all [] i = tt
      within_all (e ∷ some) i = (i e.hi (inl refl), within_all some (λ k j. i k (Rattle.std.proofs.Common.inr j)))

  has_old : (all : List (Entry (Option V))) → IsFilledWithNone eq l h old all → Has (at old) all
  has_old all is k x q = by_place (entry {V = Unit {0}} l h tt) k
      (λ u v. same_Some x (at old k) (sym q ∙ is.content k u v))
      (λ u. absurd (not_there (below_all l h all k is.range_map.keys u) q))
      (λ u. absurd (not_there (above_all l h all k is.range_map.keys u) q))
    where
      not_there : {o : Option (Option V)} → o ≡ None → o ≡ Some x → ⊥
      not_there p q = cc

  nothing_below : (b : ℤ) (edits : List (Entry (Option V))) → edits ≡ [] → AreBelow shows g eq laws l h (at old) b edits
  nothing_below b edits p = subst (AreBelow shows g eq laws l h (at old) b) (sym p) (record { canonical = tt; keys = tt; below = tt })

  -- the edits of all pieces
  pub edits_made : IsCanonical eq old → (all : List (Entry (Option V))) (f' : F) (edits new : List (Entry (Option V))) → IsFilledWithNone eq l h old all → edits ≡ [] → (p : ArePiecesAsked shows g eq all f f' edits new) → AreEdits shows g eq l h f old new
  edits_made whole all f' edits new is none p =
      let eqo = option_eq eq in
      let c = canonical eqo (options_equiv laws) all is.range_map.runs in
      let m = made shows g eq laws l h (at old) all l f f' edits new p c is.range_map.keys (above_low l h all is.range_map.keys) (has_old all is) (nothing_below l edits none) in
      let changed_pieces : List (Entry (Option V)) = changes eq all (answers_at shows g eq all f f' edits new p) in
      record {
        answers = answers_at shows g eq all f f' edits new p;
        asked = record {
          pieces = all;
          are_pieces = is;
          results = results shows g eq all f f' edits new p;
          in_turn = record { last = f'; count = results_count shows g eq all f f' edits new p; calls = results_turns shows g eq all f f' edits new p };
          answers_are = refl;
        };
        range_map = record { runs = one_per_run eqo (options_equiv laws) new m.canonical; keys = m.keys };
        content = λ k. subst (λ xs. SameOption eq (updated new (at old) k) (answer_or (option_or (at xs k) (at (answers_at shows g eq all f f' edits new p) k)) (at old k))) none (m.content k);
        ends = m.ends changed_pieces (subst (AreEndsOf changed_pieces) (sym none) tt) (ends_itself changed_pieces);
        apart = λ e i u. m.apart e (has_key eq old e whole i) (subst (λ es. AreApartFrom eq es e) (sym none) tt) u;
        same = λ s. no_edit shows g eq all f f' edits new p s ∙ none;
      }
