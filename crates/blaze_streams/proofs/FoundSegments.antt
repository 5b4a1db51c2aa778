-- The segments so far, and one more.
use Rattle.blaze_streams.proofs.Words.{◌≡◌, ℕ, ◌<◌, ℤ, pos, ◌+ℤ◌, ◌≤ℤ◌, ◌<ℤ◌, Bool, true, false, cond, nat_eq, List, [], ◌∷◌, ◌++◌, Option, Some, None, refl, ◌∙◌, sym, ap, arith, ⊎_elim, option_eq, is_some, option_or, list_any, IsEquivalence, first_so, second_so, nat_eq_equiv, lists_equiv, options_equiv, false_from_ne_true, ints, same_along, or_none, or_assoc, Entry, at, SameOption, IsCanonical, IsBelow, at_in, at_under, at_over, by_place, at_append, one_per_run, IsBelow-push, below_more, Segment, row, row_if_any, row_eq, shown_segment, shown_segments, IsSegmentsOf, AllCanonical, first_keys, all_after, IsNextSegment}
use Rattle.blaze_streams.proofs.Steady.{changes}
use Rattle.blaze_streams.proofs.LengthsLeft.{all_lengths_left, all_less}
use Rattle.blaze_streams.proofs.Rows.{AnyStops, IsFirstSegment, is_first, rows_low, rows_under, rows_over, firsts_after, none_left, all_canonical_after}

pub entries_more : {T : Type 0} (rank : T → ℤ) (new old : List (Segment T)) (s : Segment T) → new ≡ old ++ s ∷ [] → shown_segments rank new ≡ shown_segments rank old ++ shown_segment rank s ∷ []
entries_more {T} rank new old s e = ap (shown_segments rank) e ∙ pushed old
  where
    pushed : (ss : List (Segment T)) → shown_segments rank (ss ++ s ∷ []) ≡ shown_segments rank ss ++ shown_segment rank s ∷ []
    pushed [] = refl
    pushed (x ∷ xs) = ap (λ l. shown_segment rank x ∷ l) (pushed xs)

pub option_same : {A : Type 0} (eq : A → A → Bool) (x y : Option A) → option_eq eq x y ≡ true → SameOption eq x y
option_same eq None None h = tt
option_same eq None (Some y) h = cc
option_same eq (Some x) None h = cc
option_same eq (Some x) (Some y) h = h

-- right above the last range of the list, the content has no value equal to the range's
abbrev pub EndsApart : {V : Type 0} → (V → V → Bool) → List (Entry V) → (ℤ → Option V) → Type 0
EndsApart eq [] content = Unit {0}
EndsApart eq (e ∷ []) content = SameOption eq (Some e.value) (content (e.hi +ℤ pos 1)) → ⊥
EndsApart eq (e ∷ f ∷ es) content = EndsApart eq (f ∷ es) content

module _ {V : Type 0} (eq : V → V → Bool) where
  pub canonical_push : (out : List (Entry V)) (p : Entry V) (c : ℤ → Option V) → IsCanonical eq out → IsBelow p.lo out → p.lo ≤ℤ p.hi → EndsApart eq out c → c p.lo ≡ Some p.value → IsCanonical eq (out ++ p ∷ [])
  canonical_push [] p c o b w a v = (w, tt, tt)
  canonical_push (e ∷ []) p c o b w a v = (o.0, (b.0, λ q. false_from_ne_true (eq e.value p.value) (λ h. a (same_along eq {a = Some e.value} refl (sym v ∙ ap c q) h))), (w, tt, tt))
  canonical_push (e ∷ f ∷ es) p c o b w a v = (o.0, o.1, canonical_push (f ∷ es) p c o.2 b.1 w a v)

  pub apart_push : (out : List (Entry V)) (p : Entry V) (c : ℤ → Option V) → (SameOption eq (Some p.value) (c (p.hi +ℤ pos 1)) → ⊥) → EndsApart eq (out ++ p ∷ []) c
  apart_push [] p c h = h
  apart_push (e ∷ []) p c h = h
  apart_push (e ∷ f ∷ es) p c h = apart_push (f ∷ es) p c h

module _ {A : Type 0} where
  pub row_if_any-none : (r : List (Option A)) → list_any is_some r ≡ false → row_if_any r ≡ None
  row_if_any-none r p = ap (λ b. cond b (Some r) None) p

  there : (r : List (Option A)) → list_any is_some r ≡ true → row_if_any r ≡ Some r
  there r p = ap (λ b. cond b (Some r) None) p

  module _ (eq : A → A → Bool) where
    -- the lists after a segment is taken
    next_present : (Ls : List (List (Entry A))) (p : Entry (List (Option A))) (k : ℤ) → AllCanonical eq Ls → IsFirstSegment Ls p → row_if_any (row Ls k) ≡ option_or (at (p ∷ []) k) (row_if_any (row (all_after p.hi Ls) k))
    next_present Ls p k c n = by_place p k
        (λ l h. ap row_if_any (n.steady k l h) ∙ there p.value n.some ∙ ap (λ z. option_or z (row_if_any (row (all_after p.hi Ls) k))) (sym (at_in p [] k l h)))
        (λ l. row_if_any-none (row Ls k) (rows_low eq Ls p.lo k c n.from l)
        ∙ sym (row_if_any-none (row (all_after p.hi Ls) k) (rows_under eq p.hi k Ls c (omega (arith, ints, n.full))))
        ∙ ap (λ z. option_or z (row_if_any (row (all_after p.hi Ls) k))) (sym (at_under p [] k l)))
        (λ h. ap row_if_any (sym (rows_over eq p.hi k Ls c h)) ∙ ap (λ z. option_or z (row_if_any (row (all_after p.hi Ls) k))) (sym (at_over p [] k h)))

    no_change : (laws : IsEquivalence eq) (t : ℤ) (Ls : List (List (Entry A))) → AllCanonical eq Ls → AnyStops t Ls → row_eq eq (row Ls t) (row Ls (t +ℤ pos 1)) ≡ true → ⊥
    no_change laws t [] c s e = s
    no_change laws t (L ∷ Ls) c s e =
        let x = option_eq eq (at L t) (at L (t +ℤ pos 1)) in
        let y = row_eq eq (row Ls t) (row Ls (t +ℤ pos 1)) in
        ⊎_elim
        (λ u. changes eq laws L t c.0 u (option_same eq (at L t) (at L (t +ℤ pos 1)) (first_so x y e)))
        (λ u. no_change laws t Ls c.1 u (second_so x y e))
        s

    same_present : (r s : List (Option A)) (b : Bool) → list_any is_some s ≡ b → SameOption (row_eq eq) (Some r) (cond b (Some s) None) → row_eq eq r s ≡ true
    same_present r s true p h = h
    same_present r s false p h = absurd h

    -- the first segments of lists, and the remaining lists
    pub record IsFound (lists : List (List (Entry A))) (out : List (Entry (List (Option A)))) (Ls : List (List (Entry A))) : Type 0 where
      pub left : AllCanonical eq Ls
      pub canonical : IsCanonical (row_eq eq) out
      pub under : (s : ℤ) → first_keys Ls ≡ Some s → IsBelow s out
      pub content : (k : ℤ) → row_if_any (row lists k) ≡ option_or (at out k) (row_if_any (row Ls k))
      pub apart : EndsApart (row_eq eq) out (λ k. row_if_any (row Ls k))

    pub found_none : (lists : List (List (Entry A))) → AllCanonical eq lists → IsFound lists [] lists
    found_none lists c = record { left = c; canonical = tt; under = λ s f. tt; content = λ k. refl; apart = tt }

    module _ (laws : IsEquivalence eq) (lists Ls : List (List (Entry A))) (out : List (Entry (List (Option A)))) (p : Entry (List (Option A))) where
      next_apart : AllCanonical eq Ls → IsFirstSegment Ls p → SameOption (row_eq eq) (Some p.value) (row_if_any (row (all_after p.hi Ls) (p.hi +ℤ pos 1))) → ⊥
      next_apart c n h =
          let k = p.hi +ℤ pos 1 in
          let after = row (all_after p.hi Ls) k in
          let over : p.hi <ℤ k = omega (arith, ints) in
          let q = same_present p.value after (list_any is_some after) refl h in
          no_change laws p.hi Ls c n.stops
          (ap (λ l. row_eq eq l (row Ls k)) (n.steady p.hi n.full (omega (arith, ints))) ∙ ap (row_eq eq p.value) (sym (rows_over eq p.hi k Ls c over)) ∙ q)

      found_push : IsFound lists out Ls → IsBelow p.lo out → IsFirstSegment Ls p → IsFound lists (out ++ p ∷ []) (all_after p.hi Ls)
      found_push s below n =
          let here : row_if_any (row Ls p.lo) ≡ Some p.value = ap row_if_any (n.steady p.lo (omega (arith, ints)) n.full) ∙ there p.value n.some in
          let rest = λ (k : ℤ). row_if_any (row (all_after p.hi Ls) k) in
          record {
            left = all_canonical_after eq p.hi Ls s.left;
            canonical = canonical_push (row_eq eq) out p (λ k. row_if_any (row Ls k)) s.canonical below n.full s.apart here;
            under = λ t f. let u = firsts_after p.hi t Ls f in IsBelow-push t out p (below_more p.lo t out (omega (arith, ints, n.full)) below) u;
            content = λ k. s.content k ∙ ap (option_or (at out k)) (next_present Ls p k s.left n) ∙ sym (or_assoc (at out k) (at (p ∷ []) k) (rest k)) ∙ ap (λ z. option_or z (rest k)) (sym (at_append out (p ∷ []) k));
            apart = apart_push (row_eq eq) out p rest (next_apart s.left n);
          }

      pub found_more : (new : List (Entry (List (Option A)))) (Ls' : List (List (Entry A))) → IsFound lists out Ls → IsNextSegment Ls p Ls' → new ≡ out ++ p ∷ [] → IsFound lists new Ls'
      found_more new Ls' s n e = rw (e, n.left) (found_push s (s.under p.lo n.starts) (is_first eq Ls Ls' p s.left n))

    pub next_less : (Ls Ls' : List (List (Entry A))) (p : Entry (List (Option A))) → AllCanonical eq Ls → IsNextSegment Ls p Ls' → all_lengths_left Ls' < all_lengths_left Ls
    next_less Ls Ls' p c n = rw n.left (all_less eq p.lo p.hi Ls c (is_first eq Ls Ls' p c n).full n.starts)

-- if no key remains, the list has all segments
pub found_all : (lists Ls : List (List (Entry ℕ))) (out : List (Entry (List (Option ℕ)))) → IsFound nat_eq lists out Ls → first_keys Ls ≡ None → IsSegmentsOf nat_eq lists out
found_all lists Ls out s f = record {
  runs = one_per_run (row_eq nat_eq) (lists_equiv (options_equiv nat_eq_equiv)) out s.canonical;
  content = λ k. sym (s.content k ∙ ap (option_or (at out k)) (row_if_any-none (row Ls k) (none_left Ls k f)) ∙ or_none (at out k));
}
