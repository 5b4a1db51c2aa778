-- What a step does, from what the call that takes it does.
use Rattle.range_map_cli.proofs.Words.{◌≡◌, ◌↔◌, ◌≤◌, ℕ, ℤ, pos, ◌≤ℤ◌, Bool, true, false, not, eqb, cond, IsTrue, List, [], length, Option, Some, None, MatchOption, refl, ◌∙◌, sym, ap, subst, arith, ⊎_elim, int_le, ◌&&◌, IsEquivalence, eq-eqb, ne_eqb, cases_eq, ints, pos_injective, same_itself, is_some_alike, Entry, entry, at, SameOption, CountedEntries, IsRangeMap, value_if_none, IsComplement, keys_in, mapped_keys, IsFilled, IsPainted, IsCountedCut, PutsAtMost, PopsFirst, PopsLast, answer, complemented, first_mapped_key, last_mapped_key, key_with_value, pair_of, IsStepped, IsWithout, SameAnswer, SamePair, Step, Answer}
use Rattle.range_map_cli.proofs.Stepping.EndKeys.{at_key, first_key_is, first_none, last_key_is, last_none, mapped_alike}

module _ {T V L : Type 0} (eq : V → V → Bool) (rank : T → ℤ) (low high : ℤ) where
  -- what is so of a step is so of its other name
  pub stepped : (s t : Step T V L) (old new : List (Entry V)) → s ≡ t → IsStepped eq rank low high t old new → IsStepped eq rank low high s old new
  stepped s t old new e p = subst (λ u. IsStepped eq rank low high u old new) (sym e) p

  pub answered : (s t : Step T V L) (content : ℤ → Option V) (given : Answer T V) → s ≡ t → SameAnswer rank eq given (answer rank low high t content) → SameAnswer rank eq given (answer rank low high s content)
  answered s t content given e p = subst (λ u. SameAnswer rank eq given (answer rank low high u content)) (sym e) p

-- a paint and a fill, by other names of the bounds
pub paint_at : {V : Type 0} (eq : V → V → Bool) (low high : ℤ) (v : V) (a b l h : ℤ) (old new : List (Entry V)) → l ≡ a → h ≡ b → IsPainted eq low high (entry l h v) old new → IsPainted eq low high (entry a b v) old new
paint_at eq low high v a b l h old new start end p = subst (λ x. IsPainted eq low high (entry x b v) old new) start (subst (λ y. IsPainted eq low high (entry l y v) old new) end p)

pub fill_at : {V : Type 0} (eq : V → V → Bool) (low high : ℤ) (v : V) (a b l h : ℤ) (old new : List (Entry V)) → l ≡ a → h ≡ b → IsFilled eq low high (entry l h v) old new → IsFilled eq low high (entry a b v) old new
fill_at eq low high v a b l h old new start end p = subst (λ x. IsFilled eq low high (entry x b v) old new) start (subst (λ y. IsFilled eq low high (entry l y v) old new) end p)

-- whether two numbers differ
differ_is : (b : Bool) (m n : ℕ) → (IsTrue b ↔ (¬ (m ≡ n))) → b ≡ not (eqb m n)
differ_is true m n says = ap not (sym (ne_eqb m n (says.0 refl)))
differ_is false m n says = ⊎_elim (λ e. ap not (sym (eq-eqb m n e))) (λ ne. absurd (refuse (says.1 ne))) (cases_eq m n)
  where
    refuse : IsTrue false → ⊥
    refuse e = cc

-- a cut puts in at most two entries
pub cut_counted : {V : Type 0} (old new : CountedEntries V) → IsCountedCut old new → PutsAtMost 2 old new
cut_counted old new cut = record {
  counted = cut.counted;
  puts = omega (arith, cut.puts);
  looks = cut.looks;
}

-- it leaves an empty list with one entry at most
pub cut_alone : {V : Type 0} (old new : CountedEntries V) → IsCountedCut old new → old.entries ≡ [] → length new.entries ≤ 1
cut_alone old new cut empty = omega (arith, cut.puts, cut.counted.taken, cut.counted.balance, ap length empty)

-- equal values the other way round
pub same_back : {V : Type 0} (eq : V → V → Bool) (laws : IsEquivalence eq) (a b : Option V) → SameOption eq a b → SameOption eq b a
same_back eq laws None None s = tt
same_back eq laws None (Some y) s = s
same_back eq laws (Some x) None s = s
same_back eq laws (Some x) (Some y) s = laws.symm y x ∙ s

module _ {V : Type 0} (eq : V → V → Bool) (low high : ℤ) where
  -- the number of keys that have a value changes where the lengths do
  pub changed_is : (changed : Bool) (old new : List (Entry V)) (meant : ℤ → Option V) → keys_in old ≡ pos (mapped_keys low high (at old)) → keys_in new ≡ pos (mapped_keys low high (at new))
      → ((k : ℤ) → SameOption eq (at new k) (meant k)) → (IsTrue changed ↔ (¬ (keys_in new ≡ keys_in old))) → changed ≡ not (eqb (mapped_keys low high meant) (mapped_keys low high (at old)))
  changed_is changed old new meant counted_old counted_new same says =
      let now : mapped_keys low high (at new) ≡ mapped_keys low high meant = mapped_alike (at new) meant (λ k. is_some_alike eq (at new k) (meant k) (same k)) low _ in
      differ_is changed _ _ (
        λ is e. says.0 is (counted_new ∙ ap pos (now ∙ e) ∙ sym counted_old),
        λ ne. says.1 (λ e. ne (sym now ∙ pos_injective _ _ (sym counted_new ∙ e ∙ counted_old))),
      )

  -- a complement has nothing off the keys
  pub complement_is : (v : V) (old new : List (Entry V)) → IsComplement eq low high v old new → (k : ℤ) → SameOption eq (at new k) (complemented low high v (at old) k)
  complement_is v old new c k = by_tests (int_le low k) (int_le k high) refl refl
    where
      off : (o : Option V) → at new k ≡ o → ((low ≤ℤ k) × (k ≤ℤ high) → ⊥) → SameOption eq o None
      off None p out = tt
      off (Some v) p out = absurd (out (at_key low high new k v c.range_map.keys p))

      by_tests : (a b : Bool) → int_le low k ≡ a → int_le k high ≡ b → SameOption eq (at new k) (cond (a && b) (value_if_none v (at old k)) None)
      by_tests true true p q = c.content k (omega (arith, ints, p)) (omega (arith, ints, q))
      by_tests true false p q = off (at new k) refl (λ l. omega (arith, ints, q, l.1))
      by_tests false b p q = off (at new k) refl (λ l. omega (arith, ints, p, l.0))

  same_pair : {T : Type 0} (rank : T → ℤ) (laws : IsEquivalence eq) (pair : T × V) (o : Option V) → SameOption eq o (Some pair.1) → SamePair rank eq (Some pair) (pair_of (rank pair.0) o)
  same_pair rank laws pair None s = absurd s
  same_pair rank laws pair (Some x) s = (refl, laws.symm pair.1 x ∙ s)

  module _ {T : Type 0} (rank : T → ℤ) (laws : IsEquivalence eq) where
    -- what taking the least key out leaves
    pub without_first : (popped : Option (T × V)) (old new : CountedEntries V) → IsRangeMap eq low high old.entries
        → MatchOption popped ((old.entries ≡ []) × (new ≡ old)) (λ pair. PopsFirst eq low high (rank pair.0) pair.1 old.entries new.entries)
        → IsWithout eq low high (first_mapped_key low high (at old.entries)) old.entries new.entries
    without_first None old new map m =
        let none : first_mapped_key low high (at old.entries) ≡ None = first_none (at old.entries) low _ (λ k. ap (λ es. at es k) m.0) in
        subst (λ key. IsWithout eq low high key old.entries new.entries) (sym none) (subst (λ s. IsWithout eq low high None old.entries s.entries) (sym m.1) (record {
          range_map = map;
          content = λ k. same_itself eq laws (at old.entries k);
        }))
    without_first (Some pair) old new map m =
        subst (λ key. IsWithout eq low high key old.entries new.entries) (sym (first_key_is low high old.entries (rank pair.0) m.stored map.keys m.first.here m.first.none_below)) (record {
          range_map = m.cut.range_map;
          content = m.cut.content;
        })

    -- the pair that is answered is the least key with its value
    pub first_pair : (popped : Option (T × V)) (old new : CountedEntries V) → IsRangeMap eq low high old.entries
        → MatchOption popped ((old.entries ≡ []) × (new ≡ old)) (λ pair. PopsFirst eq low high (rank pair.0) pair.1 old.entries new.entries)
        → SamePair rank eq popped (key_with_value (at old.entries) (first_mapped_key low high (at old.entries)))
    first_pair None old new map m =
        let none : Option (T × V) = None in
        subst (λ key. SamePair rank eq none (key_with_value (at old.entries) key)) (sym (first_none (at old.entries) low _ (λ k. ap (λ es. at es k) m.0))) tt
    first_pair (Some pair) old new map m =
        subst (λ key. SamePair rank eq (Some pair) (key_with_value (at old.entries) key)) (sym (first_key_is low high old.entries (rank pair.0) m.stored map.keys m.first.here m.first.none_below))
        (same_pair rank laws pair (at old.entries (rank pair.0)) m.equal)

    -- what taking the greatest key out leaves
    pub without_last : (popped : Option (T × V)) (old new : CountedEntries V) → IsRangeMap eq low high old.entries
        → MatchOption popped ((old.entries ≡ []) × (new ≡ old)) (λ pair. PopsLast eq low high (rank pair.0) pair.1 old.entries new.entries)
        → IsWithout eq low high (last_mapped_key low high (at old.entries)) old.entries new.entries
    without_last None old new map m =
        let none : last_mapped_key low high (at old.entries) ≡ None = last_none (at old.entries) high _ (λ k. ap (λ es. at es k) m.0) in
        subst (λ key. IsWithout eq low high key old.entries new.entries) (sym none) (subst (λ s. IsWithout eq low high None old.entries s.entries) (sym m.1) (record {
          range_map = map;
          content = λ k. same_itself eq laws (at old.entries k);
        }))
    without_last (Some pair) old new map m =
        subst (λ key. IsWithout eq low high key old.entries new.entries) (sym (last_key_is low high old.entries (rank pair.0) m.stored map.keys m.last.here m.last.none_above)) (record {
          range_map = m.cut.range_map;
          content = m.cut.content;
        })

    -- the pair that is answered is the greatest key with its value
    pub last_pair : (popped : Option (T × V)) (old new : CountedEntries V) → IsRangeMap eq low high old.entries
        → MatchOption popped ((old.entries ≡ []) × (new ≡ old)) (λ pair. PopsLast eq low high (rank pair.0) pair.1 old.entries new.entries)
        → SamePair rank eq popped (key_with_value (at old.entries) (last_mapped_key low high (at old.entries)))
    last_pair None old new map m =
        let none : Option (T × V) = None in
        subst (λ key. SamePair rank eq none (key_with_value (at old.entries) key)) (sym (last_none (at old.entries) high _ (λ k. ap (λ es. at es k) m.0))) tt
    last_pair (Some pair) old new map m =
        subst (λ key. SamePair rank eq (Some pair) (key_with_value (at old.entries) key)) (sym (last_key_is low high old.entries (rank pair.0) m.stored map.keys m.last.here m.last.none_above))
        (same_pair rank laws pair (at old.entries (rank pair.0)) m.equal)
