-- Edits made one after another, and what a range map has once they are made, all of them or a first part.
use Rattle.range_map_blaze.proofs.Words.{AllocError, ◌≡◌, ◌⊎◌, ℤ, pos, ◌+ℤ◌, ◌-ℤ◌, ◌≤ℤ◌, ◌<ℤ◌, Bool, cond, List, [], ◌∷◌, ◌++◌, Option, Some, None, Result, Ok, Err, OnOk, OnErr, refl, ◌∙◌, sym, ap, subst, arith, inl, inr, ints, by_lt_z, IsEquivalence, options_equiv, Mut, option_eq, option_or, le_true, le_false, same_along, same_itself, same_trans, or_none, IsCanonical, IsRangeMap, AreKeys, HasEnd, IsRangeCut, Entry, entry, at, holds, SameOption, IsPainted, IsBelow, IsAbove, IsAbove-from_apart, above_low, at_append, at_before, holds_in, holds_under, holds_over, at_in, at_under, at_over, by_place, canonical, one_per_run, ends_below, at_past, AreEdits, AreEdited, AreEndsOf, IsEdited, IsPartEdited, IsUpdatedSomewhere, answer_or, updated, changes, AreApartFrom, IsApartFrom, IsPartUpdated, IsUpdated}
use Rattle.range_map_blaze.proofs.JoinedKeys.{below_all, above_all}
use Rattle.range_map_blaze.proofs.Edits.Given.{answer_at}

module _ {V : Type 0} (eq : V → V → Bool) (laws : IsEquivalence eq) (low high : ℤ) where
  -- ---- one edit

  pub painted_edit : (l h : ℤ) (v : V) (old new : List (Entry V)) → IsPainted eq low high (entry l h v) old new → IsEdited eq low high (entry l h (Some v)) old new
  painted_edit l h v old new p = record { range_map = p.range_map; content = p.content; kept = λ e i u. p.kept e i (inr (inl (apart e u))) }
    where
      apart : (e : Entry V) → IsApartFrom (option_eq eq) (entry l h (Some v)) (entry e.lo e.hi (Some e.value)) → IsApartFrom eq (entry l h v) e
      apart e (inl u) = inl (record { below = u.below; unequal = u.unequal })
      apart e (inr u) = inr (record { below = u.below; unequal = u.unequal })

  cut_edit : (l h : ℤ) (old new : List (Entry V)) → IsRangeCut eq low high l h old new → IsEdited eq low high (entry l h None) old new
  cut_edit l h old new p = record { range_map = p.range_map; content = p.content; kept = λ e i u. p.kept e i (off e u) }
    where
      off : (e : Entry V) → IsApartFrom (option_eq eq) (entry l h None) (entry e.lo e.hi (Some e.value)) → (e.hi <ℤ l) ⊎ (h <ℤ e.lo)
      off e (inl u) = inr u.below
      off e (inr u) = inl u.below

  pub cut_where : {R E : Type 0} (l h : ℤ) (old new : List (Entry V)) (r : Result R E) → OnOk r (IsRangeCut eq low high l h old new) → OnOk r (IsEdited eq low high (entry l h None) old new)
  cut_where l h old new (Ok x) p = cut_edit l h old new p
  cut_where l h old new (Err e) p = tt

  -- ---- one after another

  pub edited_none : (old : List (Entry V)) → IsRangeMap eq low high old → AreEdited eq low high [] old old
  edited_none old r = record { range_map = r; content = λ k. same_itself eq laws (at old k); none = λ p. refl; kept = λ e i u. i }

  pub edited_more : (e : Entry (Option V)) (done rest : List (Entry (Option V))) (old next new : List (Entry V)) → IsCanonical (option_eq eq) (done ++ e ∷ rest) → AreEdited eq low high done old next → IsEdited eq low high e next new → AreEdited eq low high (done ++ e ∷ []) old new
  edited_more e done rest old next new c prior s = record {
    range_map = s.range_map;
    content = λ k.
        same_trans eq laws (at new k) (cond (holds e k) e.value (at next k)) (updated (done ++ e ∷ []) (at old) k) (s.content k)
        (subst (λ o. SameOption eq (cond (holds e k) e.value (at next k)) (answer_or o (at old k))) (sym (at_append done (e ∷ []) k))
        (by_place e k
        (λ l u. same_along eq
        (sym (ap (λ b. cond b e.value (at next k)) (holds_in e k l u)))
        (sym (ap (λ o. answer_or (option_or o (at (e ∷ []) k)) (at old k)) (at_past e.lo k done (ends_below (option_eq eq) done e rest c) l) ∙ ap (λ o. answer_or o (at old k)) (at_in e [] k l u)))
        (same_itself eq laws e.value))
        (λ u. off k (holds_under e k u) (at_under e [] k u))
        (λ u. off k (holds_over e k u) (at_over e [] k u))));
    none = λ p. absurd (some_left done p);
    kept = λ d i u. let parts = apart d done u in s.kept d (prior.kept d i parts.0) parts.1;
  }
    where
      apart : (d : Entry V) (xs : List (Entry (Option V))) → AreApartFrom eq (xs ++ e ∷ []) d → AreApartFrom eq xs d × IsApartFrom (option_eq eq) e (entry d.lo d.hi (Some d.value))
      apart d [] u = (tt, u.0)
      apart d (x ∷ xs) u = let more = apart d xs u.1 in ((u.0, more.0), more.1)

      off : (k : ℤ) → holds e k ≡ Bool.false → at (e ∷ []) k ≡ None → SameOption eq (cond (holds e k) e.value (at next k)) (answer_or (option_or (at done k) (at (e ∷ []) k)) (at old k))
      off k p q = same_along eq
          (sym (ap (λ b. cond b e.value (at next k)) p))
          (sym (ap (λ o. answer_or (option_or (at done k) o) (at old k)) q ∙ ap (λ o. answer_or o (at old k)) (or_none (at done k))))
          (prior.content k)

      some_left : (xs : List (Entry (Option V))) → xs ++ e ∷ [] ≡ [] → ⊥
      some_left [] p = cc
      some_left (x ∷ xs) p = cc

  -- ---- a first part

  -- where a first part of a list of edits ends: at the end of one of them, or below l where it has none
  record HasLast (l : ℤ) (done rest : List (Entry (Option V))) : Type 0 where
    pub last : ℤ
    pub is_end : (answers : List (Entry (Option V))) → AreEndsOf answers done → (last <ℤ l) ⊎ HasEnd answers last
    pub below : IsBelow (last +ℤ pos 1) done
    pub above : IsAbove last rest

  last_of : (l h : ℤ) (done rest : List (Entry (Option V))) → IsCanonical (option_eq eq) (done ++ rest) → AreKeys l h (done ++ rest) → HasLast l done rest
  last_of l h [] rest c keys = record { last = l -ℤ pos 1; is_end = λ answers e. inl (omega (arith, ints)); below = tt; above = above_low l h rest keys }
  last_of l h (e ∷ []) rest c keys = record { last = e.hi; is_end = λ answers i. inr i.0; below = (omega (arith, ints), tt); above = IsAbove-from_apart (option_eq eq) e rest c.1 }
  last_of l h (e ∷ f ∷ fs) rest c keys =
      let more = last_of l h (f ∷ fs) rest c.2 keys.2 in
      record { last = more.last; is_end = λ answers i. more.is_end answers i.1; below = (omega (arith, ints, more.below.0, c.1.0, c.2.0), more.below); above = more.above }

  canonical_rest : (done rest : List (Entry (Option V))) → IsCanonical (option_eq eq) (done ++ rest) → IsCanonical (option_eq eq) rest
  canonical_rest [] rest c = c
  canonical_rest (e ∷ done) rest c = canonical_rest done rest c.2

  keys_wider : (l h : ℤ) (es : List (Entry (Option V))) → low ≤ℤ l → h ≤ℤ high → AreKeys l h es → AreKeys low high es
  keys_wider l h [] u v k = tt
  keys_wider l h (e ∷ es) u v k = (omega (arith, ints, k.0), omega (arith, ints, k.1), keys_wider l h es u v k.2)

  -- edits on the keys from l to h are edits among all keys
  pub edits_wider : (l h : ℤ) (edits : List (Entry (Option V))) → low ≤ℤ l → h ≤ℤ high → IsRangeMap (option_eq eq) l h edits → IsRangeMap (option_eq eq) low high edits
  edits_wider l h edits u v r = record { runs = r.runs; keys = keys_wider l h edits u v r.keys }

  -- a key outside the range keeps its value, since no edit has it
  outside_edits : (l h k : ℤ) (edits : List (Entry (Option V))) (old new : List (Entry V)) → AreKeys l h edits → (k <ℤ l) ⊎ (h <ℤ k) → SameOption eq (at new k) (updated edits (at old) k) → SameOption eq (at new k) (at old k)
  outside_edits l h k edits old new keys (inl u) s = same_along eq refl (ap (λ o. answer_or o (at old k)) (below_all l h edits k keys u)) s
  outside_edits l h k edits old new keys (inr u) s = same_along eq refl (ap (λ o. answer_or o (at old k)) (above_all l h edits k keys u)) s

  keys_first : (l h : ℤ) (done rest : List (Entry (Option V))) → AreKeys l h (done ++ rest) → AreKeys l h done
  keys_first l h [] rest k = tt
  keys_first l h (d ∷ done) rest k = (k.0, k.1, keys_first l h done rest k.2)

  -- ---- what a map has once a function's answers are brought into it

  module _ {F A : Type 0} (shows : A → Option V) (g : Mut F A (Result (Option V) AllocError)) (l h : ℤ) (f : F) (old new : List (Entry V)) (edits : List (Entry (Option V))) (a : AreEdits shows g eq l h f old edits) where
    pub all_updated : AreEdited eq low high edits old new → IsUpdated shows g eq low high l h f old new
    all_updated d = record {
      answers = a.answers;
      asked = a.asked;
      range_map = d.range_map;
      content = λ k. same_trans eq laws (at new k) (updated edits (at old) k) (updated a.answers (at old) k) (d.content k) (a.content k);
      inside = λ k u v value gives. same_along eq refl (ap (λ o. answer_or o (at old k)) (answer_at shows g eq l h f old a.answers a.asked k u v value gives))
          (same_trans eq laws (at new k) (updated edits (at old) k) (updated a.answers (at old) k) (d.content k) (a.content k));
      outside = λ k u. outside_edits l h k edits old new a.range_map.keys u (d.content k);
      kept = λ e i u. d.kept e i (a.apart e i u);
      same = λ s. d.none (a.same s);
    }

    pub part_updated : IsPartEdited eq low high edits old new → IsPartUpdated shows g eq low high l h f old new
    part_updated p =
        let c = subst (IsCanonical (option_eq eq)) p.parts (canonical (option_eq eq) (options_equiv laws) edits a.range_map.runs) in
        let last = last_of l h p.done p.rest c (subst (AreKeys l h) p.parts a.range_map.keys) in
        record {
          answers = a.answers;
          asked = a.asked;
          last = last.last;
          is_end = last.is_end (changes eq a.asked.pieces a.answers) (ends_of p.done p.rest (subst (AreEndsOf (changes eq a.asked.pieces a.answers)) p.parts a.ends));
          range_map = p.edited.range_map;
          outside = λ k u. outside_edits l h k p.done old new (keys_first l h p.done p.rest (subst (AreKeys l h) p.parts a.range_map.keys)) u (p.edited.content k);
          kept = λ e i u. p.edited.kept e i (apart_first p.done p.rest e (subst (λ es. AreApartFrom eq es e) p.parts (a.apart e i u)));
          content = λ k. by_lt_z last.last k
              (λ u.
              let free = at_past (last.last +ℤ pos 1) k p.done last.below (omega (arith, ints)) in
              same_along eq refl
              (ap (λ o. answer_or o (at old k)) free ∙ sym (ap (λ b. cond b (updated a.answers (at old) k) (at old k)) (le_false k last.last u)))
              (p.edited.content k))
              (λ u.
              let rest = at_before (option_eq eq) p.rest last.last k (canonical_rest p.done p.rest c) last.above u in
              let all = ap (λ es. at es k) p.parts ∙ at_append p.done p.rest k ∙ ap (option_or (at p.done k)) rest ∙ or_none (at p.done k) in
              same_along eq refl
              (sym (ap (λ b. cond b (updated a.answers (at old) k) (at old k)) (le_true k last.last u)))
              (same_trans eq laws (at new k) (updated edits (at old) k) (updated a.answers (at old) k)
              (same_along eq refl (ap (λ o. answer_or o (at old k)) (sym all)) (p.edited.content k))
              (a.content k)));
        }
      where
        apart_first : (done rest : List (Entry (Option V))) (e : Entry V) → AreApartFrom eq (done ++ rest) e → AreApartFrom eq done e
        apart_first [] rest e u = tt
        apart_first (d ∷ done) rest e u = (u.0, apart_first done rest e u.1)

        ends_of : (done rest : List (Entry (Option V))) → AreEndsOf (changes eq a.asked.pieces a.answers) (done ++ rest) → AreEndsOf (changes eq a.asked.pieces a.answers) done
        ends_of [] rest e = tt
        ends_of (d ∷ done) rest e = (e.0, ends_of done rest e.1)

    -- the same of a call that may fail
    pub updated_where : {R E : Type 0} (r : Result R E) → OnOk r (AreEdited eq low high edits old new) → OnOk r (IsUpdated shows g eq low high l h f old new)
    updated_where (Ok x) d = all_updated d
    updated_where (Err e) d = tt

    pub part_where : {R E : Type 0} (r : Result R E) → OnErr r (IsPartEdited eq low high edits old new) → OnErr r ((new ≡ old) ⊎ IsPartUpdated shows g eq low high l h f old new)
    part_where (Ok x) d = tt
    part_where (Err e) d = inr (part_updated d)

  module _ {F A : Type 0} (shows : A → Option V) (g : Mut F A (Result (Option V) AllocError)) (f : F) where
    -- a range without a key has no piece, and nothing is changed
    pub updated_nowhere : (l h : ℤ) (old : List (Entry V)) → h <ℤ l → IsRangeMap eq low high old → IsUpdated shows g eq low high l h f old old
    updated_nowhere l h old w r = record {
      answers = [];
      asked = record {
        pieces = [];
        are_pieces = record { range_map = record { runs = one_per_run (option_eq eq) (options_equiv laws) [] tt; keys = tt }; content = λ k u v. absurd (omega (arith, ints)) };
        results = [];
        in_turn = record { last = f; count = refl; calls = refl };
        answers_are = refl;
      };
      range_map = r;
      content = λ k. same_itself eq laws (at old k);
      inside = λ k u v value gives. absurd (omega (arith, ints));
      outside = λ k u. same_itself eq laws (at old k);
      kept = λ e i u. i;
      same = λ s. refl;
    }

    -- what is known of a range whose bounds are not known
    pub updated_somewhere : {R E : Type 0} (r : Result R E) (l h : ℤ) (old new : List (Entry V)) → OnOk r (IsUpdated shows g eq low high l h f old new)
        → OnErr r ((new ≡ old) ⊎ IsPartUpdated shows g eq low high l h f old new) → IsUpdatedSomewhere shows g eq low high f old new
    updated_somewhere (Ok x) l h old new u p = inr (l, h, inl u)
    updated_somewhere (Err e) l h old new u (inl p) = inl p
    updated_somewhere (Err e) l h old new u (inr p) = inr (l, h, inr p)
