-- A function that was called at pieces, one after another: its answers, and the edits that bring them into a map.
use Rattle.range_map_blaze.proofs.Words.{some_none, AllocError, ◌≡◌, ℤ, pos, ◌+ℤ◌, ◌-ℤ◌, ◌≤ℤ◌, Bool, true, false, cond, List, [], ◌∷◌, ◌++◌, length, map, Option, Some, None, Ok, inl, inr, refl, ◌∙◌, sym, ap, subst, arith, ints, IsEquivalence, options_equiv, Mut, FoldsTo, zip, option_eq, option_or, Result, same_along, same_back, same_itself, same_or_left, same_trans, or_assoc, or_none, IsCanonical, AreKeys, HasEnd, Entry, entry, at, SameEntries, SameOption, glue, IsBelow, are_keys_glue, IsAbove, IsAbove-from_apart, at_append, at_before, at_in, at_over, at_under, by_place, at_glue, below_glue, below_more, canonical_glue, at_past, values, entries_with_results, AnswersAtValue, SomeCallAtValue, option_same, AreEndsOf, ArePiecesAsked, IsPieceAsked, answer_or, changes, AreApartFrom, IsApartFrom}
use Rattle.blaze_entries.proofs.Paints.Splices.{by_join}

-- a piece with its answer in place of what it has
abbrev pub with_answer : {V : Type 0} → Entry (Option V) → Option V → Entry (Option V)
with_answer piece answer = entry piece.lo piece.hi answer

module _ {V : Type 0} (eq : V → V → Bool) (laws : IsEquivalence eq) where
  -- equal answers give equal contents
  pub same_answer : (a b : Option (Option V)) (old : Option V) → SameOption (option_eq eq) a b → SameOption eq (answer_or a old) (answer_or b old)
  same_answer None None old s = same_itself eq laws old
  same_answer None (Some y) old s = absurd s
  same_answer (Some x) None old s = absurd s
  same_answer (Some x) (Some y) old s = option_same eq x y s

  answer_next : (a b : Option (Option V)) (old : Option V) → a ≡ None → answer_or (option_or a b) old ≡ answer_or b old
  answer_next a b old p = ap (λ o. answer_or (option_or o b) old) p

  -- two results that touch with equal values leave an entry alone as one
  apart_joined : (d p e : Entry (Option V)) → e.lo ≤ℤ e.hi → d.lo ≤ℤ d.hi → p.lo ≤ℤ p.hi → p.lo ≡ d.hi +ℤ pos 1 → option_eq eq d.value p.value ≡ true
      → IsApartFrom (option_eq eq) d e → IsApartFrom (option_eq eq) p e → IsApartFrom (option_eq eq) (entry d.lo p.hi d.value) e
  apart_joined d p e w dw pw t v (inl a) (inl b) = inl (record { below = b.below; unequal = λ q. (options_equiv laws).congr d.value p.value e.value v ∙ b.unequal q })
  apart_joined d p e w dw pw t v (inl a) (inr b) = absurd (omega (arith, ints, a.below, b.below))
  apart_joined d p e w dw pw t v (inr a) b = inr (record { below = a.below; unequal = a.unequal })

  -- what an entry is apart from, if it is apart from some edits and from one more
  apart_glue : (e : Entry V) → e.lo ≤ℤ e.hi → (edits : List (Entry (Option V))) (p : Entry (Option V)) → IsCanonical (option_eq eq) edits → p.lo ≤ℤ p.hi
      → AreApartFrom eq edits e → IsApartFrom (option_eq eq) p (entry e.lo e.hi (Some e.value)) → AreApartFrom eq (glue (option_eq eq) edits (p ∷ [])) e
  apart_glue e w [] p c o a b = (b, tt)
  apart_glue e w (d ∷ []) p c o a b = by_join (option_eq eq) d p []
      (λ t v q. rw q (apart_joined d p (entry e.lo e.hi (Some e.value)) w c.0 o t v a.0 b, tt))
      (λ n q. rw q (a.0, (b, tt)))
  apart_glue e w (d ∷ f ∷ fs) p c o a b = (a.0, apart_glue e w (f ∷ fs) p c.2 o a.1 b)

  ends_glue : (answers edits : List (Entry (Option V))) (p : Entry (Option V)) → AreEndsOf answers edits → HasEnd answers p.hi → AreEndsOf answers (glue (option_eq eq) edits (p ∷ []))
  ends_glue answers [] p e h = (h, tt)
  ends_glue answers (d ∷ []) p e h = by_met (is_met d p)
    where
      is_met : Entry (Option V) → Entry (Option V) → Bool
      is_met d p = Rattle.blaze_entries.specs.Splice.is_joinable (option_eq eq) d p

      by_met : (b : Bool) → AreEndsOf answers (cond b (entry d.lo p.hi d.value ∷ []) (d ∷ p ∷ []))
      by_met true = (h, tt)
      by_met false = (e.0, (h, tt))
  ends_glue answers (d ∷ f ∷ fs) p e h = (e.0, ends_glue answers (f ∷ fs) p e.1 h)

-- each piece has what a content has on its keys
abbrev pub Has : {V : Type 0} → (ℤ → Option V) → List (Entry (Option V)) → Type 0
Has {V} content pieces = (k : ℤ) (x : Option V) → at pieces k ≡ Some x → x ≡ content k

module _ {F A V : Type 0} (shows : A → Option V) (g : Mut F A (Result (Option V) AllocError)) (eq : V → V → Bool) where
  -- the pieces of two lists, one list after the other
  pub asked_then : (xs ys : List (Entry (Option V))) (f f' f'' : F) (edits next new : List (Entry (Option V))) → ArePiecesAsked shows g eq xs f f' edits next → ArePiecesAsked shows g eq ys f' f'' next new → ArePiecesAsked shows g eq (xs ++ ys) f f'' edits new
  asked_then [] ys f f' f'' edits next new p q = subst (λ s. ArePiecesAsked shows g eq ys s f'' edits new) p.0 (subst (λ es. ArePiecesAsked shows g eq ys f' f'' es new) p.1 q)
  asked_then (x ∷ xs) ys f f' f'' edits next new p q = (p.0, p.1, p.2, asked_then xs ys p.0 f' f'' p.1 next new p.3 q)

  pub asked_one : (x : Entry (Option V)) (f f' : F) (edits new : List (Entry (Option V))) → IsPieceAsked shows g eq x f f' edits new → ArePiecesAsked shows g eq (x ∷ []) f f' edits new
  asked_one x f f' edits new p = (f', new, p, (refl, refl))

  -- some calls were made
  pub some_calls : (xs : List (Entry (Option V))) (f f' : F) (edits new : List (Entry (Option V))) → ArePiecesAsked shows g eq xs f f' edits new → FoldsTo (SomeCallAtValue shows g) f (values xs) f'
  some_calls [] f f' edits new p = sym p.0
  some_calls (x ∷ xs) f f' edits new p = (p.0, (Ok p.2.answer, p.2.called), some_calls xs p.0 f' p.1 new p.3)

  abbrev oks : List (Option V) → List (Result (Option V) AllocError)
  oks rs = map Ok rs

  -- the answers, in order
  abbrev pub results : (xs : List (Entry (Option V))) (f f' : F) (edits new : List (Entry (Option V))) → ArePiecesAsked shows g eq xs f f' edits new → List (Option V)
  results [] f f' edits new p = []
  results (x ∷ xs) f f' edits new p = p.2.answer ∷ results xs p.0 f' p.1 new p.3

  pub results_count : (xs : List (Entry (Option V))) (f f' : F) (edits new : List (Entry (Option V))) (p : ArePiecesAsked shows g eq xs f f' edits new) → length (oks (results xs f f' edits new p)) ≡ length (values xs)
  results_count [] f f' edits new p = refl
  results_count (x ∷ xs) f f' edits new p = omega (arith, results_count xs p.0 f' p.1 new p.3)

  pub results_turns : (xs : List (Entry (Option V))) (f f' : F) (edits new : List (Entry (Option V))) (p : ArePiecesAsked shows g eq xs f f' edits new)
      → FoldsTo (λ j c k. AnswersAtValue shows g j c.0 c.1 k) f (zip (values xs) (oks (results xs f f' edits new p))) f'
  results_turns [] f f' edits new p = sym p.0
  results_turns (x ∷ xs) f f' edits new p = (p.0, p.2.called, results_turns xs p.0 f' p.1 new p.3)

  -- the pieces with their answers
  abbrev pub answers_at : (xs : List (Entry (Option V))) (f f' : F) (edits new : List (Entry (Option V))) → ArePiecesAsked shows g eq xs f f' edits new → List (Entry (Option V))
  answers_at xs f f' edits new p = entries_with_results xs (results xs f f' edits new p)

  -- where every answer equals what is there, there is no edit
  pub no_edit : (xs : List (Entry (Option V))) (f f' : F) (edits new : List (Entry (Option V))) (p : ArePiecesAsked shows g eq xs f f' edits new) → SameEntries (option_eq eq) (answers_at xs f f' edits new p) xs → new ≡ edits
  no_edit [] f f' edits new p s = p.1
  no_edit (x ∷ xs) f f' edits new p s =
      no_edit xs p.0 f' p.1 new p.3 s.3 ∙ p.2.put ∙ ap (λ b. cond b edits (glue (option_eq eq) edits (with_answer x p.2.answer ∷ []))) s.2

  module _ (laws : IsEquivalence eq) (low high : ℤ) (old : ℤ → Option V) where
    abbrev same : Option V → Option V → Bool
    same = option_eq eq

    -- a list of edits that lie below b
    pub record AreBelow (b : ℤ) (edits : List (Entry (Option V))) : Type 0 where
      pub canonical : IsCanonical same edits
      pub keys : AreKeys low high edits
      pub below : IsBelow b edits

    -- the content of what comes next, by what came before
    abbrev with_rest : List (Entry (Option V)) → List (Entry (Option V)) → ℤ → Option V
    with_rest edits rest k = answer_or (option_or (at edits k) (at rest k)) (old k)

    module _ (x : Entry (Option V)) (w : Option V) (edits rest : List (Entry (Option V))) (a : AreBelow x.lo edits) (order : x.lo ≤ℤ x.hi) (nothing : (k : ℤ) → k ≤ℤ x.hi → at rest k ≡ None) where
      kept : option_eq eq w x.value ≡ true → ((k : ℤ) → x.lo ≤ℤ k → k ≤ℤ x.hi → x.value ≡ old k) → (k : ℤ) → SameOption eq (with_rest edits rest k) (with_rest edits (with_answer x w ∷ rest) k)
      kept h has k = by_place (with_answer x w) k
          (λ l u.
          let free = at_past x.lo k edits a.below l in
          let above = nothing k u in
          same_along eq
          (sym (answer_next eq laws (at edits k) (at rest k) (old k) free ∙ ap (λ o. answer_or o (old k)) above))
          (sym (answer_next eq laws (at edits k) (at (with_answer x w ∷ rest) k) (old k) free ∙ ap (λ o. answer_or o (old k)) (at_in (with_answer x w) rest k l u)))
          (same_back eq laws w (old k) (subst (SameOption eq w) (has k l u) (option_same eq w x.value h))))
          (λ u. off (at_under (with_answer x w) rest k u))
          (λ u. off (at_over (with_answer x w) rest k u))
        where
          off : at (with_answer x w ∷ rest) k ≡ at rest k → SameOption eq (with_rest edits rest k) (with_rest edits (with_answer x w ∷ rest) k)
          off p = same_along eq refl (sym (ap (λ o. answer_or (option_or (at edits k) o) (old k)) p)) (same_itself eq laws (with_rest edits rest k))

      put : (k : ℤ) → SameOption eq (with_rest (glue same edits (with_answer x w ∷ [])) rest k) (with_rest edits (with_answer x w ∷ rest) k)
      put k =
          let one = with_answer x w ∷ [] in
          let all = ap (λ o. option_or (at edits k) o) (sym (at_append one rest k)) in
          same_along eq refl
          (ap (λ o. answer_or o (old k)) (or_assoc (at edits k) (at one k) (at rest k) ∙ all))
          (same_answer eq laws (option_or (at (glue same edits one) k) (at rest k)) (option_or (option_or (at edits k) (at one k)) (at rest k)) (old k)
          (same_or_left same (options_equiv laws) (at (glue same edits one) k) (option_or (at edits k) (at one k)) (at rest k)
          (at_glue same (options_equiv laws) edits one k a.canonical (order, tt, tt))))

      next_below : AreKeys low high (with_answer x w ∷ []) → (b : Bool) → AreBelow (x.hi +ℤ pos 1) (cond b edits (glue same edits (with_answer x w ∷ [])))
      next_below keys true = record { canonical = a.canonical; keys = a.keys; below = below_more x.lo (x.hi +ℤ pos 1) edits (omega (arith, ints, order)) a.below }
      next_below keys false = record {
        canonical = canonical_glue same (options_equiv laws) (x.lo -ℤ pos 1) edits (with_answer x w ∷ []) a.canonical (order, tt, tt) (below_more x.lo (x.lo -ℤ pos 1 +ℤ pos 1) edits (omega (arith, ints)) a.below) (omega (arith, ints));
        keys = are_keys_glue same low high edits (with_answer x w ∷ []) a.keys keys;
        below = below_glue same (x.hi +ℤ pos 1) edits (with_answer x w ∷ []) (below_more x.lo (x.hi +ℤ pos 1) edits (omega (arith, ints, order)) a.below) (omega (arith, ints), tt);
      }

      next_content : ((k : ℤ) → x.lo ≤ℤ k → k ≤ℤ x.hi → x.value ≡ old k) → (b : Bool) → option_eq eq w x.value ≡ b → (k : ℤ) → SameOption eq (with_rest (cond b edits (glue same edits (with_answer x w ∷ []))) rest k) (with_rest edits (with_answer x w ∷ rest) k)
      next_content has true p k = kept p has k
      next_content has false p k = put k

    -- the edits of pieces: what is left of them is known
    pub record AreMade (pieces edits new answers : List (Entry (Option V))) : Type 0 where
      pub canonical : IsCanonical same new
      pub keys : AreKeys low high new
      pub content : (k : ℤ) → SameOption eq (answer_or (at new k) (old k)) (with_rest edits answers k)
      pub ends : (all : List (Entry (Option V))) → AreEndsOf all edits → AreEndsOf all (changes eq pieces answers) → AreEndsOf all new
      pub apart : (e : Entry V) → e.lo ≤ℤ e.hi → AreApartFrom eq edits e → AreApartFrom eq (changes eq pieces answers) e → AreApartFrom eq new e

    none_answered : (xs : List (Entry (Option V))) (rs : List (Option V)) (k : ℤ) → at xs k ≡ None → at (entries_with_results xs rs) k ≡ None
    none_answered [] rs k p = refl
    none_answered (x ∷ xs) [] k p = refl
    none_answered (x ∷ xs) (r ∷ rs) k p = by_place x k
        (λ l u. absurd (some_none (sym (at_in x xs k l u) ∙ p)))
        (λ u. at_under (with_answer x r) (entries_with_results xs rs) k u ∙ none_answered xs rs k (sym (at_under x xs k u) ∙ p))
        (λ u. at_over (with_answer x r) (entries_with_results xs rs) k u ∙ none_answered xs rs k (sym (at_over x xs k u) ∙ p))

    pub made : (xs : List (Entry (Option V))) (b : ℤ) (f f' : F) (edits new : List (Entry (Option V))) (p : ArePiecesAsked shows g eq xs f f' edits new)
        → IsCanonical same xs → AreKeys low high xs → IsAbove (b -ℤ pos 1) xs → Has old xs → AreBelow b edits → AreMade xs edits new (answers_at xs f f' edits new p)
    made [] b f f' edits new p c keys above has a = record {
      canonical = subst (IsCanonical same) (sym p.1) a.canonical;
      keys = subst (AreKeys low high) (sym p.1) a.keys;
      content = λ k. same_along eq (ap (λ es. answer_or (at es k) (old k)) (sym p.1)) (ap (λ o. answer_or o (old k)) (sym (or_none (at edits k)))) (same_itself eq laws (answer_or (at edits k) (old k)));
      ends = λ all e h. subst (AreEndsOf all) (sym p.1) e;
      apart = λ e w u h. subst (λ es. AreApartFrom eq es e) (sym p.1) u;
    }
    made (x ∷ xs) b f f' edits new p c keys above has a =
        let w = p.2.answer in
        let here : AreBelow x.lo edits = record { canonical = a.canonical; keys = a.keys; below = below_more b x.lo edits (omega (arith, ints)) a.below } in
        let rest = answers_at xs p.0 f' p.1 new p.3 in
        let nothing = λ (k : ℤ) (u : k ≤ℤ x.hi). none_answered xs (results xs p.0 f' p.1 new p.3) k (at_before same xs x.hi k c.2 (IsAbove-from_apart same x xs c.1) u) in
        let next = subst (AreBelow (x.hi +ℤ pos 1)) (sym p.2.put) (next_below x w edits rest here c.0 nothing (keys.0, keys.1, tt) (option_eq eq w x.value)) in
        let more = made xs (x.hi +ℤ pos 1) p.0 f' p.1 new p.3 c.2 keys.2 (above_right (IsAbove-from_apart same x xs c.1)) (later has) next in
        record {
          canonical = more.canonical;
          keys = more.keys;
          content = λ k.
              let step = next_content x w edits rest here c.0 nothing (λ j l u. has j x.value (at_in x xs j l u)) (option_eq eq w x.value) refl k in
              same_trans eq laws (answer_or (at new k) (old k)) (with_rest p.1 rest k) (with_rest edits (with_answer x w ∷ rest) k) (more.content k)
              (subst (λ es. SameOption eq (with_rest es rest k) (with_rest edits (with_answer x w ∷ rest) k)) (sym p.2.put) step);
          ends = λ all e h. let next_ends = ends_next all rest_changes (option_eq eq w x.value) e h in more.ends all (subst (AreEndsOf all) (sym p.2.put) next_ends.0) next_ends.1;
          apart = λ e o u h. let next_apart = apart_next e o rest_changes (option_eq eq w x.value) u h in more.apart e o (subst (λ es. AreApartFrom eq es e) (sym p.2.put) next_apart.0) next_apart.1;
        }
      where
        rest_changes : List (Entry (Option V))
        rest_changes = changes eq xs (answers_at xs p.0 f' p.1 new p.3)

        above_right : IsAbove x.hi xs → IsAbove (x.hi +ℤ pos 1 -ℤ pos 1) xs
        above_right u = above_as xs u
          where
            above_as : (ys : List (Entry (Option V))) → IsAbove x.hi ys → IsAbove (x.hi +ℤ pos 1 -ℤ pos 1) ys
            above_as [] u = tt
            above_as (y ∷ ys) u = omega (arith, ints)

        later : Has old (x ∷ xs) → Has old xs
        later has k v q = has k v (by_place x k
            (λ l u. absurd (none_is_not (sym (at_before same xs x.hi k c.2 (IsAbove-from_apart same x xs c.1) u) ∙ q)))
            (λ u. at_under x xs k u ∙ q)
            (λ u. at_over x xs k u ∙ q))
          where
            none_is_not : {X : Type 0} {x : X} → None ≡ Some x → ⊥
            none_is_not p = cc

        ends_next : (all cs : List (Entry (Option V))) (b : Bool) → AreEndsOf all edits → AreEndsOf all (cond b cs (with_answer x p.2.answer ∷ cs)) → AreEndsOf all (cond b edits (glue same edits (with_answer x p.2.answer ∷ []))) × AreEndsOf all cs
        ends_next all cs true e h = (e, h)
        ends_next all cs false e h = (ends_glue eq laws all edits (with_answer x p.2.answer) e h.0, h.1)

        apart_next : (e : Entry V) → e.lo ≤ℤ e.hi → (cs : List (Entry (Option V))) (b : Bool) → AreApartFrom eq edits e → AreApartFrom eq (cond b cs (with_answer x p.2.answer ∷ cs)) e → AreApartFrom eq (cond b edits (glue same edits (with_answer x p.2.answer ∷ []))) e × AreApartFrom eq cs e
        apart_next e o cs true u h = (u, h)
        apart_next e o cs false u h = (apart_glue eq laws e o edits (with_answer x p.2.answer) a.canonical c.0 u h.0, h.1)
