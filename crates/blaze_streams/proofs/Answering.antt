-- The results of a closure at the entries of a list so far, and one more result.
use Rattle.blaze_streams.proofs.Words.{⊤, option_or, ◌≡◌, ℤ, pos, ◌+ℤ◌, ◌-ℤ◌, Bool, List, [], ◌∷◌, ◌++◌, Some, length, map, refl, ◌∙◌, sym, ap, subst, append_assoc, arith, FoldsTo, zip, Mut, IsEquivalence, FoldsTo-push, ints, map-append, append-nil, same_along, same_trans, same_or_left, Entry, entry, at, SameOption, IsCanonical, IsRangeMap, AreKeys, glue, IsBelow, are_keys_glue, canonical, one_per_run, canonical_glue, at_glue, below_glue, below_more, at_append, values, entries_with_results, EachValue, AnswersAtValue, SomeCallAtValue, TakesValue, IsCallableAtEachValue, IsTransformed, first_key}
use Rattle.blaze_streams.proofs.Steady.{same_some}

-- the entries of calls, each with its result
abbrev pub asked : {V W : Type 0} → List (Entry V × W) → List (Entry V)
asked calls = map (λ c. c.0) calls

-- an entry with the result instead of its value
abbrev pub with_answer : {V W : Type 0} → Entry V × W → Entry W
with_answer c = entry c.0.lo c.0.hi c.1

-- a fact about each value
pub each_any : {V : Type 0} (es : List (Entry V)) → EachValue (λ _. ⊤) es
each_any [] = tt
each_any (e ∷ es) = (tt, each_any es)

pub each_then : {V : Type 0} (P Q : V → Type 0) → ((v : V) → P v → Q v) → (es : List (Entry V)) → EachValue P es → EachValue Q es
each_then P Q q [] h = tt
each_then P Q q (e ∷ es) h = (q e.value h.0, each_then P Q q es h.1)

pub each_next : {V : Type 0} (P : V → Type 0) (xs es left : List (Entry V)) (e : Entry V) → EachValue P (xs ++ left) → left ≡ e ∷ es → P e.value
each_next P [] es left e h is = (subst (EachValue P) is h).0
each_next P (x ∷ xs) es left e h is = each_next P xs es left e h.1 is

module _ {F A V W : Type 0} (shows : A → V) (g : Mut F A W) where
  -- the calls, one after another
  abbrev pub CallOf : F → Entry V × W → F → Type 0
  CallOf j c k = AnswersAtValue shows g j c.0.value c.1 k

  some_calls : (calls : List (Entry V × W)) (f f' : F) → FoldsTo CallOf f calls f' → FoldsTo (SomeCallAtValue shows g) f (values (asked calls)) f'
  some_calls [] f f' h = h
  some_calls (c ∷ cs) f f' h = (h.0, (c.1, h.1), some_calls cs h.0 f' h.2)

  in_turn : (calls : List (Entry V × W)) (f f' : F) → FoldsTo CallOf f calls f' → FoldsTo (λ j c k. AnswersAtValue shows g j c.0 c.1 k) f (zip (values (asked calls)) (map (λ c. c.1) calls)) f'
  in_turn [] f f' h = h
  in_turn (c ∷ cs) f f' h = (h.0, h.1, in_turn cs h.0 f' h.2)

  many : (calls : List (Entry V × W)) → length (map (λ c. c.1) calls) ≡ length (values (asked calls))
  many [] = refl
  many (c ∷ cs) = omega (arith, many cs)

  made : (calls : List (Entry V × W)) → entries_with_results (asked calls) (map (λ c. c.1) calls) ≡ map with_answer calls
  made [] = refl
  made (c ∷ cs) = ap (λ l. with_answer c ∷ l) (made cs)

  values_append : (xs ys : List (Entry V)) → values (xs ++ ys) ≡ values xs ++ values ys
  values_append xs ys = map-append (λ e. e.value) xs ys

  module _ (eqv : V → V → Bool) (eq : W → W → Bool) (low high : ℤ) (f : F) (all : List (Entry V)) where
    -- the closure was called at the entries before `left`, and the list has its results
    pub record IsAnsweredSoFar (left : List (Entry V)) (f' : F) (out : List (Entry W)) : Type 0 where
      pub calls : List (Entry V × W)
      pub whole : all ≡ asked calls ++ left
      pub turns : FoldsTo CallOf f calls f'
      pub left_is : IsCanonical eqv left
      pub left_keys : AreKeys low high left
      pub canonical : IsCanonical eq out
      pub keys : AreKeys low high out
      pub under : (s : ℤ) → first_key left ≡ Some s → IsBelow s out
      pub content : (k : ℤ) → SameOption eq (at out k) (at (map with_answer calls) k)

    pub answered_none : (laws_v : IsEquivalence eqv) → IsRangeMap eqv low high all → IsAnsweredSoFar all f []
    answered_none laws_v r = record {
      calls = [];
      whole = refl;
      turns = refl;
      left_is = canonical eqv laws_v all r.runs;
      left_keys = r.keys;
      canonical = tt;
      keys = tt;
      under = λ s h. tt;
      content = λ k. tt;
    }

    -- the closure may be called at the next entry
    pub takes_next : IsCallableAtEachValue shows g f (values all) → (left others : List (Entry V)) (e : Entry V) (f' : F) (out : List (Entry W)) → IsAnsweredSoFar left f' out → left ≡ e ∷ others → TakesValue shows g f' e.value
    takes_next may left others e f' out h is =
        may.at (values (asked h.calls)) (values others) e.value f'
        (ap values (h.whole ∙ ap (λ l. asked h.calls ++ l) is) ∙ values_append (asked h.calls) (e ∷ others))
        (some_calls h.calls f f' h.turns)

    module _ (laws : IsEquivalence eq) where
      under_more : (e : Entry V) (w : W) (out : List (Entry W)) (others : List (Entry V)) (s : ℤ) → IsCanonical eqv (e ∷ others) → IsBelow e.lo out → first_key others ≡ Some s → IsBelow s (glue eq out (entry e.lo e.hi w ∷ []))
      under_more e w out [] s c b p = cc
      under_more e w out (d ∷ ds) s c b p =
          let u : d.lo ≡ s = same_some d.lo s p in
          below_glue eq s out (entry e.lo e.hi w ∷ []) (below_more e.lo s out (omega (arith, ints, c.0, c.1.0)) b) (omega (arith, ints, c.1.0), tt)

      -- one more result
      pub answered_more : (left others : List (Entry V)) (e : Entry V) (f' f'' : F) (out new : List (Entry W)) (w : W) (lo hi : ℤ)
          → IsAnsweredSoFar left f' out → left ≡ e ∷ others → AnswersAtValue shows g f' e.value w f'' → lo ≡ e.lo → hi ≡ e.hi → new ≡ glue eq out (entry lo hi w ∷ []) → IsAnsweredSoFar others f'' new
      answered_more left others e f' f'' out new w lo hi h is answer starts ends put =
          let pushed = put ∙ ap (λ z. glue eq out (entry z hi w ∷ [])) starts ∙ ap (λ z. glue eq out (entry e.lo z w ∷ [])) ends in
          let c = subst (IsCanonical eqv) is h.left_is in
          let keys = subst (AreKeys low high) is h.left_keys in
          let below = h.under e.lo (ap first_key is) in
          let piece : List (Entry W) = entry e.lo e.hi w ∷ [] in
          record {
            calls = h.calls ++ (e, w) ∷ [];
            whole = h.whole ∙ ap (λ l. asked h.calls ++ l) is ∙ sym (append_assoc (asked h.calls) (e ∷ []) others) ∙ ap (λ l. l ++ others) (sym (map-append (λ c. c.0) h.calls ((e, w) ∷ [])));
            turns = FoldsTo-push CallOf f h.calls f' (e, w) f'' h.turns answer;
            left_is = c.2;
            left_keys = keys.2;
            canonical = rw pushed (canonical_glue eq laws (e.lo -ℤ pos 1) out piece h.canonical (c.0, tt, tt) (below_more e.lo (e.lo -ℤ pos 1 +ℤ pos 1) out (omega (arith, ints)) below) (omega (arith, ints)));
            keys = rw pushed (are_keys_glue eq low high out piece h.keys (keys.0, keys.1, tt));
            under = λ s p. rw pushed (under_more e w out others s c below p);
            content = λ k. rw (pushed, map-append with_answer h.calls ((e, w) ∷ []), at_append (map with_answer h.calls) (entry e.lo e.hi w ∷ []) k)
                (same_trans eq laws _ (option_or (at out k) (at piece k)) _
                (at_glue eq laws out piece k h.canonical (c.0, tt, tt))
                (same_or_left eq laws (at out k) (at (map with_answer h.calls) k) (at piece k) (h.content k)));
          }

      -- if no entry remains, the closure was called at all of them
      pub answered_all : (left : List (Entry V)) (f' : F) (out : List (Entry W)) → IsAnsweredSoFar left f' out → left ≡ [] → IsTransformed shows g eq low high f all out
      answered_all left f' out h is =
          let entries : all ≡ asked h.calls = h.whole ∙ ap (λ l. asked h.calls ++ l) is ∙ append-nil (asked h.calls) in
          record {
            answers = map (λ c. c.1) h.calls;
            in_turn = record {
              last = f';
              count = many h.calls ∙ ap (λ l. length (values l)) (sym entries);
              calls = subst (λ l. FoldsTo (λ j c k. AnswersAtValue shows g j c.0 c.1 k) f (zip (values l) (map (λ c. c.1) h.calls)) f') (sym entries) (in_turn h.calls f f' h.turns);
            };
            range_map = record { runs = one_per_run eq laws out h.canonical; keys = h.keys };
            content = λ k. same_along eq refl (ap (λ l. at l k) (sym (made h.calls) ∙ ap (λ l. entries_with_results l (map (λ c. c.1) h.calls)) (sym entries))) (h.content k);
          }
