-- One more part of a sweep.
use Rattle.blaze_table.proofs.Words.{option_or, ◌≡◌, ℤ, pos, ◌+ℤ◌, ◌-ℤ◌, ◌≤ℤ◌, ◌<ℤ◌, Bool, List, [], ◌∷◌, Option, Some, None, refl, ◌∙◌, sym, ap, subst, arith, IsEquivalence, ints, by_lt_z, same_along, same_trans, or_none, none_or, Entry, entry, at, SameOption, glue, IsBelow, IsBare, IsSwept, are_keys_glue, at_in, at_under, at_over, canonical_glue, at_glue, below_glue, below_more}

pub at_past : {V : Type 0} (b k : ℤ) (es : List (Entry V)) → IsBelow b es → b ≤ℤ k → at es k ≡ None
at_past b k [] h l = refl
at_past b k (e ∷ es) h l = at_over e es k (omega (arith, ints, h.0)) ∙ at_past b k es h.1 l

module _ {V : Type 0} (eq : V → V → Bool) (laws : IsEquivalence eq) (low high : ℤ) (wanted : ℤ → Option V) where
  -- no value below the key
  pub swept_none : (a : ℤ) → ((k : ℤ) → k <ℤ a → wanted k ≡ None) → IsSwept eq low high wanted a []
  swept_none a bare = record {
    canonical = tt;
    keys = tt;
    below = tt;
    content = λ k l. same_along eq {a = None} {b = None} refl (sym (bare k l)) tt;
  }

  -- no value from a to below b
  pub swept_gap : (a b : ℤ) (out : List (Entry V)) → a ≤ℤ b → IsBare wanted a b → IsSwept eq low high wanted a out → IsSwept eq low high wanted b out
  swept_gap a b out w bare c = record {
    canonical = c.canonical;
    keys = c.keys;
    below = below_more a b out w c.below;
    content = λ k l. by_lt_z k a (c.content k) (λ h. same_along eq {a = None} {b = None} (sym (at_past a k out c.below h)) (sym (bare k h l)) tt);
  }

  -- one value from a to t
  pub swept_piece : (a t : ℤ) (v : V) (out : List (Entry V)) → a ≤ℤ t → low ≤ℤ a → t ≤ℤ high → ((k : ℤ) → a ≤ℤ k → k ≤ℤ t → SameOption eq (Some v) (wanted k)) → IsSwept eq low high wanted a out
      → IsSwept eq low high wanted (t +ℤ pos 1) (glue eq out (entry a t v ∷ []))
  swept_piece a t v out w f u some c =
      let e = entry a t v in
      record {
        canonical = canonical_glue eq laws (a -ℤ pos 1) out (e ∷ []) c.canonical (w, tt, tt) (below_more a (a -ℤ pos 1 +ℤ pos 1) out (omega (arith, ints)) c.below) (omega (arith, ints));
        keys = are_keys_glue eq low high out (e ∷ []) c.keys (f, u, tt);
        below = below_glue eq (t +ℤ pos 1) out (e ∷ []) (below_more a (t +ℤ pos 1) out (omega (arith, ints)) c.below) (omega (arith, ints), tt);
        content = λ k l. same_trans eq laws (at (glue eq out (e ∷ [])) k) (option_or (at out k) (at (e ∷ []) k)) (wanted k) (at_glue eq laws out (e ∷ []) k c.canonical (w, tt, tt))
            (by_lt_z k a
            (λ h. same_along eq (sym (ap (option_or (at out k)) (at_under e [] k h) ∙ or_none (at out k))) refl (c.content k h))
            (λ h. same_along eq {a = Some v} {b = wanted k} (sym (ap (λ o. option_or o (at (e ∷ []) k)) (at_past a k out c.below h) ∙ none_or (at (e ∷ []) k) ∙ at_in e [] k h (omega (arith, ints)))) refl (some k h (omega (arith, ints)))));
      }

  -- no value from a to below b, and one value from b to t
  pub swept_more : (a b t : ℤ) (v : V) (out new : List (Entry V)) → a ≤ℤ b → IsBare wanted a b → b ≤ℤ t → low ≤ℤ b → t ≤ℤ high → ((k : ℤ) → b ≤ℤ k → k ≤ℤ t → SameOption eq (Some v) (wanted k))
      → new ≡ glue eq out (entry b t v ∷ []) → IsSwept eq low high wanted a out → IsSwept eq low high wanted (t +ℤ pos 1) new
  swept_more a b t v out new w bare o f u some is c = subst (IsSwept eq low high wanted (t +ℤ pos 1)) (sym is) (swept_piece b t v out o f u some (swept_gap a b out w bare c))
