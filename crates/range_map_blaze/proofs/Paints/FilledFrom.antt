-- One map's entries filled into the gaps of another.
use Rattle.range_map_blaze.proofs.Words.{option_or, ◌≡◌, ℤ, pos, ◌-ℤ◌, ◌<ℤ◌, Bool, true, false, cond, List, [], ◌∷◌, ◌++◌, Option, Some, None, refl, ◌∙◌, sym, ap, subst, arith, inr, Result, Ok, Err, OnOk, IsSome, IsEquivalence, Contains, ints, same_along, same_back, same_itself, same_trans, same_or, or_none, or_assoc, Entry, entry, at, holds, SameOption, IsCanonical, IsRangeMap, filled_content, fill_inside, fill_held, fill_outside, IsFilled, chosen, above_low, at_append, canonical, start_along, unique, run_start_as, all_kept, are_kept, kept_further, value_in, over_in, IsFilledFrom, FillingIsUnion, IsFilledSomewhere, IsUnion}
use Rattle.blaze_entries.specs.Canonical.{IsRunStart}
use Rattle.range_map_blaze.proofs.Paints.Nowhere.{no_key}
use Rattle.range_map_blaze.proofs.Paints.PaintedOver.{turned}
use Rattle.range_map_blaze.proofs.Unions.{union_of}

-- an entry that is filled in is filled in somewhere
pub filled_somewhere : {V A E : Type 0} (eq : V → V → Bool) (low high : ℤ) (r : Result A E) (p : Entry V) (es old new : List (Entry V)) → es ≡ old
    → OnOk r (IsFilled eq low high p es new) → OnOk r (IsFilledSomewhere eq low high p.value old new)
filled_somewhere eq low high (Ok x) p es old new same f = inr (p.lo, p.hi, subst (λ l. IsFilled eq low high p l new) same f)
filled_somewhere eq low high (Err e) p es old new same f = tt

module _ {V : Type 0} (eq : V → V → Bool) (laws : IsEquivalence eq) (low high : ℤ) where
  -- filling no key changes nothing
  pub filled_nowhere : (p : Entry V) (es : List (Entry V)) → p.hi <ℤ p.lo → IsRangeMap eq low high es → IsFilled eq low high p es es
  filled_nowhere p es w r = record {
    range_map = r;
    content = content;
    inside = fill_inside eq p es es content;
    held = fill_held eq p es es content;
    outside = fill_outside eq p es es content;
    kept = all_kept eq (filled_content p.lo p.hi p.value (at es)) es;
  }
    where
      content : (k : ℤ) → SameOption eq (at es k) (filled_content p.lo p.hi p.value (at es) k)
      content k = same_along eq {a = at es k} refl (sym (ap (λ b. option_or (at es k) (cond b (Some p.value) None)) (no_key p.lo p.hi k w) ∙ or_none (at es k))) (same_itself eq laws (at es k))

  grown : (a b c d : Option V) → SameOption eq a b → IsSome b → SameOption eq (option_or a c) (option_or b d)
  grown (Some x) (Some y) c d s i = s
  grown None (Some y) c d s i = absurd s
  grown a None c d s i = cc

  -- where more keys have values, a run that starts at a value that was there has started there before
  start_before : (content more : ℤ → Option V) (k : ℤ) → IsSome (content k) → IsRunStart eq (λ j. option_or (content j) (more j)) k → IsRunStart eq content k
  unfolding IsRunStart
  start_before content more k i s = (i, λ q. s.1 (grown (content (k -ℤ pos 1)) (content k) (more (k -ℤ pos 1)) (more k) q i))

  module _ (old : List (Entry V)) where
    pub filled_from_none : IsRangeMap eq low high old → IsFilledFrom eq low high [] old old
    filled_from_none r = record {
      range_map = r;
      content = λ k. same_along eq {a = at old k} refl (sym (or_none (at old k))) (same_itself eq laws (at old k));
      kept = all_kept eq (λ k. option_or (at old k) (at [] k)) old;
    }

    -- one entry more, with an equal value
    pub filled_from_more : (e : Entry V) (w : V) (done cur new : List (Entry V)) → IsRangeMap eq low high old → IsFilledFrom eq low high done old cur → IsFilled eq low high (entry e.lo e.hi w) cur new → eq e.value w ≡ true → IsFilledFrom eq low high (done ++ e ∷ []) old new
    filled_from_more e w done cur new r u f like = record {
      range_map = f.range_map;
      content = content;
      kept = are_kept eq laws all old new d (canonical eq laws new f.range_map.runs) content
          (λ x c s.
          let k = u.kept.starts x c (start_before from (at (e ∷ [])) x.lo (had x c) (start_along eq laws all (λ j. option_or (from j) (at (e ∷ []) j)) x.lo (sym (parts x.lo)) (sym (parts (x.lo -ℤ pos 1))) s)) in
          kept_further new x k.0 k.1 (f.kept.starts (entry x.lo k.0 x.value) k.2 (run_start_as eq laws all (filled_content e.lo e.hi w (at cur)) x.lo one s)));
    }
      where
        from : ℤ → Option V
        from j = option_or (at old j) (at done j)

        all : ℤ → Option V
        all j = option_or (at old j) (at (done ++ e ∷ []) j)

        d : IsCanonical eq old
        d = canonical eq laws old r.runs

        had : (x : Entry V) → Contains old x → IsSome (from x.lo)
        had x c = subst (λ o. IsSome (option_or o (at done x.lo))) (sym (value_in eq old x x.lo d c (omega (arith, ints)) (over_in eq (low -ℤ pos 1) old x (above_low low high old r.keys) d c).1)) refl

        parts : (j : ℤ) → option_or (from j) (at (e ∷ []) j) ≡ all j
        parts j = or_assoc (at old j) (at done j) (at (e ∷ []) j) ∙ ap (option_or (at old j)) (sym (at_append done (e ∷ []) j))

        either : (b : Bool) → SameOption eq (cond b (Some w) None) (cond b (Some e.value) None)
        either true = laws.symm w e.value ∙ like
        either false = tt

        one : (j : ℤ) → SameOption eq (filled_content e.lo e.hi w (at cur) j) (all j)
        one j = same_along eq {a = filled_content e.lo e.hi w (at cur) j} refl (parts j)
            (same_or eq (at cur j) (from j) (cond (holds e j) (Some w) None) (at (e ∷ []) j) (u.content j) (either (holds e j)))

        content : (j : ℤ) → SameOption eq (at new j) (all j)
        content j = same_trans eq laws (at new j) (filled_content e.lo e.hi w (at cur) j) (all j) (f.content j) (one j)

    -- all entries of a range map: its union with the old list over it
    pub union_under : (left new : List (Entry V)) → IsRangeMap eq low high left → IsRangeMap eq low high old → IsFilledFrom eq low high left old new → IsUnion eq low high left old new
    union_under left new l r u = union_of eq laws low high left old new l r (chosen u.range_map (λ k. same_along eq {a = at new k} refl (turned (at old k) (at left k)) (u.content k)))

  -- the content that filling gives is that of the union, and a canonical list is the only one with its content
  pub filling_is_union : FillingIsUnion eq low high
  filling_is_union other old new union f u =
      unique eq laws new union (canonical eq laws new f.range_map.runs) (canonical eq laws union u.chosen.range_map.runs)
      (λ k. same_trans eq laws (at new k) (option_or (at old k) (at other k)) (at union k) (f.content k) (same_back eq laws (at union k) _ (u.chosen.content k)))
