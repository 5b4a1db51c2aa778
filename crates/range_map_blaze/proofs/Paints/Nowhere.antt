-- A paint of no key changes nothing.
use Rattle.range_map_blaze.proofs.Words.{◌≡◌, ℤ, ◌<ℤ◌, Bool, false, ◌&&◌, cond, List, length, Some, sym, subst, ap, arith, int_le, IsEquivalence, ints, same_itself, Entry, at, SameOption, IsRangeMap, IsPainted, painted_content, painted_inside, painted_outside}

pub no_key : (l h k : ℤ) → h <ℤ l → (int_le l k && int_le k h) ≡ false
no_key l h k w = grind (arith, ints)

module _ {V : Type 0} (eq : V → V → Bool) (laws : IsEquivalence eq) where
  pub painted_nowhere : (low high : ℤ) (p : Entry V) (es : List (Entry V)) → p.hi <ℤ p.lo → IsRangeMap eq low high es → IsPainted eq low high p es es
  painted_nowhere low high p es w r = record {
    range_map = r;
    content = content;
    inside = painted_inside eq es es p content;
    outside = painted_outside eq es es p content;
    few = omega arith;
    alone = λ e. omega (arith, ap length e);
    kept = λ e m a. m;
  }
    where
      content : (k : ℤ) → SameOption eq (at es k) (painted_content p.lo p.hi p.value (at es) k)
      content k = subst (λ b. SameOption eq (at es k) (cond b (Some p.value) (at es k))) (sym (no_key p.lo p.hi k w)) (same_itself eq laws (at es k))
