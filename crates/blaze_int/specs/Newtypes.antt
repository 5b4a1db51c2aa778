-- Key types that are built from other key types.
use Rattle.std.specs.Prelude.{◌≡◌, ◌≤ℤ◌, ℤ, Bool}
use Rattle.std.specs.declared.cmp.Ordering.{Ordering}
use Rattle.std.proofs.Common.{ap, ◌∙◌, arith}
use Rattle.std.proofs.lemmas.Int.{ints}
use Rattle.blaze_int.specs.Ranked.{IsRanked}

module _ {K : Type 0} {rank : K → ℤ} {of_rank : ℤ → K} {low high : ℤ} {cmp : K → K → Ordering} {eq : K → K → Bool} where
  -- A newtype. `inner` and `outer` map its values one to one to the keys of a key type, and both types compare alike.
  -- So the newtype is a key type with the ranks of the inner type.
  pub ranked-along : {N : Type 0} {cmp_n : N → N → Ordering} {eq_n : N → N → Bool} (inner : N → K) (outer : K → N)
      → IsRanked rank of_rank low high cmp eq
      → ((n : N) → outer (inner n) ≡ n) → ((k : K) → low ≤ℤ rank k → rank k ≤ℤ high → inner (outer k) ≡ k)
      → ((a b : N) → cmp_n a b ≡ cmp (inner a) (inner b)) → ((a b : N) → eq_n a b ≡ eq (inner a) (inner b))
      → IsRanked (λ n. rank (inner n)) (λ z. outer (of_rank z)) low high cmp_n eq_n
  ranked-along inner outer laws back forth compared equated = record {
    some_key = laws.some_key;
    one_key = λ n l h. ap outer (laws.one_key (inner n) l h) ∙ back n;
    has_key = λ z l h.
        let there = laws.has_key z l h in
        ap rank (forth (of_rank z) (rw there l) (rw there h)) ∙ there;
    order = λ a b al ah bl bh. compared a b ∙ laws.order (inner a) (inner b) al ah bl bh;
    equal = λ a b al ah bl bh. rw (equated a b) (laws.equal (inner a) (inner b) al ah bl bh);
  }

  -- A part of a key type. Its keys are the keys of the type with a rank from `from` to `to`.
  pub ranked-within : (from to : ℤ) → IsRanked rank of_rank low high cmp eq → low ≤ℤ from → from ≤ℤ to → to ≤ℤ high
      → IsRanked rank of_rank from to cmp eq
  ranked-within from to laws l f h = record {
    some_key = f;
    one_key = λ k kl kh. laws.one_key k (omega (arith, ints)) (omega (arith, ints));
    has_key = λ z zl zh. laws.has_key z (omega (arith, ints)) (omega (arith, ints));
    order = λ a b al ah bl bh. laws.order a b (omega (arith, ints)) (omega (arith, ints)) (omega (arith, ints)) (omega (arith, ints));
    equal = λ a b al ah bl bh. laws.equal a b (omega (arith, ints)) (omega (arith, ints)) (omega (arith, ints)) (omega (arith, ints));
  }
